use Rattle.std.proofs.Common.{◌≡◌, ◌≢◌, ◌<◌, ◌≤◌, ◌⊎◌, ℕ, rules, subst, sym}
use Rattle.ca_dbr.specs.Elements.{base_of, count_of, elements}
use Rattle.ca_dbr.specs.Held.{display_of, displayed_by}
use Rattle.ca_display.proofs.Holdings.{count_of-shown}
use Rattle.ca_records.proofs.Placings.{placed-held, placed-kind, placed-other}
use Rattle.ca_records.proofs.record.Record.check_post.Goals as goal

pub returns-then-ne-clause-err : goal.returns-then-ne-clause-err
returns-then-ne-clause-err c =
    let h = c.self.inside.held in
    let other : base_of (elements c.args.value.now) ≢ base_of h = search rules in
    rw (← c.self.view_is) (placed-other h c.args.value.now other)

pub returns-then-present-eq0-clause-err : goal.returns-then-present-eq0-clause-err
returns-then-present-eq0-clause-err c =
    let h = c.self.inside.held in
    let e = elements c.args.value.now in
    let based : base_of e ≡ base_of h = search rules in
    let count : (count_of e ≡ 0) ⊎ (c.self.inside.count < count_of e) = search rules in
    rw (← c.self.view_is) (placed-kind h c.args.value.now based, subst (λ (n : ℕ). (n ≡ 0) ⊎ (c.self.inside.count < n)) (sym (count_of-shown (display_of h) e)) count)

pub returns-clause-ok : goal.returns-clause-ok
returns-clause-ok c =
    let h = c.self.inside.held in
    let e = elements c.args.value.now in
    let based : base_of e ≡ base_of h = search rules in
    let one : 0 < count_of e = search rules in
    let within : count_of e ≤ c.self.inside.count = search rules in
    let counted : count_of e ≡ count_of (displayed_by (display_of h) e) = sym (count_of-shown (display_of h) e) in
    rw (← c.self.view_is) (record {
      holds = record { one = subst (λ (n : ℕ). 0 < n) counted one; within = subst (λ (n : ℕ). n ≤ c.self.inside.count) counted within; limit = c.self.invariant.value.limit };
      valued = placed-held _ c.self.invariant e c.know.ensures.valued;
      based = placed-kind h c.args.value.now based;
    })
