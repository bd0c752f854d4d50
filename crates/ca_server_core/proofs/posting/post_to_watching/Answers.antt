use Rattle.std.proofs.Common.{◌≡◌, ℕ, ◌+◌, ◌-◌, ◌<◌, List, length, slice_get, refl, sym, ap, ◌∙◌, subst, arith}
use Rattle.std.specs.Prelude.{option_map}
use Rattle.std.specs.Arc.{arc_value}
use Rattle.ca_records.specs.Puts.{Record}
use Rattle.ca_records.specs.Record.{RecordState}
use Rattle.ca_records.specs.Store.{records_of}
use Rattle.ca_text.specs.Place.{At}
use Rattle.ca_text.proofs.Places.{At-within}
use Rattle.ca_server_watchers.specs.Watching.{AreApart, Watched, watching}
use Rattle.ca_server_subscriptions.specs.Sharing.{IsCopy}
use Rattle.ca_server_circuit.specs.Posting.{stored_of}
use Rattle.ca_server_core.specs.Covering.{AreListed, Covers}
use Rattle.ca_server_core.specs.Reaching.{ReachesNext}
use Rattle.ca_server_core.proofs.Idle.{none-last}
use Rattle.ca_server_core.proofs.Listed.{listed-walked}
use Rattle.ca_server_core.proofs.Reached.{there-is, walk-begins, walk-ends, walk-next}
use Rattle.ca_server_core.proofs.posting.post_to_watching.Goals as goal

pub returns-in_default-clause-reaches : goal.returns-in_default-clause-reaches
returns-in_default-clause-reaches c =
    let r = c.at.result.now in
    let w = c.args.watchers.now in
    let named : c.name.result.now ≡ r.state.name = c.name.ensures ∙ ap (λ (x : RecordState). x.name) c.state.ensures in
    let k = length (watching w r.state.name) in
    let none : k ≡ 0 =
    none-last (watching w r.state.name) c.last.new.before (c.last.ensures.before ∙ ap (λ (n : List ℕ). length (watching w n) - 1) named)
    (ap (λ (n : List ℕ). slice_get (watching w n) c.last.new.before) (sym named) ∙ sym c.in_default.ensures.last) in
    walk-ends c.args.place c.args.mask w c.args.circuits.now c.args.records.now k w c.args.circuits.now c.args.records.now none c.requires.covered
    (walk-begins c.args.place c.args.mask k w c.args.circuits.now c.args.records.now r c.at.ensures.at
    (subst (λ (n : List ℕ). AreApart (watching w n)) named c.last.ensures.apart) refl c.requires.sound c.requires.covered)

pub returns-in_default-clause-covered : goal.returns-in_default-clause-covered
returns-in_default-clause-covered c = subst (λ (v : Watched). Covers v c.args.circuits.now) (sym c.last.ensures.stays) c.requires.covered

pub returns-in_default-clause-listed : goal.returns-in_default-clause-listed
returns-in_default-clause-listed c = subst (λ (v : Watched). AreListed (records_of c.args.records.now) v) (sym c.last.ensures.stays) c.requires.listed

pub post_to_this-requires-clause-listed : goal.post_to_this-requires-clause-listed
post_to_this-requires-clause-listed c =
    let named : c.name.result.now ≡ c.at.result.now.state.name = c.name.ensures ∙ ap (λ (x : RecordState). x.name) c.state.ensures in (
      c.at.result.now,
      c.at.ensures.at,
      subst (λ (v : Watched). At (watching v c.at.result.now.state.name) c.last.new.before c.in-Some.circuit) (sym c.last.ensures.stays)
          (subst (λ (n : List ℕ). At (watching c.args.watchers.now n) c.last.new.before c.in-Some.circuit) named (sym c.in-Some.ensures.last)),
    )

pub posting-init : goal.posting-init
posting-init c =
    let r = c.at.result.now in
    let w = c.args.watchers.now in
    let named : c.name.result.now ≡ r.state.name = c.name.ensures ∙ ap (λ (x : RecordState). x.name) c.state.ensures in
    let k = length (watching w r.state.name) in
    let last : c.last.new.before ≡ k - 1 = c.last.ensures.before ∙ ap (λ (n : List ℕ). length (watching w n) - 1) named in
    let at : At (watching w r.state.name) c.last.new.before c.in-Some.circuit = subst (λ (n : List ℕ). At (watching w n) c.last.new.before c.in-Some.circuit) named (sym c.in-Some.ensures.last) in
    let within = At-within (watching w r.state.name) c.last.new.before c.in-Some.circuit at in
    let one : c.last.new.before + 1 ≡ k = omega (arith, last, within) in
    let did =
    subst (λ (v : Watched). ReachesNext c.args.place c.args.mask c.last.new.before v c.args.circuits.now c.args.records.now c.post_to_this.new.watchers c.post_to_this.new.circuits c.post_to_this.new.records) c.last.ensures.stays
    c.post_to_this.ensures in
    walk-next c.args.place c.args.mask w c.args.circuits.now c.args.records.now k w c.args.circuits.now c.args.records.now
    (walk-begins c.args.place c.args.mask k w c.args.circuits.now c.args.records.now r c.at.ensures.at
    (subst (λ (n : List ℕ). AreApart (watching w n)) named c.last.ensures.apart) refl c.requires.sound c.requires.covered)
    c.last.new.before one c.post_to_this.new.watchers c.post_to_this.new.circuits c.post_to_this.new.records did

pub post_to_one-requires-clause-copy : goal.post_to_one-requires-clause-copy
post_to_one-requires-clause-copy c =
    let i = c.posting.invariant in
    let d = c.share_on-shared.ensures in
    let one = there-is c.args.records.now c.args.place d.0 i.r d.1 i.at in
    (i.here.0, i.here.1, subst (λ (x : RecordState). IsCopy (stored_of x) (option_map arc_value c.share_on-shared.result)) (ap (λ (x : Record). x.state) one ∙ sym i.here.2) d.2)

pub posting-preserved : goal.posting-preserved
posting-preserved c =
    let lt : 0 < c.posting.left = c.posting-test.true in
    walk-next c.args.place c.args.mask c.args.watchers.now c.args.circuits.now c.args.records.now c.posting.left c.posting.watchers c.posting.circuits c.posting.records c.posting.invariant (c.posting.left - 1) (omega (arith, lt))
    c.post_to_one.new.watchers c.post_to_one.new.circuits c.post_to_one.new.records c.post_to_one.ensures

pub returns-clause-reaches : goal.returns-clause-reaches
returns-clause-reaches c =
    let none = c.posting-test.false in
    walk-ends c.args.place c.args.mask c.args.watchers.now c.args.circuits.now c.args.records.now c.posting.left c.posting.watchers c.posting.circuits c.posting.records (omega (arith, none)) c.requires.covered c.posting.invariant

pub returns-clause-listed : goal.returns-clause-listed
returns-clause-listed c =
    listed-walked c.args.place c.args.mask c.args.watchers.now c.args.circuits.now c.args.records.now c.posting.left c.posting.watchers c.posting.circuits c.posting.records c.posting.invariant c.requires.listed
