use Rattle.std.proofs.Common.{◌≡◌, ◌∙◌, List, [], None, Option, Some, ap, drop, refl, sym, subst, arith}
use Rattle.std.proofs.lemmas.List.{drop_all}
use Rattle.ca_arena.specs.declared.handle.Handle.{Handle}
use Rattle.ca_client_core.specs.declared.notice.Notice.{Notice as Said}
use Rattle.ca_client_core.specs.Notices.{TakesCompletion, completions, noticed, as_notices}
use Rattle.ca_client_core.proofs.Completing.{other-none, takes-last, takes-none}
use Rattle.ca_client_core.proofs.notices.Notices.next_completed.Goals as goal

pub returns-in_default : goal.returns-in_default
returns-in_default c =
    let i = c.self.inside in
    let qs : List Handle = drop i.disconnected_told i.disconnected.items in
    let hs : List Handle = drop i.lost_told i.lost.items in
    let none : [] ≡ qs = sym (drop_all i.disconnected_told i.disconnected.items (omega (arith, c.if-told-len.false))) in
    subst (λ (l : Option Said). TakesCompletion c.args.self.now None (as_notices qs hs l)) (sym c.in_default.ensures.value ∙ sym c.in_default.ensures.after)
    (takes-none qs hs i.last c.args.self.now none c.self.view_is (subst (λ (l : Option Said). completions (noticed l) ≡ []) c.in_default.ensures.value refl))

pub returns-in-Ok : goal.returns-in-Ok
returns-in-Ok c =
    let i = c.self.inside in
    let qs : List Handle = drop i.disconnected_told i.disconnected.items in
    let hs : List Handle = drop i.lost_told i.lost.items in
    let none : [] ≡ qs = sym (drop_all i.disconnected_told i.disconnected.items (omega (arith, c.if-told-len.false))) in
    subst (λ (l : Option Said). TakesCompletion c.args.self.now (Some c.in-Ok.completion) (as_notices qs hs l)) (sym c.in-Some.ensures.after)
    (takes-last qs hs c.in-Some.last c.in-Ok.completion c.args.self.now none (ap (λ (l : Option Said). as_notices qs hs l) c.in-Some.ensures.value ∙ c.self.view_is) c.in-Ok.ensures)

pub returns-in-Err : goal.returns-in-Err
returns-in-Err c =
    let i = c.self.inside in
    let qs : List Handle = drop i.disconnected_told i.disconnected.items in
    let hs : List Handle = drop i.lost_told i.lost.items in
    let none : [] ≡ qs = sym (drop_all i.disconnected_told i.disconnected.items (omega (arith, c.if-told-len.false))) in
    let back : Some c.insert.result.now ≡ i.last = ap (λ (n : Said). Some n) (c.insert.ensures.value ∙ c.in-Err.ensures.0) ∙ c.in-Some.ensures.value in
    subst (λ (l : Option Said). TakesCompletion c.args.self.now None (as_notices qs hs l)) (sym back)
    (takes-none qs hs i.last c.args.self.now none c.self.view_is (subst (λ (l : Option Said). completions (noticed l) ≡ []) c.in-Some.ensures.value (other-none c.in-Some.last c.in-Err.ensures.1)))
