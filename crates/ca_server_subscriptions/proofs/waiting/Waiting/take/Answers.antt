use Rattle.std.proofs.Common.{◌≡◌, List, true, false, sym, ◌∙◌, subst}
use Rattle.std.proofs.lemmas.Bool.{eq-eqb, eqb-true, both_ways}
use Rattle.ca_queue.specs.Queue.{Queue}
use Rattle.ca_model.specs.Speech.{Stored}
use Rattle.ca_server_subscriptions.specs.Owing.{AreSwitched}
use Rattle.ca_server_subscriptions.proofs.Changes.{off-takes}
use Rattle.ca_server_subscriptions.proofs.Owing.{none-left, none-owed, none-taken, on-owed, on-taken, owed-len, some-next}
use Rattle.ca_server_subscriptions.proofs.Placing.{in-err}
use Rattle.ca_server_subscriptions.proofs.waiting.Waiting.take.Goals.{else-not-is_empty-via-then-not-is_empty+else-not-self, else-not-is_empty-via-else-not-is_empty}
use Rattle.ca_server_subscriptions.proofs.waiting.Waiting.take.Goals as goal

pub returns-then-not-self-clause-ok : goal.returns-then-not-self-clause-ok
returns-then-not-self-clause-ok c =
    let i = c.self.inside in
    off-takes i.events_on i.empty i.owed.items i.update i.queues c.args.self.now c.self.invariant c.if-not-self.true
    (λ none. both_ways _ (sym c.if-not-is_empty.ensures) (eq-eqb _ 0 (i.owed.ok.0 ∙ owed-len i.owed.items none))) c.self.view_is

pub returns-in_err-settle-clause-some : goal.returns-in_err-settle-clause-some
returns-in_err-settle-clause-some c =
    let i = c.self.inside in
    let some = c.in_err-settle.ensures.some in
    let on : i.events_on ≡ true = elim c.else-not-is_empty.branch [
      | else-not-is_empty-via-then-not-is_empty+else-not-self w ↦ w.if-not-self.false
      | else-not-is_empty-via-else-not-is_empty w ↦ absurd (some (none-left i.owed.items _ i.owed.ok.0 (eqb-true _ 0 (sym c.is_empty.ensures ∙ w.if-not-is_empty.false))))
    ] in
    in-err c.from_residual.result (some-next i.events_on i.empty i.owed.items i.update i.queues c.args.self.now c.self.invariant on some c.self.view_is)

pub invariant_of-self-in-Some-1 : goal.invariant_of-self-in-Some-1
invariant_of-self-in-Some-1 c =
    let i = c.self.inside in
    none-owed i.events_on false c.settle.new.owed.items c.take.new.self c.in_ok-settle.ensures.owed
    (on-taken i.events_on c.take.result c.settle.new.queues c.take.new.self c.take.ensures
    (subst (λ (qs : List (Queue Stored)). AreSwitched i.events_on qs) (sym c.in_ok-settle.ensures.queues) (on-owed i.events_on i.owed.items i.update i.queues c.self.invariant.switched)))
    (λ e. absurd cc)

pub invariant_of-self-in_default : goal.invariant_of-self-in_default
invariant_of-self-in_default c =
    let i = c.self.inside in
    let were = subst (λ (qs : List (Queue Stored)). AreSwitched i.events_on qs) (sym c.in_ok-settle.ensures.queues) (on-owed i.events_on i.owed.items i.update i.queues c.self.invariant.switched) in
    none-owed i.events_on i.events_on c.settle.new.owed.items c.take.new.self c.in_ok-settle.ensures.owed
    (on-taken i.events_on c.take.result c.settle.new.queues c.take.new.self c.take.ensures were)
    (λ e. none-taken i.events_on c.settle.new.queues c.take.new.self were c.in_default.ensures e)
