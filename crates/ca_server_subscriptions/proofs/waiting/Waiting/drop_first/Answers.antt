use Rattle.std.proofs.Common.{None, false, sym, ◌∙◌}
use Rattle.std.proofs.lemmas.Bool.{both_ways, eq-eqb, eqb-true}
use Rattle.ca_server_subscriptions.proofs.Changes.{off-takes}
use Rattle.ca_server_subscriptions.proofs.Owing.{front-loses, front-rest, none-left, none-owed, on-taken, owed-len}
use Rattle.ca_server_subscriptions.proofs.waiting.Waiting.drop_first.Goals as goal

pub invariant_of-self : goal.invariant_of-self
invariant_of-self c =
    let i = c.self.inside in
    let none = none-left i.owed.items _ i.owed.ok.0 (eqb-true _ 0 (sym c.if-is_empty.ensures)) in
    none-owed i.events_on false i.owed.items c.take.new.self none (on-taken i.events_on c.take.result i.queues c.take.new.self c.take.ensures c.self.invariant.switched) (λ e. absurd cc)

pub invariant_of-self-then-self : goal.invariant_of-self-then-self
invariant_of-self-then-self c =
    let i = c.self.inside in
    front-rest i.events_on i.empty c.pop_front.result i.owed.items c.pop_front.new.self.items i.queues c.self.invariant c.pop_front.ensures.items

pub returns-then-self : goal.returns-then-self
returns-then-self c =
    let i = c.self.inside in
    front-loses _ _ i.events_on i.empty c.pop_front.result i.owed.items c.pop_front.new.self.items i.update i.queues c.args.self.now c.self.invariant c.if-self.true c.pop_front.ensures.items c.pop_front.ensures.cases
    (λ none. both_ways _ (sym c.if-is_empty.ensures) (eq-eqb _ 0 none.0)) c.self.view_is

pub returns-else-self : goal.returns-else-self
returns-else-self c =
    let i = c.self.inside in
    (None, off-takes i.events_on i.empty i.owed.items i.update i.queues c.args.self.now c.self.invariant c.if-self.false (λ none. both_ways _ (sym c.if-is_empty.ensures) (eq-eqb _ 0 (i.owed.ok.0 ∙ owed-len i.owed.items none))) c.self.view_is)
