use Rattle.std.proofs.Common.{◌≡◌, ◌∙◌, [], List, None, Some, ap, sym}
use Rattle.std.proofs.lemmas.Bool.{both_ways, eq-eqb, eqb-true}
use Rattle.ca_queue.specs.Circuit.{entry_in}
use Rattle.ca_queue.specs.Queue.{Queue}
use Rattle.ca_model.specs.Speech.{Stored}
use Rattle.ca_server_subscriptions.proofs.Owing.{none-left, owed-len, view-none}
use Rattle.ca_server_subscriptions.proofs.Waits.{owed-entry}
use Rattle.ca_server_subscriptions.specs.declared.waiting.Addressee.{Addressee}
use Rattle.ca_server_subscriptions.proofs.waiting.Waiting.entry.Goals as goal
use Rattle.ca_server_subscriptions.proofs.waiting.Waiting.entry.Goals.{After-owed_in}

pub returns-then-is_empty : goal.returns-then-is_empty
returns-then-is_empty c =
    let i = c.self.inside in
    let none = none-left i.owed.items _ i.owed.ok.0 (eqb-true _ 0 (sym c.if-is_empty.ensures)) in
    c.entry.ensures ∙ ap (λ (qs : List (Queue Stored)). entry_in qs c.args.place c.args.index) (view-none i.owed.items i.update i.queues c.args.self.now c.self.view_is none)

some : (c : After-owed_in) → (let none : List Addressee = [] in c.self.inside.owed.items ≡ none) → ⊥
some c none = (let i = c.self.inside in both_ways _ (sym c.if-is_empty.ensures) (eq-eqb _ 0 (i.owed.ok.0 ∙ owed-len i.owed.items none)))

pub returns-in_err-key : goal.returns-in_err-key
returns-in_err-key c =
    let i = c.self.inside in
    rw c.from_residual.ensures
    (owed-entry i.events_on i.empty i.owed.items i.update i.queues c.args.self.now c.self.invariant (some (goal.at.returns-in_err-key c).After-owed_in) c.self.view_is c.args.place c.args.index None c.in_err-key.ensures)

pub returns : goal.returns
returns c =
    let i = c.self.inside in
    owed-entry i.events_on i.empty i.owed.items i.update i.queues c.args.self.now c.self.invariant (some (goal.at.returns c).After-owed_in) c.self.view_is c.args.place c.args.index (Some c.in_ok-key.key) c.in_ok-key.ensures
