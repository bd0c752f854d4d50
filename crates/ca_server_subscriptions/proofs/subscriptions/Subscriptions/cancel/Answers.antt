use Rattle.std.proofs.Common.{List, ℕ, refl, sym, ◌∙◌, subst}
use Rattle.ca_server_subscriptions.proofs.Channels.{channels-less}
use Rattle.std.proofs.lemmas.Slice.Eq.{bytes_eq-Decides}
use Rattle.ca_server_subscriptions.proofs.Orders.{key-at}
use Rattle.ca_server_subscriptions.proofs.Placing.{cancels-none, cancels-one, found-at, placed-cancelled, removed-is}
use Rattle.ca_server_subscriptions.specs.ByRecord.{Drops}
use Rattle.ca_server_subscriptions.proofs.Receivers.{askable-left, lines-less, none-only_one}
use Rattle.ca_server_subscriptions.proofs.subscriptions.Subscriptions.cancel.Goals as goal

pub returns-in_default : goal.returns-in_default
returns-in_default c =
    cancels-none c.self.inside.standing.entries c.self.inside.queues c.self.invariant.0 c.args.key c.args.self.now c.self.view_is (sym c.in_default.ensures.value)

pub take_out-requires : goal.take_out-requires
take_out-requires c =
    let name = c.name.result.now in
    record {
      name = name;
      line = c.self.invariant.1 name;
      entry = (c.in-Some.field-0-1.now, c.in-Some.standing.now);
      at = c.in-Some.ensures.entry;
      on = (bytes_eq-Decides c.in-Some.standing.now.0.name name).1 (sym c.name.ensures);
      apart = c.self.invariant.0.apart;
    }

pub cancel-requires : goal.cancel-requires
cancel-requires c =
    found-at c.self.inside.standing.entries c.self.inside.queues c.self.invariant.0 c.args.key c.in-Some.standing.now c.queue-queue.result (sym c.in-Some.ensures.value) c.queue-queue.ensures

pub invariant_of-self : goal.invariant_of-self
invariant_of-self c =
    let es = c.self.inside.standing.entries in
    let qs = c.self.inside.queues in
    let has = found-at es qs c.self.invariant.0 c.args.key c.in-Some.standing.now c.queue-queue.result (sym c.in-Some.ensures.value) c.queue-queue.ensures in
    let left = c.shift_remove.ensures.entries ∙ removed-is c.args.key es c.self.invariant.0.apart in (
      rw (c.cancel.ensures, c.shift_remove.ensures.entries, removed-is c.args.key es c.self.invariant.0.apart)
          (placed-cancelled es qs c.self.invariant.0 c.queue-queue.result c.args.key has),
      lines-less c.self.inside.by_record c.take_out.new.self es c.shift_remove.new.self.entries c.in-Some.standing.now.0.name c.args.key c.in-Some.standing.now c.self.invariant.0.apart (sym c.in-Some.ensures.value) refl left
          (subst (λ (name : List ℕ). Drops name c.args.key c.self.inside.by_record c.take_out.new.self) c.name.ensures (c.take_out.ensures.goes c.args.key (key-at c.args.key es c.in-Some.place c.in-Some.ensures.index))) c.self.invariant.1,
      none-only_one c.shift_remove.new.self.entries,
      askable-left c.args.key es c.shift_remove.new.self.entries left c.self.invariant.3,
      channels-less c.self.inside.by_channel es c.self.invariant.4 c.take_out-2.new.self c.shift_remove.new.self.entries c.args.key left c.take_out-2.ensures.goes,
    )

pub returns : goal.returns
returns c =
    cancels-one c.self.inside.standing.entries c.self.inside.queues c.self.invariant.0 c.args.key c.args.self.now c.shift_remove.new.self.entries c.cancel.new.self
    c.self.view_is c.shift_remove.ensures.entries c.cancel.ensures

pub take_out-requires-2-clause-here : goal.take_out-requires-2-clause-here
take_out-requires-2-clause-here c = key-at c.args.key c.self.inside.standing.entries c.in-Some.place c.in-Some.ensures.index

pub take_out-requires-2-clause-lines : goal.take_out-requires-2-clause-lines
take_out-requires-2-clause-lines c = c.self.invariant.4
