use Rattle.std.proofs.Common.{◌∙◌, List, ap, sym}
use Rattle.ca_client_tables.specs.Receiving.{HalfParts, all_undone}
use Rattle.ca_client_tables.specs.declared.receiving.Received.{Received}
use Rattle.ca_client_tables.proofs.Arrivals.{undone-last}
use Rattle.ca_client_tables.proofs.undoing.undo_all.Goals as goal

pub loop-received-preserved : goal.loop-received-preserved
loop-received-preserved c =
    let was : HalfParts = record { channels = c.loop-received.channels; circuits = c.loop-received.circuits; opening = c.loop-received.opening.items; order = c.loop-received.order.items; beacons = c.loop-received.beacons } in
    let left = c.pop.new.self.items in
    ap (all_undone left) c.undo.ensures
    ∙ sym (undone-last left c.in-Some.received was)
    ∙ ap (λ (ds : List Received). all_undone ds was) (sym c.in-Some.ensures.items)
    ∙ c.loop-received.invariant
