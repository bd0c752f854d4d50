use Rattle.std.proofs.Common.{◌≡◌, vec_len}
use Rattle.ca_client_tables.specs.Receiving.{HalfParts, all_undone}
use Rattle.ca_client_tables.proofs.undoing.undo_all.Given as goal

abbrev pub invariant-loop-received : goal.invariant-loop-received
invariant-loop-received l =
    let first : HalfParts = record { channels = l.initial.channels; circuits = l.initial.circuits; opening = l.initial.opening.items; order = l.initial.order.items; beacons = l.initial.beacons } in
    let now : HalfParts = record { channels = l.channels; circuits = l.circuits; opening = l.opening.items; order = l.order.items; beacons = l.beacons } in
    all_undone l.done.items now ≡ all_undone l.initial.done.items first

abbrev pub decreases-loop-received : goal.decreases-loop-received
decreases-loop-received l = vec_len l.done
