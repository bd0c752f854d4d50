use Rattle.std.proofs.Common.{◌≡◌, ◌≤◌, length, vec_len}
use Rattle.std.specs.Vec.{vec_capacity}
use Rattle.ca_client_tables.specs.Receiving.{HalfParts, Parts}
use Rattle.ca_client_tables.proofs.Arrivals.{begun}
use Rattle.ca_client_tables.proofs.Noticed.{SoNoted}
use Rattle.ca_client_tables.proofs.noting.receive_all.Given as goal

-- those before this one had their effects, and there is room for what is to be noted
abbrev pub invariant-loop-index : goal.invariant-loop-index
invariant-loop-index l =
    let first : Parts = record { channels = l.initial.channels; circuits = l.initial.circuits; order = l.initial.order.items; beacons = l.initial.beacons } in
    let now : HalfParts = record { channels = l.channels; circuits = l.circuits; opening = l.opening.items; order = l.order.items; beacons = l.beacons } in
    SoNoted (begun first) now l.from l.messages l.index l.done.items l.sent.items × (vec_len l.done ≡ l.index) × (length l.messages ≤ vec_capacity l.done) × (length l.messages ≤ vec_capacity l.sent)
