use Rattle.std.proofs.Common.{◌∙◌, ◌+◌, ◌≤◌, ℕ, List, [], ap, arith, length, rules, subst, sym}
use Rattle.std.proofs.lemmas.List.{drop_all}
use Rattle.ca_arena.specs.declared.handle.Handle.{Handle}
use Rattle.ca_model.specs.Client.{ClientCircuit}
use Rattle.ca_client_tables.specs.Receiving.{HalfParts, Parts}
use Rattle.ca_client_tables.specs.declared.foretelling.Creation.{Creation}
use Rattle.ca_client_tables.specs.declared.receiving.Received.{Received}
use Rattle.ca_client_tables.proofs.Arrivals.{begun}
use Rattle.ca_client_tables.proofs.Noticed.{SoNoted, so-noted-more, so-noted-none, so-noted-opens, so-noted-refused}
use Rattle.ca_client_tables.proofs.noting.receive_all.Goals as goal

pub loop-index-init : goal.loop-index-init
loop-index-init c =
    let first : Parts = record { channels = c.args.channels.now; circuits = c.args.circuits.now; order = c.args.order.now.items; beacons = c.args.beacons.now } in (
      subst (λ (es : List (Handle × ClientCircuit)). SoNoted (begun first) (record (begun first) { opening = es }) c.args.from c.args.messages.now 0 c.reserve.new.self.items c.reserve-2.new.self.items) (sym c.new-opening.ensures.items)
          (subst (λ (cs : List Creation). SoNoted (begun first) (begun first) c.args.from c.args.messages.now 0 c.reserve.new.self.items cs) (sym (c.reserve-2.ensures.items ∙ c.new-sent.ensures.items))
          (subst (λ (ds : List Received). SoNoted (begun first) (begun first) c.args.from c.args.messages.now 0 ds []) (sym (c.reserve.ensures.items ∙ c.new-done.ensures.items)) (so-noted-none (begun first) c.args.from c.args.messages.now tt))),
      c.reserve.ensures.len ∙ c.new-done.ensures.len,
      omega (arith, c.in_ok-reserve.ensures.ok),
      omega (arith, c.in_ok-reserve-2.ensures.ok),
    )

pub loop-index-preserved : goal.loop-index-preserved
loop-index-preserved c =
    let first : Parts = record { channels = c.args.channels.now; circuits = c.args.circuits.now; order = c.args.order.now.items; beacons = c.args.beacons.now } in
    let now : HalfParts = record { channels = c.loop-index.channels; circuits = c.loop-index.circuits; opening = c.loop-index.opening.items; order = c.loop-index.order.items; beacons = c.loop-index.beacons } in
    let next : HalfParts = record { channels = c.receive_noting.new.channels; circuits = c.receive_noting.new.circuits; opening = c.receive_noting.new.opening.items; order = c.receive_noting.new.order.items; beacons = c.receive_noting.new.beacons } in
    let ms = c.args.messages.now in
    let i = c.loop-index.index in (
      subst (λ (ds : List Received). SoNoted (begun first) next c.args.from ms (i + 1) ds c.receive_noting.new.sent.items) (sym c.push_reserved.ensures.items)
          (so-noted-more (begun first) now next c.args.from ms i c.index-messages-index.result c.loop-index.done.items c.in-Ok.received c.loop-index.sent.items c.receive_noting.new.sent.items c.loop-index-test.true c.index-messages-index.is c.in-Ok.ensures.notes c.in-Ok.ensures.opening c.loop-index.invariant.0),
      c.push_reserved.ensures.len ∙ ap (λ (n : ℕ). n + 1) c.loop-index.invariant.1,
      subst (λ (n : ℕ). length ms ≤ n) (sym c.push_reserved.ensures.capacity) c.loop-index.invariant.2,
      subst (λ (n : ℕ). length ms ≤ n) (sym c.receive_noting.ensures.capacity) c.loop-index.invariant.3,
    )

pub returns : goal.returns
returns c =
    let first : Parts = record { channels = c.args.channels.now; circuits = c.args.circuits.now; order = c.args.order.now.items; beacons = c.args.beacons.now } in
    let now : HalfParts = record { channels = c.loop-index.channels; circuits = c.loop-index.circuits; opening = c.loop-index.opening.items; order = c.loop-index.order.items; beacons = c.loop-index.beacons } in
    let over = drop_all c.loop-index.index c.args.messages.now (omega (arith, c.loop-index-test.false)) in
    let new : Parts = record { channels = c.open_or_undo.new.channels; circuits = c.open_or_undo.new.circuits; order = c.open_or_undo.new.order.items; beacons = c.open_or_undo.new.beacons } in
    (so-noted-opens first now c.args.from c.args.messages.now c.loop-index.index c.loop-index.done c.in_ok-done.done c.loop-index.sent.items new over c.loop-index.invariant.0 c.in_ok-done.ensures, search rules)

pub returns-in_err-done : goal.returns-in_err-done
returns-in_err-done c =
    let first : Parts = record { channels = c.args.channels.now; circuits = c.args.circuits.now; order = c.args.order.now.items; beacons = c.args.beacons.now } in
    let now : HalfParts = record { channels = c.loop-index.channels; circuits = c.loop-index.circuits; opening = c.loop-index.opening.items; order = c.loop-index.order.items; beacons = c.loop-index.beacons } in
    let new : Parts = record { channels = c.open_or_undo.new.channels; circuits = c.open_or_undo.new.circuits; order = c.open_or_undo.new.order.items; beacons = c.open_or_undo.new.beacons } in
    so-noted-refused first now c.args.from c.args.messages.now c.loop-index.index c.loop-index.done c.in_err-done.field-0.0 c.loop-index.sent.items new c.from_residual-in_err-done.result c.from_residual-in_err-done.ensures.0 c.loop-index.invariant.0 c.in_err-done.ensures
