use Rattle.std.proofs.Common.{ℕ, sym, subst}
use Rattle.ca_model.specs.World.{World}
use Rattle.ca_world.specs.Waiting.{Receives}
use Rattle.ca_world_data.specs.Logs.{lines_in}
use Rattle.ca_world_data.specs.Opening.{entries_in}
use Rattle.ca_world_data.proofs.Worlds.{ends-here, no-ends-here}
use Rattle.ca_world.proofs.Waits.{none-receives, receives-down, receives-up}
use Rattle.ca_world.proofs.stopped.Stopped.receives.Goals as goal

pub returns-in_default : goal.returns-in_default
returns-in_default c =
    let w = c.self.inside in
    let k : ℕ = c.args.circuit in
    let none = no-ends-here w.clients.items w.servers.items w.circuits.items c.deref.result.now c.deref-2.result.now c.deref-3.result.now k c.deref.ensures.value c.deref-2.ensures.value c.deref-3.ensures.value c.in_default.ensures in (
      λ never. absurd cc,
      λ can.
          absurd
          (none-receives w.clients.items w.servers.items w.circuits.items (lines_in w.client_logs.items) (entries_in w.server_logs.items) w.moment k none c.args.way
          (subst (λ (v : World). Receives v k c.args.way) (sym c.self.view_is) can)),
    )

pub returns-in-Up : goal.returns-in-Up
returns-in-Up c =
    let w = c.self.inside in
    let k : ℕ = c.args.circuit in
    let a = ends-here w.clients.items w.servers.items w.circuits.items c.deref.result.now c.deref-2.result.now c.deref-3.result.now k c.in-Some.ends c.deref.ensures.value c.deref-2.ensures.value c.deref-3.ensures.value c.in-Some.ensures in
    receives-up w.clients.items w.servers.items w.circuits.items (lines_in w.client_logs.items) (entries_in w.server_logs.items) w.moment k c.in-Some.ends a c.args.self.now c.args.way c.self.view_is c.in-Up.is

pub returns-in-Down : goal.returns-in-Down
returns-in-Down c =
    let w = c.self.inside in
    let k : ℕ = c.args.circuit in
    let a = ends-here w.clients.items w.servers.items w.circuits.items c.deref.result.now c.deref-2.result.now c.deref-3.result.now k c.in-Some.ends c.deref.ensures.value c.deref-2.ensures.value c.deref-3.ensures.value c.in-Some.ensures in
    receives-down w.clients.items w.servers.items w.circuits.items (lines_in w.client_logs.items) (entries_in w.server_logs.items) w.moment k c.in-Some.ends a c.args.self.now c.args.way c.self.view_is c.in-Down.is
