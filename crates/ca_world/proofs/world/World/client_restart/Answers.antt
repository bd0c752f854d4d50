use Rattle.std.proofs.Common.{◌≡◌, ℕ, ◌<◌, length, List, arith, ap, refl, subst, ◌∙◌, Vec, Global}
use Rattle.std.specs.Prelude.{map, slice_set}
use Rattle.ca_text.specs.Place.{At}
use Rattle.ca_text.proofs.Places.{At-map}
use Rattle.ca_model.specs.Ends.{Address}
use Rattle.ca_model.specs.Events.{ClientRestart}
use Rattle.ca_model.specs.Runs.{CanBe}
use Rattle.ca_model.specs.World.{World}
use Rattle.ca_world_data.specs.declared.client.ClientSide.{ClientSide}
use Rattle.ca_world_data.specs.declared.history.LogEntry.{LogEntry}
use Rattle.ca_world_data.specs.declared.history.Line.{Line}
use Rattle.ca_world_data.specs.declared.joined.Joined.{Joined}
use Rattle.ca_world_data.specs.declared.server.ServerSide.{ServerSide}
use Rattle.ca_world_data.specs.Does.{Does}
use Rattle.ca_world_data.specs.Indexed.{server_numbers}
use Rattle.ca_world_data.specs.Logs.{lines_in}
use Rattle.ca_world_data.specs.Opening.{entries_in}
use Rattle.ca_world_data.specs.Restarts.{address_of}
use Rattle.ca_world_data.specs.Seen.{client_of}
use Rattle.ca_world.proofs.Lasting.{all-stand}
use Rattle.ca_world_data.proofs.Restarting.{client-indexed, client-restarts}
use Rattle.ca_world_data.proofs.Worlds.{found, one-at, world_of}
use Rattle.ca_world.proofs.world.World.client_restart.Goals as goal

pub returns-in_default : goal.returns-in_default
returns-in_default c =
    let cs : List ClientSide = c.self.inside.clients.items in
    let one = one-at cs c.args.client (omega (arith, c.if-client-len.false, c.len.ensures)) in
    subst (λ (v : World). CanBe v (ClientRestart c.args.client) × (v ≡ v)) c.self.view_is (record { x = client_of one.0; at = At-map client_of cs c.args.client one.0 one.1 }, refl)

pub returns : goal.returns
returns c =
    let w = c.self.inside in
    let cs : List ClientSide = w.clients.items in
    let ss : List ServerSide = w.servers.items in
    let ks : List Joined = w.circuits.items in
    let cl : List (Vec Line Global) = w.client_logs.items in
    let sl : List (Vec LogEntry Global) = w.server_logs.items in
    let i : ℕ = c.args.client in
    let x : ClientSide = c.index_mut.result.now in
    let within : i < length cs = omega (arith, c.if-client-len.false, c.len.ensures) in
    let at : At cs i x = found cs i x x within c.index_mut.ensures.value in
    let servers : List Address = c.deref-2.result.now in
    let known : servers ≡ map address_of ss = c.deref-2.ensures.value ∙ c.in-Ok.ensures ∙ ap (map address_of) c.deref.ensures.value in
    let x' : ClientSide = c.restart_client.new.side in
    let cl' : List (Vec Line Global) = c.restart_client.new.logs.items in
    let ks' : List Joined = c.restart_client.new.circuits.items in
    let d = client-restarts cs ss ks cl sl w.moment i x x' servers cl' ks' c.restart_client.result at known c.restart_client.ensures in
    subst (λ (z : World). Does z (ClientRestart i) c.restart_client.result (world_of (slice_set cs i x') ss ks' (lines_in cl') (entries_in sl) w.moment)) c.self.view_is d

pub invariant_of-self : goal.invariant_of-self
invariant_of-self c =
    let w = c.self.inside in
    let cs : List ClientSide = w.clients.items in
    let ss : List ServerSide = w.servers.items in
    let ks : List Joined = w.circuits.items in
    let cl : List (Vec Line Global) = w.client_logs.items in
    let sl : List (Vec LogEntry Global) = w.server_logs.items in
    let i : ℕ = c.args.client in
    let x : ClientSide = c.index_mut.result.now in
    let within : i < length cs = omega (arith, c.if-client-len.false, c.len.ensures) in
    let at : At cs i x = found cs i x x within c.index_mut.ensures.value in
    let servers : List Address = c.deref-2.result.now in
    let known : servers ≡ map address_of ss = c.deref-2.ensures.value ∙ c.in-Ok.ensures ∙ ap (map address_of) c.deref.ensures.value in
    let x' : ClientSide = c.restart_client.new.side in
    let cl' : List (Vec Line Global) = c.restart_client.new.logs.items in
    let ks' : List Joined = c.restart_client.new.circuits.items in
    let d = client-restarts cs ss ks cl sl w.moment i x x' servers cl' ks' c.restart_client.result at known c.restart_client.ensures in
    let indexed = client-indexed cs (server_numbers ss) ks ks' cl cl' servers w.moment i x x' c.restart_client.result at c.restart_client.ensures c.self.invariant.indexed in
    all-stand w _ (ClientRestart i) tt c.restart_client.result d c.self.invariant indexed
