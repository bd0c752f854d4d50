use Rattle.std.proofs.Common.{ℕ, ◌<◌, length, List, arith, subst, Vec, Global}
use Rattle.std.specs.Prelude.{slice_set}
use Rattle.ca_text.specs.Place.{At}
use Rattle.ca_model.specs.Events.{ServerRestart}
use Rattle.ca_model.specs.World.{World}
use Rattle.ca_world_data.specs.declared.client.ClientSide.{ClientSide}
use Rattle.ca_world_data.specs.declared.history.LogEntry.{LogEntry}
use Rattle.ca_world_data.specs.declared.history.Line.{Line}
use Rattle.ca_world_data.specs.declared.joined.Joined.{Joined}
use Rattle.ca_world_data.specs.declared.server.ServerSide.{ServerSide}
use Rattle.ca_world_data.specs.Does.{Does}
use Rattle.ca_world_data.specs.Indexed.{client_numbers}
use Rattle.ca_world_data.specs.Logs.{lines_in}
use Rattle.ca_world_data.specs.Opening.{entries_in}
use Rattle.ca_world.proofs.Lasting.{all-stand}
use Rattle.ca_world_data.proofs.Restarting.{server-indexed, server-restarts}
use Rattle.ca_world_data.proofs.Worlds.{found, world_of}
use Rattle.ca_world.proofs.world.World.server_restart.Goals as goal

pub returns : goal.returns
returns c =
    let w = c.self.inside in
    let cs : List ClientSide = w.clients.items in
    let ss : List ServerSide = w.servers.items in
    let ks : List Joined = w.circuits.items in
    let cl : List (Vec Line Global) = w.client_logs.items in
    let sl : List (Vec LogEntry Global) = w.server_logs.items in
    let i : ℕ = c.args.server in
    let y : ServerSide = c.index_mut.result.now in
    let within : i < length ss = omega (arith, c.if-server-len.false, c.len.ensures) in
    let at : At ss i y = found ss i y y within c.index_mut.ensures.value in
    let y' : ServerSide = c.restart_server.new.side in
    let sl' : List (Vec LogEntry Global) = c.restart_server.new.logs.items in
    let ks' : List Joined = c.restart_server.new.circuits.items in
    let d = server-restarts cs ss ks cl sl w.moment i y y' sl' ks' c.restart_server.result at c.restart_server.ensures in
    subst (λ (z : World). Does z (ServerRestart i) c.restart_server.result (world_of cs (slice_set ss i y') ks' (lines_in cl) (entries_in sl') w.moment)) c.self.view_is d

pub invariant_of-self : goal.invariant_of-self
invariant_of-self c =
    let w = c.self.inside in
    let cs : List ClientSide = w.clients.items in
    let ss : List ServerSide = w.servers.items in
    let ks : List Joined = w.circuits.items in
    let cl : List (Vec Line Global) = w.client_logs.items in
    let sl : List (Vec LogEntry Global) = w.server_logs.items in
    let i : ℕ = c.args.server in
    let y : ServerSide = c.index_mut.result.now in
    let within : i < length ss = omega (arith, c.if-server-len.false, c.len.ensures) in
    let at : At ss i y = found ss i y y within c.index_mut.ensures.value in
    let y' : ServerSide = c.restart_server.new.side in
    let sl' : List (Vec LogEntry Global) = c.restart_server.new.logs.items in
    let ks' : List Joined = c.restart_server.new.circuits.items in
    let d = server-restarts cs ss ks cl sl w.moment i y y' sl' ks' c.restart_server.result at c.restart_server.ensures in
    let indexed = server-indexed (client_numbers cs) ss ks ks' sl sl' w.moment i y y' c.restart_server.result at c.restart_server.ensures c.self.invariant.indexed in
    all-stand w _ (ServerRestart i) tt c.restart_server.result d c.self.invariant indexed
