use Rattle.std.proofs.Common.{ℕ, ◌<◌, length, List, Err, map, refl, subst, arith}
use Rattle.ca_text.specs.declared.refusal.Refusal.{Refusal}
use Rattle.ca_text.specs.declared.refusal.Refusal.TheVariants.{OutOfMemory}
use Rattle.ca_text.specs.Place.{At}
use Rattle.ca_text.proofs.Places.{At-map}
use Rattle.ca_model.specs.Ends.{Address}
use Rattle.ca_model.specs.Events.{ServerDatagram}
use Rattle.ca_model.specs.Runs.{Happens}
use Rattle.ca_model.specs.ServerCalls.{AnswersDatagram}
use Rattle.ca_model.specs.World.{World}
use Rattle.ca_model.specs.World as model
use Rattle.ca_world_data.specs.declared.server.ServerSide.{ServerSide}
use Rattle.ca_world_data.specs.Does.{Does}
use Rattle.ca_world_data.specs.Seen.{server_of}
use Rattle.ca_world_data.proofs.Worlds.{found}
use Rattle.ca_world.proofs.world.World.server_datagram.Goals as goal

refused-so : (w : World) (i : ℕ) (y : model.ServerSide) (from : Address) (bytes : List ℕ) (e : Refusal) → At w.servers i y → AnswersDatagram y.core bytes (Err e) → Does w (ServerDatagram i from bytes) (Err e) w
refused-so w i y from bytes OutOfMemory at d = ((record { y = y; at = at }, d), refl)
refused-so w i y from bytes _ at d = absurd d

pub returns-in-Err : goal.returns-in-Err
returns-in-Err c =
    let ss : List ServerSide = c.self.inside.servers.items in
    let y : ServerSide = c.index.result.now in
    let within : c.args.server < length ss = omega (arith, c.if-server-len.false, c.len.ensures) in
    let at : At ss c.args.server y = found ss c.args.server y y within c.index.ensures in
    subst (λ (v : World). Does v (ServerDatagram c.args.server c.args.from c.args.bytes.now) (Err c.in-Err.refusal) v) c.self.view_is
    (refused-so _ c.args.server (server_of y) c.args.from c.args.bytes.now c.in-Err.refusal (At-map server_of ss c.args.server y at) c.in-Err.ensures.err)

pub returns : goal.returns
returns c =
    let ss : List ServerSide = c.self.inside.servers.items in
    let y : ServerSide = c.index.result.now in
    let within : c.args.server < length ss = omega (arith, c.if-server-len.false, c.len.ensures) in
    let at : At ss c.args.server y = found ss c.args.server y y within c.index.ensures in
    subst (λ (v : World). Happens v (ServerDatagram c.args.server c.args.from c.args.bytes.now) v) c.self.view_is
    (record { y = server_of y; at = At-map server_of ss c.args.server y at }, (map (λ d. d.items) c.in-Ok._answers.items, c.in-Ok.ensures.ok, refl))
