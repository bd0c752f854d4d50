use Rattle.std.proofs.Common.{ℕ, ◌<◌, length, List, arith, refl, subst}
use Rattle.std.specs.Prelude.{map, slice_set}
use Rattle.ca_text.specs.Place.{At}
use Rattle.ca_text.proofs.Places.{At-map}
use Rattle.ca_dbr.specs.Elements.{Elements, elements}
use Rattle.ca_model.specs.Events.{Write}
use Rattle.ca_model.specs.World as model
use Rattle.ca_world_data.specs.declared.client.ClientSide.{ClientSide}
use Rattle.ca_world_data.specs.Does.{Does}
use Rattle.ca_world_data.specs.Logs.{lines_in}
use Rattle.ca_world_data.specs.Seen.{client_of, joined_of}
use Rattle.ca_world.specs.Whole.{seen}
use Rattle.ca_world.proofs.Counted.{run-counted}
use Rattle.ca_world.proofs.Writing.{writes-does, writes-keep}
use Rattle.ca_world.proofs.Speeches.{numbered-here, tidy-here, speaks, speaks-stand}
use Rattle.ca_world_data.proofs.Worlds.{found}
use Rattle.ca_world.proofs.world.World.write.Goals as goal

pub write_on-requires-clause-once : goal.write_on-requires-clause-once
write_on-requires-clause-once c =
    let w = c.self.inside in
    let cs : List ClientSide = w.clients.items in
    let x : ClientSide = c.index_mut.result.now in
    let within : c.args.client < length cs = omega (arith, c.if-client-len.false, c.len.ensures) in
    let at : At cs c.args.client x = found cs c.args.client x x within c.index_mut.ensures.value in
    (tidy-here w c.args.client x at c.self.invariant).once

pub write_on-requires-clause-numbered : goal.write_on-requires-clause-numbered
write_on-requires-clause-numbered c =
    let w = c.self.inside in
    let cs : List ClientSide = w.clients.items in
    let x : ClientSide = c.index_mut.result.now in
    let within : c.args.client < length cs = omega (arith, c.if-client-len.false, c.len.ensures) in
    let at : At cs c.args.client x = found cs c.args.client x x within c.index_mut.ensures.value in
    numbered-here w c.args.client x at c.self.invariant

pub write_on-requires-clause-counted : goal.write_on-requires-clause-counted
write_on-requires-clause-counted c =
    let w = c.self.inside in
    let cs : List ClientSide = w.clients.items in
    let x : ClientSide = c.index_mut.result.now in
    let within : c.args.client < length cs = omega (arith, c.if-client-len.false, c.len.ensures) in
    let at : At cs c.args.client x = found cs c.args.client x x within c.index_mut.ensures.value in
    (run-counted (seen w) c.self.invariant.reached).clients c.args.client (client_of x) (At-map client_of cs c.args.client x at)

pub returns : goal.returns
returns c =
    let w = c.self.inside in
    let k : ℕ = c.args.client in
    let cs : List ClientSide = w.clients.items in
    let x : ClientSide = c.index_mut.result.now in
    let x' : ClientSide = c.write_on.new.side in
    let a : Elements = elements c.args.value.now in
    let logs = lines_in c.write_on.new.logs.items in
    let ks = map joined_of c.write_on.new.circuits.items in
    let within : k < length cs = omega (arith, c.if-client-len.false, c.len.ensures) in
    let at : At cs k x = found cs k x x within c.index_mut.ensures.value in
    let d = writes-does (seen w) k c.args.channel a (client_of x) (client_of x') logs ks c.write_on.result (At-map client_of cs k x at) c.write_on.ensures.writes in
    subst (λ (z : model.World). Does z (Write k c.args.channel a) c.write_on.result (record (seen w) { clients = map client_of (slice_set cs k x'); client_logs = logs; circuits = ks })) c.self.view_is
    (speaks w k x at c.self.invariant (Write k c.args.channel a) c.write_on.result x' logs ks d)

pub invariant_of-self : goal.invariant_of-self
invariant_of-self c =
    let w = c.self.inside in
    let k : ℕ = c.args.client in
    let cs : List ClientSide = w.clients.items in
    let x : ClientSide = c.index_mut.result.now in
    let x' : ClientSide = c.write_on.new.side in
    let a : Elements = elements c.args.value.now in
    let logs = lines_in c.write_on.new.logs.items in
    let ks = map joined_of c.write_on.new.circuits.items in
    let within : k < length cs = omega (arith, c.if-client-len.false, c.len.ensures) in
    let at : At cs k x = found cs k x x within c.index_mut.ensures.value in
    let d = writes-does (seen w) k c.args.channel a (client_of x) (client_of x') logs ks c.write_on.result (At-map client_of cs k x at) c.write_on.ensures.writes in
    speaks-stand w k x at c.self.invariant (Write k c.args.channel a) c.write_on.result x' logs ks d c.know.ensures.valued _ refl c.write_on.ensures.kept refl refl
    (writes-keep k c.args.channel a (client_of x) (client_of x') (lines_in w.client_logs.items) logs (map joined_of w.circuits.items) ks c.write_on.result c.write_on.ensures.writes)
