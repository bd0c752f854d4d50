use Rattle.std.proofs.Common.{ℕ, ◌<◌, length, List, arith, refl, subst}
use Rattle.std.specs.Prelude.{map, slice_set}
use Rattle.ca_text.specs.Place.{At}
use Rattle.ca_text.proofs.Places.{At-map}
use Rattle.ca_model.specs.Events.{Clear}
use Rattle.ca_model.specs.World as model
use Rattle.ca_world_data.specs.declared.client.ClientSide.{ClientSide}
use Rattle.ca_world_data.specs.Does.{Does}
use Rattle.ca_world_data.specs.Logs.{lines_in}
use Rattle.ca_world_data.specs.Seen.{client_of, joined_of}
use Rattle.ca_world.specs.Whole.{seen}
use Rattle.ca_world.proofs.Farewells.{clear-tells}
use Rattle.ca_world.proofs.Clearings.{clears-does, clears-keep}
use Rattle.ca_world.proofs.Speeches.{numbered-here, tidy-here, speaks, speaks-stand}
use Rattle.ca_world_data.proofs.Worlds.{found}
use Rattle.ca_world.proofs.world.World.clear.Goals as goal

pub clear_on-requires-clause-once : goal.clear_on-requires-clause-once
clear_on-requires-clause-once c =
    let w = c.self.inside in
    let cs : List ClientSide = w.clients.items in
    let x : ClientSide = c.index_mut.result.now in
    let within : c.args.client < length cs = omega (arith, c.if-client-len.false, c.len.ensures) in
    let at : At cs c.args.client x = found cs c.args.client x x within c.index_mut.ensures.value in
    (tidy-here w c.args.client x at c.self.invariant).once

pub clear_on-requires-clause-numbered : goal.clear_on-requires-clause-numbered
clear_on-requires-clause-numbered c =
    let w = c.self.inside in
    let cs : List ClientSide = w.clients.items in
    let x : ClientSide = c.index_mut.result.now in
    let within : c.args.client < length cs = omega (arith, c.if-client-len.false, c.len.ensures) in
    let at : At cs c.args.client x = found cs c.args.client x x within c.index_mut.ensures.value in
    numbered-here w c.args.client x at c.self.invariant

pub returns : goal.returns
returns c =
    let w = c.self.inside in
    let k : ℕ = c.args.client in
    let cs : List ClientSide = w.clients.items in
    let x : ClientSide = c.index_mut.result.now in
    let x' : ClientSide = c.clear_on.new.side in
    let logs = lines_in c.clear_on.new.logs.items in
    let ks = map joined_of c.clear_on.new.circuits.items in
    let within : k < length cs = omega (arith, c.if-client-len.false, c.len.ensures) in
    let at : At cs k x = found cs k x x within c.index_mut.ensures.value in
    let d = clears-does (seen w) k c.args.channel (client_of x) (client_of x') logs ks c.clear_on.result (At-map client_of cs k x at) c.clear_on.ensures.clears in
    subst (λ (z : model.World). Does z (Clear k c.args.channel) c.clear_on.result (record (seen w) { clients = map client_of (slice_set cs k x'); client_logs = logs; circuits = ks })) c.self.view_is
    (speaks w k x at c.self.invariant (Clear k c.args.channel) c.clear_on.result x' logs ks d)

pub invariant_of-self : goal.invariant_of-self
invariant_of-self c =
    let w = c.self.inside in
    let k : ℕ = c.args.client in
    let cs : List ClientSide = w.clients.items in
    let x : ClientSide = c.index_mut.result.now in
    let x' : ClientSide = c.clear_on.new.side in
    let logs = lines_in c.clear_on.new.logs.items in
    let ks = map joined_of c.clear_on.new.circuits.items in
    let within : k < length cs = omega (arith, c.if-client-len.false, c.len.ensures) in
    let at : At cs k x = found cs k x x within c.index_mut.ensures.value in
    let d = clears-does (seen w) k c.args.channel (client_of x) (client_of x') logs ks c.clear_on.result (At-map client_of cs k x at) c.clear_on.ensures.clears in
    speaks-stand w k x at c.self.invariant (Clear k c.args.channel) c.clear_on.result x' logs ks d tt _ refl c.clear_on.ensures.kept refl refl
    (clears-keep k c.args.channel (client_of x) (client_of x') (lines_in w.client_logs.items) logs (map joined_of w.circuits.items) ks c.clear_on.result c.clear_on.ensures.clears)

pub clear_on-requires-clause-few : goal.clear_on-requires-clause-few
clear_on-requires-clause-few c =
    let w = c.self.inside in
    let cs : List ClientSide = w.clients.items in
    let x : ClientSide = c.index_mut.result.now in
    let within : c.args.client < length cs = omega (arith, c.if-client-len.false, c.len.ensures) in
    let at : At cs c.args.client x = found cs c.args.client x x within c.index_mut.ensures.value in
    λ h. clear-tells (seen w) c.args.client (client_of x) h c.self.invariant.reached c.self.invariant.quiet (At-map client_of cs c.args.client x at)
