use Rattle.std.proofs.Common.{ℕ, ◌<◌, length, List, arith, refl, subst}
use Rattle.std.specs.Prelude.{map, slice_set}
use Rattle.ca_text.specs.Place.{At}
use Rattle.ca_text.proofs.Places.{At-map}
use Rattle.ca_model.specs.Events.{Unsubscribe}
use Rattle.ca_model.specs.World as model
use Rattle.ca_world_data.specs.declared.client.ClientSide.{ClientSide}
use Rattle.ca_world_data.specs.Does.{Does}
use Rattle.ca_world_data.specs.Logs.{lines_in}
use Rattle.ca_world_data.specs.Seen.{client_of, joined_of}
use Rattle.ca_world.specs.Whole.{seen}
use Rattle.ca_world.proofs.Cancellings.{unsubscribes-does, unsubscribes-keep}
use Rattle.ca_world.proofs.Speeches.{numbered-here, speaks, speaks-stand}
use Rattle.ca_world_data.proofs.Worlds.{found}
use Rattle.ca_world.proofs.world.World.unsubscribe.Goals as goal

pub unsubscribe_on-requires-clause-theirs : goal.unsubscribe_on-requires-clause-theirs
unsubscribe_on-requires-clause-theirs c =
    let w = c.self.inside in
    let cs : List ClientSide = w.clients.items in
    let x : ClientSide = c.index_mut.result.now in
    let within : c.args.client < length cs = omega (arith, c.if-client-len.false, c.len.ensures) in
    let at : At cs c.args.client x = found cs c.args.client x x within c.index_mut.ensures.value in
    (c.self.invariant.named c.args.client (client_of x) (At-map client_of cs c.args.client x at)).1

pub unsubscribe_on-requires-clause-numbered : goal.unsubscribe_on-requires-clause-numbered
unsubscribe_on-requires-clause-numbered c =
    let w = c.self.inside in
    let cs : List ClientSide = w.clients.items in
    let x : ClientSide = c.index_mut.result.now in
    let within : c.args.client < length cs = omega (arith, c.if-client-len.false, c.len.ensures) in
    let at : At cs c.args.client x = found cs c.args.client x x within c.index_mut.ensures.value in
    numbered-here w c.args.client x at c.self.invariant

pub returns : goal.returns
returns c =
    let w = c.self.inside in
    let k : ℕ = c.args.client in
    let n : ℕ = c.args.subscription in
    let cs : List ClientSide = w.clients.items in
    let x : ClientSide = c.index_mut.result.now in
    let x' : ClientSide = c.unsubscribe_on.new.side in
    let logs = lines_in c.unsubscribe_on.new.logs.items in
    let ks = map joined_of c.unsubscribe_on.new.circuits.items in
    let within : k < length cs = omega (arith, c.if-client-len.false, c.len.ensures) in
    let at : At cs k x = found cs k x x within c.index_mut.ensures.value in
    let d = unsubscribes-does (seen w) k n (client_of x) (client_of x') logs ks c.unsubscribe_on.result (At-map client_of cs k x at) c.unsubscribe_on.ensures.unsubscribes in
    subst (λ (z : model.World). Does z (Unsubscribe k n) c.unsubscribe_on.result (record (seen w) { clients = map client_of (slice_set cs k x'); client_logs = logs; circuits = ks })) c.self.view_is
    (speaks w k x at c.self.invariant (Unsubscribe k n) c.unsubscribe_on.result x' logs ks d)

pub invariant_of-self : goal.invariant_of-self
invariant_of-self c =
    let w = c.self.inside in
    let k : ℕ = c.args.client in
    let n : ℕ = c.args.subscription in
    let cs : List ClientSide = w.clients.items in
    let x : ClientSide = c.index_mut.result.now in
    let x' : ClientSide = c.unsubscribe_on.new.side in
    let logs = lines_in c.unsubscribe_on.new.logs.items in
    let ks = map joined_of c.unsubscribe_on.new.circuits.items in
    let within : k < length cs = omega (arith, c.if-client-len.false, c.len.ensures) in
    let at : At cs k x = found cs k x x within c.index_mut.ensures.value in
    let d = unsubscribes-does (seen w) k n (client_of x) (client_of x') logs ks c.unsubscribe_on.result (At-map client_of cs k x at) c.unsubscribe_on.ensures.unsubscribes in
    speaks-stand w k x at c.self.invariant (Unsubscribe k n) c.unsubscribe_on.result x' logs ks d tt _ refl c.unsubscribe_on.ensures.kept refl refl
    (unsubscribes-keep k n (client_of x) (client_of x') (lines_in w.client_logs.items) logs (map joined_of w.circuits.items) ks c.unsubscribe_on.result c.unsubscribe_on.ensures.unsubscribes)
