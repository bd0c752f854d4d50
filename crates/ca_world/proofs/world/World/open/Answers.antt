use Rattle.std.proofs.Common.{◌≡◌, ℕ, ◌<◌, length, List, arith, ap, refl, sym, subst}
use Rattle.std.specs.Prelude.{map, slice_set}
use Rattle.ca_text.specs.Place.{At}
use Rattle.ca_text.proofs.Places.{At-map}
use Rattle.ca_model.specs.Events.{Open}
use Rattle.ca_model.specs.World as model
use Rattle.ca_world_data.specs.declared.client.ClientSide.{ClientSide}
use Rattle.ca_world_data.specs.Does.{Does}
use Rattle.ca_world_data.specs.Indexed.{client_numbers, server_numbers}
use Rattle.ca_world_data.specs.Logs.{lines_in}
use Rattle.ca_world_data.specs.Seen.{client_of, joined_of}
use Rattle.ca_world.specs.Whole.{seen}
use Rattle.ca_world_data.proofs.Calls.{opens}
use Rattle.ca_world_data.proofs.Indexes.{indexed-same, numbers-set}
use Rattle.ca_world.proofs.Lasting.{all-stand}
use Rattle.ca_world_data.proofs.Worlds.{found, set-map}
use Rattle.ca_world.proofs.world.World.open.Goals as goal

pub returns : goal.returns
returns c =
    let i = c.self.inside in
    let cs : List ClientSide = i.clients.items in
    let k : ℕ = c.args.client in
    let x : ClientSide = c.index_mut-side.result.now in
    let x' : ClientSide = c.open_on.new.side in
    let within : k < length cs = omega (arith, c.if-client-len.false, c.len.ensures) in
    let at : At cs k x = found cs k x x within c.index_mut-side.ensures.value in
    let w : model.World = seen i in
    let new : model.World = record w { clients = map client_of (slice_set cs k x'); client_logs = lines_in c.open_on.new.logs.items } in
    let made : record w { clients = slice_set w.clients k (client_of x'); client_logs = lines_in c.open_on.new.logs.items } ≡ new =
    ap (λ (t : List model.ClientSide). record w { clients = t; client_logs = lines_in c.open_on.new.logs.items }) (sym (set-map client_of cs k x')) in
    subst (λ (z : model.World). Does z (Open k c.args.name.now c.args.priority) c.open_on.result new) c.self.view_is
    (subst (λ (z : model.World). Does w (Open k c.args.name.now c.args.priority) c.open_on.result z) made
    (opens w k c.args.name.now c.args.priority (client_of x) (client_of x') (lines_in c.open_on.new.logs.items) c.open_on.result (At-map client_of cs k x at) c.open_on.ensures.opens))

pub invariant_of-self : goal.invariant_of-self
invariant_of-self c =
    let i = c.self.inside in
    let cs : List ClientSide = i.clients.items in
    let k : ℕ = c.args.client in
    let x : ClientSide = c.index_mut-side.result.now in
    let x' : ClientSide = c.open_on.new.side in
    let within : k < length cs = omega (arith, c.if-client-len.false, c.len.ensures) in
    let at : At cs k x = found cs k x x within c.index_mut-side.ensures.value in
    let w : model.World = seen i in
    let new : model.World = record w { clients = map client_of (slice_set cs k x'); client_logs = lines_in c.open_on.new.logs.items } in
    let made : record w { clients = slice_set w.clients k (client_of x'); client_logs = lines_in c.open_on.new.logs.items } ≡ new =
    ap (λ (t : List model.ClientSide). record w { clients = t; client_logs = lines_in c.open_on.new.logs.items }) (sym (set-map client_of cs k x')) in
    all-stand i _ (Open k c.args.name.now c.args.priority) tt c.open_on.result
    (subst (λ (z : model.World). Does w (Open k c.args.name.now c.args.priority) c.open_on.result z) made
    (opens w k c.args.name.now c.args.priority (client_of x) (client_of x') (lines_in c.open_on.new.logs.items) c.open_on.result (At-map client_of cs k x at) c.open_on.ensures.opens))
    c.self.invariant
    (indexed-same (client_numbers cs) (client_numbers (slice_set cs k x')) (server_numbers i.servers.items) (server_numbers i.servers.items) (map joined_of i.circuits.items) (map joined_of i.circuits.items)
    (numbers-set (λ (z : ClientSide). z.circuits.items) cs k x x' at c.open_on.ensures.kept)
    refl
    refl
    c.self.invariant.indexed)
