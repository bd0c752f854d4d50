use Rattle.std.proofs.Common.{ℕ, ◌<◌, length, List, arith, subst}
use Rattle.std.specs.Prelude.{map, slice_set}
use Rattle.ca_text.specs.Place.{At}
use Rattle.ca_text.proofs.Places.{At-map}
use Rattle.ca_model.specs.Events.{Remove}
use Rattle.ca_model.specs.World.{World}
use Rattle.ca_model.specs.History as history
use Rattle.ca_world_data.specs.declared.client.ClientSide.{ClientSide}
use Rattle.ca_world_data.specs.declared.joined.Joined.{Joined}
use Rattle.ca_world_data.specs.declared.server.ServerSide.{ServerSide}
use Rattle.ca_world_data.specs.Does.{Does}
use Rattle.ca_world_data.specs.Indexed.{client_numbers, server_numbers}
use Rattle.ca_world_data.specs.Logs.{lines_in}
use Rattle.ca_world_data.specs.Opening.{entries_in}
use Rattle.ca_world_data.specs.Seen.{joined_of}
use Rattle.ca_world_data.proofs.Serving.{served-of}
use Rattle.ca_world_data.proofs.Worlds.{found, world_of}
use Rattle.ca_world_servers.specs.Removing.{RemovesAt}
use Rattle.ca_world.specs.Whole.{seen}
use Rattle.ca_world.proofs.Lasting.{all-stand}
use Rattle.ca_world.proofs.Removings.{remove-does, remove-indexed}
use Rattle.ca_world.proofs.Seating.{run-seated}
use Rattle.ca_world.proofs.world.World.remove.Goals as goal

pub remove_at-requires-clause-served : goal.remove_at-requires-clause-served
remove_at-requires-clause-served c =
    let w = c.self.inside in
    let ss : List ServerSide = w.servers.items in
    let i : ℕ = c.args.server in
    let y : ServerSide = c.index_mut.result.now in
    let within : i < length ss = omega (arith, c.if-server-len.false, c.len.ensures) in
    let at : At ss i y = found ss i y y within c.index_mut.ensures.value in
    served-of (client_numbers w.clients.items) (server_numbers ss) (map joined_of w.circuits.items) c.self.invariant.indexed i y.circuits.items (At-map (λ (z : ServerSide). z.circuits.items) ss i y at)

pub remove_at-requires-clause-seated : goal.remove_at-requires-clause-seated
remove_at-requires-clause-seated c =
    run-seated (seen c.self.inside) c.args.server c.self.invariant.reached

pub returns : goal.returns
returns c =
    let w = c.self.inside in
    let cs : List ClientSide = w.clients.items in
    let ss : List ServerSide = w.servers.items in
    let ks : List Joined = w.circuits.items in
    let cl : List (List history.Line) = lines_in w.client_logs.items in
    let sl : List (List history.Entry) = entries_in w.server_logs.items in
    let i : ℕ = c.args.server in
    let name : List ℕ = c.args.name.now in
    let y : ServerSide = c.index_mut.result.now in
    let within : i < length ss = omega (arith, c.if-server-len.false, c.len.ensures) in
    let at : At ss i y = found ss i y y within c.index_mut.ensures.value in
    let y' : ServerSide = c.remove_at.new.side in
    let ks' : List Joined = c.remove_at.new.circuits.items in
    let sl' : List (List history.Entry) = entries_in c.remove_at.new.logs.items in
    let did : RemovesAt i name y (map joined_of ks) sl c.remove_at.result y' (map joined_of ks') sl' = c.remove_at.ensures in
    let d = remove-does cs ss ks cl sl w.moment i y at name y' ks' sl' c.remove_at.result did in
    subst (λ (z : World). Does z (Remove i name) c.remove_at.result (world_of cs (slice_set ss i y') ks' cl sl' w.moment)) c.self.view_is d

pub invariant_of-self : goal.invariant_of-self
invariant_of-self c =
    let w = c.self.inside in
    let cs : List ClientSide = w.clients.items in
    let ss : List ServerSide = w.servers.items in
    let ks : List Joined = w.circuits.items in
    let cl : List (List history.Line) = lines_in w.client_logs.items in
    let sl : List (List history.Entry) = entries_in w.server_logs.items in
    let i : ℕ = c.args.server in
    let name : List ℕ = c.args.name.now in
    let y : ServerSide = c.index_mut.result.now in
    let within : i < length ss = omega (arith, c.if-server-len.false, c.len.ensures) in
    let at : At ss i y = found ss i y y within c.index_mut.ensures.value in
    let y' : ServerSide = c.remove_at.new.side in
    let ks' : List Joined = c.remove_at.new.circuits.items in
    let sl' : List (List history.Entry) = entries_in c.remove_at.new.logs.items in
    let did : RemovesAt i name y (map joined_of ks) sl c.remove_at.result y' (map joined_of ks') sl' = c.remove_at.ensures in
    let d = remove-does cs ss ks cl sl w.moment i y at name y' ks' sl' c.remove_at.result did in
    let indexed = remove-indexed cs ss ks cl sl w.moment i y at name (client_numbers cs) y' ks' sl' c.remove_at.result did c.self.invariant.indexed in
    all-stand w _ (Remove i name) tt c.remove_at.result d c.self.invariant indexed
