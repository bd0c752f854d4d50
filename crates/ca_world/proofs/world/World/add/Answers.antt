use Rattle.std.proofs.Common.{ℕ, ◌<◌, length, List, refl, subst, arith}
use Rattle.std.specs.Prelude.{map, slice_set}
use Rattle.ca_events.specs.Events.{record_of as of_addition}
use Rattle.ca_records.specs.Record.{RecordState}
use Rattle.ca_text.specs.Place.{At}
use Rattle.ca_text.proofs.Places.{At-map}
use Rattle.ca_model.specs.History as history
use Rattle.ca_model.specs.Events.{Add}
use Rattle.ca_model.specs.World.{World}
use Rattle.ca_world_data.specs.declared.client.ClientSide.{ClientSide}
use Rattle.ca_world_data.specs.declared.joined.Joined.{Joined}
use Rattle.ca_world_data.specs.declared.server.ServerSide.{ServerSide}
use Rattle.ca_world_data.specs.Does.{Does}
use Rattle.ca_world_data.specs.Indexed.{client_numbers}
use Rattle.ca_world_data.specs.Logs.{lines_in}
use Rattle.ca_world_data.specs.Opening.{entries_in}
use Rattle.ca_world_data.specs.Seen.{joined_of, server_of}
use Rattle.ca_world_data.proofs.Indexes.{indexed-server}
use Rattle.ca_world_data.proofs.Worlds.{found, world_of}
use Rattle.ca_world.specs.Adding.{AddsAt}
use Rattle.ca_world.specs.Whole.{seen}
use Rattle.ca_world.proofs.Additions.{add-does, run-order}
use Rattle.ca_world.proofs.Counted.{run-counted}
use Rattle.ca_world.proofs.Lasting.{all-stand}
use Rattle.ca_world.proofs.world.World.add.Goals as goal

pub add_at-requires-clause-order : goal.add_at-requires-clause-order
add_at-requires-clause-order c =
    let w = c.self.inside in
    let ss : List ServerSide = w.servers.items in
    let i : ℕ = c.args.addition.now.server in
    let y : ServerSide = c.index_mut.result.now in
    let within : i < length ss = omega (arith, c.if-server-len.false, c.len.ensures) in
    let at : At ss i y = found ss i y y within c.index_mut.ensures.value in
    run-order (seen w) i (server_of y) c.self.invariant.reached (At-map server_of ss i y at)

pub add_at-requires-clause-counted : goal.add_at-requires-clause-counted
add_at-requires-clause-counted c =
    let w = c.self.inside in
    let ss : List ServerSide = w.servers.items in
    let i : ℕ = c.args.addition.now.server in
    let y : ServerSide = c.index_mut.result.now in
    let within : i < length ss = omega (arith, c.if-server-len.false, c.len.ensures) in
    let at : At ss i y = found ss i y y within c.index_mut.ensures.value in
    (run-counted (seen w) c.self.invariant.reached).servers i (server_of y) (At-map server_of ss i y at)

pub returns : goal.returns
returns c =
    let w = c.self.inside in
    let cs : List ClientSide = w.clients.items in
    let ss : List ServerSide = w.servers.items in
    let ks : List Joined = w.circuits.items in
    let cl : List (List history.Line) = lines_in w.client_logs.items in
    let sl : List (List history.Entry) = entries_in w.server_logs.items in
    let i : ℕ = c.args.addition.now.server in
    let s : RecordState = of_addition c.args.addition.now in
    let y : ServerSide = c.index_mut.result.now in
    let within : i < length ss = omega (arith, c.if-server-len.false, c.len.ensures) in
    let at : At ss i y = found ss i y y within c.index_mut.ensures.value in
    let y' : ServerSide = c.add_at.new.side in
    let sl' : List (List history.Entry) = entries_in c.add_at.new.logs.items in
    let did : AddsAt s (server_of y) sl c.add_at.result (server_of y') sl' =
    subst (λ (name : List ℕ). AddsAt (record s { name = name }) (server_of y) sl c.add_at.result (server_of y') sl') c.deref.ensures.value c.add_at.ensures.adds in
    let d = add-does cs ss ks cl sl w.moment i y at s y' sl' c.add_at.result did in
    subst (λ (z : World). Does z (Add i s) c.add_at.result (world_of cs (slice_set ss i y') ks cl sl' w.moment)) c.self.view_is d

pub invariant_of-self : goal.invariant_of-self
invariant_of-self c =
    let w = c.self.inside in
    let cs : List ClientSide = w.clients.items in
    let ss : List ServerSide = w.servers.items in
    let ks : List Joined = w.circuits.items in
    let cl : List (List history.Line) = lines_in w.client_logs.items in
    let sl : List (List history.Entry) = entries_in w.server_logs.items in
    let i : ℕ = c.args.addition.now.server in
    let s : RecordState = of_addition c.args.addition.now in
    let y : ServerSide = c.index_mut.result.now in
    let within : i < length ss = omega (arith, c.if-server-len.false, c.len.ensures) in
    let at : At ss i y = found ss i y y within c.index_mut.ensures.value in
    let y' : ServerSide = c.add_at.new.side in
    let sl' : List (List history.Entry) = entries_in c.add_at.new.logs.items in
    let did : AddsAt s (server_of y) sl c.add_at.result (server_of y') sl' =
    subst (λ (name : List ℕ). AddsAt (record s { name = name }) (server_of y) sl c.add_at.result (server_of y') sl') c.deref.ensures.value c.add_at.ensures.adds in
    let d = add-does cs ss ks cl sl w.moment i y at s y' sl' c.add_at.result did in
    let indexed = indexed-server (client_numbers cs) ss i y y' (map joined_of ks) (map joined_of ks) at c.add_at.ensures.kept refl c.self.invariant.indexed in
    all-stand w _ (Add i s) (c.know.ensures.held, refl) c.add_at.result d c.self.invariant indexed
