use Rattle.std.proofs.Common.{ℕ, ◌<◌, length, List, arith, subst}
use Rattle.std.specs.Prelude.{map, slice_set}
use Rattle.ca_dbr.specs.Elements.{Elements, elements}
use Rattle.ca_records.specs.Record.{unset}
use Rattle.ca_text.specs.Mask.{HasEvent}
use Rattle.ca_text.specs.Place.{At}
use Rattle.ca_text.proofs.Places.{At-map}
use Rattle.ca_model.specs.Events.{Post}
use Rattle.ca_model.specs.World.{World}
use Rattle.ca_model.specs.History as history
use Rattle.ca_world_data.specs.declared.client.ClientSide.{ClientSide}
use Rattle.ca_world_data.specs.declared.joined.Joined.{Joined}
use Rattle.ca_world_data.specs.declared.server.ServerSide.{ServerSide}
use Rattle.ca_world_data.specs.Does.{Does}
use Rattle.ca_world_data.specs.Indexed.{client_numbers, server_numbers}
use Rattle.ca_world_data.specs.Logs.{lines_in}
use Rattle.ca_world_data.specs.Opening.{entries_in}
use Rattle.ca_world_data.specs.Posting.{PostsAt}
use Rattle.ca_world_data.specs.Seen.{joined_of, server_of}
use Rattle.ca_world_data.proofs.Serving.{served-of}
use Rattle.ca_world_data.proofs.Worlds.{found, world_of}
use Rattle.ca_world.specs.Whole.{seen}
use Rattle.ca_world.proofs.Lasting.{all-stand}
use Rattle.ca_world.proofs.Postings.{post-does, post-indexed, run-alike}
use Rattle.ca_world.proofs.world.World.post.Goals as goal

pub post_at-requires-clause-served : goal.post_at-requires-clause-served
post_at-requires-clause-served c =
    let w = c.self.inside in
    let ss : List ServerSide = w.servers.items in
    let i : ℕ = c.args.posting.now.server in
    let y : ServerSide = c.index_mut.result.now in
    let within : i < length ss = omega (arith, c.if-server-len.false, c.len.ensures) in
    let at : At ss i y = found ss i y y within c.index_mut.ensures.value in
    served-of (client_numbers w.clients.items) (server_numbers ss) (map joined_of w.circuits.items) c.self.invariant.indexed i y.circuits.items (At-map (λ (z : ServerSide). z.circuits.items) ss i y at)

pub post_at-requires-clause-alike : goal.post_at-requires-clause-alike
post_at-requires-clause-alike c =
    let w = c.self.inside in
    let ss : List ServerSide = w.servers.items in
    let i : ℕ = c.args.posting.now.server in
    let y : ServerSide = c.index_mut.result.now in
    let within : i < length ss = omega (arith, c.if-server-len.false, c.len.ensures) in
    let at : At ss i y = found ss i y y within c.index_mut.ensures.value in
    run-alike (seen w) i (server_of y) c.self.invariant.reached (At-map server_of ss i y at)

pub returns : goal.returns
returns c =
    let w = c.self.inside in
    let cs : List ClientSide = w.clients.items in
    let ss : List ServerSide = w.servers.items in
    let ks : List Joined = w.circuits.items in
    let cl : List (List history.Line) = lines_in w.client_logs.items in
    let sl : List (List history.Entry) = entries_in w.server_logs.items in
    let i : ℕ = c.args.posting.now.server in
    let name : List ℕ = c.args.posting.now.name.items in
    let e : Elements = elements c.args.posting.now.value in
    let mask : ℕ = c.args.posting.now.mask in
    let y : ServerSide = c.index_mut.result.now in
    let within : i < length ss = omega (arith, c.if-server-len.false, c.len.ensures) in
    let at : At ss i y = found ss i y y within c.index_mut.ensures.value in
    let y' : ServerSide = c.post_at.new.side in
    let ks' : List Joined = c.post_at.new.circuits.items in
    let sl' : List (List history.Entry) = entries_in c.post_at.new.logs.items in
    let did : PostsAt i name (record { value = e; meta = unset }) mask y (map joined_of ks) sl c.post_at.result y' (map joined_of ks') sl' =
    subst (λ (z : List ℕ × ℕ). PostsAt i z.0 (record { value = e; meta = unset }) z.1 y (map joined_of ks) sl c.post_at.result y' (map joined_of ks') sl') (λ t. (c.deref.ensures.value t, c.bits.ensures.bits t)) c.post_at.ensures in
    let d = post-does cs ss ks cl sl w.moment i y at name e mask y' ks' sl' c.post_at.result did in
    subst (λ (z : World). Does z (Post i name e mask) c.post_at.result (world_of cs (slice_set ss i y') ks' cl sl' w.moment)) c.self.view_is d

pub invariant_of-self : goal.invariant_of-self
invariant_of-self c =
    let w = c.self.inside in
    let cs : List ClientSide = w.clients.items in
    let ss : List ServerSide = w.servers.items in
    let ks : List Joined = w.circuits.items in
    let cl : List (List history.Line) = lines_in w.client_logs.items in
    let sl : List (List history.Entry) = entries_in w.server_logs.items in
    let i : ℕ = c.args.posting.now.server in
    let name : List ℕ = c.args.posting.now.name.items in
    let e : Elements = elements c.args.posting.now.value in
    let mask : ℕ = c.args.posting.now.mask in
    let y : ServerSide = c.index_mut.result.now in
    let within : i < length ss = omega (arith, c.if-server-len.false, c.len.ensures) in
    let at : At ss i y = found ss i y y within c.index_mut.ensures.value in
    let y' : ServerSide = c.post_at.new.side in
    let ks' : List Joined = c.post_at.new.circuits.items in
    let sl' : List (List history.Entry) = entries_in c.post_at.new.logs.items in
    let did : PostsAt i name (record { value = e; meta = unset }) mask y (map joined_of ks) sl c.post_at.result y' (map joined_of ks') sl' =
    subst (λ (z : List ℕ × ℕ). PostsAt i z.0 (record { value = e; meta = unset }) z.1 y (map joined_of ks) sl c.post_at.result y' (map joined_of ks') sl') (λ t. (c.deref.ensures.value t, c.bits.ensures.bits t)) c.post_at.ensures in
    let d = post-does cs ss ks cl sl w.moment i y at name e mask y' ks' sl' c.post_at.result did in
    let indexed = post-indexed cs ss ks cl sl w.moment i y at name e mask (client_numbers cs) y' ks' sl' c.post_at.result did c.self.invariant.indexed in
    all-stand w _ (Post i name e mask) (c.know.ensures.held, subst HasEvent c.bits.ensures.bits c.bits.ensures.event) c.post_at.result d c.self.invariant indexed
