use Rattle.std.proofs.Common.{◌≡◌, ℕ, ◌<◌, length, List, refl, subst}
use Rattle.std.specs.Prelude.{map, slice_set}
use Rattle.ca_text.specs.Place.{At}
use Rattle.ca_text.proofs.Places.{At-map, At-within}
use Rattle.ca_model.specs.History.{Entry, Line}
use Rattle.ca_model.specs.Events.{Down}
use Rattle.ca_model.specs.Runs.{CanBe}
use Rattle.ca_model.specs.World.{World}
use Rattle.ca_world_data.specs.declared.client.ClientSide.{ClientSide}
use Rattle.ca_world_data.specs.declared.ends.Ends.{Ends}
use Rattle.ca_world_data.specs.declared.joined.Joined.{Joined}
use Rattle.ca_world_data.specs.declared.server.ServerSide.{ServerSide}
use Rattle.ca_world_data.specs.Does.{Does}
use Rattle.ca_world_data.specs.Indexed.{client_numbers, server_numbers}
use Rattle.ca_world_data.specs.Seen.{entry_of, joined_of, line_of}
use Rattle.ca_world.proofs.Downward.{down-by-left, down-by-server, down-linked, down-none, down-off, hands-keep, leaves-keep}
use Rattle.ca_world_data.proofs.Indexes.{indexed-circuit, indexed-same, numbers-set}
use Rattle.ca_world.proofs.Lasting.{all-stand}
use Rattle.ca_world.proofs.Speeches.{numbered-here}
use Rattle.ca_world_data.proofs.Worlds.{ends-client, ends-here, ends-server, found, is-open, no-ends-here, not-open, set-map, world_of}
use Rattle.ca_world.proofs.world.World.down.Goals as goal

pub returns-in_default : goal.returns-in_default
returns-in_default c =
    let w = c.self.inside in
    let cs : List ClientSide = w.clients.items in
    let ss : List ServerSide = w.servers.items in
    let ks : List Joined = w.circuits.items in
    let none = no-ends-here cs ss ks c.deref.result.now c.deref-2.result.now c.deref-3.result.now c.args.circuit c.deref.ensures.value c.deref-2.ensures.value c.deref-3.ensures.value c.in_default.ensures in
    subst (λ (v : World). (CanBe v (Down c.args.circuit c.args.n) → ⊥) × (v ≡ v)) c.self.view_is
    (down-none cs ss ks _ _ w.moment c.args.circuit c.args.n none, refl)

pub returns-then-not-ends : goal.returns-then-not-ends
returns-then-not-ends c =
    let w = c.self.inside in
    let cs : List ClientSide = w.clients.items in
    let ss : List ServerSide = w.servers.items in
    let ks : List Joined = w.circuits.items in
    let a = ends-here cs ss ks c.deref.result.now c.deref-2.result.now c.deref-3.result.now c.args.circuit c.in-Some.ends c.deref.ensures.value c.deref-2.ensures.value c.deref-3.ensures.value c.in-Some.ensures in
    subst (λ (v : World). (CanBe v (Down c.args.circuit c.args.n) → ⊥) × (v ≡ v)) c.self.view_is
    (down-off cs ss ks _ _ w.moment c.args.circuit c.args.n c.in-Some.ends a (not-open c.in-Some.ends.client_open c.if-not-ends.true), refl)

pub returns-then-ends : goal.returns-then-ends
returns-then-ends c =
    let w = c.self.inside in
    let cs : List ClientSide = w.clients.items in
    let ss : List ServerSide = w.servers.items in
    let ks : List Joined = w.circuits.items in
    let cl : List (List Line) = map (λ log. map line_of log.items) w.client_logs.items in
    let sl : List (List Entry) = map (λ log. map entry_of log.items) w.server_logs.items in
    let e : Ends = c.in-Some.ends in
    let k : ℕ = c.args.circuit in
    let n : ℕ = c.args.n in
    let a = ends-here cs ss ks c.deref.result.now c.deref-2.result.now c.deref-3.result.now k e c.deref.ensures.value c.deref-2.ensures.value c.deref-3.ensures.value c.in-Some.ensures in
    let x : ClientSide = c.index_mut-side.result.now in
    let client : At cs e.client x = found cs e.client x x (ends-client (length cs) (length ss) ks k e a) c.index_mut-side.ensures.value in
    let j : Joined = c.index_mut-joined.result.now in
    let within : k < length ks = At-within ks k a.j a.at in
    let at : At ks k j = found ks k j j within c.index_mut-joined.ensures.value in
    let on = is-open e.client_open c.if-not-ends.false in
    let numbered = numbered-here w e.client x client c.self.invariant in
    let linked = down-linked cs ss ks cl sl w.moment k n e a x j at client on c.self.invariant.clients in
    let y : ServerSide = c.index_mut-server.result.now in
    let server : At ss e.server y = found ss e.server y y (ends-server (length cs) (length ss) ks k e a) c.index_mut-server.ensures.value in
    let x' : ClientSide = c.hand_down.new.side in
    let y' : ServerSide = c.hand_down.new.server in
    let j' : Joined = c.hand_down.new.joined in
    let d = down-by-server cs ss ks cl sl w.moment k n e a x x' y y' j j' c.hand_down.result x.circuits.items at client server on c.if-ends.true numbered linked c.hand_down.ensures in
    subst (λ (z : World). Does z (Down k n) c.hand_down.result (world_of (slice_set cs e.client x') (slice_set ss e.server y') (slice_set ks k j') cl sl w.moment)) c.self.view_is d

pub returns : goal.returns
returns c =
    let w = c.self.inside in
    let cs : List ClientSide = w.clients.items in
    let ss : List ServerSide = w.servers.items in
    let ks : List Joined = w.circuits.items in
    let cl : List (List Line) = map (λ log. map line_of log.items) w.client_logs.items in
    let sl : List (List Entry) = map (λ log. map entry_of log.items) w.server_logs.items in
    let e : Ends = c.in-Some.ends in
    let k : ℕ = c.args.circuit in
    let n : ℕ = c.args.n in
    let a = ends-here cs ss ks c.deref.result.now c.deref-2.result.now c.deref-3.result.now k e c.deref.ensures.value c.deref-2.ensures.value c.deref-3.ensures.value c.in-Some.ensures in
    let x : ClientSide = c.index_mut-side.result.now in
    let client : At cs e.client x = found cs e.client x x (ends-client (length cs) (length ss) ks k e a) c.index_mut-side.ensures.value in
    let j : Joined = c.index_mut-joined.result.now in
    let within : k < length ks = At-within ks k a.j a.at in
    let at : At ks k j = found ks k j j within c.index_mut-joined.ensures.value in
    let on = is-open e.client_open c.if-not-ends.false in
    let numbered = numbered-here w e.client x client c.self.invariant in
    let linked = down-linked cs ss ks cl sl w.moment k n e a x j at client on c.self.invariant.clients in
    let x' : ClientSide = c.leave_down.new.side in
    let j' : Joined = c.leave_down.new.joined in
    let d = down-by-left cs ss ks cl sl w.moment k n e a x x' j j' c.leave_down.result x.circuits.items at client on c.if-ends.false numbered linked c.leave_down.ensures in
    subst (λ (z : World). Does z (Down k n) c.leave_down.result (world_of (slice_set cs e.client x') ss (slice_set ks k j') cl sl w.moment)) c.self.view_is d

pub invariant_of-self : goal.invariant_of-self
invariant_of-self c =
    let w = c.self.inside in
    let cs : List ClientSide = w.clients.items in
    let ss : List ServerSide = w.servers.items in
    let ks : List Joined = w.circuits.items in
    let cl : List (List Line) = map (λ log. map line_of log.items) w.client_logs.items in
    let sl : List (List Entry) = map (λ log. map entry_of log.items) w.server_logs.items in
    let e : Ends = c.in-Some.ends in
    let k : ℕ = c.args.circuit in
    let n : ℕ = c.args.n in
    let a = ends-here cs ss ks c.deref.result.now c.deref-2.result.now c.deref-3.result.now k e c.deref.ensures.value c.deref-2.ensures.value c.deref-3.ensures.value c.in-Some.ensures in
    let x : ClientSide = c.index_mut-side.result.now in
    let client : At cs e.client x = found cs e.client x x (ends-client (length cs) (length ss) ks k e a) c.index_mut-side.ensures.value in
    let j : Joined = c.index_mut-joined.result.now in
    let within : k < length ks = At-within ks k a.j a.at in
    let at : At ks k j = found ks k j j within c.index_mut-joined.ensures.value in
    let on = is-open e.client_open c.if-not-ends.false in
    let numbered = numbered-here w e.client x client c.self.invariant in
    let linked = down-linked cs ss ks cl sl w.moment k n e a x j at client on c.self.invariant.clients in
    let y : ServerSide = c.index_mut-server.result.now in
    let server : At ss e.server y = found ss e.server y y (ends-server (length cs) (length ss) ks k e a) c.index_mut-server.ensures.value in
    let x' : ClientSide = c.hand_down.new.side in
    let y' : ServerSide = c.hand_down.new.server in
    let j' : Joined = c.hand_down.new.joined in
    let d = down-by-server cs ss ks cl sl w.moment k n e a x x' y y' j j' c.hand_down.result x.circuits.items at client server on c.if-ends.true numbered linked c.hand_down.ensures in
    let kept = hands-keep x x' y y' j j' n c.hand_down.result c.hand_down.ensures in
    let moved = indexed-circuit (client_numbers cs) (server_numbers ss) (map joined_of ks) c.self.invariant.indexed k (joined_of j) (joined_of j') (At-map joined_of ks k j at) kept.2 in
    let indexed = indexed-same (client_numbers cs) (client_numbers (slice_set cs e.client x')) (server_numbers ss) (server_numbers (slice_set ss e.server y')) (slice_set (map joined_of ks) k (joined_of j')) (map joined_of (slice_set ks k j'))
    (numbers-set (λ (z : ClientSide). z.circuits.items) cs e.client x x' client kept.0)
    (numbers-set (λ (z : ServerSide). z.circuits.items) ss e.server y y' server kept.1)
    (set-map joined_of ks k j') moved in
    all-stand w _ (Down k n) tt c.hand_down.result d c.self.invariant indexed

pub invariant_of-self-2 : goal.invariant_of-self-2
invariant_of-self-2 c =
    let w = c.self.inside in
    let cs : List ClientSide = w.clients.items in
    let ss : List ServerSide = w.servers.items in
    let ks : List Joined = w.circuits.items in
    let cl : List (List Line) = map (λ log. map line_of log.items) w.client_logs.items in
    let sl : List (List Entry) = map (λ log. map entry_of log.items) w.server_logs.items in
    let e : Ends = c.in-Some.ends in
    let k : ℕ = c.args.circuit in
    let n : ℕ = c.args.n in
    let a = ends-here cs ss ks c.deref.result.now c.deref-2.result.now c.deref-3.result.now k e c.deref.ensures.value c.deref-2.ensures.value c.deref-3.ensures.value c.in-Some.ensures in
    let x : ClientSide = c.index_mut-side.result.now in
    let client : At cs e.client x = found cs e.client x x (ends-client (length cs) (length ss) ks k e a) c.index_mut-side.ensures.value in
    let j : Joined = c.index_mut-joined.result.now in
    let within : k < length ks = At-within ks k a.j a.at in
    let at : At ks k j = found ks k j j within c.index_mut-joined.ensures.value in
    let on = is-open e.client_open c.if-not-ends.false in
    let numbered = numbered-here w e.client x client c.self.invariant in
    let linked = down-linked cs ss ks cl sl w.moment k n e a x j at client on c.self.invariant.clients in
    let x' : ClientSide = c.leave_down.new.side in
    let j' : Joined = c.leave_down.new.joined in
    let d = down-by-left cs ss ks cl sl w.moment k n e a x x' j j' c.leave_down.result x.circuits.items at client on c.if-ends.false numbered linked c.leave_down.ensures in
    let kept = leaves-keep x x' j j' n c.leave_down.result c.leave_down.ensures in
    let moved = indexed-circuit (client_numbers cs) (server_numbers ss) (map joined_of ks) c.self.invariant.indexed k (joined_of j) (joined_of j') (At-map joined_of ks k j at) kept.1 in
    let indexed = indexed-same (client_numbers cs) (client_numbers (slice_set cs e.client x')) (server_numbers ss) (server_numbers ss) (slice_set (map joined_of ks) k (joined_of j')) (map joined_of (slice_set ks k j'))
    (numbers-set (λ (z : ClientSide). z.circuits.items) cs e.client x x' client kept.0)
    refl
    (set-map joined_of ks k j') moved in
    all-stand w _ (Down k n) tt c.leave_down.result d c.self.invariant indexed
