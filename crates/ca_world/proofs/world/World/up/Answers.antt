use Rattle.std.proofs.Common.{◌≡◌, ℕ, ◌<◌, length, List, refl, sym, arith, subst}
use Rattle.std.specs.Prelude.{map, slice_set}
use Rattle.ca_text.specs.Place.{At}
use Rattle.ca_text.proofs.Places.{At-map, At-within}
use Rattle.ca_model.specs.History.{Entry, Line}
use Rattle.ca_model.specs.Events.{Up}
use Rattle.ca_model.specs.Runs.{CanBe}
use Rattle.ca_model.specs.World.{World}
use Rattle.ca_world_data.specs.declared.client.ClientSide.{ClientSide}
use Rattle.ca_world_data.specs.declared.ends.Ends.{Ends}
use Rattle.ca_world_data.specs.declared.joined.Joined.{Joined}
use Rattle.ca_world_data.specs.declared.server.ServerSide.{ServerSide}
use Rattle.ca_world_data.specs.Does.{Does}
use Rattle.ca_world_data.specs.Opening.{entries_in}
use Rattle.ca_world_data.specs.Seen.{entry_of, joined_of, line_of}
use Rattle.ca_world_data.specs.ServerCuts.{IsServing}
use Rattle.ca_world_data.specs.Indexed.{client_numbers, server_numbers}
use Rattle.ca_world_data.proofs.Indexes.{indexed-circuit, indexed-same, numbers-set}
use Rattle.ca_world.proofs.Cuttings.{cut-serves}
use Rattle.ca_world.proofs.Lasting.{all-stand}
use Rattle.ca_world_data.proofs.Ups.{handed-keeps, left-keeps, up-by-client, up-by-left, up-none, up-off}
use Rattle.ca_world_data.proofs.Worlds.{ends-client, ends-here, ends-server, found, is-open, no-ends-here, not-open, set-map, world_of}
use Rattle.ca_world.proofs.world.World.up.Goals as goal

pub returns-in_default : goal.returns-in_default
returns-in_default c =
    let w = c.self.inside in
    let cs : List ClientSide = w.clients.items in
    let ss : List ServerSide = w.servers.items in
    let ks : List Joined = w.circuits.items in
    let none = no-ends-here cs ss ks c.deref.result.now c.deref-2.result.now c.deref-3.result.now c.args.circuit c.deref.ensures.value c.deref-2.ensures.value c.deref-3.ensures.value c.in_default.ensures in
    subst (λ (v : World). (CanBe v (Up c.args.circuit c.args.n) → ⊥) × (v ≡ v)) c.self.view_is
    (up-none cs ss ks _ _ w.moment c.args.circuit c.args.n none, refl)

pub returns-then-not-ends : goal.returns-then-not-ends
returns-then-not-ends c =
    let w = c.self.inside in
    let cs : List ClientSide = w.clients.items in
    let ss : List ServerSide = w.servers.items in
    let ks : List Joined = w.circuits.items in
    let a = ends-here cs ss ks c.deref.result.now c.deref-2.result.now c.deref-3.result.now c.args.circuit c.in-Some.ends c.deref.ensures.value c.deref-2.ensures.value c.deref-3.ensures.value c.in-Some.ensures in
    subst (λ (v : World). (CanBe v (Up c.args.circuit c.args.n) → ⊥) × (v ≡ v)) c.self.view_is
    (up-off cs ss ks _ _ w.moment c.args.circuit c.args.n c.in-Some.ends a (not-open c.in-Some.ends.server_open c.if-not-ends.true), refl)

pub hand_up-requires : goal.hand_up-requires
hand_up-requires c =
    let w = c.self.inside in
    let cs : List ClientSide = w.clients.items in
    let ss : List ServerSide = w.servers.items in
    let ks : List Joined = w.circuits.items in
    let e : Ends = c.in-Some.ends in
    let k : ℕ = c.args.circuit in
    let a = ends-here cs ss ks c.deref.result.now c.deref-2.result.now c.deref-3.result.now k e c.deref.ensures.value c.deref-2.ensures.value c.deref-3.ensures.value c.in-Some.ensures in
    let y : ServerSide = c.index_mut-server.result.now in
    let server : At ss e.server y = found ss e.server y y (ends-server (length cs) (length ss) ks k e a) c.index_mut-server.ensures.value in
    subst (λ (z : Ends). IsServing y.core z.at_server) (sym a.is)
    (cut-serves cs ss ks (map (λ log. map line_of log.items) w.client_logs.items) (entries_in w.server_logs.items) w.moment k e a a.j y a.at server (is-open e.server_open c.if-not-ends.false) c.self.invariant.reached)

pub leave_up-requires : goal.leave_up-requires
leave_up-requires c =
    let w = c.self.inside in
    let cs : List ClientSide = w.clients.items in
    let ss : List ServerSide = w.servers.items in
    let ks : List Joined = w.circuits.items in
    let e : Ends = c.in-Some.ends in
    let k : ℕ = c.args.circuit in
    let a = ends-here cs ss ks c.deref.result.now c.deref-2.result.now c.deref-3.result.now k e c.deref.ensures.value c.deref-2.ensures.value c.deref-3.ensures.value c.in-Some.ensures in
    let y : ServerSide = c.index_mut-server.result.now in
    let server : At ss e.server y = found ss e.server y y (ends-server (length cs) (length ss) ks k e a) c.index_mut-server.ensures.value in
    subst (λ (z : Ends). IsServing y.core z.at_server) (sym a.is)
    (cut-serves cs ss ks (map (λ log. map line_of log.items) w.client_logs.items) (entries_in w.server_logs.items) w.moment k e a a.j y a.at server (is-open e.server_open c.if-not-ends.false) c.self.invariant.reached)

pub returns-then-ends : goal.returns-then-ends
returns-then-ends c =
    let w = c.self.inside in
    let cs : List ClientSide = w.clients.items in
    let ss : List ServerSide = w.servers.items in
    let ks : List Joined = w.circuits.items in
    let cl : List (List Line) = map (λ log. map line_of log.items) w.client_logs.items in
    let sl : List (List Entry) = map (λ log. map entry_of log.items) w.server_logs.items in
    let e : Ends = c.in-Some.ends in
    let k : ℕ = c.args.circuit in
    let n : ℕ = c.args.n in
    let a = ends-here cs ss ks c.deref.result.now c.deref-2.result.now c.deref-3.result.now k e c.deref.ensures.value c.deref-2.ensures.value c.deref-3.ensures.value c.in-Some.ensures in
    let y : ServerSide = c.index_mut-server.result.now in
    let server : At ss e.server y = found ss e.server y y (ends-server (length cs) (length ss) ks k e a) c.index_mut-server.ensures.value in
    let x : ClientSide = c.index_mut-side.result.now in
    let client : At cs e.client x = found cs e.client x x (ends-client (length cs) (length ss) ks k e a) c.index_mut-side.ensures.value in
    let new : World = world_of (slice_set cs e.client c.hand_up.new.side) (slice_set ss e.server c.hand_up.new.server) ks cl sl w.moment in
    subst (λ (z : World). Does z (Up k n) c.hand_up.result new) c.self.view_is
    (up-by-client cs ss ks cl sl w.moment k n e a x c.hand_up.new.side y c.hand_up.new.server c.hand_up.result client server (is-open e.server_open c.if-not-ends.false) c.if-ends.true c.hand_up.ensures)

pub index_mut-requires : goal.index_mut-requires
index_mut-requires c =
    let w = c.self.inside in
    let ks : List Joined = w.circuits.items in
    let a = ends-here w.clients.items w.servers.items ks c.deref.result.now c.deref-2.result.now c.deref-3.result.now c.args.circuit c.in-Some.ends c.deref.ensures.value c.deref-2.ensures.value c.deref-3.ensures.value c.in-Some.ensures in
    let within : c.args.circuit < length ks = At-within ks c.args.circuit a.j a.at in
    omega (arith, within)

pub returns : goal.returns
returns c =
    let w = c.self.inside in
    let cs : List ClientSide = w.clients.items in
    let ss : List ServerSide = w.servers.items in
    let ks : List Joined = w.circuits.items in
    let cl : List (List Line) = map (λ log. map line_of log.items) w.client_logs.items in
    let sl : List (List Entry) = map (λ log. map entry_of log.items) w.server_logs.items in
    let e : Ends = c.in-Some.ends in
    let k : ℕ = c.args.circuit in
    let n : ℕ = c.args.n in
    let a = ends-here cs ss ks c.deref.result.now c.deref-2.result.now c.deref-3.result.now k e c.deref.ensures.value c.deref-2.ensures.value c.deref-3.ensures.value c.in-Some.ensures in
    let y : ServerSide = c.index_mut-server.result.now in
    let server : At ss e.server y = found ss e.server y y (ends-server (length cs) (length ss) ks k e a) c.index_mut-server.ensures.value in
    let j : Joined = c.index_mut.result.now in
    let within : k < length ks = At-within ks k a.j a.at in
    let at : At ks k j = found ks k j j within c.index_mut.ensures.value in
    let new : World = world_of cs (slice_set ss e.server c.leave_up.new.server) (slice_set ks k c.leave_up.new.joined) cl sl w.moment in
    subst (λ (z : World). Does z (Up k n) c.leave_up.result new) c.self.view_is
    (up-by-left cs ss ks cl sl w.moment k n e a j c.leave_up.new.joined y c.leave_up.new.server c.leave_up.result at server (is-open e.server_open c.if-not-ends.false) c.if-ends.false c.leave_up.ensures)

pub invariant_of-self : goal.invariant_of-self
invariant_of-self c =
    let w = c.self.inside in
    let cs : List ClientSide = w.clients.items in
    let ss : List ServerSide = w.servers.items in
    let ks : List Joined = w.circuits.items in
    let cl : List (List Line) = map (λ log. map line_of log.items) w.client_logs.items in
    let sl : List (List Entry) = map (λ log. map entry_of log.items) w.server_logs.items in
    let e : Ends = c.in-Some.ends in
    let k : ℕ = c.args.circuit in
    let n : ℕ = c.args.n in
    let a = ends-here cs ss ks c.deref.result.now c.deref-2.result.now c.deref-3.result.now k e c.deref.ensures.value c.deref-2.ensures.value c.deref-3.ensures.value c.in-Some.ensures in
    let y : ServerSide = c.index_mut-server.result.now in
    let server : At ss e.server y = found ss e.server y y (ends-server (length cs) (length ss) ks k e a) c.index_mut-server.ensures.value in
    let x : ClientSide = c.index_mut-side.result.now in
    let client : At cs e.client x = found cs e.client x x (ends-client (length cs) (length ss) ks k e a) c.index_mut-side.ensures.value in
    let kept = handed-keeps x c.hand_up.new.side y c.hand_up.new.server e.at_client e.at_server n c.hand_up.result c.hand_up.ensures in
    let indexed = indexed-same (client_numbers cs) (client_numbers (slice_set cs e.client c.hand_up.new.side)) (server_numbers ss) (server_numbers (slice_set ss e.server c.hand_up.new.server)) (map joined_of ks) (map joined_of ks)
    (numbers-set (λ (z : ClientSide). z.circuits.items) cs e.client x c.hand_up.new.side client kept.0)
    (numbers-set (λ (z : ServerSide). z.circuits.items) ss e.server y c.hand_up.new.server server kept.1)
    refl
    c.self.invariant.indexed in
    all-stand w _ (Up k n) tt c.hand_up.result
    (up-by-client cs ss ks cl sl w.moment k n e a x c.hand_up.new.side y c.hand_up.new.server c.hand_up.result client server (is-open e.server_open c.if-not-ends.false) c.if-ends.true c.hand_up.ensures)
    c.self.invariant indexed

pub invariant_of-self-2 : goal.invariant_of-self-2
invariant_of-self-2 c =
    let w = c.self.inside in
    let cs : List ClientSide = w.clients.items in
    let ss : List ServerSide = w.servers.items in
    let ks : List Joined = w.circuits.items in
    let cl : List (List Line) = map (λ log. map line_of log.items) w.client_logs.items in
    let sl : List (List Entry) = map (λ log. map entry_of log.items) w.server_logs.items in
    let e : Ends = c.in-Some.ends in
    let k : ℕ = c.args.circuit in
    let n : ℕ = c.args.n in
    let a = ends-here cs ss ks c.deref.result.now c.deref-2.result.now c.deref-3.result.now k e c.deref.ensures.value c.deref-2.ensures.value c.deref-3.ensures.value c.in-Some.ensures in
    let y : ServerSide = c.index_mut-server.result.now in
    let server : At ss e.server y = found ss e.server y y (ends-server (length cs) (length ss) ks k e a) c.index_mut-server.ensures.value in
    let j : Joined = c.index_mut.result.now in
    let within : k < length ks = At-within ks k a.j a.at in
    let at : At ks k j = found ks k j j within c.index_mut.ensures.value in
    let kept = left-keeps j c.leave_up.new.joined y c.leave_up.new.server e.at_server n c.leave_up.result c.leave_up.ensures in
    let moved = indexed-circuit (client_numbers cs) (server_numbers ss) (map joined_of ks) c.self.invariant.indexed k (joined_of j) (joined_of c.leave_up.new.joined) (At-map joined_of ks k j at) kept.0 in
    let indexed = indexed-same (client_numbers cs) (client_numbers cs) (server_numbers ss) (server_numbers (slice_set ss e.server c.leave_up.new.server)) (slice_set (map joined_of ks) k (joined_of c.leave_up.new.joined)) (map joined_of (slice_set ks k c.leave_up.new.joined))
    refl
    (numbers-set (λ (z : ServerSide). z.circuits.items) ss e.server y c.leave_up.new.server server kept.1)
    (set-map joined_of ks k c.leave_up.new.joined)
    moved in
    all-stand w _ (Up k n) tt c.leave_up.result
    (up-by-left cs ss ks cl sl w.moment k n e a j c.leave_up.new.joined y c.leave_up.new.server c.leave_up.result at server (is-open e.server_open c.if-not-ends.false) c.if-ends.false c.leave_up.ensures)
    c.self.invariant indexed
