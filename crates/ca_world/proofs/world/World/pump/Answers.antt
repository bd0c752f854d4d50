use Rattle.std.proofs.Common.{◌≡◌, ℕ, ◌<◌, length, List, refl, arith, subst}
use Rattle.std.specs.Prelude.{map, slice_set}
use Rattle.ca_text.specs.Place.{At}
use Rattle.ca_text.proofs.Places.{At-map, At-within}
use Rattle.ca_model.specs.History.{Line}
use Rattle.ca_model.specs.Events.{Pump}
use Rattle.ca_model.specs.Runs.{CanBe}
use Rattle.ca_model.specs.World.{World}
use Rattle.ca_model.specs.History as history
use Rattle.ca_world_data.specs.declared.client.ClientSide.{ClientSide}
use Rattle.ca_world_data.specs.declared.ends.Ends.{Ends}
use Rattle.ca_world_data.specs.declared.joined.Joined.{Joined}
use Rattle.ca_world_data.specs.declared.server.ServerSide.{ServerSide}
use Rattle.ca_world_data.specs.Does.{Does}
use Rattle.ca_world_data.specs.Indexed.{client_numbers, server_numbers}
use Rattle.ca_world_data.specs.Opening.{entries_in}
use Rattle.ca_world_data.specs.Seen.{joined_of, line_of}
use Rattle.ca_world.proofs.Cuttings.{cut-serves}
use Rattle.ca_world.proofs.Pumpings.{pump-alike, pump-by, pump-fits, pump-keeps, pump-none, pump-off}
use Rattle.ca_world_data.proofs.Indexes.{indexed-circuit, indexed-server}
use Rattle.ca_world.proofs.Lasting.{all-stand}
use Rattle.ca_world_data.proofs.Worlds.{ends-here, ends-server, found, is-open, no-ends-here, not-open, set-map, world_of}
use Rattle.ca_world.proofs.world.World.pump.Goals as goal

pub returns-in_default : goal.returns-in_default
returns-in_default c =
    let w = c.self.inside in
    let cs : List ClientSide = w.clients.items in
    let ss : List ServerSide = w.servers.items in
    let ks : List Joined = w.circuits.items in
    let none = no-ends-here cs ss ks c.deref.result.now c.deref-2.result.now c.deref-3.result.now c.args.circuit c.deref.ensures.value c.deref-2.ensures.value c.deref-3.ensures.value c.in_default.ensures in
    subst (λ (v : World). (CanBe v (Pump c.args.circuit) → ⊥) × (v ≡ v)) c.self.view_is
    (pump-none cs ss ks _ _ w.moment c.args.circuit none, refl)

pub returns-then-not-ends : goal.returns-then-not-ends
returns-then-not-ends c =
    let w = c.self.inside in
    let cs : List ClientSide = w.clients.items in
    let ss : List ServerSide = w.servers.items in
    let ks : List Joined = w.circuits.items in
    let a = ends-here cs ss ks c.deref.result.now c.deref-2.result.now c.deref-3.result.now c.args.circuit c.in-Some.ends c.deref.ensures.value c.deref-2.ensures.value c.deref-3.ensures.value c.in-Some.ensures in
    subst (λ (v : World). (CanBe v (Pump c.args.circuit) → ⊥) × (v ≡ v)) c.self.view_is
    (pump-off cs ss ks _ _ w.moment c.args.circuit c.in-Some.ends a (not-open c.in-Some.ends.server_open c.if-not-ends.true), refl)

pub index_mut-requires-2 : goal.index_mut-requires-2
index_mut-requires-2 c =
    let w = c.self.inside in
    let ks : List Joined = w.circuits.items in
    let a = ends-here w.clients.items w.servers.items ks c.deref.result.now c.deref-2.result.now c.deref-3.result.now c.args.circuit c.in-Some.ends c.deref.ensures.value c.deref-2.ensures.value c.deref-3.ensures.value c.in-Some.ensures in
    let within : c.args.circuit < length ks = At-within ks c.args.circuit a.j a.at in
    omega (arith, within)

pub pump_at-requires-clause-serves : goal.pump_at-requires-clause-serves
pump_at-requires-clause-serves c =
    let w = c.self.inside in
    let cs : List ClientSide = w.clients.items in
    let ss : List ServerSide = w.servers.items in
    let ks : List Joined = w.circuits.items in
    let cl : List (List Line) = map (λ log. map line_of log.items) w.client_logs.items in
    let sl : List (List history.Entry) = entries_in w.server_logs.items in
    let e : Ends = c.in-Some.ends in
    let k : ℕ = c.args.circuit in
    let a = ends-here cs ss ks c.deref.result.now c.deref-2.result.now c.deref-3.result.now k e c.deref.ensures.value c.deref-2.ensures.value c.deref-3.ensures.value c.in-Some.ensures in
    let y : ServerSide = c.index_mut.result.now in
    let server : At ss e.server y = found ss e.server y y (ends-server (length cs) (length ss) ks k e a) c.index_mut.ensures.value in
    let j : Joined = c.index_mut-2.result.now in
    let within : k < length ks = At-within ks k a.j a.at in
    let at : At ks k j = found ks k j j within c.index_mut-2.ensures.value in
    cut-serves cs ss ks cl sl w.moment k e a j y at server (is-open e.server_open c.if-not-ends.false) c.self.invariant.reached

pub pump_at-requires-clause-fits : goal.pump_at-requires-clause-fits
pump_at-requires-clause-fits c =
    let w = c.self.inside in
    let cs : List ClientSide = w.clients.items in
    let ss : List ServerSide = w.servers.items in
    let ks : List Joined = w.circuits.items in
    let cl : List (List Line) = map (λ log. map line_of log.items) w.client_logs.items in
    let sl : List (List history.Entry) = entries_in w.server_logs.items in
    let e : Ends = c.in-Some.ends in
    let k : ℕ = c.args.circuit in
    let a = ends-here cs ss ks c.deref.result.now c.deref-2.result.now c.deref-3.result.now k e c.deref.ensures.value c.deref-2.ensures.value c.deref-3.ensures.value c.in-Some.ensures in
    let y : ServerSide = c.index_mut.result.now in
    let server : At ss e.server y = found ss e.server y y (ends-server (length cs) (length ss) ks k e a) c.index_mut.ensures.value in
    let j : Joined = c.index_mut-2.result.now in
    pump-fits cs ss ks cl sl w.moment k e a j y server c.self.invariant.fit

pub pump_at-requires-clause-alike : goal.pump_at-requires-clause-alike
pump_at-requires-clause-alike c =
    let w = c.self.inside in
    let cs : List ClientSide = w.clients.items in
    let ss : List ServerSide = w.servers.items in
    let ks : List Joined = w.circuits.items in
    let cl : List (List Line) = map (λ log. map line_of log.items) w.client_logs.items in
    let sl : List (List history.Entry) = entries_in w.server_logs.items in
    let e : Ends = c.in-Some.ends in
    let k : ℕ = c.args.circuit in
    let a = ends-here cs ss ks c.deref.result.now c.deref-2.result.now c.deref-3.result.now k e c.deref.ensures.value c.deref-2.ensures.value c.deref-3.ensures.value c.in-Some.ensures in
    let y : ServerSide = c.index_mut.result.now in
    let server : At ss e.server y = found ss e.server y y (ends-server (length cs) (length ss) ks k e a) c.index_mut.ensures.value in
    let j : Joined = c.index_mut-2.result.now in
    let within : k < length ks = At-within ks k a.j a.at in
    let at : At ks k j = found ks k j j within c.index_mut-2.ensures.value in
    pump-alike cs ss ks cl sl w.moment k e a j y at server (is-open e.server_open c.if-not-ends.false) c.self.invariant.reached

pub returns : goal.returns
returns c =
    let w = c.self.inside in
    let cs : List ClientSide = w.clients.items in
    let ss : List ServerSide = w.servers.items in
    let ks : List Joined = w.circuits.items in
    let cl : List (List Line) = map (λ log. map line_of log.items) w.client_logs.items in
    let sl : List (List history.Entry) = entries_in w.server_logs.items in
    let e : Ends = c.in-Some.ends in
    let k : ℕ = c.args.circuit in
    let a = ends-here cs ss ks c.deref.result.now c.deref-2.result.now c.deref-3.result.now k e c.deref.ensures.value c.deref-2.ensures.value c.deref-3.ensures.value c.in-Some.ensures in
    let y : ServerSide = c.index_mut.result.now in
    let server : At ss e.server y = found ss e.server y y (ends-server (length cs) (length ss) ks k e a) c.index_mut.ensures.value in
    let j : Joined = c.index_mut-2.result.now in
    let within : k < length ks = At-within ks k a.j a.at in
    let at : At ks k j = found ks k j j within c.index_mut-2.ensures.value in
    let on = is-open e.server_open c.if-not-ends.false in
    let y' : ServerSide = c.pump_at.new.side in
    let j' : Joined = c.pump_at.new.joined in
    let sl' : List (List history.Entry) = entries_in c.pump_at.new.logs.items in
    let d = pump-by cs ss ks cl sl w.moment k e a j j' y y' sl' c.pump_at.result at server on c.self.invariant.reached c.pump_at.ensures in
    subst (λ (z : World). Does z (Pump k) c.pump_at.result (world_of cs (slice_set ss e.server y') (slice_set ks k j') cl sl' w.moment)) c.self.view_is d

pub invariant_of-self : goal.invariant_of-self
invariant_of-self c =
    let w = c.self.inside in
    let cs : List ClientSide = w.clients.items in
    let ss : List ServerSide = w.servers.items in
    let ks : List Joined = w.circuits.items in
    let cl : List (List Line) = map (λ log. map line_of log.items) w.client_logs.items in
    let sl : List (List history.Entry) = entries_in w.server_logs.items in
    let e : Ends = c.in-Some.ends in
    let k : ℕ = c.args.circuit in
    let a = ends-here cs ss ks c.deref.result.now c.deref-2.result.now c.deref-3.result.now k e c.deref.ensures.value c.deref-2.ensures.value c.deref-3.ensures.value c.in-Some.ensures in
    let y : ServerSide = c.index_mut.result.now in
    let server : At ss e.server y = found ss e.server y y (ends-server (length cs) (length ss) ks k e a) c.index_mut.ensures.value in
    let j : Joined = c.index_mut-2.result.now in
    let within : k < length ks = At-within ks k a.j a.at in
    let at : At ks k j = found ks k j j within c.index_mut-2.ensures.value in
    let on = is-open e.server_open c.if-not-ends.false in
    let y' : ServerSide = c.pump_at.new.side in
    let j' : Joined = c.pump_at.new.joined in
    let sl' : List (List history.Entry) = entries_in c.pump_at.new.logs.items in
    let d = pump-by cs ss ks cl sl w.moment k e a j j' y y' sl' c.pump_at.result at server on c.self.invariant.reached c.pump_at.ensures in
    let kept = pump-keeps k y y' j j' sl sl' c.pump_at.result c.pump_at.ensures in
    let moved = indexed-circuit (client_numbers cs) (server_numbers ss) (map joined_of ks) c.self.invariant.indexed k (joined_of j) (joined_of j') (At-map joined_of ks k j at) kept.1 in
    let indexed = indexed-server (client_numbers cs) ss e.server y y' (slice_set (map joined_of ks) k (joined_of j')) (map joined_of (slice_set ks k j')) server kept.0 (set-map joined_of ks k j') moved in
    all-stand w _ (Pump k) tt c.pump_at.result d c.self.invariant indexed
