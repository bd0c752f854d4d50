use Rattle.std.proofs.Common.{◌≡◌, ℕ, ◌<◌, length, List, refl, arith, subst}
use Rattle.std.specs.Prelude.{map, slice_set}
use Rattle.ca_text.specs.Place.{At}
use Rattle.ca_text.proofs.Places.{At-map, At-within}
use Rattle.ca_model.specs.History.{Line}
use Rattle.ca_model.specs.Events.{ServerStep}
use Rattle.ca_model.specs.Runs.{CanBe}
use Rattle.ca_model.specs.World.{World}
use Rattle.ca_model.specs.History as history
use Rattle.ca_world_data.specs.declared.client.ClientSide.{ClientSide}
use Rattle.ca_world_data.specs.declared.ends.Ends.{Ends}
use Rattle.ca_world_data.specs.declared.joined.Joined.{Joined}
use Rattle.ca_world_data.specs.declared.server.ServerSide.{ServerSide}
use Rattle.ca_world_data.specs.Does.{Does}
use Rattle.ca_world_data.specs.Indexed.{client_numbers, server_numbers}
use Rattle.ca_world_data.specs.Opening.{entries_in}
use Rattle.ca_world_data.specs.Seen.{joined_of, line_of, server_of}
use Rattle.ca_world_data.proofs.Serving.{served-of}
use Rattle.ca_world_data.proofs.Worlds.{ends-client, ends-here, ends-server, found, is-open, no-ends-here, not-open, world_of}
use Rattle.ca_world.specs.Whole.{seen}
use Rattle.ca_world.proofs.Counted.{run-counted}
use Rattle.ca_world.proofs.Lasting.{all-stand}
use Rattle.ca_world.proofs.Pumpings.{pump-none, pump-off}
use Rattle.ca_world.proofs.StepWorlds.{step-by, step-comes, step-indexed, step-may}
use Rattle.ca_world.proofs.world.World.server_step.Goals as goal

pub returns-in_default : goal.returns-in_default
returns-in_default c =
    let w = c.self.inside in
    let cs : List ClientSide = w.clients.items in
    let ss : List ServerSide = w.servers.items in
    let ks : List Joined = w.circuits.items in
    let none = no-ends-here cs ss ks c.deref.result.now c.deref-2.result.now c.deref-3.result.now c.args.circuit c.deref.ensures.value c.deref-2.ensures.value c.deref-3.ensures.value c.in_default.ensures in
    subst (λ (v : World). (CanBe v (ServerStep c.args.circuit) → ⊥) × (v ≡ v)) c.self.view_is
    (pump-none cs ss ks _ _ w.moment c.args.circuit none, refl)

pub returns-then-not-ends : goal.returns-then-not-ends
returns-then-not-ends c =
    let w = c.self.inside in
    let cs : List ClientSide = w.clients.items in
    let ss : List ServerSide = w.servers.items in
    let ks : List Joined = w.circuits.items in
    let a = ends-here cs ss ks c.deref.result.now c.deref-2.result.now c.deref-3.result.now c.args.circuit c.in-Some.ends c.deref.ensures.value c.deref-2.ensures.value c.deref-3.ensures.value c.in-Some.ensures in
    subst (λ (v : World). (CanBe v (ServerStep c.args.circuit) → ⊥) × (v ≡ v)) c.self.view_is
    (pump-off cs ss ks _ _ w.moment c.args.circuit c.in-Some.ends a (not-open c.in-Some.ends.server_open c.if-not-ends.true), refl)

pub step_or_rest-requires-clause-within : goal.step_or_rest-requires-clause-within
step_or_rest-requires-clause-within c =
    let w = c.self.inside in
    let ks : List Joined = w.circuits.items in
    let a = ends-here w.clients.items w.servers.items ks c.deref.result.now c.deref-2.result.now c.deref-3.result.now c.args.circuit c.in-Some.ends c.deref.ensures.value c.deref-2.ensures.value c.deref-3.ensures.value c.in-Some.ensures in
    let within : c.args.circuit < length ks = At-within ks c.args.circuit a.j a.at in
    omega (arith, within)

pub step_or_rest-requires-clause-served : goal.step_or_rest-requires-clause-served
step_or_rest-requires-clause-served c =
    let w = c.self.inside in
    let cs : List ClientSide = w.clients.items in
    let ss : List ServerSide = w.servers.items in
    let ks : List Joined = w.circuits.items in
    let e : Ends = c.in-Some.ends in
    let k : ℕ = c.args.circuit in
    let a = ends-here cs ss ks c.deref.result.now c.deref-2.result.now c.deref-3.result.now k e c.deref.ensures.value c.deref-2.ensures.value c.deref-3.ensures.value c.in-Some.ensures in
    let y : ServerSide = c.index_mut.result.now in
    let server : At ss e.server y = found ss e.server y y (ends-server (length cs) (length ss) ks k e a) c.index_mut.ensures.value in
    served-of (client_numbers cs) (server_numbers ss) (map joined_of ks) c.self.invariant.indexed e.server y.circuits.items (At-map (λ (z : ServerSide). z.circuits.items) ss e.server y server)

pub step_or_rest-requires-clause-may : goal.step_or_rest-requires-clause-may
step_or_rest-requires-clause-may c =
    let w = c.self.inside in
    let cs : List ClientSide = w.clients.items in
    let ss : List ServerSide = w.servers.items in
    let ks : List Joined = w.circuits.items in
    let cl : List (List Line) = map (λ log. map line_of log.items) w.client_logs.items in
    let sl : List (List history.Entry) = entries_in w.server_logs.items in
    let e : Ends = c.in-Some.ends in
    let k : ℕ = c.args.circuit in
    let a = ends-here cs ss ks c.deref.result.now c.deref-2.result.now c.deref-3.result.now k e c.deref.ensures.value c.deref-2.ensures.value c.deref-3.ensures.value c.in-Some.ensures in
    let y : ServerSide = c.index_mut.result.now in
    let server : At ss e.server y = found ss e.server y y (ends-server (length cs) (length ss) ks k e a) c.index_mut.ensures.value in
    step-may cs ss ks cl sl w.moment k e a y server (is-open e.server_open c.if-not-ends.false) c.self.invariant.reached c.self.invariant.fit

pub step_or_rest-requires-clause-counted : goal.step_or_rest-requires-clause-counted
step_or_rest-requires-clause-counted c =
    let w = c.self.inside in
    let cs : List ClientSide = w.clients.items in
    let ss : List ServerSide = w.servers.items in
    let ks : List Joined = w.circuits.items in
    let e : Ends = c.in-Some.ends in
    let k : ℕ = c.args.circuit in
    let a = ends-here cs ss ks c.deref.result.now c.deref-2.result.now c.deref-3.result.now k e c.deref.ensures.value c.deref-2.ensures.value c.deref-3.ensures.value c.in-Some.ensures in
    let y : ServerSide = c.index_mut.result.now in
    let server : At ss e.server y = found ss e.server y y (ends-server (length cs) (length ss) ks k e a) c.index_mut.ensures.value in
    (run-counted (seen w) c.self.invariant.reached).servers e.server (server_of y) (At-map server_of ss e.server y server)

pub step_or_rest-requires-clause-comes : goal.step_or_rest-requires-clause-comes
step_or_rest-requires-clause-comes c =
    let w = c.self.inside in
    let cs : List ClientSide = w.clients.items in
    let ss : List ServerSide = w.servers.items in
    let ks : List Joined = w.circuits.items in
    let cl : List (List Line) = map (λ log. map line_of log.items) w.client_logs.items in
    let sl : List (List history.Entry) = entries_in w.server_logs.items in
    let e : Ends = c.in-Some.ends in
    let k : ℕ = c.args.circuit in
    let a = ends-here cs ss ks c.deref.result.now c.deref-2.result.now c.deref-3.result.now k e c.deref.ensures.value c.deref-2.ensures.value c.deref-3.ensures.value c.in-Some.ensures in
    let x : ClientSide = c.index.result.now in
    let client : At cs e.client x = found cs e.client x x (ends-client (length cs) (length ss) ks k e a) c.index.ensures in
    let j : Joined = c.index-2.result.now in
    let here : At ks k j = found ks k j j (At-within ks k a.j a.at) c.index-2.ensures in
    let y : ServerSide = c.index_mut.result.now in
    let server : At ss e.server y = found ss e.server y y (ends-server (length cs) (length ss) ks k e a) c.index_mut.ensures.value in
    step-comes cs ss ks cl sl w.moment k e a x y j c.count_up-waiting.result client server here (is-open e.server_open c.if-not-ends.false) c.self.invariant.reached c.count_up-waiting.ensures

pub index-requires-2 : goal.index-requires-2
index-requires-2 c =
    let w = c.self.inside in
    let ks : List Joined = w.circuits.items in
    let a = ends-here w.clients.items w.servers.items ks c.deref.result.now c.deref-2.result.now c.deref-3.result.now c.args.circuit c.in-Some.ends c.deref.ensures.value c.deref-2.ensures.value c.deref-3.ensures.value c.in-Some.ensures in
    let within : c.args.circuit < length ks = At-within ks c.args.circuit a.j a.at in
    omega (arith, within)

pub returns : goal.returns
returns c =
    let w = c.self.inside in
    let cs : List ClientSide = w.clients.items in
    let ss : List ServerSide = w.servers.items in
    let ks : List Joined = w.circuits.items in
    let cl : List (List Line) = map (λ log. map line_of log.items) w.client_logs.items in
    let sl : List (List history.Entry) = entries_in w.server_logs.items in
    let e : Ends = c.in-Some.ends in
    let k : ℕ = c.args.circuit in
    let a = ends-here cs ss ks c.deref.result.now c.deref-2.result.now c.deref-3.result.now k e c.deref.ensures.value c.deref-2.ensures.value c.deref-3.ensures.value c.in-Some.ensures in
    let y : ServerSide = c.index_mut.result.now in
    let server : At ss e.server y = found ss e.server y y (ends-server (length cs) (length ss) ks k e a) c.index_mut.ensures.value in
    let on = is-open e.server_open c.if-not-ends.false in
    let y' : ServerSide = c.step_or_rest.new.side in
    let ks' : List Joined = c.step_or_rest.new.circuits.items in
    let sl' : List (List history.Entry) = entries_in c.step_or_rest.new.logs.items in
    let d = step-by cs ss ks cl sl w.moment k e a y y' ks' sl' c.step_or_rest.result server on c.step_or_rest.ensures in
    subst (λ (z : World). Does z (ServerStep k) c.step_or_rest.result (world_of cs (slice_set ss e.server y') ks' cl sl' w.moment)) c.self.view_is d

pub invariant_of-self : goal.invariant_of-self
invariant_of-self c =
    let w = c.self.inside in
    let cs : List ClientSide = w.clients.items in
    let ss : List ServerSide = w.servers.items in
    let ks : List Joined = w.circuits.items in
    let cl : List (List Line) = map (λ log. map line_of log.items) w.client_logs.items in
    let sl : List (List history.Entry) = entries_in w.server_logs.items in
    let e : Ends = c.in-Some.ends in
    let k : ℕ = c.args.circuit in
    let a = ends-here cs ss ks c.deref.result.now c.deref-2.result.now c.deref-3.result.now k e c.deref.ensures.value c.deref-2.ensures.value c.deref-3.ensures.value c.in-Some.ensures in
    let y : ServerSide = c.index_mut.result.now in
    let server : At ss e.server y = found ss e.server y y (ends-server (length cs) (length ss) ks k e a) c.index_mut.ensures.value in
    let on = is-open e.server_open c.if-not-ends.false in
    let y' : ServerSide = c.step_or_rest.new.side in
    let ks' : List Joined = c.step_or_rest.new.circuits.items in
    let sl' : List (List history.Entry) = entries_in c.step_or_rest.new.logs.items in
    let d = step-by cs ss ks cl sl w.moment k e a y y' ks' sl' c.step_or_rest.result server on c.step_or_rest.ensures in
    let indexed = step-indexed cs ss ks cl sl w.moment k e a (client_numbers cs) y y' ks' sl' c.step_or_rest.result server c.step_or_rest.ensures c.self.invariant.indexed in
    all-stand w _ (ServerStep k) tt c.step_or_rest.result d c.self.invariant indexed
