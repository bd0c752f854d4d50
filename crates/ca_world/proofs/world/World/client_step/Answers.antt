use Rattle.std.proofs.Common.{◌≡◌, ℕ, ◌<◌, length, List, refl, arith, subst}
use Rattle.std.specs.Prelude.{map, slice_set}
use Rattle.ca_text.specs.Place.{At}
use Rattle.ca_text.proofs.Places.{At-map, At-within}
use Rattle.ca_model.specs.Events.{ClientStep}
use Rattle.ca_model.specs.Runs.{CanBe}
use Rattle.ca_model.specs.World as model
use Rattle.ca_world_data.specs.declared.client.ClientSide.{ClientSide}
use Rattle.ca_world_data.specs.declared.ends.Ends.{Ends}
use Rattle.ca_world_data.specs.declared.joined.Joined.{Joined}
use Rattle.ca_world_data.specs.declared.server.ServerSide.{ServerSide}
use Rattle.ca_world_data.specs.Does.{Does}
use Rattle.ca_world_data.specs.Logs.{lines_in}
use Rattle.ca_world_data.specs.Seen.{client_of, joined_of}
use Rattle.ca_world_data.proofs.Worlds.{ends-client, ends-here, ends-server, found, is-open, no-ends-here, not-open}
use Rattle.ca_world.specs.Whole.{seen}
use Rattle.ca_world.proofs.ClientSteppings.{here-few, here-lives, hears-there, step-none, step-off, step-there}
use Rattle.ca_world.proofs.Speeches.{numbered-here, speaks, speaks-stand}
use Rattle.ca_world.proofs.world.World.client_step.Goals as goal

pub returns-in_default : goal.returns-in_default
returns-in_default c =
    let w = c.self.inside in
    let cs : List ClientSide = w.clients.items in
    let ss : List ServerSide = w.servers.items in
    let ks : List Joined = w.circuits.items in
    let none = no-ends-here cs ss ks c.deref.result.now c.deref-2.result.now c.deref-3.result.now c.args.circuit c.deref.ensures.value c.deref-2.ensures.value c.deref-3.ensures.value c.in_default.ensures in
    subst (λ (v : model.World). (CanBe v (ClientStep c.args.circuit) → ⊥) × (v ≡ v)) c.self.view_is
    (step-none cs ss ks _ _ w.moment c.args.circuit none, refl)

pub returns-then-not-ends : goal.returns-then-not-ends
returns-then-not-ends c =
    let w = c.self.inside in
    let cs : List ClientSide = w.clients.items in
    let ss : List ServerSide = w.servers.items in
    let ks : List Joined = w.circuits.items in
    let a = ends-here cs ss ks c.deref.result.now c.deref-2.result.now c.deref-3.result.now c.args.circuit c.in-Some.ends c.deref.ensures.value c.deref-2.ensures.value c.deref-3.ensures.value c.in-Some.ensures in
    subst (λ (v : model.World). (CanBe v (ClientStep c.args.circuit) → ⊥) × (v ≡ v)) c.self.view_is
    (step-off cs ss ks _ _ w.moment c.args.circuit c.in-Some.ends a (not-open c.in-Some.ends.client_open c.if-not-ends.true), refl)

pub step_or_rest-requires-clause-there : goal.step_or_rest-requires-clause-there
step_or_rest-requires-clause-there c =
    let w = c.self.inside in
    let ks : List Joined = w.circuits.items in
    let a = ends-here w.clients.items w.servers.items ks c.deref.result.now c.deref-2.result.now c.deref-3.result.now c.args.circuit c.in-Some.ends c.deref.ensures.value c.deref-2.ensures.value c.deref-3.ensures.value c.in-Some.ensures in
    At-within ks c.args.circuit a.j a.at

pub step_or_rest-requires-clause-numbered : goal.step_or_rest-requires-clause-numbered
step_or_rest-requires-clause-numbered c =
    let w = c.self.inside in
    let cs : List ClientSide = w.clients.items in
    let ss : List ServerSide = w.servers.items in
    let ks : List Joined = w.circuits.items in
    let e : Ends = c.in-Some.ends in
    let a = ends-here cs ss ks c.deref.result.now c.deref-2.result.now c.deref-3.result.now c.args.circuit e c.deref.ensures.value c.deref-2.ensures.value c.deref-3.ensures.value c.in-Some.ensures in
    let x : ClientSide = c.index_mut.result.now in
    let client : At cs e.client x = found cs e.client x x (ends-client (length cs) (length ss) ks c.args.circuit e a) c.index_mut.ensures.value in
    numbered-here w e.client x client c.self.invariant

pub step_or_rest-requires-clause-lives : goal.step_or_rest-requires-clause-lives
step_or_rest-requires-clause-lives c =
    let w = c.self.inside in
    let cs : List ClientSide = w.clients.items in
    let ss : List ServerSide = w.servers.items in
    let ks : List Joined = w.circuits.items in
    let e : Ends = c.in-Some.ends in
    let a = ends-here cs ss ks c.deref.result.now c.deref-2.result.now c.deref-3.result.now c.args.circuit e c.deref.ensures.value c.deref-2.ensures.value c.deref-3.ensures.value c.in-Some.ensures in
    let x : ClientSide = c.index_mut.result.now in
    let client : At cs e.client x = found cs e.client x x (ends-client (length cs) (length ss) ks c.args.circuit e a) c.index_mut.ensures.value in
    here-lives w e.client x client c.self.invariant

pub step_or_rest-requires-clause-meant : goal.step_or_rest-requires-clause-meant
step_or_rest-requires-clause-meant c =
    let w = c.self.inside in
    let cs : List ClientSide = w.clients.items in
    let ss : List ServerSide = w.servers.items in
    let ks : List Joined = w.circuits.items in
    let e : Ends = c.in-Some.ends in
    let a = ends-here cs ss ks c.deref.result.now c.deref-2.result.now c.deref-3.result.now c.args.circuit e c.deref.ensures.value c.deref-2.ensures.value c.deref-3.ensures.value c.in-Some.ensures in
    let x : ClientSide = c.index_mut.result.now in
    let client : At cs e.client x = found cs e.client x x (ends-client (length cs) (length ss) ks c.args.circuit e a) c.index_mut.ensures.value in
    c.self.invariant.named e.client (client_of x) (At-map client_of cs e.client x client)

pub step_or_rest-requires-clause-few : goal.step_or_rest-requires-clause-few
step_or_rest-requires-clause-few c =
    let w = c.self.inside in
    let cs : List ClientSide = w.clients.items in
    let ss : List ServerSide = w.servers.items in
    let ks : List Joined = w.circuits.items in
    let e : Ends = c.in-Some.ends in
    let a = ends-here cs ss ks c.deref.result.now c.deref-2.result.now c.deref-3.result.now c.args.circuit e c.deref.ensures.value c.deref-2.ensures.value c.deref-3.ensures.value c.in-Some.ensures in
    let x : ClientSide = c.index_mut.result.now in
    let client : At cs e.client x = found cs e.client x x (ends-client (length cs) (length ss) ks c.args.circuit e a) c.index_mut.ensures.value in
    here-few w e.client x client c.self.invariant c.args.circuit (map joined_of ks)

pub step_or_rest-requires-clause-comes : goal.step_or_rest-requires-clause-comes
step_or_rest-requires-clause-comes c =
    let w = c.self.inside in
    let cs : List ClientSide = w.clients.items in
    let ss : List ServerSide = w.servers.items in
    let ks : List Joined = w.circuits.items in
    let e : Ends = c.in-Some.ends in
    let k : ℕ = c.args.circuit in
    let a = ends-here cs ss ks c.deref.result.now c.deref-2.result.now c.deref-3.result.now k e c.deref.ensures.value c.deref-2.ensures.value c.deref-3.ensures.value c.in-Some.ensures in
    let y : ServerSide = c.index.result.now in
    let server : At ss e.server y = found ss e.server y y (ends-server (length cs) (length ss) ks k e a) c.index.ensures in
    let j : Joined = c.index-2.result.now in
    let here : At ks k j = found ks k j j (At-within ks k a.j a.at) c.index-2.ensures in
    let x : ClientSide = c.index_mut.result.now in
    let client : At cs e.client x = found cs e.client x x (ends-client (length cs) (length ss) ks k e a) c.index_mut.ensures.value in
    hears-there w k e a x y j c.count_down-waiting.result client server here (is-open e.client_open c.if-not-ends.false) c.self.invariant c.count_down-waiting.ensures

pub index-requires-2 : goal.index-requires-2
index-requires-2 c =
    let w = c.self.inside in
    let ks : List Joined = w.circuits.items in
    let a = ends-here w.clients.items w.servers.items ks c.deref.result.now c.deref-2.result.now c.deref-3.result.now c.args.circuit c.in-Some.ends c.deref.ensures.value c.deref-2.ensures.value c.deref-3.ensures.value c.in-Some.ensures in
    let within : c.args.circuit < length ks = At-within ks c.args.circuit a.j a.at in
    omega (arith, within)

pub returns : goal.returns
returns c =
    let w = c.self.inside in
    let k : ℕ = c.args.circuit in
    let cs : List ClientSide = w.clients.items in
    let ss : List ServerSide = w.servers.items in
    let ks : List Joined = w.circuits.items in
    let e : Ends = c.in-Some.ends in
    let a = ends-here cs ss ks c.deref.result.now c.deref-2.result.now c.deref-3.result.now k e c.deref.ensures.value c.deref-2.ensures.value c.deref-3.ensures.value c.in-Some.ensures in
    let x : ClientSide = c.index_mut.result.now in
    let x' : ClientSide = c.step_or_rest.new.side in
    let logs = lines_in c.step_or_rest.new.logs.items in
    let next = map joined_of c.step_or_rest.new.circuits.items in
    let client : At cs e.client x = found cs e.client x x (ends-client (length cs) (length ss) ks k e a) c.index_mut.ensures.value in
    let on = is-open e.client_open c.if-not-ends.false in
    let d = (step-there w k e a x x' logs next c.step_or_rest.result client on c.step_or_rest.ensures.steps).0 in
    subst (λ (z : model.World). Does z (ClientStep k) c.step_or_rest.result (record (seen w) { clients = map client_of (slice_set cs e.client x'); client_logs = logs; circuits = next })) c.self.view_is
    (speaks w e.client x client c.self.invariant (ClientStep k) c.step_or_rest.result x' logs next d)

pub invariant_of-self : goal.invariant_of-self
invariant_of-self c =
    let w = c.self.inside in
    let k : ℕ = c.args.circuit in
    let cs : List ClientSide = w.clients.items in
    let ss : List ServerSide = w.servers.items in
    let ks : List Joined = w.circuits.items in
    let e : Ends = c.in-Some.ends in
    let a = ends-here cs ss ks c.deref.result.now c.deref-2.result.now c.deref-3.result.now k e c.deref.ensures.value c.deref-2.ensures.value c.deref-3.ensures.value c.in-Some.ensures in
    let x : ClientSide = c.index_mut.result.now in
    let x' : ClientSide = c.step_or_rest.new.side in
    let logs = lines_in c.step_or_rest.new.logs.items in
    let next = map joined_of c.step_or_rest.new.circuits.items in
    let client : At cs e.client x = found cs e.client x x (ends-client (length cs) (length ss) ks k e a) c.index_mut.ensures.value in
    let on = is-open e.client_open c.if-not-ends.false in
    let both = step-there w k e a x x' logs next c.step_or_rest.result client on c.step_or_rest.ensures.steps in
    speaks-stand w e.client x client c.self.invariant (ClientStep k) c.step_or_rest.result x' logs next both.0 tt _ refl c.step_or_rest.ensures.kept refl refl both.1
