use Rattle.std.proofs.Common.{◌≡◌, ℕ, ◌+◌, ◌<◌, ◌≤◌, length, List, Some, None, arith, ap, refl, sym, subst, ◌∙◌, Vec, Global}
use Rattle.std.specs.Prelude.{map, slice_set, vec_len}
use Rattle.ca_arena.specs.declared.handle.Handle.{Handle}
use Rattle.ca_text.specs.Place.{At}
use Rattle.ca_text.proofs.Places.{At-one, At-within}
use Rattle.ca_model.specs.Client.{farewell}
use Rattle.ca_model.specs.ClientCalls.{WantedCircuit, wanted}
use Rattle.ca_model.specs.History as history
use Rattle.ca_model.specs.Events.{Accept}
use Rattle.ca_model.specs.Runs.{CanBe}
use Rattle.ca_model.specs.World.{World}
use Rattle.ca_world_data.specs.declared.client.ClientSide.{ClientSide}
use Rattle.ca_world_data.specs.declared.history.Line.{Line}
use Rattle.ca_world_data.specs.declared.joined.Joined.{Joined}
use Rattle.ca_world_data.specs.declared.server.ServerSide.{ServerSide}
use Rattle.ca_world_data.specs.Accepting.{AcceptsOn, first_served}
use Rattle.ca_world_data.specs.Does.{Does}
use Rattle.ca_world_data.specs.Indexed.{AreIndexed, client_numbers, server_numbers}
use Rattle.ca_world_data.specs.Logs.{lines_in}
use Rattle.ca_world_data.specs.Opening.{entries_in}
use Rattle.ca_world_data.specs.Seen.{joined_of}
use Rattle.ca_world_data.proofs.Accepted.{IsFirstServed, served-first}
use Rattle.ca_world_data.proofs.Worlds.{found, world_of}
use Rattle.ca_world.proofs.Accepting.{accept-few, accept-none, accepts-by, accepts-indexed}
use Rattle.ca_world.proofs.Lasting.{all-stand}
use Rattle.ca_world.proofs.world.World.accept.Goals as goal

pub returns-in_default : goal.returns-in_default
returns-in_default c =
    let w = c.self.inside in
    let cs : List ClientSide = w.clients.items in
    let ss : List ServerSide = w.servers.items in
    let i : ℕ = c.args.client in
    let x : ClientSide = c.index.result.now in
    let within : i < length cs = omega (arith, c.if-client-len.false, c.len.ensures) in
    let at : At cs i x = found cs i x x within c.index.ensures in
    let none : first_served ss (wanted x.core) ≡ None = ap (λ (z : List ServerSide). first_served z (wanted x.core)) (sym c.deref.ensures.value) ∙ sym c.first_served-first.ensures ∙ c.in_default.is in
    subst (λ (v : World). (CanBe v (Accept i) → ⊥) × (v ≡ v)) c.self.view_is
    (accept-none cs ss w.circuits.items w.client_logs.items (entries_in w.server_logs.items) w.moment i x at none, refl)

pub index_mut-requires-2 : goal.index_mut-requires-2
index_mut-requires-2 c =
    let w = c.self.inside in
    let cs : List ClientSide = w.clients.items in
    let ss : List ServerSide = w.servers.items in
    let i : ℕ = c.args.client in
    let x : ClientSide = c.index_mut.result.now in
    let within : i < length cs = omega (arith, c.if-client-len.false, c.len.ensures) in
    let at : At cs i x = found cs i x x within c.index_mut.ensures.value in
    let same : x ≡ c.index.result.now = At-one cs i x c.index.result.now at (found cs i c.index.result.now c.index.result.now within c.index.ensures) in
    let v : WantedCircuit = c.in-Some.found.0 in
    let s : ℕ = c.in-Some.found.1 in
    let some : first_served ss (wanted x.core) ≡ Some (v, s) =
    ap (λ (z : ClientSide). first_served ss (wanted z.core)) same
    ∙ ap (λ (z : List ServerSide). first_served z (wanted c.index.result.now.core)) (sym c.deref.ensures.value)
    ∙ sym c.first_served-first.ensures ∙ c.in-Some.is in
    let f : IsFirstServed ss (wanted x.core) v s = served-first ss (wanted x.core) v s some in
    let handle : c.found.inside.0.0.circuit ≡ v.circuit = ap (λ (z : WantedCircuit × ℕ). z.0.circuit) c.found.view_is in
    let number : c.found.inside.0.1.0 ≡ s = ap (λ (z : WantedCircuit × ℕ). z.1) c.found.view_is in
    let inside : s < length ss = At-within ss s f.y f.there in
    let wide : s < vec_len w.servers = omega (arith, inside) in
    subst (λ (n : ℕ). n < vec_len w.servers) (sym number) wide

pub accept_on-requires : goal.accept_on-requires
accept_on-requires c =
    let w = c.self.inside in
    let cs : List ClientSide = w.clients.items in
    let ss : List ServerSide = w.servers.items in
    let i : ℕ = c.args.client in
    let x : ClientSide = c.index_mut.result.now in
    let within : i < length cs = omega (arith, c.if-client-len.false, c.len.ensures) in
    let at : At cs i x = found cs i x x within c.index_mut.ensures.value in
    let same : x ≡ c.index.result.now = At-one cs i x c.index.result.now at (found cs i c.index.result.now c.index.result.now within c.index.ensures) in
    let v : WantedCircuit = c.in-Some.found.0 in
    let s : ℕ = c.in-Some.found.1 in
    let some : first_served ss (wanted x.core) ≡ Some (v, s) =
    ap (λ (z : ClientSide). first_served ss (wanted z.core)) same
    ∙ ap (λ (z : List ServerSide). first_served z (wanted c.index.result.now.core)) (sym c.deref.ensures.value)
    ∙ sym c.first_served-first.ensures ∙ c.in-Some.is in
    let f : IsFirstServed ss (wanted x.core) v s = served-first ss (wanted x.core) v s some in
    let handle : c.found.inside.0.0.circuit ≡ v.circuit = ap (λ (z : WantedCircuit × ℕ). z.0.circuit) c.found.view_is in
    let number : c.found.inside.0.1.0 ≡ s = ap (λ (z : WantedCircuit × ℕ). z.1) c.found.view_is in
    record {
      few =
          subst (λ (h : Handle). length (farewell h x.core) ≤ length x.names.requests.items + length x.names.channels.items) (sym handle)
          (accept-few cs ss w.circuits.items w.client_logs.items (entries_in w.server_logs.items) w.moment i x v s at f c.self.invariant.reached c.self.invariant.quiet);
    }

pub returns : goal.returns
returns c =
    let w = c.self.inside in
    let cs : List ClientSide = w.clients.items in
    let ss : List ServerSide = w.servers.items in
    let i : ℕ = c.args.client in
    let x : ClientSide = c.index_mut.result.now in
    let within : i < length cs = omega (arith, c.if-client-len.false, c.len.ensures) in
    let at : At cs i x = found cs i x x within c.index_mut.ensures.value in
    let same : x ≡ c.index.result.now = At-one cs i x c.index.result.now at (found cs i c.index.result.now c.index.result.now within c.index.ensures) in
    let v : WantedCircuit = c.in-Some.found.0 in
    let s : ℕ = c.in-Some.found.1 in
    let some : first_served ss (wanted x.core) ≡ Some (v, s) =
    ap (λ (z : ClientSide). first_served ss (wanted z.core)) same
    ∙ ap (λ (z : List ServerSide). first_served z (wanted c.index.result.now.core)) (sym c.deref.ensures.value)
    ∙ sym c.first_served-first.ensures ∙ c.in-Some.is in
    let f : IsFirstServed ss (wanted x.core) v s = served-first ss (wanted x.core) v s some in
    let handle : c.found.inside.0.0.circuit ≡ v.circuit = ap (λ (z : WantedCircuit × ℕ). z.0.circuit) c.found.view_is in
    let number : c.found.inside.0.1.0 ≡ s = ap (λ (z : WantedCircuit × ℕ). z.1) c.found.view_is in
    let ks : List Joined = w.circuits.items in
    let cl : List (Vec Line Global) = w.client_logs.items in
    let sl : List (List history.Entry) = entries_in w.server_logs.items in
    let n : ℕ = c.found.inside.0.1.0 in
    let y : ServerSide = c.index_mut-2.result.now in
    let inside : n < length ss = subst (λ (k : ℕ). k < length ss) (sym number) (At-within ss s f.y f.there) in
    let server : At ss s y = subst (λ (k : ℕ). At ss k y) number (found ss n y y inside c.index_mut-2.ensures.value) in
    let is : y ≡ f.y = At-one ss s y f.y server f.there in
    let x' : ClientSide = c.accept_on.new.side in
    let y' : ServerSide = c.accept_on.new.there in
    let ks' : List Joined = c.accept_on.new.circuits.items in
    let cl' : List (Vec Line Global) = c.accept_on.new.logs.items in
    let on : AcceptsOn i s v.circuit x f.y ks cl c.accept_on.result x' y' ks' cl' =
    subst (λ (z : ℕ × (Handle × ServerSide)). AcceptsOn i z.0 z.1.0 x z.1.1 ks cl c.accept_on.result x' y' ks' cl') (λ t. (number t, (handle t, is t))) c.accept_on.ensures in
    let d : Does (world_of cs ss ks (lines_in cl) sl w.moment) (Accept i) c.accept_on.result (world_of (slice_set cs i x') (slice_set ss n y') ks' (lines_in cl') sl w.moment) =
    subst (λ (k : ℕ). Does (world_of cs ss ks (lines_in cl) sl w.moment) (Accept i) c.accept_on.result (world_of (slice_set cs i x') (slice_set ss k y') ks' (lines_in cl') sl w.moment)) (sym number)
    (accepts-by cs ss ks cl sl w.moment i x v s at f x' y' ks' cl' c.accept_on.result c.self.invariant.clients on) in
    subst (λ (z : World). Does z (Accept i) c.accept_on.result (world_of (slice_set cs i x') (slice_set ss n y') ks' (lines_in cl') sl w.moment)) c.self.view_is d

pub invariant_of-self : goal.invariant_of-self
invariant_of-self c =
    let w = c.self.inside in
    let cs : List ClientSide = w.clients.items in
    let ss : List ServerSide = w.servers.items in
    let i : ℕ = c.args.client in
    let x : ClientSide = c.index_mut.result.now in
    let within : i < length cs = omega (arith, c.if-client-len.false, c.len.ensures) in
    let at : At cs i x = found cs i x x within c.index_mut.ensures.value in
    let same : x ≡ c.index.result.now = At-one cs i x c.index.result.now at (found cs i c.index.result.now c.index.result.now within c.index.ensures) in
    let v : WantedCircuit = c.in-Some.found.0 in
    let s : ℕ = c.in-Some.found.1 in
    let some : first_served ss (wanted x.core) ≡ Some (v, s) =
    ap (λ (z : ClientSide). first_served ss (wanted z.core)) same
    ∙ ap (λ (z : List ServerSide). first_served z (wanted c.index.result.now.core)) (sym c.deref.ensures.value)
    ∙ sym c.first_served-first.ensures ∙ c.in-Some.is in
    let f : IsFirstServed ss (wanted x.core) v s = served-first ss (wanted x.core) v s some in
    let handle : c.found.inside.0.0.circuit ≡ v.circuit = ap (λ (z : WantedCircuit × ℕ). z.0.circuit) c.found.view_is in
    let number : c.found.inside.0.1.0 ≡ s = ap (λ (z : WantedCircuit × ℕ). z.1) c.found.view_is in
    let ks : List Joined = w.circuits.items in
    let cl : List (Vec Line Global) = w.client_logs.items in
    let sl : List (List history.Entry) = entries_in w.server_logs.items in
    let n : ℕ = c.found.inside.0.1.0 in
    let y : ServerSide = c.index_mut-2.result.now in
    let inside : n < length ss = subst (λ (k : ℕ). k < length ss) (sym number) (At-within ss s f.y f.there) in
    let server : At ss s y = subst (λ (k : ℕ). At ss k y) number (found ss n y y inside c.index_mut-2.ensures.value) in
    let is : y ≡ f.y = At-one ss s y f.y server f.there in
    let x' : ClientSide = c.accept_on.new.side in
    let y' : ServerSide = c.accept_on.new.there in
    let ks' : List Joined = c.accept_on.new.circuits.items in
    let cl' : List (Vec Line Global) = c.accept_on.new.logs.items in
    let on : AcceptsOn i s v.circuit x f.y ks cl c.accept_on.result x' y' ks' cl' =
    subst (λ (z : ℕ × (Handle × ServerSide)). AcceptsOn i z.0 z.1.0 x z.1.1 ks cl c.accept_on.result x' y' ks' cl') (λ t. (number t, (handle t, is t))) c.accept_on.ensures in
    let d : Does (world_of cs ss ks (lines_in cl) sl w.moment) (Accept i) c.accept_on.result (world_of (slice_set cs i x') (slice_set ss n y') ks' (lines_in cl') sl w.moment) =
    subst (λ (k : ℕ). Does (world_of cs ss ks (lines_in cl) sl w.moment) (Accept i) c.accept_on.result (world_of (slice_set cs i x') (slice_set ss k y') ks' (lines_in cl') sl w.moment)) (sym number)
    (accepts-by cs ss ks cl sl w.moment i x v s at f x' y' ks' cl' c.accept_on.result c.self.invariant.clients on) in
    let indexed : AreIndexed (client_numbers (slice_set cs i x')) (server_numbers (slice_set ss n y')) (map joined_of ks') =
    subst (λ (k : ℕ). AreIndexed (client_numbers (slice_set cs i x')) (server_numbers (slice_set ss k y')) (map joined_of ks')) (sym number)
    (accepts-indexed cs ss ks cl sl w.moment i x v s at f x' y' ks' cl' c.accept_on.result c.self.invariant.clients c.self.invariant.reached on c.self.invariant.indexed) in
    all-stand w _ (Accept i) tt c.accept_on.result d c.self.invariant indexed
