-- A step of a server's end: what is known when it begins, and where its message stands.
use Rattle.std.proofs.Common.{◌≡◌, ℕ, ◌<◌, List, Option, Result, Ok, Err, length, get_or, sym, ap, subst, ◌∙◌, arith}
use Rattle.std.specs.Prelude.{IsErrAnd, map, slice_set, vec_len}
use Rattle.std.proofs.lemmas.List.{length-map}
use Rattle.ca_arena.specs.declared.handle.Handle.{Handle}
use Rattle.ca_ids.specs.Table.{under}
use Rattle.ca_text.specs.declared.refusal.Refusal.{Refusal}
use Rattle.ca_text.specs.declared.refusal.Refusal.TheVariants.{OutOfMemory}
use Rattle.ca_text.specs.Limits.{applied_limit}
use Rattle.ca_text.specs.Place.{At}
use Rattle.ca_text.proofs.Places.{At-map, At-one, At-within}
use Rattle.ca_wire.specs.Fields.{Fields}
use Rattle.ca_model.specs.History.{Entry}
use Rattle.ca_model.specs.Server.{Server, ServerCircuit}
use Rattle.ca_model.specs.ServerSteps.{output_of}
use Rattle.ca_model.specs.World as model
use Rattle.ca_world_data.specs.declared.joined.Joined.{Joined}
use Rattle.ca_world_data.specs.declared.server.ServerSide.{ServerSide}
use Rattle.ca_world_data.specs.Seen.{joined_of, server_of, step_of}
use Rattle.ca_world_data.proofs.Worlds.{found}
use Rattle.ca_world_servers.specs.declared.ahead.Ahead.{Ahead}
use Rattle.ca_world_servers.specs.Effects.{IsAhead}
use Rattle.ca_world.specs.declared.server_step.SteppingEnd.{SteppingEnd}
use Rattle.ca_world.specs.ServerStepping.{StepsAt}
use Rattle.ca_world.specs.StepParts.{IsAheadOf, MayBegin, MayStep, StepsServer}
use Rattle.ca_world.proofs.Downward.{at-set}
use Rattle.ca_world.proofs.Rests.{lacked}

-- ---- an end that closed

-- how many messages were handled on the circuit of this number
pub place-of : (ks : List Joined) (k : ℕ) (x : Joined) (j : model.Joined) → At ks k x → At (map joined_of ks) k j → vec_len x.lists.handled ≡ length j.lists.handled
place-of ks k x j there at =
    let one : joined_of x ≡ j = At-one (map joined_of ks) k (joined_of x) j (At-map joined_of ks k x there) at in
    x.lists.handled.ok.0 ∙ sym (length-map x.lists.handled.items step_of) ∙ ap (λ (z : model.Joined). length z.lists.handled) one

-- ---- a step without memory

-- a refusal that came of a lack of memory
pub lacks-error : (r : Result (Unit {0}) Refusal) → IsErrAnd r (λ x. x ≡ OutOfMemory) → r ≡ Err OutOfMemory
lacks-error (Ok x) h = absurd h
lacks-error (Err x) h = ap (λ (y : Refusal). Err y) h

-- all is as it was
pub lacks-kept : (k : ℕ) (y y' : ServerSide) (ks ks' : List model.Joined) (logs logs' : List (List Entry)) (r : Result (Unit {0}) Refusal) → IsErrAnd r (λ x. x ≡ OutOfMemory) → server_of y' ≡ server_of y → y'.circuits.items ≡ y.circuits.items → ks' ≡ ks → logs' ≡ logs → StepsServer k y ks logs r y' ks' logs'
lacks-kept k y y' ks ks' logs logs' r err side numbers circuits logged =
    subst (λ (z : Result (Unit {0}) Refusal). StepsServer k y ks logs z y' ks' logs') (sym (lacks-error r err)) (side, numbers, circuits, logged)

-- there are as many circuits as before
pub lacked-long : (k : ℕ) (y y' : ServerSide) (ks next : List Joined) (logs logs' : List (List Entry)) (e : Refusal) → StepsServer k y (map joined_of ks) logs (Err e) y' (map joined_of next) logs' → length next ≡ length ks
lacked-long k y y' ks next logs logs' e did =
    sym (length-map next joined_of)
    ∙ ap (λ (js : List model.Joined). length js) (lacked k y y' (map joined_of ks) (map joined_of next) logs logs' e did).2
    ∙ length-map ks joined_of

-- the one of the step is as it was
pub lacked-there : (k : ℕ) (y y' : ServerSide) (ks next : List Joined) (logs logs' : List (List Entry)) (e : Refusal) (x d : Joined) → StepsServer k y (map joined_of ks) logs (Err e) y' (map joined_of next) logs' → k < length ks → x ≡ get_or next k d → At (map joined_of ks) k (joined_of x)
lacked-there k y y' ks next logs logs' e x d did within is =
    let long : length next ≡ length ks = lacked-long k y y' ks next logs logs' e did in
    subst (λ (js : List model.Joined). At js k (joined_of x)) (lacked k y y' (map joined_of ks) (map joined_of next) logs logs' e did).2
    (At-map joined_of next k x (found next k x d (omega (arith, within, long)) is))

-- so is the core
pub lacked-core : (k : ℕ) (y y' : ServerSide) (ks ks' : List model.Joined) (logs logs' : List (List Entry)) (e : Refusal) → StepsServer k y ks logs (Err e) y' ks' logs' → y'.core ≡ y.core
lacked-core k y y' ks ks' logs logs' e did = ap (λ (z : model.ServerSide). z.core) (lacked k y y' ks ks' logs logs' e did).0

-- ---- a step that begins

-- what an index gives of a list in which one was put there
pub read-one : {A : Type 0} (xs : List A) (k : ℕ) (old new x d : A) → At xs k old → x ≡ get_or (slice_set xs k new) k d → x ≡ new
read-one xs k old new x d there is =
    let put = at-set xs k old new there in
    At-one (slice_set xs k new) k x new (found (slice_set xs k new) k x d (At-within (slice_set xs k new) k new put) is) put

may-one : (t : SteppingEnd) (core : Server) (j : model.Joined) (ks : List model.Joined) (rs : List model.RecordSide) (a : Ahead) → MayBegin t.server core j ks rs → IsAheadOf core j rs a → t.at ≡ j.at_server → t.waited ≡ length (output_of (under core.circuits t.at)) → t.applied ≡ core.applied → t.applied < applied_limit → MayStep t core j ks rs a
may-one t core j ks rs a m known here waited applied few = record {
  mine = m.mine;
  opened = m.opened;
  e = m.e;
  has = m.has;
  ahead = λ next. (let n = m.takes next in subst (λ (f : Fields). IsAhead core j.at_server rs f a) n.2 (known n.0 n.1));
  good = m.good;
  turn = record {
    here = here;
    waited = waited ∙ ap (λ (h : Handle). length (output_of (under core.circuits h))) here ∙ ap (λ (o : Option ServerCircuit). length (output_of o)) m.has;
    applied = applied;
    few = subst (λ (z : ℕ). z < applied_limit) applied few;
  };
  alike = m.alike;
  own = m.own;
  seated = m.seated;
  beside = m.beside;
  apart = m.apart;
  unstamped = m.unstamped;
}

-- what holds before anything is looked at, and what was looked at
pub may-step : (t : SteppingEnd) (core : Server) (ks ms : List model.Joined) (rs ns : List model.RecordSide) (x : model.Joined) (a : Ahead) → ms ≡ ks → ns ≡ rs → At ms t.circuit x → ((j : model.Joined) → At ks t.circuit j → MayBegin t.server core j ks rs) → IsAheadOf core x rs a → t.at ≡ x.at_server → t.waited ≡ length (output_of (under core.circuits t.at)) → t.applied ≡ core.applied → t.applied < applied_limit → (j : model.Joined) → At ms t.circuit j → MayStep t core j ms ns a
may-step t core ks ms rs ns x a is same there gives known here waited applied few j at =
    let old : At ks t.circuit x = subst (λ (z : List model.Joined). At z t.circuit x) is there in
    let may : MayStep t core x ks rs a = may-one t core x ks rs a (gives x old) known here waited applied few in
    let one : x ≡ j = At-one ms t.circuit x j there at in
    subst (λ (z : model.Joined × (List model.Joined × List model.RecordSide)). MayStep t core z.0 z.1.0 z.1.1 a) (λ n. (one n, (sym is n, sym same n))) may

-- the step of what was looked at is that of what was there
pub steps-whole : (k : ℕ) (y z : model.ServerSide) (ks ms : List model.Joined) (logs ls : List (List Entry)) (y' : model.ServerSide) (ks' : List model.Joined) (logs' : List (List Entry)) → z ≡ y → ms ≡ ks → ls ≡ logs → ((j : model.Joined) → At ms k j → StepsAt k j z ms ls y' ks' logs') → (j : model.Joined) → At ks k j → StepsAt k j y ks logs y' ks' logs'
steps-whole k y z ks ms logs ls y' ks' logs' side circuits logged h =
    subst (λ (w : model.ServerSide × (List model.Joined × List (List Entry))). (j : model.Joined) → At w.1.0 k j → StepsAt k j w.0 w.1.0 w.1.1 y' ks' logs') (λ t. (side t, (circuits t, logged t))) h
