-- A step of a server's end in a world: what the world gives for it, and what it leaves.
use Rattle.std.proofs.Common.{◌≡◌, ℕ, inl, inr, Bool, true, List, Option, Some, None, Result, Ok, Err, length, refl, sym, ap, subst, ◌∙◌}
use Rattle.std.specs.Prelude.{map, option_map, slice_get, slice_set, unwrap_or}
use Rattle.std.specs.Str.{bytes_eq}
use Rattle.std.proofs.lemmas.List.{length-map}
use Rattle.std.proofs.lemmas.Slice.Eq.{bytes_eq-Decides}
use Rattle.ca_arena.specs.declared.handle.Handle.{Handle}
use Rattle.ca_records.specs.Puts.{Record, record_named}
use Rattle.ca_text.specs.declared.refusal.Refusal.{Refusal}
use Rattle.ca_text.specs.declared.refusal.Refusal.TheVariants.{OutOfMemory}
use Rattle.ca_text.specs.Place.{At}
use Rattle.ca_text.proofs.Places.{At-map, At-one}
use Rattle.ca_wire.specs.Fields.{Fields}
use Rattle.ca_model.specs.Due.{Action, Adds, Applies, Clears, Drops, Opens, Switches}
use Rattle.ca_model.specs.History.{Entry, Line, Step}
use Rattle.ca_model.specs.Server.{Server, ServerCircuit, ServerEnd}
use Rattle.ca_model.specs.ServerSteps.{HasEnd, closed, write_mask}
use Rattle.ca_model.specs.ClientEvents.{waiting_up}
use Rattle.ca_model.specs.Events.{ServerStep}
use Rattle.ca_model.specs.Runs.{HasServerEnd}
use Rattle.ca_model.specs.ServerEvents.{HappensServerStep, ending, ends_by, ends_here, handled_at, numbers_after, write_numbers}
use Rattle.ca_model.specs.World as model
use Rattle.ca_model.proofs.Tables.{at-find, find-at}
use Rattle.ca_laws_parts.proofs.BytesRuns.{takes-sent}
use Rattle.ca_laws_parts.proofs.BytesRuns as runs
use Rattle.ca_laws_parts.proofs.BytesServerCalls.{next-fits}
use Rattle.ca_laws_parts.specs.ServerFits.{ServersFit}
use Rattle.ca_laws_parts.specs.Moves.{Lives}
use Rattle.ca_server_core.specs.ForHistories.{AreNamedApart}
use Rattle.ca_world_data.specs.declared.client.ClientSide.{ClientSide}
use Rattle.ca_world_data.specs.declared.ends.Ends.{Ends}
use Rattle.ca_world_data.specs.declared.joined.Joined.{Joined}
use Rattle.ca_world_data.specs.declared.server.ServerSide.{ServerSide}
use Rattle.ca_world_data.specs.Does.{Does}
use Rattle.ca_world_data.specs.Ends.{AreEnds}
use Rattle.ca_world_data.specs.Indexed.{AreIndexed, server_numbers}
use Rattle.ca_world_data.specs.Numbering.{AllAlike, IsAlike}
use Rattle.ca_world_data.specs.Seen.{client_of, joined_of, record_of, server_of}
use Rattle.ca_world_data.specs.ServerCuts.{IsServing}
use Rattle.ca_world_data.proofs.Indexes.{KeepsEnds, ends-stay, indexed-circuit, indexed-map, indexed-server}
use Rattle.ca_world_data.proofs.Worlds.{joins, one-at, server-stays, set-map, world_of}
use Rattle.ca_world_servers.specs.Parting.{AreBeside}
use Rattle.ca_world.specs.Adding.{AreInOrder}
use Rattle.ca_world.specs.ServerStepping.{LacksAs, Quits, StepsAt, circuits_acted, circuits_noted}
use Rattle.ca_world.specs.Resting.{ComesUp, StepsOrRests}
use Rattle.ca_world.specs.StepParts.{MayBegin}
use Rattle.ca_world.specs.Whole.{IsReached}
use Rattle.ca_world.proofs.Additions.{others-apart, run-order}
use Rattle.ca_world.proofs.Cuttings.{run-stands, serves-there}
use Rattle.ca_world.proofs.Postings.{ending-keeps, posted-keeps, run-alike}
use Rattle.ca_world.proofs.Rests.{run-comes}
use Rattle.ca_world.proofs.Seating.{run-seated}
use Rattle.ca_world.proofs.StepLaws.{step-happens}
use Rattle.ca_world.proofs.Counted.{run-unstamped}

-- ---- records

-- a record is found under its name
named-at : (cs : List Record) (name : List ℕ) (i : ℕ) (c : Record) → AreNamedApart cs → At cs i c → c.state.name ≡ name → record_named cs name ≡ Some c
named-at cs name i c apart at named =
    let test = λ (r : Record). bytes_eq r.state.name name in
    let f = at-find test cs i c at ((bytes_eq-Decides c.state.name name).1 named) in
    let d = find-at test cs f.0 f.1 in
    let is_name : f.0.state.name ≡ name = (bytes_eq-Decides f.0.state.name name).0 d.2 in
    let place : d.0 ≡ i = apart d.0 i f.0 c d.1 at (is_name ∙ sym named) in
    let same : f.0 ≡ c = At-one cs i f.0 c (subst (λ (n : ℕ). At cs n f.0) place d.1) at in
    f.1 ∙ ap (λ (r : Record). Some r) same

-- records in order are beside each other
beside-by : (cs : List Record) (rs : List model.RecordSide) → AreInOrder cs rs → AreBeside cs rs
beside-by cs rs order = record {
  each = λ i c r at to.
      let there : At (map (λ (z : model.RecordSide). z.name) rs) i c.state.name = subst (λ (ns : List (List ℕ)). At ns i c.state.name) order.like (At-map (λ (z : Record). z.state.name) cs i c at) in
      let same : c.state.name ≡ r.name = At-one (map (λ (z : model.RecordSide). z.name) rs) i c.state.name r.name there (At-map (λ (z : model.RecordSide). z.name) rs i r to) in
      named-at cs r.name i c order.apart at same;
  long = sym (length-map cs (λ (c : Record). c.state.name)) ∙ ap length order.like ∙ length-map rs (λ (r : model.RecordSide). r.name);
}

-- ---- in every run

-- what a step of an open end needs of the world
pub run-may-begin : (w : model.World) (k : ℕ) (j : model.Joined) (y : model.ServerSide) → IsReached w → ServersFit w → At w.circuits k j → At w.servers j.server y → j.lists.server_open ≡ true
    → MayBegin j.server y.core j w.circuits y.records
run-may-begin w k j y reached fit at server on =
    let s = run-stands w reached in
    let serves : IsServing y.core j.at_server = serves-there w k j y reached at server on in
    let e : ServerEnd = serves.0 in
    let has : HasEnd y.core j.at_server e = serves.1 in
    let all : AllAlike j.server y.core w.circuits = run-alike w j.server y reached server in
    let l : Lives w j.server y = (runs.reached w (reached.0, reached.1, None, reached.2, (w, reached.3, refl))).1.sound.writes.lives j.server y server in
    record {
      mine = refl;
      opened = on;
      e = e;
      has = has;
      takes = λ next. takes-sent w s.1.streams s.1.fit.sent k j y e next.m next.rest at server on has next.takes;
      good = λ next. (next-fits y.core j.at_server e has (fit.cores j.server y server) next).0;
      alike = all;
      own = subst (λ (o : Option ServerCircuit). IsAlike o j) has (all k j at refl on);
      seated = run-seated w j.server reached k j at refl on;
      beside = beside-by y.core.records y.records (run-order w j.server y reached server);
      apart = others-apart y.records l.life.others;
      unstamped = run-unstamped w reached j.server y server;
    }

-- ---- circuits keep their ends

numbers-keep : (place : ℕ) (action : Action) (j : model.Joined) → KeepsEnds j (numbers_after place action j)
numbers-keep place (Adds s) j = record { client = refl; server = refl; at_client = refl; at_server = refl; closes = λ on. on; stops = λ on. on }
numbers-keep place (Opens c) j = record { client = refl; server = refl; at_client = refl; at_server = refl; closes = λ on. on; stops = λ on. on }
numbers-keep place (Drops key) j = record { client = refl; server = refl; at_client = refl; at_server = refl; closes = λ on. on; stops = λ on. on }
numbers-keep place (Clears sid) j = record { client = refl; server = refl; at_client = refl; at_server = refl; closes = λ on. on; stops = λ on. on }
numbers-keep place (Switches on) j = record { client = refl; server = refl; at_client = refl; at_server = refl; closes = λ on. on; stops = λ on. on }
numbers-keep place action j = ends-stay j j refl

write-keeps : (i : ℕ) (core : Server) (action : Action) (j : model.Joined) → KeepsEnds j (write_numbers i core action j)
write-keeps i core (Applies name value busies) j = posted-keeps i core name write_mask j
write-keeps i core action j = ends-stay j j refl

handled-keeps : (place : ℕ) (step : Step) (replies : List Fields) (j : model.Joined) → KeepsEnds j (handled_at place step replies j)
handled-keeps place step replies j = record { client = refl; server = refl; at_client = refl; at_server = refl; closes = λ on. on; stops = λ on. on }

module _ (numbers own : List (List ℕ)) (k : ℕ) (j : model.Joined) (y : model.ServerSide) (ks : List model.Joined) (logs : List (List Entry)) (at : At ks k j) (h : AreIndexed numbers own ks) where
  acted-indexed : (action : Action) → AreIndexed numbers own (circuits_acted k j y action ks)
  acted-indexed action =
      let here : model.Joined = numbers_after (length j.lists.handled) action j in
      indexed-map numbers own (slice_set ks k here) (indexed-circuit numbers own ks h k j here at (numbers-keep (length j.lists.handled) action j)) (write_numbers j.server y.core action) (write-keeps j.server y.core action)

  quits-indexed : (ends : model.Joined → Option (List ℕ)) (core : Server) (z y' : model.ServerSide) (rs : List model.RecordSide) (mid ks' : List model.Joined) (was logs' : List (List Entry)) → Quits ends core z rs mid was y' ks' logs' → AreIndexed numbers own mid → AreIndexed numbers own ks'
  quits-indexed ends core z y' rs mid ks' was logs' q m =
      subst (λ (xs : List model.Joined). AreIndexed numbers own xs) (sym q.circuits) (indexed-map numbers own mid m (ending ends) (ending-keeps ends))

  noted-indexed : (replies : List Fields) (logs' : List (List Entry)) (mid : List model.Joined) → AreIndexed numbers own mid → AreIndexed numbers own (circuits_noted k j y replies logs logs' mid)
  noted-indexed replies logs' mid m = go (slice_get mid k) refl
    where
      step : Step
      step = record { sent = length j.lists.down; logged = model.log_length y.life logs; after = model.log_length y.life logs' }

      go : (o : Option model.Joined) → slice_get mid k ≡ o → AreIndexed numbers own (unwrap_or (option_map (λ (c : model.Joined). slice_set mid k (handled_at (length j.lists.handled) step replies c)) o) mid)
      go None is = m
      go (Some c) is = indexed-circuit numbers own mid m k c (handled_at (length j.lists.handled) step replies c) is (handled-keeps (length j.lists.handled) step replies c)

  -- circuits are found as before
  pub steps-indexed : (y' : model.ServerSide) (ks' : List model.Joined) (logs' : List (List Entry)) → StepsAt k j y ks logs y' ks' logs' → AreIndexed numbers own ks'
  steps-indexed y' ks' logs' (inl d) =
      let action : Action = d.steps.0.action in
      let mid : AreIndexed numbers own d.mid = quits-indexed (ends_by j.server d.core) d.core y y' _ (circuits_acted k j y action ks) d.mid _ logs' d.quits (acted-indexed action) in
      subst (λ (xs : List model.Joined). AreIndexed numbers own xs) (sym d.noted) (noted-indexed d.steps.0.replies logs' d.mid mid)
  steps-indexed y' ks' logs' (inr (inl d)) = go d.lacks.written d.quits
    where
      go : (o : Option (Handle → Bool)) → LacksAs k j y d.lacks.next o d.e.link.output d.core ks logs y' ks' logs' → AreIndexed numbers own ks'
      go None q = quits-indexed (ends_here j d.e.link.output j.server d.core) d.core y y' _ ks ks' _ logs' q h
      go (Some gone) q = quits-indexed (ends_here j d.e.link.output j.server d.core) d.core y y' _ (circuits_acted k j y d.lacks.next.action ks) ks' _ logs' q (acted-indexed d.lacks.next.action)
  steps-indexed y' ks' logs' (inr (inr (inl d))) = quits-indexed (ends_here j d.left j.server y.core) (closed j.at_server y.core) y y' _ ks ks' _ logs' d.quits h
  steps-indexed y' ks' logs' (inr (inr (inr d))) = subst (λ (xs : List model.Joined). AreIndexed numbers own xs) (sym d.circuits) h

-- ---- a world after it

module _ (cs : List ClientSide) (ss : List ServerSide) (ks : List Joined) (cl : List (List Line)) (sl : List (List Entry)) (m : ℕ) where
  abbrev w : model.World
  w = world_of cs ss ks cl sl m

  module _ (k : ℕ) (j : Joined) (x : ClientSide) (y : ServerSide) (at : At ks k j) (client : At cs j.client x) (server : At ss j.server y) (on : j.lists.server_open ≡ true) where
    abbrev there : HasServerEnd w k
    there = record { j = joined_of j; x = client_of x; y = server_of y; joins = joins cs ss ks cl sl m k j x y at client server; is_open = on }

    step-there : (y' : ServerSide) (ks' : List Joined) (sl' : List (List Entry)) (r : Result (Unit {0}) Refusal) → StepsOrRests k y (map joined_of ks) sl r y' (map joined_of ks') sl'
        → Does w (ServerStep k) r (world_of cs (slice_set ss j.server y') ks' cl sl' m)
    step-there y' ks' sl' (Ok u) (same, steps) =
        let did = step-happens w k (joined_of j) (server_of y) (At-map server_of ss j.server y server) (server_of y') (map joined_of ks') sl' (steps (joined_of j) (At-map joined_of ks k j at)) in
        (there, subst (λ (ys : List model.ServerSide). HappensServerStep w k (joined_of j) (server_of y) (record w { servers = ys; circuits = map joined_of ks'; server_logs = sl' })) (sym (set-map server_of ss j.server y')) did)
    step-there y' ks' sl' (Err OutOfMemory) (may, (is_y, numbers, is_k, is_l)) = ((there, may (joined_of j) (At-map joined_of ks k j at)), server-stays cs ss ks ks' cl sl sl' m j.server y y' server is_y is_k is_l)
    step-there y' ks' sl' (Err _) d = absurd d.1

-- ---- by the ends that were found

module _ (cs : List ClientSide) (ss : List ServerSide) (ks : List Joined) (cl : List (List Line)) (sl : List (List Entry)) (m : ℕ) (k : ℕ) (e : Ends) (a : AreEnds (length cs) (length ss) ks k e) where
  -- what the call asks for
  pub step-may : (y : ServerSide) → At ss e.server y → e.server_open ≡ true → IsReached (world_of cs ss ks cl sl m) → ServersFit (world_of cs ss ks cl sl m) → (j : model.Joined) → At (map joined_of ks) k j
      → MayBegin e.server y.core j (map joined_of ks) (map record_of y.records.items)
  step-may y server on reached fit j at =
      let same : j ≡ joined_of a.j = At-one (map joined_of ks) k j (joined_of a.j) at (At-map joined_of ks k a.j a.at) in
      let mine : j.server ≡ e.server = ap (λ (z : model.Joined). z.server) same ∙ sym (ap (λ (z : Ends). z.server) a.is) in
      let opened : j.lists.server_open ≡ true = ap (λ (z : model.Joined). z.lists.server_open) same ∙ sym (ap (λ (z : Ends). z.server_open) a.is) ∙ on in
      let there : At (map server_of ss) j.server (server_of y) = subst (λ (n : ℕ). At (map server_of ss) n (server_of y)) (sym mine) (At-map server_of ss e.server y server) in
      subst (λ (n : ℕ). MayBegin n y.core j (map joined_of ks) (map record_of y.records.items)) mine (run-may-begin (world_of cs ss ks cl sl m) k j (server_of y) reached fit at there opened)

  -- what came to the end
  pub step-comes : (x : ClientSide) (y : ServerSide) (c : Joined) (n : ℕ) → At cs e.client x → At ss e.server y → At ks k c → e.server_open ≡ true → IsReached (world_of cs ss ks cl sl m) → n ≡ length (waiting_up (client_of x) (joined_of c)) → (j : model.Joined) → At (map joined_of ks) k j → ComesUp n y.core j
  step-comes x y c n client server here on reached many j at =
      let same : j ≡ joined_of a.j = At-one (map joined_of ks) k j (joined_of a.j) at (At-map joined_of ks k a.j a.at) in
      let is : joined_of c ≡ j = At-one (map joined_of ks) k (joined_of c) j (At-map joined_of ks k c here) at in
      let of : j.client ≡ e.client = ap (λ (z : model.Joined). z.client) same ∙ sym (ap (λ (z : Ends). z.client) a.is) in
      let mine : j.server ≡ e.server = ap (λ (z : model.Joined). z.server) same ∙ sym (ap (λ (z : Ends). z.server) a.is) in
      let opened : j.lists.server_open ≡ true = ap (λ (z : model.Joined). z.lists.server_open) same ∙ sym (ap (λ (z : Ends). z.server_open) a.is) ∙ on in
      let to : At (map client_of cs) j.client (client_of x) = subst (λ (n : ℕ). At (map client_of cs) n (client_of x)) (sym of) (At-map client_of cs e.client x client) in
      let from : At (map server_of ss) j.server (server_of y) = subst (λ (n : ℕ). At (map server_of ss) n (server_of y)) (sym mine) (At-map server_of ss e.server y server) in
      subst (λ (n : ℕ). ComesUp n y.core j) (sym (many ∙ ap (λ (z : model.Joined). length (waiting_up (client_of x) z)) is))
      (run-comes (world_of cs ss ks cl sl m) k j (client_of x) (server_of y) reached at to from opened)

  pub step-by : (y y' : ServerSide) (ks' : List Joined) (sl' : List (List Entry)) (r : Result (Unit {0}) Refusal) → At ss e.server y → e.server_open ≡ true → StepsOrRests k y (map joined_of ks) sl r y' (map joined_of ks') sl'
      → Does (world_of cs ss ks cl sl m) (ServerStep k) r (world_of cs (slice_set ss e.server y') ks' cl sl' m)
  step-by y y' ks' sl' r server on d =
      let one = one-at cs a.j.client a.client in
      subst (λ (z : Ends). At ss z.server y → z.server_open ≡ true → Does (world_of cs ss ks cl sl m) (ServerStep k) r (world_of cs (slice_set ss z.server y') ks' cl sl' m))
      (sym a.is)
      (λ server on. step-there cs ss ks cl sl m k a.j one.0 y a.at one.1 server on y' ks' sl' r d)
      server
      on

  -- circuits are found as before
  pub step-indexed : (numbers : List (List ℕ)) (y y' : ServerSide) (ks' : List Joined) (sl' : List (List Entry)) (r : Result (Unit {0}) Refusal) → At ss e.server y → StepsOrRests k y (map joined_of ks) sl r y' (map joined_of ks') sl'
      → AreIndexed numbers (server_numbers ss) (map joined_of ks) → AreIndexed numbers (server_numbers (slice_set ss e.server y')) (map joined_of ks')
  step-indexed numbers y y' ks' sl' (Ok u) server (same, steps) h =
      let at : At (map joined_of ks) k (joined_of a.j) = At-map joined_of ks k a.j a.at in
      indexed-server numbers ss e.server y y' (map joined_of ks') (map joined_of ks') server same refl
      (steps-indexed numbers (server_numbers ss) k (joined_of a.j) (server_of y) (map joined_of ks) sl at h (server_of y') (map joined_of ks') sl' (steps (joined_of a.j) at))
  step-indexed numbers y y' ks' sl' (Err OutOfMemory) server (may, (is_y, same, is_k, is_l)) h =
      indexed-server numbers ss e.server y y' (map joined_of ks) (map joined_of ks') server same is_k h
  step-indexed numbers y y' ks' sl' (Err _) server d h = absurd d.1
