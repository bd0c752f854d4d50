-- A circuit is accepted, from what its parts became.
use Rattle.std.proofs.Common.{◌≡◌, ℕ, zero, suc, ◌+◌, ◌<◌, ◌≤◌, ◌&&◌, inl, inr, Bool, true, false, eqb, List, [], ◌∷◌, ◌++◌, Option, Some, None, Result, Ok, Err, filter, length, refl, sym, ap, subst, ◌∙◌, arith}
use Rattle.std.specs.Prelude.{if◌then◌else◌, is_none, map, option_and_then, slice_set, Vec}
use Rattle.std.specs.declared.alloc.Global.{Global}
use Rattle.std.proofs.lemmas.Bool.{and_from, eq-eqb, eqb-true}
use Rattle.std.proofs.lemmas.List.{append-nil, length-map, map-append}
use Rattle.ca_arena.specs.declared.handle.Handle.{Handle}
use Rattle.ca_ids.specs.Table.{MayGive, same_handle, under}
use Rattle.ca_text.specs.declared.refusal.Refusal.{Refusal}
use Rattle.ca_text.specs.declared.refusal.Refusal.TheVariants.{ArenaFull, OutOfMemory}
use Rattle.ca_text.specs.Place.{At}
use Rattle.ca_text.proofs.Places.{At-map, At-mapped, At-one, At-set-other, At-snoc, some_is}
use Rattle.ca_model.specs.Answers.{Closing, Sending}
use Rattle.ca_model.specs.Client.{Client, ClientCircuit, connection_at, farewell}
use Rattle.ca_model.specs.ClientCalls.{WantedCircuit, wanted}
use Rattle.ca_model.specs.ClientEnds.{ClientConnects, ConnectsOn, unconnected}
use Rattle.ca_model.specs.History.{Entry, Line, OfCircuit, Sent}
use Rattle.ca_model.specs.Server.{Open}
use Rattle.ca_model.specs.ServerSteps.{HasEnd}
use Rattle.ca_model.proofs.Tables.{given-none, one-at-index}
use Rattle.ca_model.specs.ClientEvents.{HappensAccept, WantsFirst, client_closed, connected_as, lines_of, new_circuit, sent_on, closing_notices}
use Rattle.ca_model.specs.Events.{Accept}
use Rattle.ca_model.specs.Runs.{CanAccept, CanBe}
use Rattle.ca_model.specs.World.{Names}
use Rattle.ca_model.specs.World as model
use Rattle.ca_model.proofs.Handles.{same-is, same-itself}
use Rattle.ca_laws_runs.specs.Quiet.{ClientsQuiet}
use Rattle.ca_laws_parts.specs.Clients.{ClientsStand}
use Rattle.ca_laws_parts.proofs.Accepts.{sent-here}
use Rattle.ca_laws_parts.proofs.ClientsMore.{wanted-there}
use Rattle.ca_laws_parts.proofs.RunsSteps.{all-here, none-here}
use Rattle.ca_laws_parts.specs.Seats.{HasSeat}
use Rattle.ca_world_data.specs.declared.client.ClientSide.{ClientSide}
use Rattle.ca_world_data.specs.declared.history.Line as real
use Rattle.ca_world_data.specs.declared.joined.Joined.{Joined}
use Rattle.ca_world_data.specs.declared.server.ServerSide.{ServerSide}
use Rattle.ca_world_data.specs.Accepting.{AcceptsDone, AcceptsOn, Extends, GainsNumber, StaysAs, first_served}
use Rattle.ca_world_data.specs.Does.{Does}
use Rattle.ca_world_data.specs.Downs.{with_said}
use Rattle.ca_world_data.specs.Indexed.{AreIndexed, HasNumber, client_numbers, server_numbers}
use Rattle.ca_world_data.specs.Logs.{lines_in}
use Rattle.ca_world_data.specs.Seen.{client_of, joined_of, named_of, server_of}
use Rattle.ca_world_data.specs.Speaking.{sent_up, stamped}
use Rattle.ca_world_data.proofs.Accepted.{IsFirstServed, served-none}
use Rattle.ca_world_data.proofs.Worlds.{both-ways, set-map, set-same, world_of}
use Rattle.ca_world.specs.Whole.{IsReached}
use Rattle.ca_world.proofs.Cuttings.{run-stands}
use Rattle.ca_world.proofs.Downward.{at-set}
use Rattle.ca_world.proofs.Farewells.{end-tells}

-- ---- what is sent goes on the new circuit alone

-- that which is sent on one circuit
abbrev AllOn : Handle → List Sending → Type 0
AllOn c sent = (i : ℕ) (s : Sending) → At sent i s → s.circuit ≡ c

-- what the client sends on it, if it is connected
on-it : (n : Names) (x new : Client) (c : Handle) (k : Option Closing) (sent : List Sending) → ClientConnects x c k sent new → AllOn c sent
on-it n x new c k sent connects = go k (unconnected x c) connects
  where
    none : (z : List Sending) → z ≡ [] → AllOn c z
    none z is i s at = absurd (nothing i (subst (λ (l : List Sending). At l i s) is at))
      where
        nothing : (i : ℕ) → At [] i s → ⊥
        nothing i e = cc

    go : (k : Option Closing) (o : Option ClientCircuit) → ConnectsOn x c o k sent new → AllOn c sent
    go None None does = absurd does
    go (Some k) None does = none sent does.1.0
    go None (Some d) does = λ i s at. sent-here c n x d i s (subst (λ (l : List Sending). At l i s) does.0 at)
    go (Some k) (Some d) does = none sent does.1

-- another circuit is as it was
stays : (i : ℕ) (n : Names) (c : Handle) (sent : List Sending) (j : model.Joined) → AllOn c sent → (j.client ≡ i → j.lists.client_open ≡ true → j.at_client ≡ c → ⊥) → sent_up i n sent j ≡ j
stays i n c sent j all other = (λ t. record j { lists = record j.lists { up = (ap (λ (u : List Sent). j.lists.up ++ u) nothing ∙ append-nil j.lists.up) t } })
  where
    go : (a b d : Bool) → eqb j.client i ≡ a → j.lists.client_open ≡ b → same_handle c j.at_client ≡ d → (if a && b then map (stamped n) (filter (λ (s : Sending). same_handle s.circuit j.at_client) sent) else []) ≡ []
    go true true true p q r = absurd (other (eqb-true j.client i p) q (sym (same-is c j.at_client r)))
    go true true false p q r = ap (map (stamped n)) (none-here c j.at_client sent all r)
    go true false d p q r = refl
    go false b d p q r = refl

    nothing : sent_on i n sent j ≡ []
    nothing = go (eqb j.client i) j.lists.client_open (same_handle c j.at_client) refl refl refl

-- so are all others
others : (i : ℕ) (n : Names) (c : Handle) (sent : List Sending) (ks : List model.Joined) → AllOn c sent → ((k : ℕ) (j : model.Joined) → At ks k j → j.client ≡ i → j.lists.client_open ≡ true → j.at_client ≡ c → ⊥) → map (sent_up i n sent) ks ≡ ks
others i n c sent [] all none = refl
others i n c sent (j ∷ ks) all none = (λ t. stays i n c sent j all (none 0 j refl) t ∷ others i n c sent ks all (λ k d at. none (suc k) d at) t)

-- the circuit itself
itself : (i : ℕ) (x : model.ClientSide) (c : Handle) (s : ℕ) (y : model.ServerSide) (h : Handle) (k : Option Closing) (sent : List Sending) (new : Client) → ClientConnects x.core c k sent new
    → sent_up i x.names sent (connected_as k (new_circuit i x c s y h)) ≡ with_said (map (stamped x.names) sent) (connected_as k (new_circuit i x c s y h))
itself i x c s y h None sent new connects =
    let j : model.Joined = new_circuit i x c s y h in
    let b : (eqb i i && true) ≡ true = and_from (eqb i i) true (eq-eqb i i refl) refl in
    let up : sent_on i x.names sent j ≡ map (stamped x.names) sent =
    (λ t. if b t then map (stamped x.names) (filter (λ (z : Sending). same_handle z.circuit c) sent) else [])
    ∙ ap (map (stamped x.names)) (all-here c c sent (on-it x.names x.core new c None sent connects) (same-itself c)) in
    λ t. with_said (up t) j
itself i x c s y h (Some k) sent new connects =
    let j : model.Joined = client_closed k.left (new_circuit i x c s y h) in
    let none : sent ≡ [] = nothing (unconnected x.core c) connects in
    let b : (eqb i i && false) ≡ false = and-off (eqb i i) in
    let up : sent_on i x.names sent j ≡ map (stamped x.names) sent =
    (λ t. if b t then map (stamped x.names) (filter (λ (z : Sending). same_handle z.circuit c) sent) else []) ∙ sym (ap (map (stamped x.names)) none) in
    λ t. with_said (up t) j
  where
    and-off : (a : Bool) → (a && false) ≡ false
    and-off true = refl
    and-off false = refl

    nothing : (o : Option ClientCircuit) → ConnectsOn x.core c o (Some k) sent new → sent ≡ []
    nothing None does = does.1.0
    nothing (Some d) does = does.1

-- ---- numbers

-- more numbers after those that were there
number-stays : (ns : List (List ℕ)) (i : ℕ) (own new : List ℕ) (e : ℕ) (h : Handle) (k : ℕ) → At ns i own → Extends own new → HasNumber ns e h k → HasNumber (slice_set ns i new) e h k
number-stays ns i own new e h k at more has = go (eqb e i) refl
  where
    go : (b : Bool) → eqb e i ≡ b → HasNumber (slice_set ns i new) e h k
    go true is =
        let same : e ≡ i = eqb-true e i is in
        let own_is : has.own ≡ own = At-one ns i has.own own (subst (λ (z : ℕ). At ns z has.own) same has.side) at in
        record {
          own = new;
          side = subst (λ (z : ℕ). At (slice_set ns i new) z new) (sym same) (at-set ns i own new at);
          number = more h.index k (subst (λ (z : List ℕ). At z h.index k) own_is has.number);
        }
    go false is = record {
      own = has.own;
      side = At-set-other ns i e has.own new has.side (λ same. both-ways (eqb e i) (eq-eqb e i same) is);
      number = has.number;
    }

-- one number more, by an index that no other has
number-other : (ns : List (List ℕ)) (i : ℕ) (own new : List ℕ) (index number : ℕ) (e : ℕ) (h : Handle) (k : ℕ) → At ns i own → GainsNumber own index number new → (e ≡ i → h.index ≡ index → ⊥) → HasNumber ns e h k → HasNumber (slice_set ns i new) e h k
number-other ns i own new index number e h k at gains other has = go (eqb e i) refl
  where
    go : (b : Bool) → eqb e i ≡ b → HasNumber (slice_set ns i new) e h k
    go true is =
        let same : e ≡ i = eqb-true e i is in
        let own_is : has.own ≡ own = At-one ns i has.own own (subst (λ (z : ℕ). At ns z has.own) same has.side) at in
        let was : At gains.mid h.index k = gains.extends h.index k (subst (λ (z : List ℕ). At z h.index k) own_is has.number) in
        record {
          own = new;
          side = subst (λ (z : ℕ). At (slice_set ns i new) z new) (sym same) (at-set ns i own new at);
          number = subst (λ (z : List ℕ). At z h.index k) (sym gains.is) (At-set-other gains.mid index h.index k number was (other same));
        }
    go false is = record {
      own = has.own;
      side = At-set-other ns i e has.own new has.side (λ same. both-ways (eqb e i) (eq-eqb e i same) is);
      number = has.number;
    }

-- that number
number-own : (ns : List (List ℕ)) (i : ℕ) (own new : List ℕ) (h : Handle) (number : ℕ) → At ns i own → GainsNumber own h.index number new → HasNumber (slice_set ns i new) i h number
number-own ns i own new h number at gains = record {
  own = new;
  side = at-set ns i own new at;
  number = subst (λ (z : List ℕ). At z h.index number) (sym gains.is) (set-here gains.mid h.index number gains.within);
}
  where
    set-here : (xs : List ℕ) (k n : ℕ) → k < length xs → At (slice_set xs k n) k n
    set-here [] k n lt = absurd (omega (arith, lt))
    set-here (x ∷ xs) zero n lt = refl
    set-here (x ∷ xs) (suc k) n lt = set-here xs k n (omega (arith, lt))

-- the numbers that a client has, and a server
abbrev own : ClientSide → List ℕ
own z = z.circuits.items

abbrev its : ServerSide → List ℕ
its z = z.circuits.items

-- ---- a world after it

module _ (cs : List ClientSide) (ss : List ServerSide) (ks : List Joined) (cl : List (Vec real.Line Global)) (sl : List (List Entry)) (m : ℕ) where
  abbrev w : model.World
  w = world_of cs ss ks (lines_in cl) sl m

  -- no circuit that the client wants leads to a server
  pub accept-none : (i : ℕ) (x : ClientSide) → At cs i x → first_served ss (wanted x.core) ≡ None → CanBe w (Accept i) → ⊥
  accept-none i x at none can =
      let is : can.x ≡ client_of x = At-one (map client_of cs) i can.x (client_of x) can.at (At-map client_of cs i x at) in
      let d = At-mapped server_of ss can.v.i can.v.y can.v.there.0 in
      served-none ss (wanted x.core) none can.v.place can.v.v d.0 can.v.i d.1
      (subst (λ (z : model.ClientSide). At (wanted z.core) can.v.place can.v.v) is can.v.at)
      (sym (ap (λ (z : model.ServerSide). z.setting.address) d.2) ∙ can.v.there.1)

  module _ (i : ℕ) (x : ClientSide) (v : WantedCircuit) (s : ℕ) (at : At cs i x) (f : IsFirstServed ss (wanted x.core) v s) where
    -- the client wants it first
    abbrev first : WantsFirst w (client_of x)
    first = record {
      place = f.place;
      v = v;
      at = f.at;
      i = s;
      y = server_of f.y;
      there = (At-map server_of ss s f.y f.there, f.address);
      first = λ l u k z lt there is. (let d = At-mapped server_of ss k z is.0 in f.first l u k d.0 lt there d.1 (sym (ap (λ (q : model.ServerSide). q.setting.address) d.2) ∙ is.1));
    }

    abbrev can : CanAccept w i
    can = record { x = client_of x; at = At-map client_of cs i x at; v = first }

    -- how many lines it takes at most
    pub accept-few : IsReached w → ClientsQuiet w → length (farewell v.circuit x.core) ≤ length x.names.requests.items + length x.names.channels.items
    accept-few reached quiet =
        let few = end-tells w i (client_of x) v.circuit reached quiet (At-map client_of cs i x at) in
        let named = length-map x.names.requests.items named_of in
        omega (arith, few, named)

    -- no open end at the client has its index
    fresh : ClientsStand w → (k : ℕ) (j : model.Joined) → At (map joined_of ks) k j → j.client ≡ i → j.lists.client_open ≡ true → j.at_client.index ≡ v.circuit.index → ⊥
    fresh stands k j there mine on same =
        let at_i : At (map client_of cs) j.client (client_of x) = subst (λ (z : ℕ). At (map client_of cs) z (client_of x)) (sym mine) (At-map client_of cs i x at) in
        let connected : is_none (connection_at x.core j.at_client) ≡ false = stands.connected k j (client_of x) there at_i on in
        let d = wanted-there x.core f.place v f.at in
        go (under x.core.circuits j.at_client) refl connected d
      where
        go : (o : Option ClientCircuit) → under x.core.circuits j.at_client ≡ o → is_none (option_and_then (λ (e : ClientCircuit). e.connection) o) ≡ false
            → ((d : ClientCircuit) × (under x.core.circuits v.circuit ≡ Some d) × (d.connection ≡ None)) → ⊥
        go None is some d = absurd cc
        go (Some e) is some d =
            let h : j.at_client ≡ v.circuit = one-at-index x.core.circuits j.at_client v.circuit e d.0 is d.1 same in
            let one : e ≡ d.0 = some_is e d.0 (sym is ∙ ap (under x.core.circuits) h ∙ d.1) in
            both-ways (is_none e.connection) (ap (λ (z : ClientCircuit). is_none z.connection) one ∙ ap is_none d.2) some

    -- nor its handle
    fresh-handle : ClientsStand w → (k : ℕ) (j : model.Joined) → At (map joined_of ks) k j → j.client ≡ i → j.lists.client_open ≡ true → j.at_client ≡ v.circuit → ⊥
    fresh-handle stands k j there mine on same = fresh stands k j there mine on (ap (λ (h : Handle). h.index) same)

    -- no open end at the server has the index that is given
    fresh-there : IsReached w → (h : Handle) → MayGive f.y.core.circuits h → (k : ℕ) (j : model.Joined) → At (map joined_of ks) k j → j.server ≡ s → j.lists.server_open ≡ true → j.at_server.index ≡ h.index → ⊥
    fresh-there reached h may k j there mine on same =
        let seat : HasSeat w j = (run-stands w reached).1.sound.seated.each k j there on in
        let is : seat.y ≡ server_of f.y = At-one (map server_of ss) s seat.y (server_of f.y) (subst (λ (z : ℕ). At (map server_of ss) z seat.y) mine seat.at) (At-map server_of ss s f.y f.there) in
        let has : HasEnd f.y.core j.at_server seat.e = subst (λ (z : model.ServerSide). HasEnd z.core j.at_server seat.e) is seat.has in
        given-none f.y.core.circuits j.at_server h (Open seat.e) may has same

    module _ (x' : ClientSide) (y' : ServerSide) (ks' : List Joined) (cl' : List (Vec real.Line Global)) where
      abbrev after : model.World
      after = world_of (slice_set cs i x') (slice_set ss s y') ks' (lines_in cl') sl m

      -- nothing changed
      same-world : StaysAs x f.y ks cl x' y' ks' cl' → after ≡ w
      same-world d =
          λ t. record {
            clients = (set-map client_of cs i x' ∙ ap (slice_set (map client_of cs) i) d.client ∙ set-same (map client_of cs) i (client_of x) (At-map client_of cs i x at)) t;
            servers = (set-map server_of ss s y' ∙ ap (slice_set (map server_of ss) s) d.server ∙ set-same (map server_of ss) s (server_of f.y) (At-map server_of ss s f.y f.there)) t;
            circuits = map joined_of (d.circuits t);
            client_logs = d.lines t;
            server_logs = sl;
            moment = m;
          }

      -- the circuit is there
      made : (d : AcceptsDone i s v.circuit x f.y ks cl x' y' ks' cl') → ClientsStand w → HappensAccept w i (client_of x) first after
      made d stands =
          let c = d.connects in
          let names : Names = (client_of x).names in
          let new : model.Joined = connected_as c.k (new_circuit i (client_of x) v.circuit s (server_of f.y) d.h) in
          let lines : List Line = lines_of OfCircuit names (closing_notices c.k) in
          let all : AllOn v.circuit c.sent = on-it names x.core x'.core v.circuit c.k c.sent c.connects in
          let old : map (sent_up i names c.sent) (map joined_of ks) ≡ map joined_of ks = others i names v.circuit c.sent (map joined_of ks) all (fresh-handle stands) in
          let own : sent_up i names c.sent new ≡ joined_of d.j = itself i (client_of x) v.circuit s (server_of f.y) d.h c.k c.sent x'.core c.connects ∙ sym c.circuit in
          let circuits : map joined_of ks' ≡ map (sent_up i names c.sent) (map joined_of ks ++ new ∷ []) =
          ap (map joined_of) d.circuits ∙ map-append joined_of ks (d.j ∷ []) ∙ (λ t. sym old t ++ sym own t ∷ []) ∙ sym (map-append (sent_up i names c.sent) (map joined_of ks) (new ∷ [])) in
          record {
            answer = Ok d.h;
            server = y'.core;
            accepts = d.accepts;
            leaves = inr (
              d.h,
              c.k,
              c.sent,
              x'.core,
              refl,
              c.connects,
              λ t. record {
                clients = (set-map client_of cs i x' ∙ ap (slice_set (map client_of cs) i) c.side) t;
                servers = (set-map server_of ss s y' ∙ ap (slice_set (map server_of ss) s) d.server) t;
                circuits = circuits t;
                client_logs = c.logged t;
                server_logs = sl;
                moment = m;
              },
            );
          }

      pub accepts-by : (r : Result (Unit {0}) Refusal) → ClientsStand w → AcceptsOn i s v.circuit x f.y ks cl r x' y' ks' cl' → Does w (Accept i) r after
      accepts-by (Ok u) stands (inl d) = (can, made d stands)
      accepts-by (Ok u) stands (inr d) = (can, record { answer = Err ArenaFull; server = f.y.core; accepts = d.0; leaves = inl (refl, same-world d.1) })
      accepts-by (Err OutOfMemory) stands d = (can, same-world d)
      accepts-by (Err _) stands d = absurd d

      -- ---- circuits are found still

      kept-indexed : StaysAs x f.y ks cl x' y' ks' cl' → AreIndexed (client_numbers cs) (server_numbers ss) (map joined_of ks) → AreIndexed (client_numbers (slice_set cs i x')) (server_numbers (slice_set ss s y')) (map joined_of ks')
      kept-indexed d h =
          subst (λ (z : List (List ℕ) × (List (List ℕ) × List model.Joined)). AreIndexed z.0 z.1.0 z.1.1)
          (λ t. (sym (set-map own cs i x') t, (sym (set-map its ss s y') t, map joined_of (sym d.circuits t))))
          (record {
            clients = λ k j there on. number-stays (client_numbers cs) i x.circuits.items x'.circuits.items j.client j.at_client k (At-map own cs i x at) d.at_client (h.clients k j there on);
            servers = λ k j there on. number-stays (server_numbers ss) s f.y.circuits.items y'.circuits.items j.server j.at_server k (At-map its ss s f.y f.there) d.at_server (h.servers k j there on);
          })

      -- what the new circuit joins
      joins-new : (d : AcceptsDone i s v.circuit x f.y ks cl x' y' ks' cl') → let j : Joined = d.j in (j.client ≡ i) × (j.at_client ≡ v.circuit) × (j.server ≡ s) × (j.at_server ≡ d.h)
      joins-new d =
          let c = d.connects in
          let is = as-new c.k in
          (ap (λ (z : model.Joined). z.client) c.circuit ∙ is.0, ap (λ (z : model.Joined). z.at_client) c.circuit ∙ is.1, ap (λ (z : model.Joined). z.server) c.circuit ∙ is.2, ap (λ (z : model.Joined). z.at_server) c.circuit ∙ is.3)
        where
          as-new : (k : Option Closing) → let j : model.Joined = connected_as k (new_circuit i (client_of x) v.circuit s (server_of f.y) d.h) in (j.client ≡ i) × (j.at_client ≡ v.circuit) × (j.server ≡ s) × (j.at_server ≡ d.h)
          as-new None = (refl, refl, refl, refl)
          as-new (Some k) = (refl, refl, refl, refl)

      made-indexed : (d : AcceptsDone i s v.circuit x f.y ks cl x' y' ks' cl') → ClientsStand w → IsReached w → AreIndexed (client_numbers cs) (server_numbers ss) (map joined_of ks)
          → AreIndexed (client_numbers (slice_set cs i x')) (server_numbers (slice_set ss s y')) (map joined_of ks')
      made-indexed d stands reached h =
          subst (λ (z : List (List ℕ) × (List (List ℕ) × List model.Joined)). AreIndexed z.0 z.1.0 z.1.1)
          (λ t. (sym (set-map own cs i x') t, (sym (set-map its ss s y') t, sym (ap (map joined_of) d.circuits ∙ map-append joined_of ks (d.j ∷ [])) t)))
          (record { clients = clients; servers = servers })
        where
          count : length (map joined_of ks) ≡ length ks
          count = length-map ks joined_of

          clients : (k : ℕ) (j : model.Joined) → At (map joined_of ks ++ joined_of d.j ∷ []) k j → j.lists.client_open ≡ true → HasNumber (slice_set (client_numbers cs) i (own x')) j.client j.at_client k
          clients k j there on = elim (At-snoc (map joined_of ks) (joined_of d.j) k j there) [
            | inl old ↦ number-other (client_numbers cs) i (own x) (own x') v.circuit.index (length ks) j.client j.at_client k (At-map own cs i x at) d.at_client (λ mine same. fresh stands k j old mine on same) (h.clients k j old on)
            | inr last ↦
                subst (λ (z : ℕ × (Handle × ℕ)). HasNumber (slice_set (client_numbers cs) i (own x')) z.0 z.1.0 z.1.1)
                (λ t. (sym (ap (λ (z : model.Joined). z.client) last.1 ∙ (joins-new d).0) t, (sym (ap (λ (z : model.Joined). z.at_client) last.1 ∙ (joins-new d).1) t, sym (last.0 ∙ count) t)))
                (number-own (client_numbers cs) i (own x) (own x') v.circuit (length ks) (At-map own cs i x at) d.at_client)
          ]

          servers : (k : ℕ) (j : model.Joined) → At (map joined_of ks ++ joined_of d.j ∷ []) k j → j.lists.server_open ≡ true → HasNumber (slice_set (server_numbers ss) s (its y')) j.server j.at_server k
          servers k j there on = elim (At-snoc (map joined_of ks) (joined_of d.j) k j there) [
            | inl old ↦ number-other (server_numbers ss) s (its f.y) (its y') d.h.index (length ks) j.server j.at_server k (At-map its ss s f.y f.there) d.at_server (λ mine same. fresh-there reached d.h d.accepts.0 k j old mine on same) (h.servers k j old on)
            | inr last ↦
                subst (λ (z : ℕ × (Handle × ℕ)). HasNumber (slice_set (server_numbers ss) s (its y')) z.0 z.1.0 z.1.1)
                (λ t. (sym (ap (λ (z : model.Joined). z.server) last.1 ∙ (joins-new d).2) t, (sym (ap (λ (z : model.Joined). z.at_server) last.1 ∙ (joins-new d).3) t, sym (last.0 ∙ count) t)))
                (number-own (server_numbers ss) s (its f.y) (its y') d.h (length ks) (At-map its ss s f.y f.there) d.at_server)
          ]

      pub accepts-indexed : (r : Result (Unit {0}) Refusal) → ClientsStand w → IsReached w → AcceptsOn i s v.circuit x f.y ks cl r x' y' ks' cl' → AreIndexed (client_numbers cs) (server_numbers ss) (map joined_of ks)
          → AreIndexed (client_numbers (slice_set cs i x')) (server_numbers (slice_set ss s y')) (map joined_of ks')
      accepts-indexed (Ok u) stands reached (inl d) h = made-indexed d stands reached h
      accepts-indexed (Ok u) stands reached (inr d) h = kept-indexed d.1 h
      accepts-indexed (Err OutOfMemory) stands reached d h = kept-indexed d h
      accepts-indexed (Err _) stands reached d h = absurd d
