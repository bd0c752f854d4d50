-- Bytes reach a client, from what its parts became.
use Rattle.std.proofs.Common.{◌≡◌, ℕ, zero, suc, ◌≤◌, inl, inr, Bool, true, false, List, [], ◌∷◌, Option, Some, None, Result, Ok, Err, length, nat_lt, take, drop, refl, sym, ap, subst, ◌∙◌}
use Rattle.std.specs.Prelude.{is_none, map, option_and_then, option_to_list, slice_set}
use Rattle.std.proofs.lemmas.List.{append-nil}
use Rattle.ca_arena.specs.declared.handle.Handle.{Handle}
use Rattle.ca_ids.specs.Table.{under}
use Rattle.ca_monitor.specs.ReadRun.{sent_by_read}
use Rattle.ca_text.specs.declared.command.Command.{Command}
use Rattle.ca_text.specs.declared.refusal.Refusal.{Refusal}
use Rattle.ca_text.specs.declared.refusal.Refusal.TheVariants.{BadEvent, OutOfMemory}
use Rattle.ca_text.specs.Place.{At}
use Rattle.ca_text.proofs.Places.{At-map, At-one, At-set}
use Rattle.ca_wire.specs.Messages.{header_only}
use Rattle.ca_client_core.specs.ForHistories.{flow_at}
use Rattle.ca_model.specs.Answers.{Sending}
use Rattle.ca_model.specs.Client.{Client, Connection, connection_at}
use Rattle.ca_model.specs.ClientEnds.{ClientGives, GivesOn, of_circuit}
use Rattle.ca_model.specs.History.{Entry, Line, Sent}
use Rattle.ca_model.specs.ServerSteps.{output_of}
use Rattle.ca_model.specs.ClientEvents.{DownTaken, waiting_down}
use Rattle.ca_model.specs.Events.{Down}
use Rattle.ca_model.specs.Runs.{CanBe, HasClientEnd}
use Rattle.ca_model.specs.World.{Names, with_circuit, with_server}
use Rattle.ca_model.specs.World as model
use Rattle.ca_laws_parts.specs.Clients.{ClientsStand}
use Rattle.ca_world_data.specs.declared.client.ClientSide.{ClientSide}
use Rattle.ca_world_data.specs.declared.ends.Ends.{Ends}
use Rattle.ca_world_data.specs.declared.joined.Joined.{Joined}
use Rattle.ca_world_data.specs.declared.server.ServerSide.{ServerSide}
use Rattle.ca_world_data.specs.Does.{Does}
use Rattle.ca_world_data.specs.Downs.{HandsDown, LeavesDown, flow_said, with_said}
use Rattle.ca_world_data.specs.Ends.{AreEnds, NoEnds, ends_of}
use Rattle.ca_world_data.specs.Found.{AreNumbered, IsAt}
use Rattle.ca_world_data.specs.Seen.{client_of, joined_of, server_of}
use Rattle.ca_world_data.specs.Speaking.{sent_up}
use Rattle.ca_world.proofs.Cancellings.{none-up}
use Rattle.ca_world_data.proofs.Indexes.{KeepsEnds, ends-stay}
use Rattle.ca_world_data.proofs.Sendings.{sent-one}
use Rattle.ca_world_data.proofs.Worlds.{if-false, if-true, joins, none-joined, one-at, same-circuit, set-map, set-same, world_of}
use Rattle.ca_world_data.proofs.Silences.{grown-nil}
use Rattle.ca_queue.proofs.Circuits.{set-twice}

-- ---- lists

pub at-set : {A : Type 0} (xs : List A) (i : ℕ) (x y : A) → At xs i x → At (slice_set xs i y) i y
at-set [] i x y at = absurd cc
at-set (z ∷ xs) zero x y at = refl
at-set (z ∷ xs) (suc i) x y at = at-set xs i x y at

-- a circuit that joins what it joined has its number still
pub numbered-less : (numbers : List ℕ) (ks : List model.Joined) (i k : ℕ) (j new : model.Joined) → At ks k j → new.client ≡ j.client → new.at_client ≡ j.at_client → new.lists.client_open ≡ j.lists.client_open → AreNumbered numbers ks i → AreNumbered numbers (slice_set ks k new) i
numbered-less numbers ks i k j new at client handle opens h l a there mine on = elim (At-set ks k new l a there) [
  | inr old ↦ h l a old.0 mine on
  | inl here ↦
      subst (λ (z : ℕ × Handle). At numbers z.1.index z.0) (λ t. (sym here.0 t, (sym handle ∙ sym (ap (λ (z : model.Joined). z.at_client) here.1)) t))
      (h k j at (sym client ∙ sym (ap (λ (z : model.Joined). z.client) here.1) ∙ mine) (sym opens ∙ sym (ap (λ (z : model.Joined). z.lists.client_open) here.1) ∙ on))
]

-- ---- what a read sends

flow-one : (i : ℕ) (n : Names) (ks : List model.Joined) (k : ℕ) (j : model.Joined) (numbers : List ℕ) (f : Option Command) → At ks k j → j.client ≡ i → j.lists.client_open ≡ true → AreNumbered numbers ks i
    → slice_set ks k (with_said (flow_said f) j) ≡ map (sent_up i n (map (λ (c : Command). of_circuit j.at_client (header_only c)) (option_to_list f))) ks
flow-one i n ks k j numbers None at mine on numbered =
    ap (λ (u : List Sent). slice_set ks k (record j { lists = record j.lists { up = u } })) (append-nil j.lists.up) ∙ set-same ks k j at ∙ sym (none-up i n ks)
flow-one i n ks k j numbers (Some c) at mine on numbered =
    let s : Sending = of_circuit j.at_client (header_only c) in
    let a : IsAt ks i s.circuit k = record { j = j; at = at; mine = mine; is_open = on; here = refl } in
    sym (sent-one i n s numbers ks numbered k a)

-- it goes up the circuit that was read
pub flow-goes : (i : ℕ) (n : Names) (x new : Client) (ks : List model.Joined) (k : ℕ) (j : model.Joined) (numbers : List ℕ) (bytes : List ℕ) (more : Bool) (sent : List Sending) → At ks k j → j.client ≡ i → j.lists.client_open ≡ true → AreNumbered numbers ks i
    → ClientGives x j.at_client bytes more (Ok tt) sent new → slice_set ks k (with_said (flow_said (flow_at more x j.at_client)) j) ≡ map (sent_up i n sent) ks
flow-goes i n x new ks k j numbers bytes more sent at mine on numbered gives = go (connection_at x j.at_client) refl gives
  where
    go : (o : Option Connection) → connection_at x j.at_client ≡ o → GivesOn x j.at_client bytes more o (Ok tt) sent new → slice_set ks k (with_said (flow_said (flow_at more x j.at_client)) j) ≡ map (sent_up i n sent) ks
    go None is does = absurd does
    go (Some e) is does =
        ap (λ (o : Option Connection). slice_set ks k (with_said (flow_said (option_and_then (λ (e : Connection). sent_by_read more e.run) o)) j)) is
        ∙ flow-one i n ks k j numbers (sent_by_read more e.run) at mine on numbered
        ∙ ap (λ (z : List Sending). map (sent_up i n z) ks) (sym does.0)

-- ---- a world after it

module _ (cs : List ClientSide) (ss : List ServerSide) (ks : List Joined) (cl : List (List Line)) (sl : List (List Entry)) (m : ℕ) where
  -- no circuit
  pub down-none : (k n : ℕ) → NoEnds (length cs) (length ss) ks k → CanBe (world_of cs ss ks cl sl m) (Down k n) → ⊥
  down-none k n none can = none-joined cs ss ks cl sl m k none can.0.j can.0.x can.0.y can.0.joins

  -- its end at the client is not open
  pub down-ended : (k n : ℕ) (j : Joined) → At ks k j → j.lists.client_open ≡ false → CanBe (world_of cs ss ks cl sl m) (Down k n) → ⊥
  down-ended k n j at ended can =
      let is = same-circuit cs ss ks cl sl m k j at can.0.j can.0.joins.at in
      let on : j.lists.client_open ≡ true = sym (ap (λ (z : model.Joined). z.lists.client_open) is) ∙ can.0.is_open in
      cc

  module _ (k n : ℕ) (j : Joined) (x : ClientSide) (y : ServerSide) (at : At ks k j) (client : At cs j.client x) (server : At ss j.server y) (receives : j.lists.client_open ≡ true) (linked : is_none (connection_at x.core j.at_client) ≡ false) (numbers : List ℕ) (numbered : AreNumbered numbers (map joined_of ks) j.client) where
    -- the end that receives
    abbrev there : HasClientEnd (world_of cs ss ks cl sl m) k
    there = record { j = joined_of j; x = client_of x; y = server_of y; joins = joins cs ss ks cl sl m k j x y at client server; is_open = receives }

    -- fewer wait
    few : (n ≤ length (waiting_down (server_of y) (joined_of j)) → ⊥) → CanBe (world_of cs ss ks cl sl m) (Down k n) → ⊥
    few less can =
        let is_j : can.0.j ≡ joined_of j = same-circuit cs ss ks cl sl m k j at can.0.j can.0.joins.at in
        let server_there : At (map server_of ss) j.server can.0.y = subst (λ (z : model.Joined). At (map server_of ss) z.server can.0.y) is_j can.0.joins.server in
        let is_y : can.0.y ≡ server_of y = At-one (map server_of ss) j.server can.0.y (server_of y) server_there (At-map server_of ss j.server y server) in
        less (subst (λ (a : model.ServerSide × model.Joined). n ≤ length (waiting_down a.0 a.1)) (λ t. (is_y t, is_j t)) can.1)

    -- nothing changed
    stay : (x' : ClientSide) (y' : ServerSide) (j' : Joined) → x' ≡ x → y' ≡ y → joined_of j' ≡ joined_of j → world_of (slice_set cs j.client x') (slice_set ss j.server y') (slice_set ks k j') cl sl m ≡ world_of cs ss ks cl sl m
    stay x' y' j' is_x is_y is_j =
        let circuits : map joined_of (slice_set ks k j') ≡ map joined_of ks = set-map joined_of ks k j' ∙ ap (slice_set (map joined_of ks) k) is_j ∙ set-same (map joined_of ks) k (joined_of j) (At-map joined_of ks k j at) in
        (λ i. record { clients = map client_of (slice_set cs j.client (is_x i)); servers = map server_of (slice_set ss j.server (is_y i)); circuits = circuits i; client_logs = cl; server_logs = sl; moment = m })
        ∙ (λ i. record { clients = map client_of (set-same cs j.client x client i); servers = map server_of (set-same ss j.server y server i); circuits = map joined_of ks; client_logs = cl; server_logs = sl; moment = m })

    pub down-handed : (x' : ClientSide) (y' : ServerSide) (j' : Joined) (r : Result (Unit {0}) Refusal) → j.lists.server_open ≡ true → HandsDown x y j n r x' y' j'
        → Does (world_of cs ss ks cl sl m) (Down k n) r (world_of (slice_set cs j.client x') (slice_set ss j.server y') (slice_set ks k j') cl sl m)
    down-handed x' y' j' (Ok u) on d =
        let w : model.World = world_of cs ss ks cl sl m in
        let bytes : List ℕ = output_of (under y.core.circuits j.at_server) in
        let waits : waiting_down (server_of y) (joined_of j) ≡ bytes = if-true j.lists.server_open bytes j.left_down on in
        let more : Bool = nat_lt n (length bytes) in
        let g = d.1 in
        let mid : model.World = with_server j.server (record (server_of y) { core = y'.core }) w in
        let taken : DownTaken w k n (joined_of j) (server_of y) mid = inl (on, (y'.core, d.3, refl)) in
        let side : map client_of (slice_set cs j.client x') ≡ slice_set (map client_of cs) j.client (record (client_of x) { core = x'.core }) =
        set-map client_of cs j.client x' ∙ ap (λ (z : ClientSide). slice_set (map client_of cs) j.client (client_of z)) g.side in
        let other : map server_of (slice_set ss j.server y') ≡ slice_set (map server_of ss) j.server (record (server_of y) { core = y'.core }) =
        set-map server_of ss j.server y' ∙ ap (λ (z : ServerSide). slice_set (map server_of ss) j.server (server_of z)) d.4 in
        let circuits : map joined_of (slice_set ks k j') ≡ map (sent_up j.client (client_of x).names g.sent) (map joined_of ks) =
        set-map joined_of ks k j' ∙ ap (slice_set (map joined_of ks) k) d.2
        ∙ flow-goes j.client (client_of x).names x.core x'.core (map joined_of ks) k (joined_of j) numbers (take n bytes) more g.sent (At-map joined_of ks k j at) refl receives numbered g.gives in (
          (there, subst (λ (t : List ℕ). n ≤ length t) (sym waits) d.0),
          (
            mid,
            g.sent,
            x'.core,
            taken,
            subst (λ (t : List ℕ). ClientGives x.core j.at_client (take n t) (nat_lt n (length t)) (Ok tt) g.sent x'.core) (sym waits) g.gives,
            (λ i. record { clients = side i; servers = other i; circuits = circuits i; client_logs = sym (grown-nil x.life cl) i; server_logs = sl; moment = m }),
          ),
        )
    down-handed x' y' j' (Err OutOfMemory) on d =
        let bytes : List ℕ = output_of (under y.core.circuits j.at_server) in
        let waits : waiting_down (server_of y) (joined_of j) ≡ bytes = if-true j.lists.server_open bytes j.left_down on in
        (((there, subst (λ (t : List ℕ). n ≤ length t) (sym waits) d.0), subst (λ (t : List ℕ). ClientGives x.core j.at_client (take n t) (nat_lt n (length t)) (Err OutOfMemory) [] x.core) (sym waits) (d.1 linked)), stay x' y' j' d.2 d.3 d.4)
    down-handed x' y' j' (Err BadEvent) on d =
        let bytes : List ℕ = output_of (under y.core.circuits j.at_server) in
        let waits : waiting_down (server_of y) (joined_of j) ≡ bytes = if-true j.lists.server_open bytes j.left_down on in
        (few (λ le. d.0 (subst (λ (t : List ℕ). n ≤ length t) waits le)), stay x' y' j' d.1 d.2 d.3)
    down-handed x' y' j' (Err _) on d = absurd d

    -- the circuit with fewer bytes that its server left
    abbrev less : model.Joined
    less = record (joined_of j) { left_down = drop n j.left_down }

    pub down-left : (x' : ClientSide) (j' : Joined) (r : Result (Unit {0}) Refusal) → j.lists.server_open ≡ false → LeavesDown x j n r x' j'
        → Does (world_of cs ss ks cl sl m) (Down k n) r (world_of (slice_set cs j.client x') ss (slice_set ks k j') cl sl m)
    down-left x' j' (Ok u) off d =
        let w : model.World = world_of cs ss ks cl sl m in
        let waits : waiting_down (server_of y) (joined_of j) ≡ j.left_down = if-false j.lists.server_open (output_of (under y.core.circuits j.at_server)) j.left_down off in
        let more : Bool = nat_lt n (length j.left_down) in
        let g = d.1 in
        let now : List model.Joined = slice_set (map joined_of ks) k less in
        let mid : model.World = with_circuit k less w in
        let taken : DownTaken w k n (joined_of j) (server_of y) mid = inr (off, refl) in
        let side : map client_of (slice_set cs j.client x') ≡ slice_set (map client_of cs) j.client (record (client_of x) { core = x'.core }) =
        set-map client_of cs j.client x' ∙ ap (λ (z : ClientSide). slice_set (map client_of cs) j.client (client_of z)) g.side in
        let said : model.Joined = with_said (flow_said (flow_at more x.core j.at_client)) less in
        let circuits : map joined_of (slice_set ks k j') ≡ map (sent_up j.client (client_of x).names g.sent) now =
        set-map joined_of ks k j' ∙ ap (slice_set (map joined_of ks) k) d.2 ∙ sym (set-twice (map joined_of ks) k less said)
        ∙ flow-goes j.client (client_of x).names x.core x'.core now k less numbers (take n j.left_down) more g.sent (at-set (map joined_of ks) k (joined_of j) less (At-map joined_of ks k j at)) refl receives
        (numbered-less numbers (map joined_of ks) j.client k (joined_of j) less (At-map joined_of ks k j at) refl refl refl numbered) g.gives in (
          (there, subst (λ (t : List ℕ). n ≤ length t) (sym waits) d.0),
          (
            mid,
            g.sent,
            x'.core,
            taken,
            subst (λ (t : List ℕ). ClientGives x.core j.at_client (take n t) (nat_lt n (length t)) (Ok tt) g.sent x'.core) (sym waits) g.gives,
            (λ i. record { clients = side i; servers = map server_of ss; circuits = circuits i; client_logs = sym (grown-nil x.life cl) i; server_logs = sl; moment = m }),
          ),
        )
    down-left x' j' (Err OutOfMemory) off d =
        let waits : waiting_down (server_of y) (joined_of j) ≡ j.left_down = if-false j.lists.server_open (output_of (under y.core.circuits j.at_server)) j.left_down off in
        (((there, subst (λ (t : List ℕ). n ≤ length t) (sym waits) d.0), subst (λ (t : List ℕ). ClientGives x.core j.at_client (take n t) (nat_lt n (length t)) (Err OutOfMemory) [] x.core) (sym waits) (d.1 linked)), (λ i. world_of (slice_set cs j.client x') (sym (set-same ss j.server y server) i) (slice_set ks k j') cl sl m) ∙ stay x' y j' d.2 refl d.3)
    down-left x' j' (Err BadEvent) off d =
        let waits : waiting_down (server_of y) (joined_of j) ≡ j.left_down = if-false j.lists.server_open (output_of (under y.core.circuits j.at_server)) j.left_down off in
        (few (λ le. d.0 (subst (λ (t : List ℕ). n ≤ length t) waits le)), (λ i. world_of (slice_set cs j.client x') (sym (set-same ss j.server y server) i) (slice_set ks k j') cl sl m) ∙ stay x' y j' d.1 refl d.2)
    down-left x' j' (Err _) off d = absurd d

-- ---- by the ends that were found

module _ (cs : List ClientSide) (ss : List ServerSide) (ks : List Joined) (cl : List (List Line)) (sl : List (List Entry)) (m : ℕ) (k n : ℕ) (e : Ends) (a : AreEnds (length cs) (length ss) ks k e) where
  pub down-off : e.client_open ≡ false → CanBe (world_of cs ss ks cl sl m) (Down k n) → ⊥
  down-off off = down-ended cs ss ks cl sl m k n a.j a.at (sym (ap (λ (z : Ends). z.client_open) a.is) ∙ off)

  -- an open end is connected
  pub down-linked : (x : ClientSide) (j : Joined) → At ks k j → At cs e.client x → e.client_open ≡ true → ClientsStand (world_of cs ss ks cl sl m) → is_none (connection_at x.core j.at_client) ≡ false
  down-linked x j at client on stands =
      let is : e ≡ ends_of j = a.is ∙ ap ends_of (At-one ks k a.j j a.at at) in
      let here : At cs j.client x = subst (λ (z : Ends). At cs z.client x) is client in
      stands.connected k (joined_of j) (client_of x) (At-map joined_of ks k j at) (At-map client_of cs j.client x here) (sym (ap (λ (z : Ends). z.client_open) is) ∙ on)

  pub down-by-server : (x x' : ClientSide) (y y' : ServerSide) (j j' : Joined) (r : Result (Unit {0}) Refusal) (numbers : List ℕ) → At ks k j → At cs e.client x → At ss e.server y → e.client_open ≡ true → e.server_open ≡ true → AreNumbered numbers (map joined_of ks) e.client → is_none (connection_at x.core j.at_client) ≡ false → HandsDown x y j n r x' y' j'
      → Does (world_of cs ss ks cl sl m) (Down k n) r (world_of (slice_set cs e.client x') (slice_set ss e.server y') (slice_set ks k j') cl sl m)
  down-by-server x x' y y' j j' r numbers at =
      let is : e ≡ ends_of j = a.is ∙ ap ends_of (At-one ks k a.j j a.at at) in
      subst (λ (z : Ends). At cs z.client x → At ss z.server y → z.client_open ≡ true → z.server_open ≡ true → AreNumbered numbers (map joined_of ks) z.client → is_none (connection_at x.core j.at_client) ≡ false → HandsDown x y j n r x' y' j' → Does (world_of cs ss ks cl sl m) (Down k n) r (world_of (slice_set cs z.client x') (slice_set ss z.server y') (slice_set ks k j') cl sl m))
      (sym is)
      (λ client server on opened numbered linked d. down-handed cs ss ks cl sl m k n j x y at client server on linked numbers numbered x' y' j' r opened d)

  pub down-by-left : (x x' : ClientSide) (j j' : Joined) (r : Result (Unit {0}) Refusal) (numbers : List ℕ) → At ks k j → At cs e.client x → e.client_open ≡ true → e.server_open ≡ false → AreNumbered numbers (map joined_of ks) e.client → is_none (connection_at x.core j.at_client) ≡ false → LeavesDown x j n r x' j'
      → Does (world_of cs ss ks cl sl m) (Down k n) r (world_of (slice_set cs e.client x') ss (slice_set ks k j') cl sl m)
  down-by-left x x' j j' r numbers at =
      let is_j : a.j ≡ j = At-one ks k a.j j a.at at in
      let is : e ≡ ends_of j = a.is ∙ ap ends_of is_j in
      let one = one-at ss a.j.server a.server in
      let server : At ss j.server one.0 = subst (λ (z : Joined). At ss z.server one.0) is_j one.1 in
      subst (λ (z : Ends). At cs z.client x → z.client_open ≡ true → z.server_open ≡ false → AreNumbered numbers (map joined_of ks) z.client → is_none (connection_at x.core j.at_client) ≡ false → LeavesDown x j n r x' j' → Does (world_of cs ss ks cl sl m) (Down k n) r (world_of (slice_set cs z.client x') ss (slice_set ks k j') cl sl m))
      (sym is)
      (λ client on off numbered linked d. down-left cs ss ks cl sl m k n j x one.0 at client server on linked numbers numbered x' j' r off d)

-- ---- what stays

-- both ends know their circuits by the same numbers
said-keeps : (j j' : Joined) (now : model.Joined) → now.client ≡ j.client → now.server ≡ j.server → now.at_client ≡ j.at_client → now.at_server ≡ j.at_server → now.lists.client_open ≡ j.lists.client_open → now.lists.server_open ≡ j.lists.server_open → joined_of j' ≡ now → KeepsEnds (joined_of j) (joined_of j')
said-keeps j j' now c s h g o p is =
    subst (λ (z : model.Joined). KeepsEnds (joined_of j) z) (sym is)
    (record { client = c; server = s; at_client = h; at_server = g; closes = λ on. sym o ∙ on; stops = λ on. sym p ∙ on })

pub hands-keep : (x x' : ClientSide) (y y' : ServerSide) (j j' : Joined) (n : ℕ) (r : Result (Unit {0}) Refusal) → HandsDown x y j n r x' y' j' → (x'.circuits.items ≡ x.circuits.items) × (y'.circuits.items ≡ y.circuits.items) × KeepsEnds (joined_of j) (joined_of j')
hands-keep x x' y y' j j' n (Ok u) d = (ap (λ (z : ClientSide). z.circuits.items) d.1.side, ap (λ (z : ServerSide). z.circuits.items) d.4, said-keeps j j' (with_said _ (joined_of j)) refl refl refl refl refl refl d.2)
hands-keep x x' y y' j j' n (Err OutOfMemory) d = (ap (λ (z : ClientSide). z.circuits.items) d.2, ap (λ (z : ServerSide). z.circuits.items) d.3, ends-stay (joined_of j) (joined_of j') d.4)
hands-keep x x' y y' j j' n (Err BadEvent) d = (ap (λ (z : ClientSide). z.circuits.items) d.1, ap (λ (z : ServerSide). z.circuits.items) d.2, ends-stay (joined_of j) (joined_of j') d.3)
hands-keep x x' y y' j j' n (Err _) d = absurd d

pub leaves-keep : (x x' : ClientSide) (j j' : Joined) (n : ℕ) (r : Result (Unit {0}) Refusal) → LeavesDown x j n r x' j' → (x'.circuits.items ≡ x.circuits.items) × KeepsEnds (joined_of j) (joined_of j')
leaves-keep x x' j j' n (Ok u) d = (ap (λ (z : ClientSide). z.circuits.items) d.1.side, said-keeps j j' (record (with_said _ (joined_of j)) { left_down = drop n j.left_down }) refl refl refl refl refl refl d.2)
leaves-keep x x' j j' n (Err OutOfMemory) d = (ap (λ (z : ClientSide). z.circuits.items) d.2, ends-stay (joined_of j) (joined_of j') d.3)
leaves-keep x x' j j' n (Err BadEvent) d = (ap (λ (z : ClientSide). z.circuits.items) d.1, ends-stay (joined_of j) (joined_of j') d.2)
leaves-keep x x' j j' n (Err _) d = absurd d
