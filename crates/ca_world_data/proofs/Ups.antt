-- Bytes reach a server, from what its parts became.
use Rattle.std.proofs.Common.{◌≡◌, ℕ, ◌≤◌, true, false, List, Result, Ok, Err, length, take, drop, sym, ap, subst, ◌∙◌}
use Rattle.std.specs.Prelude.{map, slice_set}
use Rattle.ca_arena.specs.declared.handle.Handle.{Handle}
use Rattle.ca_text.specs.declared.refusal.Refusal.{Refusal}
use Rattle.ca_text.specs.declared.refusal.Refusal.TheVariants.{BadEvent, OutOfMemory}
use Rattle.ca_text.specs.Place.{At}
use Rattle.ca_text.proofs.Places.{At-map, At-one}
use Rattle.ca_model.specs.Client.{out_bytes}
use Rattle.ca_model.specs.ClientEnds.{handed_over}
use Rattle.ca_model.specs.History.{Entry, Line}
use Rattle.ca_model.specs.ServerSteps.{Gives}
use Rattle.ca_model.specs.ClientEvents.{up_taken, waiting_up}
use Rattle.ca_model.specs.Events.{Up}
use Rattle.ca_model.specs.Runs.{CanBe, HasServerEnd}
use Rattle.ca_model.specs.World.{with_circuit, with_client, with_server}
use Rattle.ca_model.specs.World as model
use Rattle.ca_world_data.specs.declared.client.ClientSide.{ClientSide}
use Rattle.ca_world_data.specs.declared.joined.Joined.{Joined}
use Rattle.ca_world_data.specs.declared.server.ServerSide.{ServerSide}
use Rattle.ca_world_data.specs.Does.{Does}
use Rattle.ca_world_data.specs.declared.ends.Ends.{Ends}
use Rattle.ca_world_data.specs.Ends.{AreEnds, NoEnds, ends_of}
use Rattle.ca_world_data.specs.Seen.{client_of, joined_of, server_of}
use Rattle.ca_world_data.specs.Ups.{HandsUp, LeavesUp}
use Rattle.ca_world_data.proofs.Indexes.{KeepsEnds, ends-stay}
use Rattle.ca_world_data.proofs.Worlds.{if-false, if-true, joins, none-joined, one-at, same-circuit, set-map, set-same, world_of}

module _ (cs : List ClientSide) (ss : List ServerSide) (ks : List Joined) (cl : List (List Line)) (sl : List (List Entry)) (m : ℕ) where
  -- no circuit
  pub up-none : (k n : ℕ) → NoEnds (length cs) (length ss) ks k → CanBe (world_of cs ss ks cl sl m) (Up k n) → ⊥
  up-none k n none can = none-joined cs ss ks cl sl m k none can.0.j can.0.x can.0.y can.0.joins

  -- its end at the server is not open
  pub up-ended : (k n : ℕ) (j : Joined) → At ks k j → j.lists.server_open ≡ false → CanBe (world_of cs ss ks cl sl m) (Up k n) → ⊥
  up-ended k n j at ended can =
      let is = same-circuit cs ss ks cl sl m k j at can.0.j can.0.joins.at in
      let on : j.lists.server_open ≡ true = sym (ap (λ (z : model.Joined). z.lists.server_open) is) ∙ can.0.is_open in
      cc

  module _ (k n : ℕ) (j : Joined) (x : ClientSide) (y : ServerSide) (at : At ks k j) (client : At cs j.client x) (server : At ss j.server y) (receives : j.lists.server_open ≡ true) where
    -- the end that receives
    abbrev there : HasServerEnd (world_of cs ss ks cl sl m) k
    there = record { j = joined_of j; x = client_of x; y = server_of y; joins = joins cs ss ks cl sl m k j x y at client server; is_open = receives }

    -- fewer wait
    few : (n ≤ length (waiting_up (client_of x) (joined_of j)) → ⊥) → CanBe (world_of cs ss ks cl sl m) (Up k n) → ⊥
    few less can =
        let is_j : can.0.j ≡ joined_of j = same-circuit cs ss ks cl sl m k j at can.0.j can.0.joins.at in
        let client_there : At (map client_of cs) j.client can.0.x = subst (λ (z : model.Joined). At (map client_of cs) z.client can.0.x) is_j can.0.joins.client in
        let is_x : can.0.x ≡ client_of x = At-one (map client_of cs) j.client can.0.x (client_of x) client_there (At-map client_of cs j.client x client) in
        less (subst (λ (a : model.ClientSide × model.Joined). n ≤ length (waiting_up a.0 a.1)) (λ t. (is_x t, is_j t)) can.1)

    pub up-handed : (x' : ClientSide) (y' : ServerSide) (r : Result (Unit {0}) Refusal) → j.lists.client_open ≡ true → HandsUp x y j.at_client j.at_server n r x' y'
        → Does (world_of cs ss ks cl sl m) (Up k n) r (world_of (slice_set cs j.client x') (slice_set ss j.server y') ks cl sl m)
    up-handed x' y' (Ok u) on d =
        let waits : waiting_up (client_of x) (joined_of j) ≡ out_bytes x.core j.at_client = if-true j.lists.client_open (out_bytes x.core j.at_client) j.left_up on in
        let gone : model.World = with_client j.client (record (client_of x) { core = handed_over j.at_client n x.core }) (world_of cs ss ks cl sl m) in
        let taken : up_taken k n (joined_of j) (client_of x) (world_of cs ss ks cl sl m) ≡ gone =
        if-true j.lists.client_open gone (with_circuit k (record (joined_of j) { left_up = drop n j.left_up }) (world_of cs ss ks cl sl m)) on in
        let side : map client_of (slice_set cs j.client x') ≡ slice_set (map client_of cs) j.client (record (client_of x) { core = handed_over j.at_client n x.core }) =
        set-map client_of cs j.client x' ∙ ap (λ (z : ClientSide). slice_set (map client_of cs) j.client (client_of z)) d.3 in
        let other : map server_of (slice_set ss j.server y') ≡ slice_set (map server_of ss) j.server (record (server_of y) { core = y'.core }) =
        set-map server_of ss j.server y' ∙ ap (λ (z : ServerSide). slice_set (map server_of ss) j.server (server_of z)) d.2 in (
          (there, subst (λ (t : List ℕ). n ≤ length t) (sym waits) d.0),
          (
            y'.core,
            subst (λ (t : List ℕ). Gives y.core j.at_server (take n t) (Ok tt) y'.core) (sym waits) d.1,
            (λ i. record { clients = side i; servers = other i; circuits = map joined_of ks; client_logs = cl; server_logs = sl; moment = m })
                ∙ sym (ap (with_server j.server (record (server_of y) { core = y'.core })) taken),
          ),
        )
    up-handed x' y' (Err OutOfMemory) on d =
        let waits : waiting_up (client_of x) (joined_of j) ≡ out_bytes x.core j.at_client = if-true j.lists.client_open (out_bytes x.core j.at_client) j.left_up on in (
          ((there, subst (λ (t : List ℕ). n ≤ length t) (sym waits) d.0), d.3),
          (λ i. world_of (slice_set cs j.client (d.1 i)) (slice_set ss j.server (d.2 i)) ks cl sl m) ∙ (λ i. world_of (set-same cs j.client x client i) (set-same ss j.server y server i) ks cl sl m),
        )
    up-handed x' y' (Err BadEvent) on d =
        let waits : waiting_up (client_of x) (joined_of j) ≡ out_bytes x.core j.at_client = if-true j.lists.client_open (out_bytes x.core j.at_client) j.left_up on in (
          few (λ le. d.0 (subst (λ (t : List ℕ). n ≤ length t) waits le)),
          (λ i. world_of (slice_set cs j.client (d.1 i)) (slice_set ss j.server (d.2 i)) ks cl sl m) ∙ (λ i. world_of (set-same cs j.client x client i) (set-same ss j.server y server i) ks cl sl m),
        )
    up-handed x' y' (Err _) on d = absurd d

    pub up-left : (j' : Joined) (y' : ServerSide) (r : Result (Unit {0}) Refusal) → j.lists.client_open ≡ false → LeavesUp j y j.at_server n r j' y'
        → Does (world_of cs ss ks cl sl m) (Up k n) r (world_of cs (slice_set ss j.server y') (slice_set ks k j') cl sl m)
    up-left j' y' (Ok u) off d =
        let waits : waiting_up (client_of x) (joined_of j) ≡ j.left_up = if-false j.lists.client_open (out_bytes x.core j.at_client) j.left_up off in
        let gone : model.World = with_circuit k (record (joined_of j) { left_up = drop n j.left_up }) (world_of cs ss ks cl sl m) in
        let taken : up_taken k n (joined_of j) (client_of x) (world_of cs ss ks cl sl m) ≡ gone =
        if-false j.lists.client_open (with_client j.client (record (client_of x) { core = handed_over j.at_client n x.core }) (world_of cs ss ks cl sl m)) gone off in
        let line : map joined_of (slice_set ks k j') ≡ slice_set (map joined_of ks) k (record (joined_of j) { left_up = drop n j.left_up }) =
        set-map joined_of ks k j' ∙ ap (λ (z : Joined). slice_set (map joined_of ks) k (joined_of z)) d.3 in
        let other : map server_of (slice_set ss j.server y') ≡ slice_set (map server_of ss) j.server (record (server_of y) { core = y'.core }) =
        set-map server_of ss j.server y' ∙ ap (λ (z : ServerSide). slice_set (map server_of ss) j.server (server_of z)) d.2 in (
          (there, subst (λ (t : List ℕ). n ≤ length t) (sym waits) d.0),
          (
            y'.core,
            subst (λ (t : List ℕ). Gives y.core j.at_server (take n t) (Ok tt) y'.core) (sym waits) d.1,
            (λ i. record { clients = map client_of cs; servers = other i; circuits = line i; client_logs = cl; server_logs = sl; moment = m })
                ∙ sym (ap (with_server j.server (record (server_of y) { core = y'.core })) taken),
          ),
        )
    up-left j' y' (Err OutOfMemory) off d =
        let waits : waiting_up (client_of x) (joined_of j) ≡ j.left_up = if-false j.lists.client_open (out_bytes x.core j.at_client) j.left_up off in (
          ((there, subst (λ (t : List ℕ). n ≤ length t) (sym waits) d.0), d.3),
          (λ i. world_of cs (slice_set ss j.server (d.2 i)) (slice_set ks k (d.1 i)) cl sl m) ∙ (λ i. world_of cs (set-same ss j.server y server i) (set-same ks k j at i) cl sl m),
        )
    up-left j' y' (Err BadEvent) off d =
        let waits : waiting_up (client_of x) (joined_of j) ≡ j.left_up = if-false j.lists.client_open (out_bytes x.core j.at_client) j.left_up off in (
          few (λ le. d.0 (subst (λ (t : List ℕ). n ≤ length t) waits le)),
          (λ i. world_of cs (slice_set ss j.server (d.2 i)) (slice_set ks k (d.1 i)) cl sl m) ∙ (λ i. world_of cs (set-same ss j.server y server i) (set-same ks k j at i) cl sl m),
        )
    up-left j' y' (Err _) off d = absurd d

-- ---- by the ends that were found

module _ (cs : List ClientSide) (ss : List ServerSide) (ks : List Joined) (cl : List (List Line)) (sl : List (List Entry)) (m : ℕ) (k n : ℕ) (e : Ends) (a : AreEnds (length cs) (length ss) ks k e) where
  pub up-off : e.server_open ≡ false → CanBe (world_of cs ss ks cl sl m) (Up k n) → ⊥
  up-off off = up-ended cs ss ks cl sl m k n a.j a.at (sym (ap (λ (z : Ends). z.server_open) a.is) ∙ off)

  pub up-by-client : (x x' : ClientSide) (y y' : ServerSide) (r : Result (Unit {0}) Refusal) → At cs e.client x → At ss e.server y → e.server_open ≡ true → e.client_open ≡ true → HandsUp x y e.at_client e.at_server n r x' y'
      → Does (world_of cs ss ks cl sl m) (Up k n) r (world_of (slice_set cs e.client x') (slice_set ss e.server y') ks cl sl m)
  up-by-client x x' y y' r =
      subst (λ (z : Ends). At cs z.client x → At ss z.server y → z.server_open ≡ true → z.client_open ≡ true → HandsUp x y z.at_client z.at_server n r x' y' → Does (world_of cs ss ks cl sl m) (Up k n) r (world_of (slice_set cs z.client x') (slice_set ss z.server y') ks cl sl m))
      (sym a.is)
      (λ client server on opened d. up-handed cs ss ks cl sl m k n a.j x y a.at client server on x' y' r opened d)

  pub up-by-left : (j j' : Joined) (y y' : ServerSide) (r : Result (Unit {0}) Refusal) → At ks k j → At ss e.server y → e.server_open ≡ true → e.client_open ≡ false → LeavesUp j y e.at_server n r j' y'
      → Does (world_of cs ss ks cl sl m) (Up k n) r (world_of cs (slice_set ss e.server y') (slice_set ks k j') cl sl m)
  up-by-left j j' y y' r at server on off d =
      let is_j : a.j ≡ j = At-one ks k a.j j a.at at in
      let is : e ≡ ends_of j = a.is ∙ ap ends_of is_j in
      let one = one-at cs a.j.client a.client in
      let client : At cs j.client one.0 = subst (λ (z : Joined). At cs z.client one.0) is_j one.1 in
      subst (λ (z : Ends). At ss z.server y → z.server_open ≡ true → z.client_open ≡ false → LeavesUp j y z.at_server n r j' y' → Does (world_of cs ss ks cl sl m) (Up k n) r (world_of cs (slice_set ss z.server y') (slice_set ks k j') cl sl m))
      (sym is)
      (λ server on off d. up-left cs ss ks cl sl m k n j one.0 y at client server on j' y' r off d)
      server
      on
      off
      d

-- ---- what stays

-- both ends know their circuits by the same numbers
pub handed-keeps : (x x' : ClientSide) (y y' : ServerSide) (h g : Handle) (n : ℕ) (r : Result (Unit {0}) Refusal) → HandsUp x y h g n r x' y' → (x'.circuits.items ≡ x.circuits.items) × (y'.circuits.items ≡ y.circuits.items)
handed-keeps x x' y y' h g n (Ok u) d = (ap (λ (z : ClientSide). z.circuits.items) d.3, ap (λ (z : ServerSide). z.circuits.items) d.2)
handed-keeps x x' y y' h g n (Err OutOfMemory) d = (ap (λ (z : ClientSide). z.circuits.items) d.1, ap (λ (z : ServerSide). z.circuits.items) d.2)
handed-keeps x x' y y' h g n (Err BadEvent) d = (ap (λ (z : ClientSide). z.circuits.items) d.1, ap (λ (z : ServerSide). z.circuits.items) d.2)
handed-keeps x x' y y' h g n (Err _) d = absurd d

pub left-keeps : (j j' : Joined) (y y' : ServerSide) (g : Handle) (n : ℕ) (r : Result (Unit {0}) Refusal) → LeavesUp j y g n r j' y' → KeepsEnds (joined_of j) (joined_of j') × (y'.circuits.items ≡ y.circuits.items)
left-keeps j j' y y' g n (Ok u) d = (
  record {
    client = ap (λ (z : Joined). z.client) d.3;
    server = ap (λ (z : Joined). z.server) d.3;
    at_client = ap (λ (z : Joined). z.at_client) d.3;
    at_server = ap (λ (z : Joined). z.at_server) d.3;
    closes = λ on. sym (ap (λ (z : Joined). z.lists.client_open) d.3) ∙ on;
    stops = λ on. sym (ap (λ (z : Joined). z.lists.server_open) d.3) ∙ on;
  },
  ap (λ (z : ServerSide). z.circuits.items) d.2,
)
left-keeps j j' y y' g n (Err OutOfMemory) d = (ends-stay (joined_of j) (joined_of j') (ap joined_of d.1), ap (λ (z : ServerSide). z.circuits.items) d.2)
left-keeps j j' y y' g n (Err BadEvent) d = (ends-stay (joined_of j) (joined_of j') (ap joined_of d.1), ap (λ (z : ServerSide). z.circuits.items) d.2)
left-keeps j j' y y' g n (Err _) d = absurd d
