-- A client's end of a circuit is cut, from what its parts became.
use Rattle.std.proofs.Common.{◌≡◌, ℕ, ◌≤◌, ◌+◌, true, false, List, Result, Ok, Err, length, refl, sym, ap, subst, ◌∙◌, arith}
use Rattle.std.specs.Prelude.{map, slice_set}
use Rattle.std.proofs.lemmas.List.{length-map}
use Rattle.ca_text.specs.declared.refusal.Refusal.{Refusal}
use Rattle.ca_text.specs.declared.refusal.Refusal.TheVariants.{OutOfMemory}
use Rattle.ca_text.specs.Place.{At}
use Rattle.ca_text.proofs.Places.{At-map, At-one}
use Rattle.ca_model.specs.Client.{farewell}
use Rattle.ca_model.specs.History.{Entry, Line, OfCircuit}
use Rattle.ca_model.specs.ClientEvents.{client_closed, lines_of}
use Rattle.ca_model.specs.Events.{CutClient}
use Rattle.ca_model.specs.Runs.{CanBe, HasClientEnd}
use Rattle.ca_model.specs.World as model
use Rattle.ca_laws_runs.specs.Quiet.{ClientsQuiet}
use Rattle.ca_world_data.specs.declared.client.ClientSide.{ClientSide}
use Rattle.ca_world_data.specs.declared.ends.Ends.{Ends}
use Rattle.ca_world_data.specs.declared.joined.Joined.{Joined}
use Rattle.ca_world_data.specs.declared.server.ServerSide.{ServerSide}
use Rattle.ca_world_data.specs.ClientCuts.{CutsClient}
use Rattle.ca_world_data.specs.Does.{Does}
use Rattle.ca_world_data.specs.Ends.{AreEnds, NoEnds, ends_of}
use Rattle.ca_world_data.specs.Seen.{client_of, joined_of, named_of, server_of}
use Rattle.ca_world_data.proofs.Calls.{after-quiet}
use Rattle.ca_world_data.proofs.Indexes.{KeepsEnds, ends-stay}
use Rattle.ca_world_data.proofs.Worlds.{joins, none-joined, one-at, same-circuit, set-map, set-same, world_of}
use Rattle.ca_world.specs.Whole.{IsReached}
use Rattle.ca_world.proofs.Farewells.{end-tells}

module _ (cs : List ClientSide) (ss : List ServerSide) (ks : List Joined) (cl : List (List Line)) (sl : List (List Entry)) (m : ℕ) where
  -- no circuit
  pub apart-none : (k : ℕ) → NoEnds (length cs) (length ss) ks k → CanBe (world_of cs ss ks cl sl m) (CutClient k) → ⊥
  apart-none k none can = none-joined cs ss ks cl sl m k none can.j can.x can.y can.joins

  -- its end at the client is not open
  apart-ended : (k : ℕ) (j : Joined) → At ks k j → j.lists.client_open ≡ false → CanBe (world_of cs ss ks cl sl m) (CutClient k) → ⊥
  apart-ended k j at ended can =
      let is = same-circuit cs ss ks cl sl m k j at can.j can.joins.at in
      let on : j.lists.client_open ≡ true = sym (ap (λ (z : model.Joined). z.lists.client_open) is) ∙ can.is_open in
      cc

  module _ (k : ℕ) (j : Joined) (x : ClientSide) (y : ServerSide) (at : At ks k j) (client : At cs j.client x) (server : At ss j.server y) (on : j.lists.client_open ≡ true) where
    abbrev there : HasClientEnd (world_of cs ss ks cl sl m) k
    there = record { j = joined_of j; x = client_of x; y = server_of y; joins = joins cs ss ks cl sl m k j x y at client server; is_open = on }

    apart-there : (j' : Joined) (x' : ClientSide) (cl' : List (List Line)) (r : Result (Unit {0}) Refusal) → CutsClient (client_of x) (joined_of j) cl r (client_of x') (joined_of j') cl'
        → Does (world_of cs ss ks cl sl m) (CutClient k) r (world_of (slice_set cs j.client x') ss (slice_set ks k j') cl' sl m)
    apart-there j' x' cl' (Ok u) d =
        let w : model.World = world_of cs ss ks cl sl m in
        let names : model.Names = (client_of x).names in
        let lines : List Line = lines_of OfCircuit names d.0.notices in
        let mid : model.World = model.with_circuit k (client_closed d.0.left (joined_of j)) w in (
          there,
          (
            d.0,
            d.1,
            x'.core,
            d.2,
            (λ t. record {
              clients = (set-map client_of cs j.client x' ∙ ap (slice_set (map client_of cs) j.client) d.3) t;
              servers = map server_of ss;
              circuits = (set-map joined_of ks k j' ∙ ap (slice_set (map joined_of ks) k) d.4) t;
              client_logs = d.5 t;
              server_logs = sl;
              moment = m;
            }) ∙ sym (after-quiet j.client (client_of x) names x'.core names lines mid),
          ),
        )
    apart-there j' x' cl' (Err OutOfMemory) d = (
      (there, d.0),
      (λ t. record {
        clients = (set-map client_of cs j.client x' ∙ ap (slice_set (map client_of cs) j.client) d.1 ∙ set-same (map client_of cs) j.client (client_of x) (At-map client_of cs j.client x client)) t;
        servers = map server_of ss;
        circuits = (set-map joined_of ks k j' ∙ ap (slice_set (map joined_of ks) k) d.2 ∙ set-same (map joined_of ks) k (joined_of j) (At-map joined_of ks k j at)) t;
        client_logs = d.3 t;
        server_logs = sl;
        moment = m;
      }),
    )
    apart-there j' x' cl' (Err _) d = absurd d

-- ---- by the ends that were found

module _ (cs : List ClientSide) (ss : List ServerSide) (ks : List Joined) (cl : List (List Line)) (sl : List (List Entry)) (m : ℕ) (k : ℕ) (e : Ends) (a : AreEnds (length cs) (length ss) ks k e) where
  pub apart-off : e.client_open ≡ false → CanBe (world_of cs ss ks cl sl m) (CutClient k) → ⊥
  apart-off off = apart-ended cs ss ks cl sl m k a.j a.at (sym (ap (λ (z : Ends). z.client_open) a.is) ∙ off)

  -- how many lines it takes at most
  pub apart-few : (j : Joined) (x : ClientSide) → At cs e.client x → IsReached (world_of cs ss ks cl sl m) → ClientsQuiet (world_of cs ss ks cl sl m)
      → length (farewell j.at_client x.core) ≤ length x.names.requests.items + length x.names.channels.items
  apart-few j x client reached quiet =
      let few = end-tells (world_of cs ss ks cl sl m) e.client (client_of x) j.at_client reached quiet (At-map client_of cs e.client x client) in
      let named = length-map x.names.requests.items named_of in
      omega (arith, few, named)

  pub apart-by : (j j' : Joined) (x x' : ClientSide) (cl' : List (List Line)) (r : Result (Unit {0}) Refusal) → At ks k j → At cs e.client x → e.client_open ≡ true → CutsClient (client_of x) (joined_of j) cl r (client_of x') (joined_of j') cl'
      → Does (world_of cs ss ks cl sl m) (CutClient k) r (world_of (slice_set cs e.client x') ss (slice_set ks k j') cl' sl m)
  apart-by j j' x x' cl' r at client on d =
      let is_j : a.j ≡ j = At-one ks k a.j j a.at at in
      let is : e ≡ ends_of j = a.is ∙ ap ends_of is_j in
      let one = one-at ss a.j.server a.server in
      let server : At ss j.server one.0 = subst (λ (z : Joined). At ss z.server one.0) is_j one.1 in
      subst (λ (z : Ends). At cs z.client x → z.client_open ≡ true → Does (world_of cs ss ks cl sl m) (CutClient k) r (world_of (slice_set cs z.client x') ss (slice_set ks k j') cl' sl m))
      (sym is)
      (λ client on. apart-there cs ss ks cl sl m k j x one.0 at client server on j' x' cl' r d)
      client
      on

-- ---- what stays

pub apart-keeps : (x x' : model.ClientSide) (j j' : model.Joined) (cl cl' : List (List Line)) (r : Result (Unit {0}) Refusal) → CutsClient x j cl r x' j' cl' → KeepsEnds j j'
apart-keeps x x' j j' cl cl' (Ok u) d =
    subst (λ (z : model.Joined). KeepsEnds j z) (sym d.4)
    (record { client = refl; server = refl; at_client = refl; at_server = refl; closes = λ on. absurd cc; stops = λ on. on })
apart-keeps x x' j j' cl cl' (Err OutOfMemory) d = ends-stay j j' d.2
apart-keeps x x' j j' cl cl' (Err _) d = absurd d
