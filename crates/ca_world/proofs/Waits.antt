-- Bytes that wait on a world's circuits, by the ends that were found.
use Rattle.std.proofs.Common.{◌≡◌, ℕ, true, List, inl, inr, length, sym, ap, subst, ◌∙◌}
use Rattle.std.specs.Prelude.{◌↔◌, IsTrue}
use Rattle.ca_text.specs.Place.{At}
use Rattle.ca_text.proofs.Places.{At-one}
use Rattle.ca_model.specs.History.{Entry, Line}
use Rattle.ca_model.specs.ClientEvents.{waiting_down, waiting_up}
use Rattle.ca_model.specs.Runs.{HasClientEnd, HasServerEnd}
use Rattle.ca_model.specs.World as model
use Rattle.ca_world.specs.declared.circuits.Way.{Way}
use Rattle.ca_world.specs.declared.circuits.Way.TheVariants.{Down, Up}
use Rattle.ca_world.specs.Waiting.{AreWaiting, IsNoCircuit, Receives, Waits, joined_alone}
use Rattle.ca_world_data.specs.declared.client.ClientSide.{ClientSide}
use Rattle.ca_world_data.specs.declared.ends.Ends.{Ends}
use Rattle.ca_world_data.specs.declared.joined.Joined.{Joined}
use Rattle.ca_world_data.specs.declared.server.ServerSide.{ServerSide}
use Rattle.ca_world_data.specs.Ends.{AreEnds, NoEnds, ends_of}
use Rattle.ca_world_data.specs.Seen.{client_of, joined_of, server_of}
use Rattle.ca_world_data.proofs.Worlds.{ends-client, ends-server, joins, none-joined, one-at, same-circuit, world_of}

module _ (cs : List ClientSide) (ss : List ServerSide) (ks : List Joined) (cl : List (List Line)) (sl : List (List Entry)) (m k : ℕ) where
  abbrev w : model.World
  w = world_of cs ss ks cl sl m

  -- no circuit
  pub none-waits : NoEnds (length cs) (length ss) ks k → IsNoCircuit w k
  none-waits none = none-joined cs ss ks cl sl m k none

  pub none-receives : NoEnds (length cs) (length ss) ks k → (way : Way) → Receives w k way → ⊥
  none-receives none Up can = none-joined cs ss ks cl sl m k none can.j can.x can.y can.joins
  none-receives none Down can = none-joined cs ss ks cl sl m k none can.j can.x can.y can.joins

  -- what waits on these circuits, seen in a world with its logs
  pub waits-here : (way : Way) (n : ℕ) → AreWaiting (joined_alone cs ss ks) k way n → AreWaiting w k way n
  waits-here way n (inl there) =
      inl (record { j = there.j; x = there.x; y = there.y; joins = record { at = there.joins.at; client = there.joins.client; server = there.joins.server }; many = there.many })
  waits-here way n (inr none) = inr (λ j x y h. none.0 j x y (record { at = h.at; client = h.client; server = h.server }), none.1)

  module _ (e : Ends) (a : AreEnds (length cs) (length ss) ks k e) where
    -- the end at the server, if it is open
    pub server-there : e.server_open ≡ true → HasServerEnd w k
    server-there on =
        let x = one-at cs a.j.client a.client in
        let y = one-at ss a.j.server a.server in
        record {
          j = joined_of a.j;
          x = client_of x.0;
          y = server_of y.0;
          joins = joins cs ss ks cl sl m k a.j x.0 y.0 a.at x.1 y.1;
          is_open = sym (ap (λ (z : Ends). z.server_open) a.is) ∙ on;
        }

    pub server-opened : HasServerEnd w k → e.server_open ≡ true
    server-opened can =
        let is = same-circuit cs ss ks cl sl m k a.j a.at can.j can.joins.at in
        ap (λ (z : Ends). z.server_open) a.is ∙ (sym (ap (λ (z : model.Joined). z.lists.server_open) is) ∙ can.is_open)

    -- that at the client
    pub client-there : e.client_open ≡ true → HasClientEnd w k
    client-there on =
        let x = one-at cs a.j.client a.client in
        let y = one-at ss a.j.server a.server in
        record {
          j = joined_of a.j;
          x = client_of x.0;
          y = server_of y.0;
          joins = joins cs ss ks cl sl m k a.j x.0 y.0 a.at x.1 y.1;
          is_open = sym (ap (λ (z : Ends). z.client_open) a.is) ∙ on;
        }

    pub client-opened : HasClientEnd w k → e.client_open ≡ true
    client-opened can =
        let is = same-circuit cs ss ks cl sl m k a.j a.at can.j can.joins.at in
        ap (λ (z : Ends). z.client_open) a.is ∙ (sym (ap (λ (z : model.Joined). z.lists.client_open) is) ∙ can.is_open)

    -- n bytes wait
    pub waits-up : (j : Joined) (x : ClientSide) (n : ℕ) → At ks k j → At cs e.client x → n ≡ length (waiting_up (client_of x) (joined_of j)) → Waits w k Up n
    waits-up j x n at client many =
        let is : e ≡ ends_of j = a.is ∙ ap ends_of (At-one ks k a.j j a.at at) in
        let y = one-at ss e.server (ends-server (length cs) (length ss) ks k e a) in
        record {
          j = joined_of j;
          x = client_of x;
          y = server_of y.0;
          joins = joins cs ss ks cl sl m k j x y.0 at (subst (λ (z : Ends). At cs z.client x) is client) (subst (λ (z : Ends). At ss z.server y.0) is y.1);
          many = many;
        }

    pub waits-down : (j : Joined) (y : ServerSide) (n : ℕ) → At ks k j → At ss e.server y → n ≡ length (waiting_down (server_of y) (joined_of j)) → Waits w k Down n
    waits-down j y n at server many =
        let is : e ≡ ends_of j = a.is ∙ ap ends_of (At-one ks k a.j j a.at at) in
        let x = one-at cs e.client (ends-client (length cs) (length ss) ks k e a) in
        record {
          j = joined_of j;
          x = client_of x.0;
          y = server_of y;
          joins = joins cs ss ks cl sl m k j x.0 y at (subst (λ (z : Ends). At cs z.client x.0) is x.1) (subst (λ (z : Ends). At ss z.server y) is server);
          many = many;
        }

    -- the same of a world that is seen so, with the way as a variable
    pub receives-up : (v : model.World) (way : Way) → w ≡ v → way ≡ Up → IsTrue e.server_open ↔ Receives v k way
    receives-up v way is way_is = subst (λ (z : model.World × Way). IsTrue e.server_open ↔ Receives z.0 k z.1) (λ t. (is t, sym way_is t)) (server-there, server-opened)

    pub receives-down : (v : model.World) (way : Way) → w ≡ v → way ≡ Down → IsTrue e.client_open ↔ Receives v k way
    receives-down v way is way_is = subst (λ (z : model.World × Way). IsTrue e.client_open ↔ Receives z.0 k z.1) (λ t. (is t, sym way_is t)) (client-there, client-opened)

    pub waited-up : (v : model.World) (way : Way) → w ≡ v → way ≡ Up → (j : Joined) (x : ClientSide) (n : ℕ) → At ks k j → At cs e.client x → n ≡ length (waiting_up (client_of x) (joined_of j)) → Waits v k way n
    waited-up v way is way_is j x n at client many = subst (λ (z : model.World × Way). Waits z.0 k z.1 n) (λ t. (is t, sym way_is t)) (waits-up j x n at client many)

    pub waited-down : (v : model.World) (way : Way) → w ≡ v → way ≡ Down → (j : Joined) (y : ServerSide) (n : ℕ) → At ks k j → At ss e.server y → n ≡ length (waiting_down (server_of y) (joined_of j)) → Waits v k way n
    waited-down v way is way_is j y n at server many = subst (λ (z : model.World × Way). Waits z.0 k z.1 n) (λ t. (is t, sym way_is t)) (waits-down j y n at server many)
