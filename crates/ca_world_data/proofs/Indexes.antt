-- Circuits are found by their handles still.
use Rattle.std.proofs.Common.{◌≡◌, ℕ, inl, inr, true, List, refl, sym, ap, subst, ◌∙◌}
use Rattle.std.specs.Prelude.{map, slice_set}
use Rattle.ca_arena.specs.declared.handle.Handle.{Handle}
use Rattle.ca_text.specs.Place.{At}
use Rattle.ca_text.proofs.Places.{At-map, At-mapped, At-one, At-set}
use Rattle.ca_model.specs.World.{Joined}
use Rattle.ca_world_data.specs.declared.server.ServerSide.{ServerSide}
use Rattle.ca_world_data.specs.Found.{AreNumbered}
use Rattle.ca_world_data.specs.Indexed.{AreIndexed, HasNumber, server_numbers}
use Rattle.ca_world_data.proofs.Worlds.{set-map, set-same}

-- one of many changed, and has the same numbers
pub numbers-set : {A B : Type 0} (f : A → B) (xs : List A) (i : ℕ) (x new : A) → At xs i x → f new ≡ f x → map f (slice_set xs i new) ≡ map f xs
numbers-set f xs i x new at same =
    set-map f xs i new ∙ ap (slice_set (map f xs) i) same ∙ set-same (map f xs) i (f x) (At-map f xs i x at)

-- the same numbers and circuits
pub indexed-same : (cs cs' ss ss' : List (List ℕ)) (ks ks' : List Joined) → cs' ≡ cs → ss' ≡ ss → ks' ≡ ks → AreIndexed cs ss ks → AreIndexed cs' ss' ks'
indexed-same cs cs' ss ss' ks ks' c s k h =
    subst (λ (z : List (List ℕ) × (List (List ℕ) × List Joined)). AreIndexed z.0 z.1.0 z.1.1) (λ t. (sym c t, (sym s t, sym k t))) h

-- one server was set to one with the numbers of the same circuits
pub indexed-server : (numbers : List (List ℕ)) (ss : List ServerSide) (i : ℕ) (y y' : ServerSide) (ks ks' : List Joined) → At ss i y → y'.circuits.items ≡ y.circuits.items → ks' ≡ ks → AreIndexed numbers (server_numbers ss) ks → AreIndexed numbers (server_numbers (slice_set ss i y')) ks'
indexed-server numbers ss i y y' ks ks' at same =
    indexed-same numbers numbers (server_numbers ss) (server_numbers (slice_set ss i y')) ks ks' refl (numbers-set (λ (z : ServerSide). z.circuits.items) ss i y y' at same)

-- a circuit after an event: it joins what it joined, and its ends are open only if they were
pub record KeepsEnds (j new : Joined) : Type 0 where
  pub client : new.client ≡ j.client
  pub server : new.server ≡ j.server
  pub at_client : new.at_client ≡ j.at_client
  pub at_server : new.at_server ≡ j.at_server
  pub closes : new.lists.client_open ≡ true → j.lists.client_open ≡ true
  pub stops : new.lists.server_open ≡ true → j.lists.server_open ≡ true

pub ends-stay : (j new : Joined) → new ≡ j → KeepsEnds j new
ends-stay j new is = record {
  client = ap (λ (z : Joined). z.client) is;
  server = ap (λ (z : Joined). z.server) is;
  at_client = ap (λ (z : Joined). z.at_client) is;
  at_server = ap (λ (z : Joined). z.at_server) is;
  closes = λ on. sym (ap (λ (z : Joined). z.lists.client_open) is) ∙ on;
  stops = λ on. sym (ap (λ (z : Joined). z.lists.server_open) is) ∙ on;
}

module _ (cs ss : List (List ℕ)) (ks : List Joined) (h : AreIndexed cs ss ks) where
  -- each circuit comes from one that was there
  pub indexed-back : (ks' : List Joined) → ((k : ℕ) (new : Joined) → At ks' k new → (j : Joined) × At ks k j × KeepsEnds j new) → AreIndexed cs ss ks'
  indexed-back ks' back = record { clients = clients; servers = servers }
    where
      clients : (k : ℕ) (new : Joined) → At ks' k new → new.lists.client_open ≡ true → HasNumber cs new.client new.at_client k
      clients k new there on =
          let b = back k new there in
          let e : KeepsEnds b.0 new = b.2 in
          subst (λ (z : ℕ × Handle). HasNumber cs z.0 z.1 k) (λ t. (sym e.client t, sym e.at_client t)) (h.clients k b.0 b.1 (e.closes on))

      servers : (k : ℕ) (new : Joined) → At ks' k new → new.lists.server_open ≡ true → HasNumber ss new.server new.at_server k
      servers k new there on =
          let b = back k new there in
          let e : KeepsEnds b.0 new = b.2 in
          subst (λ (z : ℕ × Handle). HasNumber ss z.0 z.1 k) (λ t. (sym e.server t, sym e.at_server t)) (h.servers k b.0 b.1 (e.stops on))

  -- one circuit changed
  pub indexed-circuit : (l : ℕ) (j new : Joined) → At ks l j → KeepsEnds j new → AreIndexed cs ss (slice_set ks l new)
  indexed-circuit l j new at keeps = indexed-back (slice_set ks l new) back
    where
      back : (k : ℕ) (i : Joined) → At (slice_set ks l new) k i → (o : Joined) × At ks k o × KeepsEnds o i
      back k i there =
          elim (At-set ks l new k i there) [
            | inl is ↦ (j, subst (λ (z : ℕ). At ks z j) (sym is.0) at, subst (λ (z : Joined). KeepsEnds j z) (sym is.1) keeps)
            | inr old ↦ (i, old.0, ends-stay i i refl)
          ]

  -- all circuits changed
  pub indexed-map : (f : Joined → Joined) → ((j : Joined) → KeepsEnds j (f j)) → AreIndexed cs ss (map f ks)
  indexed-map f keeps = indexed-back (map f ks) back
    where
      back : (k : ℕ) (i : Joined) → At (map f ks) k i → (o : Joined) × At ks k o × KeepsEnds o i
      back k i there = (let d = At-mapped f ks k i there in (d.0, d.1, subst (λ (z : Joined). KeepsEnds d.0 z) (sym d.2) (keeps d.0)))

  -- what one client has
  pub numbered-of : (i : ℕ) (own : List ℕ) → At cs i own → AreNumbered own ks i
  numbered-of i own at k j there mine on =
      let n : HasNumber cs j.client j.at_client k = h.clients k j there on in
      let is : n.own ≡ own = At-one cs i n.own own (subst (λ (z : ℕ). At cs z n.own) mine n.side) at in
      subst (λ (z : List ℕ). At z j.at_client.index k) is n.number

-- of the circuits that are open at one client under one handle there is one
pub one-at-client : (numbers : List ℕ) (ks : List Joined) (i : ℕ) → AreNumbered numbers ks i → (k l : ℕ) (a b : Joined) → At ks k a → At ks l b → a.client ≡ i → b.client ≡ i → a.lists.client_open ≡ true → b.lists.client_open ≡ true
    → a.at_client ≡ b.at_client → k ≡ l
one-at-client numbers ks i h k l a b here there mine yours on off same =
    At-one numbers b.at_client.index k l (subst (λ (z : Handle). At numbers z.index k) same (h k a here mine on)) (h l b there yours off)
