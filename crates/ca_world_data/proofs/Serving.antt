-- Where a circuit is found by its handle at a server.
use Rattle.std.proofs.Common.{◌≡◌, ℕ, ◌≤◌, true, List, length, subst, arith}
use Rattle.ca_arena.specs.declared.handle.Handle.{Handle}
use Rattle.ca_text.specs.Place.{At}
use Rattle.ca_text.proofs.Places.{At-one, At-within}
use Rattle.ca_model.specs.World.{Joined}
use Rattle.ca_world_data.specs.Indexed.{AreIndexed, HasNumber}
use Rattle.ca_world_data.specs.Reporting.{AreServed, IsUnserved}

module _ (numbers : List ℕ) (ks : List Joined) (server : ℕ) (h : Handle) (known : AreServed numbers ks server) where
  -- its number, where there is one
  number-of : (k : ℕ) (j : Joined) → At ks k j → j.server ≡ server → j.lists.server_open ≡ true → j.at_server ≡ h → At numbers h.index k
  number-of k j at mine on here = subst (λ (z : Handle). At numbers z.index k) here (known k j at mine on)

  -- the server has no number by this index
  pub none-numbered : length numbers ≤ h.index → IsUnserved ks server h
  none-numbered over k j at mine on here =
      (let within = At-within numbers h.index k (number-of k j at mine on here) in absurd (omega (arith, over, within)))

  -- no circuit has the number
  pub none-there : (n : ℕ) → At numbers h.index n → length ks ≤ n → IsUnserved ks server h
  none-there n has over k j at mine on here =
      let is : n ≡ k = At-one numbers h.index n k has (number-of k j at mine on here) in
      let within = At-within ks k j at in
      absurd (omega (arith, over, within, is))

  -- the circuit of the number is another
  pub none-such : (n : ℕ) (i : Joined) → At numbers h.index n → At ks n i → (i.server ≡ server → i.lists.server_open ≡ true → i.at_server ≡ h → ⊥) → IsUnserved ks server h
  none-such n i has there other k j at mine on here =
      let is : k ≡ n = At-one numbers h.index k n (number-of k j at mine on here) has in
      let same : j ≡ i = At-one ks n j i (subst (λ (z : ℕ). At ks z j) is at) there in
      other (subst (λ (z : Joined). z.server ≡ server) same mine) (subst (λ (z : Joined). z.lists.server_open ≡ true) same on) (subst (λ (z : Joined). z.at_server ≡ h) same here)

-- of the circuits that are open at one server under one handle there is one
pub one-at-server : (numbers : List ℕ) (ks : List Joined) (i : ℕ) → AreServed numbers ks i → (k l : ℕ) (a b : Joined) → At ks k a → At ks l b → a.server ≡ i → b.server ≡ i → a.lists.server_open ≡ true → b.lists.server_open ≡ true
    → a.at_server ≡ b.at_server → k ≡ l
one-at-server numbers ks i h k l a b here there mine yours on off same =
    At-one numbers b.at_server.index k l (subst (λ (z : Handle). At numbers z.index k) same (h k a here mine on)) (h l b there yours off)

-- what one server has
pub served-of : (cs ss : List (List ℕ)) (ks : List Joined) → AreIndexed cs ss ks → (i : ℕ) (own : List ℕ) → At ss i own → AreServed own ks i
served-of cs ss ks h i own at k j there mine on =
    let n : HasNumber ss j.server j.at_server k = h.servers k j there on in
    let is : n.own ≡ own = At-one ss i n.own own (subst (λ (z : ℕ). At ss z n.own) mine n.side) at in
    subst (λ (z : List ℕ). At z j.at_server.index k) is n.number
