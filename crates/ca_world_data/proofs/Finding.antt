-- Where a circuit is found by its handle.
use Rattle.std.proofs.Common.{◌≡◌, ℕ, ◌≤◌, true, List, length, subst, arith}
use Rattle.ca_arena.specs.declared.handle.Handle.{Handle}
use Rattle.ca_text.specs.Place.{At}
use Rattle.ca_text.proofs.Places.{At-one, At-within}
use Rattle.ca_model.specs.World.{Joined}
use Rattle.ca_world_data.specs.Found.{AreNumbered, IsNowhere}

module _ (numbers : List ℕ) (ks : List Joined) (client : ℕ) (h : Handle) (known : AreNumbered numbers ks client) where
  -- its number, where there is one
  number-of : (k : ℕ) (j : Joined) → At ks k j → j.client ≡ client → j.lists.client_open ≡ true → j.at_client ≡ h → At numbers h.index k
  number-of k j at mine on here = subst (λ (z : Handle). At numbers z.index k) here (known k j at mine on)

  -- the client has no number by this index
  pub none-numbered : length numbers ≤ h.index → IsNowhere ks client h
  none-numbered over k j at mine on here =
      (let within = At-within numbers h.index k (number-of k j at mine on here) in absurd (omega (arith, over, within)))

  -- no circuit has the number
  pub none-there : (n : ℕ) → At numbers h.index n → length ks ≤ n → IsNowhere ks client h
  none-there n has over k j at mine on here =
      let is : n ≡ k = At-one numbers h.index n k has (number-of k j at mine on here) in
      let within = At-within ks k j at in
      absurd (omega (arith, over, within, is))

  -- the circuit of the number is another
  pub none-such : (n : ℕ) (i : Joined) → At numbers h.index n → At ks n i → (i.client ≡ client → i.lists.client_open ≡ true → i.at_client ≡ h → ⊥) → IsNowhere ks client h
  none-such n i has there other k j at mine on here =
      let is : k ≡ n = At-one numbers h.index k n (number-of k j at mine on here) has in
      let same : j ≡ i = At-one ks n j i (subst (λ (z : ℕ). At ks z j) is at) there in
      other (subst (λ (z : Joined). z.client ≡ client) same mine) (subst (λ (z : Joined). z.lists.client_open ≡ true) same on) (subst (λ (z : Joined). z.at_client ≡ h) same here)
