-- What a change at one name leaves at each name, in a map that hashes its names.
use Rattle.std.proofs.Common.{◌≡◌, ℕ, true, false, cond, inl, inr, List, Option, Some, ap, sym, subst}
use Rattle.std.specs.HashMap as hash
use Rattle.std.specs.HashMap.{HashMap}
use Rattle.std.specs.Map.{IsKeyTest, KeepsOthers}
use Rattle.std.specs.Str.{bytes_eq}
use Rattle.std.proofs.lemmas.Slice.Eq.{bytes_eq-Decides}
use Rattle.ca_records.specs.Index.{place_in}
use Rattle.ca_records.proofs.Waiters.{true_or_false}

-- what one name has is not what another has
apart-names : (name other key : List ℕ) → bytes_eq other name ≡ false → bytes_eq name key ≡ true → bytes_eq other key ≡ false
apart-names name other key miss hit =
    let same : name ≡ key = (bytes_eq-Decides name key).0 hit in
    subst (λ (k : List ℕ). bytes_eq other k ≡ false) same miss

key-test : {K : Type 0} (bytes : K → List ℕ) (name : List ℕ) → IsKeyTest (λ x y. bytes_eq (bytes x) (bytes y)) (λ k. bytes_eq name (bytes k))
key-test bytes name x y hit =
    let same : name ≡ bytes x = (bytes_eq-Decides name (bytes x)).0 hit in
    ap (λ (t : List ℕ). bytes_eq t (bytes y)) same

other-stays : {K : Type 0} (bytes : K → List ℕ) (name other : List ℕ) (old new : List (K × ℕ)) → KeepsOthers (λ x y. bytes_eq (bytes x) (bytes y)) (λ k. bytes_eq name (bytes k)) old new → bytes_eq other name ≡ false → place_in bytes new other ≡ place_in bytes old other
unfolding KeepsOthers
other-stays bytes name other old new keeps miss =
    keeps (λ k. bytes_eq other (bytes k)) (key-test bytes other) (λ k hit. apart-names name other (bytes k) miss hit)

pub place_in-others : {K S : Type 0} (bytes : K → List ℕ) (m n : HashMap K ℕ S) (name : List ℕ) (w : Option ℕ) → hash.UpdatesBy (λ x y. bytes_eq (bytes x) (bytes y)) (λ k. bytes_eq name (bytes k)) m n w → (other : List ℕ) → bytes_eq other name ≡ false → place_in bytes n.entries other ≡ place_in bytes m.entries other
place_in-others bytes m n name w h other miss = other-stays bytes name other m.entries n.entries h.3 miss

place_in-changed : {K S : Type 0} (bytes : K → List ℕ) (m n : HashMap K ℕ S) (name : List ℕ) (w : Option ℕ) → hash.UpdatesBy (λ x y. bytes_eq (bytes x) (bytes y)) (λ k. bytes_eq name (bytes k)) m n w → (other : List ℕ) → place_in bytes n.entries other ≡ cond (bytes_eq other name) w (place_in bytes m.entries other)
place_in-changed bytes m n name w h other = elim (true_or_false (bytes_eq other name)) [
  | inl hit ↦
      let same : other ≡ name = (bytes_eq-Decides other name).0 hit in
      let here : place_in bytes n.entries name ≡ w = h.1 in
      rw hit (subst (λ (t : List ℕ). place_in bytes n.entries t ≡ w) (sym same) here)
  | inr miss ↦ rw miss (place_in-others bytes m n name w h other miss)
]

-- a place was put in under a key of this name
pub place_in-inserted : {K S : Type 0} (bytes : K → List ℕ) (m n : HashMap K ℕ S) (k : K) (place : ℕ) (name : List ℕ) → bytes k ≡ name → hash.UpdatesBy (λ x y. bytes_eq (bytes x) (bytes y)) (λ x. bytes_eq (bytes k) (bytes x)) m n (Some place) → (other : List ℕ) → place_in bytes n.entries other ≡ cond (bytes_eq other name) (Some place) (place_in bytes m.entries other)
place_in-inserted bytes m n k place name key h = λ other.
    (let changed : place_in bytes n.entries other ≡ cond (bytes_eq other (bytes k)) (Some place) (place_in bytes m.entries other) = place_in-changed bytes m n (bytes k) (Some place) h other in
    subst (λ (t : List ℕ). place_in bytes n.entries other ≡ cond (bytes_eq other t) (Some place) (place_in bytes m.entries other)) key changed)
