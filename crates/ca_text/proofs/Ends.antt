-- Two texts of one length that have the same first and last bytes, which are half of them or more.
use Rattle.std.proofs.Common.{◌≡◌, ℕ, ◌+◌, ◌-◌, ◌*◌, ◌<◌, ◌≤◌, Bool, true, List, length, get_or, take, drop, refl, sym, ap, subst, ◌∙◌, inl, inr, arith, nat_eq}
use Rattle.std.specs.Bool.{Decides, one_answer}
use Rattle.std.specs.Int.{from_le_bytes, to_le_bytes, w32, w64}
use Rattle.std.specs.Str.{bytes_eq}
use Rattle.std.proofs.lemmas.Bool.{cases_lt}
use Rattle.std.proofs.lemmas.Bool.Decides.{Decides-eqb}
use Rattle.std.proofs.lemmas.Nat.{le_bytes_4, le_bytes_8}
use Rattle.std.proofs.lemmas.List.{length-take, length-drop, get_or-take, get_or-drop, get_or_past}
use Rattle.std.proofs.lemmas.Grind.{same_number_lists}
use Rattle.std.proofs.lemmas.Slice.Eq.{bytes_eq-Decides}

part-fits : (k j : ℕ) (bytes : List ℕ) → ((i : ℕ) → get_or bytes i 0 < 256) → (i : ℕ) → get_or (take k (drop j bytes)) i 0 < 256
part-fits k j bytes fits i =
    elim (cases_lt i k) [
      | inl lt ↦ rw (get_or-take k (drop j bytes) i 0 lt, get_or-drop j bytes i 0) (fits (j + i))
      | inr le ↦ rw (get_or_past (take k (drop j bytes)) i 0 (omega (arith, length-take k (drop j bytes)))) (omega arith)
    ]

part-length : (k j : ℕ) (bytes : List ℕ) → j + k ≤ length bytes → length (take k (drop j bytes)) ≡ k
part-length k j bytes le = omega (arith, length-take k (drop j bytes), length-drop j bytes)

-- parts of four bytes that are the same number are the same
pub fours : (j : ℕ) (a b : List ℕ) → ((i : ℕ) → get_or a i 0 < 256) → ((i : ℕ) → get_or b i 0 < 256) → j + 4 ≤ length a → j + 4 ≤ length b → from_le_bytes w32 (take 4 (drop j a)) ≡ from_le_bytes w32 (take 4 (drop j b)) → take 4 (drop j a) ≡ take 4 (drop j b)
fours j a b afits bfits ale ble e =
    sym (le_bytes_4 (take 4 (drop j a)) _ (part-length 4 j a ale) (part-fits 4 j a afits) refl) ∙ le_bytes_4 (take 4 (drop j b)) _ (part-length 4 j b ble) (part-fits 4 j b bfits) e

pub eights : (j : ℕ) (a b : List ℕ) → ((i : ℕ) → get_or a i 0 < 256) → ((i : ℕ) → get_or b i 0 < 256) → j + 8 ≤ length a → j + 8 ≤ length b → from_le_bytes w64 (take 8 (drop j a)) ≡ from_le_bytes w64 (take 8 (drop j b)) → take 8 (drop j a) ≡ take 8 (drop j b)
eights j a b afits bfits ale ble e =
    sym (le_bytes_8 (take 8 (drop j a)) _ (part-length 8 j a ale) (part-fits 8 j a afits) refl) ∙ le_bytes_8 (take 8 (drop j b)) _ (part-length 8 j b ble) (part-fits 8 j b bfits) e

same-at : (k j i : ℕ) (a b : List ℕ) → take k (drop j a) ≡ take k (drop j b) → i < k → get_or a (j + i) 0 ≡ get_or b (j + i) 0
same-at k j i a b e lt =
    let at : (t : List ℕ) → get_or (take k (drop j t)) i 0 ≡ get_or t (j + i) 0 = λ t. get_or-take k (drop j t) i 0 lt ∙ get_or-drop j t i 0 in
    sym (at a) ∙ ap (λ (t : List ℕ). get_or t i 0) e ∙ at b

-- texts of k to 2 k bytes with the same first k and the same last k are the same
pub same-ends : (k : ℕ) (a b : List ℕ) → length a ≡ length b → k ≤ length a → length a ≤ 2 * k → take k (drop 0 a) ≡ take k (drop 0 b) → take k (drop (length a - k) a) ≡ take k (drop (length a - k) b) → a ≡ b
same-ends k a b len least most first last =
    same_number_lists a b len (λ i lt.
    elim (cases_lt i k) [
      | inl below ↦ subst (λ (n : ℕ). get_or a n 0 ≡ get_or b n 0) (omega arith) (same-at k 0 i a b first below)
      | inr past ↦ subst (λ (n : ℕ). get_or a n 0 ≡ get_or b n 0) (omega arith) (same-at k (length a - k) (i - (length a - k)) a b last (omega arith))
    ])

-- so that one comparison of such parts says what a comparison of all does
pub ends-tell : (a b : List ℕ) (x y : ℕ) → (x ≡ y → a ≡ b) → (a ≡ b → x ≡ y) → nat_eq x y ≡ bytes_eq a b
ends-tell a b x y to from =
    let d : Decides (nat_eq x y) (x ≡ y) = Decides-eqb x y in
    one_answer (nat_eq x y) (bytes_eq a b) (λ e. to (d.0 e), λ e. d.1 (from e)) (bytes_eq-Decides a b)
