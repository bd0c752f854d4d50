-- Numbers of two and four bytes, and texts that begin with them.
use Rattle.std.proofs.Common.{◌≡◌, ℕ, ◌^◌, ◌<◌, ◌≤◌, List, ◌++◌, length, get_or, take, drop, refl, sym, ap, ◌∙◌, inl, inr, arith}
use Rattle.std.specs.Int.{w16, w32, from_be_bytes}
use Rattle.std.proofs.lemmas.Bool.{cases_lt}
use Rattle.std.proofs.lemmas.Nat.{be_bytes_2, be_bytes_4, from_be_bytes-to_be_bytes_2, from_be_bytes-to_be_bytes_4}
use Rattle.std.proofs.lemmas.List.{take_at, drop_at, length-take, get_or-take, get_or_past}
use Rattle.ca_wire.specs.Header.{number16, number32}

pub length-number16 : (n : ℕ) → length (number16 n) ≡ 2
unfolding number16
length-number16 n = refl

pub length-number32 : (n : ℕ) → length (number32 n) ≡ 4
unfolding number32
length-number32 n = refl

number16-again : (n : ℕ) → n < 2 ^ 16 → from_be_bytes w16 (number16 n) ≡ n
unfolding number16
number16-again n lt = from_be_bytes-to_be_bytes_2 n lt

number32-again : (n : ℕ) → n < 2 ^ 32 → from_be_bytes w32 (number32 n) ≡ n
unfolding number32
number32-again n lt = from_be_bytes-to_be_bytes_4 n lt

-- two equal texts whose fronts are as long have equal fronts and equal rests
pub fronts : (a b x y : List ℕ) → length a ≡ length b → a ++ x ≡ b ++ y → (a ≡ b) × (x ≡ y)
fronts a b x y len e =
    (sym (take_at a x (length b) len) ∙ ap (λ (t : List ℕ). take (length b) t) e ∙ take_at b y (length b) refl, sym (drop_at a x (length b) len) ∙ ap (λ (t : List ℕ). drop (length b) t) e ∙ drop_at b y (length b) refl)

pub number16-front : (m n : ℕ) (x y : List ℕ) → m < 2 ^ 16 → n < 2 ^ 16 → number16 m ++ x ≡ number16 n ++ y → (m ≡ n) × (x ≡ y)
number16-front m n x y mlt nlt e =
    let both = fronts (number16 m) (number16 n) x y (length-number16 m ∙ sym (length-number16 n)) e in
    (sym (number16-again m mlt) ∙ ap (λ (t : List ℕ). from_be_bytes w16 t) both.0 ∙ number16-again n nlt, both.1)

pub number32-front : (m n : ℕ) (x y : List ℕ) → m < 2 ^ 32 → n < 2 ^ 32 → number32 m ++ x ≡ number32 n ++ y → (m ≡ n) × (x ≡ y)
number32-front m n x y mlt nlt e =
    let both = fronts (number32 m) (number32 n) x y (length-number32 m ∙ sym (length-number32 n)) e in
    (sym (number32-again m mlt) ∙ ap (λ (t : List ℕ). from_be_bytes w32 t) both.0 ∙ number32-again n nlt, both.1)

take-fits : (k : ℕ) (bytes : List ℕ) → ((i : ℕ) → get_or bytes i 0 < 256) → (i : ℕ) → get_or (take k bytes) i 0 < 256
take-fits k bytes fits i =
    elim (cases_lt i k) [
      | inl lt ↦ rw (get_or-take k bytes i 0 lt) (fits i)
      | inr le ↦ rw (get_or_past (take k bytes) i 0 (omega (arith, length-take k bytes))) (omega arith)
    ]

-- the first bytes of a text are the number that they spell
pub number16-at : (bytes : List ℕ) → 2 ≤ length bytes → ((i : ℕ) → get_or bytes i 0 < 256) → number16 (from_be_bytes w16 (take 2 bytes)) ≡ take 2 bytes
unfolding number16
number16-at bytes long fits = be_bytes_2 (take 2 bytes) _ (omega (arith, length-take 2 bytes)) (take-fits 2 bytes fits) refl

pub number32-at : (bytes : List ℕ) → 4 ≤ length bytes → ((i : ℕ) → get_or bytes i 0 < 256) → number32 (from_be_bytes w32 (take 4 bytes)) ≡ take 4 bytes
unfolding number32
number32-at bytes long fits = be_bytes_4 (take 4 bytes) _ (omega (arith, length-take 4 bytes)) (take-fits 4 bytes fits) refl
