-- What is in a buffer after an append that may be refused.
use Rattle.std.proofs.Common.{◌≡◌, ◌+◌, ◌<◌, ℕ, List, ◌++◌, Result, Ok, Err, OnOk, OnErr, cond, is_ok, ap, ◌∙◌, append_assoc, arith}
use Rattle.ca_wire.specs.declared.header.Header.{Header}
use Rattle.ca_wire.specs.Header.{header_spelling}
use Rattle.ca_wire.specs.Fields.{Fields}
use Rattle.ca_wire.specs.Message.{header_of, spelling}

pub appended : {E : Type 0} (r : Result (Unit {0}) E) (was now xs ys : List ℕ) → now ≡ cond (is_ok r) (was ++ xs) was → xs ≡ ys → OnOk r (now ≡ was ++ ys)
appended (Ok x) was now xs ys e same = e ∙ ap (λ (z : List ℕ). was ++ z) same
appended (Err x) was now xs ys e same = tt

-- a header and then a payload
pub appended-both : {E : Type 0} (r : Result (Unit {0}) E) (was mid now payload : List ℕ) (h : Header) (m : Fields) → h ≡ header_of m → payload ≡ m.payload → mid ≡ was ++ header_spelling h → now ≡ cond (is_ok r) (mid ++ payload) mid → OnOk r (now ≡ was ++ spelling m)
unfolding spelling
appended-both (Ok x) was mid now payload h m a b c d =
    d ∙ ap (λ (t : List ℕ). t ++ payload) (c ∙ ap (λ (g : Header). was ++ header_spelling g) a) ∙ append_assoc was (header_spelling (header_of m)) payload ∙ ap (λ (t : List ℕ). was ++ (header_spelling (header_of m) ++ t)) b
appended-both (Err x) was mid now payload h m a b c d = tt

-- a refusal that cannot be
pub never-err : {T E : Type 0} (r : Result T E) (P Q : Type 0) → OnErr r P → (P → ⊥) → OnErr r Q
never-err (Ok x) P Q p refuted = tt
never-err (Err x) P Q p refuted = absurd (refuted p)

-- room was missing for n more
pub lacked : {T E : Type 0} (r : Result T E) (capacity was m n : ℕ) → OnErr r (capacity < was + m) → m ≡ n → OnErr r (capacity < was + n)
lacked (Ok x) capacity was m n full e = tt
lacked (Err x) capacity was m n full e = omega (arith, full, e)
