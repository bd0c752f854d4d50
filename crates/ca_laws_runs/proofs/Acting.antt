-- On which record a message acted does not change as the lists of its circuit and the
-- log of its server grow.
use Rattle.std.proofs.Common.{◌≡◌, ℕ, zero, suc, ◌<◌, ◌≤◌, inl, inr, List, [], ◌∷◌, ◌++◌, length, sym, ap, subst, ◌∙◌, append-nil, append_assoc, arith}
use Rattle.std.specs.Prelude.{take}
use Rattle.ca_text.specs.Place.{At}
use Rattle.ca_text.proofs.Places.{At-one, At-or, At-within}
use Rattle.ca_model.specs.History.{Circuit, Entry, Sent, Step}
use Rattle.ca_model.specs.Speech.{name_in, sid_in}
use Rattle.ca_model.specs.Channels.{Has, IsOpen, before}
use Rattle.ca_model.specs.Causes.{Acted}
use Rattle.ca_laws_parts.proofs.WritesLists.{At-take, none_at, take-front}

-- ---- beginnings of lists

pub taken-below : {A : Type 0} (n : ℕ) (xs : List A) (i : ℕ) (x : A) → At (take n xs) i x → i < n
taken-below zero xs i x at = absurd (none_at i x at)
taken-below (suc n) [] i x at = absurd (none_at i x at)
taken-below (suc n) (y ∷ xs) zero x at = omega arith
taken-below (suc n) (y ∷ xs) (suc i) x at = (let lt : i < n = taken-below n xs i x at in omega (arith, lt))

pub taken-at : {A : Type 0} (n : ℕ) (xs : List A) (i : ℕ) (x : A) → i < n → At xs i x → At (take n xs) i x
taken-at zero xs i x lt at = absurd (omega (arith, lt))
taken-at (suc n) [] i x lt at = absurd (none_at i x at)
taken-at (suc n) (y ∷ xs) zero x lt at = at
taken-at (suc n) (y ∷ xs) (suc i) x lt at = taken-at n xs i x (omega (arith, lt)) at

-- each item of the one is in the other, at its place
abbrev pub Grows : {A : Type 0} → List A → List A → Type 0
Grows {A} xs ys = (i : ℕ) (x : A) → At xs i x → At ys i x

pub taken-on : {A : Type 0} (n : ℕ) (xs ys : List A) → Grows xs ys → Grows (take n xs) (take n ys)
taken-on n xs ys grows i x at = taken-at n ys i x (taken-below n xs i x at) (grows i x (At-take n xs i x at))

pub grown-back : {A : Type 0} (xs ys : List A) → Grows xs ys → (i : ℕ) (x : A) → i < length xs → At ys i x → At xs i x
grown-back xs ys grows i x lt at = elim (At-or xs i) [
  | inl found ↦ subst (λ (y : _). At xs i y) (At-one ys i found.0 x (grows i found.0 found.1) at) found.1
  | inr past ↦ absurd (omega (arith, lt, past))
]

pub taken-back : {A : Type 0} (n : ℕ) (xs ys : List A) → Grows xs ys → n ≤ length xs → Grows (take n ys) (take n xs)
taken-back n xs ys grows le i x at =
    let lt : i < n = taken-below n ys i x at in
    taken-at n xs i x lt (grown-back xs ys grows i x (omega (arith, lt, le)) (At-take n ys i x at))

pub grows-length : {A : Type 0} (xs ys : List A) → Grows xs ys → (i : ℕ) → i < length xs → i < length ys
grows-length xs ys grows i lt = elim (At-or xs i) [
  | inl found ↦ At-within ys i found.0 (grows i found.0 found.1)
  | inr past ↦ absurd (omega (arith, lt, past))
]

-- ---- what a circuit became

pub record Extends (c d : Circuit) : Type 0 where
  pub up : Grows c.up d.up
  pub down : Grows c.down d.down
  pub handled : Grows c.handled d.handled

pub extends-then : (a b c : Circuit) → Extends a b → Extends b c → Extends a c
extends-then a b c f g = record {
  up = λ i x at. g.up i x (f.up i x at);
  down = λ i x at. g.down i x (f.down i x at);
  handled = λ i x at. g.handled i x (f.handled i x at);
}

-- the log begins with the other
abbrev pub IsLonger : List Entry → List Entry → Type 0
IsLonger y z = (more : List Entry) × (z ≡ y ++ more)

pub longer-self : (y : List Entry) → IsLonger y y
longer-self y = ([], sym (append-nil y))

pub longer-then : (a b c : List Entry) → IsLonger a b → IsLonger b c → IsLonger a c
longer-then a b c f g = (f.0 ++ g.0, g.1 ∙ ap (λ (l : List Entry). l ++ g.0) f.1 ∙ append_assoc a f.0 g.0)

pub longer-taken : (n : ℕ) (y z : List Entry) → IsLonger y z → n ≤ length y → take n z ≡ take n y
longer-taken n y z longer le = ap (λ (l : List Entry). take n l) longer.1 ∙ take-front n y longer.0 le

-- ---- on which record a message acted

pub acted-back : (c d : Circuit) (y z : List Entry) (k r : ℕ) (s : Sent) (h : Step) → Extends c d → IsLonger y z → At c.up k s → At c.handled k h → h.sent ≤ length c.down → h.logged ≤ length y → Acted d z k r → Acted c y k r
acted-back c d y z k r s h ext longer at_s at_h sent logged a = (
  s,
  h,
  a.2,
  a.3,
  at_s,
  at_h,
  (
    (
      was.0.0,
      was.0.1,
      was.0.2,
      taken-back h.sent c.down d.down ext.down sent a.2 was.0.0 was.0.3,
      was.0.4,
      was.0.5,
      was.0.6,
      taken-back k c.up d.up ext.up up_le a.3 was.0.1 was.0.7,
      taken-back k c.handled d.handled ext.handled handled_le a.3 was.0.2 was.0.8,
      subst (λ (l : List Entry). Has (take (was.0.2).logged l) r (name_in (was.0.1).message)) (longer-taken h.logged y z longer logged) was.0.9,
      was.0.10,
    ),
    λ i t lt at creates. was.1 i t lt (taken-on h.sent c.down d.down ext.down i t at) creates,
    λ l q lt within at clears. was.2 l q lt (grows-length (take k c.handled) (take k d.handled) (taken-on k c.handled d.handled ext.handled) l within) (taken-on k c.up d.up ext.up l q at) clears,
  ),
)
  where
    same_s : a.0 ≡ s
    same_s = At-one d.up k a.0 s a.4 (ext.up k s at_s)

    same_h : a.1 ≡ h
    same_h = At-one d.handled k a.1 h a.5 (ext.handled k h at_h)

    was : IsOpen (before d k h) (take h.logged z) a.2 a.3 (sid_in s.message) r
    was = subst (λ (v : Sent × Step). IsOpen (before d k v.1) (take v.1.logged z) a.2 a.3 (sid_in v.0.message) r) (λ i. (same_s i, same_h i)) a.6

    up_le : k ≤ length c.up
    up_le = (let lt : k < length c.up = At-within c.up k s at_s in omega (arith, lt))

    handled_le : k ≤ length c.handled
    handled_le = (let lt : k < length c.handled = At-within c.handled k h at_h in omega (arith, lt))
