-- Lines of channels: the place of a channel in one, and what the map that has them leaves.
use Rattle.std.proofs.Common.{◌≡◌, ℕ, zero, suc, ◌+◌, ◌-◌, ◌<◌, ◌≤◌, inl, inr, Bool, true, false, cond, ltb, List, [], ◌∷◌, ◌++◌, length, get_or, take, drop, Option, Some, None, refl, sym, ap, ◌∙◌, subst, arith, length-append}
use Rattle.std.specs.Prelude.{IsSome, remove, unwrap_or}
use Rattle.std.specs.List.Sorted.{IsPartitionPoint, IsPartitionedBy}
use Rattle.std.specs.HashMap as hash
use Rattle.std.specs.HashMap.{HashMap}
use Rattle.std.specs.Map.{IsKeyTest, KeepsOthers, lookup, set_value}
use Rattle.std.specs.Str.{bytes_eq}
use Rattle.std.proofs.lemmas.Bool.{cases_lt, lt-ltb, ltb-true}
use Rattle.std.proofs.lemmas.List.{get_or_append_left, get_or-append-add}
use Rattle.std.proofs.lemmas.Map.Steps.{set_value_same}
use Rattle.std.proofs.lemmas.Slice.Eq.{bytes_eq-Decides}
use Rattle.ca_arena.specs.declared.handle.Handle.{Handle}
use Rattle.ca_server_circuit.specs.ByName.{AreBelow, AreFrom, Enters, EntersLine, Goes, GoesFromLine, IsItsPlace, channels_in, line_of, lines_in}

-- ---- the place of a channel

abbrev pub has_lower : ℕ → Handle → Bool
has_lower i h = ltb h.index i

below-at : (i : ℕ) (hs : List Handle) (k : ℕ) (d : Handle) → AreBelow i hs → k < length hs → (get_or hs k d).index < i
below-at i [] k d are lt = absurd (omega (arith, lt))
below-at i (h ∷ hs) zero d are lt = are.0
below-at i (h ∷ hs) (suc k) d are lt = below-at i hs k d are.1 (omega (arith, lt))

from-at : (i : ℕ) (hs : List Handle) (k : ℕ) (d : Handle) → AreFrom i hs → k < length hs → i ≤ (get_or hs k d).index
from-at i [] k d are lt = absurd (omega (arith, lt))
from-at i (h ∷ hs) zero d are lt = are.0
from-at i (h ∷ hs) (suc k) d are lt = from-at i hs k d are.1 (omega (arith, lt))

module _ (i : ℕ) (below from : List Handle) (are : AreBelow i below) (rest : AreFrom i from) where
  lower-there : (k : ℕ) (d : Handle) → k < length below → (get_or (below ++ from) k d).index < i
  lower-there k d lt = subst (λ (h : Handle). h.index < i) (sym (get_or_append_left below from d k lt)) (below-at i below k d are lt)

  from-there : (m : ℕ) (d : Handle) → m < length from → i ≤ (get_or (below ++ from) (length below + m) d).index
  from-there m d lt = subst (λ (h : Handle). i ≤ h.index) (sym (get_or-append-add below from m d)) (from-at i from m d rest lt)

  from-past : (k : ℕ) (d : Handle) → length below ≤ k → k < length (below ++ from) → i ≤ (get_or (below ++ from) k d).index
  from-past k d past lt =
      let is : length below + (k - length below) ≡ k = omega (arith, past) in
      let long = length-append below from in
      subst (λ (n : ℕ). i ≤ (get_or (below ++ from) n d).index) is (from-there (k - length below) d (omega (arith, past, lt, long)))

  pub parted : IsPartitionedBy (has_lower i) (below ++ from)
  parted a b d le lt hit = elim (cases_lt b (length below)) [
    | inl before ↦ lt-ltb (get_or (below ++ from) a d).index i (lower-there a d (omega (arith, le, before)))
    | inr past ↦ absurd (let x = from-past b d past lt in let y = ltb-true (get_or (below ++ from) b d).index i hit in omega (arith, x, y))
  ]

  pub place-is : (r : ℕ) → r ≤ length (below ++ from) → IsPartitionPoint (λ (h : Handle). has_lower i h ≡ true) (λ (h : Handle). has_lower i h ≡ false) (below ++ from) r → r ≡ length below
  place-is r within point = elim (cases_lt r (length below)) [
    | inl short ↦ absurd (
        let long = length-append below from in
        let no_one = point.1 r none (omega arith) (omega (arith, short, long)) in
        not-both (has_lower i (get_or (below ++ from) r none)) (lt-ltb (get_or (below ++ from) r none).index i (lower-there r none short)) no_one)
    | inr past ↦ elim (cases_lt (length below) r) [
      | inl long ↦ absurd (
          let hit = point.0 (length below) none (omega arith) long in
          let x = from-past (length below) none (omega arith) (omega (arith, long, within)) in
          let y = ltb-true (get_or (below ++ from) (length below) none).index i hit in omega (arith, x, y))
      | inr same ↦ omega (arith, past, same)
    ]
  ]
    where
      none : Handle
      none = record { index = 0; generation = 0 }

      not-both : (b : Bool) → b ≡ true → b ≡ false → ⊥
      not-both b t f = cc

pub is-its-place : (i : ℕ) (hs : List Handle) (r : ℕ) → r ≤ length hs → (IsPartitionedBy (has_lower i) hs → IsPartitionPoint (λ (h : Handle). has_lower i h ≡ true) (λ (h : Handle). has_lower i h ≡ false) hs r) → IsItsPlace i hs r
is-its-place i hs r within point below from is are rest =
    let lies = subst (λ (xs : List Handle). IsPartitionedBy (has_lower i) xs → IsPartitionPoint (λ (h : Handle). has_lower i h ≡ true) (λ (h : Handle). has_lower i h ≡ false) xs r) is point in
    place-is i below from are rest r (subst (λ (xs : List Handle). r ≤ length xs) is within) (lies (parted i below from are rest))

take-front : {X : Type 0} (xs ys : List X) → take (length xs) (xs ++ ys) ≡ xs
take-front [] [] = refl
take-front [] (y ∷ ys) = refl
take-front (x ∷ xs) ys = ap (λ (zs : List _). x ∷ zs) (take-front xs ys)

drop-front : {X : Type 0} (xs ys : List X) → drop (length xs) (xs ++ ys) ≡ ys
drop-front [] [] = refl
drop-front [] (y ∷ ys) = refl
drop-front (x ∷ xs) ys = drop-front xs ys

drop-one-more : {X : Type 0} (xs : List X) (y : X) (ys : List X) → drop (suc (length xs)) (xs ++ y ∷ ys) ≡ ys
drop-one-more [] y [] = refl
drop-one-more [] y (z ∷ ys) = refl
drop-one-more (x ∷ xs) y ys = drop-one-more xs y ys

pub goes-from-line : (h : Handle) (old new : List Handle) (r : ℕ) → IsItsPlace h.index old r → new ≡ remove old r → GoesFromLine h old new
goes-from-line h old new r place is below from parts are rest =
    is
    ∙ ap (λ (n : ℕ). remove old n) (place below (h ∷ from) parts are (omega arith, rest))
    ∙ ap (λ (xs : List Handle). remove xs (length below)) parts
    ∙ ap (λ (xs : List Handle). xs ++ drop (suc (length below)) (below ++ h ∷ from)) (take-front below (h ∷ from))
    ∙ ap (λ (xs : List Handle). below ++ xs) (drop-one-more below h from)

-- a channel that is not at its place is not in the line
pub was-not-in-line : (h : Handle) (old : List Handle) (r : ℕ) → IsItsPlace h.index old r → length old ≤ r → GoesFromLine h old old
was-not-in-line h old r place past below from parts are rest =
    absurd (
    let is = place below (h ∷ from) parts are (omega arith, rest) in
    let long = ap (λ (xs : List Handle). length xs) parts ∙ length-append below (h ∷ from) in
    omega (arith, is, long, past))

-- ---- the map of the lines

module _ {K : Type 0} (bytes : K → List ℕ) where
  abbrev Map : Type 0
  Map = List (K × List Handle)

  abbrev equal : K → K → Bool
  equal x y = bytes_eq (bytes x) (bytes y)

  abbrev is_named : List ℕ → K → Bool
  is_named name k = bytes_eq name (bytes k)

  looked : (name : List ℕ) (es : Map) → lookup (bytes_eq name) (lines_in bytes es) ≡ lookup (λ k. bytes_eq name (bytes k)) es
  looked name [] = refl
  looked name (e ∷ es) = ap (λ (o : Option (List Handle)). cond (bytes_eq name (bytes e.0)) (Some e.1) o) (looked name es)

  -- the line that was found is that of the name
  pub lined : (name : List ℕ) (es : Map) (hs : List Handle) → lookup (λ k. bytes_eq name (bytes k)) es ≡ Some hs → channels_in (lines_in bytes es) name ≡ hs
  lined name es hs is = ap (λ (o : Option (List Handle)). unwrap_or o []) (looked name es ∙ is)

  pub unlined : (name : List ℕ) (es : Map) → (let none : Option (List Handle) = None in lookup (λ k. bytes_eq name (bytes k)) es ≡ none) → channels_in (lines_in bytes es) name ≡ []
  unlined name es is = ap (λ (o : Option (List Handle)). unwrap_or o []) (looked name es ∙ is)

  -- there is none
  pub not-lined : (name : List ℕ) (es : Map) → (let none : Option (List Handle) = None in lookup (λ k. bytes_eq name (bytes k)) es ≡ none) → line_of (lines_in bytes es) name ≡ None
  not-lined name es is = looked name es ∙ is

  -- what one name has is not what another has
  apart : (name other key : List ℕ) → bytes_eq other name ≡ false → bytes_eq name key ≡ true → bytes_eq other key ≡ false
  apart name other key miss hit = subst (λ (k : List ℕ). bytes_eq other k ≡ false) ((bytes_eq-Decides name key).0 hit) miss

  key-test : (name : List ℕ) → IsKeyTest equal (is_named name)
  key-test name x y hit = ap (λ (t : List ℕ). bytes_eq t (bytes y)) ((bytes_eq-Decides name (bytes x)).0 hit)

  kept-others : (name other : List ℕ) (old new : Map) → KeepsOthers equal (is_named name) old new → bytes_eq other name ≡ false → lookup (is_named other) new ≡ lookup (is_named other) old
  unfolding KeepsOthers
  kept-others name other old new keeps miss =
      keeps (λ k. bytes_eq other (bytes k)) (key-test other) (λ k hit. apart name other (bytes k) miss hit)

  -- the other names have the lines that they had
  others-stay : {S : Type 0} (m n : HashMap K (List Handle) S) (name : List ℕ) (w : Option (List Handle)) → hash.UpdatesBy equal (is_named name) m n w → (other : List ℕ) → bytes_eq other name ≡ false → channels_in (lines_in bytes n.entries) other ≡ channels_in (lines_in bytes m.entries) other
  others-stay m n name w h other miss =
      ap (λ (o : Option (List Handle)). unwrap_or o []) (looked other n.entries ∙ kept-others name other m.entries n.entries h.3 miss ∙ sym (looked other m.entries))

  own-is : {S : Type 0} (m n : HashMap K (List Handle) S) (name : List ℕ) (w : Option (List Handle)) → hash.UpdatesBy equal (is_named name) m n w → channels_in (lines_in bytes n.entries) name ≡ unwrap_or w []
  own-is m n name w h = ap (λ (o : Option (List Handle)). unwrap_or o []) (looked name n.entries ∙ h.1)

  some-there : (o : Option (List Handle)) (v : List Handle) → o ≡ Some v → IsSome o
  some-there None v is = absurd cc
  some-there (Some x) v is = refl

  -- a change of one line: what it had, what it has, and what the others have
  pub line-changes : {S : Type 0} (m n : HashMap K (List Handle) S) (name : List ℕ) (v w : List Handle) → lookup (is_named name) m.entries ≡ Some v → hash.WritesThrough equal (is_named name) m w n
      → (channels_in (lines_in bytes m.entries) name ≡ v) × (channels_in (lines_in bytes n.entries) name ≡ w) × ((other : List ℕ) → bytes_eq other name ≡ false → channels_in (lines_in bytes n.entries) other ≡ channels_in (lines_in bytes m.entries) other)
  line-changes m n name v w found through =
      let u = through.3 (some-there (lookup (is_named name) m.entries) v found) in
      (lined name m.entries v found, own-is m n name (Some w) u, others-stay m n name (Some w) u)

  pub enters-too : {S : Type 0} (m n : HashMap K (List Handle) S) (name : List ℕ) (h : Handle) (v w : List Handle) → lookup (is_named name) m.entries ≡ Some v → hash.WritesThrough equal (is_named name) m w n → EntersLine h v w → Enters name h (lines_in bytes m.entries) (lines_in bytes n.entries)
  enters-too m n name h v w found through enters =
      let l = line-changes m n name v w found through in
      record {
        own = λ below from parts are rest. l.1 ∙ enters below from (sym l.0 ∙ parts) are rest;
        stay = l.2;
      }

  pub goes-too : {S : Type 0} (m n : HashMap K (List Handle) S) (name : List ℕ) (h : Handle) (v w : List Handle) → lookup (is_named name) m.entries ≡ Some v → hash.WritesThrough equal (is_named name) m w n → GoesFromLine h v w → Goes name h (lines_in bytes m.entries) (lines_in bytes n.entries)
  goes-too m n name h v w found through goes =
      let l = line-changes m n name v w found through in
      record {
        own = λ below from parts are rest. l.1 ∙ goes below from (sym l.0 ∙ parts) are rest;
        stay = l.2;
      }

  -- the first of a name
  pub enters-first : {S : Type 0} (m n : HashMap K (List Handle) S) (k : K) (name : List ℕ) (h : Handle) (w : List Handle) → channels_in (lines_in bytes m.entries) name ≡ [] → bytes k ≡ name → hash.UpdatesBy equal (equal k) m n (Some w) → w ≡ h ∷ [] → Enters name h (lines_in bytes m.entries) (lines_in bytes n.entries)
  enters-first m n k name h w empty key u scalar =
      let v = subst (λ (t : List ℕ). hash.UpdatesBy equal (is_named t) m n (Some w)) key u in
      record {
        own = λ below from parts are rest. own-is m n name (Some w) v ∙ scalar ∙ only below from (sym parts ∙ empty);
        stay = others-stay m n name (Some w) v;
      }
    where
      only : (below from : List Handle) → below ++ from ≡ [] → h ∷ [] ≡ below ++ h ∷ from
      only [] [] is = refl
      only [] (x ∷ from) is = absurd cc
      only (x ∷ below) from is = absurd cc

  -- a channel is not in a line that is not there
  pub goes-from-none : (es : Map) (name : List ℕ) (h : Handle) → channels_in (lines_in bytes es) name ≡ [] → Goes name h (lines_in bytes es) (lines_in bytes es)
  goes-from-none es name h empty =
      record {
        own = λ below from parts are rest. absurd (some below from (sym parts ∙ empty));
        stay = λ other miss. refl;
      }
    where
      some : (below from : List Handle) → below ++ h ∷ from ≡ [] → ⊥
      some [] from is = cc
      some (x ∷ below) from is = cc

  -- what was not written is as it was
  pub unwritten : {S : Type 0} (m n : HashMap K (List Handle) S) (name : List ℕ) (v w : List Handle) → lookup (is_named name) m.entries ≡ Some v → hash.WritesThrough equal (is_named name) m w n → w ≡ v → lines_in bytes n.entries ≡ lines_in bytes m.entries
  unwritten m n name v w found through same =
      ap (λ (es : Map). lines_in bytes es) (through.0 ∙ ap (λ (x : List Handle). set_value (is_named name) m.entries x) same ∙ set_value_same (is_named name) m.entries v found)

  -- a line that was taken out is no longer there
  pub taken-out : {S : Type 0} (m n : HashMap K (List Handle) S) (name : List ℕ) → hash.UpdatesBy equal (is_named name) m n None → line_of (lines_in bytes n.entries) name ≡ None
  taken-out m n name u = not-lined name n.entries u.1

  -- a line with none is none
  pub emptied : {S : Type 0} (m n : HashMap K (List Handle) S) (name : List ℕ) → channels_in (lines_in bytes m.entries) name ≡ [] → hash.UpdatesBy equal (is_named name) m n None → (other : List ℕ) → channels_in (lines_in bytes n.entries) other ≡ channels_in (lines_in bytes m.entries) other
  emptied m n name none u other = by (bytes_eq other name) refl
    where
      own : channels_in (lines_in bytes n.entries) name ≡ channels_in (lines_in bytes m.entries) name
      own = own-is m n name None u ∙ sym none

      by : (b : Bool) → bytes_eq other name ≡ b → channels_in (lines_in bytes n.entries) other ≡ channels_in (lines_in bytes m.entries) other
      by true is = subst (λ (t : List ℕ). channels_in (lines_in bytes n.entries) t ≡ channels_in (lines_in bytes m.entries) t) (sym ((bytes_eq-Decides other name).0 is)) own
      by false is = others-stay m n name None u other is
