-- Lines of subscriptions, as the map that has them leaves them.
use Rattle.std.proofs.Common.{◌≡◌, ℕ, zero, suc, slice_get, Bool, true, false, cond, List, [], ◌∷◌, ◌++◌, Option, Some, None, refl, sym, ap, ◌∙◌, subst}
use Rattle.std.specs.Prelude.{IsSome, map, unwrap_or}
use Rattle.std.specs.HashMap as hash
use Rattle.std.specs.HashMap.{HashMap}
use Rattle.std.specs.Map.{IsKeyTest, KeepsOthers, lookup, set_value}
use Rattle.std.specs.Str.{bytes_eq}
use Rattle.std.proofs.lemmas.Map.Steps.{set_value_same}
use Rattle.std.proofs.lemmas.Slice.Eq.{bytes_eq-Decides}
use Rattle.indexmap.specs.IndexMap.{set_value_at}
use Rattle.ca_text.proofs.Places.{some_is}
use Rattle.ca_queue.specs.declared.entry.SubKey.{SubKey}
use Rattle.ca_server_subscriptions.specs.ByRecord.{Adds, Drops, Receiver, line_of, lines_in, receivers_in, without}

module _ {K : Type 0} (bytes : K → List ℕ) where
  abbrev Map : Type 0
  Map = List (K × List Receiver)

  abbrev equal : K → K → Bool
  equal x y = bytes_eq (bytes x) (bytes y)

  abbrev is_named : List ℕ → K → Bool
  is_named name k = bytes_eq name (bytes k)

  pub looked : (name : List ℕ) (es : Map) → lookup (bytes_eq name) (lines_in bytes es) ≡ lookup (λ k. bytes_eq name (bytes k)) es
  looked name [] = refl
  looked name (e ∷ es) = ap (λ (o : Option (List Receiver)). cond (bytes_eq name (bytes e.0)) (Some e.1) o) (looked name es)

  -- the line that was found is that of the name
  pub lined : (name : List ℕ) (es : Map) (rs : List Receiver) → lookup (λ k. bytes_eq name (bytes k)) es ≡ Some rs → receivers_in (lines_in bytes es) name ≡ rs
  lined name es rs is = ap (λ (o : Option (List Receiver)). unwrap_or o []) (looked name es ∙ is)

  -- the same by a key that is the name
  pub named : (name key : List ℕ) (es : Map) (rs : List Receiver) → bytes_eq key name ≡ true → lookup (λ k. bytes_eq key (bytes k)) es ≡ Some rs → receivers_in (lines_in bytes es) name ≡ rs
  named name key es rs same is =
      lined name es rs (subst (λ (t : List ℕ). lookup (λ k. bytes_eq t (bytes k)) es ≡ Some rs) ((bytes_eq-Decides key name).0 same) is)

  pub unlined : (name : List ℕ) (es : Map) → (let none : Option (List Receiver) = None in lookup (λ k. bytes_eq name (bytes k)) es ≡ none) → receivers_in (lines_in bytes es) name ≡ []
  unlined name es is = ap (λ (o : Option (List Receiver)). unwrap_or o []) (looked name es ∙ is)

  -- there is none
  pub not-lined : (name : List ℕ) (es : Map) → (let none : Option (List Receiver) = None in lookup (λ k. bytes_eq name (bytes k)) es ≡ none) → line_of (lines_in bytes es) name ≡ None
  not-lined name es is = looked name es ∙ is

  -- what one name has is not what another has
  apart : (name other key : List ℕ) → bytes_eq other name ≡ false → bytes_eq name key ≡ true → bytes_eq other key ≡ false
  apart name other key miss hit = subst (λ (k : List ℕ). bytes_eq other k ≡ false) ((bytes_eq-Decides name key).0 hit) miss

  key-test : (name : List ℕ) → IsKeyTest equal (is_named name)
  key-test name x y hit = ap (λ (t : List ℕ). bytes_eq t (bytes y)) ((bytes_eq-Decides name (bytes x)).0 hit)

  kept-others : (name other : List ℕ) (old new : Map) → KeepsOthers equal (is_named name) old new → bytes_eq other name ≡ false → lookup (is_named other) new ≡ lookup (is_named other) old
  unfolding KeepsOthers
  kept-others name other old new keeps miss =
      keeps (λ k. bytes_eq other (bytes k)) (key-test other) (λ k hit. apart name other (bytes k) miss hit)

  -- the other records have the lines that they had
  others-stay : {S : Type 0} (m n : HashMap K (List Receiver) S) (name : List ℕ) (w : Option (List Receiver)) → hash.UpdatesBy equal (is_named name) m n w → (other : List ℕ) → bytes_eq other name ≡ false → receivers_in (lines_in bytes n.entries) other ≡ receivers_in (lines_in bytes m.entries) other
  others-stay m n name w h other miss =
      ap (λ (o : Option (List Receiver)). unwrap_or o []) (looked other n.entries ∙ kept-others name other m.entries n.entries h.3 miss ∙ sym (looked other m.entries))

  own-is : {S : Type 0} (m n : HashMap K (List Receiver) S) (name : List ℕ) (w : Option (List Receiver)) → hash.UpdatesBy equal (is_named name) m n w → receivers_in (lines_in bytes n.entries) name ≡ unwrap_or w []
  own-is m n name w h = ap (λ (o : Option (List Receiver)). unwrap_or o []) (looked name n.entries ∙ h.1)

  some-there : (o : Option (List Receiver)) (v : List Receiver) → o ≡ Some v → IsSome o
  some-there None v is = absurd cc
  some-there (Some x) v is = refl

  -- one more is on a record that has a line
  pub adds-too : {S : Type 0} (m n : HashMap K (List Receiver) S) (name : List ℕ) (r : Receiver) (v w : List Receiver) → lookup (is_named name) m.entries ≡ Some v → hash.WritesThrough equal (is_named name) m w n → w ≡ v ++ r ∷ [] → Adds name r (lines_in bytes m.entries) (lines_in bytes n.entries)
  adds-too m n name r v w found through grown =
      let u = through.3 (some-there (lookup (is_named name) m.entries) v found) in
      record {
        own = own-is m n name (Some w) u ∙ grown ∙ ap (λ (rs : List Receiver). rs ++ r ∷ []) (sym (lined name m.entries v found));
        stay = others-stay m n name (Some w) u;
      }

  -- the first is on a record
  pub adds-first : {S : Type 0} (m n : HashMap K (List Receiver) S) (k : K) (name : List ℕ) (r : Receiver) (w : List Receiver) → receivers_in (lines_in bytes m.entries) name ≡ [] → bytes k ≡ name → hash.UpdatesBy equal (equal k) m n (Some w) → w ≡ r ∷ [] → Adds name r (lines_in bytes m.entries) (lines_in bytes n.entries)
  adds-first m n k name r w empty key u only_one =
      let v = subst (λ (t : List ℕ). hash.UpdatesBy equal (is_named t) m n (Some w)) key u in
      record {
        own = own-is m n name (Some w) v ∙ only_one ∙ ap (λ (rs : List Receiver). rs ++ r ∷ []) (sym empty);
        stay = others-stay m n name (Some w) v;
      }

  -- what was not written is as it was
  pub unwritten : {S : Type 0} (m n : HashMap K (List Receiver) S) (name : List ℕ) (v w : List Receiver) → lookup (is_named name) m.entries ≡ Some v → hash.WritesThrough equal (is_named name) m w n → w ≡ v → lines_in bytes n.entries ≡ lines_in bytes m.entries
  unwritten m n name v w found through same =
      ap (λ (es : Map). lines_in bytes es) (through.0 ∙ ap (λ (x : List Receiver). set_value (is_named name) m.entries x) same ∙ set_value_same (is_named name) m.entries v found)

  -- a line that was taken out is no longer there
  pub taken-out : {S : Type 0} (m n : HashMap K (List Receiver) S) (name : List ℕ) → hash.UpdatesBy equal (is_named name) m n None → line_of (lines_in bytes n.entries) name ≡ None
  taken-out m n name u = not-lined name n.entries u.1

  -- a line with none is none
  pub emptied : {S : Type 0} (m n : HashMap K (List Receiver) S) (name : List ℕ) → receivers_in (lines_in bytes m.entries) name ≡ [] → hash.UpdatesBy equal (is_named name) m n None → (other : List ℕ) → receivers_in (lines_in bytes n.entries) other ≡ receivers_in (lines_in bytes m.entries) other
  emptied m n name none u other = by (bytes_eq other name) refl
    where
      own : receivers_in (lines_in bytes n.entries) name ≡ receivers_in (lines_in bytes m.entries) name
      own = own-is m n name None u ∙ sym none

      by : (b : Bool) → bytes_eq other name ≡ b → receivers_in (lines_in bytes n.entries) other ≡ receivers_in (lines_in bytes m.entries) other
      by true is = subst (λ (t : List ℕ). receivers_in (lines_in bytes n.entries) t ≡ receivers_in (lines_in bytes m.entries) t) (sym ((bytes_eq-Decides other name).0 is)) own
      by false is = others-stay m n name None u other is

  -- one is gone from a record that has a line
  pub drops-own : {S : Type 0} (m n : HashMap K (List Receiver) S) (name : List ℕ) (key : SubKey) (v w : List Receiver) → lookup (is_named name) m.entries ≡ Some v → hash.WritesThrough equal (is_named name) m w n → w ≡ without key v → Drops name key (lines_in bytes m.entries) (lines_in bytes n.entries)
  drops-own m n name key v w found through less =
      let u = through.3 (some-there (lookup (is_named name) m.entries) v found) in
      record {
        own = own-is m n name (Some w) u ∙ less ∙ ap (without key) (sym (lined name m.entries v found));
        stay = others-stay m n name (Some w) u;
      }

  -- a record that has no line loses none
  pub drops-none : {S : Type 0} (m n : HashMap K (List Receiver) S) (name : List ℕ) (key : SubKey) → n ≡ m → (let none : Option (List Receiver) = None in lookup (is_named name) m.entries ≡ none) → Drops name key (lines_in bytes m.entries) (lines_in bytes n.entries)
  drops-none m n name key same missing =
      let empty = unlined name m.entries missing in
      record {
        own = ap (λ (h : HashMap K (List Receiver) _). receivers_in (lines_in bytes h.entries) name) same ∙ empty ∙ ap (without key) (sym empty);
        stay = λ other miss. ap (λ (h : HashMap K (List Receiver) _). receivers_in (lines_in bytes h.entries) other) same;
      }

  -- what was written into a line left its subscriptions
  pub noted : (es : Map) (i : ℕ) (v w : List Receiver) → slice_get (map (λ e. e.1) es) i ≡ Some v → w ≡ v → lines_in bytes (set_value_at es i w) ≡ lines_in bytes es
  noted [] i v w at same = refl
  noted (e ∷ es) zero v w at same = ap (λ (rs : List Receiver). (bytes e.0, rs) ∷ lines_in bytes es) (same ∙ sym (some_is e.1 v at))
  noted (e ∷ es) (suc i) v w at same = ap (λ (ls : List (List ℕ × List Receiver)). (bytes e.0, e.1) ∷ ls) (noted es i v w at same)
