-- Lists of watchers, as the maps that have them leave them.
use Rattle.std.proofs.Common.{◌≡◌, ◌⊎◌, inl, inr, ℕ, zero, suc, ◌-◌, ◌<◌, ◌≤◌, Bool, true, false, cond, nat_eq, List, [], ◌∷◌, length, take, slice_get, slice_set, slice_index_or, Option, Some, None, refl, sym, ap, ◌∙◌, subst, arith}
use Rattle.std.specs.Prelude.{Err, IfNone, IfSome, IsSome, Ok, OnErr, Result, map, option_map, unwrap_or}
use Rattle.std.specs.HashMap as hash
use Rattle.std.specs.HashMap.{HashMap}
use Rattle.std.specs.List.{IsDistinct, AllByRecursion, swap_remove}
use Rattle.std.specs.Map.{IsKeyTest, KeepsOthers, keys_of, lookup, set_value}
use Rattle.std.specs.Str.{bytes_eq}
use Rattle.std.proofs.lemmas.Bool.{eq-eqb, eqb-true}
use Rattle.std.proofs.lemmas.Map.Keys.{IsDistinct-head, IsDistinct-tail}
use Rattle.std.proofs.lemmas.Map.Steps.{set_value_same}
use Rattle.std.proofs.lemmas.Slice.Eq.{bytes_eq-Decides}
use Rattle.indexmap.specs.IndexMap.{insert_entry}
use Rattle.ca_arena.specs.declared.handle.Handle.{Handle}
use Rattle.ca_text.specs.Place.{At}
use Rattle.ca_text.proofs.Places.{At-mapped, At-set-other, At-within, some_is}
use Rattle.ca_server_watchers.specs.Watching.{AreApart, IsAmong, Joins, Leaves, LeavesAt, OthersStay, Watches, handle_of, handles_in, line_of, lines_in, watching}

abbrev Entries : Type 0
Entries = List (ℕ × ℕ)

both : {A : Type 0} (b : Bool) → b ≡ true → b ≡ false → A
both true p q = absurd cc
both false p q = absurd cc

pub on-err : {A E P : Type 0} (r : Result A E) → P → OnErr r P
on-err (Ok x) p = tt
on-err (Err e) p = p

-- ---- one list

-- all pass a test: the one at a place does
all-at : {A : Type 0} (P : A → Type 0) (xs : List A) (i : ℕ) (x : A) → AllByRecursion P xs → At xs i x → P x
all-at P [] i x all at = absurd cc
all-at P (y ∷ xs) zero x all at = subst P (some_is y x at) all.0
all-at P (y ∷ xs) (suc i) x all at = all-at P xs i x all.1 at

-- keys that differ are at one place each
distinct-at : (ks : List ℕ) (i j k : ℕ) → IsDistinct nat_eq ks → At ks i k → At ks j k → i ≡ j
distinct-at [] i j k d a b = absurd cc
distinct-at (x ∷ ks) zero zero k d a b = refl
distinct-at (x ∷ ks) zero (suc j) k d a b =
    both (nat_eq x k) (eq-eqb x k (some_is x k a)) (all-at (λ y. nat_eq x y ≡ false) ks j k (IsDistinct-head nat_eq x ks d) b)
distinct-at (x ∷ ks) (suc i) zero k d a b =
    both (nat_eq x k) (eq-eqb x k (some_is x k b)) (all-at (λ y. nat_eq x y ≡ false) ks i k (IsDistinct-head nat_eq x ks d) a)
distinct-at (x ∷ ks) (suc i) (suc j) k d a b = ap (λ (n : ℕ). suc n) (distinct-at ks i j k (IsDistinct-tail nat_eq x ks d) a b)

key-at : (es : Entries) (i : ℕ) (h : Handle) → At (handles_in es) i h → At (keys_of es) i h.index
key-at [] i h at = absurd cc
key-at (e ∷ es) zero h at = ap (λ (g : Handle). Some g.index) (some_is (handle_of e) h at)
key-at (e ∷ es) (suc i) h at = key-at es i h at

pub handles-apart : (es : Entries) → IsDistinct nat_eq (keys_of es) → AreApart (handles_in es)
handles-apart es d i j g h a b same =
    distinct-at (keys_of es) i j h.index d (subst (λ (n : ℕ). At (keys_of es) i n) same (key-at es i g a)) (key-at es j h b)

pub none-apart : AreApart []
none-apart i j g h a b same = absurd cc

-- one more, in place of one of the same index
join-own : (es : Entries) (h : Handle) → IsAmong (handles_in (insert_entry nat_eq es h.index h.generation)) h
join-own [] h = (0, refl)
join-own (e ∷ es) h = by (nat_eq h.index e.0) refl (join-own es h)
  where
    by : (b : Bool) → nat_eq h.index e.0 ≡ b → IsAmong (handles_in (insert_entry nat_eq es h.index h.generation)) h → IsAmong (handles_in (cond b ((e.0, h.generation) ∷ es) (e ∷ insert_entry nat_eq es h.index h.generation))) h
    by true hit rest = (0, ap (λ (n : ℕ). let g : Handle = record { index = n; generation = h.generation } in Some g) (sym (eqb-true h.index e.0 hit)))
    by false miss rest = (suc rest.0, rest.1)

join-others : (es : Entries) (h g : Handle) (i : ℕ) → At (handles_in es) i g → (g.index ≡ h.index → ⊥) → IsAmong (handles_in (insert_entry nat_eq es h.index h.generation)) g
join-others [] h g i at other = absurd cc
join-others (e ∷ es) h g i at other = by (nat_eq h.index e.0) refl i at (λ j a. join-others es h g j a other)
  where
    by : (b : Bool) → nat_eq h.index e.0 ≡ b → (i : ℕ) → At (handles_in (e ∷ es)) i g → ((j : ℕ) → At (handles_in es) j g → IsAmong (handles_in (insert_entry nat_eq es h.index h.generation)) g) → IsAmong (handles_in (cond b ((e.0, h.generation) ∷ es) (e ∷ insert_entry nat_eq es h.index h.generation))) g
    by true hit zero a rest = absurd (other (ap (λ (x : Handle). x.index) (sym (some_is (handle_of e) g a)) ∙ sym (eqb-true h.index e.0 hit)))
    by true hit (suc j) a rest = (suc j, a)
    by false miss zero a rest = (0, a)
    by false miss (suc j) a rest = (let r = rest j a in (suc r.0, r.1))

-- no other came
join-only : (es : Entries) (h g : Handle) (i : ℕ) → At (handles_in (insert_entry nat_eq es h.index h.generation)) i g → (g ≡ h) ⊎ IsAmong (handles_in es) g
join-only [] h g zero at = inl (sym (some_is h g at))
join-only [] h g (suc i) at = absurd cc
join-only (e ∷ es) h g i at = by (nat_eq h.index e.0) refl i at (λ j a. join-only es h g j a)
  where
    next : (g ≡ h) ⊎ IsAmong (handles_in es) g → (g ≡ h) ⊎ IsAmong (handles_in (e ∷ es)) g
    next (inl is) = inl is
    next (inr there) = inr (suc there.0, there.1)

    by : (b : Bool) → nat_eq h.index e.0 ≡ b → (i : ℕ) → At (handles_in (cond b ((e.0, h.generation) ∷ es) (e ∷ insert_entry nat_eq es h.index h.generation))) i g → ((j : ℕ) → At (handles_in (insert_entry nat_eq es h.index h.generation)) j g → (g ≡ h) ⊎ IsAmong (handles_in es) g) → (g ≡ h) ⊎ IsAmong (handles_in (e ∷ es)) g
    by true hit zero a rest =
        inl (sym (some_is (handle_of (e.0, h.generation)) g a) ∙ ap (λ (n : ℕ). let x : Handle = record { index = n; generation = h.generation } in x) (sym (eqb-true h.index e.0 hit)))
    by true hit (suc j) a rest = inr (suc j, a)
    by false miss zero a rest = inr (0, a)
    by false miss (suc j) a rest = next (rest j a)

pub joined : (es ns : Entries) (h : Handle) → ns ≡ insert_entry nat_eq es h.index h.generation → Joins h (handles_in es) (handles_in ns)
joined es ns h is = record {
  own = subst (λ (xs : Entries). IsAmong (handles_in xs) h) (sym is) (join-own es h);
  others = λ g there other. subst (λ (xs : Entries). IsAmong (handles_in xs) g) (sym is) (join-others es h g there.0 there.1 other);
  only = λ g there. join-only es h g there.0 (subst (λ (xs : Entries). At (handles_in xs) there.0 g) is there.1);
}

-- one is taken out, and the last comes there
at-taken : {A : Type 0} (xs : List A) (n i : ℕ) → i < n → slice_get (take n xs) i ≡ slice_get xs i
at-taken xs zero i lt = absurd (omega (arith, lt))
at-taken [] (suc n) i lt = refl
at-taken (x ∷ xs) (suc n) zero lt = refl
at-taken (x ∷ xs) (suc n) (suc i) lt = at-taken xs n i (omega (arith, lt))

set-before : {A : Type 0} (xs : List A) (k i : ℕ) (y : A) → i < k → slice_get (slice_set xs k y) i ≡ slice_get xs i
set-before [] k i y lt = refl
set-before (x ∷ xs) zero i y lt = absurd (omega (arith, lt))
set-before (x ∷ xs) (suc k) zero y lt = refl
set-before (x ∷ xs) (suc k) (suc i) y lt = set-before xs k i y (omega (arith, lt))

set-here : {A : Type 0} (xs : List A) (k : ℕ) (y : A) → k < length xs → At (slice_set xs k y) k y
set-here [] k y lt = absurd (omega (arith, lt))
set-here (x ∷ xs) zero y lt = refl
set-here (x ∷ xs) (suc k) y lt = set-here xs k y (omega (arith, lt))

or-at : {A : Type 0} (xs : List A) (i : ℕ) (x d : A) → At xs i x → slice_index_or xs i d ≡ x
or-at [] i x d at = absurd cc
or-at (y ∷ xs) zero x d at = some_is y x at
or-at (y ∷ xs) (suc i) x d at = or-at xs i x d at

swap-others : {A : Type 0} (xs : List A) (k i : ℕ) (x d : A) → k < length xs → At xs i x → (i ≡ k → ⊥) → (j : ℕ) × At (swap_remove xs k d) j x
swap-others {A} xs k i x d in_it at other = by (nat_eq i (length xs - 1)) refl
  where
    last : A
    last = slice_index_or xs (length xs - 1) d

    by : (b : Bool) → nat_eq i (length xs - 1) ≡ b → (j : ℕ) × At (swap_remove xs k d) j x
    by true hit =
        let it : i ≡ length xs - 1 = eqb-true i (length xs - 1) hit in
        let lt : k < length xs - 1 = below k i (length xs) in_it it (λ e. other (sym e)) in
        let own : last ≡ x = or-at xs (length xs - 1) x d (subst (λ (n : ℕ). At xs n x) it at) in
        (k, at-taken (slice_set xs k last) (length xs - 1) k lt ∙ subst (λ (y : A). slice_get (slice_set xs k y) k ≡ Some x) (sym own) (set-here xs k x in_it))
      where
        below : (k i n : ℕ) → k < n → i ≡ n - 1 → (k ≡ i → ⊥) → k < n - 1
        below k i n lt is ne = under (n - 1) k i is (omega (arith, lt)) ne
          where
            under : (m k i : ℕ) → i ≡ m → k ≤ m → (k ≡ i → ⊥) → k < m
            under zero zero i is le ne = absurd (ne (sym is))
            under zero (suc k) i is le ne = absurd (omega (arith, le))
            under (suc m) zero i is le ne = omega arith
            under (suc m) (suc k) zero is le ne = absurd (omega (arith, is))
            under (suc m) (suc k) (suc i) is le ne = (let r : k < m = under m k i (omega (arith, is)) (omega (arith, le)) (λ e. ne (ap (λ (z : ℕ). suc z) e)) in omega (arith, r))
    by false miss =
        let lt : i < length xs = At-within xs i x at in
        let below : i < length xs - 1 = under (length xs) i lt (λ e. both (nat_eq i (length xs - 1)) (eq-eqb i (length xs - 1) e) miss) in
        (i, at-taken (slice_set xs k last) (length xs - 1) i below ∙ At-set-other xs k i x last at other)
      where
        under : (n i : ℕ) → i < n → (i ≡ n - 1 → ⊥) → i < n - 1
        under zero i lt ne = absurd (omega (arith, lt))
        under (suc zero) zero lt ne = absurd (ne refl)
        under (suc zero) (suc i) lt ne = absurd (omega (arith, lt))
        under (suc (suc n)) zero lt ne = omega arith
        under (suc (suc n)) (suc i) lt ne = (let r : i < suc n - 1 = under (suc n) i (omega (arith, lt)) (λ e. ne (omega (arith, e))) in omega (arith, r))

swap-before : {A : Type 0} (xs : List A) (k i : ℕ) (d : A) → k < length xs → i < k → slice_get (swap_remove xs k d) i ≡ slice_get xs i
swap-before {A} xs k i d in_it lt =
    let last : A = slice_index_or xs (length xs - 1) d in
    at-taken (slice_set xs k last) (length xs - 1) i (omega (arith, lt, in_it)) ∙ set-before xs k i last lt

get-mapped : {A B : Type 0} (f : A → B) (xs : List A) (i : ℕ) → slice_get (map f xs) i ≡ option_map f (slice_get xs i)
get-mapped f [] i = refl
get-mapped f (x ∷ xs) zero = refl
get-mapped f (x ∷ xs) (suc i) = get-mapped f xs i

-- a key that was taken out
pub keyless : {S : Type 0} (m n : HashMap ℕ ℕ S) (o : Option (ℕ × ℕ)) → IfSome o (λ p. hash.UpdatesBy nat_eq (nat_eq p.0) m n None) → IfSome o (λ p. let none : Option ℕ = None in lookup (nat_eq p.0) n.entries ≡ none)
keyless m n (Some p) u = u.1
keyless m n None u = tt

-- no entry has it then
unkeyed : (es : Entries) (n i : ℕ) (g : Handle) → (let none : Option ℕ = None in lookup (nat_eq n) es ≡ none) → At (handles_in es) i g → g.index ≡ n → ⊥
unkeyed [] n i g out at is = cc
unkeyed (e ∷ es) n zero g out at is =
    let key : n ≡ e.0 = sym is ∙ sym (ap (λ (x : Handle). x.index) (some_is (handle_of e) g at)) in
    absent e.1 (cond (nat_eq n e.0) (Some e.1) (lookup (nat_eq n) es)) (ap (λ (b : Bool). cond b (Some e.1) (lookup (nat_eq n) es)) (eq-eqb n e.0 key)) out
  where
    absent : (x : ℕ) (o : Option ℕ) → o ≡ Some x → (let none : Option ℕ = None in o ≡ none) → ⊥
    absent x None is lacks = cc
    absent x (Some y) is lacks = cc
unkeyed (e ∷ es) n (suc i) g out at is = by (nat_eq n e.0) out (λ lacks. unkeyed es n i g lacks at is)
  where
    by : (b : Bool) → (let none : Option ℕ = None in cond b (Some e.1) (lookup (nat_eq n) es) ≡ none) → ((let none : Option ℕ = None in lookup (nat_eq n) es ≡ none) → ⊥) → ⊥
    by true lacks rest = cc
    by false lacks rest = rest lacks

pub left-out : (es ns : Entries) (k : ℕ) (o : Option (ℕ × ℕ)) → o ≡ slice_get es k → IfSome o (λ p. ns ≡ swap_remove es k p) → IfSome o (λ p. let none : Option ℕ = None in lookup (nat_eq p.0) ns ≡ none) → IfNone o (ns ≡ es) → Leaves k (handles_in es) (handles_in ns)
left-out es ns k (Some p) found taken out same =
    let in_it : k < length es = At-within es k p (sym found) in
    record {
      before = λ i lt.
          get-mapped handle_of ns i ∙ ap (λ (xs : Entries). option_map handle_of (slice_get xs i)) taken ∙ ap (λ (q : Option (ℕ × ℕ)). option_map handle_of q) (swap-before es k i p in_it lt) ∙ sym (get-mapped handle_of es i);
      others = λ i g at other.
          let m = At-mapped handle_of es i g at in
          let r = swap-others es k i m.0 p in_it m.1 other in
          (r.0, subst (λ (xs : Entries). At (handles_in xs) r.0 g) (sym taken) (get-mapped handle_of (swap_remove es k p) r.0 ∙ ap (λ (q : Option (ℕ × ℕ)). option_map handle_of q) r.1 ∙ ap (λ (h : Handle). Some h) (sym m.2)));
      gone = λ g at there.
          unkeyed ns p.0 there.0 g out there.1
          (sym (ap (λ (x : Handle). x.index) (some_is (handle_of p) g (sym (get-mapped handle_of es k ∙ ap (λ (q : Option (ℕ × ℕ)). option_map handle_of q) (sym found)) ∙ at))));
    }
left-out es ns k None found taken out same = record {
  before = λ i lt. ap (λ (xs : Entries). slice_get (handles_in xs) i) same;
  others = λ i g at other. (i, subst (λ (xs : Entries). At (handles_in xs) i g) (sym same) at);
  gone = λ g at there. nothing g (sym (get-mapped handle_of es k ∙ ap (λ (q : Option (ℕ × ℕ)). option_map handle_of q) (sym found)) ∙ at);
}
  where
    nothing : (g : Handle) → (let none : Option Handle = None in none ≡ Some g) → ⊥
    nothing g is = cc

-- ---- all lists

module _ {K : Type 0} (bytes : K → List ℕ) where
  abbrev Lines : Type 0
  Lines = List (K × List Handle)

  abbrev equal : K → K → Bool
  equal x y = bytes_eq (bytes x) (bytes y)

  abbrev is_named : List ℕ → K → Bool
  is_named name k = bytes_eq name (bytes k)

  pub looked : (name : List ℕ) (es : Lines) → lookup (bytes_eq name) (lines_in bytes es) ≡ lookup (λ k. bytes_eq name (bytes k)) es
  looked name [] = refl
  looked name (e ∷ es) = ap (λ (o : Option (List Handle)). cond (bytes_eq name (bytes e.0)) (Some e.1) o) (looked name es)

  pub watched : (name : List ℕ) (es : Lines) (hs : List Handle) → lookup (λ k. bytes_eq name (bytes k)) es ≡ Some hs → watching (lines_in bytes es) name ≡ hs
  watched name es hs is = ap (λ (o : Option (List Handle)). unwrap_or o []) (looked name es ∙ is)

  -- the same by a key that is the name
  pub named : (name key : List ℕ) (es : Lines) (hs : List Handle) → bytes_eq key name ≡ true → lookup (λ k. bytes_eq key (bytes k)) es ≡ Some hs → watching (lines_in bytes es) name ≡ hs
  named name key es hs same is =
      watched name es hs (subst (λ (t : List ℕ). lookup (λ k. bytes_eq t (bytes k)) es ≡ Some hs) ((bytes_eq-Decides key name).0 same) is)

  pub unwatched : (name : List ℕ) (es : Lines) → (let none : Option (List Handle) = None in lookup (λ k. bytes_eq name (bytes k)) es ≡ none) → watching (lines_in bytes es) name ≡ []
  unwatched name es is = ap (λ (o : Option (List Handle)). unwrap_or o []) (looked name es ∙ is)

  pub unlisted : (name : List ℕ) (es : Lines) → length es ≡ 0 → watching (lines_in bytes es) name ≡ []
  unlisted name [] none = refl
  unlisted name (e ∷ es) none = absurd (omega (arith, none))

  -- what one name has is not what another has
  apart : (name other key : List ℕ) → bytes_eq other name ≡ false → bytes_eq name key ≡ true → bytes_eq other key ≡ false
  apart name other key miss hit = subst (λ (k : List ℕ). bytes_eq other k ≡ false) ((bytes_eq-Decides name key).0 hit) miss

  key-test : (name : List ℕ) → IsKeyTest equal (is_named name)
  key-test name x y hit = ap (λ (t : List ℕ). bytes_eq t (bytes y)) ((bytes_eq-Decides name (bytes x)).0 hit)

  kept-others : (name other : List ℕ) (old new : Lines) → KeepsOthers equal (is_named name) old new → bytes_eq other name ≡ false → lookup (is_named other) new ≡ lookup (is_named other) old
  unfolding KeepsOthers
  kept-others name other old new keeps miss =
      keeps (λ k. bytes_eq other (bytes k)) (key-test other) (λ k hit. apart name other (bytes k) miss hit)

  -- the other records have the lines that they had
  pub others-stay : {S : Type 0} (m n : HashMap K (List Handle) S) (name : List ℕ) (w : Option (List Handle)) → hash.UpdatesBy equal (is_named name) m n w → OthersStay name (lines_in bytes m.entries) (lines_in bytes n.entries)
  others-stay m n name w h other miss =
      looked other n.entries ∙ kept-others name other m.entries n.entries h.3 miss ∙ sym (looked other m.entries)

  pub own-is : {S : Type 0} (m n : HashMap K (List Handle) S) (name : List ℕ) (w : Option (List Handle)) → hash.UpdatesBy equal (is_named name) m n w → watching (lines_in bytes n.entries) name ≡ unwrap_or w []
  own-is m n name w h = ap (λ (o : Option (List Handle)). unwrap_or o []) (looked name n.entries ∙ h.1)

  -- its line is gone
  pub own-gone : {S : Type 0} (m n : HashMap K (List Handle) S) (name : List ℕ) → hash.UpdatesBy equal (is_named name) m n None → (let none : Option (List Handle) = None in line_of (lines_in bytes n.entries) name ≡ none)
  own-gone m n name h = looked name n.entries ∙ h.1

  some-there : (o : Option (List Handle)) (v : List Handle) → o ≡ Some v → IsSome o
  some-there None v is = absurd cc
  some-there (Some x) v is = refl

  -- one more watches a record that has a list
  pub watches-too : {S : Type 0} (m n : HashMap K (List Handle) S) (name : List ℕ) (h : Handle) (v w : List Handle) → lookup (is_named name) m.entries ≡ Some v → hash.WritesThrough equal (is_named name) m w n → Joins h v w → Watches name h (lines_in bytes m.entries) (lines_in bytes n.entries)
  watches-too m n name h v w found through j =
      let u = through.3 (some-there (lookup (is_named name) m.entries) v found) in
      record {
        joins = subst (λ (hs : List Handle). Joins h hs (watching (lines_in bytes n.entries) name)) (sym (watched name m.entries v found)) (subst (λ (hs : List Handle). Joins h v hs) (sym (own-is m n name (Some w) u)) j);
        stay = others-stay m n name (Some w) u;
      }

  -- the first watches a record
  pub watches-first : {S : Type 0} (m n : HashMap K (List Handle) S) (k : K) (name : List ℕ) (h : Handle) (none w : List Handle) → watching (lines_in bytes m.entries) name ≡ [] → none ≡ [] → bytes k ≡ name → hash.UpdatesBy equal (equal k) m n (Some w) → Joins h none w → Watches name h (lines_in bytes m.entries) (lines_in bytes n.entries)
  watches-first m n k name h none w empty is key u j =
      let v = subst (λ (t : List ℕ). hash.UpdatesBy equal (is_named t) m n (Some w)) key u in
      record {
        joins = subst (λ (hs : List Handle). Joins h hs (watching (lines_in bytes n.entries) name)) (is ∙ sym empty) (subst (λ (hs : List Handle). Joins h none hs) (sym (own-is m n name (Some w) v)) j);
        stay = others-stay m n name (Some w) v;
      }

  -- one watches a record no more
  pub leaves-it : {S : Type 0} (m n : HashMap K (List Handle) S) (name : List ℕ) (k : ℕ) (v w : List Handle) → lookup (is_named name) m.entries ≡ Some v → hash.WritesThrough equal (is_named name) m w n → Leaves k v w → LeavesAt name k (lines_in bytes m.entries) (lines_in bytes n.entries)
  leaves-it m n name k v w found through l =
      let u = through.3 (some-there (lookup (is_named name) m.entries) v found) in
      record {
        leaves = subst (λ (hs : List Handle). Leaves k hs (watching (lines_in bytes n.entries) name)) (sym (watched name m.entries v found)) (subst (λ (hs : List Handle). Leaves k v hs) (sym (own-is m n name (Some w) u)) l);
        stay = others-stay m n name (Some w) u;
      }

  -- nobody watched it
  pub leaves-none : {S : Type 0} (m n : HashMap K (List Handle) S) (name : List ℕ) (k : ℕ) → n ≡ m → (let none : Option (List Handle) = None in lookup (is_named name) m.entries ≡ none) → LeavesAt name k (lines_in bytes m.entries) (lines_in bytes n.entries)
  leaves-none m n name k same found =
      subst (λ (x : HashMap K (List Handle) _). LeavesAt name k (lines_in bytes m.entries) (lines_in bytes x.entries)) (sym same)
      (record {
        leaves = record {
          before = λ i lt. refl;
          others = λ i g at other. absurd (nothing-there i g (subst (λ (hs : List Handle). At hs i g) (unwatched name m.entries found) at));
          gone = λ g at there. nothing-there k g (subst (λ (hs : List Handle). At hs k g) (unwatched name m.entries found) at);
        };
        stay = λ other miss. refl;
      })
    where
      nothing-there : (i : ℕ) (g : Handle) → (let none : List Handle = [] in At none i g) → ⊥
      nothing-there i g at = cc

  -- what was not written is as it was
  pub unwritten : {S : Type 0} (m n : HashMap K (List Handle) S) (name : List ℕ) (v w : List Handle) → lookup (is_named name) m.entries ≡ Some v → hash.WritesThrough equal (is_named name) m w n → w ≡ v → lines_in bytes n.entries ≡ lines_in bytes m.entries
  unwritten m n name v w found through same =
      ap (λ (es : Lines). lines_in bytes es) (through.0 ∙ ap (λ (x : List Handle). set_value (is_named name) m.entries x) same ∙ set_value_same (is_named name) m.entries v found)
