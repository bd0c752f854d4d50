-- The channels that are listed of a circuit.
use Rattle.std.proofs.Common.{◌≡◌, ◌≢◌, ◌⊎◌, ◌==◌, ◌++◌, ◌+◌, ◌<◌, ◌≤◌, drop, length, slice_index_or, ℕ, inl, inr, Bool, true, false, List, [], ◌∷◌, Option, Some, None, Result, Ok, Err, filter, if◌then◌else◌, map, option_map, refl, sym, ap, ◌∙◌, subst}
use Rattle.std.specs.Prelude.{OnErr, OnOk, is_ok, unwrap_or}
use Rattle.std.specs.declared.alloc.AllocError.{AllocError}
use Rattle.std.proofs.lemmas.Bool.{and_parts, cases_Bool, cases_eq, cases_lt, eq-eqb, eqb-true}
use Rattle.std.proofs.lemmas.List.{drop_all, drop_more, get_or_past, map-append}
use Rattle.std.proofs.lemmas.List.Elements.{filter-append}
use Rattle.ca_text.proofs.Places.{some_is}
use Rattle.ca_arena.specs.declared.handle.Handle.{Handle}
use Rattle.ca_arena.specs.Arena.{Place, blank, place_at}
use Rattle.ca_ids.specs.Table.{Table, held_at, same_handle}
use Rattle.ca_link.specs.Link.{LinkState, with_sent}
use Rattle.ca_wire.specs.Fields.{Fields}
use Rattle.ca_lists.specs.Lists.{Ascends, Has, added, list_of, upto}
use Rattle.ca_lists.specs.Walks.{AreAllIn, AreListed, Covers, IsInOrder, by_value, each_at}
use Rattle.ca_lists.proofs.Listed.{all-in, in-covers, in-tells, listed-more, listed-same, listed-thin, thins-map}
use Rattle.ca_lists.proofs.Members.{has-own}
use Rattle.ca_lists.proofs.Uptos.{upto-ascends, upto-has}
use Rattle.ca_lists.proofs.Walked.{told-listed}
use Rattle.ca_model.specs.Client.{Channel, Creating, On, Phase, Searching, Standing, is_on_in}
use Rattle.ca_model.specs.ClientEnds.{creating, is_connecting}
use Rattle.ca_model.specs.Hears.{is_searched}
use Rattle.ca_client_tables.specs.Connecting.{creation, creations_at, creations_in, creations_of}
use Rattle.ca_client_tables.proofs.Queued.{sent-none, sent-twice}
use Rattle.ca_client_tables.specs.OnCircuits.{MayBeOn, circuit_of, is_index, is_on_index, stood_on}

-- ---- where a channel is

-- a test that names a phase on a circuit names a channel on it
pub on-index : (test : Phase → Bool) (c : Handle) (v : Channel) → is_on_in test c v ≡ true → circuit_of v ≡ Some c.index
on-index test c v named = by_standing v.standing refl named
  where
    by_standing : (s : Standing) → v.standing ≡ s → is_on_in test c (let w : Channel = record v { standing = s } in w) ≡ true → circuit_of v ≡ Some c.index
    by_standing Searching is h = absurd cc
    by_standing (On d p) is h = ap stood_on is ∙ by_test (same_handle d c) refl h
      where
        by_test : (b : Bool) → same_handle d c ≡ b → unwrap_or (option_map test (let o : Option Phase = if b then Some p else None in o)) false ≡ true → Some d.index ≡ Some c.index
        by_test true same h = ap (λ (n : ℕ). Some n) (eqb-true d.index c.index (and_parts (d.index == c.index) (d.generation == c.generation) same).0)
        by_test false other h = absurd cc

pub none-on : (o : ℕ) (x : Option Channel) → is_on_index o x ≡ false → (v : Channel) → x ≡ Some v → circuit_of v ≡ Some o → ⊥
none-on o None none v is owned = absurd cc
none-on o (Some w) none v is owned =
    let it : w ≡ v = some_is w v is in
    let yes : is_on_index o (Some w) ≡ true = ap (is_index o) (ap circuit_of it ∙ owned) ∙ eq-eqb o o refl in
    let bad : false ≡ true = sym none ∙ yes in
    absurd cc

-- ---- the index is listed

pub list-kept : (r : Result (Unit {0}) AllocError) (o i : ℕ) (old new : List (List ℕ)) → OnOk r (list_of new o ≡ added i (list_of old o)) → OnErr r (list_of new o ≡ list_of old o) → ((k : ℕ) → k ≢ o → list_of new k ≡ list_of old k) → (t : Table Channel) → AreListed circuit_of t old → AreListed circuit_of t new
list-kept (Ok u) o i old new own err others t listed = listed-more circuit_of t old new o i own others listed
list-kept (Err e) o i old new own err others t listed =
    listed-same circuit_of t old new (λ k. elim (cases_eq k o) [
      | inl here ↦ ap (list_of new) here ∙ err ∙ ap (list_of old) (sym here)
      | inr other ↦ others k other
    ]) listed

pub list-own : (r : Result (Unit {0}) AllocError) (o i : ℕ) (old new : List (List ℕ)) → OnOk r (list_of new o ≡ added i (list_of old o)) → is_ok r ≡ true → (k : ℕ) → Some o ≡ Some k → Has (list_of new k) i
list-own (Ok u) o i old new own ok k is =
    subst (λ (m : ℕ). Has (list_of new m) i) (some_is o k is) (subst (λ (xs : List ℕ). Has xs i) (sym own) (has-own i (list_of old o)))
list-own (Err e) o i old new own ok k is = absurd cc

-- ---- a circuit is connected

creating-other : (c : Handle) (v : Channel) → (creating c v ≡ v) ⊎ (circuit_of v ≡ Some c.index)
creating-other c v = elim (cases_Bool (is_on_in is_connecting c v)) [
  | inl waits ↦ inr (on-index is_connecting c v waits)
  | inr other ↦ inl (rw other refl)
]

-- one that is being created no longer waits
created-waits : (c : Handle) (v : Channel) → is_on_in is_connecting c (let w : Channel = record v { standing = On c (Creating 0) } in w) ≡ false
created-waits c v = by_test (same_handle c c)
  where
    by_test : (b : Bool) → unwrap_or (option_map is_connecting (let o : Option Phase = if b then Some (Creating 0) else None in o)) false ≡ false
    by_test true = refl
    by_test false = refl

creating-again : (c : Handle) (v : Channel) → creating c (creating c v) ≡ creating c v
creating-again c v = elim (cases_Bool (is_on_in is_connecting c v)) [
  | inl waits ↦ rw (waits, created-waits c v) refl
  | inr other ↦ rw (other, other) refl
]

pub creating-twice : (c : Handle) (o : Option Channel) → option_map (creating c) (option_map (creating c) o) ≡ option_map (creating c) o
creating-twice c None = refl
creating-twice c (Some v) = ap (λ (w : Channel). Some w) (creating-again c v)

creating-covered : (c : Handle) (v : Channel) → (option_map (creating c) (Some v) ≡ Some v) ⊎ (circuit_of v ≡ Some c.index)
creating-covered c v = elim (creating-other c v) [ inl same ↦ inl (ap (λ (w : Channel). Some w) same) | inr on ↦ inr on ]

pub creating-covers : (c : Handle) (t : Table Channel) (xs : List ℕ) → MayBeOn c.index t xs → Covers (option_map (creating c)) t xs
creating-covers c t xs may = in-covers circuit_of (option_map (creating c)) t xs c.index refl (creating-covered c) may.all

creating-stays : (c : Handle) (v : Channel) → circuit_of (creating c v) ≡ circuit_of v
creating-stays c v = elim (cases_Bool (is_on_in is_connecting c v)) [
  | inl waits ↦ rw waits (sym (on-index is_connecting c v waits))
  | inr other ↦ rw other refl
]

pub creating-listed : (c : Handle) (t u : Table Channel) (lists : List (List ℕ)) → u ≡ map (by_value (option_map (creating c))) t → AreListed circuit_of t lists → AreListed circuit_of u lists
creating-listed c t u lists is listed =
    subst (λ (z : Table Channel). AreListed circuit_of z lists) (sym is)
    (listed-thin circuit_of t (map (by_value (option_map (creating c))) t) lists
    (thins-map circuit_of (option_map (creating c)) t refl (λ w v o there owned. sym (creating-stays c w) ∙ ap circuit_of (some_is (creating c w) v there) ∙ owned)) listed)

-- ---- the CREATE_CHANs

creations-in-order : (c : Handle) → IsInOrder (creations_of c)
creations-in-order c = record {
  none = refl;
  more = λ xs ys. (let waits = λ (e : Handle × Channel). is_on_in is_connecting c e.1 in
      ap (map creation) (filter-append waits xs ys) ∙ map-append creation (filter waits xs) (filter waits ys));
}

creations-only : (c h : Handle) (v : Channel) → (creations_of c ((h, v) ∷ []) ≡ []) ⊎ (circuit_of v ≡ Some c.index)
creations-only c h v = elim (cases_Bool (is_on_in is_connecting c v)) [
  | inl waits ↦ inr (on-index is_connecting c v waits)
  | inr other ↦ inl (rw other refl)
]

pub creations-listed : (c : Handle) (t : Table Channel) (xs : List ℕ) → MayBeOn c.index t xs → each_at (creations_of c) t xs ≡ creations_in c t
creations-listed c t xs may =
    told-listed (creations_of c) (creations-in-order c) t xs may.ascends
    (in-tells circuit_of (creations_of c) t xs c.index (creations-in-order c) (creations-only c) may.all)

-- ---- the indices that are looked at

pub all-upto : (o : ℕ) (t : Table Channel) → AreAllIn circuit_of o t (upto (length t))
all-upto o t i v there owned = elim (cases_lt i (length t)) [
  | inl within ↦ upto-has (length t) i within
  | inr past ↦
      let none : None ≡ Some v = sym (ap (λ (p : Place Channel). p.value) (get_or_past t i blank past)) ∙ there in
      absurd cc
]

pub may-all : (o n : ℕ) (t : Table Channel) → n ≡ length t → MayBeOn o t (upto n)
may-all o n t is = subst (λ (m : ℕ). MayBeOn o t (upto m)) (sym is) (record { ascends = upto-ascends (length t); all = all-upto o t })

pub may-listed : (o : ℕ) (t : Table Channel) (lists : List (List ℕ)) (xs : List ℕ) → xs ≡ list_of lists o → Ascends xs → AreListed circuit_of t lists → MayBeOn o t xs
may-listed o t lists xs is up listed = record { ascends = up; all = subst (AreAllIn circuit_of o t) (sym is) (all-in circuit_of t lists o listed) }

-- one that is searched for is on none
pub searched-none : (s : Standing) → is_searched s ≡ true → stood_on s ≡ None
searched-none Searching h = refl
searched-none (On c p) h = absurd cc

-- ---- the CREATE_CHANs, one index after another

pub created-first : (c : Handle) (t : Table Channel) (xs : List ℕ) (link : LinkState) → MayBeOn c.index t xs → with_sent (each_at (creations_of c) t xs) link ≡ with_sent (creations_in c t) link
created-first c t xs link may = ap (λ (ms : List Fields). with_sent ms link) (creations-listed c t xs may)

pub created-more : (c : Handle) (t : Table Channel) (xs : List ℕ) (k i : ℕ) (start now next : LinkState) → k < length xs → i ≡ slice_index_or xs k 0 → with_sent (each_at (creations_of c) t (drop k xs)) now ≡ with_sent (creations_in c t) start → next ≡ with_sent (creations_at c (held_at i (place_at t i))) now → with_sent (each_at (creations_of c) t (drop (k + 1) xs)) next ≡ with_sent (creations_in c t) start
created-more c t xs k i start now next within is so step =
    let rest = each_at (creations_of c) t (drop (k + 1) xs) in
    ap (with_sent rest) step
    ∙ sent-twice (creations_at c (held_at i (place_at t i))) rest now
    ∙ ap (λ (n : ℕ). with_sent (creations_at c (held_at n (place_at t n)) ++ rest) now) is
    ∙ ap (λ (ys : List ℕ). with_sent (each_at (creations_of c) t ys) now) (sym (drop_more xs k 0 within))
    ∙ so

pub created-last : (c : Handle) (t : Table Channel) (xs : List ℕ) (k : ℕ) (start now : LinkState) → length xs ≤ k → with_sent (each_at (creations_of c) t (drop k xs)) now ≡ with_sent (creations_in c t) start → now ≡ with_sent (creations_in c t) start
created-last c t xs k start now past so =
    sym (sent-none now)
    ∙ ap (λ (ys : List ℕ). with_sent (each_at (creations_of c) t ys) now) (sym (drop_all k xs past))
    ∙ so
