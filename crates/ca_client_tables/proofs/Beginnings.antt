-- The circuits of name servers, one after another.
use Rattle.std.proofs.Common.{◌≡◌, ◌∙◌, ℕ, zero, suc, ◌+◌, ◌<◌, ◌≤◌, ◌||◌, inl, inr, Bool, true, false, not, List, [], ◌∷◌, ◌++◌, length, map, take, get_or, filter, Some, if◌then◌else◌, option_to_list, ap, arith, append-nil, append_assoc, refl, sym, subst, length-append}
use Rattle.std.proofs.lemmas.Bool.{cases_lt, eq-eqb}
use Rattle.std.proofs.lemmas.List.{get_or-map, get_or_past, length-map, map-append, take_more}
use Rattle.std.proofs.lemmas.List.Elements.{filter-append}
use Rattle.std.proofs.lemmas.List.Filters.{length-filter_both}
use Rattle.ca_arena.specs.declared.handle.Handle.{Handle}
use Rattle.ca_arena.specs.Arena.{Place, blank, place_at}
use Rattle.ca_ids.specs.Table.{MayGive, Table, held, held_at, held_from, with_held}
use Rattle.ca_model.specs.Client.{ClientCircuit, new_circuit}
use Rattle.ca_model.specs.ClientEnds.{distinct, name_circuits}
use Rattle.ca_model.specs.Ends.{Address, same_address}
use Rattle.ca_client_tables.specs.Names.{Adds, HasNames, is_among, nowhere, seen_before}

-- no address but this one
abbrev other : Address → Address → Bool
other x b = not (same_address b x)

one-other : (x a : Address) (here : Bool) → same_address a x ≡ here → filter (other x) (a ∷ []) ≡ (if here then [] else a ∷ [])
one-other x a true is = rw is refl
one-other x a false is = rw is refl

-- one more address, after the first: it is new, or it is not
step : (x a : Address) (xs zs : List Address) (here there : Bool) → same_address a x ≡ here → zs ≡ (if there then distinct xs else distinct xs ++ a ∷ []) → x ∷ filter (other x) zs ≡ (if here || there then distinct (x ∷ xs) else distinct (x ∷ xs) ++ a ∷ [])
step x a xs zs true true is rest = ap (λ (ys : List Address). x ∷ filter (other x) ys) rest
step x a xs zs false true is rest = ap (λ (ys : List Address). x ∷ filter (other x) ys) rest
step x a xs zs true false is rest =
    ap (λ (ys : List Address). x ∷ filter (other x) ys) rest
    ∙ ap (λ (ys : List Address). x ∷ ys) (filter-append (other x) (distinct xs) (a ∷ [])
    ∙ ap (λ (ys : List Address). filter (other x) (distinct xs) ++ ys) (one-other x a true is)
    ∙ append-nil (filter (other x) (distinct xs)))
step x a xs zs false false is rest =
    ap (λ (ys : List Address). x ∷ filter (other x) ys) rest
    ∙ ap (λ (ys : List Address). x ∷ ys) (filter-append (other x) (distinct xs) (a ∷ [])
    ∙ ap (λ (ys : List Address). filter (other x) (distinct xs) ++ ys) (one-other x a false is))

pub distinct-push : (xs : List Address) (a : Address) → distinct (xs ++ a ∷ []) ≡ (if is_among a xs then distinct xs else distinct xs ++ a ∷ [])
distinct-push [] a = refl
distinct-push (x ∷ xs) a = step x a xs (distinct (xs ++ a ∷ [])) (same_address a x) (is_among a xs) refl (distinct-push xs a)

-- the addresses up to one more place
pub distinct-more : (names : List Address) (i : ℕ) → i < length names → distinct (take (i + 1) names) ≡ (if seen_before i names then distinct (take i names) else distinct (take i names) ++ get_or names i nowhere ∷ [])
distinct-more names i within = ap distinct (take_more names i nowhere within) ∙ distinct-push (take i names) (get_or names i nowhere)

pub counted-more : (names : List Address) (i : ℕ) → i < length names → length (distinct (take (i + 1) names)) ≡ length (distinct (take i names)) + (if seen_before i names then 0 else 1)
counted-more names i within = by_test (seen_before i names) refl
  where
    by_test : (b : Bool) → seen_before i names ≡ b → length (distinct (take (i + 1) names)) ≡ length (distinct (take i names)) + (if seen_before i names then 0 else 1)
    by_test true is = rw is (omega (arith, ap length (distinct-more names i within ∙ ap (λ (c : Bool). if c then distinct (take i names) else distinct (take i names) ++ get_or names i nowhere ∷ []) is)))
    by_test false is = rw is (omega (arith, ap length (distinct-more names i within ∙ ap (λ (c : Bool). if c then distinct (take i names) else distinct (take i names) ++ get_or names i nowhere ∷ []) is), length-append (distinct (take i names)) (get_or names i nowhere ∷ [])))

pub distinct-less : (names : List Address) → length (distinct names) ≤ length names
distinct-less [] = omega arith
distinct-less (x ∷ xs) = omega (arith, distinct-less xs, length-filter_both (λ (b : Address). same_address b x) (other x) (λ b. refl) (distinct xs))

-- ---- one more circuit

module _ {T : Type 0} where
  held-last : (t : Table T) (p : Place T) (i : ℕ) → held_from i (t ++ p ∷ []) ≡ held_from i t ++ option_to_list (held_at (i + length t) p)
  held-last [] p i =
      let none : i ≡ i + 0 = omega arith in
      append-nil (option_to_list (held_at i p)) ∙ ap (λ (n : ℕ). option_to_list (held_at n p)) none
  held-last (q ∷ t) p i =
      let there : (i + 1) + length t ≡ i + suc (length t) = omega arith in
      ap (λ (xs : List (Handle × T)). option_to_list (held_at i q) ++ xs) (held-last t p (i + 1))
      ∙ sym (append_assoc (option_to_list (held_at i q)) (held_from (i + 1) t) (option_to_list (held_at ((i + 1) + length t) p)))
      ∙ ap (λ (n : ℕ). (option_to_list (held_at i q) ++ held_from (i + 1) t) ++ option_to_list (held_at n p)) there

-- the place of a name server's circuit
abbrev place_of : Address → Place ClientCircuit
place_of a = record { generation = 1; value = Some (new_circuit a 0 true) }

-- each index is held: the next id has the next index
next-index : (ds : List Address) (h : Handle) → MayGive (map place_of ds) h → h ≡ record { index = length (map place_of ds); generation = 1 }
next-index ds h may =
    elim (cases_lt h.index (length (map place_of ds))) [
      | inl within ↦
          let taken : place_at (map place_of ds) h.index ≡ place_of (get_or ds h.index nowhere) =
          get_or-map place_of ds h.index nowhere blank (omega (arith, length-map ds place_of)) in
          let held_there : (place_at (map place_of ds) h.index).value ≡ Some (new_circuit (get_or ds h.index nowhere) 0 true) = ap (λ (p : Place ClientCircuit). p.value) taken in
          let vacant = may.free in
          absurd cc
      | inr past ↦
          let index : h.index ≡ length (map place_of ds) = omega (arith, may.index) in
          let none : place_at (map place_of ds) h.index ≡ blank = get_or_past (map place_of ds) h.index blank past in
          let generation : h.generation ≡ 1 = may.next ∙ ap (λ (p : Place ClientCircuit). p.generation + 1) none in
          ap (λ (n : ℕ). let k : Handle = record { index = n; generation = h.generation } in k) index
          ∙ ap (λ (g : ℕ). let k : Handle = record { index = length (map place_of ds); generation = g } in k) generation
    ]

pub names-added : (names : List Address) (a : Address) (t u : Table ClientCircuit) (o p : List Handle) → HasNames names t o → Adds a t o u p → is_among a names ≡ false → HasNames (names ++ a ∷ []) u p
names-added names a t u o p has adds new =
    let ds = distinct names in
    let next : Handle = record { index = length (map place_of ds); generation = 1 } in
    let same : adds.handle ≡ next = next-index ds adds.handle (subst (λ (w : Table ClientCircuit). MayGive w adds.handle) has.circuits adds.may) in
    let grown : with_held next (new_circuit a 0 true) (map place_of ds) ≡ map place_of ds ++ place_of a ∷ [] =
    rw (eq-eqb (length (map place_of ds)) (length (map place_of ds)) refl) refl in
    let table : u ≡ map place_of ds ++ place_of a ∷ [] =
    adds.table
    ∙ ap (λ (w : Table ClientCircuit). with_held adds.handle (new_circuit a 0 true) w) has.circuits
    ∙ ap (λ (h : Handle). with_held h (new_circuit a 0 true) (map place_of ds)) same
    ∙ grown in
    let more : distinct (names ++ a ∷ []) ≡ ds ++ a ∷ [] = distinct-push names a ∙ ap (λ (b : Bool). if b then ds else ds ++ a ∷ []) new in
    let circuits : map place_of ds ++ place_of a ∷ [] ≡ name_circuits (names ++ a ∷ []) = sym (map-append place_of ds (a ∷ [])) ∙ ap (map place_of) (sym more) in
    let zero_first : 0 + length (map place_of ds) ≡ length (map place_of ds) = omega arith in
    let listed : held u ≡ held (map place_of ds) ++ (next, new_circuit a 0 true) ∷ [] =
    ap held table ∙ held-last (map place_of ds) (place_of a) 0
    ∙ ap (λ (n : ℕ). held (map place_of ds) ++ option_to_list (held_at n (place_of a))) zero_first in
    record {
      circuits = table ∙ circuits;
      listed = adds.last
          ∙ ap (λ (h : Handle). o ++ h ∷ []) same
          ∙ ap (λ (xs : List Handle). xs ++ next ∷ []) (has.listed ∙ ap (λ (w : Table ClientCircuit). map (λ (e : Handle × ClientCircuit). e.0) (held w)) has.circuits)
          ∙ sym (map-append (λ (e : Handle × ClientCircuit). e.0) (held (map place_of ds)) ((next, new_circuit a 0 true) ∷ []))
          ∙ ap (map (λ (e : Handle × ClientCircuit). e.0)) (sym listed);
    }

pub names-again : (names : List Address) (a : Address) (t : Table ClientCircuit) (o : List Handle) → HasNames names t o → is_among a names ≡ true → HasNames (names ++ a ∷ []) t o
names-again names a t o has old =
    let same : distinct (names ++ a ∷ []) ≡ distinct names = distinct-push names a ∙ ap (λ (b : Bool). if b then distinct names else distinct names ++ a ∷ []) old in
    record { circuits = has.circuits ∙ ap (map place_of) (sym same); listed = has.listed }

-- what is read within a list does not depend on what is past it
pub read-within : {X : Type 0} (xs : List X) (i : ℕ) (d e : X) → i < length xs → get_or xs i d ≡ get_or xs i e
read-within [] i d e within = absurd (omega arith)
read-within (x ∷ xs) zero d e within = refl
read-within (x ∷ xs) (suc i) d e within = read-within xs i d e (omega arith)

pub names-more : (names : List Address) (i : ℕ) (t u : Table ClientCircuit) (o p : List Handle) → i < length names → HasNames (take i names) t o → Adds (get_or names i nowhere) t o u p → seen_before i names ≡ false → HasNames (take (i + 1) names) u p
names-more names i t u o p within has adds new =
    subst (λ (ns : List Address). HasNames ns u p) (sym (take_more names i nowhere within)) (names-added (take i names) (get_or names i nowhere) t u o p has adds new)

pub names-stay : (names : List Address) (i : ℕ) (t : Table ClientCircuit) (o : List Handle) → i < length names → HasNames (take i names) t o → seen_before i names ≡ true → HasNames (take (i + 1) names) t o
names-stay names i t o within has old =
    subst (λ (ns : List Address). HasNames ns t o) (sym (take_more names i nowhere within)) (names-again (take i names) (get_or names i nowhere) t o has old)
