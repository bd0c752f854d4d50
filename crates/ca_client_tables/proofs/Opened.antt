-- Circuits that are still to be opened: the table with them, before and after each change.
use Rattle.std.proofs.Common.{◌≡◌, ◌≢◌, ◌∙◌, ℕ, zero, suc, ◌+◌, ◌<◌, ◌≤◌, ◌==◌, Bool, true, false, inl, inr, List, [], ◌∷◌, ◌++◌, Option, Some, None, ap, arith, cond, get_or, is_some, length, option_map, option_to_list, refl, set, slice_set, subst, sym, take}
use Rattle.std.specs.Prelude.{find, if◌then◌else◌, nat_lt}
use Rattle.std.proofs.lemmas.Bool.{cases_lt, eq-eqb, eqb-false, eqb-true, le-ltb, lt-ltb, ne_eqb}
use Rattle.std.proofs.lemmas.List.{get_or-set_other, set-append_left, take_more}
use Rattle.ca_arena.specs.declared.handle.Handle.{Handle}
use Rattle.ca_arena.specs.Arena.{Place, blank, place_at}
use Rattle.ca_arena.proofs.Places.{value_for-some, within_from_value}
use Rattle.ca_ids.specs.Table.{MayGive, Table, held, held_at, held_from, under, with_all_held, with_changed, with_held}
use Rattle.ca_model.specs.Client.{ClientCircuit, Connection}
use Rattle.ca_model.specs.Ends.{Address}
use Rattle.ca_model.proofs.Tables.{changed-few, find-at, given-none, held-back, held-other, held-under}
use Rattle.ca_requests.proofs.Tables.{true_or_false}
use Rattle.ca_client_tables.specs.Finding.{as_found, circuit_in, first_of, first_to, goes_there, goes_to}
use Rattle.ca_client_tables.specs.Opening.{AreOpening}
use Rattle.ca_client_tables.proofs.Circuits.{changed-found}
use Rattle.ca_client_tables.proofs.Replies.{found-split, not-this, this-first}

-- two changes of a list at two places
module _ {X : Type 0} where
  set-apart : (xs : List X) (i k : ℕ) (x y : X) → i ≢ k → set (set xs i x) k y ≡ set (set xs k y) i x
  set-apart [] i k x y other = refl
  set-apart (z ∷ xs) zero zero x y other = absurd (other refl)
  set-apart (z ∷ xs) zero (suc k) x y other = refl
  set-apart (z ∷ xs) (suc i) zero x y other = refl
  set-apart (z ∷ xs) (suc i) (suc k) x y other = ap (λ (ys : List X). z ∷ ys) (set-apart xs i k x y (λ same. other (ap suc same)))

module _ {T : Type 0} where
  -- the place of a value under its handle
  abbrev filled : Handle → T → Place T
  filled h v = record { generation = h.generation; value = Some v }

  -- one more holds its id
  pub all-held-more : (es : List (Handle × T)) (e : Handle × T) (t : Table T) → with_all_held (es ++ e ∷ []) t ≡ with_held e.0 e.1 (with_all_held es t)
  all-held-more [] e t = refl
  all-held-more (f ∷ es) e t = all-held-more es e (with_held f.0 f.1 t)

  -- ---- a change of what holds an id already

  may-changed : (f : T → T) (t : Table T) (c h : Handle) (d : T) → MayGive t h → under t c ≡ Some d → MayGive (with_changed f c t) h
  may-changed f t c h d may found =
      let there : with_changed f c t ≡ slice_set t c.index (filled c (f d)) = changed-found t f c d found in
      let same : place_at (with_changed f c t) h.index ≡ place_at t h.index =
      ap (λ (u : Table T). place_at u h.index) there ∙ get_or-set_other t c.index h.index (filled c (f d)) blank (λ at. given-none t c h d may found (sym at)) in
      record {
        index = omega (arith, may.index, changed-few f t c);
        slot = may.slot;
        free = ap (λ (p : Place T). p.value) same ∙ may.free;
        next = may.next ∙ ap (λ (p : Place T). p.generation + 1) (sym same);
        last = may.last;
      }

  held-changed : (f : T → T) (t : Table T) (c h : Handle) (v d : T) → MayGive t h → under t c ≡ Some d → with_held h v (with_changed f c t) ≡ with_changed f c (with_held h v t)
  held-changed f t c h v d may found =
      let within : c.index < length t = within_from_value t c.index d (value_for-some c.generation (place_at t c.index) d found).1 in
      let other : c.index ≢ h.index = λ at. given-none t c h d may found at in
      let p : Place T = filled h v in
      let q : Place T = filled c (f d) in
      let by_test : (b : Bool) → (h.index == length t) ≡ b → (if b then slice_set t c.index q ++ p ∷ [] else slice_set (slice_set t c.index q) h.index p) ≡ slice_set (if b then t ++ p ∷ [] else slice_set t h.index p) c.index q =
      λ b is. elim b as (λ (a : Bool). (if a then slice_set t c.index q ++ p ∷ [] else slice_set (slice_set t c.index q) h.index p) ≡ slice_set (if a then t ++ p ∷ [] else slice_set t h.index p) c.index q) [
        | true ↦ sym (set-append_left t (p ∷ []) c.index q within)
        | false ↦ set-apart t c.index h.index q p other
      ] in
      let long : (h.index == length (with_changed f c t)) ≡ (h.index == length t) = ap (λ (n : ℕ). h.index == n) (changed-few f t c) in
      ap (λ (b : Bool). if b then with_changed f c t ++ p ∷ [] else slice_set (with_changed f c t) h.index p) long
      ∙ ap (λ (u : Table T). if h.index == length t then u ++ p ∷ [] else slice_set u h.index p) (changed-found t f c d found)
      ∙ by_test (h.index == length t) refl
      ∙ sym (changed-found (with_held h v t) f c d (held-other t c h v d may found))

  -- ---- what is found first by index

  -- a place is put at an index, or after the others
  abbrev put : ℕ → Place T → Table T → Table T
  put zero p [] = p ∷ []
  put zero p (q ∷ t) = p ∷ t
  put (suc k) p [] = []
  put (suc k) p (q ∷ t) = q ∷ put k p t

  put-set : (k : ℕ) (p : Place T) (t : Table T) → k < length t → slice_set t k p ≡ put k p t
  put-set k p [] within = absurd (omega (arith, within))
  put-set zero p (q ∷ t) within = refl
  put-set (suc k) p (q ∷ t) within = ap (λ (u : Table T). q ∷ u) (put-set k p t (omega (arith, within)))

  put-last : (k : ℕ) (p : Place T) (t : Table T) → k ≡ length t → t ++ p ∷ [] ≡ put k p t
  put-last zero p [] last = refl
  put-last (suc k) p [] last = absurd (omega (arith, last))
  put-last zero p (q ∷ t) last = absurd (omega (arith, last))
  put-last (suc k) p (q ∷ t) last = ap (λ (u : Table T). q ∷ u) (put-last k p t (omega (arith, last)))

  held-put : (t : Table T) (h : Handle) (v : T) → h.index ≤ length t → with_held h v t ≡ put h.index (filled h v) t
  held-put t h v within = by_test (h.index == length t) refl
    where
      by_test : (b : Bool) → (h.index == length t) ≡ b → (if b then t ++ filled h v ∷ [] else slice_set t h.index (filled h v)) ≡ put h.index (filled h v) t
      by_test true is = put-last h.index (filled h v) t (eqb-true h.index (length t) is)
      by_test false is = put-set h.index (filled h v) t (let other = eqb-false h.index (length t) is in omega (arith, within, other))

module _ (a : Address) (p : ℕ) where
  -- what goes there from this index on
  abbrev from : ℕ → Table ClientCircuit → Option (Handle × Bool)
  from i t = option_map as_found (find (goes_there a p) (held_from i t))

  -- a handle that is no earlier
  abbrev Past : ℕ → Option (Handle × Bool) → Type 0
  Past i None = Unit {0}
  Past i (Some r) = i ≤ r.0.index

  at-index : (i : ℕ) (q : Place ClientCircuit) (r : Handle × Bool) → goes_to a p (held_at i q) ≡ Some r → r.0.index ≡ i
  at-index i q r is = by_value q.value is
    where
      by_value : (o : Option ClientCircuit) → goes_to a p (option_map (λ (d : ClientCircuit). let h : Handle = record { index = i; generation = q.generation } in (h, d)) o) ≡ Some r → r.0.index ≡ i
      by_value None is = absurd cc
      by_value (Some d) is =
          let h : Handle = record { index = i; generation = q.generation } in
          elim (true_or_false (goes_there a p (h, d))) [
            | inl goes ↦
                let one : goes_to a p (Some (h, d)) ≡ Some (as_found (h, d)) = rw goes refl in
                let same : Some (h, is_some d.connection) ≡ Some r = sym one ∙ is in
                ap (λ (o : Option (Handle × Bool)). index_of o) (sym same)
            | inr other ↦
                let none : goes_to a p (Some (h, d)) ≡ None = rw other refl in
                absurd cc
          ]
        where
          index_of : Option (Handle × Bool) → ℕ
          index_of None = i
          index_of (Some x) = x.0.index

  past : (i : ℕ) (t : Table ClientCircuit) → Past i (from i t)
  past i [] = tt
  past i (q ∷ t) = by_first (goes_to a p (held_at i q)) refl (past (i + 1) t)
    where
      later : (o : Option (Handle × Bool)) → Past (i + 1) o → Past i o
      later None h = tt
      later (Some r) h = omega (arith, h)

      by_first : (o : Option (Handle × Bool)) → goes_to a p (held_at i q) ≡ o → Past (i + 1) (from (i + 1) t) → Past i (from i (q ∷ t))
      by_first (Some r) is rest = subst (Past i) (sym (this-first a p (held_at i q) (held_from (i + 1) t) r is)) (let same = at-index i q r is in omega (arith, same))
      by_first None is rest = subst (Past i) (sym (not-this a p (held_at i q) (held_from (i + 1) t) is)) (later (from (i + 1) t) rest)

  -- it comes before what was found
  before : (h : Handle) (v : ClientCircuit) (rest : List (Handle × ClientCircuit)) → Past (h.index + 1) (option_map as_found (find (goes_there a p) rest)) → option_map as_found (find (goes_there a p) ((h, v) ∷ rest)) ≡ first_to a p (option_map as_found (find (goes_there a p) rest)) (h, v)
  before h v rest behind =
      elim (true_or_false (goes_there a p (h, v))) [
        | inl goes ↦ rw goes (first (option_map as_found (find (goes_there a p) rest)) behind)
        | inr other ↦ rw other refl
      ]
    where
      first : (o : Option (Handle × Bool)) → Past (h.index + 1) o → Some (as_found (h, v)) ≡ first_of o (as_found (h, v))
      first None behind = refl
      first (Some r) behind = rw (le-ltb r.0.index h.index (omega (arith, behind))) refl

  -- it comes after what was found
  after : (r : Handle × Bool) (h : Handle) (v : ClientCircuit) → r.0.index < h.index → Some r ≡ first_to a p (Some r) (h, v)
  after r h v less =
      elim (true_or_false (goes_there a p (h, v))) [
        | inl goes ↦ rw (goes, lt-ltb r.0.index h.index less) refl
        | inr other ↦ rw other refl
      ]

  first-put : (t : Table ClientCircuit) (i k : ℕ) (h : Handle) (v : ClientCircuit) → i + k ≡ h.index → k ≤ length t → (place_at t k).value ≡ None → from i (put k (filled h v) t) ≡ first_to a p (from i t) (h, v)
  first-put [] i zero h v at within free =
      let same : i ≡ h.index = omega (arith, at) in
      ap (λ (n : ℕ). let g : Handle = record { index = n; generation = h.generation } in option_map as_found (find (goes_there a p) ((g, v) ∷ []))) same
      ∙ before h v [] tt
  first-put [] i (suc k) h v at within free = absurd (omega (arith, within))
  first-put (q ∷ t) i zero h v at within free =
      let same : i ≡ h.index = omega (arith, at) in
      let next : i + 1 ≡ h.index + 1 = omega (arith, at) in
      let empty : from i (q ∷ t) ≡ from (i + 1) t = not-this a p (held_at i q) (held_from (i + 1) t) (ap (λ (o : Option ClientCircuit). goes_to a p (option_map (λ (d : ClientCircuit). let g : Handle = record { index = i; generation = q.generation } in (g, d)) o)) free) in
      ap (λ (n : ℕ). let g : Handle = record { index = n; generation = h.generation } in option_map as_found (find (goes_there a p) ((g, v) ∷ held_from (i + 1) t))) same
      ∙ before h v (held_from (i + 1) t) (subst (λ (n : ℕ). Past n (from (i + 1) t)) next (past (i + 1) t))
      ∙ ap (λ (o : Option (Handle × Bool)). first_to a p o (h, v)) (sym empty)
  first-put (q ∷ t) i (suc k) h v at within free = by_first (goes_to a p (held_at i q)) refl (first-put t (i + 1) k h v (omega (arith, at)) (omega (arith, within)) free)
    where
      by_first : (o : Option (Handle × Bool)) → goes_to a p (held_at i q) ≡ o → from (i + 1) (put k (filled h v) t) ≡ first_to a p (from (i + 1) t) (h, v) → from i (q ∷ put k (filled h v) t) ≡ first_to a p (from i (q ∷ t)) (h, v)
      by_first (Some r) is rest =
          let index = at-index i q r is in
          this-first a p (held_at i q) (held_from (i + 1) (put k (filled h v) t)) r is
          ∙ after r h v (omega (arith, index, at))
          ∙ ap (λ (o : Option (Handle × Bool)). first_to a p o (h, v)) (sym (this-first a p (held_at i q) (held_from (i + 1) t) r is))
      by_first None is rest =
          not-this a p (held_at i q) (held_from (i + 1) (put k (filled h v) t)) is
          ∙ rest
          ∙ ap (λ (o : Option (Handle × Bool)). first_to a p o (h, v)) (sym (not-this a p (held_at i q) (held_from (i + 1) t) is))

  -- the circuit that goes there, with one more
  pub found-held : (t : Table ClientCircuit) (h : Handle) (v : ClientCircuit) → MayGive t h → circuit_in a p (with_held h v t) ≡ first_to a p (circuit_in a p t) (h, v)
  found-held t h v may =
      ap (λ (u : Table ClientCircuit). circuit_in a p u) (held-put t h v may.index)
      ∙ first-put t 0 h.index h v (omega arith) may.index may.free

-- ---- those that are to be opened

may-at : (es : List (Handle × ClientCircuit)) (t : Table ClientCircuit) (n : ℕ) (e : Handle × ClientCircuit) → AreOpening es t → n < length es → MayGive (with_all_held (take n es) t) (get_or es n e).0
may-at [] t n e opening within = absurd (omega (arith, within))
may-at (f ∷ es) t zero e opening within = opening.0
may-at (f ∷ es) t (suc n) e opening within = may-at es (with_held f.0 f.1 t) n e opening.2 (omega (arith, within))

-- one more was looked at
pub looked-more : (a : Address) (p : ℕ) (es : List (Handle × ClientCircuit)) (t : Table ClientCircuit) (n : ℕ) (e : Handle × ClientCircuit) (found : Option (Handle × Bool)) → AreOpening es t → n < length es → e ≡ get_or es n e → found ≡ circuit_in a p (with_all_held (take n es) t) → first_to a p found e ≡ circuit_in a p (with_all_held (take (n + 1) es) t)
looked-more a p es t n e found opening within is so_far =
    let last = get_or es n e in
    let before = with_all_held (take n es) t in
    ap (λ (o : Option (Handle × Bool)). first_to a p o e) so_far
    ∙ ap (λ (f : Handle × ClientCircuit). first_to a p (circuit_in a p before) f) is
    ∙ sym (found-held a p before last.0 last.1 (may-at es t n e opening within))
    ∙ ap (λ (u : Table ClientCircuit). circuit_in a p u) (sym (all-held-more (take n es) last t))
    ∙ ap (λ (fs : List (Handle × ClientCircuit)). circuit_in a p (with_all_held fs t)) (sym (take_more es n e within))

pub opening-more : (es : List (Handle × ClientCircuit)) (t : Table ClientCircuit) (h : Handle) (v : ClientCircuit) → AreOpening es t → MayGive (with_all_held es t) h → v.connection ≡ None → AreOpening (es ++ (h, v) ∷ []) t
opening-more [] t h v opening may none = (may, none, tt)
opening-more (e ∷ es) t h v opening may none = (opening.0, opening.1, opening-more es (with_held e.0 e.1 t) h v opening.2 may none)

-- a circuit of the table is changed
pub opening-changed : (f : ClientCircuit → ClientCircuit) (es : List (Handle × ClientCircuit)) (t : Table ClientCircuit) (c : Handle) (d : ClientCircuit) → AreOpening es t → under t c ≡ Some d → AreOpening es (with_changed f c t) × (with_all_held es (with_changed f c t) ≡ with_changed f c (with_all_held es t))
opening-changed f [] t c d opening found = (tt, refl)
opening-changed f (e ∷ es) t c d opening found =
    let one = held-changed f t c e.0 e.1 d opening.0 found in
    let rest = opening-changed f es (with_held e.0 e.1 t) c d opening.2 (held-other t c e.0 e.1 d opening.0 found) in (
      (may-changed f t c e.0 d opening.0 found, opening.1, subst (AreOpening es) (sym one) rest.0),
      ap (with_all_held es) one ∙ rest.1,
    )

-- one that is connected is in the table
in-table : (es : List (Handle × ClientCircuit)) (t : Table ClientCircuit) (c : Handle) (d : ClientCircuit) → AreOpening es t → under (with_all_held es t) c ≡ Some d → is_some d.connection ≡ true → under t c ≡ Some d
in-table [] t c d opening found connected = found
in-table (e ∷ es) t c d opening found connected =
    elim (held-back t c e.0 e.1 d (in-table es (with_held e.0 e.1 t) c d opening.2 found connected)) [
      | inl new ↦
          let none : is_some d.connection ≡ false = ap (λ (x : ClientCircuit). is_some x.connection) new.1 ∙ ap (λ (o : Option Connection). is_some o) opening.1 in
          absurd cc
      | inr old ↦ old
    ]

pub connected-there : (a : Address) (p : ℕ) (es : List (Handle × ClientCircuit)) (t : Table ClientCircuit) (c : Handle) → AreOpening es t → Some (c, true) ≡ circuit_in a p (with_all_held es t) → (d : ClientCircuit) × (under t c ≡ Some d)
connected-there a p es t c opening to =
    let all = with_all_held es t in
    let parts = found-split (find (goes_there a p) (held all)) c true (sym to) in
    let at = find-at (goes_there a p) (held all) (c, parts.0) parts.1 in
    (parts.0, in-table es t c parts.0 opening (held-under all at.0 (c, parts.0) at.1) parts.2)
