-- One record beside the log, as one entry more is told.
use Rattle.std.proofs.Common.{◌≡◌, ℕ, zero, suc, inl, inr, Bool, true, false, cond, not, ◌&&◌, ◌||◌, eq-eqb, ne_eqb, List, [], ◌∷◌, ◌++◌, Option, Some, None, refl, sym, ap, subst, ◌∙◌, append-nil}
use Rattle.std.specs.Prelude.{filter, map}
use Rattle.std.specs.List.{fold, list_any}
use Rattle.std.proofs.lemmas.List.{map-append}
use Rattle.std.proofs.lemmas.List.Sums.{fold-append}
use Rattle.ca_text.specs.Place.{At}
use Rattle.ca_text.proofs.Places.{some_is, At-mapped, At-parts, At-snoc}
use Rattle.ca_dbr.specs.declared.value.Meta.{Meta}
use Rattle.ca_dbr.specs.Elements.{Elements}
use Rattle.ca_dbr.specs.Held.{kind_of}
use Rattle.ca_records.specs.declared.puts.Put.{Put}
use Rattle.ca_records.specs.Puts.{Record, WaitingPut, new_record, with_value, with_waiting, without_puts}
use Rattle.ca_records.specs.Record.{RecordState}
use Rattle.ca_model.specs.Speech.{In, Stored}
use Rattle.ca_model.specs.History.{Entry, Added, Applied, Finished, Posted, Removed, Waits, Withdrawn}
use Rattle.ca_model.specs.Known.{same_place, waiting, waiting_after}
use Rattle.ca_model.specs.World.{PutPlace, RecordSide, record_begun}
use Rattle.ca_laws_parts.specs.Both.{Both}
use Rattle.ca_laws_parts.specs.Once.{IsApplied, IsFinished, IsUntold}
use Rattle.ca_laws_parts.specs.Agrees.{Agrees, AreApart, IsBusyBy, IsOf, StillWaits, WaitsAs, pair_of, stored, value_by}
use Rattle.ca_laws_parts.proofs.WritesLists.{In-append, In-kept, beside-left, In-last, In-snoc, both-all, both-filter, both-snoc, filter-all, filter-and, filter-ext, none_at}
use Rattle.ca_laws_parts.proofs.Parts.{Spares, busy-begins, busy-ends, busy-kept, first-out, none-out, place-is, posts-added, posts-applied, posts-none, posts-posted, same-self, same-true, spared-busy, value-other, value-own, waiting-more, waits-spared}

-- ---- puts that wait

-- the entry neither applies this put nor withdraws it
pub record KeepsWaiting (p : PutPlace) (e : Entry) : Type 0 where
  pub unapplied : (r : ℕ) (v : Stored) (b : Bool) → Applied p.circuit p.place r v b ≡ e → ⊥
  pub kept : Withdrawn p.circuit p.place ≡ e → ⊥

pub still-waits : (y : List Entry) (e : Entry) (r : ℕ) (p : PutPlace) (value : Elements) → KeepsWaiting p e → StillWaits y r p value → StillWaits (y ++ e ∷ []) r p value
still-waits y e r p value keeps w = record {
  v = w.v;
  came = In-append y (e ∷ []) (Waits p.circuit p.place r w.v) w.came;
  with_it = w.with_it;
  unapplied = λ h. elim (In-snoc y e (Applied p.circuit p.place h.0 h.1 h.2) h.3) [
    | inl old ↦ w.unapplied (h.0, h.1, h.2, old)
    | inr new ↦ keeps.unapplied h.0 h.1 h.2 new
  ];
  kept = λ h. elim (In-snoc y e (Withdrawn p.circuit p.place) h) [
    | inl old ↦ w.kept old
    | inr new ↦ keeps.kept new
  ];
}

spares-waiting : (r : RecordSide) (e : Entry) (p : PutPlace) → Spares r e → In r.waiting p → KeepsWaiting p e
spares-waiting r e p spares waits = record {
  unapplied = λ i v b is. (let s : Spares r (Applied p.circuit p.place i v b) = subst (λ (z : Entry). Spares r z) (sym is) spares in s.1 waits);
  kept = λ is. (let s : Spares r (Withdrawn p.circuit p.place) = subst (λ (z : Entry). Spares r z) (sym is) spares in s waits);
}

pub apart-front : (ps : List PutPlace) (p : PutPlace) → AreApart ps → (In ps p → ⊥) → AreApart (ps ++ p ∷ [])
apart-front [] p apart new = (λ h. absurd (none_at h.0 p h.1), tt)
apart-front (q ∷ ps) p apart new = (
  λ h. elim (In-snoc ps p q h) [
    | inl old ↦ apart.0 old
    | inr is ↦ new (0, ap (λ (x : PutPlace). Some x) is)
  ],
  apart-front ps p apart.1 (λ h. new (suc h.0, h.1)),
)

pub apart-kept : (t : PutPlace → Bool) (ps : List PutPlace) → AreApart ps → AreApart (filter t ps)
apart-kept t [] apart = tt
apart-kept t (p ∷ ps) apart = go (t p) (apart-kept t ps apart.1)
  where
    go : (b : Bool) → AreApart (filter t ps) → AreApart (cond b (p ∷ filter t ps) (filter t ps))
    go true rest = (λ h. apart.0 (In-kept t ps p h).0, rest)
    go false rest = rest

-- ---- withdrawals, one after another

-- the entries that withdraw these
abbrev pub withdrawing : List PutPlace → List Entry
withdrawing ps = map (λ (p : PutPlace). Withdrawn p.circuit p.place) ps

-- the place is that of one of these
abbrev pub is_among : List PutPlace → ℕ × ℕ → Bool
is_among ps q = list_any (λ (p : PutPlace). same_place q (pair_of p)) ps

not-or : (a b : Bool) → not (a || b) ≡ not a && not b
not-or true b = refl
not-or false b = refl

withdrawn-waits : (r : ℕ) (ws : List PutPlace) (qs : List (ℕ × ℕ)) → fold (waiting_after r) qs (withdrawing ws) ≡ filter (λ (q : ℕ × ℕ). not (is_among ws q)) qs
withdrawn-waits r [] qs = sym (filter-all (λ (q : ℕ × ℕ). true) qs (λ x h. refl))
withdrawn-waits r (w ∷ ws) qs =
    let first : ℕ × ℕ → Bool = λ (q : ℕ × ℕ). not (same_place q (pair_of w)) in
    let rest : ℕ × ℕ → Bool = λ (q : ℕ × ℕ). not (is_among ws q) in
    withdrawn-waits r ws (filter first qs)
    ∙ sym (filter-and first rest qs)
    ∙ filter-ext (λ (q : ℕ × ℕ). first q && rest q) (λ (q : ℕ × ℕ). not (is_among (w ∷ ws) q)) qs (λ q. sym (not-or (same_place q (pair_of w)) (is_among ws q)))

-- of the places that wait, those are left that the test does not name
left-waits : (ws ps : List PutPlace) (which : PutPlace → Bool) → ((p : PutPlace) → In ps p → is_among ws (pair_of p) ≡ which p) → filter (λ (q : ℕ × ℕ). not (is_among ws q)) (map pair_of ps) ≡ map pair_of (filter (λ (p : PutPlace). not (which p)) ps)
left-waits ws [] which same = refl
left-waits ws (p ∷ ps) which same =
    let rest = left-waits ws ps which (λ q h. same q (suc h.0, h.1)) in
    ap (λ (b : Bool). cond (not b) (pair_of p ∷ filter (λ (q : ℕ × ℕ). not (is_among ws q)) (map pair_of ps)) (filter (λ (q : ℕ × ℕ). not (is_among ws q)) (map pair_of ps))) (same p (0, refl))
    ∙ go (which p) rest
  where
    go : (b : Bool) → filter (λ (q : ℕ × ℕ). not (is_among ws q)) (map pair_of ps) ≡ map pair_of (filter (λ (q : PutPlace). not (which q)) ps) → cond (not b) (pair_of p ∷ filter (λ (q : ℕ × ℕ). not (is_among ws q)) (map pair_of ps)) (filter (λ (q : ℕ × ℕ). not (is_among ws q)) (map pair_of ps)) ≡ map pair_of (cond (not b) (p ∷ filter (λ (q : PutPlace). not (which q)) ps) (filter (λ (q : PutPlace). not (which q)) ps))
    go true e = e
    go false e = ap (λ (l : List (ℕ × ℕ)). pair_of p ∷ l) e

pub among-there : (ws : List PutPlace) (p : PutPlace) → In ws p → is_among ws (pair_of p) ≡ true
among-there [] p h = absurd (none_at h.0 p h.1)
among-there (w ∷ ws) p h = go h.0 h.1 (λ at. among-there ws p at)
  where
    or-true : (b : Bool) → b || true ≡ true
    or-true true = refl
    or-true false = refl

    go : (k : ℕ) → At (w ∷ ws) k p → (In ws p → is_among ws (pair_of p) ≡ true) → same_place (pair_of p) (pair_of w) || is_among ws (pair_of p) ≡ true
    go zero at more = ap (λ (b : Bool). b || is_among ws (pair_of p)) (subst (λ (x : PutPlace). same_place (pair_of p) (pair_of x) ≡ true) (sym (some_is w p at)) (same-self p))
    go (suc k) at more = ap (λ (b : Bool). same_place (pair_of p) (pair_of w) || b) (more (k, at)) ∙ or-true (same_place (pair_of p) (pair_of w))

pub there-among : (ws : List PutPlace) (p : PutPlace) → is_among ws (pair_of p) ≡ true → In ws p
there-among [] p e = absurd cc
there-among (w ∷ ws) p e = go (same_place (pair_of p) (pair_of w)) refl e (λ is. there-among ws p is)
  where
    go : (b : Bool) → same_place (pair_of p) (pair_of w) ≡ b → b || is_among ws (pair_of p) ≡ true → (is_among ws (pair_of p) ≡ true → In ws p) → In (w ∷ ws) p
    go true is h more = (0, ap (λ (x : PutPlace). Some x) (sym (same-true p w is)))
    go false is h more = (let r = more h in (suc r.0, r.1))

pub append-one : {A : Type 0} (l : List A) (e : A) (es : List A) → (l ++ e ∷ []) ++ es ≡ l ++ e ∷ es
append-one [] e es = refl
append-one {A} (x ∷ l) e es = ap (λ (z : List A). x ∷ z) (append-one l e es)

-- a fact that single withdrawals keep
pub withdrawals-keep : (P : List Entry → Type 0) (y : List Entry) (ws : List PutPlace) → ((l : List Entry) (w : PutPlace) → P l → P (l ++ Withdrawn w.circuit w.place ∷ [])) → P y → P (y ++ withdrawing ws)
withdrawals-keep P y [] step p = subst P (sym (append-nil y)) p
withdrawals-keep P y (w ∷ ws) step p =
    subst P (append-one y (Withdrawn w.circuit w.place) (withdrawing ws)) (withdrawals-keep P (y ++ Withdrawn w.circuit w.place ∷ []) ws step (step y w p))

-- ---- one record

module _ (Is : PutPlace → Put → Type 0) where
  each-kept : (y : List Entry) (e : Entry) (r : ℕ) (ps : List PutPlace) (ws : List WaitingPut) → ((p : PutPlace) → In ps p → KeepsWaiting p e) → Both (WaitsAs Is y r) ps ws → Both (WaitsAs Is (y ++ e ∷ []) r) ps ws
  each-kept y e r ps ws keeps each =
      both-all (WaitsAs Is y r) (WaitsAs Is (y ++ e ∷ []) r) ps ws each (λ i p w at there h. (still-waits y e r p w.value (keeps p (i, at)) h.0, h.1))

  -- an entry that is not about it
  pub agrees-spared : (y : List Entry) (c : Record) (r : RecordSide) (e : Entry) → Spares r e → Agrees Is y c r → Agrees Is (y ++ e ∷ []) c r
  agrees-spared y c r e spares a = record {
    name = a.name;
    first = a.first;
    added = In-append y (e ∷ []) (Added r.number a.first) a.added;
    there = λ h. elim (In-snoc y e (Removed r.number) h) [
      | inl old ↦ a.there old
      | inr new ↦ (let s : Spares r (Removed r.number) = subst (λ (z : Entry). Spares r z) (sym new) spares in s refl)
    ];
    state = a.state;
    base = a.base;
    value = value-other y e r.number (posts-none r e spares) ∙ a.value;
    waits = waits-spared y r e spares a.waits;
    each = each-kept y e r.number r.waiting c.waiting (λ p h. spares-waiting r e p spares h) a.each;
    apart = a.apart;
    based = a.based;
    busy = busy-kept y r.number r.busy e (spared-busy r e spares) a.busy;
    busy_as = a.busy_as;
    slow = a.slow;
  }

  still-there : (y : List Entry) (e : Entry) (r : ℕ) → (Removed r ≡ e → ⊥) → (In y (Removed r) → ⊥) → In (y ++ e ∷ []) (Removed r) → ⊥
  still-there y e r other there h = elim (In-snoc y e (Removed r) h) [ inl old ↦ there old | inr new ↦ other new ]

  -- A post, or a write that does not make it busy: the record has its value now.
  pub agrees-posted : (y : List Entry) (c : Record) (r : RecordSide) (mask : ℕ) (v : Stored) → kind_of v.value ≡ kind_of c.state.value → Agrees Is y c r → Agrees Is (y ++ Posted r.number mask v ∷ []) (with_value v.value v.meta c) r
  agrees-posted y c r mask v same a =
      let e : Entry = Posted r.number mask v in
      record {
        name = a.name;
        first = a.first;
        added = In-append y (e ∷ []) (Added r.number a.first) a.added;
        there = still-there y e r.number (λ is. (let x : Removed r.number ≡ Posted r.number mask v = is in cc)) a.there;
        state = ap (λ (s : RecordState). let z : RecordState = record s { value = v.value; meta = v.meta } in z) a.state;
        base = same ∙ a.base;
        value = value-own y e r.number v (posts-posted r.number mask v);
        waits = waiting-more y e r.number ∙ a.waits;
        each = each-kept y e r.number r.waiting c.waiting (λ p h. record { unapplied = λ i u b is. (let x : Applied p.circuit p.place i u b ≡ Posted r.number mask v = is in cc); kept = λ is. (let x : Withdrawn p.circuit p.place ≡ Posted r.number mask v = is in cc) }) a.each;
        apart = a.apart;
        based = a.based;
        busy = busy-kept y r.number r.busy e (record { no_other = λ n k u is. (let x : Applied n k r.number u true ≡ Posted r.number mask v = is in cc); not_it = λ p b is. (let x : Finished p.circuit p.place ≡ Posted r.number mask v = is in cc) }) a.busy;
        busy_as = a.busy_as;
        slow = a.slow;
      }

  applied-other : (q p : PutPlace) → (q ≡ p → ⊥) → (r : ℕ) (v : Stored) (b : Bool) → KeepsWaiting q (Applied p.circuit p.place r v b)
  applied-other q p ne r v b = record {
    unapplied = λ i u d is. (let x : Applied q.circuit q.place i u d ≡ Applied p.circuit p.place r v b = is in let n : q.circuit ≡ p.circuit = cc in let k : q.place ≡ p.place = cc in ne (place-is q p n k));
    kept = λ is. (let x : Withdrawn q.circuit q.place ≡ Applied p.circuit p.place r v b = is in cc);
  }

  pub agrees-applied : (y : List Entry) (c : Record) (r : RecordSide) (p : PutPlace) (v : Stored) → kind_of v.value ≡ kind_of c.state.value → (In r.waiting p → ⊥) → Agrees Is y c r → Agrees Is (y ++ Applied p.circuit p.place r.number v false ∷ []) (with_value v.value v.meta c) r
  agrees-applied y c r p v same new a =
      let e : Entry = Applied p.circuit p.place r.number v false in
      record {
        name = a.name;
        first = a.first;
        added = In-append y (e ∷ []) (Added r.number a.first) a.added;
        there = still-there y e r.number (λ is. (let x : Removed r.number ≡ Applied p.circuit p.place r.number v false = is in cc)) a.there;
        state = ap (λ (s : RecordState). let z : RecordState = record s { value = v.value; meta = v.meta } in z) a.state;
        base = same ∙ a.base;
        value = value-own y e r.number v (posts-applied p.circuit p.place r.number v false);
        waits = waiting-more y e r.number ∙ ap (λ (l : List (ℕ × ℕ)). waiting_after r.number l e) a.waits ∙ none-out r.waiting p new;
        each = each-kept y e r.number r.waiting c.waiting (λ q h. applied-other q p (λ is. new (subst (λ (z : PutPlace). In r.waiting z) is h)) r.number v false) a.each;
        apart = a.apart;
        based = a.based;
        busy = busy-kept y r.number r.busy e (record { no_other = λ n k u is. (let x : Applied n k r.number u true ≡ Applied p.circuit p.place r.number v false = is in cc); not_it = λ q b is. (let x : Finished q.circuit q.place ≡ Applied p.circuit p.place r.number v false = is in cc) }) a.busy;
        busy_as = a.busy_as;
        slow = a.slow;
      }

  -- A put makes an idle record busy: one that waits for nothing, or the first that waits.
  pub agrees-busied : (y : List Entry) (s : RecordState) (b : Put) (ws : List WaitingPut) (name : List ℕ) (number : ℕ) (p : PutPlace) (ps : List PutPlace) (v : Stored) → kind_of v.value ≡ kind_of s.value → (In ps p → ⊥) → (IsFinished y p → ⊥) → Is p b → s.slow ≡ true → Agrees Is y (record { state = s; busy = None; waiting = ws }) (record { name = name; number = number; busy = None; waiting = ps }) → Agrees Is (y ++ Applied p.circuit p.place number v true ∷ []) (record { state = record s { value = v.value; meta = v.meta }; busy = Some b; waiting = ws }) (record { name = name; number = number; busy = Some p; waiting = ps })
  agrees-busied y s b ws name number p ps v same new fresh is_it slow a =
      let e : Entry = Applied p.circuit p.place number v true in
      record {
        name = a.name;
        first = a.first;
        added = In-append y (e ∷ []) (Added number a.first) a.added;
        there = still-there y e number (λ is. (let x : Removed number ≡ Applied p.circuit p.place number v true = is in cc)) a.there;
        state = ap (λ (s : RecordState). let z : RecordState = record s { value = v.value; meta = v.meta } in z) a.state;
        base = same ∙ a.base;
        value = value-own y e number v (posts-applied p.circuit p.place number v true);
        waits = waiting-more y e number ∙ ap (λ (l : List (ℕ × ℕ)). waiting_after number l e) a.waits ∙ none-out ps p new;
        each = each-kept y e number ps ws (λ q h. applied-other q p (λ is. new (subst (λ (z : PutPlace). In ps z) is h)) number v true) a.each;
        apart = a.apart;
        based = a.based;
        busy = busy-begins y number p v a.busy fresh;
        busy_as = is_it;
        slow = λ d e. slow;
      }

  pub agrees-next : (y : List Entry) (s : RecordState) (w : WaitingPut) (ws : List WaitingPut) (name : List ℕ) (number : ℕ) (p : PutPlace) (ps : List PutPlace) (meta : Meta) → kind_of w.value ≡ kind_of s.value → (IsFinished y p → ⊥) → s.slow ≡ true → Agrees Is y (record { state = s; busy = None; waiting = w ∷ ws }) (record { name = name; number = number; busy = None; waiting = p ∷ ps }) → Agrees Is (y ++ Applied p.circuit p.place number (record { value = w.value; meta = meta }) true ∷ []) (record { state = record s { value = w.value; meta = meta }; busy = Some w.put; waiting = ws }) (record { name = name; number = number; busy = Some p; waiting = ps })
  agrees-next y s w ws name number p ps meta same fresh slow a =
      let v : Stored = record { value = w.value; meta = meta } in
      let e : Entry = Applied p.circuit p.place number v true in
      record {
        name = a.name;
        first = a.first;
        added = In-append y (e ∷ []) (Added number a.first) a.added;
        there = still-there y e number (λ is. (let x : Removed number ≡ Applied p.circuit p.place number v true = is in cc)) a.there;
        state = ap (λ (s : RecordState). let z : RecordState = record s { value = v.value; meta = v.meta } in z) a.state;
        base = same ∙ a.base;
        value = value-own y e number v (posts-applied p.circuit p.place number v true);
        waits = waiting-more y e number ∙ ap (λ (l : List (ℕ × ℕ)). waiting_after number l e) a.waits ∙ first-out p ps a.apart.0;
        each = each-kept y e number ps ws (λ q h. applied-other q p (λ is. a.apart.0 (subst (λ (z : PutPlace). In ps z) is h)) number v true) a.each.1;
        apart = a.apart.1;
        based = λ i u at. a.based (suc i) u at;
        busy = busy-begins y number p v a.busy fresh;
        busy_as = a.each.0.1;
        slow = λ d e. slow;
      }

  -- The put that makes it busy is finished.
  pub agrees-finished : (y : List Entry) (s : RecordState) (b : Option Put) (ws : List WaitingPut) (name : List ℕ) (number : ℕ) (p : PutPlace) (ps : List PutPlace) → Agrees Is y (record { state = s; busy = b; waiting = ws }) (record { name = name; number = number; busy = Some p; waiting = ps }) → Agrees Is (y ++ Finished p.circuit p.place ∷ []) (record { state = s; busy = None; waiting = ws }) (record { name = name; number = number; busy = None; waiting = ps })
  agrees-finished y s b ws name number p ps a =
      let e : Entry = Finished p.circuit p.place in
      record {
        name = a.name;
        first = a.first;
        added = In-append y (e ∷ []) (Added number a.first) a.added;
        there = still-there y e number (λ is. (let x : Removed number ≡ Finished p.circuit p.place = is in cc)) a.there;
        state = a.state;
        base = a.base;
        value = value-other y e number refl ∙ a.value;
        waits = waiting-more y e number ∙ a.waits;
        each = each-kept y e number ps ws (λ q h. record { unapplied = λ i u d is. (let x : Applied q.circuit q.place i u d ≡ Finished p.circuit p.place = is in cc); kept = λ is. (let x : Withdrawn q.circuit q.place ≡ Finished p.circuit p.place = is in cc) }) a.each;
        apart = a.apart;
        based = a.based;
        busy = busy-ends y number p a.busy;
        busy_as = tt;
        slow = λ d e. absurd cc;
      }

  -- A put comes to wait after the others.
  pub agrees-waits : (y : List Entry) (c : Record) (r : RecordSide) (p : PutPlace) (w : WaitingPut) (v : Stored) → v.value ≡ w.value → kind_of w.value ≡ kind_of c.state.value → IsUntold y p → Is p w.put → Agrees Is y c r → Agrees Is (y ++ Waits p.circuit p.place r.number v ∷ []) (with_waiting w c) (record r { waiting = r.waiting ++ p ∷ [] })
  agrees-waits y c r p w v same fits fresh is_it a =
      let e : Entry = Waits p.circuit p.place r.number v in
      let new : In r.waiting p → ⊥ = λ h. (let there = beside-left (WaitsAs Is y r.number) r.waiting c.waiting h.0 p a.each h.1 in fresh (Waits p.circuit p.place r.number there.2.0.v) there.2.0.came refl) in
      let snoc : map pair_of (r.waiting ++ p ∷ []) ≡ map pair_of r.waiting ++ pair_of p ∷ [] = map-append pair_of r.waiting (p ∷ []) in
      record {
        name = a.name;
        first = a.first;
        added = In-append y (e ∷ []) (Added r.number a.first) a.added;
        there = still-there y e r.number (λ is. (let x : Removed r.number ≡ Waits p.circuit p.place r.number v = is in cc)) a.there;
        state = a.state;
        base = a.base;
        value = value-other y e r.number refl ∙ a.value;
        waits =
            waiting-more y e r.number
            ∙ ap (λ (l : List (ℕ × ℕ)). waiting_after r.number l e) a.waits
            ∙ ap (λ (b : Bool). cond b (map pair_of r.waiting ++ pair_of p ∷ []) (map pair_of r.waiting)) (eq-eqb r.number r.number refl)
            ∙ sym snoc;
        each = both-snoc (WaitsAs Is (y ++ e ∷ []) r.number) r.waiting c.waiting p w
            (each-kept y e r.number r.waiting c.waiting (λ q h. record { unapplied = λ i u d is. (let x : Applied q.circuit q.place i u d ≡ Waits p.circuit p.place r.number v = is in cc); kept = λ is. (let x : Withdrawn q.circuit q.place ≡ Waits p.circuit p.place r.number v = is in cc) }) a.each) (
              record {
                v = v;
                came = In-last y e;
                with_it = same;
                unapplied = λ h. elim (In-snoc y e (Applied p.circuit p.place h.0 h.1 h.2) h.3) [
                  | inl old ↦ fresh (Applied p.circuit p.place h.0 h.1 h.2) old refl
                  | inr is ↦ (let x : Applied p.circuit p.place h.0 h.1 h.2 ≡ Waits p.circuit p.place r.number v = is in cc)
                ];
                kept = λ h. elim (In-snoc y e (Withdrawn p.circuit p.place) h) [
                  | inl old ↦ fresh (Withdrawn p.circuit p.place) old refl
                  | inr is ↦ (let x : Withdrawn p.circuit p.place ≡ Waits p.circuit p.place r.number v = is in cc)
                ];
              },
              is_it,
            );
        apart = apart-front r.waiting p a.apart new;
        based = λ i u at. elim (At-snoc c.waiting w i u at) [
          | inl old ↦ a.based i u old
          | inr is ↦ ap (λ (z : WaitingPut). kind_of z.value) is.1 ∙ fits ∙ a.base
        ];
        busy = busy-kept y r.number r.busy e (record { no_other = λ n k u is. (let x : Applied n k r.number u true ≡ Waits p.circuit p.place r.number v = is in cc); not_it = λ q b is. (let x : Finished q.circuit q.place ≡ Waits p.circuit p.place r.number v = is in cc) }) a.busy;
        busy_as = a.busy_as;
        slow = a.slow;
      }

  -- Of the puts that wait for it those are withdrawn that two tests name, which agree; the log
  -- withdraws these, and perhaps others.
  pub agrees-withdrawn : (y : List Entry) (c : Record) (r : RecordSide) (ws : List PutPlace) (which : PutPlace → Bool) (test : Put → Bool) → ((p : PutPlace) → In r.waiting p → is_among ws (pair_of p) ≡ which p) → ((i : ℕ) (p : PutPlace) (w : WaitingPut) → At r.waiting i p → At c.waiting i w → which p ≡ test w.put) → Agrees Is y c r → Agrees Is (y ++ withdrawing ws) (without_puts test c) (record r { waiting = filter (λ (p : PutPlace). not (which p)) r.waiting })
  agrees-withdrawn y c r ws which test among agree a = record {
    name = a.name;
    first = a.first;
    added = In-append y (withdrawing ws) (Added r.number a.first) a.added;
    there = withdrawals-keep (λ l. In l (Removed r.number) → ⊥) y ws (λ l w there. still-there l (Withdrawn w.circuit w.place) r.number (λ is. (let x : Removed r.number ≡ Withdrawn w.circuit w.place = is in cc)) there) a.there;
    state = a.state;
    base = a.base;
    value = withdrawals-keep (λ l. value_by l r.number ≡ Some (stored c)) y ws (λ l w is. value-other l (Withdrawn w.circuit w.place) r.number refl ∙ is) a.value;
    waits =
        fold-append (waiting_after r.number) [] y (withdrawing ws)
        ∙ withdrawn-waits r.number ws (waiting y r.number)
        ∙ ap (λ (l : List (ℕ × ℕ)). filter (λ (q : ℕ × ℕ). not (is_among ws q)) l) a.waits
        ∙ left-waits ws r.waiting which among;
    each = both-filter (WaitsAs Is y r.number) (WaitsAs Is (y ++ withdrawing ws) r.number) (λ (p : PutPlace). not (which p)) (λ (w : WaitingPut). not (test w.put)) r.waiting c.waiting a.each
        (λ i p w at there h. ap (λ (b : Bool). not b) (agree i p w at there))
        (λ i p w at there h stays. (waits-on p w.value (among p (i, at)) stays h.0, h.1));
    based = λ i w at. (let k = In-kept (λ (w : WaitingPut). not (test w.put)) c.waiting w (i, at) in a.based k.0.0 w k.0.1);
    apart = apart-kept (λ (p : PutPlace). not (which p)) r.waiting a.apart;
    busy = withdrawals-keep (λ l. IsBusyBy l r.number r.busy) y ws (λ l w b. busy-kept l r.number r.busy (Withdrawn w.circuit w.place) (record { no_other = λ n k u is. (let x : Applied n k r.number u true ≡ Withdrawn w.circuit w.place = is in cc); not_it = λ q h is. (let x : Finished q.circuit q.place ≡ Withdrawn w.circuit w.place = is in cc) }) b) a.busy;
    busy_as = a.busy_as;
    slow = a.slow;
  }
    where
      waits-on : (p : PutPlace) (value : Elements) → is_among ws (pair_of p) ≡ which p → not (which p) ≡ true → StillWaits y r.number p value → StillWaits (y ++ withdrawing ws) r.number p value
      waits-on p value same stays w = record {
        v = w.v;
        came = In-append y (withdrawing ws) (Waits p.circuit p.place r.number w.v) w.came;
        with_it = w.with_it;
        unapplied = withdrawals-keep (λ l. IsApplied l p → ⊥) y ws (λ l q un h. elim (In-snoc l (Withdrawn q.circuit q.place) (Applied p.circuit p.place h.0 h.1 h.2) h.3) [
          | inl old ↦ un (h.0, h.1, h.2, old)
          | inr is ↦ (let x : Applied p.circuit p.place h.0 h.1 h.2 ≡ Withdrawn q.circuit q.place = is in cc)
        ]) w.unapplied;
        kept = λ h. elim (At-parts y (withdrawing ws) h.0 (Withdrawn p.circuit p.place) h.1) [
          | inl old ↦ w.kept (h.0, old)
          | inr new ↦
              let m = At-mapped (λ (q : PutPlace). Withdrawn q.circuit q.place) ws new.0 (Withdrawn p.circuit p.place) new.2 in
              let q : PutPlace = m.0 in
              let e : Withdrawn p.circuit p.place ≡ Withdrawn q.circuit q.place = m.2 in
              let n : p.circuit ≡ q.circuit = cc in
              let k : p.place ≡ q.place = cc in
              let in_it : In ws p = subst (λ (z : PutPlace). In ws z) (sym (place-is p q n k)) (new.0, m.1) in
              let named : which p ≡ true = sym same ∙ among-there ws p in_it in
              (let f : not true ≡ true = ap (λ (b : Bool). not b) (sym named) ∙ stays in cc)
        ];
      }

  -- A record is added.
  pub agrees-new : (y : List Entry) (number : ℕ) (s : RecordState) → ((e : Entry) → In y e → IsOf number e → ⊥) → Agrees Is (y ++ Added number s ∷ []) (new_record s) (record_begun number s)
  agrees-new y number s none =
      let e : Entry = Added number s in
      record {
        name = refl;
        first = s;
        added = In-last y e;
        there = still-there y e number (λ is. (let x : Removed number ≡ Added number s = is in cc)) (λ h. none (Removed number) h refl);
        state = refl;
        base = refl;
        value = value-own y e number (record { value = s.value; meta = s.meta }) (posts-added number s);
        waits = waiting-more y e number ∙ nobody-from y [] none refl;
        each = tt;
        apart = tt;
        based = λ i w at. absurd (none_at i w at);
        busy = λ n k v h. elim (In-snoc y e (Applied n k number v true) h) [
          | inl old ↦ absurd (none (Applied n k number v true) old refl)
          | inr is ↦ absurd (let x : Applied n k number v true ≡ Added number s = is in cc)
        ];
        busy_as = tt;
        slow = λ d e. absurd cc;
      }
    where
      filter-nil : (t : ℕ × ℕ → Bool) (qs : List (ℕ × ℕ)) → qs ≡ [] → filter t qs ≡ []
      filter-nil t qs is = ap (λ (l : List (ℕ × ℕ)). filter t l) is

      step : (e : Entry) (qs : List (ℕ × ℕ)) → (IsOf number e → ⊥) → qs ≡ [] → waiting_after number qs e ≡ []
      step (Added i t) qs other is = is
      step (Removed i) qs other is = is
      step (Posted i mask v) qs other is = is
      step (Waits n k i v) qs other is = ap (λ (b : Bool). cond b (qs ++ (n, k) ∷ []) qs) (ne_eqb i number (λ h. other h)) ∙ is
      step (Applied n k i v b) qs other is = filter-nil (λ (p : ℕ × ℕ). not (same_place p (n, k))) qs is
      step (Finished n k) qs other is = is
      step (Withdrawn n k) qs other is = filter-nil (λ (p : ℕ × ℕ). not (same_place p (n, k))) qs is

      nobody-from : (es : List Entry) (qs : List (ℕ × ℕ)) → ((e : Entry) → In es e → IsOf number e → ⊥) → qs ≡ [] → fold (waiting_after number) qs es ≡ []
      nobody-from [] qs none is = is
      nobody-from (x ∷ es) qs none is = nobody-from es (waiting_after number qs x) (λ e h. none e (suc h.0, h.1)) (step x qs (none x (0, refl)) is)
