-- What each entry of a log makes of one record's value, of the puts that wait for it, and of the
-- one that makes it busy.
use Rattle.std.proofs.Common.{◌≡◌, ℕ, suc, ◌+◌, ◌<◌, inl, inr, Bool, true, false, cond, not, ◌&&◌, eqb, ne_eqb, eq-eqb, eqb-true, List, [], ◌∷◌, ◌++◌, length, Option, Some, None, refl, sym, ap, subst, ◌∙◌, append-nil, arith}
use Rattle.std.specs.Prelude.{filter, filter_map, map}
use Rattle.std.specs.List.{cons_option}
use Rattle.std.proofs.lemmas.List.Elements.{filter_map-append}
use Rattle.std.proofs.lemmas.List.Sums.{fold-append}
use Rattle.ca_text.specs.Place.{At}
use Rattle.ca_text.proofs.Places.{At-append, At-last, At-snoc, At-within}
use Rattle.ca_queue.specs.Order.{last_of}
use Rattle.ca_queue.proofs.Order.{last_push}
use Rattle.ca_records.specs.Record.{RecordState}
use Rattle.ca_model.specs.Speech.{In, Stored}
use Rattle.ca_model.specs.History.{Entry, Added, Applied, Finished, Posted, Removed, Waits, Withdrawn}
use Rattle.ca_model.specs.Known.{same_place, waiting, waiting_after}
use Rattle.ca_model.specs.Posts.{post_in}
use Rattle.ca_model.specs.World.{PutPlace, RecordSide}
use Rattle.ca_laws_parts.specs.Once.{IsFinished}
use Rattle.ca_laws_parts.specs.Agrees.{IsBusyBy, IsBusyWith, IsIdle, pair_of, value_by}
use Rattle.ca_laws_parts.proofs.WritesLists.{In-append, In-snoc, length-more}

-- ---- the entries that leave a record alone

-- The entry is not about this record, nor about a put that waits for it or makes it busy.
abbrev pub Spares : RecordSide → Entry → Type 0
Spares r (Added i s) = r.number ≡ i → ⊥
Spares r (Removed i) = r.number ≡ i → ⊥
Spares r (Posted i mask v) = r.number ≡ i → ⊥
Spares r (Waits n k i v) = r.number ≡ i → ⊥
Spares r (Applied n k i v busies) = (r.number ≡ i → ⊥) × (In r.waiting (record { circuit = n; place = k }) → ⊥)
Spares r (Finished n k) = r.busy ≡ Some (record { circuit = n; place = k }) → ⊥
Spares r (Withdrawn n k) = In r.waiting (record { circuit = n; place = k }) → ⊥

-- ---- values

-- an entry posts nothing to the record
abbrev pub PostsNone : (r : ℕ) → Entry → Type 0
PostsNone r e = post_in r (λ bits. true) e ≡ None

pub value-other : (y : List Entry) (e : Entry) (r : ℕ) → PostsNone r e → value_by (y ++ e ∷ []) r ≡ value_by y r
value-other y e r none =
    let f : Entry → Option Stored = post_in r (λ bits. true) in
    let one : filter_map f (e ∷ []) ≡ [] = one-none (f e) none in
    ap (λ (l : List Stored). last_of l) (filter_map-append f y (e ∷ []) ∙ ap (λ (l : List Stored). filter_map f y ++ l) one ∙ append-nil (filter_map f y))
  where
    one-none : (o : Option Stored) → o ≡ None → cons_option o [] ≡ []
    one-none (Some v) is = absurd cc
    one-none None is = refl

pub value-own : (y : List Entry) (e : Entry) (r : ℕ) (v : Stored) → post_in r (λ bits. true) e ≡ Some v → value_by (y ++ e ∷ []) r ≡ Some v
value-own y e r v is =
    let f : Entry → Option Stored = post_in r (λ bits. true) in
    let one : filter_map f (e ∷ []) ≡ v ∷ [] = ap (λ (o : Option Stored). cons_option o []) is in
    ap (λ (l : List Stored). last_of l) (filter_map-append f y (e ∷ []) ∙ ap (λ (l : List Stored). filter_map f y ++ l) one)
    ∙ last_push None (filter_map f y) v

pub posts-none : (r : RecordSide) (e : Entry) → Spares r e → PostsNone r.number e
posts-none r (Added i s) h = ap (λ (b : Bool). cond b (Some (record { value = s.value; meta = s.meta })) None) (ne_eqb i r.number (λ is. h (sym is)))
posts-none r (Removed i) h = refl
posts-none r (Posted i mask v) h = ap (λ (b : Bool). cond (b && true) (Some v) None) (ne_eqb i r.number (λ is. h (sym is)))
posts-none r (Waits n k i v) h = refl
posts-none r (Applied n k i v busies) h = ap (λ (b : Bool). cond (b && true) (Some v) None) (ne_eqb i r.number (λ is. h.0 (sym is)))
posts-none r (Finished n k) h = refl
posts-none r (Withdrawn n k) h = refl

pub posts-applied : (n k r : ℕ) (v : Stored) (busies : Bool) → post_in r (λ bits. true) (Applied n k r v busies) ≡ Some v
posts-applied n k r v busies = ap (λ (b : Bool). cond (b && true) (Some v) None) (eq-eqb r r refl)

pub posts-posted : (r mask : ℕ) (v : Stored) → post_in r (λ bits. true) (Posted r mask v) ≡ Some v
posts-posted r mask v = ap (λ (b : Bool). cond (b && true) (Some v) None) (eq-eqb r r refl)

pub posts-added : (r : ℕ) (s : RecordState) → post_in r (λ bits. true) (Added r s) ≡ Some (record { value = s.value; meta = s.meta })
posts-added r s = ap (λ (b : Bool). cond b (Some (record { value = s.value; meta = s.meta })) None) (eq-eqb r r refl)

-- ---- what waits

pub waiting-more : (y : List Entry) (e : Entry) (r : ℕ) → waiting (y ++ e ∷ []) r ≡ waiting_after r (waiting y r) e
waiting-more y e r = fold-append (waiting_after r) [] y (e ∷ [])

both-true : (a b : Bool) → a && b ≡ true → (a ≡ true) × (b ≡ true)
both-true true true e = (refl, refl)
both-true true false e = absurd cc
both-true false b e = absurd cc

pub place-is : (p q : PutPlace) → p.circuit ≡ q.circuit → p.place ≡ q.place → p ≡ q
place-is p q c k =
    ap (λ (n : ℕ). let x : PutPlace = record { circuit = n; place = p.place } in x) c
    ∙ ap (λ (n : ℕ). let x : PutPlace = record { circuit = q.circuit; place = n } in x) k

pub same-true : (p q : PutPlace) → same_place (pair_of p) (pair_of q) ≡ true → p ≡ q
same-true p q e =
    let b = both-true (eqb p.circuit q.circuit) (eqb p.place q.place) e in
    place-is p q (eqb-true p.circuit q.circuit b.0) (eqb-true p.place q.place b.1)

pub same-self : (p : PutPlace) → same_place (pair_of p) (pair_of p) ≡ true
same-self p = ap (λ (b : Bool). b && eqb p.place p.place) (eq-eqb p.circuit p.circuit refl) ∙ eq-eqb p.place p.place refl

pub same-other : (p q : PutPlace) → (p ≡ q → ⊥) → same_place (pair_of p) (pair_of q) ≡ false
same-other p q ne = go (same_place (pair_of p) (pair_of q)) refl
  where
    go : (b : Bool) → same_place (pair_of p) (pair_of q) ≡ b → same_place (pair_of p) (pair_of q) ≡ false
    go true e = absurd (ne (same-true p q e))
    go false e = e

-- none of these is at the place
pub none-out : (ps : List PutPlace) (p : PutPlace) → (In ps p → ⊥) → filter (λ (q : ℕ × ℕ). not (same_place q (pair_of p))) (map pair_of ps) ≡ map pair_of ps
none-out [] p h = refl
none-out (q ∷ ps) p h =
    ap (λ (b : Bool). cond (not b) (pair_of q ∷ filter (λ (x : ℕ × ℕ). not (same_place x (pair_of p))) (map pair_of ps)) (filter (λ (x : ℕ × ℕ). not (same_place x (pair_of p))) (map pair_of ps)))
    (same-other q p (λ is. h (0, ap (λ (x : PutPlace). Some x) is)))
    ∙ ap (λ (l : List (ℕ × ℕ)). pair_of q ∷ l) (none-out ps p (λ at. h (at.0 + 1, later at.0 at.1)))
  where
    later : (i : ℕ) → At ps i p → At (q ∷ ps) (i + 1) p
    later i at = (let is : i + 1 ≡ suc i = omega arith in rw is at)

-- the first of these is at the place, and no other
pub first-out : (p : PutPlace) (ps : List PutPlace) → (In ps p → ⊥) → filter (λ (q : ℕ × ℕ). not (same_place q (pair_of p))) (map pair_of (p ∷ ps)) ≡ map pair_of ps
first-out p ps h =
    ap (λ (b : Bool). cond (not b) (pair_of p ∷ filter (λ (x : ℕ × ℕ). not (same_place x (pair_of p))) (map pair_of ps)) (filter (λ (x : ℕ × ℕ). not (same_place x (pair_of p))) (map pair_of ps)))
    (same-self p)
    ∙ none-out ps p h

pub waits-spared : (y : List Entry) (r : RecordSide) (e : Entry) → Spares r e → waiting y r.number ≡ map pair_of r.waiting → waiting (y ++ e ∷ []) r.number ≡ map pair_of r.waiting
waits-spared y r e spares is = waiting-more y e r.number ∙ ap (λ (l : List (ℕ × ℕ)). waiting_after r.number l e) is ∙ go e spares
  where
    go : (e : Entry) → Spares r e → waiting_after r.number (map pair_of r.waiting) e ≡ map pair_of r.waiting
    go (Added i s) h = refl
    go (Removed i) h = refl
    go (Posted i mask v) h = refl
    go (Waits n k i v) h = ap (λ (b : Bool). cond b (map pair_of r.waiting ++ (n, k) ∷ []) (map pair_of r.waiting)) (ne_eqb i r.number (λ is. h (sym is)))
    go (Applied n k i v busies) h = none-out r.waiting (record { circuit = n; place = k }) h.1
    go (Finished n k) h = refl
    go (Withdrawn n k) h = none-out r.waiting (record { circuit = n; place = k }) h

-- ---- busy

-- the entry neither makes the record busy nor finishes what does
pub record KeepsBusy (r : ℕ) (b : Option PutPlace) (e : Entry) : Type 0 where
  pub no_other : (n k : ℕ) (v : Stored) → Applied n k r v true ≡ e → ⊥
  pub not_it : (p : PutPlace) → b ≡ Some p → Finished p.circuit p.place ≡ e → ⊥

pub busy-kept : (y : List Entry) (r : ℕ) (b : Option PutPlace) (e : Entry) → KeepsBusy r b e → IsBusyBy y r b → IsBusyBy (y ++ e ∷ []) r b
busy-kept y r None e keeps idle =
    λ n k v h. elim (In-snoc y e (Applied n k r v true) h) [
      | inl old ↦ In-append y (e ∷ []) (Finished n k) (idle n k v old)
      | inr new ↦ absurd (keeps.no_other n k v new)
    ]
busy-kept y r (Some p) e keeps busy = record {
  i = busy.i;
  v = busy.v;
  at = At-append y (e ∷ []) busy.i (Applied p.circuit p.place r busy.v true) busy.at;
  last = λ j n k u lt at. elim (At-snoc y e j (Applied n k r u true) at) [
    | inl old ↦ busy.last j n k u lt old
    | inr new ↦ keeps.no_other n k u new.1
  ];
  unfinished = λ h. elim (In-snoc y e (Finished p.circuit p.place) h) [
    | inl old ↦ busy.unfinished old
    | inr new ↦ keeps.not_it p refl new
  ];
  others = λ n k u h. elim (In-snoc y e (Applied n k r u true) h) [
    | inl old ↦ elim (busy.others n k u old) [
      | inl done ↦ inl (In-append y (e ∷ []) (Finished n k) done)
      | inr same ↦ inr same
    ]
    | inr new ↦ absurd (keeps.no_other n k u new)
  ];
}

-- a put makes an idle record busy
pub busy-begins : (y : List Entry) (r : ℕ) (p : PutPlace) (v : Stored) → IsIdle y r → (IsFinished y p → ⊥) → IsBusyWith (y ++ Applied p.circuit p.place r v true ∷ []) r p
busy-begins y r p v idle fresh =
    let e : Entry = Applied p.circuit p.place r v true in
    record {
      i = length y;
      v = v;
      at = At-last y e;
      last = λ j n k u lt at. (let in_it : j < length (y ++ e ∷ []) = At-within (y ++ e ∷ []) j (Applied n k r u true) at in let len : length (y ++ e ∷ []) ≡ length y + 1 = length-more y e in absurd (omega (arith, in_it, len, lt)));
      unfinished = λ h. elim (In-snoc y e (Finished p.circuit p.place) h) [
        | inl old ↦ fresh old
        | inr new ↦ (let is : Finished p.circuit p.place ≡ Applied p.circuit p.place r v true = new in cc)
      ];
      others = λ n k u h. elim (In-snoc y e (Applied n k r u true) h) [
        | inl old ↦ inl (In-append y (e ∷ []) (Finished n k) (idle n k u old))
        | inr new ↦ (let is : Applied n k r u true ≡ Applied p.circuit p.place r v true = new in inr (cc, cc))
      ];
    }

-- it is finished
pub busy-ends : (y : List Entry) (r : ℕ) (p : PutPlace) → IsBusyWith y r p → IsIdle (y ++ Finished p.circuit p.place ∷ []) r
busy-ends y r p busy n k u h =
    let e : Entry = Finished p.circuit p.place in
    elim (In-snoc y e (Applied n k r u true) h) [
      | inl old ↦ elim (busy.others n k u old) [
        | inl done ↦ In-append y (e ∷ []) (Finished n k) done
        | inr same ↦ (length y, At-last y e ∙ ap (λ (x : Entry). Some x) (λ i. Finished (sym same.0 i) (sym same.1 i)))
      ]
      | inr new ↦ absurd (let is : Applied n k r u true ≡ Finished p.circuit p.place = new in cc)
    ]

pub spared-busy : (r : RecordSide) (e : Entry) → Spares r e → KeepsBusy r.number r.busy e
spared-busy r e spares = record {
  no_other = λ n k v is. (let s : Spares r (Applied n k r.number v true) = subst (λ (z : Entry). Spares r z) (sym is) spares in s.0 refl);
  not_it = λ p busy is. (let s : Spares r (Finished p.circuit p.place) = subst (λ (z : Entry). Spares r z) (sym is) spares in s busy);
}
