-- Tables in which nothing new holds an id, and no generation goes back: what names
-- a table gave stay so.
use Rattle.std.proofs.Common.{◌≡◌, ℕ, ◌+◌, ◌<◌, ◌≤◌, ◌⊎◌, zero, suc, inl, inr, Bool, List, true, false, cond, eqb, [], ◌∷◌, ◌++◌, length, Option, Some, None, refl, sym, ap, ◌∙◌, subst, arith}
use Rattle.std.specs.Prelude.{is_some, option_map, slice_set}
use Rattle.std.proofs.lemmas.List.{get_or_past, length-map}
use Rattle.std.proofs.lemmas.Option.{get_or_from_slice_get}
use Rattle.ca_text.specs.Place.{At}
use Rattle.ca_text.proofs.Places.{At-append, At-map, At-one, At-or, At-set-other, At-within}
use Rattle.ca_model.specs.Client.{Client}
use Rattle.ca_arena.specs.declared.handle.Handle.{Handle}
use Rattle.ca_arena.specs.Arena.{Place, blank, place_at}
use Rattle.ca_arena.proofs.Places.{value_for-some}
use Rattle.ca_ids.specs.Table.{MayGive, Table, kept_of, under, with_all, with_all_freed, with_changed, with_freed, with_held}
use Rattle.ca_model.proofs.Tables.{all-back, all-freed-back, changed-back, changed-few, freed-back, freed-few, held-own, place, under-at}
use Rattle.ca_model.specs.Placed.{WasGiven}

-- below, the same, or above
pub three-ways : (k l : ℕ) → (k < l) ⊎ ((k ≡ l) ⊎ (l < k))
three-ways zero zero = inr (inl refl)
three-ways zero (suc l) = inl (omega arith)
three-ways (suc k) zero = inr (inr (omega arith))
three-ways (suc k) (suc l) = elim (three-ways k l) [
  | inl a ↦ inl (omega (arith, a))
  | inr (inl a) ↦ inr (inl (ap (λ (n : ℕ). suc n) a))
  | inr (inr a) ↦ inr (inr (omega (arith, a)))
]

pub number-or : (a b : ℕ) → (a ≡ b) ⊎ (a ≡ b → ⊥)
number-or a b = elim (three-ways a b) [
  | inl lt ↦ inr (λ e. omega (arith, lt, e))
  | inr (inl is) ↦ inl is
  | inr (inr lt) ↦ inr (λ e. omega (arith, lt, e))
]

pub set-there : {A : Type 0} (xs : List A) (i : ℕ) (y : A) → i < length xs → At (slice_set xs i y) i y
set-there [] i y lt = absurd (omega (arith, lt))
set-there (z ∷ xs) zero y lt = refl
set-there (z ∷ xs) (suc i) y lt = set-there xs i y (omega (arith, lt))

-- What holds an id in u held it in t, and no generation goes back.
pub record IsThinner {T : Type 0} (t u : Table T) : Type 0 where
  pub few : length u ≡ length t
  pub later : (i : ℕ) (p : Place T) → At t i p → (q : Place T) × At u i q × (p.generation ≤ q.generation)
  pub back : (h : Handle) (w : T) → under u h ≡ Some w → (v : T) × (under t h ≡ Some v)

module _ {T : Type 0} where
  pub thin-itself : (t : Table T) → IsThinner t t
  thin-itself t = record { few = refl; later = λ i p at. (p, at, omega arith); back = λ h w is. (w, is) }

  pub thin-then : (t u w : Table T) → IsThinner t u → IsThinner u w → IsThinner t w
  thin-then t u w a b = record {
    few = b.few ∙ a.few;
    later = λ i p at.
        let q = a.later i p at in
        let r = b.later i q.0 q.1 in
        let f : p.generation ≤ q.0.generation = q.2 in
        let g : q.0.generation ≤ r.0.generation = r.2 in
        (r.0, r.1, omega (arith, f, g));
    back = λ h v is. (let m = b.back h v is in a.back h m.0 m.1);
  }

  -- a place is written, at the generation that it has
  written-later : (t : Table T) (h : Handle) (o : Option T) (u : T) → under t h ≡ Some u → (i : ℕ) (p : Place T) → At t i p
      → (let new : Place T = record { generation = h.generation; value = o } in (q : Place T) × At (slice_set t h.index new) i q × (p.generation ≤ q.generation))
  written-later t h o u is i p at =
      let new : Place T = record { generation = h.generation; value = o } in
      let there : At t h.index (place h u) = under-at t h u is in
      elim (number-or i h.index) [
        | inl here ↦
            let one : p ≡ place h u = At-one t h.index p (place h u) (subst (λ (k : ℕ). At t k p) here at) there in
            let same : p.generation ≡ h.generation = ap (λ (z : Place T). z.generation) one in
            (new, subst (λ (k : ℕ). At (slice_set t h.index new) k new) (sym here) (set-there t h.index new (At-within t h.index (place h u) there)), omega (arith, same))
        | inr other ↦ (p, At-set-other t h.index i p new at other, omega arith)
      ]

  pub thin-changed : (f : T → T) (h : Handle) (t : Table T) → IsThinner t (with_changed f h t)
  thin-changed f h t = record {
    few = changed-few f t h;
    later = λ i p at. go i p at (under t h) refl;
    back = λ g w is. elim (changed-back f t g h w is) [
      | inl own ↦ (own.1.0, subst (λ (k : Handle). under t k ≡ Some own.1.0) (sym own.0) own.1.1)
      | inr old ↦ (w, old.1)
    ];
  }
    where
      go : (i : ℕ) (p : Place T) → At t i p → (o : Option T) → under t h ≡ o
          → (let new : Place T = record { generation = h.generation; value = option_map f o } in (q : Place T) × At (cond (is_some o) (slice_set t h.index new) t) i q × (p.generation ≤ q.generation))
      go i p at (Some u) there = written-later t h (Some (f u)) u there i p at
      go i p at None there = (p, at, omega arith)

  pub thin-freed : (h : Handle) (t : Table T) → IsThinner t (with_freed h t)
  thin-freed h t = record {
    few = freed-few t h;
    later = λ i p at. go i p at (under t h) refl;
    back = λ g w is. (w, (freed-back t g h w is).1);
  }
    where
      go : (i : ℕ) (p : Place T) → At t i p → (o : Option T) → under t h ≡ o
          → (let new : Place T = record { generation = h.generation; value = None } in (q : Place T) × At (cond (is_some o) (slice_set t h.index new) t) i q × (p.generation ≤ q.generation))
      go i p at (Some u) there = written-later t h None u there i p at
      go i p at None there = (p, at, omega arith)

  pub thin-all : (f : T → T) (t : Table T) → IsThinner t (with_all f t)
  thin-all f t =
      let g : Place T → Place T = λ (p : Place T). record p { value = option_map f p.value } in
      record {
        few = length-map t g;
        later = λ i p at. (g p, At-map g t i p at, omega arith);
        back = λ h w is. (let r = all-back f t h w is in (r.0, r.1));
      }

  pub thin-all-freed : (frees : T → Bool) (t : Table T) → IsThinner t (with_all_freed frees t)
  thin-all-freed frees t =
      let g : Place T → Place T = λ (p : Place T). record p { value = kept_of frees p.value } in
      record {
        few = length-map t g;
        later = λ i p at. (g p, At-map g t i p at, omega arith);
        back = λ h w is. (w, (all-freed-back frees t h w is).0);
      }

  -- ---- what was given stays given

  given-later : (t u : Table T) (h : Handle) → ((i : ℕ) (p : Place T) → At t i p → (q : Place T) × At u i q × (p.generation ≤ q.generation)) → WasGiven t h → WasGiven u h
  given-later t u h later given = elim (At-or t h.index) [
    | inl old ↦
        let q = later h.index old.0 old.1 in
        let a : place_at t h.index ≡ old.0 = get_or_from_slice_get t h.index old.0 blank old.1 in
        let b : place_at u h.index ≡ q.0 = get_or_from_slice_get u h.index q.0 blank q.1 in
        let f : (place_at t h.index).generation ≡ old.0.generation = ap (λ (p : Place T). p.generation) a in
        let g : (place_at u h.index).generation ≡ q.0.generation = ap (λ (p : Place T). p.generation) b in
        let le : old.0.generation ≤ q.0.generation = q.2 in
        let was : h.generation ≤ (place_at t h.index).generation = given in
        omega (arith, f, g, le, was)
    | inr past ↦
        let a : place_at t h.index ≡ blank = get_or_past t h.index blank past in
        let f : (place_at t h.index).generation ≡ 0 = ap (λ (p : Place T). p.generation) a in
        let was : h.generation ≤ (place_at t h.index).generation = given in
        omega (arith, f, was)
  ]

  pub given-thin : (t u : Table T) (h : Handle) → IsThinner t u → WasGiven t h → WasGiven u h
  given-thin t u h thin given = given-later t u h thin.later given

  -- what holds an id was given it
  pub given-under : (t : Table T) (h : Handle) (v : T) → under t h ≡ Some v → WasGiven t h
  given-under t h v is =
      let e : (place_at t h.index).generation ≡ h.generation = (value_for-some h.generation (place_at t h.index) v is).0 in omega (arith, e)

  pub given-held : (t : Table T) (g h : Handle) (v : T) → MayGive t h → WasGiven t g → WasGiven (with_held h v t) g
  given-held t g h v may given = given-later t (with_held h v t) g later given
    where
      later : (i : ℕ) (p : Place T) → At t i p → (q : Place T) × At (with_held h v t) i q × (p.generation ≤ q.generation)
      later i p at = go (eqb h.index (length t))
        where
          go : (b : Bool) → (q : Place T) × At (cond b (t ++ place h v ∷ []) (slice_set t h.index (place h v))) i q × (p.generation ≤ q.generation)
          go true = (p, At-append t (place h v ∷ []) i p at, omega arith)
          go false = elim (number-or i h.index) [
            | inl here ↦
                let a : At t h.index p = subst (λ (k : ℕ). At t k p) here at in
                let same : place_at t h.index ≡ p = get_or_from_slice_get t h.index p blank a in
                let g : (place_at t h.index).generation ≡ p.generation = ap (λ (z : Place T). z.generation) same in
                let next : h.generation ≡ (place_at t h.index).generation + 1 = may.next in (
                  place h v,
                  subst (λ (k : ℕ). At (slice_set t h.index (place h v)) k (place h v)) (sym here) (set-there t h.index (place h v) (At-within t h.index p a)),
                  omega (arith, g, next),
                )
            | inr other ↦ (p, At-set-other t h.index i p (place h v) at other, omega arith)
          ]

  pub given-own : (t : Table T) (h : Handle) (v : T) → MayGive t h → WasGiven (with_held h v t) h
  given-own t h v may = given-under (with_held h v t) h v (held-own t h v may)

-- ---- all three tables of a client

pub record Thins (x y : Client) : Type 0 where
  pub channels : IsThinner x.channels y.channels
  pub requests : IsThinner x.requests y.requests
  pub subscriptions : IsThinner x.subscriptions y.subscriptions

pub thins-itself : (x : Client) → Thins x x
thins-itself x = record { channels = thin-itself x.channels; requests = thin-itself x.requests; subscriptions = thin-itself x.subscriptions }

pub thins-then : (x y z : Client) → Thins x y → Thins y z → Thins x z
thins-then x y z a b = record {
  channels = thin-then x.channels y.channels z.channels a.channels b.channels;
  requests = thin-then x.requests y.requests z.requests a.requests b.requests;
  subscriptions = thin-then x.subscriptions y.subscriptions z.subscriptions a.subscriptions b.subscriptions;
}
