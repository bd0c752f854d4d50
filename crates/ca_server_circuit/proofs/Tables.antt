-- Tables of wire ids: what holds an id after each change, and that an id that may be
-- given is held by nothing.
use Rattle.std.proofs.Common.{◌≡◌, ℕ, zero, suc, ◌+◌, ◌%◌, ◌<◌, ◌≤◌, ◌⊎◌, inl, inr, Bool, true, false, cond, eqb, List, [], ◌∷◌, ◌++◌, length, Option, Some, None, refl, sym, ap, ◌∙◌, subst, arith, length-append}
use Rattle.std.specs.Prelude.{find, is_some, option_map, option_to_list, slice_set}
use Rattle.std.proofs.lemmas.Bool.{both_ways, eq-eqb, eqb-true}
use Rattle.std.proofs.lemmas.List.{get_or_past}
use Rattle.std.proofs.lemmas.Option.{get_or_from_slice_get}
use Rattle.ca_text.specs.Limits.{arena_slots}
use Rattle.ca_text.specs.Place.{At}
use Rattle.ca_text.proofs.Places.{some_is, At-append, At-last, At-one, At-or, At-set, At-set-other, At-snoc, At-within}
use Rattle.ca_arena.specs.declared.handle.Handle.{Handle}
use Rattle.ca_arena.specs.Arena.{Place, blank, place_at, value_for}
use Rattle.ca_arena.proofs.Places.{value_for-some}
use Rattle.ca_ids.specs.Table.{MayGive, Table, by_wire, held, held_from, under, with_changed, with_freed, with_held}
use Rattle.ca_ids.specs.Wire.{wire_of}
use Rattle.ca_ids.proofs.Wires.{wire_of-index}

length-more : {A : Type 0} (xs : List A) (x : A) → length (xs ++ x ∷ []) ≡ length xs + 1
length-more xs x = (let e = length-append xs (x ∷ []) in omega (arith, e))

pub handle-is : (a b : Handle) → a.index ≡ b.index → a.generation ≡ b.generation → a ≡ b
handle-is a b i g =
    ap (λ (n : ℕ). let h : Handle = record { index = n; generation = a.generation } in h) i
    ∙ ap (λ (n : ℕ). let h : Handle = record { index = b.index; generation = n } in h) g

pub none-some : {A : Type 0} (x : A) → let a : Option A = None in let b : Option A = Some x in a ≡ b → ⊥
none-some x e = cc

set-here : {A : Type 0} (xs : List A) (i : ℕ) (y : A) → i < length xs → At (slice_set xs i y) i y
set-here [] i y lt = absurd (omega (arith, lt))
set-here (z ∷ xs) zero y lt = refl
set-here (z ∷ xs) (suc i) y lt = set-here xs i y (omega (arith, lt))

set-length : {A : Type 0} (xs : List A) (i : ℕ) (y : A) → length (slice_set xs i y) ≡ length xs
set-length [] i y = refl
set-length (z ∷ xs) zero y = refl
set-length (z ∷ xs) (suc i) y = ap (λ (n : ℕ). suc n) (set-length xs i y)

pub find-at : {A : Type 0} (test : A → Bool) (xs : List A) (x : A) → find test xs ≡ Some x → (i : ℕ) × At xs i x × (test x ≡ true)
find-at test [] x is = absurd (none-some x is)
find-at {A} test (y ∷ xs) x is = go (test y) refl is (λ h. find-at test xs x h)
  where
    go : (b : Bool) → test y ≡ b → cond b (Some y) (find test xs) ≡ Some x → (find test xs ≡ Some x → (i : ℕ) × At xs i x × (test x ≡ true)) → (i : ℕ) × At (y ∷ xs) i x × (test x ≡ true)
    go true yes_it h rest = (let same : y ≡ x = some_is y x h in (0, h, ap test (sym same) ∙ yes_it))
    go false no_it h rest = (let r = rest h in (suc r.0, r.1, r.2))

pub at-find : {A : Type 0} (test : A → Bool) (xs : List A) (i : ℕ) (x : A) → At xs i x → test x ≡ true → (y : A) × (find test xs ≡ Some y)
at-find test [] i x at is = absurd cc
at-find {A} test (y ∷ xs) zero x at is = (y, ap (λ (b : Bool). cond b (Some y) (find test xs)) (ap test (some_is y x at) ∙ is))
at-find {A} test (y ∷ xs) (suc i) x at is = (let r = at-find test xs i x at is in go (test y) r.0 r.1)
  where
    go : (b : Bool) (z : A) → find test xs ≡ Some z → (w : A) × (cond b (Some y) (find test xs) ≡ Some w)
    go true z e = (y, refl)
    go false z e = (z, e)

module _ {T : Type 0} where
  -- the place of what holds the id of a handle
  abbrev pub place : Handle → T → Place T
  place h v = record { generation = h.generation; value = Some v }

  place-is : (p : Place T) (h : Handle) (v : T) → p.generation ≡ h.generation → p.value ≡ Some v → p ≡ place h v
  place-is p h v g s =
      ap (λ (n : ℕ). let q : Place T = record { generation = n; value = p.value } in q) g
      ∙ ap (λ (o : Option T). let q : Place T = record { generation = h.generation; value = o } in q) s

  place-parts : (g h : Handle) (w : T) (o : Option T) → let p : Place T = record { generation = h.generation; value = o } in place g w ≡ p → (g.generation ≡ h.generation) × (Some w ≡ o)
  place-parts g h w o e = (ap (λ (p : Place T). p.generation) e, ap (λ (p : Place T). p.value) e)

  pub under-at : (t : Table T) (h : Handle) (v : T) → under t h ≡ Some v → At t h.index (place h v)
  under-at t h v is =
      let there = value_for-some h.generation (place_at t h.index) v is in
      elim (At-or t h.index) [
        | inl old ↦
            let same : place_at t h.index ≡ old.0 = get_or_from_slice_get t h.index old.0 blank old.1 in
            let whole : old.0 ≡ place h v = sym same ∙ place-is (place_at t h.index) h v there.0 there.1 in
            subst (λ (p : Place T). At t h.index p) whole old.1
        | inr past ↦
            let same : place_at t h.index ≡ blank = get_or_past t h.index blank past in
            absurd (none-some v (ap (λ (p : Place T). p.value) (sym same) ∙ there.1))
      ]

  pub at-under : (t : Table T) (h : Handle) (v : T) → At t h.index (place h v) → under t h ≡ Some v
  at-under t h v at =
      ap (λ (p : Place T). value_for h.generation p) (get_or_from_slice_get t h.index (place h v) blank at)
      ∙ ap (λ (b : Bool). cond b (Some v) None) (eq-eqb h.generation h.generation refl)

  -- one index holds one id
  pub one-at-index : (t : Table T) (g h : Handle) (v w : T) → under t g ≡ Some v → under t h ≡ Some w → g.index ≡ h.index → g ≡ h
  one-at-index t g h v w a b same =
      let p : At t g.index (place h w) = subst (λ (i : ℕ). At t i (place h w)) (sym same) (under-at t h w b) in
      let e : place g v ≡ place h w = At-one t g.index (place g v) (place h w) (under-at t g v a) p in
      handle-is g h same (ap (λ (q : Place T). q.generation) e)

  pub one-value : (t : Table T) (h : Handle) (v w : T) → under t h ≡ Some v → under t h ≡ Some w → v ≡ w
  one-value t h v w a b = some_is v w (sym a ∙ b)

  -- ---- an id that may be given

  pub given-none : (t : Table T) (g h : Handle) (v : T) → MayGive t h → under t g ≡ Some v → g.index ≡ h.index → ⊥
  given-none t g h v may is same =
      let at : place_at t g.index ≡ place g v = get_or_from_slice_get t g.index (place g v) blank (under-at t g v is) in
      none-some v (sym may.free ∙ ap (λ (i : ℕ). (place_at t i).value) (sym same) ∙ ap (λ (p : Place T). p.value) at)

  -- two that hold one wire id are one
  pub one-by-wire : (t : Table T) (g h : Handle) (v w : T) → length t ≤ arena_slots → under t g ≡ Some v → under t h ≡ Some w → wire_of g ≡ wire_of h → g ≡ h
  one-by-wire t g h v w few a b same =
      let p : g.index < length t = At-within t g.index (place g v) (under-at t g v a) in
      let q : h.index < length t = At-within t h.index (place h w) (under-at t h w b) in
      let i : wire_of g % 65536 ≡ g.index = wire_of-index g (omega (arith, p, few)) in
      let j : wire_of h % 65536 ≡ h.index = wire_of-index h (omega (arith, q, few)) in
      one-at-index t g h v w a b (sym i ∙ ap (λ (n : ℕ). n % 65536) same ∙ j)

  -- ---- something new holds an id

  pub held-own : (t : Table T) (h : Handle) (v : T) → MayGive t h → under (with_held h v t) h ≡ Some v
  held-own t h v may = at-under (with_held h v t) h v (go (eqb h.index (length t)) refl)
    where
      go : (b : Bool) → eqb h.index (length t) ≡ b → At (cond b (t ++ place h v ∷ []) (slice_set t h.index (place h v))) h.index (place h v)
      go true is = subst (λ (i : ℕ). At (t ++ place h v ∷ []) i (place h v)) (sym (eqb-true h.index (length t) is)) (At-last t (place h v))
      go false is =
          let apart : h.index ≡ length t → ⊥ = λ e. both_ways (eqb h.index (length t)) is (eq-eqb h.index (length t) e) in
          let le : h.index ≤ length t = may.index in
          set-here t h.index (place h v) (below h.index (length t) le apart)
        where
          below : (i n : ℕ) → i ≤ n → (i ≡ n → ⊥) → i < n
          below zero zero le no_it = absurd (no_it refl)
          below zero (suc n) le no_it = omega arith
          below (suc i) zero le no_it = absurd (omega (arith, le))
          below (suc i) (suc n) le no_it = (let r : i < n = below i n (omega (arith, le)) (λ e. no_it (ap (λ (x : ℕ). suc x) e)) in omega (arith, r))

  pub held-other : (t : Table T) (g h : Handle) (v w : T) → MayGive t h → under t g ≡ Some w → under (with_held h v t) g ≡ Some w
  held-other t g h v w may is = at-under (with_held h v t) g w (go (eqb h.index (length t)))
    where
      go : (b : Bool) → At (cond b (t ++ place h v ∷ []) (slice_set t h.index (place h v))) g.index (place g w)
      go true = At-append t (place h v ∷ []) g.index (place g w) (under-at t g w is)
      go false = At-set-other t h.index g.index (place g w) (place h v) (under-at t g w is) (λ e. given-none t g h w may is e)

  pub held-back : (t : Table T) (g h : Handle) (v w : T) → under (with_held h v t) g ≡ Some w → ((g ≡ h) × (w ≡ v)) ⊎ (under t g ≡ Some w)
  held-back t g h v w is = go (eqb h.index (length t)) refl (under-at (with_held h v t) g w is)
    where
      new : g.index ≡ h.index → place g w ≡ place h v → ((g ≡ h) × (w ≡ v)) ⊎ (under t g ≡ Some w)
      new i e = (let parts = place-parts g h w (Some v) e in inl (handle-is g h i parts.0, some_is w v parts.1))

      go : (b : Bool) → eqb h.index (length t) ≡ b → At (cond b (t ++ place h v ∷ []) (slice_set t h.index (place h v))) g.index (place g w) → ((g ≡ h) × (w ≡ v)) ⊎ (under t g ≡ Some w)
      go true last at = elim (At-snoc t (place h v) g.index (place g w) at) [
        | inl old ↦ inr (at-under t g w old)
        | inr here ↦ new (here.0 ∙ sym (eqb-true h.index (length t) last)) here.1
      ]
      go false last at = elim (At-set t h.index (place h v) g.index (place g w) at) [
        | inl here ↦ new here.0 here.1
        | inr old ↦ inr (at-under t g w old.0)
      ]

  pub held-few : (t : Table T) (h : Handle) (v : T) → MayGive t h → length t ≤ arena_slots → length (with_held h v t) ≤ arena_slots
  held-few t h v may few = go (eqb h.index (length t)) refl
    where
      go : (b : Bool) → eqb h.index (length t) ≡ b → length (cond b (t ++ place h v ∷ []) (slice_set t h.index (place h v))) ≤ arena_slots
      go true is =
          let e : length (t ++ place h v ∷ []) ≡ length t + 1 = length-more t (place h v) in
          let i : h.index ≡ length t = eqb-true h.index (length t) is in
          let slot : h.index < arena_slots = may.slot in
          omega (arith, e, i, slot)
      go false is = (let e : length (slice_set t h.index (place h v)) ≡ length t = set-length t h.index (place h v) in omega (arith, e, few))

  -- ---- what holds an id is changed, or the id is free

  abbrev replaced : Handle → Option T → Table T → Table T
  replaced h o t = (let p : Place T = record { generation = h.generation; value = o } in slice_set t h.index p)

  replaced-own : (t : Table T) (h : Handle) (u v : T) → under t h ≡ Some u → under (replaced h (Some v) t) h ≡ Some v
  replaced-own t h u v is =
      at-under (replaced h (Some v) t) h v (set-here t h.index (place h v) (At-within t h.index (place h u) (under-at t h u is)))

  replaced-other : (t : Table T) (g h : Handle) (o : Option T) (u w : T) → under t h ≡ Some u → under t g ≡ Some w → (g ≡ h → ⊥) → under (replaced h o t) g ≡ Some w
  replaced-other t g h o u w there is other =
      let p : Place T = record { generation = h.generation; value = o } in
      at-under (replaced h o t) g w (At-set-other t h.index g.index (place g w) p (under-at t g w is) (λ e. other (one-at-index t g h w u is there e)))

  replaced-back : (t : Table T) (g h : Handle) (o : Option T) (u w : T) → under t h ≡ Some u → under (replaced h o t) g ≡ Some w → ((g ≡ h) × (Some w ≡ o)) ⊎ ((g ≡ h → ⊥) × (under t g ≡ Some w))
  replaced-back t g h o u w there is =
      let p : Place T = record { generation = h.generation; value = o } in
      elim (At-set t h.index p g.index (place g w) (under-at (replaced h o t) g w is)) [
        | inl here ↦ (let parts = place-parts g h w o here.1 in inl (handle-is g h here.0 parts.0, parts.1))
        | inr old ↦ inr ((λ e. old.1 (ap (λ (x : Handle). x.index) e)), at-under t g w old.0)
      ]

  pub changed-own : (f : T → T) (t : Table T) (h : Handle) (u : T) → under t h ≡ Some u → under (with_changed f h t) h ≡ Some (f u)
  changed-own f t h u is =
      ap (λ (o : Option T). under (cond (is_some o) (replaced h (option_map f o) t) t) h) is ∙ replaced-own t h u (f u) is

  pub changed-other : (f : T → T) (t : Table T) (g h : Handle) (w : T) → under t g ≡ Some w → (g ≡ h → ⊥) → under (with_changed f h t) g ≡ Some w
  changed-other f t g h w is other = go (under t h) refl
    where
      go : (o : Option T) → under t h ≡ o → under (cond (is_some o) (replaced h (option_map f o) t) t) g ≡ Some w
      go (Some u) there = replaced-other t g h (Some (f u)) u w there is other
      go None there = is

  pub changed-back : (f : T → T) (t : Table T) (g h : Handle) (w : T) → under (with_changed f h t) g ≡ Some w
      → ((g ≡ h) × ((u : T) × (under t h ≡ Some u) × (w ≡ f u))) ⊎ ((g ≡ h → ⊥) × (under t g ≡ Some w))
  changed-back f t g h w is = go (under t h) refl is
    where
      go : (o : Option T) → under t h ≡ o → under (cond (is_some o) (replaced h (option_map f o) t) t) g ≡ Some w
          → ((g ≡ h) × ((u : T) × (under t h ≡ Some u) × (w ≡ f u))) ⊎ ((g ≡ h → ⊥) × (under t g ≡ Some w))
      go (Some u) there h' = elim (replaced-back t g h (Some (f u)) u w there h') [
        | inl own ↦ inl (own.0, (u, there, some_is w (f u) own.1))
        | inr old ↦ inr old
      ]
      go None there h' = inr ((λ e. none-some w (sym there ∙ ap (λ (x : Handle). under t x) (sym e) ∙ h')), h')

  pub changed-few : (f : T → T) (t : Table T) (h : Handle) → length (with_changed f h t) ≡ length t
  changed-few f t h = go (is_some (under t h)) (option_map f (under t h))
    where
      go : (b : Bool) (o : Option T) → length (cond b (replaced h o t) t) ≡ length t
      go true o = (let p : Place T = record { generation = h.generation; value = o } in set-length t h.index p)
      go false o = refl

  pub freed-other : (t : Table T) (g h : Handle) (w : T) → under t g ≡ Some w → (g ≡ h → ⊥) → under (with_freed h t) g ≡ Some w
  freed-other t g h w is other = go (under t h) refl
    where
      go : (o : Option T) → under t h ≡ o → under (cond (is_some o) (replaced h None t) t) g ≡ Some w
      go (Some u) there = replaced-other t g h None u w there is other
      go None there = is

  pub freed-back : (t : Table T) (g h : Handle) (w : T) → under (with_freed h t) g ≡ Some w → (g ≡ h → ⊥) × (under t g ≡ Some w)
  freed-back t g h w is = go (under t h) refl is
    where
      go : (o : Option T) → under t h ≡ o → under (cond (is_some o) (replaced h None t) t) g ≡ Some w → (g ≡ h → ⊥) × (under t g ≡ Some w)
      go (Some u) there h' = elim (replaced-back t g h None u w there h') [
        | inl own ↦ absurd (none-some w (sym own.1))
        | inr old ↦ old
      ]
      go None there h' = ((λ e. none-some w (sym there ∙ ap (λ (x : Handle). under t x) (sym e) ∙ h')), h')

  pub freed-few : (t : Table T) (h : Handle) → length (with_freed h t) ≡ length t
  freed-few t h = go (is_some (under t h))
    where
      go : (b : Bool) → length (cond b (replaced h None t) t) ≡ length t
      go true = (let p : Place T = record { generation = h.generation; value = None } in set-length t h.index p)
      go false = refl

  -- ---- what has a wire id

  held-at : (n : ℕ) (t : Table T) (i : ℕ) (e : Handle × T) → At (held_from n t) i e → (j : ℕ) × (e.0.index ≡ n + j) × At t j (place e.0 e.1)
  held-at n [] i e at = absurd cc
  held-at n (p ∷ t) i e at = go p.value refl i at (λ l h. held-at (n + 1) t l e h)
    where
      later : (r : (j : ℕ) × (e.0.index ≡ (n + 1) + j) × At t j (place e.0 e.1)) → (j : ℕ) × (e.0.index ≡ n + j) × At (p ∷ t) j (place e.0 e.1)
      later r = (suc r.0, (let is : e.0.index ≡ (n + 1) + r.0 = r.1 in omega (arith, is)), r.2)

      go : (v : Option T) → p.value ≡ v → (i : ℕ) → At (option_to_list (option_map (λ (v : T). (record { index = n; generation = p.generation }, v)) v) ++ held_from (n + 1) t) i e
          → ((l : ℕ) → At (held_from (n + 1) t) l e → (j : ℕ) × (e.0.index ≡ (n + 1) + j) × At t j (place e.0 e.1)) → (j : ℕ) × (e.0.index ≡ n + j) × At (p ∷ t) j (place e.0 e.1)
      go (Some v) has zero h rest =
          let first : Handle × T = (record { index = n; generation = p.generation }, v) in
          let same : first ≡ e = some_is first e h in (
            0,
            (let i : n ≡ e.0.index = ap (λ (x : Handle × T). x.0.index) same in omega (arith, i)),
            ap (λ (q : Place T). Some q) (place-is p e.0 e.1 (ap (λ (x : Handle × T). x.0.generation) same) (has ∙ ap (λ (x : Handle × T). Some x.1) same)),
          )
      go (Some v) has (suc i) h rest = later (rest i h)
      go None has i h rest = later (rest i h)

  at-held : (n : ℕ) (t : Table T) (j : ℕ) (h : Handle) (v : T) → h.index ≡ n + j → At t j (place h v) → (i : ℕ) × At (held_from n t) i (h, v)
  at-held n [] j h v is at = absurd cc
  at-held n (p ∷ t) zero h v is at =
      let same : p ≡ place h v = some_is p (place h v) at in
      let e : (record { index = n; generation = p.generation }) ≡ h = handle-is (record { index = n; generation = p.generation }) h (omega (arith, is)) (ap (λ (q : Place T). q.generation) same) in (
        0,
        subst (λ (o : Option T). At (option_to_list (option_map (λ (v : T). (record { index = n; generation = p.generation }, v)) o) ++ held_from (n + 1) t) 0 (h, v))
            (sym (ap (λ (q : Place T). q.value) same)) (ap (λ (x : Handle). let y : Handle × T = (x, v) in Some y) e),
      )
  at-held n (p ∷ t) (suc j) h v is at =
      let r = at-held (n + 1) t j h v (omega (arith, is)) at in go p.value r.0 r.1
    where
      go : (o : Option T) (i : ℕ) → At (held_from (n + 1) t) i (h, v) → (i : ℕ) × At (option_to_list (option_map (λ (v : T). (record { index = n; generation = p.generation }, v)) o) ++ held_from (n + 1) t) i (h, v)
      go (Some u) i x = (suc i, x)
      go None i x = (i, x)

  -- what is found by a wire id holds it
  pub wire-under : (t : Table T) (id : ℕ) (e : Handle × T) → by_wire t id ≡ Some e → (under t e.0 ≡ Some e.1) × (wire_of e.0 ≡ id)
  wire-under t id e is =
      let f = find-at (λ (x : Handle × T). eqb (wire_of x.0) id) (held t) e is in
      let r = held-at 0 t f.0 e f.1 in
      let i : r.0 ≡ e.0.index = (let x : e.0.index ≡ 0 + r.0 = r.1 in omega (arith, x)) in
      (at-under t e.0 e.1 (subst (λ (n : ℕ). At t n (place e.0 e.1)) i r.2), eqb-true (wire_of e.0) id f.2)

  -- and what holds it is found
  pub under-wire : (t : Table T) (h : Handle) (v : T) → length t ≤ arena_slots → under t h ≡ Some v → by_wire t (wire_of h) ≡ Some (h, v)
  under-wire t h v few is =
      let there = at-held 0 t h.index h v (omega arith) (under-at t h v is) in
      let f = at-find (λ (x : Handle × T). eqb (wire_of x.0) (wire_of h)) (held t) there.0 (h, v) there.1 (eq-eqb (wire_of h) (wire_of h) refl) in
      let w = wire-under t (wire_of h) f.0 f.1 in
      let same : f.0.0 ≡ h = one-by-wire t f.0.0 h f.0.1 v few w.0 is w.1 in
      let value : f.0.1 ≡ v = one-value t h f.0.1 v (subst (λ (x : Handle). under t x ≡ Some f.0.1) same w.0) is in
      f.1 ∙ ap (λ (x : Handle × T). Some x) (λ i. (same i, value i))

  -- what is listed holds its id, and what holds one is listed
  pub listed-under : (t : Table T) (i : ℕ) (h : Handle) (v : T) → At (held t) i (h, v) → under t h ≡ Some v
  listed-under t i h v at =
      let r = held-at 0 t i (h, v) at in
      let j : r.0 ≡ h.index = (let x : h.index ≡ 0 + r.0 = r.1 in omega (arith, x)) in
      at-under t h v (subst (λ (n : ℕ). At t n (place h v)) j r.2)

  pub under-listed : (t : Table T) (h : Handle) (v : T) → under t h ≡ Some v → (i : ℕ) × At (held t) i (h, v)
  under-listed t h v is = at-held 0 t h.index h v (omega arith) (under-at t h v is)
