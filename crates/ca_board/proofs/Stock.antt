-- The free list: the next ticket of each cell that is not in use, each cell once.
use Rattle.std.proofs.Common.{◌≡◌, ◌≢◌, ◌⊎◌, ℕ, zero, suc, ◌+◌, ◌<◌, ◌≤◌, List, [], ◌∷◌, ◌++◌, length, map, Bool, true, false, ◌||◌, eqb, true≢false, ne_eqb, length-append, inl, inr, refl, sym, ap, ◌∙◌, subst, ⊎_elim, lt_of_not-le, arith}
use Rattle.std.specs.List.{IsDistinct, AllByRecursion, list_any}
use Rattle.std.proofs.lemmas.Map.Steps.{length-le_from_distinct_below}
use Rattle.std.proofs.lemmas.List.{length-map}
use mathlib.Core.Logic.{dite}
use mathlib.Core.Option.{some, some-ne-none, some-injective}
use native.Mathlib.Decide.{ℕ_discrete, dec_le}
use lib.ListN.{get_elem?}
use Rattle.atomic_table.proofs.Lists.{at_longer, at_last, at_snoc}
use Rattle.ca_text.specs.Limits.{board_cells}
use Rattle.ca_board.specs.declared.ticket.Ticket.{Ticket}
use Rattle.ca_board.specs.History.{ticket, Has, InUse, IsNext, IsStock, Frees}

-- x is in a list to which y was added
pub has_snoc : {A : Type 0} (xs : List A) (x y : A) → Has xs x → Has (xs ++ y ∷ []) x
has_snoc xs x y h = (h.0, at_longer xs (y ∷ []) h.0 x h.1)

pub has_last : {A : Type 0} (xs : List A) (y : A) → Has (xs ++ y ∷ []) y
has_last xs y = (length xs, at_last xs y (length xs) refl)

pub at_snoc_index : {A : Type 0} (l : List A) (a b : A) (j : ℕ) → get_elem? (l ++ a ∷ []) j ≡ some b → (get_elem? l j ≡ some b) ⊎ ((j ≡ length l) × (a ≡ b))
at_snoc_index [] a b zero e = inr (refl, some-injective a b e)
at_snoc_index [] a b (suc j) e = absurd (some-ne-none b (sym e))
at_snoc_index (x ∷ xs) a b zero e = inl e
at_snoc_index (x ∷ xs) a b (suc j) e = ⊎_elim (λ h. inl h) (λ h. inr (ap suc h.0, h.1)) (at_snoc_index xs a b j e)

-- what is at a place of a list is before its end
pub at_inside : {A : Type 0} (xs : List A) (i : ℕ) (x : A) → get_elem? xs i ≡ some x → i < length xs
at_inside [] i x e = absurd (some-ne-none x (sym e))
at_inside (y ∷ ys) zero x e = omega arith
at_inside (y ∷ ys) (suc i) x e = let l = at_inside ys i x e in omega arith

-- each place before the end has something
at_some : {A : Type 0} (xs : List A) (i : ℕ) → i < length xs → (x : A) × (get_elem? xs i ≡ some x)
at_some [] i l = absurd (omega arith)
at_some (y ∷ ys) zero l = (y, refl)
at_some (y ∷ ys) (suc i) l = at_some ys i (omega arith)

-- a ticket of another cell than the one added last was there before
other_was : (xs : List Ticket) (t u : Ticket) → t.cell ≢ u.cell → Has (xs ++ t ∷ []) u → Has xs u
other_was xs t u apart h = (h.0, ⊎_elim (λ was. was) (λ (is : t ≡ u). absurd (apart (ap (λ (x : Ticket). x.cell) is))) (at_snoc xs t u h.0 h.1))

-- the first n tickets, in order
abbrev pub AreFirst : ℕ → List Ticket → Type 0
AreFirst n free = (length free ≡ n) × ((i : ℕ) (t : Ticket) → get_elem? free i ≡ some t → t ≡ ticket i 0)

pub first_more : (n : ℕ) (free : List Ticket) → AreFirst n free → AreFirst (n + 1) (free ++ ticket n 0 ∷ [])
first_more n free f = (
  length-append free (ticket n 0 ∷ []) ∙ (let e = f.0 in omega arith),
  λ i t at. dite (ℕ_discrete i n)
      (λ e. sym (some-injective _ _ (sym (at_last free (ticket n 0) i (f.0 ∙ sym e)) ∙ at)) ∙ ap (λ x. ticket x 0) (sym e))
      (λ ne. let l = at_inside (free ++ ticket n 0 ∷ []) i t at in let long = length-append free (ticket n 0 ∷ []) in let e = f.0 in
      let x = at_some free i (omega arith) in
      f.1 i t (x.1 ∙ (sym (at_longer free (ticket n 0 ∷ []) i x.0 x.1) ∙ at))),
)

pub first_stock : (n : ℕ) (free : List Ticket) → n ≡ board_cells → AreFirst n free → IsStock [] [] free
first_stock n free is f = record {
  next = λ i t at. let l = at_inside free i t at in let e = f.0 in let same = f.1 i t at in
      subst (λ (x : Ticket). (x.cell < board_cells) × IsNext [] [] x.cell x.generation) (sym same) (omega arith, ((λ h. absurd (some-ne-none _ (sym h.1))), λ h l'. absurd (omega arith)));
  once = λ i j t u a b e. sym (ap (λ (x : Ticket). x.cell) (f.1 i t a)) ∙ (e ∙ ap (λ (x : Ticket). x.cell) (f.1 j u b));
  every = λ k l. let e = f.0 in let x = at_some free k (omega arith) in inr (0, (k, x.1 ∙ ap some (f.1 k x.0 x.1)));
}

-- the last of the list may be armed
pub last_next : (ts cs free : List Ticket) (t : Ticket) → IsStock ts cs (free ++ t ∷ []) → (t.cell < board_cells) × IsNext ts cs t.cell t.generation
last_next ts cs free t s = let h = has_last free t in s.next h.0 t h.1

-- a ticket is armed, the last of the list
pub armed_stock : (ts cs free : List Ticket) (t : Ticket) → IsStock ts cs (free ++ t ∷ []) → ¬ (Has cs t) → IsStock (ts ++ t ∷ []) cs free
armed_stock ts cs free t s new = record {
  next = λ i u at. let long = at_longer free (t ∷ []) i u at in let n = s.next i u long in let l = at_inside free i u at in (
    n.0,
    ((λ h. ⊎_elim (λ was. n.1.0 (h.0, was)) (λ (is : t ≡ u). let p = s.once i (length free) u t long (at_last free t (length free) refl) (ap (λ (x : Ticket). x.cell) (sym is)) in absurd (omega arith)) (at_snoc ts t u h.0 h.1)), n.1.1),
  );
  once = λ i j u v a b e. s.once i j u v (at_longer free (t ∷ []) i u a) (at_longer free (t ∷ []) j v b) e;
  every = λ k l. dite (ℕ_discrete t.cell k)
      (λ e. inl (subst (λ (x : ℕ). InUse (ts ++ t ∷ []) cs x) e (t.generation, has_last ts t, new)))
      (λ ne. ⊎_elim
      (λ (was : InUse ts cs k). inl (was.0, has_snoc ts (ticket k was.0) t was.1, was.2))
      (λ (has : (g : ℕ) × Has (free ++ t ∷ []) (ticket k g)). inr (has.0, other_was free t (ticket k has.0) ne has.1))
      (s.every k l));
}

-- a cell is freed, and its next ticket is added
pub freed_stock : (ts cs free : List Ticket) (k g : ℕ) → IsStock ts cs free → k < board_cells → Frees ts cs k g → IsStock ts (cs ++ ticket k g ∷ []) (free ++ ticket k (g + 1) ∷ [])
freed_stock ts cs free k g s inside f = let t₀ : Ticket = ticket k g in let t₁ : Ticket = ticket k (g + 1) in
    let apart : (u : Ticket) → Has free u → u.cell ≢ k = λ u has e. let n = (s.next has.0 u has.1).1 in
    dite (dec_le u.generation g)
    (λ le. n.0 (subst (λ (x : ℕ). Has ts (ticket x u.generation)) (sym e) (f.0 u.generation le)))
    (λ more. f.1 (subst (λ (x : ℕ). Has cs (ticket x g)) e (n.1 g (lt_of_not-le more)))) in record {
      next = λ i u at. ⊎_elim
          (λ was. let n = s.next i u was in (n.0, (n.1.0, λ h l. has_snoc cs (ticket u.cell h) t₀ (n.1.1 h l))))
          (λ (is : t₁ ≡ u). subst (λ (x : Ticket). (x.cell < board_cells) × IsNext ts (cs ++ t₀ ∷ []) x.cell x.generation) is (inside, f.2))
          (at_snoc free t₁ u i at);
      once = λ i j u v a b e. ⊎_elim
          (λ was. ⊎_elim (λ was'. s.once i j u v was was' e) (λ (q : (j ≡ length free) × (t₁ ≡ v)). absurd (apart u (i, was) (e ∙ sym (ap (λ (x : Ticket). x.cell) q.1)))) (at_snoc_index free t₁ v j b))
          (λ (q : (i ≡ length free) × (t₁ ≡ u)). ⊎_elim (λ was'. absurd (apart v (j, was') (sym e ∙ sym (ap (λ (x : Ticket). x.cell) q.1)))) (λ (q' : (j ≡ length free) × (t₁ ≡ v)). q.0 ∙ sym q'.0) (at_snoc_index free t₁ v j b))
          (at_snoc_index free t₁ u i a);
      every = λ j l. dite (ℕ_discrete k j)
          (λ e. inr (subst (λ (x : ℕ). (h : ℕ) × Has (free ++ t₁ ∷ []) (ticket x h)) e (g + 1, has_last free t₁)))
          (λ ne. ⊎_elim
          (λ (was : InUse ts cs j). inl (was.0, was.1, λ h. was.2 (other_was cs t₀ (ticket j was.0) ne h)))
          (λ (has : (h : ℕ) × Has free (ticket j h)). inr (has.0, has_snoc free (ticket j has.0) t₁ has.1))
          (s.every j l));
    }

-- with no free cell each is in use
pub none_free : (ts cs : List Ticket) → IsStock ts cs [] → (k : ℕ) → k < board_cells → InUse ts cs k
none_free ts cs s k l = ⊎_elim (λ (was : InUse ts cs k). was) (λ (has : (g : ℕ) × Has [] (ticket k g)). absurd (some-ne-none _ (sym has.1.1))) (s.every k l)

-- no more cells are free than there are
abbrev cells_of : List Ticket → List ℕ
cells_of free = map (λ (t : Ticket). t.cell) free

abbrev Once : List Ticket → Type 0
Once free = (i j : ℕ) (t u : Ticket) → get_elem? free i ≡ some t → get_elem? free j ≡ some u → t.cell ≡ u.cell → i ≡ j

apart_from : (t : Ticket) (free : List Ticket) → ((j : ℕ) (u : Ticket) → get_elem? free j ≡ some u → t.cell ≢ u.cell) → AllByRecursion (λ y. eqb t.cell y ≡ false) (cells_of free)
apart_from t [] h = tt
apart_from t (x ∷ xs) h = (ne_eqb t.cell x.cell (h 0 x refl), apart_from t xs (λ j u at. h (suc j) u at))

distinct_cells : (free : List Ticket) → Once free → IsDistinct eqb (cells_of free)
unfolding IsDistinct
distinct_cells [] once = tt
distinct_cells (x ∷ xs) once = (
  apart_from x xs (λ j u at e. let z : 0 ≡ suc j = once 0 (suc j) x u refl at e in absurd (omega arith)),
  distinct_cells xs (λ i j t u a b e. let z : suc i ≡ suc j = once (suc i) (suc j) t u a b e in omega arith),
)

below_cells : (n : ℕ) (free : List Ticket) → ((i : ℕ) (t : Ticket) → get_elem? free i ≡ some t → t.cell < n) → (q : ℕ) → list_any (eqb q) (cells_of free) ≡ true → q < n
below_cells n [] all q e = absurd (true≢false (sym e))
below_cells n (x ∷ xs) all q e = dite (ℕ_discrete q x.cell)
    (λ same. let l = all 0 x refl in omega arith)
    (λ ne. below_cells n xs (λ i t at. all (suc i) t at) q (subst (λ (b : Bool). (b || list_any (eqb q) (cells_of xs)) ≡ true) (ne_eqb q x.cell ne) e))

pub stock_fits : (ts cs free : List Ticket) → IsStock ts cs free → length free ≤ board_cells
stock_fits ts cs free s = let l = length-le_from_distinct_below (cells_of free) board_cells (distinct_cells free s.once) (below_cells board_cells free (λ i t at. (s.next i t at).0)) in
    let same : length (cells_of free) ≡ length free = length-map free (λ (t : Ticket). t.cell) in omega arith

pub nothing_left : {A : Type 0} (xs : List A) → length xs ≡ 0 → xs ≡ []
nothing_left [] e = refl
nothing_left (x ∷ xs) e = absurd (omega arith)
