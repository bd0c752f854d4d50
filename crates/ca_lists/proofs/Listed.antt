-- What is listed of a table, as it and the lists change.
use Rattle.std.proofs.Common.{◌≡◌, ◌≢◌, ◌⊎◌, ◌<◌, ◌≤◌, ◌+◌, ◌++◌, ◌==◌, if◌then◌else◌, ℕ, zero, suc, inl, inr, Bool, true, false, List, [], ◌∷◌, Option, Some, None, Result, Ok, Err, is_some, length, map, option_map, option_to_list, refl, sym, ap, ◌∙◌, subst, arith, slice_set, length-append}
use Rattle.std.proofs.lemmas.Bool.{cases_Bool, cases_eq, cases_lt, eq-eqb, ne_eqb}
use Rattle.std.proofs.lemmas.List.{get_or-set_other, get_or-set_same, get_or_append_left, get_or_past, get_or_push}
use Rattle.ca_text.proofs.Places.{some_is}
use Rattle.ca_arena.specs.declared.handle.Handle.{Handle}
use Rattle.ca_arena.specs.Arena.{Place, blank, place_at, value_for}
use Rattle.ca_ids.specs.Table.{MayGive, Table, held_at, under, with_changed, with_freed, with_held}
use Rattle.ca_ids.specs.Holding.{Fills, Gives}
use Rattle.ca_text.specs.declared.refusal.Refusal.{Refusal}
use Rattle.ca_text.specs.declared.refusal.Refusal.TheVariants as refusal
use Rattle.ca_lists.specs.Lists.{Has, added, list_of, without}
use Rattle.ca_lists.specs.Walks.{AreAllIn, AreListed, Covers, IsInOrder, Tells, by_value, one_at}
use Rattle.ca_lists.proofs.Members.{has-added, has-own, has-without}

module _ {T : Type 0} where
  -- ---- places

  pub value-map : (g : Option T → Option T) (t : Table T) (i : ℕ) → g None ≡ None → (place_at (map (by_value g) t) i).value ≡ g (place_at t i).value
  value-map g [] i none = sym none
  value-map g (p ∷ t) zero none = refl
  value-map g (p ∷ t) (suc i) none = value-map g t i none

  place-held : (t : Table T) (h : Handle) (v : T) → MayGive t h → place_at (with_held h v t) h.index ≡ record { generation = h.generation; value = Some v }
  place-held t h v may =
      let place : Place T = record { generation = h.generation; value = Some v } in
      elim (cases_eq h.index (length t)) [
        | inl last ↦ rw (eq-eqb h.index (length t) last) (get_or_push t place blank h.index (sym last))
        | inr other ↦ rw (ne_eqb h.index (length t) other) (get_or-set_same t h.index place blank (omega (arith, may.index)))
      ]

  place-beside : (t : Table T) (h : Handle) (v : T) (i : ℕ) → MayGive t h → i ≢ h.index → place_at (with_held h v t) i ≡ place_at t i
  place-beside t h v i may other =
      let place : Place T = record { generation = h.generation; value = Some v } in
      elim (cases_eq h.index (length t)) [
        | inl last ↦
            rw (eq-eqb h.index (length t) last)
            (elim (cases_lt i (length t)) [
              | inl within ↦ get_or_append_left t (place ∷ []) blank i within
              | inr past ↦
                  get_or_past (t ++ place ∷ []) i blank (omega (arith, length-append t (place ∷ []))) ∙ sym (get_or_past t i blank past)
            ])
        | inr no_last ↦ rw (ne_eqb h.index (length t) no_last) (get_or-set_other t h.index i place blank other)
      ]

  -- one place of a table is another
  set-place : (t : Table T) (k i : ℕ) (p : Place T) → (place_at (slice_set t k p) i ≡ place_at t i) ⊎ ((i ≡ k) × (place_at (slice_set t k p) i ≡ p))
  set-place [] k i p = inl refl
  set-place (q ∷ t) zero zero p = inr (refl, refl)
  set-place (q ∷ t) zero (suc i) p = inl refl
  set-place (q ∷ t) (suc k) zero p = inl refl
  set-place (q ∷ t) (suc k) (suc i) p = elim (set-place t k i p) [ inl same ↦ inl same | inr here ↦ inr (ap suc here.0, here.1) ]

  -- what is at a place once an id is free was there
  pub value-freed : (t : Table T) (h : Handle) (i : ℕ) (v : T) → (place_at (with_freed h t) i).value ≡ Some v → (place_at t i).value ≡ Some v
  value-freed t h i v there = elim (cases_Bool (is_some (under t h))) [
    | inl live ↦
        let place : Place T = record { generation = h.generation; value = None } in
        let after : (place_at (slice_set t h.index place) i).value ≡ Some v = rw live at there in
        elim (set-place t h.index i place) [
          | inl same ↦ sym (ap (λ (p : Place T). p.value) same) ∙ after
          | inr here ↦
              let none : None ≡ Some v = sym (ap (λ (p : Place T). p.value) here.1) ∙ after in
              absurd cc
        ]
    | inr stale ↦ rw stale at there
  ]

  -- nothing is at the place whose id is free
  pub none-freed : (t : Table T) (h : Handle) (w : T) → under t h ≡ Some w → (v : T) → (place_at (with_freed h t) h.index).value ≡ Some v → ⊥
  none-freed t h w live v there =
      let is : is_some (under t h) ≡ true = ap is_some live in
      let place : Place T = record { generation = h.generation; value = None } in
      let after : (place_at (slice_set t h.index place) h.index).value ≡ Some v = rw is at there in
      elim (cases_lt h.index (length t)) [
        | inl within ↦
            let none : None ≡ Some v = sym (ap (λ (p : Place T). p.value) (get_or-set_same t h.index place blank within)) ∙ after in
            absurd cc
        | inr past ↦
            let none : under t h ≡ None = ap (value_for h.generation) (get_or_past t h.index blank past) ∙ blank-for h.generation in
            let bad : None ≡ Some w = sym none ∙ live in
            absurd cc
      ]
    where
      blank-for : (n : ℕ) → value_for {T = T} n blank ≡ None
      blank-for n = by_test (0 == n)
        where
          by_test : (b : Bool) → (let o : Option T = if b then None else None in o) ≡ None
          by_test true = refl
          by_test false = refl

  -- what is at a place once a value changed was there, or is the value changed
  pub value-changed : (f : T → T) (t : Table T) (h : Handle) (i : ℕ) (v : T) → (place_at (with_changed f h t) i).value ≡ Some v → ((place_at t i).value ≡ Some v) ⊎ ((w : T) × ((place_at t i).value ≡ Some w) × (v ≡ f w) × (under t h ≡ Some w) × (i ≡ h.index))
  value-changed f t h i v there = by_live (under t h) refl
    where
      by_live : (o : Option T) → under t h ≡ o → ((place_at t i).value ≡ Some v) ⊎ ((w : T) × ((place_at t i).value ≡ Some w) × (v ≡ f w) × (under t h ≡ Some w) × (i ≡ h.index))
      by_live None stale = inl (rw stale at there)
      by_live (Some w) live =
          let place : Place T = record { generation = h.generation; value = Some (f w) } in
          let after : (place_at (slice_set t h.index place) i).value ≡ Some v = rw live at there in
          elim (set-place t h.index i place) [
            | inl same ↦ inl (sym (ap (λ (p : Place T). p.value) same) ∙ after)
            | inr here ↦
                let now : Some (f w) ≡ Some v = sym (ap (λ (p : Place T). p.value) here.1) ∙ after in
                let was : (place_at t h.index).value ≡ Some w = held-value (place_at t h.index) h.generation w live in
                inr (w, ap (λ (n : ℕ). (place_at t n).value) here.0 ∙ was, sym (some_is (f w) v now), live, here.0)
          ]
        where
          held-value : (p : Place T) (n : ℕ) (w : T) → value_for n p ≡ Some w → p.value ≡ Some w
          held-value p n w live = by_test (p.generation == n) live
            where
              by_test : (b : Bool) → (if b then p.value else None) ≡ Some w → p.value ≡ Some w
              by_test true is = is
              by_test false is = absurd cc

  module _ (owner : T → Option ℕ) where
    -- ---- walks over the list of an owner

    pub listed-covers : (g : Option T → Option T) (t : Table T) (lists : List (List ℕ)) (o : ℕ) → g None ≡ None → ((v : T) → (g (Some v) ≡ Some v) ⊎ (owner v ≡ Some o)) → AreListed owner t lists → Covers g t (list_of lists o)
    listed-covers g t lists o none only listed i = by_value_at (place_at t i).value refl
      where
        by_value_at : (x : Option T) → (place_at t i).value ≡ x → Has (list_of lists o) i ⊎ (g (place_at t i).value ≡ (place_at t i).value)
        by_value_at None is = inr (ap g is ∙ none ∙ sym is)
        by_value_at (Some v) is = elim (only v) [
          | inl same ↦ inr (ap g is ∙ same ∙ sym is)
          | inr owned ↦ inl (listed i v o is owned)
        ]

    pub listed-tells : {X : Type 0} (f : List (Handle × T) → List X) (t : Table T) (lists : List (List ℕ)) (o : ℕ) → IsInOrder f → ((h : Handle) (v : T) → (f ((h, v) ∷ []) ≡ []) ⊎ (owner v ≡ Some o)) → AreListed owner t lists → Tells f t (list_of lists o)
    listed-tells {X} f t lists o in_order only listed i = by_value_at (place_at t i).value refl
      where
        by_value_at : (x : Option T) → (place_at t i).value ≡ x → Has (list_of lists o) i ⊎ (f (one_at t i) ≡ [])
        by_value_at None is =
            inr (ap (λ (y : Option T). f (option_to_list (held_at i (let p : Place T = record { generation = (place_at t i).generation; value = y } in p)))) is ∙ in_order.none)
        by_value_at (Some v) is =
            let h : Handle = record { index = i; generation = (place_at t i).generation } in
            elim (only h v) [
              | inl nothing ↦
                  inr (ap (λ (y : Option T). f (option_to_list (held_at i (let p : Place T = record { generation = (place_at t i).generation; value = y } in p)))) is ∙ nothing)
              | inr owned ↦ inl (listed i v o is owned)
            ]

    -- ---- the table changes

    -- what has an owner had it before
    abbrev pub Thins : Table T → Table T → Type 0
    Thins t u = (i : ℕ) (v : T) (o : ℕ) → (place_at u i).value ≡ Some v → owner v ≡ Some o → (w : T) × ((place_at t i).value ≡ Some w) × (owner w ≡ Some o)

    pub listed-thin : (t u : Table T) (lists : List (List ℕ)) → Thins t u → AreListed owner t lists → AreListed owner u lists
    listed-thin t u lists thins listed i v o there owned =
        let was = thins i v o there owned in
        listed i was.0 o was.1 was.2

    pub thins-freed : (t : Table T) (h : Handle) → Thins t (with_freed h t)
    thins-freed t h i v o there owned = (v, value-freed t h i v there, owned)

    pub thins-changed : (f : T → T) (t : Table T) (h : Handle) → ((w : T) (o : ℕ) → owner (f w) ≡ Some o → owner w ≡ Some o) → Thins t (with_changed f h t)
    thins-changed f t h keeps i v o there owned = elim (value-changed f t h i v there) [
      | inl same ↦ (v, same, owned)
      | inr was ↦ (was.0, was.1, keeps was.0 o (ap owner (sym was.2) ∙ owned))
    ]

    pub thins-map : (g : Option T → Option T) (t : Table T) → g None ≡ None → ((w v : T) (o : ℕ) → g (Some w) ≡ Some v → owner v ≡ Some o → owner w ≡ Some o) → Thins t (map (by_value g) t)
    thins-map g t none keeps i v o there owned = by_value_at (place_at t i).value refl
      where
        by_value_at : (x : Option T) → (place_at t i).value ≡ x → (w : T) × ((place_at t i).value ≡ Some w) × (owner w ≡ Some o)
        by_value_at None is =
            let bad : None ≡ Some v = sym none ∙ ap g (sym is) ∙ sym (value-map g t i none) ∙ there in
            absurd cc
        by_value_at (Some w) is =
            let now : g (Some w) ≡ Some v = ap g (sym is) ∙ sym (value-map g t i none) ∙ there in
            (w, is, keeps w v o now owned)

    -- ---- the lists change

    pub listed-same : (t : Table T) (old new : List (List ℕ)) → ((k : ℕ) → list_of new k ≡ list_of old k) → AreListed owner t old → AreListed owner t new
    listed-same t old new same listed i v o there owned = subst (λ (xs : List ℕ). Has xs i) (sym (same o)) (listed i v o there owned)

    pub listed-more : (t : Table T) (old new : List (List ℕ)) (o n : ℕ) → list_of new o ≡ added n (list_of old o) → ((k : ℕ) → k ≢ o → list_of new k ≡ list_of old k) → AreListed owner t old → AreListed owner t new
    listed-more t old new o n own others listed i v k there owned = elim (cases_eq k o) [
      | inl here ↦
          subst (λ (m : ℕ). Has (list_of new m) i) (sym here)
          (subst (λ (xs : List ℕ). Has xs i) (sym own)
          (has-added n i (list_of old o) (listed i v o there (owned ∙ ap (λ (m : ℕ). Some m) here))))
      | inr other ↦ subst (λ (xs : List ℕ). Has xs i) (sym (others k other)) (listed i v k there owned)
    ]

    -- a value that is given an id is listed
    pub listed-held : (t u : Table T) (h : Handle) (v : T) (old new : List (List ℕ)) (o : ℕ) → MayGive t h → u ≡ with_held h v t → owner v ≡ Some o → list_of new o ≡ added h.index (list_of old o) → ((k : ℕ) → k ≢ o → list_of new k ≡ list_of old k) → AreListed owner t old → AreListed owner u new
    listed-held t u h v old new o may is owned own others listed = subst (λ (z : Table T). AreListed owner z new) (sym is) given
      where
        more : AreListed owner t new
        more = listed-more t old new o h.index own others listed

        given : AreListed owner (with_held h v t) new
        given i w k there owns = elim (cases_eq i h.index) [
          | inl here ↦
              let at : (place_at (with_held h v t) i).value ≡ Some v = ap (λ (n : ℕ). (place_at (with_held h v t) n).value) here ∙ ap (λ (p : Place T). p.value) (place-held t h v may) in
              let same : v ≡ w = some_is v w (sym at ∙ there) in
              let whose : o ≡ k = some_is o k (sym owned ∙ ap owner same ∙ owns) in
              subst (λ (m : ℕ). Has (list_of new m) i) whose
              (subst (λ (m : ℕ). Has (list_of new o) m) (sym here)
              (subst (λ (xs : List ℕ). Has xs h.index) (sym own) (has-own h.index (list_of old o))))
          | inr other ↦
              let before : (place_at t i).value ≡ Some w = sym (ap (λ (p : Place T). p.value) (place-beside t h v i may other)) ∙ there in
              more i w k before owns
        ]

    -- an index at which there is nothing of an owner is taken out of its list
    pub listed-without : (t : Table T) (old new : List (List ℕ)) (o n : ℕ) → list_of new o ≡ without n (list_of old o) → ((k : ℕ) → k ≢ o → list_of new k ≡ list_of old k) → ((v : T) → (place_at t n).value ≡ Some v → owner v ≡ Some o → ⊥) → AreListed owner t old → AreListed owner t new
    listed-without t old new o n own others nothing listed i v k there owned = elim (cases_eq k o) [
      | inl here ↦
          let mine : owner v ≡ Some o = owned ∙ ap (λ (m : ℕ). Some m) here in
          let apart : i ≢ n = λ same. nothing v (ap (λ (m : ℕ). (place_at t m).value) (sym same) ∙ there) mine in
          subst (λ (m : ℕ). Has (list_of new m) i) (sym here)
          (subst (λ (xs : List ℕ). Has xs i) (sym own) (has-without n i (list_of old o) apart (listed i v o there mine)))
      | inr other ↦ subst (λ (xs : List ℕ). Has xs i) (sym (others k other)) (listed i v k there owned)
    ]

    -- a value is put in place of another of the same owner
    pub listed-put : (t : Table T) (h : Handle) (v w : T) (lists : List (List ℕ)) → under t h ≡ Some v → owner w ≡ owner v → AreListed owner t lists → AreListed owner (with_changed (λ (e : T). w) h t) lists
    listed-put t h v w lists live same listed i z o there owned = elim (value-changed (λ (e : T). w) t h i z there) [
      | inl was ↦ listed i z o was owned
      | inr was ↦
          let it : was.0 ≡ v = some_is was.0 v (sym was.3 ∙ live) in
          listed i was.0 o was.1 (ap owner it ∙ sym same ∙ ap owner (sym was.2) ∙ owned)
    ]

    -- a value is gone, and its index is taken out
    pub listed-gone : (t u : Table T) (h : Handle) (w : T) (o : ℕ) (old new : List (List ℕ)) → u ≡ with_freed h t → under t h ≡ Some w → list_of new o ≡ without h.index (list_of old o) → ((k : ℕ) → k ≢ o → list_of new k ≡ list_of old k) → AreListed owner t old → AreListed owner u new
    listed-gone t u h w o old new is live own others listed =
        subst (λ (z : Table T). AreListed owner z new) (sym is)
        (listed-without (with_freed h t) old new o h.index own others (λ v there mine. none-freed t h w live v there) (listed-thin t (with_freed h t) old (thins-freed t h) listed))

    -- a value was to be given an id, and its index is listed
    pub listed-filled : (t u : Table T) (h : Handle) (v : T) (r : Result (Unit {0}) T) (o : ℕ) (old new : List (List ℕ)) → Fills t h v r u → owner v ≡ Some o → list_of new o ≡ added h.index (list_of old o) → ((k : ℕ) → k ≢ o → list_of new k ≡ list_of old k) → AreListed owner t old → AreListed owner u new
    listed-filled t u h v (Ok r) o old new fills owned own others listed = listed-held t u h v old new o fills.0 fills.1 owned own others listed
    listed-filled t u h v (Err e) o old new fills owned own others listed =
        subst (λ (z : Table T). AreListed owner z new) (sym fills.1) (listed-more t old new o h.index own others listed)

    -- a value changed, and its index is listed for whoever owns it then
    pub listed-stood : (f : T → T) (t u : Table T) (h : Handle) (lists : List (List ℕ)) → u ≡ with_changed f h t → ((w : T) (o : ℕ) → owner (f w) ≡ Some o → Has (list_of lists o) h.index) → AreListed owner t lists → AreListed owner u lists
    listed-stood f t u h lists is own listed = subst (λ (z : Table T). AreListed owner z lists) (sym is) stood
      where
        stood : AreListed owner (with_changed f h t) lists
        stood i v o there owned = elim (value-changed f t h i v there) [
          | inl was ↦ listed i v o was owned
          | inr was ↦ subst (λ (n : ℕ). Has (list_of lists o) n) (sym was.4) (own was.0 o (ap owner (sym was.2) ∙ owned))
        ]

    -- a value of no owner was to be given an id
    pub listed-given : (t u : Table T) (v : T) (r : Result Handle (T × Refusal)) (lists : List (List ℕ)) → Gives t v r u → owner v ≡ None → AreListed owner t lists → AreListed owner u lists
    listed-given t u v (Ok h) lists gives none listed = subst (λ (z : Table T). AreListed owner z lists) (sym gives.1) given
      where
        given : AreListed owner (with_held h v t) lists
        given i w o there owned = elim (cases_eq i h.index) [
          | inl here ↦
              let at : (place_at (with_held h v t) i).value ≡ Some v = ap (λ (n : ℕ). (place_at (with_held h v t) n).value) here ∙ ap (λ (p : Place T). p.value) (place-held t h v gives.0) in
              let same : v ≡ w = some_is v w (sym at ∙ there) in
              let bad : None ≡ Some o = sym none ∙ ap owner same ∙ owned in
              absurd cc
          | inr other ↦ listed i w o (sym (ap (λ (p : Place T). p.value) (place-beside t h v i gives.0 other)) ∙ there) owned
        ]
    listed-given t u v (Err (back, refusal.ArenaFull)) lists gives none listed = subst (λ (z : Table T). AreListed owner z lists) (sym gives.2) listed
    listed-given t u v (Err (back, refusal.OutOfMemory)) lists gives none listed = subst (λ (z : Table T). AreListed owner z lists) (sym gives.3) listed
    listed-given t u v (Err (back, _)) lists gives none listed = absurd gives

    -- ---- one list

    pub all-in : (t : Table T) (lists : List (List ℕ)) (o : ℕ) → AreListed owner t lists → AreAllIn owner o t (list_of lists o)
    all-in t lists o listed i v there owned = listed i v o there owned

    pub in-covers : (g : Option T → Option T) (t : Table T) (xs : List ℕ) (o : ℕ) → g None ≡ None → ((v : T) → (g (Some v) ≡ Some v) ⊎ (owner v ≡ Some o)) → AreAllIn owner o t xs → Covers g t xs
    in-covers g t xs o none only all i = by_value_at (place_at t i).value refl
      where
        by_value_at : (x : Option T) → (place_at t i).value ≡ x → Has xs i ⊎ (g (place_at t i).value ≡ (place_at t i).value)
        by_value_at None is = inr (ap g is ∙ none ∙ sym is)
        by_value_at (Some v) is = elim (only v) [
          | inl same ↦ inr (ap g is ∙ same ∙ sym is)
          | inr owned ↦ inl (all i v is owned)
        ]

    pub in-tells : {X : Type 0} (f : List (Handle × T) → List X) (t : Table T) (xs : List ℕ) (o : ℕ) → IsInOrder f → ((h : Handle) (v : T) → (f ((h, v) ∷ []) ≡ []) ⊎ (owner v ≡ Some o)) → AreAllIn owner o t xs → Tells f t xs
    in-tells {X} f t xs o in_order only all i = by_value_at (place_at t i).value refl
      where
        told : Option T → List X
        told y = f (option_to_list (held_at i (let p : Place T = record { generation = (place_at t i).generation; value = y } in p)))

        by_value_at : (x : Option T) → (place_at t i).value ≡ x → Has xs i ⊎ (f (one_at t i) ≡ [])
        by_value_at None is = inr (ap told is ∙ in_order.none)
        by_value_at (Some v) is =
            let h : Handle = record { index = i; generation = (place_at t i).generation } in
            elim (only h v) [ inl nothing ↦ inr (ap told is ∙ nothing) | inr owned ↦ inl (all i v is owned) ]
