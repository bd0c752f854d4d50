-- Over whole runs: what is given later has a greater generation than was given at its index before.
use Rattle.std.proofs.Common.{◌≡◌, ◌≢◌, ℕ, ◌+◌, ◌<◌, ◌≤◌, List, [], ◌∷◌, ◌++◌, length, set, Some, None, refl, sym, ap, ◌∙◌, subst, inl, inr, arith, lit≤}
use Rattle.std.specs.List.{AllByRecursion}
use Rattle.std.proofs.lemmas.Bool.{cases_eq, cases_lt}
use Rattle.std.proofs.lemmas.List.{get_or-set_same, get_or-set_other, get_or_push, get_or_append_left, get_or_past}
use Rattle.ca_arena.specs.declared.handle.Handle.{Handle}
use Rattle.ca_arena.specs.Arena.{Place, Contents, place_at, IsLive, blank, empty, last_at, next_handle, free_slots, inserted, inserted_from, removed, written}
use Rattle.ca_arena.specs.Sound.{IsFree, IsSound}
use Rattle.ca_arena.specs.Traces.{Call, Leads, given_by, AreApart, Inserted, Removed, Wrote}
use Rattle.ca_arena.proofs.Places.{value_for-some, live_value, within_from_value, IsSound-filled, IsSound-appended, IsSound-written, IsSound-removed}

module _ {T : Type 0} where
  -- a value at a free index, or at the first that was never given
  pub IsSound-inserted : (a : Contents T) (value : T) → 0 < free_slots a → IsSound a → IsSound (inserted a value)
  IsSound-inserted a value free sound = by_list a.given a.freed free sound
    where
      by_list : (given : List (Place T)) (freed : List ℕ) → 0 < free_slots (record { given = given; freed = freed }) → IsSound (record { given = given; freed = freed }) → IsSound (inserted_from given freed value)
      by_list given [] free sound = IsSound-appended given value (omega arith) sound
      by_list given (index ∷ rest) free sound = IsSound-filled given index rest value sound

  -- an insertion puts the next generation at its index, and leaves the others
  pub last_at-inserted : (a : Contents T) (value : T) → IsSound a → (index : ℕ) → (last_at a index ≤ last_at (inserted a value) index) × (index ≡ (next_handle a).index → (next_handle a).generation ≤ last_at (inserted a value) index)
  last_at-inserted a value sound index = by_list a.given a.freed sound
    where
      by_list : (given : List (Place T)) (freed : List ℕ) → IsSound (record { given = given; freed = freed }) → (last_at (record { given = given; freed = freed }) index ≤ last_at (inserted_from given freed value) index) × (index ≡ (next_handle (record { given = given; freed = freed })).index → (next_handle (record { given = given; freed = freed })).generation ≤ last_at (inserted_from given freed value) index)
      by_list given [] sound =
          let place : Place T = record { generation = 1; value = Some value } in
          elim (cases_lt index (length given)) [
            | inl within ↦
                let kept : (place_at (given ++ place ∷ []) index).generation ≡ (place_at given index).generation =
                ap (λ (p : Place T). p.generation) (get_or_append_left given (place ∷ []) blank index within) in
                (omega arith, λ same. absurd (omega arith))
            | inr beyond ↦
                let none : (place_at given index).generation ≡ 0 = ap (λ (p : Place T). p.generation) (get_or_past given index blank beyond) in (
                  omega arith,
                  λ same.
                      let unused : (place_at given (length given)).generation ≡ 0 =
                      ap (λ (p : Place T). p.generation) (get_or_past given (length given) blank (omega arith)) in
                      let new : (place_at (given ++ place ∷ []) index).generation ≡ 1 =
                      ap (λ (p : Place T). p.generation) (get_or_push given place blank index (sym same)) in
                      omega arith,
                )
          ]
      by_list given (first ∷ rest) sound =
          let place : Place T = record { generation = (place_at given first).generation + 1; value = Some value } in
          elim (cases_eq index first) [
            | inl same ↦
                let was : (place_at given index).generation ≡ (place_at given first).generation = ap (λ (i : ℕ). (place_at given i).generation) same in
                let new : (place_at (set given first place) index).generation ≡ place.generation =
                ap (λ (i : ℕ). (place_at (set given first place) i).generation) same
                ∙ ap (λ (p : Place T). p.generation) (get_or-set_same given first place blank sound.free.0.within) in
                (omega arith, λ _. omega arith)
            | inr other ↦
                let kept : (place_at (set given first place) index).generation ≡ (place_at given index).generation =
                ap (λ (p : Place T). p.generation) (get_or-set_other given first index place blank other) in
                (omega arith, λ same. absurd (other same))
          ]

  -- a change under a live handle keeps the generation at each index
  pub last_at-changed : (a b : Contents T) (handle : Handle) (place : Place T) → IsLive a handle → place.generation ≡ handle.generation → b.given ≡ set a.given handle.index place → (index : ℕ) → last_at b index ≡ last_at a index
  last_at-changed a b handle place live same changed index =
      let found = live_value a handle live in
      let there = value_for-some handle.generation (place_at a.given handle.index) found.0 found.1 in
      let within = within_from_value a.given handle.index found.0 there.1 in
      let new : last_at b index ≡ (place_at (set a.given handle.index place) index).generation =
      ap (λ (places : List (Place T)). (place_at places index).generation) changed in
      elim (cases_eq index handle.index) [
        | inl here ↦
            let at : (place_at (set a.given handle.index place) index).generation ≡ place.generation =
            ap (λ (i : ℕ). (place_at (set a.given handle.index place) i).generation) here
            ∙ ap (λ (p : Place T). p.generation) (get_or-set_same a.given handle.index place blank within) in
            let was : last_at a index ≡ (place_at a.given handle.index).generation = ap (last_at a) here in
            omega (arith, there.0)
        | inr other ↦ new ∙ ap (λ (p : Place T). p.generation) (get_or-set_other a.given handle.index index place blank other)
      ]

  -- each of these handles has a greater generation than its index had before
  abbrev pub AreLater : Contents T → List Handle → Type 0
  AreLater a handles = AllByRecursion (λ handle. last_at a handle.index < handle.generation) handles

  pub AreLater-before : (a b : Contents T) (handles : List Handle) → ((index : ℕ) → last_at a index ≤ last_at b index) → AreLater b handles → AreLater a handles
  AreLater-before a b [] grows later = tt
  AreLater-before a b (handle ∷ rest) grows later = (omega (arith, grows handle.index, later.0), AreLater-before a b rest grows later.1)

  -- a handle that its index has had is none of them
  pub apart_from_later : (a : Contents T) (handle : Handle) (handles : List Handle) → handle.generation ≤ last_at a handle.index → AreLater a handles → AllByRecursion (λ other. other ≢ handle) handles
  apart_from_later a handle [] had later = tt
  apart_from_later a handle (first ∷ rest) had later =
      (λ same. let less = subst (λ (h : Handle). last_at a h.index < h.generation) same later.0 in absurd (omega arith), apart_from_later a handle rest had later.1)

  pub runs_give_once : (a b : Contents T) (calls : List (Call T)) → IsSound a → Leads a calls b → AreLater a (given_by calls) × AreApart (given_by calls)
  runs_give_once a b [] sound run = (tt, tt)
  runs_give_once a b (Inserted value handle ∷ calls) sound run =
      let mid = run.0 in
      let made : mid ≡ inserted a value = run.1.2 in
      let is_next : handle ≡ next_handle a = run.1.1 in
      let after : IsSound mid = subst IsSound (sym made) (IsSound-inserted a value run.1.0 sound) in
      let rest = runs_give_once mid b calls after run.2 in
      let grows : (index : ℕ) → last_at a index ≤ last_at mid index = λ index. rw made (last_at-inserted a value sound index).0 in
      let has : handle.generation ≤ last_at mid handle.index = rw (made, is_next) ((last_at-inserted a value sound (next_handle a).index).1 refl) in
      let first : last_at a handle.index < handle.generation = rw is_next (omega arith) in
      ((first, AreLater-before a mid (given_by calls) grows rest.0), (apart_from_later mid handle (given_by calls) has rest.0, rest.1))
  runs_give_once a b (Removed handle value ∷ calls) sound run =
      let mid = run.0 in
      let live : IsLive a handle = rw run.1.0 refl in
      let made : mid ≡ removed a handle = run.1.1 in
      let after : IsSound mid = subst IsSound (sym made) (IsSound-removed a handle live sound) in
      let rest = runs_give_once mid b calls after run.2 in
      let same = last_at-changed a mid handle (record { generation = handle.generation; value = None }) live refl (ap (λ c. c.given) made) in
      (AreLater-before a mid (given_by calls) (λ index. omega (arith, same index)) rest.0, rest.1)
  runs_give_once a b (Wrote handle value ∷ calls) sound run =
      let mid = run.0 in
      let live : IsLive a handle = run.1.0 in
      let made : mid ≡ written a handle value = run.1.1 in
      let after : IsSound mid = subst IsSound (sym made) (IsSound-written a handle value live sound) in
      let rest = runs_give_once mid b calls after run.2 in
      let same = last_at-changed a mid handle (record { generation = handle.generation; value = Some value }) live refl (ap (λ c. c.given) made) in
      (AreLater-before a mid (given_by calls) (λ index. omega (arith, same index)) rest.0, rest.1)

  -- what holds of every arena holds after every run
  pub sound_after : (a b : Contents T) (calls : List (Call T)) → IsSound a → Leads a calls b → IsSound b
  sound_after a b [] sound run = subst IsSound (sym run) sound
  sound_after a b (Inserted value handle ∷ calls) sound run =
      sound_after run.0 b calls (subst IsSound (sym run.1.2) (IsSound-inserted a value run.1.0 sound)) run.2
  sound_after a b (Removed handle value ∷ calls) sound run =
      let live : IsLive a handle = rw run.1.0 refl in
      sound_after run.0 b calls (subst IsSound (sym run.1.1) (IsSound-removed a handle live sound)) run.2
  sound_after a b (Wrote handle value ∷ calls) sound run =
      sound_after run.0 b calls (subst IsSound (sym run.1.1) (IsSound-written a handle value run.1.0 sound)) run.2

  pub IsSound-empty : IsSound (empty {T = T})
  IsSound-empty = record { limit = lit≤ tt; fits = λ _. lit≤ tt; free = tt; listed = λ index free. absurd (nothing_within index free); counted = lit≤ tt }
    where
      nothing_within : (index : ℕ) → IsFree {T = T} [] index → ⊥
      nothing_within index free = let within = free.within in omega arith
