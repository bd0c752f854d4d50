-- A handle that finds nothing, and is no later than the last of its index,
-- finds nothing ever after.
use Rattle.std.proofs.Common.{◌≡◌, ◌≢◌, ℕ, ◌+◌, ◌<◌, ◌≤◌, List, [], ◌∷◌, ◌++◌, length, set, Some, None, Ok, refl, sym, ap, ◌∙◌, subst, inl, inr, arith}
use Rattle.std.proofs.lemmas.Bool.{cases_eq, cases_lt, ne_eqb, eq-eqb}
use Rattle.std.proofs.lemmas.List.{get_or-set_same, get_or-set_other, get_or_push, get_or_append_left, get_or_past, length_push}
use Rattle.ca_arena.specs.declared.handle.Handle.{Handle}
use Rattle.ca_arena.specs.Arena.{Place, Contents, place_at, value_for, find, IsLive, blank, inserted, inserted_from, Removes}
use Rattle.ca_arena.specs.Sound.{IsSound}
use Rattle.ca_arena.specs.Traces.{Call, Leads, Inserted, Removed, Wrote}
use Rattle.ca_arena.proofs.Places.{value_for-vacant, value_for-some, live_value, within_from_value, IsSound-removed, IsSound-written}
use Rattle.ca_arena.proofs.Runs.{IsSound-inserted}

module _ {T : Type 0} where
  -- no value of this generation stands here, nor will one
  pub record IsPast (generation : ℕ) (place : Place T) : Type 0 where
    pub nothing : value_for generation place ≡ None
    pub had : generation ≤ place.generation

  -- a place of another generation has no value for this one
  pub value_for-other : (generation : ℕ) (place : Place T) → place.generation ≢ generation → value_for generation place ≡ None
  value_for-other generation place differs = rw (ne_eqb place.generation generation differs) refl

  -- a later generation is given at the place
  pub IsPast-later : (generation : ℕ) (old new : Place T) → IsPast generation old → old.generation < new.generation → IsPast generation new
  IsPast-later generation old new past later =
      record { nothing = value_for-other generation new (λ same. absurd (omega (arith, past.had))); had = omega (arith, past.had) }

  -- the place had a value, and keeps its generation
  pub IsPast-same : (generation : ℕ) (old new : Place T) (value : T) → IsPast generation old → old.value ≡ Some value → new.generation ≡ old.generation → IsPast generation new
  IsPast-same generation old new value past has same =
      let differs : old.generation ≢ generation =
      λ here. let found : value_for generation old ≡ Some value = rw (eq-eqb old.generation generation here) has in let none = past.nothing in cc in
      record { nothing = value_for-other generation new (λ here. differs (sym same ∙ here)); had = omega (arith, past.had) }

  -- the handle is past at its index
  abbrev pub IsGone : Contents T → Handle → Type 0
  IsGone a handle = IsPast handle.generation (place_at a.given handle.index)

  -- another place is at its index
  moved : (a b : Contents T) (handle : Handle) → place_at b.given handle.index ≡ place_at a.given handle.index → IsGone a handle → IsGone b handle
  moved a b handle same gone = subst (IsPast handle.generation) (sym same) gone

  pub IsGone-inserted : (a : Contents T) (value : T) (handle : Handle) → IsSound a → IsGone a handle → IsGone (inserted a value) handle
  IsGone-inserted a value handle sound gone = by_list a.given a.freed sound gone
    where
      by_list : (given : List (Place T)) (freed : List ℕ) → IsSound (record { given = given; freed = freed }) → IsPast handle.generation (place_at given handle.index) → IsPast handle.generation (place_at (inserted_from given freed value).given handle.index)
      by_list given [] sound past =
          let place : Place T = record { generation = 1; value = Some value } in
          elim (cases_lt handle.index (length given)) [
            | inl within ↦ subst (IsPast handle.generation) (sym (get_or_append_left given (place ∷ []) blank handle.index within)) past
            | inr beyond ↦
                let none = get_or_past given handle.index blank beyond in
                elim (cases_eq handle.index (length given)) [
                  | inl here ↦
                      let new : place_at (given ++ place ∷ []) handle.index ≡ place = get_or_push given place blank handle.index (sym here) in
                      let before : (place_at given handle.index).generation ≡ 0 = ap (λ (p : Place T). p.generation) none in
                      subst (IsPast handle.generation) (sym new) (IsPast-later handle.generation (place_at given handle.index) place past (omega arith))
                  | inr other ↦
                      let still : place_at (given ++ place ∷ []) handle.index ≡ blank = get_or_past (given ++ place ∷ []) handle.index blank (omega (arith, length_push given place)) in
                      subst (IsPast handle.generation) (none ∙ sym still) past
                ]
          ]
      by_list given (first ∷ rest) sound past =
          let place : Place T = record { generation = (place_at given first).generation + 1; value = Some value } in
          elim (cases_eq handle.index first) [
            | inl here ↦
                let new : place_at (set given first place) handle.index ≡ place =
                ap (place_at (set given first place)) here ∙ get_or-set_same given first place blank sound.free.0.within in
                let before : (place_at given handle.index).generation ≡ (place_at given first).generation = ap (λ (i : ℕ). (place_at given i).generation) here in
                subst (IsPast handle.generation) (sym new) (IsPast-later handle.generation (place_at given handle.index) place past (omega arith))
            | inr other ↦ subst (IsPast handle.generation) (sym (get_or-set_other given first handle.index place blank other)) past
          ]

  -- a change under a live handle
  pub IsGone-changed : (a b : Contents T) (live handle : Handle) (place : Place T) → IsLive a live → place.generation ≡ live.generation → b.given ≡ set a.given live.index place → IsGone a handle → IsGone b handle
  IsGone-changed a b live handle place alive same changed gone =
      let found = live_value a live alive in
      let there = value_for-some live.generation (place_at a.given live.index) found.0 found.1 in
      let within = within_from_value a.given live.index found.0 there.1 in
      elim (cases_eq handle.index live.index) [
        | inl here ↦
            let new : place_at b.given handle.index ≡ place =
            ap (λ (places : List (Place T)). place_at places handle.index) changed
            ∙ ap (place_at (set a.given live.index place)) here
            ∙ get_or-set_same a.given live.index place blank within in
            let old : place_at a.given handle.index ≡ place_at a.given live.index = ap (place_at a.given) here in
            subst (IsPast handle.generation) (sym new)
            (IsPast-same handle.generation (place_at a.given live.index) place found.0 (subst (IsPast handle.generation) old gone) there.1 (same ∙ sym there.0))
        | inr other ↦
            moved a b handle (ap (λ (places : List (Place T)). place_at places handle.index) changed ∙ get_or-set_other a.given live.index handle.index place blank other) gone
      ]

  pub gone_after : (a b : Contents T) (calls : List (Call T)) (gone : Handle) → IsSound a → IsGone a gone → Leads a calls b → IsGone b gone
  gone_after a b [] gone sound past run = subst (λ (c : Contents T). IsGone c gone) (sym run) past
  gone_after a b (Inserted value handle ∷ calls) gone sound past run =
      gone_after run.0 b calls gone (subst IsSound (sym run.1.2) (IsSound-inserted a value run.1.0 sound)) (subst (λ (c : Contents T). IsGone c gone) (sym run.1.2) (IsGone-inserted a value gone sound past)) run.2
  gone_after a b (Removed handle value ∷ calls) gone sound past run =
      let live : IsLive a handle = rw run.1.0 refl in
      let place : Place T = record { generation = handle.generation; value = None } in
      gone_after run.0 b calls gone (subst IsSound (sym run.1.1) (IsSound-removed a handle live sound)) (IsGone-changed a run.0 handle gone place live refl (ap (λ c. c.given) run.1.1) past) run.2
  gone_after a b (Wrote handle value ∷ calls) gone sound past run =
      let place : Place T = record { generation = handle.generation; value = Some value } in
      gone_after run.0 b calls gone (subst IsSound (sym run.1.1) (IsSound-written a handle value run.1.0 sound)) (IsGone-changed a run.0 handle gone place run.1.0 refl (ap (λ c. c.given) run.1.1) past) run.2

  pub gone_ever_after : (now left after : Contents T) (calls : List (Call T)) (handle : Handle) (value : T) → IsSound now → Removes now handle (Ok value) left → Leads left calls after → find after handle ≡ None
  gone_ever_after now left after calls handle value sound removes run =
      let live : IsLive now handle = rw removes.0 refl in
      let there = value_for-some handle.generation (place_at now.given handle.index) value removes.0 in
      let within = within_from_value now.given handle.index value there.1 in
      let place : Place T = record { generation = handle.generation; value = None } in
      let here : place_at left.given handle.index ≡ place =
      ap (λ (c : Contents T). place_at c.given handle.index) removes.1 ∙ get_or-set_same now.given handle.index place blank within in
      let past : IsPast handle.generation place = record { nothing = value_for-vacant handle.generation place refl; had = omega arith } in
      let gone : IsGone left handle = subst (IsPast handle.generation) (sym here) past in
      (gone_after left after calls handle (subst IsSound (sym removes.1) (IsSound-removed now handle live sound)) gone run).nothing
