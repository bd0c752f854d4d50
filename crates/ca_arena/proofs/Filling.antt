-- Values are put under the handles that come next, one after another.
use Rattle.std.proofs.Common.{◌≡◌, ◌≢◌, ◌∙◌, ℕ, zero, suc, ◌+◌, ◌-◌, ◌≤◌, List, [], ◌∷◌, ◌++◌, Some, ap, arith, length, length-set, refl, set, slice_get, subst, sym}
use Rattle.std.proofs.lemmas.List.{get_or_past, length-map, length_push}
use Rattle.ca_arena.specs.declared.handle.Handle.{Handle}
use Rattle.ca_arena.specs.declared.slot.Slot.{Slot}
use Rattle.ca_arena.specs.declared.slot.Slot.TheVariants.{Filled}
use Rattle.ca_arena.specs.Arena.{Contents, InsertsEach, Place, blank, inserted, place_at}
use Rattle.ca_arena.specs.Layout.{IsLaidOut, contents_of}
use Rattle.ca_arena.specs.Slot.{link_of, place_of}
use Rattle.ca_arena.proofs.Slots.{appends, fills, place_there, places}

module _ {T : Type 0} where
  -- with those that are left all are inserted, these come next, and there is room for them
  pub record Filling (was : Contents T) (all left : List (Handle × T)) (slots : List (Slot T)) (freed first retired space : ℕ) : Type 0 where
    pub laid_out : IsLaidOut slots freed first retired
    pub goes : (b : Contents T) → InsertsEach (contents_of slots freed first) left b → InsertsEach was all b
    pub next : (b : Contents T) × InsertsEach (contents_of slots freed first) left b
    pub room : length slots + (length left - freed) ≤ space

  -- other slots are what inserting the first one of them leaves
  goes-on : (was now : Contents T) (all left : List (Handle × T)) (e : Handle × T) (slots : List (Slot T)) (freed first retired space : ℕ) → ((b : Contents T) → InsertsEach now (e ∷ left) b → InsertsEach was all b) → (b : Contents T) × InsertsEach now (e ∷ left) b → IsLaidOut slots freed first retired → contents_of slots freed first ≡ inserted now e.1 → length slots + (length left - freed) ≤ space
      → Filling was all left slots freed first retired space
  goes-on was now all left e slots freed first retired space goes next laid_out is room = record {
    laid_out = laid_out;
    goes = λ b did. goes b (next.1.0, next.1.1, subst (λ (a : Contents T). InsertsEach a left b) is did);
    next = (next.0, subst (λ (a : Contents T). InsertsEach a left next.0) (sym is) next.1.2);
    room = room;
  }

  refilled-by : (was : Contents T) (all left : List (Handle × T)) (e : Handle × T) (slots : List (Slot T)) (fewer first retired space next : ℕ) (slot : Slot T) → Filling was all (e ∷ left) slots (suc fewer) first retired space → slice_get slots first ≡ Some slot → next ≡ link_of slot → Filling was all left (set slots first (Filled e.0.generation e.1)) fewer next retired space
  refilled-by was all left e slots fewer first retired space next slot f read linked =
      let made : e.0.generation ≡ (place_of slot).generation + 1 =
      ap (λ (h : Handle). h.generation) f.next.1.1 ∙ ap (λ (p : Place T). p.generation + 1) (place_there slots first slot read) in
      let after = fills slots (suc fewer) fewer first next e.0.generation retired slot e.1 f.laid_out refl read made linked in
      goes-on was (contents_of slots (suc fewer) first) all left e (set slots first (Filled e.0.generation e.1)) fewer next retired space f.goes f.next after.laid_out after.contents
      (omega (arith, f.room, length-set slots first (Filled e.0.generation e.1)))

  -- an index that is free again has a value
  pub refilled : (was : Contents T) (all left : List (Handle × T)) (e : Handle × T) (slots : List (Slot T)) (freed first retired space next : ℕ) (slot : Slot T) → Filling was all (e ∷ left) slots freed first retired space → freed ≢ 0 → slice_get slots first ≡ Some slot → next ≡ link_of slot → Filling was all left (set slots first (Filled e.0.generation e.1)) (freed - 1) next retired space
  refilled was all left e slots zero first retired space next slot f some read linked = absurd (some refl)
  refilled was all left e slots (suc fewer) first retired space next slot f some read linked =
      let same : fewer ≡ suc fewer - 1 = omega arith in
      subst (λ (n : ℕ). Filling was all left (set slots first (Filled e.0.generation e.1)) n next retired space) same
      (refilled-by was all left e slots fewer first retired space next slot f read linked)

  -- one that was never given has
  pub lengthened : (was : Contents T) (all left : List (Handle × T)) (e : Handle × T) (slots : List (Slot T)) (freed first retired space : ℕ) → Filling was all (e ∷ left) slots freed first retired space → freed ≡ 0 → Filling was all left (slots ++ Filled e.0.generation e.1 ∷ []) freed first retired space
  lengthened was all left e slots (suc freed) first retired space f none = absurd (omega (arith, none))
  lengthened was all left e slots zero first retired space f none =
      let long = length-map slots place_of in
      let past : place_at (places slots) (length (places slots)) ≡ blank = get_or_past (places slots) (length (places slots)) blank (omega arith) in
      let made : e.0.generation ≡ 1 =
      ap (λ (h : Handle). h.generation) f.next.1.1 ∙ ap (λ (p : Place T). p.generation + 1) past in
      let after = appends slots 0 first retired e.1 f.laid_out refl (λ full. absurd (omega (arith, full, long, f.next.1.0))) in
      subst (λ (n : ℕ). Filling was all left (slots ++ Filled n e.1 ∷ []) 0 first retired space) (sym made)
      (goes-on was (contents_of slots 0 first) all left e (slots ++ Filled 1 e.1 ∷ []) 0 first retired space f.goes f.next after.laid_out after.contents
      (omega (arith, f.room, length_push slots (Filled 1 e.1))))
