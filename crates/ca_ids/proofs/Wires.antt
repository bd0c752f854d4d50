-- Which handles of a table have a wire id.
use Rattle.std.proofs.Common.{◌≡◌, ℕ, ◌%◌, ◌<◌, ◌≤◌, length, refl, sym, ap, ◌∙◌, arith}
use Rattle.std.proofs.lemmas.Nat.{mod-mul-add}
use Rattle.ca_text.specs.Limits.{arena_slots}
use Rattle.ca_arena.specs.declared.handle.Handle.{Handle}
use Rattle.ca_arena.specs.Arena.{place_at, IsLive}
use Rattle.ca_arena.specs.Sound.{IsSound}
use Rattle.ca_arena.proofs.Places.{value_for-some, live_value, within_from_value}
use Rattle.ca_ids.specs.Wire.{wire_of}
use Rattle.ca_ids.specs.Ids.{Ids}

-- the index of a wire id
pub wire_of-index : (handle : Handle) → handle.index < 65536 → wire_of handle % 65536 ≡ handle.index
wire_of-index handle below = mod-mul-add (handle.generation % 65536) 65536 handle.index below

module _ {T : Type 0} where
  -- a live handle is within what was given
  pub within_from_live : (ids : Ids T) (handle : Handle) → IsLive ids handle → handle.index < length ids.given
  within_from_live ids handle live =
      let found = live_value ids handle live in
      let there = value_for-some handle.generation (place_at ids.given handle.index) found.0 found.1 in
      within_from_value ids.given handle.index found.0 there.1

  -- there is one live handle at an index
  pub one_at_index : (ids : Ids T) (first second : Handle) → IsLive ids first → IsLive ids second → first.index ≡ second.index → first ≡ second
  one_at_index ids first second live also same =
      let one = live_value ids first live in
      let two = live_value ids second also in
      let there = value_for-some first.generation (place_at ids.given first.index) one.0 one.1 in
      let here = value_for-some second.generation (place_at ids.given second.index) two.0 two.1 in
      let generations : first.generation ≡ second.generation = sym there.0 ∙ ap (λ (i : ℕ). (place_at ids.given i).generation) same ∙ here.0 in
      ap (λ (i : ℕ). let h : Handle = record { index = i; generation = first.generation } in h) same
      ∙ ap (λ (n : ℕ). let h : Handle = record { index = second.index; generation = n } in h) generations

  -- handles with one wire id have one index, where they are live
  pub index_from_wire : (ids : Ids T) (handle : Handle) (wire : ℕ) → length ids.given ≤ arena_slots → IsLive ids handle → wire_of handle ≡ wire → handle.index ≡ wire % 65536
  index_from_wire ids handle wire limit live same =
      sym (wire_of-index handle (omega (arith, within_from_live ids handle live))) ∙ ap (λ (n : ℕ). n % 65536) same

  pub one_from_wire : (ids : Ids T) (first second : Handle) → IsSound ids → IsLive ids first → IsLive ids second → wire_of first ≡ wire_of second → first ≡ second
  one_from_wire ids first second sound live also same =
      let one = index_from_wire ids first (wire_of second) sound.limit live same in
      let two = index_from_wire ids second (wire_of second) sound.limit also refl in
      one_at_index ids first second live also (one ∙ sym two)
