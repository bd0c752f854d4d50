-- Room for messages on each circuit of a client.
use Rattle.std.proofs.Common.{◌≡◌, ℕ, ◌+◌, ◌<◌, ◌≤◌, Bool, true, false, inl, inr, List, [], ◌∷◌, Some, length, subst, arith}
use Rattle.std.specs.Prelude.{cond, filter, map}
use Rattle.std.proofs.lemmas.Bool.{cases_lt}
use Rattle.ca_arena.specs.declared.handle.Handle.{Handle}
use Rattle.ca_ids.specs.Table.{same_handle}
use Rattle.ca_text.specs.Place.{At}
use Rattle.ca_text.proofs.Places.{At-one, At-within}
use Rattle.ca_client_core.specs.declared.for_histories.Sending.{Sending}
use Rattle.ca_world_data.specs.declared.joined.Joined.{Joined as Opened}
use Rattle.ca_world_data.specs.Found.{AreNumbered}
use Rattle.ca_world_data.specs.Seen.{joined_of}
use Rattle.ca_world_data.specs.Sends.{HasRoomForAll, HasRoomOnEach, KeepsRoom, count_on}
use Rattle.ca_world_data.specs.Speaking.{HasRoomUp}
use Rattle.ca_world_data.proofs.Going.{fewer-up}

-- the circuits of those numbers that are before this place have room
abbrev pub HasRoomUntil : (messages : ℕ) → (numbers : List ℕ) → (place : ℕ) → List Opened → Type 0
HasRoomUntil n numbers place ks = (p k : ℕ) → At numbers p k → p < place → HasRoomUp n (Some k) ks

pub room-until-none : (n : ℕ) (numbers : List ℕ) (ks : List Opened) → HasRoomUntil n numbers 0 ks
room-until-none n numbers ks p k at before = absurd (omega (arith, before))

-- one more has
pub room-until-more : (n : ℕ) (numbers : List ℕ) (place number : ℕ) (ks ks' : List Opened) → At numbers place number → HasRoomUntil n numbers place ks → HasRoomUp n (Some number) ks' → KeepsRoom ks ks' → HasRoomUntil n numbers (place + 1) ks'
room-until-more n numbers place number ks ks' at room made keeps p k there before =
    elim (cases_lt p place) [
      | inl lt ↦ keeps k n (room p k there lt)
      | inr ge ↦
          (let here : p ≡ place = omega (arith, before, ge) in
          let is : number ≡ k = At-one numbers place number k at (subst (λ (z : ℕ). At numbers z k) here there) in
          subst (λ (z : ℕ). HasRoomUp n (Some z) ks') is made)
    ]

-- all have
pub room-until-all : (n : ℕ) (numbers : List ℕ) (place : ℕ) (ks : List Opened) → length numbers ≤ place → HasRoomUntil n numbers place ks → HasRoomOnEach n numbers ks
room-until-all n numbers place ks over room p k at = room p k at (let within = At-within numbers p k at in omega (arith, over, within))

-- no more go on one circuit than there are
count-few : (c : Handle) (sent : List Sending) → count_on c sent ≤ length sent
count-few c [] = omega arith
count-few c (s ∷ sent) = go (same_handle s.circuit c) (filter (λ (z : Sending). same_handle z.circuit c) sent) (count-few c sent)
  where
    go : (b : Bool) (xs : List Sending) → length xs ≤ length sent → length (cond b (s ∷ xs) xs) ≤ length (s ∷ sent)
    go true xs few = omega (arith, few)
    go false xs few = omega (arith, few)

-- there is room for messages that are no more, on whichever circuit they go
pub room-each : (i n : ℕ) (numbers : List ℕ) (sent : List Sending) (ks : List Opened) → AreNumbered numbers (map joined_of ks) i → HasRoomOnEach n numbers ks → length sent ≤ n → HasRoomForAll i sent ks
room-each i n numbers sent ks numbered room few p s at k there =
    let count = count-few s.circuit sent in
    fewer-up ks (Some k) (count_on s.circuit sent) n (omega (arith, count, few)) (room there.j.at_client.index k (numbered k there.j there.at there.mine there.is_open))
