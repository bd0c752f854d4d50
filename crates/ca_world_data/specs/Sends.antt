-- Working: what a client sends without being called for it, and room for that on its circuits.
use Rattle.std.specs.Prelude.{ℕ, ◌≡◌, ◌<◌, ◌+◌, Bool, true, false, List, Option, Some, filter}
use Rattle.std.specs.Prelude.{length}
use Rattle.ca_arena.specs.declared.handle.Handle.{Handle}
use Rattle.ca_ids.specs.Table.{same_handle}
use Rattle.ca_text.specs.Place.{At}
use Rattle.ca_client_core.specs.declared.for_histories.Sending.{Sending}
use Rattle.ca_world_data.specs.declared.joined.Joined.{Joined as Opened}
use Rattle.ca_world_data.specs.Found.{IsAt}
use Rattle.ca_world_data.specs.Seen.{joined_of}
use Rattle.ca_world_data.specs.Speaking.{HasRoomUp}
use Rattle.std.specs.Prelude.{map}

-- how many of these messages go on the circuit of this handle
abbrev pub count_on : Handle → List Sending → ℕ
count_on c sent = length (filter (λ (s : Sending). same_handle s.circuit c) sent)

-- Each circuit that is open at client i, and on which one of these messages goes, has room
-- for all that go on it.
abbrev pub HasRoomForAll : (i : ℕ) → List Sending → List Opened → Type 0
HasRoomForAll i sent ks =
    (p : ℕ) (s : Sending) → At sent p s → (k : ℕ) → IsAt (map joined_of ks) i s.circuit k
    → HasRoomUp (count_on s.circuit sent) (Some k) ks

-- There is room for n messages on each of the circuits of these numbers.
abbrev pub HasRoomOnEach : (messages : ℕ) → (numbers : List ℕ) → List Opened → Type 0
HasRoomOnEach n numbers ks = (p k : ℕ) → At numbers p k → HasRoomUp n (Some k) ks

-- the message at this place goes on the circuit of one before it; or nothing is said
abbrev pub IsRepeated : List Sending → (place : ℕ) → Bool → Type 0
IsRepeated sent place true =
    (p : ℕ) × (before at : Sending) × (p < place) × At sent p before × At sent place at
    × (at.circuit ≡ before.circuit)
IsRepeated sent place false = Unit {0}

-- no circuit has less room
abbrev pub KeepsRoom : List Opened → List Opened → Type 0
KeepsRoom ks ks' = (k n : ℕ) → HasRoomUp n (Some k) ks → HasRoomUp n (Some k) ks'

-- one message more took its place on this circuit, if there is one; others have
-- the room that they had
pub record LeavesRoom (circuit : Option ℕ) (ks ks' : List Opened) : Type 0 where
  pub less : (k n : ℕ) → HasRoomUp (n + 1) (Some k) ks → HasRoomUp n (Some k) ks'
  pub others : (k n : ℕ) → (circuit ≡ Some k → ⊥) → HasRoomUp n (Some k) ks
      → HasRoomUp n (Some k) ks'
