-- Working: replies of a server that are read off its bytes.
use Rattle.std.specs.Prelude.{ℕ, ◌≡◌, ◌+◌, ◌≤◌, List, [], ◌∷◌, length, vec_capacity, vec_len}
use Rattle.ca_wire.specs.Fields.{Fields}
use Rattle.ca_wire.specs.Message.{spelled}
use Rattle.ca_model.specs.History.{Reply, Told}
use Rattle.ca_model.specs.ServerEvents.{about}
use Rattle.ca_world_data.specs.declared.replies.Spare.{Spare}
use Rattle.ca_world_data.specs.Updates.{AreGood}

-- There are at most two messages, of which the first has at most n bytes of payload, and the
-- second none.
abbrev pub AreWithin : ℕ → List Fields → Type 0
AreWithin n [] = Unit {0}
AreWithin n (a ∷ []) = length a.payload ≤ n
AreWithin n (a ∷ b ∷ []) = (length a.payload ≤ n) × (b.payload ≡ [])
AreWithin n ms = ⊥

-- memory for two replies, of which there is none yet
pub record IsSpare (s : Spare) : Type 0 where
  pub none : s.told.items ≡ []
  pub two : vec_len s.told + 2 ≤ vec_capacity s.told
  pub empty : s.payload.items ≡ []

-- the bytes are what one or two such messages, or none, are spelled
pub record AreFew (n : ℕ) (bytes : List ℕ) : Type 0 where
  pub ms : List Fields
  pub good : AreGood ms
  pub are : bytes ≡ spelled ms
  pub within : AreWithin n ms

-- These are the messages that the bytes are, as replies about the client's message at this place.
abbrev pub AreReplies : (most : ℕ) → List ℕ → (place : ℕ) → List Told → Type 0
AreReplies most bytes place told =
    (ms : List Fields) → AreGood ms → bytes ≡ spelled ms → AreWithin most ms
    → told ≡ about place Reply ms
