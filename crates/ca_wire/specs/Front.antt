-- A message at the front of bytes, and room for its payload.
use Rattle.std.specs.Prelude.{ℕ, ◌≡◌, ◌≤◌, ◌++◌, List, length}
use Rattle.ca_wire.specs.Fields.{Fields}
use Rattle.ca_wire.specs.Message.{IsMessage, spelling}

-- The one spelling of a message begins the bytes, and so much room holds its payload.
pub record FrontFits (bytes : List ℕ) (room : ℕ) : Type 0 where
  pub m : Fields
  pub good : IsMessage m
  pub rest : List ℕ
  pub begins : bytes ≡ spelling m ++ rest
  pub fits : length m.payload ≤ room
