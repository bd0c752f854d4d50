-- Working: a value that several updates share.
use Rattle.std.specs.Prelude.{ℕ, ◌≡◌, List, Ok, Option, IfSome}
use Rattle.ca_text.specs.Status.{normal}
use Rattle.ca_wire.specs.Fields.{Fields}
use Rattle.ca_wire.specs.Messages.{update}
use Rattle.ca_model.specs.Speech.{Stored}
use Rattle.ca_server_subscriptions.specs.Imaging.{shown_image}

-- a value with alarm and time stamp, and an update that shows it to a subscription of id 0
pub record Shared : Type 0 where
  pub stored : Stored
  pub update : Fields

-- The message is an update that shows this value, in its own type and number of elements, to a
-- subscription of id 0.
abbrev pub IsUpdateOf : Stored → Fields → Type 0
IsUpdateOf v m =
    (bytes : List ℕ) × (shown_image m.data_type m.count v.value v.meta ≡ Ok bytes)
    × (m ≡ update m.data_type m.count normal 0 bytes)

-- what is shared, if something is, is this value
abbrev pub IsCopy : Stored → Option Shared → Type 0
IsCopy v shared = IfSome shared (λ s. s.stored ≡ v)
