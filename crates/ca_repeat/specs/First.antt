-- What a datagram begins with, and what is handed on of it (section "CA Repeater").
use Rattle.std.specs.Prelude.{ℕ, ◌≡◌, ◌⊎◌, ◌≤◌, ◌++◌, Bool, true, false, List, [], length, take}
use Rattle.std.specs.Prelude.{drop}
use Rattle.ca_text.specs.declared.command.Command.TheVariants.{RsrvIsUp, RepeaterRegister}
use Rattle.ca_text.specs.Command.{command_number}
use Rattle.ca_wire.specs.Header.{number32}
use Rattle.ca_wire.specs.Fields.{Fields}
use Rattle.ca_wire.specs.Message.{Spells}
use Rattle.ca_repeat.specs.declared.first.FirstMessage.{FirstMessage}
use Rattle.ca_repeat.specs.declared.first.FirstMessage.TheVariants.{Registration, BlankBeacon}
use Rattle.ca_repeat.specs.declared.first.FirstMessage.TheVariants.{Other}

-- a complete message of this form stands first, and this after it
pub record StandsFirst (bytes : List ℕ) (m : Fields) (behind : List ℕ) : Type 0 where
  pub front : List ℕ
  pub spells : Spells front m
  pub are : bytes ≡ front ++ behind

-- no byte, or a complete REPEATER_REGISTER and this after it
abbrev pub Registers : List ℕ → List ℕ → Type 0
Registers bytes behind =
    ((bytes ≡ []) × (behind ≡ []))
    ⊎ ((m : Fields) × StandsFirst bytes m behind × (m.command ≡ command_number RepeaterRegister))

-- a complete RSRV_IS_UP stands first, and the address in it is zero
abbrev pub IsBlank : List ℕ → Type 0
IsBlank bytes =
    (m : Fields) × (behind : List ℕ) × StandsFirst bytes m behind
    × (m.command ≡ command_number RsrvIsUp) × (m.p2 ≡ 0)

abbrev pub IsFirst : List ℕ → FirstMessage → Type 0
IsFirst bytes (Registration end) = (end ≤ length bytes) × Registers bytes (drop end bytes)
IsFirst bytes BlankBeacon = IsBlank bytes
IsFirst bytes Other = ((behind : List ℕ) → Registers bytes behind → ⊥) × (IsBlank bytes → ⊥)

abbrev pub registers : FirstMessage → Bool
registers (Registration end) = true
registers BlankBeacon = false
registers Other = false

-- What is handed on of a datagram from this address: what is after a registration; a beacon with no
-- address with its sender's in place of the second parameter; any other datagram as it is.
abbrev pub passed : FirstMessage → ℕ → List ℕ → List ℕ
passed (Registration end) ip bytes = drop end bytes
passed BlankBeacon ip bytes = take 12 bytes ++ (number32 ip ++ drop 16 bytes)
passed Other ip bytes = bytes
