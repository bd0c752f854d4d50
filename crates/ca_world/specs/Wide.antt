-- Working: what a client asks for as a type and a count, which may be greater
-- than a message carries.
use Rattle.std.specs.Prelude.{ℕ, ◌≡◌, ◌<◌, ◌⊎◌, Option, Some, None}
use Rattle.ca_model.specs.ClientCalls.{Shape}
use Rattle.ca_text.specs.Limits.{element_limit, priority_limit}

-- no message carries such a type, or such a count
abbrev pub IsWide : Shape → Type 0
IsWide a = (65535 < a.data_type) ⊎ (4294967295 < a.count)

-- these are the type and the count; or no message carries them
abbrev pub Carries : Shape → Option (ℕ × ℕ) → Type 0
Carries a (Some s) = (s.0 ≡ a.data_type) × (s.1 ≡ a.count)
Carries a None = IsWide a

-- this is the priority; or both are too great
abbrev pub IsPriority : (priority own : ℕ) → Type 0
IsPriority priority own = (own ≡ priority) ⊎ ((priority_limit < priority) × (priority_limit < own))

-- this is the count of a record; or both are too great
abbrev pub IsCount : (count own : ℕ) → Type 0
IsCount count own = (own ≡ count) ⊎ ((element_limit < count) × (element_limit < own))
