-- Update masks.
use Rattle.std.specs.Prelude.{ℕ, ◌≢◌, ◌%◌}

-- one of the bits VALUE 1, LOG 2, ALARM 4 and PROPERTY 8 is set
abbrev pub HasEvent : ℕ → Type 0
HasEvent bits = bits % 16 ≢ 0
