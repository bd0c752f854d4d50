-- The exit statuses of the program.
use Rattle.std.specs.Prelude.{ℕ, Result, Ok, Err}
use Rattle.ca_text.specs.declared.refusal.Refusal.{Refusal}

-- 0: done; 1: refused
abbrev pub status_of : Result (Unit {0}) Refusal → ℕ
status_of (Ok _) = 0
status_of (Err _) = 1

-- the words were not understood
abbrev pub not_understood_status : ℕ
not_understood_status = 2
