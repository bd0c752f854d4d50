-- Working: the logs of clients, by life.
use Rattle.std.specs.Prelude.{ℕ, ◌≡◌, ◌≢◌, ◌+◌, ◌≤◌, List, [], ◌∷◌, Ok, Err, Result, map, Vec}
use Rattle.std.specs.Prelude.{vec_capacity, vec_len}
use Rattle.std.specs.declared.alloc.Global.{Global}
use Rattle.ca_text.specs.declared.refusal.Refusal.{Refusal}
use Rattle.ca_text.specs.declared.refusal.Refusal.TheVariants.{OutOfMemory}
use Rattle.ca_text.specs.Place.{At}
use Rattle.ca_model.specs.History as history
use Rattle.ca_model.specs.World.{grown}
use Rattle.ca_world_data.specs.declared.history.Line.{Line}
use Rattle.ca_world_data.specs.Seen.{line_of}

-- the logs as lists
abbrev pub lines_in : List (Vec Line Global) → List (List history.Line)
lines_in logs = map (λ (log : Vec Line Global). map line_of log.items) logs

-- there is room for n lines in the log of a life, if it has one
abbrev pub HasRoom : (lines life : ℕ) → List (Vec Line Global) → Type 0
HasRoom lines life logs =
    (log : Vec Line Global) → At logs life log → vec_len log + lines ≤ vec_capacity log

-- a call was refused, which is in the log; or there was no memory for it, and nothing changed
abbrev pub Notes : (life : ℕ) → Refusal → List (List history.Line) → Result (Unit {0}) Refusal
    → List (List history.Line) → Type 0
Notes life e old (Ok _) new = (e ≢ OutOfMemory) × (new ≡ grown life (history.Refused e ∷ []) old)
Notes life e old (Err r) new = (e ≡ OutOfMemory) × (r ≡ OutOfMemory) × (new ≡ old)
