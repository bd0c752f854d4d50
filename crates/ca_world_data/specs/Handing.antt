-- Working: what became of a request is handed out.
use Rattle.std.specs.Prelude.{ℕ, ◌≡◌, Bool, true, false, List, [], ◌∷◌, Option, Some, None, Ok, Err}
use Rattle.std.specs.Prelude.{Result, Vec, slice_get, unwrap_or}
use Rattle.std.specs.declared.alloc.Global.{Global}
use Rattle.ca_arena.specs.declared.handle.Handle.{Handle}
use Rattle.ca_dbr.specs.declared.value.Outcome.{Outcome}
use Rattle.ca_text.specs.declared.refusal.Refusal.{Refusal}
use Rattle.ca_text.specs.declared.refusal.Refusal.TheVariants.{BadEvent, OutOfMemory}
use Rattle.ca_text.specs.Place.{At}
use Rattle.ca_model.specs.History as history
use Rattle.ca_model.specs.ClientEvents.{HandsOut}
use Rattle.ca_model.specs.World.{ClientSide, grown}
use Rattle.ca_world_data.specs.declared.client.ClientSide as real
use Rattle.ca_world_data.specs.declared.history.Intent.{Intent}
use Rattle.ca_world_data.specs.declared.history.Line.{Line}
use Rattle.ca_world_data.specs.declared.history.Line.TheVariants as line
use Rattle.ca_world_data.specs.Logs.{HasRoom, lines_in}
use Rattle.ca_world_data.specs.Seen.{intent_of}

-- two values, and whether they are the same
abbrev pub IfSame : {A : Type 0} → A → A → Bool → Type 0
IfSame a b true = a ≡ b
IfSame a b false = a ≡ b → ⊥

-- the line says what became of what was meant so, or not
abbrev pub Tells : Intent → Line → Bool → Type 0
Tells meant l true = (o : Outcome) × (l ≡ line.Noticed meant o)
Tells meant l false = (o : Outcome) → l ≡ line.Noticed meant o → ⊥

-- one of these lines tells it, at this place, or none does
abbrev pub ToldAt : List Line → Intent → Option ℕ → Type 0
ToldAt log meant (Some place) = (o : Outcome) × At log place (line.Noticed meant o)
ToldAt log meant None = (place : ℕ) (o : Outcome) → At log place (line.Noticed meant o) → ⊥

-- the log of a life, or none
abbrev pub log_of : ℕ → List (List history.Line) → List history.Line
log_of life logs = unwrap_or (slice_get logs life) []

-- the request of this number has this line that may be handed out, or none, and there is
-- room for a line more
pub record IsReadyToHand (n : ℕ) (x : real.ClientSide) (logs : List (Vec Line Global))
    (place : Option ℕ) : Type 0 where
  pub q : Handle × Intent
  pub named : At x.names.requests.items n q
  pub hands : HandsOut (log_of x.life (lines_in logs)) n (intent_of q.1) place
  pub lines : HasRoom 1 x.life logs

-- no request has this number, or there is no memory
abbrev pub IsUnasked : (n : ℕ) → real.ClientSide → Refusal → Type 0
IsUnasked n x OutOfMemory = (q : Handle × Intent) × At x.names.requests.items n q
IsUnasked n x BadEvent = (q : Handle × Intent) → At x.names.requests.items n q → ⊥
IsUnasked n x e = ⊥

-- What became of the request of this number is in the log, as this line.
abbrev pub HandsOver : (n : ℕ) → (Option ℕ → history.Line) → ClientSide → List (List history.Line)
    → Result (Unit {0}) Refusal → List (List history.Line) → Type 0
HandsOver n says x logs (Ok _) logs' =
    (q : Handle × history.Intent) × At x.names.requests n q × (place : Option ℕ)
    × HandsOut (log_of x.life logs) n q.1 place × (logs' ≡ grown x.life (says place ∷ []) logs)
HandsOver n says x logs (Err OutOfMemory) logs' =
    ((q : Handle × history.Intent) × At x.names.requests n q) × (logs' ≡ logs)
HandsOver n says x logs (Err BadEvent) logs' =
    ((q : Handle × history.Intent) → At x.names.requests n q → ⊥) × (logs' ≡ logs)
HandsOver n says x logs (Err _) logs' = ⊥
