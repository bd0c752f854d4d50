-- Working: parts of what `clear` does. No clause of a caller needs it.
use Rattle.std.specs.Prelude.{ℕ, ◌≡◌, List, [], ◌∷◌, Result, Ok, Err}
use Rattle.ca_text.specs.declared.refusal.Refusal.{Refusal}
use Rattle.ca_text.specs.declared.refusal.Refusal.TheVariants as refusal
use Rattle.ca_arena.specs.declared.handle.Handle.{Handle}
use Rattle.ca_requests.specs.Requests.{asks_on}
use Rattle.ca_model.specs.Answers.{Notice}
use Rattle.ca_model.specs.Client.{Client, Clearing, On, disconnections, sending, with_standing}
use Rattle.ca_model.specs.ClientCalls.{all_over, clear_sent}

-- A live channel of this SID was cleared, with its CLEAR_CHANNEL; or there was no memory for that.
abbrev pub ClearsLive : Client → (h c : Handle) → (sid : ℕ) → Result (List Notice) Refusal → Client
    → Type 0
ClearsLive old h c sid (Ok told) new =
    (told ≡ disconnections (asks_on h) old)
    × (new ≡ sending (clear_sent c sid h ∷ []) (with_standing (On c Clearing) h (all_over c h old)))
ClearsLive old h c sid (Err refusal.OutOfMemory) new = new ≡ old
ClearsLive old h c sid (Err _) new = ⊥
