-- Working: parts of what the calls of a client's user answer and leave. No clause
-- of a caller needs it.
use Rattle.std.specs.Prelude.{ℕ, ◌≡◌, Bool, [], ◌∷◌, true, false, not, Option, Some, None, Result}
use Rattle.std.specs.Prelude.{Ok, Err, is_none, nat_lt}
use Rattle.ca_text.specs.declared.refusal.Refusal.{Refusal}
use Rattle.ca_text.specs.declared.refusal.Refusal.TheVariants as refusal
use Rattle.ca_arena.specs.declared.handle.Handle.{Handle}
use Rattle.ca_monitor.specs.Subscriptions.{Cancelled, Subscription, with_stage}
use Rattle.ca_model.specs.Client.{Client, On, Standing, sending}
use Rattle.ca_model.specs.Client as phase
use Rattle.ca_records.specs.Rules.{may_read}
use Rattle.ca_model.specs.ClientCalls.{LiveChannel, Shape, event_cancel_sent, first_refusal}
use Rattle.ca_model.specs.ClientCalls.{is_over}
use Rattle.ca_model.specs.Images.{type_of}

-- A subscription is cancelled on this circuit, under this SID: its EVENT_CANCEL goes
-- out, and its id drains.
abbrev pub CancelsOn : Client → Handle → Subscription → Handle → ℕ → Result (Unit {0}) Refusal
    → Client → Type 0
CancelsOn old s d c sid (Ok _) new =
    (is_over old c ≡ false)
    × (new
    ≡ sending (event_cancel_sent c sid s d ∷ [])
    (record old { subscriptions = with_stage (Cancelled c) s old.subscriptions }))
CancelsOn old s d c sid (Err refusal.OutputFull) new = (is_over old c ≡ true) × (new ≡ old)
CancelsOn old s d c sid (Err refusal.OutOfMemory) new = (is_over old c ≡ false) × (new ≡ old)
CancelsOn old s d c sid (Err _) new = ⊥

-- why a read or a subscription on a live channel is refused, of a type that is bad or not
abbrev pub live_ask_fault : (bad : Bool) → Client → (full : Bool) → Handle
    → (greatest rights count : ℕ) → Option Refusal
live_ask_fault bad x full c greatest rights count =
    first_refusal ((bad, refusal.BadType)
    ∷ (not (may_read rights), refusal.NoAccess)
    ∷ (nat_lt greatest count, refusal.BadCount)
    ∷ (is_over x c, refusal.OutputFull)
    ∷ (full, refusal.ArenaFull)
    ∷ [])

-- the channel that stands so, if it is live
abbrev pub live_in : Option Standing → Result LiveChannel Refusal
live_in None = Err refusal.StaleHandle
live_in (Some (On c (phase.Live n rights))) =
    Ok (record { circuit = c; native = n; rights = rights })
live_in (Some s) = Err refusal.NotLive
