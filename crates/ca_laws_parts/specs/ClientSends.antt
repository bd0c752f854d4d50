-- Statement: which call of a client's core sends which message: requests and EVENT_ADDs.
use Rattle.std.specs.Prelude.{ℕ, ◌≡◌, ◌⊎◌, List, [], ◌∷◌, Some, Ok}
use Rattle.ca_text.specs.declared.command.Command.TheVariants as command
use Rattle.ca_text.specs.Place.{At}
use Rattle.ca_arena.specs.declared.handle.Handle.{Handle}
use Rattle.ca_monitor.specs.Subscriptions.{Subscription}
use Rattle.ca_wire.specs.Fields.{Fields}
use Rattle.ca_model.specs.Answers.{Notice, Notices, Sending}
use Rattle.ca_model.specs.Client.{Client, Creating, channel_on}
use Rattle.ca_model.specs.ClientCalls.{Shape, StandsAs, event_add_sent}
use Rattle.ca_model.specs.Speech.{In, Is}
use Rattle.ca_laws_parts.specs.ClientRows.{Call, Does, Read, Step, Subscribe, Write, WriteNotify}

-- a read, a put with notification or a plain write
abbrev pub IsRequest : Fields → Type 0
IsRequest m = Is command.ReadNotify m ⊎ (Is command.WriteNotify m ⊎ Is command.Write m)

-- an accepted call for one
abbrev pub AsksForOne : Call → Type 0
AsksForOne (Read h a (Ok q)) = Unit {0}
AsksForOne (Write h v (Ok _)) = Unit {0}
AsksForOne (WriteNotify h v (Ok q)) = Unit {0}
AsksForOne call = ⊥

-- A request goes out in its own call, once, and in no other.
abbrev pub RequestsAreSentOnce : Type 0
RequestsAreSentOnce =
    (old : Client) (call : Call) (sent : List Sending) (new : Client) → Does old call sent new
    → (i : ℕ) (s : Sending) → At sent i s → IsRequest s.message → AsksForOne call × (sent ≡ s ∷ [])

-- In this call the reply was read by which the channel of this handle comes to
-- be live on circuit c.
abbrev pub MakesLive : Client → Call → (c h : Handle) → Fields → Type 0
MakesLive old call c h m =
    (told : List Notice) × (call ≡ Step c (Some m) (Notices told)) × Is command.CreateChannel m
    × ((rights : ℕ) × (channel_on old c m.p1 ≡ Some (h, Creating rights)))

-- An EVENT_ADD goes out in its own call, or as its channel comes to be live: then for each
-- subscription that is on that, and no other, under the channel's new SID and the
-- subscription's own id.
pub record AddsAreSent : Type 0 where
  pub only : (old : Client) (call : Call) (sent : List Sending) (new : Client)
      → Does old call sent new
      → (i : ℕ) (s : Sending) → At sent i s → Is command.EventAdd s.message
      → ((h : Handle) × (a : Shape) × (mask : ℕ) × (g : Handle) × (call ≡ Subscribe h a mask (Ok g))
      × (sent ≡ s ∷ []))
      ⊎ ((c h : Handle) × (m : Fields) × (g : Handle) × (d : Subscription)
      × MakesLive old call c h m × StandsAs old g d × (d.channel ≡ h)
      × (s ≡ event_add_sent c m.p2 g d))
  pub all : (old : Client) (call : Call) (sent : List Sending) (new : Client) (c h : Handle)
      (m : Fields) (g : Handle) (d : Subscription)
      → Does old call sent new → MakesLive old call c h m → StandsAs old g d → d.channel ≡ h
      → In sent (event_add_sent c m.p2 g d)
