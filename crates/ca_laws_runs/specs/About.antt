-- Working: what a message that a client reads is about, and what is left to know of the
-- messages that servers take.
use Rattle.std.specs.Prelude.{ℕ, ◌≡◌, false, List, [], Some, length, take}
use Rattle.std.specs.List.{FoldsTo}
use Rattle.ca_arena.specs.declared.handle.Handle.{Handle}
use Rattle.ca_ids.specs.Wire.{wire_of}
use Rattle.ca_link.specs.Link.{TakesFirst}
use Rattle.ca_monitor.specs.Subscriptions.{confirmed_by}
use Rattle.ca_requests.specs.Meaning.{QuotesHeader}
use Rattle.ca_text.specs.Command.{command_number}
use Rattle.ca_text.specs.declared.command.Command.TheVariants as command
use Rattle.ca_text.specs.Place.{At}
use Rattle.ca_wire.specs.declared.header.Header.{Header}
use Rattle.ca_wire.specs.Fields.{Fields}
use Rattle.ca_model.specs.Client.{Client, Connection, Phase, channel_on, connection_at}
use Rattle.ca_model.specs.ClientEnds.{after_taking}
use Rattle.ca_model.specs.Hears.{subscription_on}
use Rattle.ca_model.specs.History.{Cancel, Circuit, Clear, Create, On, Sent, Told}
use Rattle.ca_model.specs.Speech.{Is, SubId}
use Rattle.ca_model.specs.Placed.{was_live}
use Rattle.ca_model.specs.Channels.{named}
use Rattle.ca_model.specs.ClientEvents.{channel_number, meant_by}
use Rattle.ca_model.specs.Events.{Event}
use Rattle.ca_model.specs.Events as event
use Rattle.ca_model.specs.Runs.{Happens}
use Rattle.ca_model.specs.World.{ClientSide, Joined, Names, World}
use Rattle.ca_laws_parts.specs.Held.{OnChannels}
use Rattle.ca_laws_parts.specs.Circuit.{IsLastCancel, IsQuiet}
use Rattle.ca_laws_runs.specs.Held.{IsKnownStep}

-- What the message t that a client reads next says of its message s. A CREATE_CH_FAIL of a channel
-- that was not created is about its CREATE_CHAN, a CLEAR_CHANNEL about the client's, and nothing
-- was sent since on the channel. A confirmation is about the EVENT_CANCEL of a subscription, an
-- ERROR that refuses one about an EVENT_ADD of one that was not cancelled.
pub record IsAbout (n : Names) (x : Client) (on : Handle) (c : Circuit) (m : Fields) (t : Told)
    (s : Sent) : Type 0 where
  pub own : OnChannels n x c
  pub failed : (h : Handle) (p : Phase) → Is command.CreateChannelFail m
      → channel_on x on m.p1 ≡ Some (h, p) → was_live p ≡ false
      → (s.intent ≡ On (channel_number n h) Create) × IsQuiet c t.place (channel_number n h)
  pub cleared : (h : Handle) (p : Phase) → Is command.ClearChannel m
      → channel_on x on m.p2 ≡ Some (h, p)
      → (s.intent ≡ On (channel_number n h) Clear) × IsQuiet c t.place (channel_number n h)
  pub confirms : (q : Handle) → Is command.EventAdd m → m.payload ≡ []
      → confirmed_by on m.p2 x.subscriptions ≡ Some q
      → (channel number : ℕ) × (s.intent ≡ On channel (Cancel number))
      × IsLastCancel c t.place (SubId (wire_of q)) number
  pub refuses : (h : Header) (q : Handle) → Is command.Error m → QuotesHeader m h
      → h.command ≡ command_number command.EventAdd
      → subscription_on x on h.p2 ≡ Some q
      → (number : ℕ) × Is command.EventAdd s.message
      × (named (SubId (wire_of q)) (meant_by n.subscriptions q) ≡ Some number)
      × ((p : ℕ) (r : Sent) (a : ℕ) → At c.up p r → r.intent ≡ On a (Cancel number) → ⊥)

-- So it is of the message that the client's end of circuit k takes next.
abbrev pub ReadsAbout : World → (k : ℕ) → Type 0
ReadsAbout w k =
    (j : Joined) (x : ClientSide) (d : Connection) (m : Fields) (rest : List ℕ) (t : Told)
    (s : Sent) → At w.circuits k j → At w.clients j.client x
    → connection_at x.core j.at_client ≡ Some d → TakesFirst d.link m rest
    → At j.lists.down (length j.lists.heard) t → At j.lists.up t.place s
    → IsAbout x.names (after_taking j.at_client rest x.core) j.at_client j.lists m t s

-- Of the message that a server's end takes in this event it is known what it is about. Of other
-- events nothing is asked for.
abbrev pub IsOwnStep : World → Event → World → Type 0
IsOwnStep w (event.ServerStep k) new = IsKnownStep w (event.ServerStep k) new
IsOwnStep w e new = Unit {0}

-- So it is of each of these events in a row.
abbrev pub AllOwn : World → List Event → Type 0
AllOwn w es =
    (n : ℕ) (e : Event) (mid new : World) → FoldsTo Happens w (take n es) mid → At es n e
    → Happens mid e new → IsOwnStep mid e new
