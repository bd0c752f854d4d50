-- Working: what is held of all circuits of a world, and what is to be known of the
-- messages that ends take.
use Rattle.std.specs.Prelude.{ℕ, ◌≡◌, List, [], Some, length, take}
use Rattle.std.specs.List.{FoldsTo}
use Rattle.ca_arena.specs.declared.handle.Handle.{Handle}
use Rattle.ca_ids.specs.Wire.{wire_of}
use Rattle.ca_link.specs.Link.{TakesFirst}
use Rattle.ca_monitor.specs.Subscriptions.{confirmed_by}
use Rattle.ca_requests.specs.Meaning.{QuotesHeader}
use Rattle.ca_text.specs.Command.{command_number}
use Rattle.ca_text.specs.declared.command.Command.TheVariants as command
use Rattle.ca_text.specs.Place.{At}
use Rattle.ca_wire.specs.declared.header.Header.{Header}
use Rattle.ca_wire.specs.Fields.{Fields}
use Rattle.ca_model.specs.Client.{Client, Connection, Phase, channel_on, connection_at}
use Rattle.ca_model.specs.ClientEnds.{after_taking}
use Rattle.ca_model.specs.Hears.{subscription_on}
use Rattle.ca_model.specs.History.{Cancel, Circuit, On, Sent, Told}
use Rattle.ca_model.specs.Speech.{Is, SubId}
use Rattle.ca_model.specs.Channels.{named}
use Rattle.ca_model.specs.ClientEvents.{channel_number, meant_by}
use Rattle.ca_model.specs.Events.{Event}
use Rattle.ca_model.specs.Events as event
use Rattle.ca_model.specs.Runs.{Happens}
use Rattle.ca_model.specs.ServerEvents.{StepHandles}
use Rattle.ca_model.specs.World.{ClientSide, Joined, Names, ServerSide, World}
use Rattle.ca_laws_parts.specs.Kept.{kept}
use Rattle.ca_laws_parts.specs.Held.{OnChannels}
use Rattle.ca_laws_parts.specs.Circuit.{HeldAt, IsLastCancel, IsQuiet}
use Rattle.ca_laws_runs.specs.Worlds.{IsOwnNext}

-- What is held of each circuit is held by what its server keeps for it.
abbrev pub AllCircuitsHeld : World → Type 0
AllCircuitsHeld w = (l : ℕ) (j : Joined) → At w.circuits l j → HeldAt (kept w l) w l

-- What is not shown of all runs yet, of the message t that a client reads next, about its message
-- s: what was meant by the request or the subscription that it finds, and that nothing was sent
-- since on a channel that it ends.
pub record IsHeard (n : Names) (x : Client) (on : Handle) (c : Circuit) (m : Fields) (t : Told)
    (s : Sent) : Type 0 where
  pub own : OnChannels n x c
  pub failed : (h : Handle) (p : Phase) → Is command.CreateChannelFail m
      → channel_on x on m.p1 ≡ Some (h, p)
      → IsQuiet c t.place (channel_number n h)
  pub cleared : (h : Handle) (p : Phase) → Is command.ClearChannel m
      → channel_on x on m.p2 ≡ Some (h, p)
      → IsQuiet c t.place (channel_number n h)
  pub confirms : (q : Handle) (channel number : ℕ) → Is command.EventAdd m → m.payload ≡ []
      → confirmed_by on m.p2 x.subscriptions ≡ Some q
      → s.intent ≡ On channel (Cancel number) → IsLastCancel c t.place (SubId (wire_of q)) number
  pub refuses : (h : Header) (q : Handle) → Is command.Error m → QuotesHeader m h
      → h.command ≡ command_number command.EventAdd
      → subscription_on x on h.p2 ≡ Some q
      → (number : ℕ) × Is command.EventAdd s.message
      × (named (SubId (wire_of q)) (meant_by n.subscriptions q) ≡ Some number)
      × ((p : ℕ) (r : Sent) (a : ℕ) → At c.up p r → r.intent ≡ On a (Cancel number) → ⊥)

-- Of the message that an end takes in this event it is known what it is about.
-- Other events take none.
abbrev pub IsKnownStep : World → Event → World → Type 0
IsKnownStep w (event.ClientStep k) new =
    (j : Joined) (x : ClientSide) (d : Connection) (m : Fields) (rest : List ℕ) (t : Told)
    (s : Sent) → At w.circuits k j → At w.clients j.client x
    → connection_at x.core j.at_client ≡ Some d → TakesFirst d.link m rest
    → At j.lists.down (length j.lists.heard) t → At j.lists.up t.place s
    → IsHeard x.names (after_taking j.at_client rest x.core) j.at_client j.lists m t s
IsKnownStep w (event.ServerStep k) new =
    (j : Joined) (y : ServerSide) (f : StepHandles w k j y new) → At w.circuits k j
    → At w.servers j.server y → IsOwnNext w new k j y f
IsKnownStep w e new = Unit {0}

-- So it is of each of these events in a row.
abbrev pub AllKnown : World → List Event → Type 0
AllKnown w es =
    (n : ℕ) (e : Event) (mid new : World) → FoldsTo Happens w (take n es) mid → At es n e
    → Happens mid e new → IsKnownStep mid e new
