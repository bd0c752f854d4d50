-- Working: what holds of one circuit of a world, by its client's core and names.
use Rattle.std.specs.Prelude.{ℕ, ◌≡◌, ◌<◌, ◌⊎◌, ◌++◌, true, List, [], ◌∷◌, Some, length}
use Rattle.ca_text.specs.Command.{command_number}
use Rattle.ca_text.specs.declared.command.Command.TheVariants as command
use Rattle.ca_text.specs.Place.{At}
use Rattle.ca_arena.specs.declared.handle.Handle.{Handle}
use Rattle.ca_ids.specs.Table.{Table, same_handle, under}
use Rattle.ca_ids.specs.Wire.{wire_of}
use Rattle.ca_model.specs.Answers.{Sending}
use Rattle.ca_model.specs.Client.{Channel, Client, Phase, channel_on}
use Rattle.ca_model.specs.Hears.{subscription_on}
use Rattle.ca_model.specs.Speech.{Id, In, Is, SubId}
use Rattle.ca_model.specs.History.{Ask, Cancel, Circuit, Clear, Create, Intent, On, Reply, Sent}
use Rattle.ca_model.specs.History.{Subscribe, Told}
use Rattle.ca_model.specs.Channels.{named}
use Rattle.ca_model.specs.ClientEvents.{channel_number, intent_of, meant_by, sent_on}
use Rattle.ca_model.specs.World.{ClientSide, Joined, Names, World}
use Rattle.ca_laws_parts.specs.Flows.{Awaits, Ends, Flows, IsCidOf}
use Rattle.ca_laws_parts.specs.Replies.{IsCidAt}
use Rattle.ca_model.specs.Due.{Knows}
use Rattle.ca_wire.specs.Header.{HeaderFits}
use Rattle.ca_wire.specs.Message.{header_of}
use Rattle.ca_laws_parts.specs.Held.{Holds, OnChannels}
use Rattle.ca_monitor.specs.Subscriptions.{confirmed_by}
use Rattle.ca_requests.specs.Meaning.{QuotesHeader}
use Rattle.ca_wire.specs.declared.header.Header.{Header}
use Rattle.ca_wire.specs.Fields.{Fields}
use Rattle.ca_model.specs.Placed.{WasGiven}

-- a message as the world stamps it
abbrev pub stamped : Names → Sending → Sent
stamped n s = record { message = s.message; intent = intent_of n s.aim }

-- a circuit after its client, which has this number, sent these
abbrev pub sent_to : (i : ℕ) → Names → List Sending → Joined → Joined
sent_to i n sent j = record j { lists = record j.lists { up = j.lists.up ++ sent_on i n sent j } }

-- Each CREATE_CHAN of the client has the CID of its channel's handle.
abbrev pub AreCids : Names → Circuit → Type 0
AreCids n c = (k channel : ℕ) (s : Sent) → At c.up k s → s.intent ≡ On channel Create
    → (h : Handle) × At n.channels channel h × (s.message.p1 ≡ wire_of h)

-- The ids in flight on a circuit mean their own, and while its end is open its client holds them.
-- These places are those for which its server keeps something.
pub record HeldOn (kept : List ℕ) (n : Names) (x : Client) (j : Joined) : Type 0 where
  pub flows : Flows (Awaits j.lists kept) j.lists
  pub cids : j.lists.client_open ≡ true → AreCids n j.lists
  pub holds : j.lists.client_open ≡ true → Holds (Awaits j.lists kept) j.at_client n x j.lists

-- Names name only what the table gave.
abbrev pub AreGiven : {T : Type 0} → List (Handle × Intent) → Table T → Type 0
AreGiven names t = (i : ℕ) (e : Handle × Intent) → At names i e → WasGiven t e.0

-- That holds of circuit k of a world, whose client is there.
abbrev pub HeldAt : (kept : List ℕ) → World → (k : ℕ) → Type 0
HeldAt kept w k =
    (j : Joined) × (x : ClientSide) × At w.circuits k j × At w.clients j.client x
    × HeldOn kept x.names x.core j

-- Circuits whose ends at one client are open have handles of their own there.
abbrev pub HaveHandles : World → Type 0
HaveHandles w =
    (k l : ℕ) (a b : Joined) → At w.circuits k a → At w.circuits l b → a.client ≡ b.client
    → a.lists.client_open ≡ true → b.lists.client_open ≡ true
    → same_handle a.at_client b.at_client ≡ true → k ≡ l

-- After this place nothing was sent on the channel.
abbrev pub IsQuiet : Circuit → (place channel : ℕ) → Type 0
IsQuiet c place channel =
    (l : ℕ) (r : Sent) (ask : Ask) → place < l → At c.up l r → r.intent ≡ On channel ask → ⊥

-- Before this place the subscription of this number was subscribed to, and after it
-- nothing was sent about it.
abbrev pub IsLastCancel : Circuit → (place : ℕ) → Id → (number : ℕ) → Type 0
IsLastCancel c place id number = (p : ℕ) (r : Sent) → At c.up p r → named id r.intent ≡ Some number
    → ((p < place) × ((a : ℕ) × (r.intent ≡ On a (Subscribe number)))) ⊎ (p ≡ place)

-- What is known of the message that a client reads next on a circuit: it is about one that the
-- client sent; whether it is a reply, and what was meant by what it is about, by what it finds in
-- the client's tables; and that nothing was sent since on a channel that it ends.
pub record IsKnown (n : Names) (x : Client) (on : Handle) (c : Circuit) (m : Fields) : Type 0 where
  pub t : Told
  pub at : At c.down (length c.heard) t
  pub is : t.message ≡ m
  pub s : Sent
  pub there : At c.up t.place s
  pub reply : (Is command.AccessRights m → ⊥) → (Is command.ServerDisconnect m → ⊥)
      → (Is command.EventAdd m → m.payload ≡ []) → t.cause ≡ Reply
  pub own : OnChannels n x c
  pub failed : (h : Handle) (p : Phase) → Is command.CreateChannelFail m
      → channel_on x on m.p1 ≡ Some (h, p)
      → (s.intent ≡ On (channel_number n h) Create) × IsQuiet c t.place (channel_number n h)
  pub cleared : (h : Handle) (p : Phase) → Is command.ClearChannel m
      → channel_on x on m.p2 ≡ Some (h, p)
      → (s.intent ≡ On (channel_number n h) Clear) × IsQuiet c t.place (channel_number n h)
  pub confirms : (q : Handle) → Is command.EventAdd m → m.payload ≡ []
      → confirmed_by on m.p2 x.subscriptions ≡ Some q
      → (channel number : ℕ) × (s.intent ≡ On channel (Cancel number))
      × IsLastCancel c t.place (SubId (wire_of q)) number
  pub refuses : (h : Header) (q : Handle) → Is command.Error m → QuotesHeader m h
      → h.command ≡ command_number command.EventAdd
      → subscription_on x on h.p2 ≡ Some q
      → (number : ℕ) × Is command.EventAdd s.message
      × (named (SubId (wire_of q)) (meant_by n.subscriptions q) ≡ Some number)
      × ((p : ℕ) (r : Sent) (a : ℕ) → At c.up p r → r.intent ≡ On a (Cancel number) → ⊥)

-- Each channel of a client has a number.
abbrev pub AreNumbered : Names → Client → Type 0
AreNumbered n x =
    (h : Handle) (ch : Channel) → under x.channels h ≡ Some ch
    → At n.channels (channel_number n h) h

-- What is known of the message that a server handles next on a circuit, with these replies, if it
-- keeps something for other places then: it is one that the client sent; a WRITE is handled on the
-- channel for which it was meant; the server keeps nothing new but for this message, and nothing
-- for it if it has its one reply, nor for what it ends.
pub record IsNext (kept now : List ℕ) (c : Circuit) (k : Knows) (m : Fields)
    (replies : List Fields) : Type 0 where
  pub s : Sent
  pub at : At c.up (length c.handled) s
  pub is : s.message ≡ m
  pub fits : HeaderFits (header_of m)
  pub writes : Is command.Write m → (cid : ℕ) → IsCidAt k m.p1 cid
      → IsCidOf c.up (length c.handled) s.intent cid
  pub were : (p : ℕ) → In now p → In kept p ⊎ (p ≡ length c.handled)
  pub gone : (r : Fields) → replies ≡ r ∷ [] → In now (length c.handled) → ⊥
  pub over : (p : ℕ) (r : Sent) → At c.up p r → p < length c.handled → Ends s.intent r.intent
      → In now p → ⊥
