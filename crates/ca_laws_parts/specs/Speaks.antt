-- Working: what holds of a client's core so that all that it sends are messages.
use Rattle.std.specs.Prelude.{ℕ, ◌≡◌, ◌<◌, ◌≤◌, ◌^◌, List, Some, length}
use Rattle.ca_arena.specs.declared.handle.Handle.{Handle}
use Rattle.ca_ids.specs.Table.{Table, under}
use Rattle.ca_monitor.specs.Subscriptions.{Subscription}
use Rattle.ca_requests.specs.Meaning.{IsPlain}
use Rattle.ca_requests.specs.Requests.{Request}
use Rattle.ca_search.specs.Searches as search
use Rattle.ca_text.specs.Limits.{channel_name_limit, payload_limit, priority_limit}
use Rattle.ca_text.specs.Place.{At}
use Rattle.ca_wire.specs.Message.{IsMessage}
use Rattle.ca_model.specs.Answers.{Sending}
use Rattle.ca_model.specs.Client.{Channel, Client, ClientCircuit, Live, Native, On}

-- So it is of all that a table holds.
abbrev pub AllHeld : {T : Type 0} → (T → Type 0) → Table T → Type 0
AllHeld {T} P t = (h : Handle) (v : T) → under t h ≡ Some v → P v

-- a channel whose name and priority fit messages, and what it was created with if it is live
pub record ChannelFits (ch : Channel) : Type 0 where
  pub name : length ch.name ≤ channel_name_limit
  pub priority : ch.priority ≤ priority_limit
  pub native : (c : Handle) (n : Native) (rights : ℕ) → ch.standing ≡ On c (Live n rights)
      → (n.sid < 2 ^ 32) × (n.count < 2 ^ 32)

-- a subscription whose type and count do
abbrev pub SubscriptionFits : Subscription → Type 0
SubscriptionFits d = (d.data_type < 2 ^ 16) × (d.count < 2 ^ 32)

-- a request that asks for no display data
abbrev pub RequestFits : Request → Type 0
RequestFits r = IsPlain r.asked

-- a circuit whose priority does
abbrev pub CircuitFits : ClientCircuit → Type 0
CircuitFits c = c.priority ≤ priority_limit

-- searches whose CIDs and names do
abbrev pub SearchesFit : List (ℕ × search.Channel) → Type 0
SearchesFit cs =
    (i : ℕ) (c : ℕ × search.Channel) → At cs i c → (c.0 < 2 ^ 32)
    × (length c.1.name ≤ channel_name_limit)

-- a client of which all that does; its reads ask for no display data, as no event asks for any
pub record ClientFits (x : Client) : Type 0 where
  pub user : length x.peer.user < payload_limit
  pub host : length x.peer.host < payload_limit
  pub channels : AllHeld ChannelFits x.channels
  pub requests : AllHeld RequestFits x.requests
  pub subscriptions : AllHeld SubscriptionFits x.subscriptions
  pub circuits : AllHeld CircuitFits x.circuits
  pub searches : SearchesFit x.searches

-- all that is sent are messages
abbrev pub SendsMessages : List Sending → Type 0
SendsMessages sent = (i : ℕ) (s : Sending) → At sent i s → IsMessage s.message

-- A client is so after it sent these, and they are messages.
abbrev pub SpeaksWell : Client → List Sending → Type 0
SpeaksWell y sent = ClientFits y × SendsMessages sent
