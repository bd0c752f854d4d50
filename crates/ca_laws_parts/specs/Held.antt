-- Working: what a client's tables hold of one circuit: each id that may still come back, and
-- what it was given to.
use Rattle.std.specs.Prelude.{ℕ, ◌≡◌, ◌≤◌, ◌⊎◌, ◌&&◌, ◌||◌, ◌++◌, Bool, true, false, List, [], ◌∷◌}
use Rattle.std.specs.Prelude.{Some, None}
use Rattle.std.specs.Prelude.{filter, find, length, option_map, unwrap_or}
use Rattle.ca_text.specs.declared.command.Command.TheVariants as command
use Rattle.ca_text.specs.Limits.{arena_slots}
use Rattle.ca_text.specs.Place.{At}
use Rattle.ca_arena.specs.declared.handle.Handle.{Handle}
use Rattle.ca_ids.specs.Table.{Table, held, same_handle, under}
use Rattle.ca_ids.specs.Wire.{wire_of}
use Rattle.ca_wire.specs.Messages.{clear_request, create_request, event_add_request}
use Rattle.ca_requests.specs.Requests.{Request, was_sent_on}
use Rattle.ca_monitor.specs.Subscriptions.{Subscription, drains_in, stands_in}
use Rattle.ca_model.specs.Client.{Channel, Client, Connecting, Leaving, Live, Phase, is_on_in}
use Rattle.ca_model.specs.ClientCalls.{wanted_by}
use Rattle.ca_model.specs.ClientEnds.{is_connecting}
use Rattle.ca_model.specs.Speech.{Cid, Gives, Id, Ioid, Is, SubId}
use Rattle.ca_model.specs.History.{Ask, Circuit, Clear, Create, Intent, On, Sent, Subscribe}
use Rattle.ca_model.specs.Channels.{named}
use Rattle.ca_model.specs.ClientEvents.{channel_number, meant_by}
use Rattle.ca_model.specs.World.{Names}
use Rattle.ca_laws_parts.specs.Flows.{IsGiven, IsPending}

-- what has an id is given last to what is meant by its handle
abbrev pub IsMeant : Circuit → Intent → Id → Type 0
IsMeant c intent id = (k number : ℕ) × IsGiven c.up id k number × (named id intent ≡ Some number)

-- an id of this kind and number is held: by what passes the test under its handle
abbrev pub IsHeldBy : {T : Type 0} → (here : Handle → T → Bool) → Table T → (n : ℕ) → Type 0
IsHeldBy {T} here t n =
    (h : Handle) × (v : T) × (under t h ≡ Some v) × (wire_of h ≡ n) × (here h v ≡ true)

-- A table whose handles' wire ids are ids of one kind: those that pass the test have theirs on this
-- circuit. What is meant by a handle is told by its client's names.
pub record HoldsIdsBy {T : Type 0} (Awaits : ℕ → Type 0) (kind : ℕ → Id) (here : Handle → T → Bool)
    (meant : Handle → Intent) (t : Table T) (c : Circuit) : Type 0 where
  -- there are no more indices than ids have
  pub few : length t ≤ arena_slots
  -- For `own` of AnswersOwn: an id that may still come back is held, so that it is
  -- given to nothing else.
  pub busy : (p n : ℕ) → IsPending Awaits c p (kind n) → IsHeldBy here t n
  -- For `told` of CompletesOnce: what holds an id was given it last, so that the message that
  -- finds it is about it.
  pub own : (h : Handle) (v : T) → under t h ≡ Some v → here h v ≡ true
      → IsMeant c (meant h) (kind (wire_of h))

-- the same if the test does not look at handles
abbrev pub IsHeld : {T : Type 0} → (here : T → Bool) → Table T → (n : ℕ) → Type 0
IsHeld {T} here t n = IsHeldBy (λ (h : Handle). here) t n

abbrev pub HoldsIds : {T : Type 0} → (Awaits : ℕ → Type 0) → (kind : ℕ → Id) → (here : T → Bool)
    → (meant : Handle → Intent)
    → Table T → Circuit → Type 0
HoldsIds {T} Awaits kind here meant t c = HoldsIdsBy Awaits kind (λ (h : Handle). here) meant t c

-- ---- requests: those that were sent on the circuit of this handle, open or draining

abbrev pub HoldsRequests : (Awaits : ℕ → Type 0) (on : Handle) (meant : Handle → Intent)
    → Table Request → Circuit → Type 0
HoldsRequests Awaits on meant t c = HoldsIds Awaits Ioid (was_sent_on on) meant t c

-- ---- channels: those whose CREATE_CHAN went out on it, and whose clear was not answered

-- its CREATE_CHAN went out
abbrev pub is_asked : Phase → Bool
is_asked Connecting = false
is_asked p = true

abbrev pub HoldsChannels : (Awaits : ℕ → Type 0) (on : Handle) (number : Handle → ℕ) → Table Channel
    → Circuit → Type 0
HoldsChannels Awaits on number t c =
    HoldsIds Awaits Cid (is_on_in is_asked on) (λ (h : Handle). On (number h) Create) t c

-- ---- subscriptions: those that are on a channel that is live or leaves there, or drain there

-- the channel's EVENT_ADDs went out, and its clear was not answered; its caller did not clear it
abbrev pub is_subscribed : Phase → Bool
is_subscribed (Live n rights) = true
is_subscribed Leaving = true
is_subscribed p = false

abbrev pub has_id : Table Channel → (on : Handle) → Subscription → Bool
has_id channels on s =
    drains_in on s.stage ||
    (stands_in s.stage && unwrap_or
    (option_map (is_on_in is_subscribed on) (under channels s.channel)) false)

abbrev pub HoldsSubscriptions : (Awaits : ℕ → Type 0) (on : Handle) (meant : Handle → Intent)
    → Table Channel → Table Subscription
    → Circuit → Type 0
HoldsSubscriptions Awaits on meant channels t c =
    HoldsIds Awaits SubId (has_id channels on) meant t c

-- ---- all three: what a client's core, whose handles these names name, holds of the
-- circuit of this handle

pub record Holds (Awaits : ℕ → Type 0) (on : Handle) (n : Names) (x : Client)
    (c : Circuit) : Type 0 where
  pub channels : HoldsChannels Awaits on (channel_number n) x.channels c
  pub requests : HoldsRequests Awaits on (meant_by n.requests) x.requests c
  pub subscriptions : HoldsSubscriptions Awaits on
      (meant_by n.subscriptions) x.channels x.subscriptions c

-- ---- two tables that hold the same

-- What the one test names in one table the other test names in the other, under the same handle.
pub record IsAlike {T : Type 0} (here there : T → Bool) (t u : Table T) : Type 0 where
  pub few : length t ≤ arena_slots → length u ≤ arena_slots
  pub keeps : (g : Handle) (v : T) → under t g ≡ Some v → here v ≡ true → (w : T)
      × (under u g ≡ Some w) × (there w ≡ true)
  pub back : (g : Handle) (w : T) → under u g ≡ Some w → there w ≡ true → (v : T)
      × (under t g ≡ Some v) × (here v ≡ true)

-- Both clients hold the same ids of the circuit of this handle.
pub record HoldAlike (on : Handle) (x y : Client) : Type 0 where
  pub asked : IsAlike (is_on_in is_asked on) (is_on_in is_asked on) x.channels y.channels
  pub requests : IsAlike (was_sent_on on) (was_sent_on on) x.requests y.requests
  pub subscriptions : IsAlike (has_id x.channels on)
      (has_id y.channels on) x.subscriptions y.subscriptions

-- ---- a circuit that is wanted, and not connected yet

-- No channel's CREATE_CHAN went out on it.
abbrev pub NoneAsked : (on : Handle) → Client → Type 0
NoneAsked on x =
    (h : Handle) (ch : Channel) → under x.channels h ≡ Some ch → is_on_in is_asked on ch ≡ false

-- A client's tables have no more indices than ids have.
pub record AreFew (x : Client) : Type 0 where
  pub channels : length x.channels ≤ arena_slots
  pub requests : length x.requests ≤ arena_slots
  pub subscriptions : length x.subscriptions ≤ arena_slots

-- the channels that wait for it, in order of index
abbrev pub waiting_on : Handle → Client → List (Handle × Channel)
waiting_on on x = filter (λ (e : Handle × Channel). is_on_in is_connecting on e.1) (held x.channels)

-- ---- messages as the world stamps them

-- the EVENT_ADD of a subscription
abbrev pub event_add_of : Names → (sid : ℕ) → Handle × Subscription → Sent
event_add_of n sid e =
    record {
      message = event_add_request (wanted_by sid e.0 e.1) e.1.mask;
      intent = meant_by n.subscriptions e.0;
    }

-- the CREATE_CHAN of a channel
abbrev pub create_of : Names → Handle × Channel → Sent
create_of n e =
    record {
      message = create_request (wire_of e.0) e.1.name;
      intent = On (channel_number n e.0) Create;
    }

-- what is meant by each subscription in a table is to subscribe
abbrev pub MeanToSubscribe : Names → Table Subscription → Type 0
MeanToSubscribe n t = (g : Handle) (d : Subscription) → under t g ≡ Some d
    → (channel number : ℕ) × (meant_by n.subscriptions g ≡ On channel (Subscribe number))

-- the CLEAR_CHANNEL of a channel
abbrev pub clear_of : Names → (sid : ℕ) → Handle → Sent
clear_of n sid h =
    record { message = clear_request sid (wire_of h); intent = On (channel_number n h) Clear }

-- ---- a caller's requests

-- a message that asks for an answer gives its IOID, and concerns that alone
abbrev pub IsAsking : Sent → Type 0
IsAsking s = Is command.ReadNotify s.message ⊎ Is command.WriteNotify s.message

-- the names with one request more
abbrev pub with_request : Handle → Intent → Names → Names
with_request q intent n = record n { requests = n.requests ++ (q, intent) ∷ [] }

-- nothing has this handle as a name yet
abbrev pub IsNew : List (Handle × Intent) → Handle → Type 0
IsNew named q = find (λ (x : Handle × Intent). same_handle x.0 q) named ≡ None

-- ---- what names and lists have in common

-- A request, and a subscription, is on one channel: by its number, if its message gives the IOID
-- (plain writes have numbers of their own).
pub record OnChannels (n : Names) (x : Client) (c : Circuit) : Type 0 where
  pub requests : (p number : ℕ) (s : Sent) (q : Handle) (r : Request) → At c.up p s
      → Gives s.message (Ioid (wire_of q))
      → under x.requests q ≡ Some r → named (Ioid (wire_of q)) s.intent ≡ Some number
      → named (Ioid (wire_of q)) (meant_by n.requests q) ≡ Some number
      → (ask : Ask) × (s.intent ≡ On (channel_number n r.channel) ask)
  pub subscriptions : (p number : ℕ) (s : Sent) (g : Handle) (d : Subscription) → At c.up p s
      → under x.subscriptions g ≡ Some d → named (SubId (wire_of g)) s.intent ≡ Some number
      → named (SubId (wire_of g)) (meant_by n.subscriptions g) ≡ Some number
      → (ask : Ask) × (s.intent ≡ On (channel_number n d.channel) ask)

-- the names with one subscription more
abbrev pub with_subscription : Handle → Intent → Names → Names
with_subscription q intent n = record n { subscriptions = n.subscriptions ++ (q, intent) ∷ [] }
