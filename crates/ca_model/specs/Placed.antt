-- Working: where a client's requests, subscriptions and channels are, at each moment.
use Rattle.std.specs.Prelude.{◌≡◌, ◌≤◌, Bool, true, false, Some, is_none, option_and_then}
use Rattle.ca_arena.specs.declared.handle.Handle.{Handle}
use Rattle.ca_arena.specs.Arena.{place_at}
use Rattle.ca_ids.specs.Table.{Table, under}
use Rattle.ca_requests.specs.Requests.{Request}
use Rattle.ca_monitor.specs.Subscriptions.{Subscription, drains_in}
use Rattle.ca_model.specs.Client.{Channel, Clearing, Client, ClientCircuit, Leaving, Live, On}
use Rattle.ca_model.specs.Client.{Phase, is_on_in}
use Rattle.ca_model.specs.ClientEnds.{is_connecting}

-- the channel was live on its circuit, and its clear is not answered
abbrev pub was_live : Phase → Bool
was_live (Live n rights) = true
was_live Leaving = true
was_live Clearing = true
was_live p = false

-- A channel is in the table, and was live on this circuit.
abbrev pub WasLiveIn : Table Channel → (channel on : Handle) → Type 0
WasLiveIn channels channel on =
    (ch : Channel) × (under channels channel ≡ Some ch) × (is_on_in was_live on ch ≡ true)

-- the same of a client's channel
abbrev pub WasLive : Client → (channel on : Handle) → Type 0
WasLive x channel on = WasLiveIn x.channels channel on

-- Requests are on circuits on which their channels were live, and there alone ids of
-- subscriptions drain.
pub record AreAttached (channels : Table Channel) (asked : Table Request)
    (subscribed : Table Subscription) : Type 0 where
  pub requests : (q : Handle) (r : Request) → under asked q ≡ Some r
      → WasLiveIn channels r.channel r.circuit
  pub subscriptions : (g : Handle) (d : Subscription) (on : Handle) → under subscribed g ≡ Some d
      → drains_in on d.stage ≡ true
      → WasLiveIn channels d.channel on

-- a client's are
abbrev pub Attached : Client → Type 0
Attached x = AreAttached x.channels x.requests x.subscriptions

-- A channel on a circuit waits for it if that is not connected, and only then.
abbrev pub AreWaitingIn : Table Channel → Table ClientCircuit → Type 0
AreWaitingIn channels circuits =
    (h : Handle) (ch : Channel) (c : Handle) (p : Phase) → under channels h ≡ Some ch
    → ch.standing ≡ On c p
    → is_connecting p ≡ is_none
    (option_and_then (λ (d : ClientCircuit). d.connection) (under circuits c))

-- a client's do
abbrev pub AreWaiting : Client → Type 0
AreWaiting x = AreWaitingIn x.channels x.circuits

-- Requests and subscriptions are where their channels are, and channels are on circuits that are
-- connected or wanted.
pub record ArePlaced (channels : Table Channel) (asked : Table Request)
    (subscribed : Table Subscription) (circuits : Table ClientCircuit) : Type 0 where
  pub attached : AreAttached channels asked subscribed
  pub waiting : AreWaitingIn channels circuits

-- a client's are
abbrev pub IsPlaced : Client → Type 0
IsPlaced x = ArePlaced x.channels x.requests x.subscriptions x.circuits

-- No request is on the channel, and no id of a subscription to it drains.
pub record HasNothingOutIn (h : Handle) (asked : Table Request)
    (subscribed : Table Subscription) : Type 0 where
  pub requests : (q : Handle) (r : Request) → under asked q ≡ Some r → r.channel ≡ h → ⊥
  pub subscriptions : (g : Handle) (d : Subscription) (on : Handle) → under subscribed g ≡ Some d
      → drains_in on d.stage ≡ true → d.channel ≡ h → ⊥

-- a client's channel is so
abbrev pub HasNothingOut : Handle → Client → Type 0
HasNothingOut h x = HasNothingOutIn h x.requests x.subscriptions

-- The table gave this handle.
abbrev pub WasGiven : {T : Type 0} → Table T → Handle → Type 0
WasGiven t h = h.generation ≤ (place_at t h.index).generation
