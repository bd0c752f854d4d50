-- Working: the end of a subscription of a client.
use Rattle.std.specs.Prelude.{ℕ, ◌≡◌, ◌∷◌, List, [], Option, Some, None, Result, Vec, map}
use Rattle.std.specs.declared.alloc.Global.{Global}
use Rattle.ca_arena.specs.declared.handle.Handle.{Handle}
use Rattle.ca_monitor.specs.Subscriptions.{Subscription}
use Rattle.ca_text.specs.declared.refusal.Refusal.{Refusal}
use Rattle.ca_text.specs.declared.refusal.Refusal.TheVariants as refusal
use Rattle.ca_text.specs.Place.{At}
use Rattle.ca_model.specs.Client.{Client, Live, On, Standing, standing_at}
use Rattle.ca_model.specs.ClientCalls.{ClientUnsubscribes, StandsAs, wanted_by}
use Rattle.ca_model.specs.History.{Called, Intent, Line, Nothing}
use Rattle.ca_model.specs.ClientEvents.{cancelled}
use Rattle.ca_model.specs.World.{ClientSide, Joined}
use Rattle.ca_world_data.specs.declared.cancelling.Cancelling.{Cancelling}
use Rattle.ca_world_data.specs.declared.client.ClientSide as real
use Rattle.ca_world_data.specs.declared.history.Intent.{Intent as Meant}
use Rattle.ca_world_data.specs.declared.history.Line.{Line as Written}
use Rattle.ca_world_data.specs.declared.joined.Joined.{Joined as Opened}
use Rattle.ca_world_data.specs.Found.{AreNumbered}
use Rattle.ca_world_data.specs.Logs.{HasRoom}
use Rattle.ca_world_data.specs.Seen.{joined_of}
use Rattle.ca_world_data.specs.Speaking.{CallsOn, GoesBy, HasRoomUp}

-- where the EVENT_CANCEL of this subscription goes, whose channel stands so, and what it names;
-- none goes if that is not live
abbrev pub GoesAs : Handle → Subscription → List Joined → (i : ℕ) → Cancelling → Option Standing
    → Type 0
GoesAs s d ks i w (Some (On c (Live n rights))) =
    GoesBy w.circuit ks i c × (w.wanted ≡ wanted_by n.sid s d)
GoesAs s d ks i w there = w.circuit ≡ None

-- so it is of the subscription of its handle, if that stands
abbrev pub IsCancelWay : Client → List Joined → (i : ℕ) → Cancelling → Type 0
IsCancelWay x ks i w =
    (d : Subscription) → StandsAs x w.handle d → GoesAs w.handle d ks i w (standing_at x d.channel)

-- the subscription of this number has its handle, and there is room for what its end leaves
pub record IsReadyToCancel (i n : ℕ) (x : real.ClientSide) (ks : List Opened)
    (logs : List (Vec Written Global)) (w : Cancelling) : Type 0 where
  pub named : At x.names.subscriptions.items n (w.handle, w.meant)
  pub way : IsCancelWay x.core (map joined_of ks) i w
  pub numbered : AreNumbered x.circuits.items (map joined_of ks) i
  pub lines : HasRoom 1 x.life logs
  pub messages : HasRoomUp 1 w.circuit ks

-- no subscription has this number, or there is no memory
abbrev pub IsUnready : (n : ℕ) → real.ClientSide → Refusal → Type 0
IsUnready n x refusal.OutOfMemory = (s : Handle × Meant) × At x.names.subscriptions.items n s
IsUnready n x refusal.BadEvent = (s : Handle × Meant) → At x.names.subscriptions.items n s → ⊥
IsUnready n x e = ⊥

abbrev pub UnsubscribesOn : (i n : ℕ) → ClientSide → List (List Line) → List Joined
    → Result (Unit {0}) Refusal → ClientSide → List (List Line) → List Joined → Type 0
UnsubscribesOn i n x logs ks result x' logs' ks' =
    CallsOn i
    (At x.names.subscriptions n)
    (λ (s : Handle × Intent). ClientUnsubscribes x.core s.0)
    (λ (s : Handle × Intent) (u : Unit {0}). x.names)
    (λ (s : Handle × Intent) (u : Unit {0}). x.names)
    (λ (s : Handle × Intent) (u : Unit {0}). Called (cancelled s.1) Nothing ∷ [])
    x logs ks result x' logs' ks'
