-- Working: a client clears a channel.
use Rattle.std.specs.Prelude.{ℕ, ◌≡◌, ◌+◌, ◌≤◌, List, Option, Some, None, Result, Vec, length, map}
use Rattle.std.specs.declared.alloc.Global.{Global}
use Rattle.ca_arena.specs.declared.handle.Handle.{Handle}
use Rattle.ca_requests.specs.Requests.{asks_on}
use Rattle.ca_text.specs.declared.refusal.Refusal.{Refusal}
use Rattle.ca_text.specs.Place.{At}
use Rattle.ca_model.specs.Answers.{Notice}
use Rattle.ca_model.specs.Client.{Client, Live, On, Standing, disconnections, standing_at}
use Rattle.ca_model.specs.ClientCalls.{ClientClears}
use Rattle.ca_model.specs.History.{Called, Line}
use Rattle.ca_model.specs.History as history
use Rattle.ca_model.specs.World.{ClientSide, Joined}
use Rattle.ca_world_data.specs.declared.client.ClientSide as real
use Rattle.ca_world_data.specs.declared.history.Line.{Line as Written}
use Rattle.ca_world_data.specs.declared.joined.Joined.{Joined as Opened}
use Rattle.ca_world_data.specs.declared.way.ChannelRoute.{ChannelRoute}
use Rattle.ca_world_data.specs.Found.{AreNumbered}
use Rattle.ca_world_data.specs.Logs.{HasRoom}
use Rattle.ca_world_data.specs.Seen.{joined_of}
use Rattle.ca_world_data.specs.Speaking.{CallsOn, GoesBy, HasRoomUp}
use Rattle.ca_world_data.specs.Telling.{call_lines}

-- where the CLEAR_CHANNEL of a channel that stands so goes, and under which SID; none
-- goes if it is not live
abbrev pub ClearsAs : List Joined → (i : ℕ) → ChannelRoute → Option Standing → Type 0
ClearsAs ks i w (Some (On c (Live n rights))) = GoesBy w.circuit ks i c × (w.sid ≡ n.sid)
ClearsAs ks i w there = w.circuit ≡ None

abbrev pub IsClearWay : Client → List Joined → (i : ℕ) → Handle → ChannelRoute → Type 0
IsClearWay x ks i h w = ClearsAs ks i w (standing_at x h)

-- the channel of this number has this handle, and there is room for what its end leaves, if it
-- reports each request at most once
pub record IsReadyToClear (i c : ℕ) (x : real.ClientSide) (ks : List Opened)
    (logs : List (Vec Written Global)) (p : Handle × ChannelRoute) : Type 0 where
  pub named : At x.names.channels.items c p.0
  pub way : IsClearWay x.core (map joined_of ks) i p.0 p.1
  pub numbered : AreNumbered x.circuits.items (map joined_of ks) i
  pub lines : HasRoom (length x.names.requests.items + 1) x.life logs
  pub messages : HasRoomUp 1 p.1.circuit ks

-- to clear it is in the log, and then what that told
abbrev pub clear_lines : (c : ℕ) → ClientSide → List Notice → List Line
clear_lines c x notices =
    call_lines (Called (history.On c history.Clear) history.Nothing) x.names notices

abbrev pub ClearsOn : (i c : ℕ) → ClientSide → List (List Line) → List Joined
    → Result (Unit {0}) Refusal → ClientSide → List (List Line) → List Joined → Type 0
ClearsOn i c x logs ks result x' logs' ks' =
    CallsOn i
    (At x.names.channels c)
    (λ (h : Handle). ClientClears x.core h)
    (λ (h : Handle) (notices : List Notice). x.names)
    (λ (h : Handle) (notices : List Notice). x.names)
    (λ (h : Handle) (notices : List Notice). clear_lines c x notices)
    x logs ks result x' logs' ks'

-- Of a client's channels none has more requests that are open than have names.
abbrev pub TellFew : ClientSide → Type 0
TellFew x = (h : Handle) → length (disconnections (asks_on h) x.core) ≤ length x.names.requests
