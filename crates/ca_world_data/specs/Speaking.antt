-- Working: what a client's calls on a channel leave of the client, of the logs and of the circuits.
use Rattle.std.specs.Prelude.{ℕ, ◌≡◌, ◌≢◌, ◌⊎◌, ◌+◌, ◌≤◌, ◌++◌, List, [], ◌∷◌, Option, Some, None}
use Rattle.std.specs.Prelude.{Ok, Err, Result, Vec, map, slice_set, vec_capacity, vec_len}
use Rattle.std.specs.declared.alloc.Global.{Global}
use Rattle.ca_arena.specs.declared.handle.Handle.{Handle}
use Rattle.ca_text.specs.declared.refusal.Refusal.{Refusal}
use Rattle.ca_text.specs.declared.refusal.Refusal.TheVariants as refusal
use Rattle.ca_text.specs.Place.{At}
use Rattle.ca_model.specs.Answers.{Sending}
use Rattle.ca_model.specs.Client.{Client}
use Rattle.ca_model.specs.ClientCalls.{IsLive, LiveChannel}
use Rattle.ca_model.specs.History as history
use Rattle.ca_model.specs.ClientEvents.{intent_of, sent_on}
use Rattle.ca_model.specs.World.{ClientSide, Joined, Names, grown}
use Rattle.ca_world_data.specs.declared.client.ClientSide as real
use Rattle.ca_world_data.specs.declared.history.Line.{Line}
use Rattle.ca_world_data.specs.declared.joined.Joined.{Joined as Opened}
use Rattle.ca_world_data.specs.declared.way.ChannelRoute.{ChannelRoute}
use Rattle.ca_world_data.specs.Found.{AreNumbered, IsAt, IsNowhere}
use Rattle.ca_world_data.specs.Logs.{HasRoom}
use Rattle.ca_world_data.specs.Seen.{joined_of}

-- ---- one message on one circuit

-- the message as its circuit has it
abbrev pub stamped : Names → Sending → history.Sent
stamped n s = record { message = s.message; intent = intent_of n s.aim }

-- a circuit after these messages of client i
abbrev pub sent_up : (i : ℕ) → Names → List Sending → Joined → Joined
sent_up i n sent j = record j { lists = record j.lists { up = j.lists.up ++ sent_on i n sent j } }

-- a circuit after one more message of its client
abbrev pub with_up : history.Sent → Joined → Joined
with_up s j = record j { lists = record j.lists { up = j.lists.up ++ s ∷ [] } }

-- the message went up this circuit, if there is one
abbrev pub GoesUp : Option ℕ → history.Sent → List Joined → List Joined → Type 0
GoesUp None s ks ks' = ks' ≡ ks
GoesUp (Some k) s ks ks' = (j : Joined) → At ks k j → ks' ≡ slice_set ks k (with_up s j)

-- there is room for n more messages on this circuit, if there is one
abbrev pub HasRoomUp : (messages : ℕ) → Option ℕ → List Opened → Type 0
HasRoomUp n None ks = Unit {0}
HasRoomUp n (Some k) ks =
    (j : Opened) → At ks k j → vec_len j.lists.up + n ≤ vec_capacity j.lists.up

-- of the circuits that are open at client i, the one of this handle
abbrev pub GoesBy : Option ℕ → List Joined → (i : ℕ) → Handle → Type 0
GoesBy None ks i c = IsNowhere ks i c
GoesBy (Some k) ks i c = IsAt ks i c k

-- where messages on this channel go, if it is live: on which circuit, under which SID, and with how
-- many elements at most
abbrev pub IsWay : Client → List Joined → (i : ℕ) → Handle → ChannelRoute → Type 0
IsWay x ks i h w =
    (l : LiveChannel) → IsLive x h l → (w.sid ≡ l.native.sid) × (w.count ≡ l.native.count)
    × GoesBy w.circuit ks i l.circuit

-- ---- a call

-- the channel of this number has this handle, and there is room for what a call leaves
pub record IsReady (i c : ℕ) (x : real.ClientSide) (ks : List Opened)
    (logs : List (Vec Line Global)) (p : Handle × ChannelRoute) : Type 0 where
  pub named : At x.names.channels.items c p.0
  pub way : IsWay x.core (map joined_of ks) i p.0 p.1
  pub numbered : AreNumbered x.circuits.items (map joined_of ks) i
  pub lines : HasRoom 1 x.life logs
  pub messages : HasRoomUp 1 p.1.circuit ks
  pub requests : vec_len x.names.requests + 1 ≤ vec_capacity x.names.requests
  pub subscriptions : vec_len x.names.subscriptions + 1 ≤ vec_capacity x.names.subscriptions

-- no channel has this number, or there is no memory
abbrev pub IsUnready : (c : ℕ) → ClientSide → Refusal → Type 0
IsUnready c x refusal.OutOfMemory = (h : Handle) × At x.names.channels c h
IsUnready c x refusal.BadEvent = (h : Handle) → At x.names.channels c h → ⊥
IsUnready c x e = ⊥

-- refused, and that is in the log
pub record CallRefused (Refuses : Refusal → Type 0) (x : ClientSide)
    (logs : List (List history.Line)) (ks : List Joined) (x' : ClientSide)
    (logs' : List (List history.Line)) (ks' : List Joined) : Type 0 where
  pub e : Refusal
  pub other : e ≢ refusal.OutOfMemory
  pub refused : Refuses e
  pub side : x' ≡ x
  pub logged : logs' ≡ grown x.life (history.Refused e ∷ []) logs
  pub stay : ks' ≡ ks

-- Done: what was sent went up its circuits, these are the names, and the log has these lines more.
pub record CallDone (Sends : List Sending → Client → Type 0) (i : ℕ) (spoken names : Names)
    (lines : List history.Line) (x : ClientSide) (logs : List (List history.Line))
    (ks : List Joined) (x' : ClientSide) (logs' : List (List history.Line))
    (ks' : List Joined) : Type 0 where
  pub sent : List Sending
  pub does : Sends sent x'.core
  pub side : x' ≡ record x { core = x'.core; names = names }
  pub logged : logs' ≡ grown x.life lines logs
  pub goes : ks' ≡ map (sent_up i spoken sent) ks

-- A call on what a name of the client names: it is not there; or the call is refused; or done.
abbrev pub CallsOn : {K A : Type 0} → (i : ℕ) → (Named : K → Type 0)
    → (Answers : K → Result A Refusal → List Sending → Client → Type 0)
    → (spoken names : K → A → Names) → (lines : K → A → List history.Line) → ClientSide
    → List (List history.Line) → List Joined → Result (Unit {0}) Refusal → ClientSide
    → List (List history.Line) → List Joined → Type 0
CallsOn {K} {A} i Named Answers spoken names lines x logs ks (Ok _) x' logs' ks' =
    (h : K) × Named h
    × (CallRefused (λ (e : Refusal). Answers h (Err e) [] x.core) x logs ks x' logs' ks'
    ⊎ ((a : A)
    × CallDone (Answers h (Ok a)) i (spoken h a) (names h a) (lines h a) x logs ks x' logs' ks'))
CallsOn {K} i Named Answers spoken names lines x logs ks (Err refusal.OutOfMemory) x' logs' ks' =
    (h : K) × Named h × (x' ≡ x) × (logs' ≡ logs) × (ks' ≡ ks)
CallsOn {K} i Named Answers spoken names lines x logs ks (Err refusal.BadEvent) x' logs' ks' =
    ((h : K) → Named h → ⊥) × (x' ≡ x) × (logs' ≡ logs) × (ks' ≡ ks)
CallsOn i Named Answers spoken names lines x logs ks (Err _) x' logs' ks' = ⊥
