-- Vocabulary: what doing an event gives.
use Rattle.std.specs.Prelude.{ℕ, ◌≡◌, ◌≢◌, ◌<◌, ◌==◌, ◌⊎◌, true, List, [], Result, Ok, Err, Some}
use Rattle.std.specs.Prelude.{None, is_some, length, nat_lt, take}
use Rattle.ca_link.specs.Link.{LinkState, TakesFirst}
use Rattle.ca_queue.specs.declared.entry.SubKey.{SubKey}
use Rattle.ca_queue.specs.Queue.{Queue}
use Rattle.ca_queue.specs.Waiting.{taken}
use Rattle.ca_records.specs.Calls.{MayAdd, PostFits}
use Rattle.ca_records.specs.Puts.{Record, record_named}
use Rattle.ca_text.specs.declared.refusal.Refusal.{Refusal}
use Rattle.ca_text.specs.declared.refusal.Refusal.TheVariants.{BadEvent, OutOfMemory}
use Rattle.ca_text.specs.Limits.{output_limit}
use Rattle.ca_text.specs.Place.{At}
use Rattle.ca_wire.specs.Fields.{Fields}
use Rattle.ca_wire.specs.Stream.{NoneBegins}
use Rattle.ca_model.specs.Client.{Client, Connection, connection_at}
use Rattle.ca_model.specs.ClientEnds.{ClientGives}
use Rattle.ca_model.specs.ClientEvents.{waiting_down}
use Rattle.ca_model.specs.Events.{Event}
use Rattle.ca_model.specs.Events as event
use Rattle.ca_model.specs.Runs.{CanBe, Happens, HasClientEnd, HasServerEnd, IsClient}
use Rattle.ca_model.specs.Runs.{IsServer}
use Rattle.ca_model.specs.Server.{Server, ServerEnd}
use Rattle.ca_model.specs.ServerCalls.{AnswersDatagram}
use Rattle.ca_model.specs.ServerEvents.{withdrawals}
use Rattle.ca_model.specs.ServerSteps.{HasEnd}
use Rattle.ca_model.specs.World.{ClientSide, Joined, ServerSide, World}

-- a put of circuit k waits at the server
abbrev pub HasWaiting : (k : ℕ) → ServerSide → Type 0
HasWaiting k y = withdrawals (λ (n : ℕ). n == k) y.records ≢ []

-- some queue gives an entry
abbrev pub GivesSome : {E : Type 0} → List (Queue E) → Type 0
GivesSome {E} queues =
    (place : ℕ) × (q : Queue E) × (w : SubKey × E) × At queues place q
    × (taken q.events_on q.waiting ≡ Some w)

-- An update may leave the server's end of a circuit: its output has room, and a queue gives one.
pub record MayPump (core : Server) (j : Joined) : Type 0 where
  pub e : ServerEnd
  pub has : HasEnd core j.at_server e
  pub room : length e.link.output < output_limit
  pub gives : GivesSome e.queues

-- a whole message is the first of what came to an end
abbrev pub HasWhole : LinkState → Type 0
HasWhole l = (m : Fields) × (rest : List ℕ) × TakesFirst l m rest

-- The server's end of a circuit may take a message: its output has room, and the client sent one
-- more than it handled, which came whole. Of a client's end that has ended it is not known how much
-- of that it left.
pub record MayTake (core : Server) (j : Joined) : Type 0 where
  pub e : ServerEnd
  pub has : HasEnd core j.at_server e
  pub room : length e.link.output < output_limit
  pub sent : length j.lists.handled < length j.lists.up
  pub whole : j.lists.client_open ≡ true → HasWhole e.link

-- The client's end of a circuit may take a message: the server sent one more than it heard, which
-- came whole. Of a server's end that has ended it is not known how much of that it left.
pub record MayHear (core : Client) (j : Joined) : Type 0 where
  pub d : Connection
  pub connected : connection_at core j.at_client ≡ Some d
  pub sent : length j.lists.heard < length j.lists.down
  pub whole : j.lists.server_open ≡ true → HasWhole d.link

-- the client's life had a channel or a request
abbrev pub HasNames : ClientSide → Type 0
HasNames x = (x.names.channels ≢ []) ⊎ (x.names.requests ≢ [])

-- The event can be done, and may lack memory as a whole. It takes none if it is one of these: no
-- bytes up, or down for which the client sends nothing; a datagram without a message; a step of an
-- end that takes no message; a cut at a client whose life had no channel and no request; a cut at a
-- server's end of whose puts none waits, and a pump of such an end which no update may leave; a
-- finish of a record that is not busy; and a post, a removal or a new record that the server
-- refuses for another cause. A moment has come to clients before the one that lacks it
-- (`TicksBefore`).
abbrev pub MayLack : World → Event → Type 0
MayLack w (event.Up k n) = CanBe w (event.Up k n) × (n ≢ 0)
MayLack w (event.Down k n) =
    (at : CanBe w (event.Down k n))
    × (let bytes : List ℕ = waiting_down at.0.y at.0.j in
    ClientGives (at.0.x).core (at.0.j).at_client (take n bytes) (nat_lt n (length bytes))
    (Err OutOfMemory) [] (at.0.x).core)
MayLack w (event.ClientDatagram i from bytes) = IsClient w i × (NoneBegins bytes → ⊥)
MayLack w (event.ServerDatagram i from bytes) =
    (at : IsServer w i) × AnswersDatagram (at.y).core bytes (Err OutOfMemory)
MayLack w (event.ServerStep k) = (at : HasServerEnd w k) × MayTake (at.y).core at.j
MayLack w (event.ClientStep k) = (at : HasClientEnd w k) × MayHear (at.x).core at.j
MayLack w (event.CutClient k) = (at : HasClientEnd w k) × HasNames at.x
MayLack w (event.Pump k) =
    (at : HasServerEnd w k) × (HasWaiting k at.y ⊎ MayPump (at.y).core at.j)
MayLack w (event.CutServer k) = (at : HasServerEnd w k) × HasWaiting k at.y
MayLack w (event.Finish i name) =
    (at : IsServer w i)
    × ((r : Record) × (record_named (at.y).core.records name ≡ Some r) × (r.busy ≢ None))
MayLack w (event.Post i name e mask) = (at : IsServer w i) × PostFits (at.y).core.records name e
MayLack w (event.Remove i name) =
    (at : IsServer w i) × (is_some (record_named (at.y).core.records name) ≡ true)
MayLack w (event.Add i r) = (at : IsServer w i) × MayAdd (at.y).core.records r
MayLack w (event.Tick moment) = ⊥
MayLack w e = CanBe w e

-- From old the event happened and left new; or there was no memory for it, though it can be done;
-- or it cannot be done. A refusal changes nothing.
abbrev pub Does : World → Event → Result (Unit {0}) Refusal → World → Type 0
Does old e (Ok _) new = Happens old e new
Does old e (Err OutOfMemory) new = MayLack old e × (new ≡ old)
Does old e (Err BadEvent) new = (CanBe old e → ⊥) × (new ≡ old)
Does old e (Err _) new = ⊥
