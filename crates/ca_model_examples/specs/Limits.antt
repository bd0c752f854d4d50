-- Vocabulary: calls and events at their limits: what may just be, and what may not.
use Rattle.std.specs.Prelude.{ℕ, ◌≡◌, Bool, true, List, [], ◌∷◌, None, Some, Ok, Err, length}
use Rattle.std.specs.Prelude.{nat_le}
use Rattle.ca_arena.specs.declared.handle.Handle.{Handle}
use Rattle.ca_dbr.specs.Elements.{doubles, longs}
use Rattle.ca_ids.specs.Table.{held}
use Rattle.ca_records.specs.Record.{unset}
use Rattle.ca_requests.specs.Requests as request
use Rattle.ca_text.specs.declared.refusal.Refusal.TheVariants as refusal
use Rattle.ca_text.specs.Limits.{output_limit}
use Rattle.ca_wire.specs.Messages.{disconnect}
use Rattle.ca_model.specs.ClientCalls.{ClientOpens, cancel_fault}
use Rattle.ca_model.specs.Hears.{Completes, becomes, subscription_on, without_request}
use Rattle.ca_model.specs.Server.{Server}
use Rattle.ca_records.specs.Calls.{PostFault}
use Rattle.ca_model.specs.ServerCalls.{Posts, disconnects}
use Rattle.ca_model.specs.Updates.{update_count}
use Rattle.ca_model.specs.Events as event
use Rattle.ca_model.specs.Runs.{CanBe, Happens}
use Rattle.ca_model.specs.World.{World}
use Rattle.ca_model_examples.specs.ClientRows.{alive, anna, first, greeted, home, leaving, second}
use Rattle.ca_model_examples.specs.ClientRows.{subscribed, to_temp}
use Rattle.ca_model_examples.specs.ClientCallEvents.{CanNot, anna_side, joined, live, names, server}
use Rattle.ca_model_examples.specs.ClientCallEvents.{world}
use Rattle.ca_model_examples.specs.ClientEndEvents.{accepted, between, link_of, put_reply}
use Rattle.ca_model_examples.specs.ClientEndEvents.{server_with, wanting, with_output}
use Rattle.ca_model_examples.specs.ServerWorld.{core_before, end_of, given, link, queues, temp_now}
use Rattle.ca_model_examples.specs.ServerWorld.{temp_open}
use Rattle.ca_model_examples.specs.Worlds.{long, temp_name}

-- ---- events

-- The moment may be the last one again.
abbrev pub SameMoment : Type 0
SameMoment = CanBe live (event.Tick 7)

-- All bytes that wait may move, and no more.
abbrev pub AllBytes : Type 0
AllBytes =
    CanBe (between (with_output (1 ∷ 2 ∷ 3 ∷ []) alive.core) (server_with (link_of [] [])))
    (event.Up 3 3)
    × CanBe (between alive.core (server_with (link_of [] (1 ∷ 2 ∷ [])))) (event.Down 3 2)
    × CanNot (between alive.core (server_with (link_of [] (1 ∷ 2 ∷ [])))) (event.Down 3 3)

-- A circuit is made after the others.
abbrev pub AcceptIsLast : Type 0
AcceptIsLast =
    let w : World = record (wanting server) { circuits = joined 0 second true [] ∷ [] } in
    Happens w (event.Accept 0) (record w {
      clients = anna_side greeted names ∷ anna_side (anna []) names ∷ [];
      servers = server_with (link_of [] []) ∷ [];
      circuits =
          joined 0 second true []
          ∷ record accepted { lists = record accepted.lists { client = 1 } } ∷ [];
    })

-- A datagram comes to a client at the moment of the world.
abbrev pub DatagramMoment : Type 0
DatagramMoment =
    let w : World = world (anna_side (anna []) names) [] [] in
    Happens w (event.ClientDatagram 0 home [])
    (record w {
      clients = anna_side (record (anna []) { moment = 7 }) names ∷ anna_side
          (anna []) names ∷ [];
    })

-- ---- a client's calls

-- A name that is none is refused by that, whatever the priority.
abbrev pub NameComesFirst : Type 0
NameComesFirst =
    ClientOpens (anna []) (record { name = []; priority = 100; now = 0 })
    (Err refusal.BadPriority) [] (anna []) → ⊥

-- 99 is a priority.
abbrev pub LastPriority : Type 0
LastPriority =
    (name : List ℕ)
    → ClientOpens (anna []) (record { name = name; priority = 99; now = 0 })
    (Err refusal.BadPriority) [] (anna []) → ⊥

-- A cancel is refused while too much waits for its EVENT_CANCEL.
abbrev pub CancelWaits : Type 0
CancelWaits =
    (bytes : List ℕ) → nat_le output_limit (length bytes) ≡ true
    → cancel_fault (with_output bytes subscribed) (Some to_temp) ≡ Some refusal.OutputFull

-- ---- what a client hears

-- An update counts on the circuit on which its channel is live.
abbrev pub UpdateElsewhere : Type 0
UpdateElsewhere = subscription_on subscribed second 65536 ≡ None

-- The reply to a request that is over tells nothing, and its IOID drains no more.
abbrev pub LateReplyDrains : Type 0
LateReplyDrains =
    Completes leaving.core put_reply first request.Put request.Draining
    (becomes (without_request first leaving.core))
    × (held (without_request first leaving.core).requests ≡ [])

-- ---- a server's calls

-- No value without an element is posted, and one of another type is not refused by its count.
abbrev pub PostsNotSo : Type 0
PostsNotSo =
    ((gone : Handle → Bool) (new : Server)
    → Posts (core_before [] []) temp_name (record { value = longs []; meta = unset }) 1 gone
    (Ok tt) new → ⊥)
    × (PostFault (temp_now (long 21) ∷ []) temp_name (doubles []) refusal.BadCount → ⊥)

-- A channel whose record was removed has no second SERVER_DISCONN.
abbrev pub DisconnectsOnce : Type 0
DisconnectsOnce =
    disconnects temp_name
    (end_of (link [] [])
    (given (record temp_open { retired = true }) ∷ given (record temp_open { cid = 8 }) ∷ []) []
    (queues [] [])) ≡ disconnect 8 ∷ []

-- An update with the count 0 has the elements that there are.
abbrev pub CountsPresent : Type 0
CountsPresent =
    update_count (record { sid = 65536; id = 1; data_type = 5; count = 0 }) (long 21) ≡ 1
