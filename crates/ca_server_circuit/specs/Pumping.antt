-- Working: updates leave the queues of an end.
use Rattle.std.specs.Prelude.{ℕ, ◌≡◌, ◌⊎◌, Bool, true, false, List, [], Ok, Err, Result}
use Rattle.std.specs.List.{FoldsTo}
use Rattle.std.specs.declared.alloc.AllocError.{AllocError}
use Rattle.ca_arena.specs.declared.handle.Handle.{Handle}
use Rattle.ca_records.specs.Store.{Store}
use Rattle.ca_text.specs.declared.command.Command.TheVariants as command
use Rattle.ca_wire.specs.declared.scalar_message.ScalarMessage.{ScalarMessage}
use Rattle.ca_wire.specs.declared.requests.Wanted.{Wanted}
use Rattle.ca_model.specs.Ends as why
use Rattle.ca_model.specs.Server.{ServerCircuit, ServerEnd}
use Rattle.ca_model.specs.Server as server
use Rattle.ca_model.specs.ServerSteps.{Leaves, Rests, Update}
use Rattle.ca_server_circuit.specs.Concerned.{bytes_on}
use Rattle.ca_server_circuit.specs.Ending.{WithdrawsAll}
use Rattle.ca_server_circuit.specs.CircuitOutput.{emptied, emptied_end}
use Rattle.ca_server_circuit.specs.Subscribing.{events_of}
use Rattle.ca_server_subscriptions.specs.Subscribed.{HasRoom}

-- One update went into the output; none may; or there is no memory for the next, and the
-- output is as it was.
abbrev pub PumpsOne : ServerEnd → Result Bool AllocError → ServerEnd → Type 0
PumpsOne old (Ok true) new = (u : Update) × Leaves old u new
PumpsOne old (Ok false) new = Rests old × (new ≡ old)
PumpsOne old (Err e) new =
    ((u : Update) × (x : ServerEnd) × Leaves old u x) × (new.link.output ≡ old.link.output)
    × (new.channels ≡ old.channels)

-- Updates went into the output until none may; or there is no memory for the next, and the output
-- has those before it.
abbrev pub PumpsEnd : ServerEnd → Result (Unit {0}) AllocError → ServerEnd → Type 0
PumpsEnd old (Ok _) new = (us : List Update) × FoldsTo Leaves old us new × Rests new
PumpsEnd old (Err e) new =
    (us : List Update) × (after : ServerEnd) × FoldsTo Leaves old us after × (Rests after → ⊥)
    × (new.link.output ≡ after.link.output)
    × (new.channels ≡ old.channels)

-- Updates left until none may, and with them all bytes that waited, which are these; or there is no
-- memory for the next, and those before it left.
abbrev pub PumpsOver : ServerEnd → Result (Unit {0}) AllocError → ServerEnd → List ℕ → Type 0
PumpsOver old (Ok _) new out =
    (us : List Update) × (after : ServerEnd) × FoldsTo Leaves old us after × Rests after
    × (out ≡ after.link.output) × (new ≡ emptied_end after)
PumpsOver old (Err e) new out =
    (us : List Update) × (after : ServerEnd) × FoldsTo Leaves old us after × (Rests after → ⊥)
    × (out ≡ after.link.output) × (new.link.output ≡ []) × (new.channels ≡ old.channels)

-- Updates leave the queues of a circuit's end; one without memory for the next has ended.
abbrev pub PumpsAt : Handle → ServerCircuit → Store → ServerCircuit → Store → Type 0
PumpsAt h (server.Open e) s new t =
    (us : List Update) × (after : ServerEnd) × FoldsTo Leaves e us after
    × ((Rests after × (new ≡ server.Open after) × HasRoom (events_of after) × (t ≡ s))
    ⊎ ((Rests after → ⊥) × (new ≡ server.Ended why.OutOfMemory after.link.output)
    × WithdrawsAll h s t))
PumpsAt h (server.Ended w left) s new t = (new ≡ server.Ended w left) × (t ≡ s)

-- the update that shows one element to whoever asked so, by these eight bytes
abbrev pub scalar_update : Wanted → ℕ → ScalarMessage
scalar_update w n =
    record { command = command.EventAdd; data_type = w.data_type; id = w.id; payload = n }

-- Updates leave the queues of a circuit's end, and then all bytes that wait leave it, or that its
-- end left: these.
abbrev pub PumpsOverAt : Handle → ServerCircuit → Store → ServerCircuit → Store → List ℕ → Type 0
PumpsOverAt h c s new t out =
    (mid : ServerCircuit) × PumpsAt h c s mid t × (out ≡ bytes_on mid) × (new ≡ emptied mid)
