-- Vocabulary: what events leave of a small server's world, and which cannot be done.
use Rattle.std.specs.Prelude.{ℕ, ◌≡◌, pos, true, false, List, [], ◌∷◌, ◌++◌, Some, None, drop}
use Rattle.std.specs.Prelude.{take}
use Rattle.ca_arena.specs.declared.handle.Handle.{Handle}
use Rattle.ca_text.specs.declared.command.Command.TheVariants as command
use Rattle.ca_text.specs.Status.{normal}
use Rattle.ca_dbr.specs.Elements.{longs}
use Rattle.ca_wire.specs.Fields.{Fields}
use Rattle.ca_wire.specs.Message.{spelled, spelling}
use Rattle.ca_wire.specs.Messages.{disconnect, put_request, search_request, update, version_request}
use Rattle.ca_model.specs.History.{Added, Applied, Cause, Entry, Finished, Posted, Removal, Removed}
use Rattle.ca_model.specs.History.{Told, Update, Withdrawn}
use Rattle.ca_model.specs.Server.{Open, Server, ServerEnd}
use Rattle.ca_model.specs.ServerSteps.{LacksMemory}
use Rattle.ca_model.specs.Events.{Event}
use Rattle.ca_model.specs.Events as event
use Rattle.ca_model.specs.Runs.{CanBe, Happens}
use Rattle.ca_model.specs.World.{Joined, RecordSide, World, server_begun}
use Rattle.ca_records.specs.Puts.{Record, new_record}
use Rattle.ca_model_examples.specs.ServerRows.{slow, slow_name, wave}
use Rattle.ca_model_examples.specs.ServerWorld.{at, before, core_before, core_of, creations, end_0}
use Rattle.ca_model_examples.specs.ServerWorld.{end_1, end_of, entry_2, first, free, given, handled}
use Rattle.ca_model_examples.specs.ServerWorld.{joined, joined_0, joined_1, link, lists, number_2}
use Rattle.ca_model_examples.specs.ServerWorld.{on_temp, put_by, queues, second, setting, side_of}
use Rattle.ca_model_examples.specs.ServerWorld.{sides_before, slow_busy, slow_key, slow_now}
use Rattle.ca_model_examples.specs.ServerWorld.{slow_open, slow_side, standing, temp_key, temp_now}
use Rattle.ca_model_examples.specs.ServerWorld.{temp_open, temp_side, waits_by, world_of, written}
use Rattle.ca_model_examples.specs.Worlds.{long, step, temp, temp_name}

-- ---- a plain write

-- TEMP is written with 22, on circuit 0
abbrev pub writing : Fields
writing =
    put_request command.Write (record { sid = 65536; id = 0; data_type = 5; count = 1 })
    (0 ∷ 0 ∷ 0 ∷ 22 ∷ [])

-- The write is applied at place 5, and its number waits for subscription 1 on circuit 0 and for 3
-- on circuit 1, not for 4.
abbrev pub written_22 : World
written_22 =
    world_of (
    side_of sides_before (
    core_of (temp_now (written 22) ∷ slow_busy ∷ []) (
    given (Open (end_0 (link [] []) (entry_2 ∷ (temp_key 1, written 22) ∷ []))) ∷ given
    (Open (end_1 (link [] []) ((temp_key 3, written 22) ∷ []))) ∷ []
    ) 1
    )
    ) (
    joined_0 [] (step 1 2 3 ∷ []) 2 1
    (number_2 ∷ (temp_key 1, (2, Update 1)) ∷ []) ∷ joined_1 [] [] 2
    ((temp_key 3, (2, Update 1)) ∷ []) ∷ []
    ) (Applied 0 5 0 (written 22) false ∷ [])

abbrev pub WriteHappens : Type 0
WriteHappens = Happens (before (spelling writing) []) (event.ServerStep 0) written_22

-- ---- updates leave

-- the updates of 2 and 1, in the order of their entries, each about its EVENT_ADD
abbrev pub update_told : (id place post value : ℕ) → Told
update_told id place post value =
    record {
      message = update 5 1 normal id (0 ∷ 0 ∷ 0 ∷ value ∷ []);
      place = place;
      cause = Update post;
    }

abbrev pub pumped : World
pumped =
    world_of (
    side_of sides_before (
    core_of (temp_now (written 22) ∷ slow_busy ∷ []) (
    given (Open
    (end_0 (link []
    (spelling (update_told 2 3 0 0).message ++ spelling (update_told 1 2 1 22).message)) []))
    ∷ given (Open (end_1 (link [] []) ((temp_key 3, written 22) ∷ []))) ∷ []
    ) 1
    )
    ) (
    joined_0 (update_told 2 3 0 0 ∷ update_told 1 2 1 22 ∷ [])
    (step 1 2 3 ∷ []) 2 1 [] ∷ joined_1 [] [] 2 ((temp_key 3, (2, Update 1)) ∷ []) ∷ []
    ) (Applied 0 5 0 (written 22) false ∷ [])

abbrev pub PumpHappens : Type 0
PumpHappens = Happens written_22 (event.Pump 0) pumped

-- ---- a circuit is cut

-- a circuit whose end at the server has ended, and left these bytes
abbrev pub ended_0 : List ℕ → Joined
ended_0 left = record (joined first (lists true false [] (handled 5)) [] [] []) { left_down = left }

abbrev pub ended_1 : List ℕ → Joined
ended_1 left =
    record (joined second (lists true false [] (handled 6)) [] [] []) { left_down = left }

-- Its put that waits is withdrawn; what waited to be sent may still come.
abbrev pub cut : World
cut =
    world_of (
    side_of (temp_side ∷ slow_side (Some (at 1 4)) (at 1 5 ∷ []) ∷ []) (
    core_of (temp_now (long 21) ∷ slow_now (written 30) (Some (put_by second 40))
    (waits_by second 42 32 ∷ []) ∷ []) (free ∷ given (Open (end_1 (link [] []) [])) ∷ []) 0
    )
    ) (ended_0 (1 ∷ 2 ∷ 3 ∷ []) ∷ joined_1 [] [] 1 [] ∷ []) (Withdrawn 0 4 ∷ [])

abbrev pub CutHappens : Type 0
CutHappens = Happens (before [] (1 ∷ 2 ∷ 3 ∷ [])) (event.CutServer 0) cut

-- ---- a step that lacks memory

-- The end closes: its put that waits is withdrawn, and the write of its message is not applied,
abbrev pub closed_unapplied : World
closed_unapplied = record cut { circuits = ended_0 [] ∷ joined_1 [] [] 1 [] ∷ [] }

-- or it is, and reaches circuit 1; for its own update this end lacked memory.
abbrev pub closed_applied : World
closed_applied =
    world_of (
    side_of (temp_side ∷ slow_side (Some (at 1 4)) (at 1 5 ∷ []) ∷ []) (
    core_of (temp_now (written 22) ∷ slow_now (written 30) (Some (put_by second 40))
    (waits_by second 42 32 ∷ []) ∷ []) (
    free ∷ given (Open (end_1 (link [] []) ((temp_key 3, written 22) ∷ []))) ∷ []
    ) 1
    )
    ) (ended_0 [] ∷ joined_1 [] [] 2 ((temp_key 3, (2, Update 1)) ∷ []) ∷ [])
    (Applied 0 5 0 (written 22) false ∷ Withdrawn 0 4 ∷ [])

abbrev pub LackHappens : Type 0
LackHappens =
    Happens (before (spelling writing) []) (event.ServerStep 0) closed_unapplied
    × Happens (before (spelling writing) []) (event.ServerStep 0) closed_applied

-- a server of TEMP and SLOW, and this end of its one circuit
abbrev pub of_two : ServerEnd → Server
of_two e = core_of (temp_now (long 21) ∷ slow_busy ∷ []) (given (Open e) ∷ []) 0

-- It does not close if its own update got memory, too; nor is a write applied of an end that closes
-- and has no subscription.
abbrev pub LacksNotSo : Type 0
LacksNotSo =
    ((core : Server)
    (l : LacksMemory (core_before (spelling writing) []) first
    (end_0 (link (spelling writing) []) (entry_2 ∷ [])) core)
    → l.written ≡ Some (λ (h : Handle). false) → ⊥)
    × ((e : ServerEnd) (core : Server) → e.subscriptions ≡ [] → LacksMemory (of_two e) first e core
    → core.applied ≡ 0)

-- ---- a server begins again

abbrev pub restarted : World
restarted =
    record (world_of (server_begun 0 1 setting) (ended_0 (1 ∷ 2 ∷ 3 ∷ []) ∷ ended_1 [] ∷ []) []) {
      server_logs = (Added 0 temp ∷ Added 1 slow ∷ []) ∷ (Added 0 temp ∷ Added 1 slow ∷ []) ∷ [];
    }

abbrev pub RestartHappens : Type 0
RestartHappens = Happens (before [] (1 ∷ 2 ∷ 3 ∷ [])) (event.ServerRestart 0) restarted

-- ---- a post

-- TEMP is 25, for VALUE alone: subscription 1 sees it, and 3 does not
abbrev pub posted_25 : World
posted_25 =
    world_of (
    side_of sides_before (
    core_of (temp_now (long 25) ∷ slow_busy ∷ []) (
    given (Open (end_0 (link [] []) (entry_2 ∷ (temp_key 1, long 25) ∷ []))) ∷ given
    (Open (end_1 (link [] []) [])) ∷ []
    ) 0
    )
    ) (joined_0 [] [] 2 1 (number_2 ∷ (temp_key 1, (2, Update 1)) ∷ []) ∷ joined_1 [] [] 1 [] ∷ [])
    (Posted 0 1 (long 25) ∷ [])

abbrev pub PostHappens : Type 0
PostHappens = Happens (before [] []) (event.Post 0 temp_name (longs (pos 25 ∷ [])) 1) posted_25

-- refused, nothing changes: no record, another type, no element, two elements
abbrev pub PostsRefused : Type 0
PostsRefused =
    Happens (before [] []) (event.Post 0 (1 ∷ []) (longs (pos 25 ∷ [])) 1) (before [] [])
    × Happens (before [] []) (event.Post 0 temp_name (longs []) 1) (before [] [])
    × Happens (before [] []) (event.Post 0 temp_name (longs (pos 1 ∷ pos 2 ∷ [])) 1) (before [] [])

-- ---- a put is finished

abbrev pub finish_told : Told
finish_told =
    record {
      message = record {
        command = 19;
        data_type = 5;
        count = 1;
        p1 = 1;
        p2 = 40;
        payload = [];
      };
      place = 4;
      cause = Rattle.ca_model.specs.History.Reply;
    }

-- The reply goes to circuit 1, about place 4. The put of circuit 0 is applied, and makes SLOW busy;
-- subscription 2 sees it.
abbrev pub finished_31 : World
finished_31 =
    world_of (
    side_of (temp_side ∷ slow_side (Some (at 0 4)) (at 1 5 ∷ []) ∷ []) (
    core_of (temp_now (long 21) ∷ slow_now (written 31) (Some (put_by first 41))
    (waits_by second 42 32 ∷ []) ∷ []) (
    given (Open (end_0 (link [] []) (entry_2 ∷ (slow_key 2, written 31) ∷ []))) ∷ given
    (Open (end_1 (link [] (spelling finish_told.message)) [])) ∷ []
    ) 1
    )
    ) (
    joined_0 [] [] 1 2 (number_2 ∷ (slow_key 2, (3, Update 1)) ∷ []) ∷ joined_1
    (finish_told ∷ []) [] 1 [] ∷ []
    ) (Finished 1 4 ∷ Applied 0 4 1 (written 31) true ∷ [])

abbrev pub FinishHappens : Type 0
FinishHappens = Happens (before [] []) (event.Finish 0 slow_name) finished_31

-- refused, nothing changes: no record has the name, or it is not busy
abbrev pub FinishesRefused : Type 0
FinishesRefused =
    Happens (before [] []) (event.Finish 0 (1 ∷ [])) (before [] [])
    × Happens (before [] []) (event.Finish 0 temp_name) (before [] [])

-- ---- a record is removed, and one is added

abbrev pub gone_told : Told
gone_told = record { message = disconnect 8; place = 1; cause = Removal }

-- Both circuits have a channel of SLOW: each gets its SERVER_DISCONN, about its CREATE_CHAN, and
-- its channel is retired. Subscription 2 is over, with its entry, and both puts are withdrawn.
abbrev pub removed_slow : World
removed_slow =
    world_of (
    side_of (temp_side ∷ []) (
    core_of (temp_now (long 21) ∷ []) (
    given (Open
    (end_of (link [] (spelling (disconnect 8)))
    (given temp_open ∷ given (record slow_open { retired = true }) ∷ []) (on_temp 1 1 ∷ [])
    (queues (temp_key 1 ∷ []) [])))
    ∷ given (Open
    (end_of (link [] (spelling (disconnect 8)))
    (given temp_open ∷ given (record slow_open { retired = true }) ∷ [])
    (on_temp 3 2 ∷ on_temp 4 4 ∷ []) (queues (temp_key 3 ∷ temp_key 4 ∷ []) [])))
    ∷ []
    ) 0
    )
    ) (
    joined first (lists true true (gone_told ∷ []) (handled 5)) creations
    (standing (temp_key 1) 2 1 ∷ []) (queues (temp_key 1 ∷ []) []) ∷ joined_1
    (gone_told ∷ []) [] 1 [] ∷ []
    ) (Removed 1 ∷ Withdrawn 0 4 ∷ Withdrawn 1 5 ∷ [])

abbrev pub RemoveHappens : Type 0
RemoveHappens =
    Happens (before [] []) (event.Remove 0 slow_name) removed_slow
    × Happens (before [] []) (event.Remove 0 (1 ∷ [])) (before [] [])

-- WAVE is the third record of this life, after n of the others
abbrev pub added_wave : ℕ → World
added_wave behind =
    let records : List Record = temp_now (long 21) ∷ slow_busy ∷ [] in
    let side : RecordSide = record { name = wave.name; number = 2; busy = None; waiting = [] } in
    world_of (
    record (side_of (take behind sides_before ++ side ∷ drop behind sides_before) (
    core_of (take behind records ++ new_record wave ∷ drop behind records) (
    given (Open (end_0 (link [] []) (entry_2 ∷ []))) ∷ given (Open (end_1 (link [] []) [])) ∷ []
    ) 0
    )) { added = 3 }
    ) (joined_0 [] [] 1 1 (number_2 ∷ []) ∷ joined_1 [] [] 1 [] ∷ []) (Added 2 wave ∷ [])

abbrev pub AddHappens : Type 0
AddHappens =
    Happens (before [] []) (event.Add 0 wave) (added_wave 2)
    × Happens (before [] []) (event.Add 0 wave) (added_wave 1)

-- refused, nothing changes: the name is served, is none, or the value has no element
abbrev pub AddsRefused : Type 0
AddsRefused =
    Happens (before [] []) (event.Add 0 temp) (before [] [])
    × Happens (before [] []) (event.Add 0 (record wave { name = [] })) (before [] [])
    × Happens (before [] []) (event.Add 0 (record wave { value = longs [] })) (before [] [])

-- ---- bytes come

-- a circuit whose end at the client has ended, and left four bytes, of which two come now
abbrev pub left_up : List ℕ → Joined → Joined
left_up bytes j = record j { lists = record j.lists { client_open = false }; left_up = bytes }

abbrev pub UpHappens : Type 0
UpHappens =
    Happens (record
    (before (9 ∷ []) []) {
      circuits = left_up (1 ∷ 2 ∷ 3 ∷ 4 ∷ [])
          (joined_0 [] [] 1 1 (number_2 ∷ [])) ∷ joined_1 [] [] 1 [] ∷ [];
    }) (event.Up 0 2)
    (record (before (9 ∷ 1 ∷ 2 ∷ []) []) {
      circuits = left_up (3 ∷ 4 ∷ [])
          (joined_0 [] [] 1 1 (number_2 ∷ [])) ∷ joined_1 [] [] 1 [] ∷ [];
    })

-- ---- a datagram comes

-- It is answered, and the server is as it was.
abbrev pub DatagramHappens : Type 0
DatagramHappens =
    Happens (before [] [])
    (event.ServerDatagram 0 (record { host = 9; port = 9 })
    (spelled (version_request 0 ∷ search_request 3 temp_name ∷ []))) (before [] [])

-- ---- what cannot be done

-- a server, a circuit that is not there; an end that has ended; more bytes than wait
abbrev pub CannotBe : Type 0
CannotBe =
    (CanBe (before [] []) (event.Post 1 temp_name (longs (pos 1 ∷ [])) 1) → ⊥)
    × (CanBe (before [] []) (event.ServerRestart 1) → ⊥)
    × (CanBe (before [] []) (event.ServerStep 2) → ⊥) × (CanBe cut (event.ServerStep 0) → ⊥)
    × (CanBe cut (event.Pump 0) → ⊥)
    × (CanBe cut (event.CutServer 0) → ⊥) × (CanBe cut (event.Up 0 0) → ⊥)
    × (CanBe (before [] []) (event.Up 0 1) → ⊥)
