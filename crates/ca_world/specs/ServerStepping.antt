-- Working: a step of a server's end, by what becomes of the side of its server, of the
-- circuits and of the logs.
use Rattle.std.specs.Prelude.{ℕ, ◌≡◌, ◌≢◌, ◌⊎◌, Bool, if◌then◌else◌, List, Option, Some, None}
use Rattle.std.specs.Prelude.{length, map, option_map, slice_get, slice_set, unwrap_or}
use Rattle.ca_arena.specs.declared.handle.Handle.{Handle}
use Rattle.ca_wire.specs.Fields.{Fields}
use Rattle.ca_model.specs.Due.{Action}
use Rattle.ca_model.specs.Ends as why
use Rattle.ca_model.specs.Ends.{Why}
use Rattle.ca_model.specs.History.{Entry, Step, Told}
use Rattle.ca_model.specs.Server.{Server, ServerEnd}
use Rattle.ca_model.specs.ServerSteps.{HasEnd, LacksMemory, Next, StepsOpen, closed}
use Rattle.ca_model.specs.ServerSteps as stepped
use Rattle.ca_model.specs.ServerEvents.{ending, ends_at, ends_by, ends_here, handled_at, logged_by}
use Rattle.ca_model.specs.ServerEvents.{numbers_after, records_after, reported, withdrawals}
use Rattle.ca_model.specs.ServerEvents.{without_puts, write_numbers}
use Rattle.ca_model.specs.World.{Joined, PutPlace, RecordSide, ServerSide, grown, log_length}

-- A call of a server is over, with this core and these records: these ends of circuits end, and
-- their puts that wait are withdrawn.
pub record Quits (ends : Joined → Option (List ℕ)) (core : Server) (y : ServerSide)
    (rs : List RecordSide) (ks : List Joined) (logs : List (List Entry)) (y' : ServerSide)
    (ks' : List Joined) (logs' : List (List Entry)) : Type 0 where
  pub side : y'
      ≡ record y { core = reported core; records = map (without_puts (ends_at ends ks)) rs }
  pub circuits : ks' ≡ map (ending ends) ks
  pub logged : logs' ≡ grown y.life (withdrawals (ends_at ends ks) rs) logs

-- the message of circuit k that is handled next
abbrev pub put_place : (k : ℕ) → Joined → PutPlace
put_place k j = record { circuit = k; place = length j.lists.handled }

-- the records, the circuits and the logs after what that message did
abbrev pub records_acted : (k : ℕ) → Joined → ServerSide → Action → List RecordSide
records_acted k j y action = records_after y.core j.at_server (put_place k j) action y.records

abbrev pub circuits_acted : (k : ℕ) → Joined → ServerSide → Action → List Joined → List Joined
circuits_acted k j y action ks =
    map (write_numbers j.server y.core action)
    (slice_set ks k (numbers_after (length j.lists.handled) action j))

abbrev pub logs_acted : (k : ℕ) → Joined → ServerSide → Action → List (List Entry)
    → List (List Entry)
logs_acted k j y action logs =
    grown y.life (logged_by y.core j.at_server (put_place k j) action y.records) logs

-- circuit k is noted as having handled that message, by these replies; the logs were
-- those, and are these
abbrev pub circuits_noted : (k : ℕ) → Joined → ServerSide → List Fields
    → (logs logs' : List (List Entry)) → List Joined → List Joined
circuits_noted k j y replies logs logs' ks =
    let step : Step =
    record {
      sent = length j.lists.down;
      logged = log_length y.life logs;
      after = log_length y.life logs';
    } in
    unwrap_or
    (option_map
    (λ (c : Joined). slice_set ks k (handled_at (length j.lists.handled) step replies c))
    (slice_get ks k)) ks

-- the circuit, on which these went down and were handled
abbrev pub with_lists : List Told → List Step → Joined → Joined
with_lists down handled j = record j { lists = record j.lists { down = down; handled = handled } }

-- A message was handled.
pub record HandlesAt (k : ℕ) (j : Joined) (y : ServerSide) (ks : List Joined)
    (logs : List (List Entry)) (y' : ServerSide) (ks' : List Joined)
    (logs' : List (List Entry)) : Type 0 where
  pub e : ServerEnd
  pub has : HasEnd y.core j.at_server e
  pub core : Server
  pub steps : StepsOpen y.core j.at_server e stepped.Handled core
  pub mid : List Joined
  pub quits :
      let action : Action = steps.0.action in
      Quits (ends_by j.server core) core y (records_acted k j y action)
      (circuits_acted k j y action ks) (logs_acted k j y action logs) y' mid logs'
  pub noted : ks' ≡ circuits_noted k j y steps.0.replies logs logs' mid

-- The end closed out of memory: the write of its message is told, or nothing.
abbrev pub LacksAs : {h : Handle} {e : ServerEnd} (k : ℕ) (j : Joined) (y : ServerSide)
    → Next y.core h e → (written : Option (Handle → Bool)) → (left : List ℕ) → Server
    → (ks : List Joined) → (logs : List (List Entry)) → (y' : ServerSide) → (ks' : List Joined)
    → (logs' : List (List Entry)) → Type 0
LacksAs k j y next None left core ks logs y' ks' logs' =
    Quits (ends_here j left j.server core) core y y.records ks logs y' ks' logs'
LacksAs k j y next (Some gone) left core ks logs y' ks' logs' =
    Quits (ends_here j left j.server core) core y (records_acted k j y next.action)
    (circuits_acted k j y next.action ks) (logs_acted k j y next.action logs) y' ks' logs'

pub record LacksAt (k : ℕ) (j : Joined) (y : ServerSide) (ks : List Joined)
    (logs : List (List Entry)) (y' : ServerSide) (ks' : List Joined)
    (logs' : List (List Entry)) : Type 0 where
  pub e : ServerEnd
  pub has : HasEnd y.core j.at_server e
  pub core : Server
  pub lacks : LacksMemory y.core j.at_server e core
  pub quits : LacksAs k j y lacks.next lacks.written e.link.output core ks logs y' ks' logs'

-- The end closed for another cause.
pub record BreaksAt (k : ℕ) (j : Joined) (y : ServerSide) (ks : List Joined)
    (logs : List (List Entry)) (y' : ServerSide) (ks' : List Joined)
    (logs' : List (List Entry)) : Type 0 where
  pub e : ServerEnd
  pub has : HasEnd y.core j.at_server e
  pub cause : Why
  pub other : cause ≢ why.OutOfMemory
  pub left : List ℕ
  pub steps : StepsOpen y.core j.at_server e (stepped.Closed cause left) (closed j.at_server y.core)
  pub quits : Quits (ends_here j left j.server y.core)
      (closed j.at_server y.core) y y.records ks logs y' ks' logs'

-- The end took no message.
pub record RestsAt (j : Joined) (y : ServerSide) (ks : List Joined) (logs : List (List Entry))
    (y' : ServerSide) (ks' : List Joined) (logs' : List (List Entry)) : Type 0 where
  pub e : ServerEnd
  pub has : HasEnd y.core j.at_server e
  pub full : Bool
  pub steps : StepsOpen y.core j.at_server e
      (if full then stepped.OutputFull else stepped.NeedBytes) y.core
  pub side : y' ≡ y
  pub circuits : ks' ≡ ks
  pub logged : logs' ≡ logs

-- What a step of the server's end of circuit k did.
abbrev pub StepsAt : (k : ℕ) → Joined → ServerSide → List Joined → List (List Entry) → ServerSide
    → List Joined → List (List Entry) → Type 0
StepsAt k j y ks logs y' ks' logs' =
    HandlesAt k j y ks logs y' ks' logs'
    ⊎ (LacksAt k j y ks logs y' ks' logs'
    ⊎ (BreaksAt k j y ks logs y' ks' logs' ⊎ RestsAt j y ks logs y' ks' logs'))
