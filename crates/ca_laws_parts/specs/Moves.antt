-- Working: what holds of the writes of a world, and what an event at a server may do to them.
use Rattle.std.specs.Prelude.{ℕ, ◌≡◌, ◌<◌, ◌+◌, ◌++◌, ◌⊎◌, Bool, true, false, not, List, [], ◌∷◌}
use Rattle.std.specs.Prelude.{Option, Some, drop, filter, is_some, length, map, take}
use Rattle.std.specs.Str.{bytes_eq}
use Rattle.ca_arena.specs.declared.handle.Handle.{Handle}
use Rattle.ca_records.specs.Record.{RecordState}
use Rattle.ca_text.specs.Place.{At}
use Rattle.ca_records.specs.Puts.{Record}
use Rattle.ca_model.specs.Server.{Server}
use Rattle.ca_model.specs.Speech.{In, Stored}
use Rattle.ca_model.specs.History.{Added, Entry}
use Rattle.ca_model.specs.ServerEvents.{ending, ends_untold, finish_entry, first_of, next_busy}
use Rattle.ca_model.specs.ServerEvents.{next_entries, next_numbers, numbers_posted, posted_entry}
use Rattle.ca_model.specs.ServerEvents.{removal_entries, removed_at}
use Rattle.ca_model.specs.ServerEvents as event
use Rattle.ca_model.specs.World.{Joined, PutPlace, RecordSide, ServerSide, World, log_begun}
use Rattle.ca_model.specs.World.{record_begun, server_begun, with_entries, with_server}
use Rattle.ca_laws_parts.specs.Lives.{AreLater, AreOpen, Life, LogsOnce}
use Rattle.ca_laws_parts.specs.Once.{write_in}

-- While the server's end is open, the write at this place was handled.
abbrev pub WasHandled : List Joined → PutPlace → Type 0
WasHandled circuits p =
    (c : Joined) → At circuits p.circuit c → c.lists.server_open ≡ true
    → p.place < length c.lists.handled

-- a server's present life: its log, and its records
pub record Lives (w : World) (i : ℕ) (y : ServerSide) : Type 0 where
  pub log : List Entry
  pub at : At w.server_logs y.life log
  pub life : Life w.circuits i y.life log y.core.records y.records y.added
  pub still_open : AreOpen w.circuits y.records

-- The writes of a world: the records of each server are what the log of its life tells, no
-- two servers have one life, the logs of all lives have each write once, and what they
-- tell of was handled.
pub record Writes (w : World) : Type 0 where
  pub lives : (i : ℕ) (y : ServerSide) → At w.servers i y → Lives w i y
  pub apart : (i j : ℕ) (y z : ServerSide) → At w.servers i y → At w.servers j z → y.life ≡ z.life
      → i ≡ j
  pub logs : LogsOnce w
  pub handled : (life : ℕ) (y : List Entry) (e : Entry) (p : PutPlace) → At w.server_logs life y
      → In y e → write_in e ≡ Some p
      → WasHandled w.circuits p

-- What an event at server i does: the server goes on as this, its log has these entries more, other
-- servers and logs stay, and circuits go on. Its records are what its log says now, and the puts
-- that wait, there and at other servers, are on circuits that are open.
pub record Moves (w new : World) (i : ℕ) (y next : ServerSide)
    (log more : List Entry) : Type 0 where
  pub is : At w.servers i y
  pub server : (j : ℕ) (z : ServerSide) → At new.servers j z → ((j ≡ i) × (z ≡ next))
      ⊎ (At w.servers j z × (j ≡ i → ⊥))
  pub same_life : next.life ≡ y.life
  pub logged : At new.server_logs y.life (log ++ more)
  pub logs : (l : ℕ) (z : List Entry) → At new.server_logs l z → (l ≡ y.life) ⊎ At w.server_logs l z
  pub stay : (l : ℕ) (z : List Entry) → At w.server_logs l z → (l ≡ y.life → ⊥)
      → At new.server_logs l z
  pub circuits : AreLater w.circuits new.circuits
  pub life : Life new.circuits i y.life (log ++ more) next.core.records next.records next.added
  pub own_open : AreOpen new.circuits next.records
  pub others_open : (j : ℕ) (z : ServerSide) → At w.servers j z → (j ≡ i → ⊥)
      → AreOpen new.circuits z.records
  pub handled : (e : Entry) (p : PutPlace) → In more e → write_in e ≡ Some p
      → WasHandled new.circuits p

-- An event at server i before circuits end: its log has these entries, and its core has these
-- records, from which those puts are not withdrawn yet that wait on circuits that end.
pub record Midway (w mid : World) (i : ℕ) (y side : ServerSide) (log more : List Entry)
    (records : List Record) : Type 0 where
  pub is : At w.servers i y
  pub others : (j : ℕ) (z : ServerSide) → At mid.servers j z → (j ≡ i → ⊥) → At w.servers j z
  pub same_life : side.life ≡ y.life
  pub here : At w.server_logs y.life log
  pub logged : At mid.server_logs y.life (log ++ more)
  pub logs : (l : ℕ) (z : List Entry) → At mid.server_logs l z → (l ≡ y.life) ⊎ At w.server_logs l z
  pub stay : (l : ℕ) (z : List Entry) → At w.server_logs l z → (l ≡ y.life → ⊥)
      → At mid.server_logs l z
  pub circuits : AreLater w.circuits mid.circuits
  pub life : Life mid.circuits i y.life (log ++ more) records side.records side.added
  pub own_open : AreOpen mid.circuits side.records
  pub others_open : (j : ℕ) (z : ServerSide) → At w.servers j z → (j ≡ i → ⊥)
      → AreOpen mid.circuits z.records
  pub handled : (e : Entry) (p : PutPlace) → In more e → write_in e ≡ Some p
      → WasHandled mid.circuits p

-- Only circuits of this server end.
abbrev pub EndsOnly : List Joined → (server : ℕ) → (Joined → Option (List ℕ)) → Type 0
EndsOnly circuits server ends =
    (n : ℕ) (c : Joined) → At circuits n c → (c.server ≡ server → ⊥) → is_some (ends c) ≡ false

-- ---- worlds in which an event is told, before circuits end

-- the world in which a finish is told
abbrev pub finish_told : World → (i : ℕ) → ServerSide → List ℕ → Record → RecordSide → PutPlace
    → World
finish_told w i y name c r p =
    with_entries y.life
    (finish_entry p ∷ next_entries y r (first_of c.waiting) (first_of r.waiting))
    (with_server i (record y { records = event.with_record name next_busy y.records })
    (record w { circuits = map (next_numbers i y.core name c.waiting) w.circuits }))

-- the world in which a removal is told
abbrev pub removal_told : World → (i : ℕ) → ServerSide → List ℕ → (gone : Handle → Bool)
    → (left : Handle → ℕ) → World
removal_told w i y name gone left =
    with_entries y.life (removal_entries name y.records)
    (with_server i
    (record y { records = filter (λ (r : RecordSide). not (bytes_eq r.name name)) y.records })
    (record w { circuits = map (removed_at i y.core name gone left) w.circuits }))

-- the world in which an addition is told
abbrev pub addition_told : World → (i : ℕ) → ServerSide → RecordState → (behind : ℕ) → Server
    → World
addition_told w i y r behind core =
    let side : ServerSide =
    record y {
      core = core;
      records = take behind y.records ++ record_begun y.added r ∷ drop behind y.records;
      added = y.added + 1;
    } in
    with_entries y.life (Added y.added r ∷ []) (with_server i side w)

-- the world in which a post is told
abbrev pub post_told : World → (i : ℕ) → ServerSide → List ℕ → Stored → (mask : ℕ) → World
post_told w i y name v mask =
    with_entries y.life (posted_entry y name v mask)
    (record w { circuits = map (numbers_posted i y.core name mask) w.circuits })

-- the world after a restart
abbrev pub restarted : World → (i : ℕ) → ServerSide → World
restarted w i y =
    with_server i (server_begun w.moment (length w.server_logs) y.setting) (record w {
      circuits = map (ending (ends_untold i y.core)) w.circuits;
      server_logs = w.server_logs ++ log_begun y.setting ∷ [];
    })
