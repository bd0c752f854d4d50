-- Working: a server's life in a world: where its writes came from, and what their replies say.
use Rattle.std.specs.Prelude.{ℕ, ◌≡◌, ◌⊎◌, false, true, List, Ok, Bool, Option, Some, is_some, take}
use Rattle.ca_text.specs.declared.command.Command.TheVariants as command
use Rattle.ca_text.specs.declared.status.Status.{Status}
use Rattle.ca_text.specs.Place.{At}
use Rattle.ca_dbr.specs.declared.value.Outcome.TheVariants.{Done, Failed}
use Rattle.ca_dbr.specs.Elements.{Elements}
use Rattle.ca_dbr.specs.Held.{kind_of}
use Rattle.ca_records.specs.Given.{given_as}
use Rattle.ca_ids.specs.Wire.{wire_of}
use Rattle.ca_records.specs.declared.puts.Put.{Put}
use Rattle.ca_records.specs.Puts.{Record}
use Rattle.ca_records.specs.Record.{RecordState}
use Rattle.ca_requests.specs.Meaning.{Means}
use Rattle.ca_wire.specs.Fields.{Fields}
use Rattle.ca_model.specs.Due.{Action, Applies, KnownRecord, Knows, PutReads}
use Rattle.ca_model.specs.Due as action
use Rattle.ca_model.specs.Speech.{In, Is, Stored, sid_in}
use Rattle.ca_model.specs.History.{Added, Circuit, Entry, Removed, Reply, Sent, Step, Told}
use Rattle.ca_model.specs.Channels.{HasWaited, IsCleared, IsTaken}
use Rattle.ca_model.specs.World.{Joined, PutPlace, RecordSide, World}
use Rattle.ca_laws_parts.specs.Agrees.{Agree}
use Rattle.ca_laws_parts.specs.Once.{IsApplied, Once, write_in}

-- ---- where writes come from

-- a message writes
abbrev pub IsWriting : Fields → Type 0
IsWriting m = Is command.Write m ⊎ Is command.WriteNotify m

-- The write came at this place of a circuit that joins this life, and entry i was made in this way.
-- Its message has elements that are the value in that value's type.
pub record CameOn (circuits : List Joined) (life : ℕ) (Taken : Circuit → (k i : ℕ) → Type 0)
    (p : PutPlace) (i : ℕ) (value : Elements) : Type 0 where
  pub c : Joined
  pub on : At circuits p.circuit c
  pub joins : c.lists.server ≡ life
  pub s : Sent
  pub sent : At c.lists.up p.place s
  pub writes : IsWriting s.message
  pub given : Elements
  pub reads : PutReads s.message given
  pub is : given_as given (kind_of value) ≡ Ok value
  pub taken : Taken c.lists p.place i

-- Before entry i the put's channel was cleared, or the server's end of its circuit ended.
pub record LostOn (circuits : List Joined) (p : PutPlace) (i : ℕ) : Type 0 where
  pub c : Joined
  pub on : At circuits p.circuit c
  pub s : Sent
  pub sent : At c.lists.up p.place s
  pub why : IsCleared c.lists p.place (sid_in s.message) i ⊎ (c.lists.server_open ≡ false)

-- The put as the core of this server has it came at this place.
pub record IsPutOf (circuits : List Joined) (server : ℕ) (p : PutPlace) (b : Put) : Type 0 where
  pub c : Joined
  pub on : At circuits p.circuit c
  pub of : c.server ≡ server
  pub handle : b.circuit ≡ c.at_server
  pub s : Sent
  pub sent : At c.lists.up p.place s
  pub asks : Is command.WriteNotify s.message
  pub sid : wire_of b.channel ≡ sid_in s.message
  pub ioid : b.ioid ≡ s.message.p2

-- A server's life on these circuits: its log has each write once, and its records
-- are what the log says.
abbrev pub Life : List Joined → (server life : ℕ) → List Entry → List Record → List RecordSide
    → (added : ℕ) → Type 0
Life circuits server life y records sides added =
    Agree (CameOn circuits life) (LostOn circuits) (IsPutOf circuits server) y records sides added

-- ---- circuits go on

-- What a circuit became: it joins the same ends, its lists grew, and an end that ended
-- handles nothing more.
pub record Later (c d : Joined) : Type 0 where
  pub server : d.server ≡ c.server
  pub handle : d.at_server ≡ c.at_server
  pub life : d.lists.server ≡ c.lists.server
  pub up : (k : ℕ) (s : Sent) → At c.lists.up k s → At d.lists.up k s
  pub handled : (k : ℕ) (h : Step) → At c.lists.handled k h → At d.lists.handled k h
  pub ended : c.lists.server_open ≡ false → (d.lists.server_open ≡ false)
      × (d.lists.handled ≡ c.lists.handled)

-- each circuit that was there
abbrev pub AreLater : List Joined → List Joined → Type 0
AreLater old new = (n : ℕ) (c : Joined) → At old n c → (d : Joined) × At new n d × Later c d

-- ---- all lives

-- the log of each life has each write once
abbrev pub LogsOnce : World → Type 0
LogsOnce w =
    (life : ℕ) (y : List Entry) → At w.server_logs life y
    → Once (CameOn w.circuits life) (LostOn w.circuits) y

-- The server's part of what an applied write is: the message at its place carries the value, in the
-- type of the record, which was there; and it was applied when it was handled, or the server's end
-- closed on it, or after it had waited.
pub record IsOfMessage (w : World) (n k life i r : ℕ) (v : Stored) : Type 0 where
  pub c : Joined
  pub on : At w.circuits n c
  pub joins : c.lists.server ≡ life
  pub y : List Entry
  pub log : At w.server_logs life y
  pub s : Sent
  pub sent : At c.lists.up k s
  pub writes : IsWriting s.message
  pub given : Elements
  pub reads : PutReads s.message given
  pub to : RecordState
  pub there : In (take i y) (Added r to) × (In (take i y) (Removed r) → ⊥)
  pub value : given_as given (kind_of to.value) ≡ Ok v.value
  pub came : IsTaken c.lists k i ⊎ HasWaited n c.lists y k i r

-- ---- replies

-- What a reply to the write at this place says is so by the log: a put that is told Done is
-- applied, and of a write that is told Failed the log never tells.
pub record SaysSo (y : List Entry) (p : PutPlace) (s : Sent) (m : Fields) : Type 0 where
  pub done : Is command.WriteNotify s.message → Means m Done → IsApplied y p
  pub failed : (status : Status) → IsWriting s.message → Means m (Failed status) → (e : Entry)
      → In y e → write_in e ≡ Some p → ⊥

-- Each reply on circuit n says what is so.
abbrev pub SayWhatIsSo : List Entry → (n : ℕ) → Circuit → Type 0
SayWhatIsSo y n c =
    (j : ℕ) (t : Told) (s : Sent) → At c.down j t → t.cause ≡ Reply → At c.up t.place s
    → SaysSo y (record { circuit = n; place = t.place }) s t.message

-- ---- circuits end

-- each put that waits came on a circuit whose end at the server is open
abbrev pub AreOpen : List Joined → List RecordSide → Type 0
AreOpen circuits rs =
    (j : ℕ) (r : RecordSide) (p : PutPlace) (c : Joined) → At rs j r → In r.waiting p
    → At circuits p.circuit c
    → c.lists.server_open ≡ true

-- The core withdraws just the puts of the circuits of a server that end, among those that are open.
abbrev pub EndsAgree : List Joined → (server : ℕ) → (ends : Joined → Option (List ℕ))
    → (lost : Put → Bool) → Type 0
EndsAgree circuits server ends lost =
    (n : ℕ) (c : Joined) (b : Put) → At circuits n c → c.server ≡ server
    → c.lists.server_open ≡ true → b.circuit ≡ c.at_server
    → lost b ≡ is_some (ends c)

-- ---- what is due

-- the server knows of no busy record that is not slow
abbrev pub AreSlow : Knows → Type 0
AreSlow k =
    (name : List ℕ) (r : KnownRecord) → k.record_of name ≡ Some r → r.busy ≡ true
    → r.state.slow ≡ true

-- the action writes: at once, or once its put waited
abbrev pub IsWrite : Action → Type 0
IsWrite (Applies name value busies) = Unit {0}
IsWrite (action.Waits name value) = Unit {0}
IsWrite did = ⊥

-- A message writes this value to the record of this name, as the server knows it: its elements in
-- the type of the record.
pub record WritesTo (k : Knows) (m : Fields) (name : List ℕ) (value : Elements) : Type 0 where
  pub known : KnownRecord
  pub named : k.record_of name ≡ Some known
  pub given : Elements
  pub reads : PutReads m given
  pub is : given_as given (kind_of known.state.value) ≡ Ok value
