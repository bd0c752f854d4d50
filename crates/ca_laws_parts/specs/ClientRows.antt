-- Statement: one client's core alone: rows of its calls, with any answers and whatever its peers
-- send, and what it did on each circuit.
use Rattle.std.specs.Prelude.{ℕ, ◌≡◌, Bool, List, [], Option, Some, None, Result, Ok, filter}
use Rattle.std.specs.Prelude.{if◌then◌else◌, map}
use Rattle.std.specs.List.{FoldsTo}
use Rattle.ca_text.specs.declared.refusal.Refusal.{Refusal}
use Rattle.ca_dbr.specs.Elements.{Elements}
use Rattle.ca_arena.specs.declared.handle.Handle.{Handle}
use Rattle.ca_ids.specs.Table.{same_handle}
use Rattle.ca_wire.specs.Fields.{Fields}
use Rattle.ca_model.specs.Answers.{Closing, Notice, Notices, Sending, Stepped, Ticked}
use Rattle.ca_model.specs.Client.{Client, Connection, connection_at}
use Rattle.ca_model.specs.ClientCalls.{ClientClears, ClientOpens, ClientPuts, ClientReads}
use Rattle.ca_model.specs.ClientCalls.{ClientSubscribes, ClientUnsubscribes, ClientWrites, Opening}
use Rattle.ca_model.specs.ClientCalls.{Shape}
use Rattle.ca_model.specs.ClientEnds.{Arrival, ClientBegins, ClientCloses, ClientConnects}
use Rattle.ca_model.specs.ClientEnds.{ClientCuts, ClientGives, ClientReceives, ClientSetting}
use Rattle.ca_model.specs.ClientEnds.{ClientSteps, ClientTicks, Takes, handed_over}
use Rattle.ca_model.specs.Sends.{Conduct, LegalClient}
use Rattle.ca_laws_parts.specs.Conduct.{nothing_done, with_all_sent, with_read}

-- One call of a client's core, with its answer; of a step with the message that it
-- read, if it read one.
pub data Call : Type 0 where
  Open : Opening → Result Handle Refusal → Call
  Read : Handle → Shape → Result Handle Refusal → Call
  Write : Handle → Elements → Result (Unit {0}) Refusal → Call
  WriteNotify : Handle → Elements → Result Handle Refusal → Call
  Subscribe : Handle → Shape → (mask : ℕ) → Result Handle Refusal → Call
  Unsubscribe : Handle → Result (Unit {0}) Refusal → Call
  Clear : Handle → Result (List Notice) Refusal → Call
  Connected : Handle → Option Closing → Call
  Give : Handle → List ℕ → (more : Bool) → Result (Unit {0}) Refusal → Call
  Sent : Handle → ℕ → Call
  Step : Handle → Option Fields → Stepped → Call
  Cut : Handle → Closing → Call
  Close : Handle → Closing → Call
  Tick : ℕ → Result Ticked Refusal → Call
  Datagram : Arrival → Result (Unit {0}) Refusal → Call

-- A step read this message: the first of what its peer sent, and was not read before. One that
-- answers no notices read none.
abbrev pub Reads : Client → Handle → Option Fields → Stepped → List Sending → Client → Type 0
Reads old c (Some m) (Notices told) sent new =
    (d : Connection) × (connection_at old c ≡ Some d)
    × (t : Takes old c d (record { core = new; sent = sent; notices = told }))
    × (t.m ≡ m)
Reads old c None (Notices told) sent new = ⊥
Reads old c (Some m) answer sent new = ⊥
Reads old c None answer sent new = ClientSteps old c answer sent new

-- From old the call sent these messages and left new: by the statement's definition of each call.
abbrev pub Does : Client → Call → List Sending → Client → Type 0
Does old (Open a answer) sent new = ClientOpens old a answer sent new
Does old (Read h a answer) sent new = ClientReads old h a answer sent new
Does old (Write h v answer) sent new = ClientWrites old h v answer sent new
Does old (WriteNotify h v answer) sent new = ClientPuts old h v answer sent new
Does old (Subscribe h a mask answer) sent new = ClientSubscribes old h a mask answer sent new
Does old (Unsubscribe g answer) sent new = ClientUnsubscribes old g answer sent new
Does old (Clear h answer) sent new = ClientClears old h answer sent new
Does old (Connected c answer) sent new = ClientConnects old c answer sent new
Does old (Give c bytes more answer) sent new = ClientGives old c bytes more answer sent new
Does old (Sent c n) sent new = (sent ≡ []) × (new ≡ handed_over c n old)
Does old (Step c read answer) sent new = Reads old c read answer sent new
Does old (Cut c answer) sent new = ClientCuts old c answer sent new
Does old (Close c answer) sent new = ClientCloses old c answer sent new
Does old (Tick now answer) sent new = ClientTicks old now answer sent new
Does old (Datagram a answer) sent new = ClientReceives old a answer sent new

-- the messages that were sent on this circuit
abbrev pub sent_on : Handle → List Sending → List Fields
sent_on c sent =
    map (λ (s : Sending). s.message) (filter (λ (s : Sending). same_handle s.circuit c) sent)

-- what the client did on a circuit by the time that a call sends: as a circuit is connected, also
-- again under the same handle, it did nothing on it yet; and a step on it read a message
abbrev pub before_sending : Handle → Call → Conduct → Conduct
before_sending c (Connected d None) e = if same_handle d c then nothing_done else e
before_sending c (Step d read answer) e = if same_handle d c then with_read read e else e
before_sending c call e = e

-- a client's core, and what it did on one circuit
pub record ClientAndConduct : Type 0 where
  pub core : Client
  pub conduct : Conduct

-- One call leads from old to new.
abbrev pub ByCall : Handle → ClientAndConduct → Call → ClientAndConduct → Type 0
ByCall c old call new =
    (sent : List Sending) × Does old.core call sent new.core
    × (new.conduct ≡ with_all_sent (sent_on c sent) (before_sending c call old.conduct))

-- A row of calls, from a new client's core on, leads here: to this core, and to what it did on
-- circuit c since that was connected last.
abbrev pub Rows : Handle → ClientSetting → List Call → ClientAndConduct → Type 0
Rows c a calls now =
    (x : Client) × ClientBegins a (Ok x)
    × FoldsTo (ByCall c) (record { core = x; conduct = nothing_done }) calls now

-- After any row of calls, what the client sent on any circuit is legal: whatever was called,
-- whatever its peers sent.
abbrev pub ClientsSendLegally : Type 0
ClientsSendLegally =
    (c : Handle) (a : ClientSetting) (calls : List Call) (now : ClientAndConduct)
    → Rows c a calls now → LegalClient now.conduct
