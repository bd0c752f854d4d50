-- Working: what holds between two messages of a circuit.
use Rattle.std.specs.Prelude.{ℕ, ◌≡◌, ◌<◌, ◌++◌, ◌⊎◌, Bool, true, false, List, [], None, Some}
use Rattle.std.specs.Prelude.{Result, Ok, Err, length, take}
use Rattle.std.specs.List.{FoldsTo, concat}
use Rattle.ca_arena.specs.declared.handle.Handle.{Handle}
use Rattle.ca_ids.specs.Table.{under}
use Rattle.ca_link.specs.Link.{LinkState}
use Rattle.ca_link.specs.Steps.{Moves}
use Rattle.ca_records.specs.Puts.{Record}
use Rattle.ca_records.specs.Record.{RecordState}
use Rattle.ca_records.specs.Rules.{Rule}
use Rattle.ca_text.specs.declared.refusal.Refusal.{Refusal}
use Rattle.ca_text.specs.declared.refusal.Refusal.TheVariants.{OutOfMemory, Misaligned, TooLarge}
use Rattle.ca_text.specs.declared.refusal.Refusal.TheVariants.{Device}
use Rattle.ca_text.specs.Limits.{engine_turns, server_port}
use Rattle.ca_wire.specs.Fields.{Fields}
use Rattle.ca_wire.specs.Stream.{BadAt, Begins, NoneBegins, NotBad}
use Rattle.ca_model.specs.Answer.{Answers}
use Rattle.ca_model.specs.Ends as why
use Rattle.ca_model.specs.Server.{Ended, Server, ServerEnd, new_server}
use Rattle.ca_model.specs.ServerSteps.{Accepts, HasEnd, Leaves, Update, with_end}
use Rattle.ca_model.specs.Speech.{In}
use Rattle.ca_server_core.specs.Noting.{HandlesAndFinishes}
use Rattle.ca_answer.specs.Answering.{Written}
use Rattle.ca_answer.specs.Engines.{EngineState}
use Rattle.ca_answer.specs.Fronting.{fronting}

-- no record is busy, and no put waits
abbrev pub AreFree : List Record → Type 0
AreFree rs = (r : Record) → In rs r → (r.busy ≡ None) × (r.waiting ≡ [])

-- The bytes are readings of messages, and the rest; the messages were answered by this text,
-- which left this server.
pub record Past (rules : List Rule) (states : List RecordState) (bytes : List ℕ) (h : Handle)
    (now : Server) (text rest : List ℕ) : Type 0 where
  pub ms : List Fields
  pub begins : Begins bytes ms rest
  pub start : Server
  pub accepts : Accepts (new_server server_port 0 rules states) (Ok h) start
  pub answers : Answers h start ms text now

-- The circuit is open, and all messages before what is not read were answered. Bytes
-- may have come since.
pub record Served (rules : List Rule) (states : List RecordState) (bytes : List ℕ) (h : Handle)
    (y : Server) (text : List ℕ) : Type 0 where
  pub now : Server
  pub e : ServerEnd
  pub has : HasEnd now h e
  pub silent : e.link.output ≡ []
  pub link : LinkState
  pub quiet : link.output ≡ []
  pub is : y ≡ with_end h (record e { link = link }) now
  pub free : AreFree now.records
  pub past : Past rules states bytes h now text link.input.bytes

-- The circuit has ended out of memory, after messages that were answered.
pub record Over (rules : List Rule) (states : List RecordState) (bytes : List ℕ) (h : Handle)
    (y : Server) (text : List ℕ) : Type 0 where
  pub now : Server
  pub rest : List ℕ
  pub past : Past rules states bytes h now text rest
  pub left : List ℕ
  pub ended : under y.circuits h ≡ Some (Ended why.OutOfMemory left)

-- This text was written, but for what waits on the circuit, which is in this server as
-- it would without that.
pub record IsWritten {K : Type 0} (takes : K → List ℕ → K → Type 0) (k0 k : K) (x : EngineState)
    (now : Server) (text : List ℕ) : Type 0 where
  pub waits : List ℕ
  pub many : x.waiting ≡ length waits
  pub core : x.core ≡ fronting x.circuit waits now
  pub writes : List (List ℕ)
  pub wrote : Moves takes k0 writes k
  pub parts : concat writes ++ waits ≡ text

-- All that was answered was written, but for what waits on the circuit.
pub record Serving {K : Type 0} (takes : K → List ℕ → K → Type 0) (rules : List Rule)
    (states : List RecordState) (k0 : K) (bytes : List ℕ) (k : K) (x : EngineState) : Type 0 where
  pub text : List ℕ
  pub now : Server
  pub stands : Served rules states bytes x.circuit now text
      ⊎ Over rules states bytes x.circuit now text
  pub written : IsWritten takes k0 k x now text

-- The circuit is open, no complete message is left to be read, and all that was
-- answered was written.
pub record Rested {K : Type 0} (takes : K → List ℕ → K → Type 0) (rules : List Rule)
    (states : List RecordState) (k0 : K) (bytes : List ℕ) (k : K) (x : EngineState) : Type 0 where
  pub text : List ℕ
  pub served : Served rules states bytes x.circuit x.core text
  pub sent : x.waiting ≡ 0
  pub writes : List (List ℕ)
  pub wrote : Moves takes k0 writes k
  pub parts : concat writes ≡ text
  pub whole : NoneBegins served.link.input.bytes
  pub good : NotBad served.link.input.bytes

-- A message was handled, and what its handling made busy was finished; its updates
-- were not pumped yet.
pub record Stepping {K : Type 0} (takes : K → List ℕ → K → Type 0) (rules : List Rule)
    (states : List RecordState) (k0 : K) (bytes : List ℕ) (k : K) (x : EngineState) : Type 0 where
  pub text : List ℕ
  pub old : Server
  pub served : Served rules states bytes x.circuit old text
  pub finished : Server
  pub one : HandlesAndFinishes old x.circuit finished
  pub written : IsWritten takes k0 k x finished text

-- updates left the queues of an open end, and more may leave
abbrev pub Leaving : Server → Handle → List Update → Server → Type 0
Leaving old h updates new =
    (e : ServerEnd) × HasEnd old h e
    × ((after : ServerEnd) × FoldsTo Leaves e updates after × (new ≡ with_end h after old))

-- A message was handled and finished, and some updates were pumped.
pub record Filled {K : Type 0} (takes : K → List ℕ → K → Type 0) (rules : List Rule)
    (states : List RecordState) (k0 : K) (bytes : List ℕ) (k : K) (x : EngineState) : Type 0 where
  pub text : List ℕ
  pub old : Server
  pub served : Served rules states bytes x.circuit old text
  pub finished : Server
  pub one : HandlesAndFinishes old x.circuit finished
  pub updates : List Update
  pub now : Server
  pub leaving : Leaving finished x.circuit updates now
  pub written : IsWritten takes k0 k x now text

-- what was served is served on
abbrev pub ServesOn : {K : Type 0} → (K → List ℕ → K → Type 0) → List Rule → List RecordState → K
    → EngineState → K → EngineState → Type 0
ServesOn {K} takes rules states k x k' x' =
    (k0 : K) (bytes : List ℕ) → Serving takes rules states k0 bytes k x
    → Serving takes rules states k0 bytes k' x'

-- A beginning of the answers to the first messages was written.
pub record Partly {K : Type 0} (takes : K → List ℕ → K → Type 0) (rules : List Rule)
    (states : List RecordState) (k0 : K) (bytes : List ℕ) (k : K) : Type 0 where
  pub rest : List ℕ
  pub waits : List ℕ
  pub written : Written takes rules states k0 bytes k rest waits

abbrev pub BreaksAt : {K : Type 0} → (K → List ℕ → K → Type 0) → List Rule → List RecordState → K
    → EngineState → K → Type 0
BreaksAt {K} takes rules states k x k' =
    (k0 : K) (bytes : List ℕ) → Serving takes rules states k0 bytes k x
    → Partly takes rules states k0 bytes k'

-- All messages before a bad header were answered, and that was written.
pub record MetBad {K : Type 0} (takes : K → List ℕ → K → Type 0) (rules : List Rule)
    (states : List RecordState) (k0 : K) (bytes : List ℕ) (k : K) (e : Refusal) : Type 0 where
  pub rest : List ℕ
  pub written : Written takes rules states k0 bytes k rest []
  pub bad : BadAt rest e

abbrev pub EndsBad : {K : Type 0} → (K → List ℕ → K → Type 0) → List Rule → List RecordState → K
    → EngineState → K → Refusal → Type 0
EndsBad {K} takes rules states k x k' e =
    (k0 : K) (bytes : List ℕ) → Serving takes rules states k0 bytes k x
    → MetBad takes rules states k0 bytes k' e

abbrev pub EndsRested : {K : Type 0} → (K → List ℕ → K → Type 0) → List Rule → List RecordState → K
    → EngineState → K → EngineState → Type 0
EndsRested {K} takes rules states k x k' x' =
    (k0 : K) (bytes : List ℕ) → Serving takes rules states k0 bytes k x
    → Rested takes rules states k0 bytes k' x'

-- These bytes went to the sink in one call; or there are none, and none was made.
abbrev pub Goes : {K : Type 0} → (K → List ℕ → K → Type 0) → K → List ℕ → K → Type 0
Goes takes k bytes k' = takes k bytes k' ⊎ ((bytes ≡ []) × (k' ≡ k))

-- These bytes were handed to the sink; or it failed after some of them, or no call is left.
abbrev pub Hands : {K : Type 0} → (K → List ℕ → K → Type 0) → (K → ℕ) → K → List ℕ → K → ℕ
    → Result (Unit {0}) Refusal → Type 0
Hands takes faults k bytes k' turns (Ok _) = (faults k' ≡ faults k) × Goes takes k bytes k'
Hands takes faults k bytes k' turns (Err Device) =
    ((faults k < faults k') × ((n : ℕ) × takes k (take n bytes) k'))
    ⊎ ((turns ≡ engine_turns) × (k' ≡ k))
Hands takes faults k bytes k' turns (Err _) = ⊥

-- What was so (`From`) is served on, by its answer; or a beginning of it was written.
abbrev pub LeadsOn : {K : Type 0} → (K → List ℕ → K → Type 0) → (K → ℕ) → List Rule
    → List RecordState → (K → List ℕ → Type 0) → K → K → EngineState → ℕ → Result (Unit {0}) Refusal
    → Type 0
LeadsOn {K} takes faults rules states From k k' x' turns (Ok _) =
    (faults k' ≡ faults k)
    × ((k0 : K) (bytes : List ℕ) → From k0 bytes → Serving takes rules states k0 bytes k' x')
LeadsOn {K} takes faults rules states From k k' x' turns (Err Device) =
    ((faults k < faults k') ⊎ (turns ≡ engine_turns))
    × ((k0 : K) (bytes : List ℕ) → From k0 bytes → Partly takes rules states k0 bytes k')
LeadsOn takes faults rules states From k k' x' turns (Err _) = ⊥

-- The updates after a message were pumped.
abbrev pub Pumped : {K : Type 0} → (K → List ℕ → K → Type 0) → (K → ℕ) → List Rule
    → List RecordState → K → K → EngineState → EngineState → ℕ → Result (Unit {0}) Refusal → Type 0
Pumped takes faults rules states k k' x x' turns result =
    LeadsOn takes faults rules states
    (λ k0 bytes. Stepping takes rules states k0 bytes k x) k k' x' turns result

-- What waited before the message was handed over, and its other updates were pumped.
abbrev pub MakesRoom : {K : Type 0} → (K → List ℕ → K → Type 0) → (K → ℕ) → List Rule
    → List RecordState → K → K → EngineState → EngineState → ℕ → Result (Unit {0}) Refusal → Type 0
MakesRoom takes faults rules states k k' x x' turns result =
    LeadsOn takes faults rules states
    (λ k0 bytes. Filled takes rules states k0 bytes k x) k k' x' turns result

-- The next message was asked for: it was answered; or none is complete, the next is bad,
-- or there is no memory.
abbrev pub Comes : {K : Type 0} → (K → List ℕ → K → Type 0) → (K → ℕ) → List Rule → List RecordState
    → K → K → EngineState → EngineState → ℕ → Result Bool Refusal → Type 0
Comes takes faults rules states k k' x x' turns (Ok true) =
    (faults k' ≡ faults k) × ServesOn takes rules states k x k' x'
Comes takes faults rules states k k' x x' turns (Ok false) =
    (faults k' ≡ faults k) × EndsRested takes rules states k x k' x'
Comes takes faults rules states k k' x x' turns (Err Misaligned) =
    (faults k' ≡ faults k) × EndsBad takes rules states k x k' Misaligned
Comes takes faults rules states k k' x x' turns (Err TooLarge) =
    (faults k' ≡ faults k) × EndsBad takes rules states k x k' TooLarge
Comes takes faults rules states k k' x x' turns (Err OutOfMemory) =
    (faults k' ≡ faults k) × BreaksAt takes rules states k x k'
Comes takes faults rules states k k' x x' turns (Err Device) =
    ((faults k < faults k') ⊎ (turns ≡ engine_turns)) × BreaksAt takes rules states k x k'
Comes takes faults rules states k k' x x' turns (Err _) = ⊥

-- What the engine did with all messages that came, by its answer.
abbrev pub Drains : {K : Type 0} → (K → List ℕ → K → Type 0) → (K → ℕ) → List Rule
    → List RecordState → K → K → EngineState → EngineState → ℕ → Result (Unit {0}) Refusal → Type 0
Drains takes faults rules states k k' x x' turns (Ok _) =
    (faults k' ≡ faults k) × EndsRested takes rules states k x k' x'
Drains takes faults rules states k k' x x' turns (Err Misaligned) =
    (faults k' ≡ faults k) × EndsBad takes rules states k x k' Misaligned
Drains takes faults rules states k k' x x' turns (Err TooLarge) =
    (faults k' ≡ faults k) × EndsBad takes rules states k x k' TooLarge
Drains takes faults rules states k k' x x' turns (Err OutOfMemory) =
    (faults k' ≡ faults k) × BreaksAt takes rules states k x k'
Drains takes faults rules states k k' x x' turns (Err Device) =
    ((faults k < faults k') ⊎ (turns ≡ engine_turns)) × BreaksAt takes rules states k x k'
Drains takes faults rules states k k' x x' turns (Err _) = ⊥
