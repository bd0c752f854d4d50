-- Vocabulary: what the calls of a link answer and leave (section "Virtual Circuit"). Each
-- definition by answer is the contract of the call that its comment names: from old, with this
-- answer, it left new.
use Rattle.std.specs.Prelude.{ℕ, ◌≡◌, ◌≢◌, ◌<◌, ◌≤◌, ◌⊎◌, true, false, List, [], ◌∷◌, Option, Some}
use Rattle.std.specs.Prelude.{None, Result, Ok, Err, drop, length}
use Rattle.ca_text.specs.Limits.{output_limit}
use Rattle.ca_text.specs.declared.refusal.Refusal.{Refusal}
use Rattle.ca_text.specs.declared.refusal.Refusal.TheVariants as refusal
use Rattle.ca_text.specs.declared.command.Command.{Command}
use Rattle.ca_wire.specs.declared.requests.Wanted.{Wanted}
use Rattle.ca_wire.specs.Fields.{Fields}
use Rattle.ca_wire.specs.Messages.{on_channel}
use Rattle.ca_wire.specs.Reading.{NoHeaderOnly, NoScalar, scalar_in}
use Rattle.ca_wire.specs.Made.{with_payload}
use Rattle.ca_wire.specs.Stream.{BadAt, NoneBegins, NotBad}
use Rattle.ca_link.specs.Link.{LinkState, TakesFirst, with_given, with_rest, with_sent}

-- no bad header was met
abbrev pub IsOpen : LinkState → Type 0
IsOpen l = l.input.closed ≡ false

-- A bad header was met, and nothing is read any more.
abbrev pub IsClosed : LinkState → Type 0
IsClosed l = l.input.closed ≡ true

-- the link that met one: what came stays
abbrev pub closed_off : LinkState → LinkState
closed_off l = record l { input = record l.input { closed = true } }

-- `give`: these bytes came at this moment. No bytes need no memory.
abbrev pub Gives : ℕ → List ℕ → LinkState → Result (Unit {0}) Refusal → LinkState → Type 0
Gives now bytes old (Ok _) new = IsOpen old × (new ≡ with_given now bytes old)
Gives now bytes old (Err refusal.CircuitClosed) new = IsClosed old × (new ≡ old)
Gives now bytes old (Err refusal.OutOfMemory) new = IsOpen old × (bytes ≢ []) × (new ≡ old)
Gives now bytes old (Err _) new = ⊥

-- the first message has a payload, and that takes memory
abbrev pub TakesMemory : LinkState → Type 0
TakesMemory l = (m : Fields) × (rest : List ℕ) × TakesFirst l m rest × (m.payload ≢ [])

-- `next_message`: the first message is taken, or no complete one is there; a bad header
-- closes the link for good.
abbrev pub Nexts : LinkState → Result (Option Fields) Refusal → LinkState → Type 0
Nexts old (Ok (Some m)) new =
    IsOpen old × ((rest : List ℕ) × TakesFirst old m rest × (new ≡ with_rest rest old))
Nexts old (Ok None) new =
    IsOpen old × NoneBegins old.input.bytes × NotBad old.input.bytes × (new ≡ old)
Nexts old (Err refusal.CircuitClosed) new = IsClosed old × (new ≡ old)
Nexts old (Err refusal.Misaligned) new =
    IsOpen old × BadAt old.input.bytes refusal.Misaligned × (new ≡ closed_off old)
Nexts old (Err refusal.TooLarge) new =
    IsOpen old × BadAt old.input.bytes refusal.TooLarge × (new ≡ closed_off old)
Nexts old (Err refusal.OutOfMemory) new = IsOpen old × TakesMemory old × (new ≡ old)
Nexts old (Err _) new = ⊥

-- `next_without_payload`: the same, if the first message is of this command, in 16 bytes without
-- payload.
abbrev pub NextsHeaderOnly : Command → LinkState → Option Wanted → LinkState → Type 0
NextsHeaderOnly c old (Some w) new = Nexts old (Ok (Some (on_channel c w []))) new
NextsHeaderOnly c old None new = (IsOpen old → NoHeaderOnly old.input.bytes c) × (new ≡ old)

-- `first_of_eight_bytes`: the first message is of this command, names this, and is 24 bytes, of
-- which eight are its payload.
pub record HasScalar (c : Command) (l : LinkState) (w : Wanted) : Type 0 where
  pub live : IsOpen l
  pub room : 24 ≤ length l.input.bytes
  pub takes : TakesFirst l (scalar_in l.input.bytes c w) (drop 24 l.input.bytes)

abbrev pub FirstScalar : Command → LinkState → Option Wanted → Type 0
FirstScalar c l (Some w) = HasScalar c l w
FirstScalar c l None = IsOpen l → NoScalar l.input.bytes c

-- `queue`: a message of a caller waits after the others, unless as many bytes wait as
-- may. It takes memory.
abbrev pub Queues : Fields → LinkState → Result (Unit {0}) Refusal → LinkState → Type 0
Queues m old (Ok _) new =
    IsOpen old × (length old.output < output_limit) × (new ≡ with_sent (m ∷ []) old)
Queues m old (Err refusal.CircuitClosed) new = IsClosed old × (new ≡ old)
Queues m old (Err refusal.OutputFull) new =
    IsOpen old × (output_limit ≤ length old.output) × (new ≡ old)
Queues m old (Err refusal.OutOfMemory) new =
    IsOpen old × (length old.output < output_limit) × (new ≡ old)
Queues m old (Err _) new = ⊥

-- `queue_own`: a message of the end's own waits after the others. It takes memory.
abbrev pub QueuesOwn : Fields → LinkState → Result (Unit {0}) Refusal → LinkState → Type 0
QueuesOwn m old (Ok _) new = IsOpen old × (new ≡ with_sent (m ∷ []) old)
QueuesOwn m old (Err refusal.CircuitClosed) new = IsClosed old × (new ≡ old)
QueuesOwn m old (Err refusal.OutOfMemory) new = IsOpen old × (new ≡ old)
QueuesOwn m old (Err _) new = ⊥

-- `queue_made`: the same for a message whose payload is made in its place, and may be refused.
abbrev pub QueuesMade : Fields → Result (List ℕ) Refusal → LinkState → Result (Unit {0}) Refusal
    → LinkState → Type 0
QueuesMade m made old (Ok _) new =
    IsOpen old
    × ((bytes : List ℕ) × (made ≡ Ok bytes) × (new ≡ with_sent (with_payload bytes m ∷ []) old))
QueuesMade m made old (Err refusal.OutOfMemory) new = IsOpen old × (new ≡ old)
QueuesMade m made old (Err e) new =
    (((e ≡ refusal.CircuitClosed) × IsClosed old) ⊎ (IsOpen old × (made ≡ Err e))) × (new ≡ old)
