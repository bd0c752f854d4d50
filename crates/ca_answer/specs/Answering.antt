-- Vocabulary: what the engine of one circuit reads and writes.
use Rattle.std.specs.Prelude.{ℕ, ◌≡◌, ◌+◌, ◌<◌, ◌++◌, ◌⊎◌, List, [], ◌∷◌, Result, Ok, Err}
use Rattle.std.specs.List.{concat}
use Rattle.ca_text.specs.declared.refusal.Refusal.{Refusal}
use Rattle.ca_text.specs.declared.refusal.Refusal.TheVariants.{OutOfMemory, Misaligned, TooLarge}
use Rattle.ca_text.specs.declared.refusal.Refusal.TheVariants.{Device}
use Rattle.ca_text.specs.Limits.{engine_turns}
use Rattle.ca_wire.specs.Fields.{Fields}
use Rattle.ca_wire.specs.Stream.{BadAt, Begins, NoneBegins, NotBad}
use Rattle.ca_link.specs.Steps.{Moves}
use Rattle.ca_records.specs.Record.{RecordState}
use Rattle.ca_records.specs.Rules.{Rule}
use Rattle.ca_model.specs.Answer.{Answered}

-- The bytes are readings of these messages, then the rest; the messages are answered by a text; and
-- what the sink took since k0, with what waits after it, is that text.
pub record Written {K : Type 0} (takes : K → List ℕ → K → Type 0) (rules : List Rule)
    (states : List RecordState) (k0 : K) (bytes : List ℕ) (k : K)
    (rest waits : List ℕ) : Type 0 where
  pub ms : List Fields
  pub begins : Begins bytes ms rest
  pub text : List ℕ
  pub answered : Answered rules states ms text
  pub writes : List (List ℕ)
  pub wrote : Moves takes k0 writes k
  pub parts : concat writes ++ waits ≡ text

-- From s0 to s the source gave these chunks, and from k0 to k the sink took the answers, but
-- for those that wait.
pub record Turned {S K : Type 0} (gives : S → List ℕ → S → Type 0) (takes : K → List ℕ → K → Type 0)
    (rules : List Rule) (states : List RecordState) (s0 s : S) (k0 k : K) (chunks : List (List ℕ))
    (rest waits : List ℕ) : Type 0 where
  pub came : Moves gives s0 chunks s
  pub written : Written takes rules states k0 (concat chunks) k rest waits

-- All was read to the end of input, which is a read that gives nothing, and all was answered.
pub record ReadsAll {S K : Type 0} (gives : S → List ℕ → S → Type 0)
    (takes : K → List ℕ → K → Type 0) (rules : List Rule) (states : List RecordState) (s0 s : S)
    (k0 k : K) : Type 0 where
  pub chunks : List (List ℕ)
  pub rest : List ℕ
  pub turned : Turned gives takes rules states s0 s k0 k (chunks ++ [] ∷ []) rest []
  pub whole : NoneBegins rest
  pub good : NotBad rest

-- All messages before a bad header were answered. It was whole only with the last chunk: what came
-- before that chunk is readings of messages, then a rest with no bad header.
pub record MeetsBad {S K : Type 0} (gives : S → List ℕ → S → Type 0)
    (takes : K → List ℕ → K → Type 0) (rules : List Rule) (states : List RecordState) (s0 s : S)
    (k0 k : K) (e : Refusal) : Type 0 where
  pub before : List (List ℕ)
  pub last : List ℕ
  pub earlier : List Fields
  pub unread : List ℕ
  pub begins : Begins (concat before) earlier unread
  pub good : NotBad unread
  pub rest : List ℕ
  pub turned : Turned gives takes rules states s0 s k0 k (before ++ last ∷ []) rest []
  pub bad : BadAt rest e

-- The answers to the first messages were written, or a beginning of them.
pub record BreaksOff {S K : Type 0} (gives : S → List ℕ → S → Type 0)
    (takes : K → List ℕ → K → Type 0) (rules : List Rule) (states : List RecordState) (s0 s : S)
    (k0 k : K) : Type 0 where
  pub chunks : List (List ℕ)
  pub rest : List ℕ
  pub waits : List ℕ
  pub turned : Turned gives takes rules states s0 s k0 k chunks rest waits

-- The source failed after it had given these chunks. All complete messages in them were answered,
-- and no header in them is bad.
pub record SourceFails {S K : Type 0} (gives : S → List ℕ → S → Type 0)
    (takes : K → List ℕ → K → Type 0) (rules : List Rule) (states : List RecordState) (s0 : S)
    (k0 k : K) : Type 0 where
  pub last : S
  pub chunks : List (List ℕ)
  pub rest : List ℕ
  pub turned : Turned gives takes rules states s0 last k0 k chunks rest []
  pub whole : NoneBegins rest
  pub good : NotBad rest

-- What the engine did, by its answer. Refusal 23 comes if the source failed, the sink failed, or
-- the calls of the two are used up.
abbrev pub Streams : {S K : Type 0} → (S → List ℕ → S → Type 0) → (K → List ℕ → K → Type 0)
    → (S → ℕ) → (K → ℕ) → (S → ℕ) → (K → ℕ) → List Rule → List RecordState → S → S → K → K
    → Result (Unit {0}) Refusal → Type 0
Streams gives takes calls calls' faults faults' rules states s0 s k0 k (Ok _) =
    ReadsAll gives takes rules states s0 s k0 k
Streams gives takes calls calls' faults faults' rules states s0 s k0 k (Err Misaligned) =
    MeetsBad gives takes rules states s0 s k0 k Misaligned
Streams gives takes calls calls' faults faults' rules states s0 s k0 k (Err TooLarge) =
    MeetsBad gives takes rules states s0 s k0 k TooLarge
Streams gives takes calls calls' faults faults' rules states s0 s k0 k (Err OutOfMemory) =
    BreaksOff gives takes rules states s0 s k0 k
Streams gives takes calls calls' faults faults' rules states s0 s k0 k (Err Device) =
    ((faults s0 < faults s) × SourceFails gives takes rules states s0 k0 k)
    ⊎ (((faults' k0 < faults' k) × BreaksOff gives takes rules states s0 s k0 k)
    ⊎ ((calls s + calls' k ≡ calls s0 + calls' k0 + engine_turns)
    × BreaksOff gives takes rules states s0 s k0 k))
Streams gives takes calls calls' faults faults' rules states s0 s k0 k (Err _) = ⊥
