-- Vocabulary: an end's two streams of bytes on a circuit, and its moments (sections "Virtual
-- Circuit" and "CA_PROTO_ECHO").
use Rattle.std.specs.Prelude.{ℕ, ◌≡◌, ◌-◌, ◌&&◌, ◌++◌, Bool, false, true, not, List, [], drop}
use Rattle.std.specs.Prelude.{if◌then◌else◌, length, nat_le, take}
use Rattle.ca_text.specs.Limits.{close_silence, echo_silence}
use Rattle.ca_wire.specs.Fields.{Fields}
use Rattle.ca_wire.specs.Message.{Spells, spelled}
use Rattle.ca_wire.specs.Stream.{Held}
-- What a moment asks of an end: nothing (Idle), an ECHO (Echo), or to close (Close).
use Rattle.ca_link.specs.declared.keep.Keep.{Keep}
use Rattle.ca_link.specs.declared.keep.Keep.TheVariants.{Close, Echo, Idle}
use Rattle.ca_link.specs.declared.mark.Mark.{Mark}

-- What came and was not read, and whether a bad header was met; what waits to be sent; the moment
-- at which bytes came last; and whether an ECHO went out since.
pub record LinkState : Type 0 where
  pub input : Held
  pub output : List ℕ
  pub heard_at : ℕ
  pub echoed : Bool

-- a link that begins at this moment
abbrev pub new_link : ℕ → LinkState
new_link now =
    record {
      input = record { bytes = []; closed = false };
      output = [];
      heard_at = now;
      echoed = false;
    }

-- these bytes came: they end a silence, unless there are none
abbrev pub with_given : ℕ → List ℕ → LinkState → LinkState
with_given now [] l = l
with_given now bytes l =
    record l {
      input = record l.input { bytes = l.input.bytes ++ bytes };
      heard_at = now;
      echoed = false;
    }

-- these messages wait after the others
abbrev pub with_sent : List Fields → LinkState → LinkState
with_sent ms l = record l { output = l.output ++ spelled ms }

-- the first n bytes that waited were handed over
abbrev pub with_handed : ℕ → LinkState → LinkState
with_handed n l = record l { output = drop n l.output }

-- The message is the first of what came, and these bytes come after it.
abbrev pub TakesFirst : LinkState → Fields → List ℕ → Type 0
TakesFirst l m rest = (front : List ℕ) × Spells front m × (l.input.bytes ≡ front ++ rest)

-- these bytes are left to be read
abbrev pub with_rest : List ℕ → LinkState → LinkState
with_rest rest l = record l { input = record l.input { bytes = rest } }

-- for how many milliseconds no bytes came
abbrev pub silence : ℕ → LinkState → ℕ
silence now l = now - l.heard_at

-- So long a silence asks for an ECHO, once, and one that is longer still for the end.
abbrev pub kept : ℕ → LinkState → Keep
kept now l =
    if nat_le close_silence (silence now l) then Close
    else if nat_le echo_silence (silence now l) && not l.echoed then Echo else Idle

-- the link after it was asked so: an ECHO goes out, once in a silence
abbrev pub noted : Keep → LinkState → LinkState
noted Echo l = record l { echoed = true }
noted k l = l

-- how much waits, and whether an ECHO went out
abbrev pub mark_of : LinkState → Mark
mark_of l = record { waiting = length l.output; echoed = l.echoed }

-- the link with what was sent since this mark taken back
abbrev pub restored : Mark → LinkState → LinkState
restored m l = record l { output = take m.waiting l.output; echoed = m.echoed }
