-- Vocabulary: when a client asks for a pause of updates, and for their return (sections
-- "CA_PROTO_EVENTS_OFF" and "CA_PROTO_EVENTS_ON").
use Rattle.std.specs.Prelude.{ℕ, ◌+◌, ◌==◌, Bool, true, false, Option, Some, None, if◌then◌else◌}
use Rattle.ca_text.specs.declared.command.Command.{Command}
use Rattle.ca_text.specs.declared.command.Command.TheVariants as command
use Rattle.ca_text.specs.Limits.{flow_reads}

-- how many reads of a circuit in a row left bytes waiting, and whether its client asked for a pause
pub record ReadRun : Type 0 where
  pub reads : ℕ
  pub events_off : Bool

-- of a circuit that was not read yet
abbrev pub no_reads : ReadRun
no_reads = record { reads = 0; events_off = false }

-- one more read left bytes waiting: `flow_reads` of them in a row ask for a pause
abbrev pub counted : ReadRun → ReadRun
counted r =
    if r.reads + 1 == flow_reads then record { reads = 0; events_off = true }
    else record r { reads = r.reads + 1 }

-- A read that left bytes waiting (true) is counted, unless updates pause. A read that left none
-- ends the pause, and the count begins again.
abbrev pub after_read : Bool → ReadRun → ReadRun
after_read true r = if r.events_off then r else counted r
after_read false r = no_reads

-- what is sent if a pause was or was not asked for before, and is now
abbrev pub asked_between : Bool → Bool → Option Command
asked_between false true = Some command.EventsOff
asked_between true false = Some command.EventsOn
asked_between false false = None
asked_between true true = None

-- what a read sends: EVENTS_OFF as a pause begins, EVENTS_ON as it ends
abbrev pub sent_by_read : Bool → ReadRun → Option Command
sent_by_read more r = asked_between r.events_off (after_read more r).events_off
