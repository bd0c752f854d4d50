-- Vocabulary: what is told of a message, by what it does (section "CA Protocol Messages").
use Rattle.std.specs.Prelude.{◌==◌, true, false, if◌then◌else◌}
use Rattle.ca_text.specs.Command.{command_number}
use Rattle.ca_text.specs.declared.command.Command.TheVariants as command
use Rattle.ca_wire.specs.Fields.{Fields}
use Rattle.ca_model.specs.Due.{Action, Adds, Applies, Clears, Drops, Greets, Names, Nothing, Opens}
use Rattle.ca_model.specs.Due.{Switches, Waits}
use Rattle.ca_server_circuit.specs.Peeking.{is_write}
use Rattle.ca_server_circuit.specs.declared.effect.Effect.{Effect}
use Rattle.ca_server_circuit.specs.declared.effect.Effect.TheVariants.{Busied, Cancelled, Cleared}
use Rattle.ca_server_circuit.specs.declared.effect.Effect.TheVariants.{Created, Queued, Quiet}
use Rattle.ca_server_circuit.specs.declared.effect.Effect.TheVariants.{Refused, Subscribed}
use Rattle.ca_server_circuit.specs.declared.effect.Effect.TheVariants.{Switched, WriteRefused}
use Rattle.ca_server_circuit.specs.declared.effect.Effect.TheVariants.{Wrote}

-- Each action has its effect. A CREATE_CHAN that does nothing was refused, and so was a
-- WRITE or a WRITE_NOTIFY; of what else does nothing, and of a greeting or a name of the
-- peer, nothing is told.
abbrev pub effect_due : Fields → Action → Effect
effect_due m Nothing =
    if m.command == command_number command.CreateChannel then Refused
    else if is_write m.command then WriteRefused m.p1
    else Quiet
effect_due m Greets = Quiet
effect_due m (Names peer) = Quiet
effect_due m (Opens channel) = Created channel.sid
effect_due m (Clears sid) = Cleared sid
effect_due m (Applies name value true) = Busied m.p1
effect_due m (Applies name value false) = Wrote m.p1
effect_due m (Waits name value) = Queued m.p1
effect_due m (Adds s) = Subscribed s.wanted.sid s.wanted.id
effect_due m (Drops key) = Cancelled key.sid key.sub
effect_due m (Switches on) = Switched on
