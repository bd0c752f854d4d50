-- Vocabulary: what a step reports of the message that it handled (section "CA Protocol Messages").
use Rattle.std.specs.Prelude.{◌≡◌, Option, Some}
use Rattle.ca_arena.specs.declared.handle.Handle.{Handle}
use Rattle.ca_ids.specs.Table.{under}
use Rattle.ca_text.specs.declared.command.Command.TheVariants as command
use Rattle.ca_wire.specs.Fields.{Fields}
use Rattle.ca_wire.specs.Messages.{header_only}
use Rattle.ca_model.specs.Due.{Action, Nothing}
use Rattle.ca_model.specs.Server.{Open, Server, ServerCircuit}
use Rattle.ca_model.specs.ServerSteps.{Steps, StepsAt}
use Rattle.ca_model.specs.ServerSteps as steps
use Rattle.ca_server_circuit.specs.Effects.{effect_due}
use Rattle.ca_server_core.specs.declared.stepping.CoreStep.{CoreStep}
use Rattle.ca_server_core.specs.declared.stepping.CoreStep.TheVariants.{Handled}

-- ---- the message that a step handled

-- what it did, by what is under the handle
abbrev pub action_at : (old : Server) (h : Handle) (new : Server) (c : Option ServerCircuit)
    → StepsAt old h c steps.Handled new → Action
action_at old h new (Some (Open e)) d = d.0.action
action_at old h new c d = Nothing

-- the same under its own
abbrev pub action_of : (old : Server) (h : Handle) (new : Server) → Steps old h steps.Handled new
    → Action
action_of old h new d = action_at old h new (under old.circuits h) d

-- the message, by what is under the handle
abbrev pub message_at : (old : Server) (h : Handle) (new : Server) (c : Option ServerCircuit)
    → StepsAt old h c steps.Handled new → Fields
message_at old h new (Some (Open e)) d = d.0.m
message_at old h new c d = header_only command.Echo

-- the same under its own
abbrev pub message_of : (old : Server) (h : Handle) (new : Server) → Steps old h steps.Handled new
    → Fields
message_of old h new d = message_at old h new (under old.circuits h) d

-- ---- what is told

-- `step`: the effect of the message that it handled
abbrev pub TellsEffect : Server → Handle → CoreStep → Server → Type 0
TellsEffect old h (Handled did) new =
    (d : Steps old h steps.Handled new)
    × (did ≡ effect_due (message_of old h new d) (action_of old h new d))
TellsEffect old h did new = Unit {0}
