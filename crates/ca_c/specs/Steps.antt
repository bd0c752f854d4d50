-- Vocabulary: what a step tells C, as numbers.
use Rattle.std.specs.Prelude.{ℕ, ℤ, false, pos, true}
use Rattle.ca_server_circuit.specs.declared.cause.EndCause.{EndCause}
use Rattle.ca_server_circuit.specs.declared.cause.EndCause.TheVariants as cause
use Rattle.ca_server_circuit.specs.declared.effect.Effect.TheVariants.{Busied, Cancelled, Cleared}
use Rattle.ca_server_circuit.specs.declared.effect.Effect.TheVariants.{Created, Queued, Quiet}
use Rattle.ca_server_circuit.specs.declared.effect.Effect.TheVariants.{Refused, Subscribed}
use Rattle.ca_server_circuit.specs.declared.effect.Effect.TheVariants.{Switched, WriteRefused}
use Rattle.ca_server_circuit.specs.declared.effect.Effect.TheVariants.{Wrote}
use Rattle.ca_server_core.specs.declared.stepping.CoreStep.{CoreStep}
use Rattle.ca_server_core.specs.declared.stepping.CoreStep.TheVariants.{Closed, Handled, NeedBytes}
use Rattle.ca_server_core.specs.declared.stepping.CoreStep.TheVariants.{OutputFull}
use Rattle.ca_c.specs.declared.step.CvzStep.{CvzStep}

abbrev pub step_number : CoreStep → ℤ
step_number NeedBytes = pos 0
step_number (Handled did) = pos 1
step_number OutputFull = pos 2
step_number (Closed why left) = pos 3

abbrev pub cause_number : EndCause → ℕ
cause_number cause.OutOfMemory = 1
cause_number cause.Misaligned = 2
cause_number cause.TooLarge = 3
cause_number cause.Cut = 4

-- a message that was handled: its effect, and the ids that it has
abbrev pub handled : (effect sid subscription : ℕ) → CvzStep
handled effect sid subscription =
    record { effect = effect; sid = sid; subscription = subscription; cause = 0 }

-- what a step tells beside its number
abbrev pub c_step : CoreStep → CvzStep
c_step (Handled Quiet) = handled 0 0 0
c_step (Handled (Wrote sid)) = handled 1 sid 0
c_step (Handled (Busied sid)) = handled 2 sid 0
c_step (Handled (Queued sid)) = handled 3 sid 0
c_step (Handled Refused) = handled 4 0 0
c_step (Handled (Created sid)) = handled 5 sid 0
c_step (Handled (Cleared sid)) = handled 6 sid 0
c_step (Handled (Subscribed sid subscription)) = handled 7 sid subscription
c_step (Handled (Cancelled sid subscription)) = handled 8 sid subscription
c_step (Handled (Switched false)) = handled 9 0 0
c_step (Handled (Switched true)) = handled 10 0 0
c_step (Handled (WriteRefused sid)) = handled 11 sid 0
c_step (Closed why left) =
    record { effect = 0; sid = 0; subscription = 0; cause = cause_number why }
c_step did = handled 0 0 0
