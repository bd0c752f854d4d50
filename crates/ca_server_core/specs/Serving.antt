-- Working: what a step makes of the table of circuits, and how it is reported.
use Rattle.std.specs.Prelude.{ℕ, ◌≡◌, ◌+◌, ◌⊎◌, Bool, true, false, [], Option, Some, None}
use Rattle.std.specs.Prelude.{if◌then◌else◌, min}
use Rattle.ca_arena.specs.declared.handle.Handle.{Handle}
use Rattle.ca_ids.specs.Table.{Table, under, with_changed, with_freed}
use Rattle.ca_records.specs.Store.{Store}
use Rattle.ca_text.specs.Limits.{applied_limit}
use Rattle.ca_model.specs.Ends as why
use Rattle.ca_model.specs.Server.{ServerCircuit}
use Rattle.ca_model.specs.Server as server
use Rattle.ca_model.specs.ServerSteps.{Stepped}
use Rattle.ca_model.specs.ServerSteps as steps
use Rattle.ca_server_circuit.specs.declared.step.FollowUp.{FollowUp}
use Rattle.ca_server_circuit.specs.declared.step.FollowUp.TheVariants as effect
use Rattle.ca_server_circuit.specs.declared.step.EndStep.{EndStep}
use Rattle.ca_server_circuit.specs.declared.step.EndStep.TheVariants as step
use Rattle.ca_server_core.specs.declared.stepping.CoreStep.{CoreStep}
use Rattle.ca_server_core.specs.declared.stepping.CoreStep.TheVariants.{Closed, Handled, NeedBytes}
use Rattle.ca_server_core.specs.declared.stepping.CoreStep.TheVariants.{OutputFull}
use Rattle.ca_server_circuit.specs.Serving.{CircuitSteps}
use Rattle.ca_server_circuit.specs.Stepping.{why_is}

-- what a step did, as the statement names it
abbrev pub stepped : CoreStep → Stepped
stepped (Handled did) = steps.Handled
stepped NeedBytes = steps.NeedBytes
stepped OutputFull = steps.OutputFull
stepped (Closed cause left) = steps.Closed (why_is cause) left

-- whether a message leaves nothing to do
abbrev pub is_quiet : FollowUp → Bool
is_quiet (effect.Quiet told) = true
is_quiet did = false

-- whether a step handled a message
abbrev pub is_handled : Option EndStep → Bool
is_handled (Some (step.Handled did)) = true
is_handled did = false

-- whether a step handled a message that leaves nothing to do
abbrev pub is_still : Option EndStep → Bool
is_still (Some (step.Handled did)) = is_quiet did
is_still did = false

-- how many writes were applied after a message that applied one, or not
abbrev pub more_applied : (writes : Bool) → ℕ → ℕ
more_applied writes n = if writes then min (n + 1) applied_limit else n

-- One step of the circuit of a handle.
abbrev pub StepsIn : (port : ℕ) → Table ServerCircuit → Handle → Store → Option EndStep
    → Table ServerCircuit → Store → Type 0
StepsIn port t h s did after u =
    ((c : ServerCircuit) × (new : ServerCircuit) × (under t h ≡ Some c)
    × CircuitSteps port h c s did new u × (after ≡ with_changed (λ (x : ServerCircuit). new) h t))
    ⊎ ((under t h ≡ None) × (did ≡ None) × (after ≡ t) × (u ≡ s))

-- how the end of a circuit that has ended is reported
abbrev pub IsReport : Option ServerCircuit → Stepped → Type 0
IsReport None did = did ≡ steps.Closed why.Cut []
IsReport (Some (server.Ended w left)) did = did ≡ steps.Closed w left
IsReport (Some (server.Open e)) did = Unit {0}

-- the circuit of a handle was taken out, and its end is reported
abbrev pub Reports : Table ServerCircuit → Handle → CoreStep → Table ServerCircuit → Type 0
Reports t h did after = IsReport (under t h) (stepped did) × (after ≡ with_freed h t)
