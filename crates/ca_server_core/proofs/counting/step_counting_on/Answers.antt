use Rattle.std.proofs.Common.{◌∙◌, Option, sym, subst}
use Rattle.ca_server_circuit.specs.declared.step.FollowUp.TheVariants.{Quiet}
use Rattle.ca_server_circuit.specs.declared.step.EndStep.{EndStep}
use Rattle.ca_server_circuit.specs.Serving.{CircuitSteps}
use Rattle.ca_server_core.proofs.Served.{idle-changed, stepped-sound, steps-and-pumps, still-is}
use Rattle.ca_server_core.proofs.counting.step_counting_on.Goals as goal

pub pump-requires : goal.pump-requires
pump-requires c =
    let s = c.step-did in
    let quiet = still-is s.result (sym c.is_still.ensures ∙ c.if-is_still.true) in
    let steps = subst (λ (d : Option EndStep). CircuitSteps c.args.port c.args.circuit c.in-Some.found.now c.args.records.now d s.new.self s.new.records) quiet.1 s.ensures in
    stepped-sound c.args.port c.args.records.now s.new.records c.args.circuits.now c.args.circuit c.in-Some.found.now s.new.self (Quiet quiet.0) (sym c.in-Some.ensures.value) steps c.requires

pub returns-then-is_still-clause-pumps : goal.returns-then-is_still-clause-pumps
returns-then-is_still-clause-pumps c = λ still.
    let s = c.step-did in
    let quiet = still-is s.result still in
    let steps = subst (λ (d : Option EndStep). CircuitSteps c.args.port c.args.circuit c.in-Some.found.now c.args.records.now d s.new.self s.new.records) quiet.1 s.ensures in
    steps-and-pumps c.args.port c.args.records.now s.new.records c.pump.new.records c.args.circuits.now c.args.circuit c.in-Some.found.now s.new.self c.pump.new.self quiet.0 (sym c.in-Some.ensures.value) steps c.pump.ensures

pub returns-clause-idle : goal.returns-clause-idle
returns-clause-idle c = λ yes. idle-changed c.args.circuits.now c.args.circuit c.in-Some.found.now c.step-did.new.self (sym c.in-Some.ensures.value) (c.is_idle.ensures yes)
