use Rattle.std.proofs.Common.{◌≡◌}
use Rattle.ca_serve.proofs.circuit.steps.Given as goal

abbrev pub invariant-loop : goal.invariant-loop
invariant-loop g l = l.share.parts ≡ l.initial.share.parts
