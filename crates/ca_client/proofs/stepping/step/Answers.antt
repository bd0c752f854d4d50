use Rattle.std.proofs.Common.{subst}
use Rattle.ca_client.specs.Awaited.{StateView}
use Rattle.ca_client.specs.Calls.{HasSteppedUnderLock}
use Rattle.ca_client.specs.declared.ask.CoreCall.TheVariants as ask
use Rattle.ca_client.proofs.stepping.step.Goals as goal

pub returns-in-Other : goal.returns-in-Other
returns-in-Other c = subst (λ (v : StateView). HasSteppedUnderLock v (ask.Step c.args.circuit) c.step_other.result c.step_other.new.state) c.in-Other.ensures c.step_other.ensures.steps
