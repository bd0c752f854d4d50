use Rattle.ca_laws_runs.proofs.ActsOn.{run-acts}
use Rattle.ca_laws_runs.proofs.act_laws.messages_act_on_the_record_that_is_named.Goals as goal

pub returns : goal.returns
returns c = run-acts
