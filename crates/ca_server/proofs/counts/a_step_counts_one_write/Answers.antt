use Rattle.ca_server.proofs.Stepping.{steps}
use Rattle.ca_server.proofs.counts.a_step_counts_one_write.Goals as goal

pub returns : goal.returns
returns c old h did new l a is = steps old h did new l a is
