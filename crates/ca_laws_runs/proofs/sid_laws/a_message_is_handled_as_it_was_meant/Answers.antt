use Rattle.ca_laws_runs.proofs.Over.{reached-known}
use Rattle.ca_laws_runs.proofs.sid_laws.a_message_is_handled_as_it_was_meant.Goals as goal

pub returns : goal.returns
returns c = reached-known
