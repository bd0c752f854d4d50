use Rattle.ca_laws_runs.proofs.Under.{reached-writes}
use Rattle.ca_laws_runs.proofs.sid_laws.writes_are_handled_on_their_channel.Goals as goal

pub returns : goal.returns
returns c = reached-writes
