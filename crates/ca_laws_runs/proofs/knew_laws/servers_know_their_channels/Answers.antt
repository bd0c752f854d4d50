use Rattle.ca_laws_runs.proofs.KnewListsRuns.{run-know-channels}
use Rattle.ca_laws_runs.proofs.knew_laws.servers_know_their_channels.Goals as goal

pub returns : goal.returns
returns c = run-know-channels
