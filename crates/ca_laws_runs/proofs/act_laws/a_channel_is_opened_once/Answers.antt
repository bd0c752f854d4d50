use Rattle.ca_laws_runs.proofs.ActsLive.{run-once}
use Rattle.ca_laws_runs.proofs.act_laws.a_channel_is_opened_once.Goals as goal

pub returns : goal.returns
returns c = run-once
