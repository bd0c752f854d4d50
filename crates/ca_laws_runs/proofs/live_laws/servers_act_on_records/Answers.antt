use Rattle.ca_laws_runs.proofs.ActsWhole.{run-act-on-records}
use Rattle.ca_laws_runs.proofs.live_laws.servers_act_on_records.Goals as goal

pub returns : goal.returns
returns c = run-act-on-records
