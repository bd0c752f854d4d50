use Rattle.ca_laws_parts.proofs.Noticed.{told-done, told-failed}
use Rattle.ca_laws_parts.proofs.BytesRuns.{reached, reached-says}
use Rattle.ca_laws_parts.proofs.written.callers_are_told_right_in_runs.Goals as goal

pub returns : goal.returns
returns c = record {
  done = λ w at. (let r = reached w at in told-done r.0 w r.1.sound (reached-says w at) r.1.asked);
  failed = λ w at. (let r = reached w at in told-failed r.0 w r.1.sound (reached-says w at) r.1.asked);
}
