use Rattle.ca_laws_parts.proofs.Going.{applied-once, dropped-as, finished-once, own-message}
use Rattle.ca_laws_parts.proofs.BytesRuns.{reached, reached-in-step, reached-says}
use Rattle.ca_laws_parts.proofs.written.writes_are_applied_once_in_runs.Goals as goal

pub returns : goal.returns
returns c = record {
  once = λ w at. applied-once w (reached w at).1.sound.writes.logs;
  own = λ w at. own-message w (reached w at).1.sound.writes.logs;
  dropped = λ w at. dropped-as w (reached w at).1.sound.writes.logs;
  finished = λ w at. finished-once w (reached w at).1.sound.writes.logs;
  replies = reached-says;
  asked = λ w at. (reached w at).1.asked;
  in_step = reached-in-step;
}
