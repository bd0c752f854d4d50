use Rattle.ca_laws_parts.proofs.Going.{applied-once, dropped-as, finished-once, own-message}
use Rattle.ca_laws_parts.proofs.writes_in_runs.sound_writes_are_applied_once.Goals as goal

pub returns : goal.returns
returns c = record {
  once = λ s w h. applied-once w h.writes.logs;
  own = λ s w h. own-message w h.writes.logs;
  dropped = λ s w h. dropped-as w h.writes.logs;
  finished = λ s w h. finished-once w h.writes.logs;
}
