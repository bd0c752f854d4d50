use Rattle.ca_queue.proofs.Runs.{sound_from_start}
use Rattle.ca_queue.proofs.laws.every_run_is_sound.Goals as goal

pub returns : goal.returns
returns g c = sound_from_start
