use Rattle.ca_queue.proofs.Soundness.{sound_posted}
use Rattle.ca_queue.proofs.laws.post_finds_a_place.Goals as goal

pub returns : goal.returns
returns g c q key entry sound there = (sound_posted key entry q there sound).fits
