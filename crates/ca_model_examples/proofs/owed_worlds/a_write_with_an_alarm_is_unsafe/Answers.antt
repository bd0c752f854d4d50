use Rattle.ca_model_examples.proofs.Owed.{never-alarmed, never-waits-alarmed}
use Rattle.ca_model_examples.proofs.owed_worlds.a_write_with_an_alarm_is_unsafe.Goals as goal

pub returns : goal.returns
returns c = record { made = never-alarmed; waits = never-waits-alarmed }
