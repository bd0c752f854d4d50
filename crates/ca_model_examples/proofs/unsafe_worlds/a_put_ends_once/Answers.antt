use Rattle.ca_model_examples.proofs.Waiting.{closed-safe, closed-unhandled, dropped-for-nothing, dropped-safe, waits-safe, waits-unhandled}
use Rattle.ca_model_examples.proofs.Writes.{finished-safe, finished-twice, finished-for-nothing}
use Rattle.ca_model_examples.proofs.unsafe_worlds.a_put_ends_once.Goals as goal

pub returns : goal.returns
returns c = record { waits = waits-safe; waits_unhandled = waits-unhandled; closed = closed-safe; closed_unhandled = closed-unhandled; dropped = dropped-safe; dropped_for_nothing = dropped-for-nothing; finished = finished-safe; finished_twice = finished-twice; finished_unbusy = finished-for-nothing }
