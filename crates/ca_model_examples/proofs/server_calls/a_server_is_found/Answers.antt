use Rattle.ca_model_examples.proofs.ServerAnswers.{announces-itself, answers-searches, packs-replies}
use Rattle.ca_model_examples.proofs.server_calls.a_server_is_found.Goals as goal

pub returns : goal.returns
returns c = record { beacons = announces-itself; answers = answers-searches; packs = packs-replies }
