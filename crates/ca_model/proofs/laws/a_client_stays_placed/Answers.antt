use Rattle.ca_model.proofs.Changes.{keeps-cleared}
use Rattle.ca_model.proofs.Hearing.{keeps-heard}
use Rattle.ca_model.proofs.Letting.{ends-ended}
use Rattle.ca_model.proofs.laws.a_client_stays_placed.Goals as goal

pub returns : goal.returns
returns c = record {
  heard = λ x c m e placed hears. (keeps-heard x c m e placed hears).placed placed;
  cleared = λ x h s placed at. (keeps-cleared h s x placed at).placed placed;
  ended = λ x c placed. (ends-ended c x).placed placed;
}
