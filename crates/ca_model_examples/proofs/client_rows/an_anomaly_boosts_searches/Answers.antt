use Rattle.ca_model_examples.proofs.ClientWorked.{beacon-boosts}
use Rattle.ca_model_examples.proofs.client_rows.an_anomaly_boosts_searches.Goals as goal

pub returns : goal.returns
returns c = beacon-boosts
