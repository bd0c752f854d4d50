use Rattle.ca_model_examples.proofs.ServerHappens.{remove-happens, add-happens, adds-refused}
use Rattle.ca_model_examples.proofs.server_events.records_come_and_go.Goals as goal

pub returns : goal.returns
returns c = record { removed = remove-happens; added = add-happens; refused = adds-refused }
