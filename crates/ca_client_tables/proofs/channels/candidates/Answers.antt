use Rattle.ca_client_tables.proofs.OnLists.{may-all}
use Rattle.ca_client_tables.proofs.channels.candidates.Goals as goal

pub returns-then-not-complete : goal.returns-then-not-complete
returns-then-not-complete c = may-all c.args.circuit.index c.places.result c.args.table.now c.places.ensures
