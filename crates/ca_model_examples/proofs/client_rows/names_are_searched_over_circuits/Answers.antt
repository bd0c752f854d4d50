use Rattle.ca_model_examples.proofs.ClientWorked.{name-is-wanted, searches-on-name}
use Rattle.ca_model_examples.proofs.client_rows.names_are_searched_over_circuits.Goals as goal

pub returns-clause-wanted : goal.returns-clause-wanted
returns-clause-wanted c = name-is-wanted

pub returns-clause-searches : goal.returns-clause-searches
returns-clause-searches c = searches-on-name
