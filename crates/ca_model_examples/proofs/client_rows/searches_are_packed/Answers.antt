use Rattle.ca_model_examples.proofs.ClientWorked.{full-datagrams, one-search}
use Rattle.ca_model_examples.proofs.client_rows.searches_are_packed.Goals as goal

pub returns-clause-one : goal.returns-clause-one
returns-clause-one c = one-search

pub returns-clause-full : goal.returns-clause-full
returns-clause-full c = full-datagrams
