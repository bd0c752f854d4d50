use Rattle.ca_model_examples.proofs.ClientWorked.{read-faults, write-faults}
use Rattle.ca_model_examples.proofs.client_rows.the_first_fault_decides.Goals as goal

pub returns-clause-reads : goal.returns-clause-reads
returns-clause-reads c = read-faults

pub returns-clause-writes : goal.returns-clause-writes
returns-clause-writes c = write-faults
