use Rattle.ca_dbr.proofs.Faults.{shown-none, shown-fault, converted-none, converted-fault}
use Rattle.ca_dbr.proofs.laws.why_not_shown.Goals as goal

pub returns-clause-none : goal.returns-clause-none
returns-clause-none c = shown-none

pub returns-clause-fault : goal.returns-clause-fault
returns-clause-fault c = shown-fault

pub returns-clause-converted_none : goal.returns-clause-converted_none
returns-clause-converted_none c = converted-none

pub returns-clause-converted_fault : goal.returns-clause-converted_fault
returns-clause-converted_fault c = converted-fault
