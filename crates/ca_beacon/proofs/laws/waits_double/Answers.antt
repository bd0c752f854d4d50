use Rattle.std.proofs.Common.{arith}
use Rattle.ca_text.proofs.Waits.{wait-closed}
use Rattle.ca_beacon.proofs.Runs.{fresh-number, fresh-due}
use Rattle.ca_beacon.proofs.laws.waits_double.Goals as goal

pub returns-clause-doubled : goal.returns-clause-doubled
returns-clause-doubled c = λ n. wait-closed 20 15000 n (omega arith)

pub returns-clause-number : goal.returns-clause-number
returns-clause-number c = fresh-number

pub returns-clause-due : goal.returns-clause-due
returns-clause-due c = fresh-due
