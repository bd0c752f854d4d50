use Rattle.std.proofs.Common.{arith}
use Rattle.ca_text.proofs.Waits.{wait-closed}
use Rattle.ca_search.proofs.Runs.{fresh-due}
use Rattle.ca_search.proofs.laws.searches_double.Goals as goal

pub returns-clause-doubled : goal.returns-clause-doubled
returns-clause-doubled c = λ n. wait-closed 32 300000 n (omega arith)

pub returns-clause-due : goal.returns-clause-due
returns-clause-due c = fresh-due
