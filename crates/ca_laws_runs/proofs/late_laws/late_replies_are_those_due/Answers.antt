use Rattle.ca_laws_runs.proofs.LatelyDue.{lately}
use Rattle.ca_laws_runs.proofs.LatelyHeads.{run-says}
use Rattle.ca_laws_runs.proofs.late_laws.late_replies_are_those_due.Goals as goal

pub returns : goal.returns
returns c = λ s es stopped w ok runs. lately s es stopped w ok runs (λ done v folds. run-says s done v ok folds)
