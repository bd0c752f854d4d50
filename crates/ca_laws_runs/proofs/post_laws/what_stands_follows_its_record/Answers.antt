use Rattle.ca_laws_runs.proofs.Acted.{run-follows}
use Rattle.ca_laws_runs.proofs.Clause.{standing-follow}
use Rattle.ca_laws_runs.proofs.post_laws.what_stands_follows_its_record.Goals as goal

pub returns : goal.returns
returns c = record { follows = standing-follow; run = λ s es stopped w ok runs. standing-follow w (run-follows s es stopped w ok runs) }
