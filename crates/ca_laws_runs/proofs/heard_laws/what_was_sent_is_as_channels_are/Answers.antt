use Rattle.ca_laws_runs.proofs.Kept.{quiet-happens, quiet-opening, quiet-runs}
use Rattle.ca_laws_runs.proofs.heard_laws.what_was_sent_is_as_channels_are.Goals as goal

pub returns : goal.returns
returns c = record { begins = quiet-opening; event = quiet-happens; run = quiet-runs }
