use Rattle.ca_laws_parts.proofs.KeptRuns.{pump-keeps-held}
use Rattle.ca_laws_parts.proofs.kept.updates_keep_what_is_held.Goals as goal

pub returns : goal.returns
returns c = pump-keeps-held
