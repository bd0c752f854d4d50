use Rattle.ca_laws_parts.proofs.Removals.{remove-keeps-held}
use Rattle.ca_laws_parts.proofs.kept.removals_keep_what_is_held.Goals as goal

pub returns : goal.returns
returns c = remove-keeps-held
