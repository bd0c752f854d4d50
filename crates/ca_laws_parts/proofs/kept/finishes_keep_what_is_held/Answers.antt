use Rattle.ca_laws_parts.proofs.KeptFinishes.{finish-keeps-held}
use Rattle.ca_laws_parts.proofs.kept.finishes_keep_what_is_held.Goals as goal

pub returns : goal.returns
returns c = finish-keeps-held
