use Rattle.ca_laws_parts.proofs.Thins.{kept-from}
use Rattle.ca_laws_parts.proofs.kept.what_is_kept_was_kept.Goals as goal

pub returns : goal.returns
returns c = kept-from
