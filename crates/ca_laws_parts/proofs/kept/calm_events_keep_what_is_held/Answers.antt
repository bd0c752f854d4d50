use Rattle.ca_laws_parts.proofs.Laters.{calm-keeps}
use Rattle.ca_laws_parts.proofs.kept.calm_events_keep_what_is_held.Goals as goal

pub returns : goal.returns
returns c = calm-keeps
