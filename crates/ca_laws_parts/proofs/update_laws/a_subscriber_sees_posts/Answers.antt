use Rattle.ca_laws_parts.proofs.Seen.{safe-sees}
use Rattle.ca_laws_parts.proofs.update_laws.a_subscriber_sees_posts.Goals as goal

pub returns : goal.returns
returns c = safe-sees
