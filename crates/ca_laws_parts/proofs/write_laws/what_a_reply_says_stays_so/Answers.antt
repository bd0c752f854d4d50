use Rattle.ca_laws_parts.proofs.WritesTold.{says-more}
use Rattle.ca_laws_parts.proofs.write_laws.what_a_reply_says_stays_so.Goals as goal

pub returns : goal.returns
returns c y p s m e told says = says-more y p s m e told says
