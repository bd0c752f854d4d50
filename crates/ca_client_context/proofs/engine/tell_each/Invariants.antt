use Rattle.std.proofs.Common.{length}
use Rattle.ca_client_context.proofs.engine.tell_each.Given as goal

abbrev pub decreases-loop-notice : goal.decreases-loop-notice
decreases-loop-notice g l = length l.heard.rest
