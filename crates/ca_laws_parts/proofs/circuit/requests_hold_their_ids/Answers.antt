use Rattle.ca_laws_parts.specs.Flows.{Awaits, with_handled}
use Rattle.ca_laws_parts.proofs.Flows.{awaits-handled}
use Rattle.ca_laws_parts.proofs.Requests.{issue-fresh, requests-freed, requests-handled, requests-heard, requests-issued, requests-over, requests-replied, requests-sent, requests-told}
use Rattle.ca_laws_parts.proofs.circuit.requests_hold_their_ids.Goals as goal

pub returns : goal.returns
returns c = record {
  sent = λ kept on meant t d s none h. requests-sent on meant (Awaits d kept) t d s none h;
  told = λ kept fewer on meant t d u may h. requests-told on meant (Awaits d kept) (Awaits d fewer) t d u may h;
  handled = λ kept now on meant t d g were h. requests-handled on meant (Awaits d kept) (Awaits (with_handled g d) now) t d g (awaits-handled kept now d g were) h;
  heard = λ kept on meant t d g h. requests-heard on meant (Awaits d kept) t d g h;
  fresh = λ kept on meant t d q may h. issue-fresh on meant (Awaits d kept) t d q may h;
  issued = λ kept on meant t d q r s number may sent gives is number_is h. requests-issued on meant (Awaits d kept) t d q r s number may sent gives is number_is h;
  replied = λ kept on meant t d g u s q f at cause there is speaks h. requests-replied on meant (Awaits d kept) t d g u s q f at cause there is speaks h;
  over = λ kept on channel meant t d h. requests-over on meant (Awaits d kept) channel t d h;
  freed = λ kept on meant frees t d stay h. requests-freed on meant (Awaits d kept) frees t d stay h;
}
