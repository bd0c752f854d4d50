use Rattle.std.proofs.Common.{[]}
use Rattle.ca_laws_parts.specs.Flows.{Awaits, with_handled}
use Rattle.ca_laws_parts.proofs.Flows.{awaits-handled, flows-handled, flows-heard, flows-new, flows-sent, flows-told}
use Rattle.ca_laws_parts.proofs.circuit.ids_mean_their_own.Goals as goal

pub returns : goal.returns
returns c = record {
  new = λ d up down heard. flows-new (Awaits d []) d up down heard;
  sent = λ kept d s may f. flows-sent (Awaits d kept) d s may f;
  read = λ kept d h now lt f. flows-heard (Awaits d kept) d h now lt f;
  told = λ kept fewer d t may f. flows-told (Awaits d kept) (Awaits d fewer) d t may f;
  handled = λ kept now d h were f. flows-handled (Awaits d kept) (Awaits (with_handled h d) now) d h (awaits-handled kept now d h were) f;
}
