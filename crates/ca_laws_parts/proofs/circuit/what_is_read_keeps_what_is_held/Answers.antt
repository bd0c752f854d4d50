use Rattle.ca_laws_parts.specs.Flows.{Awaits}
use Rattle.ca_laws_parts.proofs.Answered.{answered-heard}
use Rattle.ca_laws_parts.proofs.CircuitHeard.{holds-heard, removal-heard, reply-heard}
use Rattle.ca_laws_parts.proofs.circuit.what_is_read_keeps_what_is_held.Goals as goal

pub returns : goal.returns
returns c = record {
  any = λ kept on n x d g holds. holds-heard (Awaits d kept) on n x d g holds;
  reply = λ kept on n x d g t s q r f holds at cause is there finds. reply-heard (Awaits d kept) on n x d g t s q r f holds at cause is there finds;
  removal = λ kept on n x d g cid h native rights holds finds. removal-heard (Awaits d kept) on n x d g cid h native rights holds finds;
  cleared = λ kept on n x d g t s h p f holds own at cause there clears quiet finds asked. answered-heard (Awaits d kept) on n x d g t s h p f holds own at cause there clears quiet finds asked;
}
