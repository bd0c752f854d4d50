use Rattle.ca_laws_parts.specs.Flows.{Awaits}
use Rattle.ca_laws_parts.proofs.Ended.{confirmation-heard, failure-heard, rights-heard}
use Rattle.ca_laws_parts.proofs.circuit.what_ends_keeps_what_is_held.Goals as goal

pub returns : goal.returns
returns c = record {
  rights = λ kept on n x d g cid h p q finds like alike holds. rights-heard (Awaits d kept) on n x d g cid h p q finds like alike holds;
  failed = λ kept on n x d g t s h p f holds at cause fails there creates quiet finds asked header_only. failure-heard (Awaits d kept) on n x d g t s h p f holds at cause fails there creates quiet finds asked header_only;
  confirmed = λ kept on n x d g t s q channel number f holds own at cause adds there cancels finds quiet. confirmation-heard (Awaits d kept) on n x d g t s q channel number f holds own at cause adds there cancels finds quiet;
}
