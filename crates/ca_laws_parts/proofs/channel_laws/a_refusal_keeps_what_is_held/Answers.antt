use Rattle.ca_laws_parts.specs.Flows.{Awaits}
use Rattle.ca_laws_parts.proofs.CircuitHeard.{request-over}
use Rattle.ca_laws_parts.proofs.Refused.{refusal-heard}
use Rattle.ca_laws_parts.proofs.channel_laws.a_refusal_keeps_what_is_held.Goals as goal

pub returns : goal.returns
returns c = record {
  request = λ kept on n x d g t s q r command ioid f holds at cause spoken there finds.
      request-over (Awaits d kept) on n x d g t s q r command ioid f holds at cause spoken there finds;
  subscription = λ kept on n x d g t s q id number f holds at cause there adds spoken finds means stood.
      refusal-heard (Awaits d kept) on n x d g t s q id number f holds at cause there adds spoken finds means stood;
}
