use Rattle.ca_laws_parts.specs.Flows.{Awaits}
use Rattle.ca_laws_parts.proofs.CircuitLives.{doomed-heard, live-heard}
use Rattle.ca_laws_parts.proofs.Many.{flows-all-sent}
use Rattle.ca_laws_parts.proofs.channel_laws.a_created_channel_keeps_what_is_held.Goals as goal

pub returns : goal.returns
returns c = record {
  live = λ kept on n x d g cid h sid native rights was meant holds finds. live-heard (Awaits d kept) on n x d g cid h sid native rights was meant holds finds;
  doomed = λ kept on n x d g cid h sid holds finds. doomed-heard (Awaits d kept) on n x d g cid h sid holds finds;
  all_sent = λ kept d ss may f. flows-all-sent (Awaits d kept) ss d may f;
}
