use Rattle.ca_laws_parts.specs.Flows.{Awaits}
use Rattle.ca_laws_parts.proofs.Creates.{create-keeps, create-may}
use Rattle.ca_laws_parts.proofs.Subscribes.{subscribe-keeps, subscribe-may, unsubscribe-keeps, unsubscribe-may}
use Rattle.ca_laws_parts.proofs.circuit.subscriptions_and_creations_keep_what_is_held.Goals as goal

pub returns : goal.returns
returns c = record {
  subscribe = λ kept on n x d s q h channel number ch a mask y adds wire means suits may new there live holds. (
    subscribe-may (Awaits d kept) on n x d s q h channel number adds wire means suits may new ch there live holds,
    subscribe-keeps (Awaits d kept) on n x d s q h channel number adds wire means suits may new ch there live holds a mask y,
  );
  unsubscribe = λ kept on n x d s q e y cancels wire means suits stands has holds. (
    unsubscribe-may (Awaits d kept) on n x d s q e cancels wire means suits stands has holds,
    unsubscribe-keeps (Awaits d kept) on n x d s q e cancels wire means suits stands has holds y,
  );
  create = λ kept on n x d s h ch y creates wire means suits there away holds. (
    create-may (Awaits d kept) on n x d s h creates wire means suits ch there away holds,
    create-keeps (Awaits d kept) on n x d s h creates wire means suits ch there away holds y,
  );
}
