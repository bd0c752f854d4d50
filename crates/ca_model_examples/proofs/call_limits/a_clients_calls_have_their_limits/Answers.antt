use Rattle.ca_model_examples.proofs.Limits.{cancel-waits, late-reply-drains, last-priority, name-comes-first, update-elsewhere}
use Rattle.ca_model_examples.proofs.call_limits.a_clients_calls_have_their_limits.Goals as goal

pub returns : goal.returns
returns c = record { name = name-comes-first; priority = last-priority; cancel = cancel-waits; update = update-elsewhere; late = late-reply-drains }
