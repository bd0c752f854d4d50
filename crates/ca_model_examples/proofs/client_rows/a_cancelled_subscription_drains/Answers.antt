use Rattle.ca_model_examples.proofs.ClientOnly.{only-skipped}
use Rattle.ca_model_examples.proofs.client_rows.a_cancelled_subscription_drains.Goals as goal

pub returns-clause-only : goal.returns-clause-only
returns-clause-only c = only-skipped
