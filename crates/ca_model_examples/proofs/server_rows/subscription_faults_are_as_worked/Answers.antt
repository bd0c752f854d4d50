use Rattle.ca_model_examples.proofs.ServerRows.{subscription-faults, short-subscription, subscription-faults-in-order, display-subscription-faults, big-subscription}
use Rattle.ca_model_examples.proofs.server_rows.subscription_faults_are_as_worked.Goals as goal

pub returns : goal.returns
returns c = record { faults = subscription-faults; short = short-subscription; in_order = subscription-faults-in-order; display = display-subscription-faults; big = big-subscription }
