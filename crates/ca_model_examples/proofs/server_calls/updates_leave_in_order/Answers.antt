use Rattle.ca_model_examples.proofs.ServerAnswers.{leaves-not-so, pumps-on}
use Rattle.ca_model_examples.proofs.server_calls.updates_leave_in_order.Goals as goal

pub returns : goal.returns
returns c = record { not_so = leaves-not-so; pumps_on = pumps-on }
