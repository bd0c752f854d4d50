use Rattle.ca_model_examples.proofs.ServerAnswers.{finish-keeps-open, finishes-unawaited, finishes-not-so}
use Rattle.ca_model_examples.proofs.server_calls.a_finish_is_answered_if_awaited.Goals as goal

pub returns : goal.returns
returns c = record { unawaited = finishes-unawaited; not_so = finishes-not-so; keeps_open = finish-keeps-open }
