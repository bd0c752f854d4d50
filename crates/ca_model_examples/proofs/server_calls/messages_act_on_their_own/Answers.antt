use Rattle.ca_model_examples.proofs.ServerAnswers.{clears-its-own, adds-to-first, ends-no-other}
use Rattle.ca_model_examples.proofs.server_calls.messages_act_on_their_own.Goals as goal

pub returns : goal.returns
returns c = record { clears = clears-its-own; adds = adds-to-first; ends_no_other = ends-no-other }
