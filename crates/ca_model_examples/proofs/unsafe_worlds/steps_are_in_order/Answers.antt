use Rattle.ca_model_examples.proofs.Echoes.{unanswered-safe, handled-after-unsent, logged-safe, logged-by-two, heard-safe, heard-unsent, heard-after-unsent, heard-backwards, both-heard-safe, heard-back}
use Rattle.ca_model_examples.proofs.unsafe_worlds.steps_are_in_order.Goals as goal

pub returns : goal.returns
returns c = record { handled = unanswered-safe; handled_after_unsent = handled-after-unsent; logged = logged-safe; logged_by_two = logged-by-two; heard = heard-safe; heard_unsent = heard-unsent; heard_after_unsent = heard-after-unsent; heard_backwards = heard-backwards; both_heard = both-heard-safe; heard_back = heard-back }
