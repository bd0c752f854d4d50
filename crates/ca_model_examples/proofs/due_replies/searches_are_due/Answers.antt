use Rattle.ca_model_examples.proofs.DueReplies.{searches-due, searches-not-due}
use Rattle.ca_model_examples.proofs.due_replies.searches_are_due.Goals as goal

pub returns : goal.returns
returns c = record { due = searches-due; not_due = searches-not-due }
