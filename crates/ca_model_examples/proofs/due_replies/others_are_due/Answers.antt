use Rattle.ca_model_examples.proofs.DueReplies.{others-due, others-not-due}
use Rattle.ca_model_examples.proofs.due_replies.others_are_due.Goals as goal

pub returns : goal.returns
returns c = record { due = others-due; not_due = others-not-due }
