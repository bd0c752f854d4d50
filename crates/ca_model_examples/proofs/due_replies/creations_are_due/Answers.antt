use Rattle.ca_model_examples.proofs.DueReplies.{creations-due, creations-not-due}
use Rattle.ca_model_examples.proofs.due_replies.creations_are_due.Goals as goal

pub returns : goal.returns
returns c = record { due = creations-due; not_due = creations-not-due }
