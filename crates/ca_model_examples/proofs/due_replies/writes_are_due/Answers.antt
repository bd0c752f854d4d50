use Rattle.ca_model_examples.proofs.DueReplies.{writes-due, writes-not-due}
use Rattle.ca_model_examples.proofs.due_replies.writes_are_due.Goals as goal

pub returns : goal.returns
returns c = record { due = writes-due; not_due = writes-not-due }
