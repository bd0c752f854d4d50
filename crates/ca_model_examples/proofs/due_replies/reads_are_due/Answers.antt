use Rattle.ca_model_examples.proofs.DueReplies.{reads-due, reads-not-due}
use Rattle.ca_model_examples.proofs.due_replies.reads_are_due.Goals as goal

pub returns : goal.returns
returns c = record { due = reads-due; not_due = reads-not-due }
