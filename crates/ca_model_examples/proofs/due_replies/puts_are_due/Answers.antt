use Rattle.ca_model_examples.proofs.DueReplies.{puts-due, puts-not-due, replies-late}
use Rattle.ca_model_examples.proofs.due_replies.puts_are_due.Goals as goal

pub returns : goal.returns
returns c = record { due = puts-due; not_due = puts-not-due; late = replies-late }
