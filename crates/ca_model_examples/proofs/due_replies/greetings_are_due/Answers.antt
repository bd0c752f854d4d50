use Rattle.ca_model_examples.proofs.DueReplies.{greetings-due, greetings-not-due}
use Rattle.ca_model_examples.proofs.due_replies.greetings_are_due.Goals as goal

pub returns : goal.returns
returns c = record { due = greetings-due; not_due = greetings-not-due }
