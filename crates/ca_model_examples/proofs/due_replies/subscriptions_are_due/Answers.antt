use Rattle.ca_model_examples.proofs.DueReplies.{subscriptions-due, subscriptions-not-due}
use Rattle.ca_model_examples.proofs.due_replies.subscriptions_are_due.Goals as goal

pub returns : goal.returns
returns c = record { due = subscriptions-due; not_due = subscriptions-not-due }
