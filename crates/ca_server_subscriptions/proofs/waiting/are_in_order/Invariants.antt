use Rattle.ca_server_subscriptions.proofs.Posts.{InOrderFrom}
use Rattle.ca_server_subscriptions.proofs.waiting.are_in_order.Given as goal

abbrev pub invariant-checking : goal.invariant-checking
invariant-checking l = InOrderFrom l.receivers l.left l.least

abbrev pub decreases-checking : goal.decreases-checking
decreases-checking l = l.left
