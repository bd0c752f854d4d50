use Rattle.std.proofs.Common.{◌≤◌, ◌-◌, length}
use Rattle.ca_server_subscriptions.specs.Owing.{AreCopies}
use Rattle.ca_server_subscriptions.proofs.waiting.copies_of.Given as goal

abbrev pub invariant-copying : goal.invariant-copying
invariant-copying l = AreCopies (length l.copies.items) l.update l.copies.items × (length l.copies.items ≤ l.n)

abbrev pub decreases-copying : goal.decreases-copying
decreases-copying l = l.n - length l.copies.items
