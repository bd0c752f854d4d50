use Rattle.std.proofs.Common.{◌≡◌, length}
use Rattle.ca_server_subscriptions.specs.Subscribed.{is_of_sid, without_those}
use Rattle.ca_server_subscriptions.proofs.subscriptions.Subscriptions.clear.Given as goal

abbrev pub invariant-clearing : goal.invariant-clearing
invariant-clearing l = without_those (is_of_sid l.sid) l.self ≡ without_those (is_of_sid l.sid) l.fn.self

abbrev pub decreases-clearing : goal.decreases-clearing
decreases-clearing l = length l.self.subscriptions
