use Rattle.std.proofs.Common.{◌≡◌, ◌++◌, drop, filter, map}
use Rattle.ca_server_subscriptions.specs.ByRecord.{is_masked}
use Rattle.ca_server_subscriptions.specs.Owing.{addressee_of}
use Rattle.ca_server_subscriptions.proofs.waiting.owe.Given as goal

abbrev pub invariant-owing : goal.invariant-owing
invariant-owing l = l.owed.items ++ map addressee_of (filter (is_masked l.mask) (drop l.i l.receivers)) ≡ map addressee_of (filter (is_masked l.mask) l.receivers)
