use Rattle.std.proofs.Common.{◌≡◌, drop}
use Rattle.ca_server_subscriptions.proofs.Waits.{key_in}
use Rattle.ca_server_subscriptions.proofs.waiting.owed_in.Given as goal

abbrev pub invariant-loop-i : goal.invariant-loop-i
invariant-loop-i l = key_in l.place l.before (drop l.i l.owed.items) ≡ key_in l.place l.index l.owed.items
