use Rattle.std.proofs.Common.{◌≡◌}
use Rattle.ca_client_tables.proofs.channels.Channels.tidy.Given as goal

abbrev pub invariant-loop-place : goal.invariant-loop-place
invariant-loop-place l = l.self ≡ l.initial.self
