use Rattle.std.specs.Prelude.{◌≤◌}
use Rattle.ca_client_tables.specs.Quiet.{IsQuiet}
use Rattle.ca_client_tables.proofs.searches.quiet_between.Given as goal

abbrev pub invariant-loop : goal.invariant-loop
invariant-loop l = IsQuiet l.range.0 l.place × (l.range.0 ≤ l.range.1) × (l.range.1 ≤ l.high)
