use Rattle.std.proofs.Common.{◌≡◌, ◌≤◌}
use Rattle.ca_bench.proofs.rounds.collect_own.Given as goal

abbrev pub invariant-loop-place : goal.invariant-loop-place
invariant-loop-place l = (l.caller.board ≡ l.board) × (l.own ≤ l.place)
