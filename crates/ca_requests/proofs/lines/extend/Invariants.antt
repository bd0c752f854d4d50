use Rattle.std.proofs.Common.{◌≡◌, ◌≤◌, ℕ, length}
use Rattle.ca_requests.specs.Lines.{line_at}
use Rattle.ca_requests.proofs.lines.extend.Given as goal

abbrev pub invariant-loop : goal.invariant-loop
invariant-loop l = record {
  same : (i : ℕ) → line_at l.lines.items i ≡ line_at l.initial.lines.items i;
  len : l.counter ≤ length l.lines.items;
}
