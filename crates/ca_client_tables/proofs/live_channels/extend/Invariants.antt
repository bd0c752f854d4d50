use Rattle.std.proofs.Common.{◌≡◌, ◌≤◌, ℕ, length}
use Rattle.ca_client_tables.specs.Listed.{list_at}
use Rattle.ca_client_tables.proofs.live_channels.extend.Given as goal

abbrev pub invariant-loop : goal.invariant-loop
invariant-loop l = record {
  same : (i : ℕ) → list_at l.lists.items i ≡ list_at l.initial.lists.items i;
  len : l.counter ≤ length l.lists.items;
}
