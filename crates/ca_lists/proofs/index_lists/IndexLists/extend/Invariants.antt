use Rattle.std.proofs.Common.{◌≡◌, ◌≤◌, ℕ, length}
use Rattle.ca_lists.specs.Lists.{list_of}
use Rattle.ca_lists.proofs.index_lists.IndexLists.extend.Given as goal

abbrev pub invariant-loop : goal.invariant-loop
invariant-loop l = record {
  same : (i : ℕ) → list_of l.self-inside.lists.items i ≡ list_of l.initial.self-inside.lists.items i;
  len : l.counter ≤ length l.self-inside.lists.items;
}
