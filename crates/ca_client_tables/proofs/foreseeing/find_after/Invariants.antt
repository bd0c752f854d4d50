use Rattle.std.proofs.Common.{◌≡◌, ◌++◌, drop}
use Rattle.ca_client_tables.specs.Ahead.{due_after, is_in}
use Rattle.ca_client_tables.proofs.foreseeing.find_after.Given as goal

abbrev pub invariant-loop-index : goal.invariant-loop-index
invariant-loop-index l =
    l.found.items ++ due_after (is_in l.ends) l.moment l.channels (drop l.index l.searches.entries) ≡ due_after (is_in l.ends) l.moment l.channels l.searches.entries
