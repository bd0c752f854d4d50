use Rattle.std.proofs.Common.{◌≡◌, ◌++◌, drop, map}
use Rattle.ca_world_data.specs.Seen.{entry_of}
use Rattle.ca_world_servers.specs.Losing.{withdrawn_entries}
use Rattle.ca_world_servers.proofs.losing.tell_withdrawn.Given as goal

-- the puts that are left make up the rest
abbrev pub invariant-loop-put : goal.invariant-loop-put
invariant-loop-put l =
    record { all : map entry_of l.all.items ++ withdrawn_entries (drop l.put-index l.waiting) ≡ map entry_of l.initial.all.items ++ withdrawn_entries l.waiting }
