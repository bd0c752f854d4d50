use Rattle.std.proofs.Common.{◌≡◌, ◌++◌, drop, map}
use Rattle.ca_model.specs.History.{Added}
use Rattle.ca_model.specs.World.{numbered}
use Rattle.ca_world_data.specs.Seen.{entry_of}
use Rattle.ca_world_data.proofs.opening.begin_log.Given as goal

-- the records that are left make up the rest
abbrev pub invariant-loop-number : goal.invariant-loop-number
invariant-loop-number l =
    record { log : map entry_of l.log.items ++ numbered l.number Added (drop l.number l.records) ≡ numbered 0 Added l.records }
