use Rattle.std.proofs.Common.{ℕ, ◌<◌, map, None}
use Rattle.ca_text.specs.Place.{At}
use Rattle.ca_model.specs.History as history
use Rattle.ca_world.specs.Finishing.{WaitIn}
use Rattle.ca_world_data.specs.Seen.{entry_of, place_of}
use Rattle.ca_world.proofs.next_write.value_waiting.Given as goal

-- no entry before this one tells of the put
abbrev pub invariant-loop-entry : goal.invariant-loop-entry
invariant-loop-entry l =
    record { before : (place : ℕ) → place < l.entry-index → (e : history.Entry) → At (map entry_of l.log) place e → WaitIn e (place_of l.put) None }
