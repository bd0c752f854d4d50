use Rattle.std.specs.Prelude.{map, take}
use Rattle.std.specs.List.{FoldsTo}
use Rattle.ca_events.specs.Events.{event_of}
use Rattle.ca_model.specs.Runs.{Happens}
use Rattle.ca_model.specs.World.{opening}
use Rattle.ca_world.proofs.running.run_telling.Given as goal

-- the events before this one lead to the world
abbrev pub invariant-loop-place : goal.invariant-loop-place
invariant-loop-place g l = FoldsTo Happens (opening l.fn.config) (take l.place (map event_of l.events)) l.world
