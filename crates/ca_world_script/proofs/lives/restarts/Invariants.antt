use Rattle.std.proofs.Common.{◌≡◌, take}
use Rattle.std.specs.Prelude.{map}
use Rattle.ca_events.specs.Events.{event_of}
use Rattle.ca_world_script.specs.Whole.{restarts}
use Rattle.ca_world_script.proofs.lives.restarts.Given as goal

abbrev pub invariant-loop-event : goal.invariant-loop-event
invariant-loop-event l = l.all.items ≡ restarts (map event_of (take l.event-index l.events))
