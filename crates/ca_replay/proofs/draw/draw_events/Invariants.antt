use Rattle.std.proofs.Common.{◌≡◌, List, ◌++◌, map}
use Rattle.std.specs.List.{FoldsTo}
use Rattle.ca_events.specs.Events.{event_of}
use Rattle.ca_model.specs.Events.{Event}
use Rattle.ca_replay.specs.Drawing.{GoesAlong, outset}
use Rattle.ca_replay.specs.Steps.{along}
use Rattle.ca_replay.proofs.draw.draw_events.Given as goal

-- the drawing went along the events before those that are left
abbrev pub invariant-loop-event : goal.invariant-loop-event
invariant-loop-event l =
    record {
      before : List Event;
      split : before ++ map event_of l.event-iterator.rest.items ≡ map event_of l.fn.events.items;
      goes : FoldsTo GoesAlong (outset l.fn.config l.fn.seed) before (along l.here l.drawing.generator l.all.items);
    }
