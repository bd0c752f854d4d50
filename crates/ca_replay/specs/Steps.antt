-- Working: how far a drawing is, by the parts of the program.
use Rattle.std.specs.Prelude.{List, Option, map}
use Rattle.ca_world_script.specs.Drawn.{numbers}
use Rattle.ca_events.specs.Events.{event_of}
use Rattle.ca_events.specs.declared.event.Event.{Event}
use Rattle.ca_model.specs.World.{World}
use Rattle.rand_pcg.specs.Lcg.{Lcg}
use Rattle.ca_replay.specs.Drawing.{Along, Drawn}

abbrev pub drawn_so : World → Lcg → List Event → Drawn
drawn_so w generator all = record { world = w; left = numbers generator; events = map event_of all }

abbrev pub along : Option World → Lcg → List Event → Along
along here generator all =
    record { world = here; left = numbers generator; events = map event_of all }
