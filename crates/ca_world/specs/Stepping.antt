-- Vocabulary: what a step of a world gives.
use Rattle.std.specs.Prelude.{⊤, Err}
use Rattle.ca_model.specs.Events.{Event, Tick}
use Rattle.ca_model.specs.Events as event
use Rattle.ca_model.specs.Runs.{Happens, TicksBefore}
use Rattle.ca_model.specs.World.{World}
use Rattle.ca_world.specs.declared.step.AfterEvent.{AfterEvent}
use Rattle.ca_world.specs.declared.step.AfterEvent.TheVariants.{Done, Refused, Stopped}
use Rattle.ca_world_data.specs.Does.{Does}

-- The event happened; or it was refused, and nothing changed; or some clients had the moment, and
-- the next one had no memory for it.
abbrev pub Steps : World → Event → AfterEvent → Type 0
Steps old e (Done new) = Happens old e new
Steps old e (Refused new refusal) = Does old e (Err refusal) new
Steps old (Tick moment) (Stopped new) = TicksBefore moment old new
Steps old e (Stopped new) = ⊥

-- an event is a call that a client's caller makes
abbrev pub IsClientCall : Event → Type 0
IsClientCall (event.Open client name priority) = ⊤
IsClientCall (event.Clear client channel) = ⊤
IsClientCall (event.Read client channel data_type count) = ⊤
IsClientCall (event.Write client channel value) = ⊤
IsClientCall (event.WriteNotify client channel value) = ⊤
IsClientCall (event.Subscribe client channel data_type count mask) = ⊤
IsClientCall (event.Unsubscribe client subscription) = ⊤
IsClientCall (event.Collect client request) = ⊤
IsClientCall (event.GiveUp client request) = ⊤
IsClientCall e = ⊥
