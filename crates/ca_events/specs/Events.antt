-- Which events of the statement the program's events are.
use Rattle.std.specs.Prelude.{ℕ, Option, Some, None}
use Rattle.ca_dbr.specs.Elements.{elements}
use Rattle.ca_events.specs.declared.event.Addition.{Addition}
use Rattle.ca_events.specs.declared.event.Event.{Event}
use Rattle.ca_events.specs.declared.event.Event.TheVariants as event
use Rattle.ca_model.specs.Events as world
use Rattle.ca_records.specs.Record.{RecordState, unset}

-- a record as it is when it is added, with no alarm and no stamp
abbrev pub record_of : Addition → RecordState
record_of a =
    record {
      name = a.name.items;
      count = a.count;
      slow = a.slow;
      value = elements a.value;
      meta = unset;
    }

-- an event as the statement has it
abbrev pub event_of : Event → world.Event
event_of (event.Open client name priority) = world.Open client name.items priority
event_of (event.Clear client channel) = world.Clear client channel
event_of (event.Read client channel data_type count) = world.Read client channel data_type count
event_of (event.Write client channel v) = world.Write client channel (elements v.value)
event_of (event.WriteNotify client channel v) = world.WriteNotify client channel (elements v.value)
event_of (event.Subscribe client channel data_type count mask) =
    world.Subscribe client channel data_type count mask
event_of (event.Unsubscribe client subscription) = world.Unsubscribe client subscription
event_of (event.Collect client request) = world.Collect client request
event_of (event.GiveUp client request) = world.GiveUp client request
event_of (event.ClientDatagram client from bytes) = world.ClientDatagram client from bytes.items
event_of (event.ServerDatagram server from bytes) = world.ServerDatagram server from bytes.items
event_of (event.Accept client) = world.Accept client
event_of (event.Up circuit n) = world.Up circuit n
event_of (event.Down circuit n) = world.Down circuit n
event_of (event.ServerStep circuit) = world.ServerStep circuit
event_of (event.ClientStep circuit) = world.ClientStep circuit
event_of (event.Pump circuit) = world.Pump circuit
event_of (event.CutClient circuit) = world.CutClient circuit
event_of (event.CutServer circuit) = world.CutServer circuit
event_of (event.ClientRestart client) = world.ClientRestart client
event_of (event.ServerRestart server) = world.ServerRestart server
event_of (event.Post p) =
    world.Post p.value.server p.value.name.items (elements p.value.value) p.value.mask
event_of (event.Finish server name) = world.Finish server name.items
event_of (event.Remove server name) = world.Remove server name.items
event_of (event.Add a) = world.Add a.value.server (record_of a.value)
event_of (event.Tick moment) = world.Tick moment

-- the moment that an event hands to all clients, if it does that
abbrev pub moment_of : world.Event → Option ℕ
moment_of (world.Tick moment) = Some moment
moment_of e = None
