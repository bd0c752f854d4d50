-- Working: the parts of a world as the statement has them.
use Rattle.std.specs.Prelude.{ℕ, [], map, option_map}
use Rattle.ca_arena.specs.declared.handle.Handle.{Handle}
use Rattle.ca_dbr.specs.Elements.{elements}
use Rattle.ca_queue.specs.declared.entry.SubKey.{SubKey}
use Rattle.ca_queue.specs.Queue.{Queue}
use Rattle.ca_records.specs.Record.{RecordState}
use Rattle.ca_model.specs.History as history
use Rattle.ca_model.specs.Speech as speech
use Rattle.ca_model.specs.World as model
use Rattle.ca_world_data.specs.declared.client.ClientSide.{ClientSide}
use Rattle.ca_world_data.specs.declared.client.Names.{Names}
use Rattle.ca_world_data.specs.declared.history.Ask.{Ask}
use Rattle.ca_world_data.specs.declared.history.Ask.TheVariants as ask
use Rattle.ca_world_data.specs.declared.history.Cause.{Cause}
use Rattle.ca_world_data.specs.declared.history.Cause.TheVariants as cause
use Rattle.ca_world_data.specs.declared.history.LogEntry.{LogEntry}
use Rattle.ca_world_data.specs.declared.history.LogEntry.TheVariants as entry
use Rattle.ca_world_data.specs.declared.history.Intent.{Intent}
use Rattle.ca_world_data.specs.declared.history.Intent.TheVariants as intent
use Rattle.ca_world_data.specs.declared.history.Kind.{Kind}
use Rattle.ca_world_data.specs.declared.history.Kind.TheVariants as kind
use Rattle.ca_world_data.specs.declared.history.Line.{Line}
use Rattle.ca_world_data.specs.declared.history.Line.TheVariants as line
use Rattle.ca_world_data.specs.declared.history.Recorded.{Recorded}
use Rattle.ca_world_data.specs.declared.history.Sent.{Sent}
use Rattle.ca_world_data.specs.declared.history.Step.{Step}
use Rattle.ca_world_data.specs.declared.history.Stored.{Stored}
use Rattle.ca_world_data.specs.declared.history.Told.{Told}
use Rattle.ca_world_data.specs.declared.history.Wish.{Wish}
use Rattle.ca_world_data.specs.declared.history.Wish.TheVariants as wish
use Rattle.ca_world_data.specs.declared.joined.CircuitHistory.{CircuitHistory}
use Rattle.ca_world_data.specs.declared.joined.CreatedChannel.{CreatedChannel}
use Rattle.ca_world_data.specs.declared.joined.Joined.{Joined}
use Rattle.ca_world_data.specs.declared.joined.AddedSubscription.{AddedSubscription}
use Rattle.ca_world_data.specs.declared.server.PutPlace.{PutPlace}
use Rattle.ca_world_data.specs.declared.server.RecordSide.{RecordSide}
use Rattle.ca_world_data.specs.declared.server.ServerSide.{ServerSide}

-- ---- histories

abbrev pub kind_of : Kind → history.Kind
kind_of kind.Read = history.Read
kind_of kind.Put = history.Put
kind_of kind.Write = history.Write

abbrev pub ask_of : Ask → history.Ask
ask_of ask.Create = history.Create
ask_of ask.Clear = history.Clear
ask_of (ask.Request k n) = history.Request (kind_of k) n
ask_of (ask.Subscribe n) = history.Subscribe n
ask_of (ask.Cancel n) = history.Cancel n

abbrev pub intent_of : Intent → history.Intent
intent_of (intent.On channel asked) = history.On channel (ask_of asked)
intent_of intent.OfCircuit = history.OfCircuit

abbrev pub cause_of : Cause → history.Cause
cause_of cause.Reply = history.Reply
cause_of cause.Removal = history.Removal
cause_of (cause.Update n) = history.Update n

abbrev pub sent_of : Sent → history.Sent
sent_of s = record { message = s.message; intent = intent_of s.intent }

abbrev pub told_of : Told → history.Told
told_of t = record { message = t.message; place = t.place; cause = cause_of t.cause }

abbrev pub step_of : Step → history.Step
step_of s = record { sent = s.sent; logged = s.logged; after = s.after }

abbrev pub stored_of : Stored → speech.Stored
stored_of s = record { value = s.held; meta = s.meta }

abbrev pub recorded_of : Recorded → RecordState
recorded_of r =
    record {
      name = r.name.items;
      count = r.count;
      slow = r.slow;
      value = r.held;
      meta = r.meta;
    }

abbrev pub wish_of : Wish → history.Wish
wish_of wish.Nothing = history.Nothing
wish_of (wish.ToRead data_type count) = history.ToRead data_type count
wish_of (wish.ToWatch data_type count mask) = history.ToWatch data_type count mask
wish_of (wish.ToWrite value) = history.ToWrite (elements value)

abbrev pub line_of : Line → history.Line
line_of (line.Opened channel name) = history.Opened channel name.items
line_of (line.Called meant asks) = history.Called (intent_of meant) (wish_of asks)
line_of (line.Noticed meant outcome) = history.Noticed (intent_of meant) outcome
line_of (line.Updated meant outcome) = history.Updated (intent_of meant) outcome
line_of (line.Refused refusal) = history.Refused refusal
line_of (line.Collected request place) = history.Collected request place
line_of (line.GaveUp request place) = history.GaveUp request place

abbrev pub entry_of : LogEntry → history.Entry
entry_of (entry.Added number r) = history.Added number (recorded_of r)
entry_of (entry.Removed number) = history.Removed number
entry_of (entry.Posted number mask v) = history.Posted number mask (stored_of v)
entry_of (entry.Waits circuit place number v) = history.Waits circuit place number (stored_of v)
entry_of (entry.Applied circuit place number v busies) =
    history.Applied circuit place number (stored_of v) busies
entry_of (entry.Finished circuit place) = history.Finished circuit place
entry_of (entry.Withdrawn circuit place) = history.Withdrawn circuit place

-- ---- circuits

abbrev pub lists_of : CircuitHistory → history.Circuit
lists_of c = record {
  client = c.client;
  server = c.server;
  up = map sent_of c.up.items;
  down = map told_of c.down.items;
  handled = map step_of c.handled.items;
  heard = map step_of c.heard.items;
  queued = [];
  client_open = c.client_open;
  server_open = c.server_open;
}

abbrev pub creation_of : CreatedChannel → model.Creation
creation_of c = record { sid = c.sid; place = c.place }

abbrev pub standing_of : AddedSubscription → model.Standing
standing_of s = record { key = s.key; place = s.place; posts = s.posts }

-- a number that waits, with its cause
abbrev pub item_of : SubKey × (ℕ × Cause) → SubKey × (ℕ × history.Cause)
item_of w = (w.0, (w.1.0, cause_of w.1.1))

abbrev pub queue_of : Queue (ℕ × Cause) → Queue (ℕ × history.Cause)
queue_of q =
    record {
      waiting = map item_of q.waiting;
      subscriptions = q.subscriptions;
      events_on = q.events_on;
    }

abbrev pub joined_of : Joined → model.Joined
joined_of j = record {
  client = j.client;
  server = j.server;
  at_client = j.at_client;
  at_server = j.at_server;
  lists = lists_of j.lists;
  left_up = j.left_up;
  left_down = j.left_down;
  creations = map creation_of j.creations.items;
  standing = map standing_of j.standing.items;
  queues = map (λ q. queue_of q.0) j.queues.items;
}

-- ---- clients and servers

-- a handle, with its intent
abbrev pub named_of : Handle × Intent → Handle × history.Intent
named_of n = (n.0, intent_of n.1)

abbrev pub names_of : Names → model.Names
names_of n = record {
  channels = n.channels.items;
  requests = map named_of n.requests.items;
  subscriptions = map named_of n.subscriptions.items;
  writes = n.writes;
}

abbrev pub client_of : ClientSide → model.ClientSide
client_of x = record { setting = x.setting; core = x.core; life = x.life; names = names_of x.names }

abbrev pub place_of : PutPlace → model.PutPlace
place_of p = record { circuit = p.circuit; place = p.place }

abbrev pub record_of : RecordSide → model.RecordSide
record_of r =
    record {
      name = r.name.items;
      number = r.number;
      busy = option_map place_of r.busy;
      waiting = map place_of r.waiting.items;
    }

abbrev pub server_of : ServerSide → model.ServerSide
server_of y =
    record {
      setting = y.setting;
      core = y.core;
      life = y.life;
      records = map record_of y.records.items;
      added = y.added;
    }
