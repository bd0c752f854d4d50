-- Vocabulary's examples: what calls of a client leave of a small world: the core by its calls, and
-- lines, messages and names as plain data.
use Rattle.std.specs.Prelude.{ℕ, ◌++◌, pos, Bool, true, false, List, [], ◌∷◌, Some, None}
use Rattle.ca_arena.specs.declared.handle.Handle.{Handle}
use Rattle.ca_dbr.specs.Elements.{Elements, longs}
use Rattle.ca_dbr.specs.declared.value.Outcome.TheVariants as outcome
use Rattle.ca_text.specs.declared.command.Command.TheVariants as command
use Rattle.ca_text.specs.declared.refusal.Refusal.{Refusal}
use Rattle.ca_text.specs.declared.refusal.Refusal.TheVariants as refusal
use Rattle.ca_wire.specs.declared.requests.Wanted.{Wanted}
use Rattle.ca_wire.specs.Messages.{clear_request, event_add_request, event_cancel_request}
use Rattle.ca_wire.specs.Messages.{put_request, read_request}
use Rattle.ca_model.specs.Answers.{Sending}
use Rattle.ca_model.specs.Client.{Client, sending}
use Rattle.ca_model.specs.ClientCalls.{issued, opened, put_sent, write_sent}
use Rattle.ca_model.specs.History.{Ask, Cancel, Clear, Create, Intent, Line, Put, Read, Request}
use Rattle.ca_model.specs.History.{Sent, Subscribe, Write}
use Rattle.ca_model.specs.History as history
use Rattle.ca_requests.specs.Requests as request
use Rattle.ca_model.specs.Events.{Event}
use Rattle.ca_model.specs.Events as event
use Rattle.ca_model.specs.Runs.{CanBe, Happens}
use Rattle.ca_model.specs.World.{ClientSide, Joined, Names, ServerSide, World, server_begun}
use Rattle.ca_model_examples.specs.Worlds as worlds
use Rattle.ca_model_examples.specs.ClientRows.{alive, anna, first, home, live_temp, reading, second}
use Rattle.ca_model_examples.specs.ClientRows.{subscribed, cancelled, cleared_live, temp}

-- ---- a world

-- a handle that was cleared long ago
abbrev pub old : Handle
old = record { index = 5; generation = 1 }

-- anna, in its second life: TEMP is its channel 1; its channel 0, its request 0 and its
-- subscription 0 are over, and it wrote three times
abbrev pub anna_side : Client → Names → ClientSide
anna_side core names =
    record {
      setting = record { peer = core.peer; name_servers = [] };
      core = core;
      life = 1;
      names = names;
    }

abbrev pub names : Names
names = record {
  channels = old ∷ first ∷ [];
  requests = (old, history.On 0 (Request Put 0)) ∷ [];
  subscriptions = (old, history.On 0 (Subscribe 0)) ∷ [];
  writes = 3;
}

-- a circuit of a client, under this handle; its end there is open or not
abbrev pub joined : (client : ℕ) → Handle → (is_open : Bool) → List Sent → Joined
joined client h is_open up = record {
  client = client;
  server = 0;
  at_client = h;
  at_server = first;
  lists =
      record {
        client = 1;
        server = 0;
        up = up;
        down = [];
        handled = [];
        heard = [];
        queued = [];
        client_open = is_open;
        server_open = true;
      };
  left_up = [];
  left_down = [];
  creations = [];
  standing = [];
  queues = [];
}

-- the server of TEMP
abbrev pub server : ServerSide
server = server_begun 0 0 (record { address = home; rules = []; records = worlds.temp ∷ [] })

-- A world of anna, whose circuit is the last: on it this went up. Another client's has the same
-- handle, and so has one of anna's that ended; one more of anna's has another.
abbrev pub world : ClientSide → List Line → List Sent → World
world x lines up = record {
  clients = x ∷ anna_side (anna []) names ∷ [];
  servers = server ∷ [];
  circuits =
      joined 1 first true [] ∷ joined 0 first false [] ∷ joined 0 second true []
      ∷ joined 0 first true up ∷ [];
  client_logs = [] ∷ lines ∷ [];
  server_logs = [] ∷ [];
  moment = 7;
}

abbrev pub opened_line : Line
opened_line = history.Opened 1 temp

-- TEMP is live.
abbrev pub live : World
live = world (anna_side alive.core names) (opened_line ∷ []) []

-- From it, this event leaves this core, these names, these lines more, and these messages.
abbrev pub Leaves : Event → Client → Names → List Line → List Sent → Type 0
Leaves e core now lines up = Happens live e (world (anna_side core now) (opened_line ∷ lines) up)

-- It is refused: only that is a line.
abbrev pub IsRefused : Event → Refusal → Type 0
IsRefused e f = Leaves e alive.core names (history.Refused f ∷ []) []

-- It can't be done.
abbrev pub CanNot : World → Event → Type 0
CanNot w e = CanBe w e → ⊥

-- ---- each call

abbrev pub temp_wanted : ℕ → Wanted
temp_wanted id = record { sid = 65536; id = id; data_type = 5; count = 1 }

abbrev pub on_temp : Ask → Intent
on_temp = history.On 1

abbrev pub forty_two : Elements
forty_two = longs (pos 42 ∷ [])

-- a second channel to TEMP, at the moment of the world
abbrev pub two_channels : Client
two_channels = opened (record { name = temp; priority = 9; now = 7 }) second alive.core

abbrev pub OpenLeaves : Type 0
OpenLeaves =
    Leaves (event.Open 0 temp 9) two_channels
    (record names { channels = old ∷ first ∷ second ∷ [] }) (history.Opened 2 temp ∷ []) []
    × IsRefused (event.Open 0 temp 100) refusal.BadPriority
    × IsRefused (event.Open 0 [] 100) refusal.NameLength
    × CanNot live (event.Open 2 temp 0)

abbrev pub with_read : Names
with_read =
    record names {
      requests = (old, history.On 0 (Request Put 0)) ∷
          (first, on_temp (Request Read 1)) ∷ [];
    }

abbrev pub ReadLeaves : Type 0
ReadLeaves =
    Leaves (event.Read 0 1 5 1) reading with_read
    (history.Called (on_temp (Request Read 1)) (history.ToRead 5 1) ∷ []) (
    record { message = read_request (temp_wanted 65536); intent = on_temp (Request Read 1) } ∷ []
    )
    × IsRefused (event.Read 0 1 21 2) refusal.BadType
    × IsRefused (event.Read 0 0 5 1) refusal.StaleHandle × CanNot live (event.Read 0 2 5 1)

abbrev pub written : Client
written = sending (write_sent first live_temp forty_two ∷ []) alive.core

abbrev pub WriteLeaves : Type 0
WriteLeaves =
    Leaves (event.Write 0 1 forty_two) written (record names { writes = 4 }) (
    history.Called (on_temp (Request Write 3)) (history.ToWrite forty_two) ∷ []
    ) (
    record {
      message = put_request command.Write (temp_wanted 0) (0 ∷ 0 ∷ 0 ∷ 42 ∷ []);
      intent = on_temp (Request Write 3);
    } ∷ []
    )
    × IsRefused (event.Write 0 1 (longs [])) refusal.BadCount
    × CanNot live (event.Write 0 2 forty_two)

abbrev pub put : Client
put = sending (put_sent first live_temp forty_two first ∷ [])
    (issued first live_temp request.Put first alive.core)

abbrev pub PutLeaves : Type 0
PutLeaves =
    Leaves (event.WriteNotify 0 1 forty_two) put (
    record names {
      requests = (old, history.On 0 (Request Put 0)) ∷
          (first, on_temp (Request Put 1)) ∷ [];
    }
    ) (history.Called (on_temp (Request Put 1)) (history.ToWrite forty_two) ∷ []) (
    record {
      message = put_request command.WriteNotify (temp_wanted 65536) (0 ∷ 0 ∷ 0 ∷ 42 ∷ []);
      intent = on_temp (Request Put 1);
    } ∷ []
    )
    × IsRefused (event.WriteNotify 0 1 (longs [])) refusal.BadCount
    × CanNot live (event.WriteNotify 0 2 forty_two)

abbrev pub with_subscription : Names
with_subscription =
    record names {
      subscriptions = (old, history.On 0 (Subscribe 0)) ∷
          (first, on_temp (Subscribe 1)) ∷ [];
    }

abbrev pub SubscribeLeaves : Type 0
SubscribeLeaves =
    Leaves (event.Subscribe 0 1 5 1 1) subscribed with_subscription
    (history.Called (on_temp (Subscribe 1)) (history.ToWatch 5 1 1) ∷ []) (
    record {
      message = event_add_request (temp_wanted 65536) 1;
      intent = on_temp (Subscribe 1);
    } ∷ []
    )
    × IsRefused (event.Subscribe 0 1 5 2 1) refusal.BadCount
    × CanNot live (event.Subscribe 0 2 5 1 1)

-- ---- what ends

-- TEMP is subscribed to, and read.
abbrev pub watched : World
watched = world (anna_side subscribed with_subscription) [] []

abbrev pub cancel_sending : Sending
cancel_sending = record {
  circuit = first;
  message = event_cancel_request (temp_wanted 65536);
  aim = Rattle.ca_model.specs.Answers.Cancel first first;
}

abbrev pub UnsubscribeLeaves : Type 0
UnsubscribeLeaves =
    Happens watched (event.Unsubscribe 0 1) (
    world (anna_side (sending (cancel_sending ∷ []) cancelled) with_subscription)
    (history.Called (on_temp (Cancel 1)) history.Nothing ∷ []) (
    record { message = event_cancel_request (temp_wanted 65536); intent = on_temp (Cancel 1) } ∷ []
    )
    )
    × IsRefused (event.Unsubscribe 0 0) refusal.StaleHandle × CanNot watched (event.Unsubscribe 0 2)

abbrev pub asked : World
asked = world (anna_side reading with_read) [] []

abbrev pub clear_sending : Sending
clear_sending =
    record {
      circuit = first;
      message = clear_request 65536 65536;
      aim = Rattle.ca_model.specs.Answers.Clear first;
    }

-- The call comes first, and then the request that it disconnects.
abbrev pub ClearLeaves : Type 0
ClearLeaves =
    Happens asked (event.Clear 0 1) (
    world (anna_side (sending (clear_sending ∷ []) cleared_live) with_read) (
    history.Called (on_temp Clear) history.Nothing ∷ history.Noticed
    (on_temp (Request Read 1)) outcome.Disconnected ∷ []
    ) (record { message = clear_request 65536 65536; intent = on_temp Clear } ∷ [])
    )
    × IsRefused (event.Clear 0 0) refusal.StaleHandle × CanNot live (event.Clear 0 2)

-- ---- what became of a request

-- in this log the read is done, or not, and something came after it
abbrev pub logged : List Line → World
logged lines = world (anna_side reading with_read) lines []

abbrev pub read_done : Line
read_done = history.Noticed (on_temp (Request Read 1)) outcome.Done

-- the event hands this out, as this line
abbrev pub HandsOut : List Line → Event → Line → Type 0
HandsOut lines e line = Happens (logged lines) e (logged (lines ++ line ∷ []))

-- It is handed out once; nothing is handed out before it is there, and nothing of another request.
abbrev pub Collects : Type 0
Collects =
    HandsOut (opened_line ∷ read_done ∷ []) (event.Collect 0 1) (history.Collected 1 (Some 1))
    × HandsOut (opened_line ∷ []) (event.Collect 0 1) (history.Collected 1 None)
    × HandsOut (read_done ∷ history.Collected 1 (Some 0) ∷ []) (event.Collect 0 1)
    (history.Collected 1 None)
    × HandsOut (read_done ∷ []) (event.Collect 0 0) (history.Collected 0 None)
    × HandsOut (history.Collected 1 None ∷ history.GaveUp 0 None ∷ read_done ∷ [])
    (event.Collect 0 1) (history.Collected 1 (Some 2))
    × CanNot live (event.Collect 0 1)

-- To give up hands out the same and ends it, also before it is there.
abbrev pub GivesUp : Type 0
GivesUp =
    HandsOut (opened_line ∷ read_done ∷ []) (event.GiveUp 0 1) (history.GaveUp 1 (Some 1))
    × HandsOut (opened_line ∷ []) (event.GiveUp 0 1) (history.GaveUp 1 None)
    × HandsOut (history.GaveUp 1 None ∷ read_done ∷ []) (event.Collect 0 1)
    (history.Collected 1 None)
    × CanNot live (event.GiveUp 0 1)
