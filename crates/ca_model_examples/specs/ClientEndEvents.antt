-- Vocabulary's examples: what events at a client's end of a circuit leave of a small world.
use Rattle.std.specs.Prelude.{ℕ, ◌≡◌, ◌++◌, Bool, true, false, length, List, [], ◌∷◌, Option, Some}
use Rattle.std.specs.Prelude.{None}
use Rattle.ca_dbr.specs.declared.value.Outcome.TheVariants as outcome
use Rattle.ca_ids.specs.Table.{IsFull, Table}
use Rattle.ca_link.specs.Link.{LinkState, new_link}
use Rattle.ca_text.specs.declared.command.Command.TheVariants as command
use Rattle.ca_wire.specs.Fields.{Fields}
use Rattle.ca_wire.specs.Message.{spelling}
use Rattle.ca_wire.specs.Messages.{header_only, create_request, name_request, version_request}
use Rattle.ca_model.specs.Answers as answer
use Rattle.ca_model.specs.Client.{Client, Connection, ended, on_connection, out_bytes}
use Rattle.ca_model.specs.ClientEnds.{circuits_ticked, searches_made}
use Rattle.ca_model.specs.Hears.{without_request}
use Rattle.ca_model.specs.History.{Create, Intent, Line, OfCircuit, Put, Read, Reply, Request, Sent}
use Rattle.ca_model.specs.History.{Step, Subscribe, Write}
use Rattle.ca_model.specs.History as history
use Rattle.ca_model.specs.Server.{Open, ServerCircuit, new_end}
use Rattle.ca_model.specs.ClientEvents.{about_at, lines_of}
use Rattle.ca_model.specs.Events as event
use Rattle.ca_model.specs.Runs.{Happens, TicksBefore}
use Rattle.ca_model.specs.World.{ClientSide, Joined, Names, ServerSide, World, no_names}
use Rattle.ca_model_examples.specs.ClientRows.{alive, anna, first, found, greeted, home, reading}
use Rattle.ca_model_examples.specs.ClientRows.{second, temp, with_temp}
use Rattle.ca_model_examples.specs.ClientCallEvents.{CanNot, anna_side, joined, live, names, old}
use Rattle.ca_model_examples.specs.ClientCallEvents.{on_temp, opened_line, put, read_done, server}
use Rattle.ca_model_examples.specs.ClientCallEvents.{with_read, world}

-- ---- bytes

-- the client with these bytes waiting on its circuit
abbrev pub with_output : List ℕ → Client → Client
with_output bytes x =
    on_connection (λ (e : Connection). record e { link = record e.link { output = bytes } }) first x

-- the server with an end of this link
abbrev pub server_with : LinkState → ServerSide
server_with l =
    record server {
      core = record server.core {
        circuits = record {
          generation = 1;
          value = Some (Open (record (new_end 0) { link = l }));
        } ∷ [];
      };
    }

-- the link at a server to which these bytes came, and on which these wait
abbrev pub link_of : (came waiting : List ℕ) → LinkState
link_of came waiting =
    record {
      input = record { bytes = came; closed = false };
      output = waiting;
      heard_at = 0;
      echoed = false;
    }

-- the world of these two
abbrev pub between : Client → ServerSide → World
between x y = record (world (anna_side x names) [] []) { servers = y ∷ [] }

-- the last circuit is so
abbrev pub with_last : Joined → World → World
with_last j w =
    record w {
      circuits = joined 1 first true [] ∷ joined 0 first false [] ∷ joined 0 second true []
          ∷ j ∷ [];
    }

abbrev pub left_up : List ℕ → Joined
left_up bytes = record (joined 0 first false []) { left_up = bytes }

-- The first bytes that wait move, of an open end or of one that ended; no more than wait.
abbrev pub UpMoves : Type 0
UpMoves =
    Happens (between (with_output (1 ∷ 2 ∷ 3 ∷ []) alive.core) (server_with (link_of (7 ∷ []) [])))
    (event.Up 3 2) (
    between (with_output (3 ∷ []) alive.core) (server_with (link_of (7 ∷ 1 ∷ 2 ∷ []) []))
    )
    × Happens
    (with_last (left_up (4 ∷ 5 ∷ 6 ∷ [])) (between alive.core (server_with (link_of [] []))))
    (event.Up 3 1) (
    with_last (left_up (5 ∷ 6 ∷ [])) (between alive.core (server_with (link_of (4 ∷ []) [])))
    )
    × CanNot (between (with_output (1 ∷ 2 ∷ 3 ∷ []) alive.core) (server_with (link_of [] [])))
    (event.Up 3 4)

-- the client to which these bytes came, after n reads in a row that left some
abbrev pub with_input : List ℕ → ℕ → Client → Client
with_input bytes reads x =
    on_connection
    (λ (e : Connection). record {
      link = link_of bytes e.link.output;
      run = record { reads = reads; events_off = false };
    }) first x

-- A read that leaves bytes counts, and one that leaves none does not. None come to an end
-- that is closed.
abbrev pub DownMoves : Type 0
DownMoves =
    Happens (between alive.core (server_with (link_of [] (1 ∷ 2 ∷ 3 ∷ [])))) (event.Down 3 2) (
    between (with_input (1 ∷ 2 ∷ []) 1 alive.core) (server_with (link_of [] (3 ∷ [])))
    )
    × Happens (between alive.core (server_with (link_of [] (1 ∷ 2 ∷ [])))) (event.Down 3 2) (
    between (with_input (1 ∷ 2 ∷ []) 0 alive.core) (server_with (link_of [] []))
    )
    × CanNot (between alive.core (server_with (link_of [] (1 ∷ [])))) (event.Down 1 0)

-- ---- steps and ends

-- the reply to the put
abbrev pub put_reply : Fields
put_reply = record { command = 19; data_type = 5; count = 1; p1 = 1; p2 = 65536; payload = [] }

abbrev pub with_put : Names
with_put =
    record names {
      requests = (old, history.On 0 (Request Put 0)) ∷
          (first, on_temp (Request Put 1)) ∷ [];
    }

-- a circuit on which one message went up, and these steps of the client's end heard
abbrev pub hearing : List Step → Joined
hearing steps =
    let j : Joined =
    joined 0 first true
    (record { message = header_only command.Version; intent = OfCircuit } ∷ []) in
    record j { lists = record j.lists { heard = steps } }

-- The reply is read in a step of its own, and its notice told.
abbrev pub StepHears : Type 0
StepHears =
    Happens (with_last (hearing [])
    (world (anna_side (with_input (spelling put_reply) 0 put) with_put) (opened_line ∷ []) []))
    (event.ClientStep 3) (
    with_last (hearing (record { sent = 1; logged = 1; after = 2 } ∷ [])) (
    world (anna_side (with_input [] 0 (without_request first put)) with_put) (
    opened_line ∷ history.Noticed (on_temp (Request Put 1)) outcome.Done ∷ []
    ) []
    )
    )
    × CanNot live (event.ClientStep 1) × CanNot live (event.CutClient 1)
    × CanNot live (event.ClientStep 4)

-- the lines of a reading client that loses TEMP
abbrev pub lost_lines : List Line
lost_lines =
    history.Noticed (on_temp (Request Read 1)) outcome.Disconnected ∷ history.Noticed
    (on_temp Create) outcome.Disconnected ∷ []

-- the circuit of which the client left all that waited
abbrev pub cut_off : Joined
cut_off = left_up (out_bytes reading first)

abbrev pub CutEnds : Type 0
CutEnds =
    Happens (world (anna_side reading with_read) (opened_line ∷ []) []) (event.CutClient 3) (
    with_last cut_off
    (world (anna_side (ended first reading) with_read) (opened_line ∷ lost_lines) [])
    )

-- A client that begins again tells nothing of the end of its old life: all its open ends end, and
-- what waited is left.
abbrev pub RestartForgets : Type 0
RestartForgets =
    let before : World = world (anna_side reading with_read) (opened_line ∷ []) [] in
    let gone : Joined = record (joined 0 second false []) { left_up = [] } in
    Happens before (event.ClientRestart 0) (record before {
      clients =
          record {
            setting = (anna_side reading with_read).setting;
            core = record (anna []) { moment = 7 };
            life = 2;
            names = no_names;
          } ∷ anna_side (anna []) names ∷ [];
      circuits = joined 1 first true [] ∷ joined 0 first false [] ∷ gone ∷ cut_off ∷ [];
      client_logs = [] ∷ (opened_line ∷ []) ∷ [] ∷ [];
    })
    × CanNot before (event.ClientRestart 2)

-- ---- a circuit is made

abbrev pub wanting : ServerSide → World
wanting y = record (world (anna_side found names) [] []) { servers = y ∷ [] }

-- its set-up and the CREATE_CHAN of TEMP
abbrev pub greeting : List Sent
greeting =
    record {
      message = version_request 0;
      intent = OfCircuit;
    } ∷ record {
      message =
          name_request command.ClientName (97 ∷ 110 ∷ 110 ∷ 97 ∷ []);
      intent = OfCircuit;
    }
    ∷ record {
      message = name_request command.HostName (104 ∷ 97 ∷ 108 ∷ 108 ∷ []);
      intent = OfCircuit;
    }
    ∷ record { message = create_request 65536 temp; intent = on_temp Create } ∷ []

abbrev pub accepted : Joined
accepted =
    let j : Joined =
    joined 0 first true greeting in
    record j { queues = Rattle.std.specs.Prelude.replicate 8 Rattle.ca_queue.specs.Queue.no_queue }

-- It is made, with the client's set-up going up; a full server refuses it, and nothing happens;
-- without a server it can't be made.
abbrev pub AcceptMakes : Type 0
AcceptMakes =
    (let w : World = record (wanting server) { circuits = [] } in
    Happens w (event.Accept 0)
    (record w {
      clients = anna_side greeted names ∷ anna_side (anna []) names ∷ [];
      servers = server_with (new_link 0) ∷ [];
      circuits = record accepted { lists = record accepted.lists { client = 1 } } ∷ [];
    }))
    × ((t : Table ServerCircuit) → IsFull t
    → (let w : World = wanting
    (record server { core = record server.core { circuits = t } }) in Happens w (event.Accept 0) w))
    × CanNot (record (wanting server) { servers = [] }) (event.Accept 0)

-- ---- lines

-- Each notice as its line: a refused write is that of which its ERROR is about.
abbrev pub NoticeLines : Type 0
NoticeLines =
    lines_of (on_temp (Request Write 2))
    (record with_read { subscriptions = (second, on_temp (Subscribe 1)) ∷ [] }) (
    answer.Live first ∷ answer.Completed first outcome.Done ∷ answer.Update second outcome.Done
    ∷ answer.SubscriptionEnded second (record { number = 160 })
    ∷ answer.WriteRefused first (record { number = 160 }) ∷ answer.Lost first ∷ []
    )
    ≡ history.Noticed (on_temp Create) outcome.Done ∷ read_done ∷ history.Updated
    (on_temp (Subscribe 1)) outcome.Done
    ∷ history.Noticed (on_temp (Subscribe 1)) (outcome.Failed (record { number = 160 }))
    ∷ history.Noticed (on_temp (Request Write 2)) (outcome.Failed (record { number = 160 }))
    ∷ history.Noticed (on_temp Create) outcome.Disconnected ∷ []

-- what the next message is about: the message at its place
abbrev pub AboutPlace : Type 0
AboutPlace =
    let j : Joined =
    joined 0 first true
    (record {
      message = header_only command.Version;
      intent = OfCircuit;
    } ∷ record { message = header_only command.Write; intent = on_temp (Request Write 2) } ∷ []) in
    let c : history.Circuit =
    record j.lists {
      down = record {
        message = header_only command.Error;
        place = 1;
        cause = Reply;
      } ∷ [];
    } in
    (about_at c 0 ≡ on_temp (Request Write 2)) × (about_at c 1 ≡ OfCircuit)

-- ---- ticks

abbrev pub ticked_once : World
ticked_once =
    with_last cut_off
    (world (anna_side (searches_made (circuits_ticked 35000 reading)).core with_read)
    (opened_line ∷ lost_lines) [])

-- A silence of 35,000 milliseconds ends the circuit at the first client, and then the moment comes
-- to the other. It may stop before that, and does not go back.
abbrev pub TickEnds : Type 0
TickEnds =
    let before : World = world (anna_side reading with_read) (opened_line ∷ []) [] in
    Happens before (event.Tick 35000)
    (record ticked_once {
      clients = anna_side
          (searches_made (circuits_ticked 35000 reading)).core with_read ∷ anna_side
          (record (anna []) { moment = 35000 }) names ∷ [];
      moment = 35000;
    })
    × TicksBefore 35000 before before × CanNot before (event.Tick 6)

-- Two clients have such a silence, and memory lacks at the second: the first had the moment, and
-- the second and the world had it not.
abbrev pub TickStops : Type 0
TickStops =
    let silent : ClientSide = anna_side reading with_read in
    let both : World =
    record (world silent (opened_line ∷ []) []) { clients = silent ∷ silent ∷ [] } in
    TicksBefore 35000 both
    (record ticked_once {
      clients = anna_side
          (searches_made (circuits_ticked 35000 reading)).core with_read ∷ silent ∷ [];
    })

-- ---- datagrams

-- the search reply for TEMP
abbrev pub reply_of_search : Fields
reply_of_search =
    record (header_only command.Search) {
      data_type = 5064;
      p1 = 0xFFFFFFFF;
      p2 = 65536;
      payload = 0 ∷ 13 ∷ 0 ∷ 0 ∷ 0 ∷ 0 ∷ 0 ∷ 0 ∷ [];
    }

-- It comes from the port 9 of TEMP's server: the circuit that its own port names is wanted, and
-- nothing is logged.
abbrev pub DatagramFinds : Type 0
DatagramFinds =
    let before : World =
    record (world (anna_side (with_temp (anna [])) names) (opened_line ∷ []) []) { moment = 0 } in
    Happens before
    (event.ClientDatagram 0 (record { host = home.host; port = 9 }) (spelling reply_of_search)) (
    record before { clients = anna_side found names ∷ anna_side (anna []) names ∷ [] }
    )
    × CanNot before (event.ClientDatagram 2 home [])
