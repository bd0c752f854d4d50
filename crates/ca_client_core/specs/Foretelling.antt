-- Working: what a message that comes next makes a client send. No clause of a caller needs it.
use Rattle.std.specs.Prelude.{ℕ, ◌==◌, List, [], ◌∷◌, Option, Some, None, if◌then◌else◌, map}
use Rattle.ca_arena.specs.declared.handle.Handle.{Handle}
use Rattle.ca_text.specs.Command.{command_number}
use Rattle.ca_text.specs.declared.command.Command.TheVariants as command
use Rattle.ca_wire.specs.Fields.{Fields}
use Rattle.ca_monitor.specs.Subscriptions.{Subscription}
use Rattle.ca_model.specs.Answers.{Sending}
use Rattle.ca_model.specs.Answers as answer
use Rattle.ca_model.specs.Client.{Client, channel_on}
use Rattle.ca_model.specs.ClientCalls.{event_add_sent}
use Rattle.ca_model.specs.Ends.{Address}
use Rattle.ca_model.specs.Hears.{created, left}
use Rattle.ca_client_tables.specs.Foretelling.{creation_by}
use Rattle.ca_client_tables.specs.declared.foretelling.Creation.{Creation}

-- a channel's CREATE_CHAN, if one goes
abbrev pub creation_sent : Option Creation → List Sending
creation_sent None = []
creation_sent (Some o) =
    record { circuit = o.circuit; message = o.message; aim = answer.Create o.channel } ∷ []

-- what a search reply that came from this address makes a client send
abbrev pub found_sent : Client → Address → Fields → List Sending
found_sent x from m = creation_sent (creation_by x.channels x.circuits from m)

-- what a message makes a client send that was read on this circuit, which goes to this address
abbrev pub foretold : Client → Handle → Address → Fields → List Sending
foretold x c from m =
    if m.command == command_number command.Search
    then found_sent x from m
    else if m.command == command_number command.CreateChannel
    then (created x c m (channel_on x c m.p1)).sent
    else if m.command == command_number command.ServerDisconnect
    then (left x c (channel_on x c m.p1)).sent
    else []

-- the EVENT_ADDs of these subscriptions
abbrev pub adds_sent : Handle → ℕ → List (Handle × Subscription) → List Sending
adds_sent c sid es = map (λ (e : Handle × Subscription). event_add_sent c sid e.0 e.1) es
