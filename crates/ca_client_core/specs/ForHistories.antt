-- Vocabulary: what a recorder of histories asks of a client.
use Rattle.std.specs.Prelude.{◌≡◌, ◌≢◌, ◌<◌, Bool, false, List, [], Option, Some, None, Result, Ok}
use Rattle.std.specs.Prelude.{Err, Vec, map, option_and_then}
use Rattle.std.specs.declared.alloc.AllocError.{AllocError}
use Rattle.std.specs.declared.alloc.Global.{Global}
use Rattle.ca_arena.specs.declared.handle.Handle.{Handle}
use Rattle.ca_model.specs.Client.{Client, Connection, connection_at}
use Rattle.ca_text.specs.declared.command.Command.{Command}
use Rattle.ca_wire.specs.Stream.{NoneBegins}
use Rattle.ca_monitor.specs.ReadRun.{sent_by_read}
use Rattle.ca_model.specs.Answers as answer
use Rattle.ca_model.specs.ClientCalls.{IsLive, LiveChannel, Shape, StandsAs, ask_fault}
use Rattle.ca_text.specs.declared.refusal.Refusal.{Refusal}
use Rattle.ca_model.specs.ClientEnds.{ClientSteps}
use Rattle.ca_monitor.specs.Subscriptions.{Subscription, standing_under}
use Rattle.ca_client_core.specs.declared.for_histories.LiveOn.{LiveOn}
use Rattle.ca_client_core.specs.declared.for_histories.Aim.{Aim}
use Rattle.ca_client_core.specs.declared.for_histories.Aim.TheVariants as aim
use Rattle.ca_client_core.specs.declared.for_histories.SubscriptionAsked.{SubscriptionAsked}
use Rattle.ca_client_core.specs.declared.for_histories.Sending.{Sending}

-- the channel of this handle is live on this circuit, under this SID, with n elements at
-- most; or it is not live
abbrev pub LivesOn : Client → Handle → Option LiveOn → Type 0
LivesOn x h (Some o) =
    (l : LiveChannel) × IsLive x h l × (o.circuit ≡ l.circuit) × (o.sid ≡ l.native.sid)
    × (o.count ≡ l.native.count)
LivesOn x h None = (l : LiveChannel) → IsLive x h l → ⊥

-- the subscription of this handle stands, and asks for this; or none stands
abbrev pub AsksFor : Client → Handle → Option SubscriptionAsked → Type 0
AsksFor x s (Some o) =
    (d : Subscription) × StandsAs x s d × (o.channel ≡ d.channel) × (o.data_type ≡ d.data_type)
    × (o.count ≡ d.count)
AsksFor x s None = standing_under s x.subscriptions ≡ None

-- What is asked for on this channel is refused so while an id is free; or it may be asked for, and
-- a message can say it.
abbrev pub AsksWide : Client → Handle → Shape → Option Refusal → Type 0
AsksWide x h a (Some e) = ask_fault x false h a ≡ Some e
AsksWide x h a None =
    (ask_fault x false h a ≡ None) × (a.data_type < 65536) × (a.count < 4294967296)

-- what a read on the circuit of this handle makes the client send, if it is connected
abbrev pub flow_at : (more : Bool) → Client → Handle → Option Command
flow_at more x c = option_and_then (λ (e : Connection). sent_by_read more e.run) (connection_at x c)

-- what a message is for, as the statement has it
abbrev pub aim_of : Aim → answer.Aim
aim_of aim.OfCircuit = answer.OfCircuit
aim_of (aim.Create h) = answer.Create h
aim_of (aim.Clear h) = answer.Clear h
aim_of (aim.Subscribe h s) = answer.Subscribe h s

-- a message that is about to be sent, as the statement has it
abbrev pub sending_of : Sending → answer.Sending
sending_of s = record { circuit = s.circuit; message = s.message; aim = aim_of s.aim }

-- Whenever a step on this circuit reads a message, it sends these.
abbrev pub SendsNext : Client → Handle → List Sending → Type 0
SendsNext x c foretold =
    (told : List answer.Notice) (sent : List answer.Sending) (new : Client)
    → ClientSteps x c (answer.Notices told) sent new → sent ≡ map sending_of foretold

-- Whenever a step on this circuit reads a message, it sends something.
abbrev pub SendsSome : Client → Handle → Type 0
SendsSome x c =
    (told : List answer.Notice) (sent : List answer.Sending) (new : Client)
    → ClientSteps x c (answer.Notices told) sent new → sent ≢ []

-- No complete message waits to be read on this circuit, or it is not connected.
abbrev pub NoneWaits : Client → Handle → Type 0
NoneWaits x c = (e : Connection) → connection_at x c ≡ Some e → NoneBegins e.link.input.bytes

-- What the next step on this circuit sends was told: nothing, if no message waits. Or there was no
-- memory to tell what it sends.
abbrev pub TellsNext : Client → Handle → Result (Vec Sending Global) AllocError → Type 0
TellsNext x c (Ok foretold) = SendsNext x c foretold.items × (NoneWaits x c → foretold.items ≡ [])
TellsNext x c (Err _) = SendsSome x c × (NoneWaits x c → ⊥)
