-- Working: what holds of an open end beside the records of its server.
use Rattle.std.specs.Prelude.{◌≤◌, List, length}
use Rattle.ca_arena.specs.declared.handle.Handle.{Handle}
use Rattle.ca_link.specs.Calls.{IsOpen}
use Rattle.ca_records.specs.Puts.{Record}
use Rattle.ca_text.specs.Limits.{arena_slots}
use Rattle.ca_model.specs.Server.{ServerEnd}
use Rattle.ca_server_circuit.specs.Clearing.{ArePuts}
use Rattle.ca_server_circuit.specs.Handling.{AreServed}
use Rattle.ca_server_circuit.specs.Subscribing.{AreOnChannels, events_of}
use Rattle.ca_server_subscriptions.specs.Subscribed.{HasRoom}

-- An open end of this circuit: no bad header was met, a queue has room unless there are as many
-- subscriptions as there may be, its channels are served and not too many, and its puts that wait
-- and its subscriptions are on them.
pub record EndIsSound (rs : List Record) (h : Handle) (e : ServerEnd) : Type 0 where
  pub live : IsOpen e.link
  pub room : HasRoom (events_of e)
  pub served : AreServed rs e.channels
  pub puts : ArePuts h rs e.channels
  pub on : AreOnChannels e.channels e.subscriptions
  pub few : length e.channels ≤ arena_slots
