-- Vocabulary: a client's requests, in their table of IOIDs (sections "CA_PROTO_READ_NOTIFY" and
-- "CA_PROTO_WRITE_NOTIFY").
use Rattle.std.specs.Prelude.{ℕ, ◌==◌, ◌&&◌, Bool, true, false, List, Option, Some, None, filter}
use Rattle.std.specs.Prelude.{if◌then◌else◌, option_and_then, option_map, unwrap_or}
use Rattle.ca_text.specs.Command.{command_number}
use Rattle.ca_text.specs.declared.command.Command.{Command}
use Rattle.ca_text.specs.declared.command.Command.TheVariants as command
use Rattle.ca_arena.specs.declared.handle.Handle.{Handle}
use Rattle.ca_ids.specs.Table.{Table, by_wire, same_handle, under, with_all, with_all_freed}

-- what was asked: a read, of this type and count, or a put with notification
pub data Asked : Type 0 where
  Read : ℕ → ℕ → Asked
  Put : Asked

-- the command of its message, and of the reply
abbrev pub command_of : Asked → Command
command_of (Read data_type count) = command.ReadNotify
command_of Put = command.WriteNotify

-- A request is open; or it is over, and its IOID drains.
pub data Stage : Type 0 where
  Open Draining : Stage

-- a request: the channel that it is on, the circuit on which it was sent, what was asked,
-- and whether it is open
pub record Request : Type 0 where
  pub channel : Handle
  pub circuit : Handle
  pub asked : Asked
  pub stage : Stage

-- a request on this channel
abbrev pub asks_on : Handle → Request → Bool
asks_on channel q = same_handle q.channel channel

-- a request that was sent on this circuit
abbrev pub was_sent_on : Handle → Request → Bool
was_sent_on circuit q = same_handle q.circuit circuit

-- The request that a reply of this command and IOID on this circuit is about. A reply of another
-- command is about none.
abbrev pub answered_by : Handle → (command_read ioid : ℕ) → Table Request
    → Option (Handle × Request)
answered_by circuit command_read ioid t =
    option_and_then
    (λ (e : Handle × Request).
    if was_sent_on circuit e.1 && command_number (command_of e.1.asked) == command_read then Some e
    else None)
    (by_wire t ioid)

-- ---- in order of issue

-- the request is open
abbrev pub is_open_in : Stage → Bool
is_open_in Open = true
is_open_in Draining = false

-- the request of this handle is open, and the test names it
abbrev pub is_open : (Request → Bool) → Table Request → Handle → Bool
is_open which t q =
    unwrap_or (option_map (λ (r : Request). which r && is_open_in r.stage) (under t q)) false

-- of these requests, in order of issue, those that are open and that the test names
abbrev pub in_order_of_issue : (Request → Bool) → Table Request → List Handle → List Handle
in_order_of_issue which t issued = filter (is_open which t) issued

-- ---- requests end

-- a request on this channel is over, and its IOID drains
abbrev pub over_on : Handle → Request → Request
over_on channel q = if asks_on channel q then record q { stage = Draining } else q

-- the requests on this channel are over, and their IOIDs drain
abbrev pub channel_over : Handle → Table Request → Table Request
channel_over channel t = with_all (over_on channel) t

-- the IOIDs of this channel's requests are free
abbrev pub channel_gone : Handle → Table Request → Table Request
channel_gone channel t = with_all_freed (asks_on channel) t

-- the IOIDs of the requests that were sent on this circuit are free
abbrev pub circuit_gone : Handle → Table Request → Table Request
circuit_gone circuit t = with_all_freed (was_sent_on circuit) t
