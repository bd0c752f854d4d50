-- Vocabulary: what a client's calls send and answer (section "Overall Client Operation").
use Rattle.std.specs.Prelude.{ℕ, List}
use Rattle.ca_text.specs.declared.status.Status.{Status}
use Rattle.ca_dbr.specs.declared.value.Outcome.{Outcome}
use Rattle.ca_arena.specs.declared.handle.Handle.{Handle}
use Rattle.ca_wire.specs.Fields.{Fields}
use Rattle.ca_model.specs.Ends.{Address, Why}

-- What a message is for: the circuit as a whole; to create or clear a channel, or to write to it;
-- or, on a channel, to read or to put as a request, or to make or cancel a subscription.
pub data Aim : Type 0 where
  OfCircuit : Aim
  Create Clear Write : Handle → Aim
  Read Put Subscribe Cancel : Handle → Handle → Aim

-- a message that a client sends on a circuit, and what it is for
pub record Sending : Type 0 where
  pub circuit : Handle
  pub message : Fields
  pub aim : Aim

-- What a client reports to its caller: a channel is live, or lost; what became of a request; a
-- subscription's update; that its server refused a subscription, which is over; that its server
-- refused a plain write on a channel.
pub data Notice : Type 0 where
  Live Lost : Handle → Notice
  Completed Update : Handle → Outcome → Notice
  SubscriptionEnded WriteRefused : Handle → Status → Notice

-- The client's end of a circuit has ended: why, the notices of that, and the bytes
-- that waited to be sent.
pub record Closing : Type 0 where
  pub why : Why
  pub notices : List Notice
  pub left : List ℕ

-- what one step did: it read a message, with these notices; it needs more bytes;
-- or the end has ended
pub data Stepped : Type 0 where
  Notices : List Notice → Stepped
  NeedBytes : Stepped
  Closed : Closing → Stepped

-- a datagram to be sent
pub record Datagram : Type 0 where
  pub to : Address
  pub bytes : List ℕ

-- a circuit whose client's end has ended, and the bytes that waited to be sent
pub record Left : Type 0 where
  pub circuit : Handle
  pub bytes : List ℕ

-- what a moment did: its notices, the datagrams that it sends, and the circuits that have ended
pub record Ticked : Type 0 where
  pub notices : List Notice
  pub datagrams : List Datagram
  pub closings : List Left
