-- Statement: what may happen to a world. Clients, servers and circuits are counted from 0, circuits
-- in the order in which they were accepted; channels, requests and subscriptions by their client's
-- accepted calls in its present life.
use Rattle.std.specs.Prelude.{ℕ, List}
use Rattle.ca_dbr.specs.Elements.{Elements}
use Rattle.ca_records.specs.Record.{RecordState}
use Rattle.ca_model.specs.Ends.{Address}

pub data Event : Type 0 where
  -- a client's calls: the client, and then a channel's name and priority; a channel, with a type
  -- and a count, or with a value; a type, a count and a mask; a subscription; a request
  Open : (client : ℕ) → (name : List ℕ) → (priority : ℕ) → Event
  Clear : (client channel : ℕ) → Event
  Read : (client channel data_type count : ℕ) → Event
  Write WriteNotify : (client channel : ℕ) → Elements → Event
  Subscribe : (client channel data_type count mask : ℕ) → Event
  Unsubscribe : (client subscription : ℕ) → Event
  Collect GiveUp : (client request : ℕ) → Event
  -- these bytes come as a datagram to a client, or to a server, from this address
  ClientDatagram ServerDatagram : (to : ℕ) → (from : Address) → (bytes : List ℕ) → Event
  -- the first circuit that the client wants, and whose address has a server, is made
  Accept : (client : ℕ) → Event
  -- n bytes of a circuit reach the server, or the client
  Up Down : (circuit n : ℕ) → Event
  -- an end of a circuit takes a step; updates leave its queues; an end is cut
  ServerStep ClientStep Pump CutClient CutServer : (circuit : ℕ) → Event
  -- a client, or a server, begins a new life
  ClientRestart ServerRestart : (which : ℕ) → Event
  -- at a server: a value is posted to a record, with a mask; a record's busy put is finished; a
  -- record is removed, or added
  Post : (server : ℕ) → (name : List ℕ) → Elements → (mask : ℕ) → Event
  Finish Remove : (server : ℕ) → (name : List ℕ) → Event
  Add : (server : ℕ) → RecordState → Event
  -- a moment is handed to all clients, in order
  Tick : (moment : ℕ) → Event
