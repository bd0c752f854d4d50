-- Who may issue a request: of an index of channels or circuits one alone has open requests.
use Rattle.ca_arena.specs.declared.handle.Handle.{Handle}
use Rattle.ca_ids.specs.Table.{Table}
use Rattle.ca_requests.specs.Calls.{Issued, MayIssue}
use Rattle.ca_monitor.specs.Subscriptions.{Subscription}
use Rattle.ca_model.specs.Client.{Channel, Client, ClientCircuit}
use Rattle.ca_model.specs.Placed.{ArePlaced, WasLiveIn, was_live}
use Rattle.ca_client_core.proofs.Listing.{connected-there, on-standing, one-handle}
use Rattle.ca_client_tables.proofs.Finds.{plain}

pub may-issue : (t : Table Channel) (y : Issued) (s : Table Subscription) (cs : Table ClientCircuit) (h c : Handle) → ArePlaced t y.table s cs → WasLiveIn t h c → MayIssue h c y
may-issue t y s cs h c placed live = record {
  on_channel = λ q r there opens same.
      let was = placed.attached.requests q r there in
      one-handle t h r.channel live.0 was.0 live.1 was.1 same;
  on_circuit = λ q r there opens same.
      let x : Client = plain t y.table s cs in
      let was = placed.attached.requests q r there in
      let mine = on-standing was_live c live.0 live.2 in
      let its = on-standing was_live r.circuit was.0 was.2 in
      let here = connected-there x h live.0 c mine.0 placed live.1 mine.1 mine.2 in
      let away = connected-there x r.channel was.0 r.circuit its.0 placed was.1 its.1 its.2 in
      one-handle cs c r.circuit here.0 away.0 here.1 away.1 same;
}
