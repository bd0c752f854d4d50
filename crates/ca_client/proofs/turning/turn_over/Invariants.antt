use Rattle.std.proofs.Common.{◌≡◌}
use Rattle.ca_client.specs.Turns.{Chain}
use Rattle.ca_client.proofs.turning.turn_over.Given as goal

abbrev pub invariant-loop-call : goal.invariant-loop-call
invariant-loop-call g l = record {
  chain : Chain g.S.Socket.fault_count g.S.Socket.gives g.S.Socket.takes l.circuit l.call l.fn.socket l.fn.state l.socket l.state;
  sound : g.S.Socket.fault_count l.socket ≡ g.S.Socket.fault_count l.fn.socket;
}
