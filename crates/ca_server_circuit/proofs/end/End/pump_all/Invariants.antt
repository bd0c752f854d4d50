use Rattle.std.proofs.Common.{◌≡◌, ◌+◌, ◌-◌, ◌++◌, cond, false, List, length}
use Rattle.std.specs.List.{FoldsTo}
use Rattle.ca_text.specs.Limits.{output_limit}
use Rattle.ca_link.specs.Calls.{IsOpen}
use Rattle.ca_model.specs.ServerSteps.{Leaves, Rests, Update}
use Rattle.ca_server_circuit.specs.CircuitOutput.{Grows, end_behind}
use Rattle.ca_server_circuit.proofs.end.End.pump_all.Given as goal

abbrev pub invariant-pumping : goal.invariant-pumping
invariant-pumping l = record {
  sent : (us : List Update) × FoldsTo Leaves (end_behind l.fn.to.before l.fn.self) us (end_behind l.to.before l.self);
  rests : l.more ≡ false → Rests (end_behind l.to.before l.self);
  live : IsOpen l.self.link;
  grows : Grows l.fn.to l.to;
}

abbrev pub decreases-pumping : goal.decreases-pumping
decreases-pumping l = output_limit - length (l.to.before ++ l.self.link.output) + cond l.more 1 0
