use Rattle.std.proofs.Common.{◌≡◌, ◌+◌, ◌<◌, ◌≤◌, List}
use Rattle.ca_records.specs.Record.{RecordState}
use Rattle.ca_records.specs.Rules.{Rule}
use Rattle.ca_text.specs.Limits.{engine_turns, output_limit}
use Rattle.ca_answer.specs.Engines.{unread_size}
use Rattle.ca_answer.specs.Serving.{ServesOn}
use Rattle.ca_answer.proofs.engine.StreamEngine.drain.Given as goal

abbrev pub invariant-loop : goal.invariant-loop
invariant-loop g l = record {
  serves : (rules : List Rule) (states : List RecordState) → ServesOn g.K.Sink.takes rules states l.fn.sink l.fn.self l.sink l.self;
  few : l.self.waiting < output_limit;
  rises : l.fn.turns ≤ l.turns;
  within : l.turns ≤ engine_turns;
  calls : g.K.Sink.call_count l.sink + l.fn.turns ≡ g.K.Sink.call_count l.fn.sink + l.turns;
  faults : g.K.Sink.fault_count l.sink ≡ g.K.Sink.fault_count l.fn.sink;
}

abbrev pub decreases-loop : goal.decreases-loop
decreases-loop g l = unread_size l.self
