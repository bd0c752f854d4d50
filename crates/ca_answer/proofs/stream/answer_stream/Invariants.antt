use Rattle.std.proofs.Common.{◌≡◌, ◌+◌, ◌-◌, ◌≤◌, ℕ, List, vec_len}
use Rattle.std.specs.List.{concat}
use Rattle.ca_text.specs.Limits.{engine_turns}
use Rattle.ca_link.specs.Steps.{Moves}
use Rattle.ca_answer.specs.Serving.{Rested}
use Rattle.ca_answer.proofs.stream.answer_stream.Given as goal

abbrev pub invariant-loop-turns : goal.invariant-loop-turns
invariant-loop-turns g l = record {
  chunks : (chunks : List (List ℕ)) × Moves g.S.Source.gives l.fn.source chunks l.source × Rested g.K.Sink.takes l.fn.rules.items l.records l.fn.sink (concat chunks) l.sink l.engine;
  within : l.turns ≤ engine_turns;
  calls : g.S.Source.call_count l.source + g.K.Sink.call_count l.sink ≡ g.S.Source.call_count l.fn.source + g.K.Sink.call_count l.fn.sink + l.turns;
  source_calls : g.S.Source.call_count l.source ≤ g.S.Source.call_count l.fn.source + l.turns;
  sink_calls : g.K.Sink.call_count l.sink ≤ g.K.Sink.call_count l.fn.sink + l.turns;
  source_faults : g.S.Source.fault_count l.source ≡ g.S.Source.fault_count l.fn.source;
  sink_faults : g.K.Sink.fault_count l.sink ≡ g.K.Sink.fault_count l.fn.sink;
  size : vec_len l.buffer ≡ 65536;
}

abbrev pub decreases-loop-turns : goal.decreases-loop-turns
decreases-loop-turns g l = engine_turns - l.turns
