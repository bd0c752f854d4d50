use Rattle.ca_wire.specs.Traces.{empty}
use Rattle.ca_wire.proofs.Messages.{spells-front}
use Rattle.ca_wire.proofs.Streams.{trace-begins, streams-one}
use Rattle.ca_wire.proofs.laws.one_reading.Goals as goal

pub returns-clause-front : goal.returns-clause-front
returns-clause-front c = spells-front

pub returns-clause-read : goal.returns-clause-read
returns-clause-read c calls held after t n = record { reads = trace-begins empty calls held t; partial = n.1 }

pub returns-clause-only : goal.returns-clause-only
returns-clause-only c bytes ms ns x y p q = streams-one bytes ms ns x y p.reads q.reads p.partial q.partial
