use Rattle.ca.proofs.Replayings.{ends-told}
use Rattle.ca.proofs.replay.run.replay.Goals as goal

pub returns : goal.returns
returns g c =
    ends-told g.K.Sink.takes g.K.Sink.fault_count c.args.script.now c.args.seed c.args.sink.now c.write.new.self c.in-Ok.stop c.in-Ok.text.items c.deref.result.now c.outcome_of.result c.in-Ok.ensures.ok c.deref.ensures.value c.in-Ok-write.ensures.taken c.outcome_of.ensures
