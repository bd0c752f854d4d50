use Rattle.std.proofs.Common.{◌∙◌, arith}
use Rattle.ca_queue.specs.Ring.{keys_of_lasts, waits}
use Rattle.ca_queue.proofs.Rounds.{behind-at, having-all, having-next, having-within}
use Rattle.ca_queue.proofs.event_queue.occupied.Goals as goal

pub last_of-requires : goal.last_of-requires
last_of-requires g c =
    behind-at c.key.result c.loop-number.number c.args.puts c.last.result c.puts_since-behind.result c.args.lasts.now.0 (waits c.args.ring.now) c.requires.noted
    (omega (arith, c.loop-number-test.true, c.len-number-end.ensures)) c.key.ensures c.last.ensures c.puts_since-behind.ensures

pub loop-number-preserved : goal.loop-number-preserved
loop-number-preserved g c = record {
  count = having-next (waits c.args.ring.now) c.args.lasts.now.0 c.loop-number.number c.loop-number.occupied c.one_if_some-occupied.result c.last_of.result c.key.result
      (omega (arith, c.loop-number-test.true, c.len-number-end.ensures)) c.key.ensures c.last_of.ensures c.loop-number.invariant.count c.one_if_some-occupied.ensures.one;
  few = omega (arith, c.loop-number.invariant.few, c.one_if_some-occupied.ensures.most);
}

pub returns-clause-count : goal.returns-clause-count
returns-clause-count g c =
    c.loop-number.invariant.count
    ∙ having-all (waits c.args.ring.now) c.args.lasts.now.0 c.loop-number.number (omega (arith, c.loop-number-test.false, c.len-number-end.ensures, c.loop-number.auto.number-end))

pub returns-clause-within : goal.returns-clause-within
returns-clause-within g c =
    omega (arith, returns-clause-count g c, having-within (keys_of_lasts c.args.lasts.now.0) (waits c.args.ring.now) c.requires.apart c.requires.known)
