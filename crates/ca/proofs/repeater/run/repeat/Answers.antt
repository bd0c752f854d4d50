use Rattle.std.proofs.Common.{arith}
use Rattle.ca.proofs.Repeatings.{breaks-off, round-more, rounds-all}
use Rattle.ca.proofs.repeater.run.repeat.Goals as goal

pub returns-in-Err : goal.returns-in-Err
returns-in-Err g c =
    breaks-off g.D.Datagrams.went g.D.Datagrams.refuses g.D.Datagrams.came g.D.Datagrams.fails c.in-Err.refusal c.args.count c.loop.counter c.args.datagrams.now c.loop.datagrams c.take_one.new.datagrams c.loop.repeater c.take_one.new.repeater c.loop-test.true c.loop.invariant c.in-Err.ensures

pub loop-preserved : goal.loop-preserved
loop-preserved g c =
    round-more g.D.Datagrams.went g.D.Datagrams.refuses g.D.Datagrams.came c.loop.counter c.args.datagrams.now c.loop.datagrams c.take_one.new.datagrams c.loop.repeater c.take_one.new.repeater c.loop.invariant c.in-Ok.ensures

pub returns : goal.returns
returns g c = (c.loop.repeater, rounds-all g.D.Datagrams.went g.D.Datagrams.refuses g.D.Datagrams.came c.loop.counter c.args.count c.args.datagrams.now c.loop.datagrams c.loop.repeater (omega (arith, c.loop-test.false, c.loop.auto.counter-end)) c.loop.invariant)
