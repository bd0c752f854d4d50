use Rattle.ca_replay.specs.Steps.{drawn_so}
use Rattle.ca_replay.proofs.Folding.{some-next}
use Rattle.ca_replay.proofs.draw.draw_some.Goals as goal

pub loop-preserved : goal.loop-preserved
loop-preserved c =
    some-next (drawn_so c.args.world c.args.drawing.now.generator c.args.all.now.items) (drawn_so c.loop.here c.loop.drawing.generator c.loop.all.items) (drawn_so c.in_ok-here.here c.draw-drawn.new.self.generator c.draw_one.new.all.items)
    c.loop.counter c.loop.invariant (c.draw-drawn.result, c.draw-drawn.ensures, c.in_ok-here.ensures.ok)
