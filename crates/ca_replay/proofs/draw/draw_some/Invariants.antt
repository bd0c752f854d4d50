use Rattle.ca_replay.specs.Drawing.{DrawsSome}
use Rattle.ca_replay.specs.Steps.{drawn_so}
use Rattle.ca_replay.proofs.draw.draw_some.Given as goal

abbrev pub invariant-loop : goal.invariant-loop
invariant-loop l = DrawsSome (drawn_so l.fn.world l.fn.drawing.generator l.fn.all.items) l.counter (drawn_so l.here l.drawing.generator l.all.items)
