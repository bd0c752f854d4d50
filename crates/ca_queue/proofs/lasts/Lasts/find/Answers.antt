use Rattle.std.proofs.Common.{ap, ◌∙◌}
use Rattle.ca_queue.specs.Keys.{is_among}
use Rattle.ca_queue.specs.Ring.{keys_of_lasts}
use Rattle.ca_queue.proofs.Rounds.{at-in, at-position}
use Rattle.ca_queue.proofs.lasts.Lasts.find.Goals as goal

pub look_up-number-requires : goal.look_up-number-requires
look_up-number-requires c = ap (is_among c.args.key) c.self.invariant.keyed ∙ (rw (← c.self.view_is) at c.requires)

pub returns-clause-at : goal.returns-clause-at
returns-clause-at c =
    at-in c.args.key c.self.inside.index.keys (keys_of_lasts c.self.inside.lasts.items) c.look_up-number.result c.self.invariant.keyed (at-position c.args.key c.self.inside.index.keys c.look_up-number.result c.look_up-number.ensures)
