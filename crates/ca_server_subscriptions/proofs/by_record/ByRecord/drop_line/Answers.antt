use Rattle.std.proofs.Common.{ap, ◌∙◌}
use Rattle.ca_server_subscriptions.specs.ByRecord.{Lines, receivers_in}
use Rattle.ca_server_subscriptions.proofs.Lines.{emptied, taken-out}
use Rattle.ca_server_subscriptions.proofs.by_record.ByRecord.drop_line.Goals as goal

pub returns-clause-stay : goal.returns-clause-stay
returns-clause-stay c other =
    emptied (λ k. k.items) c.self.inside.lines c.swap_remove.new.self c.args.name.now (ap (λ (w : Lines). receivers_in w c.args.name.now) c.self.view_is ∙ c.requires) c.swap_remove.ensures.updates other
    ∙ ap (λ (w : Lines). receivers_in w other) c.self.view_is

pub returns-clause-gone : goal.returns-clause-gone
returns-clause-gone c = taken-out (λ k. k.items) c.self.inside.lines c.swap_remove.new.self c.args.name.now c.swap_remove.ensures.updates
