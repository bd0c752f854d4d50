use Rattle.std.proofs.Common.{refl, sym}
use Rattle.ca_lists.proofs.Listed.{listed-gone}
use Rattle.ca_monitor.specs.Layout.{owner_of}
use Rattle.ca_monitor.proofs.monitors.Monitors.free.Goals as goal

pub invariant_of-self-2 : goal.invariant_of-self-2
invariant_of-self-2 c =
    listed-gone owner_of c.self.inside.table c.free.new.self c.args.handle _ _ c.self.inside.channels c.remove.new.self c.in-Some.ensures.after (sym c.in-Some.ensures.value) c.remove.ensures.own c.remove.ensures.others c.self.invariant
