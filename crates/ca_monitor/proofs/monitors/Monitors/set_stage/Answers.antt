use Rattle.std.proofs.Common.{ap, subst, sym}
use Rattle.ca_lists.specs.Walks.{AreListed}
use Rattle.ca_lists.proofs.Listed.{listed-put}
use Rattle.ca_monitor.specs.Layout.{owner_of}
use Rattle.ca_monitor.proofs.monitors.Monitors.set_stage.Goals.{in-Some, in_default}
use Rattle.ca_monitor.proofs.monitors.Monitors.set_stage.Goals as goal

pub invariant_of-self : goal.invariant_of-self
invariant_of-self c = elim c.match-by_handle_mut.branch [
  | in-Some w ↦
      subst (λ i. AreListed owner_of i.table i.channels) (sym w.self-inside-is)
      (listed-put owner_of c.self.inside.table c.args.handle w.in-Some.found.now w.set_stage.new.self c.self.inside.channels (sym w.in-Some.ensures.value) (ap owner_of w.set_stage.ensures) c.self.invariant)
  | in_default w ↦ subst (λ i. AreListed owner_of i.table i.channels) (sym w.self-inside-is) c.self.invariant
]
