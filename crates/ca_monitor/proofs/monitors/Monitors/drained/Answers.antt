use Rattle.std.proofs.Common.{◌&&◌, subst, sym}
use Rattle.ca_ids.specs.Table.{kept_of}
use Rattle.ca_lists.specs.Walks.{Covers}
use Rattle.ca_monitor.specs.Subscriptions.{Subscription, drains_in, is_to}
use Rattle.ca_monitor.proofs.Listings.{draining-to, freed-covers, freed-listed}
use Rattle.ca_monitor.proofs.monitors.Monitors.drained.Goals as goal

pub free_all-requires : goal.free_all-requires
free_all-requires c =
    let n = λ (s : Subscription). is_to c.args.channel s && drains_in c.args.circuit s.stage in
    subst (Covers (kept_of n) c.self.inside.table) (sym c.of-listed.ensures.all)
    (freed-covers n c.args.channel c.self.inside.table c.self.inside.channels (draining-to c.args.circuit c.args.channel) c.self.invariant)

pub invariant_of-self : goal.invariant_of-self
invariant_of-self c =
    freed-listed (λ (s : Subscription). is_to c.args.channel s && drains_in c.args.circuit s.stage) c.self.inside.table c.free_all.new.table c.self.inside.channels c.free_all.ensures c.self.invariant
