use Rattle.std.proofs.Common.{option_map, subst, sym}
use Rattle.ca_lists.specs.Walks.{Covers}
use Rattle.ca_monitor.specs.Subscriptions.{over_on}
use Rattle.ca_monitor.proofs.Listings.{over-covers, over-listed}
use Rattle.ca_monitor.proofs.monitors.Monitors.end_channel.Goals as goal

pub end_all-requires : goal.end_all-requires
end_all-requires c =
    subst (Covers (option_map (over_on c.args.circuit c.args.channel)) c.self.inside.table) (sym c.of-listed.ensures.all)
    (over-covers c.args.circuit c.args.channel c.self.inside.table c.self.inside.channels c.self.invariant)

pub invariant_of-self : goal.invariant_of-self
invariant_of-self c = over-listed c.args.circuit c.args.channel c.self.inside.table c.end_all.new.table c.self.inside.channels c.end_all.ensures c.self.invariant
