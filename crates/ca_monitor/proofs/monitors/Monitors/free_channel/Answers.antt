use Rattle.std.proofs.Common.{subst, sym}
use Rattle.ca_ids.specs.Table.{kept_of}
use Rattle.ca_lists.specs.Walks.{Covers}
use Rattle.ca_monitor.specs.Subscriptions.{is_to}
use Rattle.ca_monitor.proofs.Listings.{freed-covers, freed-listed}
use Rattle.ca_monitor.proofs.monitors.Monitors.free_channel.Goals as goal

pub free_all-requires : goal.free_all-requires
free_all-requires c =
    subst (Covers (kept_of (is_to c.args.channel)) c.self.inside.table) (sym c.of-listed.ensures.all)
    (freed-covers (is_to c.args.channel) c.args.channel c.self.inside.table c.self.inside.channels (λ s to. to) c.self.invariant)

pub invariant_of-self : goal.invariant_of-self
invariant_of-self c = freed-listed (is_to c.args.channel) c.self.inside.table c.free_all.new.table c.self.inside.channels c.free_all.ensures c.self.invariant
