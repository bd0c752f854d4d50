use Rattle.std.proofs.Common.{refl}
use Rattle.ca_lists.proofs.Listed.{listed-filled}
use Rattle.ca_monitor.specs.Layout.{owner_of}
use Rattle.ca_monitor.specs.Subscriptions.{new_subscription}
use Rattle.ca_monitor.proofs.monitors.Monitors.add.Goals as goal

pub invariant_of-self-2 : goal.invariant_of-self-2
invariant_of-self-2 c =
    listed-filled owner_of c.self.inside.table c.open_at.new.self c.args.vacant _ c.open_at.result c.args.channel.index c.self.inside.channels c.add.new.self c.open_at.ensures refl c.in_ok-add.ensures.own c.add.ensures.others c.self.invariant
