use Rattle.std.proofs.Common.{◌∙◌, refl, sym}
use Rattle.ca_arena.specs.Arena.{place_at}
use Rattle.ca_lists.proofs.Listed.{listed-without}
use Rattle.ca_monitor.specs.Layout.{owner_of}
use Rattle.ca_monitor.proofs.Listings.{none-of}
use Rattle.ca_monitor.proofs.monitors.Monitors.tidy_at.Goals as goal

pub invariant_of-self : goal.invariant_of-self
invariant_of-self c =
    listed-without owner_of c.self.inside.table c.self.inside.channels c.remove.new.self c.args.channel _ c.remove.ensures.own c.remove.ensures.others
    (λ v there mine. none-of c.args.channel _ (sym c.if-is_of.ensures) v there mine) c.self.invariant
