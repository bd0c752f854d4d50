use Rattle.std.proofs.Common.{◌≡◌, ◌∙◌, ◌++◌, [], ap, drop, filter, rules, subst, sym}
use Rattle.ca_lists.specs.Lists.{Ascends}
use Rattle.ca_lists.specs.Walks.{each_at}
use Rattle.ca_monitor.specs.Layout.{is_standing_to}
use Rattle.ca_monitor.proofs.Listings.{standing-listed}
use Rattle.ca_monitor.proofs.monitors.Monitors.standing_to.Goals as goal

pub loop-place-init : goal.loop-place-init
loop-place-init c =
    let t = c.self.inside.table in
    let f = filter (is_standing_to c.args.channel) in
    ap (λ xs. xs ++ each_at f t c.of-listed.result.now) c.new-found.ensures.items
    ∙ ap (each_at f t) c.of-listed.ensures.all
    ∙ standing-listed c.args.channel t c.self.inside.channels (subst Ascends c.of-listed.ensures.all c.of-listed.ensures.ascends) c.self.invariant
