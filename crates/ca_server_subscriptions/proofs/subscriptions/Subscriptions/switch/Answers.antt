use Rattle.std.proofs.Common.{List, map, sym, subst}
use Rattle.ca_queue.specs.Queue.{Queue, switched}
use Rattle.ca_model.specs.Speech.{Stored}
use Rattle.ca_server_subscriptions.specs.Subscribed.{ArePlaced}
use Rattle.ca_server_subscriptions.proofs.Placing.{alike-switched, placed-alike}
use Rattle.ca_server_subscriptions.proofs.subscriptions.Subscriptions.switch.Goals as goal

pub invariant_of-self : goal.invariant_of-self
invariant_of-self c =
    let es = c.self.inside.standing.entries in
    let qs = c.self.inside.queues in (
      subst (λ (rs : List (Queue Stored)). ArePlaced es rs) (sym c.set_events.ensures)
          (placed-alike es qs (map (switched c.args.on) qs) (alike-switched c.args.on qs) c.self.invariant.0),
      c.self.invariant.1,
      c.self.invariant.2,
      c.self.invariant.3,
      c.self.invariant.4,
    )
