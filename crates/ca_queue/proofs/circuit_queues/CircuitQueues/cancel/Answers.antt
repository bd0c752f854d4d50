use Rattle.std.proofs.Common.{map, sym, ap, ◌∙◌, subst}
use Rattle.ca_queue.specs.Circuit.{AreIdleBehind, HasAt, without_each}
use Rattle.ca_queue.specs.Keys.{same}
use Rattle.ca_queue.proofs.Circuits.{cancels-as, idle-cancelled}
use Rattle.ca_queue.proofs.circuit_queues.CircuitQueues.cancel.Goals as goal

pub invariant_of-self : goal.invariant_of-self
invariant_of-self g c =
    let has = subst (λ (qs : _). HasAt qs c.args.place c.args.key) (sym c.self.view_is) c.requires in
    let p = cancels-as g.Q.Queues.contents c.self.inside.queues.items c.args.place _ c.cancel.new.self c.args.key c.self.invariant.0 has c.index_mut.ensures.value c.cancel.ensures.cancels in (
      p.0,
      subst (λ (qs : _). AreIdleBehind c.max-self-inside.result qs) (sym p.1)
          (idle-cancelled c.self.inside.last c.max-self-inside.result c.args.place (map g.Q.Queues.contents c.self.inside.queues.items) c.args.key c.self.invariant.0 has c.self.invariant.1 c.max-self-inside.ensures),
    )

pub returns : goal.returns
returns g c =
    let has = subst (λ (qs : _). HasAt qs c.args.place c.args.key) (sym c.self.view_is) c.requires in
    (cancels-as g.Q.Queues.contents c.self.inside.queues.items c.args.place _ c.cancel.new.self c.args.key c.self.invariant.0 has c.index_mut.ensures.value c.cancel.ensures.cancels).1
    ∙ ap (without_each (same c.args.key)) c.self.view_is
