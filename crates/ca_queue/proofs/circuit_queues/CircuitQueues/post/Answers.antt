use Rattle.std.proofs.Common.{sym, ap, ◌∙◌, subst, map}
use Rattle.ca_queue.specs.Circuit.{AreIdleBehind, HasAt, queue_posted}
use Rattle.ca_queue.proofs.Circuits.{idle-posted, posts-as}
use Rattle.ca_queue.proofs.circuit_queues.CircuitQueues.post.Goals as goal

pub invariant_of-self : goal.invariant_of-self
invariant_of-self g c =
    let has = subst (λ (qs : _). HasAt qs c.args.place c.args.key) (sym c.self.view_is) c.requires in
    let p = posts-as g.Q.Queues.contents c.self.inside.queues.items c.args.place _ c.post.new.self c.args.key c.args.entry c.self.invariant.0 has c.index_mut-queue.ensures.value c.post.ensures.posts in (
      p.0,
      subst (λ (qs : _). AreIdleBehind c.max-self-inside.result qs) (sym p.1)
          (idle-posted c.self.inside.last c.max-self-inside.result c.args.place (map g.Q.Queues.contents c.self.inside.queues.items) c.args.key c.args.entry c.self.invariant.0 has c.self.invariant.1 c.max-self-inside.ensures),
    )

pub returns : goal.returns
returns g c =
    let has = subst (λ (qs : _). HasAt qs c.args.place c.args.key) (sym c.self.view_is) c.requires in
    (posts-as g.Q.Queues.contents c.self.inside.queues.items c.args.place _ c.post.new.self c.args.key c.args.entry c.self.invariant.0 has c.index_mut-queue.ensures.value c.post.ensures.posts).1
    ∙ ap (map (queue_posted c.args.key c.args.entry)) c.self.view_is
