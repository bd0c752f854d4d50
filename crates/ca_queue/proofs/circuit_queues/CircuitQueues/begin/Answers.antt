use Rattle.std.proofs.Common.{◌≡◌, ◌<◌, true, [], length, map, sym, ap, ◌∙◌, subst, arith}
use Rattle.std.specs.Prelude.{slice_set}
use Rattle.ca_text.specs.Limits.{queue_subscriptions}
use Rattle.ca_text.specs.Place.{At}
use Rattle.ca_text.proofs.Places.{At-one}
use Rattle.ca_queue.specs.Circuit.{AreIdleBehind, HasNone}
use Rattle.ca_queue.specs.Keys.{is_among}
use Rattle.ca_queue.specs.Queue.{Queue, added, posted}
use Rattle.ca_queue.proofs.Circuits.{added-has, at-index, begins-as, idle-set, index-set, kept-in-one, refused-lacks, set-as-before, within-map}
use Rattle.ca_queue.proofs.circuit_queues.CircuitQueues.begin.Goals as goal

pub invariant_of-self : goal.invariant_of-self
invariant_of-self g c =
    let items = c.self.inside.queues.items in
    let first = c.in-Some.ensures in
    let lt = within-map g.Q.Queues.contents items c.in-Some.place first.0 (subst (λ (qs : _). At qs c.in-Some.place first.0) (sym c.self.view_is) first.1.0) in
    let at = at-index g.Q.Queues.contents items c.in-Some.place _ lt c.index_mut.ensures.value in (
      kept-in-one g.Q.Queues.contents items c.in-Some.place _ c.add.new.self c.self.invariant.0 at
          (λ k some. subst (λ (q : Queue _). is_among k q.subscriptions ≡ true) c.in-Err.ensures.adds.1 some),
      subst (λ (qs : _). AreIdleBehind c.self.inside.last qs) (sym (set-as-before g.Q.Queues.contents items c.in-Some.place _ c.add.new.self at c.in-Err.ensures.adds.1)) c.self.invariant.1,
    )

pub returns-in-Err : goal.returns-in-Err
returns-in-Err g c =
    let items = c.self.inside.queues.items in
    let first = c.in-Some.ensures in
    let here = subst (λ (qs : _). At qs c.in-Some.place first.0) (sym c.self.view_is) first.1.0 in
    let lt = within-map g.Q.Queues.contents items c.in-Some.place first.0 here in
    let at = at-index g.Q.Queues.contents items c.in-Some.place _ lt c.index_mut.ensures.value in
    let same = At-one _ c.in-Some.place first.0 _ here at in (
      (
        c.in-Some.place,
        first.0,
        first.1,
        subst (λ (q : Queue _). q.subscriptions ≡ []) (sym same)
            (refused-lacks (g.Q.Queues.contents c.index_mut.result.now) c.in-Err.field-0 c.in-Err.ensures.adds.0 (subst (λ (q : Queue _). length q.subscriptions < queue_subscriptions) same first.1.1)),
      ),
      set-as-before g.Q.Queues.contents items c.in-Some.place _ c.add.new.self at c.in-Err.ensures.adds.1 ∙ c.self.view_is,
    )

pub index_mut-requires-2 : goal.index_mut-requires-2
index_mut-requires-2 g c =
    let items = c.self.inside.queues.items in
    let first = c.in-Some.ensures in
    let k = c.self.inside.queues.ok in
    let lt = within-map g.Q.Queues.contents items c.in-Some.place first.0 (subst (λ (qs : _). At qs c.in-Some.place first.0) (sym c.self.view_is) first.1.0) in
    omega (arith, k, lt)

pub post-requires : goal.post-requires
post-requires g c =
    let items = c.self.inside.queues.items in
    let first = c.in-Some.ensures in
    let lt = within-map g.Q.Queues.contents items c.in-Some.place first.0 (subst (λ (qs : _). At qs c.in-Some.place first.0) (sym c.self.view_is) first.1.0) in
    added-has g.Q.Queues.contents c.index_mut.result.now c.add.new.self _ c.args.key c.in_default-add.ensures.adds.1 (index-set g.Q.Queues.contents items c.in-Some.place c.add.new.self _ lt c.index_mut-2.ensures.value)

pub invariant_of-self-2 : goal.invariant_of-self-2
invariant_of-self-2 g c =
    let items = c.self.inside.queues.items in
    let first = c.in-Some.ensures in
    let lt = within-map g.Q.Queues.contents items c.in-Some.place first.0 (subst (λ (qs : _). At qs c.in-Some.place first.0) (sym c.self.view_is) first.1.0) in
    let none = subst (λ (qs : _). HasNone qs c.args.key) (sym c.self.view_is) c.requires in
    let b = begins-as g.Q.Queues.contents items c.in-Some.place _ c.add.new.self _ c.post.new.self c.args.key c.args.entry c.self.invariant.0 none lt c.index_mut.ensures.value c.in_default-add.ensures.adds.1
    (index-set g.Q.Queues.contents items c.in-Some.place c.add.new.self _ lt c.index_mut-2.ensures.value) c.post.ensures.posts in (
      b.0,
      subst (λ (qs : _). AreIdleBehind c.max-self-inside.result qs) (sym b.1)
          (idle-set c.self.inside.last c.max-self-inside.result c.in-Some.place (map g.Q.Queues.contents items) _ c.self.invariant.1 c.max-self-inside.ensures),
    )

pub returns : goal.returns
returns g c =
    let items = c.self.inside.queues.items in
    let first = c.in-Some.ensures in
    let here = subst (λ (qs : _). At qs c.in-Some.place first.0) (sym c.self.view_is) first.1.0 in
    let lt = within-map g.Q.Queues.contents items c.in-Some.place first.0 here in
    let at = at-index g.Q.Queues.contents items c.in-Some.place _ lt c.index_mut.ensures.value in
    let same = At-one _ c.in-Some.place first.0 _ here at in
    let none = subst (λ (qs : _). HasNone qs c.args.key) (sym c.self.view_is) c.requires in (
      first.0,
      first.1,
      (begins-as g.Q.Queues.contents items c.in-Some.place _ c.add.new.self _ c.post.new.self c.args.key c.args.entry c.self.invariant.0 none lt c.index_mut.ensures.value c.in_default-add.ensures.adds.1
          (index-set g.Q.Queues.contents items c.in-Some.place c.add.new.self _ lt c.index_mut-2.ensures.value) c.post.ensures.posts).1
          ∙ (ap (λ (qs : _). slice_set qs c.in-Some.place (posted c.args.key c.args.entry (added c.args.key (g.Q.Queues.contents c.index_mut.result.now)))) c.self.view_is
          ∙ ap (λ (q : Queue _). slice_set c.args.self.now c.in-Some.place (posted c.args.key c.args.entry (added c.args.key q))) (sym same)),
    )
