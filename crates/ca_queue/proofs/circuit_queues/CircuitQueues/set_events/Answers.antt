use Rattle.std.proofs.Common.{◌<◌, length, sym, ap, ◌∙◌, subst, arith}
use Rattle.std.proofs.lemmas.List.{length-map}
use Rattle.ca_queue.specs.Circuit.{AreIdleBehind, AreInOne}
use Rattle.ca_queue.proofs.Circuits.{all-switched, idle-switched, length-switching, switched-in-one, switches-more}
use Rattle.ca_queue.proofs.circuit_queues.CircuitQueues.set_events.Goals as goal

pub loop-place-init : goal.loop-place-init
loop-place-init g c = (c.self.view_is, subst (λ (qs : _). AreIdleBehind c.self.inside.last qs) c.self.view_is c.self.invariant.1)

pub returns : goal.returns
returns g c =
    let k = c.self.inside.queues.ok in
    let n = ap length c.self.view_is in
    let m = length-map c.self.inside.queues.items g.Q.Queues.contents in
    c.loop-place.invariant.0 ∙ all-switched c.args.on c.args.self.now c.loop-place.place (omega (arith, c.len-place-end.ensures, k, n, m, c.loop-place-test.false))

pub invariant_of-self : goal.invariant_of-self
invariant_of-self g c = (
  subst AreInOne (sym (returns g c)) (switched-in-one c.args.on c.args.self.now (subst AreInOne c.self.view_is c.self.invariant.0)),
  subst (λ (qs : _). AreIdleBehind c.loop-place.self-inside.last qs) (sym (returns g c)) (idle-switched c.loop-place.self-inside.last c.args.on c.args.self.now c.loop-place.invariant.1),
)

pub loop-place-preserved : goal.loop-place-preserved
loop-place-preserved g c =
    let k = c.self.inside.queues.ok in
    let n = ap length c.self.view_is in
    let m = length-map c.self.inside.queues.items g.Q.Queues.contents in
    let lt : c.loop-place.place < length c.args.self.now = omega (arith, c.len-place-end.ensures, k, n, m, c.loop-place-test.true) in
    let all = length-switching c.args.on c.args.self.now c.loop-place.place in
    let here = ap length c.loop-place.invariant.0 in
    let l = length-map c.loop-place.self-inside.queues.items g.Q.Queues.contents in
    (switches-more g.Q.Queues.contents c.loop-place.self-inside.queues.items c.args.self.now c.loop-place.place _ c.set_events.new.self c.args.on c.loop-place.invariant.0 lt (omega (arith, lt, all, here, l)) c.index_mut.ensures.value c.set_events.ensures.switches, c.loop-place.invariant.1)
