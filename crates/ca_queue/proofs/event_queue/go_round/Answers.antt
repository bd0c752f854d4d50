use Rattle.std.proofs.Common.{◌≡◌, ◌<◌, List, Bool, length, refl, sym, ap, ◌∙◌, subst, arith}
use Rattle.std.specs.Option.{option_map}
use Rattle.ca_queue.specs.declared.lasts.Last.{Last}
use Rattle.ca_queue.specs.Ring.{AreNoted, keys_of_lasts, waits, with_items}
use Rattle.ca_queue.proofs.Rounds.{Turned, known-one, next-is, noted-none, popped-is, put-back, some-next, turn-begins, turn-ends, turn-goes, turn-stays}
use Rattle.ca_queue.proofs.event_queue.go_round.Goals as goal
use Rattle.ca_queue.proofs.event_queue.go_round.Goals.{then-not-is_same, else-not-is_same}

pub loop-init : goal.loop-init
loop-init g c = record {
  ring = turn-begins c.args.ring.now;
  keys = refl;
  room = refl;
  noted = noted-none g.row.E.Denot c.args.puts.now c.args.lasts.now.0;
  goes = c.requires.goes_round;
}

pub unreachable-requires : goal.unreachable-requires
unreachable-requires g c =
    let less : c.loop.counter < length (waits c.args.ring.now) = omega (arith, c.loop-test.true, c.waiting-end.ensures) in
    some-next c.args.key c.loop.counter c.args.ring.now c.loop.ring less c.loop.invariant.ring c.in_default.ensures.gives

pub find-number-requires : goal.find-number-requires
find-number-requires g c =
    let less : c.loop.counter < length (waits c.args.ring.now) = omega (arith, c.loop-test.true, c.waiting-end.ensures) in
    let next = next-is c.args.key c.loop.counter (c.in-Some.of, c.in-Some.entry) c.args.ring.now c.loop.ring less c.loop.invariant.ring c.in-Some.ensures.gives in
    known-one c.args.key c.loop.counter (c.in-Some.of, c.in-Some.entry) (waits c.args.ring.now) (keys_of_lasts c.args.lasts.now.0) (keys_of_lasts c.loop.lasts.0) c.requires.known next.0 (sym c.if-not-is_same.ensures) c.loop.invariant.keys

pub append-requires-clause-place : goal.append-requires-clause-place
append-requires-clause-place g c =
    let less : c.loop.counter < length (waits c.args.ring.now) = omega (arith, c.loop-test.true, c.waiting-end.ensures) in
    let next = next-is c.args.key c.loop.counter (c.in-Some.of, c.in-Some.entry) c.args.ring.now c.loop.ring less c.loop.invariant.ring c.in-Some.ensures.gives in
    put-back c.args.key c.loop.counter (c.in-Some.of, c.in-Some.entry) c.args.ring.now c.pop.new.ring less c.requires.fits
    (popped-is c.args.key c.loop.counter (c.in-Some.of, c.in-Some.entry) c.args.ring.now c.loop.ring c.pop.new.ring c.loop.invariant.ring next.0 c.in-Some.ensures.leaves)

pub loop-preserved : goal.loop-preserved
loop-preserved g c =
    let less : c.loop.counter < length (waits c.args.ring.now) = omega (arith, c.loop-test.true, c.waiting-end.ensures) in
    let had : Turned c.args.key c.loop.counter c.args.ring.now c.loop.ring c.args.lasts.now c.loop.lasts c.loop.puts =
    record { in_ring = c.loop.invariant.ring; keys = c.loop.invariant.keys; room = c.loop.invariant.room; noted = c.loop.invariant.noted; goes = c.loop.invariant.goes } in
    elim c.if-not-is_same.branch [
      | then-not-is_same w ↦
          let found = subst (λ (ls : List Last × Bool). Turned c.args.key c.loop.counter c.args.ring.now c.loop.ring c.args.lasts.now ls c.loop.puts) (sym w.find-number.ensures.same) had in
          let turned = turn-stays c.args.key c.loop.counter w.find-number.result c.loop.puts c.if-not-is_same.puts (c.in-Some.of, c.in-Some.entry) c.args.ring.now c.loop.ring c.pop.new.ring c.if-not-is_same.ring c.args.lasts.now w.find-number.new.self c.if-not-is_same.lasts found less c.requires.fits c.requires.apart c.in-Some.ensures.gives c.in-Some.ensures.leaves (sym w.if-not-is_same.ensures) w.find-number.ensures.at (w.puts-is ∙ w.append.ensures.puts) (w.lasts-is ∙ w.append.ensures.lasts) (w.ring-is ∙ w.append.ensures.ring) in
          record { ring = turned.in_ring; keys = turned.keys; room = turned.room; noted = turned.noted; goes = turned.goes }
      | else-not-is_same w ↦
          let turned = turn-goes c.args.key c.loop.counter c.loop.puts (c.in-Some.of, c.in-Some.entry) c.args.ring.now c.loop.ring c.pop.new.ring c.args.lasts.now c.loop.lasts had less c.in-Some.ensures.gives c.in-Some.ensures.leaves (sym w.if-not-is_same.ensures) in
          rw (w.ring-is, w.lasts-is, w.puts-is) record { ring = turned.in_ring; keys = turned.keys; room = turned.room; noted = turned.noted; goes = turned.goes }
    ]

pub returns-clause-ring : goal.returns-clause-ring
returns-clause-ring g c =
    let all : c.loop.counter ≡ length (waits c.args.ring.now) = omega (arith, c.loop-test.false, c.waiting-end.ensures, c.loop.auto.counter-end) in
    c.loop.invariant.ring ∙ ap (λ es. option_map (with_items es) c.args.ring.now) ((turn-ends c.args.key c.loop.counter (waits c.args.ring.now) all).0)

pub returns-clause-noted : goal.returns-clause-noted
returns-clause-noted g c =
    let all : c.loop.counter ≡ length (waits c.args.ring.now) = omega (arith, c.loop-test.false, c.waiting-end.ensures, c.loop.auto.counter-end) in
    subst (λ es. AreNoted c.loop.puts es c.loop.lasts.0) ((turn-ends c.args.key c.loop.counter (waits c.args.ring.now) all).1) c.loop.invariant.noted
