use Rattle.std.proofs.Common.{◌≡◌, ◌<◌, ◌≤◌, length, arith}
use Rattle.ca_client.proofs.Drained.{draining-due, draining-end, draining-length, draining-next, draining-start}
use Rattle.ca_client.proofs.filling.fill_each.Goals as goal

pub loop-index-init : goal.loop-index-init
loop-index-init c = record { draining = draining-start c.args.tickets.now.items c.args.seat.now c.args.closings.now.items c.requires.due; same = c.requires.board }

pub fill_all-requires-clause-due : goal.fill_all-requires-clause-due
fill_all-requires-clause-due c =
    let r = c.loop-index.invariant.draining in
    let n = draining-length c.args.tickets.now.items c.args.seat.now c.loop-index.seat c.args.closings.now.items c.loop-index.closings.items c.loop-index.index r in
    let l : length c.args.closings.now.items ≡ c.len-index-end.result = omega arith in
    let lt : c.loop-index.index < length c.loop-index.closings.items = omega (arith, n, l, c.loop-index-test.true) in
    draining-due c.args.tickets.now.items c.args.seat.now c.loop-index.seat c.args.closings.now.items c.loop-index.closings.items c.loop-index.index c.index_mut.result.now r lt c.index_mut.ensures.value

pub loop-index-preserved : goal.loop-index-preserved
loop-index-preserved c =
    let r = c.loop-index.invariant.draining in
    let n = draining-length c.args.tickets.now.items c.args.seat.now c.loop-index.seat c.args.closings.now.items c.loop-index.closings.items c.loop-index.index r in
    let l : length c.args.closings.now.items ≡ c.len-index-end.result = omega arith in
    let lt : c.loop-index.index < length c.loop-index.closings.items = omega (arith, n, l, c.loop-index-test.true) in
    record {
      draining = draining-next c.args.tickets.now.items c.args.seat.now c.loop-index.seat c.fill_all.new.seat c.args.closings.now.items c.loop-index.closings.items c.loop-index.index c.index_mut.result.now c.fill_all.new.notices r lt c.index_mut.ensures.value c.fill_all.ensures.fills c.fill_all.ensures.others;
      same = c.fill_all.ensures.board;
    }

pub returns : goal.returns
returns c =
    let r = c.loop-index.invariant.draining in
    let n = draining-length c.args.tickets.now.items c.args.seat.now c.loop-index.seat c.args.closings.now.items c.loop-index.closings.items c.loop-index.index r in
    let l : length c.args.closings.now.items ≡ c.len-index-end.result = omega arith in
    let le : length c.loop-index.closings.items ≤ c.loop-index.index = omega (arith, n, l) in
    let e = draining-end c.args.tickets.now.items c.args.seat.now c.loop-index.seat c.args.closings.now.items c.loop-index.closings.items c.loop-index.index r le in
    record { fills = e.fills; others = e.others_are; lefts = e.lefts; board = c.loop-index.invariant.same }
