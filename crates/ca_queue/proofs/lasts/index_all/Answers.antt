use Rattle.std.proofs.Common.{arith}
use Rattle.ca_queue.proofs.Rounds.{fresh-key, grown, indexed-more}
use Rattle.ca_queue.specs.Ring.{unplaced}
use Rattle.ca_queue.proofs.lasts.index_all.Goals as goal

pub loop-l-preserved : goal.loop-l-preserved
loop-l-preserved c =
    let d = unplaced (record { sid = 0; sub = 0 }) in
    let fresh = fresh-key c.args.lasts.now c.loop-l.l-index d c.requires.apart c.loop-l-test.true in
    let more = grown _ c.loop-l.index.keys _ _ _ _ c.loop-l.invariant.keys fresh c.in-Ok.ensures.added c.in-Ok.ensures.len in
    record {
      keys = indexed-more c.args.lasts.now c.loop-l.l-index d c.loop-l.index.keys c.insert_full.new.self.keys c.requires.apart c.loop-l-test.true c.loop-l.invariant.keys c.in-Ok.ensures.keys;
      len = omega (arith, more, c.loop-l.invariant.len);
      room = omega (arith, c.loop-l.invariant.room, c.in-Ok.ensures.spare);
    }
