use Rattle.std.proofs.Common.{◌++◌, List, arith, map, subst}
use Rattle.ca_wire.specs.Fields.{Fields}
use Rattle.ca_dgram.specs.Packing.{ArePacked}
use Rattle.ca_dgram.proofs.Packings.{full-more, last-packed, not-empty, snoc-items, split-full, split-same}
use Rattle.ca_dgram.proofs.packing.pack_replies.Goals as goal

pub loop-rest-preserved : goal.loop-rest-preserved
loop-rest-preserved c =
    let done = c.loop-rest.invariant.0 in
    let rest = c.loop-rest.rest.now in
    let group = c.split_at.result.0.now in
    let behind = c.split_at.result.1.now in (
      done ++ group,
      split-same done rest group behind c.args.replies.now c.split_at.ensures.front c.split_at.ensures.back c.loop-rest.invariant.1,
      full-more done group _ _ _ c.loop-rest.invariant.2 (split-full rest group c.split_at.ensures.front c.loop-rest-test.true) c.in_ok-packed.ensures (snoc-items c.loop-rest.datagrams.items c.push.new.self.items c.in_ok-packed.field-0 c.in_ok-push.ensures.items),
    )

pub returns-clause-ok : goal.returns-clause-ok
returns-clause-ok c =
    let done = c.loop-rest.invariant.0 in
    let rest = c.loop-rest.rest.now in
    subst (λ (t : List Fields). ArePacked t (map (λ d. d.items) c.push-2.new.self.items)) c.loop-rest.invariant.1
    (last-packed done rest _ _ _ c.loop-rest.invariant.2 (not-empty rest c.if-is_empty.ensures) (omega (arith, c.loop-rest-test.false)) c.in_ok-packed-2.ensures (snoc-items c.loop-rest.datagrams.items c.push-2.new.self.items c.in_ok-packed-2.field-0 c.in_ok-push-2.ensures.items))
