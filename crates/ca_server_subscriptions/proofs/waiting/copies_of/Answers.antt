use Rattle.std.proofs.Common.{◌≡◌, ◌+◌, length, ap, ◌∙◌, arith}
use Rattle.ca_server_subscriptions.proofs.Posts.{copies-more, copies-none, length-snoc}
use Rattle.ca_server_subscriptions.proofs.waiting.copies_of.Goals as goal

pub copying-init : goal.copying-init
copying-init c = copies-none c.args.update.now c.new-copies.result.items c.args.n c.new-copies.ensures.items

pub copying-preserved : goal.copying-preserved
copying-preserved c =
    let items = c.in_ok-push.ensures.items in
    let lt = c.copying-test.true in
    let len = c.len.ensures in
    let all = c.copying.copies.ok in
    let more : length c.push.new.self.items ≡ length c.copying.copies.items + 1 = ap length items ∙ length-snoc c.copying.copies.items c.in_ok-copy.field-0 in (
      copies-more c.args.update.now c.in_ok-copy.field-0 c.copying.copies.items c.push.new.self.items items c.in_ok-copy.ensures c.copying.invariant.0,
      omega (arith, lt, len, all, more),
    )

pub returns : goal.returns
returns c =
    let le = c.copying-test.false in
    let len = c.len.ensures in
    let all = c.copying.copies.ok in
    let most = c.copying.invariant.1 in
    (omega (arith, le, len, all, most), c.copying.invariant.0.1)
