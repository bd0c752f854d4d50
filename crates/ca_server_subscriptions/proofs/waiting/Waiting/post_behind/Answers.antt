use Rattle.ca_model.specs.Speech.{Stored}
use Rattle.ca_server_subscriptions.proofs.Receivers.{has-in, index-at, placed-posted, posts-next}
use Rattle.ca_server_subscriptions.specs.ByRecord.{is_masked}
use Rattle.ca_server_subscriptions.proofs.waiting.Waiting.post_behind.Goals as goal

pub put_behind-requires : goal.put_behind-requires
put_behind-requires c =
    has-in c.args.receivers.now c.args.self.now c.posting.self c.posting.i c.index-receivers-i.result c.requires c.posting.invariant.1
    (index-at c.args.receivers.now c.posting.i c.index-receivers-i.result c.posting-test.true c.index-receivers-i.is)

pub posting-preserved : goal.posting-preserved
posting-preserved c =
    let v : Stored = c.args.posted.now in
    let r = c.index-receivers-i.result in (
      posts-next c.args.receivers.now c.posting.i r c.args.mask v c.posting.self c.put_behind.new.self _
          (index-at c.args.receivers.now c.posting.i r c.posting-test.true c.index-receivers-i.is) c.posting.invariant.0 c.in_ok-put_behind.ensures.ok,
      λ es p. placed-posted es c.posting.self c.put_behind.new.self r.key v (is_masked c.args.mask r) c.in_ok-put_behind.ensures.ok (c.posting.invariant.1 es p),
    )
