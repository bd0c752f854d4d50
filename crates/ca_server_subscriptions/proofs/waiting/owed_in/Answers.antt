use Rattle.std.proofs.Common.{◌-◌, ◌<◌, length, arith}
use Rattle.ca_server_subscriptions.proofs.Waits.{all-passed, other-passed, own-found, own-passed}
use Rattle.ca_server_subscriptions.proofs.waiting.owed_in.Goals as goal
use Rattle.ca_server_subscriptions.proofs.waiting.owed_in.Goals.{After-index-addressee}

-- the place is one of the list
within : (c : After-index-addressee) → c.loop-i.i < length c.args.owed.now.items
within c = (let lt = c.loop-i-test.true in let len = c.len-i-end.ensures in let all = c.args.owed.now.ok.0 in omega (arith, lt, len, all))

pub loop-i-preserved-then-addressee-place : goal.loop-i-preserved-then-addressee-place
loop-i-preserved-then-addressee-place c =
    other-passed c.args.place c.args.index c.loop-i.before c.args.owed.now.items c.loop-i.i c.index-addressee.result.now (within (goal.at.loop-i-preserved-then-addressee-place c).After-index-addressee) c.index-addressee.ensures c.loop-i.invariant c.if-addressee-place.true

pub returns-then-before-eq0 : goal.returns-then-before-eq0
returns-then-before-eq0 c =
    own-found c.args.place c.args.index c.loop-i.before c.args.owed.now.items c.loop-i.i c.index-addressee.result.now (within (goal.at.returns-then-before-eq0 c).After-index-addressee) c.index-addressee.ensures c.loop-i.invariant c.if-addressee-place.false c.if-before-eq0.true

pub loop-i-preserved : goal.loop-i-preserved
loop-i-preserved c =
    let some = c.if-before-eq0.false in
    own-passed c.args.place c.args.index c.loop-i.before c.args.owed.now.items c.loop-i.i c.index-addressee.result.now (within (goal.at.loop-i-preserved c).After-index-addressee) c.index-addressee.ensures c.loop-i.invariant c.if-addressee-place.false (c.loop-i.before - 1) (omega (arith, some))

pub returns : goal.returns
returns c =
    let past = c.loop-i-test.false in
    let len = c.len-i-end.ensures in
    let all = c.args.owed.now.ok.0 in
    all-passed c.args.place c.args.index c.loop-i.before c.args.owed.now.items c.loop-i.i (omega (arith, past, len, all)) c.loop-i.invariant
