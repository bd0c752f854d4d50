use Rattle.std.proofs.Common.{sym}
use Rattle.ca_repeat.specs.First.{passed}
use Rattle.ca_repeat.proofs.Fans.{handed-all, on_err, one-handed, some-test}
use Rattle.ca_repeat.proofs.repeater.hand_on.Goals as goal

pub returns-clause-ok : goal.returns-clause-ok
returns-clause-ok c =
    handed-all (passed c.args.first c.args.from.ip c.args.bytes.now) c.args.from c.args.members.now c.loop-member.member-index c.args.sends.now.items c.loop-member.sends.items (some-test _ (c.if-is_used_up.ensures c.args.from.ip)) c.loop-member-test.false c.loop-member.invariant.0

pub returns-in_err-copy-clause-err : goal.returns-in_err-copy-clause-err
returns-in_err-copy-clause-err c = on_err c.from_residual.result (one-handed (passed c.args.first c.args.from.ip c.args.bytes.now) c.args.from c.args.members.now c.loop-member.member-index _ c.args.sends.now.items c.loop-member.sends.items (some-test _ (c.if-is_used_up.ensures c.args.from.ip)) c.loop-member-test.true (sym c.if-not-is_same.ensures) c.loop-member.invariant.0 c.loop-member.invariant.1)

pub returns-in_err-push-clause-err : goal.returns-in_err-push-clause-err
returns-in_err-push-clause-err c = on_err c.from_residual-in_err-push.result (one-handed (passed c.args.first c.args.from.ip c.args.bytes.now) c.args.from c.args.members.now c.loop-member.member-index _ c.args.sends.now.items c.loop-member.sends.items (some-test _ (c.if-is_used_up.ensures c.args.from.ip)) c.loop-member-test.true (sym c.if-not-is_same.ensures) c.loop-member.invariant.0 c.loop-member.invariant.1)
