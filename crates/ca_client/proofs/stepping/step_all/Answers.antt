use Rattle.std.proofs.Common.{ℕ, inr, subst, sym}
use Rattle.std.proofs.Math.Numerals.{add-one}
use Rattle.ca_client.specs.Awaited.{StateView}
use Rattle.ca_client.specs.Calls.{HasSteppedUnderLock}
use Rattle.ca_client.specs.declared.ask.CoreCall.TheVariants as ask
use Rattle.ca_client.specs.Replies.{Replies}
use Rattle.ca_client.proofs.stepping.step_all.Goals as goal

pub loop-replies-preserved : goal.loop-replies-preserved
loop-replies-preserved c =
    subst (λ (n : ℕ). Replies c.args.circuit n c.args.state.now c.step_reply.new.state) (sym (add-one c.loop-replies.replies))
    (c.loop-replies.state, c.loop-replies.invariant, c.in-Filled.ensures)

pub returns-in-NeedBytes : goal.returns-in-NeedBytes
returns-in-NeedBytes c =
    inr (c.loop-replies-test.true, tt, (c.loop-replies.state, c.loop-replies.invariant, c.in-NeedBytes.ensures))

pub returns-in-Other : goal.returns-in-Other
returns-in-Other c =
    inr (c.loop-replies-test.true, c.step_other.ensures.other, (c.loop-replies.state, c.loop-replies.invariant, subst (λ (v : StateView). HasSteppedUnderLock v (ask.Step c.args.circuit) c.step_other.result c.step_other.new.state) c.in-Other.ensures c.step_other.ensures.steps))
