use Rattle.std.proofs.Common.{sym, ◌∙◌, subst, ℕ, ◌+◌, ◌<◌, arith}
use Rattle.std.proofs.Math.Numerals.{add-one}
use Rattle.ca_client.specs.Turns.{Chain}
use Rattle.ca_client.proofs.turning.turn_over.Goals as goal

pub loop-call-preserved : goal.loop-call-preserved
loop-call-preserved g c = record {
  chain = subst (λ (n : ℕ). Chain g.S.Socket.fault_count g.S.Socket.gives g.S.Socket.takes c.args.circuit n c.args.socket.now c.args.state.now c.once.new.socket c.once.new.state) (sym (add-one c.loop-call.call))
      (c.loop-call.socket, c.loop-call.state, c.loop-call.invariant.chain, c.in-GoesOn.ensures);
  sound = c.in-GoesOn.ensures.0 ∙ c.loop-call.invariant.sound;
}

pub returns-in-Idle : goal.returns-in-Idle
returns-in-Idle g c =
    let l : c.loop-call.call < 16 = c.loop-call-test.true in (
      c.loop-call.call + 1,
      omega (arith, l),
      subst (λ (n : ℕ). Chain g.S.Socket.fault_count g.S.Socket.gives g.S.Socket.takes c.args.circuit n c.args.socket.now c.args.state.now c.once.new.socket c.once.new.state) (sym (add-one c.loop-call.call))
          (c.loop-call.socket, c.loop-call.state, c.loop-call.invariant.chain, c.in-Idle.ensures),
    )
