use Rattle.std.proofs.Common.{[], refl}
use Rattle.ca_server_circuit.specs.CircuitOutput.{end_behind}
use Rattle.ca_server_circuit.proofs.Leaving.{grows-same, grows-then}
use Rattle.ca_server_circuit.proofs.Pumps.{pumped-less, pumped-more, pumped-none}
use Rattle.ca_server_circuit.proofs.end.End.pump_all.Goals as goal

pub pumping-init : goal.pumping-init
pumping-init c = record {
  sent = ([], refl);
  rests = λ e. absurd cc;
  live = c.requires;
  grows = grows-same c.args.to.now;
}

pub returns-in_err-more-clause-pumps : goal.returns-in_err-more-clause-pumps
returns-in_err-more-clause-pumps c =
    pumped-none (end_behind c.args.to.now.before c.args.self.now) (end_behind c.pumping.to.before c.pumping.self) (end_behind c.pump_one.new.to.before c.pump_one.new.self) _ c.from_residual.result c.from_residual.ensures.0 c.pumping.invariant.sent
    c.in_err-more.ensures.pumps

pub returns-in_err-more-clause-grows : goal.returns-in_err-more-clause-grows
returns-in_err-more-clause-grows c = grows-then c.args.to.now c.pumping.to c.pump_one.new.to c.pumping.invariant.grows c.in_err-more.ensures.grows

pub pumping-smaller : goal.pumping-smaller
pumping-smaller c =
    pumped-less (end_behind c.pumping.to.before c.pumping.self) (end_behind c.pump_one.new.to.before c.pump_one.new.self) c.pumping.more c.in_ok-more.more c.pumping-test.true c.in_ok-more.ensures.pumps

pub pumping-preserved : goal.pumping-preserved
pumping-preserved c =
    let more =
    pumped-more (end_behind c.args.to.now.before c.args.self.now) (end_behind c.pumping.to.before c.pumping.self) (end_behind c.pump_one.new.to.before c.pump_one.new.self) c.in_ok-more.more c.pumping.invariant.sent c.pumping.invariant.live
    c.in_ok-more.ensures.pumps in
    record {
      sent = more.sent;
      rests = more.rests;
      live = more.live;
      grows = grows-then c.args.to.now c.pumping.to c.pump_one.new.to c.pumping.invariant.grows c.in_ok-more.ensures.grows;
    }

pub returns-clause-pumps : goal.returns-clause-pumps
returns-clause-pumps c = (c.pumping.invariant.sent.0, c.pumping.invariant.sent.1, c.pumping.invariant.rests c.pumping-test.false)

pub returns-clause-grows : goal.returns-clause-grows
returns-clause-grows c = c.pumping.invariant.grows
