use Rattle.std.proofs.Common.{◌∙◌}
use Rattle.ca_server_circuit.proofs.Lost.{last-less, last-none, last-same, retired-all}
use Rattle.ca_server_circuit.proofs.end.End.retire_all.Goals as goal

pub retiring-smaller : goal.retiring-smaller
retiring-smaller c = last-less c.args.name.now c.retiring.self c.retire_last-more.new.self c.retiring.more c.retire_last-more.result c.retiring-test.true c.retire_last-more.ensures

pub retiring-preserved : goal.retiring-preserved
retiring-preserved c = record {
  same = last-same c.args.name.now c.args.self.now c.retiring.self c.retire_last-more.new.self c.retire_last-more.result c.retiring.invariant.same c.retire_last-more.ensures;
  none = last-none c.args.name.now c.retiring.self c.retire_last-more.new.self c.retire_last-more.result c.retire_last-more.ensures;
}

pub returns : goal.returns
returns c = retired-all c.args.name.now c.retiring.self (c.retiring.invariant.none c.retiring-test.false) ∙ c.retiring.invariant.same
