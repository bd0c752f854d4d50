use Rattle.std.proofs.Common.{arith}
use Rattle.ca_records.proofs.Openings.{opening-all, opening-fresh, opening-more}
use Rattle.ca_records.proofs.served_records.ServedRecords.of.Goals as goal

pub append_copy-requires : goal.append_copy-requires
append_copy-requires c =
    opening-fresh c.args.records.now c.loop-place.place c.at.result.now c.args.rules.items c.loop-place.served c.at.ensures.apart c.at.ensures.at c.loop-place.invariant

pub loop-place-preserved : goal.loop-place-preserved
loop-place-preserved c =
    opening-more c.args.records.now c.loop-place.place c.at.result.now c.args.rules.items c.loop-place.served c.append_copy.new.self c.at.ensures.at c.loop-place.invariant c.in_ok-append_copy.ensures

pub returns-clause-list : goal.returns-clause-list
returns-clause-list c =
    opening-all c.args.records.now c.loop-place.place c.args.rules.items c.loop-place.served (omega (arith, c.loop-place-test.false, c.len-place-end.ensures.len)) c.loop-place.invariant
