use Rattle.std.proofs.Common.{ℕ, arith, map, subst}
use Rattle.ca_world_data.specs.Seen.{joined_of}
use Rattle.ca_world_data.proofs.Reported.{Reporting, reporting-all, reporting-long, reporting-next, reporting-none, reporting-served, suc-is}
use Rattle.ca_world_data.proofs.reporting.close_gone.Goals as goal

pub loop-index-init : goal.loop-index-init
loop-index-init c = reporting-none c.args.server c.args.core.now (map joined_of c.args.circuits.now.items)

pub close_at-requires-clause-within : goal.close_at-requires-clause-within
close_at-requires-clause-within c =
    let same = reporting-long c.loop-index.index c.args.server c.args.core.now (map joined_of c.args.circuits.now.items) c.loop-index.core (map joined_of c.loop-index.circuits.items) c.loop-index.invariant in
    let lt = c.loop-index-test.true in
    omega (arith, same, c.places-index-end.ensures, lt)

pub close_at-requires-clause-served : goal.close_at-requires-clause-served
close_at-requires-clause-served c =
    reporting-served c.args.numbers.now c.loop-index.index c.args.server c.args.core.now (map joined_of c.args.circuits.now.items) c.loop-index.core (map joined_of c.loop-index.circuits.items) c.loop-index.invariant c.requires

pub loop-index-preserved : goal.loop-index-preserved
loop-index-preserved c =
    subst (λ (n : ℕ). Reporting n c.args.server c.args.core.now (map joined_of c.args.circuits.now.items) c.close_at.new.core (map joined_of c.close_at.new.circuits.items)) (suc-is c.loop-index.index)
    (reporting-next c.args.numbers.now c.loop-index.index c.args.server c.args.core.now (map joined_of c.args.circuits.now.items) c.requires c.loop-index.core (map joined_of c.loop-index.circuits.items) c.close_at.new.core (map joined_of c.close_at.new.circuits.items) c.loop-index.invariant c.close_at.ensures)

pub returns-clause-core : goal.returns-clause-core
returns-clause-core c =
    (reporting-all c.loop-index.index c.args.server c.args.core.now (map joined_of c.args.circuits.now.items) c.loop-index.core (map joined_of c.loop-index.circuits.items) (omega (arith, c.places-index-end.ensures, c.loop-index-test.false)) c.loop-index.invariant).0

pub returns-clause-circuits : goal.returns-clause-circuits
returns-clause-circuits c =
    (reporting-all c.loop-index.index c.args.server c.args.core.now (map joined_of c.args.circuits.now.items) c.loop-index.core (map joined_of c.loop-index.circuits.items) (omega (arith, c.places-index-end.ensures, c.loop-index-test.false)) c.loop-index.invariant).1
