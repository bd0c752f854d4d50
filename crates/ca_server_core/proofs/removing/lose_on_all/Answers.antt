use Rattle.std.proofs.Common.{sym, subst, arith}
use Rattle.ca_arena.specs.declared.handle.Handle.{Handle}
use Rattle.ca_records.specs.Store.{records_of}
use Rattle.ca_server_core.specs.Removing.{LosesNext, MayLoseNext}
use Rattle.ca_server_watchers.specs.Watching.{Watched, watching}
use Rattle.ca_server_core.proofs.Removed.{losing-all, losing-may, losing-next, losing-none}
use Rattle.ca_server_core.proofs.removing.lose_on_all.Goals as goal

pub loop-place-init : goal.loop-place-init
loop-place-init c = losing-none c.args.name.now (watching c.args.leading.now c.args.name.now) c.args.circuits.now c.args.records.now c.requires.room

pub lose_on_next-requires : goal.lose_on_next-requires
lose_on_next-requires c =
    let l = c.args.leading.now in
    let name = c.args.name.now in
    subst (λ (w : Watched). MayLoseNext (records_of c.loop-place.records) name c.loop-place.place w c.loop-place.circuits) (sym c.count-place-end.ensures.stays)
    (λ (h : Handle) at.
    losing-may name (watching l name) c.loop-place.place c.args.circuits.now c.args.records.now c.loop-place.circuits c.loop-place.records c.loop-place.invariant
    c.count-place-end.ensures.apart h at c.requires.may)

pub loop-place-preserved : goal.loop-place-preserved
loop-place-preserved c =
    let l = c.args.leading.now in
    let name = c.args.name.now in
    let new = c.lose_on_next.new in
    losing-next name (watching l name) c.loop-place.place c.args.circuits.now c.args.records.now c.loop-place.circuits c.loop-place.records c.loop-place.invariant
    c.count-place-end.ensures.apart new.circuits new.records
    (subst (λ (w : Watched). LosesNext name c.loop-place.place w c.loop-place.circuits c.loop-place.records new.circuits new.records) c.count-place-end.ensures.stays c.lose_on_next.ensures)

pub returns-clause-loses : goal.returns-clause-loses
returns-clause-loses c =
    let l = c.args.leading.now in
    let name = c.args.name.now in
    losing-all name (watching l name) c.loop-place.place c.args.circuits.now c.args.records.now c.loop-place.circuits c.loop-place.records c.loop-place.invariant
    (omega (arith, c.count-place-end.ensures.count, c.loop-place-test.false))
    (λ h e at to. c.requires.leads h e name at to)
