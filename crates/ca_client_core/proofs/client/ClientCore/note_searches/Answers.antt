use Rattle.std.proofs.Common.{◌≡◌, ◌∙◌, List, Some, ap, arith, length, rules, sym, take, take_all}
use Rattle.std.specs.Prelude.{slice_get}
use Rattle.ca_arena.specs.declared.handle.Handle.{Handle}
use Rattle.ca_client_core.specs.Moments.{all_searched, search_step}
use Rattle.ca_client_core.proofs.Rounds.{nil-is}
use Rattle.ca_client_core.proofs.Tried.{none-noted, noted-order, notes-next, notes-same}
use Rattle.ca_client_core.proofs.client.ClientCore.note_searches.Goals as goal

pub listed_at-circuit-requires : goal.listed_at-circuit-requires
listed_at-circuit-requires c =
    let x = c.args.self.now in
    let same = noted-order c.args.searches.now (take c.loop-index.index x.order) x c.loop-index.self c.args.sent.now.items c.loop-index.sent.items c.loop-index.invariant.noted in
    omega (arith, c.loop-index-test.true, c.circuits_listed-index-end.ensures, ap length same)

pub loop-index-preserved : goal.loop-index-preserved
loop-index-preserved c =
    let x = c.args.self.now in
    let order : List Handle = x.order in
    let at : slice_get order c.loop-index.index ≡ Some c.listed_at-circuit.result =
    ap (λ (cs : List Handle). slice_get cs c.loop-index.index) (sym (noted-order c.args.searches.now (take c.loop-index.index order) x c.loop-index.self c.args.sent.now.items c.loop-index.sent.items c.loop-index.invariant.noted)) ∙ c.listed_at-circuit.ensures in
    record {
      kept = c.in_ok-note_searched.ensures.kept ∙ c.loop-index.invariant.kept;
      noted = notes-next (search_step c.args.searches.now) order c.loop-index.index c.listed_at-circuit.result x c.loop-index.self c.note_searched.new.self c.args.sent.now.items c.loop-index.sent.items c.note_searched.new.sent.items at c.loop-index.invariant.noted c.in_ok-note_searched.ensures.ok;
    }

pub returns-clause-ok : goal.returns-clause-ok
returns-clause-ok c =
    let order : List Handle = c.args.self.now.order in
    notes-same (all_searched c.args.searches.now (take c.loop-index.index order)) (all_searched c.args.searches.now order) c.args.self.now c.loop-index.self c.args.sent.now.items c.loop-index.sent.items
    (λ t. ap (λ (cs : List Handle). all_searched c.args.searches.now cs t) (take_all c.loop-index.index order (omega (arith, c.loop-index-test.false, c.circuits_listed-index-end.ensures))))
    c.loop-index.invariant.noted

pub returns-then-is_empty-clause-ok : goal.returns-then-is_empty-clause-ok
returns-then-is_empty-clause-ok c =
    let empty : length c.args.searches.now ≡ 0 = search rules in
    none-noted c.args.searches.now c.args.self.now.order c.args.self.now c.args.sent.now.items (nil-is c.args.searches.now empty)
