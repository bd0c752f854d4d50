use Rattle.std.proofs.Common.{◌≡◌, ◌∙◌, List, Some, ap, arith, length, sym, take, take_all}
use Rattle.std.specs.Prelude.{slice_get}
use Rattle.ca_arena.specs.declared.handle.Handle.{Handle}
use Rattle.ca_search.proofs.Entries.{on_err}
use Rattle.ca_client_core.specs.Moments.{all_echoed, echo_step}
use Rattle.ca_client_core.proofs.Rounds.{echo-lacks, echoed-next, echoed-order}
use Rattle.ca_client_core.proofs.Tried.{notes-next, notes-same}
use Rattle.ca_client_core.proofs.client.ClientCore.note_echoes.Goals as goal

pub listed_at-circuit-requires : goal.listed_at-circuit-requires
listed_at-circuit-requires c =
    let x = c.args.self.now in
    let same = echoed-order (take c.loop-index.index x.order) x c.loop-index.self c.loop-index.invariant.first in
    omega (arith, c.loop-index-test.true, c.circuits_listed-index-end.ensures, ap length same)

pub returns-in_err-note_echo-clause-some : goal.returns-in_err-note_echo-clause-some
returns-in_err-note_echo-clause-some c =
    on_err c.from_residual.result
    (echo-lacks c.loop-index.index c.listed_at-circuit.result c.args.self.now c.loop-index.self c.loop-index.invariant.first c.listed_at-circuit.ensures c.in_err-note_echo.ensures.some)

pub loop-index-preserved : goal.loop-index-preserved
loop-index-preserved c =
    let x = c.args.self.now in
    let order : List Handle = x.order in
    let at : slice_get order c.loop-index.index ≡ Some c.listed_at-circuit.result =
    ap (λ (cs : List Handle). slice_get cs c.loop-index.index) (sym (echoed-order (take c.loop-index.index order) x c.loop-index.self c.loop-index.invariant.first)) ∙ c.listed_at-circuit.ensures in
    record {
      kept = c.in_ok-note_echo.ensures.kept ∙ c.loop-index.invariant.kept;
      noted = notes-next echo_step order c.loop-index.index c.listed_at-circuit.result x c.loop-index.self c.note_echo.new.self c.args.sent.now.items c.loop-index.sent.items c.note_echo.new.sent.items at c.loop-index.invariant.noted c.in_ok-note_echo.ensures.ok;
      first = echoed-next c.loop-index.index c.listed_at-circuit.result x c.loop-index.self c.note_echo.new.self c.loop-index.invariant.first c.listed_at-circuit.ensures c.in_ok-note_echo.ensures.echoes;
    }

pub returns-clause-ok : goal.returns-clause-ok
returns-clause-ok c =
    let order : List Handle = c.args.self.now.order in
    notes-same (all_echoed (take c.loop-index.index order)) (all_echoed order) c.args.self.now c.loop-index.self c.args.sent.now.items c.loop-index.sent.items
    (λ t. ap (λ (cs : List Handle). all_echoed cs t) (take_all c.loop-index.index order (omega (arith, c.loop-index-test.false, c.circuits_listed-index-end.ensures))))
    c.loop-index.invariant.noted

pub returns-clause-echoes : goal.returns-clause-echoes
returns-clause-echoes c t is =
    c.loop-index.invariant.first t is
    ∙ ap (λ (cs : List Handle). (all_echoed cs t).core)
    (take_all c.loop-index.index c.args.self.now.order (omega (arith, c.loop-index-test.false, c.circuits_listed-index-end.ensures)))
