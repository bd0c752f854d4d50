use Rattle.std.proofs.Common.{◌∙◌, List, Some, ap, arith, fold, refl, sym, take, take_all}
use Rattle.ca_search.specs.Searches.{Wanted}
use Rattle.ca_model.specs.ClientEnds.{Ticking, searches_on}
use Rattle.ca_client_core.proofs.Rounds.{there}
use Rattle.ca_client_core.proofs.Tried.{kept-none, noted-kept, notes-next, notes-same}
use Rattle.ca_client_core.proofs.client.ClientCore.note_all_on.Goals as goal

pub loop-index-init : goal.loop-index-init
loop-index-init c = record { noted = λ t far. far; kept = kept-none c.args.self.now c.args.self.now c.args.circuit refl }

pub loop-index-preserved : goal.loop-index-preserved
loop-index-preserved c =
    let ws : List Wanted = c.args.searches.now in
    let w : Wanted = c.index-searches-index.result in
    let at = there ws c.loop-index.index w c.loop-index-test.true ∙ ap Some (sym c.index-searches-index.is) in
    record {
      noted = notes-next (searches_on c.args.circuit) ws c.loop-index.index w c.args.self.now c.loop-index.self c.note_search.new.self c.args.sent.now.items c.loop-index.sent.items c.note_search.new.sent.items at c.loop-index.invariant.noted c.in_ok-note_search.ensures.ok;
      kept = noted-kept c.args.self.now c.loop-index.self c.note_search.new.self c.args.circuit c.loop-index.invariant.kept.0 c.in_ok-note_search.ensures.kept.0 c.loop-index.invariant.kept.1 c.in_ok-note_search.ensures.kept.1;
    }

pub returns-in_err-note_search-clause-kept : goal.returns-in_err-note_search-clause-kept
returns-in_err-note_search-clause-kept c =
    noted-kept c.args.self.now c.loop-index.self c.note_search.new.self c.args.circuit c.loop-index.invariant.kept.0 c.in_err-note_search.ensures.kept.0 c.loop-index.invariant.kept.1 c.in_err-note_search.ensures.kept.1

pub returns-clause-ok : goal.returns-clause-ok
returns-clause-ok c =
    notes-same (λ (t : Ticking). fold (searches_on c.args.circuit) t (take c.loop-index.index c.args.searches.now)) (λ (t : Ticking). fold (searches_on c.args.circuit) t c.args.searches.now)
    c.args.self.now c.loop-index.self c.args.sent.now.items c.loop-index.sent.items
    (λ t. ap (fold (searches_on c.args.circuit) t) (take_all c.loop-index.index c.args.searches.now (omega arith)))
    c.loop-index.invariant.noted
