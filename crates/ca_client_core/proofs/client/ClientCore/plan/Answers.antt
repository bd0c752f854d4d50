use Rattle.std.proofs.Common.{◌≡◌, ◌∙◌, List, [], ap, arith, false, length, map, refl, subst}
use Rattle.std.specs.Prelude.{flat_map}
use Rattle.std.proofs.lemmas.Bool.{both_ways}
use Rattle.ca_arena.specs.declared.handle.Handle.{Handle}
use Rattle.ca_search.specs.Searches.{Wanted}
use Rattle.ca_search.proofs.Entries.{on_err}
use Rattle.ca_model.specs.ClientEnds.{packed, to_server}
use Rattle.ca_client_tables.specs.Ahead.{due_after, is_in}
use Rattle.ca_client_core.specs.declared.for_histories.Sending.{Sending}
use Rattle.ca_client_core.specs.Foretold.{Notes}
use Rattle.ca_client_core.specs.Moments.{all_echoed, all_searched}
use Rattle.ca_client_core.proofs.Prepared.{lacks-due, lacks-echo, lacks-end, packs-some, plans-so}
use Rattle.ca_client_core.proofs.client.ClientCore.plan.Goals as goal

pub returns-in_err-note_echoes-clause-some : goal.returns-in_err-note_echoes-clause-some
returns-in_err-note_echoes-clause-some c = on_err c.from_residual.result (lacks-echo c.args.self.now c.in_err-note_echoes.ensures.some)

pub returns-in_err-ends-clause-some : goal.returns-in_err-ends-clause-some
returns-in_err-ends-clause-some c =
    on_err c.from_residual-in_err-ends.result
    (lacks-end c.args.self.now c.note_echoes.new.self c.in_ok-note_echoes.ensures.echoes c.in_err-ends.ensures.some)

pub returns-in_err-closings-clause-some : goal.returns-in_err-closings-clause-some
returns-in_err-closings-clause-some c =
    on_err c.from_residual-in_err-closings.result
    (lacks-end c.args.self.now c.note_echoes.new.self c.in_ok-note_echoes.ensures.echoes
    (λ none.
    let empty : length c.in_ok-ends.ends.items ≡ 0 = ap (λ (hs : List Handle). length hs) (c.in_ok-ends.ensures.found ∙ none) in
    let zero : c.len.result ≡ 0 = omega (arith, c.len.ensures, empty) in
    both_ways false refl (c.in_err-closings.ensures.succeeds zero)))

pub returns-in_err-searches-clause-some : goal.returns-in_err-searches-clause-some
returns-in_err-searches-clause-some c =
    on_err c.from_residual-in_err-searches.result
    (lacks-due c.args.self.now c.note_echoes.new.self c.deref.result.now c.know_searches.ensures.few c.know_searches.ensures.once c.in_ok-note_echoes.ensures.echoes
    (c.deref.ensures.value ∙ c.in_ok-ends.ensures.found) c.in_err-searches.ensures.some)

pub returns-in_err-packed-clause-some : goal.returns-in_err-packed-clause-some
returns-in_err-packed-clause-some c =
    on_err c.from_residual-in_err-packed.result
    (lacks-due c.args.self.now c.note_echoes.new.self c.deref.result.now c.know_searches.ensures.few c.know_searches.ensures.once c.in_ok-note_echoes.ensures.echoes
    (c.deref.ensures.value ∙ c.in_ok-ends.ensures.found)
    (λ none. c.in_err-packed.ensures.some (c.deref-2.ensures.value ∙ c.in_ok-searches.ensures.found ∙ none)))

pub returns-in_err-datagrams-clause-some : goal.returns-in_err-datagrams-clause-some
returns-in_err-datagrams-clause-some c =
    on_err c.from_residual-in_err-datagrams.result
    (lacks-due c.args.self.now c.note_echoes.new.self c.deref.result.now c.know_searches.ensures.few c.know_searches.ensures.once c.in_ok-note_echoes.ensures.echoes
    (c.deref.ensures.value ∙ c.in_ok-ends.ensures.found)
    (λ none.
    packs-some (λ d. d.items) c.in_ok-packed.packed.items c.deref-2.result.now c.in_ok-packed.ensures.ok
    (λ nothing. c.in_err-datagrams.ensures.some (c.deref-3.ensures.value ∙ nothing))
    (c.deref-2.ensures.value ∙ c.in_ok-searches.ensures.found ∙ none)))

pub returns-in_err-note_searches-clause-some : goal.returns-in_err-note_searches-clause-some
returns-in_err-note_searches-clause-some c =
    on_err c.from_residual-in_err-note_searches.result
    (lacks-due c.args.self.now c.note_echoes.new.self c.deref.result.now c.know_searches.ensures.few c.know_searches.ensures.once c.in_ok-note_echoes.ensures.echoes
    (c.deref.ensures.value ∙ c.in_ok-ends.ensures.found)
    (λ none. c.in_err-note_searches.ensures.some (c.deref-4.ensures.value ∙ c.in_ok-searches.ensures.found ∙ none)))

pub returns-clause-ok : goal.returns-clause-ok
returns-clause-ok c =
    let y = c.note_echoes.new.self in
    let ws = c.in_ok-searches.searches.items in
    plans-so c.args.self.now y c.note_searches.new.self
    (record { sent = c.note_searches.new.sent; ends = c.in_ok-ends.ends; closings = c.in_ok-closings.closings; datagrams = c.in_ok-datagrams.datagrams })
    c.note_echoes.new.sent.items ws (map (λ d. d.items) c.in_ok-packed.packed.items) c.know_searches.ensures.few c.know_searches.ensures.once c.in_ok-note_echoes.ensures.echoes
    (subst (λ (ss : List Sending). Notes (all_echoed c.args.self.now.order) c.args.self.now ss y c.note_echoes.new.sent.items) c.new-sent.ensures.items c.in_ok-note_echoes.ensures.ok)
    c.in_ok-ends.ensures.found c.in_ok-closings.ensures.items
    (c.in_ok-searches.ensures.found ∙ ap (λ (cs : List Handle). due_after (is_in cs) y.moment y.channels y.searches) c.deref.ensures.value)
    (c.in_ok-packed.ensures.ok ∙ ap (packed []) c.deref-2.ensures.value)
    (c.in_ok-datagrams.ensures.ok ∙ ap (λ ds. flat_map (to_server (map (λ d. d.items) ds)) y.servers) c.deref-3.ensures.value)
    (subst (λ (vs : List Wanted). Notes (all_searched vs y.order) y c.note_echoes.new.sent.items c.note_searches.new.self c.note_searches.new.sent.items) c.deref-4.ensures.value c.in_ok-note_searches.ensures.ok)
    (omega (arith, c.in_ok-closings.ensures.capacity, c.in_ok-closings.ensures.len, c.len.ensures))
