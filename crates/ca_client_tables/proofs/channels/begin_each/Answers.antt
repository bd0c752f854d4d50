use Rattle.std.proofs.Common.{◌∙◌, ◌+◌, ap, arith, drop, option_map, refl, subst}
use Rattle.std.proofs.lemmas.List.{drop_all, drop_more}
use Rattle.ca_lists.specs.Walks.{IsLeft}
use Rattle.ca_lists.proofs.Walked.{left-done, left-more}
use Rattle.ca_model.specs.ClientEnds.{creating}
use Rattle.ca_ids.specs.Walks.{with_place}
use Rattle.ca_client_tables.specs.Connecting.{creating_at}
use Rattle.ca_client_tables.specs.OnCircuits.{indices_of}
use Rattle.ca_client_tables.proofs.OnLists.{creating-twice}
use Rattle.ca_client_tables.proofs.channels.begin_each.Goals as goal

pub loop-place-preserved : goal.loop-place-preserved
loop-place-preserved c =
    let g = option_map (creating c.args.circuit) in
    let xs = indices_of c.args.on in
    left-more g c.args.table.now c.loop-place.table c.begin_at.new.table _ (drop (c.loop-place.place + 1) xs) (creating-twice c.args.circuit) refl
    (c.begin_at.ensures ∙ ap (λ n. with_place n (creating_at c.args.circuit) c.loop-place.table) c.at.ensures)
    (subst (IsLeft g c.args.table.now c.loop-place.table) (drop_more xs c.loop-place.place 0 (omega arith)) c.loop-place.invariant)

pub returns : goal.returns
returns c =
    let g = option_map (creating c.args.circuit) in
    let xs = indices_of c.args.on in
    left-done g c.args.table.now c.loop-place.table
    (subst (IsLeft g c.args.table.now c.loop-place.table) (drop_all c.loop-place.place xs (omega arith)) c.loop-place.invariant)
