use Rattle.std.proofs.Common.{◌∙◌, ◌++◌, ◌+◌, [], List, ap, arith, drop, length, nat_eq, sym}
use Rattle.ca_arena.specs.declared.handle.Handle.{Handle}
use Rattle.ca_lists.specs.Walks.{each_at}
use Rattle.ca_model.proofs.Letting.{listed-there}
use Rattle.ca_client_tables.specs.Ending.{is_any, named_in}
use Rattle.ca_client_tables.specs.OnCircuits.{indices_of}
use Rattle.ca_client_tables.proofs.ByCircuit.{named-left, named-listed, named-over, named_among}
use Rattle.ca_client_tables.proofs.Ended.{under-at}
use Rattle.ca_client_tables.proofs.Finds.{plain}
use Rattle.ca_client_tables.proofs.Listing.{some-length}
use Rattle.ca_client_tables.proofs.clearing.is_used.Goals as goal

pub loop-place-init : goal.loop-place-init
loop-place-init c = named-listed is_any c.args.circuit c.args.channels.now (indices_of c.on-on.result) c.on-on.ensures

pub returns-then-is_on_at : goal.returns-then-is_on_at
returns-then-is_on_at c =
    let t = c.args.channels.now in
    let some = c.is_on_at.ensures.some c.if-is_on_at.true in
    let listed = listed-there is_any c.args.circuit (plain t [] [] []) some.0 some.1 (under-at t c.at.result some.0 some.1 some.2) some.3 in
    some-length (named_in is_any c.args.circuit t) listed.0 some.0 listed.1

pub loop-place-preserved : goal.loop-place-preserved
loop-place-preserved c =
    let t = c.args.channels.now in
    let xs = indices_of c.on-on.result in
    ap (λ (hs : List Handle). hs ++ each_at (named_among is_any c.args.circuit) t (drop (c.loop-place.place + 1) xs)) (sym (c.is_on_at.ensures.none c.if-is_on_at.false))
    ∙ sym (named-left is_any c.args.circuit t xs c.loop-place.place c.at.result (omega arith) c.at.ensures)
    ∙ c.loop-place.invariant

pub returns : goal.returns
returns c =
    let t = c.args.channels.now in
    let xs = indices_of c.on-on.result in
    ap (λ (hs : List Handle). nat_eq (length hs) 0)
    (sym c.loop-place.invariant ∙ named-over is_any c.args.circuit t xs c.loop-place.place (omega arith))
