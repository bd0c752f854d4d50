use Rattle.std.proofs.Common.{sym, arith, refl}
use Rattle.ca_search.proofs.Entries.{on_err, wanted-due, wanted-some, wanted-end, wanted-later}
use Rattle.ca_search.proofs.searcher.due_in.Goals as goal
use Rattle.ca_search.proofs.searcher.due_in.Goals.{then-is_due+in_ok-search+in_ok-push, else-is_due}

pub loop-index-init : goal.loop-index-init
loop-index-init c = rw (c.new-found.ensures.items) refl

pub loop-index-preserved : goal.loop-index-preserved
loop-index-preserved c =
    elim c.if-is_due.branch [
      | then-is_due+in_ok-search+in_ok-push w ↦
          rw (w.found-is, w.in_ok-push.ensures.items, w.in_ok-search.ensures)
          (wanted-due c.args.now c.args.places.now.entries c.loop-index.index (c.in-Some.cid.now, c.in-Some.place.now) c.loop-index.found.items (sym c.in-Some.ensures.entry) (sym w.if-is_due.ensures) c.loop-index.invariant)
      | else-is_due w ↦
          rw (w.found-is)
          (wanted-later c.args.now c.args.places.now.entries c.loop-index.index (c.in-Some.cid.now, c.in-Some.place.now) c.loop-index.found.items (sym c.in-Some.ensures.entry) (sym w.if-is_due.ensures) c.loop-index.invariant)
    ]

pub returns-clause-found : goal.returns-clause-found
returns-clause-found c = wanted-end c.args.now c.args.places.now.entries c.loop-index.index c.loop-index.found.items (omega (arith, c.len-index-end.ensures.len, c.loop-index-test.false)) c.loop-index.invariant

pub returns-in_err-search-clause-some : goal.returns-in_err-search-clause-some
returns-in_err-search-clause-some c =
    on_err c.from_residual.result (wanted-some c.args.now c.args.places.now.entries c.loop-index.index (c.in-Some.cid.now, c.in-Some.place.now) c.loop-index.found.items (sym c.in-Some.ensures.entry) (sym c.if-is_due.ensures) c.loop-index.invariant)

pub returns-in_err-push-clause-some : goal.returns-in_err-push-clause-some
returns-in_err-push-clause-some c =
    on_err c.from_residual-in_err-push.result (wanted-some c.args.now c.args.places.now.entries c.loop-index.index (c.in-Some.cid.now, c.in-Some.place.now) c.loop-index.found.items (sym c.in-Some.ensures.entry) (sym c.if-is_due.ensures) c.loop-index.invariant)
