use Rattle.std.proofs.Common.{refl, sym}
use Rattle.ca_search.specs.Searches.{wanted}
use Rattle.ca_search.proofs.Entries.{on_err}
use Rattle.ca_client_tables.specs.Ahead.{due_after, is_due_after, is_in}
use Rattle.ca_client_tables.proofs.Dues.{due-cons}
use Rattle.ca_client_tables.proofs.Sifting.{taken-not, taken-one, taken-some}
use Rattle.ca_client_tables.proofs.foreseeing.find_after.Goals.{then-is_due_after+in_ok-search+in_ok-push, else-is_due_after}
use Rattle.ca_client_tables.proofs.foreseeing.find_after.Goals as goal

pub returns-in_err-search-clause-some : goal.returns-in_err-search-clause-some
returns-in_err-search-clause-some c =
    let p = is_in c.args.ends.now in
    let m = c.args.moment in
    let t = c.args.channels.now in
    on_err c.from_residual.result
    (taken-some (due_after p m t) (is_due_after p m t) wanted (due-cons p m t) refl c.args.searches.now.entries c.loop-index.index (c.in-Some.cid.now, c.in-Some.place.now) c.loop-index.found.items (sym c.in-Some.ensures.entry) (sym c.if-is_due_after.ensures) c.loop-index.invariant)

pub returns-in_err-push-clause-some : goal.returns-in_err-push-clause-some
returns-in_err-push-clause-some c =
    let p = is_in c.args.ends.now in
    let m = c.args.moment in
    let t = c.args.channels.now in
    on_err c.from_residual-in_err-push.result
    (taken-some (due_after p m t) (is_due_after p m t) wanted (due-cons p m t) refl c.args.searches.now.entries c.loop-index.index (c.in-Some.cid.now, c.in-Some.place.now) c.loop-index.found.items (sym c.in-Some.ensures.entry) (sym c.if-is_due_after.ensures) c.loop-index.invariant)

pub loop-index-preserved : goal.loop-index-preserved
loop-index-preserved c =
    let p = is_in c.args.ends.now in
    let m = c.args.moment in
    let t = c.args.channels.now in
    elim c.if-is_due_after.branch [
      | then-is_due_after+in_ok-search+in_ok-push w ↦
          rw (w.found-is, w.in_ok-push.ensures.items, w.in_ok-search.ensures)
          (taken-one (due_after p m t) (is_due_after p m t) wanted (due-cons p m t) refl c.args.searches.now.entries c.loop-index.index (c.in-Some.cid.now, c.in-Some.place.now) c.loop-index.found.items (sym c.in-Some.ensures.entry) (sym w.if-is_due_after.ensures) c.loop-index.invariant)
      | else-is_due_after w ↦
          rw (w.found-is)
          (taken-not (due_after p m t) (is_due_after p m t) wanted (due-cons p m t) refl c.args.searches.now.entries c.loop-index.index (c.in-Some.cid.now, c.in-Some.place.now) c.loop-index.found.items (sym c.in-Some.ensures.entry) (sym w.if-is_due_after.ensures) c.loop-index.invariant)
    ]
