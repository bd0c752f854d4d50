use Rattle.std.proofs.Common.{sym, ap, ◌∙◌, subst}
use Rattle.ca_server_watchers.specs.Watching.{Watched, Watches, lines_in, watching}
use Rattle.ca_server_watchers.proofs.Lines.{on-err, unwatched, unwritten, watches-too}
use Rattle.ca_server_watchers.proofs.watchers.Watchers.watch.Goals as goal

pub begin-requires : goal.begin-requires
begin-requires c =
    ap (λ m. watching (lines_in (λ k. k.items) m.entries) c.args.name.now) c.get_mut.follows.holds-at-none
    ∙ unwatched (λ k. k.items) c.args.name.now c.self.inside.lines.entries (sym c.in_default.ensures.value)

pub returns-in_err-add-clause-err : goal.returns-in_err-add-clause-err
returns-in_err-add-clause-err c =
    let new = c.get_mut.follows.lender c.add.new.self in
    on-err c.from_residual.result
    (unwritten (λ k. k.items) c.self.inside.lines new c.args.name.now c.in-Some.line.now c.add.new.self (sym c.in-Some.ensures.value) (c.get_mut.follows.holds c.add.new.self) c.in_err-add.ensures.err ∙ c.self.view_is)

pub returns-in-Some-clause-ok : goal.returns-in-Some-clause-ok
returns-in-Some-clause-ok c =
    let new = c.get_mut.follows.lender c.add.new.self in
    subst (λ (w : Watched). Watches c.args.name.now c.args.circuit w (lines_in (λ k. k.items) new.entries)) c.self.view_is
    (watches-too (λ k. k.items) c.self.inside.lines new c.args.name.now c.args.circuit c.in-Some.line.now c.add.new.self (sym c.in-Some.ensures.value) (c.get_mut.follows.holds c.add.new.self) c.in_ok-add.ensures.ok)
