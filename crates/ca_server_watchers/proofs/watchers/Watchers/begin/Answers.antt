use Rattle.std.proofs.Common.{◌≡◌, [], sym, subst}
use Rattle.ca_server_watchers.specs.Watching.{Watched, Watches, lines_in, watching}
use Rattle.ca_server_watchers.proofs.Lines.{watches-first}
use Rattle.ca_server_watchers.proofs.watchers.Watchers.begin.Goals as goal

pub returns-clause-ok : goal.returns-clause-ok
returns-clause-ok c =
    let name = c.args.name.now in
    let old = c.self.inside.lines in
    let new = c.insert.new.self in
    let empty = subst (λ (w : Watched). watching w name ≡ []) (sym c.self.view_is) c.requires in
    subst (λ (w : Watched). Watches name c.args.circuit w (lines_in (λ k. k.items) new.entries)) c.self.view_is
    (watches-first (λ k. k.items) old new c.in_ok-name.name name c.args.circuit c.new-line.result c.add.new.self empty c.new-line.ensures c.in_ok-name.ensures.items c.in_ok-insert.ensures.updates c.in_ok-add.ensures.ok)
