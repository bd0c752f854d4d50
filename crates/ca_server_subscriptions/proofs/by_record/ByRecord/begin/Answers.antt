use Rattle.std.proofs.Common.{◌≡◌, [], sym, subst}
use Rattle.ca_server_subscriptions.specs.ByRecord.{Adds, Lines, lines_in, receivers_in}
use Rattle.ca_server_subscriptions.proofs.Lines.{adds-first}
use Rattle.ca_server_subscriptions.proofs.by_record.ByRecord.begin.Goals as goal

pub returns-clause-ok : goal.returns-clause-ok
returns-clause-ok c =
    let name = c.args.name.now in
    let old = c.self.inside.lines in
    let new = c.insert.new.self in
    let empty = subst (λ (w : Lines). receivers_in w name ≡ []) (sym c.self.view_is) c.requires in
    subst (λ (w : Lines). Adds name c.args.receiver w (lines_in (λ k. k.items) new.entries)) c.self.view_is
    (adds-first (λ k. k.items) old new c.in_ok-name.name name c.args.receiver c.in_ok-line.line empty c.in_ok-name.ensures.items c.in_ok-insert.ensures.updates c.in_ok-line.ensures)
