use Rattle.std.proofs.Common.{List, subst}
use Rattle.ca_arena.specs.declared.handle.Handle.{Handle}
use Rattle.ca_server_watchers.specs.Watching.{Joins, handles_in}
use Rattle.ca_server_watchers.proofs.Lines.{joined}
use Rattle.ca_server_watchers.proofs.record_watchers.RecordWatchers.add.Goals as goal

pub returns-clause-ok : goal.returns-clause-ok
returns-clause-ok c =
    let new = c.insert.new.self.entries in
    subst (λ (hs : List Handle). Joins c.args.circuit hs (handles_in new)) c.self.view_is
    (joined c.self.inside.circuits.entries new c.args.circuit c.in_ok-insert.ensures.entries)
