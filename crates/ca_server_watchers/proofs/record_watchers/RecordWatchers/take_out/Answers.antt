use Rattle.std.proofs.Common.{List, subst}
use Rattle.ca_arena.specs.declared.handle.Handle.{Handle}
use Rattle.ca_server_watchers.specs.Watching.{Leaves, handles_in}
use Rattle.ca_server_watchers.proofs.Lines.{keyless, left-out}
use Rattle.ca_server_watchers.proofs.record_watchers.RecordWatchers.take_out.Goals as goal

pub returns : goal.returns
returns c =
    let e = c.swap_remove_index.ensures in
    let new = c.swap_remove_index.new.self.entries in
    subst (λ (hs : List Handle). Leaves c.args.place hs (handles_in new)) c.self.view_is
    (left-out c.self.inside.circuits.entries new c.args.place c.swap_remove_index.result e.entry e.entries (keyless c.self.inside.circuits c.swap_remove_index.new.self c.swap_remove_index.result e.updates) e.unchanged)
