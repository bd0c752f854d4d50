use Rattle.std.proofs.Common.{List, subst}
use Rattle.ca_arena.specs.declared.handle.Handle.{Handle}
use Rattle.ca_server_watchers.specs.Watching.{AreApart}
use Rattle.ca_server_watchers.proofs.Lines.{handles-apart}
use Rattle.ca_server_watchers.proofs.record_watchers.RecordWatchers.len.Goals as goal

pub returns-clause-apart : goal.returns-clause-apart
returns-clause-apart c =
    subst (λ (hs : List Handle). AreApart hs) c.self.view_is (handles-apart c.self.inside.circuits.entries c.len.ensures.unique)
