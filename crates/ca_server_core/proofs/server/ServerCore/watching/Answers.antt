use Rattle.std.proofs.Common.{ℕ, List, sym, ap, subst, ◌∙◌}
use Rattle.ca_arena.specs.declared.handle.Handle.{Handle}
use Rattle.ca_ids.specs.Table.{under}
use Rattle.ca_model.specs.Server.{Server}
use Rattle.ca_server_watchers.specs.Watching.{IsAmong, watching}
use Rattle.ca_server_core.proofs.server.ServerCore.watching.Goals as goal

pub returns : goal.returns
returns c h e s has in_it same =
    let i = c.self.inside in
    let here = c.self.invariant.covered h e s (ap (λ (y : Server). under y.circuits h) c.self.view_is ∙ has) in_it in
    subst (λ (hs : List Handle). IsAmong hs h) (sym c.line.ensures) (subst (λ (n : List ℕ). IsAmong (watching i.watchers n) h) same here)
