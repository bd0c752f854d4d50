use Rattle.std.proofs.Common.{List, [], Option, sym, ap, ◌∙◌}
use Rattle.std.specs.Prelude.{unwrap_or}
use Rattle.ca_arena.specs.declared.handle.Handle.{Handle}
use Rattle.ca_server_watchers.specs.Watching.{Watched, watching}
use Rattle.ca_server_watchers.proofs.Lines.{looked}
use Rattle.ca_server_watchers.proofs.watchers.Watchers.line.Goals as goal

pub returns-in-None : goal.returns-in-None
returns-in-None c =
    let name = c.args.name.now in
    ap (λ (o : Option (List Handle)). unwrap_or o []) (c.get.ensures.value ∙ sym (looked (λ k. k.items) name c.self.inside.lines.entries))
    ∙ ap (λ (w : Watched). watching w name) c.self.view_is
