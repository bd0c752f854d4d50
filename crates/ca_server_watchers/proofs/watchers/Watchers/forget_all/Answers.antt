use Rattle.std.proofs.Common.{None, subst}
use Rattle.ca_server_watchers.specs.Watching.{Clears, Watched, lines_in}
use Rattle.ca_server_watchers.proofs.Lines.{others-stay, own-gone}
use Rattle.ca_server_watchers.proofs.watchers.Watchers.forget_all.Goals as goal

pub returns : goal.returns
returns c =
    let name = c.args.name.now in
    let old = c.self.inside.lines in
    let new = c.swap_remove.new.self in
    let u = c.swap_remove.ensures.updates in
    subst (λ (w : Watched). Clears name w (lines_in (λ k. k.items) new.entries)) c.self.view_is
    (record { gone = own-gone (λ k. k.items) old new name u; stay = others-stay (λ k. k.items) old new name None u })
