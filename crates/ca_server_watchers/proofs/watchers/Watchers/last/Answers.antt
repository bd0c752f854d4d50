use Rattle.std.proofs.Common.{◌-◌, List, length, slice_get, refl, sym, ap, subst, ◌∙◌}
use Rattle.ca_arena.specs.declared.handle.Handle.{Handle}
use Rattle.ca_server_watchers.specs.Watching.{AreApart, Watched, watching}
use Rattle.ca_server_watchers.proofs.Lines.{none-apart, unlisted, unwatched, watched}
use Rattle.ca_server_watchers.proofs.watchers.Watchers.last.Goals as goal

pub returns-in-Some : goal.returns-in-Some
returns-in-Some c =
    let here = c.in-Some.ensures in
    record {
      last = c.last.ensures.last ∙ ap (λ (hs : List Handle). slice_get hs c.last.new.before) here;
      before = c.last.ensures.before ∙ ap (λ (hs : List Handle). length hs - 1) here;
      apart = subst (λ (hs : List Handle). AreApart hs) here c.last.ensures.apart;
      stays = refl;
    }
