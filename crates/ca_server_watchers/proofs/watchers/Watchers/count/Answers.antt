use Rattle.std.proofs.Common.{List, length, refl, sym, ap, subst, ◌∙◌}
use Rattle.ca_arena.specs.declared.handle.Handle.{Handle}
use Rattle.ca_server_watchers.specs.Watching.{AreApart, Watched, watching}
use Rattle.ca_server_watchers.proofs.Lines.{none-apart, unlisted, unwatched, watched}
use Rattle.ca_server_watchers.proofs.watchers.Watchers.count.Goals as goal

pub returns-then-is_empty : goal.returns-then-is_empty
returns-then-is_empty c =
    let name = c.args.name.now in
    let none = sym (unlisted (λ k. k.items) name c.self.inside.lines.entries (c.is_empty.ensures.0 c.if-is_empty.true)) ∙ ap (λ (w : Watched). watching w name) c.self.view_is in
    record {
      count = ap (λ (hs : List Handle). length hs) none;
      apart = subst (λ (hs : List Handle). AreApart hs) none none-apart;
      stays = refl;
    }

pub returns-in-Some : goal.returns-in-Some
returns-in-Some c =
    let name = c.args.name.now in
    let here = sym (watched (λ k. k.items) name c.self.inside.lines.entries c.in-Some.line.now (sym c.in-Some.ensures.value)) ∙ ap (λ (w : Watched). watching w name) c.self.view_is in
    record {
      count = c.len-count.ensures.count ∙ ap (λ (hs : List Handle). length hs) here;
      apart = subst (λ (hs : List Handle). AreApart hs) here c.len-count.ensures.apart;
      stays = c.self.view_is;
    }

pub returns-in-None : goal.returns-in-None
returns-in-None c =
    let name = c.args.name.now in
    let none = sym (unwatched (λ k. k.items) name c.self.inside.lines.entries (sym c.in-None.ensures.value)) ∙ ap (λ (w : Watched). watching w name) c.self.view_is in
    record {
      count = ap (λ (hs : List Handle). length hs) none;
      apart = subst (λ (hs : List Handle). AreApart hs) none none-apart;
      stays = refl;
    }
