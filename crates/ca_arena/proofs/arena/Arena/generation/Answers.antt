use Rattle.std.proofs.Common.{◌∙◌, sym, ap}
use Rattle.ca_arena.specs.Arena.{Place}
use Rattle.ca_arena.proofs.Slots.{place_read, stands_at}
use Rattle.ca_arena.proofs.arena.Arena.generation.Goals as goal

pub returns-in-None : goal.returns-in-None
returns-in-None g c =
    rw (← c.self.view_is) (ap (λ (p : Place g.row.T.Denot). p.generation) (sym (stands_at c.self.inside.slots.items c.args.index ∙ ap place_read (sym c.in-None.ensures))))
