use Rattle.std.proofs.Common.{◌≡◌, ◌∷◌, ◌++◌, ◌∙◌, [], List, ap, length}
use Rattle.std.proofs.lemmas.List.{length-map}
use Rattle.ca_arena.specs.Slot.{place_of}
use Rattle.ca_arena.specs.Stored.{Stored}
use Rattle.ca_arena.specs.declared.slot.Slot.{Slot}
use Rattle.ca_arena.specs.declared.slot.Slot.TheVariants.{Filled}
use Rattle.ca_arena.proofs.Slots.{Appended, appends, next_is_new, none_freed}
use Rattle.ca_arena.proofs.arena.Arena.append.Given.{Over}
use Rattle.ca_arena.proofs.arena.Arena.append.Goals as goal

-- the slots and one more
more : (g : Over) (c : goal.After-push g) → c.push.new.self.items ≡ c.self.inside.slots.items ++ Filled 1 c.args.value ∷ []
more g c =
    ap (λ (s : Stored (Slot g.row.T.Denot)). s.items) c.push.ensures ∙ ap (λ (slots : List (Slot g.row.T.Denot)). slots ++ Filled 1 c.args.value ∷ []) c.make_room.ensures.items

-- the index of that is how many there were
end : (g : Over) (c : goal.After-push g) → c.given-index.result ≡ length c.self.inside.slots.items
end g c = (rw (← c.self.view_is) at c.given-index.ensures.count) ∙ length-map c.self.inside.slots.items place_of

longer : (g : Over) (c : goal.After-push g) → Appended c.self.inside.slots.items c.self.inside.freed c.self.inside.first_freed c.self.inside.retired c.args.value
longer g c =
    let none = rw (← c.self.view_is) at c.requires in
    appends c.self.inside.slots.items c.self.inside.freed c.self.inside.first_freed c.self.inside.retired c.args.value c.self.invariant none (λ same. c.if-index-eq-ARENA_SLOTS.false (end g c ∙ same))

pub invariant_of-self-2 : goal.invariant_of-self-2
invariant_of-self-2 g c = rw (more g c) (longer g c).laid_out

pub returns-clause-inserts : goal.returns-clause-inserts
returns-clause-inserts g c =
    let none = rw (← c.self.view_is) at c.requires in
    let slots = c.self.inside.slots.items in
    let freed = c.self.inside.freed in
    let first = c.self.inside.first_freed in (
      rw (← c.self.view_is) (longer g c).free,
      rw (← c.self.view_is) (next_is_new slots freed first c.given-index.result (none_freed slots freed first none) (end g c)),
      rw (more g c, ← c.self.view_is) (longer g c).contents,
    )

pub returns-clause-sound : goal.returns-clause-sound
returns-clause-sound g c = (invariant_of-self-2 g c).sound
