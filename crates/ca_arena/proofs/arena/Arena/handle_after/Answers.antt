use Rattle.std.proofs.Common.{◌≡◌, ◌∙◌, ◌+◌, ◌<◌, ap, arith, length, List, subst, sym, ℕ}
use Rattle.std.proofs.lemmas.Bool.{le-ltb}
use Rattle.std.specs.Prelude.{None, Some, if◌then◌else◌}
use Rattle.ca_arena.specs.declared.handle.Handle.{Handle}
use Rattle.ca_arena.specs.Arena.{Contents, free_slots, handle_after}
use Rattle.ca_arena.specs.Layout.{contents_of}
use Rattle.ca_arena.specs.declared.slot.Slot.{Slot}
use Rattle.ca_arena.specs.Sound.{IsFree, IsSound}
use Rattle.ca_arena.proofs.Ahead.{after-freed, after-unused, free-at}
use Rattle.ca_arena.proofs.Slots.{length-freed_from}
use Rattle.ca_arena.proofs.arena.Arena.handle_after.Goals as goal

-- how many are free again
freed-is : {T : Type 0} (slots : List (Slot T)) (freed first : ℕ) (now : Contents T) → contents_of slots freed first ≡ now → length now.freed ≡ freed
freed-is slots freed first now is = ap (λ a. length a.freed) (sym is) ∙ length-freed_from slots freed first

pub overflow_cast-result : goal.overflow_cast-result
overflow_cast-result g c =
    let i = c.self.inside in
    let a = c.args.self.now in
    let within : c.args.count < length a.freed = omega (arith, c.if-count-self.true, freed-is i.slots.items i.freed i.first_freed a c.self.view_is) in
    let sound = subst IsSound c.self.view_is c.self.invariant.sound in
    omega (arith, (free-at a.given a.freed c.args.count within sound.free).within, sound.limit, c.requires within)

pub overflow_add-result : goal.overflow_add-result
overflow_add-result g c =
    let i = c.self.inside in
    let a = c.args.self.now in
    let within : c.args.count < length a.freed = omega (arith, c.if-count-self.true, freed-is i.slots.items i.freed i.first_freed a c.self.view_is) in
    let sound = subst IsSound c.self.view_is c.self.invariant.sound in
    let free = subst (IsFree a.given) (sym (c.requires within)) (free-at a.given a.freed c.args.count within sound.free) in
    omega (arith, free.lasting, c.generation.ensures)

pub returns-then-count-self : goal.returns-then-count-self
returns-then-count-self g c =
    let i = c.self.inside in
    let a = c.args.self.now in
    let within : c.args.count < length a.freed = omega (arith, c.if-count-self.true, freed-is i.slots.items i.freed i.first_freed a c.self.view_is) in
    ap (λ n. let h : Handle = record { index = c.args.index; generation = n + 1 } in Some h) c.generation.ensures
    ∙ after-freed a c.args.count c.args.index within (c.requires within)

pub returns-then-unused-given : goal.returns-then-unused-given
returns-then-unused-given g c =
    let i = c.self.inside in
    let freed = freed-is i.slots.items i.freed i.first_freed c.args.self.now c.self.view_is in
    sym (ap (λ b. if b then Some (handle_after c.args.self.now c.args.count) else None) (le-ltb c.args.count (free_slots c.args.self.now) (omega (arith, freed, c.if-count-self.false, c.if-unused-given.true, c.given.ensures.count))))

pub returns : goal.returns
returns g c =
    let i = c.self.inside in
    let freed = freed-is i.slots.items i.freed i.first_freed c.args.self.now c.self.view_is in
    after-unused c.args.self.now c.args.count _ (omega (arith, freed, c.if-count-self.false)) (omega (arith, freed, c.if-count-self.false, c.if-unused-given.false, c.given.ensures.count)) (omega (arith, freed, c.given-2.ensures.count))
