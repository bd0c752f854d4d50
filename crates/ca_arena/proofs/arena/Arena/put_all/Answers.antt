use Rattle.std.proofs.Common.{◌∙◌, ◌∷◌, ap, arith, List, subst, sym}
use Rattle.std.specs.Vec.Iter.{into_iter_items}
use Rattle.std.proofs.lemmas.List.{length-map}
use Rattle.ca_arena.specs.Arena.{Place}
use Rattle.ca_arena.specs.declared.handle.Handle.{Handle}
use Rattle.ca_arena.specs.declared.slot.Slot.{Slot}
use Rattle.ca_arena.specs.Layout.{contents_of}
use Rattle.ca_arena.specs.Slot.{place_of}
use Rattle.ca_arena.specs.Stored.{Stored}
use Rattle.ca_arena.proofs.Ahead.{few}
use Rattle.ca_arena.proofs.Filling.{Filling, lengthened, refilled}
use Rattle.ca_arena.proofs.Slots.{freed_last, length-freed_from, place_there}
use Rattle.ca_arena.proofs.arena.Arena.put_all.Goals as goal

pub make_room-requires : goal.make_room-requires
make_room-requires g c =
    let i = c.self.inside in
    let next = rw (← c.self.view_is) at c.requires.next in
    omega (arith, few _ c.args.values.items next.0 c.self.invariant.sound next.1, c.saturating_sub-new.ensures, c.len.ensures, c.args.values.ok.0, length-freed_from i.slots.items i.freed i.first_freed, length-map i.slots.items place_of, c.self.invariant.sound.limit)

pub loop-handle-preserved-then-self-eq0 : goal.loop-handle-preserved-then-self-eq0
loop-handle-preserved-then-self-eq0 g c =
    let i = c.loop-handle.self-inside in
    let was = contents_of c.make_room.new.self.items c.self.inside.freed c.self.inside.first_freed in
    let all = c.args.values.items in
    let left = into_iter_items c.next.new.self in
    let e : Handle × g.row.T.Denot = (c.in-Some.handle, c.in-Some.value) in
    let now : Filling was all (e ∷ left) i.slots.items i.freed i.first_freed i.retired i.slots.room = subst (λ (es : List (Handle × g.row.T.Denot)). Filling was all es i.slots.items i.freed i.first_freed i.retired i.slots.room) c.in-Some.ensures.steps.0 c.loop-handle.invariant in
    subst (λ (s : Stored (Slot g.row.T.Denot)). Filling was all left s.items i.freed i.first_freed i.retired s.room) (sym c.push.ensures)
    (lengthened was all left e i.slots.items i.freed i.first_freed i.retired i.slots.room now c.if-self-eq0.true)

pub item_mut-slot-requires : goal.item_mut-slot-requires
item_mut-slot-requires g c =
    let i = c.loop-handle.self-inside in
    omega (arith, (freed_last i.slots.items i.freed i.first_freed i.retired c.loop-handle.invariant.laid_out c.if-self-eq0.false).within, length-map i.slots.items place_of)

pub fill-self-inside-requires : goal.fill-self-inside-requires
fill-self-inside-requires g c =
    let i = c.loop-handle.self-inside in
    ap (λ (p : Place g.row.T.Denot). p.value) (sym (place_there i.slots.items i.first_freed _ c.item_mut-slot.ensures.value))
    ∙ (freed_last i.slots.items i.freed i.first_freed i.retired c.loop-handle.invariant.laid_out c.if-self-eq0.false).vacant

pub loop-handle-preserved : goal.loop-handle-preserved
loop-handle-preserved g c =
    let i = c.loop-handle.self-inside in
    let was = contents_of c.make_room.new.self.items c.self.inside.freed c.self.inside.first_freed in
    let all = c.args.values.items in
    let left = into_iter_items c.next.new.self in
    let e : Handle × g.row.T.Denot = (c.in-Some.handle, c.in-Some.value) in
    let now : Filling was all (e ∷ left) i.slots.items i.freed i.first_freed i.retired i.slots.room = subst (λ (es : List (Handle × g.row.T.Denot)). Filling was all es i.slots.items i.freed i.first_freed i.retired i.slots.room) c.in-Some.ensures.steps.0 c.loop-handle.invariant in
    rw c.fill-self-inside.ensures.filled
    (refilled was all left e i.slots.items i.freed i.first_freed i.retired i.slots.room c.fill-self-inside.result _ now c.if-self-eq0.false c.item_mut-slot.ensures.value c.fill-self-inside.ensures.next)
