use Rattle.ca_arena.specs.Layout.{contents_of}
use Rattle.ca_arena.proofs.Filling.{Filling}
use Rattle.ca_arena.proofs.arena.Arena.put_all.Given as goal

abbrev pub invariant-loop-handle : goal.invariant-loop-handle
invariant-loop-handle g l =
    let i = l.self-inside in
    let was = l.initial.self-inside in
    Filling (contents_of was.slots.items was.freed was.first_freed) l.fn.values.items l.handle-iterator.rest.items i.slots.items i.freed i.first_freed i.retired i.slots.room
