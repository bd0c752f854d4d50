-- The number of a handle on the wire.
use Rattle.std.specs.Prelude.{ℕ, ◌+◌, ◌*◌, ◌%◌}
use Rattle.ca_arena.specs.declared.handle.Handle.{Handle}

-- the index in the low half, and above it the low half of the generation
abbrev pub wire_of : Handle → ℕ
wire_of handle = (handle.generation % 65536) * 65536 + handle.index
