-- Working: what the owner of an object's pointer owns.
use base.Fml.{Fml, feq}
use denote.RattleType.{RattleType}
use denote.RawPtr.{Ptr, null_ptr}
use Rattle.std.specs.declared.option.Option.{Option}
use Rattle.std.specs.declared.option.Option.TheVariants.{None, Some}
use Rattle.libc.specs.Heap.{chunk}
use Rattle.std_alloc.specs.Box.Ownership.{box_owns}

-- nothing at a null pointer; else the object, and the right to free its block
abbrev pub owns_object : (R : RattleType) → Ptr → Option R.Denot → Fml
owns_object R p None = feq Ptr p null_ptr
owns_object R p (Some x) = box_owns chunk R p x
