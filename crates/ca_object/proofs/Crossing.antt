-- What is owned at an object's pointer may cross to another thread if the object
-- may. Assumes nothing.
use base.Shift.{Keyless}
use mir.Raw.{raw as header_only}
use denote.Memory.{lone}
use denote.Param.Send.{IsSend}
use denote.RattleType.{RattleType}
use denote.RawPtr.{Ptr}
use Rattle.libc.specs.Heap.{chunk-Keyless}
use Rattle.std.specs.declared.option.Option.{Option}
use Rattle.std.specs.declared.option.Option.TheVariants.{None, Some}
use Rattle.std_alloc.proofs.SendSync.{lies}
use Rattle.ca_object.specs.Owning.{owns_object}

pub object-crosses : (R : RattleType) → IsSend R → (p : Ptr) (v : Option R.Denot) → Keyless (owns_object R p v)
object-crosses R sent p None = tt
object-crosses R sent p (Some x) = (lies R sent p x, chunk-Keyless (header_only (lone R.mir)) p)
