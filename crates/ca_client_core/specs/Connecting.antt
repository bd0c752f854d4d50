-- Working: what connecting a circuit does. No clause of a caller needs it.
use Rattle.std.specs.Prelude.{◌≡◌, ◌++◌, Option, Some, None, Result, Ok, Err}
use Rattle.std.specs.declared.alloc.AllocError.{AllocError}
use Rattle.ca_arena.specs.declared.handle.Handle.{Handle}
use Rattle.ca_model.specs.Client.{Client, ClientCircuit, sending}
use Rattle.ca_model.specs.ClientEnds.{begun, creations, set_up}

-- The end of a circuit that is wanted began; or there was no memory for it, which changed nothing.
abbrev pub BeginsOn : Client → Handle → Option ClientCircuit → Result (Unit {0}) AllocError → Client
    → Type 0
BeginsOn old c None r new = ⊥
BeginsOn old c (Some d) (Ok _) new =
    new ≡ sending (set_up old.peer c d ++ creations c old) (begun c old)
BeginsOn old c (Some d) (Err _) new = new ≡ old
