-- Vocabulary: the circuits that are wanted, by place; and, working, a walk over them.
use Rattle.std.specs.Prelude.{ℕ, ◌≡◌, ◌+◌, Option, Some, None, Result, Ok, Err, option_and_then}
use Rattle.std.specs.Prelude.{slice_get}
use Rattle.ca_arena.specs.declared.handle.Handle.{Handle}
use Rattle.ca_ids.specs.Table.{under}
use Rattle.ca_model.specs.Client.{Client}
use Rattle.ca_model.specs.ClientCalls.{WantedCircuit, wanted_as}

-- the circuit of this handle, if it is wanted and not connected
abbrev pub wanted_circuit : Client → Handle → Option WantedCircuit
wanted_circuit x c = option_and_then (wanted_as c) (under x.circuits c)

-- the circuit at this place of their order, if it is wanted and not connected
abbrev pub wanted_in_place : Client → ℕ → Option WantedCircuit
wanted_in_place x place = option_and_then (wanted_circuit x) (slice_get x.order place)

-- one that is wanted is the one, or one less is to be passed over
abbrev pub Passes : Option WantedCircuit → ℕ → Result WantedCircuit ℕ → Type 0
Passes (Some w) left (Ok found) = (left ≡ 0) × (found ≡ w)
Passes (Some w) left (Err n) = left ≡ n + 1
Passes None left (Ok found) = ⊥
Passes None left (Err n) = left ≡ n
