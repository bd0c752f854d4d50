-- Working: one call of a socket.
use Rattle.std.specs.Prelude.{ℕ, List}
use Rattle.ca_arena.specs.declared.handle.Handle.{Handle}
use Rattle.ca_client.specs.declared.turning.Turned.{Turned}
use Rattle.ca_client.specs.declared.turning.Turned.TheVariants as turned
use Rattle.ca_client.specs.Awaited.{StateView}
use Rattle.ca_client.specs.Turns.{Cuts, Moves}

-- one call, which may have cut the circuit
abbrev pub Tries : {S : Type 0} → (faults : S → ℕ) → (gives takes : S → List ℕ → S → Type 0)
    → Handle → S → StateView → Turned → S → StateView → Type 0
Tries faults gives takes c s v turned.GoesOn s' v' = Moves faults gives takes c s v s' v'
Tries faults gives takes c s v turned.Idle s' v' = Moves faults gives takes c s v s' v'
Tries faults gives takes c s v (turned.Cut k) s' v' = Cuts faults gives takes c s v k s' v'
