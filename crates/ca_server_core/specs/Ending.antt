-- Working: the end of a circuit ends, in the table of circuits.
use Rattle.std.specs.Prelude.{◌≡◌, ◌⊎◌, Some, None}
use Rattle.ca_arena.specs.declared.handle.Handle.{Handle}
use Rattle.ca_ids.specs.Table.{Table, under, with_changed}
use Rattle.ca_records.specs.Store.{Store}
use Rattle.ca_model.specs.Ends.{Why}
use Rattle.ca_model.specs.Server.{ServerCircuit}
use Rattle.ca_server_circuit.specs.Ending.{EndsAt}

-- the end of the circuit of a handle has ended, if it was open
abbrev pub EndsIn : Table ServerCircuit → Handle → Store → Why → Table ServerCircuit → Store
    → Type 0
EndsIn t h s w after u =
    ((c : ServerCircuit) × (new : ServerCircuit) × (under t h ≡ Some c) × EndsAt h c s w new u
    × (after ≡ with_changed (λ (x : ServerCircuit). new) h t))
    ⊎ ((under t h ≡ None) × (after ≡ t) × (u ≡ s))
