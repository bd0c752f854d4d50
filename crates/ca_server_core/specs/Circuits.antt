-- Working: what the calls on one circuit make of the table of circuits.
use Rattle.std.specs.Prelude.{ℕ, ◌≡◌, ◌⊎◌, true, false, List, Some, None, Ok, Err, Result}
use Rattle.ca_arena.specs.declared.handle.Handle.{Handle}
use Rattle.ca_ids.specs.Table.{MayGive, Table, has_free, is_full, under, with_changed, with_held}
use Rattle.ca_text.specs.declared.refusal.Refusal.{Refusal}
use Rattle.ca_text.specs.declared.refusal.Refusal.TheVariants as refusal
use Rattle.ca_model.specs.Server.{ServerCircuit}
use Rattle.ca_server_circuit.specs.Circuits.{GivesAt, IsLive, SendsAt}

-- no bad header was met at any end that is open
abbrev pub AreLive : Table ServerCircuit → Type 0
AreLive t = (h : Handle) (c : ServerCircuit) → under t h ≡ Some c → IsLive c

-- a circuit is held under a handle that may be given; memory is asked for only if no index
-- may have another handle
abbrev pub OpensIn : Table ServerCircuit → ServerCircuit → Result Handle Refusal
    → Table ServerCircuit → Type 0
OpensIn t c (Ok h) after = MayGive t h × (after ≡ with_held h c t)
OpensIn t c (Err refusal.ArenaFull) after = (is_full t ≡ true) × (after ≡ t)
OpensIn t c (Err refusal.OutOfMemory) after =
    (is_full t ≡ false) × (after ≡ t) × (has_free t ≡ false)
OpensIn t c (Err _) after = ⊥

-- these bytes came on the circuit of a handle
abbrev pub GivesIn : Table ServerCircuit → Handle → (now : ℕ) → List ℕ → Result (Unit {0}) Refusal
    → Table ServerCircuit → Type 0
GivesIn t h now bytes result after =
    ((c : ServerCircuit) × (new : ServerCircuit) × (under t h ≡ Some c)
    × GivesAt now bytes c result new × (after ≡ with_changed (λ (x : ServerCircuit). new) h t))
    ⊎ ((under t h ≡ None) × (result ≡ Err refusal.CircuitClosed) × (after ≡ t))

-- the first n bytes that waited on the circuit of a handle were handed over
abbrev pub SendsIn : Table ServerCircuit → Handle → ℕ → Table ServerCircuit → Type 0
SendsIn t h n after =
    ((c : ServerCircuit) × (new : ServerCircuit) × (under t h ≡ Some c) × SendsAt n c new
    × (after ≡ with_changed (λ (x : ServerCircuit). new) h t))
    ⊎ ((under t h ≡ None) × (after ≡ t))
