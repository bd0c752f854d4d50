-- Statement: what a socket's calls tell, and what goes between it and the core in one turn.
use Rattle.std.specs.Prelude.{◌≡◌, ◌⊎◌, ℕ, zero, suc, ◌+◌, ◌<◌, ◌≤◌, Bool, List, [], length, take}
use Rattle.std.specs.Prelude.{Option, Some, None, Ok, Err}
use Rattle.ca_text.specs.declared.refusal.Refusal.TheVariants.{CircuitClosed, OutOfMemory}
use Rattle.ca_arena.specs.declared.handle.Handle.{Handle}
use Rattle.ca_model.specs.Answers.{Closing, Sending}
use Rattle.ca_model.specs.Client.{Client, out_bytes}
use Rattle.ca_model.specs.ClientEnds.{ClientGives, handed_over}
use Rattle.ca_client.specs.declared.ask.CoreCall.TheVariants.{Cut}
use Rattle.ca_client.specs.declared.answer.Answer.TheVariants.{Closed}
use Rattle.ca_client.specs.declared.socket.Moved.{Moved}
use Rattle.ca_client.specs.declared.socket.Moved.TheVariants.{Count, Later, Fault}
use Rattle.ca_client.specs.Awaited.{StateView}
use Rattle.ca_client.specs.Calls.{HasSteppedUnderLock}

-- the state with another client
abbrev pub with_core : Client → StateView → StateView
with_core x v = record v { core = x }

module _ {S : Type 0} (faults : S → ℕ) where
  -- a read: n bytes came, which are at the front of the buffer; or none yet; or a fault, and none
  abbrev pub HasRead : (S → List ℕ → S → Type 0) → S → Moved → List ℕ → S → Type 0
  HasRead gives s (Count n) buffer s' =
      (n ≤ length buffer) × gives s (take n buffer) s' × (faults s' ≡ faults s)
  HasRead gives s Later buffer s' = gives s [] s' × (faults s' ≡ faults s)
  HasRead gives s Fault buffer s' = gives s [] s' × (faults s' ≡ faults s + 1)

  -- a write: n of the bytes that were offered went; or none yet; or a fault, and none
  abbrev pub HasWritten : (S → List ℕ → S → Type 0) → S → List ℕ → Moved → S → Type 0
  HasWritten takes s bytes (Count n) s' =
      (n ≤ length bytes) × takes s (take n bytes) s' × (faults s' ≡ faults s)
  HasWritten takes s bytes Later s' = takes s [] s' × (faults s' ≡ faults s)
  HasWritten takes s bytes Fault s' = takes s [] s' × (faults s' ≡ faults s + 1)

  module _ (gives takes : S → List ℕ → S → Type 0) (c : Handle) where
    -- The socket was read, and the core was told of just the bytes that came: it took them, or the
    -- circuit was not connected.
    abbrev pub IsRead : S → StateView → S → StateView → Type 0
    IsRead s v s' v' =
        (gives s [] s' × (v' ≡ v))
        ⊎ ((bytes : List ℕ) × (more : Bool) × (sent : List Sending) × gives s bytes s'
        × ((ClientGives v.core c bytes more (Ok tt) sent v'.core × (v' ≡ with_core v'.core v))
        ⊎ (ClientGives v.core c bytes more (Err CircuitClosed) sent v.core × (v' ≡ v))))

    -- The socket was offered what waited, and the core was told how much of that went.
    abbrev pub IsWritten : S → StateView → S → StateView → Type 0
    IsWritten s v s' v' =
        (takes s [] s' × (v' ≡ v))
        ⊎ ((n : ℕ) × (n ≤ length (out_bytes v.core c)) × takes s (take n (out_bytes v.core c)) s'
        × (v' ≡ with_core (handed_over c n v.core) v))

    -- at most one call of the socket, with no fault
    abbrev pub Moves : S → StateView → S → StateView → Type 0
    Moves s v s' v' =
        (faults s' ≡ faults s)
        × (((s' ≡ s) × (v' ≡ v)) ⊎ (IsRead s v s' v' ⊎ IsWritten s v s' v'))

    -- The circuit was cut: the socket had a fault, or the core had no memory for
    -- the bytes that came.
    abbrev pub Cuts : S → StateView → Closing → S → StateView → Type 0
    Cuts s v k s' v' =
        (((faults s' ≡ faults s + 1) × (gives s [] s' ⊎ takes s [] s'))
        ⊎ ((faults s' ≡ faults s)
        × ((bytes : List ℕ) × (more : Bool) × (sent : List Sending) × gives s bytes s'
        × ClientGives v.core c bytes more (Err OutOfMemory) sent v.core)))
        × HasSteppedUnderLock v (Cut c) (Closed k) v'

    -- n calls, with no cut
    abbrev pub Chain : ℕ → S → StateView → S → StateView → Type 0
    Chain zero s v s' v' = (s' ≡ s) × (v' ≡ v)
    Chain (suc k) s v s' v' = (mid : S) × (w : StateView) × Chain k s v mid w × Moves mid w s' v'

    -- one turn: no more than this many calls, of which the last may have cut the circuit
    abbrev pub Turns : ℕ → S → StateView → Option Closing → S → StateView → Type 0
    Turns most s v None s' v' = (k : ℕ) × (k ≤ most) × Chain k s v s' v'
    Turns most s v (Some closing) s' v' =
        (k : ℕ) × (k < most) × (mid : S) × (w : StateView) × Chain k s v mid w
        × Cuts mid w closing s' v'
