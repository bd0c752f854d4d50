-- Working: updates leave the queues of an end, in the table of circuits.
use Rattle.std.specs.Prelude.{ℕ, ◌≡◌, ◌⊎◌, List, [], Some, None}
use Rattle.ca_arena.specs.declared.handle.Handle.{Handle}
use Rattle.ca_ids.specs.Table.{Table, under, with_changed}
use Rattle.ca_records.specs.Store.{Store}
use Rattle.ca_model.specs.Server.{Server, ServerCircuit, ServerEnd}
use Rattle.ca_model.specs.Server as server
use Rattle.ca_model.specs.ServerSteps.{Rests}
use Rattle.ca_server_circuit.specs.declared.effect.Effect.{Effect}
use Rattle.ca_server_circuit.specs.declared.step.FollowUp.TheVariants as effect
use Rattle.ca_server_circuit.specs.declared.step.EndStep.TheVariants as step
use Rattle.ca_server_circuit.specs.Concerned.{bytes_on}
use Rattle.ca_server_circuit.specs.CircuitOutput.{emptied}
use Rattle.ca_server_circuit.specs.Pumping.{PumpsAt, PumpsOverAt}
use Rattle.ca_server_core.specs.Serving.{StepsIn}

-- updates leave the queues of the circuit of a handle
abbrev pub PumpsIn : Table ServerCircuit → Handle → Store → Table ServerCircuit → Store → Type 0
PumpsIn t h s after u =
    ((c : ServerCircuit) × (new : ServerCircuit) × (under t h ≡ Some c) × PumpsAt h c s new u
    × (after ≡ with_changed (λ (x : ServerCircuit). new) h t))
    ⊎ ((under t h ≡ None) × (after ≡ t) × (u ≡ s))

-- updates leave its queues, and then all bytes leave it, which are these
abbrev pub PumpsOverIn : Table ServerCircuit → Handle → Store → Table ServerCircuit → Store → List ℕ
    → Type 0
PumpsOverIn t h s after u out =
    ((c : ServerCircuit) × (new : ServerCircuit) × (under t h ≡ Some c)
    × PumpsOverAt h c s new u out × (after ≡ with_changed (λ (x : ServerCircuit). new) h t))
    ⊎ ((under t h ≡ None) × (after ≡ t) × (u ≡ s) × (out ≡ []))

-- All bytes leave a circuit, those that wait or that its end left: these. There are none if it is
-- not there.
abbrev pub EmptiesIn : Table ServerCircuit → Handle → Table ServerCircuit → List ℕ → Type 0
EmptiesIn t h after out =
    ((c : ServerCircuit) × (under t h ≡ Some c) × (out ≡ bytes_on c)
    × (after ≡ with_changed (λ (x : ServerCircuit). emptied c) h t))
    ⊎ ((under t h ≡ None) × (out ≡ []) × (after ≡ t))

-- the same of a server
abbrev pub HandsOver : Server → Handle → List ℕ → Server → Type 0
HandsOver old h out new =
    (after : Table ServerCircuit) × EmptiesIn old.circuits h after out
    × (new ≡ record old { circuits = after })

-- the same after a step that leaves nothing to do
abbrev pub StepsAndPumps : (port : ℕ) → Table ServerCircuit → Handle → Store → Table ServerCircuit
    → Store → Type 0
StepsAndPumps port t h s after u =
    (mid : Table ServerCircuit) × (v : Store) × (did : Effect)
    × StepsIn port t h s (Some (step.Handled (effect.Quiet did))) mid v × PumpsIn mid h v after u

-- a pump of the circuit of a handle does nothing
abbrev pub IsIdleIn : Table ServerCircuit → Handle → Type 0
IsIdleIn t h = (e : ServerEnd) → under t h ≡ Some (server.Open e) → Rests e
