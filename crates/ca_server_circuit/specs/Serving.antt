-- Working: what a step makes of one circuit.
use Rattle.std.specs.Prelude.{ℕ, ◌≡◌, ◌≤◌, Option, Some, None, length}
use Rattle.ca_arena.specs.declared.handle.Handle.{Handle}
use Rattle.ca_records.specs.Store.{Store}
use Rattle.ca_text.specs.Limits.{arena_slots}
use Rattle.ca_model.specs.Server.{ServerCircuit, ServerEnd}
use Rattle.ca_model.specs.Server as server
use Rattle.ca_server_circuit.specs.declared.step.EndStep.{EndStep}
use Rattle.ca_server_circuit.specs.declared.step.EndStep.TheVariants.{Breaks}
use Rattle.ca_server_circuit.specs.Ending.{WithdrawsAll}
use Rattle.ca_server_circuit.specs.Stepping.{BreaksBy, EndSteps, why_is}
use Rattle.ca_server_circuit.specs.Subscribing.{events_of}
use Rattle.ca_server_subscriptions.specs.Subscribed.{HasRoom}

-- One step of a circuit: its end did this, or has ended if it broke; one that
-- had ended does nothing.
abbrev pub CircuitSteps : (port : ℕ) → Handle → ServerCircuit → Store → Option EndStep
    → ServerCircuit → Store → Type 0
CircuitSteps port h (server.Open e) s (Some (Breaks c)) new t =
    BreaksBy port s e c × (new ≡ server.Ended (why_is c) e.link.output) × WithdrawsAll h s t
CircuitSteps port h (server.Open e) s (Some did) new t =
    (after : ServerEnd) × EndSteps port h e s did after t × HasRoom (events_of after)
    × (length after.channels ≤ arena_slots) × (new ≡ server.Open after)
CircuitSteps port h (server.Open e) s None new t = ⊥
CircuitSteps port h (server.Ended w left) s did new t =
    (did ≡ None) × (new ≡ server.Ended w left) × (t ≡ s)
