-- Vocabulary: the numbers that a seed draws, and the events that they are.
use Rattle.std.specs.Prelude.{ℕ, ◌+◌, ◌/◌, ◌%◌, ◌==◌, ◌||◌, ◌&&◌, if◌then◌else◌, min, Option, Some}
use Rattle.std.specs.Prelude.{None}
use Rattle.ca_model.specs.Events.{Event}
use Rattle.ca_model.specs.Events as event
use Rattle.rand_core.specs.Pcg32Seed.{pcg32_seed}
use Rattle.rand_core.specs.Steps.{steps_u32, stream_of}
use Rattle.rand_core.specs.Stream.{Stream}
use Rattle.rand_pcg.specs.Lcg.{Lcg}
use Rattle.rand_pcg.specs.Pcg.{pcg32, pcg32_of_seed}

-- the generator `Pcg32`, by `seed_from_u64`
abbrev pub seeded : ℕ → Lcg
seeded seed = pcg32_of_seed (pcg32_seed 16 seed)

-- the numbers of 32 bits that a generator gives, one after another
abbrev pub numbers : Lcg → Stream
numbers g = stream_of (steps_u32 pcg32) g

-- the circuit on which a number acts
abbrev pub circuit_drawn : (drawn circuits : ℕ) → Option ℕ
circuit_drawn drawn circuits = if circuits == 0 then None else Some ((drawn / 8) % circuits)

-- the bytes moved: the smaller of this and what waits
abbrev pub bytes_drawn : (drawn waiting : ℕ) → ℕ
bytes_drawn drawn waiting = min (1 + (drawn / 256) % 64) waiting

-- the event that a number is on a circuit, if these numbers of bytes wait for the
-- server and for the client
abbrev pub event_drawn : (drawn circuit up down : ℕ) → Event
event_drawn drawn circuit up down =
    if drawn % 8 == 0 || drawn % 8 == 5 then event.Up circuit (bytes_drawn drawn up)
    else if drawn % 8 == 1 || drawn % 8 == 6 then event.Down circuit (bytes_drawn drawn down)
    else if drawn % 8 == 2 then event.ServerStep circuit
    else if drawn % 8 == 4 then event.Pump circuit
    else if drawn % 8 == 7 && (drawn / 65536) % 64 == 0 then event.CutClient circuit
    else event.ClientStep circuit
