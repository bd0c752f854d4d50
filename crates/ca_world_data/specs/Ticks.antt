-- Working: a moment is handed to a client.
use Rattle.std.specs.Prelude.{ℕ, ◌≡◌, ◌+◌, ◌≤◌, List, [], Ok, Err, Result, length, map}
use Rattle.std.specs.declared.alloc.AllocError.{AllocError}
use Rattle.ca_text.specs.declared.refusal.Refusal.TheVariants.{OutOfMemory}
use Rattle.ca_model.specs.Answers.{Sending, Ticked}
use Rattle.ca_model.specs.ClientEnds.{ClientTicks, circuits_ticked}
use Rattle.ca_model.specs.History.{Line, OfCircuit}
use Rattle.ca_model.specs.ClientEvents.{after_tick, lines_of}
use Rattle.ca_model.specs.World.{ClientSide, Joined, grown}
use Rattle.ca_world_data.specs.Speaking.{sent_up}

-- The moment was handed to client i: what it sent went up its circuits, and ends that fell silent
-- have ended; or it had no memory for it.
abbrev pub TicksClient : (i moment : ℕ) → ClientSide → List (List Line) → List Joined
    → Result (Unit {0}) AllocError → ClientSide → List (List Line) → List Joined → Type 0
TicksClient i moment x logs ks (Ok _) x' logs' ks' =
    (t : Ticked) × (sent : List Sending) × ClientTicks x.core moment (Ok t) sent x'.core
    × (x' ≡ record x { core = x'.core })
    × (logs' ≡ grown x.life (lines_of OfCircuit x.names t.notices) logs)
    × (ks' ≡ map (after_tick i t.closings) (map (sent_up i x.names sent) ks))
TicksClient i moment x logs ks (Err _) x' logs' ks' =
    ClientTicks x.core moment (Err OutOfMemory) [] x.core × (x' ≡ x) × (logs' ≡ logs) × (ks' ≡ ks)

-- This moment makes the client tell no more than its requests and channels have names.
abbrev pub TellsFew : (moment : ℕ) → ClientSide → Type 0
TellsFew moment x =
    length (circuits_ticked moment x.core).notices
    ≤ length x.names.requests + length x.names.channels
