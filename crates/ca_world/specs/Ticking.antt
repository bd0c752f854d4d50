-- Working: what handing a moment to a world leaves of clients, logs and circuits.
use Rattle.std.specs.Prelude.{ℕ, List, [], Ok, Err, Result, length}
use Rattle.std.specs.declared.alloc.AllocError.{AllocError}
use Rattle.ca_text.specs.declared.refusal.Refusal.TheVariants.{OutOfMemory}
use Rattle.ca_text.specs.Place.{At}
use Rattle.ca_model.specs.ClientEnds.{ClientTicks}
use Rattle.ca_model.specs.History.{Entry, Line}
use Rattle.ca_model.specs.Runs.{TicksAll, clients_below}
use Rattle.ca_model.specs.World as model
use Rattle.ca_model.specs.World.{World}
use Rattle.ca_world_data.specs.declared.client.ClientSide.{ClientSide}
use Rattle.ca_world_data.specs.Found.{AreNumbered}
use Rattle.ca_world_data.specs.Ticks.{TellsFew}

-- a world of these clients, logs and circuits
abbrev pub world_with : List model.ClientSide → List model.ServerSide → List model.Joined
    → List (List Line) → List (List Entry) → (moment : ℕ) → World
world_with cs ss ks cl sl m =
    record {
      clients = cs;
      servers = ss;
      circuits = ks;
      client_logs = cl;
      server_logs = sl;
      moment = m;
    }

-- The moment was handed to the first n clients, whatever else is in the world.
abbrev pub TicksTo : (moment n : ℕ) → List model.ClientSide → List (List Line) → List model.Joined
    → List model.ClientSide → List (List Line) → List model.Joined → Type 0
TicksTo moment n cs cl ks cs' cl' ks' =
    (ss : List model.ServerSide) (sl : List (List Entry)) (m : ℕ)
    → TicksAll moment (world_with cs ss ks cl sl m) (clients_below n)
    (world_with cs' ss ks' cl' sl m)

-- It was handed to all of them, or to some, and the next one had no memory for it.
abbrev pub TicksSome : (moment : ℕ) → List model.ClientSide → List (List Line) → List model.Joined
    → Result (Unit {0}) AllocError → List model.ClientSide → List (List Line) → List model.Joined
    → Type 0
TicksSome moment cs cl ks (Ok _) cs' cl' ks' = TicksTo moment (length cs) cs cl ks cs' cl' ks'
TicksSome moment cs cl ks (Err _) cs' cl' ks' =
    (n : ℕ) × (x : model.ClientSide) × At cs n x
    × ClientTicks x.core moment (Err OutOfMemory) [] x.core × TicksTo moment n cs cl ks cs' cl' ks'

-- each client has the numbers of its circuits that are open
abbrev pub AllNumbered : List ClientSide → List model.Joined → Type 0
AllNumbered cs ks = (i : ℕ) (x : ClientSide) → At cs i x → AreNumbered x.circuits.items ks i

-- the moment makes none of them tell more than has names
abbrev pub AllTellFew : (moment : ℕ) → List model.ClientSide → Type 0
AllTellFew moment cs = (i : ℕ) (x : model.ClientSide) → At cs i x → TellsFew moment x
