-- Working: what the life of a client or of a server has counted, beside the length of its log.
use Rattle.std.specs.Prelude.{ℕ, ◌<◌, ◌≤◌, List, length}
use Rattle.ca_text.specs.Place.{At}
use Rattle.ca_model.specs.History.{Entry, Line}
use Rattle.ca_model.specs.World.{ClientSide, ServerSide, World, log_length}

-- a client's life has a log, with a line at least for each plain write that was accepted
pub record HasLines (x : ClientSide) (logs : List (List Line)) : Type 0 where
  pub life : x.life < length logs
  pub writes : x.names.writes ≤ log_length x.life logs

-- a server's life has a log, with as many entries at least as records were added, and as writes
-- were applied
pub record HasEntries (y : ServerSide) (logs : List (List Entry)) : Type 0 where
  pub life : y.life < length logs
  pub added : y.added ≤ log_length y.life logs
  pub applied : y.core.applied ≤ log_length y.life logs

-- so it is of each client, and of each server
abbrev pub AllLines : List ClientSide → List (List Line) → Type 0
AllLines xs logs = (i : ℕ) (x : ClientSide) → At xs i x → HasLines x logs

abbrev pub AllEntries : List ServerSide → List (List Entry) → Type 0
AllEntries ys logs = (i : ℕ) (y : ServerSide) → At ys i y → HasEntries y logs

-- of each client and each server of a world
pub record Counted (w : World) : Type 0 where
  pub clients : AllLines w.clients w.client_logs
  pub servers : AllEntries w.servers w.server_logs
