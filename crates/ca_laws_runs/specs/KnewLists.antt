-- Working: what a server's core knows of channels and subscriptions is what the lists of the
-- circuit say, as far as it handled them.
use Rattle.std.specs.Prelude.{ℕ, ◌≡◌, true, List, [], length, take}
use Rattle.ca_text.specs.Place.{At}
use Rattle.ca_model.specs.History.{Circuit, Entry}
use Rattle.ca_model.specs.Server.{ServerEnd}
use Rattle.ca_model.specs.ServerSteps.{HasEnd, knows}
use Rattle.ca_model.specs.Known.{AreJust, IsChannel, IsKey}
use Rattle.ca_model.specs.World.{Joined, ServerSide, World}

-- A circuit as its server knows it: with the messages that it handled, and those that it sent.
abbrev pub as_known : Circuit → Circuit
as_known c = record c {
  client = 0;
  up = take (length c.handled) c.up;
  heard = [];
  queued = [];
  client_open = true;
  server_open = true;
}

-- The open channels that each server knows on each open end are just those of the lists, with their
-- ids and names, and retired if the log removed their records; and the keys that it knows are just
-- those of the subscriptions that last.
abbrev pub KnowChannels : World → Type 0
KnowChannels w =
    (n : ℕ) (c : Joined) (y : ServerSide) (e : ServerEnd) (log : List Entry) → At w.circuits n c
    → At w.servers c.server y
    → c.lists.server_open ≡ true → HasEnd y.core c.at_server e → At w.server_logs y.life log
    → AreJust (knows y.core e).channels (IsChannel (as_known c.lists) log)

abbrev pub KnowKeys : World → Type 0
KnowKeys w =
    (n : ℕ) (c : Joined) (y : ServerSide) (e : ServerEnd) (log : List Entry) → At w.circuits n c
    → At w.servers c.server y
    → c.lists.server_open ≡ true → HasEnd y.core c.at_server e → At w.server_logs y.life log
    → AreJust (knows y.core e).keys (IsKey (as_known c.lists) log)
