-- Working: servers that were handed no stamp.
use Rattle.std.specs.Prelude.{◌≡◌}
use Rattle.ca_model.specs.Server.{Server}

-- no stamp was handed to a server: its writes are stored with none
abbrev pub IsUnstamped : Server → Type 0
IsUnstamped y = y.stamp ≡ record { seconds = 0; nanos = 0 }
