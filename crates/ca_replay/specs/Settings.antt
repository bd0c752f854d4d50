-- Vocabulary: the setting that a script says.
use Rattle.std.specs.Prelude.{ℕ, ◌≡◌, false, List, take}
use Rattle.ca_model.specs.World.{ServerSetting, Setting}
use Rattle.ca_text.specs.Place.{At}
use Rattle.ca_world_data.specs.Settings.{is_taken}
use Rattle.ca_world_script.specs.declared.script.Script.{Script}

-- the clients and the servers of a script
abbrev pub setting_of : Script → Setting
setting_of s = record { clients = s.clients.items; servers = s.servers.items }

-- none of these servers has the address of one before it
abbrev pub AreFresh : List ServerSetting → Type 0
AreFresh servers =
    (i : ℕ) (y : ServerSetting) → At servers i y → is_taken y.address (take i servers) ≡ false
