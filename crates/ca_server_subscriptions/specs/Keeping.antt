-- Working: what an update keeps.
use Rattle.std.specs.Arc.{arc_value}
use Rattle.ca_model.specs.Speech.{Stored}
use Rattle.ca_server_subscriptions.specs.declared.update.Kept.{Kept}
use Rattle.ca_server_subscriptions.specs.declared.update.Kept.TheVariants as kept

-- one of its own, or one that it shares
abbrev pub stored_of : Kept → Stored
stored_of (kept.Own h m) = record { value = h; meta = m }
stored_of (kept.Shared a) = (arc_value a).stored
