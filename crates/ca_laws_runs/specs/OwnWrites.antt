-- Statement: the clause of writes, complete, of a world; and what is applied, by itself.
use Rattle.std.specs.Prelude.{ℕ}
use Rattle.ca_requests.specs.Meaning.{Means}
use Rattle.ca_model.specs.Speech.{Stored}
use Rattle.ca_model.specs.Updates.{Shows}
use Rattle.ca_model.specs.Channels.{IsApplied, IsOwnWrite}
use Rattle.ca_model.specs.Headline.{NotTwice}
use Rattle.ca_model.specs.Known.{IsDue}
use Rattle.ca_model.specs.World.{World, port_of, rules_of, told}

-- What was applied is the value that the caller gave, on a record with the name of the caller's
-- channel, in the step that handled it or after it had waited.
abbrev pub WritesAreOwn : World → Type 0
WritesAreOwn w =
    (n k l i r : ℕ) (v : Stored) → IsApplied (told w) n k l i r v → IsOwnWrite (told w) n k l i r v

-- No write is applied twice.
abbrev pub WritesAreNotTwice : World → Type 0
WritesAreNotTwice w = NotTwice (IsDue (port_of w) (rules_of w)) Shows Means (told w)
