-- Working: the message that a server's end handles in an event.
use Rattle.std.specs.Prelude.{ℕ, ◌≡◌, length}
use Rattle.ca_text.specs.Place.{At}
use Rattle.ca_model.specs.Events.{Event}
use Rattle.ca_model.specs.Events as event
use Rattle.ca_model.specs.World.{Joined, World}

-- In this event the server's end of circuit n handles the client's message at this
-- place, or closes on it.
abbrev pub IsOwnPlace : World → Event → (n p : ℕ) → Type 0
IsOwnPlace w (event.ServerStep k) n p =
    (n ≡ k) × ((j : Joined) → At w.circuits k j → p ≡ length j.lists.handled)
IsOwnPlace w e n p = ⊥
