-- Working: ends at a client that fell silent.
use Rattle.std.specs.Prelude.{ℕ, ◌≡◌, ◌==◌, ◌&&◌, List, Option, Some, None, if◌then◌else◌}
use Rattle.std.specs.Prelude.{slice_set}
use Rattle.ca_ids.specs.Table.{same_handle}
use Rattle.ca_text.specs.Place.{At}
use Rattle.ca_model.specs.Answers.{Left}
use Rattle.ca_model.specs.ClientEvents.{client_closed}
use Rattle.ca_model.specs.World.{Joined}

-- the circuit, whose open end at client i has ended, if it is the one that left this
abbrev pub silenced : (i : ℕ) → Left → Joined → Joined
silenced i l j =
    if j.client == i && j.lists.client_open then if same_handle l.circuit j.at_client
    then client_closed l.bytes j else j else j

-- the end of this circuit has ended and left these bytes, if there is one
abbrev pub EndsAt : Option ℕ → List ℕ → List Joined → List Joined → Type 0
EndsAt None left ks ks' = ks' ≡ ks
EndsAt (Some k) left ks ks' = (j : Joined) → At ks k j → ks' ≡ slice_set ks k (client_closed left j)
