-- Working: the puts that wait on a circuit are withdrawn.
use Rattle.std.specs.Prelude.{ℕ, ◌==◌, ◌++◌, List, [], ◌∷◌, if◌then◌else◌}
use Rattle.ca_model.specs.History as history
use Rattle.ca_world_data.specs.declared.server.PutPlace.{PutPlace}
use Rattle.ca_world_data.specs.declared.server.RecordSide.{RecordSide}

-- as the log tells of those among these that came on circuit k
abbrev pub withdrawn_of : (k : ℕ) → List PutPlace → List history.Entry
withdrawn_of k [] = []
withdrawn_of k (p ∷ ps) =
    if p.circuit == k then history.Withdrawn p.circuit p.place ∷ withdrawn_of k ps
    else withdrawn_of k ps

-- of all records, in order
abbrev pub all_withdrawn : (k : ℕ) → List RecordSide → List history.Entry
all_withdrawn k [] = []
all_withdrawn k (r ∷ rs) = withdrawn_of k r.waiting.items ++ all_withdrawn k rs
