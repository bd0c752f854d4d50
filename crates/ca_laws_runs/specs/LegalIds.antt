-- Statement: of what a client sends on a circuit: an id is given only if it is free.
use Rattle.std.specs.Prelude.{ℕ, ◌<◌, List}
use Rattle.ca_text.specs.Place.{At}
use Rattle.ca_wire.specs.Fields.{Fields}
use Rattle.ca_model.specs.History.{Circuit, Entry, Line}
use Rattle.ca_model.specs.Sends.{Conduct, IsFree, SameIndex}
use Rattle.ca_model.specs.Speech.{Gives, Id}
use Rattle.ca_model.specs.Channels.{OfCircuits}
use Rattle.ca_model.specs.Legal.{client_conduct}
use Rattle.ca_model.specs.World.{World, told}

-- An id is given only if each id of its index that the client gave before is free again.
abbrev pub GivesFreeIds : Conduct → Type 0
GivesFreeIds e =
    (l k : ℕ) (r m : Fields) (a b : Id) → l < k → At e.sent l r → At e.sent k m → Gives r a
    → Gives m b
    → SameIndex a b → IsFree e l k

-- So it is on each circuit of a world.
abbrev pub ClientsGiveFreeIds : World → Type 0
ClientsGiveFreeIds w =
    OfCircuits (told w)
    (λ (n : ℕ) (c : Circuit) (x : List Line) (y : List Entry). GivesFreeIds (client_conduct c))
