-- Vocabulary: bytes that leave a circuit, and an end whose first bytes have left already.
use Rattle.std.specs.Prelude.{ℕ, ◌≡◌, ◌++◌, Bool, false, List, [], ◌∷◌, length}
use Rattle.ca_link.specs.Link.{LinkState, with_handed, with_sent}
use Rattle.ca_wire.specs.Fields.{Fields}
use Rattle.ca_model.specs.Server.{ServerCircuit, ServerEnd}
use Rattle.ca_model.specs.Server as server

-- The bytes up to the last image that is shared, and those after it; and whether images are shared
-- at all.
pub record OutputState : Type 0 where
  pub before : List ℕ
  pub last : List ℕ
  pub shares : Bool

-- all bytes that leave
abbrev pub bytes_of : OutputState → List ℕ
bytes_of o = o.before ++ o.last

-- a link whose output has these bytes before its own
abbrev pub behind : List ℕ → LinkState → LinkState
behind before l = record l { output = before ++ l.output }

abbrev pub end_behind : List ℕ → ServerEnd → ServerEnd
end_behind before e = record e { link = behind before e.link }

-- More may have left before the last bytes; but not if no images are shared.
pub record Grows (old new : OutputState) : Type 0 where
  pub last : new.last ≡ old.last
  pub shares : new.shares ≡ old.shares
  pub whole : old.shares ≡ false → new.before ≡ old.before

-- the message waits after all that has left, or waits on the link
abbrev pub SendsBehind : Fields → OutputState → LinkState → OutputState → LinkState → Type 0
SendsBehind m old l new k =
    behind new.before k ≡ with_sent (m ∷ []) (behind old.before l)

-- the message to the subscription of this id
abbrev pub addressed : (id : ℕ) → Fields → Fields
addressed id m = record m { p2 = id }

-- an end without the bytes that wait
abbrev pub emptied_end : ServerEnd → ServerEnd
emptied_end e = record e { link = with_handed (length e.link.output) e.link }

-- a circuit without the bytes that wait, or that its end left
abbrev pub emptied : ServerCircuit → ServerCircuit
emptied (server.Open e) = server.Open (emptied_end e)
emptied (server.Ended w left) = server.Ended w []
