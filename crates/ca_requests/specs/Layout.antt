-- Working: what the fields of a client's requests stand for, and what is done to each of them. No
-- clause of a caller needs it.
use Rattle.std.specs.Prelude.{◌≤◌, Bool, true, List, [], ◌∷◌}
use Rattle.std.specs.List.{AllByRecursion}
use Rattle.ca_arena.specs.declared.handle.Handle.{Handle}
use Rattle.ca_arena.specs.Arena.{Place, place_at}
use Rattle.ca_ids.specs.Table.{Table, kept_of, with_changed}
use Rattle.ca_requests.specs.declared.drops.RequestsMeant.{RequestsMeant}
use Rattle.ca_requests.specs.declared.drops.RequestsMeant.TheVariants as which
use Rattle.ca_requests.specs.Calls.{Issued}
use Rattle.ca_requests.specs.Requests.{Draining, Request, asks_on, in_order_of_issue, was_sent_on}

-- those of the listed handles that are open, in their order
abbrev pub issued_of : Table Request → List Handle → Issued
issued_of table listed =
    record { table = table; order = in_order_of_issue (λ (q : Request). true) table listed }

-- the handle was given
abbrev pub WasGiven : Table Request → Handle → Type 0
WasGiven t h = h.generation ≤ (place_at t h.index).generation

-- all that is listed was given
abbrev pub AreGiven : Table Request → List Handle → Type 0
AreGiven t listed = AllByRecursion (WasGiven t) listed

-- the requests that are meant
abbrev pub named : RequestsMeant → Request → Bool
named (which.OnChannel channel) = asks_on channel
named (which.OnCircuit circuit) = was_sent_on circuit

-- a place whose id is free if the request there is meant
abbrev pub place_freed : RequestsMeant → Place Request → Place Request
place_freed w p = record p { value = kept_of (named w) p.value }

-- a request is over, and its IOID drains
abbrev pub drained : Request → Request
drained r = record r { stage = Draining }

-- these requests are over, and their IOIDs drain
abbrev pub each_drained : List Handle → Table Request → Table Request
each_drained [] t = t
each_drained (q ∷ qs) t = each_drained qs (with_changed drained q t)
