-- Working: which searches are due once circuits have ended. No clause of a caller needs it.
use Rattle.std.specs.Prelude.{ℕ, Bool, not, List, Option, Some, None, filter, if◌then◌else◌, map}
use Rattle.std.specs.Prelude.{nat_eq, option_and_then, unwrap_or}
use Rattle.std.specs.List.{IsDistinct, list_any}
use Rattle.std.specs.Map.{keys_of}
use Rattle.ca_arena.specs.declared.handle.Handle.{Handle}
use Rattle.ca_ids.specs.Table.{Table, by_wire, same_handle}
use Rattle.ca_search.specs.Searches as search
use Rattle.ca_model.specs.Client.{Channel, On, Searching, Standing, is_cleared}

-- each CID is searched for once
abbrev pub Once : List (ℕ × search.Channel) → Type 0
Once es = IsDistinct nat_eq (keys_of es)

-- the circuit is one of these
abbrev pub is_in : List Handle → Handle → Bool
is_in cs h = list_any (same_handle h) cs

-- whether a channel that stands so is searched for once circuits have ended, if
-- it was on one of them
abbrev pub sought_in : (Handle → Bool) → Standing → Option Bool
sought_in ends Searching = None
sought_in ends (On c p) = if ends c then Some (not (is_cleared p)) else None

-- whether the channel of a CID is
abbrev pub sought_by : (Handle → Bool) → Table Channel → ℕ → Option Bool
sought_by ends t cid =
    option_and_then (λ (h : Handle × Channel). sought_in ends h.1.standing) (by_wire t cid)

-- a search is due once these circuits have ended
abbrev pub is_due_after : (Handle → Bool) → ℕ → Table Channel → ℕ × search.Channel → Bool
is_due_after ends moment t e = unwrap_or (sought_by ends t e.0) (search.is_due moment e.1)

-- the searches that are, in order
abbrev pub due_after : (Handle → Bool) → ℕ → Table Channel → List (ℕ × search.Channel)
    → List search.Wanted
due_after ends moment t es = map search.wanted (filter (is_due_after ends moment t) es)
