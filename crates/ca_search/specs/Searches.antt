-- One channel that is searched (section "CA Search").
use Rattle.std.specs.Prelude.{ℕ, Bool, false, nat_le, if◌then◌else◌, List, map, filter, Option}
use Rattle.std.specs.Prelude.{None, Some}
use Rattle.std.specs.Option.{option_map}
use Rattle.ca_search.specs.Clock.{Clock, fresh, searched_at}

-- its name, and its clock, which a paused one does not have
pub record Channel : Type 0 where
  pub name : List ℕ
  pub clock : Option Clock

abbrev pub paused : Channel → Channel
paused c = record c { clock = None }

-- resumed: its count of searches begins again
abbrev pub resumed : ℕ → Channel → Channel
resumed now c = record c { clock = Some (fresh now) }

-- boosted: the same, unless it is paused
abbrev pub boosted : ℕ → Channel → Channel
boosted now c = record c { clock = option_map (λ _. fresh now) c.clock }

abbrev pub due_by : ℕ → Option Clock → Bool
due_by now None = false
due_by now (Some clock) = nat_le clock.due now

-- a search is due: the channel is not paused, and the moment has come
abbrev pub is_due : ℕ → Channel → Bool
is_due now c = due_by now c.clock

-- after the search that was made now, if one was due
abbrev pub passed : ℕ → Channel → Channel
passed now c =
    record c {
      clock = option_map
          (λ clock. if nat_le clock.due now then searched_at clock now else clock) c.clock;
    }

-- a search: for this name, under this CID
pub record Wanted : Type 0 where
  pub cid : ℕ
  pub name : List ℕ

abbrev pub wanted : ℕ × Channel → Wanted
wanted c = record { cid = c.0; name = c.1.name }

-- the searches that are due, in the channels' order
abbrev pub wanted_at : ℕ → List (ℕ × Channel) → List Wanted
wanted_at now channels = map wanted (filter (λ c. is_due now c.1) channels)
