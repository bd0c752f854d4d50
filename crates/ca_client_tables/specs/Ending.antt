-- Working: the channels of a circuit that has ended, one after another. No clause
-- of a caller needs it.
use Rattle.std.specs.Prelude.{ℕ, ◌≡◌, Bool, not, List, Option, Some, None, filter_map, fold}
use Rattle.std.specs.Prelude.{if◌then◌else◌, map, option_map, option_to_list, true}
use Rattle.ca_arena.specs.declared.handle.Handle.{Handle}
use Rattle.ca_arena.specs.Arena.{Place, place_at}
use Rattle.ca_ids.specs.Table.{Table, held, held_at, kept_of, with_changed, with_freed}
use Rattle.ca_ids.specs.Walks.{with_place}
use Rattle.ca_ids.specs.Wire.{wire_of}
use Rattle.ca_search.specs.Searcher.{with_one, without}
use Rattle.ca_search.specs.Searches as search
use Rattle.ca_model.specs.Client.{Channel, Phase, Searching, is_cleared, is_on_in}

-- the channels, and what is searched of them
pub record Sought : Type 0 where
  pub channels : Table Channel
  pub searches : List (ℕ × search.Channel)

abbrev pub sought : Table Channel → List (ℕ × search.Channel) → Sought
sought channels searches = record { channels = channels; searches = searches }

-- the handle of a channel on this circuit, if the test names its phase
abbrev pub named_by : (Phase → Bool) → Handle → Handle × Channel → Option Handle
named_by test c e = if is_on_in test c e.1 then Some e.0 else None

-- those of the channels, in order of index
abbrev pub named_in : (Phase → Bool) → Handle → Table Channel → List Handle
named_in test c t = filter_map (named_by test c) (held t)

-- the one at this index
abbrev pub named_at : (Phase → Bool) → Handle → ℕ → Table Channel → List Handle
named_at test c i t = filter_map (named_by test c) (option_to_list (held_at i (place_at t i)))

-- its caller did not clear it
abbrev pub is_kept : Phase → Bool
is_kept p = not (is_cleared p)

-- nothing has its CID
abbrev pub gone : Sought → Handle → Sought
gone s h = sought (with_freed h s.channels) (without (wire_of h) s.searches)

-- it is searched for again
abbrev pub again : ℕ → Sought → Handle → Sought
again moment s h =
    sought (with_changed (λ (here : Channel). record here { standing = Searching }) h s.channels)
    (with_one (search.resumed moment) (wire_of h) s.searches)

-- what stays at a place as those that were cleared go
abbrev pub gone_at : Handle → Option Channel → Option Channel
gone_at c o = kept_of (is_on_in is_cleared c) o

-- a channel, searched for again if it was on this circuit and not cleared
abbrev pub back : Handle → Channel → Channel
back c here = if is_on_in is_kept c here then record here { standing = Searching } else here

abbrev pub back_at : Handle → Option Channel → Option Channel
back_at c o = option_map (back c) o

-- The channel at this index was taken, if the test names it: what holds its CID changed so.
pub record StepsAt (f : Sought → Handle → Sought) (test : Phase → Bool)
    (g : Option Channel → Option Channel) (c : Handle) (i : ℕ) (old new : Sought) : Type 0 where
  pub folds : new ≡ fold f old (named_at test c i old.channels)
  pub walks : new.channels
      ≡ with_place i (λ (p : Place Channel). record p { value = g p.value }) old.channels

-- Each channel was, that the test names.
pub record StepsAll (f : Sought → Handle → Sought) (test : Phase → Bool)
    (g : Option Channel → Option Channel) (c : Handle) (old new : Sought) : Type 0 where
  pub folds : new ≡ fold f old (named_in test c old.channels)
  pub walks : new.channels
      ≡ map (λ (p : Place Channel). record p { value = g p.value }) old.channels

-- The channels of a circuit ended: those that were cleared went first, and then
-- the others came back.
pub record EndsAll (c : Handle) (moment : ℕ) (old new : Sought) : Type 0 where
  pub between : Sought
  pub first : StepsAll gone is_cleared (gone_at c) c old between
  pub next : StepsAll (again moment) is_kept (back_at c) c between new

-- whatever its phase
abbrev pub is_any : Phase → Bool
is_any p = true
