-- Vocabulary: the posts of a record that a subscription sees.
use Rattle.std.specs.Prelude.{ℕ, ◌==◌, ◌&&◌, ◌++◌, Bool, true, List, Option, Some, None, drop}
use Rattle.std.specs.Prelude.{filter_map, if◌then◌else◌, option_to_list, take}
use Rattle.ca_queue.specs.Order.{last_of}
use Rattle.ca_model.specs.Speech.{Stored, share_bit}
use Rattle.ca_model.specs.History.{Entry, Added, Applied, Posted}

-- The posts of record r, among these entries, whose mask passes. A record's first value passes, and
-- a write has VALUE and LOG.
abbrev pub post_in : ℕ → (ℕ → Bool) → Entry → Option Stored
post_in r passes (Added i s) =
    if i == r then Some (record { value = s.value; meta = s.meta }) else None
post_in r passes (Applied n k i v busies) = if i == r && passes 3 then Some v else None
post_in r passes (Posted i mask v) = if i == r && passes mask then Some v else None
post_in r passes entry = None

-- The posts of record r for a subscription made when the log had n entries: its value then, and all
-- since that share a bit.
abbrev pub matching : List Entry → (logged r mask : ℕ) → List Stored
matching y logged r mask =
    option_to_list (last_of (filter_map (post_in r (λ bits. true)) (take logged y))) ++ filter_map
    (post_in r (share_bit mask)) (drop logged y)
