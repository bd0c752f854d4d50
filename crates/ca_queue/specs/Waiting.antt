-- The updates that wait: entries, each with its subscription, the front first. The protocol
-- specification leaves a server's event queue open; the rule is our own. Events are off from a
-- client's EVENTS_OFF to its EVENTS_ON (section "CA Protocol Messages").
use Rattle.std.specs.Prelude.{ℕ, Bool, ◌&&◌, ◌||◌, not, nat_lt, nat_le, ◌-◌, if◌then◌else◌, List}
use Rattle.std.specs.Prelude.{[], ◌∷◌, ◌++◌, length, count_by, drop, filter, Option, Some, None}
use Rattle.std.specs.List.{list_any}
use Rattle.ca_text.specs.Limits.{queue_places, queue_low_places}
use Rattle.ca_queue.specs.declared.entry.SubKey.{SubKey}
use Rattle.ca_queue.specs.Keys.{same}

module _ {E : Type 0} where
  -- the entry is one of this subscription
  abbrev pub is_of : SubKey → SubKey × E → Bool
  is_of key w = same key w.0

  -- the subscription has an entry
  abbrev pub has_entry : SubKey → List (SubKey × E) → Bool
  has_entry key q = list_any (is_of key) q

  -- how many it has
  abbrev pub count_of : SubKey → List (SubKey × E) → ℕ
  count_of key q = count_by (is_of key) q

  -- its entries, in their order
  abbrev pub entries_of : SubKey → List (SubKey × E) → List E
  entries_of key [] = []
  entries_of key (w ∷ q) = if is_of key w then w.1 ∷ entries_of key q else entries_of key q

  -- how many entries find a place yet
  abbrev pub free_places : List (SubKey × E) → ℕ
  free_places q = queue_places - length q

  -- A post to this subscription takes the place of its last entry: there is one, and either free
  -- places are few or events are off.
  abbrev pub replaces : Bool → SubKey → List (SubKey × E) → Bool
  replaces events_on key q =
      has_entry key q && (nat_le (free_places q) queue_low_places || not events_on)

  -- this entry in place of the last one of its subscription
  abbrev pub with_last : SubKey → E → List (SubKey × E) → List (SubKey × E)
  with_last key entry [] = []
  with_last key entry (w ∷ q) =
      if is_of key w && not (has_entry key q) then (key, entry) ∷ q else w ∷ with_last key entry q

  -- A post takes the place of its subscription's last entry, or goes to the back.
  abbrev pub after_post : Bool → SubKey → E → List (SubKey × E) → List (SubKey × E)
  after_post events_on key entry q =
      if replaces events_on key q then with_last key entry q else q ++ (key, entry) ∷ []

  -- some subscription has two or more entries
  abbrev pub is_crowded : List (SubKey × E) → Bool
  is_crowded q = list_any (λ w. nat_lt 1 (count_of w.0 q)) q

  -- an entry may be taken now: with events off, only while some subscription has two or more
  abbrev pub may_take : Bool → List (SubKey × E) → Bool
  may_take events_on q = events_on || is_crowded q

  abbrev pub front : List (SubKey × E) → Option (SubKey × E)
  front [] = None
  front (w ∷ q) = Some w

  -- what a take returns: the front, if an entry may be taken
  abbrev pub taken : Bool → List (SubKey × E) → Option (SubKey × E)
  taken events_on q = if may_take events_on q then front q else None

  -- what it leaves
  abbrev pub after_take : Bool → List (SubKey × E) → List (SubKey × E)
  after_take events_on q = if may_take events_on q then drop 1 q else q

  -- A cancel takes out all entries of its subscription; the others keep their order.
  abbrev pub after_cancel : SubKey → List (SubKey × E) → List (SubKey × E)
  after_cancel key q = filter (λ w. not (is_of key w)) q
