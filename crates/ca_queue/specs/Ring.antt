-- What the fields of an event queue stand for that is a ring. No clause of a caller needs it.
use Rattle.std.specs.Prelude.{ℕ, ◌≡◌, ◌≤◌, ◌<◌, ◌+◌, ◌-◌, ◌%◌, ◌^◌, ◌&&◌, nat_le, Bool, true, false}
use Rattle.std.specs.Prelude.{List, [], ◌∷◌, ◌++◌, length, map, drop, count_by, slice_set, get_or}
use Rattle.std.specs.Prelude.{is_some, Option, Some, None, IfSome}
use Rattle.circular_buffer.specs.Buffer.{Buffer, buffer}
use Rattle.ca_text.specs.Limits.{queue_places, queue_subscriptions}
use Rattle.ca_queue.specs.declared.entry.SubKey.{SubKey}
use Rattle.ca_queue.specs.declared.lasts.Last.{Last}
use Rattle.ca_queue.specs.Keys.{AreApart}
use Rattle.ca_queue.specs.Queue.{Queue}
use Rattle.ca_queue.specs.Sound.{IsSound}
use Rattle.ca_queue.specs.Waiting.{has_entry, is_of}

-- ---- the ring

module _ {W : Type 0} where
  -- the entries that wait, if a ring was made
  abbrev pub waits : Option (Buffer W) → List W
  waits None = []
  waits (Some b) = b.items

  -- a ring that was made, if it was not yet
  abbrev pub made : Option (Buffer W) → Option (Buffer W)
  made None = Some (buffer [] queue_places)
  made (Some b) = Some b

  -- a ring has a place for each entry that may wait
  abbrev pub HasPlaces : Option (Buffer W) → Type 0
  HasPlaces ring = IfSome ring (λ b. b.capacity ≡ queue_places)

  -- all entries have one
  abbrev pub AreInPlaces : Option (Buffer W) → Type 0
  AreInPlaces ring = HasPlaces ring × (length (waits ring) ≤ queue_places)

  -- one more entry has a place
  abbrev pub HasPlace : Option (Buffer W) → Type 0
  HasPlace None = ⊥
  HasPlace (Some b) = length b.items < b.capacity

  abbrev pub with_items : List W → Buffer W → Buffer W
  with_items ws b = buffer ws b.capacity

  abbrev pub with_entry_at : ℕ → W → Buffer W → Buffer W
  with_entry_at i w b = with_items (slice_set b.items i w) b

  abbrev pub with_back : W → Buffer W → Buffer W
  with_back w b = with_items (b.items ++ w ∷ []) b

  abbrev pub without_front : Buffer W → Buffer W
  without_front b = with_items (drop 1 b.items) b

-- ---- puts

-- The number of the put after this one. Numbers of puts go round, so that there
-- is always a next one.
abbrev pub next_put : ℕ → ℕ
next_put put = (put + 1) % 2 ^ 64

-- how many puts there were after this one, once that one was the last
abbrev pub puts_after : ℕ → ℕ → ℕ
puts_after last put = (last + (2 ^ 64 - put)) % 2 ^ 64

-- ---- the subscriptions

abbrev pub keys_of_lasts : List Last → List SubKey
keys_of_lasts lasts = map (λ l. l.key) lasts

-- a subscription that was just added
abbrev pub unplaced : SubKey → Last
unplaced key = record { key = key; put = 0 }

abbrev pub no_key : SubKey
no_key = record { sid = 0; sub = 0 }

abbrev pub no_last : Last
no_last = unplaced no_key

-- the number of the last put of the subscription of this number, and its key
abbrev pub last_at : List Last → ℕ → ℕ
last_at lasts number = (get_or lasts number no_last).put

abbrev pub key_at : List Last → ℕ → SubKey
key_at lasts number = (get_or lasts number no_last).key

-- this key has this number among these
abbrev pub IsAt : SubKey → List SubKey → ℕ → Type 0
IsAt key keys number = (key ≡ get_or keys number no_key) × (number < length keys)

-- there is room for all subscriptions that come
abbrev pub has_room_for_all : ℕ → ℕ → ℕ → Bool
has_room_for_all room indexed spare =
    nat_le queue_subscriptions room && nat_le queue_subscriptions (indexed + spare)

-- the index has the subscriptions' keys, none of which stands twice, and room was made
-- before the first was added
pub record IsIndexed (lasts : List Last) (keys : List SubKey)
    (room indexed spare : ℕ) : Type 0 where
  pub keyed : keys ≡ keys_of_lasts lasts
  pub counted : indexed ≡ length lasts
  pub apart : AreApart (keys_of_lasts lasts)
  pub roomy : 0 < length lasts → has_room_for_all room indexed spare ≡ true

-- ---- both

-- where the last entry of a subscription is, by how far it is after the first entry, and
-- whether that is one of it
abbrev pub later : Option ℕ → Bool → Option ℕ
later (Some i) here = Some (i + 1)
later None true = Some 0
later None false = None

module _ {E : Type 0} where
  abbrev pub ring_queue : List (SubKey × E) → List Last → Bool → Queue E
  ring_queue entries lasts on =
      record { waiting = entries; subscriptions = keys_of_lasts lasts; events_on = on }

  -- where the last entry of a subscription is among those that wait
  abbrev pub last_index : SubKey → List (SubKey × E) → Option ℕ
  last_index key [] = None
  last_index key (w ∷ q) = later (last_index key q) (is_of key w)

  -- The number that is with a subscription is that of its last put, if it has an entry: there were
  -- as many puts after it as entries wait after that entry.
  abbrev pub IsNoted : ℕ → List (SubKey × E) → Last → Type 0
  IsNoted puts entries l =
      (i : ℕ) → last_index l.key entries ≡ Some i → i + 1 + puts_after puts l.put ≡ length entries

  abbrev pub AreNoted : ℕ → List (SubKey × E) → List Last → Type 0
  AreNoted puts entries [] = Unit {0}
  AreNoted puts entries (l ∷ lasts) = IsNoted puts entries l × AreNoted puts entries lasts

  -- how many of these subscriptions have an entry
  abbrev pub having : List (SubKey × E) → List SubKey → ℕ
  having entries keys = count_by (λ key. has_entry key entries) keys

  -- The fields stand for something sound, and the numbers are right. While events are off, so are
  -- those entries counted that wait besides one of each subscription that has one.
  pub record IsRound (entries : List (SubKey × E)) (lasts : List Last) (on : Bool)
      (puts extra : ℕ) : Type 0 where
    pub sound : IsSound (ring_queue entries lasts on)
    pub goes_round : puts < 2 ^ 64
    pub noted : AreNoted puts entries lasts
    pub counted : on ≡ false → extra + having entries (keys_of_lasts lasts) ≡ length entries

  -- The ring has a place for each entry. It was made before the first subscription was added, and
  -- all other room before it.
  pub record IsMade (ring : Option (Buffer (SubKey × E))) (lasts : List Last)
      (room : Bool) : Type 0 where
    pub places : HasPlaces ring
    pub made : 0 < length lasts → is_some ring ≡ true
    pub roomy : is_some ring ≡ true → room ≡ true

  pub record IsRing (ring : Option (Buffer (SubKey × E))) (lasts : List Last) (room on : Bool)
      (puts extra : ℕ) : Type 0 where
    pub round : IsRound (waits ring) lasts on puts extra
    pub made : IsMade ring lasts room
