-- Working: for which messages of a client its server keeps something, so that it may still send
-- messages about them.
use Rattle.std.specs.Prelude.{ℕ, ◌==◌, ◌&&◌, ◌++◌, Bool, List, [], filter, if◌then◌else◌, map}
use Rattle.std.specs.Prelude.{nat_lt, option_map, option_to_list, slice_get, unwrap_or}
use Rattle.std.specs.List.{flat_map, list_any}
use Rattle.ca_model.specs.History.{Circuit, Sent}
use Rattle.ca_model.specs.Speech.{sid_in}
use Rattle.ca_model.specs.World.{Creation, Joined, PutPlace, RecordSide, ServerSide, Standing}
use Rattle.ca_model.specs.World.{World}

-- where the puts of a record came: the one that makes it busy, and those that wait
abbrev pub puts_of : RecordSide → List PutPlace
puts_of r = option_to_list r.busy ++ r.waiting

-- and those of all records
abbrev pub put_places : List RecordSide → List PutPlace
put_places records = flat_map puts_of records

-- the SID in the message at this place
abbrev pub sid_at : Circuit → ℕ → ℕ
sid_at c p = unwrap_or (option_map (λ (s : Sent). sid_in s.message) (slice_get c.up p)) 0

-- The channel of the message at this place is open still: one is open under its SID that
-- was created before it.
abbrev pub has_channel : Joined → ℕ → Bool
has_channel j p =
    list_any (λ (c : Creation). c.sid == sid_at j.lists p && nat_lt c.place p) j.creations

-- a put came on circuit n, on a channel that is open
abbrev pub is_kept : (n : ℕ) → Joined → PutPlace → Bool
is_kept n j p = p.circuit == n && has_channel j p.place

-- of circuit n, with these records at its server: its puts on open channels, its
-- subscriptions, and its channels
abbrev pub kept_of : (n : ℕ) → List RecordSide → Joined → List ℕ
kept_of n records j =
    map (λ (p : PutPlace). p.place) (filter (is_kept n j) (put_places records))
    ++ (map (λ (s : Standing). s.place) j.standing ++ map (λ (c : Creation). c.place) j.creations)

-- the records of the server that a circuit joins
abbrev pub records_at : World → Joined → List RecordSide
records_at w j =
    unwrap_or (option_map (λ (y : ServerSide). y.records) (slice_get w.servers j.server)) []

-- The places of circuit n for which its server keeps something: nothing, once its end has ended.
abbrev pub kept : World → (n : ℕ) → List ℕ
kept w n =
    unwrap_or
    (option_map (λ (j : Joined). if j.lists.server_open then kept_of n (records_at w j) j else [])
    (slice_get w.circuits n)) []
