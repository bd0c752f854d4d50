-- Statement: from which events those entries of servers' logs come that no message of a client
-- makes: posts, additions, removals and finishes.
use Rattle.std.specs.Prelude.{ℕ, ◌≡◌, ◌<◌, ◌++◌, true, List, Option, Some, None, length, take}
use Rattle.std.specs.List.{filter_map, range_with_len}
use Rattle.ca_records.specs.Record.{unset}
use Rattle.ca_text.specs.Place.{At}
use Rattle.ca_model.specs.Channels.{Has}
use Rattle.ca_model.specs.Events.{Event}
use Rattle.ca_model.specs.Events as event
use Rattle.ca_model.specs.History.{Entry, Added, Applied, Finished, Posted, Removed}
use Rattle.ca_model.specs.Speech.{In, Stored}
use Rattle.ca_model.specs.World.{ServerSetting, Setting, log_begun}

-- no message of a client makes the entry
abbrev pub IsUnasked : Entry → Type 0
IsUnasked (Posted r mask v) = Unit {0}
IsUnasked (Added r s) = Unit {0}
IsUnasked (Removed r) = Unit {0}
IsUnasked (Finished n k) = Unit {0}
IsUnasked e = ⊥

-- At server i, whose log is y so far, the event makes this entry: it posts this value to the record
-- of its name; adds this record; removes the one of its name; or finishes the put that was applied
-- to that and made it busy.
abbrev pub MakesEntry : (i : ℕ) → List Entry → Event → Entry → Type 0
MakesEntry i y (event.Post j name e mask) (Posted r m v) =
    (j ≡ i) × Has y r name × (m ≡ mask) × (v ≡ record { value = e; meta = unset })
MakesEntry i y (event.Add j s) (Added r t) = (j ≡ i) × (t ≡ s)
MakesEntry i y (event.Remove j name) (Removed r) = (j ≡ i) × Has y r name
MakesEntry i y (event.Finish j name) (Finished n k) =
    (j ≡ i) × ((r : ℕ) × (v : Stored) × In y (Applied n k r v true) × Has y r name)
MakesEntry i y e entry = ⊥

-- the server whose new life an event begins
abbrev pub restarted : Event → Option ℕ
restarted (event.ServerRestart i) = Some i
restarted e = None

-- The server of each life: of the first lives each of the setting's, and then of each restart.
abbrev pub servers_of : Setting → List Event → List ℕ
servers_of s es = range_with_len 0 (length s.servers) ++ filter_map restarted es

-- Entry k of a log of server i, which is y before it, is from the event at this place; or from
-- none, and then it adds the record of this number that the server was given.
abbrev pub IsFrom : Setting → List Event → (i k : ℕ) → List Entry → Entry → Option ℕ → Type 0
IsFrom s es i k y entry (Some place) = (e : Event) × At es place e × MakesEntry i y e entry
IsFrom s es i k y entry None =
    (given : ServerSetting) × At s.servers i given × At (log_begun given) k entry

-- Each post, addition, removal and finish in the servers' logs is from an event of its own at its
-- server, in the order of the events, but for the records that the server was given.
pub record ComeFromEvents (s : Setting) (es : List Event) (logs : List (List Entry)) : Type 0 where
  pub origin : (life k : ℕ) → Option ℕ
  pub each : (life k : ℕ) (y : List Entry) (entry : Entry) → At logs life y → At y k entry
      → IsUnasked entry
      → (i : ℕ) × At (servers_of s es) life i × IsFrom s es i k (take k y) entry (origin life k)
  pub own : (life lives k l place : ℕ) → origin life k ≡ Some place → origin lives l ≡ Some place
      → (life ≡ lives) × (k ≡ l)
  pub in_order : (life k l a b : ℕ) (y : List Entry) → At logs life y → k < l → l < length y
      → origin life k ≡ Some a → origin life l ≡ Some b → a < b
