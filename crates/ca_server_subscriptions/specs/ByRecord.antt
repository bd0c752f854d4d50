-- Working: the subscriptions of an end by the names of their records, as far as a post needs them.
use Rattle.std.specs.Prelude.{ℕ, ◌≡◌, Bool, false, true, not, List, [], ◌∷◌, ◌++◌, Option, Some}
use Rattle.std.specs.Prelude.{filter, map, unwrap_or}
use Rattle.std.specs.Map.{lookup}
use Rattle.std.specs.Str.{bytes_eq}
use Rattle.ca_text.specs.Place.{At}
use Rattle.ca_queue.specs.declared.entry.SubKey.{SubKey}
use Rattle.ca_queue.specs.Keys.{AreApart, same}
use Rattle.ca_model.specs.Server.{Subscription}
use Rattle.ca_queue.specs.Queue.{Queue}
use Rattle.ca_model.specs.Speech.{Stored, share_bit}
use Rattle.ca_server_subscriptions.specs.Subscribed.{ArePlaced, Standings, is_on, keys_in}

-- what a post needs of a subscription: its key, its mask, and the place of its queue
pub record Receiver : Type 0 where
  pub key : SubKey
  pub mask : ℕ
  pub queue : ℕ

abbrev pub receiver_of : SubKey × (Subscription × ℕ) → Receiver
receiver_of e = record { key = e.0; mask = e.1.0.mask; queue = e.1.1 }

-- those on the record of this name
abbrev pub receivers_of : (name : List ℕ) → Standings → List Receiver
receivers_of name es =
    map receiver_of (filter (λ (e : SubKey × (Subscription × ℕ)). is_on name e.1.0) es)

-- its mask shares a bit with this one
abbrev pub is_masked : (mask : ℕ) → Receiver → Bool
is_masked mask r = share_bit mask r.mask

-- these without the subscription of this key
abbrev pub without : SubKey → List Receiver → List Receiver
without key rs = filter (λ (r : Receiver). not (same key r.key)) rs

-- The subscription at this place is in the line, which has just those on its record.
pub record IsInLine (es : Standings) (place : ℕ) (rs : List Receiver) : Type 0 where
  pub name : List ℕ
  pub line : rs ≡ receivers_of name es
  pub entry : SubKey × (Subscription × ℕ)
  pub at : At es place entry
  pub on : is_on name entry.1.0 ≡ true
  pub apart : AreApart (keys_in es)

-- it is gone from the line
abbrev pub LeavesLine : Standings → (place : ℕ) → (old new : List Receiver) → Type 0
LeavesLine es place old new = (key : SubKey) → At (keys_in es) place key → new ≡ without key old

-- ---- lines of them, each under the name of its record

abbrev pub Lines : Type 0
Lines = List (List ℕ × List Receiver)

-- the line of this name, if there is one
abbrev pub line_of : Lines → (name : List ℕ) → Option (List Receiver)
line_of lines name = lookup (bytes_eq name) lines

-- those in it
abbrev pub receivers_in : Lines → (name : List ℕ) → List Receiver
receivers_in lines name = unwrap_or (line_of lines name) []

abbrev pub lines_in : {K : Type 0} → (K → List ℕ) → List (K × List Receiver) → Lines
lines_in bytes es = map (λ e. (bytes e.0, e.1)) es

-- One came to the end of the line of this name. All other lines have whom they had.
pub record Adds (name : List ℕ) (r : Receiver) (old new : Lines) : Type 0 where
  pub own : receivers_in new name ≡ receivers_in old name ++ r ∷ []
  pub stay : (other : List ℕ) → bytes_eq other name ≡ false
      → receivers_in new other ≡ receivers_in old other

-- One is gone from the line of this name. All other lines have whom they had.
pub record Drops (name : List ℕ) (key : SubKey) (old new : Lines) : Type 0 where
  pub own : receivers_in new name ≡ without key (receivers_in old name)
  pub stay : (other : List ℕ) → bytes_eq other name ≡ false
      → receivers_in new other ≡ receivers_in old other

-- each line has just the subscriptions on the record of its name, in their order
abbrev pub AreByRecord : Lines → Standings → Type 0
AreByRecord lines es = (name : List ℕ) → receivers_in lines name ≡ receivers_of name es

-- these are those on a record, of subscriptions that the queues have
abbrev pub ArePlacedIn : List Receiver → List (Queue Stored) → Type 0
ArePlacedIn rs qs =
    (es : Standings) × (name : List ℕ) × ArePlaced es qs × (rs ≡ receivers_of name es)

-- whoever is at this place is the only one on its record
abbrev pub IsOnlyOne : Option ℕ → Standings → Type 0
IsOnlyOne only_one es =
    (place : ℕ) (e : SubKey × (Subscription × ℕ)) → only_one ≡ Some place → At es place e
    → receivers_of e.1.0.name es ≡ receiver_of e ∷ []

-- it is the only one on the record of this name, and is under its key
abbrev pub IsOnlyOn : (name : List ℕ) → Subscription × ℕ → Standings → Type 0
IsOnlyOn name of es =
    (key : SubKey) × (receivers_of name es ≡ receiver_of (key, of) ∷ [])
    × (lookup (same key) es ≡ Some of)
