-- Working: the subscriptions of an end by the SIDs of their channels.
use Rattle.std.specs.Prelude.{ℕ, ◌≡◌, ◌==◌, nat_eq, not, List, [], ◌∷◌, ◌++◌, Option, filter}
use Rattle.std.specs.Prelude.{if◌then◌else◌, map, unwrap_or}
use Rattle.std.specs.Map.{lookup}
use Rattle.ca_queue.specs.declared.entry.SubKey.{SubKey}
use Rattle.ca_server_subscriptions.specs.Subscribed.{Standings, is_of_sid, keys_in}

-- by a SID the ids of the subscriptions of its channel, in the order of their EVENT_ADDs
abbrev pub Ids : Type 0
Ids = ℕ → List ℕ

-- those of these keys
abbrev pub ids_of : List SubKey → Ids
ids_of keys sid = map (λ (key : SubKey). key.sub) (filter (is_of_sid sid) keys)

-- with this one after all others of its channel
abbrev pub with_id : SubKey → Ids → Ids
with_id key ids sid = if is_of_sid sid key then ids sid ++ key.sub ∷ [] else ids sid

-- without this one
abbrev pub without_id : SubKey → Ids → Ids
without_id key ids sid =
    if is_of_sid sid key then filter (λ (id : ℕ). not (key.sub == id)) (ids sid) else ids sid

-- ---- lines of them, each under the SID of its channel

abbrev pub IdLines : Type 0
IdLines = List (ℕ × List ℕ)

-- the line of this SID, if there is one
abbrev pub line_of : IdLines → (sid : ℕ) → Option (List ℕ)
line_of lines sid = lookup (nat_eq sid) lines

-- those in it
abbrev pub ids_in : IdLines → Ids
ids_in lines sid = unwrap_or (line_of lines sid) []

abbrev pub id_lines : {V : Type 0} → (V → List ℕ) → List (ℕ × V) → IdLines
id_lines items es = map (λ e. (e.0, items e.1)) es

-- by each SID just the ids of those subscriptions whose key has it
abbrev pub AreByChannel : IdLines → Standings → Type 0
AreByChannel lines es = ids_in lines ≡ ids_of (keys_in es)
