-- Working: the open channels of a circuit by the names of their records.
use Rattle.std.specs.Prelude.{ℕ, ◌≡◌, ◌<◌, ◌≤◌, Bool, true, false, List, [], ◌∷◌, ◌++◌, Option}
use Rattle.std.specs.Prelude.{Some, None, filter, length, map, unwrap_or}
use Rattle.std.specs.Map.{lookup}
use Rattle.std.specs.Str.{bytes_eq}
use Rattle.ca_arena.specs.declared.handle.Handle.{Handle}
use Rattle.ca_ids.specs.Table.{Table, held}
use Rattle.ca_model.specs.Server.{OpenChannel, ServerEnd}
use Rattle.ca_server_circuit.specs.Removing.{leads_to, without_channels}

-- the channels to the record of this name, in order of index
abbrev pub channels_to : (name : List ℕ) → Table OpenChannel → List Handle
channels_to name t = map (λ (c : Handle × OpenChannel). c.0) (filter (leads_to name) (held t))

-- the last of them
abbrev pub IsLastTo : (name : List ℕ) → Table OpenChannel → Option Handle → Type 0
IsLastTo name t None = channels_to name t ≡ []
IsLastTo name t (Some h) = (others : List Handle) × (channels_to name t ≡ others ++ h ∷ [])

-- If a channel leads to the record of this name, one of them is retired: what is to be done for the
-- record is done with those that are left.
abbrev pub RetiresLast : List ℕ → ServerEnd → Bool → ServerEnd → Type 0
RetiresLast name e true new =
    (without_channels name new ≡ without_channels name e)
    × (length (channels_to name new.channels) < length (channels_to name e.channels))
RetiresLast name e false new = (channels_to name e.channels ≡ []) × (new ≡ e)

-- ---- lines of them, each under the name of its record

abbrev pub Lines : Type 0
Lines = List (List ℕ × List Handle)

-- the line of this name, if there is one
abbrev pub line_of : Lines → (name : List ℕ) → Option (List Handle)
line_of lines name = lookup (bytes_eq name) lines

-- those in it
abbrev pub channels_in : Lines → (name : List ℕ) → List Handle
channels_in lines name = unwrap_or (line_of lines name) []

abbrev pub lines_in : {K : Type 0} → (K → List ℕ) → List (K × List Handle) → Lines
lines_in bytes es = map (λ e. (bytes e.0, e.1)) es

-- the line of each name has just the channels to the record of this name
abbrev pub AreByName : Lines → Table OpenChannel → Type 0
AreByName lines t = (name : List ℕ) → channels_in lines name ≡ channels_to name t

-- ---- where a channel is in a line

-- all of these have lower indices
abbrev pub AreBelow : ℕ → List Handle → Type 0
AreBelow i [] = Unit {0}
AreBelow i (h ∷ hs) = (h.index < i) × AreBelow i hs

-- none of these has a lower index
abbrev pub AreFrom : ℕ → List Handle → Type 0
AreFrom i [] = Unit {0}
AreFrom i (h ∷ hs) = (i ≤ h.index) × AreFrom i hs

-- a channel of this index has this place in a line, if those of lower indices
-- come before all others
abbrev pub IsItsPlace : (index : ℕ) → List Handle → (place : ℕ) → Type 0
IsItsPlace index hs place =
    (below from : List Handle) → hs ≡ below ++ from → AreBelow index below → AreFrom index from
    → place ≡ length below

-- a channel enters a line: after those of lower indices
abbrev pub EntersLine : Handle → (old new : List Handle) → Type 0
EntersLine h old new =
    (below from : List Handle) → old ≡ below ++ from → AreBelow h.index below → AreFrom h.index from
    → new ≡ below ++ h ∷ from

-- a channel is gone from a line
abbrev pub GoesFromLine : Handle → (old new : List Handle) → Type 0
GoesFromLine h old new =
    (below from : List Handle) → old ≡ below ++ h ∷ from → AreBelow h.index below
    → AreFrom h.index from → new ≡ below ++ from

-- A channel entered the line of this name. All other lines have what they had.
pub record Enters (name : List ℕ) (h : Handle) (old new : Lines) : Type 0 where
  pub own : EntersLine h (channels_in old name) (channels_in new name)
  pub stay : (other : List ℕ) → bytes_eq other name ≡ false
      → channels_in new other ≡ channels_in old other

-- A channel is gone from the line of this name. All other lines have what they had.
pub record Goes (name : List ℕ) (h : Handle) (old new : Lines) : Type 0 where
  pub own : GoesFromLine h (channels_in old name) (channels_in new name)
  pub stay : (other : List ℕ) → bytes_eq other name ≡ false
      → channels_in new other ≡ channels_in old other
