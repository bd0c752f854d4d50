-- Working: what entries of a server's log are to the posts of its records.
use Rattle.std.specs.Prelude.{ℕ, ◌≡◌, List, Some, map}
use Rattle.ca_records.specs.Puts.{Record, record_named}
use Rattle.ca_model.specs.History.{Applied, Entry, Finished, Posted, Waits, Withdrawn}
use Rattle.ca_model.specs.ServerSteps.{write_mask}
use Rattle.ca_model.specs.Speech.{In, Stored}
use Rattle.ca_model.specs.ServerEvents.{number_of}
use Rattle.ca_model.specs.World.{RecordSide}
use Rattle.ca_laws_parts.specs.Agrees.{stored, value_by}

-- An entry that posts nothing, and adds or removes no record.
abbrev pub IsQuiet : Entry → Type 0
IsQuiet (Waits n k r v) = Unit {0}
IsQuiet (Finished n k) = Unit {0}
IsQuiet (Withdrawn n k) = Unit {0}
IsQuiet e = ⊥

abbrev pub AreQuiet : List Entry → Type 0
AreQuiet es = (e : Entry) → In es e → IsQuiet e

-- An entry that posts this value to record r: by a post with this mask, or by a write.
abbrev pub IsPost : (r mask : ℕ) → Stored → Entry → Type 0
IsPost r mask v (Posted i m u) = (i ≡ r) × (m ≡ mask) × (u ≡ v)
IsPost r mask v (Applied n k i u busies) = (i ≡ r) × (mask ≡ write_mask) × (u ≡ v)
IsPost r mask v e = ⊥

-- the names of records, each with its number
abbrev pub title : RecordSide → List ℕ × ℕ
title r = (r.name, r.number)

abbrev pub titles : List RecordSide → List (List ℕ × ℕ)
titles rs = map title rs

-- The log says the value of each record that a core has.
abbrev pub Tells : List Entry → List Record → List RecordSide → Type 0
Tells log cs rs = (name : List ℕ) (c : Record) → record_named cs name ≡ Some c
    → (r : RecordSide) × In rs r × (r.name ≡ name) × (number_of name rs ≡ r.number)
    × (value_by log r.number ≡ Some (stored c))
