-- Vocabulary: when a post is refused, and when a new record (section "Process Variables").
use Rattle.std.specs.Prelude.{ℕ, ◌≡◌, ◌≢◌, ◌<◌, ◌≤◌, ◌⊎◌, true, List, Some, None, is_some}
use Rattle.ca_text.specs.declared.refusal.Refusal.{Refusal}
use Rattle.ca_text.specs.declared.refusal.Refusal.TheVariants as refusal
use Rattle.ca_text.specs.Limits.{record_name_limit}
use Rattle.ca_text.specs.Name.{IsName}
use Rattle.ca_dbr.specs.Elements.{Elements, count_of}
use Rattle.ca_dbr.specs.Held.{kind_of}
use Rattle.ca_records.specs.Puts.{Record, record_named}
use Rattle.ca_records.specs.Record.{HoldsValue, RecordState, unset}

-- why a post is refused: no record has the name; the value is not of its type; it has no element,
-- or more than the greatest count
abbrev pub PostFault : List Record → List ℕ → Elements → Refusal → Type 0
PostFault records name e refusal.UnknownRecord = record_named records name ≡ None
PostFault records name e refusal.BadType =
    (r : Record) × (record_named records name ≡ Some r) × (kind_of e ≢ kind_of r.state.value)
PostFault records name e refusal.BadCount =
    (r : Record) × (record_named records name ≡ Some r) × (kind_of e ≡ kind_of r.state.value)
    × ((count_of e ≡ 0) ⊎ (r.state.count < count_of e))
PostFault records name e other = ⊥

-- the value is one that the record may have
abbrev pub PostFits : List Record → List ℕ → Elements → Type 0
PostFits records name e =
    (r : Record) × (record_named records name ≡ Some r) × (kind_of e ≡ kind_of r.state.value)
    × (0 < count_of e) × (count_of e ≤ r.state.count)

-- why a record is not added: a name that is none, one that is served now, or a
-- value that does not fit
abbrev pub AddFault : List Record → RecordState → Refusal → Type 0
AddFault records s refusal.NameLength = IsName record_name_limit s.name → ⊥
AddFault records s refusal.RecordExists =
    IsName record_name_limit s.name × (is_some (record_named records s.name) ≡ true)
AddFault records s refusal.BadCount =
    IsName record_name_limit s.name × (record_named records s.name ≡ None)
    × (HoldsValue s.count s.value → ⊥)
AddFault records s e = ⊥

-- a record may be added as this
abbrev pub MayAdd : List Record → RecordState → Type 0
MayAdd records s =
    IsName record_name_limit s.name × (record_named records s.name ≡ None)
    × HoldsValue s.count s.value × (s.meta ≡ unset)
