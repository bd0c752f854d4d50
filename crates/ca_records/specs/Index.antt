-- How a record is found by its name.
use Rattle.std.specs.Prelude.{ℕ, ◌≡◌, List, Option, Some}
use Rattle.std.specs.Cmp.Lexicographic.{slice_cmp}
use Rattle.std.specs.Map.{lookup}
use Rattle.std.specs.Ordering.{is_eq, nat_cmp}
use Rattle.std.specs.Str.{bytes_eq}
use Rattle.ca_text.specs.Place.{At}
use Rattle.ca_records.specs.Record.{RecordState}
use Rattle.ca_records.specs.Records.{Names}

-- the place that is beside this name in a map
abbrev pub place_of : {K : Type 0} → (K → List ℕ) → List (K × ℕ) → List ℕ → Option ℕ
place_of bytes entries name = lookup (λ k. is_eq (slice_cmp nat_cmp name (bytes k))) entries

-- the same in a map that hashes its names
abbrev pub place_in : {K : Type 0} → (K → List ℕ) → List (K × ℕ) → List ℕ → Option ℕ
place_in bytes entries name = lookup (λ k. bytes_eq name (bytes k)) entries

-- These places of names are those of the records: each leads to a record of that name, and
-- each record is led to.
pub record IsIndex (records : List RecordState) (places : List ℕ → Option ℕ) : Type 0 where
  pub found : (name : List ℕ) (place : ℕ) → places name ≡ Some place → Names records name place
  pub listed : (place : ℕ) (state : RecordState) → At records place state
      → places state.name ≡ Some place
