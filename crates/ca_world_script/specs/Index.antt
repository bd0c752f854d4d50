-- Working: the types that `add` lines name, as a map has them.
use Rattle.std.specs.Prelude.{ℕ, ◌==◌, ◌&&◌, List}
use Rattle.std.specs.Map.{lookup}
use Rattle.std.specs.Str.{bytes_eq}
use Rattle.ca_dbr.specs.declared.data_type.BaseType.{BaseType}
use Rattle.ca_world_script.specs.Types.{Added}
use Rattle.ca_world_script.specs.declared.types.Types.{Types}

abbrev pub added_in : {K : Type 0} → (K → ℕ × List ℕ) → List (K × BaseType) → Added
added_in key entries =
    λ server name. lookup (λ k. server == (key k).0 && bytes_eq name (key k).1) entries

-- the types that were named
abbrev pub added_of : Types → Added
added_of t = added_in (λ k. (k.0, k.1.items)) t.named.entries
