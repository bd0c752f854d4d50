-- Vocabulary: who may read and write a record (section "CA_PROTO_ACCESS_RIGHTS").
use Rattle.std.specs.Prelude.{ℕ, ◌+◌, ◌/◌, ◌%◌, ◌==◌, ◌&&◌, Bool, true, cond, List, Option, Some}
use Rattle.std.specs.Prelude.{None, find, option_map, unwrap_or}
use Rattle.std.specs.Str.{bytes_eq}

-- A rule on access rights: whom and what it meets, where none stands for everything, and whether it
-- lets read and write.
pub record Rule : Type 0 where
  pub user : Option (List ℕ)
  pub host : Option (List ℕ)
  pub record_name : Option (List ℕ)
  pub reads : Bool
  pub writes : Bool

-- none meets every word
abbrev pub meets : Option (List ℕ) → List ℕ → Bool
meets None word = true
meets (Some w) word = bytes_eq w word

-- the rule meets this user on this host and this record
abbrev pub rule_meets : (user host name : List ℕ) → Rule → Bool
rule_meets user host name r = meets r.user user && (meets r.host host && meets r.record_name name)

-- the rights that a rule gives
abbrev pub rule_bits : Rule → ℕ
rule_bits r = cond r.reads 1 0 + cond r.writes 2 0

-- The access rights, the bits 1 to read and 2 to write: by the first rule that meets,
-- and both if none does.
abbrev pub rights : List Rule → (user host name : List ℕ) → ℕ
rights rules user host name =
    unwrap_or (option_map rule_bits (find (rule_meets user host name) rules)) 3

-- the right to read: the bit 1
abbrev pub may_read : ℕ → Bool
may_read bits = bits % 2 == 1

-- the right to write: the bit 2
abbrev pub may_write : ℕ → Bool
may_write bits = bits / 2 % 2 == 1
