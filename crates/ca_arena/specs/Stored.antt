-- What is in the blocks of an arena.
use Rattle.std.specs.Prelude.{ℕ, ◌++◌, [], ◌∷◌, List, slice_set, refl}
use Rattle.std.specs.Coded.{Coded, code_by, coded×, coded_ℕ, coded_list}

-- the items by index, and how many there is memory for
pub record Stored (T : Type 0) : Type 0 where
  pub items : List T
  pub room : ℕ

-- it is stored as the pair of its fields
abbrev pub stored_code : {T : Type 0} → Coded T → Coded (Stored T)
stored_code {T} code =
    code_by
    (List T × ℕ)
    (coded× (coded_list code) coded_ℕ)
    (λ s. (s.items, s.room))
    (λ q. record { items = q.0; room = q.1 })
    (λ _. refl)

module _ {T : Type 0} where
  -- nothing, and no memory
  abbrev pub nothing : Stored T
  nothing = record { items = []; room = 0 }

  -- the same with an item after the others
  abbrev pub pushed : Stored T → T → Stored T
  pushed s item = record { items = s.items ++ item ∷ []; room = s.room }

  -- the same with another item at an index
  abbrev pub with_item : Stored T → ℕ → T → Stored T
  with_item s index item = record { items = slice_set s.items index item; room = s.room }
