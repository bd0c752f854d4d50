-- Working: the channels that are live on each circuit, listed beside their table. No clause
-- of a caller needs it.
use Rattle.std.specs.Prelude.{ℕ, ◌≡◌, ◌⊎◌, Bool, true, false, List, [], ◌∷◌, Some, option_map}
use Rattle.std.specs.Prelude.{slice_index_or, unwrap_or}
use Rattle.ca_arena.specs.declared.handle.Handle.{Handle}
use Rattle.ca_ids.specs.Table.{Table, under}
use Rattle.ca_model.specs.Client.{Channel, On, Searching, Standing, is_live, is_on_in}

-- the list has this handle
abbrev pub Has : List Handle → Handle → Type 0
Has [] h = ⊥
Has (g ∷ hs) h = (g ≡ h) ⊎ Has hs h

-- what is listed at an index
abbrev pub list_at : List (List Handle) → ℕ → List Handle
list_at lists i = slice_index_or lists i []

-- it is live, on whichever circuit
abbrev pub lives_in : Standing → Bool
lives_in Searching = false
lives_in (On c p) = is_live p

-- the channel of this handle is live
abbrev pub is_live_in : Table Channel → Handle → Bool
is_live_in t h =
    unwrap_or (option_map (λ (here : Channel). lives_in here.standing) (under t h)) false

-- what is live stays listed
abbrev pub KeepsLive : Table Channel → List Handle → List Handle → Type 0
KeepsLive t old new = (h : Handle) → is_live_in t h ≡ true → Has old h → Has new h

-- in each list
abbrev pub KeepsAll : Table Channel → List (List Handle) → List (List Handle) → Type 0
KeepsAll t old new = (i : ℕ) → KeepsLive t (list_at old i) (list_at new i)

-- Each channel that is live is listed at the index of its circuit.
abbrev pub AreListed : Table Channel → List (List Handle) → Type 0
AreListed t lists =
    (h : Handle) (ch : Channel) (c : Handle) → under t h ≡ Some ch → is_on_in is_live c ch ≡ true
    → Has (list_at lists c.index) h
