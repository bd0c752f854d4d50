-- Vocabulary: a table of wire ids by index, as whoever gives the ids sees it (section
-- "Message Identifiers").
use Rattle.std.specs.Prelude.{ℕ, ◌≡◌, ◌<◌, ◌≤◌, ◌+◌, ◌==◌, ◌&&◌, Bool, true, List, [], ◌∷◌, ◌++◌}
use Rattle.std.specs.Prelude.{Option, Some, None, find, if◌then◌else◌, is_some, length, map, nat_le}
use Rattle.std.specs.Prelude.{nat_lt, not, option_map, option_to_list, slice_set}
use Rattle.std.specs.List.{list_any}
use Rattle.ca_text.specs.Limits.{arena_slots, last_generation}
use Rattle.ca_arena.specs.declared.handle.Handle.{Handle}
use Rattle.ca_arena.specs.Arena.{Place, place_at, value_for}
use Rattle.ca_ids.specs.Wire.{wire_of}

-- For each index that was given: the generation given last, and what holds the id, until it is
-- free. What drains holds its id still.
abbrev pub Table : Type 0 → Type 0
Table T = List (Place T)

-- both are one handle
abbrev pub same_handle : Handle → Handle → Bool
same_handle a b = a.index == b.index && a.generation == b.generation

module _ {T : Type 0} where
  -- what holds the id of a handle
  abbrev pub under : Table T → Handle → Option T
  under t h = value_for h.generation (place_at t h.index)

  -- what holds an id from this index on, in order of index
  abbrev pub held_from : ℕ → Table T → List (Handle × T)
  held_from i [] = []
  held_from i (p ∷ t) =
      option_to_list
      (option_map (λ (v : T). (record { index = i; generation = p.generation }, v)) p.value)
      ++ held_from (i + 1) t

  -- all that holds an id, in order of index
  abbrev pub held : Table T → List (Handle × T)
  held t = held_from 0 t

  -- what holds an id at this place of this index
  abbrev pub held_at : ℕ → Place T → Option (Handle × T)
  held_at i p = option_map (λ (v : T). (record { index = i; generation = p.generation }, v)) p.value

  -- what has this wire id
  abbrev pub by_wire : Table T → ℕ → Option (Handle × T)
  by_wire t id = find (λ (x : Handle × T). wire_of x.0 == id) (held t)

  -- An id that may be given: nothing holds its index, or none had it, and it is the
  -- next generation there.
  pub record MayGive (t : Table T) (h : Handle) : Type 0 where
    pub index : h.index ≤ length t
    pub slot : h.index < arena_slots
    pub free : (place_at t h.index).value ≡ None
    pub next : h.generation ≡ (place_at t h.index).generation + 1
    pub last : h.generation ≤ last_generation

  -- an index that had an id may have another
  abbrev pub has_free : Table T → Bool
  has_free t =
      list_any (λ (p : Place T). not (is_some p.value) && nat_lt p.generation last_generation) t

  -- No id may be given: each index is held, or had its last generation.
  abbrev pub is_full : Table T → Bool
  is_full t = nat_le arena_slots (length t) && not (has_free t)

  abbrev pub IsFull : Table T → Type 0
  IsFull t = is_full t ≡ true

  -- the table in which this holds the id of a handle
  abbrev pub with_held : Handle → T → Table T → Table T
  with_held h v t =
      let p : Place T =
      record { generation = h.generation; value = Some v } in if h.index == length t then t
      ++ p ∷ [] else slice_set t h.index p

  -- the table in which these hold the ids of their handles
  abbrev pub with_all_held : List (Handle × T) → Table T → Table T
  with_all_held [] t = t
  with_all_held (e ∷ es) t = with_all_held es (with_held e.0 e.1 t)

  -- each of these handles may be given, once those before it are
  abbrev pub MayGiveAll : Table T → List (Handle × T) → Type 0
  MayGiveAll t [] = Unit {0}
  MayGiveAll t (e ∷ es) = MayGive t e.0 × MayGiveAll (with_held e.0 e.1 t) es

  -- the table with what holds the id of this handle changed; a stale handle changes nothing
  abbrev pub with_changed : (T → T) → Handle → Table T → Table T
  with_changed f h t =
      if is_some (under t h) then slice_set t h.index
      (record { generation = h.generation; value = option_map f (under t h) }) else t

  -- the table in which the id of this handle is free; a stale handle changes nothing
  abbrev pub with_freed : Handle → Table T → Table T
  with_freed h t =
      if is_some (under t h) then slice_set t h.index
      (record { generation = h.generation; value = None }) else t

  -- the table with all that holds an id changed
  abbrev pub with_all : (T → T) → Table T → Table T
  with_all f t = map (λ (p : Place T). record p { value = option_map f p.value }) t

  -- what stays of a place if the test frees its id
  abbrev pub kept_of : (T → Bool) → Option T → Option T
  kept_of frees None = None
  kept_of frees (Some v) = if frees v then None else Some v

  -- the table in which all ids that the test names are free
  abbrev pub with_all_freed : (T → Bool) → Table T → Table T
  with_all_freed frees t = map (λ (p : Place T). record p { value = kept_of frees p.value }) t

  -- the table with each changed, by its handle
  abbrev pub with_each_from : ℕ → (Handle → T → T) → Table T → Table T
  with_each_from i f [] = []
  with_each_from i f (p ∷ t) =
      record p {
        value = option_map
            (f (record { index = i; generation = p.generation })) p.value;
      } ∷ with_each_from (i + 1) f t

  abbrev pub with_each : (Handle → T → T) → Table T → Table T
  with_each f t = with_each_from 0 f t
