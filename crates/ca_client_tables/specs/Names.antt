-- Working: the circuits of name servers, as they are made one after another. No clause
-- of a caller needs it.
use Rattle.std.specs.Prelude.{ℕ, ◌≡◌, ◌++◌, Bool, true, List, [], ◌∷◌, map, slice_index_or, take}
use Rattle.std.specs.Prelude.{◌&&◌, is_some}
use Rattle.std.specs.List.{list_any}
use Rattle.ca_arena.specs.declared.handle.Handle.{Handle}
use Rattle.ca_ids.specs.Table.{MayGive, Table, held, with_held}
use Rattle.ca_model.specs.Client.{ClientCircuit, new_circuit}
use Rattle.ca_model.specs.ClientEnds.{name_circuits}
use Rattle.ca_model.specs.Ends.{Address, same_address}

-- the address is one of these
abbrev pub is_among : Address → List Address → Bool
is_among a names = list_any (λ (b : Address). same_address a b) names

abbrev pub nowhere : Address
nowhere = record { host = 0; port = 0 }

-- the address at this place is one of those before it
abbrev pub seen_before : ℕ → List Address → Bool
seen_before i names = is_among (slice_index_or names i nowhere) (take i names)

-- these are the circuits of these name servers, in order
pub record HasNames (names : List Address) (t : Table ClientCircuit)
    (order : List Handle) : Type 0 where
  pub circuits : t ≡ name_circuits names
  pub listed : order ≡ map (λ (e : Handle × ClientCircuit). e.0) (held t)

-- A circuit of a name server was added at the end.
pub record Adds (a : Address) (t : Table ClientCircuit) (order : List Handle)
    (u : Table ClientCircuit) (after : List Handle) : Type 0 where
  pub handle : Handle
  pub may : MayGive t handle
  pub table : u ≡ with_held handle (new_circuit a 0 true) t
  pub last : after ≡ order ++ handle ∷ []

-- it is the circuit of a name server, and connected
abbrev pub is_name_in : ClientCircuit → Bool
is_name_in d = d.is_name && is_some d.connection
