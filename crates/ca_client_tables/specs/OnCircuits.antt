-- Working: the channels on each circuit, by their indices. No clause of a caller needs it.
use Rattle.std.specs.Prelude.{ℕ, ◌==◌, Bool, false, List, Option, Some, None}
use Rattle.ca_ids.specs.Table.{Table}
use Rattle.ca_lists.specs.Lists.{Ascends, upto}
use Rattle.ca_lists.specs.Walks.{AreAllIn}
use Rattle.ca_model.specs.Client.{Channel, On, Searching, Standing}
use Rattle.ca_client_tables.specs.declared.candidates.Candidates.{Candidates}
use Rattle.ca_client_tables.specs.declared.candidates.Candidates.TheVariants as candidates

-- the index of the circuit on which a channel is
abbrev pub stood_on : Standing → Option ℕ
stood_on Searching = None
stood_on (On c p) = Some c.index

abbrev pub circuit_of : Channel → Option ℕ
circuit_of here = stood_on here.standing

abbrev pub is_index : ℕ → Option ℕ → Bool
is_index o None = false
is_index o (Some i) = i == o

-- it is on a circuit of this index
abbrev pub is_on_index : ℕ → Option Channel → Bool
is_on_index o None = false
is_on_index o (Some here) = is_index o (stood_on here.standing)

-- the indices that are looked at
abbrev pub indices_of : Candidates → List ℕ
indices_of (candidates.Listed xs) = xs.now
indices_of (candidates.All n) = upto n

-- All channels on a circuit of this index are at these indices, which ascend.
pub record MayBeOn (o : ℕ) (t : Table Channel) (xs : List ℕ) : Type 0 where
  pub ascends : Ascends xs
  pub all : AreAllIn circuit_of o t xs
