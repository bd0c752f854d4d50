-- Working: a read of a client.
use Rattle.std.specs.Prelude.{ℕ, ◌∷◌, List, [], Result, length}
use Rattle.ca_arena.specs.declared.handle.Handle.{Handle}
use Rattle.ca_text.specs.declared.refusal.Refusal.{Refusal}
use Rattle.ca_text.specs.Place.{At}
use Rattle.ca_model.specs.ClientCalls.{ClientReads, Shape}
use Rattle.ca_model.specs.History.{Called, Intent, Line, On, Request}
use Rattle.ca_model.specs.History as history
use Rattle.ca_model.specs.ClientEvents.{with_request}
use Rattle.ca_model.specs.World.{ClientSide, Joined, Names}
use Rattle.ca_world_data.specs.Speaking.{CallsOn}

-- the names with a read more on this channel
abbrev pub read_names : (c : ℕ) → ClientSide → Handle → Names
read_names c x q = with_request q c history.Read x.names

-- what is meant by the next read of this channel
abbrev pub read_meant : (c : ℕ) → ClientSide → Intent
read_meant c x = On c (Request history.Read (length x.names.requests))

abbrev pub ReadsOn : (i c : ℕ) → Shape → ClientSide → List (List Line) → List Joined
    → Result (Unit {0}) Refusal → ClientSide → List (List Line) → List Joined → Type 0
ReadsOn i c a x logs ks result x' logs' ks' =
    CallsOn i
    (At x.names.channels c)
    (λ (h : Handle). ClientReads x.core h a)
    (λ (h q : Handle). read_names c x q)
    (λ (h q : Handle). read_names c x q)
    (λ (h q : Handle). Called (read_meant c x) (history.ToRead a.data_type a.count) ∷ [])
    x logs ks result x' logs' ks'
