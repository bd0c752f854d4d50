-- Working: a put with notification, and a plain write, of a client.
use Rattle.std.specs.Prelude.{ℕ, ◌≡◌, ◌∷◌, ◌+◌, List, [], Result, length}
use Rattle.ca_arena.specs.declared.handle.Handle.{Handle}
use Rattle.ca_dbr.specs.Elements.{Elements}
use Rattle.ca_text.specs.declared.refusal.Refusal.{Refusal}
use Rattle.ca_text.specs.Place.{At}
use Rattle.ca_model.specs.ClientCalls.{ClientPuts, ClientWrites}
use Rattle.ca_model.specs.History.{Called, Intent, Line, On, Request}
use Rattle.ca_model.specs.History as history
use Rattle.ca_model.specs.ClientEvents.{channel_number, with_request}
use Rattle.ca_model.specs.World.{ClientSide, Joined, Names}
use Rattle.ca_world_data.specs.Speaking.{CallsOn}

-- ---- with notification

-- the names with a put more on this channel
abbrev pub put_names : (c : ℕ) → ClientSide → Handle → Names
put_names c x q = with_request q c history.Put x.names

abbrev pub put_meant : (c : ℕ) → ClientSide → Intent
put_meant c x = On c (Request history.Put (length x.names.requests))

abbrev pub PutsOn : (i c : ℕ) → Elements → ClientSide → List (List Line) → List Joined
    → Result (Unit {0}) Refusal → ClientSide → List (List Line) → List Joined → Type 0
PutsOn i c a x logs ks result x' logs' ks' =
    CallsOn i
    (At x.names.channels c)
    (λ (h : Handle). ClientPuts x.core h a)
    (λ (h q : Handle). put_names c x q)
    (λ (h q : Handle). put_names c x q)
    (λ (h q : Handle). Called (put_meant c x) (history.ToWrite a) ∷ [])
    x logs ks result x' logs' ks'

-- ---- without

-- each channel has one number
abbrev pub AreOnce : Names → Type 0
AreOnce n = (i : ℕ) (h : Handle) → At n.channels i h → channel_number n h ≡ i

-- the names with a plain write more
abbrev pub write_names : ClientSide → Names
write_names x = record x.names { writes = x.names.writes + 1 }

abbrev pub write_meant : (c : ℕ) → ClientSide → Intent
write_meant c x = On c (Request history.Write x.names.writes)

abbrev pub WritesOn : (i c : ℕ) → Elements → ClientSide → List (List Line) → List Joined
    → Result (Unit {0}) Refusal → ClientSide → List (List Line) → List Joined → Type 0
WritesOn i c a x logs ks result x' logs' ks' =
    CallsOn i
    (At x.names.channels c)
    (λ (h : Handle). ClientWrites x.core h a)
    (λ (h : Handle) (u : Unit {0}). x.names)
    (λ (h : Handle) (u : Unit {0}). write_names x)
    (λ (h : Handle) (u : Unit {0}). Called (write_meant c x) (history.ToWrite a) ∷ [])
    x logs ks result x' logs' ks'
