-- Working: a subscription of a client.
use Rattle.std.specs.Prelude.{ℕ, ◌∷◌, ◌++◌, List, [], Result, length}
use Rattle.ca_arena.specs.declared.handle.Handle.{Handle}
use Rattle.ca_text.specs.declared.refusal.Refusal.{Refusal}
use Rattle.ca_text.specs.Place.{At}
use Rattle.ca_model.specs.ClientCalls.{ClientSubscribes, Shape}
use Rattle.ca_model.specs.History.{Called, Intent, Line, On}
use Rattle.ca_model.specs.History as history
use Rattle.ca_model.specs.World.{ClientSide, Joined, Names}
use Rattle.ca_world_data.specs.Speaking.{CallsOn}

-- what is meant by the next subscription to this channel
abbrev pub next_meant : (c : ℕ) → ClientSide → Intent
next_meant c x = On c (history.Subscribe (length x.names.subscriptions))

-- the names with a subscription more to this channel
abbrev pub subscribe_names : (c : ℕ) → ClientSide → Handle → Names
subscribe_names c x s =
    record x.names { subscriptions = x.names.subscriptions ++ (s, next_meant c x) ∷ [] }

abbrev pub SubscribesOn : (i c : ℕ) → Shape → (mask : ℕ) → ClientSide → List (List Line)
    → List Joined → Result (Unit {0}) Refusal → ClientSide → List (List Line) → List Joined → Type 0
SubscribesOn i c a mask x logs ks result x' logs' ks' =
    CallsOn i
    (At x.names.channels c)
    (λ (h : Handle). ClientSubscribes x.core h a mask)
    (λ (h q : Handle). subscribe_names c x q)
    (λ (h q : Handle). subscribe_names c x q)
    (λ (h q : Handle). Called (next_meant c x) (history.ToWatch a.data_type a.count mask) ∷ [])
    x logs ks result x' logs' ks'
