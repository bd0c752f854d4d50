-- What becomes of a world as what became of a request is handed out, or it is given up.
use Rattle.std.proofs.Common.{◌≡◌, ℕ, List, [], ◌∷◌, Option, Result, Ok, Err, subst}
use Rattle.std.specs.Prelude.{Vec}
use Rattle.std.specs.declared.alloc.Global.{Global}
use Rattle.ca_arena.specs.declared.handle.Handle.{Handle}
use Rattle.ca_text.specs.declared.refusal.Refusal.{Refusal}
use Rattle.ca_text.specs.declared.refusal.Refusal.TheVariants.{BadEvent, OutOfMemory}
use Rattle.ca_text.specs.Place.{At}
use Rattle.ca_text.proofs.Places.{At-map, At-mapped, At-one}
use Rattle.ca_model.specs.History.{Collected, GaveUp, Intent, Line}
use Rattle.ca_model.specs.Events.{Collect, GiveUp}
use Rattle.ca_model.specs.Runs.{HadRequest}
use Rattle.ca_model.specs.World.{ClientSide, World, grown}
use Rattle.ca_world_data.specs.Does.{Does}
use Rattle.ca_world_data.specs.declared.client.ClientSide as real
use Rattle.ca_world_data.specs.declared.history.Line.{Line as Written}
use Rattle.ca_world_data.specs.Handing.{HandsOver, IsReadyToHand, IsUnasked}
use Rattle.ca_world_data.specs.Logs.{lines_in}
use Rattle.ca_world_data.specs.Seen.{client_of, intent_of, named_of}

-- the world with these logs of clients
abbrev pub logged_in : List (List Line) → World → World
logged_in logs w = record w { client_logs = logs }

-- no request has this number
no-request : (w : World) (i n : ℕ) (x : ClientSide) → At w.clients i x → ((q : Handle × Intent) → At x.names.requests n q → ⊥) → HadRequest w i n → ⊥
no-request w i n x at none had =
    let is : had.x ≡ x = At-one w.clients i had.x x had.at at in
    none had.q (subst (λ (z : ClientSide). At z.names.requests n had.q) is had.named)

pub collects : (w : World) (i n : ℕ) (x : ClientSide) (logs : List (List Line)) (r : Result (Unit {0}) Refusal) → At w.clients i x → HandsOver n (Collected n) x w.client_logs r logs → Does w (Collect i n) r (logged_in logs w)
collects w i n x logs (Ok u) at d = (record { x = x; at = at; q = d.0; named = d.1 }, (d.2, d.3, λ t. logged_in (d.4 t) w))
collects w i n x logs (Err OutOfMemory) at d = (record { x = x; at = at; q = d.0.0; named = d.0.1 }, λ t. logged_in (d.1 t) w)
collects w i n x logs (Err BadEvent) at d = (no-request w i n x at d.0, λ t. logged_in (d.1 t) w)
collects w i n x logs (Err _) at d = absurd d

pub gives-up : (w : World) (i n : ℕ) (x : ClientSide) (logs : List (List Line)) (r : Result (Unit {0}) Refusal) → At w.clients i x → HandsOver n (GaveUp n) x w.client_logs r logs → Does w (GiveUp i n) r (logged_in logs w)
gives-up w i n x logs (Ok u) at d = (record { x = x; at = at; q = d.0; named = d.1 }, (d.2, d.3, λ t. logged_in (d.4 t) w))
gives-up w i n x logs (Err OutOfMemory) at d = (record { x = x; at = at; q = d.0.0; named = d.0.1 }, λ t. logged_in (d.1 t) w)
gives-up w i n x logs (Err BadEvent) at d = (no-request w i n x at d.0, λ t. logged_in (d.1 t) w)
gives-up w i n x logs (Err _) at d = absurd d

-- ---- from what is ready

-- no request has this number, or there is no memory
pub hands-unasked : (n : ℕ) (says : Option ℕ → Line) (x : real.ClientSide) (logs logs' : List (List Line)) (e : Refusal) → IsUnasked n x e → logs' ≡ logs → HandsOver n says (client_of x) logs (Err e) logs'
hands-unasked n says x logs logs' OutOfMemory un same = (((un.0.0, intent_of un.0.1), At-map named_of x.names.requests.items n un.0 un.1), same)
hands-unasked n says x logs logs' BadEvent un same = ((λ q at. (let m = At-mapped named_of x.names.requests.items n q at in un m.0 m.1)), same)
hands-unasked n says x logs logs' _ un same = absurd un

-- its line is in the log
pub hands-ready : (n : ℕ) (says : Option ℕ → Line) (x : real.ClientSide) (old : List (List Line)) (logs : List (Vec Written Global)) (place : Option ℕ) (u : Unit {0}) (logs' : List (List Line)) → IsReadyToHand n x logs place → lines_in logs ≡ old
    → logs' ≡ grown x.life (says place ∷ []) (lines_in logs) → HandsOver n says (client_of x) old (Ok u) logs'
hands-ready n says x old logs place u logs' r same is =
    subst (λ (z : List (List Line)). HandsOver n says (client_of x) z (Ok u) logs') same
    ((r.q.0, intent_of r.q.1), At-map named_of x.names.requests.items n r.q r.named, place, r.hands, is)
