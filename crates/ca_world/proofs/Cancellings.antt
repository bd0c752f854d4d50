-- The end of a subscription of a client, from what its parts became.
use Rattle.std.proofs.Common.{◌≡◌, ℕ, eqb, inr, Bool, true, false, ◌&&◌, cond, List, [], ◌∷◌, ◌++◌, Option, Some, None, Result, Ok, Err, refl, sym, ap, subst, ◌∙◌}
use Rattle.std.specs.Prelude.{map}
use Rattle.std.proofs.lemmas.List.{append-nil}
use Rattle.ca_arena.specs.declared.handle.Handle.{Handle}
use Rattle.ca_monitor.specs.Subscriptions.{Subscription}
use Rattle.ca_text.specs.declared.refusal.Refusal.{Refusal}
use Rattle.ca_text.specs.declared.refusal.Refusal.TheVariants.{BadEvent, OutOfMemory}
use Rattle.ca_text.specs.Place.{At}
use Rattle.ca_text.proofs.Places.{At-map, At-mapped, At-one}
use Rattle.ca_wire.specs.Messages.{event_cancel_request}
use Rattle.ca_model.specs.Answers.{Sending}
use Rattle.ca_model.specs.Client.{Clearing, Client, Connecting, Creating, Doomed, Leaving, Live, On, Searching, Standing, standing_at}
use Rattle.ca_model.specs.ClientCalls.{ClientUnsubscribes, StandsAs, cancel_sent, event_cancel_sent}
use Rattle.ca_model.specs.History.{Called, Intent, Line}
use Rattle.ca_model.specs.History as history
use Rattle.ca_model.specs.ClientEvents.{cancelled, meant_by}
use Rattle.ca_model.specs.Events.{Unsubscribe}
use Rattle.ca_model.specs.Runs.{HadSubscription}
use Rattle.ca_model.specs.World.{ClientSide, Joined, Names, grown}
use Rattle.ca_model.specs.World as model
use Rattle.ca_world_data.specs.declared.cancelling.Cancelling.{Cancelling}
use Rattle.ca_world_data.specs.declared.client.ClientSide as real
use Rattle.ca_world_data.specs.Does.{Does}
use Rattle.ca_world_data.specs.Found.{AreNumbered}
use Rattle.ca_world_data.specs.Indexed.{AreIndexed}
use Rattle.ca_world_data.specs.Logs.{Notes}
use Rattle.ca_world_data.specs.Seen.{client_of, intent_of as real_intent, named_of}
use Rattle.ca_world_data.specs.Speaking.{GoesUp, sent_up, stamped}
use Rattle.ca_world_data.specs.Unsubscribes.{GoesAs, IsCancelWay, IsUnready, UnsubscribesOn}
use Rattle.ca_world_data.proofs.Sendings.{sent-by}
use Rattle.ca_world.proofs.Speeches.{call-noted, calls-keep, calls-ok, spoken-same, spoken_in}

-- ---- the message

-- with nothing sent circuits are as they were
pub none-up : (i : ℕ) (n : Names) (ks : List Joined) → map (sent_up i n []) ks ≡ ks
none-up i n [] = refl
none-up i n (j ∷ ks) = λ t. same t ∷ none-up i n ks t
  where
    nothing : (b : Bool) → j.lists.up ++ cond b [] [] ≡ j.lists.up
    nothing true = append-nil j.lists.up
    nothing false = append-nil j.lists.up

    same : sent_up i n [] j ≡ j
    same = (let e = nothing (eqb j.client i && j.lists.client_open) in λ t. record j { lists = record j.lists { up = e t } })

-- the EVENT_CANCEL went on its circuit, if one is sent
pub cancel-goes : (i : ℕ) (n : Names) (s : Handle × Intent) (d : Subscription) (ks ks' : List Joined) (numbers : List ℕ) (w : Cancelling) (o : Option Standing) → AreNumbered numbers ks i → w.handle ≡ s.0 → meant_by n.subscriptions s.0 ≡ s.1 → GoesAs s.0 d ks i w o
    → GoesUp w.circuit (record { message = event_cancel_request w.wanted; intent = cancelled s.1 }) ks ks' → ks' ≡ map (sent_up i n (cancel_sent s.0 d o)) ks
cancel-goes i n s d ks ks' numbers w (Some (On c (Live m r))) numbered here mean goes up =
    let e : Sending = event_cancel_sent c m.sid s.0 d in
    let is : record { message = event_cancel_request w.wanted; intent = cancelled s.1 } ≡ stamped n e =
    λ t. record { message = event_cancel_request (goes.1 t); intent = cancelled (sym mean t) } in
    sent-by i n e numbers w.circuit ks ks' numbered goes.0 (subst (λ (z : history.Sent). GoesUp w.circuit z ks ks') is up)
cancel-goes i n s d ks ks' numbers w None numbered here mean goes up = stay
  where
    stay : ks' ≡ map (sent_up i n []) ks
    stay = subst (λ (z : Option ℕ). GoesUp z (record { message = event_cancel_request w.wanted; intent = cancelled s.1 }) ks ks') goes up ∙ sym (none-up i n ks)
cancel-goes i n s d ks ks' numbers w (Some Searching) numbered here mean goes up =
    subst (λ (z : Option ℕ). GoesUp z (record { message = event_cancel_request w.wanted; intent = cancelled s.1 }) ks ks') goes up ∙ sym (none-up i n ks)
cancel-goes i n s d ks ks' numbers w (Some (On c Connecting)) numbered here mean goes up =
    subst (λ (z : Option ℕ). GoesUp z (record { message = event_cancel_request w.wanted; intent = cancelled s.1 }) ks ks') goes up ∙ sym (none-up i n ks)
cancel-goes i n s d ks ks' numbers w (Some (On c (Creating r))) numbered here mean goes up =
    subst (λ (z : Option ℕ). GoesUp z (record { message = event_cancel_request w.wanted; intent = cancelled s.1 }) ks ks') goes up ∙ sym (none-up i n ks)
cancel-goes i n s d ks ks' numbers w (Some (On c Leaving)) numbered here mean goes up =
    subst (λ (z : Option ℕ). GoesUp z (record { message = event_cancel_request w.wanted; intent = cancelled s.1 }) ks ks') goes up ∙ sym (none-up i n ks)
cancel-goes i n s d ks ks' numbers w (Some (On c Clearing)) numbered here mean goes up =
    subst (λ (z : Option ℕ). GoesUp z (record { message = event_cancel_request w.wanted; intent = cancelled s.1 }) ks ks') goes up ∙ sym (none-up i n ks)
cancel-goes i n s d ks ks' numbers w (Some (On c Doomed)) numbered here mean goes up =
    subst (λ (z : Option ℕ). GoesUp z (record { message = event_cancel_request w.wanted; intent = cancelled s.1 }) ks ks') goes up ∙ sym (none-up i n ks)

-- ---- the call

-- the end of this subscription, as the world's parts have it: done
pub unsubscribes-done : (i n : ℕ) (x x' : ClientSide) (logs logs' : List (List Line)) (ks ks' : List Joined) (s : Handle × Intent) (w : Cancelling) (numbers : List ℕ) (sent : List Sending) (u : Unit {0})
    → At x.names.subscriptions n s → w.handle ≡ s.0 → meant_by x.names.subscriptions s.0 ≡ s.1 → IsCancelWay x.core ks i w → AreNumbered numbers ks i → ClientUnsubscribes x.core s.0 (Ok tt) sent x'.core
    → x' ≡ record x { core = x'.core }
    → logs' ≡ grown x.life (Called (cancelled s.1) history.Nothing ∷ []) logs
    → GoesUp w.circuit (record { message = event_cancel_request w.wanted; intent = cancelled s.1 }) ks ks'
    → UnsubscribesOn i n x logs ks (Ok u) x' logs' ks'
unsubscribes-done i n x x' logs logs' ks ks' s w numbers sent u named here mean way numbered does side logged up =
    let d : Subscription = does.0 in
    let o : Option Standing = standing_at x.core d.channel in
    let goes : GoesAs s.0 d ks i w o = subst (λ (z : Handle). StandsAs x.core z d → GoesAs z d ks i w o) here (way d) does.1 in
    let gone : ks' ≡ map (sent_up i x.names (cancel_sent s.0 d o)) ks = cancel-goes i x.names s d ks ks' numbers w o numbered here mean goes up in
    (s, named, inr (tt, record { sent = sent; does = does; side = side; logged = logged; goes = gone ∙ ap (λ (z : List Sending). map (sent_up i x.names z) ks) (sym does.3.0) }))

-- one that is refused leaves all as it was
pub unsubscribe-refused : (old : Client) (s : Handle) (e : Refusal) (sent : List Sending) (new : Client) → ClientUnsubscribes old s (Err e) sent new → (sent ≡ []) × (new ≡ old)
unsubscribe-refused old s OutOfMemory sent new o = o.5
unsubscribe-refused old s _ sent new o = o.1

-- refused
pub unsubscribes-noted : (i n : ℕ) (x x' : ClientSide) (logs logs' : List (List Line)) (ks : List Joined) (s : Handle × Intent) (e : Refusal) (sent : List Sending) (core : Client) (r : Result (Unit {0}) Refusal) → At x.names.subscriptions n s → ClientUnsubscribes x.core s.0 (Err e) sent core
    → x' ≡ record x { core = core } → Notes x.life e logs r logs' → UnsubscribesOn i n x logs ks r x' logs' ks
unsubscribes-noted i n x x' logs logs' ks s e sent core r named is side notes =
    let same = unsubscribe-refused x.core s.0 e sent core is in
    let names : Handle × Intent → Unit {0} → Names = λ g u. x.names in
    call-noted i (At x.names.subscriptions n) (λ g. ClientUnsubscribes x.core g.0) names names (λ g u. Called (cancelled g.1) history.Nothing ∷ []) x x' logs logs' ks ks s e r named
    (subst (λ (z : List Sending × Client). ClientUnsubscribes x.core s.0 (Err e) z.0 z.1) (λ t. (same.0 t, same.1 t)) is)
    (side ∙ ap (λ (z : Client). record x { core = z }) same.1)
    refl
    notes

-- the same of logs and circuits that are the same
pub unsubscribes-moved : (i n : ℕ) (x x' : ClientSide) (logs more logs' : List (List Line)) (ks ls ks' : List Joined) (r : Result (Unit {0}) Refusal) → more ≡ logs → ls ≡ ks → UnsubscribesOn i n x more ls r x' logs' ks' → UnsubscribesOn i n x logs ks r x' logs' ks'
unsubscribes-moved i n x x' logs more logs' ks ls ks' r lines circuits =
    subst (λ (z : List (List Line) × List Joined). UnsubscribesOn i n x z.0 z.1 r x' logs' ks') (λ t. (lines t, circuits t))

-- no subscription has this number
no-subscription : (w : model.World) (i n : ℕ) (x : ClientSide) → At w.clients i x → ((s : Handle × Intent) → At x.names.subscriptions n s → ⊥) → HadSubscription w i n → ⊥
no-subscription w i n x at none had =
    let is : had.x ≡ x = At-one w.clients i had.x x had.at at in
    none had.s (subst (λ (z : ClientSide). At z.names.subscriptions n had.s) is had.named)

-- what that makes of the world
pub unsubscribes-does : (w : model.World) (i n : ℕ) (x x' : ClientSide) (logs : List (List Line)) (ks : List Joined) (r : Result (Unit {0}) Refusal) → At w.clients i x → UnsubscribesOn i n x w.client_logs w.circuits r x' logs ks
    → Does w (Unsubscribe i n) r (spoken_in i x' logs ks w)
unsubscribes-does w i n x x' logs ks (Ok u) at d =
    let names : Handle × Intent → Unit {0} → Names = λ g u. x.names in
    let o = calls-ok i (At x.names.subscriptions n) (λ g. ClientUnsubscribes x.core g.0) names names (λ g u. Called (cancelled g.1) history.Nothing ∷ []) w x x' logs ks at u d in
    (record { x = x; at = at; s = o.0; named = o.1 }, o.2)
unsubscribes-does w i n x x' logs ks (Err OutOfMemory) at d = (record { x = x; at = at; s = d.0; named = d.1 }, spoken-same i x x' logs ks w at d.2 d.3 d.4)
unsubscribes-does w i n x x' logs ks (Err BadEvent) at d = (no-subscription w i n x at d.0, spoken-same i x x' logs ks w at d.1 d.2 d.3)
unsubscribes-does w i n x x' logs ks (Err _) at d = absurd d

-- circuits are found still
pub unsubscribes-keep : (i n : ℕ) (x x' : ClientSide) (logs logs' : List (List Line)) (ks ks' : List Joined) (r : Result (Unit {0}) Refusal) → UnsubscribesOn i n x logs ks r x' logs' ks' → (cs ss : List (List ℕ)) → AreIndexed cs ss ks → AreIndexed cs ss ks'
unsubscribes-keep i n x x' logs logs' ks ks' r d =
    let names : Handle × Intent → Unit {0} → Names = λ g u. x.names in
    calls-keep i (At x.names.subscriptions n) (λ g. ClientUnsubscribes x.core g.0) names names (λ g u. Called (cancelled g.1) history.Nothing ∷ []) x x' logs logs' ks ks' r d

-- it has no number, or there is no memory
pub unsubscribes-unready : (i n : ℕ) (x : real.ClientSide) (logs : List (List Line)) (ks : List Joined) (e : Refusal) → IsUnready n x e → UnsubscribesOn i n (client_of x) logs ks (Err e) (client_of x) logs ks
unsubscribes-unready i n x logs ks OutOfMemory un = ((un.0.0, real_intent un.0.1), At-map named_of x.names.subscriptions.items n un.0 un.1, refl, refl, refl)
unsubscribes-unready i n x logs ks BadEvent un =
    ((λ s at. (let m = At-mapped named_of x.names.subscriptions.items n s at in un m.0 m.1)), refl, refl, refl)
unsubscribes-unready i n x logs ks _ un = absurd un
