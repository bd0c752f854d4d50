-- Subscriptions of a client, from what its parts became.
use Rattle.std.proofs.Common.{◌≡◌, ℕ, inr, List, [], ◌∷◌, Result, Ok, Err, refl, sym, ap, subst, ◌∙◌}
use Rattle.std.specs.Prelude.{map}
use Rattle.ca_arena.specs.declared.handle.Handle.{Handle}
use Rattle.ca_ids.specs.Wire.{wire_of}
use Rattle.ca_text.specs.declared.refusal.Refusal.{Refusal}
use Rattle.ca_text.specs.declared.refusal.Refusal.TheVariants.{BadEvent, OutOfMemory}
use Rattle.ca_text.specs.Place.{At}
use Rattle.ca_wire.specs.Messages.{event_add_request}
use Rattle.ca_model.specs.Answers.{Sending}
use Rattle.ca_model.specs.Answers as aim
use Rattle.ca_model.specs.Client.{Client}
use Rattle.ca_model.specs.ClientCalls.{ClientSubscribes, LiveChannel, Shape, event_add_sent, new_subscription}
use Rattle.ca_model.specs.History.{Called, Intent, Line}
use Rattle.ca_model.specs.History as history
use Rattle.ca_model.specs.ClientEvents.{intent_of}
use Rattle.ca_model.specs.Events.{Subscribe}
use Rattle.ca_model.specs.World.{ClientSide, Joined, Names, grown}
use Rattle.ca_model.specs.World as model
use Rattle.ca_laws_parts.proofs.CircuitCalls.{meant-own}
use Rattle.ca_laws_parts.specs.Circuit.{AreGiven}
use Rattle.ca_laws_parts.proofs.RunsSending.{new-name}
use Rattle.ca_world_data.specs.declared.way.ChannelRoute.{ChannelRoute}
use Rattle.ca_world_data.specs.Found.{AreNumbered}
use Rattle.ca_world_data.specs.Indexed.{AreIndexed}
use Rattle.ca_world_data.specs.Logs.{Notes}
use Rattle.ca_world_data.specs.Subscribes.{next_meant, SubscribesOn, subscribe_names}
use Rattle.ca_world_data.specs.Speaking.{GoesUp, IsWay, sent_up, stamped}
use Rattle.ca_world_data.specs.Does.{Does}
use Rattle.ca_world_data.proofs.Sendings.{sent-by}
use Rattle.ca_world.proofs.Speeches.{call-noted, calls-keep, calls-ok, no-channel, spoken-same, spoken_in}

-- the subscription to this channel, as the world's parts have it: done
pub subscribes-done : (i c : ℕ) (a : Shape) (mask : ℕ) (x x' : ClientSide) (logs logs' : List (List Line)) (ks ks' : List Joined) (h q : Handle) (way : ChannelRoute) (numbers : List ℕ) (sent : List Sending) (u : Unit {0})
    → At x.names.channels c h → AreGiven x.names.subscriptions x.core.subscriptions → IsWay x.core ks i h way → AreNumbered numbers ks i → ClientSubscribes x.core h a mask (Ok q) sent x'.core
    → x' ≡ record x { core = x'.core; names = subscribe_names c x q }
    → logs' ≡ grown x.life (Called (next_meant c x) (history.ToWatch a.data_type a.count mask) ∷ []) logs
    → GoesUp way.circuit (record { message = event_add_request (record { sid = way.sid; id = wire_of q; data_type = a.data_type; count = a.count }) mask; intent = next_meant c x }) ks ks'
    → SubscribesOn i c a mask x logs ks (Ok u) x' logs' ks'
subscribes-done i c a mask x x' logs logs' ks ks' h q way numbers sent u named given is_way numbered reads side logged up =
    let l : LiveChannel = reads.0 in
    let w = is_way l reads.1 in
    let names : Names = subscribe_names c x q in
    let intent : Intent = next_meant c x in
    let s : Sending = event_add_sent l.circuit l.native.sid q (new_subscription h a mask) in
    let meant : intent_of names (aim.Subscribe h q) ≡ intent = meant-own x.names.subscriptions q intent (new-name x.names.subscriptions x.core.subscriptions q given reads.3) in
    let is : record { message = event_add_request (record { sid = way.sid; id = wire_of q; data_type = a.data_type; count = a.count }) mask; intent = intent } ≡ stamped names s =
    λ t. record { message = event_add_request (record { sid = w.0 t; id = wire_of q; data_type = a.data_type; count = a.count }) mask; intent = sym meant t } in
    let gone : ks' ≡ map (sent_up i names (s ∷ [])) ks = sent-by i names s numbers way.circuit ks ks' numbered w.2 (subst (λ (z : history.Sent). GoesUp way.circuit z ks ks') is up) in
    (h, named, inr (q, record { sent = sent; does = reads; side = side; logged = logged; goes = gone ∙ ap (λ (z : List Sending). map (sent_up i names z) ks) (sym reads.4.0) }))

-- a subscription that is refused leaves all as it was
pub subscribe-refused : (old : Client) (h : Handle) (a : Shape) (mask : ℕ) (e : Refusal) (sent : List Sending) (new : Client) → ClientSubscribes old h a mask (Err e) sent new → (sent ≡ []) × (new ≡ old)
subscribe-refused old h a mask OutOfMemory sent new o = o.1
subscribe-refused old h a mask _ sent new o = o.1

-- refused
pub subscribes-noted : (i c : ℕ) (a : Shape) (mask : ℕ) (x x' : ClientSide) (logs logs' : List (List Line)) (ks : List Joined) (h : Handle) (e : Refusal) (sent : List Sending) (core : Client) (r : Result (Unit {0}) Refusal) → At x.names.channels c h → ClientSubscribes x.core h a mask (Err e) sent core
    → x' ≡ record x { core = core } → Notes x.life e logs r logs' → SubscribesOn i c a mask x logs ks r x' logs' ks
subscribes-noted i c a mask x x' logs logs' ks h e sent core r named is side n =
    let same = subscribe-refused x.core h a mask e sent core is in
    let names : Handle → Handle → Names = λ g q. subscribe_names c x q in
    call-noted i (At x.names.channels c) (λ g. ClientSubscribes x.core g a mask) names names (λ g q. Called (next_meant c x) (history.ToWatch a.data_type a.count mask) ∷ []) x x' logs logs' ks ks h e r named
    (subst (λ (z : List Sending × Client). ClientSubscribes x.core h a mask (Err e) z.0 z.1) (λ t. (same.0 t, same.1 t)) is)
    (side ∙ ap (λ (z : Client). record x { core = z }) same.1)
    refl
    n

-- the same of a client, logs and circuits that are the same
pub subscribes-moved : (i c : ℕ) (a : Shape) (mask : ℕ) (x y x' : ClientSide) (logs more logs' : List (List Line)) (ks ls ks' : List Joined) (r : Result (Unit {0}) Refusal) → y ≡ x → more ≡ logs → ls ≡ ks → SubscribesOn i c a mask y more ls r x' logs' ks' → SubscribesOn i c a mask x logs ks r x' logs' ks'
subscribes-moved i c a mask x y x' logs more logs' ks ls ks' r side lines circuits =
    subst (λ (z : ClientSide × (List (List Line) × List Joined)). SubscribesOn i c a mask z.0 z.1.0 z.1.1 r x' logs' ks') (λ t. (side t, (lines t, circuits t)))

-- what that makes of the world
pub subscribes-does : (w : model.World) (i c : ℕ) (a : Shape) (mask : ℕ) (x x' : ClientSide) (logs : List (List Line)) (ks : List Joined) (r : Result (Unit {0}) Refusal) → At w.clients i x → SubscribesOn i c a mask x w.client_logs w.circuits r x' logs ks
    → Does w (Subscribe i c a.data_type a.count mask) r (spoken_in i x' logs ks w)
subscribes-does w i c a mask x x' logs ks (Ok u) at d =
    let names : Handle → Handle → Names = λ h q. subscribe_names c x q in
    let o = calls-ok i (At x.names.channels c) (λ h. ClientSubscribes x.core h a mask) names names (λ h q. Called (next_meant c x) (history.ToWatch a.data_type a.count mask) ∷ []) w x x' logs ks at u d in
    (record { x = x; at = at; h = o.0; named = o.1 }, o.2)
subscribes-does w i c a mask x x' logs ks (Err OutOfMemory) at d = (record { x = x; at = at; h = d.0; named = d.1 }, spoken-same i x x' logs ks w at d.2 d.3 d.4)
subscribes-does w i c a mask x x' logs ks (Err BadEvent) at d = (no-channel w i c x at d.0, spoken-same i x x' logs ks w at d.1 d.2 d.3)
subscribes-does w i c a mask x x' logs ks (Err _) at d = absurd d

-- circuits are found still
pub subscribes-keep : (i c : ℕ) (a : Shape) (mask : ℕ) (x x' : ClientSide) (logs logs' : List (List Line)) (ks ks' : List Joined) (r : Result (Unit {0}) Refusal) → SubscribesOn i c a mask x logs ks r x' logs' ks' → (cs ss : List (List ℕ)) → AreIndexed cs ss ks → AreIndexed cs ss ks'
subscribes-keep i c a mask x x' logs logs' ks ks' r d =
    let names : Handle → Handle → Names = λ h q. subscribe_names c x q in
    calls-keep i (At x.names.channels c) (λ h. ClientSubscribes x.core h a mask) names names (λ h q. Called (next_meant c x) (history.ToWatch a.data_type a.count mask) ∷ []) x x' logs logs' ks ks' r d
