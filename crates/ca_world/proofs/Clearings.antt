-- A client clears a channel, from what its parts became.
use Rattle.std.proofs.Common.{◌≡◌, ℕ, inr, List, [], Option, Some, Result, Ok, Err, refl, sym, ap, subst, ◌∙◌}
use Rattle.std.specs.Prelude.{map}
use Rattle.ca_arena.specs.declared.handle.Handle.{Handle}
use Rattle.ca_ids.specs.Wire.{wire_of}
use Rattle.ca_text.specs.declared.refusal.Refusal.{Refusal}
use Rattle.ca_text.specs.declared.refusal.Refusal.TheVariants.{BadEvent, OutOfMemory, StaleHandle}
use Rattle.ca_text.specs.Place.{At}
use Rattle.ca_wire.specs.Messages.{clear_request}
use Rattle.ca_model.specs.Answers.{Notice, Sending}
use Rattle.ca_model.specs.Client.{Clearing, Client, Connecting, Creating, Doomed, Leaving, Live, On, Searching, Standing}
use Rattle.ca_model.specs.ClientCalls.{ClientClears, clear_sent, clearing_sent}
use Rattle.ca_model.specs.History.{Line}
use Rattle.ca_model.specs.History as history
use Rattle.ca_model.specs.ClientEvents.{channel_number}
use Rattle.ca_model.specs.Events.{Clear}
use Rattle.ca_model.specs.World.{ClientSide, Joined, Names, grown}
use Rattle.ca_model.specs.World as model
use Rattle.ca_world_data.specs.declared.way.ChannelRoute.{ChannelRoute}
use Rattle.ca_world_data.specs.Clears.{ClearsAs, ClearsOn, IsClearWay, clear_lines}
use Rattle.ca_world_data.specs.Does.{Does}
use Rattle.ca_world_data.specs.Found.{AreNumbered}
use Rattle.ca_world_data.specs.Indexed.{AreIndexed}
use Rattle.ca_world_data.specs.Logs.{Notes}
use Rattle.ca_world_data.specs.Puts.{AreOnce}
use Rattle.ca_world_data.specs.Speaking.{GoesUp, sent_up, stamped}
use Rattle.ca_world_data.proofs.Sendings.{sent-by}
use Rattle.ca_world.proofs.Cancellings.{none-up}
use Rattle.ca_world.proofs.Speeches.{call-noted, calls-keep, calls-ok, no-channel, spoken-same, spoken_in}

-- the CLEAR_CHANNEL went on its circuit, if one is sent
clear-goes : (i : ℕ) (n : Names) (c : ℕ) (h : Handle) (ks ks' : List Joined) (numbers : List ℕ) (w : ChannelRoute) (s : Standing) → AreNumbered numbers ks i → channel_number n h ≡ c → ClearsAs ks i w (Some s)
    → GoesUp w.circuit (record { message = clear_request w.sid (wire_of h); intent = history.On c history.Clear }) ks ks' → ks' ≡ map (sent_up i n (clearing_sent h s)) ks
clear-goes i n c h ks ks' numbers w (On g (Live m r)) numbered number goes up =
    let e : Sending = clear_sent g m.sid h in
    let is : record { message = clear_request w.sid (wire_of h); intent = history.On c history.Clear } ≡ stamped n e =
    λ t. record { message = clear_request (goes.1 t) (wire_of h); intent = history.On (sym number t) history.Clear } in
    sent-by i n e numbers w.circuit ks ks' numbered goes.0 (subst (λ (z : history.Sent). GoesUp w.circuit z ks ks') is up)
clear-goes i n c h ks ks' numbers w Searching numbered number goes up =
    subst (λ (z : Option ℕ). GoesUp z (record { message = clear_request w.sid (wire_of h); intent = history.On c history.Clear }) ks ks') goes up ∙ sym (none-up i n ks)
clear-goes i n c h ks ks' numbers w (On g Connecting) numbered number goes up =
    subst (λ (z : Option ℕ). GoesUp z (record { message = clear_request w.sid (wire_of h); intent = history.On c history.Clear }) ks ks') goes up ∙ sym (none-up i n ks)
clear-goes i n c h ks ks' numbers w (On g (Creating r)) numbered number goes up =
    subst (λ (z : Option ℕ). GoesUp z (record { message = clear_request w.sid (wire_of h); intent = history.On c history.Clear }) ks ks') goes up ∙ sym (none-up i n ks)
clear-goes i n c h ks ks' numbers w (On g Leaving) numbered number goes up =
    subst (λ (z : Option ℕ). GoesUp z (record { message = clear_request w.sid (wire_of h); intent = history.On c history.Clear }) ks ks') goes up ∙ sym (none-up i n ks)
clear-goes i n c h ks ks' numbers w (On g Clearing) numbered number goes up =
    subst (λ (z : Option ℕ). GoesUp z (record { message = clear_request w.sid (wire_of h); intent = history.On c history.Clear }) ks ks') goes up ∙ sym (none-up i n ks)
clear-goes i n c h ks ks' numbers w (On g Doomed) numbered number goes up =
    subst (λ (z : Option ℕ). GoesUp z (record { message = clear_request w.sid (wire_of h); intent = history.On c history.Clear }) ks ks') goes up ∙ sym (none-up i n ks)

-- the clear of this channel, as the world's parts have it: done
pub clears-done : (i c : ℕ) (x x' : ClientSide) (logs logs' : List (List Line)) (ks ks' : List Joined) (h : Handle) (way : ChannelRoute) (numbers : List ℕ) (notices : List Notice) (sent : List Sending) (u : Unit {0})
    → At x.names.channels c h → AreOnce x.names → IsClearWay x.core ks i h way → AreNumbered numbers ks i → ClientClears x.core h (Ok notices) sent x'.core
    → x' ≡ record x { core = x'.core }
    → logs' ≡ grown x.life (clear_lines c x notices) logs
    → GoesUp way.circuit (record { message = clear_request way.sid (wire_of h); intent = history.On c history.Clear }) ks ks'
    → ClearsOn i c x logs ks (Ok u) x' logs' ks'
clears-done i c x x' logs logs' ks ks' h way numbers notices sent u named once is_way numbered does side logged up =
    let s : Standing = does.0 in
    let goes : ClearsAs ks i way (Some s) = subst (λ (o : Option Standing). ClearsAs ks i way o) does.1 is_way in
    let gone : ks' ≡ map (sent_up i x.names (clearing_sent h s)) ks = clear-goes i x.names c h ks ks' numbers way s numbered (once c h named) goes up in
    (h, named, inr (notices, record { sent = sent; does = does; side = side; logged = logged; goes = gone ∙ ap (λ (z : List Sending). map (sent_up i x.names z) ks) (sym does.3.0) }))

-- one that is refused leaves all as it was
clears-refused : (old : Client) (h : Handle) (e : Refusal) (sent : List Sending) (new : Client) → ClientClears old h (Err e) sent new → (sent ≡ []) × (new ≡ old)
clears-refused old h StaleHandle sent new o = o.1
clears-refused old h OutOfMemory sent new o = o.2
clears-refused old h _ sent new o = absurd o

-- refused
pub clears-noted : (i c : ℕ) (x x' : ClientSide) (logs logs' : List (List Line)) (ks : List Joined) (h : Handle) (e : Refusal) (sent : List Sending) (core : Client) (r : Result (Unit {0}) Refusal) → At x.names.channels c h → ClientClears x.core h (Err e) sent core
    → x' ≡ record x { core = core } → Notes x.life e logs r logs' → ClearsOn i c x logs ks r x' logs' ks
clears-noted i c x x' logs logs' ks h e sent core r named is side notes =
    let same = clears-refused x.core h e sent core is in
    let names : Handle → List Notice → Names = λ g n. x.names in
    call-noted i (At x.names.channels c) (λ g. ClientClears x.core g) names names (λ g n. clear_lines c x n) x x' logs logs' ks ks h e r named
    (subst (λ (z : List Sending × Client). ClientClears x.core h (Err e) z.0 z.1) (λ t. (same.0 t, same.1 t)) is)
    (side ∙ ap (λ (z : Client). record x { core = z }) same.1)
    refl
    notes

-- the same of logs and circuits that are the same
pub clears-moved : (i c : ℕ) (x x' : ClientSide) (logs more logs' : List (List Line)) (ks ls ks' : List Joined) (r : Result (Unit {0}) Refusal) → more ≡ logs → ls ≡ ks → ClearsOn i c x more ls r x' logs' ks' → ClearsOn i c x logs ks r x' logs' ks'
clears-moved i c x x' logs more logs' ks ls ks' r lines circuits =
    subst (λ (z : List (List Line) × List Joined). ClearsOn i c x z.0 z.1 r x' logs' ks') (λ t. (lines t, circuits t))

-- what that makes of the world
pub clears-does : (w : model.World) (i c : ℕ) (x x' : ClientSide) (logs : List (List Line)) (ks : List Joined) (r : Result (Unit {0}) Refusal) → At w.clients i x → ClearsOn i c x w.client_logs w.circuits r x' logs ks
    → Does w (Clear i c) r (spoken_in i x' logs ks w)
clears-does w i c x x' logs ks (Ok u) at d =
    let names : Handle → List Notice → Names = λ h n. x.names in
    let o = calls-ok i (At x.names.channels c) (λ h. ClientClears x.core h) names names (λ h n. clear_lines c x n) w x x' logs ks at u d in
    (record { x = x; at = at; h = o.0; named = o.1 }, o.2)
clears-does w i c x x' logs ks (Err OutOfMemory) at d = (record { x = x; at = at; h = d.0; named = d.1 }, spoken-same i x x' logs ks w at d.2 d.3 d.4)
clears-does w i c x x' logs ks (Err BadEvent) at d = (no-channel w i c x at d.0, spoken-same i x x' logs ks w at d.1 d.2 d.3)
clears-does w i c x x' logs ks (Err _) at d = absurd d

-- circuits are found still
pub clears-keep : (i c : ℕ) (x x' : ClientSide) (logs logs' : List (List Line)) (ks ks' : List Joined) (r : Result (Unit {0}) Refusal) → ClearsOn i c x logs ks r x' logs' ks' → (cs ss : List (List ℕ)) → AreIndexed cs ss ks → AreIndexed cs ss ks'
clears-keep i c x x' logs logs' ks ks' r d =
    let names : Handle → List Notice → Names = λ h n. x.names in
    calls-keep i (At x.names.channels c) (λ h. ClientClears x.core h) names names (λ h n. clear_lines c x n) x x' logs logs' ks ks' r d
