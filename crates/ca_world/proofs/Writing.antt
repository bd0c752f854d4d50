-- Plain writes of a client, from what its parts became.
use Rattle.std.proofs.Common.{◌≡◌, ℕ, inr, List, [], ◌∷◌, Result, Ok, Err, refl, sym, ap, subst, ◌∙◌}
use Rattle.std.specs.Prelude.{map}
use Rattle.ca_arena.specs.declared.handle.Handle.{Handle}
use Rattle.ca_text.specs.declared.refusal.Refusal.{Refusal}
use Rattle.ca_text.specs.declared.refusal.Refusal.TheVariants.{BadEvent, OutOfMemory}
use Rattle.ca_text.specs.Place.{At}
use Rattle.ca_wire.specs.Messages.{put_request}
use Rattle.ca_text.specs.declared.command.Command.TheVariants as command
use Rattle.ca_dbr.specs.Elements.{Elements, base_of, bytes_of, count_of}
use Rattle.ca_dbr.specs.Types.{base_number}
use Rattle.ca_model.specs.Answers.{Sending}
use Rattle.ca_model.specs.Client.{Client}
use Rattle.ca_model.specs.ClientCalls.{ClientWrites, LiveChannel, write_sent}
use Rattle.ca_model.specs.History.{Called, Intent, Line, On, Request}
use Rattle.ca_model.specs.History as history
use Rattle.ca_model.specs.Events.{Write}
use Rattle.ca_model.specs.World.{ClientSide, Joined, Names, grown}
use Rattle.ca_model.specs.World as model
use Rattle.ca_world_data.specs.declared.way.ChannelRoute.{ChannelRoute}
use Rattle.ca_world_data.specs.Found.{AreNumbered}
use Rattle.ca_world_data.specs.Indexed.{AreIndexed}
use Rattle.ca_world_data.specs.Logs.{Notes}
use Rattle.ca_world_data.specs.Puts.{AreOnce, WritesOn, write_meant, write_names}
use Rattle.ca_world_data.specs.Speaking.{GoesUp, IsWay, sent_up, stamped}
use Rattle.ca_world_data.specs.Does.{Does}
use Rattle.ca_world_data.proofs.Sendings.{sent-by}
use Rattle.ca_world.proofs.Speeches.{call-noted, calls-keep, calls-ok, no-channel, spoken-same, spoken_in}

-- the write to this channel, as the world's parts have it: done
pub writes-done : (i c : ℕ) (a : Elements) (x x' : ClientSide) (logs logs' : List (List Line)) (ks ks' : List Joined) (h : Handle) (way : ChannelRoute) (numbers : List ℕ) (sent : List Sending) (u : Unit {0})
    → At x.names.channels c h → AreOnce x.names → IsWay x.core ks i h way → AreNumbered numbers ks i → ClientWrites x.core h a (Ok tt) sent x'.core
    → x' ≡ record x { core = x'.core; names = write_names x }
    → logs' ≡ grown x.life (Called (write_meant c x) (history.ToWrite a) ∷ []) logs
    → GoesUp way.circuit (record { message = put_request command.Write (record { sid = way.sid; id = 0; data_type = base_number (base_of a); count = count_of a }) (bytes_of a); intent = write_meant c x }) ks ks'
    → WritesOn i c a x logs ks (Ok u) x' logs' ks'
writes-done i c a x x' logs logs' ks ks' h way numbers sent u named once is_way numbered reads side logged up =
    let l : LiveChannel = reads.0 in
    let w = is_way l reads.1 in
    let names : Names = x.names in
    let intent : Intent = write_meant c x in
    let s : Sending = write_sent h l a in
    let is : record { message = put_request command.Write (record { sid = way.sid; id = 0; data_type = base_number (base_of a); count = count_of a }) (bytes_of a); intent = intent } ≡ stamped names s =
    λ t. record { message = put_request command.Write (record { sid = w.0 t; id = 0; data_type = base_number (base_of a); count = count_of a }) (bytes_of a); intent = On (sym (once c h named) t) (Request history.Write x.names.writes) } in
    let gone : ks' ≡ map (sent_up i names (s ∷ [])) ks = sent-by i names s numbers way.circuit ks ks' numbered w.2 (subst (λ (z : history.Sent). GoesUp way.circuit z ks ks') is up) in
    (h, named, inr (tt, record { sent = sent; does = reads; side = side; logged = logged; goes = gone ∙ ap (λ (z : List Sending). map (sent_up i names z) ks) (sym reads.3.0) }))

-- a write that is refused leaves all as it was
pub writes-refused : (old : Client) (h : Handle) (a : Elements) (e : Refusal) (sent : List Sending) (new : Client) → ClientWrites old h a (Err e) sent new → (sent ≡ []) × (new ≡ old)
writes-refused old h a OutOfMemory sent new o = o.1
writes-refused old h a _ sent new o = o.1

-- refused
pub writes-noted : (i c : ℕ) (a : Elements) (x x' : ClientSide) (logs logs' : List (List Line)) (ks : List Joined) (h : Handle) (e : Refusal) (sent : List Sending) (core : Client) (r : Result (Unit {0}) Refusal) → At x.names.channels c h → ClientWrites x.core h a (Err e) sent core
    → x' ≡ record x { core = core } → Notes x.life e logs r logs' → WritesOn i c a x logs ks r x' logs' ks
writes-noted i c a x x' logs logs' ks h e sent core r named is side n =
    let same = writes-refused x.core h a e sent core is in
    let spoken : Handle → Unit {0} → Names = λ g u. x.names in
    let names : Handle → Unit {0} → Names = λ g u. write_names x in
    call-noted i (At x.names.channels c) (λ g. ClientWrites x.core g a) spoken names (λ g u. Called (write_meant c x) (history.ToWrite a) ∷ []) x x' logs logs' ks ks h e r named
    (subst (λ (z : List Sending × Client). ClientWrites x.core h a (Err e) z.0 z.1) (λ t. (same.0 t, same.1 t)) is)
    (side ∙ ap (λ (z : Client). record x { core = z }) same.1)
    refl
    n

-- the same of a client, logs and circuits that are the same
pub writes-moved : (i c : ℕ) (a : Elements) (x y x' : ClientSide) (logs more logs' : List (List Line)) (ks ls ks' : List Joined) (r : Result (Unit {0}) Refusal) → y ≡ x → more ≡ logs → ls ≡ ks → WritesOn i c a y more ls r x' logs' ks' → WritesOn i c a x logs ks r x' logs' ks'
writes-moved i c a x y x' logs more logs' ks ls ks' r side lines circuits =
    subst (λ (z : ClientSide × (List (List Line) × List Joined)). WritesOn i c a z.0 z.1.0 z.1.1 r x' logs' ks') (λ t. (side t, (lines t, circuits t)))

-- what that makes of the world
pub writes-does : (w : model.World) (i c : ℕ) (a : Elements) (x x' : ClientSide) (logs : List (List Line)) (ks : List Joined) (r : Result (Unit {0}) Refusal) → At w.clients i x → WritesOn i c a x w.client_logs w.circuits r x' logs ks
    → Does w (Write i c a) r (spoken_in i x' logs ks w)
writes-does w i c a x x' logs ks (Ok u) at d =
    let spoken : Handle → Unit {0} → Names = λ h u. x.names in
    let names : Handle → Unit {0} → Names = λ h u. write_names x in
    let o = calls-ok i (At x.names.channels c) (λ h. ClientWrites x.core h a) spoken names (λ h u. Called (write_meant c x) (history.ToWrite a) ∷ []) w x x' logs ks at u d in
    (record { x = x; at = at; h = o.0; named = o.1 }, o.2)
writes-does w i c a x x' logs ks (Err OutOfMemory) at d = (record { x = x; at = at; h = d.0; named = d.1 }, spoken-same i x x' logs ks w at d.2 d.3 d.4)
writes-does w i c a x x' logs ks (Err BadEvent) at d = (no-channel w i c x at d.0, spoken-same i x x' logs ks w at d.1 d.2 d.3)
writes-does w i c a x x' logs ks (Err _) at d = absurd d

-- circuits are found still
pub writes-keep : (i c : ℕ) (a : Elements) (x x' : ClientSide) (logs logs' : List (List Line)) (ks ks' : List Joined) (r : Result (Unit {0}) Refusal) → WritesOn i c a x logs ks r x' logs' ks' → (cs ss : List (List ℕ)) → AreIndexed cs ss ks → AreIndexed cs ss ks'
writes-keep i c a x x' logs logs' ks ks' r d =
    let spoken : Handle → Unit {0} → Names = λ h u. x.names in
    let names : Handle → Unit {0} → Names = λ h u. write_names x in
    calls-keep i (At x.names.channels c) (λ h. ClientWrites x.core h a) spoken names (λ h u. Called (write_meant c x) (history.ToWrite a) ∷ []) x x' logs logs' ks ks' r d
