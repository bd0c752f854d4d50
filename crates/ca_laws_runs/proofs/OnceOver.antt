-- What a client tells of requests and subscriptions as a circuit ends, a channel is
-- cleared, a datagram comes or a moment is handed to it: each was open and is not any more,
-- and it tells of each once.
use Rattle.std.proofs.Common.{◌≡◌, ℕ, Bool, true, false, cond, List, [], ◌∷◌, ◌++◌, Option, Some, None, refl, sym, ap, ◌∙◌, subst}
use Rattle.std.specs.Prelude.{◌==◌, Ok, filter, fold, is_some, length, map, not, option_and_then, option_map, unwrap_or}
use Rattle.std.proofs.lemmas.Bool.{both_ways}
use Rattle.std.proofs.lemmas.List.{append-nil}
use Rattle.ca_text.proofs.Places.{At-mapped}
use Rattle.ca_arena.specs.declared.handle.Handle.{Handle}
use Rattle.ca_dbr.specs.declared.value.Outcome.{Outcome}
use Rattle.ca_ids.specs.Table.{same_handle, under}
use Rattle.ca_link.specs.declared.keep.Keep.{Keep}
use Rattle.ca_link.specs.declared.keep.Keep.TheVariants.{Close, Echo, Idle}
use Rattle.ca_link.specs.Link.{kept, with_handed}
use Rattle.ca_requests.specs.Requests.{Request, asks_on, was_sent_on}
use Rattle.ca_monitor.specs.Subscriptions as monitor
use Rattle.ca_search.specs.Searches as search
use Rattle.ca_text.specs.declared.command.Command.TheVariants as command
use Rattle.ca_text.specs.declared.status.Status.{Status}
use Rattle.ca_wire.specs.Fields.{Fields}
use Rattle.ca_wire.specs.Messages.{header_only, search_request}
use Rattle.ca_model.specs.Answers.{Closing, Notice, Sending}
use Rattle.ca_model.specs.Answers as notice
use Rattle.ca_model.specs.Ends.{Address}
use Rattle.ca_model.specs.Client.{Channel, Client, ClientCircuit, Clearing, Connecting, Connection, Creating, Doomed, Leaving, Live, On, Phase, Searching, Standing, channels_ended, channels_on, connection_at, disconnected, disconnections, ended, farewell, is_cleared, is_live, later, let_go, on_connection, phase_on, searched_again, sending, standing_at, with_standing, without_channel, without_circuit, without_ids}
use Rattle.ca_model.specs.Client as client
use Rattle.ca_model.specs.ClientCalls.{all_over, cleared, clearing_sent, is_over, unsubscribed_all, unwanted}
use Rattle.ca_model.specs.ClientEnds.{ConnectsOn, GivesOn, Receives, ReceivesAll, Ticking, all_searched_on, beacon_heard, begun, circuits_ticked, creations, due, flow_sent, given, handed_over, is_name_connected, of_circuit, searches_made, searches_on, set_up, ticks, ticks_as, with_sending}
use Rattle.ca_model.specs.ClientEnds as ends
use Rattle.ca_model.specs.Hears.{Effect, becomes, found_at, searched_by}
use Rattle.ca_model.specs.Placed.{Attached, was_live}
use Rattle.ca_model.proofs.Handles.{same-is}
use Rattle.ca_model.proofs.Standings.{found-standing}
use Rattle.ca_model.proofs.Tables.{all-freed-back, one-value}
use Rattle.ca_model.specs.ClientEvents.{closing_notices}
use Rattle.ca_laws_runs.proofs.OnceCalls.{less-cleared}
use Rattle.ca_laws_runs.proofs.OnceHeard.{none-told, told-finds}
use Rattle.ca_laws_runs.proofs.OnceLess.{Less, less-ended, less-itself, less-on, less-same, less-sending}
use Rattle.ca_laws_runs.proofs.OnceMoved.{moved-connected, moved-given, moved-received}
use Rattle.ca_laws_runs.proofs.OnceTold.{Asks, IsOpenBy, TellsNone, Told, asks-all-freed, asks-over, asks-same, asks-sending, asks-then, over-back, told-disconnected, told-still, told-then}

-- what comes after, or before, tells of none
pub told-after : (x y z : Client) (ss : List Notice) → Told x ss y → Asks y z → Less y z → Told x ss z
told-after x y z ss a asks less = subst (λ (v : List Notice). Told x v z) (append-nil ss) (told-then x y z ss [] a (told-still y z [] asks less none-told))

pub told-before : (x y z : Client) (ss : List Notice) → Asks x y → Less x y → Told y ss z → Told x ss z
told-before x y z ss asks less a = told-then x y z [] ss (told-still x y [] asks less none-told) a

-- ---- the requests stay

-- the requests of the one are those of the other
abbrev SameRequests : Client → Client → Type 0
SameRequests x y = (y.requests ≡ x.requests) × (y.issued ≡ x.issued)

same-fold : (f : Client → Handle → Client) → ((y : Client) (h : Handle) → SameRequests y (f y h)) → (hs : List Handle) (x : Client) → SameRequests x (fold f x hs)
same-fold f each [] x = (refl, refl)
same-fold f each (h ∷ hs) x =
    let a = each x h in
    let b = same-fold f each hs (f x h) in
    (b.0 ∙ a.0, b.1 ∙ a.1)

same-channels-ended : (c : Handle) (x : Client) → SameRequests x (channels_ended c x)
same-channels-ended c x =
    let mid : Client = fold without_channel x (channels_on is_cleared c x) in
    let a = same-fold without_channel (λ y h. (refl, refl)) (channels_on is_cleared c x) x in
    let b = same-fold searched_again (λ y h. (refl, refl)) (channels_on (λ (p : Phase). not (is_cleared p)) c x) mid in
    (b.0 ∙ a.0, b.1 ∙ a.1)

same-let-go : (c : Handle) (d : ClientCircuit) (x : Client) → SameRequests x (let_go c d x)
same-let-go c d x = go d.is_name
  where
    go : (b : Bool) → SameRequests x (cond b (disconnected c x) (without_circuit c x))
    go true = (refl, refl)
    go false = (refl, refl)

same-unwanted : (c : Handle) (x : Client) → SameRequests x (unwanted c x)
same-unwanted c x = go (length (channels_on (λ (p : Phase). true) c x) == 0) (under x.circuits c)
  where
    go : (b : Bool) (o : Option ClientCircuit) → SameRequests x (cond b (unwrap_or (option_map (λ (d : ClientCircuit). let_go c d x) o) x) x)
    go true (Some d) = same-let-go c d x
    go true None = (refl, refl)
    go false o = (refl, refl)

-- ---- an end ends

-- channels that are lost
lost-none : (hs : List Handle) → TellsNone (map notice.Lost hs)
lost-none hs = (
  λ i q o at. (let m = At-mapped notice.Lost hs i (notice.Completed q o) at in first m.0 q o m.2),
  λ i g s at. (let m = At-mapped notice.Lost hs i (notice.SubscriptionEnded g s) at in second m.0 g s m.2),
)
  where
    first : (h q : Handle) (o : Outcome) → notice.Completed q o ≡ notice.Lost h → ⊥
    first h q o e = cc

    second : (h g : Handle) (s : Status) → notice.SubscriptionEnded g s ≡ notice.Lost h → ⊥
    second h g s e = cc

pub told-ended : (x : Client) (c : Handle) (d : ClientCircuit) → under x.circuits c ≡ Some d → Told x (farewell c x) (ended c x)
told-ended x c d there = subst (λ (v : Client). Less x v → Told x (farewell c x) v) (sym is) gone (less-ended c x)
  where
    ids : Client
    ids = without_ids c x

    z : Client
    z = let_go c d (channels_ended c ids)

    is : ended c x ≡ z
    is = ap (λ (o : Option ClientCircuit). unwrap_or (option_map (λ (v : ClientCircuit). let_go c v (channels_ended c (without_ids c x))) o) x) there

    freed : Asks x ids
    freed =
        let y : Client = record x { subscriptions = monitor.circuit_gone c x.subscriptions } in
        asks-then x y ids (asks-same x y refl refl) (asks-all-freed (was_sent_on c) y)

    rest : Asks ids z
    rest =
        let a = same-channels-ended c ids in
        let b = same-let-go c d (channels_ended c ids) in
        asks-same ids z (b.0 ∙ a.0) (b.1 ∙ a.1)

    over : (q : Handle) (r : Request) → under x.requests q ≡ Some r → was_sent_on c r ≡ true → IsOpenBy z q → ⊥
    over q r found sent o =
        let f = rest.opens q o in
        let b = all-freed-back (was_sent_on c) x.requests q f.0 f.1 in
        both_ways (was_sent_on c f.0) b.1 (ap (was_sent_on c) (one-value x.requests q f.0 r b.0 found) ∙ sent)

    gone : Less x z → Told x (farewell c x) z
    gone less =
        told-then x z z (disconnections (was_sent_on c) x) (map notice.Lost (channels_on is_live c x))
        (told-disconnected x z (was_sent_on c) (asks-then x ids z freed rest) less over)
        (told-still z z (map notice.Lost (channels_on is_live c x)) (asks-same z z refl refl) (less-itself z) (lost-none (channels_on is_live c x)))

-- a circuit that is connected is there
pub connected-there : (x : Client) (c : Handle) (e : Connection) → connection_at x c ≡ Some e → (d : ClientCircuit) × (under x.circuits c ≡ Some d)
connected-there x c e is = go (under x.circuits c) is
  where
    go : (o : Option ClientCircuit) → option_and_then (λ (d : ClientCircuit). d.connection) o ≡ Some e → (d : ClientCircuit) × (o ≡ Some d)
    go (Some d) f = (d, refl)
    go None f = absurd cc

-- ---- a channel is cleared

-- no request is on a channel that was not live
not-live : (x : Client) (h : Handle) (ch : Channel) → Attached x → under x.channels h ≡ Some ch → ((c : Handle) → client.is_on_in was_live c ch ≡ false) → (q : Handle) (r : Request) → under x.requests q ≡ Some r → asks_on h r ≡ true → ⊥
not-live x h ch attached there none q r found on =
    let w = attached.requests q r found in
    let e : r.channel ≡ h = same-is r.channel h on in
    let same : w.0 ≡ ch = one-value x.channels h w.0 ch (subst (λ (k : Handle). under x.channels k ≡ Some w.0) e w.1) there in
    both_ways (client.is_on_in was_live r.circuit ch) (none r.circuit) (ap (λ (v : Channel). client.is_on_in was_live r.circuit v) (sym same) ∙ w.2)

not-on : (d : Handle) (p : Phase) → was_live p ≡ false → (c : Handle) (ch : Channel) → ch.standing ≡ On d p → client.is_on_in was_live c ch ≡ false
not-on d p was c ch is = ap (λ (s : Standing). unwrap_or (option_map was_live (phase_on c s)) false) is ∙ go (same_handle d c)
  where
    go : (b : Bool) → unwrap_or (option_map was_live (cond b (Some p) None)) false ≡ false
    go true = was
    go false = refl

module _ (x : Client) (h : Handle) (attached : Attached x) where
  abbrev Tells : Client → Type 0
  Tells z = Told x (disconnections (asks_on h) x) z

  -- none was on it
  unasked : (s : Standing) (z : Client) → standing_at x h ≡ Some s → ((c : Handle) (ch : Channel) → ch.standing ≡ s → client.is_on_in was_live c ch ≡ false) → Asks x z → Less x z → Tells z
  unasked s z at none asks less =
      let f = found-standing x h s at in
      told-disconnected x z (asks_on h) asks less (λ q r there on o. not-live x h f.0 attached f.1 (λ c. none c f.0 f.2) q r there on)

  -- they are over
  spent : (c : Handle) (s : Standing) (z : Client) → z ≡ with_standing s h (all_over c h x) → Less x z → Tells z
  spent c s z is less =
      let y : Client = record x { subscriptions = monitor.channel_over c h x.subscriptions } in
      let all : Client = all_over c h x in
      let back : Asks all z = subst (λ (v : Client). Asks all v) (sym is) (asks-same all (with_standing s h all) refl refl) in
      let first : Asks x all = asks-then x y all (asks-same x y refl refl) (asks-over h y) in
      told-disconnected x z (asks_on h) (asks-then x all z first back) less
      (λ q r there on o.
      let b = back.opens q o in
      let f = over-back h y q b.0 b.1 b.2 in
      both_ways (asks_on h f.0) f.2 (ap (asks_on h) (one-value x.requests q f.0 r f.1 there) ∙ on))

  told-cleared-so : (s : Standing) → standing_at x h ≡ Some s → Less x (cleared h s x) → Tells (cleared h s x)
  told-cleared-so Searching at less = unasked Searching (cleared h Searching x) at (λ c ch is. ap (λ (s : Standing). unwrap_or (option_map was_live (phase_on c s)) false) is) (asks-same x (cleared h Searching x) refl refl) less
  told-cleared-so (On c Connecting) at less =
      let v : Client = without_channel (unsubscribed_all h x) h in
      let a = same-unwanted c v in
      unasked (On c Connecting) (unwanted c v) at (not-on c Connecting refl) (asks-same x (unwanted c v) a.0 a.1) less
  told-cleared-so (On c (Creating rights)) at less = unasked (On c (Creating rights)) (cleared h (On c (Creating rights)) x) at (not-on c (Creating rights) refl) (asks-same x (cleared h (On c (Creating rights)) x) refl refl) less
  told-cleared-so (On c (Live native rights)) at less = spent c (On c Clearing) (cleared h (On c (Live native rights)) x) refl less
  told-cleared-so (On c Leaving) at less = spent c (On c Clearing) (cleared h (On c Leaving) x) refl less
  told-cleared-so (On c Clearing) at less = spent c (On c Clearing) (cleared h (On c Clearing) x) refl less
  told-cleared-so (On c Doomed) at less = spent c (On c Clearing) (cleared h (On c Doomed) x) refl less

  pub told-cleared : (s : Standing) → standing_at x h ≡ Some s → (let sends : List Sending = clearing_sent h s in Told x (disconnections (asks_on h) x) (sending sends (cleared h s x)))
  told-cleared s at =
      let z : Client = cleared h s x in
      let sends : List Sending = clearing_sent h s in
      told-after x z (sending sends z) (disconnections (asks_on h) x) (told-cleared-so s at (less-cleared x h s)) (asks-sending sends z) (less-sending sends z)

-- ---- circuits are connected, and bytes come

pub told-connected : (x : Client) (c : Handle) (d : ClientCircuit) (k : Option Closing) (sent : List Sending) (y : Client) → under x.circuits c ≡ Some d → ConnectsOn x c (Some d) k sent y → Told x (closing_notices k) y
told-connected x c d None sent y there does =
    let sends : List Sending = set_up x.peer c d ++ creations c x in
    let z : Client = begun c x in
    told-still x y [] (subst (λ (v : Client). Asks x v) (sym does.1) (asks-then x z (sending sends z) (asks-same x z refl refl) (asks-sending sends z)))
    (moved-connected x c d None sent y does).less none-told
told-connected x c d (Some k) sent y there does =
    subst (λ (v : List Notice × Client). Told x v.0 v.1) (λ i. (sym (ap (λ (l : Closing). l.notices) does.0) i, sym does.2 i)) (told-ended x c d there)

pub told-given : (x : Client) (c : Handle) (bytes : List ℕ) (more : Bool) (o : Option Connection) (sent : List Sending) (y : Client) → GivesOn x c bytes more o (Ok tt) sent y → Told x [] y
told-given x c bytes more (Some e) sent y gives =
    let z : Client = given c bytes more x in
    let sends : List Sending = flow_sent c more e in
    told-still x y [] (subst (λ (v : Client). Asks x v) (sym gives.1) (asks-then x z (sending sends z) (asks-same x z refl refl) (asks-sending sends z)))
    (moved-given x c bytes more (Some e) sent y gives).less none-told
told-given x c bytes more None sent y gives = absurd gives

pub told-handed : (c : Handle) (k : ℕ) (x : Client) → Less x (handed_over c k x) → Told x [] (handed_over c k x)
told-handed c k x less = told-still x (handed_over c k x) [] (go (is_some (connection_at x c))) less none-told
  where
    go : (b : Bool) → Asks x (cond b (on_connection (λ (e : Connection). record e { link = with_handed k e.link }) c x) x)
    go true = asks-same x (on_connection (λ (e : Connection). record e { link = with_handed k e.link }) c x) refl refl
    go false = asks-same x x refl refl

-- ---- datagrams

told-received : (x : Client) (from : Address) (m : Fields) (e : Effect) → Receives from x m e → Told x e.notices e.core
told-received x from m e does = by does (moved-received x from m e does).less
  where
    quiet : (z : Client) → e ≡ becomes z → Asks x z → Less x e.core → Told x e.notices e.core
    quiet z is asks less = subst (λ (v : Effect). Less x v.core → Told x v.notices v.core) (sym is) (λ l. told-still x z [] asks l none-told) less

    by : Receives from x m e → Less x e.core → Told x e.notices e.core
    by (ends.Search is finds) less = told-finds x e less (found_at from m) (searched_by m.p2 x) finds
    by (ends.Beacon is port does) less = quiet (beacon_heard from m x) does (asks-same x (beacon_heard from m x) refl refl) less
    by (ends.Other not_search not_beacon does) less = quiet x does (asks-same x x refl refl) less

pub told-all-received : (from : Address) (ms : List Fields) (x : Client) (e : Effect) → ReceivesAll from x ms e → Told x e.notices e.core
told-all-received from [] x e does = subst (λ (v : Effect). Told x v.notices v.core) (sym does) (told-still x x [] (asks-same x x refl refl) (less-itself x) none-told)
told-all-received from (m ∷ ms) x e does =
    subst (λ (w : Effect). Told x w.notices w.core) (sym does.4)
    (told-then x does.0.core does.1.core does.0.notices does.1.notices (told-received x from m does.0 does.2) (told-all-received from ms does.0.core does.1 does.3))

-- ---- a moment

-- one message more waits
told-sent : (x y : Client) (ss : List Notice) (s : Sending) → Told x ss y → Told x ss (sending (s ∷ []) y)
told-sent x y ss s a = told-after x y (sending (s ∷ []) y) ss a (asks-sending (s ∷ []) y) (less-sending (s ∷ []) y)

-- what a tick did so far
abbrev Ticked : Client → Ticking → Type 0
Ticked x t = Told x t.notices t.core

ticks-one : (x : Client) (t : Ticking) (c : Handle) → Ticked x t → Ticked x (ticks t c)
ticks-one x t c m = go (connection_at t.core c) refl
  where
    by : (d : ClientCircuit) → under t.core.circuits c ≡ Some d → (k : Keep) → Ticked x (ticks_as k c t)
    by d there Idle = m
    by d there Close = told-then x t.core (ended c t.core) t.notices (farewell c t.core) m (told-ended t.core c d there)
    by d there Echo =
        let noted : Client = on_connection (λ (e : Connection). record e { link = record e.link { echoed = true } }) c t.core in
        told-sent x noted t.notices (of_circuit c (header_only command.Echo)) (told-after x t.core noted t.notices m (asks-same t.core noted refl refl) (less-on _ c t.core))

    go : (o : Option Connection) → connection_at t.core c ≡ o → Ticked x (unwrap_or (option_map (λ (e : Connection). ticks_as (kept t.core.moment e.link) c t) o) t)
    go None is = m
    go (Some e) is = (let f = connected-there t.core c e is in by f.0 f.1 (kept t.core.moment e.link))

ticks-all : (x : Client) (order : List Handle) (t : Ticking) → Ticked x t → Ticked x (fold ticks t order)
ticks-all x [] t m = m
ticks-all x (c ∷ order) t m = ticks-all x order (ticks t c) (ticks-one x t c m)

module _ (x : Client) (ss : List Notice) where
  searched-one : (c : Handle) (t : Ticking) (w : search.Wanted) → Told x ss t.core → Told x ss (searches_on c t w).core
  searched-one c t w m = go (is_over t.core c)
    where
      go : (b : Bool) → Told x ss (cond b t (with_sending (of_circuit c (search_request w.cid w.name)) t)).core
      go true = m
      go false = told-sent x t.core ss (of_circuit c (search_request w.cid w.name)) m

  searched-each : (c : Handle) (ws : List search.Wanted) (t : Ticking) → Told x ss t.core → Told x ss (fold (searches_on c) t ws).core
  searched-each c [] t m = m
  searched-each c (w ∷ ws) t m = searched-each c ws (searches_on c t w) (searched-one c t w m)

  searched-all : (ws : List search.Wanted) (cs : List Handle) (t : Ticking) → Told x ss t.core → Told x ss (fold (all_searched_on ws) t cs).core
  searched-all ws [] t m = m
  searched-all ws (c ∷ cs) t m = searched-all ws cs (all_searched_on ws t c) (searched-each c ws t m)

pub told-ticked : (moment : ℕ) (x : Client) → (let t : Ticking = circuits_ticked moment x in Told x t.notices (searches_made t).core)
told-ticked moment x =
    let y : Client = record x { moment = later moment x } in
    let first : Ticking = record { core = y; sent = []; notices = []; closings = [] } in
    let t : Ticking = circuits_ticked moment x in
    let u : Ticking = fold (all_searched_on (due t.core)) t (filter (is_name_connected t.core) t.core.order) in
    let so_far : Told x t.notices t.core = ticks-all x x.order first (told-still x y [] (asks-same x y refl refl) (less-same x y refl refl) none-told) in
    told-after x u.core (searches_made t).core t.notices (searched-all x t.notices (due t.core) (filter (is_name_connected t.core) t.core.order) t so_far)
    (asks-same u.core (searches_made t).core refl refl) (less-same u.core (searches_made t).core refl refl)
