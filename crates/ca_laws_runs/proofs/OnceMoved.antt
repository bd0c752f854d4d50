-- What a client does by itself: after a message that it reads, a datagram, a moment, a circuit that
-- is connected or ends, it holds nothing new, and it sends no request.
use Rattle.std.proofs.Common.{◌≡◌, ℕ, zero, suc, inl, inr, Bool, true, false, cond, eqb, List, [], ◌∷◌, ◌++◌, Option, Some, None, refl, sym, ap, ◌∙◌, subst}
use Rattle.std.specs.Prelude.{Ok, filter, fold, map, option_map, option_to_list, unwrap_or}
use Rattle.std.proofs.lemmas.Bool.{both_ways}
use Rattle.ca_text.specs.declared.command.Command.{Command}
use Rattle.ca_text.specs.declared.command.Command.TheVariants as command
use Rattle.ca_text.specs.Place.{At}
use Rattle.ca_text.proofs.Places.{At-mapped, At-parts, some_is}
use Rattle.ca_arena.specs.declared.handle.Handle.{Handle}
use Rattle.ca_ids.specs.Table.{held, under, with_freed}
use Rattle.ca_link.specs.declared.keep.Keep.{Keep}
use Rattle.ca_link.specs.declared.keep.Keep.TheVariants.{Close, Echo, Idle}
use Rattle.ca_link.specs.Link.{kept}
use Rattle.ca_search.specs.Searches as search
use Rattle.ca_monitor.specs.ReadRun.{sent_by_read}
use Rattle.ca_monitor.specs.Subscriptions.{Subscription, confirmed_by, standing_to}
use Rattle.ca_requests.specs.Requests.{Request, answered_by}
use Rattle.ca_requests.specs.Requests as request
use Rattle.ca_wire.specs.Fields.{Fields}
use Rattle.ca_wire.specs.Messages.{header_only, name_request, search_request, version_request}
use Rattle.ca_wire.specs.declared.header.Header.{Header}
use Rattle.ca_model.specs.Answers.{Aim, Closing, Notice, Sending}
use Rattle.ca_model.specs.Answers as aim
use Rattle.ca_model.specs.Ends.{Address}
use Rattle.ca_model.specs.Client.{Channel, Client, ClientCircuit, Clearing, Connecting, Connection, Creating, Doomed, Leaving, Live, On, Phase, Searching, channel_on, circuit_to, connection_at, ended, found_on, is_on_in, later, new_circuit, on_connection, phase_on, searched_again, sending, with_requests, with_standing, without_channel}
use Rattle.ca_model.specs.Client as client
use Rattle.ca_model.specs.ClientCalls.{clear_sent, event_add_sent, is_over}
use Rattle.ca_model.specs.ClientEnds.{ConnectsOn, GivesOn, Receives, ReceivesAll, Ticking, all_searched_on, beacon_heard, begun, circuits_ticked, creating, creations, due, falls_silent, flow_sent, given, is_connecting, is_name_connected, of_circuit, searches_made, searches_on, set_up, ticks, ticks_as, with_sending}
use Rattle.ca_model.specs.ClientEnds as ends
use Rattle.ca_model.specs.Hears.{Answers, Completes, Effect, Fails, FindsAt, Hears, PutsOn, Updates, any_failed, clear_answered, confirmed, create_sent, created, doing, event_adds, failed, found_at, subscription_on, left, native_in, put_on, request_failed, rights_told, searched_by, subscription_failed, with_circuit, without_drained, without_request, without_subscription, write_failed}
use Rattle.ca_model.specs.Hears as hears
use Rattle.ca_model.proofs.Standings.{at-filter-map, channel-on, searched-is}
use Rattle.ca_model.proofs.Tables.{all-back, one-value}
use Rattle.ca_laws_runs.proofs.OnceLess.{Less, StandsLike, is_gone, less-again, less-drained, less-ended, less-freed, less-gone, less-itself, less-on, less-phase, less-requests, less-same, less-sending, less-then, same-subscriptions}

-- it is no request
abbrev pub is_plain : Aim → Bool
is_plain (aim.Write h) = false
is_plain (aim.Read h q) = false
is_plain (aim.Put h q) = false
is_plain a = true

-- no request is among these
abbrev pub ArePlain : List Sending → Type 0
ArePlain sent = (i : ℕ) (s : Sending) → At sent i s → is_plain s.aim ≡ true

pub none-sent : ArePlain []
none-sent i s at = absurd cc

pub one-plain : (s : Sending) → is_plain s.aim ≡ true → ArePlain (s ∷ [])
one-plain s is zero r at = ap (λ (z : Sending). is_plain z.aim) (sym (some_is s r at)) ∙ is
one-plain s is (suc i) r at = absurd cc

pub both-plain : (ss rs : List Sending) → ArePlain ss → ArePlain rs → ArePlain (ss ++ rs)
both-plain ss rs a b i s at = elim (At-parts ss rs i s at) [
  | inl first ↦ a i s first
  | inr later ↦ b later.0 s later.2
]

pub map-plain : {A : Type 0} (f : A → Sending) (xs : List A) → ((x : A) → is_plain (f x).aim ≡ true) → ArePlain (map f xs)
map-plain f xs all i s at = (let m = At-mapped f xs i s at in ap (λ (z : Sending). is_plain z.aim) m.2 ∙ all m.0)

-- From the one client to the other nothing new is held, and these, which were
-- sent, are no requests.
pub record Moved (x : Client) (sent : List Sending) (y : Client) : Type 0 where
  pub less : Less x y
  pub plain : ArePlain sent

pub moved-less : (x y : Client) → Less x y → Moved x [] y
moved-less x y less = record { less = less; plain = none-sent }

pub moved-before : (x y z : Client) (sent : List Sending) → Less x y → Moved y sent z → Moved x sent z
moved-before x y z sent less m = record { less = less-then x y z less m.less; plain = m.plain }

pub moved-then : (x y z : Client) (ss rs : List Sending) → Moved x ss y → Moved y rs z → Moved x (ss ++ rs) z
moved-then x y z ss rs a b = record { less = less-then x y z a.less b.less; plain = both-plain ss rs a.plain b.plain }

pub moved-sending : (x y : Client) (sends : List Sending) → Less x y → ArePlain sends → Moved x sends (sending sends y)
moved-sending x y sends less plain = record { less = less-then x y (sending sends y) less (less-sending sends y); plain = plain }

held-like : (was : client.Standing) (now : client.Standing) → is_gone was ≡ false → StandsLike was now
held-like was now is i = is

gone-like : (was : client.Standing) (now : client.Standing) → is_gone now ≡ true → StandsLike was now
gone-like was now is i = absurd (both_ways (is_gone now) i is)

module _ (x : Client) where
  -- a message made the client this one, and sent nothing, or these
  quietly : (z : Client) (notices : List Notice) (e : Effect) → e ≡ doing [] notices z → Less x z → Moved x e.sent e.core
  quietly z notices e is less = subst (λ (w : Effect). Moved x w.sent w.core) (sym is) (moved-less x z less)

  sends : (sent : List Sending) (z : Client) (notices : List Notice) (e : Effect) → e ≡ doing sent notices z → Less x z → ArePlain sent → Moved x e.sent e.core
  sends sent z notices e is less plain = subst (λ (w : Effect). Moved x w.sent w.core) (sym is) (moved-sending x z sent less plain)

  nothing : (notices : List Notice) (e : Effect) → e ≡ doing [] notices x → Moved x e.sent e.core
  nothing notices e is = quietly x notices e is (less-itself x)

  module _ (c : Handle) where
    -- ---- channels

    moved-rights : (m : Fields) (e : Effect) (o : Option (Handle × Phase)) → channel_on x c m.p1 ≡ o → e ≡ rights_told x c m o → Moved x e.sent e.core
    moved-rights m e None at is = nothing [] e is
    moved-rights m e (Some (h, Connecting)) at is = nothing [] e is
    moved-rights m e (Some (h, Leaving)) at is = nothing [] e is
    moved-rights m e (Some (h, Clearing)) at is = nothing [] e is
    moved-rights m e (Some (h, Doomed)) at is = nothing [] e is
    moved-rights m e (Some (h, Creating rights)) at is =
        let found = channel-on x c m.p1 h (Creating rights) at in
        quietly (with_standing (On c (Creating m.p2)) h x) [] e is (less-phase (On c (Creating m.p2)) h x found.0 (On c (Creating rights)) found.1 found.3 (λ i. refl))
    moved-rights m e (Some (h, Live native rights)) at is =
        let found = channel-on x c m.p1 h (Live native rights) at in
        quietly (with_standing (On c (Live native m.p2)) h x) [] e is (less-phase (On c (Live native m.p2)) h x found.0 (On c (Live native rights)) found.1 found.3 (λ i. refl))

    moved-heard-created : (m : Fields) (e : Effect) (o : Option (Handle × Phase)) → channel_on x c m.p1 ≡ o → e ≡ created x c m o → Moved x e.sent e.core
    moved-heard-created m e None at is = nothing [] e is
    moved-heard-created m e (Some (h, Connecting)) at is = nothing [] e is
    moved-heard-created m e (Some (h, Live native rights)) at is = nothing [] e is
    moved-heard-created m e (Some (h, Leaving)) at is = nothing [] e is
    moved-heard-created m e (Some (h, Clearing)) at is = nothing [] e is
    moved-heard-created m e (Some (h, Creating rights)) at is =
        let found = channel-on x c m.p1 h (Creating rights) at in
        sends (event_adds c m.p2 h x) (with_standing (On c (Live (native_in m) rights)) h x) _ e is
        (less-phase (On c (Live (native_in m) rights)) h x found.0 (On c (Creating rights)) found.1 found.3 (λ i. refl))
        (map-plain (λ (w : Handle × Subscription). event_add_sent c m.p2 w.0 w.1) (standing_to h x.subscriptions) (λ w. refl))
    moved-heard-created m e (Some (h, Doomed)) at is =
        let found = channel-on x c m.p1 h Doomed at in
        sends (clear_sent c m.p2 h ∷ []) (with_standing (On c Clearing) h x) [] e is (less-phase (On c Clearing) h x found.0 (On c Doomed) found.1 found.3 (λ i. i)) (one-plain (clear_sent c m.p2 h) refl)

    moved-failed : (m : Fields) (e : Effect) (o : Option (Handle × Phase)) → channel_on x c m.p1 ≡ o → e ≡ failed x o → Moved x e.sent e.core
    moved-failed m e None at is = nothing [] e is
    moved-failed m e (Some (h, Connecting)) at is = nothing [] e is
    moved-failed m e (Some (h, Live native rights)) at is = nothing [] e is
    moved-failed m e (Some (h, Leaving)) at is = nothing [] e is
    moved-failed m e (Some (h, Clearing)) at is = nothing [] e is
    moved-failed m e (Some (h, Creating rights)) at is =
        let found = channel-on x c m.p1 h (Creating rights) at in
        quietly (searched_again x h) [] e is (less-again h x (λ ch there. ap is_gone (ap (λ (z : Channel). z.standing) (one-value x.channels h ch found.0 there found.1) ∙ found.3)))
    moved-failed m e (Some (h, Doomed)) at is = quietly (without_channel x h) [] e is (less-gone h x)

    moved-answered : (cid : ℕ) (e : Effect) (o : Option (Handle × Phase)) → channel_on x c cid ≡ o → e ≡ clear_answered x c o → Moved x e.sent e.core
    moved-answered cid e None at is = nothing [] e is
    moved-answered cid e (Some (h, Connecting)) at is = nothing [] e is
    moved-answered cid e (Some (h, Live native rights)) at is = nothing [] e is
    moved-answered cid e (Some (h, Creating rights)) at is = nothing [] e is
    moved-answered cid e (Some (h, Doomed)) at is = nothing [] e is
    moved-answered cid e (Some (h, Clearing)) at is = (let y : Client = without_drained c h x in quietly (without_channel y h) [] e is (less-then x y (without_channel y h) (less-drained c h x) (less-gone h y)))
    moved-answered cid e (Some (h, Leaving)) at is =
        let found = channel-on x c cid h Leaving at in
        let y : Client = without_drained c h x in
        quietly (searched_again y h) [] e is
        (less-then x y (searched_again y h) (less-drained c h x) (less-again h y (λ ch there. ap is_gone (ap (λ (z : Channel). z.standing) (one-value x.channels h ch found.0 there found.1) ∙ found.3))))

    moved-left : (m : Fields) (e : Effect) (o : Option (Handle × Phase)) → channel_on x c m.p1 ≡ o → e ≡ left x c o → Moved x e.sent e.core
    moved-left m e None at is = nothing [] e is
    moved-left m e (Some (h, Connecting)) at is = nothing [] e is
    moved-left m e (Some (h, Creating rights)) at is = nothing [] e is
    moved-left m e (Some (h, Leaving)) at is = nothing [] e is
    moved-left m e (Some (h, Clearing)) at is = nothing [] e is
    moved-left m e (Some (h, Doomed)) at is = nothing [] e is
    moved-left m e (Some (h, Live native rights)) at is =
        let found = channel-on x c m.p1 h (Live native rights) at in
        let y : Client = with_requests (request.channel_over h x.requests) x in
        sends (clear_sent c native.sid h ∷ []) (with_standing (On c Leaving) h y) _ e is
        (less-then x y (with_standing (On c Leaving) h y) (less-requests (request.channel_over h x.requests) x) (less-phase (On c Leaving) h y found.0 (On c (Live native rights)) found.1 found.3 (λ i. refl)))
        (one-plain (clear_sent c native.sid h) refl)

    -- ---- requests and subscriptions

    less-request : (q : Handle) → Less x (without_request q x)
    less-request q = less-requests (with_freed q x.requests) x

    moved-reply : (m : Fields) (e : Effect) (o : Option (Handle × Request)) → Answers x m o e → Moved x e.sent e.core
    moved-reply m e None is = nothing [] e is
    moved-reply m e (Some (q, r)) is = go r.stage is
      where
        go : (s : request.Stage) → Completes x m q r.asked s e → Moved x e.sent e.core
        go request.Open done = quietly (without_request q x) _ e done.2 (less-request q)
        go request.Draining done = quietly (without_request q x) [] e done (less-request q)

    moved-confirmed : (e : Effect) (o : Option Handle) → e ≡ confirmed x o → Moved x e.sent e.core
    moved-confirmed e None is = nothing [] e is
    moved-confirmed e (Some q) is = quietly (without_subscription q x) [] e is (less-freed q x)

    moved-update : (m : Fields) (e : Effect) (o : Option Handle) → Updates x m o e → Moved x e.sent e.core
    moved-update m e None is = nothing [] e is
    moved-update m e (Some q) is = nothing _ e is.2

    moved-write : (m : Fields) (e : Effect) (o : Option (Handle × Phase)) → e ≡ write_failed x m o → Moved x e.sent e.core
    moved-write m e None is = nothing [] e is
    moved-write m e (Some (h, Connecting)) is = nothing [] e is
    moved-write m e (Some (h, Creating rights)) is = nothing [] e is
    moved-write m e (Some (h, Live native rights)) is = nothing _ e is
    moved-write m e (Some (h, Leaving)) is = nothing [] e is
    moved-write m e (Some (h, Clearing)) is = nothing [] e is
    moved-write m e (Some (h, Doomed)) is = nothing [] e is

    moved-refused : (m : Fields) (e : Effect) (o : Option Handle) → e ≡ subscription_failed x m o → Moved x e.sent e.core
    moved-refused m e None is = nothing [] e is
    moved-refused m e (Some q) is = quietly (without_subscription q x) _ e is (less-freed q x)

    moved-any : (m : Fields) (e : Effect) (o : Option (Handle × Request)) → e ≡ any_failed x m o → Moved x e.sent e.core
    moved-any m e None is = nothing [] e is
    moved-any m e (Some (q, r)) is = go r.stage is
      where
        go : (s : request.Stage) → e ≡ request_failed x m q s → Moved x e.sent e.core
        go request.Open done = quietly (without_request q x) _ e done (less-request q)
        go request.Draining done = nothing [] e done

    moved-error : (m : Fields) (e : Effect) → Fails x c m e → Moved x e.sent e.core
    moved-error m e fails = elim fails [
      | inr not_whole ↦ nothing [] e not_whole.1
      | inl whole ↦ by whole.0 (eqb whole.0.command 4) (eqb whole.0.command 1) whole.2
    ]
      where
        by : (h : Header) (a b : Bool) → e ≡ cond a (write_failed x m (channel_on x c m.p1)) (cond b (subscription_failed x m (subscription_on x c h.p2)) (any_failed x m (answered_by c h.command h.p2 x.requests))) → Moved x e.sent e.core
        by h true b is = moved-write m e (channel_on x c m.p1) is
        by h false true is = moved-refused m e (subscription_on x c h.p2) is
        by h false false is = moved-any m e (answered_by c h.command h.p2 x.requests) is

  -- ---- search replies

  moved-put-on : (c : Handle) (o : Option Connection) (h : Handle) (here : Channel) (e : Effect) → under x.channels h ≡ Some here → here.standing ≡ Searching → e ≡ put_on c o h here x → Moved x e.sent e.core
  moved-put-on c None h here e there stood is =
      let y : Client = with_standing (On c Connecting) h x in
      quietly (found_on c Connecting h x) [] e is (less-then x y (found_on c Connecting h x) (less-phase (On c Connecting) h x here Searching there stood (λ i. refl)) (less-same y (found_on c Connecting h x) refl refl))
  moved-put-on c (Some d) h here e there stood is =
      let y : Client = with_standing (On c (Creating 0)) h x in
      sends (create_sent c h here ∷ []) (found_on c (Creating 0) h x) [] e is
      (less-then x y (found_on c (Creating 0) h x) (less-phase (On c (Creating 0)) h x here Searching there stood (λ i. refl)) (less-same y (found_on c (Creating 0) h x) refl refl))
      (one-plain (create_sent c h here) refl)

moved-puts-on : (x : Client) (address : Address) (h : Handle) (here : Channel) (o : Option (Handle × ClientCircuit)) (e : Effect) → under x.channels h ≡ Some here → here.standing ≡ Searching → PutsOn x address h here o e → Moved x e.sent e.core
moved-puts-on x address h here (Some (c, d)) e there stood is = moved-put-on x c d.connection h here e there stood is
moved-puts-on x address h here None e there stood is = elim is [
  | inr full ↦ nothing x [] e full.1
  | inl new ↦
      let y : Client = with_circuit new.0 (new_circuit address here.priority false) x in
      moved-before x y e.core e.sent (less-same x y refl refl) (moved-put-on y new.0 None h here e there stood new.2)
]

moved-finds : (x : Client) (address : Address) (cid : ℕ) (o : Option (Handle × Channel)) (e : Effect) → searched_by cid x ≡ o → FindsAt x address o e → Moved x e.sent e.core
moved-finds x address cid None e at is = nothing x [] e is
moved-finds x address cid (Some (h, here)) e at is = (let found = searched-is cid x h here at in moved-puts-on x address h here (circuit_to address here.priority x) e found.0 found.1 is)

-- ---- all messages

pub moved-heard : (x : Client) (c : Handle) (m : Fields) (e : Effect) → Hears x c m e → Moved x e.sent e.core
moved-heard x c m e (hears.Search is d there finds) = moved-finds x (found_at d.address m) m.p2 (searched_by m.p2 x) e refl finds
moved-heard x c m e (hears.AccessRights is does) = moved-rights x c m e (channel_on x c m.p1) refl does
moved-heard x c m e (hears.CreateChannel is does) = moved-heard-created x c m e (channel_on x c m.p1) refl does
moved-heard x c m e (hears.CreateChannelFail is does) = moved-failed x c m e (channel_on x c m.p1) refl does
moved-heard x c m e (hears.ClearChannel is does) = moved-answered x c m.p2 e (channel_on x c m.p2) refl does
moved-heard x c m e (hears.ServerDisconnect is does) = moved-left x c m e (channel_on x c m.p1) refl does
moved-heard x c m e (hears.Reply is does) = moved-reply x c m e (answered_by c m.command m.p2 x.requests) does
moved-heard x c m e (hears.Confirmation is empty does) = moved-confirmed x c e (confirmed_by c m.p2 x.subscriptions) does
moved-heard x c m e (hears.Update is some does) = moved-update x c m e (subscription_on x c m.p2) does
moved-heard x c m e (hears.Error is does) = moved-error x c m e does
moved-heard x c m e (hears.Other is does) = nothing x [] e does

-- ---- datagrams

pub moved-received : (x : Client) (from : Address) (m : Fields) (e : Effect) → Receives from x m e → Moved x e.sent e.core
moved-received x from m e (ends.Search is finds) = moved-finds x (found_at from m) m.p2 (searched_by m.p2 x) e refl finds
moved-received x from m e (ends.Beacon is port does) = quietly x (beacon_heard from m x) [] e does (less-same x (beacon_heard from m x) refl refl)
moved-received x from m e (ends.Other not_search not_beacon does) = nothing x [] e does

pub moved-all-received : (from : Address) (ms : List Fields) (x : Client) (e : Effect) → ReceivesAll from x ms e → Moved x e.sent e.core
moved-all-received from [] x e does = nothing x [] e does
moved-all-received from (m ∷ ms) x e does =
    subst (λ (w : Effect). Moved x w.sent w.core) (sym does.4)
    (moved-then x does.0.core does.1.core does.0.sent does.1.sent (moved-received x from m does.0 does.2) (moved-all-received from ms does.0.core does.1 does.3))

-- ---- a moment

-- what a tick did so far
abbrev Ticked : Client → Ticking → Type 0
Ticked x t = Moved x t.sent t.core

ticked-less : (x : Client) (t u : Ticking) → Less t.core u.core → u.sent ≡ t.sent → Ticked x t → Ticked x u
ticked-less x t u less same m = subst (λ (l : List Sending). Moved x l u.core) (sym same) (record { less = less-then x t.core u.core m.less less; plain = m.plain })

ticked-sending : (x : Client) (t : Ticking) (s : Sending) → is_plain s.aim ≡ true → Ticked x t → Ticked x (with_sending s t)
ticked-sending x t s is m = moved-then x t.core (sending (s ∷ []) t.core) t.sent (s ∷ []) m (moved-sending t.core t.core (s ∷ []) (less-itself t.core) (one-plain s is))

ticks-one : (x : Client) (t : Ticking) (c : Handle) → Ticked x t → Ticked x (ticks t c)
ticks-one x t c m = go (connection_at t.core c)
  where
    by : (k : Keep) → Ticked x (ticks_as k c t)
    by Idle = m
    by Close = ticked-less x t (falls_silent c t) (less-ended c t.core) refl m
    by Echo =
        let noted : Client = on_connection (λ (e : Connection). record e { link = record e.link { echoed = true } }) c t.core in
        let u : Ticking = record t { core = noted } in
        ticked-sending x u (of_circuit c (header_only command.Echo)) refl (ticked-less x t u (less-on _ c t.core) refl m)

    go : (o : Option Connection) → Ticked x (unwrap_or (option_map (λ (e : Connection). ticks_as (kept t.core.moment e.link) c t) o) t)
    go None = m
    go (Some e) = by (kept t.core.moment e.link)

ticks-all : (x : Client) (order : List Handle) (t : Ticking) → Ticked x t → Ticked x (fold ticks t order)
ticks-all x [] t m = m
ticks-all x (c ∷ order) t m = ticks-all x order (ticks t c) (ticks-one x t c m)

searched-one : (x : Client) (c : Handle) (t : Ticking) (w : search.Wanted) → Ticked x t → Ticked x (searches_on c t w)
searched-one x c t w m = go (is_over t.core c)
  where
    go : (b : Bool) → Ticked x (cond b t (with_sending (of_circuit c (search_request w.cid w.name)) t))
    go true = m
    go false = ticked-sending x t (of_circuit c (search_request w.cid w.name)) refl m

searched-each : (x : Client) (c : Handle) (ws : List search.Wanted) (t : Ticking) → Ticked x t → Ticked x (fold (searches_on c) t ws)
searched-each x c [] t m = m
searched-each x c (w ∷ ws) t m = searched-each x c ws (searches_on c t w) (searched-one x c t w m)

searched-all : (x : Client) (ws : List search.Wanted) (cs : List Handle) (t : Ticking) → Ticked x t → Ticked x (fold (all_searched_on ws) t cs)
searched-all x ws [] t m = m
searched-all x ws (c ∷ cs) t m = searched-all x ws cs (all_searched_on ws t c) (searched-each x c ws t m)

pub moved-ticked : (moment : ℕ) (x : Client) → (let t : Ticking = circuits_ticked moment x in Moved x (searches_made t).sent (searches_made t).core)
moved-ticked moment x =
    let y : Client = record x { moment = later moment x } in
    let first : Ticking = record { core = y; sent = []; notices = []; closings = [] } in
    let t : Ticking = circuits_ticked moment x in
    let u : Ticking = fold (all_searched_on (due t.core)) t (filter (is_name_connected t.core) t.core.order) in
    ticked-less x u (searches_made t) (less-same u.core (searches_made t).core refl refl) refl
    (searched-all x (due t.core) (filter (is_name_connected t.core) t.core.order) t (ticks-all x x.order first (moved-less x y (less-same x y refl refl))))

-- ---- bytes, and circuits that are connected

pub moved-given : (x : Client) (c : Handle) (bytes : List ℕ) (more : Bool) (o : Option Connection) (sent : List Sending) (y : Client) → GivesOn x c bytes more o (Ok tt) sent y → Moved x sent y
moved-given x c bytes more (Some e) sent y gives =
    let z : Client = given c bytes more x in
    subst (λ (v : List Sending × Client). Moved x v.0 v.1) (λ i. (sym gives.0 i, sym gives.1 i))
    (moved-sending x z (flow_sent c more e) (less-on _ c x) (map-plain (λ (k : Command). of_circuit c (header_only k)) (option_to_list (sent_by_read more e.run)) (λ k. refl)))
moved-given x c bytes more None sent y gives = absurd gives

creations-plain : (c : Handle) (x : Client) → ArePlain (creations c x)
creations-plain c x i s at =
    let m = at-filter-map (λ (e : Handle × Channel). cond (is_on_in is_connecting c e.1) (Some (create_sent c e.0 e.1)) None) (held x.channels) i s at in
    go m.1 (is_on_in is_connecting c m.1.1) m.3
  where
    go : (e : Handle × Channel) (b : Bool) → cond b (Some (create_sent c e.0 e.1)) None ≡ Some s → is_plain s.aim ≡ true
    go e true is = ap (λ (w : Sending). is_plain w.aim) (sym (some_is (create_sent c e.0 e.1) s is))
    go e false is = absurd cc

less-begun : (c : Handle) (x : Client) → Less x (begun c x)
less-begun c x = record {
  channels = λ h ch is. (let was = all-back (creating c) x.channels h ch is in (was.0, was.1, λ i. go was.0 (is_on_in is_connecting c was.0) refl (ap (λ (z : Channel). is_gone z.standing) (sym was.2) ∙ i)));
  subscriptions = same-subscriptions x.subscriptions;
}
  where
    connecting : (p : Phase) → is_connecting p ≡ true → client.is_cleared p ≡ false
    connecting Connecting is = refl
    connecting (Creating rights) is = absurd (both_ways false refl is)
    connecting (Live native rights) is = absurd (both_ways false refl is)
    connecting Leaving is = absurd (both_ways false refl is)
    connecting Clearing is = absurd (both_ways false refl is)
    connecting Doomed is = absurd (both_ways false refl is)

    waits : (s : client.Standing) → unwrap_or (option_map is_connecting (phase_on c s)) false ≡ true → is_gone s ≡ false
    waits Searching is = refl
    waits (On d p) is = by _ is
      where
        by : (b : Bool) → unwrap_or (option_map is_connecting (cond b (Some p) None)) false ≡ true → client.is_cleared p ≡ false
        by true e = connecting p e
        by false e = absurd (both_ways false refl e)

    go : (w : Channel) (b : Bool) → is_on_in is_connecting c w ≡ b → is_gone (cond b (record w { standing = On c (Creating 0) }) w).standing ≡ false → is_gone w.standing ≡ false
    go w true is i = waits w.standing is
    go w false is i = i

pub moved-connected : (x : Client) (c : Handle) (d : ClientCircuit) (k : Option Closing) (sent : List Sending) (y : Client) → ConnectsOn x c (Some d) k sent y → Moved x sent y
moved-connected x c d None sent y does =
    subst (λ (w : List Sending × Client). Moved x w.0 w.1) (λ i. (sym does.0 i, sym does.1 i))
    (moved-sending x (begun c x) (set_up x.peer c d ++ creations c x) (less-begun c x)
    (both-plain (set_up x.peer c d) (creations c x)
    (map-plain (of_circuit c) (version_request d.priority ∷ name_request command.ClientName x.peer.user ∷ name_request command.HostName x.peer.host ∷ []) (λ m. refl)) (creations-plain c x)))
moved-connected x c d (Some k) sent y does = subst (λ (w : List Sending × Client). Moved x w.0 w.1) (λ i. (sym does.1 i, sym does.2 i)) (moved-less x (ended c x) (less-ended c x))
