-- An open request is on a channel that is live on its circuit: what each change of a
-- client leaves of that.
use Rattle.std.proofs.Common.{◌≡◌, ℕ, inl, inr, Bool, true, false, cond, eqb, List, [], ◌∷◌, ◌++◌, Option, Some, None, refl, sym, ap, ◌∙◌, subst}
use Rattle.std.specs.Prelude.{Ok, filter, fold, is_some, option_map, unwrap_or}
use Rattle.std.proofs.lemmas.Bool.{both_ways}
use Rattle.ca_arena.specs.declared.handle.Handle.{Handle}
use Rattle.ca_ids.specs.Table.{Table, same_handle, under, with_all_freed}
use Rattle.ca_link.specs.declared.keep.Keep.{Keep}
use Rattle.ca_link.specs.declared.keep.Keep.TheVariants.{Close, Echo, Idle}
use Rattle.ca_link.specs.Link.{kept, with_handed}
use Rattle.ca_monitor.specs.Subscriptions.{confirmed_by}
use Rattle.ca_monitor.specs.Subscriptions as monitor
use Rattle.ca_requests.specs.Requests.{Asked, Request, answered_by, asks_on, is_open_in, was_sent_on}
use Rattle.ca_requests.specs.Requests as request
use Rattle.ca_search.specs.Searches as search
use Rattle.ca_text.specs.declared.command.Command.TheVariants as command
use Rattle.ca_wire.specs.declared.header.Header.{Header}
use Rattle.ca_wire.specs.Fields.{Fields}
use Rattle.ca_wire.specs.Messages.{header_only, search_request}
use Rattle.ca_model.specs.Answers.{Closing, Notice, Sending}
use Rattle.ca_model.specs.Client.{Channel, Client, ClientCircuit, Clearing, Connecting, Connection, Creating, Doomed, Leaving, Live, On, Phase, Searching, Standing, channel_on, channels_ended, circuit_to, connection_at, ended, found_on, is_live, later, let_go, on_connection, searched_again, sending, standing_at, with_one_sent, with_requests, with_standing, without_channel, without_ids}
use Rattle.ca_model.specs.Client as phase
use Rattle.ca_model.specs.ClientCalls.{ClientOpens, Opening, cleared, clearing_sent, is_over, opened, unsubscribed, unsubscribed_all, unwanted}
use Rattle.ca_model.specs.ClientEnds.{ConnectsOn, GivesOn, Receives, ReceivesAll, Ticking, all_searched_on, beacon_heard, begun, circuits_ticked, creations, due, flow_sent, given, handed_over, is_name_connected, of_circuit, searches_made, searches_on, set_up, ticks, ticks_as, with_sending}
use Rattle.ca_model.specs.ClientEnds as ends
use Rattle.ca_model.specs.Ends.{Address}
use Rattle.ca_model.specs.Hears.{Answers, Completes, Effect, Fails, FindsAt, Hears, PutsOn, Updates, any_failed, clear_answered, confirmed, created, doing, failed, found_at, subscription_on, left, put_on, request_failed, rights_told, searched_by, subscription_failed, with_circuit, without_drained, without_request, write_failed}
use Rattle.ca_model.specs.Hears as hears
use Rattle.ca_model.proofs.Handles.{handle-or, same-itself}
use Rattle.ca_model.proofs.Standings.{channel-on, found-standing, searched-is}
use Rattle.ca_model.proofs.Tables.{all-back, all-freed-back, freed-back}
use Rattle.ca_laws_parts.proofs.Filtered.{requests-ended, requests-unwanted}
use Rattle.ca_laws_runs.specs.Sides.{IsLiveAs}
use Rattle.ca_laws_runs.proofs.Live.{NotLive, SameLive, none-live, not-phase, not-searched, other-there, same-begun, same-ended, same-gone, same-held, same-rights}

-- The channel of this handle is live on this circuit.
abbrev pub IsLiveOn : Table Channel → (on h : Handle) → Type 0
IsLiveOn t on h = (sid : ℕ) × IsLiveAs t on h sid

-- From the one client to the other no request is open that was not; and the channel of one that is
-- open still is live as it was.
pub record Opens (x y : Client) : Type 0 where
  pub back : (q : Handle) (r : Request) → under y.requests q ≡ Some r → is_open_in r.stage ≡ true
      → (s : Request) × (under x.requests q ≡ Some s) × (is_open_in s.stage ≡ true) × (r.channel ≡ s.channel) × (r.circuit ≡ s.circuit)
      × (IsLiveOn x.channels s.circuit s.channel → IsLiveOn y.channels s.circuit s.channel)

-- Each open request is on a channel that is live on the circuit on which it was sent.
abbrev pub AreOpenLive : Client → Type 0
AreOpenLive x = (q : Handle) (r : Request) → under x.requests q ≡ Some r → is_open_in r.stage ≡ true → IsLiveOn x.channels r.circuit r.channel

pub opens-live : (x y : Client) → Opens x y → AreOpenLive x → AreOpenLive y
opens-live x y o live q r is it =
    let b = o.back q r is it in
    subst (λ (v : Handle × Handle). IsLiveOn y.channels v.0 v.1) (λ i. (sym b.4 i, sym b.3 i)) (b.5 (live q b.0 b.1 b.2))

pub opens-then : (x y z : Client) → Opens x y → Opens y z → Opens x z
opens-then x y z a b = record {
  back = λ q r is it.
      let v = b.back q r is it in
      let w = a.back q v.0 v.1 v.2 in (
        w.0,
        w.1,
        w.2,
        v.3 ∙ w.3,
        v.4 ∙ w.4,
        λ l.
            subst (λ (k : Handle × Handle). IsLiveOn z.channels k.0 k.1) (λ i. (w.4 i, w.3 i))
            (v.5 (subst (λ (k : Handle × Handle). IsLiveOn y.channels k.0 k.1) (λ i. (sym w.4 i, sym w.3 i)) (w.5 l))),
      );
}

-- ---- the requests stay

opens-lives : (x y : Client) → y.requests ≡ x.requests → ((on h : Handle) (sid : ℕ) → IsLiveAs x.channels on h sid → IsLiveOn y.channels on h) → Opens x y
opens-lives x y same lives = record {
  back = λ q r is it. (r, subst (λ (t : Table Request). under t q ≡ Some r) same is, it, refl, refl, λ l. lives r.circuit r.channel l.0 l.1);
}

opens-alike : (x y : Client) → y.requests ≡ x.requests → ((on : Handle) → SameLive on x.channels y.channels) → Opens x y
opens-alike x y requests same = opens-lives x y requests (λ on h sid l. (sid, (same on h sid).0 l))

pub opens-same : (x y : Client) → y.requests ≡ x.requests → y.channels ≡ x.channels → Opens x y
opens-same x y requests channels = opens-lives x y requests (λ on h sid l. (sid, subst (λ (t : Table Channel). IsLiveAs t on h sid) (sym channels) l))

pub opens-itself : (x : Client) → Opens x x
opens-itself x = opens-same x x refl refl

pub opens-sending : (sends : List Sending) (x : Client) → Opens x (sending sends x)
opens-sending [] x = opens-itself x
opens-sending (s ∷ sends) x = opens-then x (with_one_sent x s) (sending sends (with_one_sent x s)) (opens-same x (with_one_sent x s) refl refl) (opens-sending sends (with_one_sent x s))

-- ---- the channels stay

opens-rows : (x y : Client) → y.channels ≡ x.channels → ((q : Handle) (r : Request) → under y.requests q ≡ Some r → under x.requests q ≡ Some r) → Opens x y
opens-rows x y channels rows = record {
  back = λ q r is it. (r, rows q r is, it, refl, refl, λ l. (l.0, subst (λ (t : Table Channel). IsLiveAs t r.circuit r.channel l.0) (sym channels) l.1));
}

opens-freed : (q : Handle) (x : Client) → Opens x (without_request q x)
opens-freed q x = opens-rows x (without_request q x) refl (λ k r is. (freed-back x.requests k q r is).1)

opens-all-freed : (frees : Request → Bool) (x : Client) → Opens x (with_requests (with_all_freed frees x.requests) x)
opens-all-freed frees x = opens-rows x (with_requests (with_all_freed frees x.requests) x) refl (λ k r is. (all-freed-back frees x.requests k r is).0)

opens-drained : (c h : Handle) (x : Client) → Opens x (without_drained c h x)
opens-drained c h x =
    let y : Client = record x { subscriptions = monitor.channel_drained c h x.subscriptions } in
    opens-then x y (without_drained c h x) (opens-same x y refl refl) (opens-all-freed (asks_on h) y)

-- ---- a channel stands otherwise

-- one that was not live
module _ (h : Handle) (x : Client) (ch : Channel) (there : under x.channels h ≡ Some ch) (was : (on : Handle) → NotLive on ch.standing) where
  opens-stood : (s : Standing) → Opens x (with_standing s h x)
  opens-stood s = opens-lives x (with_standing s h x) refl (λ on g sid l. elim (handle-or g h) [
    | inl same ↦ absurd (none-live x.channels on h ch there (was on) sid (subst (λ (k : Handle). IsLiveAs x.channels on k sid) same l))
    | inr other ↦ (sid, other-there s h x.channels on g sid other l)
  ])

  opens-gone : Opens x (without_channel x h)
  opens-gone = opens-alike x (without_channel x h) refl (λ on. same-gone on x h (none-live x.channels on h ch there (was on)))

  opens-again : Opens x (searched_again x h)
  opens-again = (let y : Client = with_standing Searching h x in opens-then x y (searched_again x h) (opens-stood Searching) (opens-same y (searched_again x h) refl refl))

-- in a phase in which it is not
phase-not : (c : Handle) (p : Phase) (s : Standing) → s ≡ On c p → is_live p ≡ false → (on : Handle) → NotLive on s
phase-not c p s stands none on native rights e = not-phase c on p none native rights (sym stands ∙ e)

searched-not : (s : Standing) → s ≡ Searching → (on : Handle) → NotLive on s
searched-not s stands on native rights e = not-searched on native rights (sym stands ∙ e)

-- a request that is open still was on another channel
over-row : (h : Handle) (t : Table Request) (q : Handle) (r : Request) → under (request.channel_over h t) q ≡ Some r → is_open_in r.stage ≡ true
    → (u : Request) × (under t q ≡ Some u) × (asks_on h u ≡ false) × (is_open_in u.stage ≡ true) × (r ≡ u)
over-row h t q r is it =
    let was = all-back (request.over_on h) t q r is in
    go was.0 was.1 (asks_on h was.0) refl was.2
  where
    go : (u : Request) → under t q ≡ Some u → (b : Bool) → asks_on h u ≡ b → r ≡ cond b (record u { stage = request.Draining }) u
        → (u : Request) × (under t q ≡ Some u) × (asks_on h u ≡ false) × (is_open_in u.stage ≡ true) × (r ≡ u)
    go u there true on same = absurd (both_ways false refl (ap (λ (v : Request). is_open_in v.stage) (sym same) ∙ it))
    go u there false on same = (u, there, on, ap (λ (v : Request). is_open_in v.stage) (sym same) ∙ it, same)

-- One whose requests are over may stand as it likes.
opens-spent : (s : Standing) (h : Handle) (x z : Client) → z.requests ≡ request.channel_over h x.requests → z.channels ≡ (with_standing s h x).channels → Opens x z
opens-spent s h x z requests channels = record {
  back = λ q r is it.
      let b = over-row h x.requests q r (subst (λ (t : Table Request). under t q ≡ Some r) requests is) it in (
        b.0,
        b.1,
        b.3,
        ap (λ (v : Request). v.channel) b.4,
        ap (λ (v : Request). v.circuit) b.4,
        λ l. (
          l.0,
          subst (λ (t : Table Channel). IsLiveAs t (b.0).circuit (b.0).channel l.0) (sym channels)
              (other-there s h x.channels (b.0).circuit (b.0).channel l.0
              (λ e. both_ways (asks_on h b.0) b.2 (subst (λ (k : Handle). same_handle (b.0).channel k ≡ true) e (same-itself (b.0).channel))) l.1),
        ),
      );
}

-- ---- an end has ended

pub opens-ended : (c : Handle) (x : Client) → Opens x (ended c x)
opens-ended c x = record {
  back = λ q r is it. go (under x.circuits c) refl q r is it;
}
  where
    go : (o : Option ClientCircuit) → under x.circuits c ≡ o → (q : Handle) (r : Request) → under (unwrap_or (option_map (λ (d : ClientCircuit). let_go c d (channels_ended c (without_ids c x))) o) x).requests q ≡ Some r → is_open_in r.stage ≡ true
        → (s : Request) × (under x.requests q ≡ Some s) × (is_open_in s.stage ≡ true) × (r.channel ≡ s.channel) × (r.circuit ≡ s.circuit)
        × (IsLiveOn x.channels s.circuit s.channel → IsLiveOn (ended c x).channels s.circuit s.channel)
    go None none q r is it = (
      r,
      is,
      it,
      refl,
      refl,
      λ l. (l.0, subst (λ (o : Option ClientCircuit). IsLiveAs (unwrap_or (option_map (λ (d : ClientCircuit). let_go c d (channels_ended c (without_ids c x))) o) x).channels r.circuit r.channel l.0) (sym none) l.1),
    )
    go (Some d) there q r is it =
        let row : under (without_ids c x).requests q ≡ Some r = subst (λ (t : Table Request). under t q ≡ Some r) (requests-ended c d (without_ids c x)) is in
        let b = all-freed-back (was_sent_on c) x.requests q r row in (
          r,
          b.0,
          it,
          refl,
          refl,
          λ l. (
            l.0,
            (same-ended r.circuit c x (λ e. both_ways (was_sent_on c r) b.1 (subst (λ (k : Handle). same_handle r.circuit k ≡ true) (sym e) (same-itself r.circuit))) r.channel l.0).0 l.1,
          ),
        )

-- ---- a message that is read

module _ (x : Client) (e : Effect) where
  does-so : (sent : List Sending) (notices : List Notice) (z : Client) → e ≡ doing sent notices z → Opens x z → Opens x e.core
  does-so sent notices z is o = subst (λ (v : Effect). Opens x v.core) (sym is) (opens-then x z (sending sent z) o (opens-sending sent z))

  nothing : (notices : List Notice) → e ≡ doing [] notices x → Opens x e.core
  nothing notices is = does-so [] notices x is (opens-itself x)

  module _ (c : Handle) (m : Fields) where
    opens-rights : (o : Option (Handle × Phase)) → channel_on x c m.p1 ≡ o → e ≡ rights_told x c m o → Opens x e.core
    opens-rights None at is = nothing [] is
    opens-rights (Some (h, Connecting)) at is = nothing [] is
    opens-rights (Some (h, Leaving)) at is = nothing [] is
    opens-rights (Some (h, Clearing)) at is = nothing [] is
    opens-rights (Some (h, Doomed)) at is = nothing [] is
    opens-rights (Some (h, Creating rights)) at is =
        let f = channel-on x c m.p1 h (Creating rights) at in
        does-so [] [] (with_standing (On c (Creating m.p2)) h x) is (opens-stood h x f.0 f.1 (phase-not c (Creating rights) (f.0).standing f.3 refl) (On c (Creating m.p2)))
    opens-rights (Some (h, Live native rights)) at is =
        let f = channel-on x c m.p1 h (Live native rights) at in
        does-so [] [] (with_standing (On c (Live native m.p2)) h x) is (opens-alike x (with_standing (On c (Live native m.p2)) h x) refl (λ on. same-rights x.channels c on h f.0 native rights m.p2 f.1 f.3))

    opens-created : (o : Option (Handle × Phase)) → channel_on x c m.p1 ≡ o → e ≡ created x c m o → Opens x e.core
    opens-created None at is = nothing [] is
    opens-created (Some (h, Connecting)) at is = nothing [] is
    opens-created (Some (h, Live native rights)) at is = nothing [] is
    opens-created (Some (h, Leaving)) at is = nothing [] is
    opens-created (Some (h, Clearing)) at is = nothing [] is
    opens-created (Some (h, Creating rights)) at is =
        let f = channel-on x c m.p1 h (Creating rights) at in
        does-so _ _ (with_standing (On c (Live (hears.native_in m) rights)) h x) is (opens-stood h x f.0 f.1 (phase-not c (Creating rights) (f.0).standing f.3 refl) (On c (Live (hears.native_in m) rights)))
    opens-created (Some (h, Doomed)) at is =
        let f = channel-on x c m.p1 h Doomed at in
        does-so _ _ (with_standing (On c Clearing) h x) is (opens-stood h x f.0 f.1 (phase-not c Doomed (f.0).standing f.3 refl) (On c Clearing))

    opens-failed : (o : Option (Handle × Phase)) → channel_on x c m.p1 ≡ o → e ≡ failed x o → Opens x e.core
    opens-failed None at is = nothing [] is
    opens-failed (Some (h, Connecting)) at is = nothing [] is
    opens-failed (Some (h, Live native rights)) at is = nothing [] is
    opens-failed (Some (h, Leaving)) at is = nothing [] is
    opens-failed (Some (h, Clearing)) at is = nothing [] is
    opens-failed (Some (h, Creating rights)) at is =
        let f = channel-on x c m.p1 h (Creating rights) at in
        does-so [] [] (searched_again x h) is (opens-again h x f.0 f.1 (phase-not c (Creating rights) (f.0).standing f.3 refl))
    opens-failed (Some (h, Doomed)) at is =
        let f = channel-on x c m.p1 h Doomed at in
        does-so [] [] (without_channel x h) is (opens-gone h x f.0 f.1 (phase-not c Doomed (f.0).standing f.3 refl))

    opens-answered : (o : Option (Handle × Phase)) → channel_on x c m.p2 ≡ o → e ≡ clear_answered x c o → Opens x e.core
    opens-answered None at is = nothing [] is
    opens-answered (Some (h, Connecting)) at is = nothing [] is
    opens-answered (Some (h, Live native rights)) at is = nothing [] is
    opens-answered (Some (h, Creating rights)) at is = nothing [] is
    opens-answered (Some (h, Doomed)) at is = nothing [] is
    opens-answered (Some (h, Clearing)) at is =
        let f = channel-on x c m.p2 h Clearing at in
        let y : Client = without_drained c h x in
        does-so [] [] (without_channel y h) is (opens-then x y (without_channel y h) (opens-drained c h x) (opens-gone h y f.0 f.1 (phase-not c Clearing (f.0).standing f.3 refl)))
    opens-answered (Some (h, Leaving)) at is =
        let f = channel-on x c m.p2 h Leaving at in
        let y : Client = without_drained c h x in
        does-so [] [] (searched_again y h) is (opens-then x y (searched_again y h) (opens-drained c h x) (opens-again h y f.0 f.1 (phase-not c Leaving (f.0).standing f.3 refl)))

    opens-left : (o : Option (Handle × Phase)) → e ≡ left x c o → Opens x e.core
    opens-left None is = nothing [] is
    opens-left (Some (h, Connecting)) is = nothing [] is
    opens-left (Some (h, Creating rights)) is = nothing [] is
    opens-left (Some (h, Leaving)) is = nothing [] is
    opens-left (Some (h, Clearing)) is = nothing [] is
    opens-left (Some (h, Doomed)) is = nothing [] is
    opens-left (Some (h, Live native rights)) is =
        let z : Client = with_standing (On c Leaving) h (with_requests (request.channel_over h x.requests) x) in
        does-so _ _ z is (opens-spent (On c Leaving) h x z refl refl)

    opens-completes : (q : Handle) (a : Asked) (s : request.Stage) → Completes x m q a s e → Opens x e.core
    opens-completes q a request.Open done = does-so [] _ (without_request q x) done.2 (opens-freed q x)
    opens-completes q a request.Draining done = does-so [] [] (without_request q x) done (opens-freed q x)

    opens-reply : (o : Option (Handle × Request)) → Answers x m o e → Opens x e.core
    opens-reply None is = nothing [] is
    opens-reply (Some (q, r)) is = opens-completes q r.asked r.stage is

    opens-confirmed : (o : Option Handle) → e ≡ confirmed x o → Opens x e.core
    opens-confirmed None is = nothing [] is
    opens-confirmed (Some g) is = does-so [] [] _ is (opens-same x _ refl refl)

    opens-update : (o : Option Handle) → Updates x m o e → Opens x e.core
    opens-update None is = nothing [] is
    opens-update (Some g) is = nothing _ is.2

    opens-write : (o : Option (Handle × Phase)) → e ≡ write_failed x m o → Opens x e.core
    opens-write None is = nothing [] is
    opens-write (Some (h, Connecting)) is = nothing [] is
    opens-write (Some (h, Creating rights)) is = nothing [] is
    opens-write (Some (h, Live native rights)) is = nothing _ is
    opens-write (Some (h, Leaving)) is = nothing [] is
    opens-write (Some (h, Clearing)) is = nothing [] is
    opens-write (Some (h, Doomed)) is = nothing [] is

    opens-refused : (o : Option Handle) → e ≡ subscription_failed x m o → Opens x e.core
    opens-refused None is = nothing [] is
    opens-refused (Some g) is = does-so [] _ _ is (opens-same x _ refl refl)

    opens-any : (o : Option (Handle × Request)) → e ≡ any_failed x m o → Opens x e.core
    opens-any None is = nothing [] is
    opens-any (Some (q, r)) is = go r.stage is
      where
        go : (s : request.Stage) → e ≡ request_failed x m q s → Opens x e.core
        go request.Open done = does-so [] _ (without_request q x) done (opens-freed q x)
        go request.Draining done = nothing [] done

    opens-error : Fails x c m e → Opens x e.core
    opens-error fails = elim fails [
      | inr not_whole ↦ nothing [] not_whole.1
      | inl whole ↦ by whole.0 (eqb whole.0.command 4) (eqb whole.0.command 1) whole.2
    ]
      where
        by : (h : Header) (a b : Bool) → e ≡ cond a (write_failed x m (channel_on x c m.p1)) (cond b (subscription_failed x m (subscription_on x c h.p2)) (any_failed x m (answered_by c h.command h.p2 x.requests))) → Opens x e.core
        by h true b is = opens-write (channel_on x c m.p1) is
        by h false true is = opens-refused (subscription_on x c h.p2) is
        by h false false is = opens-any (answered_by c h.command h.p2 x.requests) is

  -- ---- a channel was found

  opens-put-on : (d : Handle) (k : Option Connection) (h : Handle) (here : Channel) → under x.channels h ≡ Some here → here.standing ≡ Searching → e ≡ put_on d k h here x → Opens x e.core
  opens-put-on d None h here there stands is =
      let y : Client = with_standing (On d Connecting) h x in
      does-so [] [] (found_on d Connecting h x) is (opens-then x y (found_on d Connecting h x) (opens-stood h x here there (searched-not here.standing stands) (On d Connecting)) (opens-same y (found_on d Connecting h x) refl refl))
  opens-put-on d (Some k) h here there stands is =
      let y : Client = with_standing (On d (Creating 0)) h x in
      does-so _ [] (found_on d (Creating 0) h x) is (opens-then x y (found_on d (Creating 0) h x) (opens-stood h x here there (searched-not here.standing stands) (On d (Creating 0))) (opens-same y (found_on d (Creating 0) h x) refl refl))

opens-puts : (x : Client) (e : Effect) (address : Address) (h : Handle) (here : Channel) → under x.channels h ≡ Some here → here.standing ≡ Searching → (o : Option (Handle × ClientCircuit)) → PutsOn x address h here o e → Opens x e.core
opens-puts x e address h here there stands (Some (d, v)) is = opens-put-on x e d v.connection h here there stands is
opens-puts x e address h here there stands None is = elim is [
  | inr full ↦ nothing x e [] full.1
  | inl new ↦
      let y : Client = with_circuit new.0 (phase.new_circuit address here.priority false) x in
      opens-then x y e.core (opens-same x y refl refl) (opens-put-on y e new.0 None h here there stands new.2)
]

opens-finds : (x : Client) (e : Effect) (address : Address) (cid : ℕ) (o : Option (Handle × Channel)) → searched_by cid x ≡ o → FindsAt x address o e → Opens x e.core
opens-finds x e address cid None at is = nothing x e [] is
opens-finds x e address cid (Some (h, here)) at is = (let f = searched-is cid x h here at in opens-puts x e address h here f.0 f.1 (circuit_to address here.priority x) is)

pub opens-heard : (x : Client) (c : Handle) (m : Fields) (e : Effect) → Hears x c m e → Opens x e.core
opens-heard x c m e (hears.Search is d there finds) = opens-finds x e (found_at d.address m) m.p2 (searched_by m.p2 x) refl finds
opens-heard x c m e (hears.AccessRights is does) = opens-rights x e c m (channel_on x c m.p1) refl does
opens-heard x c m e (hears.CreateChannel is does) = opens-created x e c m (channel_on x c m.p1) refl does
opens-heard x c m e (hears.CreateChannelFail is does) = opens-failed x e c m (channel_on x c m.p1) refl does
opens-heard x c m e (hears.ClearChannel is does) = opens-answered x e c m (channel_on x c m.p2) refl does
opens-heard x c m e (hears.ServerDisconnect is does) = opens-left x e c m (channel_on x c m.p1) does
opens-heard x c m e (hears.Reply is does) = opens-reply x e c m (answered_by c m.command m.p2 x.requests) does
opens-heard x c m e (hears.Confirmation is empty does) = opens-confirmed x e c m (confirmed_by c m.p2 x.subscriptions) does
opens-heard x c m e (hears.Update is some does) = opens-update x e c m (subscription_on x c m.p2) does
opens-heard x c m e (hears.Error is does) = opens-error x e c m does
opens-heard x c m e (hears.Other is does) = nothing x e [] does

-- ---- datagrams

opens-received : (x : Client) (from : Address) (m : Fields) (e : Effect) → Receives from x m e → Opens x e.core
opens-received x from m e (ends.Search is finds) = opens-finds x e (found_at from m) m.p2 (searched_by m.p2 x) refl finds
opens-received x from m e (ends.Beacon is port does) = does-so x e [] [] (beacon_heard from m x) does (opens-same x (beacon_heard from m x) refl refl)
opens-received x from m e (ends.Other not_search not_beacon does) = nothing x e [] does

pub opens-all-received : (from : Address) (ms : List Fields) (x : Client) (e : Effect) → ReceivesAll from x ms e → Opens x e.core
opens-all-received from [] x e does = nothing x e [] does
opens-all-received from (m ∷ ms) x e does =
    subst (λ (w : Effect). Opens x w.core) (sym does.4)
    (opens-then x does.0.core does.1.core (opens-received x from m does.0 does.2) (opens-all-received from ms does.0.core does.1 does.3))

-- ---- calls that ask for nothing

pub opens-opened : (x : Client) (a : Opening) (h : Handle) (sent : List Sending) (y : Client) → ClientOpens x a (Ok h) sent y → Opens x y
opens-opened x a h sent y opens =
    subst (λ (v : Client). Opens x v) (sym opens.2.1)
    (opens-alike x (opened a h x) refl (λ on. same-held x.channels on h (record { name = a.name; priority = a.priority; standing = Searching }) opens.1 (not-searched on)))

pub opens-unsubscribed : (g : Handle) (o : Option Standing) (x : Client) → Opens x (unsubscribed g o x)
opens-unsubscribed g None x = opens-same x (unsubscribed g None x) refl refl
opens-unsubscribed g (Some Searching) x = opens-same x (unsubscribed g (Some Searching) x) refl refl
opens-unsubscribed g (Some (On c Connecting)) x = opens-same x (unsubscribed g (Some (On c Connecting)) x) refl refl
opens-unsubscribed g (Some (On c (Creating rights))) x = opens-same x (unsubscribed g (Some (On c (Creating rights))) x) refl refl
opens-unsubscribed g (Some (On c Clearing)) x = opens-same x (unsubscribed g (Some (On c Clearing)) x) refl refl
opens-unsubscribed g (Some (On c Doomed)) x = opens-same x (unsubscribed g (Some (On c Doomed)) x) refl refl
opens-unsubscribed g (Some (On c Leaving)) x = opens-same x (unsubscribed g (Some (On c Leaving)) x) refl refl
opens-unsubscribed g (Some (On c (Live native rights))) x = opens-same x (unsubscribed g (Some (On c (Live native rights))) x) refl refl

opens-cleared-so : (h : Handle) (s : Standing) (x : Client) → standing_at x h ≡ Some s → Opens x (cleared h s x)
opens-cleared-so h Searching x at =
    let f = found-standing x h Searching at in
    let y : Client = unsubscribed_all h x in
    opens-then x y (without_channel y h) (opens-same x y refl refl) (opens-gone h y f.0 f.1 (searched-not (f.0).standing f.2))
opens-cleared-so h (On c Connecting) x at =
    let f = found-standing x h (On c Connecting) at in
    let y : Client = unsubscribed_all h x in
    let v : Client = without_channel y h in
    let u = requests-unwanted c v in
    opens-then x v (unwanted c v) (opens-then x y v (opens-same x y refl refl) (opens-gone h y f.0 f.1 (phase-not c Connecting (f.0).standing f.2 refl))) (opens-same v (unwanted c v) u.0 u.1)
opens-cleared-so h (On c (Creating rights)) x at =
    let f = found-standing x h (On c (Creating rights)) at in
    let y : Client = unsubscribed_all h x in
    opens-then x y (with_standing (On c Doomed) h y) (opens-same x y refl refl) (opens-stood h y f.0 f.1 (phase-not c (Creating rights) (f.0).standing f.2 refl) (On c Doomed))
opens-cleared-so h (On c (Live native rights)) x at = opens-spent (On c Clearing) h x (cleared h (On c (Live native rights)) x) refl refl
opens-cleared-so h (On c Leaving) x at = opens-spent (On c Clearing) h x (cleared h (On c Leaving) x) refl refl
opens-cleared-so h (On c Clearing) x at = opens-spent (On c Clearing) h x (cleared h (On c Clearing) x) refl refl
opens-cleared-so h (On c Doomed) x at = opens-spent (On c Clearing) h x (cleared h (On c Doomed) x) refl refl

pub opens-cleared : (h : Handle) (s : Standing) (x : Client) → standing_at x h ≡ Some s → Opens x (sending (clearing_sent h s) (cleared h s x))
opens-cleared h s x at = opens-then x (cleared h s x) (sending (clearing_sent h s) (cleared h s x)) (opens-cleared-so h s x at) (opens-sending (clearing_sent h s) (cleared h s x))

-- ---- circuits are connected, and bytes come

pub opens-connected : (x : Client) (c : Handle) (d : ClientCircuit) (k : Option Closing) (sent : List Sending) (y : Client) → ConnectsOn x c (Some d) k sent y → Opens x y
opens-connected x c d None sent y does =
    let z : Client = begun c x in
    subst (λ (v : Client). Opens x v) (sym does.1)
    (opens-then x z (sending (set_up x.peer c d ++ creations c x) z) (opens-alike x z refl (λ on. same-begun x.channels on c)) (opens-sending (set_up x.peer c d ++ creations c x) z))
opens-connected x c d (Some k) sent y does = subst (λ (v : Client). Opens x v) (sym does.2) (opens-ended c x)

pub opens-given : (x : Client) (c : Handle) (bytes : List ℕ) (more : Bool) (o : Option Connection) (sent : List Sending) (y : Client) → GivesOn x c bytes more o (Ok tt) sent y → Opens x y
opens-given x c bytes more (Some e) sent y gives =
    let z : Client = given c bytes more x in
    subst (λ (v : Client). Opens x v) (sym gives.1) (opens-then x z (sending (flow_sent c more e) z) (opens-same x z refl refl) (opens-sending (flow_sent c more e) z))
opens-given x c bytes more None sent y gives = absurd gives

pub opens-handed : (c : Handle) (k : ℕ) (x : Client) → Opens x (handed_over c k x)
opens-handed c k x = go (is_some (connection_at x c))
  where
    go : (b : Bool) → Opens x (cond b (on_connection (λ (e : Connection). record e { link = with_handed k e.link }) c x) x)
    go true = opens-same x (on_connection (λ (e : Connection). record e { link = with_handed k e.link }) c x) refl refl
    go false = opens-itself x

-- ---- a moment

ticks-one : (x : Client) (t : Ticking) (c : Handle) → Opens x t.core → Opens x (ticks t c).core
ticks-one x t c m = go (connection_at t.core c)
  where
    by : (k : Keep) → Opens x (ticks_as k c t).core
    by Idle = m
    by Close = opens-then x t.core (ended c t.core) m (opens-ended c t.core)
    by Echo =
        let noted : Client = on_connection (λ (e : Connection). record e { link = record e.link { echoed = true } }) c t.core in
        opens-then x noted (sending (of_circuit c (header_only command.Echo) ∷ []) noted) (opens-then x t.core noted m (opens-same t.core noted refl refl)) (opens-sending (of_circuit c (header_only command.Echo) ∷ []) noted)

    go : (o : Option Connection) → Opens x (unwrap_or (option_map (λ (e : Connection). ticks_as (kept t.core.moment e.link) c t) o) t).core
    go None = m
    go (Some e) = by (kept t.core.moment e.link)

pub ticks-all : (x : Client) (order : List Handle) (t : Ticking) → Opens x t.core → Opens x (fold ticks t order).core
ticks-all x [] t m = m
ticks-all x (c ∷ order) t m = ticks-all x order (ticks t c) (ticks-one x t c m)

module _ (x : Client) where
  searched-one : (c : Handle) (t : Ticking) (w : search.Wanted) → Opens x t.core → Opens x (searches_on c t w).core
  searched-one c t w m = go (is_over t.core c)
    where
      go : (b : Bool) → Opens x (cond b t (with_sending (of_circuit c (search_request w.cid w.name)) t)).core
      go true = m
      go false = opens-then x t.core (sending (of_circuit c (search_request w.cid w.name) ∷ []) t.core) m (opens-sending (of_circuit c (search_request w.cid w.name) ∷ []) t.core)

  searched-each : (c : Handle) (ws : List search.Wanted) (t : Ticking) → Opens x t.core → Opens x (fold (searches_on c) t ws).core
  searched-each c [] t m = m
  searched-each c (w ∷ ws) t m = searched-each c ws (searches_on c t w) (searched-one c t w m)

  searched-all : (ws : List search.Wanted) (cs : List Handle) (t : Ticking) → Opens x t.core → Opens x (fold (all_searched_on ws) t cs).core
  searched-all ws [] t m = m
  searched-all ws (c ∷ cs) t m = searched-all ws cs (all_searched_on ws t c) (searched-each c ws t m)

pub opens-ticked : (moment : ℕ) (x : Client) → (let t : Ticking = circuits_ticked moment x in Opens x (searches_made t).core)
opens-ticked moment x =
    let y : Client = record x { moment = later moment x } in
    let first : Ticking = record { core = y; sent = []; notices = []; closings = [] } in
    let t : Ticking = circuits_ticked moment x in
    let u : Ticking = fold (all_searched_on (due t.core)) t (filter (is_name_connected t.core) t.core.order) in
    opens-then x u.core (searches_made t).core (searched-all x (due t.core) (filter (is_name_connected t.core) t.core.order) t (ticks-all x x.order first (opens-same x y refl refl)))
    (opens-same u.core (searches_made t).core refl refl)
