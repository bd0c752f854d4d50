-- A subscription that is on a live channel: what each change of a client leaves of that. None is
-- new but with its EVENT_ADD.
use Rattle.std.proofs.Common.{◌≡◌, ℕ, ◌⊎◌, inl, inr, Bool, true, false, ◌&&◌, cond, eqb, List, [], ◌∷◌, ◌++◌, Option, Some, None, refl, sym, ap, ◌∙◌, subst}
use Rattle.std.specs.Prelude.{◌==◌, Ok, filter, fold, is_some, length, not, option_map, unwrap_or}
use Rattle.std.proofs.lemmas.Bool.{and_from, both_ways}
use Rattle.ca_text.specs.Place.{At}
use Rattle.ca_text.proofs.Places.{At-map}
use Rattle.ca_arena.specs.declared.handle.Handle.{Handle}
use Rattle.ca_ids.specs.Table.{Table, held, same_handle, under, with_all_freed, with_held}
use Rattle.ca_link.specs.declared.keep.Keep.{Keep}
use Rattle.ca_link.specs.declared.keep.Keep.TheVariants.{Close, Echo, Idle}
use Rattle.ca_link.specs.Link.{kept, with_handed}
use Rattle.ca_monitor.specs.Subscriptions.{Stage, Subscription, confirmed_by, drains_in, is_to, stage_over, standing_to, stands_in, with_stage}
use Rattle.ca_monitor.specs.Subscriptions as monitor
use Rattle.ca_requests.specs.Requests.{Asked, Request, answered_by}
use Rattle.ca_requests.specs.Requests as request
use Rattle.ca_search.specs.Searches as search
use Rattle.ca_text.specs.declared.command.Command.TheVariants as command
use Rattle.ca_wire.specs.declared.header.Header.{Header}
use Rattle.ca_wire.specs.Fields.{Fields}
use Rattle.ca_wire.specs.Messages.{header_only, search_request}
use Rattle.ca_model.specs.Answers.{Closing, Notice, Sending}
use Rattle.ca_model.specs.Answers as aim
use Rattle.ca_model.specs.Client.{Channel, Client, ClientCircuit, Clearing, Connecting, Connection, Creating, Doomed, Leaving, Live, On, Phase, Searching, Standing, channel_on, channels_ended, channels_on, circuit_to, connection_at, disconnected, ended, found_on, is_cleared, is_live, later, let_go, on_connection, searched_again, sending, with_one_sent, with_requests, with_standing, without_channel, without_circuit, without_ids}
use Rattle.ca_model.specs.Client as phase
use Rattle.ca_model.specs.ClientCalls.{ClientOpens, ClientSubscribes, LiveChannel, Opening, Shape, all_over, cleared, clearing_sent, event_add_sent, is_over, new_subscription, opened, unsubscribed, unsubscribed_all, unwanted}
use Rattle.ca_model.specs.ClientEnds.{ConnectsOn, GivesOn, Receives, ReceivesAll, Ticking, all_searched_on, beacon_heard, begun, circuits_ticked, creations, due, flow_sent, given, handed_over, is_name_connected, of_circuit, searches_made, searches_on, set_up, ticks, ticks_as, with_sending}
use Rattle.ca_model.specs.ClientEnds as ends
use Rattle.ca_model.specs.Ends.{Address}
use Rattle.ca_model.specs.Hears.{Answers, Completes, Effect, Fails, FindsAt, Hears, PutsOn, Updates, any_failed, becomes, clear_answered, confirmed, created, doing, event_adds, failed, found_at, subscription_on, left, native_in, put_on, request_failed, rights_told, searched_by, subscription_failed, with_circuit, without_drained, without_request, without_subscription, write_failed}
use Rattle.ca_model.specs.Hears as hears
use Rattle.ca_model.proofs.Handles.{handle-or, same-itself}
use Rattle.ca_model.proofs.Standings.{channel-on, found-standing}
use Rattle.ca_model.proofs.Tables.{all-back, all-freed-back, changed-back, freed-back, held-back, under-held}
use Rattle.ca_laws_parts.proofs.Marks.{filter-at}
use Rattle.ca_laws_runs.specs.Sides.{IsLiveAs}
use Rattle.ca_laws_runs.proofs.Live.{NotLive, SameLive, made-live, not-phase, not-searched, one-sid, other-back, same-begun, same-held, same-rights, stood-none}
use Rattle.ca_laws_runs.proofs.OpenLive.{IsLiveOn}

-- The subscription of this handle stands, and its channel is live on this circuit.
pub record IsStood (x : Client) (on g h : Handle) : Type 0 where
  pub d : Subscription
  pub there : under x.subscriptions g ≡ Some d
  pub stands : stands_in d.stage ≡ true
  pub to : d.channel ≡ h
  pub live : IsLiveOn x.channels on h

-- From the one client to the other none stands so that did not.
pub record Stays (x y : Client) : Type 0 where
  pub back : (on g h : Handle) → IsStood y on g h → IsStood x on g h

-- Its EVENT_ADD is among these.
abbrev pub IsAdded : List Sending → (on g h : Handle) → Type 0
IsAdded sent on g h = (i : ℕ) × (s : Sending) × At sent i s × (s.circuit ≡ on) × (s.aim ≡ aim.Subscribe h g)

-- None stands so that did not, but those whose EVENT_ADDs are among these.
pub record Adds (x : Client) (sent : List Sending) (y : Client) : Type 0 where
  pub back : (on g h : Handle) → IsStood y on g h → IsStood x on g h ⊎ IsAdded sent on g h

pub adds-stays : (x y : Client) (sent : List Sending) → Stays x y → Adds x sent y
adds-stays x y sent s = record { back = λ on g h it. inl (s.back on g h it) }

pub adds-then : (x y z : Client) (sent : List Sending) → Stays x y → Adds y sent z → Adds x sent z
adds-then x y z sent a b = record {
  back = λ on g h it. elim (b.back on g h it) [
    | inl was ↦ inl (a.back on g h was)
    | inr added ↦ inr added
  ];
}

pub adds-before : (x y z : Client) (sent : List Sending) → Adds x sent y → Stays y z → Adds x sent z
adds-before x y z sent a b = record { back = λ on g h it. a.back on g h (b.back on g h it) }

pub stays-then : (x y z : Client) → Stays x y → Stays y z → Stays x z
stays-then x y z a b = record { back = λ on g h it. a.back on g h (b.back on g h it) }

-- ---- the tables apart

stays-by : (x y : Client) → ((g : Handle) (d : Subscription) → under y.subscriptions g ≡ Some d → stands_in d.stage ≡ true → (e : Subscription) × (under x.subscriptions g ≡ Some e) × (stands_in e.stage ≡ true) × (d.channel ≡ e.channel))
    → ((on h : Handle) (sid : ℕ) → IsLiveAs y.channels on h sid → IsLiveAs x.channels on h sid) → Stays x y
stays-by x y rows lives = record {
  back = λ on g h it.
      let r = rows g it.d it.there it.stands in
      record { d = r.0; there = r.1; stands = r.2; to = sym r.3 ∙ it.to; live = (it.live.0, lives on h it.live.0 it.live.1) };
}

-- the same subscriptions
same-rows : (x y : Client) → y.subscriptions ≡ x.subscriptions → (g : Handle) (d : Subscription) → under y.subscriptions g ≡ Some d → stands_in d.stage ≡ true → (e : Subscription) × (under x.subscriptions g ≡ Some e) × (stands_in e.stage ≡ true) × (d.channel ≡ e.channel)
same-rows x y same g d is it = (d, subst (λ (t : Table Subscription). under t g ≡ Some d) same is, it, refl)

stays-lives : (x y : Client) → y.subscriptions ≡ x.subscriptions → ((on h : Handle) (sid : ℕ) → IsLiveAs y.channels on h sid → IsLiveAs x.channels on h sid) → Stays x y
stays-lives x y same lives = stays-by x y (same-rows x y same) lives

pub stays-alike : (x y : Client) → y.subscriptions ≡ x.subscriptions → ((on : Handle) → SameLive on x.channels y.channels) → Stays x y
stays-alike x y subscriptions same = stays-lives x y subscriptions (λ on h sid l. (same on h sid).1 l)

pub stays-same : (x y : Client) → y.subscriptions ≡ x.subscriptions → y.channels ≡ x.channels → Stays x y
stays-same x y subscriptions channels = stays-lives x y subscriptions (λ on h sid l. subst (λ (t : Table Channel). IsLiveAs t on h sid) channels l)

pub stays-itself : (x : Client) → Stays x x
stays-itself x = stays-same x x refl refl

pub stays-sending : (sends : List Sending) (x : Client) → Stays x (sending sends x)
stays-sending [] x = stays-itself x
stays-sending (s ∷ sends) x = stays-then x (with_one_sent x s) (sending sends (with_one_sent x s)) (stays-same x (with_one_sent x s) refl refl) (stays-sending sends (with_one_sent x s))

-- the same channels
stays-rows : (x y : Client) → y.channels ≡ x.channels → ((g : Handle) (d : Subscription) → under y.subscriptions g ≡ Some d → stands_in d.stage ≡ true → under x.subscriptions g ≡ Some d) → Stays x y
stays-rows x y channels rows = stays-by x y (λ g d is it. (d, rows g d is it, it, refl)) (λ on h sid l. subst (λ (t : Table Channel). IsLiveAs t on h sid) channels l)

stays-freed : (g : Handle) (x : Client) → Stays x (without_subscription g x)
stays-freed g x = stays-rows x (without_subscription g x) refl (λ k d is it. (freed-back x.subscriptions k g d is).1)

stays-all-freed : (frees : Subscription → Bool) (x : Client) → Stays x (record x { subscriptions = with_all_freed frees x.subscriptions })
stays-all-freed frees x = stays-rows x (record x { subscriptions = with_all_freed frees x.subscriptions }) refl (λ k d is it. (all-freed-back frees x.subscriptions k d is).0)

stays-drained : (c h : Handle) (x : Client) → Stays x (without_drained c h x)
stays-drained c h x =
    let y : Client = record x { subscriptions = monitor.channel_drained c h x.subscriptions } in
    stays-then x y (without_drained c h x) (stays-all-freed (λ (s : Subscription). is_to h s && drains_in c s.stage) x) (stays-same y (without_drained c h x) refl refl)

-- One is at a stage at which it does not stand.
stays-staged : (s : Stage) (g : Handle) (x : Client) → stands_in s ≡ false → Stays x (record x { subscriptions = with_stage s g x.subscriptions })
stays-staged s g x none = stays-rows x (record x { subscriptions = with_stage s g x.subscriptions }) refl (λ k d is it. elim (changed-back (λ (v : Subscription). record v { stage = s }) x.subscriptions k g d is) [
  | inl own ↦ absurd (both_ways (stands_in s) none (ap (λ (v : Subscription). stands_in v.stage) (sym own.1.2) ∙ it))
  | inr old ↦ old.1
])

-- those of a channel are over
stays-over : (c h : Handle) (x : Client) → Stays x (record x { subscriptions = monitor.channel_over c h x.subscriptions })
stays-over c h x = stays-rows x (record x { subscriptions = monitor.channel_over c h x.subscriptions }) refl (λ k d is it. (let was = all-back (monitor.over_on c h) x.subscriptions k d is in go k d it was.0 was.1 (is_to h was.0) was.2))
  where
    over-stage : (s : Stage) → stands_in (stage_over c s) ≡ true → ⊥
    over-stage monitor.Stands e = both_ways false refl e
    over-stage (monitor.Cancelled o) e = both_ways false refl e
    over-stage (monitor.Ended o) e = both_ways false refl e

    go : (k : Handle) (d : Subscription) → stands_in d.stage ≡ true → (u : Subscription) → under x.subscriptions k ≡ Some u → (b : Bool) → d ≡ cond b (record u { stage = stage_over c u.stage }) u → under x.subscriptions k ≡ Some d
    go k d it u there true is = absurd (over-stage u.stage (ap (λ (v : Subscription). stands_in v.stage) (sym is) ∙ it))
    go k d it u there false is = subst (λ (v : Subscription). under x.subscriptions k ≡ Some v) (sym is) there

-- ---- a channel stands otherwise

-- so that it is not live
module _ (h : Handle) (x : Client) where
  stays-stood : (s : Standing) → ((on : Handle) → NotLive on s) → Stays x (with_standing s h x)
  stays-stood s none = stays-lives x (with_standing s h x) refl (λ on k sid l. elim (handle-or k h) [
    | inl same ↦ absurd (stood-none s h x.channels on (none on) sid (subst (λ (v : Handle). IsLiveAs (with_standing s h x).channels on v sid) same l))
    | inr other ↦ other-back s h x.channels on k sid other l
  ])

  pub stays-gone : Stays x (without_channel x h)
  stays-gone = stays-lives x (without_channel x h) refl (λ on k sid l. record { ch = l.ch; native = l.native; rights = l.rights; there = (freed-back x.channels k h l.ch l.there).1; stands = l.stands; is = l.is })

  pub stays-again : Stays x (searched_again x h)
  stays-again = (let y : Client = with_standing Searching h x in stays-then x y (searched_again x h) (stays-stood Searching (λ on. not-searched on)) (stays-same y (searched_again x h) refl refl))

  stays-phase : (c : Handle) (p : Phase) → is_live p ≡ false → Stays x (with_standing (On c p) h x)
  stays-phase c p none = stays-stood (On c p) (λ on. not-phase c on p none)

-- ---- an end has ended

stays-fold : (f : Client → Handle → Client) → ((y : Client) (h : Handle) → Stays y (f y h)) → (hs : List Handle) (x : Client) → Stays x (fold f x hs)
stays-fold f each [] x = stays-itself x
stays-fold f each (h ∷ hs) x = stays-then x (f x h) (fold f (f x h) hs) (each x h) (stays-fold f each hs (f x h))

stays-let-go : (c : Handle) (d : ClientCircuit) (x : Client) → Stays x (let_go c d x)
stays-let-go c d x = go d.is_name
  where
    go : (b : Bool) → Stays x (cond b (disconnected c x) (without_circuit c x))
    go true = stays-same x (disconnected c x) refl refl
    go false = stays-same x (without_circuit c x) refl refl

stays-channels-ended : (c : Handle) (x : Client) → Stays x (channels_ended c x)
stays-channels-ended c x =
    let mid : Client = fold without_channel x (channels_on is_cleared c x) in
    stays-then x mid (channels_ended c x)
    (stays-fold without_channel (λ y h. stays-gone h y) (channels_on is_cleared c x) x)
    (stays-fold searched_again (λ y h. stays-again h y) (channels_on (λ (p : Phase). not (is_cleared p)) c x) mid)

pub stays-ended : (c : Handle) (x : Client) → Stays x (ended c x)
stays-ended c x = go (under x.circuits c)
  where
    y : Client
    y = record x { subscriptions = monitor.circuit_gone c x.subscriptions }

    ids : Stays x (without_ids c x)
    ids = stays-then x y (without_ids c x) (stays-all-freed (λ (s : Subscription). drains_in c s.stage) x) (stays-same y (without_ids c x) refl refl)

    z : Client
    z = channels_ended c (without_ids c x)

    go : (o : Option ClientCircuit) → Stays x (unwrap_or (option_map (λ (d : ClientCircuit). let_go c d (channels_ended c (without_ids c x))) o) x)
    go (Some d) = stays-then x (without_ids c x) (let_go c d z) ids (stays-then (without_ids c x) z (let_go c d z) (stays-channels-ended c (without_ids c x)) (stays-let-go c d z))
    go None = stays-itself x

-- ---- a message that is read

module _ (x : Client) (e : Effect) where
  does-so : (sent : List Sending) (notices : List Notice) (z : Client) → e ≡ doing sent notices z → Stays x z → Adds x e.sent e.core
  does-so sent notices z is o = subst (λ (v : Effect). Adds x v.sent v.core) (sym is) (adds-stays x (sending sent z) sent (stays-then x z (sending sent z) o (stays-sending sent z)))

  nothing : (notices : List Notice) → e ≡ doing [] notices x → Adds x e.sent e.core
  nothing notices is = does-so [] notices x is (stays-itself x)

  module _ (c : Handle) (m : Fields) where
    adds-rights : (o : Option (Handle × Phase)) → channel_on x c m.p1 ≡ o → e ≡ rights_told x c m o → Adds x e.sent e.core
    adds-rights None at is = nothing [] is
    adds-rights (Some (h, Connecting)) at is = nothing [] is
    adds-rights (Some (h, Leaving)) at is = nothing [] is
    adds-rights (Some (h, Clearing)) at is = nothing [] is
    adds-rights (Some (h, Doomed)) at is = nothing [] is
    adds-rights (Some (h, Creating rights)) at is = does-so [] [] (with_standing (On c (Creating m.p2)) h x) is (stays-phase h x c (Creating m.p2) refl)
    adds-rights (Some (h, Live native rights)) at is =
        let f = channel-on x c m.p1 h (Live native rights) at in
        does-so [] [] (with_standing (On c (Live native m.p2)) h x) is (stays-alike x (with_standing (On c (Live native m.p2)) h x) refl (λ on. same-rights x.channels c on h f.0 native rights m.p2 f.1 f.3))

    -- the channel is live now: each that is on it is subscribed to
    adds-made : (h : Handle) (rights : ℕ) → channel_on x c m.p1 ≡ Some (h, Creating rights) → (let z : Client = with_standing (On c (Live (native_in m) rights)) h x in Adds x (event_adds c m.p2 h x) z)
    adds-made h rights at = record {
      back = λ on g k it. elim (handle-or k h) [
        | inr other ↦ inl (record { d = it.d; there = it.there; stands = it.stands; to = it.to; live = (it.live.0, other-back (On c (Live (native_in m) rights)) h x.channels on k it.live.0 other it.live.1) })
        | inl same ↦
            let f = channel-on x c m.p1 h (Creating rights) at in
            let own : IsLiveAs z.channels c h m.p2 = made-live x.channels c h f.0 (native_in m) rights f.1 in
            let on_is : on ≡ c = (one-sid z.channels on c h it.live.0 m.p2 (subst (λ (v : Handle). IsLiveAs z.channels on v it.live.0) same it.live.1) own).0 in
            let to_h : (it.d).channel ≡ h = it.to ∙ same in
            let row = under-held x.subscriptions g it.d it.there in
            let passes : (is_to h it.d && stands_in (it.d).stage) ≡ true = and_from (is_to h it.d) (stands_in (it.d).stage) (subst (λ (v : Handle). same_handle (it.d).channel v ≡ true) to_h (same-itself (it.d).channel)) it.stands in
            let in_it = filter-at (λ (v : Handle × Subscription). is_to h v.1 && stands_in v.1.stage) (held x.subscriptions) row.0 (g, it.d) row.1 passes in
            inr (
              in_it.0,
              event_add_sent c m.p2 g it.d,
              At-map (λ (v : Handle × Subscription). event_add_sent c m.p2 v.0 v.1) (standing_to h x.subscriptions) in_it.0 (g, it.d) in_it.1,
              sym on_is,
              ap (λ (v : Handle). aim.Subscribe v g) it.to,
            )
      ];
    }
      where
        z : Client
        z = with_standing (On c (Live (native_in m) rights)) h x

    adds-created : (o : Option (Handle × Phase)) → channel_on x c m.p1 ≡ o → e ≡ created x c m o → Adds x e.sent e.core
    adds-created None at is = nothing [] is
    adds-created (Some (h, Connecting)) at is = nothing [] is
    adds-created (Some (h, Live native rights)) at is = nothing [] is
    adds-created (Some (h, Leaving)) at is = nothing [] is
    adds-created (Some (h, Clearing)) at is = nothing [] is
    adds-created (Some (h, Creating rights)) at is =
        let z : Client = with_standing (On c (Live (native_in m) rights)) h x in
        subst (λ (v : Effect). Adds x v.sent v.core) (sym is) (adds-before x z (sending (event_adds c m.p2 h x) z) (event_adds c m.p2 h x) (adds-made h rights at) (stays-sending (event_adds c m.p2 h x) z))
    adds-created (Some (h, Doomed)) at is = does-so _ _ (with_standing (On c Clearing) h x) is (stays-phase h x c Clearing refl)

    adds-failed : (o : Option (Handle × Phase)) → e ≡ failed x o → Adds x e.sent e.core
    adds-failed None is = nothing [] is
    adds-failed (Some (h, Connecting)) is = nothing [] is
    adds-failed (Some (h, Live native rights)) is = nothing [] is
    adds-failed (Some (h, Leaving)) is = nothing [] is
    adds-failed (Some (h, Clearing)) is = nothing [] is
    adds-failed (Some (h, Creating rights)) is = does-so [] [] (searched_again x h) is (stays-again h x)
    adds-failed (Some (h, Doomed)) is = does-so [] [] (without_channel x h) is (stays-gone h x)

    adds-answered : (o : Option (Handle × Phase)) → e ≡ clear_answered x c o → Adds x e.sent e.core
    adds-answered None is = nothing [] is
    adds-answered (Some (h, Connecting)) is = nothing [] is
    adds-answered (Some (h, Live native rights)) is = nothing [] is
    adds-answered (Some (h, Creating rights)) is = nothing [] is
    adds-answered (Some (h, Doomed)) is = nothing [] is
    adds-answered (Some (h, Clearing)) is =
        let y : Client = without_drained c h x in
        does-so [] [] (without_channel y h) is (stays-then x y (without_channel y h) (stays-drained c h x) (stays-gone h y))
    adds-answered (Some (h, Leaving)) is =
        let y : Client = without_drained c h x in
        does-so [] [] (searched_again y h) is (stays-then x y (searched_again y h) (stays-drained c h x) (stays-again h y))

    adds-left : (o : Option (Handle × Phase)) → e ≡ left x c o → Adds x e.sent e.core
    adds-left None is = nothing [] is
    adds-left (Some (h, Connecting)) is = nothing [] is
    adds-left (Some (h, Creating rights)) is = nothing [] is
    adds-left (Some (h, Leaving)) is = nothing [] is
    adds-left (Some (h, Clearing)) is = nothing [] is
    adds-left (Some (h, Doomed)) is = nothing [] is
    adds-left (Some (h, Live native rights)) is =
        let y : Client = with_requests (request.channel_over h x.requests) x in
        does-so _ _ (with_standing (On c Leaving) h y) is (stays-then x y (with_standing (On c Leaving) h y) (stays-same x y refl refl) (stays-phase h y c Leaving refl))

    adds-completes : (q : Handle) (a : Asked) (s : request.Stage) → Completes x m q a s e → Adds x e.sent e.core
    adds-completes q a request.Open done = does-so [] _ (without_request q x) done.2 (stays-same x (without_request q x) refl refl)
    adds-completes q a request.Draining done = does-so [] [] (without_request q x) done (stays-same x (without_request q x) refl refl)

    adds-reply : (o : Option (Handle × Request)) → Answers x m o e → Adds x e.sent e.core
    adds-reply None is = nothing [] is
    adds-reply (Some (q, r)) is = adds-completes q r.asked r.stage is

    adds-confirmed : (o : Option Handle) → e ≡ confirmed x o → Adds x e.sent e.core
    adds-confirmed None is = nothing [] is
    adds-confirmed (Some g) is = does-so [] [] (without_subscription g x) is (stays-freed g x)

    adds-update : (o : Option Handle) → Updates x m o e → Adds x e.sent e.core
    adds-update None is = nothing [] is
    adds-update (Some g) is = nothing _ is.2

    adds-write : (o : Option (Handle × Phase)) → e ≡ write_failed x m o → Adds x e.sent e.core
    adds-write None is = nothing [] is
    adds-write (Some (h, Connecting)) is = nothing [] is
    adds-write (Some (h, Creating rights)) is = nothing [] is
    adds-write (Some (h, Live native rights)) is = nothing _ is
    adds-write (Some (h, Leaving)) is = nothing [] is
    adds-write (Some (h, Clearing)) is = nothing [] is
    adds-write (Some (h, Doomed)) is = nothing [] is

    adds-refused : (o : Option Handle) → e ≡ subscription_failed x m o → Adds x e.sent e.core
    adds-refused None is = nothing [] is
    adds-refused (Some g) is = does-so [] _ (without_subscription g x) is (stays-freed g x)

    adds-any : (o : Option (Handle × Request)) → e ≡ any_failed x m o → Adds x e.sent e.core
    adds-any None is = nothing [] is
    adds-any (Some (q, r)) is = go r.stage is
      where
        go : (s : request.Stage) → e ≡ request_failed x m q s → Adds x e.sent e.core
        go request.Open done = does-so [] _ (without_request q x) done (stays-same x (without_request q x) refl refl)
        go request.Draining done = nothing [] done

    adds-error : Fails x c m e → Adds x e.sent e.core
    adds-error fails = elim fails [
      | inr not_whole ↦ nothing [] not_whole.1
      | inl whole ↦ by whole.0 (eqb whole.0.command 4) (eqb whole.0.command 1) whole.2
    ]
      where
        by : (h : Header) (a b : Bool) → e ≡ cond a (write_failed x m (channel_on x c m.p1)) (cond b (subscription_failed x m (subscription_on x c h.p2)) (any_failed x m (answered_by c h.command h.p2 x.requests))) → Adds x e.sent e.core
        by h true b is = adds-write (channel_on x c m.p1) is
        by h false true is = adds-refused (subscription_on x c h.p2) is
        by h false false is = adds-any (answered_by c h.command h.p2 x.requests) is

  -- ---- a channel was found

  stays-put-on : (d : Handle) (k : Option Connection) (h : Handle) (here : Channel) → e ≡ put_on d k h here x → Stays x e.core
  stays-put-on d None h here is =
      let y : Client = with_standing (On d Connecting) h x in
      subst (λ (v : Effect). Stays x v.core) (sym is) (stays-then x y (found_on d Connecting h x) (stays-phase h x d Connecting refl) (stays-same y (found_on d Connecting h x) refl refl))
  stays-put-on d (Some k) h here is =
      let y : Client = with_standing (On d (Creating 0)) h x in
      let z : Client = found_on d (Creating 0) h x in
      subst (λ (v : Effect). Stays x v.core) (sym is) (stays-then x z (sending (hears.create_sent d h here ∷ []) z) (stays-then x y z (stays-phase h x d (Creating 0) refl) (stays-same y z refl refl)) (stays-sending (hears.create_sent d h here ∷ []) z))

unmoved : (x : Client) (e : Effect) → e ≡ becomes x → Stays x e.core
unmoved x e is = subst (λ (v : Effect). Stays x v.core) (sym is) (stays-itself x)

stays-puts : (x : Client) (e : Effect) (address : Address) (h : Handle) (here : Channel) → (o : Option (Handle × ClientCircuit)) → PutsOn x address h here o e → Stays x e.core
stays-puts x e address h here (Some (d, v)) is = stays-put-on x e d v.connection h here is
stays-puts x e address h here None is = elim is [
  | inr full ↦ unmoved x e full.1
  | inl new ↦
      let y : Client = with_circuit new.0 (phase.new_circuit address here.priority false) x in
      stays-then x y e.core (stays-same x y refl refl) (stays-put-on y e new.0 None h here new.2)
]

stays-finds : (x : Client) (e : Effect) (address : Address) (o : Option (Handle × Channel)) → FindsAt x address o e → Stays x e.core
stays-finds x e address None is = unmoved x e is
stays-finds x e address (Some (h, here)) is = stays-puts x e address h here (circuit_to address here.priority x) is

pub adds-heard : (x : Client) (c : Handle) (m : Fields) (e : Effect) → Hears x c m e → Adds x e.sent e.core
adds-heard x c m e (hears.Search is d there finds) = adds-stays x e.core e.sent (stays-finds x e (found_at d.address m) (searched_by m.p2 x) finds)
adds-heard x c m e (hears.AccessRights is does) = adds-rights x e c m (channel_on x c m.p1) refl does
adds-heard x c m e (hears.CreateChannel is does) = adds-created x e c m (channel_on x c m.p1) refl does
adds-heard x c m e (hears.CreateChannelFail is does) = adds-failed x e c m (channel_on x c m.p1) does
adds-heard x c m e (hears.ClearChannel is does) = adds-answered x e c m (channel_on x c m.p2) does
adds-heard x c m e (hears.ServerDisconnect is does) = adds-left x e c m (channel_on x c m.p1) does
adds-heard x c m e (hears.Reply is does) = adds-reply x e c m (answered_by c m.command m.p2 x.requests) does
adds-heard x c m e (hears.Confirmation is empty does) = adds-confirmed x e c m (confirmed_by c m.p2 x.subscriptions) does
adds-heard x c m e (hears.Update is some does) = adds-update x e c m (subscription_on x c m.p2) does
adds-heard x c m e (hears.Error is does) = adds-error x e c m does
adds-heard x c m e (hears.Other is does) = nothing x e [] does

-- ---- datagrams

stays-received : (x : Client) (from : Address) (m : Fields) (e : Effect) → Receives from x m e → Stays x e.core
stays-received x from m e (ends.Search is finds) = stays-finds x e (found_at from m) (searched_by m.p2 x) finds
stays-received x from m e (ends.Beacon is port does) = subst (λ (v : Effect). Stays x v.core) (sym does) (stays-same x (beacon_heard from m x) refl refl)
stays-received x from m e (ends.Other not_search not_beacon does) = unmoved x e does

pub stays-all-received : (from : Address) (ms : List Fields) (x : Client) (e : Effect) → ReceivesAll from x ms e → Stays x e.core
stays-all-received from [] x e does = unmoved x e does
stays-all-received from (m ∷ ms) x e does =
    subst (λ (w : Effect). Stays x w.core) (sym does.4)
    (stays-then x does.0.core does.1.core (stays-received x from m does.0 does.2) (stays-all-received from ms does.0.core does.1 does.3))

-- ---- calls that subscribe to nothing

pub stays-opened : (x : Client) (a : Opening) (h : Handle) (sent : List Sending) (y : Client) → ClientOpens x a (Ok h) sent y → Stays x y
stays-opened x a h sent y opens =
    subst (λ (v : Client). Stays x v) (sym opens.2.1)
    (stays-alike x (opened a h x) refl (λ on. same-held x.channels on h (record { name = a.name; priority = a.priority; standing = Searching }) opens.1 (not-searched on)))

pub stays-unsubscribed : (g : Handle) (o : Option Standing) (x : Client) → Stays x (unsubscribed g o x)
stays-unsubscribed g None x = stays-freed g x
stays-unsubscribed g (Some Searching) x = stays-freed g x
stays-unsubscribed g (Some (On c Connecting)) x = stays-freed g x
stays-unsubscribed g (Some (On c (Creating rights))) x = stays-freed g x
stays-unsubscribed g (Some (On c Clearing)) x = stays-freed g x
stays-unsubscribed g (Some (On c Doomed)) x = stays-freed g x
stays-unsubscribed g (Some (On c Leaving)) x = stays-staged (monitor.Ended c) g x refl
stays-unsubscribed g (Some (On c (Live native rights))) x = stays-staged (monitor.Cancelled c) g x refl

stays-unwanted : (c : Handle) (x : Client) → Stays x (unwanted c x)
stays-unwanted c x = go (length (channels_on (λ (p : Phase). true) c x) == 0) (under x.circuits c)
  where
    go : (b : Bool) (o : Option ClientCircuit) → Stays x (cond b (unwrap_or (option_map (λ (d : ClientCircuit). let_go c d x) o) x) x)
    go true (Some d) = stays-let-go c d x
    go true None = stays-itself x
    go false o = stays-itself x

stays-none-left : (h : Handle) (x : Client) → Stays x (unsubscribed_all h x)
stays-none-left h x = stays-all-freed (is_to h) x

stays-spent : (c h : Handle) (x : Client) → Stays x (with_standing (On c Clearing) h (all_over c h x))
stays-spent c h x =
    let y : Client = record x { subscriptions = monitor.channel_over c h x.subscriptions } in
    let z : Client = all_over c h x in
    stays-then x z (with_standing (On c Clearing) h z) (stays-then x y z (stays-over c h x) (stays-same y z refl refl)) (stays-phase h z c Clearing refl)

stays-cleared-so : (h : Handle) (s : Standing) (x : Client) → Stays x (cleared h s x)
stays-cleared-so h Searching x = (let y : Client = unsubscribed_all h x in stays-then x y (without_channel y h) (stays-none-left h x) (stays-gone h y))
stays-cleared-so h (On c Connecting) x =
    let y : Client = unsubscribed_all h x in
    let v : Client = without_channel y h in
    stays-then x v (unwanted c v) (stays-then x y v (stays-none-left h x) (stays-gone h y)) (stays-unwanted c v)
stays-cleared-so h (On c (Creating rights)) x = (let y : Client = unsubscribed_all h x in stays-then x y (with_standing (On c Doomed) h y) (stays-none-left h x) (stays-phase h y c Doomed refl))
stays-cleared-so h (On c (Live native rights)) x = stays-spent c h x
stays-cleared-so h (On c Leaving) x = stays-spent c h x
stays-cleared-so h (On c Clearing) x = stays-spent c h x
stays-cleared-so h (On c Doomed) x = stays-spent c h x

pub stays-cleared : (h : Handle) (s : Standing) (x : Client) → Stays x (sending (clearing_sent h s) (cleared h s x))
stays-cleared h s x = stays-then x (cleared h s x) (sending (clearing_sent h s) (cleared h s x)) (stays-cleared-so h s x) (stays-sending (clearing_sent h s) (cleared h s x))

-- ---- a subscription is made

pub adds-subscribed : (x : Client) (h : Handle) (a : Shape) (mask : ℕ) (q : Handle) (sent : List Sending) (y : Client) → ClientSubscribes x h a mask (Ok q) sent y → Adds x sent y
adds-subscribed x h a mask q sent y subscribes =
    subst (λ (v : List Sending × Client). Adds x v.0 v.1) (λ i. (sym subscribes.4.0 i, sym subscribes.4.1 i)) (adds-before x z (sending (s ∷ []) z) (s ∷ []) made (stays-sending (s ∷ []) z))
  where
    l : LiveChannel
    l = subscribes.0

    d : Subscription
    d = new_subscription h a mask

    s : Sending
    s = event_add_sent l.circuit l.native.sid q d

    z : Client
    z = record x { subscriptions = with_held q d x.subscriptions }

    made : Adds x (s ∷ []) z
    made = record {
      back = λ on g k it. elim (held-back x.subscriptions g q d it.d it.there) [
        | inr old ↦ inl (record { d = it.d; there = old; stands = it.stands; to = it.to; live = it.live })
        | inl own ↦
            let ch = found-standing x h (On l.circuit (Live l.native l.rights)) subscribes.1 in
            let live : IsLiveAs x.channels l.circuit h l.native.sid = record { ch = ch.0; native = l.native; rights = l.rights; there = ch.1; stands = ch.2; is = refl } in
            let to_k : h ≡ k = ap (λ (v : Subscription). v.channel) (sym own.1) ∙ it.to in
            let on_is : on ≡ l.circuit = (one-sid x.channels on l.circuit h it.live.0 l.native.sid (subst (λ (v : Handle). IsLiveAs x.channels on v it.live.0) (sym to_k) it.live.1) live).0 in
            inr (0, s, refl, sym on_is, λ i. aim.Subscribe (to_k i) (sym own.0 i))
      ];
    }

-- ---- circuits are connected, and bytes come

pub stays-connected : (x : Client) (c : Handle) (d : ClientCircuit) (k : Option Closing) (sent : List Sending) (y : Client) → ConnectsOn x c (Some d) k sent y → Stays x y
stays-connected x c d None sent y does =
    let z : Client = begun c x in
    subst (λ (v : Client). Stays x v) (sym does.1)
    (stays-then x z (sending (set_up x.peer c d ++ creations c x) z) (stays-alike x z refl (λ on. same-begun x.channels on c)) (stays-sending (set_up x.peer c d ++ creations c x) z))
stays-connected x c d (Some k) sent y does = subst (λ (v : Client). Stays x v) (sym does.2) (stays-ended c x)

pub stays-given : (x : Client) (c : Handle) (bytes : List ℕ) (more : Bool) (o : Option Connection) (sent : List Sending) (y : Client) → GivesOn x c bytes more o (Ok tt) sent y → Stays x y
stays-given x c bytes more (Some e) sent y gives =
    let z : Client = given c bytes more x in
    subst (λ (v : Client). Stays x v) (sym gives.1) (stays-then x z (sending (flow_sent c more e) z) (stays-same x z refl refl) (stays-sending (flow_sent c more e) z))
stays-given x c bytes more None sent y gives = absurd gives

pub stays-handed : (c : Handle) (k : ℕ) (x : Client) → Stays x (handed_over c k x)
stays-handed c k x = go (is_some (connection_at x c))
  where
    go : (b : Bool) → Stays x (cond b (on_connection (λ (e : Connection). record e { link = with_handed k e.link }) c x) x)
    go true = stays-same x (on_connection (λ (e : Connection). record e { link = with_handed k e.link }) c x) refl refl
    go false = stays-itself x

-- ---- a moment

ticks-one : (x : Client) (t : Ticking) (c : Handle) → Stays x t.core → Stays x (ticks t c).core
ticks-one x t c m = go (connection_at t.core c)
  where
    by : (k : Keep) → Stays x (ticks_as k c t).core
    by Idle = m
    by Close = stays-then x t.core (ended c t.core) m (stays-ended c t.core)
    by Echo =
        let noted : Client = on_connection (λ (e : Connection). record e { link = record e.link { echoed = true } }) c t.core in
        stays-then x noted (sending (of_circuit c (header_only command.Echo) ∷ []) noted) (stays-then x t.core noted m (stays-same t.core noted refl refl)) (stays-sending (of_circuit c (header_only command.Echo) ∷ []) noted)

    go : (o : Option Connection) → Stays x (unwrap_or (option_map (λ (e : Connection). ticks_as (kept t.core.moment e.link) c t) o) t).core
    go None = m
    go (Some e) = by (kept t.core.moment e.link)

ticks-all : (x : Client) (order : List Handle) (t : Ticking) → Stays x t.core → Stays x (fold ticks t order).core
ticks-all x [] t m = m
ticks-all x (c ∷ order) t m = ticks-all x order (ticks t c) (ticks-one x t c m)

module _ (x : Client) where
  searched-one : (c : Handle) (t : Ticking) (w : search.Wanted) → Stays x t.core → Stays x (searches_on c t w).core
  searched-one c t w m = go (is_over t.core c)
    where
      go : (b : Bool) → Stays x (cond b t (with_sending (of_circuit c (search_request w.cid w.name)) t)).core
      go true = m
      go false = stays-then x t.core (sending (of_circuit c (search_request w.cid w.name) ∷ []) t.core) m (stays-sending (of_circuit c (search_request w.cid w.name) ∷ []) t.core)

  searched-each : (c : Handle) (ws : List search.Wanted) (t : Ticking) → Stays x t.core → Stays x (fold (searches_on c) t ws).core
  searched-each c [] t m = m
  searched-each c (w ∷ ws) t m = searched-each c ws (searches_on c t w) (searched-one c t w m)

  searched-all : (ws : List search.Wanted) (cs : List Handle) (t : Ticking) → Stays x t.core → Stays x (fold (all_searched_on ws) t cs).core
  searched-all ws [] t m = m
  searched-all ws (c ∷ cs) t m = searched-all ws cs (all_searched_on ws t c) (searched-each c ws t m)

pub stays-ticked : (moment : ℕ) (x : Client) → (let t : Ticking = circuits_ticked moment x in Stays x (searches_made t).core)
stays-ticked moment x =
    let y : Client = record x { moment = later moment x } in
    let first : Ticking = record { core = y; sent = []; notices = []; closings = [] } in
    let t : Ticking = circuits_ticked moment x in
    let u : Ticking = fold (all_searched_on (due t.core)) t (filter (is_name_connected t.core) t.core.order) in
    stays-then x u.core (searches_made t).core (searched-all x (due t.core) (filter (is_name_connected t.core) t.core.order) t (ticks-all x x.order first (stays-same x y refl refl)))
    (stays-same u.core (searches_made t).core refl refl)
