-- A subscription that is on a channel that its caller has not cleared: what each change of a
-- client leaves of that.
use Rattle.std.proofs.Common.{◌≡◌, ℕ, suc, ◌⊎◌, inl, inr, Bool, true, false, ◌&&◌, cond, eqb, List, [], ◌∷◌, ◌++◌, Option, Some, None, refl, sym, ap, ◌∙◌, subst}
use Rattle.std.specs.Prelude.{◌==◌, Ok, filter, fold, is_some, length, not, option_map, unwrap_or}
use Rattle.std.proofs.lemmas.Bool.{both_ways}
use Rattle.ca_text.specs.Place.{At}
use Rattle.ca_text.specs.declared.status.Status.{Status}
use Rattle.ca_arena.specs.declared.handle.Handle.{Handle}
use Rattle.ca_ids.specs.Table.{Table, same_handle, under, with_all_freed, with_held}
use Rattle.ca_link.specs.declared.keep.Keep.{Keep}
use Rattle.ca_link.specs.declared.keep.Keep.TheVariants.{Close, Echo, Idle}
use Rattle.ca_link.specs.Link.{kept, with_handed}
use Rattle.ca_monitor.specs.Subscriptions.{Stage, Subscription, confirmed_by, drains_in, is_cancelled_in, is_to, stands_in, with_stage}
use Rattle.ca_monitor.specs.Subscriptions as monitor
use Rattle.ca_requests.specs.Requests.{Asked, Request, answered_by}
use Rattle.ca_requests.specs.Requests as request
use Rattle.ca_search.specs.Searches as search
use Rattle.ca_text.specs.declared.command.Command.TheVariants as command
use Rattle.ca_wire.specs.declared.header.Header.{Header}
use Rattle.ca_wire.specs.Fields.{Fields}
use Rattle.ca_wire.specs.Messages.{header_only, search_request}
use Rattle.ca_model.specs.Answers.{Closing, Notice, Sending}
use Rattle.ca_model.specs.Answers as notice
use Rattle.ca_model.specs.Client.{Channel, Client, ClientCircuit, Clearing, Connecting, Connection, Creating, Doomed, Leaving, Live, On, Phase, Searching, Standing, channel_on, channels_ended, channels_on, circuit_to, connection_at, disconnected, ended, found_on, is_cleared, is_on_in, later, let_go, on_connection, phase_on, searched_again, sending, with_one_sent, with_requests, with_standing, without_channel, without_circuit, without_ids}
use Rattle.ca_model.specs.Client as phase
use Rattle.ca_model.specs.ClientCalls.{ClientOpens, ClientSubscribes, LiveChannel, Opening, Shape, all_over, cleared, clearing_sent, event_add_sent, is_over, new_subscription, opened, unsubscribed, unsubscribed_all, unwanted}
use Rattle.ca_model.specs.ClientEnds.{ConnectsOn, GivesOn, Receives, ReceivesAll, Ticking, all_searched_on, beacon_heard, begun, circuits_ticked, creating, creations, due, flow_sent, given, handed_over, is_connecting, is_name_connected, of_circuit, searches_made, searches_on, set_up, ticks, ticks_as, with_sending}
use Rattle.ca_model.specs.ClientEnds as ends
use Rattle.ca_model.specs.Ends.{Address}
use Rattle.ca_model.specs.Hears.{Answers, Completes, Effect, Fails, FindsAt, Hears, PutsOn, Updates, any_failed, becomes, clear_answered, confirmed, created, doing, event_adds, failed, found_at, subscription_on, left, native_in, put_on, request_failed, rights_told, searched_by, subscription_failed, with_circuit, without_drained, without_request, without_subscription, write_failed}
use Rattle.ca_model.specs.Hears as hears
use Rattle.ca_model.proofs.Handles.{handle-or, same-not}
use Rattle.ca_model.proofs.Standings.{channel-on, found-standing, on-circuit}
use Rattle.ca_model.proofs.Tables.{all-freed-there, all-there, changed-other, changed-own, freed-back, freed-other, held-other, held-own, one-value}
use Rattle.ca_laws_parts.proofs.Ended.{confirmed-is}
use Rattle.ca_laws_runs.proofs.OnceCalls.{IsClearedBy}
use Rattle.ca_laws_runs.proofs.OnceLess.{is_gone}

-- The subscription of this handle is on a channel that is there, and that its
-- caller has not cleared.
pub record IsKept (x : Client) (g h : Handle) : Type 0 where
  pub d : Subscription
  pub there : under x.subscriptions g ≡ Some d
  pub stands : stands_in d.stage ≡ true
  pub to : d.channel ≡ h
  pub ch : Channel
  pub on : under x.channels h ≡ Some ch
  pub uncleared : is_gone ch.standing ≡ false

-- From the one client to the other each stays so.
pub record Lasts (x y : Client) : Type 0 where
  pub forth : (g h : Handle) → IsKept x g h → IsKept y g h

-- Each but the subscription of this handle; each but those on the channel of this one.
pub record LastsBut (own : Handle) (x y : Client) : Type 0 where
  pub forth : (g h : Handle) → (g ≡ own → ⊥) → IsKept x g h → IsKept y g h

pub record LastsOff (own : Handle) (x y : Client) : Type 0 where
  pub forth : (g h : Handle) → (h ≡ own → ⊥) → IsKept x g h → IsKept y g h

-- These notices tell of its end.
abbrev pub IsEndedIn : List Notice → (g : Handle) → Type 0
IsEndedIn notices g = (i : ℕ) × (status : Status) × At notices i (notice.SubscriptionEnded g status)

-- Each but those of whose end these notices tell.
pub record LastsIn (x : Client) (notices : List Notice) (y : Client) : Type 0 where
  pub forth : (g h : Handle) → IsKept x g h → IsKept y g h ⊎ IsEndedIn notices g

pub lasts-then : (x y z : Client) → Lasts x y → Lasts y z → Lasts x z
lasts-then x y z a b = record { forth = λ g h it. b.forth g h (a.forth g h it) }

pub lasts-in : (x y : Client) (notices : List Notice) → Lasts x y → LastsIn x notices y
lasts-in x y notices l = record { forth = λ g h it. inl (l.forth g h it) }

pub in-after : (x y z : Client) (notices : List Notice) → Lasts x y → LastsIn y notices z → LastsIn x notices z
in-after x y z notices a b = record { forth = λ g h it. b.forth g h (a.forth g h it) }

but-then : (own : Handle) (x y z : Client) → LastsBut own x y → Lasts y z → LastsBut own x z
but-then own x y z a b = record { forth = λ g h other it. b.forth g h (a.forth g h other it) }

off-lasts : (own : Handle) (x y : Client) → Lasts x y → LastsOff own x y
off-lasts own x y l = record { forth = λ g h other it. l.forth g h it }

off-then : (own : Handle) (x y z : Client) → LastsOff own x y → LastsOff own y z → LastsOff own x z
off-then own x y z a b = record { forth = λ g h other it. b.forth g h other (a.forth g h other it) }

-- ---- the tables apart

-- with another row, or another channel
row-so : (x y : Client) (g h : Handle) (it : IsKept x g h) → y.channels ≡ x.channels → under y.subscriptions g ≡ Some it.d → IsKept y g h
row-so x y g h it channels row = record {
  d = it.d;
  there = row;
  stands = it.stands;
  to = it.to;
  ch = it.ch;
  on = subst (λ (t : Table Channel). under t h ≡ Some it.ch) (sym channels) it.on;
  uncleared = it.uncleared;
}

channel-so : (x y : Client) (g h : Handle) (it : IsKept x g h) → y.subscriptions ≡ x.subscriptions → (ch : Channel) → under y.channels h ≡ Some ch
    → is_gone ch.standing ≡ false → IsKept y g h
channel-so x y g h it subscriptions ch on uncleared = record {
  d = it.d;
  there = subst (λ (t : Table Subscription). under t g ≡ Some it.d) (sym subscriptions) it.there;
  stands = it.stands;
  to = it.to;
  ch = ch;
  on = on;
  uncleared = uncleared;
}

lasts-rows : (x y : Client) → y.channels ≡ x.channels
    → ((g : Handle) (d : Subscription) → under x.subscriptions g ≡ Some d → stands_in d.stage ≡ true → under y.subscriptions g ≡ Some d) → Lasts x y
lasts-rows x y channels rows = record { forth = λ g h it. row-so x y g h it channels (rows g it.d it.there it.stands) }

lasts-channels : (x y : Client) → y.subscriptions ≡ x.subscriptions
    → ((h : Handle) (ch : Channel) → under x.channels h ≡ Some ch → is_gone ch.standing ≡ false → (e : Channel) × (under y.channels h ≡ Some e) × (is_gone e.standing ≡ false))
    → Lasts x y
lasts-channels x y subscriptions channels = record { forth = λ g h it. (let e = channels h it.ch it.on it.uncleared in channel-so x y g h it subscriptions e.0 e.1 e.2) }

pub lasts-same : (x y : Client) → y.subscriptions ≡ x.subscriptions → y.channels ≡ x.channels → Lasts x y
lasts-same x y subscriptions channels = lasts-rows x y channels (λ g d is it. subst (λ (t : Table Subscription). under t g ≡ Some d) (sym subscriptions) is)

pub lasts-itself : (x : Client) → Lasts x x
lasts-itself x = lasts-same x x refl refl

pub lasts-sending : (sends : List Sending) (x : Client) → Lasts x (sending sends x)
lasts-sending [] x = lasts-itself x
lasts-sending (s ∷ sends) x = lasts-then x (with_one_sent x s) (sending sends (with_one_sent x s)) (lasts-same x (with_one_sent x s) refl refl) (lasts-sending sends (with_one_sent x s))

-- ---- ids are free that drain

drains-none : (c : Handle) (s : Stage) → stands_in s ≡ true → drains_in c s ≡ false
drains-none c monitor.Stands e = refl
drains-none c (monitor.Cancelled o) e = absurd (both_ways false refl e)
drains-none c (monitor.Ended o) e = absurd (both_ways false refl e)

and-none : (a b : Bool) → b ≡ false → (a && b) ≡ false
and-none true b e = e
and-none false b e = refl

lasts-all-freed : (frees : Subscription → Bool) (x : Client) → ((d : Subscription) → stands_in d.stage ≡ true → frees d ≡ false)
    → Lasts x (record x { subscriptions = with_all_freed frees x.subscriptions })
lasts-all-freed frees x none = lasts-rows x (record x { subscriptions = with_all_freed frees x.subscriptions }) refl (λ g d is it. all-freed-there frees x.subscriptions g d is (none d it))

lasts-drained : (c h : Handle) (x : Client) → Lasts x (without_drained c h x)
lasts-drained c h x =
    let y : Client = record x { subscriptions = monitor.channel_drained c h x.subscriptions } in
    lasts-then x y (without_drained c h x) (lasts-all-freed (λ (s : Subscription). is_to h s && drains_in c s.stage) x (λ d it. and-none (is_to h d) (drains_in c d.stage) (drains-none c d.stage it))) (lasts-same y (without_drained c h x) refl refl)

-- one that does not stand
lasts-freed : (g : Handle) (x : Client) → ((d : Subscription) → under x.subscriptions g ≡ Some d → stands_in d.stage ≡ false)
    → Lasts x (without_subscription g x)
lasts-freed g x none = lasts-rows x (without_subscription g x) refl (λ k d is it. elim (handle-or k g) [
  | inl same ↦ absurd (both_ways (stands_in d.stage) (none d (subst (λ (v : Handle). under x.subscriptions v ≡ Some d) same is)) it)
  | inr other ↦ freed-other x.subscriptions k g d is other
])

-- ---- a channel stands otherwise

module _ (h : Handle) (x : Client) where
  -- so that it is not cleared
  lasts-stood : (s : Standing) → is_gone s ≡ false → Lasts x (with_standing s h x)
  lasts-stood s none = lasts-channels x (with_standing s h x) refl (λ k ch is was. elim (handle-or k h) [
    | inl same ↦
        let now : Channel = record ch { standing = s } in (
          now,
          subst (λ (v : Handle). under (with_standing s h x).channels v ≡ Some now) (sym same)
              (changed-own (λ (w : Channel). record w { standing = s }) x.channels h ch (subst (λ (v : Handle). under x.channels v ≡ Some ch) same is)),
          none,
        )
    | inr other ↦ (ch, changed-other (λ (w : Channel). record w { standing = s }) x.channels k h ch is other, was)
  ])

  lasts-again : Lasts x (searched_again x h)
  lasts-again = (let y : Client = with_standing Searching h x in lasts-then x y (searched_again x h) (lasts-stood Searching refl) (lasts-same y (searched_again x h) refl refl))

  -- one that was cleared
  module _ (gone : IsClearedBy x h) where
    lasts-still : (s : Standing) → Lasts x (with_standing s h x)
    lasts-still s = lasts-channels x (with_standing s h x) refl (λ k ch is was. elim (handle-or k h) [
      | inl same ↦ absurd (both_ways (is_gone ch.standing) was (gone ch (subst (λ (v : Handle). under x.channels v ≡ Some ch) same is)))
      | inr other ↦ (ch, changed-other (λ (w : Channel). record w { standing = s }) x.channels k h ch is other, was)
    ])

    lasts-gone : Lasts x (without_channel x h)
    lasts-gone = lasts-channels x (without_channel x h) refl (λ k ch is was. elim (handle-or k h) [
      | inl same ↦ absurd (both_ways (is_gone ch.standing) was (gone ch (subst (λ (v : Handle). under x.channels v ≡ Some ch) same is)))
      | inr other ↦ (ch, freed-other x.channels k h ch is other, was)
    ])

-- in a phase that its caller's clear left it in
gone-phase : (x : Client) (c h : Handle) (p : Phase) (ch : Channel) → under x.channels h ≡ Some ch → ch.standing ≡ On c p → is_cleared p ≡ true
    → IsClearedBy x h
gone-phase x c h p ch there stands is w at = ap (λ (z : Channel). is_gone z.standing) (one-value x.channels h w ch at there) ∙ ap is_gone stands ∙ is

-- ---- an end has ended

lasts-fold : (f : Client → Handle → Client) → ((y : Client) (h : Handle) → Lasts y (f y h)) → (hs : List Handle) (x : Client) → Lasts x (fold f x hs)
lasts-fold f each [] x = lasts-itself x
lasts-fold f each (h ∷ hs) x = lasts-then x (f x h) (fold f (f x h) hs) (each x h) (lasts-fold f each hs (f x h))

lasts-all-gone : (hs : List Handle) (x : Client) → ((i : ℕ) (h : Handle) → At hs i h → IsClearedBy x h) → Lasts x (fold without_channel x hs)
lasts-all-gone [] x gone = lasts-itself x
lasts-all-gone (h ∷ hs) x gone =
    lasts-then x (without_channel x h) (fold without_channel x (h ∷ hs)) (lasts-gone h x (gone 0 h refl))
    (lasts-all-gone hs (without_channel x h) (λ i g at ch is. gone (suc i) g at ch (freed-back x.channels g h ch is).1))

cleared-on : (c : Handle) (ch : Channel) → is_on_in is_cleared c ch ≡ true → is_gone ch.standing ≡ true
cleared-on c ch is = go ch.standing is
  where
    by : (b : Bool) (p : Phase) → unwrap_or (option_map is_cleared (cond b (Some p) None)) false ≡ true → is_cleared p ≡ true
    by true p e = e
    by false p e = absurd (both_ways false refl e)

    go : (s : Standing) → unwrap_or (option_map is_cleared (phase_on c s)) false ≡ true → is_gone s ≡ true
    go Searching e = absurd (both_ways false refl e)
    go (On d p) e = by (same_handle d c) p e

lasts-let-go : (c : Handle) (d : ClientCircuit) (x : Client) → Lasts x (let_go c d x)
lasts-let-go c d x = go d.is_name
  where
    go : (b : Bool) → Lasts x (cond b (disconnected c x) (without_circuit c x))
    go true = lasts-same x (disconnected c x) refl refl
    go false = lasts-same x (without_circuit c x) refl refl

lasts-channels-ended : (c : Handle) (x : Client) → Lasts x (channels_ended c x)
lasts-channels-ended c x =
    let mid : Client = fold without_channel x (channels_on is_cleared c x) in
    lasts-then x mid (channels_ended c x)
    (lasts-all-gone (channels_on is_cleared c x) x (λ i h at ch is.
    let found = on-circuit is_cleared c x i h at in
    ap (λ (z : Channel). is_gone z.standing) (one-value x.channels h ch found.0 is found.1) ∙ cleared-on c found.0 found.2))
    (lasts-fold searched_again (λ y h. lasts-again h y) (channels_on (λ (p : Phase). not (is_cleared p)) c x) mid)

pub lasts-ended : (c : Handle) (x : Client) → Lasts x (ended c x)
lasts-ended c x = go (under x.circuits c)
  where
    y : Client
    y = record x { subscriptions = monitor.circuit_gone c x.subscriptions }

    ids : Lasts x (without_ids c x)
    ids = lasts-then x y (without_ids c x) (lasts-all-freed (λ (s : Subscription). drains_in c s.stage) x (λ d it. drains-none c d.stage it)) (lasts-same y (without_ids c x) refl refl)

    z : Client
    z = channels_ended c (without_ids c x)

    go : (o : Option ClientCircuit) → Lasts x (unwrap_or (option_map (λ (d : ClientCircuit). let_go c d (channels_ended c (without_ids c x))) o) x)
    go (Some d) = lasts-then x (without_ids c x) (let_go c d z) ids (lasts-then (without_ids c x) z (let_go c d z) (lasts-channels-ended c (without_ids c x)) (lasts-let-go c d z))
    go None = lasts-itself x

-- ---- a message that is read

cancelled-none : (c : Handle) (s : Stage) → is_cancelled_in c s ≡ true → stands_in s ≡ false
cancelled-none c monitor.Stands e = absurd (both_ways false refl e)
cancelled-none c (monitor.Cancelled o) e = refl
cancelled-none c (monitor.Ended o) e = refl

module _ (x : Client) (e : Effect) where
  does-so : (sent : List Sending) (notices : List Notice) (z : Client) → e ≡ doing sent notices z → Lasts x z → LastsIn x e.notices e.core
  does-so sent notices z is o = subst (λ (v : Effect). LastsIn x v.notices v.core) (sym is) (lasts-in x (sending sent z) notices (lasts-then x z (sending sent z) o (lasts-sending sent z)))

  nothing : (notices : List Notice) → e ≡ doing [] notices x → LastsIn x e.notices e.core
  nothing notices is = does-so [] notices x is (lasts-itself x)

  module _ (c : Handle) (m : Fields) where
    lasts-rights : (o : Option (Handle × Phase)) → e ≡ rights_told x c m o → LastsIn x e.notices e.core
    lasts-rights None is = nothing [] is
    lasts-rights (Some (h, Connecting)) is = nothing [] is
    lasts-rights (Some (h, Leaving)) is = nothing [] is
    lasts-rights (Some (h, Clearing)) is = nothing [] is
    lasts-rights (Some (h, Doomed)) is = nothing [] is
    lasts-rights (Some (h, Creating rights)) is = does-so [] [] (with_standing (On c (Creating m.p2)) h x) is (lasts-stood h x (On c (Creating m.p2)) refl)
    lasts-rights (Some (h, Live native rights)) is = does-so [] [] (with_standing (On c (Live native m.p2)) h x) is (lasts-stood h x (On c (Live native m.p2)) refl)

    lasts-created : (o : Option (Handle × Phase)) → channel_on x c m.p1 ≡ o → e ≡ created x c m o → LastsIn x e.notices e.core
    lasts-created None at is = nothing [] is
    lasts-created (Some (h, Connecting)) at is = nothing [] is
    lasts-created (Some (h, Live native rights)) at is = nothing [] is
    lasts-created (Some (h, Leaving)) at is = nothing [] is
    lasts-created (Some (h, Clearing)) at is = nothing [] is
    lasts-created (Some (h, Creating rights)) at is =
        does-so (event_adds c m.p2 h x) _ (with_standing (On c (Live (native_in m) rights)) h x) is (lasts-stood h x (On c (Live (native_in m) rights)) refl)
    lasts-created (Some (h, Doomed)) at is =
        let f = channel-on x c m.p1 h Doomed at in
        does-so _ _ (with_standing (On c Clearing) h x) is (lasts-still h x (gone-phase x c h Doomed f.0 f.1 f.3 refl) (On c Clearing))

    lasts-failed : (o : Option (Handle × Phase)) → channel_on x c m.p1 ≡ o → e ≡ failed x o → LastsIn x e.notices e.core
    lasts-failed None at is = nothing [] is
    lasts-failed (Some (h, Connecting)) at is = nothing [] is
    lasts-failed (Some (h, Live native rights)) at is = nothing [] is
    lasts-failed (Some (h, Leaving)) at is = nothing [] is
    lasts-failed (Some (h, Clearing)) at is = nothing [] is
    lasts-failed (Some (h, Creating rights)) at is = does-so [] [] (searched_again x h) is (lasts-again h x)
    lasts-failed (Some (h, Doomed)) at is =
        let f = channel-on x c m.p1 h Doomed at in
        does-so [] [] (without_channel x h) is (lasts-gone h x (gone-phase x c h Doomed f.0 f.1 f.3 refl))

    lasts-answered : (o : Option (Handle × Phase)) → channel_on x c m.p2 ≡ o → e ≡ clear_answered x c o → LastsIn x e.notices e.core
    lasts-answered None at is = nothing [] is
    lasts-answered (Some (h, Connecting)) at is = nothing [] is
    lasts-answered (Some (h, Live native rights)) at is = nothing [] is
    lasts-answered (Some (h, Creating rights)) at is = nothing [] is
    lasts-answered (Some (h, Doomed)) at is = nothing [] is
    lasts-answered (Some (h, Clearing)) at is =
        let y : Client = without_drained c h x in
        let f = channel-on x c m.p2 h Clearing at in
        does-so [] [] (without_channel y h) is (lasts-then x y (without_channel y h) (lasts-drained c h x) (lasts-gone h y (gone-phase y c h Clearing f.0 f.1 f.3 refl)))
    lasts-answered (Some (h, Leaving)) at is =
        let y : Client = without_drained c h x in
        does-so [] [] (searched_again y h) is (lasts-then x y (searched_again y h) (lasts-drained c h x) (lasts-again h y))

    lasts-left : (o : Option (Handle × Phase)) → e ≡ left x c o → LastsIn x e.notices e.core
    lasts-left None is = nothing [] is
    lasts-left (Some (h, Connecting)) is = nothing [] is
    lasts-left (Some (h, Creating rights)) is = nothing [] is
    lasts-left (Some (h, Leaving)) is = nothing [] is
    lasts-left (Some (h, Clearing)) is = nothing [] is
    lasts-left (Some (h, Doomed)) is = nothing [] is
    lasts-left (Some (h, Live native rights)) is =
        let y : Client = with_requests (request.channel_over h x.requests) x in
        does-so _ _ (with_standing (On c Leaving) h y) is (lasts-then x y (with_standing (On c Leaving) h y) (lasts-same x y refl refl) (lasts-stood h y (On c Leaving) refl))

    lasts-completes : (q : Handle) (a : Asked) (s : request.Stage) → Completes x m q a s e → LastsIn x e.notices e.core
    lasts-completes q a request.Open done = does-so [] _ (without_request q x) done.2 (lasts-same x (without_request q x) refl refl)
    lasts-completes q a request.Draining done = does-so [] [] (without_request q x) done (lasts-same x (without_request q x) refl refl)

    lasts-reply : (o : Option (Handle × Request)) → Answers x m o e → LastsIn x e.notices e.core
    lasts-reply None is = nothing [] is
    lasts-reply (Some (q, r)) is = lasts-completes q r.asked r.stage is

    lasts-confirmed : (o : Option Handle) → confirmed_by c m.p2 x.subscriptions ≡ o → e ≡ confirmed x o → LastsIn x e.notices e.core
    lasts-confirmed None at is = nothing [] is
    lasts-confirmed (Some g) at is =
        let f = confirmed-is c m.p2 x.subscriptions g at in
        does-so [] [] (without_subscription g x) is
        (lasts-freed g x (λ d there. ap (λ (z : Subscription). stands_in z.stage) (one-value x.subscriptions g d f.0 there f.1) ∙ cancelled-none c (f.0).stage f.3))

    lasts-update : (o : Option Handle) → Updates x m o e → LastsIn x e.notices e.core
    lasts-update None is = nothing [] is
    lasts-update (Some g) is = nothing _ is.2

    lasts-write : (o : Option (Handle × Phase)) → e ≡ write_failed x m o → LastsIn x e.notices e.core
    lasts-write None is = nothing [] is
    lasts-write (Some (h, Connecting)) is = nothing [] is
    lasts-write (Some (h, Creating rights)) is = nothing [] is
    lasts-write (Some (h, Live native rights)) is = nothing _ is
    lasts-write (Some (h, Leaving)) is = nothing [] is
    lasts-write (Some (h, Clearing)) is = nothing [] is
    lasts-write (Some (h, Doomed)) is = nothing [] is

    -- a subscription is over, and its caller is told
    lasts-refused : (o : Option Handle) → e ≡ subscription_failed x m o → LastsIn x e.notices e.core
    lasts-refused None is = nothing [] is
    lasts-refused (Some g) is =
        let status : Status = record { number = m.p2 } in
        subst (λ (v : Effect). LastsIn x v.notices v.core) (sym is) (record {
          forth = λ k h it. elim (handle-or k g) [
            | inl same ↦ inr (0, status, ap (λ (v : Handle). Some (notice.SubscriptionEnded v status)) (sym same))
            | inr other ↦ inl (row-so x (without_subscription g x) k h it refl (freed-other x.subscriptions k g it.d it.there other))
          ];
        })

    lasts-any : (o : Option (Handle × Request)) → e ≡ any_failed x m o → LastsIn x e.notices e.core
    lasts-any None is = nothing [] is
    lasts-any (Some (q, r)) is = go r.stage is
      where
        go : (s : request.Stage) → e ≡ request_failed x m q s → LastsIn x e.notices e.core
        go request.Open done = does-so [] _ (without_request q x) done (lasts-same x (without_request q x) refl refl)
        go request.Draining done = nothing [] done

    lasts-error : Fails x c m e → LastsIn x e.notices e.core
    lasts-error fails = elim fails [
      | inr not_whole ↦ nothing [] not_whole.1
      | inl whole ↦ by whole.0 (eqb whole.0.command 4) (eqb whole.0.command 1) whole.2
    ]
      where
        by : (h : Header) (a b : Bool)
            → e ≡ cond a (write_failed x m (channel_on x c m.p1)) (cond b (subscription_failed x m (subscription_on x c h.p2)) (any_failed x m (answered_by c h.command h.p2 x.requests)))
            → LastsIn x e.notices e.core
        by h true b is = lasts-write (channel_on x c m.p1) is
        by h false true is = lasts-refused (subscription_on x c h.p2) is
        by h false false is = lasts-any (answered_by c h.command h.p2 x.requests) is

  -- ---- a channel was found

  lasts-put-on : (d : Handle) (k : Option Connection) (h : Handle) (here : Channel) → e ≡ put_on d k h here x → Lasts x e.core
  lasts-put-on d None h here is =
      let y : Client = with_standing (On d Connecting) h x in
      subst (λ (v : Effect). Lasts x v.core) (sym is) (lasts-then x y (found_on d Connecting h x) (lasts-stood h x (On d Connecting) refl) (lasts-same y (found_on d Connecting h x) refl refl))
  lasts-put-on d (Some k) h here is =
      let y : Client = with_standing (On d (Creating 0)) h x in
      let z : Client = found_on d (Creating 0) h x in
      subst (λ (v : Effect). Lasts x v.core) (sym is) (lasts-then x z (sending (hears.create_sent d h here ∷ []) z) (lasts-then x y z (lasts-stood h x (On d (Creating 0)) refl) (lasts-same y z refl refl)) (lasts-sending (hears.create_sent d h here ∷ []) z))

unmoved : (x : Client) (e : Effect) → e ≡ becomes x → Lasts x e.core
unmoved x e is = subst (λ (v : Effect). Lasts x v.core) (sym is) (lasts-itself x)

lasts-puts : (x : Client) (e : Effect) (address : Address) (h : Handle) (here : Channel) → (o : Option (Handle × ClientCircuit))
    → PutsOn x address h here o e → Lasts x e.core
lasts-puts x e address h here (Some (d, v)) is = lasts-put-on x e d v.connection h here is
lasts-puts x e address h here None is = elim is [
  | inr full ↦ unmoved x e full.1
  | inl new ↦
      let y : Client = with_circuit new.0 (phase.new_circuit address here.priority false) x in
      lasts-then x y e.core (lasts-same x y refl refl) (lasts-put-on y e new.0 None h here new.2)
]

lasts-finds : (x : Client) (e : Effect) (address : Address) (o : Option (Handle × Channel)) → FindsAt x address o e → Lasts x e.core
lasts-finds x e address None is = unmoved x e is
lasts-finds x e address (Some (h, here)) is = lasts-puts x e address h here (circuit_to address here.priority x) is

pub lasts-heard : (x : Client) (c : Handle) (m : Fields) (e : Effect) → Hears x c m e → LastsIn x e.notices e.core
lasts-heard x c m e (hears.Search is d there finds) = lasts-in x e.core e.notices (lasts-finds x e (found_at d.address m) (searched_by m.p2 x) finds)
lasts-heard x c m e (hears.AccessRights is does) = lasts-rights x e c m (channel_on x c m.p1) does
lasts-heard x c m e (hears.CreateChannel is does) = lasts-created x e c m (channel_on x c m.p1) refl does
lasts-heard x c m e (hears.CreateChannelFail is does) = lasts-failed x e c m (channel_on x c m.p1) refl does
lasts-heard x c m e (hears.ClearChannel is does) = lasts-answered x e c m (channel_on x c m.p2) refl does
lasts-heard x c m e (hears.ServerDisconnect is does) = lasts-left x e c m (channel_on x c m.p1) does
lasts-heard x c m e (hears.Reply is does) = lasts-reply x e c m (answered_by c m.command m.p2 x.requests) does
lasts-heard x c m e (hears.Confirmation is empty does) = lasts-confirmed x e c m (confirmed_by c m.p2 x.subscriptions) refl does
lasts-heard x c m e (hears.Update is some does) = lasts-update x e c m (subscription_on x c m.p2) does
lasts-heard x c m e (hears.Error is does) = lasts-error x e c m does
lasts-heard x c m e (hears.Other is does) = nothing x e [] does

-- ---- datagrams

lasts-received : (x : Client) (from : Address) (m : Fields) (e : Effect) → Receives from x m e → Lasts x e.core
lasts-received x from m e (ends.Search is finds) = lasts-finds x e (found_at from m) (searched_by m.p2 x) finds
lasts-received x from m e (ends.Beacon is port does) = subst (λ (v : Effect). Lasts x v.core) (sym does) (lasts-same x (beacon_heard from m x) refl refl)
lasts-received x from m e (ends.Other not_search not_beacon does) = unmoved x e does

pub lasts-all-received : (from : Address) (ms : List Fields) (x : Client) (e : Effect) → ReceivesAll from x ms e → Lasts x e.core
lasts-all-received from [] x e does = unmoved x e does
lasts-all-received from (m ∷ ms) x e does =
    subst (λ (w : Effect). Lasts x w.core) (sym does.4)
    (lasts-then x does.0.core does.1.core (lasts-received x from m does.0 does.2) (lasts-all-received from ms does.0.core does.1 does.3))

-- ---- calls

pub lasts-opened : (x : Client) (a : Opening) (h : Handle) (sent : List Sending) (y : Client) → ClientOpens x a (Ok h) sent y → Lasts x y
lasts-opened x a h sent y opens =
    subst (λ (v : Client). Lasts x v) (sym opens.2.1)
    (lasts-channels x (opened a h x) refl (λ k ch is was. (ch, held-other x.channels k h (record { name = a.name; priority = a.priority; standing = Searching }) ch opens.1 is, was)))

-- a subscription is ended by its caller
but-freed : (g : Handle) (x : Client) → LastsBut g x (without_subscription g x)
but-freed g x = record { forth = λ k h other it. row-so x (without_subscription g x) k h it refl (freed-other x.subscriptions k g it.d it.there other) }

but-staged : (s : Stage) (g : Handle) (x : Client) → LastsBut g x (record x { subscriptions = with_stage s g x.subscriptions })
but-staged s g x = record {
  forth = λ k h other it. row-so x (record x { subscriptions = with_stage s g x.subscriptions }) k h it refl (changed-other (λ (v : Subscription). record v { stage = s }) x.subscriptions k g it.d it.there other);
}

but-unsubscribed : (g : Handle) (o : Option Standing) (x : Client) → LastsBut g x (unsubscribed g o x)
but-unsubscribed g None x = but-freed g x
but-unsubscribed g (Some Searching) x = but-freed g x
but-unsubscribed g (Some (On c Connecting)) x = but-freed g x
but-unsubscribed g (Some (On c (Creating rights))) x = but-freed g x
but-unsubscribed g (Some (On c Clearing)) x = but-freed g x
but-unsubscribed g (Some (On c Doomed)) x = but-freed g x
but-unsubscribed g (Some (On c Leaving)) x = but-staged (monitor.Ended c) g x
but-unsubscribed g (Some (On c (Live native rights))) x = but-staged (monitor.Cancelled c) g x

pub lasts-unsubscribed : (g : Handle) (o : Option Standing) (sent : List Sending) (x : Client) → LastsBut g x (sending sent (unsubscribed g o x))
lasts-unsubscribed g o sent x = but-then g x (unsubscribed g o x) (sending sent (unsubscribed g o x)) (but-unsubscribed g o x) (lasts-sending sent (unsubscribed g o x))

-- a channel is cleared by its caller
module _ (h : Handle) where
  is-other : (d : Subscription) (k : Handle) → d.channel ≡ k → (k ≡ h → ⊥) → is_to h d ≡ false
  is-other d k to other = same-not d.channel h (λ e. other (sym to ∙ e))

  off-none-left : (x : Client) → LastsOff h x (unsubscribed_all h x)
  off-none-left x = record { forth = λ g k other it. row-so x (unsubscribed_all h x) g k it refl (all-freed-there (is_to h) x.subscriptions g it.d it.there (is-other it.d k it.to other)) }

  off-over : (c : Handle) (x : Client) → LastsOff h x (all_over c h x)
  off-over c x = record {
    forth = λ g k other it.
        row-so x (all_over c h x) g k it refl
        (all-there (monitor.over_on c h) x.subscriptions g it.d it.there
        ∙ ap (λ (b : Bool). Some (cond b (record it.d { stage = monitor.stage_over c (it.d).stage }) it.d)) (is-other it.d k it.to other));
  }

  off-stood : (s : Standing) (x : Client) → LastsOff h x (with_standing s h x)
  off-stood s x = record { forth = λ g k other it. channel-so x (with_standing s h x) g k it refl it.ch (changed-other (λ (w : Channel). record w { standing = s }) x.channels k h it.ch it.on other) it.uncleared }

  off-gone : (x : Client) → LastsOff h x (without_channel x h)
  off-gone x = record { forth = λ g k other it. channel-so x (without_channel x h) g k it refl it.ch (freed-other x.channels k h it.ch it.on other) it.uncleared }

  off-spent : (c : Handle) (x : Client) → LastsOff h x (with_standing (On c Clearing) h (all_over c h x))
  off-spent c x = (let z : Client = all_over c h x in off-then h x z (with_standing (On c Clearing) h z) (off-over c x) (off-stood (On c Clearing) z))

  lasts-unwanted : (c : Handle) (x : Client) → Lasts x (unwanted c x)
  lasts-unwanted c x = go (length (channels_on (λ (p : Phase). true) c x) == 0) (under x.circuits c)
    where
      go : (b : Bool) (o : Option ClientCircuit) → Lasts x (cond b (unwrap_or (option_map (λ (d : ClientCircuit). let_go c d x) o) x) x)
      go true (Some d) = lasts-let-go c d x
      go true None = lasts-itself x
      go false o = lasts-itself x

  off-cleared : (s : Standing) (x : Client) → LastsOff h x (cleared h s x)
  off-cleared Searching x = (let y : Client = unsubscribed_all h x in off-then h x y (without_channel y h) (off-none-left x) (off-gone y))
  off-cleared (On c Connecting) x =
      let y : Client = unsubscribed_all h x in
      let v : Client = without_channel y h in
      off-then h x v (unwanted c v) (off-then h x y v (off-none-left x) (off-gone y)) (off-lasts h v (unwanted c v) (lasts-unwanted c v))
  off-cleared (On c (Creating rights)) x = (let y : Client = unsubscribed_all h x in off-then h x y (with_standing (On c Doomed) h y) (off-none-left x) (off-stood (On c Doomed) y))
  off-cleared (On c (Live native rights)) x = off-spent c x
  off-cleared (On c Leaving) x = off-spent c x
  off-cleared (On c Clearing) x = off-spent c x
  off-cleared (On c Doomed) x = off-spent c x

  pub lasts-cleared : (s : Standing) (x : Client) → LastsOff h x (sending (clearing_sent h s) (cleared h s x))
  lasts-cleared s x = off-then h x (cleared h s x) (sending (clearing_sent h s) (cleared h s x)) (off-cleared s x) (off-lasts h (cleared h s x) (sending (clearing_sent h s) (cleared h s x)) (lasts-sending (clearing_sent h s) (cleared h s x)))

-- a subscription is made: it stands, and the others last
pub lasts-subscribed : (x : Client) (h : Handle) (a : Shape) (mask : ℕ) (q : Handle) (sent : List Sending) (y : Client)
    → ClientSubscribes x h a mask (Ok q) sent y → Lasts x y × IsKept y q h
lasts-subscribed x h a mask q sent y subscribes =
    let out : Lasts z (sending (s ∷ []) z) = lasts-sending (s ∷ []) z in
    subst (λ (v : Client). Lasts x v × IsKept v q h) (sym subscribes.4.1) (lasts-then x z (sending (s ∷ []) z) old out, out.forth q h made)
  where
    l : LiveChannel
    l = subscribes.0

    d : Subscription
    d = new_subscription h a mask

    s : Sending
    s = event_add_sent l.circuit l.native.sid q d

    z : Client
    z = record x { subscriptions = with_held q d x.subscriptions }

    old : Lasts x z
    old = lasts-rows x z refl (λ g e is it. held-other x.subscriptions g q d e subscribes.3 is)

    made : IsKept z q h
    made =
        let ch = found-standing x h (On l.circuit (Live l.native l.rights)) subscribes.1 in
        record { d = d; there = held-own x.subscriptions q d subscribes.3; stands = refl; to = refl; ch = ch.0; on = ch.1; uncleared = ap is_gone ch.2 }

-- ---- circuits are connected, and bytes come

lasts-begun : (c : Handle) (x : Client) → Lasts x (begun c x)
lasts-begun c x = lasts-channels x (begun c x) refl (λ h ch is was. (creating c ch, all-there (creating c) x.channels h ch is, go ch (is_on_in is_connecting c ch) was))
  where
    go : (ch : Channel) (b : Bool) → is_gone ch.standing ≡ false → is_gone (cond b (record ch { standing = On c (Creating 0) }) ch).standing ≡ false
    go ch true was = refl
    go ch false was = was

pub lasts-connected : (x : Client) (c : Handle) (d : ClientCircuit) (k : Option Closing) (sent : List Sending) (y : Client)
    → ConnectsOn x c (Some d) k sent y → Lasts x y
lasts-connected x c d None sent y does =
    let z : Client = begun c x in
    subst (λ (v : Client). Lasts x v) (sym does.1) (lasts-then x z (sending (set_up x.peer c d ++ creations c x) z) (lasts-begun c x) (lasts-sending (set_up x.peer c d ++ creations c x) z))
lasts-connected x c d (Some k) sent y does = subst (λ (v : Client). Lasts x v) (sym does.2) (lasts-ended c x)

pub lasts-given : (x : Client) (c : Handle) (bytes : List ℕ) (more : Bool) (o : Option Connection) (sent : List Sending) (y : Client)
    → GivesOn x c bytes more o (Ok tt) sent y → Lasts x y
lasts-given x c bytes more (Some e) sent y gives =
    let z : Client = given c bytes more x in
    subst (λ (v : Client). Lasts x v) (sym gives.1) (lasts-then x z (sending (flow_sent c more e) z) (lasts-same x z refl refl) (lasts-sending (flow_sent c more e) z))
lasts-given x c bytes more None sent y gives = absurd gives

pub lasts-handed : (c : Handle) (k : ℕ) (x : Client) → Lasts x (handed_over c k x)
lasts-handed c k x = go (is_some (connection_at x c))
  where
    go : (b : Bool) → Lasts x (cond b (on_connection (λ (e : Connection). record e { link = with_handed k e.link }) c x) x)
    go true = lasts-same x (on_connection (λ (e : Connection). record e { link = with_handed k e.link }) c x) refl refl
    go false = lasts-itself x

-- ---- a moment

ticks-one : (x : Client) (t : Ticking) (c : Handle) → Lasts x t.core → Lasts x (ticks t c).core
ticks-one x t c m = go (connection_at t.core c)
  where
    by : (k : Keep) → Lasts x (ticks_as k c t).core
    by Idle = m
    by Close = lasts-then x t.core (ended c t.core) m (lasts-ended c t.core)
    by Echo =
        let noted : Client = on_connection (λ (e : Connection). record e { link = record e.link { echoed = true } }) c t.core in
        lasts-then x noted (sending (of_circuit c (header_only command.Echo) ∷ []) noted) (lasts-then x t.core noted m (lasts-same t.core noted refl refl)) (lasts-sending (of_circuit c (header_only command.Echo) ∷ []) noted)

    go : (o : Option Connection) → Lasts x (unwrap_or (option_map (λ (e : Connection). ticks_as (kept t.core.moment e.link) c t) o) t).core
    go None = m
    go (Some e) = by (kept t.core.moment e.link)

ticks-all : (x : Client) (order : List Handle) (t : Ticking) → Lasts x t.core → Lasts x (fold ticks t order).core
ticks-all x [] t m = m
ticks-all x (c ∷ order) t m = ticks-all x order (ticks t c) (ticks-one x t c m)

module _ (x : Client) where
  searched-one : (c : Handle) (t : Ticking) (w : search.Wanted) → Lasts x t.core → Lasts x (searches_on c t w).core
  searched-one c t w m = go (is_over t.core c)
    where
      go : (b : Bool) → Lasts x (cond b t (with_sending (of_circuit c (search_request w.cid w.name)) t)).core
      go true = m
      go false = lasts-then x t.core (sending (of_circuit c (search_request w.cid w.name) ∷ []) t.core) m (lasts-sending (of_circuit c (search_request w.cid w.name) ∷ []) t.core)

  searched-each : (c : Handle) (ws : List search.Wanted) (t : Ticking) → Lasts x t.core → Lasts x (fold (searches_on c) t ws).core
  searched-each c [] t m = m
  searched-each c (w ∷ ws) t m = searched-each c ws (searches_on c t w) (searched-one c t w m)

  searched-all : (ws : List search.Wanted) (cs : List Handle) (t : Ticking) → Lasts x t.core → Lasts x (fold (all_searched_on ws) t cs).core
  searched-all ws [] t m = m
  searched-all ws (c ∷ cs) t m = searched-all ws cs (all_searched_on ws t c) (searched-each c ws t m)

pub lasts-ticked : (moment : ℕ) (x : Client) → (let t : Ticking = circuits_ticked moment x in Lasts x (searches_made t).core)
lasts-ticked moment x =
    let y : Client = record x { moment = later moment x } in
    let first : Ticking = record { core = y; sent = []; notices = []; closings = [] } in
    let t : Ticking = circuits_ticked moment x in
    let u : Ticking = fold (all_searched_on (due t.core)) t (filter (is_name_connected t.core) t.core.order) in
    lasts-then x u.core (searches_made t).core (searched-all x (due t.core) (filter (is_name_connected t.core) t.core.order) t (ticks-all x x.order first (lasts-same x y refl refl)))
    (lasts-same u.core (searches_made t).core refl refl)
