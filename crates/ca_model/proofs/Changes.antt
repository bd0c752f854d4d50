-- What a client's calls, and the messages that it reads, keep of its channels' places.
use Rattle.std.proofs.Common.{◌≡◌, ℕ, List, inl, inr, ◌⊎◌, Bool, true, false, cond, Option, Some, None, refl, sym, ap, ◌∙◌, subst}
use Rattle.std.specs.Prelude.{Ok, is_none, is_some, option_map, unwrap_or}
use Rattle.std.proofs.lemmas.Bool.{both_ways}
use Rattle.ca_arena.specs.declared.handle.Handle.{Handle}
use Rattle.ca_ids.specs.Table.{MayGive, same_handle, under, with_freed, with_held}
use Rattle.ca_link.specs.Link.{with_handed}
use Rattle.ca_requests.specs.Calls.{new_request}
use Rattle.ca_monitor.specs.Subscriptions.{Stage, Stands, Cancelled, Ended, Subscription, drains_in, is_to, stage_over, with_stage}
use Rattle.ca_monitor.specs.Subscriptions as monitor
use Rattle.ca_requests.specs.Requests.{Asked, Request, asks_on}
use Rattle.ca_requests.specs.Requests as request
use Rattle.ca_model.specs.Client.{Channel, Client, Clearing, Connecting, Connection, Creating, Doomed, Leaving, Live, On, Phase, Searching, Standing, connection_at, is_on_in, on_connection, standing_at, with_requests, with_standing, without_channel}
use Rattle.ca_model.specs.Answers.{Sending}
use Rattle.ca_model.specs.Client as phase
use Rattle.ca_model.specs.ClientCalls.{IsLive, LiveChannel, Opening, Shape, StandsAs, all_over, cleared, issued, new_subscription, opened, unsubscribed, unsubscribed_all, unwanted}
use Rattle.ca_model.specs.ClientEnds.{GivesOn, flow_sent, given, handed_over, is_connecting}
use Rattle.ca_model.specs.Placed.{WasLive, was_live}
use Rattle.ca_model.proofs.Standings.{found-standing, is-on}
use Rattle.ca_model.proofs.Handles.{same-is}
use Rattle.ca_model.proofs.Standings.{fails-anywhere, fails-searched}
use Rattle.ca_model.proofs.Tables.{all-back, all-freed-back, changed-back, freed-back, held-back, held-other, one-value}
use Rattle.ca_model.specs.Placed.{IsPlaced}
use Rattle.ca_model.proofs.Standings.{never-cleared, stands-as}
use Rattle.ca_model.proofs.Letting.{keeps-unwanted}
use Rattle.ca_model.proofs.Placed.{Keeps, header_only-never, keeps-gone, keeps-itself, keeps-on, keeps-requests, keeps-sending, keeps-stood, keeps-subscriptions, keeps-then, stands-in-test}
use Rattle.ca_model.proofs.Thinner.{thin-all, thin-all-freed, thin-changed, thin-freed, thin-itself}

pub on-handle : (c d : Handle) (q r : Phase) → On c q ≡ On d r → c ≡ d
on-handle c d q r e = cc

pub on-phase : (c d : Handle) (q r : Phase) → On c q ≡ On d r → q ≡ r
on-phase c d q r e = cc

-- a channel goes from one phase to another on its circuit
pub keeps-phase : (c h : Handle) (x : Client) (ch : Channel) (p q : Phase) → under x.channels h ≡ Some ch → ch.standing ≡ On c p → is_connecting p ≡ is_connecting q → (was_live p ≡ true → was_live q ≡ true) → Keeps x (with_standing (On c q) h x)
keeps-phase c h x ch p q there stands waits lives = keeps-stood (On c q) h x (λ placed w is.
    let same : w ≡ ch = one-value x.channels h w ch is there in (
      (λ on pass. go on (same_handle c on) (subst (λ (s : Standing). stands-in-test was_live on s ≡ true) (ap (λ (z : Channel). z.standing) same ∙ stands) pass)),
      (λ d r e.
          let at : c ≡ d = on-handle c d q r e in
          sym (ap is_connecting (on-phase c d q r e)) ∙ sym waits ∙ placed.waiting h ch c p there stands ∙ ap (λ (k : Handle). is_none (connection_at x k)) at),
    ))
  where
    go : (on : Handle) (b : Bool) → unwrap_or (option_map was_live (cond b (Some p) None)) false ≡ true → unwrap_or (option_map was_live (cond b (Some q) None)) false ≡ true
    go on true f = lives f
    go on false f = f

-- what plays no part here
pub keeps-searches : (x : Client) (searches : _) → Keeps x (record x { searches = searches })
keeps-searches x searches = record {
  thins = record { channels = thin-itself x.channels; requests = thin-itself x.requests; subscriptions = thin-itself x.subscriptions };
  placed = λ p. record { attached = record { requests = p.attached.requests; subscriptions = p.attached.subscriptions }; waiting = p.waiting };
  links = λ c. refl;
}

-- ---- clear

pub unsubscribed-keeps : (h : Handle) (x : Client) → Keeps x (unsubscribed_all h x)
unsubscribed-keeps h x =
    keeps-subscriptions (monitor.channel_gone h x.subscriptions) x (thin-all-freed (is_to h) x.subscriptions) (λ p g d on is drains. inl (d, (all-freed-back (is_to h) x.subscriptions g d is).0, refl, drains))

-- a channel that was never live is gone
gone-never : (h : Handle) (x : Client) → ((ch : Channel) (on : Handle) → under x.channels h ≡ Some ch → is_on_in was_live on ch ≡ false) → Keeps x (without_channel (unsubscribed_all h x) h)
gone-never h x never =
    let y : Client = unsubscribed_all h x in
    keeps-then x y (without_channel y h) (unsubscribed-keeps h x) (keeps-gone h y (λ p. header_only-never h y p never))

pub over-requests : (h : Handle) (x : Client) → Keeps x (with_requests (request.channel_over h x.requests) x)
over-requests h x = keeps-requests (request.channel_over h x.requests) x (thin-all (request.over_on h) x.requests) (λ q r is.
    let was = all-back (request.over_on h) x.requests q r is in (was.0, was.1, channel_is was.0 r was.2, circuit_is was.0 r was.2))
  where
    channel_is : (s r : Request) → r ≡ request.over_on h s → r.channel ≡ s.channel
    channel_is s r e = ap (λ (z : Request). z.channel) e ∙ go (asks_on h s)
      where
        go : (b : Bool) → (cond b (record s { stage = request.Draining }) s).channel ≡ s.channel
        go true = refl
        go false = refl

    circuit_is : (s r : Request) → r ≡ request.over_on h s → r.circuit ≡ s.circuit
    circuit_is s r e = ap (λ (z : Request). z.circuit) e ∙ go (asks_on h s)
      where
        go : (b : Bool) → (cond b (record s { stage = request.Draining }) s).circuit ≡ s.circuit
        go true = refl
        go false = refl

-- ids of a channel's subscriptions drain where it was live
over-subscriptions : (c h : Handle) (x : Client) → WasLive x h c → Keeps x (record x { subscriptions = monitor.channel_over c h x.subscriptions })
over-subscriptions c h x live = keeps-subscriptions (monitor.channel_over c h x.subscriptions) x (thin-all (monitor.over_on c h) x.subscriptions) (λ p g d on is drains.
    let was = all-back (monitor.over_on c h) x.subscriptions g d is in go was.0 d on g was.1 was.2 drains)
  where
    go : (s d : Subscription) (on g : Handle) → under x.subscriptions g ≡ Some s → d ≡ monitor.over_on c h s → drains_in on d.stage ≡ true
        → ((s : Subscription) × (under x.subscriptions g ≡ Some s) × (d.channel ≡ s.channel) × (drains_in on s.stage ≡ true)) ⊎ WasLive x d.channel on
    go s d on g there is drains = by (is_to h s) refl (ap (λ (z : Subscription). z.channel) is) (sym (ap (λ (z : Subscription). drains_in on z.stage) is) ∙ drains)
      where
        stage : (t : Stage) → s.stage ≡ t → is_to h s ≡ true → d.channel ≡ s.channel → drains_in on (stage_over c t) ≡ true
            → ((s : Subscription) × (under x.subscriptions g ≡ Some s) × (d.channel ≡ s.channel) × (drains_in on s.stage ≡ true)) ⊎ WasLive x d.channel on
        stage Stands at to channel f =
            inr (subst (λ (k : Handle × Handle). WasLive x k.0 k.1) (λ i. (sym (channel ∙ same-is s.channel h to) i, same-is c on f i)) live)
        stage (Cancelled k) at to channel f = inl (s, there, channel, ap (drains_in on) at ∙ f)
        stage (Ended k) at to channel f = inl (s, there, channel, ap (drains_in on) at ∙ f)

        by : (b : Bool) → is_to h s ≡ b → d.channel ≡ (cond b (record s { stage = stage_over c s.stage }) s).channel → drains_in on (cond b (record s { stage = stage_over c s.stage }) s).stage ≡ true
            → ((s : Subscription) × (under x.subscriptions g ≡ Some s) × (d.channel ≡ s.channel) × (drains_in on s.stage ≡ true)) ⊎ WasLive x d.channel on
        by true to channel f = stage s.stage refl to channel f
        by false to channel f = inl (s, there, channel, f)

pub over-keeps : (c h : Handle) (x : Client) → WasLive x h c → Keeps x (all_over c h x)
over-keeps c h x live =
    let y : Client = record x { subscriptions = monitor.channel_over c h x.subscriptions } in
    keeps-then x y (all_over c h x) (over-subscriptions c h x live) (over-requests h y)

pub keeps-cleared : (h : Handle) (s : Standing) (x : Client) → IsPlaced x → standing_at x h ≡ Some s → Keeps x (cleared h s x)
keeps-cleared h s x placed at = by s refl (found-standing x h s at)
  where
    never_on : (ch w : Channel) (on : Handle) → under x.channels h ≡ Some ch → under x.channels h ≡ Some w → is_on_in was_live on ch ≡ false → is_on_in was_live on w ≡ false
    never_on ch w on there is none = subst (λ (z : Channel). is_on_in was_live on z ≡ false) (one-value x.channels h ch w there is) none

    live : (c : Handle) (p : Phase) (ch : Channel) → under x.channels h ≡ Some ch → ch.standing ≡ On c p → was_live p ≡ true → WasLive x h c
    live c p ch there stands is = (ch, there, is-on was_live c ch p stands ∙ is)

    after : (c : Handle) (p : Phase) (ch : Channel) → under x.channels h ≡ Some ch → ch.standing ≡ On c p → was_live p ≡ true → is_connecting p ≡ false → Keeps x (with_standing (On c Clearing) h (all_over c h x))
    after c p ch there stands is waits =
        let y : Client = all_over c h x in
        keeps-then x y (with_standing (On c Clearing) h y) (over-keeps c h x (live c p ch there stands is)) (keeps-phase c h y ch p Clearing there stands waits (λ e. refl))

    by : (t : Standing) → t ≡ s → (ch : Channel) × (under x.channels h ≡ Some ch) × (ch.standing ≡ t) → Keeps x (cleared h t x)
    by Searching is found = gone-never h x (λ w on there. never_on found.0 w on found.1 there (fails-searched was_live on found.0 found.2))
    by (On c Connecting) is found =
        let y : Client = unsubscribed_all h x in
        let z : Client = without_channel y h in
        keeps-then x z (unwanted c z)
        (gone-never h x (λ w on there. never_on found.0 w on found.1 there (fails-anywhere was_live on c found.0 Connecting found.2 refl)))
        (keeps-unwanted c z (sym (placed.waiting h found.0 c Connecting found.1 found.2)))
    by (On c (Creating rights)) is found =
        let y : Client = unsubscribed_all h x in
        keeps-then x y (with_standing (On c Doomed) h y) (unsubscribed-keeps h x) (keeps-phase c h y found.0 (Creating rights) Doomed found.1 found.2 refl (λ e. e))
    by (On c (Live n rights)) is found = after c (Live n rights) found.0 found.1 found.2 refl refl
    by (On c Leaving) is found = after c Leaving found.0 found.1 found.2 refl refl
    by (On c Clearing) is found = after c Clearing found.0 found.1 found.2 refl refl
    by (On c Doomed) is found = absurd (both_ways true (never-cleared x h c Doomed (at ∙ ap (λ (z : Standing). Some z) (sym is))) refl)

-- ---- unsubscribe

-- an id drains where its channel was live
pub keeps-staged : (stage : Stage) (c g : Handle) (x : Client) (d : Subscription) → ((on : Handle) → drains_in on stage ≡ same_handle c on) → under x.subscriptions g ≡ Some d → WasLive x d.channel c → Keeps x (record x { subscriptions = with_stage stage g x.subscriptions })
keeps-staged stage c g x d only there live = keeps-subscriptions (with_stage stage g x.subscriptions) x (thin-changed f g x.subscriptions) (λ p k w on is drains. elim (changed-back f x.subscriptions k g w is) [
  | inr old ↦ inl (w, old.1, refl, drains)
  | inl own ↦
      let same : own.1.0 ≡ d = one-value x.subscriptions g own.1.0 d own.1.1 there in
      let channel : w.channel ≡ d.channel = ap (λ (z : Subscription). z.channel) own.1.2 ∙ ap (λ (z : Subscription). z.channel) same in
      let at : c ≡ on = same-is c on (sym (only on) ∙ sym (ap (λ (z : Subscription). drains_in on z.stage) own.1.2) ∙ drains) in
      inr (subst (λ (k : Handle × Handle). WasLive x k.0 k.1) (λ i. (sym channel i, at i)) live)
])
  where
    f : Subscription → Subscription
    f s = record s { stage = stage }

pub freed-keeps : (g : Handle) (x : Client) → Keeps x (record x { subscriptions = with_freed g x.subscriptions })
freed-keeps g x = keeps-subscriptions (with_freed g x.subscriptions) x (thin-freed g x.subscriptions) (λ p k w on is drains. inl (w, (freed-back x.subscriptions k g w is).1, refl, drains))

pub keeps-unsubscribed : (g : Handle) (x : Client) (d : Subscription) → StandsAs x g d → Keeps x (unsubscribed g (standing_at x d.channel) x)
keeps-unsubscribed g x d stands = by (standing_at x d.channel) refl
  where
    live : (c : Handle) (p : Phase) → standing_at x d.channel ≡ Some (On c p) → was_live p ≡ true → WasLive x d.channel c
    live c p at is = (let found = found-standing x d.channel (On c p) at in (found.0, found.1, is-on was_live c found.0 p found.2 ∙ is))

    there : under x.subscriptions g ≡ Some d
    there = (stands-as x g d stands).0

    by : (o : Option Standing) → standing_at x d.channel ≡ o → Keeps x (unsubscribed g o x)
    by None at = freed-keeps g x
    by (Some Searching) at = freed-keeps g x
    by (Some (On c Connecting)) at = freed-keeps g x
    by (Some (On c (Creating rights))) at = freed-keeps g x
    by (Some (On c Clearing)) at = freed-keeps g x
    by (Some (On c Doomed)) at = freed-keeps g x
    by (Some (On c Leaving)) at = keeps-staged (Ended c) c g x d (λ on. refl) there (live c Leaving at refl)
    by (Some (On c (Live n rights))) at = keeps-staged (Cancelled c) c g x d (λ on. refl) there (live c (Live n rights) at refl)

-- ---- open, and what asks and gives

pub placed-opened : (a : Opening) (h : Handle) (x : Client) → MayGive x.channels h → IsPlaced x → IsPlaced (opened a h x)
placed-opened a h x may p = record {
  attached = record {
    requests = λ q r is. still r.channel r.circuit (p.attached.requests q r is);
    subscriptions = λ g d on is drains. still d.channel on (p.attached.subscriptions g d on is drains);
  };
  waiting = λ g ch c q is stands. elim (held-back x.channels g h new ch is) [
    | inl own ↦ absurd (nowhere c q (sym (ap (λ (z : Channel). z.standing) own.1) ∙ stands))
    | inr old ↦ p.waiting g ch c q old stands
  ];
}
  where
    new : Channel
    new = record { name = a.name; priority = a.priority; standing = Searching }

    nowhere : (c : Handle) (q : Phase) → Searching ≡ On c q → ⊥
    nowhere c q e = cc

    still : (channel on : Handle) → WasLive x channel on → WasLive (opened a h x) channel on
    still channel on was = (was.0, held-other x.channels channel h new was.0 may was.1, was.2)

-- a channel is live where its call goes
pub live-there : (x : Client) (h : Handle) (l : LiveChannel) → IsLive x h l → WasLive x h l.circuit
live-there x h l live =
    let found = found-standing x h (On l.circuit (phase.Live l.native l.rights)) live in
    (found.0, found.1, is-on was_live l.circuit found.0 (phase.Live l.native l.rights) found.2)

pub placed-issued : (x : Client) (h : Handle) (l : LiveChannel) (asked : Asked) (q : Handle) → IsLive x h l → IsPlaced x → IsPlaced (issued h l asked q x)
placed-issued x h l asked q live p =
    let new : Request = new_request h l.circuit asked in
    record {
      attached = record {
        requests = λ g r is. elim (held-back x.requests g q new r is) [
          | inl own ↦ subst (λ (z : Request). WasLive x z.channel z.circuit) (sym own.1) (live-there x h l live)
          | inr old ↦ p.attached.requests g r old
        ];
        subscriptions = p.attached.subscriptions;
      };
      waiting = p.waiting;
    }

pub placed-subscribed : (x : Client) (h : Handle) (a : Shape) (mask : ℕ) (q : Handle) → IsPlaced x → IsPlaced (record x { subscriptions = with_held q (new_subscription h a mask) x.subscriptions })
placed-subscribed x h a mask q p = record {
  attached = record {
    requests = p.attached.requests;
    subscriptions = λ g d on is drains. elim (held-back x.subscriptions g q (new_subscription h a mask) d is) [
      | inl own ↦ absurd (both_ways (drains_in on d.stage) (ap (λ (z : Subscription). drains_in on z.stage) own.1) drains)
      | inr old ↦ p.attached.subscriptions g d on old drains
    ];
  };
  waiting = p.waiting;
}

pub handed-keeps : (c : Handle) (n : ℕ) (x : Client) → Keeps x (handed_over c n x)
handed-keeps c n x = go (is_some (connection_at x c))
  where
    go : (b : Bool) → Keeps x (cond b (on_connection (λ (e : Connection). record e { link = with_handed n e.link }) c x) x)
    go true = keeps-on _ c x
    go false = keeps-itself x

pub given-keeps : (x y : Client) (c : Handle) (bytes : List ℕ) (more : Bool) (o : Option Connection) (sent : List Sending) → GivesOn x c bytes more o (Ok tt) sent y → Keeps x y
given-keeps x y c bytes more (Some e) sent does = subst (λ (z : Client). Keeps x z) (sym does.1) (keeps-then x (given c bytes more x) _ (keeps-on _ c x) (keeps-sending (flow_sent c more e) (given c bytes more x)))
given-keeps x y c bytes more None sent does = absurd does
