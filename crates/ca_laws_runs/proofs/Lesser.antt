-- Changes of a client by which nothing is sent: what was sent on each circuit is as its channels,
-- requests and subscriptions still.
use Rattle.std.proofs.Common.{◌≡◌, ℕ, inl, inr, Bool, true, false, ◌&&◌, cond, List, [], ◌∷◌, Option, Some, None, refl, sym, ap, ◌∙◌, subst}
use Rattle.std.specs.Prelude.{◌==◌, fold, length, not, option_map, unwrap_or}
use Rattle.ca_arena.specs.declared.handle.Handle.{Handle}
use Rattle.ca_ids.specs.Table.{Table, under, with_all_freed}
use Rattle.ca_monitor.specs.Subscriptions.{Cancelled, Ended, Stage, Stands, Subscription, drains_in, is_to, stage_over}
use Rattle.ca_monitor.specs.Subscriptions as monitor
use Rattle.ca_requests.specs.Requests.{Request, asks_on, was_sent_on}
use Rattle.ca_requests.specs.Requests as request
use Rattle.ca_model.specs.Answers.{Sending}
use Rattle.ca_model.specs.Client.{Channel, Client, ClientCircuit, Connection, On, Phase, Searching, Standing, channels_ended, channels_on, ended, is_cleared, let_go, on_connection, searched_again, sending, with_one_sent, with_requests, with_standing, without_channel, without_circuit, without_ids}
use Rattle.ca_model.specs.Client as phase
use Rattle.ca_model.specs.ClientCalls.{all_over, unwanted}
use Rattle.ca_model.specs.Hears.{without_drained}
use Rattle.ca_model.specs.History.{Sent}
use Rattle.ca_model.proofs.Tables.{all-back, all-freed-back, changed-back, freed-back}
use Rattle.ca_model.proofs.Thinner.{IsThinner, given-thin, thin-changed, thin-freed, thin-itself, thin-then}
use Rattle.ca_model.specs.ClientEvents.{channel_number, meant_by}
use Rattle.ca_model.specs.World.{Names}
use Rattle.ca_laws_runs.specs.Quiet.{IsRequestOn, IsSubscriptionOn, Quiet, StageIn, StandsIn, Tidy}

-- A channel stands so that what was sent on it is as before; and so a subscription.
abbrev pub StandsLike : (was now : Standing) → Type 0
StandsLike was now = (on : Handle) (up : List Sent) (number : ℕ) → StandsIn on up number was → StandsIn on up number now

abbrev pub StageLike : (was now : Stage) → Type 0
StageLike was now = (on : Handle) (up : List Sent) (number : ℕ) → StageIn on up number was → StageIn on up number now

-- Nothing new holds an id, and what holds one is as it was.
pub record Less (x y : Client) : Type 0 where
  pub thin : IsThinner x.channels y.channels
  pub channels : (h : Handle) (ch : Channel) → under y.channels h ≡ Some ch → (w : Channel) × (under x.channels h ≡ Some w) × StandsLike w.standing ch.standing
  pub requests : (q : Handle) (r : Request) → under y.requests q ≡ Some r → (s : Request) × (under x.requests q ≡ Some s) × (r.channel ≡ s.channel)
  pub subscriptions : (g : Handle) (d : Subscription) → under y.subscriptions g ≡ Some d → (e : Subscription) × (under x.subscriptions g ≡ Some e) × (d.channel ≡ e.channel) × StageLike e.stage d.stage

stands-itself : (s : Standing) → StandsLike s s
stands-itself s on up number i = i

pub same-channels : (t : Table Channel) (h : Handle) (ch : Channel) → under t h ≡ Some ch → (w : Channel) × (under t h ≡ Some w) × StandsLike w.standing ch.standing
same-channels t h ch is = (ch, is, λ on up number i. i)

pub same-requests : (t : Table Request) (q : Handle) (r : Request) → under t q ≡ Some r → (s : Request) × (under t q ≡ Some s) × (r.channel ≡ s.channel)
same-requests t q r is = (r, is, refl)

pub same-subscriptions : (t : Table Subscription) (g : Handle) (d : Subscription) → under t g ≡ Some d → (e : Subscription) × (under t g ≡ Some e) × (d.channel ≡ e.channel) × StageLike e.stage d.stage
same-subscriptions t g d is = (d, is, refl, λ on up number i. i)

pub less-then : (x y z : Client) → Less x y → Less y z → Less x z
less-then x y z a b = record {
  thin = thin-then x.channels y.channels z.channels a.thin b.thin;
  channels = λ h ch is.
      let v = b.channels h ch is in
      let w = a.channels h v.0 v.1 in
      (w.0, w.1, λ on up number i. v.2 on up number (w.2 on up number i));
  requests = λ q r is.
      let v = b.requests q r is in
      let w = a.requests q v.0 v.1 in
      (w.0, w.1, v.2 ∙ w.2);
  subscriptions = λ g d is.
      let v = b.subscriptions g d is in
      let w = a.subscriptions g v.0 v.1 in
      (w.0, w.1, v.2 ∙ w.2, λ on up number i. v.3 on up number (w.3 on up number i));
}

-- ---- one table changes

-- none does
pub less-same : (x y : Client) → y.channels ≡ x.channels → y.requests ≡ x.requests → y.subscriptions ≡ x.subscriptions → Less x y
less-same x y channels requests subscriptions = record {
  thin = subst (λ (t : Table Channel). IsThinner x.channels t) (sym channels) (thin-itself x.channels);
  channels = λ h ch is. same-channels x.channels h ch (subst (λ (t : Table Channel). under t h ≡ Some ch) channels is);
  requests = λ q r is. same-requests x.requests q r (subst (λ (t : Table Request). under t q ≡ Some r) requests is);
  subscriptions = λ g d is. same-subscriptions x.subscriptions g d (subst (λ (t : Table Subscription). under t g ≡ Some d) subscriptions is);
}

pub less-itself : (x : Client) → Less x x
less-itself x = less-same x x refl refl refl

pub less-stood : (s : Standing) (h : Handle) (x : Client) → ((ch : Channel) → under x.channels h ≡ Some ch → StandsLike ch.standing s) → Less x (with_standing s h x)
less-stood s h x like = record {
  thin = thin-changed there h x.channels;
  channels = λ g ch is. elim (changed-back there x.channels g h ch is) [
    | inl own ↦ (
      own.1.0,
      subst (λ (k : Handle). under x.channels k ≡ Some own.1.0) (sym own.0) own.1.1,
      λ on up number i. subst (λ (z : Standing). StandsIn on up number z) (ap (λ (z : Channel). z.standing) (sym own.1.2)) (like own.1.0 own.1.1 on up number i),
    )
    | inr old ↦ same-channels x.channels g ch old.1
  ];
  requests = same-requests x.requests;
  subscriptions = same-subscriptions x.subscriptions;
}
  where
    there : Channel → Channel
    there ch = record ch { standing = s }

nowhere : (c : Handle) (q : Phase) → Searching ≡ On c q → ⊥
nowhere c q e = cc

pub like-searched : (s : Standing) → StandsLike s Searching
like-searched s on up number i p is = absurd (nowhere on p is)

pub less-again : (h : Handle) (x : Client) → Less x (searched_again x h)
less-again h x =
    let y : Client = with_standing Searching h x in
    less-then x y (searched_again x h) (less-stood Searching h x (λ ch is. like-searched ch.standing)) (less-same y (searched_again x h) refl refl refl)

pub less-gone : (h : Handle) (x : Client) → Less x (without_channel x h)
less-gone h x = record {
  thin = thin-freed h x.channels;
  channels = λ g ch is. same-channels x.channels g ch (freed-back x.channels g h ch is).1;
  requests = same-requests x.requests;
  subscriptions = same-subscriptions x.subscriptions;
}

pub less-requests : (t : Table Request) (x : Client) → ((q : Handle) (r : Request) → under t q ≡ Some r → (s : Request) × (under x.requests q ≡ Some s) × (r.channel ≡ s.channel)) → Less x (with_requests t x)
less-requests t x were = record { thin = thin-itself x.channels; channels = same-channels x.channels; requests = were; subscriptions = same-subscriptions x.subscriptions }

pub less-subscriptions : (t : Table Subscription) (x : Client) → ((g : Handle) (d : Subscription) → under t g ≡ Some d → (e : Subscription) × (under x.subscriptions g ≡ Some e) × (d.channel ≡ e.channel) × StageLike e.stage d.stage)
    → Less x (record x { subscriptions = t })
less-subscriptions t x were = record { thin = thin-itself x.channels; channels = same-channels x.channels; requests = same-requests x.requests; subscriptions = were }

-- ---- messages that wait

pub less-on : (f : Connection → Connection) (c : Handle) (x : Client) → Less x (on_connection f c x)
less-on f c x = less-same x (on_connection f c x) refl refl refl

pub less-sending : (sends : List Sending) (x : Client) → Less x (sending sends x)
less-sending [] x = less-itself x
less-sending (s ∷ sends) x = less-then x (with_one_sent x s) (sending sends (with_one_sent x s)) (less-on _ s.circuit x) (less-sending sends (with_one_sent x s))

-- ---- ids that are free, or drain

pub less-freed-all : (frees : Subscription → Bool) (x : Client) → Less x (record x { subscriptions = with_all_freed frees x.subscriptions })
less-freed-all frees x = less-subscriptions _ x (λ g d is. same-subscriptions x.subscriptions g d (all-freed-back frees x.subscriptions g d is).0)

pub less-all-gone : (frees : Request → Bool) (x : Client) → Less x (with_requests (with_all_freed frees x.requests) x)
less-all-gone frees x = less-requests _ x (λ q r is. same-requests x.requests q r (all-freed-back frees x.requests q r is).0)

pub less-over-requests : (h : Handle) (x : Client) → Less x (with_requests (request.channel_over h x.requests) x)
less-over-requests h x = less-requests _ x (λ q r is. (let was = all-back (request.over_on h) x.requests q r is in (was.0, was.1, ap (λ (z : Request). z.channel) was.2 ∙ go was.0 (asks_on h was.0))))
  where
    go : (s : Request) (b : Bool) → (cond b (record s { stage = request.Draining }) s).channel ≡ s.channel
    go s true = refl
    go s false = refl

over-like : (c : Handle) (s : Stage) → StageLike s (stage_over c s)
over-like c Stands on up number i = tt
over-like c (Cancelled o) on up number i = i
over-like c (Ended o) on up number i = i

pub less-over-subscriptions : (c h : Handle) (x : Client) → Less x (record x { subscriptions = monitor.channel_over c h x.subscriptions })
less-over-subscriptions c h x = less-subscriptions _ x (λ g d is.
    let was = all-back (monitor.over_on c h) x.subscriptions g d is in
    let both = go was.0 (is_to h was.0) in (
      was.0,
      was.1,
      ap (λ (z : Subscription). z.channel) was.2 ∙ both.0,
      λ on up number i. subst (λ (z : Subscription). StageIn on up number z.stage) (sym was.2) (both.1 on up number i),
    ))
  where
    go : (s : Subscription) (b : Bool) → (let now : Subscription = cond b (record s { stage = stage_over c s.stage }) s in (now.channel ≡ s.channel) × StageLike s.stage now.stage)
    go s true = (refl, over-like c s.stage)
    go s false = (refl, λ on up number i. i)

pub less-all-over : (c h : Handle) (x : Client) → Less x (all_over c h x)
less-all-over c h x =
    let y : Client = record x { subscriptions = monitor.channel_over c h x.subscriptions } in
    less-then x y (all_over c h x) (less-over-subscriptions c h x) (less-over-requests h y)

pub less-drained : (c h : Handle) (x : Client) → Less x (without_drained c h x)
less-drained c h x =
    let y : Client = record x { subscriptions = monitor.channel_drained c h x.subscriptions } in
    less-then x y (without_drained c h x) (less-freed-all (λ (s : Subscription). is_to h s && drains_in c s.stage) x) (less-all-gone (asks_on h) y)

-- ---- a circuit that is let go, or has ended

pub less-let-go : (c : Handle) (d : ClientCircuit) (x : Client) → Less x (let_go c d x)
less-let-go c d x = go d.is_name
  where
    go : (b : Bool) → Less x (cond b (phase.disconnected c x) (without_circuit c x))
    go true = less-same x (phase.disconnected c x) refl refl refl
    go false = less-same x (without_circuit c x) refl refl refl

less-or-go : (c : Handle) (y x : Client) (o : Option ClientCircuit) → Less y x → Less y (unwrap_or (option_map (λ (d : ClientCircuit). let_go c d x) o) x)
less-or-go c y x (Some d) less = less-then y x (let_go c d x) less (less-let-go c d x)
less-or-go c y x None less = less

pub less-unwanted : (c : Handle) (x : Client) → Less x (unwanted c x)
less-unwanted c x = go (length (channels_on (λ (p : Phase). true) c x) == 0)
  where
    go : (b : Bool) → Less x (cond b (unwrap_or (option_map (λ (d : ClientCircuit). let_go c d x) (under x.circuits c)) x) x)
    go true = less-or-go c x x (under x.circuits c) (less-itself x)
    go false = less-itself x

less-fold : (f : Client → Handle → Client) → ((y : Client) (h : Handle) → Less y (f y h)) → (hs : List Handle) (y : Client) → Less y (fold f y hs)
less-fold f one [] y = less-itself y
less-fold f one (h ∷ hs) y = less-then y (f y h) (fold f y (h ∷ hs)) (one y h) (less-fold f one hs (f y h))

pub less-channels-ended : (c : Handle) (x : Client) → Less x (channels_ended c x)
less-channels-ended c x =
    let mid : Client = fold without_channel x (channels_on is_cleared c x) in
    less-then x mid (channels_ended c x)
    (less-fold without_channel (λ y h. less-gone h y) (channels_on is_cleared c x) x)
    (less-fold searched_again (λ y h. less-again h y) (channels_on (λ (p : Phase). not (is_cleared p)) c x) mid)

pub less-ended : (c : Handle) (x : Client) → Less x (ended c x)
less-ended c x = go (under x.circuits c)
  where
    y : Client
    y = record x { subscriptions = monitor.circuit_gone c x.subscriptions }

    ids : Less x (without_ids c x)
    ids = less-then x y (without_ids c x) (less-freed-all (λ (s : Subscription). drains_in c s.stage) x) (less-all-gone (was_sent_on c) y)

    z : Client
    z = channels_ended c (without_ids c x)

    go : (o : Option ClientCircuit) → Less x (unwrap_or (option_map (λ (d : ClientCircuit). let_go c d (channels_ended c (without_ids c x))) o) x)
    go (Some d) = less-then x (without_ids c x) (let_go c d z) ids (less-then (without_ids c x) z (let_go c d z) (less-channels-ended c (without_ids c x)) (less-let-go c d z))
    go None = less-itself x

-- ---- what that keeps

pub tidy-less : (n : Names) (x y : Client) → Less x y → Tidy n x → Tidy n y
tidy-less n x y less t = record {
  numbered = λ h ch is. (let w = less.channels h ch is in t.numbered h w.0 w.1);
  given = λ i h at. given-thin x.channels y.channels h less.thin (t.given i h at);
  once = t.once;
  asked = t.asked;
  subscribed = t.subscribed;
  requests = λ q r is. (let w = less.requests q r is in subst (λ (k : Handle). IsRequestOn n k (meant_by n.requests q)) (sym w.2) (t.requests q w.0 w.1));
  subscriptions = λ g d is. (let w = less.subscriptions g d is in subst (λ (k : Handle). IsSubscriptionOn n k (meant_by n.subscriptions g)) (sym w.2) (t.subscriptions g w.0 w.1));
}

pub quiet-less : (n : Names) (x y : Client) (on : Handle) (up : List Sent) → Less x y → Quiet n x on up → Quiet n y on up
quiet-less n x y on up less q = record {
  named = q.named;
  ids = q.ids;
  channels = λ h ch is. (let w = less.channels h ch is in w.2 on up (channel_number n h) (q.channels h w.0 w.1));
  subscriptions = λ g d a number is meant. (let w = less.subscriptions g d is in w.3 on up number (q.subscriptions g w.0 a number w.1 meant));
}
