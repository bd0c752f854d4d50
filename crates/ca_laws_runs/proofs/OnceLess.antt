-- Changes of a client after which no channel is held that was not, and no subscription
-- stands that did not.
use Rattle.std.proofs.Common.{◌≡◌, ℕ, suc, inl, inr, Bool, true, false, ◌&&◌, cond, List, [], ◌∷◌, Option, Some, None, refl, sym, ap, ◌∙◌, subst}
use Rattle.std.specs.Prelude.{◌==◌, fold, length, not, option_map, unwrap_or}
use Rattle.std.proofs.lemmas.Bool.{both_ways}
use Rattle.ca_text.specs.Place.{At}
use Rattle.ca_arena.specs.declared.handle.Handle.{Handle}
use Rattle.ca_ids.specs.Table.{Table, same_handle, under, with_all_freed, with_freed}
use Rattle.ca_monitor.specs.Subscriptions.{Cancelled, Ended, Stage, Stands, Subscription, drains_in, is_to, stage_over, stands_in, with_stage}
use Rattle.ca_monitor.specs.Subscriptions as monitor
use Rattle.ca_requests.specs.Requests.{Request}
use Rattle.ca_requests.specs.Requests as request
use Rattle.ca_model.specs.Answers.{Sending}
use Rattle.ca_model.specs.Client.{Channel, Client, ClientCircuit, Connection, On, Phase, Searching, Standing, channels_ended, channels_on, ended, is_cleared, is_on_in, let_go, on_connection, phase_on, searched_again, sending, with_one_sent, with_requests, with_standing, without_channel, without_circuit, without_ids}
use Rattle.ca_model.specs.Client as phase
use Rattle.ca_model.specs.ClientCalls.{all_over, unwanted}
use Rattle.ca_model.specs.Hears.{without_drained}
use Rattle.ca_model.proofs.Standings.{on-circuit}
use Rattle.ca_model.proofs.Tables.{all-back, all-freed-back, changed-back, freed-back, one-value}

-- its caller cleared the channel that stands so
abbrev pub is_gone : Standing → Bool
is_gone Searching = false
is_gone (On c p) = is_cleared p

-- A channel that is held now was held before; and so a subscription that stands.
abbrev pub StandsLike : (was now : Standing) → Type 0
StandsLike was now = is_gone now ≡ false → is_gone was ≡ false

abbrev pub StageLike : (was now : Stage) → Type 0
StageLike was now = stands_in now ≡ true → stands_in was ≡ true

-- A subscription is for the same type, count and mask.
abbrev pub AsksAlike : (was now : Subscription) → Type 0
AsksAlike was now = (now.data_type ≡ was.data_type) × (now.count ≡ was.count) × (now.mask ≡ was.mask)

-- Nothing new is held, and each subscription is for the same.
pub record Less (x y : Client) : Type 0 where
  pub channels : (h : Handle) (ch : Channel) → under y.channels h ≡ Some ch → (w : Channel) × (under x.channels h ≡ Some w) × StandsLike w.standing ch.standing
  pub subscriptions : (g : Handle) (d : Subscription) → under y.subscriptions g ≡ Some d → (e : Subscription) × (under x.subscriptions g ≡ Some e) × StageLike e.stage d.stage × AsksAlike e d

pub same-channels : (t : Table Channel) (h : Handle) (ch : Channel) → under t h ≡ Some ch → (w : Channel) × (under t h ≡ Some w) × StandsLike w.standing ch.standing
same-channels t h ch is = (ch, is, λ i. i)

pub same-subscriptions : (t : Table Subscription) (g : Handle) (d : Subscription) → under t g ≡ Some d → (e : Subscription) × (under t g ≡ Some e) × StageLike e.stage d.stage × AsksAlike e d
same-subscriptions t g d is = (d, is, λ i. i, (refl, refl, refl))

pub less-then : (x y z : Client) → Less x y → Less y z → Less x z
less-then x y z a b = record {
  channels = λ h ch is.
      let v = b.channels h ch is in
      let w = a.channels h v.0 v.1 in
      (w.0, w.1, λ i. w.2 (v.2 i));
  subscriptions = λ g d is.
      let v = b.subscriptions g d is in
      let w = a.subscriptions g v.0 v.1 in
      (w.0, w.1, λ i. w.2 (v.2 i), (v.3.0 ∙ w.3.0, v.3.1 ∙ w.3.1, v.3.2 ∙ w.3.2));
}

-- ---- one table changes

-- none does
pub less-same : (x y : Client) → y.channels ≡ x.channels → y.subscriptions ≡ x.subscriptions → Less x y
less-same x y channels subscriptions = record {
  channels = λ h ch is. same-channels x.channels h ch (subst (λ (t : Table Channel). under t h ≡ Some ch) channels is);
  subscriptions = λ g d is. same-subscriptions x.subscriptions g d (subst (λ (t : Table Subscription). under t g ≡ Some d) subscriptions is);
}

pub less-itself : (x : Client) → Less x x
less-itself x = less-same x x refl refl

pub less-stood : (s : Standing) (h : Handle) (x : Client) → ((ch : Channel) → under x.channels h ≡ Some ch → StandsLike ch.standing s) → Less x (with_standing s h x)
less-stood s h x like = record {
  channels = λ g ch is. elim (changed-back there x.channels g h ch is) [
    | inl own ↦ (
      own.1.0,
      subst (λ (k : Handle). under x.channels k ≡ Some own.1.0) (sym own.0) own.1.1,
      λ i. like own.1.0 own.1.1 (ap (λ (z : Channel). is_gone z.standing) (sym own.1.2) ∙ i),
    )
    | inr old ↦ same-channels x.channels g ch old.1
  ];
  subscriptions = same-subscriptions x.subscriptions;
}
  where
    there : Channel → Channel
    there ch = record ch { standing = s }

-- of a channel that stood so
pub less-phase : (s : Standing) (h : Handle) (x : Client) (ch : Channel) (was : Standing) → under x.channels h ≡ Some ch → ch.standing ≡ was → StandsLike was s → Less x (with_standing s h x)
less-phase s h x ch was there stands like =
    less-stood s h x (λ w is i. ap is_gone (ap (λ (z : Channel). z.standing) (one-value x.channels h w ch is there) ∙ stands) ∙ like i)

-- a channel is searched for again that was not cleared
pub less-again : (h : Handle) (x : Client) → ((ch : Channel) → under x.channels h ≡ Some ch → is_gone ch.standing ≡ false) → Less x (searched_again x h)
less-again h x held =
    let y : Client = with_standing Searching h x in
    less-then x y (searched_again x h) (less-stood Searching h x (λ ch is i. held ch is)) (less-same y (searched_again x h) refl refl)

pub less-gone : (h : Handle) (x : Client) → Less x (without_channel x h)
less-gone h x = record {
  channels = λ g ch is. same-channels x.channels g ch (freed-back x.channels g h ch is).1;
  subscriptions = same-subscriptions x.subscriptions;
}

pub less-requests : (t : Table Request) (x : Client) → Less x (with_requests t x)
less-requests t x = less-same x (with_requests t x) refl refl

pub less-subscriptions : (t : Table Subscription) (x : Client) → ((g : Handle) (d : Subscription) → under t g ≡ Some d → (e : Subscription) × (under x.subscriptions g ≡ Some e) × StageLike e.stage d.stage × AsksAlike e d) → Less x (record x { subscriptions = t })
less-subscriptions t x were = record { channels = same-channels x.channels; subscriptions = were }

-- ---- messages that wait

pub less-on : (f : Connection → Connection) (c : Handle) (x : Client) → Less x (on_connection f c x)
less-on f c x = less-same x (on_connection f c x) refl refl

pub less-sending : (sends : List Sending) (x : Client) → Less x (sending sends x)
less-sending [] x = less-itself x
less-sending (s ∷ sends) x = less-then x (with_one_sent x s) (sending sends (with_one_sent x s)) (less-on _ s.circuit x) (less-sending sends (with_one_sent x s))

-- ---- ids that are free, or drain

pub less-freed : (g : Handle) (x : Client) → Less x (record x { subscriptions = with_freed g x.subscriptions })
less-freed g x = less-subscriptions (with_freed g x.subscriptions) x (λ k d is. same-subscriptions x.subscriptions k d (freed-back x.subscriptions k g d is).1)

pub less-freed-all : (frees : Subscription → Bool) (x : Client) → Less x (record x { subscriptions = with_all_freed frees x.subscriptions })
less-freed-all frees x = less-subscriptions _ x (λ g d is. same-subscriptions x.subscriptions g d (all-freed-back frees x.subscriptions g d is).0)

-- one is at a stage at which it does not stand
pub less-staged : (stage : Stage) (g : Handle) (x : Client) → stands_in stage ≡ false → Less x (record x { subscriptions = with_stage stage g x.subscriptions })
less-staged stage g x ends = less-subscriptions (with_stage stage g x.subscriptions) x (λ k d is. elim (changed-back (λ (s : Subscription). record s { stage = stage }) x.subscriptions k g d is) [
  | inl own ↦ (
    own.1.0,
    subst (λ (v : Handle). under x.subscriptions v ≡ Some own.1.0) (sym own.0) own.1.1,
    λ i. absurd (both_ways (stands_in stage) ends (ap (λ (z : Subscription). stands_in z.stage) (sym own.1.2) ∙ i)),
    (ap (λ (z : Subscription). z.data_type) own.1.2, ap (λ (z : Subscription). z.count) own.1.2, ap (λ (z : Subscription). z.mask) own.1.2),
  )
  | inr old ↦ same-subscriptions x.subscriptions k d old.1
])

over-like : (c : Handle) (s : Stage) → StageLike s (stage_over c s)
over-like c Stands i = refl
over-like c (Cancelled o) i = i
over-like c (Ended o) i = i

pub less-over-subscriptions : (c h : Handle) (x : Client) → Less x (record x { subscriptions = monitor.channel_over c h x.subscriptions })
less-over-subscriptions c h x = less-subscriptions _ x (λ g d is.
    let was = all-back (monitor.over_on c h) x.subscriptions g d is in (
      was.0,
      was.1,
      λ i. go was.0 (is_to h was.0) (ap (λ (z : Subscription). stands_in z.stage) (sym was.2) ∙ i),
      subst (λ (z : Subscription). AsksAlike was.0 z) (sym was.2) (alike was.0 (is_to h was.0)),
    ))
  where
    alike : (s : Subscription) (b : Bool) → AsksAlike s (cond b (record s { stage = stage_over c s.stage }) s)
    alike s true = (refl, refl, refl)
    alike s false = (refl, refl, refl)

    go : (s : Subscription) (b : Bool) → StageLike s.stage (cond b (record s { stage = stage_over c s.stage }) s).stage
    go s true i = over-like c s.stage i
    go s false i = i

pub less-all-over : (c h : Handle) (x : Client) → Less x (all_over c h x)
less-all-over c h x =
    let y : Client = record x { subscriptions = monitor.channel_over c h x.subscriptions } in
    less-then x y (all_over c h x) (less-over-subscriptions c h x) (less-requests (request.channel_over h y.requests) y)

pub less-drained : (c h : Handle) (x : Client) → Less x (without_drained c h x)
less-drained c h x =
    let y : Client = record x { subscriptions = monitor.channel_drained c h x.subscriptions } in
    less-then x y (without_drained c h x) (less-freed-all (λ (s : Subscription). is_to h s && drains_in c s.stage) x) (less-requests (request.channel_gone h y.requests) y)

-- ---- a circuit that is let go, or has ended

pub less-let-go : (c : Handle) (d : ClientCircuit) (x : Client) → Less x (let_go c d x)
less-let-go c d x = go d.is_name
  where
    go : (b : Bool) → Less x (cond b (phase.disconnected c x) (without_circuit c x))
    go true = less-same x (phase.disconnected c x) refl refl
    go false = less-same x (without_circuit c x) refl refl

less-or-go : (c : Handle) (y x : Client) (o : Option ClientCircuit) → Less y x → Less y (unwrap_or (option_map (λ (d : ClientCircuit). let_go c d x) o) x)
less-or-go c y x (Some d) less = less-then y x (let_go c d x) less (less-let-go c d x)
less-or-go c y x None less = less

pub less-unwanted : (c : Handle) (x : Client) → Less x (unwanted c x)
less-unwanted c x = go (length (channels_on (λ (p : Phase). true) c x) == 0)
  where
    go : (b : Bool) → Less x (cond b (unwrap_or (option_map (λ (d : ClientCircuit). let_go c d x) (under x.circuits c)) x) x)
    go true = less-or-go c x x (under x.circuits c) (less-itself x)
    go false = less-itself x

-- the channel of this handle was not cleared
abbrev IsHeldBy : Client → Handle → Type 0
IsHeldBy x h = (ch : Channel) → under x.channels h ≡ Some ch → is_gone ch.standing ≡ false

held-gone : (x : Client) (h k : Handle) → IsHeldBy x h → IsHeldBy (without_channel x k) h
held-gone x h k held ch is = held ch (freed-back x.channels h k ch is).1

held-again : (x : Client) (h k : Handle) → IsHeldBy x h → IsHeldBy (searched_again x k) h
held-again x h k held ch is = elim (changed-back (λ (w : Channel). record w { standing = Searching }) x.channels h k ch is) [
  | inl own ↦ ap (λ (z : Channel). is_gone z.standing) own.1.2
  | inr old ↦ held ch old.1
]

less-all-gone : (hs : List Handle) (x : Client) → Less x (fold without_channel x hs)
less-all-gone [] x = less-itself x
less-all-gone (h ∷ hs) x = less-then x (without_channel x h) (fold without_channel x (h ∷ hs)) (less-gone h x) (less-all-gone hs (without_channel x h))

held-all-gone : (hs : List Handle) (x : Client) (g : Handle) → IsHeldBy x g → IsHeldBy (fold without_channel x hs) g
held-all-gone [] x g held = held
held-all-gone (h ∷ hs) x g held = held-all-gone hs (without_channel x h) g (held-gone x g h held)

less-all-again : (hs : List Handle) (x : Client) → ((i : ℕ) (h : Handle) → At hs i h → IsHeldBy x h) → Less x (fold searched_again x hs)
less-all-again [] x held = less-itself x
less-all-again (h ∷ hs) x held =
    less-then x (searched_again x h) (fold searched_again x (h ∷ hs)) (less-again h x (held 0 h refl))
    (less-all-again hs (searched_again x h) (λ i g at. held-again x g h (held (suc i) g at)))

on-held : (c : Handle) (ch : Channel) → is_on_in (λ (p : Phase). not (is_cleared p)) c ch ≡ true → is_gone ch.standing ≡ false
on-held c ch is = go ch.standing is
  where
    go : (s : Standing) → unwrap_or (option_map (λ (p : Phase). not (is_cleared p)) (phase_on c s)) false ≡ true → is_gone s ≡ false
    go Searching e = refl
    go (On d p) e = by (same_handle d c) e
      where
        not-not : (b : Bool) → not b ≡ true → b ≡ false
        not-not true f = absurd (both_ways false refl f)
        not-not false f = refl

        by : (b : Bool) → unwrap_or (option_map (λ (q : Phase). not (is_cleared q)) (cond b (Some p) None)) false ≡ true → is_cleared p ≡ false
        by true f = not-not (is_cleared p) f
        by false f = absurd (both_ways false refl f)

pub less-channels-ended : (c : Handle) (x : Client) → Less x (channels_ended c x)
less-channels-ended c x =
    let mid : Client = fold without_channel x (channels_on is_cleared c x) in
    let kept : List Handle = channels_on (λ (p : Phase). not (is_cleared p)) c x in
    less-then x mid (channels_ended c x) (less-all-gone (channels_on is_cleared c x) x)
    (less-all-again kept mid (λ i h at. held-all-gone (channels_on is_cleared c x) x h (λ ch is.
    let found = on-circuit (λ (p : Phase). not (is_cleared p)) c x i h at in
    ap (λ (z : Channel). is_gone z.standing) (one-value x.channels h ch found.0 is found.1) ∙ on-held c found.0 found.2)))

pub less-ended : (c : Handle) (x : Client) → Less x (ended c x)
less-ended c x = go (under x.circuits c)
  where
    y : Client
    y = record x { subscriptions = monitor.circuit_gone c x.subscriptions }

    ids : Less x (without_ids c x)
    ids = less-then x y (without_ids c x) (less-freed-all (λ (s : Subscription). drains_in c s.stage) x) (less-requests (request.circuit_gone c y.requests) y)

    z : Client
    z = channels_ended c (without_ids c x)

    go : (o : Option ClientCircuit) → Less x (unwrap_or (option_map (λ (d : ClientCircuit). let_go c d (channels_ended c (without_ids c x))) o) x)
    go (Some d) = less-then x (without_ids c x) (let_go c d z) ids (less-then (without_ids c x) z (let_go c d z) (less-channels-ended c (without_ids c x)) (less-let-go c d z))
    go None = less-itself x
