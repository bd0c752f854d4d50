-- A channel goes from one phase to another, with its CREATE_CHAN or its CLEAR_CHANNEL; and a
-- subscription is cancelled.
use Rattle.std.proofs.Common.{◌≡◌, ℕ, inl, inr, true, false, List, [], ◌∷◌, ◌++◌, Option, Some, None, refl, sym, ap, ◌∙◌, subst}
use Rattle.std.specs.Prelude.{Ok}
use Rattle.std.proofs.lemmas.Bool.{both_ways}
use Rattle.ca_text.specs.Place.{At}
use Rattle.ca_arena.specs.declared.handle.Handle.{Handle}
use Rattle.ca_ids.specs.Table.{under, with_freed}
use Rattle.ca_monitor.specs.Subscriptions.{Cancelled, Ended, Stage, Stands, Subscription, is_to, stands_in, with_stage}
use Rattle.ca_model.specs.Answers.{Notice, Sending}
use Rattle.ca_model.specs.Client.{Channel, Client, Clearing, Connecting, Creating, Doomed, Leaving, Live, On, Phase, Searching, Standing, sending, standing_at, with_standing, without_channel}
use Rattle.ca_model.specs.ClientCalls.{ClientClears, all_over, cancel_sent, clear_sent, cleared, clearing_sent, event_cancel_sent, unsubscribed, unsubscribed_all, unwanted}
use Rattle.ca_model.specs.Hears.{create_sent}
use Rattle.ca_model.specs.History.{Ask, Cancel, Clear, Create, Intent, Sent, Subscribe}
use Rattle.ca_model.specs.History as history
use Rattle.ca_model.proofs.Standings.{found-standing, never-cleared}
use Rattle.ca_model.proofs.Tables.{changed-back, freed-back, one-value}
use Rattle.ca_model.proofs.Thinner.{given-thin, thin-changed}
use Rattle.ca_model.specs.ClientEvents.{cancelled, channel_number, meant_by}
use Rattle.ca_model.specs.World.{Names}
use Rattle.ca_laws_parts.specs.Circuit.{stamped}
use Rattle.ca_laws_runs.specs.Quiet.{HasCid, HasNumber, IsBeingCancelled, IsNamedIn, IsSubscriptionOn, NoCancel, PhaseIn, Quiet, StageIn, StandsIn, Tidy}
use Rattle.ca_laws_runs.proofs.AddedApart.{apart-one}
use Rattle.ca_laws_runs.proofs.CidsSaid.{cid-none}
use Rattle.ca_laws_runs.proofs.Phases.{doomed-cleared, live-cleared, phase-created, phase-other, same-ask, same-number, stage-cancelled, stage-other}
use Rattle.ca_laws_runs.proofs.Lesser.{Less, StandsLike, less-all-over, less-freed-all, less-gone, less-sending, less-stood, less-subscriptions, less-then, less-unwanted, quiet-less, same-subscriptions, tidy-less}
use Rattle.ca_laws_runs.proofs.Says.{Moved, channels-used, ids-more, moved-less, moved-less-then, moved-one, named-more, no-sub-id, one-handle, one-subscription, subscribed-at}

pub stood-handle : (c on : Handle) (p q : Phase) → On c p ≡ On on q → c ≡ on
stood-handle c on p q e = cc

pub stood-phase : (c on : Handle) (p q : Phase) → On c p ≡ On on q → p ≡ q
stood-phase c on p q e = cc

-- from phase to phase on one circuit, as what was sent allows
pub like-phase : (c : Handle) (p q : Phase) → ((up : List Sent) (number : ℕ) → PhaseIn up number p → PhaseIn up number q) → StandsLike (On c p) (On c q)
like-phase c p q goes on up number was r is =
    subst (λ (z : Phase). PhaseIn up number z) (stood-phase c on q r is) (goes up number (was p (ap (λ (k : Handle). On k p) (stood-handle c on q r is))))

pub like-connecting : (c : Handle) (s : Standing) → StandsLike s (On c Connecting)
like-connecting c s on up number was p is = subst (λ (z : Phase). PhaseIn up number z) (stood-phase c on Connecting p is) tt

-- the same of a channel in the table
pub less-phase : (c h : Handle) (x : Client) (ch : Channel) (p q : Phase) → under x.channels h ≡ Some ch → ch.standing ≡ On c p → ((up : List Sent) (number : ℕ) → PhaseIn up number p → PhaseIn up number q) → Less x (with_standing (On c q) h x)
less-phase c h x ch p q there stands goes =
    less-stood (On c q) h x (λ w is. subst (λ (z : Standing). StandsLike z (On c q)) (sym (ap (λ (z : Channel). z.standing) (one-value x.channels h w ch is there) ∙ stands)) (like-phase c p q goes))

-- ---- with a message on the channel

module _ (n : Names) (x : Client) (h : Handle) (ch : Channel) (c : Handle) (q : Phase) (s : Sending) (ask : Ask) (t : Tidy n x) (there : under x.channels h ≡ Some ch) (on_c : s.circuit ≡ c) (is : (stamped n s).intent ≡ history.On (channel_number n h) ask)
    (named : IsNamedIn n (stamped n s).intent) (no_add : (m : ℕ) → ask ≡ Subscribe m → ⊥) (no_cancel : (m : ℕ) → ask ≡ Cancel m → ⊥)
    (goes : (up : List Sent) → StandsIn c up (channel_number n h) ch.standing → PhaseIn (up ++ stamped n s ∷ []) (channel_number n h) q) (own_cid : HasCid n.channels (stamped n s)) where
  abbrev z : Client
  z = with_standing (On c q) h x

  abbrev there-of : Channel → Channel
  there-of w = record w { standing = On c q }

  tidy-moved : Tidy n z
  tidy-moved = record {
    numbered = λ g w at. elim (changed-back there-of x.channels g h w at) [
      | inl own ↦ subst (λ (k : Handle). HasNumber n k) (sym own.0) (t.numbered h ch there)
      | inr old ↦ t.numbered g w old.1
    ];
    given = λ i g at. given-thin x.channels z.channels g (thin-changed there-of h x.channels) (t.given i g at);
    once = t.once;
    asked = t.asked;
    subscribed = t.subscribed;
    requests = t.requests;
    subscriptions = t.subscriptions;
  }

  quiet-near : (up : List Sent) → Quiet n x c up → Quiet n z c (up ++ stamped n s ∷ [])
  quiet-near up quiet = record {
    named = named-more n up (stamped n s) quiet.named named;
    ids = ids-more n up (stamped n s) quiet.ids (no-sub-id n (stamped n s) (λ a m e. no_add m (same-ask (channel_number n h) a ask (Subscribe m) (sym is ∙ e))) (λ a m e. no_cancel m (same-ask (channel_number n h) a ask (Cancel m) (sym is ∙ e))));
    channels = λ g w at p stood. elim (changed-back there-of x.channels g h w at) [
      | inl own ↦
          let one : own.1.0 ≡ ch = one-value x.channels h own.1.0 ch own.1.1 there in
          let phase_is : q ≡ p = stood-phase c c q p (ap (λ (v : Channel). v.standing) (sym own.1.2) ∙ stood) in
          subst (λ (v : Handle × Phase). PhaseIn (up ++ stamped n s ∷ []) (channel_number n v.0) v.1) (λ i. (sym own.0 i, phase_is i)) (goes up (quiet.channels h ch there))
      | inr old ↦
          phase-other up (stamped n s) (channel_number n g) p
          (λ asks e. old.0 (sym (one-handle n h g (t.numbered h ch there) (t.numbered g w old.1) (same-number (channel_number n h) (channel_number n g) ask asks (sym is ∙ e)))))
          (quiet.channels g w old.1 p stood)
    ];
    subscriptions = λ g d a m at meant.
        stage-other c up (stamped n s) m d.stage (λ b e. no_add m (same-ask (channel_number n h) b ask (Subscribe m) (sym is ∙ e))) (λ b e. no_cancel m (same-ask (channel_number n h) b ask (Cancel m) (sym is ∙ e)))
        (quiet.subscriptions g d a m at meant);
  }

  quiet-far : (on : Handle) (up : List Sent) → (c ≡ on → ⊥) → Quiet n x on up → Quiet n z on up
  quiet-far on up other quiet = record {
    named = quiet.named;
    ids = quiet.ids;
    channels = λ g w at p stood. elim (changed-back there-of x.channels g h w at) [
      | inl own ↦ absurd (other (stood-handle c on q p (ap (λ (v : Channel). v.standing) (sym own.1.2) ∙ stood)))
      | inr old ↦ quiet.channels g w old.1 p stood
    ];
    subscriptions = quiet.subscriptions;
  }

  pub moved-phase : Moved n x n (s ∷ []) n z
  moved-phase =
      moved-one n n n x z s tidy-moved
      (λ up quiet. subst (λ (k : Handle). Quiet n z k (up ++ stamped n s ∷ [])) (sym on_c) (quiet-near up (subst (λ (k : Handle). Quiet n x k up) on_c quiet)))
      (λ on up other quiet. quiet-far on up (λ e. other (on_c ∙ e)) quiet)
      (λ up quiet were. apart-one up (stamped n s) (λ a m e. no_add m (same-ask (channel_number n h) a ask (Subscribe m) (sym is ∙ e))) were) refl own_cid

-- its CREATE_CHAN, on a circuit that is connected
pub moved-created : (n : Names) (x : Client) (h : Handle) (ch : Channel) (c : Handle) → Tidy n x → under x.channels h ≡ Some ch → Moved n x n (create_sent c h ch ∷ []) n (with_standing (On c (Creating 0)) h x)
moved-created n x h ch c t there =
    moved-phase n x h ch c (Creating 0) (create_sent c h ch) Create t there refl refl tt (λ m e. no-add m e) (λ m e. no-cancel m e) (λ up was. phase-created up (stamped n (create_sent c h ch)) (channel_number n h) refl)
    (λ a. (λ e. (h, subst (λ (k : ℕ). At n.channels k h) (same-number (channel_number n h) a Create Create e) (t.numbered h ch there), refl), λ e. absurd (not-clear (channel_number n h) a e)))
  where
    not-clear : (a b : ℕ) → history.On a Create ≡ history.On b Clear → ⊥
    not-clear a b e = cc

    no-add : (m : ℕ) → Create ≡ Subscribe m → ⊥
    no-add m e = cc

    no-cancel : (m : ℕ) → Create ≡ Cancel m → ⊥
    no-cancel m e = cc

-- its CLEAR_CHANNEL, of a live channel or of one that was doomed
moved-clear : (n : Names) (x : Client) (h : Handle) (ch : Channel) (c : Handle) (sid : ℕ) (q : Phase) → Tidy n x → under x.channels h ≡ Some ch
    → ((up : List Sent) → StandsIn c up (channel_number n h) ch.standing → PhaseIn (up ++ stamped n (clear_sent c sid h) ∷ []) (channel_number n h) q) → Moved n x n (clear_sent c sid h ∷ []) n (with_standing (On c q) h x)
moved-clear n x h ch c sid q t there goes = moved-phase n x h ch c q (clear_sent c sid h) Clear t there refl refl tt (λ m e. no-add m e) (λ m e. no-cancel m e) goes
    (λ a. (λ e. absurd (not-create (channel_number n h) a e), λ e. (h, subst (λ (k : ℕ). At n.channels k h) (same-number (channel_number n h) a Clear Clear e) (t.numbered h ch there), refl)))
  where
    not-create : (a b : ℕ) → history.On a Clear ≡ history.On b Create → ⊥
    not-create a b e = cc

    no-add : (m : ℕ) → Clear ≡ Subscribe m → ⊥
    no-add m e = cc

    no-cancel : (m : ℕ) → Clear ≡ Cancel m → ⊥
    no-cancel m e = cc

module _ (n : Names) (x : Client) (h : Handle) (ch : Channel) (c : Handle) (sid : ℕ) (t : Tidy n x) (there : under x.channels h ≡ Some ch) where
  pub moved-live-clearing : (native : _) (rights : ℕ) → ch.standing ≡ On c (Live native rights) → Moved n x n (clear_sent c sid h ∷ []) n (with_standing (On c Clearing) h x)
  moved-live-clearing native rights stands = moved-clear n x h ch c sid Clearing t there (λ up was. live-cleared up (stamped n (clear_sent c sid h)) (channel_number n h) (was (Live native rights) stands) refl)

  pub moved-live-leaving : (native : _) (rights : ℕ) → ch.standing ≡ On c (Live native rights) → Moved n x n (clear_sent c sid h ∷ []) n (with_standing (On c Leaving) h x)
  moved-live-leaving native rights stands = moved-clear n x h ch c sid Leaving t there (λ up was. live-cleared up (stamped n (clear_sent c sid h)) (channel_number n h) (was (Live native rights) stands) refl)

  pub moved-doomed-clearing : ch.standing ≡ On c Doomed → Moved n x n (clear_sent c sid h ∷ []) n (with_standing (On c Clearing) h x)
  moved-doomed-clearing stands = moved-clear n x h ch c sid Clearing t there (λ up was. doomed-cleared up (stamped n (clear_sent c sid h)) (channel_number n h) (was Doomed stands) refl)

-- ---- clear

less-none : (h : Handle) (x : Client) → Less x (unsubscribed_all h x)
less-none h x = less-freed-all (is_to h) x

pub moved-before : (n : Names) (x y z : Client) (sent : List Sending) → Less x y → Tidy n x → (Tidy n y → Moved n y n sent n z) → Moved n x n sent n z
moved-before n x y z sent less t moves =
    let m = moves (tidy-less n x y less t) in
    record { tidy = m.tidy; quiet = λ on up q. m.quiet on up (quiet-less n x y on up less q); apart = λ on up q h. m.apart on up (quiet-less n x y on up less q) h; cids = m.cids }

pub moved-cleared : (n : Names) (x : Client) (h : Handle) (notices : List Notice) (sent : List Sending) (y : Client) → ClientClears x h (Ok notices) sent y → Tidy n x → Moved n x n sent n y
moved-cleared n x h notices sent y clears t =
    subst (λ (w : List Sending × Client). Moved n x n w.0 n w.1) (λ i. (sym clears.3.0 i, sym clears.3.1 i))
    (moved-less-then n n n x (cleared h clears.0 x) (sending (clearing_sent h clears.0) (cleared h clears.0 x)) (clearing_sent h clears.0) (by clears.0 clears.1 (found-standing x h clears.0 clears.1)) (less-sending (clearing_sent h clears.0) (cleared h clears.0 x)))
  where
    by : (s : Standing) → standing_at x h ≡ Some s → (ch : Channel) × (under x.channels h ≡ Some ch) × (ch.standing ≡ s) → Moved n x n (clearing_sent h s) n (cleared h s x)
    by Searching at found =
        let z : Client = unsubscribed_all h x in
        moved-less n x (without_channel z h) (less-then x z (without_channel z h) (less-none h x) (less-gone h z)) t
    by (On c Connecting) at found =
        let z : Client = unsubscribed_all h x in
        let v : Client = without_channel z h in
        moved-less n x (unwanted c v) (less-then x v (unwanted c v) (less-then x z v (less-none h x) (less-gone h z)) (less-unwanted c v)) t
    by (On c (Creating rights)) at found =
        let z : Client = unsubscribed_all h x in
        moved-less n x (with_standing (On c Doomed) h z) (less-then x z (with_standing (On c Doomed) h z) (less-none h x) (less-phase c h z found.0 (Creating rights) Doomed found.1 found.2 (λ up number p. p))) t
    by (On c (Live native rights)) at found =
        let z : Client = all_over c h x in
        moved-before n x z (with_standing (On c Clearing) h z) (clear_sent c native.sid h ∷ []) (less-all-over c h x) t (λ u. moved-live-clearing n z h found.0 c native.sid u found.1 native rights found.2)
    by (On c Leaving) at found =
        let z : Client = all_over c h x in
        moved-less n x (with_standing (On c Clearing) h z) (less-then x z (with_standing (On c Clearing) h z) (less-all-over c h x) (less-phase c h z found.0 Leaving Clearing found.1 found.2 (λ up number p. p))) t
    by (On c Clearing) at found = absurd (both_ways true (never-cleared x h c Clearing at) refl)
    by (On c Doomed) at found = absurd (both_ways true (never-cleared x h c Doomed at) refl)

-- ---- unsubscribe

staged-like : (stage : Stage) (g : Handle) (x : Client) → ((d : Subscription) → under x.subscriptions g ≡ Some d → (on : Handle) (up : List Sent) (number : ℕ) → StageIn on up number d.stage → StageIn on up number stage) → Less x (record x { subscriptions = with_stage stage g x.subscriptions })
staged-like stage g x like = less-subscriptions (with_stage stage g x.subscriptions) x (λ k d is. elim (changed-back (λ (s : Subscription). record s { stage = stage }) x.subscriptions k g d is) [
  | inl own ↦ (
    own.1.0,
    subst (λ (v : Handle). under x.subscriptions v ≡ Some own.1.0) (sym own.0) own.1.1,
    ap (λ (z : Subscription). z.channel) own.1.2,
    λ on up number i. subst (λ (z : Subscription). StageIn on up number z.stage) (sym own.1.2) (like own.1.0 own.1.1 on up number i),
  )
  | inr old ↦ same-subscriptions x.subscriptions k d old.1
])

less-freed : (g : Handle) (x : Client) → Less x (record x { subscriptions = with_freed g x.subscriptions })
less-freed g x = less-subscriptions (with_freed g x.subscriptions) x (λ k d is. same-subscriptions x.subscriptions k d (freed-back x.subscriptions k g d is).1)

-- a stage in which it stands
pub standing-stage : (s : Stage) → stands_in s ≡ true → s ≡ Stands
standing-stage Stands is = refl
standing-stage (Cancelled c) is = absurd (both_ways false refl is)
standing-stage (Ended c) is = absurd (both_ways false refl is)

module _ (n : Names) (x : Client) (g : Handle) (d : Subscription) (t : Tidy n x) (here : under x.subscriptions g ≡ Some d) (stage : d.stage ≡ Stands) where
  -- its EVENT_CANCEL, on a live channel
  moved-cancelled : (c : Handle) (native : _) (rights : ℕ) (ch : Channel) → under x.channels d.channel ≡ Some ch → ch.standing ≡ On c (Live native rights)
      → Moved n x n (event_cancel_sent c native.sid g d ∷ []) n (record x { subscriptions = with_stage (Cancelled c) g x.subscriptions })
  moved-cancelled c native rights ch there stands = moved-one n n n x z s tidy near far (λ up quiet h. apart-one up (stamped n s) (λ a m e. no-add-of (channel_number n d.channel) a meant.0 m (sym is ∙ e)) h) refl
      (cid-none n.channels (stamped n s) (λ a. (λ e. no-create-of (channel_number n d.channel) a meant.0 (sym is ∙ e), λ e. no-clear-of (channel_number n d.channel) a meant.0 (sym is ∙ e))))
    where
      no-create-of : (a b m : ℕ) → history.On a (Cancel m) ≡ history.On b Create → ⊥
      no-create-of a b m e = cc

      no-clear-of : (a b m : ℕ) → history.On a (Cancel m) ≡ history.On b Clear → ⊥
      no-clear-of a b m e = cc

      no-add-of : (a b m k : ℕ) → history.On a (Cancel m) ≡ history.On b (Subscribe k) → ⊥
      no-add-of a b m k e = cc

      s : Sending
      s = event_cancel_sent c native.sid g d

      z : Client
      z = record x { subscriptions = with_stage (Cancelled c) g x.subscriptions }

      staged : Subscription → Subscription
      staged v = record v { stage = Cancelled c }

      meant : IsSubscriptionOn n d.channel (meant_by n.subscriptions g)
      meant = t.subscriptions g d here

      is : (stamped n s).intent ≡ history.On (channel_number n d.channel) (Cancel meant.0)
      is = ap cancelled meant.2

      tidy : Tidy n z
      tidy = record {
        numbered = t.numbered;
        given = t.given;
        once = t.once;
        asked = t.asked;
        subscribed = t.subscribed;
        requests = t.requests;
        subscriptions = λ k v at. elim (changed-back staged x.subscriptions k g v at) [
          | inl own ↦
              let channel : v.channel ≡ own.1.0.channel = ap (λ (w : Subscription). w.channel) own.1.2 in
              subst (λ (w : Handle × Handle). IsSubscriptionOn n w.1 (meant_by n.subscriptions w.0)) (λ i. (sym own.0 i, sym channel i)) (t.subscriptions g own.1.0 own.1.1)
          | inr old ↦ t.subscriptions k v old.1
        ];
      }

      near : (up : List Sent) → Quiet n x c up → Quiet n z c (up ++ stamped n s ∷ [])
      near up quiet = record {
        named = named-more n up (stamped n s) quiet.named (subst (λ (i : Intent). IsNamedIn n i) (sym is) (g, subscribed-at n x g (channel_number n d.channel) meant.0 t meant.2));
        ids = ids-more n up (stamped n s) quiet.ids (λ a m w. elim w [
          | inl e ↦ absurd (no-add (channel_number n d.channel) a meant.0 m (sym is ∙ e))
          | inr e ↦ (
            g,
            history.On (channel_number n d.channel) (Subscribe meant.0),
            subst (λ (z : ℕ). At n.subscriptions z (g, history.On (channel_number n d.channel) (Subscribe meant.0))) (cancel-number (channel_number n d.channel) a meant.0 m (sym is ∙ e)) (subscribed-at n x g (channel_number n d.channel) meant.0 t meant.2),
            refl,
          )
        ]);
        channels = channels-used n x c up (stamped n s) t quiet d.channel ch native rights (Cancel meant.0) there stands tt is;
        subscriptions = λ k v a m at says. elim (changed-back staged x.subscriptions k g v at) [
          | inl own ↦
              let one : own.1.0 ≡ d = one-value x.subscriptions g own.1.0 d own.1.1 here in
              let none : NoCancel up m = subst (λ (w : Stage). StageIn c up m w) stage (quiet.subscriptions g d a m here (ap (λ (w : Handle). meant_by n.subscriptions w) (sym own.0) ∙ says)) in
              subst (λ (w : Subscription). StageIn c (up ++ stamped n s ∷ []) m w.stage) (sym own.1.2)
              (λ same. stage-cancelled-of up m (add-number (channel_number n d.channel) a meant.0 m (sym meant.2 ∙ ap (λ (w : Handle). meant_by n.subscriptions w) (sym own.0) ∙ says)) none)
          | inr old ↦
              stage-other c up (stamped n s) m v.stage (λ b e. no-add (channel_number n d.channel) b meant.0 m (sym is ∙ e))
              (λ b e. old.0 (one-subscription n x k g a (channel_number n d.channel) m t says (subst (λ (w : ℕ). meant_by n.subscriptions g ≡ history.On (channel_number n d.channel) (Subscribe w)) (cancel-number (channel_number n d.channel) b meant.0 m (sym is ∙ e)) meant.2)))
              (quiet.subscriptions k v a m old.1 says)
        ];
      }
        where
          no-add : (a b m k : ℕ) → history.On a (Cancel m) ≡ history.On b (Subscribe k) → ⊥
          no-add a b m k e = cc

          cancel-number : (a b m k : ℕ) → history.On a (Cancel m) ≡ history.On b (Cancel k) → m ≡ k
          cancel-number a b m k e = cc

          add-number : (a b m k : ℕ) → history.On a (Subscribe m) ≡ history.On b (Subscribe k) → m ≡ k
          add-number a b m k e = cc

          stage-cancelled-of : (up : List Sent) (m : ℕ) → meant.0 ≡ m → NoCancel up m → IsBeingCancelled (up ++ stamped n s ∷ []) m
          stage-cancelled-of up m same none = stage-cancelled c up (stamped n s) m (channel_number n d.channel) (is ∙ ap (λ (w : ℕ). history.On (channel_number n d.channel) (Cancel w)) same) none

      far : (on : Handle) (up : List Sent) → (c ≡ on → ⊥) → Quiet n x on up → Quiet n z on up
      far on up other quiet = record {
        named = quiet.named;
        ids = quiet.ids;
        channels = quiet.channels;
        subscriptions = λ k v a m at says. elim (changed-back staged x.subscriptions k g v at) [
          | inl own ↦ subst (λ (w : Subscription). StageIn on up m w.stage) (sym own.1.2) (λ same. absurd (other same))
          | inr old ↦ quiet.subscriptions k v a m old.1 says
        ];
      }

  pub moved-unsubscribed : (sent : List Sending) (y : Client) → (sent ≡ cancel_sent g d (standing_at x d.channel)) → y ≡ sending (cancel_sent g d (standing_at x d.channel)) (unsubscribed g (standing_at x d.channel) x) → Moved n x n sent n y
  moved-unsubscribed sent y sent_is y_is =
      let sends : List Sending = cancel_sent g d (standing_at x d.channel) in
      let z : Client = unsubscribed g (standing_at x d.channel) x in
      subst (λ (w : List Sending × Client). Moved n x n w.0 n w.1) (λ i. (sym sent_is i, sym y_is i)) (moved-less-then n n n x z (sending sends z) sends (by (standing_at x d.channel) refl) (less-sending sends z))
    where
      freed : Moved n x n [] n (record x { subscriptions = with_freed g x.subscriptions })
      freed = moved-less n x (record x { subscriptions = with_freed g x.subscriptions }) (less-freed g x) t

      by : (o : Option Standing) → standing_at x d.channel ≡ o → Moved n x n (cancel_sent g d o) n (unsubscribed g o x)
      by None at = freed
      by (Some Searching) at = freed
      by (Some (On c Connecting)) at = freed
      by (Some (On c (Creating rights))) at = freed
      by (Some (On c Clearing)) at = freed
      by (Some (On c Doomed)) at = freed
      by (Some (On c Leaving)) at = moved-less n x (record x { subscriptions = with_stage (Ended c) g x.subscriptions }) (staged-like (Ended c) g x (λ v is on up number i. tt)) t
      by (Some (On c (Live native rights))) at = (let found = found-standing x d.channel (On c (Live native rights)) at in moved-cancelled c native rights found.0 found.1 found.2)
