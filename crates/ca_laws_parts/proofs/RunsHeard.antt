-- A message that a client reads: what it does to the client's tables, and what it sends, on its own
-- circuit and seen from others.
use Rattle.std.proofs.Common.{◌≡◌, ℕ, zero, suc, true, false, ◌&&◌, List, [], ◌∷◌, Option, Some, None, refl, sym, ap, ◌∙◌, subst, arith}
use Rattle.std.specs.Prelude.{map, option_map, unwrap_or}
use Rattle.ca_text.specs.declared.command.Command.TheVariants as command
use Rattle.ca_text.specs.Place.{At}
use Rattle.ca_text.proofs.Places.{At-mapped}
use Rattle.ca_arena.specs.declared.handle.Handle.{Handle}
use Rattle.ca_ids.specs.Table.{held, same_handle}
use Rattle.ca_monitor.specs.Subscriptions.{Subscription, is_to, standing_to, stands_in}
use Rattle.ca_requests.specs.Requests as request
use Rattle.ca_wire.specs.Fields.{Fields}
use Rattle.ca_model.specs.Answers.{Notice, Sending}
use Rattle.ca_model.specs.Client.{Client, Clearing, Connecting, Creating, Doomed, Leaving, Live, On, Phase, channel_on, searched_again, sending, with_requests, with_standing, without_channel}
use Rattle.ca_model.specs.ClientCalls.{clear_sent, event_add_sent}
use Rattle.ca_model.specs.Hears.{Effect, clear_answered, created, doing, event_adds, failed, left, native_in, rights_told, without_drained}
use Rattle.ca_model.specs.History.{Circuit, Sent, Step}
use Rattle.ca_model.specs.History as history
use Rattle.ca_model.specs.Speech.{Is}
use Rattle.ca_model.specs.ClientEvents.{channel_number, intent_of}
use Rattle.ca_model.specs.World.{Names}
use Rattle.ca_laws_parts.specs.Flows.{Awaits, Flows, MaySendAll, with_all_sent, with_heard, with_sent}
use Rattle.ca_laws_parts.specs.Held.{HoldAlike, Holds, MeanToSubscribe, clear_of, event_add_of, is_asked, is_subscribed}
use Rattle.ca_model.specs.Placed.{Attached}
use Rattle.ca_laws_parts.proofs.Alike.{client-itself, holds-alike, restood}
use Rattle.ca_laws_parts.proofs.Answered.{answered-heard}
use Rattle.ca_laws_parts.proofs.Ended.{failure-heard}
use Rattle.ca_laws_parts.proofs.Ends.{answered-elsewhere, gone-elsewhere, phase-elsewhere}
use Rattle.ca_laws_parts.proofs.CircuitHeard.{holds-heard, removal-heard}
use Rattle.ca_model.proofs.Standings.{channel-on}
use Rattle.ca_laws_parts.proofs.CircuitLives.{doomed-heard, live-heard}
use Rattle.ca_laws_parts.proofs.Many.{none-sent}
use Rattle.ca_laws_parts.proofs.Marks.{at-filter}
use Rattle.ca_laws_parts.proofs.Others.{left-elsewhere, passes-alike}
use Rattle.ca_model.proofs.Tables.{held-under}
use Rattle.ca_laws_parts.specs.Circuit.{IsKnown, stamped}

-- ---- many messages on one circuit

AllOn : (on : Handle) → List Sending → Type 0
AllOn on ss = (i : ℕ) (s : Sending) → At ss i s → s.circuit ≡ on

-- What a message did: what it sent, on the circuit on which it was read, and the client before that
-- waits there; what other circuits see of it, which is nothing; and that on its own it may be sent
-- and what is held stays so.
pub record Did (kept : List ℕ) (on : Handle) (n : Names) (x : Client) (c : Circuit) (g : Step) (e : Effect) : Type 0 where
  pub sends : List Sending
  pub z : Client
  pub core_is : e.core ≡ sending sends z
  pub sent_is : e.sent ≡ sends
  pub all_on : (i : ℕ) (s : Sending) → At sends i s → s.circuit ≡ on
  pub no_creates : (i : ℕ) (s : Sent) (channel : ℕ) → At (map (stamped n) sends) i s → s.intent ≡ history.On channel history.Create → ⊥
  pub far : (other : Handle) → same_handle on other ≡ false → HoldAlike other x z
  pub near : Flows (Awaits c kept) c → Holds (Awaits c kept) on n x c
      → MaySendAll (Awaits c kept) (with_heard g c) (map (stamped n) sends) × Holds (Awaits c kept) on n (sending sends z) (with_all_sent (map (stamped n) sends) (with_heard g c))

module _ (kept : List ℕ) (on : Handle) (n : Names) (x : Client) (c : Circuit) (g : Step) where
  -- nothing was sent
  pub quiet : (z : Client) (notices : List Notice) (e : Effect) → e ≡ doing [] notices z → ((other : Handle) → same_handle on other ≡ false → HoldAlike other x z)
      → (Flows (Awaits c kept) c → Holds (Awaits c kept) on n x c → Holds (Awaits c kept) on n z (with_heard g c)) → Did kept on n x c g e
  quiet z notices e is far near = record {
    sends = [];
    z = z;
    core_is = ap (λ (w : Effect). w.core) is;
    sent_is = ap (λ (w : Effect). w.sent) is;
    all_on = λ i s at. absurd cc;
    no_creates = λ i s channel at creates. absurd cc;
    far = far;
    near = λ f h. (tt, none-sent (Holds (Awaits c kept) on n z) (with_heard g c) (near f h));
  }

  -- nothing changed
  pub nothing : (notices : List Notice) (e : Effect) → e ≡ doing [] notices x → Did kept on n x c g e
  nothing notices e is = quiet x notices e is (λ other differ. client-itself other x) (λ f h. holds-heard (Awaits c kept) on n x c g h)

  -- the CLEAR_CHANNEL of a channel was sent
  cleared-one : (sid : ℕ) (h : Handle) (z : Client) (notices : List Notice) (e : Effect) → e ≡ doing (clear_sent on sid h ∷ []) notices z → ((other : Handle) → same_handle on other ≡ false → HoldAlike other x z)
      → (Flows (Awaits c kept) c → Holds (Awaits c kept) on n x c → MaySendAll (Awaits c kept) (with_heard g c) (clear_of n sid h ∷ []) × Holds (Awaits c kept) on n (sending (clear_sent on sid h ∷ []) z) (with_sent (clear_of n sid h) (with_heard g c))) → Did kept on n x c g e
  cleared-one sid h z notices e is far near = record {
    sends = clear_sent on sid h ∷ [];
    z = z;
    core_is = ap (λ (w : Effect). w.core) is;
    sent_is = ap (λ (w : Effect). w.sent) is;
    all_on = one;
    no_creates = none;
    far = far;
    near = near;
  }
    where
      one : (i : ℕ) (s : Sending) → At (clear_sent on sid h ∷ []) i s → s.circuit ≡ on
      one zero s at = ap (λ (o : Option Sending). unwrap_or (option_map (λ (w : Sending). w.circuit) o) on) (sym at)
      one (suc i) s at = absurd cc

      not-create : (a b : ℕ) → history.On a history.Clear ≡ history.On b history.Create → ⊥
      not-create a b e = cc

      none : (i : ℕ) (s : Sent) (channel : ℕ) → At (map (stamped n) (clear_sent on sid h ∷ [])) i s → s.intent ≡ history.On channel history.Create → ⊥
      none zero s channel at creates =
          not-create (channel_number n h) channel
          (ap (λ (o : Option Sent). unwrap_or (option_map (λ (w : Sent). w.intent) o) (history.On (channel_number n h) history.Clear)) at ∙ creates)
      none (suc i) s channel at creates = absurd cc

  -- ---- channels, each by its CID

  -- ACCESS_RIGHTS
  pub rights-did : (m : Fields) (e : Effect) (o : Option (Handle × Phase)) → channel_on x on m.p1 ≡ o → e ≡ rights_told x on m o → Did kept on n x c g e
  rights-did m e None at is = nothing [] e is
  rights-did m e (Some (h, Connecting)) at is = nothing [] e is
  rights-did m e (Some (h, Leaving)) at is = nothing [] e is
  rights-did m e (Some (h, Clearing)) at is = nothing [] e is
  rights-did m e (Some (h, Doomed)) at is = nothing [] e is
  rights-did m e (Some (h, Creating rights)) at is =
      let found = channel-on x on m.p1 h (Creating rights) at in
      let alike : (other : Handle) → HoldAlike other x (with_standing (On on (Creating m.p2)) h x) =
      λ other. restood other x h (On on (Creating m.p2)) found.0 found.1 (passes-alike is_asked other on found.0 (Creating rights) (Creating m.p2) found.3 refl) (passes-alike is_subscribed other on found.0 (Creating rights) (Creating m.p2) found.3 refl) in
      let z : Client = with_standing (On on (Creating m.p2)) h x in
      quiet z [] e is (λ other differ. alike other) (λ f holds. holds-alike (Awaits c kept) on n x z (with_heard g c) (alike on) (holds-heard (Awaits c kept) on n x c g holds))
  rights-did m e (Some (h, Live native rights)) at is =
      let found = channel-on x on m.p1 h (Live native rights) at in
      let alike : (other : Handle) → HoldAlike other x (with_standing (On on (Live native m.p2)) h x) =
      λ other. restood other x h (On on (Live native m.p2)) found.0 found.1 (passes-alike is_asked other on found.0 (Live native rights) (Live native m.p2) found.3 refl) (passes-alike is_subscribed other on found.0 (Live native rights) (Live native m.p2) found.3 refl) in
      let z : Client = with_standing (On on (Live native m.p2)) h x in
      quiet z [] e is (λ other differ. alike other) (λ f holds. holds-alike (Awaits c kept) on n x z (with_heard g c) (alike on) (holds-heard (Awaits c kept) on n x c g holds))

  -- SERVER_DISCONN
  pub left-did : (m : Fields) (e : Effect) (o : Option (Handle × Phase)) → channel_on x on m.p1 ≡ o → e ≡ left x on o → Did kept on n x c g e
  left-did m e None at is = nothing [] e is
  left-did m e (Some (h, Connecting)) at is = nothing [] e is
  left-did m e (Some (h, Creating rights)) at is = nothing [] e is
  left-did m e (Some (h, Leaving)) at is = nothing [] e is
  left-did m e (Some (h, Clearing)) at is = nothing [] e is
  left-did m e (Some (h, Doomed)) at is = nothing [] e is
  left-did m e (Some (h, Live native rights)) at is =
      let found = channel-on x on m.p1 h (Live native rights) at in
      cleared-one native.sid h (with_standing (On on Leaving) h (with_requests (request.channel_over h x.requests) x)) _ e is
      (λ other differ. left-elsewhere other x h on found.0 (Live native rights) found.1 found.3 differ)
      (λ f holds. (let r = removal-heard (Awaits c kept) on n x c g m.p1 h native rights holds at in ((r.0, tt), r.1)))

  -- CREATE_CHAN: the EVENT_ADDs of the channel's subscriptions
  adds-stamped : (sid : ℕ) (es : List (Handle × Subscription)) → map (stamped n) (map (λ (w : Handle × Subscription). event_add_sent on sid w.0 w.1) es) ≡ map (event_add_of n sid) es
  adds-stamped sid [] = refl
  adds-stamped sid (w ∷ es) = ap (λ (l : List Sent). event_add_of n sid w ∷ l) (adds-stamped sid es)

  no-add-creates : MeanToSubscribe n x.subscriptions → (sid : ℕ) (h : Handle) (i : ℕ) (s : Sent) (channel : ℕ) → At (map (stamped n) (event_adds on sid h x)) i s → s.intent ≡ history.On channel history.Create → ⊥
  no-add-creates meant sid h i s channel at creates =
      let was = At-mapped (stamped n) (event_adds on sid h x) i s at in
      let made = At-mapped (λ (w : Handle × Subscription). event_add_sent on sid w.0 w.1) (standing_to h x.subscriptions) i was.0 was.1 in
      let kept_in = at-filter (λ (w : Handle × Subscription). is_to h w.1 && stands_in w.1.stage) (held x.subscriptions) i made.0 made.1 in
      let m = meant made.0.0 made.0.1 (held-under x.subscriptions kept_in.0 made.0 kept_in.1) in
      not-create m.0 channel m.1 (sym m.2 ∙ sym (ap (λ (w : Sending). intent_of n w.aim) made.2) ∙ sym (ap (λ (w : Sent). w.intent) was.2) ∙ creates)
    where
      not-create : (a b k : ℕ) → history.On a (history.Subscribe k) ≡ history.On b history.Create → ⊥
      not-create a b k e = cc

  pub created-did : MeanToSubscribe n x.subscriptions → (m : Fields) (e : Effect) (o : Option (Handle × Phase)) → channel_on x on m.p1 ≡ o → e ≡ created x on m o → Did kept on n x c g e
  created-did meant m e None at is = nothing [] e is
  created-did meant m e (Some (h, Connecting)) at is = nothing [] e is
  created-did meant m e (Some (h, Leaving)) at is = nothing [] e is
  created-did meant m e (Some (h, Clearing)) at is = nothing [] e is
  created-did meant m e (Some (h, Live native rights)) at is = nothing [] e is
  created-did meant m e (Some (h, Doomed)) at is =
      let found = channel-on x on m.p1 h Doomed at in
      cleared-one m.p2 h (with_standing (On on Clearing) h x) [] e is
      (λ other differ. phase-elsewhere on other h x found.0 Doomed Clearing differ found.1 found.3)
      (λ f holds. (let r = doomed-heard (Awaits c kept) on n x c g m.p1 h m.p2 holds at in ((r.0, tt), r.1)))
  created-did meant m e (Some (h, Creating rights)) at is =
      let found = channel-on x on m.p1 h (Creating rights) at in
      let z : Client = with_standing (On on (Live (native_in m) rights)) h x in
      let sends : List Sending = event_adds on m.p2 h x in
      let stamps : map (stamped n) sends ≡ map (event_add_of n m.p2) (standing_to h x.subscriptions) = adds-stamped m.p2 (standing_to h x.subscriptions) in
      record {
        sends = sends;
        z = z;
        core_is = ap (λ (w : Effect). w.core) is;
        sent_is = ap (λ (w : Effect). w.sent) is;
        all_on = λ i s at. (let was = At-mapped (λ (w : Handle × Subscription). event_add_sent on m.p2 w.0 w.1) (standing_to h x.subscriptions) i s at in ap (λ (w : Sending). w.circuit) was.2);
        no_creates = no-add-creates meant m.p2 h;
        far = λ other differ. phase-elsewhere on other h x found.0 (Creating rights) (Live (native_in m) rights) differ found.1 found.3;
        near = λ f holds.
            subst (λ (l : List Sent). MaySendAll (Awaits c kept) (with_heard g c) l × Holds (Awaits c kept) on n (sending sends z) (with_all_sent l (with_heard g c))) (sym stamps)
            (live-heard (Awaits c kept) on n x c g m.p1 h m.p2 (native_in m) rights rights meant holds at);
      }

  -- a message that is no access rights, no SERVER_DISCONN and no EVENT_ADD is a reply
  replies : (m : Fields) (k : IsKnown n x on c m) (a : ℕ) → m.command ≡ a → (22 ≡ a → ⊥) → (27 ≡ a → ⊥) → (1 ≡ a → ⊥) → k.t.cause ≡ history.Reply
  replies m k a is no22 no27 no1 = k.reply (λ e. no22 (sym e ∙ is)) (λ e. no27 (sym e ∙ is)) (λ e. absurd (no1 (sym e ∙ is)))

  failure-of : (m : Fields) (h : Handle) (p : Phase) → Is command.CreateChannelFail m → IsKnown n x on c m → channel_on x on m.p1 ≡ Some (h, p) → is_asked p ≡ true → is_subscribed p ≡ false → Flows (Awaits c kept) c → Holds (Awaits c kept) on n x c
      → Holds (Awaits c kept) on n (without_channel x h) (with_heard g c) × Holds (Awaits c kept) on n (searched_again x h) (with_heard g c)
  failure-of m h p fails k at asked header_only f holds =
      let own = k.failed h p fails at in
      failure-heard (Awaits c kept) on n x c g k.t k.s h p f holds k.at (replies m k 26 fails (λ e. omega (arith, e)) (λ e. omega (arith, e)) (λ e. omega (arith, e)))
      (subst (λ (w : Fields). Is command.CreateChannelFail w) (sym k.is) fails) k.there own.0 own.1 (subst (λ (w : Fields). channel_on x on w.p1 ≡ Some (h, p)) (sym k.is) at) asked header_only

  answer-of : (m : Fields) (h : Handle) (p : Phase) → Is command.ClearChannel m → IsKnown n x on c m → channel_on x on m.p2 ≡ Some (h, p) → is_asked p ≡ true → Flows (Awaits c kept) c → Holds (Awaits c kept) on n x c
      → Holds (Awaits c kept) on n (without_channel (without_drained on h x) h) (with_heard g c) × Holds (Awaits c kept) on n (searched_again (without_drained on h x) h) (with_heard g c)
  answer-of m h p clears k at asked f holds =
      let own = k.cleared h p clears at in
      answered-heard (Awaits c kept) on n x c g k.t k.s h p f holds k.own k.at (replies m k 12 clears (λ e. omega (arith, e)) (λ e. omega (arith, e)) (λ e. omega (arith, e)))
      k.there own.0 own.1 (subst (λ (w : Fields). channel_on x on w.p2 ≡ Some (h, p)) (sym k.is) at) asked

  -- CREATE_CH_FAIL
  pub failed-did : (m : Fields) (e : Effect) (o : Option (Handle × Phase)) → Is command.CreateChannelFail m → IsKnown n x on c m → channel_on x on m.p1 ≡ o → e ≡ failed x o → Did kept on n x c g e
  failed-did m e None fails k at is = nothing [] e is
  failed-did m e (Some (h, Connecting)) fails k at is = nothing [] e is
  failed-did m e (Some (h, Live native rights)) fails k at is = nothing [] e is
  failed-did m e (Some (h, Leaving)) fails k at is = nothing [] e is
  failed-did m e (Some (h, Clearing)) fails k at is = nothing [] e is
  failed-did m e (Some (h, Creating rights)) fails k at is =
      let found = channel-on x on m.p1 h (Creating rights) at in
      quiet (searched_again x h) [] e is (λ other differ. (gone-elsewhere on other h x found.0 (Creating rights) differ found.1 found.3).1)
      (λ f holds. (failure-of m h (Creating rights) fails k at refl refl f holds).1)
  failed-did m e (Some (h, Doomed)) fails k at is =
      let found = channel-on x on m.p1 h Doomed at in
      quiet (without_channel x h) [] e is (λ other differ. (gone-elsewhere on other h x found.0 Doomed differ found.1 found.3).0)
      (λ f holds. (failure-of m h Doomed fails k at refl refl f holds).0)

  -- CLEAR_CHANNEL
  pub answered-did : Attached x → (m : Fields) (e : Effect) (o : Option (Handle × Phase)) → Is command.ClearChannel m → IsKnown n x on c m → channel_on x on m.p2 ≡ o → e ≡ clear_answered x on o → Did kept on n x c g e
  answered-did attached m e None clears k at is = nothing [] e is
  answered-did attached m e (Some (h, Connecting)) clears k at is = nothing [] e is
  answered-did attached m e (Some (h, Live native rights)) clears k at is = nothing [] e is
  answered-did attached m e (Some (h, Creating rights)) clears k at is = nothing [] e is
  answered-did attached m e (Some (h, Doomed)) clears k at is = nothing [] e is
  answered-did attached m e (Some (h, Clearing)) clears k at is =
      let found = channel-on x on m.p2 h Clearing at in
      quiet (without_channel (without_drained on h x) h) [] e is (λ other differ. (answered-elsewhere on other h x found.0 Clearing differ attached found.1 found.3).0)
      (λ f holds. (answer-of m h Clearing clears k at refl f holds).0)
  answered-did attached m e (Some (h, Leaving)) clears k at is =
      let found = channel-on x on m.p2 h Leaving at in
      quiet (searched_again (without_drained on h x) h) [] e is (λ other differ. (answered-elsewhere on other h x found.0 Leaving differ attached found.1 found.3).1)
      (λ f holds. (answer-of m h Leaving clears k at refl f holds).1)
