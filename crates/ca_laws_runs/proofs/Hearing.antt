-- A message that a client reads: in which way the client speaks on each circuit then.
use Rattle.std.proofs.Common.{◌≡◌, ℕ, ◌+◌, ◌<◌, ◌≤◌, ◌⊎◌, inl, inr, Bool, true, false, ◌&&◌, cond, eqb, List, [], ◌∷◌, length, Option, Some, None, refl, sym, ap, ◌∙◌, subst, arith}
use Rattle.std.specs.Prelude.{map, option_and_then, option_map, unwrap_or}
use Rattle.std.proofs.lemmas.Bool.{and_parts, both_ways}
use Rattle.std.specs.List.{list_any}
use Rattle.ca_text.specs.Command.{command_number}
use Rattle.ca_text.specs.declared.command.Command.{Command}
use Rattle.ca_text.specs.declared.command.Command.TheVariants as command
use Rattle.ca_text.specs.Place.{At}
use Rattle.ca_text.proofs.Places.{At-mapped, At-one, At-within}
use Rattle.ca_arena.specs.declared.handle.Handle.{Handle}
use Rattle.ca_ids.specs.Table.{by_wire, held, under}
use Rattle.ca_ids.specs.Wire.{wire_of}
use Rattle.ca_monitor.specs.Subscriptions.{Subscription, is_to, standing_to, stands_in}
use Rattle.ca_requests.specs.Requests.{Request}
use Rattle.ca_requests.specs.Requests as request
use Rattle.ca_monitor.specs.Subscriptions.{confirmed_by}
use Rattle.ca_requests.specs.Requests.{answered_by}
use Rattle.ca_wire.specs.Fields.{Fields}
use Rattle.ca_wire.specs.declared.header.Header.{Header}
use Rattle.ca_model.specs.Answers.{Notice, Sending}
use Rattle.ca_model.specs.Client.{Channel, Client, Clearing, Connecting, Creating, Doomed, Leaving, Live, Native, On, Phase, channel_on, is_live, phase_on, searched_again, sending, with_standing, without_channel}
use Rattle.ca_model.specs.ClientCalls.{clear_sent, event_add_sent}
use Rattle.ca_model.specs.Hears.{Answers, Completes, Effect, Fails, Hears, Updates, any_failed, clear_answered, confirmed, created, doing, event_adds, failed, found_at, subscription_on, left, native_in, request_failed, rights_told, searched_by, subscription_failed, understood, without_drained, without_request, without_subscription, write_failed}
use Rattle.ca_model.specs.Hears as hears
use Rattle.ca_model.specs.History.{Ask, Circuit, Clear, Create, Reply, Sent, Step, Subscribe, Told}
use Rattle.ca_model.specs.History as history
use Rattle.ca_model.specs.Speech.{Cid, Creates, Is, Speaks, sid_in}
use Rattle.ca_model.specs.Channels.{Suits}
use Rattle.ca_model.proofs.Handles.{handle-or, same-is, same-itself}
use Rattle.ca_model.proofs.Standings.{channel-on}
use Rattle.ca_model.proofs.Tables.{held-under, length-more, under-wire}
use Rattle.ca_model.proofs.Thinner.{three-ways}
use Rattle.ca_model.specs.ClientEvents.{channel_number}
use Rattle.ca_model.specs.World.{Names}
use Rattle.ca_laws_parts.specs.Flows.{Awaits, Flows, with_heard}
use Rattle.ca_laws_parts.specs.Held.{Holds, is_asked}
use Rattle.ca_laws_parts.specs.Sids.{IsClearedWithin}
use Rattle.ca_laws_parts.proofs.Marks.{at-filter}
use Rattle.ca_laws_parts.specs.Circuit.{AreCids, AreNumbered, stamped}
use Rattle.ca_laws_runs.proofs.Found.{create-is, found-intent}
use Rattle.ca_laws_runs.specs.Quiet.{IsBeingCleared, IsBeingCreated, Quiet, Tidy}
use Rattle.ca_laws_runs.proofs.Heard.{created-before}
use Rattle.ca_laws_runs.proofs.Says.{one-handle, said}
use Rattle.ca_laws_runs.specs.Under.{IsCreatedBefore, IsUse}
use Rattle.ca_laws_runs.specs.Sides.{IsLiveAs, Right, Sides}
use Rattle.ca_laws_runs.proofs.Calls.{calm-finds, one-said, said-at, way-cleared, way-silent}
use Rattle.ca_laws_runs.proofs.Live.{NoLive, SameLive, live-itself, made-live, none-live, live-as, channels-sending, not-phase, one-sid, other-back, other-there, same-again, same-gone, same-rights, same-stood, stood-none}
use Rattle.ca_laws_runs.proofs.Ways.{Way}

-- ---- all messages but the reply to a CREATE_CHAN

pub unlike : (m : Fields) (a : ℕ) → eqb a 18 ≡ false → m.command ≡ a → m.command ≡ 18 → ⊥
unlike m a none is creates = both_ways (eqb a 18) none (ap (λ (v : ℕ). eqb v 18) (sym is ∙ creates))

pub others : (m : Fields) → list_any (λ (k : Command). eqb m.command (command_number k)) understood ≡ false → m.command ≡ 18 → ⊥
others m none creates = both_ways (list_any (λ (k : Command). eqb m.command (command_number k)) understood) none (ap (λ (v : ℕ). list_any (λ (k : Command). eqb v (command_number k)) understood) creates)

module _ (n : Names) (x : Client) (numbered : AreNumbered n x) (on : Handle) where
  abbrev Spoken : Effect → Type 0
  Spoken e = Way on n x (said n on e.sent) e.core

  quietly : (z : Client) (notices : List Notice) (e : Effect) → e ≡ doing [] notices z → SameLive on x.channels z.channels → Spoken e
  quietly z notices e is same = subst (λ (v : Effect). Spoken v) (sym is) (way-silent on n x z same)

  nothing : (notices : List Notice) (e : Effect) → e ≡ doing [] notices x → Spoken e
  nothing notices e is = quietly x notices e is (live-itself on x.channels)

  module _ (c : Handle) where
    idle : (cid : ℕ) (h : Handle) (p : Phase) → channel_on x c cid ≡ Some (h, p) → is_live p ≡ false → NoLive x.channels on h
    idle cid h p at none = (let f = channel-on x c cid h p at in none-live x.channels on h f.0 f.1 (λ m r e. not-phase c on p none m r (sym f.3 ∙ e)))

    spoken-rights : (m : Fields) (e : Effect) (o : Option (Handle × Phase)) → channel_on x c m.p1 ≡ o → e ≡ rights_told x c m o → Spoken e
    spoken-rights m e None at is = nothing [] e is
    spoken-rights m e (Some (h, Connecting)) at is = nothing [] e is
    spoken-rights m e (Some (h, Leaving)) at is = nothing [] e is
    spoken-rights m e (Some (h, Clearing)) at is = nothing [] e is
    spoken-rights m e (Some (h, Doomed)) at is = nothing [] e is
    spoken-rights m e (Some (h, Creating rights)) at is = quietly (with_standing (On c (Creating m.p2)) h x) [] e is (same-stood (On c (Creating m.p2)) h x.channels on (idle m.p1 h (Creating rights) at refl) (not-phase c on (Creating m.p2) refl))
    spoken-rights m e (Some (h, Live native rights)) at is =
        let f = channel-on x c m.p1 h (Live native rights) at in
        quietly (with_standing (On c (Live native m.p2)) h x) [] e is (same-rights x.channels c on h f.0 native rights m.p2 f.1 f.3)

    spoken-failed : (m : Fields) (e : Effect) (o : Option (Handle × Phase)) → channel_on x c m.p1 ≡ o → e ≡ failed x o → Spoken e
    spoken-failed m e None at is = nothing [] e is
    spoken-failed m e (Some (h, Connecting)) at is = nothing [] e is
    spoken-failed m e (Some (h, Live native rights)) at is = nothing [] e is
    spoken-failed m e (Some (h, Leaving)) at is = nothing [] e is
    spoken-failed m e (Some (h, Clearing)) at is = nothing [] e is
    spoken-failed m e (Some (h, Creating rights)) at is = quietly (searched_again x h) [] e is (same-again on x h (idle m.p1 h (Creating rights) at refl))
    spoken-failed m e (Some (h, Doomed)) at is = quietly (without_channel x h) [] e is (same-gone on x h (idle m.p1 h Doomed at refl))

    spoken-answered : (m : Fields) (e : Effect) (o : Option (Handle × Phase)) → channel_on x c m.p2 ≡ o → e ≡ clear_answered x c o → Spoken e
    spoken-answered m e None at is = nothing [] e is
    spoken-answered m e (Some (h, Connecting)) at is = nothing [] e is
    spoken-answered m e (Some (h, Live native rights)) at is = nothing [] e is
    spoken-answered m e (Some (h, Creating rights)) at is = nothing [] e is
    spoken-answered m e (Some (h, Doomed)) at is = nothing [] e is
    spoken-answered m e (Some (h, Clearing)) at is = (let y : Client = without_drained c h x in quietly (without_channel y h) [] e is (same-gone on y h (idle m.p2 h Clearing at refl)))
    spoken-answered m e (Some (h, Leaving)) at is = (let y : Client = without_drained c h x in quietly (searched_again y h) [] e is (same-again on y h (idle m.p2 h Leaving at refl)))

    spoken-left : (m : Fields) (e : Effect) (o : Option (Handle × Phase)) → channel_on x c m.p1 ≡ o → e ≡ left x c o → Spoken e
    spoken-left m e None at is = nothing [] e is
    spoken-left m e (Some (h, Connecting)) at is = nothing [] e is
    spoken-left m e (Some (h, Creating rights)) at is = nothing [] e is
    spoken-left m e (Some (h, Leaving)) at is = nothing [] e is
    spoken-left m e (Some (h, Clearing)) at is = nothing [] e is
    spoken-left m e (Some (h, Doomed)) at is = nothing [] e is
    spoken-left m e (Some (h, Live native rights)) at is =
        let f = channel-on x c m.p1 h (Live native rights) at in
        subst (λ (v : Effect). Spoken v) (sym is) (way-cleared n x h f.0 c native rights Leaving _ numbered f.1 f.3 refl refl on)

    spoken-reply : (m : Fields) (e : Effect) (o : Option (Handle × Request)) → Answers x m o e → Spoken e
    spoken-reply m e None is = nothing [] e is
    spoken-reply m e (Some (q, r)) is = go r.stage is
      where
        go : (s : request.Stage) → Completes x m q r.asked s e → Spoken e
        go request.Open done = quietly (without_request q x) _ e done.2 (live-itself on x.channels)
        go request.Draining done = quietly (without_request q x) [] e done (live-itself on x.channels)

    spoken-confirmed : (e : Effect) (o : Option Handle) → e ≡ confirmed x o → Spoken e
    spoken-confirmed e None is = nothing [] e is
    spoken-confirmed e (Some q) is = quietly (without_subscription q x) [] e is (live-itself on x.channels)

    spoken-update : (m : Fields) (e : Effect) (o : Option Handle) → Updates x m o e → Spoken e
    spoken-update m e None is = nothing [] e is
    spoken-update m e (Some q) is = nothing _ e is.2

    spoken-write : (m : Fields) (e : Effect) (o : Option (Handle × Phase)) → e ≡ write_failed x m o → Spoken e
    spoken-write m e None is = nothing [] e is
    spoken-write m e (Some (h, Connecting)) is = nothing [] e is
    spoken-write m e (Some (h, Creating rights)) is = nothing [] e is
    spoken-write m e (Some (h, Live native rights)) is = nothing _ e is
    spoken-write m e (Some (h, Leaving)) is = nothing [] e is
    spoken-write m e (Some (h, Clearing)) is = nothing [] e is
    spoken-write m e (Some (h, Doomed)) is = nothing [] e is

    spoken-refused : (m : Fields) (e : Effect) (o : Option Handle) → e ≡ subscription_failed x m o → Spoken e
    spoken-refused m e None is = nothing [] e is
    spoken-refused m e (Some q) is = quietly (without_subscription q x) _ e is (live-itself on x.channels)

    spoken-any : (m : Fields) (e : Effect) (o : Option (Handle × Request)) → e ≡ any_failed x m o → Spoken e
    spoken-any m e None is = nothing [] e is
    spoken-any m e (Some (q, r)) is = go r.stage is
      where
        go : (s : request.Stage) → e ≡ request_failed x m q s → Spoken e
        go request.Open done = quietly (without_request q x) _ e done (live-itself on x.channels)
        go request.Draining done = nothing [] e done

    spoken-error : (m : Fields) (e : Effect) → Fails x c m e → Spoken e
    spoken-error m e fails = elim fails [
      | inr not_whole ↦ nothing [] e not_whole.1
      | inl whole ↦ by whole.0 (eqb whole.0.command 4) (eqb whole.0.command 1) whole.2
    ]
      where
        by : (h : Header) (a b : Bool) → e ≡ cond a (write_failed x m (channel_on x c m.p1)) (cond b (subscription_failed x m (subscription_on x c h.p2)) (any_failed x m (answered_by c h.command h.p2 x.requests))) → Spoken e
        by h true b is = spoken-write m e (channel_on x c m.p1) is
        by h false true is = spoken-refused m e (subscription_on x c h.p2) is
        by h false false is = spoken-any m e (answered_by c h.command h.p2 x.requests) is

    -- the message creates no channel, or this is its effect
    pub spoken : (m : Fields) (e : Effect) → Hears x c m e → (Is command.CreateChannel m × (e ≡ created x c m (channel_on x c m.p1))) ⊎ ((Is command.CreateChannel m → ⊥) × Spoken e)
    spoken m e (hears.CreateChannel is does) = inl (is, does)
    spoken m e (hears.Search is d there finds) = inr (λ z. unlike m 6 refl is z, inl ((calm-finds n x (found_at d.address m) m.p2 (searched_by m.p2 x) e numbered refl finds).calm on))
    spoken m e (hears.AccessRights is does) = inr (λ z. unlike m 22 refl is z, spoken-rights m e (channel_on x c m.p1) refl does)
    spoken m e (hears.CreateChannelFail is does) = inr (λ z. unlike m 26 refl is z, spoken-failed m e (channel_on x c m.p1) refl does)
    spoken m e (hears.ClearChannel is does) = inr (λ z. unlike m 12 refl is z, spoken-answered m e (channel_on x c m.p2) refl does)
    spoken m e (hears.ServerDisconnect is does) = inr (λ z. unlike m 27 refl is z, spoken-left m e (channel_on x c m.p1) refl does)
    spoken m e (hears.Reply is does) = inr (λ z. elim is [ inl reads ↦ unlike m 15 refl reads z | inr puts ↦ unlike m 19 refl puts z ], spoken-reply m e (answered_by c m.command m.p2 x.requests) does)
    spoken m e (hears.Confirmation is empty does) = inr (λ z. unlike m 1 refl is z, spoken-confirmed e (confirmed_by c m.p2 x.subscriptions) does)
    spoken m e (hears.Update is some does) = inr (λ z. unlike m 1 refl is z, spoken-update m e (subscription_on x c m.p2) does)
    spoken m e (hears.Error is does) = inr (λ z. unlike m 11 refl is z, spoken-error m e does)
    spoken m e (hears.Other is does) = inr (λ z. others m is z, nothing [] e does)

-- ---- the reply to a CREATE_CHAN

module _ (ps : List ℕ) (n : Names) (x : Client) (on : Handle) (c : Circuit) (t : Told) (s : Sent) (m : Fields) (tidy : Tidy n x) (quiet : Quiet n x on c.up) (flows : Flows (Awaits c ps) c) (cids : AreCids n c) (holds : Holds (Awaits c ps) on n x c)
    (at : At c.down (length c.heard) t) (sent : At c.up t.place s) (message : t.message ≡ m) (reply : t.cause ≡ Reply) (is_creation : Is command.CreateChannel m) (asks : Is command.CreateChannel s.message)
    (once : (i sid other : ℕ) (u : Told) → At c.down i u → u.cause ≡ Reply → Creates u.message other → u.place ≡ t.place → i ≡ length c.heard)
    (waits : (cid : ℕ) (h : Handle) → channel_on x on cid ≡ Some (h, Connecting) → ⊥) (sides : Sides n x on c) (right : Right c) (g : Step) where
  creates : Creates t.message m.p2
  creates = (ap (λ (v : Fields). v.command) message ∙ is_creation, ap (λ (v : Fields). v.p2) message)

  speaks : Speaks t.message (Cid m.p1)
  speaks = inl (inl (inl creates.0, ap (λ (v : Fields). v.p1) message))

  abbrev now : Circuit
  now = with_heard g c

  longer : length now.heard ≡ length c.heard + 1
  longer = length-more c.heard g

  -- the message that it is about
  about : (h : Handle) (p : Phase) → channel_on x on m.p1 ≡ Some (h, p) → is_asked p ≡ true → s.intent ≡ history.On (channel_number n h) Create
  about h p found asked =
      let r = found-intent ps n x on c t s m.p1 h p holds.channels flows at sent speaks found asked in
      r.1 ∙ ap (λ (a : Ask). history.On (channel_number n h) a) (create-is r.0 s.message (subst (λ (i : _). Suits i s.message) r.1 (flows.asked t.place s sent)) asks)

  before : (h : Handle) (p : Phase) (k : ℕ) (r : Sent) → channel_on x on m.p1 ≡ Some (h, p) → At c.up k r → r.intent ≡ history.On (channel_number n h) Create → k ≤ t.place
  before h p k r found there is = created-before ps n x on c t s tidy quiet flows cids holds at sent m.p1 h p k found speaks (r, there, is)

  no-use : (ask : Ask) → ask ≡ Create → IsUse ask → ⊥
  no-use ask is uses = subst (λ (z : Ask). IsUse z) is uses

  -- It was the last that was sent on the channel.
  last : (h : Handle) (p : Phase) → channel_on x on m.p1 ≡ Some (h, p) → is_asked p ≡ true → (b : IsBeingCreated c.up (channel_number n h)) → b.0 ≡ t.place
  last h p found asked b = elim (three-ways b.0 t.place) [
    | inr (inl same) ↦ same
    | inr (inr late) ↦ absurd (let le : b.0 ≤ t.place = before h p b.0 b.1.0 found b.1.1 b.1.2 in omega (arith, le, late))
    | inl early ↦ absurd (b.2 t.place s Create early sent (about h p found asked))
  ]

  -- what was answered before stays so
  as-before : (z : Client) → ((h : Handle) (sid : ℕ) → IsLiveAs x.channels on h sid → IsLiveAs z.channels on h sid)
      → ((sid a : ℕ) → Creates t.message sid → s.intent ≡ history.On a Create → IsClearedWithin c.up sid t.place (length c.up) ⊎ ((h : Handle) × (channel_number n h ≡ a) × IsLiveAs z.channels on h sid))
      → (i sid a : ℕ) (u : Told) (r : Sent) → i < length now.heard → At now.down i u → u.cause ≡ Reply → Creates u.message sid → At now.up u.place r → r.intent ≡ history.On a Create
      → IsClearedWithin now.up sid u.place (length now.up) ⊎ ((h : Handle) × (channel_number n h ≡ a) × IsLiveAs z.channels on h sid)
  as-before z stays own i sid a u r lt told why creates_u there is = elim (three-ways i (length c.heard)) [
    | inl early ↦ elim (sides.answered i sid a u r early told why creates_u there is) [
      | inl cleared ↦ inl cleared
      | inr live ↦ inr (live.0, live.1, stays live.0 sid live.2)
    ]
    | inr (inl same) ↦
        let one : u ≡ t = At-one c.down (length c.heard) u t (subst (λ (v : ℕ). At c.down v u) same told) at in
        let r_is : r ≡ s = At-one c.up t.place r s (subst (λ (v : Told). At c.up v.place r) one there) sent in
        elim (own sid a (subst (λ (v : Told). Creates v.message sid) one creates_u) (ap (λ (v : Sent). v.intent) (sym r_is) ∙ is)) [
          | inl cleared ↦ inl (subst (λ (v : Told). IsClearedWithin c.up sid v.place (length c.up)) (sym one) cleared)
          | inr live ↦ inr live
        ]
    | inr (inr late) ↦ absurd (let e : length now.heard ≡ length c.heard + 1 = longer in omega (arith, late, lt, e))
  ]

  created-now : (a j k sid p : ℕ) → IsCreatedBefore c a j k sid p → IsCreatedBefore now a j k sid p
  created-now a j k sid p h = record { t = h.t; r = h.r; told = h.told; asked = h.asked; early = h.early; since = h.since }

  lives-now : (h : Handle) (sid : ℕ) → IsLiveAs x.channels on h sid → (j k : ℕ) × (j < length now.heard) × IsCreatedBefore now (channel_number n h) j k sid (length now.up)
  lives-now h sid l = (let b = sides.lives h sid l in (b.0, b.1, (let e : length now.heard ≡ length c.heard + 1 = longer in let lt : b.0 < length c.heard = b.2 in omega (arith, lt, e)), created-now (channel_number n h) b.0 b.1 sid (length c.up) b.3))

  pub right-now : Right now
  right-now = record {
    under = λ p a r ask there is other. (let b = right.under p a r ask there is other in (b.0, b.1, created-now a b.0 b.1 (sid_in r.message) p b.2));
    read = λ p a r ask there is other.
        let b = right.read p a r ask there is other in
        let e : length now.heard ≡ length c.heard + 1 = longer in
        let lt : b.0 < length c.heard = b.2 in
        (b.0, b.1, omega (arith, lt, e), created-now a b.0 b.1 (sid_in r.message) p b.3);
    between = right.between;
    turn = right.turn;
  }

  abbrev Heard : (sent : List Sending) (z : Client) → Type 0
  Heard sent z = (y : Client) × Sides n y on now × Way on n y (said n on sent) z

  -- a channel that is being created is live now
  module _ (h : Handle) (p : Phase) (found : channel_on x on m.p1 ≡ Some (h, p)) (asked : is_asked p ≡ true) (idle : is_live p ≡ false) (b : IsBeingCreated c.up (channel_number n h)) (rights : ℕ) where
    abbrev native : Native
    native = native_in m

    abbrev made : Client
    made = with_standing (On on (Live native rights)) h x

    ch : (w : Channel) × (under x.channels h ≡ Some w) × (wire_of h ≡ m.p1) × (w.standing ≡ On on p)
    ch = channel-on x on m.p1 h p found

    was-none : NoLive x.channels on h
    was-none = none-live x.channels on h ch.0 ch.1 (λ v r e. not-phase on on p idle v r (sym ch.3 ∙ e))

    pub is-live : IsLiveAs made.channels on h m.p2
    is-live = made-live x.channels on h ch.0 native rights ch.1

    same-or-own : (k : Handle) (sid : ℕ) → IsLiveAs made.channels on k sid → ((k ≡ h) × (m.p2 ≡ sid)) ⊎ IsLiveAs x.channels on k sid
    same-or-own k sid l = elim (handle-or k h) [
      | inl same ↦ inl (same, (one-sid made.channels on on h m.p2 sid is-live (subst (λ (v : Handle). IsLiveAs made.channels on v sid) same l)).1)
      | inr other ↦ inr (other-back (On on (Live native rights)) h x.channels on k sid other l)
    ]

    stays : (k : Handle) (sid : ℕ) → IsLiveAs x.channels on k sid → IsLiveAs made.channels on k sid
    stays k sid l = elim (handle-or k h) [
      | inl same ↦ absurd (was-none sid (subst (λ (v : Handle). IsLiveAs x.channels on v sid) same l))
      | inr other ↦ other-there (On on (Live native rights)) h x.channels on k sid other l
    ]

    place-is : b.0 ≡ t.place
    place-is = last h p found asked b

    own-created : IsCreatedBefore now (channel_number n h) (length c.heard) b.0 m.p2 (length c.up)
    own-created = record {
      t = t;
      r = b.1.0;
      told = (at, sym place-is, reply, creates);
      asked = (b.1.1, b.1.2);
      early = At-within c.up b.0 b.1.0 b.1.1;
      since = λ l q ask after upto there is. absurd (b.2 l q ask after there is);
    }

    pub sides-made : Sides n made on now
    sides-made = record {
      lives = λ k sid l. elim (same-or-own k sid l) [
        | inr old ↦ lives-now k sid old
        | inl own ↦ (
          length c.heard,
          b.0,
          (let e : length now.heard ≡ length c.heard + 1 = longer in omega (arith, e)),
          subst (λ (v : Handle × ℕ). IsCreatedBefore now (channel_number n v.0) (length c.heard) b.0 v.1 (length c.up)) (λ i. (sym own.0 i, own.1 i)) own-created,
        )
      ];
      answered = as-before made stays
          (λ sid a creates_t is. inr (h, number-of (channel_number n h) a (sym (about h p found asked) ∙ is), subst (λ (v : ℕ). IsLiveAs made.channels on h v) (sym creates.1 ∙ creates_t.1) is-live));
    }
      where
        number-of : (a b : ℕ) → history.On a Create ≡ history.On b Create → a ≡ b
        number-of a b e = cc

  -- it was answered before, or its channel is being cleared: nothing happens
  unchanged : ((sid a : ℕ) → Creates t.message sid → s.intent ≡ history.On a Create → IsClearedWithin c.up sid t.place (length c.up) ⊎ ((h : Handle) × (channel_number n h ≡ a) × IsLiveAs x.channels on h sid)) → (e : Effect) → e ≡ doing [] [] x
      → Heard e.sent e.core
  unchanged own e is = subst (λ (v : Effect). Heard v.sent v.core) (sym is) (x, record { lives = lives-now; answered = as-before x (λ h sid l. l) own }, way-silent on n x x (live-itself on x.channels))

  clearing : (h : Handle) (p : Phase) → channel_on x on m.p1 ≡ Some (h, p) → is_asked p ≡ true → IsBeingCleared c.up (channel_number n h) → (e : Effect) → e ≡ doing [] [] x → Heard e.sent e.core
  clearing h p found asked b e is =
      let number : ℕ = channel_number n h in
      let q : Sent = b.3.0 in
      let own = right.under b.1 number q Clear b.3.1 b.3.2 (λ z. clear-not z) in
      let o : IsCreatedBefore c number own.0 own.1 (sid_in q.message) b.1 = own.2 in
      let early : own.1 < b.1 = o.early in
      let place : own.1 ≡ t.place = elim (three-ways own.1 t.place) [
        | inr (inl same) ↦ same
        | inr (inr late) ↦ absurd (let le : own.1 ≤ t.place = before h p own.1 o.r found o.asked.0 o.asked.1 in omega (arith, le, late))
        | inl first ↦ elim (three-ways t.place b.1) [
          | inl between ↦ absurd (no-use Create refl (o.since t.place s Create first between sent (about h p found asked)))
          | inr (inl same) ↦ absurd (clear-not (ask-of number number Clear Create (sym b.3.2 ∙ ap (λ (v : Sent). v.intent) (At-one c.up t.place q s (subst (λ (v : ℕ). At c.up v q) (sym same) b.3.1) sent) ∙ about h p found asked)))
          | inr (inr after) ↦ absurd (b.4 t.place s Create after sent (about h p found asked))
        ]
      ] in
      let index : own.0 ≡ length c.heard = once own.0 (sid_in q.message) (sid_in q.message) o.t o.told.0 o.told.2 o.told.3 (o.told.1 ∙ place) in
      let one : o.t ≡ t = At-one c.down (length c.heard) o.t t (subst (λ (v : ℕ). At c.down v o.t) index o.told.0) at in
      unchanged (λ sid a creates_t is_t. inl (
        b.1,
        q,
        subst (λ (v : ℕ). v < b.1) place early,
        At-within c.up b.1 q b.3.1,
        b.3.1,
        (subst (λ (i : _). Suits i q.message) b.3.2 (flows.asked b.1 q b.3.1), sym o.told.3.1 ∙ ap (λ (v : Told). v.message.p2) one ∙ creates_t.1),
      )) e is
    where
      clear-not : Clear ≡ Create → ⊥
      clear-not z = cc

      ask-of : (a b : ℕ) (p q : Ask) → history.On a p ≡ history.On b q → p ≡ q
      ask-of a b p q e = cc

  -- a channel has its CID
  missing : channel_on x on m.p1 ≡ None → ⊥
  missing none =
      let held_by = holds.channels.busy t.place m.p1 (inr (length c.heard, t, at, omega arith, refl, speaks)) in
      let wire = under-wire x.channels held_by.0 held_by.1 holds.channels.few held_by.2 in
      go held_by.0 held_by.1 (phase_on on (held_by.1).standing) refl held_by.4 (subst (λ (v : ℕ). by_wire x.channels v ≡ Some (held_by.0, held_by.1)) held_by.3 wire)
    where
      some-none : (e : Handle × Phase) → let a : Option (Handle × Phase) = Some e in let b : Option (Handle × Phase) = None in a ≡ b → ⊥
      some-none e is = cc

      go : (h : Handle) (v : Channel) (o : Option Phase) → phase_on on v.standing ≡ o → unwrap_or (option_map is_asked o) false ≡ true → by_wire x.channels m.p1 ≡ Some (h, v) → ⊥
      go h v None is asked found = both_ways false refl asked
      go h v (Some p) is asked found =
          some-none (h, p) (ap (λ (o : Option Phase). option_map (λ (q : Phase). (h, q)) o) (sym is) ∙ ap (λ (o : Option (Handle × Channel)). option_and_then (λ (e : Handle × Channel). option_map (λ (q : Phase). (e.0, q)) (phase_on on e.1.standing)) o) (sym found) ∙ none)

  pub heard-created : (e : Effect) (o : Option (Handle × Phase)) → channel_on x on m.p1 ≡ o → e ≡ created x on m o → Heard e.sent e.core
  heard-created e None found is = absurd (missing found)
  heard-created e (Some (h, Connecting)) found is = absurd (waits m.p1 h found)
  heard-created e (Some (h, Live native rights)) found is =
      let w = channel-on x on m.p1 h (Live native rights) found in
      let l : IsLiveAs x.channels on h native.sid = record { ch = w.0; native = native; rights = rights; there = w.1; stands = w.3; is = refl } in
      let b = sides.lives h native.sid l in
      let k_is : b.1 ≡ t.place = elim (three-ways b.1 t.place) [
        | inr (inl same) ↦ same
        | inr (inr late) ↦ absurd (let le : b.1 ≤ t.place = before h (Live native rights) b.1 (b.3).r found (b.3).asked.0 (b.3).asked.1 in omega (arith, le, late))
        | inl early ↦ absurd (no-use Create refl ((b.3).since t.place s Create early (At-within c.up t.place s sent) sent (about h (Live native rights) found refl)))
      ] in
      let index : b.0 ≡ length c.heard = once b.0 native.sid native.sid (b.3).t (b.3).told.0 (b.3).told.2 (b.3).told.3 ((b.3).told.1 ∙ k_is) in
      absurd (let lt : b.0 < length c.heard = b.2 in omega (arith, lt, index))
  heard-created e (Some (h, Leaving)) found is = (let w = channel-on x on m.p1 h Leaving found in clearing h Leaving found refl (quiet.channels h w.0 w.1 Leaving w.3) e is)
  heard-created e (Some (h, Clearing)) found is = (let w = channel-on x on m.p1 h Clearing found in clearing h Clearing found refl (quiet.channels h w.0 w.1 Clearing w.3) e is)
  heard-created e (Some (h, Creating rights)) found is =
      let w = channel-on x on m.p1 h (Creating rights) found in
      let b : IsBeingCreated c.up (channel_number n h) = quiet.channels h w.0 w.1 (Creating rights) w.3 in
      let z : Client = with_standing (On on (Live (native_in m) rights)) h x in
      subst (λ (v : Effect). Heard v.sent v.core) (sym is) (
        z,
        sides-made h (Creating rights) found refl refl b rights,
        inr (inl (record {
          same = live-as-sent z (event_adds on m.p2 h x);
          h = h;
          sid = m.p2;
          live = is-live h (Creating rights) found refl refl b rights;
          uses = λ i r there. uses-adds h (event_adds on m.p2 h x) (λ l v in_it. adds h l v in_it) i r there;
        })),
      )
    where
      live-as-sent : (z : Client) (sends : List Sending) → SameLive on z.channels (sending sends z).channels
      live-as-sent z sends = live-as on z.channels (sending sends z).channels (channels-sending sends z)

      adds : (h : Handle) (i : ℕ) (v : Sending) → At (event_adds on m.p2 h x) i v → (number : ℕ) × ((stamped n v).intent ≡ history.On (channel_number n h) (Subscribe number)) × (v.message.p1 ≡ m.p2)
      adds h i v place =
          let was = At-mapped (λ (w : Handle × Subscription). event_add_sent on m.p2 w.0 w.1) (standing_to h x.subscriptions) i v place in
          let k = at-filter (λ (w : Handle × Subscription). is_to h w.1 && stands_in w.1.stage) (held x.subscriptions) i was.0 was.1 in
          let row : under x.subscriptions (was.0).0 ≡ Some (was.0).1 = held-under x.subscriptions k.0 was.0 k.1 in
          let both = and_parts (is_to h (was.0).1) (stands_in ((was.0).1).stage) k.2 in
          let meant = tidy.subscriptions (was.0).0 (was.0).1 row in
          let channel : ((was.0).1).channel ≡ h = same-is ((was.0).1).channel h both.0 in (
            meant.0,
            ap (λ (w : Sending). (stamped n w).intent) was.2 ∙ meant.2 ∙ ap (λ (w : Handle). history.On (channel_number n w) (Subscribe meant.0)) channel,
            ap (λ (w : Sending). w.message.p1) was.2,
          )

      uses-adds : (h : Handle) (sends : List Sending) → ((i : ℕ) (v : Sending) → At sends i v → (number : ℕ) × ((stamped n v).intent ≡ history.On (channel_number n h) (Subscribe number)) × (v.message.p1 ≡ m.p2)) → (i : ℕ) (r : Sent) → At (said n on sends) i r
          → (ask : Ask) × (r.intent ≡ history.On (channel_number n h) ask) × IsUse ask × (sid_in r.message ≡ m.p2)
      uses-adds h sends all i r there = (let f = said-at n on sends i r there in let a = all f.0 f.1 f.2 in (Subscribe a.0, ap (λ (v : Sent). v.intent) f.3 ∙ a.1, tt, ap (λ (v : Sent). sid_in v.message) f.3 ∙ a.2))
  heard-created e (Some (h, Doomed)) found is =
      let w = channel-on x on m.p1 h Doomed found in
      let b : IsBeingCreated c.up (channel_number n h) = quiet.channels h w.0 w.1 Doomed w.3 in
      let z : Client = with_standing (On on (Live (native_in m) 0)) h x in
      let wire = one-said n on (clear_sent on m.p2 h) in
      subst (λ (v : Effect). Heard v.sent v.core) (sym is) (
        z,
        sides-made h Doomed found refl refl b 0,
        inr (inr (record {
          h = h;
          sid = m.p2;
          live = is-live h Doomed found refl refl b 0;
          gone = λ other l. stood-none (On on Clearing) h x.channels on (not-phase on on Clearing refl) other l;
          others = λ k other away. (
            λ l. other-there (On on Clearing) h x.channels on k other away (other-back (On on (Live (native_in m) 0)) h x.channels on k other away l),
            λ l. other-there (On on (Live (native_in m) 0)) h x.channels on k other away (other-back (On on Clearing) h x.channels on k other away l),
          );
          alone = λ k other l e. one-handle n k h (numbered-live h k other l (tidy.numbered h w.0 w.1)) (tidy.numbered h w.0 w.1) e;
          s = stamped n (clear_sent on m.p2 h);
          only = said-here h;
          clears = (refl, refl);
          is = refl;
        })),
      )
    where
      said-here : (h : Handle) → said n on (clear_sent on m.p2 h ∷ []) ≡ stamped n (clear_sent on m.p2 h) ∷ []
      said-here h = ap (λ (v : Bool). map (stamped n) (cond v (clear_sent on m.p2 h ∷ []) [])) (same-itself on)

      numbered-live : (h k : Handle) (other : ℕ) → IsLiveAs (with_standing (On on (Live (native_in m) 0)) h x).channels on k other → At n.channels (channel_number n h) h → At n.channels (channel_number n k) k
      numbered-live h k other l own = elim (handle-or k h) [
        | inl same ↦ subst (λ (v : Handle). At n.channels (channel_number n v) v) (sym same) own
        | inr away ↦ (let f = other-back (On on (Live (native_in m) 0)) h x.channels on k other away l in tidy.numbered k f.ch f.there)
      ]
