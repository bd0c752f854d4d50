-- An update, and a notice of a channel or a subscription, that a client tells as it reads a
-- message is one of its own.
use Rattle.ca_model.proofs.Tables.{find-at}
use Rattle.std.proofs.Common.{◌≡◌, ℕ, ◌+◌, ◌<◌, ◌≤◌, ◌⊎◌, inl, inr, Bool, true, false, cond, ◌&&◌, ◌||◌, List, [], ◌++◌, length, Option, Some, None, refl, sym, ap, subst, ◌∙◌, arith}
use Rattle.std.specs.Prelude.{option_map, take, unwrap_or, find}
use Rattle.std.proofs.lemmas.Bool.{both_ways}
use Rattle.ca_arena.specs.declared.handle.Handle.{Handle}
use Rattle.ca_dbr.specs.declared.value.Outcome.{Outcome}
use Rattle.ca_dbr.specs.declared.value.Outcome.TheVariants as outcome
use Rattle.ca_ids.specs.Table.{Table, same_handle, under}
use Rattle.ca_link.specs.Link.{TakesFirst}
use Rattle.ca_monitor.specs.Subscriptions.{Cancelled, Ended, Stage, Stands, Subscription, drains_in, stands_in}
use Rattle.ca_requests.specs.Meaning.{Means}
use Rattle.ca_text.specs.Place.{At}
use Rattle.ca_text.proofs.Places.{At-last, At-mapped, At-one, At-or, At-within}
use Rattle.ca_wire.specs.Fields.{Fields}
use Rattle.ca_model.specs.Answers.{Notice, Sending}
use Rattle.ca_model.specs.Answers as notice
use Rattle.ca_model.specs.Client.{Channel, Client, Clearing, Connecting, Connection, Creating, Doomed, Leaving, Live, On, Phase, Searching, Standing, connection_at, is_on_in, phase_on}
use Rattle.ca_model.specs.ClientEnds.{StepsOn, after_taking}
use Rattle.ca_model.specs.Hears.{Effect, Hears}
use Rattle.ca_model.specs.History.{Cancel, Cause, Clear, Intent, Line, Removal, Reply, Sent, Step, Subscribe, Told, Update, Updated, Noticed}
use Rattle.ca_model.specs.History as history
use Rattle.ca_model.specs.Channels.{IsHeld, Suits}
use Rattle.ca_model.specs.ClientEvents.{about_at, heard_in, line_of, channel_number, meant_by}
use Rattle.ca_model.specs.World.{ClientSide, Joined, World, log_length}
use Rattle.ca_laws_parts.specs.Runs.{HearsSent}
use Rattle.ca_laws_parts.specs.ServerFits.{AllCaused}
use Rattle.ca_laws_parts.specs.Held.{has_id, is_subscribed}
use Rattle.ca_laws_parts.proofs.Refused.{heard-is}
use Rattle.ca_laws_parts.specs.Kept.{kept}
use Rattle.ca_laws_parts.specs.Circuit.{HeldOn}
use Rattle.ca_laws_runs.specs.HeldAnswering.{AllAnswer}
use Rattle.ca_laws_runs.specs.Held.{AllCircuitsHeld}
use Rattle.ca_laws_runs.specs.OrderSteps.{HaveLives}
use Rattle.ca_laws_runs.specs.Quiet.{ClientsQuiet, Tidy}
use Rattle.ca_laws_runs.specs.Tells.{NoticesTell}
use Rattle.ca_laws_runs.specs.ToldLines.{IsToLast}
use Rattle.ca_laws_runs.proofs.OnceCalls.{IsClearedBy, IsOverBy}
use Rattle.ca_laws_runs.proofs.OnceLess.{is_gone}
use Rattle.ca_laws_runs.proofs.OnceWorld.{OnceStand}
use Rattle.ca_laws_runs.proofs.OrderGrows.{GoesOn}
use Rattle.ca_laws_runs.proofs.OrderKeeps.{IsHearing, hear-grown, hear-lines, hear-mid, hear-step}
use Rattle.ca_laws_runs.proofs.Says.{subscribed-at}
use Rattle.ca_laws_runs.proofs.ToldLines.{lines-grown}
use Rattle.ca_laws_runs.proofs.ToldQuiet.{tells-held}
use Rattle.ca_laws_runs.proofs.ToldRemoval.{AllRemovals}
use Rattle.ca_laws_runs.proofs.ToldUpdates.{IsRead}
use Rattle.ca_laws_parts.proofs.WritesLists.{take-front, take-whole}
use Rattle.ca_laws_parts.proofs.Midway.{set-here}

-- it is an update
abbrev pub IsAnUpdate : Cause → Type 0
IsAnUpdate c = (a : ℕ) × (c ≡ Update a)

-- ---- a subscription that finds a message is held

on-subscribed : (on : Handle) (ch : Channel) → is_on_in is_subscribed on ch ≡ true → is_gone ch.standing ≡ false
on-subscribed on ch = go ch.standing
  where
    by : (b : Bool) (p : Phase) → unwrap_or (option_map is_subscribed (cond b (Some p) None)) false ≡ true → is_gone (On on p) ≡ false
    by false p is = absurd (both_ways false refl is)
    by true Connecting is = refl
    by true (Creating rights) is = refl
    by true (Live n rights) is = refl
    by true Leaving is = refl
    by true Clearing is = absurd (both_ways false refl is)
    by true Doomed is = absurd (both_ways false refl is)

    go : (s : Standing) → unwrap_or (option_map is_subscribed (phase_on on s)) false ≡ true → is_gone s ≡ false
    go Searching is = refl
    go (On c p) is = by (same_handle c on) p is

-- and its channel
pub channel-held : (t : Table Channel) (on : Handle) (d : Subscription) → stands_in d.stage ≡ true → has_id t on d ≡ true → (ch : Channel) × (under t d.channel ≡ Some ch) × (is_gone ch.standing ≡ false)
channel-held t on d stands has = there (under t d.channel) refl (go d.stage (unwrap_or (option_map (is_on_in is_subscribed on) (under t d.channel)) false) stands has)
  where
    go : (s : Stage) (b : Bool) → stands_in s ≡ true → drains_in on s || (stands_in s && b) ≡ true → b ≡ true
    go Stands b stands has = has
    go (Cancelled c) b stands has = absurd (both_ways false refl stands)
    go (Ended c) b stands has = absurd (both_ways false refl stands)

    there : (o : Option Channel) → under t d.channel ≡ o → unwrap_or (option_map (is_on_in is_subscribed on) o) false ≡ true → (ch : Channel) × (under t d.channel ≡ Some ch) × (is_gone ch.standing ≡ false)
    there None is has = absurd (both_ways false refl has)
    there (Some ch) is has = (ch, is, on-subscribed on ch has)

-- The caller has not ended a subscription that is on a channel that is held.
pub subscription-held : (w : World) (i : ℕ) (x : ClientSide) (log : List Line) → OnceStand w → At w.clients i x → At w.client_logs x.life log → Tidy x.names x.core → (g : Handle) (d : Subscription) (ch : Channel) → under x.core.subscriptions g ≡ Some d → stands_in d.stage ≡ true
    → under x.core.channels d.channel ≡ Some ch → is_gone ch.standing ≡ false → IsHeld log (meant_by x.names.subscriptions g)
subscription-held w i x log once at logged tidy g d ch there stands channel held =
    let m = tidy.subscriptions g d there in
    let a : ℕ = channel_number x.names d.channel in
    let of_channel : (h : Handle) → At x.names.channels a h → IsClearedBy x.core h → ⊥ = λ h named cleared.
    (let same : h ≡ d.channel = At-one x.names.channels a h d.channel named m.1 in both_ways (is_gone ch.standing) held (cleared ch (subst (λ (k : Handle). under x.core.channels k ≡ Some ch) (sym same) channel))) in
    let of_subscription : (e : Handle × Intent) → At x.names.subscriptions m.0 e → IsOverBy x.core e.0 → ⊥ = λ e named over.
    (let same : e ≡ (g, history.On a (Subscribe m.0)) = At-one x.names.subscriptions m.0 e (g, history.On a (Subscribe m.0)) named (subscribed-at x.names x.core g a m.0 tidy m.2) in
    let handle : e.0 ≡ g = ap (λ (z : Handle × Intent). z.0) same in
    both_ways (stands_in d.stage) (over d (subst (λ (k : Handle). under x.core.subscriptions k ≡ Some d) (sym handle) there)) stands) in
    subst (λ (z : Intent). IsHeld log z) (sym m.2) (
      λ clear. (let u = once.called i x log clear.0 (history.On a Clear) history.Nothing at logged clear.1 in of_channel u.0 u.1 u.2),
      λ cancel. (let u = once.called i x log cancel.0 (history.On a (Cancel m.0)) history.Nothing at logged cancel.1 in of_subscription u.0 u.1 u.2),
    )

-- ---- the cause of an update

update-cause : (c : Cause) → (c ≡ Reply → ⊥) → (c ≡ Removal → ⊥) → IsAnUpdate c
update-cause Reply not other = absurd (not refl)
update-cause Removal not other = absurd (other refl)
update-cause (Update a) not other = (a, refl)

-- ---- notices of channels and subscriptions

abbrev pub IsReply : Cause → Type 0
IsReply c = c ≡ Reply

-- The line is a notice of a channel or of a subscription, and does not tell Disconnected.
abbrev pub TellsLasting : Line → Intent → Outcome → Type 0
TellsLasting line intent o = (line ≡ Noticed intent o) × IsToLast intent × (o ≡ outcome.Disconnected → ⊥)

pub noticed-intent : (a b : Intent) (c d : Outcome) → Noticed a c ≡ Noticed b d → a ≡ b
noticed-intent a b c d e = cc

pub noticed-outcome : (a b : Intent) (c d : Outcome) → Noticed a c ≡ Noticed b d → c ≡ d
noticed-outcome a b c d e = cc

-- a request is none
pub no-request : (named : List (Handle × Intent)) (q : Handle) → ((i : ℕ) (e : Handle × Intent) → At named i e → (a : ℕ) × (kind : history.Kind) × (e.1 ≡ history.On a (history.Request kind i))) → IsToLast (meant_by named q) → ⊥
no-request named q asked lasts = go (find (λ (e : Handle × Intent). same_handle e.0 q) named) refl lasts
  where
    go : (o : Option (Handle × Intent)) → find (λ (e : Handle × Intent). same_handle e.0 q) named ≡ o → IsToLast (unwrap_or (option_map (λ (e : Handle × Intent). e.1) o) history.OfCircuit) → ⊥
    go None is lasts = lasts
    go (Some e) is lasts =
        let f = find-at (λ (e : Handle × Intent). same_handle e.0 q) named e is in
        let r = asked f.0 e f.1 in
        subst (λ (v : Intent). IsToLast v) r.2 lasts

-- ---- a step

module _ (w new : World) (k : ℕ) (j : Joined) (x : ClientSide) (on : At w.circuits k j) (at : At w.clients j.client x) (opened : j.lists.client_open ≡ true) (f : IsHearing w new k j x)
    (hears : HearsSent w) (caused : AllCaused w) (answer : AllAnswer w) (removals : AllRemovals w) (tells : NoticesTell w k) (held : AllCircuitsHeld w) (once : OnceStand w) (quiet : ClientsQuiet w) (lives : HaveLives w) where
  abbrev about : Intent
  about = about_at j.lists (length j.lists.heard)

  -- the message that was read, and what it is about
  pub record Next (notices : List Notice) (core : Client) (sent : List Sending) : Type 0 where
    pub d : Connection
    pub linked : connection_at x.core j.at_client ≡ Some d
    pub m : Fields
    pub rest : List ℕ
    pub first : TakesFirst d.link m rest
    pub hear : Hears (after_taking j.at_client rest x.core) j.at_client m (record { core = core; sent = sent; notices = notices })
    pub t : Told
    pub told : At j.lists.down (length j.lists.heard) t
    pub is : t.message ≡ m
    pub s : Sent
    pub up : At j.lists.up t.place s
    pub suits : Suits s.intent s.message

  next-of : (o : Option Connection) → connection_at x.core j.at_client ≡ o → StepsOn x.core j.at_client o (notice.Notices f.notices) f.sent f.core → Next f.notices f.core f.sent
  next-of None linked steps = absurd steps
  next-of (Some d) linked steps =
      let t = hears k j x d steps.m steps.rest on at opened linked steps.first in
      let h = held k j on in
      let one : h.0 ≡ j = At-one w.circuits k h.0 j h.2 on in
      let flows = (subst (λ (z : Joined). HeldOn (kept w k) h.1.names h.1.core z) one h.4).flows in
      let s : (s : Sent) × At j.lists.up t.0.place s = elim (At-or j.lists.up t.0.place) [
        | inl there ↦ there
        | inr past ↦ absurd (let lt : t.0.place < length j.lists.up = flows.about (length j.lists.heard) t.0 t.1 in omega (arith, lt, past))
      ] in
      record { d = d; linked = linked; m = steps.m; rest = steps.rest; first = steps.first; hear = steps.hears; t = t.0; told = t.1; is = t.2; s = s.0; up = s.1; suits = flows.asked t.0.place s.0 s.1 }

  pub next : Next f.notices f.core f.sent
  next = next-of (connection_at x.core j.at_client) refl f.steps

  -- what the step leaves of the circuit
  pub after : (d : Joined) × At new.circuits k d × GoesOn (heard_in (hear-step w new k j x on at f) j) d
  after =
      let mid : World = hear-mid w new k j x on at f in
      let g = hear-grown w new k j x on at f in
      let b : (d : Joined) × At new.circuits k d = elim (At-or new.circuits k) [
        | inl there ↦ there
        | inr past ↦ absurd (let lt : k < length mid.circuits = At-within mid.circuits k _ (set-here w.circuits k j (heard_in (hear-step w new k j x on at f) j) on) in let more : length mid.circuits ≤ length new.circuits = g.count in omega (arith, lt, past, more))
      ] in
      let c = g.back k b.0 b.1 in
      (b.0, b.1, subst (λ (z : Joined). GoesOn z b.0) (At-one mid.circuits k c.0 _ c.1 (set-here w.circuits k j (heard_in (hear-step w new k j x on at f) j) on)) c.2)

  -- a line of the log
  pub log-is : (life : ℕ) (log : List Line) → life ≡ x.life → At w.client_logs life log → log_length x.life w.client_logs ≡ length log
  log-is life log is there = ap (λ (n : ℕ). log_length n w.client_logs) (sym is) ∙ ap (λ (o : Option (List Line)). length (unwrap_or o [])) there

  -- It was told when the message was read, if it is the first, and says what was meant by what
  -- the message is about.
  pub read-now : (P : Cause → Type 0) (life : ℕ) (log y : List Line) (i p : ℕ) (line : Line) (intent : Intent) (o : Outcome) → life ≡ x.life → At w.client_logs life log → y ≡ log ++ hear-lines w new k j x on at f → At (hear-lines w new k j x on at f) p line
      → i ≡ length log + p → p ≡ 0 → next.s.intent ≡ intent → Means next.m o → IsHeld log intent → P next.t.cause → IsRead P new life y i intent o
  read-now P life log y i p line intent o mine there whole placed place first meant means is_held cause =
      let a = after in
      let step : Step = hear-step w new k j x on at f in
      let lines : List Line = hear-lines w new k j x on at f in
      let logged : log_length x.life w.client_logs ≡ length log = log-is life log mine there in
      let some : p < length lines = At-within lines p line placed in
      let i_is : i ≡ length log = omega (arith, place, first) in
      record {
        n = k;
        j = a.0;
        on = (a.1, a.2.client ∙ lives.same k j x on at opened ∙ sym mine);
        p = length j.lists.heard;
        t = next.t;
        h = step;
        read = (a.2.tells (length j.lists.heard) next.t next.told, subst (λ (l : List Step). At l (length j.lists.heard) step) (sym a.2.heard) (At-last j.lists.heard step), logged ∙ sym i_is, omega (arith, logged, i_is, some));
        s = next.s;
        own = (a.2.said next.t.place next.s next.up, meant);
        held = subst (λ (l : List Line). IsHeld l intent) (sym (ap (λ (v : ℕ × List Line). take v.0 v.1) (λ z. (i_is z, whole z)) ∙ take-front (length log) log lines (omega arith) ∙ take-whole log)) is_held;
        means = subst (λ (m : Fields). Means m o) (sym next.is) means;
        cause = cause;
      }

  -- an update
  update-read : (life : ℕ) (log y : List Line) (i p : ℕ) (line : Line) (intent : Intent) (o : Outcome) (said : Notice) → life ≡ x.life → At w.client_logs life log → y ≡ log ++ hear-lines w new k j x on at f → At (hear-lines w new k j x on at f) p line
      → i ≡ length log + p → At f.notices p said → line_of about x.names said ≡ Updated intent o → IsRead IsAnUpdate new life y i intent o
  update-read life log y i p line intent o (notice.Live h) mine there whole placed place at_p is = absurd cc
  update-read life log y i p line intent o (notice.Lost h) mine there whole placed place at_p is = absurd cc
  update-read life log y i p line intent o (notice.Completed q out) mine there whole placed place at_p is = absurd cc
  update-read life log y i p line intent o (notice.SubscriptionEnded g s) mine there whole placed place at_p is = absurd cc
  update-read life log y i p line intent o (notice.WriteRefused h s) mine there whole placed place at_p is = absurd cc
  update-read life log y i p line intent o (notice.Update g out) mine there whole placed place at_p is =
      let n = next in
      let z : Client = after_taking j.at_client n.rest x.core in
      let u = tells-held z j.at_client n.m (record { core = f.core; sent = f.sent; notices = f.notices }) n.hear p (notice.Update g out) at_p in
      let own = tells j x n.d n.m n.rest n.t n.s (record { core = f.core; sent = f.sent; notices = f.notices }) on at n.linked n.first n.told n.up n.hear p (notice.Update g out) at_p in
      let found = heard-is z j.at_client n.m.p2 g u.3 in
      let tidy : Tidy x.names x.core = quiet.tidy j.client x at in
      let channel = channel-held x.core.channels j.at_client found.0 found.3 found.4 in
      let meant = tidy.subscriptions g found.0 found.1 in
      let logged : At w.client_logs x.life log = subst (λ (l : ℕ). At w.client_logs l log) mine there in
      let mine_held : IsHeld log (meant_by x.names.subscriptions g) = subscription-held w j.client x log once at logged tidy g found.0 channel.0 found.1 found.3 channel.1 channel.2 in
      let one : meant_by x.names.subscriptions g ≡ intent = updated-intent (meant_by x.names.subscriptions g) intent out o is in
      let result : out ≡ o = updated-outcome (meant_by x.names.subscriptions g) intent out o is in
      let adds : n.t.message.command ≡ 1 = ap (λ (m : Fields). m.command) n.is ∙ u.1 in
      let asks : n.s.message.command ≡ 1 = subst (λ (v : Intent). Suits v n.s.message) (sym own.0 ∙ meant.2) n.suits in
      read-now IsAnUpdate life log y i p line intent o mine there whole placed place u.0 (sym own.0 ∙ one) (subst (λ (v : Outcome). Means n.m v) result own.1) (subst (λ (v : Intent). IsHeld log v) one mine_held)
      (update-cause n.t.cause
      (λ reply.
      let r = answer k (length j.lists.heard) j n.t on n.told reply in
      let same : r.0 ≡ n.s = At-one j.lists.up n.t.place r.0 n.s r.1 n.up in
      let cancels : n.s.message.command ≡ 2 = subst (λ (v : Sent). v.message.command ≡ 2) same (r.2.confirms adds) in
      let e : ◌≡◌ {A = ℕ} 1 2 = sym asks ∙ cancels in omega (arith, e))
      (λ removal. (let gone : n.t.message.command ≡ 27 = (removals k (length j.lists.heard) j n.t on n.told removal).0 in let e : ◌≡◌ {A = ℕ} 1 27 = sym adds ∙ gone in omega (arith, e))))
    where
      updated-intent : (a b : Intent) (c d : Outcome) → Updated a c ≡ Updated b d → a ≡ b
      updated-intent a b c d e = cc

      updated-outcome : (a b : Intent) (c d : Outcome) → Updated a c ≡ Updated b d → c ≡ d
      updated-outcome a b c d e = cc

  pub hearing-news : (life : ℕ) (y : List Line) (i : ℕ) (line : Line) (intent : Intent) (o : Outcome) → At new.client_logs life y → At y i line → line ≡ Updated intent o → ((log : List Line) × At w.client_logs life log × At log i line) ⊎ IsRead IsAnUpdate new life y i intent o
  hearing-news life y i line intent o there here is =
      let lines : List Line = hear-lines w new k j x on at f in
      elim (lines-grown w.client_logs x.life lines (lives.present j.client x at) life y i line (subst (λ (v : List (List Line)). At v life y) (ap (λ (v : World). v.client_logs) f.is) there) here) [
        | inl old ↦ inl old
        | inr more ↦
            let m = At-mapped (line_of about x.names) f.notices more.1 line more.5 in
            inr (update-read life more.0 y i more.1 line intent o m.0 more.2 more.3 more.4 more.5 more.6 m.1 (sym m.2 ∙ is))
      ]

  -- ---- channels and subscriptions

  -- the channel of a handle that is held was not cleared
  pub created-held : (log : List Line) (h : Handle) (ch : Channel) → At w.client_logs x.life log → under x.core.channels h ≡ Some ch → is_gone ch.standing ≡ false → IsHeld log (history.On (channel_number x.names h) history.Create)
  created-held log h ch logged there is_held = λ clear.
      let tidy : Tidy x.names x.core = quiet.tidy j.client x at in
      let a : ℕ = channel_number x.names h in
      let u = once.called j.client x log clear.0 (history.On a Clear) history.Nothing at logged clear.1 in
      let same : u.0 ≡ h = At-one x.names.channels a u.0 h u.1 (tidy.numbered h ch there) in
      both_ways (is_gone ch.standing) is_held (u.2 ch (subst (λ (k : Handle). under x.core.channels k ≡ Some ch) (sym same) there))

  -- a message that is no SERVER_DISCONN and no EVENT_ADD is a reply
  pub reply-of : (command_is : ℕ) → next.m.command ≡ command_is → (command_is ≡ 27 → ⊥) → (command_is ≡ 1 → ⊥) → next.t.cause ≡ Reply
  reply-of number is gone adds = elim (caused.each k j on (length j.lists.heard) next.t next.told) [
    | inl reply ↦ reply
    | inr (inl lost) ↦ absurd (gone (sym is ∙ ap (λ (m : Fields). m.command) (sym next.is) ∙ lost))
    | inr (inr update) ↦ absurd (adds (sym is ∙ ap (λ (m : Fields). m.command) (sym next.is) ∙ update.0))
  ]

  lasting-read : (life : ℕ) (log y : List Line) (i p : ℕ) (line : Line) (intent : Intent) (o : Outcome) (said : Notice) → life ≡ x.life → At w.client_logs life log → y ≡ log ++ hear-lines w new k j x on at f → At (hear-lines w new k j x on at f) p line
      → i ≡ length log + p → At f.notices p said → line_of about x.names said ≡ Noticed intent o → IsToLast intent → (o ≡ outcome.Disconnected → ⊥) → IsRead IsReply new life y i intent o
  lasting-read life log y i p line intent o (notice.Update g out) mine there whole placed place at_p is lasts here = absurd cc
  lasting-read life log y i p line intent o (notice.Lost h) mine there whole placed place at_p is lasts here = absurd (here (sym (noticed-outcome (history.On (channel_number x.names h) history.Create) intent outcome.Disconnected o is)))
  lasting-read life log y i p line intent o (notice.WriteRefused h s) mine there whole placed place at_p is lasts here =
      absurd (subst (λ (v : Intent). IsToLast v) (sym (noticed-intent _ intent _ o is)) lasts)
  lasting-read life log y i p line intent o (notice.Completed q out) mine there whole placed place at_p is lasts here =
      absurd (no-request x.names.requests q (λ m e named. (let r = (quiet.tidy j.client x at).asked m e named in (r.0, r.1, r.2))) (subst (λ (v : Intent). IsToLast v) (sym (noticed-intent (meant_by x.names.requests q) intent out o is)) lasts))
  lasting-read life log y i p line intent o (notice.Live h) mine there whole placed place at_p is lasts here =
      let n = next in
      let e : Effect = record { core = f.core; sent = f.sent; notices = f.notices } in
      let z : Client = after_taking j.at_client n.rest x.core in
      let u = tells-held z j.at_client n.m e n.hear p (notice.Live h) at_p in
      let own = tells j x n.d n.m n.rest n.t n.s e on at n.linked n.first n.told n.up n.hear p (notice.Live h) at_p in
      let logged : At w.client_logs x.life log = subst (λ (l : ℕ). At w.client_logs l log) mine there in
      let a : Intent = history.On (channel_number x.names h) history.Create in
      let one : a ≡ intent = noticed-intent a intent outcome.Done o is in
      let result : outcome.Done ≡ o = noticed-outcome a intent outcome.Done o is in
      read-now IsReply life log y i p line intent o mine there whole placed place u.0 (own.0 ∙ one) (subst (λ (v : Outcome). Means n.m v) result own.1)
      (subst (λ (v : Intent). IsHeld log v) one (created-held log h u.2.0 logged u.2.1 u.2.2))
      (reply-of 18 u.1 (λ g. (let c : ◌≡◌ {A = ℕ} 18 27 = g in omega (arith, c))) (λ g. (let c : ◌≡◌ {A = ℕ} 18 1 = g in omega (arith, c))))
  lasting-read life log y i p line intent o (notice.SubscriptionEnded g status) mine there whole placed place at_p is lasts here =
      let n = next in
      let e : Effect = record { core = f.core; sent = f.sent; notices = f.notices } in
      let z : Client = after_taking j.at_client n.rest x.core in
      let u = tells-held z j.at_client n.m e n.hear p (notice.SubscriptionEnded g status) at_p in
      let own = tells j x n.d n.m n.rest n.t n.s e on at n.linked n.first n.told n.up n.hear p (notice.SubscriptionEnded g status) at_p in
      let found = heard-is z j.at_client u.2.0 g u.2.1 in
      let channel = channel-held x.core.channels j.at_client found.0 found.3 found.4 in
      let logged : At w.client_logs x.life log = subst (λ (l : ℕ). At w.client_logs l log) mine there in
      let a : Intent = meant_by x.names.subscriptions g in
      let one : a ≡ intent = noticed-intent a intent (outcome.Failed status) o is in
      let result : outcome.Failed status ≡ o = noticed-outcome a intent (outcome.Failed status) o is in
      read-now IsReply life log y i p line intent o mine there whole placed place u.0 (sym own.0 ∙ one) (subst (λ (v : Outcome). Means n.m v) result own.1)
      (subst (λ (v : Intent). IsHeld log v) one (subscription-held w j.client x log once at logged (quiet.tidy j.client x at) g found.0 channel.0 found.1 found.3 channel.1 channel.2))
      (reply-of 11 u.1 (λ g. (let c : ◌≡◌ {A = ℕ} 11 27 = g in omega (arith, c))) (λ g. (let c : ◌≡◌ {A = ℕ} 11 1 = g in omega (arith, c))))

  pub lasting-news : (life : ℕ) (y : List Line) (i : ℕ) (line : Line) (intent : Intent) (o : Outcome) → At new.client_logs life y → At y i line → TellsLasting line intent o → ((log : List Line) × At w.client_logs life log × At log i line) ⊎ IsRead IsReply new life y i intent o
  lasting-news life y i line intent o there here is =
      let lines : List Line = hear-lines w new k j x on at f in
      elim (lines-grown w.client_logs x.life lines (lives.present j.client x at) life y i line (subst (λ (v : List (List Line)). At v life y) (ap (λ (v : World). v.client_logs) f.is) there) here) [
        | inl old ↦ inl old
        | inr more ↦
            let m = At-mapped (line_of about x.names) f.notices more.1 line more.5 in
            inr (lasting-read life more.0 y i more.1 line intent o m.0 more.2 more.3 more.4 more.5 more.6 m.1 (sym m.2 ∙ is.0) is.1 is.2)
      ]
