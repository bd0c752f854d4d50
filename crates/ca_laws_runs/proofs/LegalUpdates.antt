-- Each update that a server sends is for a subscription that stands, on a channel that is open.
use Rattle.std.proofs.Common.{◌≡◌, ℕ, ◌+◌, ◌<◌, ◌≤◌, inl, inr, Bool, true, false, not, List, [], ◌∷◌, ◌++◌, length, Option, Some, None, refl, sym, ap, subst, ◌∙◌, arith}
use Rattle.std.specs.Prelude.{◌%◌, filter, map, slice_set, take}
use Rattle.std.specs.List.{FoldsTo}
use Rattle.std.specs.Str.{bytes_eq}
use Rattle.ca_arena.specs.declared.handle.Handle.{Handle}
use Rattle.ca_ids.specs.Table.{under}
use Rattle.ca_ids.specs.Wire.{wire_of}
use Rattle.ca_queue.specs.declared.entry.SubKey.{SubKey}
use Rattle.ca_text.specs.declared.command.Command.TheVariants as command
use Rattle.ca_text.specs.Limits.{arena_slots}
use Rattle.ca_text.specs.Place.{At}
use Rattle.ca_text.proofs.Places.{At-map, At-mapped, At-one, At-or, At-snoc, At-within}
use Rattle.ca_wire.specs.Fields.{Fields}
use Rattle.ca_model.specs.Answers.{Closing}
use Rattle.ca_model.specs.Due.{key_in}
use Rattle.ca_model.specs.History.{Cause, Circuit, Entry, Removal, Reply, Sent, Step, Told, Update}
use Rattle.ca_model.specs.Sends.{Conduct, IsRefused}
use Rattle.ca_model.specs.Server.{Server, Subscription}
use Rattle.ca_model.specs.ServerSteps.{Pumps, Stepped}
use Rattle.ca_model.specs.Speech.{Cid, Clears, Creates, Gives, Id, In, Is, SubId, sid_in}
use Rattle.ca_model.proofs.Thinner.{three-ways}
use Rattle.ca_model.specs.Channels.{IsOpen, IsReply, before}
use Rattle.ca_model.specs.Legal.{server_conduct}
use Rattle.ca_model.specs.ClientEvents.{HappensAccept, WantsFirst, connected_as, new_circuit}
use Rattle.ca_model.specs.Events.{Event}
use Rattle.ca_model.specs.Events as event
use Rattle.ca_model.specs.Runs.{AreEvents, Happens, Runs, StopsAt, clients_below}
use Rattle.ca_model.specs.ServerEvents.{HappensFinish, HappensPump, HappensRemove, ServerStepped, StepHandles, about, disconnected_at, ends_by, removal_told, server_after}
use Rattle.ca_model.specs.ServerEvents as server
use Rattle.ca_model.specs.World.{ClientSide, IsSetting, Joined, RecordSide, ServerSide, Setting, Standing, World, circuit_of, log_length, opening}
use Rattle.ca_laws_parts.proofs.BytesRuns.{runs-take}
use Rattle.ca_laws_parts.specs.Flows.{Concerns}
use Rattle.ca_laws_parts.specs.Later.{IsLater, stamped_told}
use Rattle.ca_laws_parts.specs.Messages.{Messages}
use Rattle.ca_laws_parts.proofs.Updates.{stamps-later}
use Rattle.ca_laws_parts.specs.Moves as moves
use Rattle.ca_laws_parts.specs.Seats.{HasSeat}
use Rattle.ca_laws_parts.proofs.Causes.{is-reply, runs-caused}
use Rattle.ca_laws_parts.proofs.Every.{ticks-frame}
use Rattle.ca_laws_parts.proofs.Frames.{Frame}
use Rattle.ca_laws_parts.proofs.HappensClient.{sent-frame}
use Rattle.ca_laws_parts.proofs.Lasting.{AllEnds}
use Rattle.ca_laws_parts.proofs.LastingAll.{run-lasts}
use Rattle.ca_laws_parts.proofs.WritesLists.{At-take, beside-right, none_at}
use Rattle.ca_laws_parts.proofs.WritesMoves.{At-below}
use Rattle.ca_laws_runs.specs.Causes.{ComeAfter}
use Rattle.ca_laws_runs.specs.Created.{CreatedOn}
use Rattle.ca_laws_runs.specs.Creations.{CreationsOn}
use Rattle.ca_laws_runs.specs.OrderSteps.{InOrder, ServersInOrder}
use Rattle.ca_laws_runs.proofs.CauseGrows as places
use Rattle.ca_laws_runs.proofs.CauseKeeps.{handled-or, run-after}
use Rattle.ca_laws_runs.proofs.CauseOnce.{RemovedOn, removed-begun, removed-handled, removed-lasting}
use Rattle.ca_laws_runs.proofs.LegalRemovals.{AllRemovedRight, RemovedRight, run-disconnects, run-right}
use Rattle.ca_laws_runs.proofs.LegalServers.{reads-at, run-confirms, run-gives-sids, sent-at}
use Rattle.ca_laws_runs.proofs.OrderKeeps.{run-served, run-server-steps}
use Rattle.ca_laws_runs.proofs.Replied.{reached-answer}
use Rattle.ca_laws_runs.specs.Causing.{AllSources, IsTaken}
use Rattle.ca_laws_runs.specs.Follows.{AllFollow, Follows, Stands}
use Rattle.ca_laws_runs.specs.FollowsAnswering.{AnsweredSo}
use Rattle.ca_laws_runs.specs.Knew.{AllUnended, UnendedOn}
use Rattle.ca_laws_runs.specs.Known.{IsOrigin, KnownOn}
use Rattle.ca_laws_runs.specs.LegalEnds.{ServersAreLegal, ServersUpdateWhatStands, UpdatesWhatStands}
use Rattle.ca_laws_runs.proofs.Acted.{run-follows}
use Rattle.ca_laws_runs.proofs.Acting.{grown-back, taken-at, taken-below}
use Rattle.ca_laws_runs.proofs.AnsweringRuns.{run-answered}
use Rattle.ca_laws_runs.proofs.CausingEvents.{Nothing-new, Ready}
use Rattle.ca_laws_runs.proofs.CausingFrame.{Back, FinishNews, IsStill, News, Onward, PumpNews, RemoveNews, Says, StepNews, Takes, back-frame, finish-back, pump-back, removed-back, step-back, still-back, unhandled-back}
use Rattle.ca_laws_runs.proofs.CausingRuns.{ready, run-sources}
use Rattle.ca_laws_runs.proofs.KnewStands.{run-unended}
use Rattle.ca_laws_runs.proofs.FollowsWhole.{folds-snoc, logs-there}

-- The update t at place k is for the EVENT_ADD at place p, on the channel that was created by the
-- reply at place i. By what was handled before, neither was that cleared, nor the subscription
-- cancelled; and no SERVER_DISCONN for it was sent before.
pub record UpdatedAs (c : Circuit) (k : ℕ) (t : Told) : Type 0 where
  pub p : ℕ
  pub of : t.place ≡ p
  pub add : Sent
  pub sent : At c.up p add
  pub gives : Is command.EventAdd t.message → Gives add.message (SubId t.message.p2)
  pub h : Step
  pub handled : At c.handled p h
  pub within : h.sent ≤ k
  pub i : ℕ
  pub u : Told
  pub at : At c.down i u
  pub early : i < h.sent
  pub creates : Creates u.message (sid_in add.message)
  pub uncleared : (l : ℕ) (s : Sent) (g : Step) → u.place < l → At c.handled l g → g.sent ≤ k → At c.up l s → Clears s.message (sid_in add.message) → ⊥
  pub uncancelled : (l : ℕ) (s : Sent) (g : Step) → p < l → At c.handled l g → g.sent ≤ k → At c.up l s → Is command.EventCancel s.message → s.message.p1 ≡ add.message.p1
      → s.message.p2 ≡ add.message.p2 → ⊥
  pub connected : (l : ℕ) (v : Told) → i < l → l < k → At c.down l v → Is command.ServerDisconnect v.message → v.message.p1 ≡ u.message.p1 → ⊥

abbrev pub UpdatedRight : Circuit → Type 0
UpdatedRight c = (k a : ℕ) (t : Told) → At c.down k t → t.cause ≡ Update a → UpdatedAs c k t

abbrev pub AllUpdatedRight : World → Type 0
AllUpdatedRight w = (n : ℕ) (c : Joined) → At w.circuits n c → UpdatedRight c.lists

-- ---- a circuit goes on

-- What is new is handled after all that was sent, and each new update is right.
pub record Fair (F : ℕ → News → Type 0) (l : ℕ) (c d : Joined) : Type 0 where
  pub takes : (m : ℕ) (h : Step) → F l (Takes m h) → length c.lists.down ≤ h.sent
  pub updates : (i a : ℕ) (t : Told) → F l (Says t) → length c.lists.down ≤ i → At d.lists.down i t → t.cause ≡ Update a → UpdatedAs d.lists i t

module _ (F : ℕ → News → Type 0) (l : ℕ) (c d : Joined) (log : ℕ) (order : InOrder c.lists.handled (length c.lists.up) (length c.lists.down) log) (on : Onward F l c d) (fair : Fair F l c d) where
  -- what was handled before message k was sent, and was sent by then
  was : (k : ℕ) → k < length c.lists.down → (q : ℕ) (g : Step) → At d.lists.handled q g → g.sent ≤ k → At c.lists.handled q g
  was k lt q g at le = elim (on.handled q g at) [
    | inl old ↦ old
    | inr new_it ↦ absurd (let late : length c.lists.down ≤ g.sent = fair.takes q g new_it in omega (arith, lt, le, late))
  ]

  came : (q : ℕ) (g : Step) (s : Sent) → At c.lists.handled q g → At d.lists.up q s → At c.lists.up q s
  came q g s at there =
      let lt : q < length c.lists.handled = At-within c.lists.handled q g at in
      let le : length c.lists.handled ≤ length c.lists.up = order.one_each in
      grown-back c.lists.up d.lists.up on.lists.up q s (omega (arith, lt, le)) there

  updated-on : (k : ℕ) (t : Told) → At c.lists.down k t → UpdatedAs c.lists k t → UpdatedAs d.lists k t
  updated-on k t at r = record {
    p = r.p;
    of = r.of;
    add = r.add;
    sent = on.lists.up r.p r.add r.sent;
    gives = r.gives;
    h = r.h;
    handled = on.lists.handled r.p r.h r.handled;
    within = r.within;
    i = r.i;
    u = r.u;
    at = on.lists.down r.i r.u r.at;
    early = r.early;
    creates = r.creates;
    uncleared = λ q s g after there le up clears. (let old = was k (At-within c.lists.down k t at) q g there le in r.uncleared q s g after old le (came q g s old up) clears);
    uncancelled = λ q s g after there le up cancels sid sub. (let old = was k (At-within c.lists.down k t at) q g there le in r.uncancelled q s g after old le (came q g s old up) cancels sid sub);
    connected = λ q v after before there ends same.
        let lt : k < length c.lists.down = At-within c.lists.down k t at in
        r.connected q v after before (grown-back c.lists.down d.lists.down on.lists.down q v (omega (arith, lt, before)) there) ends same;
  }

  right-on : UpdatedRight c.lists → UpdatedRight d.lists
  right-on all k a t at cause = elim (on.told k t at) [
    | inl old ↦ updated-on k t old (all k a t old cause)
    | inr more ↦ fair.updates k a t more.1 more.0 at cause
  ]

-- one event, by what it makes new
back-right : (F : ℕ → News → Type 0) (w new : World) → ServersInOrder w → Back F w new → ((l : ℕ) (c d : Joined) → At w.circuits l c → At new.circuits l d → Fair F l c d) → AllUpdatedRight w → AllUpdatedRight new
back-right F w new order back fair all l d at =
    let c = back l d at in
    right-on F l c.0 d (log_length c.0.lists.server w.server_logs) (order l c.0 c.1) c.2 (fair l c.0 d c.1 at) (all l c.0 c.1)

still-fair : (l : ℕ) (c d : Joined) → Fair Nothing-new l c d
still-fair l c d = record { takes = λ m h none. absurd none; updates = λ i a t none. absurd none }

reply-update : (n : ℕ) → let a : Cause = Reply in let b : Cause = Update n in a ≡ b → ⊥
reply-update n e = cc

removal-update : (n : ℕ) → let a : Cause = Removal in let b : Cause = Update n in a ≡ b → ⊥
removal-update n e = cc

replied : (place : ℕ) (ms : List Fields) (t : Told) → In (about place Reply ms) t → t.cause ≡ Reply
replied place ms t (i, at) =
    let x = At-mapped (λ (q : Fields). let z : Told = record { message = q; place = place; cause = Reply } in z) ms i t at in
    ap (λ (z : Told). z.cause) x.2

finish-fair : (circuit place : ℕ) (ms : List Fields) (l : ℕ) (c d : Joined) → Fair (FinishNews circuit place ms) l c d
finish-fair circuit place ms l c d = record {
  takes = λ m h none. absurd none;
  updates = λ i a t told late at cause. absurd (reply-update a (sym (replied place ms t told.1) ∙ cause));
}

remove-fair : (w : World) (i : ℕ) (core : Server) (name : List ℕ) (gone : Handle → Bool) (left : Handle → ℕ) (l : ℕ) (c d : Joined) → Fair (RemoveNews w i core name gone left) l c d
remove-fair w i core name gone left l c d = record {
  takes = λ m h none. absurd none;
  updates = λ n a t told late at cause.
      let x = At-mapped (removal_told (told.0).creations) (disconnected_at name gone left (told.0).at_server (under core.circuits (told.0).at_server)) told.4.0 t told.4.1 in
      absurd (removal-update a (sym (ap (λ (z : Told). z.cause) x.2) ∙ cause));
}

step-fair : (w new : World) (k : ℕ) (j : Joined) (y : ServerSide) (f : StepHandles w k j y new) → At w.circuits k j → (l : ℕ) (c d : Joined) → At w.circuits l c
    → Fair (StepNews k (length j.lists.handled) (f.steps.0).action (length j.lists.down) (server.logged y w) (f.steps.0).replies) l c d
step-fair w new k j y f on l c d at = record {
  takes = λ m h took.
      let same : c ≡ j = At-one w.circuits k c j (subst (λ (n : ℕ). At w.circuits n c) took.0 at) on in
      let len : length c.lists.down ≡ length j.lists.down = ap (λ (z : Joined). length z.lists.down) same in
      let sent : h.sent ≡ length j.lists.down = took.1 in
      omega (arith, len, sent);
  updates = λ i a t told late there cause. absurd (reply-update a (sym (replied (length j.lists.handled) (f.steps.0).replies t told.1) ∙ cause));
}

-- ---- a pump

sub-cid : (a b : ℕ) → let x : Id = SubId a in let y : Id = Cid b in x ≡ y → ⊥
sub-cid a b e = cc

-- a message about an EVENT_ADD that speaks of a subscription speaks of its own
gives-sub : (up : List Sent) (p n : ℕ) (s : Sent) → At up p s → Is command.EventAdd s.message → Concerns up p (SubId n) → Gives s.message (SubId n)
gives-sub up p n s at adds (q, there, inl gives) = subst (λ (z : Sent). Gives z.message (SubId n)) (At-one up p q s there at) gives
gives-sub up p n s at adds (q, there, inr (inl clears)) = absurd (sub-cid n q.message.p2 clears.1)
gives-sub up p n s at adds (q, there, inr (inr (inl cancels))) =
    absurd (let a : q.message.command ≡ 2 = cancels.0 in let b : q.message.command ≡ 1 = ap (λ (z : Sent). z.message.command) (At-one up p q s there at) ∙ adds in omega (arith, a, b))
gives-sub up p n s at adds (q, there, inr (inr (inr write))) = absurd (sub-cid n write.1.0 write.1.2)

-- what holds of each world on the way
pub record Beside (s : Setting) (w : World) : Type 0 where
  pub ready : Ready s w
  pub order : ServersInOrder w
  pub sources : AllSources w
  pub follow : AllFollow w
  pub unended : AllUnended w
  pub ends : AllEnds RemovedOn w
  pub removed : AllRemovedRight w

pub beside : (s : Setting) (es : List Event) (stopped : Option Event) (w : World) → IsSetting s → Runs s es stopped w → Beside s w
beside s es stopped w ok runs = record {
  ready = ready s es stopped w ok runs;
  order = run-served s es stopped w ok runs;
  sources = run-sources s es stopped w ok runs;
  follow = run-follows s es stopped w ok runs;
  unended = run-unended s es stopped w ok runs;
  ends = run-lasts RemovedOn removed-lasting removed-begun removed-handled s es stopped w ok runs (runs-take s es ok);
  removed = run-right s es stopped w ok runs;
}

clash : (b : Bool) → b ≡ true → b ≡ false → ⊥
clash true e f = cc
clash false e f = cc

module _ (s : Setting) (w : World) (k : ℕ) (j : Joined) (b : Beside s w) (on : At w.circuits k j) (opened : j.lists.server_open ≡ true) where
  abbrev seat : HasSeat w j
  seat = b.ready.serves.stands.sound.seated.each k j on opened

  abbrev log : (log : List Entry) × At w.server_logs j.lists.server log
  log = logs-there s w b.ready.serves.stands.sound k j on

  own-log : At w.server_logs seat.y.life log.0
  own-log = subst (λ (n : ℕ). At w.server_logs n log.0) seat.joins log.1

  messages : Messages j
  messages = b.ready.serves.messages k j on opened

  creations : CreationsOn j
  creations = b.ready.creations k j seat.y seat.e on seat.at opened seat.has

  created : CreatedOn j
  created = b.ready.created k j on

  follow : Follows log.0 seat.y.records seat.e j
  follow = b.follow k j seat.y seat.e log.0 on seat.at opened seat.has own-log

  known : KnownOn log.0 seat.y.records seat.e j
  known = (b.ready.stand.known k j seat.y seat.e log.0 on seat.at opened seat.has own-log).1

  unended : UnendedOn j
  unended = b.unended k j seat.y seat.e on seat.at opened seat.has

  removed : RemovedOn k seat.e j
  removed = b.ends k j seat.y seat.e on seat.at opened seat.has

  right : RemovedRight j
  right = b.removed k j on

  order : InOrder j.lists.handled (length j.lists.up) (length j.lists.down) (log_length j.lists.server w.server_logs)
  order = b.order k j on

  after : ComeAfter j.lists
  after = b.ready.after k j on

  -- a subscription that stands
  module _ (st : Standing) (there : In j.standing st) where
    asked : (s : Sent) × At j.lists.up st.place s × Is command.EventAdd s.message × (key_in s.message ≡ st.key) × (st.place < length j.lists.handled)
    asked = messages.subs st there

    abbrev taken : IsTaken log.0 j.lists st.place
    taken = (b.sources k j log.0 on log.1).stands st there

    abbrev pub add : Sent
    add = taken.acted.0

    abbrev pub h : Step
    h = taken.acted.1

    abbrev pub i : ℕ
    i = taken.acted.2

    abbrev o : IsOpen (before j.lists st.place h) (take h.logged log.0) i (taken.acted.3) (sid_in add.message) taken.r
    o = taken.acted.6

    abbrev pub sid : ℕ
    sid = sid_in add.message

    abbrev pub u : Told
    u = o.0.0

    pub sent : At j.lists.up st.place add
    sent = taken.acted.4

    pub handled : At j.lists.handled st.place h
    handled = taken.acted.5

    pub at-u : At j.lists.down i u
    at-u = At-take h.sent j.lists.down i u o.0.3

    pub early : i < h.sent
    early = taken-below h.sent j.lists.down i u o.0.3

    place : u.place ≡ taken.acted.3
    place = o.0.4

    reply : u.cause ≡ Reply
    reply = o.0.5

    pub creates : Creates u.message sid
    creates = o.0.6

    begun : u.place < st.place
    begun = (let lt : taken.acted.3 < st.place = taken-below st.place j.lists.up (taken.acted.3) o.0.1 o.0.7 in omega (arith, lt, place))

    same-add : add ≡ asked.0
    same-add = At-one j.lists.up st.place add asked.0 sent asked.1

    pub adds : Is command.EventAdd add.message
    adds = ap (λ (z : Sent). z.message.command) same-add ∙ asked.2

    pub key : key_in add.message ≡ st.key
    key = ap (λ (z : Sent). key_in z.message) same-add ∙ asked.3

    -- its channel was not cleared
    pub clean : (q : ℕ) (m : Sent) → u.place < q → q < length j.lists.handled → At j.lists.up q m → Clears m.message sid → ⊥
    clean q m lt within at clears = elim (three-ways q st.place) [
      | inl first ↦
          let x = At-below j.lists.handled q within in
          o.2 q m (omega (arith, lt, place)) (At-within (take st.place j.lists.handled) q x.0 (taken-at st.place j.lists.handled q x.0 first x.1)) (taken-at st.place j.lists.up q m first at) clears
      | inr (inl is) ↦
          let same : m ≡ add = At-one j.lists.up st.place m add (subst (λ (n : ℕ). At j.lists.up n m) is at) sent in
          let a : m.message.command ≡ 12 = clears.0 in
          let c : m.message.command ≡ 1 = ap (λ (z : Sent). z.message.command) same ∙ adds in
          omega (arith, a, c)
      | inr (inr later) ↦ unended.unended st q m there later within at (inr (clears.0, clears.1 ∙ ap (λ (z : SubKey). z.sid) key))
    ]

    pub uncancelled : (q : ℕ) (m : Sent) → st.place < q → q < length j.lists.handled → At j.lists.up q m → Is command.EventCancel m.message → m.message.p1 ≡ add.message.p1 → m.message.p2 ≡ add.message.p2 → ⊥
    uncancelled q m lt within at cancels sids subs =
        unended.unended st q m there lt within at (inl (cancels, (λ n. record { sid = sids n; sub = subs n }) ∙ key))

    abbrev sub : (x : Subscription) × At seat.e.subscriptions there.0 x × Stands log.0 seat.y.records seat.e j x st
    sub = beside-right (Stands log.0 seat.y.records seat.e j) seat.e.subscriptions j.standing there.0 st follow.placed there.1

    abbrev stands : Stands log.0 seat.y.records seat.e j sub.0 st
    stands = sub.2

    abbrev origin : IsOrigin log.0 seat.y.records j (wire_of stands.g) stands.ch
    origin = known.origins stands.g stands.ch stands.channel

    sids : origin.x.sid ≡ sid
    sids =
        origin.under_sid ∙ stands.sid ∙ ap (λ (z : Subscription). z.wanted.sid) stands.by
        ∙ ap (λ (z : Sent). z.message.p1) (At-one j.lists.up st.place stands.s add stands.sent sent)

    t : (n : ℕ) × (t : Told) × At j.lists.down n t × (t.place ≡ origin.x.place) × (t.cause ≡ Reply) × Creates t.message origin.x.sid
    t = creations.told origin.x origin.noted

    -- the channel that the end has open is the one that was created so
    same-place : origin.x.place ≡ u.place
    same-place = elim (three-ways t.0 i) [
      | inl first ↦
          let w = (created.apart t.0 i origin.x.sid sid t.1 u first t.2 at-u t.4 reply t.5 creates (ap (λ (n : ℕ). n % arena_slots) sids)).1 in
          let lt : w.0 < u.place = w.3 in
          let into : st.place < length j.lists.handled = asked.4 in
          absurd (creations.uncleared origin.x w.0 w.1 origin.noted (subst (λ (n : ℕ). n < w.0) t.3 w.2) (let old : u.place < st.place = begun in omega (arith, lt, into, old)) w.4 w.5)
      | inr (inl one) ↦ sym t.3 ∙ ap (λ (z : Told). z.place) (At-one j.lists.down i t.1 u (subst (λ (n : ℕ). At j.lists.down n t.1) one t.2) at-u)
      | inr (inr last) ↦
          let w = (created.apart i t.0 sid origin.x.sid u t.1 last at-u t.2 reply t.4 creates t.5 (ap (λ (n : ℕ). n % arena_slots) (sym sids))).1 in
          let lt : w.0 < t.1.place = w.3 in
          let at_x : t.1.place ≡ origin.x.place = t.3 in
          let into : origin.x.place < length j.lists.handled = (messages.channels origin.x origin.noted).3 in
          absurd (clean w.0 w.1 w.2 (omega (arith, lt, at_x, into)) w.4 w.5)
    ]

    -- no SERVER_DISCONN for it was sent
    pub connected : (q : ℕ) (v : Told) → i < q → At j.lists.down q v → Is command.ServerDisconnect v.message → v.message.p1 ≡ u.message.p1 → ⊥
    connected q v lt at ends same =
        let r = right q v at ends in
        let cids : r.u.message.p1 ≡ u.message.p1 = r.cid ∙ same in
        elim (three-ways r.i i) [
          | inl first ↦
              let w = (created.owned r.i i r.sid sid r.u u first r.at at-u r.reply reply r.creates creates cids).1 in
              let hu = after i u at-u in
              elim (At-or j.lists.handled w.0) [
                | inl g ↦
                    let late : g.0.sent ≤ hu.0.sent = (order.rise w.0 u.place g.0 hu.0 w.3 g.1 hu.1).0 in
                    let le : hu.0.sent ≤ i = hu.2 in
                    r.uncleared w.0 w.1 g.0 w.2 g.1 (omega (arith, late, le, lt)) w.4 w.5
                | inr past ↦ (let within : u.place < length j.lists.handled = At-within j.lists.handled u.place hu.0 hu.1 in let below : w.0 < u.place = w.3 in omega (arith, within, below, past))
              ]
          | inr (inl one) ↦
              let said : r.u ≡ u = At-one j.lists.down i r.u u (subst (λ (n : ℕ). At j.lists.down n r.u) one r.at) at-u in
              clash stands.ch.retired
              (removed.3.retired v origin.x stands.g stands.ch (q, at) r.removal origin.noted (same-place ∙ ap (λ (z : Told). z.place) (sym said) ∙ r.place) stands.channel (sym origin.under_sid)) stands.stays
          | inr (inr last) ↦
              let w = (created.owned i r.i sid r.sid u r.u last at-u r.at reply r.reply creates r.creates (sym cids)).1 in
              let hr = after r.i r.u r.at in
              let within : r.u.place < length j.lists.handled = At-within j.lists.handled r.u.place hr.0 hr.1 in
              let below : w.0 < r.u.place = w.3 in
              clean w.0 w.1 w.2 (omega (arith, within, below)) w.4 w.5
        ]

-- an update of a subscription that stands, which is sent now
module _ (s : Setting) (w : World) (k : ℕ) (j d : Joined) (b : Beside s w) (on : At w.circuits k j) (opened : j.lists.server_open ≡ true) (goes : places.PlacesOn ⊥ j d) where
  fresh-update : (st : Standing) → In j.standing st → (n : ℕ) (t : Told) → length j.lists.down ≤ n → t.place ≡ st.place → (Is command.EventAdd t.message → Concerns j.lists.up st.place (SubId t.message.p2)) → UpdatedAs d.lists n t
  fresh-update st there n t late of speaks = record {
    p = st.place;
    of = of;
    add = add s w k j b on opened st there;
    sent = goes.up st.place (add s w k j b on opened st there) (sent s w k j b on opened st there);
    gives = λ is. gives-sub j.lists.up st.place t.message.p2 (add s w k j b on opened st there) (sent s w k j b on opened st there) (adds s w k j b on opened st there) (speaks is);
    h = h s w k j b on opened st there;
    handled = subst (λ (l : List Step). At l st.place (h s w k j b on opened st there)) (sym goes.handled) (handled s w k j b on opened st there);
    within = (let le : (h s w k j b on opened st there).sent ≤ length j.lists.down = ((b.order k j on).within st.place (h s w k j b on opened st there) (handled s w k j b on opened st there)).0 in omega (arith, le, late));
    i = i s w k j b on opened st there;
    u = u s w k j b on opened st there;
    at = down-on (i s w k j b on opened st there) (u s w k j b on opened st there) (at-u s w k j b on opened st there);
    early = early s w k j b on opened st there;
    creates = creates s w k j b on opened st there;
    uncleared = λ l m g lt at le up clears. (let on_j = back l g m at up in clean s w k j b on opened st there l m lt on_j.0 on_j.1 clears);
    uncancelled = λ l m g lt at le up cancels sids subs. (let on_j = back l g m at up in uncancelled s w k j b on opened st there l m lt on_j.0 on_j.1 cancels sids subs);
    connected = λ l v lt early at ends same. elim (goes.told l v at) [
      | inl old ↦ connected s w k j b on opened st there l v lt old ends same
      | inr more ↦ elim more.2 [ inl none ↦ none | inr other ↦ other.1 ends ]
    ];
  }
    where
      back : (l : ℕ) (g : Step) (m : Sent) → At d.lists.handled l g → At d.lists.up l m → (l < length j.lists.handled) × At j.lists.up l m
      back l g m at up =
          let lt : l < length j.lists.handled = At-within j.lists.handled l g (subst (λ (x : List Step). At x l g) goes.handled at) in
          let le : length j.lists.handled ≤ length j.lists.up = (b.order k j on).one_each in
          (lt, grown-back j.lists.up d.lists.up goes.up l m (omega (arith, lt, le)) up)

      down-on : (q : ℕ) (v : Told) → At j.lists.down q v → At d.lists.down q v
      down-on q v at = elim (At-or d.lists.down q) [
        | inl found ↦ elim (goes.told q found.0 found.1) [
          | inl old ↦ subst (λ (z : Told). At d.lists.down q z) (At-one j.lists.down q found.0 v old at) found.1
          | inr more ↦ absurd (let lt : q < length j.lists.down = At-within j.lists.down q v at in let le : length j.lists.down ≤ q = more.0 in omega (arith, lt, le))
        ]
        | inr past ↦ absurd (let lt : q < length j.lists.down = At-within j.lists.down q v at in let more : length j.lists.down ≤ length d.lists.down = goes.longer in omega (arith, lt, more, past))
      ]

pump-fair : (s : Setting) (w new : World) (k : ℕ) (j : Joined) (y : ServerSide) (f : HappensPump w k j y new) → Beside s w → At w.circuits k j → At w.servers j.server y → j.lists.server_open ≡ true → places.Back ⊥ w new → (l : ℕ) (c d : Joined) → At w.circuits l c
    → At new.circuits l d → Fair (PumpNews k (stamped_told f.updates j)) l c d
pump-fair s w new k j y f b on at opened back l c d at_c at_d = record {
  takes = λ m h none. absurd none;
  updates = λ i a t told late there cause.
      let x = later t told.1 in
      let st = At-mapped (λ (z : Standing). z.place) j.standing x.keeps.0 t.place x.keeps.1 in
      let same : j ≡ c = At-one w.circuits l j c (subst (λ (n : ℕ). At w.circuits n j) (sym told.0) on) at_c in
      let g = back l d at_d in
      let same_g : g.0 ≡ j = At-one w.circuits l g.0 c g.1 at_c ∙ sym same in
      fresh-update s w k j d b on opened (subst (λ (z : Joined). places.PlacesOn ⊥ z d) same_g g.2) st.0 (x.keeps.0, st.1) i t
      (subst (λ (z : Joined). length z.lists.down ≤ i) (sym same) late)
      st.2
      (λ is. subst (λ (p : ℕ). Concerns j.lists.up p (SubId t.message.p2)) st.2 (x.speaks (SubId t.message.p2) (inl (is, refl))));
}
  where
    ks : List ℕ
    ks = map (λ (z : Standing). z.place) j.standing

    later : (t : Told) → In (stamped_told f.updates j) t → IsLater ks j.lists t
    later t there = go f.pumps
      where
        go : Pumps y.core j.at_server f.updates f.core → IsLater ks j.lists t
        go (inl (e, has, (after, folds, rest))) =
            stamps-later ks j f.updates e after j folds (b.ready.serves.in_step k j y e on at opened has).queues (b.ready.serves.numbers k j on opened) (b.ready.serves.messages k j on opened)
            (λ st stands. (stands.0, At-map (λ (z : Standing). z.place) j.standing stands.0 st stands.1)) t there
        go (inr (none, nothing, is)) = absurd (none_at there.0 t (subst (λ (us : List _). At (stamped_told us j) there.0 t) nothing there.1))

-- ---- every event and run

accept-right : (w new : World) (i : ℕ) (x : ClientSide) (v : WantsFirst w x) → ServersInOrder w → HappensAccept w i x v new → AllUpdatedRight w → AllUpdatedRight new
accept-right w new i x v order f all = elim f.leaves [
  | inl full ↦ subst (λ (z : World). AllUpdatedRight z) (sym full.1) all
  | inr made ↦
      let c : Joined = connected_as made.1 (new_circuit i x v.v.circuit v.i v.y made.0) in
      let mid : World = record w { servers = slice_set w.servers v.i (record v.y { core = f.server }); circuits = w.circuits ++ c ∷ [] } in
      let g : Frame mid new = sent-frame mid new i x.names made.2 (ap (λ (z : World). z.servers) made.6) (ap (λ (z : World). z.server_logs) made.6) (ap (λ (z : World). z.circuits) made.6) in
      λ n d at.
      let b = back-frame Nothing-new mid new g n d at in
      elim (At-snoc w.circuits c n b.0 b.1) [
        | inl old ↦ right-on Nothing-new n b.0 d (log_length b.0.lists.server w.server_logs) (order n b.0 old) b.2 (still-fair n b.0 d) (all n b.0 old)
        | inr last ↦ (λ k a t told cause. elim (b.2.told k t told) [
          | inl old ↦ absurd (none_at k t (subst (λ (z : List Told). At z k t) (ap (λ (z : Joined). z.lists.down) last.1 ∙ nothing made.1 made.0) old))
          | inr more ↦ absurd more.1
        ])
      ]
]
  where
    nothing : (o : Option Closing) (g : Handle) → (connected_as o (new_circuit i x v.v.circuit v.i v.y g)).lists.down ≡ []
    nothing None g = refl
    nothing (Some k) g = refl

event-right : (s : Setting) (w new : World) (e : Event) → Beside s w → Happens w e new → AllUpdatedRight w → AllUpdatedRight new
event-right s w new e b happens all = go e happens
  where
    still : (e : Event) → IsStill e → Happens w e new → AllUpdatedRight new
    still e quiet happens = back-right Nothing-new w new b.order (still-back Nothing-new w new e quiet happens) (λ l c d at on. still-fair l c d) all

    stepped-by : (k : ℕ) (h : Happens w (event.ServerStep k) new) → AllUpdatedRight new
    stepped-by k (at, (did, f)) = elim (handled-or did) [
      | inl is ↦
          let g : StepHandles w k at.j at.y new = subst (λ (x : Stepped). ServerStepped w k at.j at.y x new) is f in
          back-right (StepNews k (length at.j.lists.handled) (g.steps.0).action (length at.j.lists.down) (server.logged at.y w) (g.steps.0).replies) w new b.order (step-back w new k at.j at.y at.joins.at g)
          (λ l c d there on. step-fair w new k at.j at.y g at.joins.at l c d there) all
      | inr other ↦ back-right Nothing-new w new b.order (unhandled-back Nothing-new w new k at.j at.y did at.joins.at other f) (λ l c d there on. still-fair l c d) all
    ]

    finished : (i : ℕ) (name : List ℕ) (y : ServerSide) → HappensFinish w i y name new → AllUpdatedRight new
    finished i name y (inl f) = back-right (FinishNews f.p.circuit f.p.place (map (λ (x : Handle × Fields). x.1) f.sent)) w new b.order (finish-back w new i y name f) (λ l c d at on. finish-fair f.p.circuit f.p.place (map (λ (x : Handle × Fields). x.1) f.sent) l c d) all
    finished i name y (inr refused) = subst (λ (z : World). AllUpdatedRight z) (sym refused.2) all

    removed-by : (i : ℕ) (name : List ℕ) (y : ServerSide) → HappensRemove w i y name new → AllUpdatedRight new
    removed-by i name y (gone, left, core, inl (removes, is)) =
        let next : World = server_after i (record y { records = filter (λ (r : RecordSide). not (bytes_eq r.name name)) y.records }) (ends_by i core) core (moves.removal_told w i y name gone left) in
        subst (λ (z : World). AllUpdatedRight z) (sym is)
        (back-right (RemoveNews w i y.core name gone left) w next b.order (removed-back w i y name gone left core) (λ l c d at on. remove-fair w i y.core name gone left l c d) all)
    removed-by i name y (gone, left, core, inr (removes, is)) = subst (λ (z : World). AllUpdatedRight z) (sym is) all

    go : (e : Event) → Happens w e new → AllUpdatedRight new
    go (event.Accept i) h = accept-right w new i h.0.x h.0.v b.order h.1 all
    go (event.ServerStep k) h = stepped-by k h
    go (event.Pump k) h =
        back-right (PumpNews k (stamped_told h.1.updates h.0.j)) w new b.order (pump-back w new k h.0.j h.0.y h.0.joins.at h.1)
        (λ l c d at on. pump-fair s w new k h.0.j h.0.y h.1 b h.0.joins.at h.0.joins.server h.0.is_open (places.event-back s w new (event.Pump k) tt b.ready.serves h) l c d at on) all
    go (event.Finish i name) h = finished i name h.0.y h.1
    go (event.Remove i name) h = removed-by i name h.0.y h.1
    go (event.Open i name priority) h = still (event.Open i name priority) tt h
    go (event.Clear i c) h = still (event.Clear i c) tt h
    go (event.Read i c data_type count) h = still (event.Read i c data_type count) tt h
    go (event.Write i c v) h = still (event.Write i c v) tt h
    go (event.WriteNotify i c v) h = still (event.WriteNotify i c v) tt h
    go (event.Subscribe i c data_type count mask) h = still (event.Subscribe i c data_type count mask) tt h
    go (event.Unsubscribe i n) h = still (event.Unsubscribe i n) tt h
    go (event.Collect i r) h = still (event.Collect i r) tt h
    go (event.GiveUp i r) h = still (event.GiveUp i r) tt h
    go (event.ClientDatagram i from bytes) h = still (event.ClientDatagram i from bytes) tt h
    go (event.ServerDatagram i from bytes) h = still (event.ServerDatagram i from bytes) tt h
    go (event.Up k n) h = still (event.Up k n) tt h
    go (event.Down k n) h = still (event.Down k n) tt h
    go (event.ClientStep k) h = still (event.ClientStep k) tt h
    go (event.CutClient k) h = still (event.CutClient k) tt h
    go (event.CutServer k) h = still (event.CutServer k) tt h
    go (event.ClientRestart i) h = still (event.ClientRestart i) tt h
    go (event.ServerRestart i) h = still (event.ServerRestart i) tt h
    go (event.Post i name v mask) h = still (event.Post i name v mask) tt h
    go (event.Add i r) h = still (event.Add i r) tt h
    go (event.Tick moment) h = still (event.Tick moment) tt h

events-right : (s : Setting) (ok : IsSetting s) (done es : List Event) (w new : World) → FoldsTo Happens (opening s) done w → FoldsTo Happens w es new → AllUpdatedRight w → AllUpdatedRight new
events-right s ok done [] w new before same all = subst (λ (z : World). AllUpdatedRight z) same all
events-right s ok done (e ∷ es) w new before (mid, one, rest) all =
    let runs : Runs s done None w = (w, before, refl) in
    events-right s ok (done ++ e ∷ []) es mid new (folds-snoc done (opening s) w mid e before one) rest (event-right s w mid e (beside s done None w ok runs) one all)

stops-right : (mid : World) (stopped : Option Event) (w : World) → ServersInOrder mid → StopsAt mid stopped w → AllUpdatedRight mid → AllUpdatedRight w
stops-right mid (Some (event.Tick moment)) w steps stops all = elim stops [
  | inl same ↦ subst (λ (z : World). AllUpdatedRight z) (sym same) all
  | inr ticked ↦ back-right Nothing-new mid w steps (back-frame Nothing-new mid w (ticks-frame moment mid (clients_below ticked.0) w ticked.3)) (λ l c d at on. still-fair l c d) all
]
stops-right mid stopped w steps stops all = subst (λ (z : World). AllUpdatedRight z) (sym stops) all

pub run-right-updates : (s : Setting) (es : List Event) (stopped : Option Event) (w : World) → IsSetting s → Runs s es stopped w → AllUpdatedRight w
run-right-updates s es stopped w ok (mid, folds, stops) =
    stops-right mid stopped w (run-served s es None mid ok (mid, folds, refl)) stops (events-right s ok [] es (opening s) mid refl folds (λ n c at. absurd (none_at n c at)))

-- ---- what the statement says

-- An ERROR was sent before any later message was handled.
abbrev pub ErrorsAreFirst : Circuit → Type 0
ErrorsAreFirst c =
    (l q : ℕ) (u : Told) (g : Step) → At c.down l u → Is command.Error u.message → u.place < q → At c.handled q g → l < g.sent

-- It is a reply; and there is no reply about an EVENT_ADD that has updates.
pub record Refusals (c : Circuit) : Type 0 where
  pub replies : (l : ℕ) (u : Told) → At c.down l u → Is command.Error u.message → u.cause ≡ Reply
  pub first : ErrorsAreFirst c
  pub none : (k a l : ℕ) (t u : Told) → At c.down k t → t.cause ≡ Update a → At c.down l u → u.place ≡ t.place → u.cause ≡ Reply → ⊥

module _ (c : Joined) (log : ℕ) (after : ComeAfter c.lists) (order : InOrder c.lists.handled (length c.lists.up) (length c.lists.down) log) (right : UpdatedRight c.lists)
    (cause : (k : ℕ) (t : Told) → At c.lists.down k t → Is command.EventAdd t.message → (t.message.payload ≡ [] → ⊥) → (a : ℕ) × (t.cause ≡ Update a)) (refusals : Refusals c.lists) where
  abbrev did : Conduct
  did = server_conduct c.lists

  -- what has updates was not refused: an ERROR between two steps is about the message of the first
  unrefused : (k a : ℕ) (t : Told) → At c.lists.down k t → t.cause ≡ Update a → (add : Fields) → IsRefused did t.place add → ⊥
  unrefused k a t at says add r =
      let u = sent-at c.lists r.1 r.2 r.4 in
      let errs : Is command.Error u.0.message = subst (λ (x : Fields). Is command.Error x) u.2 r.6.0 in
      let g = At-mapped (λ (x : Step). x.sent) c.lists.handled t.place r.0 r.3 in
      let b : r.0 ≡ g.0.sent = g.2 in
      let from : r.0 ≤ r.1 = r.5 in
      let h = after r.1 u.0 u.1 in
      let by : h.0.sent ≤ r.1 = h.2 in
      elim (three-ways u.0.place t.place) [
        | inl early ↦ (let lt : r.1 < g.0.sent = refusals.first r.1 t.place u.0 g.0 u.1 errs early g.1 in omega (arith, lt, b, from))
        | inr (inl own) ↦ refusals.none k a r.1 t u.0 at says u.1 own (refusals.replies r.1 u.0 u.1 errs)
        | inr (inr later) ↦ elim (At-or c.lists.handled (t.place + 1)) [
          | inr past ↦
              let within : u.0.place < length c.lists.handled = At-within c.lists.handled u.0.place h.0 h.1 in
              omega (arith, within, past, later)
          | inl next ↦
              let lt : r.1 < next.0.sent = r.7 next.0.sent (At-map (λ (x : Step). x.sent) c.lists.handled (t.place + 1) next.0 next.1) in
              elim (three-ways (t.place + 1) u.0.place) [
                | inl less ↦ (let rise : next.0.sent ≤ h.0.sent = (order.rise (t.place + 1) u.0.place next.0 h.0 less next.1 h.1).0 in omega (arith, lt, rise, by))
                | inr (inl one) ↦
                    let same : next.0.sent ≡ h.0.sent = ap (λ (x : Step). x.sent) (At-one c.lists.handled u.0.place next.0 h.0 (subst (λ (z : ℕ). At c.lists.handled z next.0) one next.1) h.1) in
                    omega (arith, lt, same, by)
                | inr (inr more) ↦ omega (arith, more, later)
              ]
        ]
      ]

  pub legal-updates : UpdatesWhatStands did
  legal-updates k m at is full =
      let t = sent-at c.lists k m at in
      let is_t : Is command.EventAdd t.0.message = subst (λ (x : Fields). Is command.EventAdd x) t.2 is in
      let a = cause k t.0 t.1 is_t (λ none. full (ap (λ (x : Fields). x.payload) t.2 ∙ none)) in
      let r = right k a.0 t.0 t.1 a.1 in
      let h = after r.i r.u r.at in
      let le : h.0.sent ≤ r.i = h.2 in
      let lt : r.i < k = (let x : r.i < r.h.sent = r.early in let z : r.h.sent ≤ k = r.within in omega (arith, x, z)) in (
        r.i,
        r.p,
        r.u.message.p1,
        r.add.message,
        (
          r.u.message,
          At-map (λ (x : Told). x.message) c.lists.down r.i r.u r.at,
          r.creates,
          refl,
          lt,
          λ j q reads clears.
              let s = At-mapped (λ (x : Sent). x.message) c.lists.up j q reads.1 in
              let g = At-mapped (λ (x : Step). x.sent) c.lists.handled j reads.0 reads.2 in
              let b : reads.0 ≡ g.0.sent = g.2 in
              let from : r.i < reads.0 = reads.3 in
              let until : reads.0 ≤ k = reads.4 in
              elim (three-ways j r.u.place) [
                | inl first ↦ (let early : g.0.sent ≤ h.0.sent = (order.rise j r.u.place g.0 h.0 first g.1 h.1).0 in omega (arith, early, le, b, from))
                | inr (inl one) ↦ (let same : g.0.sent ≡ h.0.sent = ap (λ (x : Step). x.sent) (At-one c.lists.handled r.u.place g.0 h.0 (subst (λ (z : ℕ). At c.lists.handled z g.0) one g.1) h.1) in omega (arith, same, le, b, from))
                | inr (inr later) ↦ r.uncleared j s.0 g.0 later g.1 (omega (arith, b, until)) s.1 (subst (λ (x : Fields). Clears x (sid_in r.add.message)) s.2 clears)
              ],
        ),
        λ l q late before there ends.
            let v = sent-at c.lists l q there in
            r.connected l v.0 late before v.1 (subst (λ (x : Fields). Is command.ServerDisconnect x) v.2 ends.0) (ap (λ (x : Fields). x.p1) (sym v.2) ∙ ends.1),
        reads-at c.lists r.i k r.p r.add r.h r.sent r.handled r.early r.within,
        subst (λ (x : Fields). Gives r.add.message (SubId x.p2)) (sym t.2) (r.gives is_t),
        λ l q late reads cancels sids subs.
            let s = At-mapped (λ (x : Sent). x.message) c.lists.up l q reads.1 in
            let g = At-mapped (λ (x : Step). x.sent) c.lists.handled l reads.0 reads.2 in
            let b : reads.0 ≡ g.0.sent = g.2 in
            let until : reads.0 ≤ k = reads.4 in
            r.uncancelled l s.0 g.0 late g.1 (omega (arith, b, until)) s.1 (subst (λ (x : Fields). Is command.EventCancel x) s.2 cancels)
            (ap (λ (x : Fields). x.p1) (sym s.2) ∙ sids) (ap (λ (x : Fields). x.p2) (sym s.2) ∙ subs),
        λ refused. unrefused k a.0 t.0 t.1 a.1 r.add.message (subst (λ (z : ℕ). IsRefused did z r.add.message) (sym r.of) refused),
      )

pub run-updates : (s : Setting) (es : List Event) (stopped : Option Event) (w : World) → IsSetting s → AreEvents es → Runs s es stopped w → ServersUpdateWhatStands w
run-updates s es stopped w ok are runs n d at =
    let j = At-mapped circuit_of w.circuits n d at in
    let l = run-server-steps s es stopped w ok runs n d at in
    let c : Joined = j.0 in (
      l.0,
      l.1,
      l.2,
      subst (λ (v : Circuit). UpdatesWhatStands (server_conduct v)) (sym j.2)
          (legal-updates c (log_length c.lists.server w.server_logs) (run-after s es stopped w ok runs n c j.1) (run-served s es stopped w ok runs n c j.1) (run-right-updates s es stopped w ok runs n c j.1) (cause c j.1) (refusals c j.1)),
    )
  where
    answered : (c : Joined) → At w.circuits n c → (k : ℕ) (h : Step) → At c.lists.handled k h → (log : List Entry) × AnsweredSo n (circuit_of c) log k h
    answered c on k h there =
        let r = run-answered s es stopped w ok runs n (circuit_of c) (At-map circuit_of w.circuits n c on) in
        (r.1, r.3 k h there)

    refusals : (c : Joined) → At w.circuits n c → Refusals c.lists
    refusals c on =
        let log = logs-there s w (ready s es stopped w ok runs).serves.stands.sound n c on in
        let sources = run-sources s es stopped w ok runs n c log.0 on log.1 in
        record {
          replies = replies;
          first = λ l q u g there errs lt handled.
              let h = run-after s es stopped w ok runs n c on l u there in
              let a = answered c on u.place h.0 h.1 in
              let reply : IsReply c.lists u.place l u.message =
              subst (λ (z : Cause). At c.lists.down l (record { message = u.message; place = u.place; cause = z })) (replies l u there errs) there in
              elim (a.1.1 l u.message reply) [
                | inl early ↦ (let next : h.0.sent + length a.1.0.replies ≤ g.sent = a.1.0.next q g lt handled in omega (arith, early, next))
                | inr late ↦ absurd (let e : ◌≡◌ {A = ℕ} 11 19 = sym errs ∙ late.0 in omega (arith, e))
              ];
          none = λ k a l t u at says there same reply. (sources.updates k a t at says).unrefused l u there same reply;
        }
      where
        replies : (l : ℕ) (u : Told) → At c.lists.down l u → Is command.Error u.message → u.cause ≡ Reply
        replies l u there errs =
            is-reply w (runs-caused s es stopped w ok are runs) n l c u on there
            (λ lost. (let e : ◌≡◌ {A = ℕ} 11 27 = sym errs ∙ lost in omega (arith, e))) (λ adds. absurd (let e : ◌≡◌ {A = ℕ} 11 1 = sym errs ∙ adds in omega (arith, e)))

    cause : (c : Joined) → At w.circuits n c → (k : ℕ) (t : Told) → At c.lists.down k t → Is command.EventAdd t.message → (t.message.payload ≡ [] → ⊥) → (a : ℕ) × (t.cause ≡ Update a)
    cause c on k t there is full = go t.cause refl
      where
        go : (x : Cause) → t.cause ≡ x → (a : ℕ) × (t.cause ≡ Update a)
        go (Update a) same = (a, same)
        go Reply same =
            let a = reached-answer w (s, es, stopped, ok, runs) n k c t on there same in
            absurd (full (ap (λ (x : Fields). x.payload) (a.2.copies is)))
        go Removal same =
            let cut = (run-sources s es stopped w ok runs n c (logs-there s w (ready s es stopped w ok runs).serves.stands.sound n c on).0 on (logs-there s w (ready s es stopped w ok runs).serves.stands.sound n c on).1).removals k t there same in
            let a : t.message.command ≡ 27 = cut.9.0 in
            let b : t.message.command ≡ 1 = is in
            absurd (omega (arith, a, b))

pub run-legal : (s : Setting) (es : List Event) (stopped : Option Event) (w : World) → IsSetting s → AreEvents es → Runs s es stopped w → ServersAreLegal w
run-legal s es stopped w ok are runs n d at =
    let a = run-gives-sids s es stopped w ok are runs n d at in
    let b = run-updates s es stopped w ok are runs n d at in
    let c = run-confirms s es stopped w ok are runs n d at in
    let e = run-disconnects s es stopped w ok runs n d at in
    (a.0, a.1, a.2, record { sids = a.3; updates = b.3; confirmations = c.3; disconnects = e.3 })
