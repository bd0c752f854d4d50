-- The late reply to each put is the one that was due, over every event and run.
use Rattle.std.proofs.Common.{◌≡◌, ℕ, zero, suc, ◌+◌, ◌<◌, ◌≤◌, ◌⊎◌, inl, inr, Bool, true, false, cond, List, [], ◌∷◌, ◌++◌, length, Option, Some, None, refl, sym, ap, subst, ◌∙◌, append-nil, arith}
use Rattle.std.proofs.lemmas.Bool.{and_parts}
use Rattle.std.specs.Prelude.{filter, is_some, map, option_map, slice_get, slice_set, unwrap_or}
use Rattle.std.specs.List.{FoldsTo, flat_map}
use Rattle.ca_arena.specs.declared.handle.Handle.{Handle}
use Rattle.ca_link.specs.Link.{with_rest}
use Rattle.ca_model.proofs.Tables.{all-freed-back, one-value}
use Rattle.ca_records.specs.declared.puts.Put.{Put}
use Rattle.ca_text.specs.declared.command.Command.TheVariants as command
use Rattle.ca_text.specs.Place.{At}
use Rattle.ca_text.specs.Status.{normal}
use Rattle.ca_text.proofs.Places.{some_is, At-after, At-append, At-back, At-map, At-mapped, At-one, At-or, At-parts, At-set, At-snoc, At-within}
use Rattle.ca_wire.specs.Fields.{Fields}
use Rattle.ca_wire.specs.Messages.{status_reply}
use Rattle.ca_model.specs.Answers.{Closing}
use Rattle.ca_model.specs.Due.{Action, Applies, Due, KnownRecord, Knows, PutDue, must_wait}
use Rattle.ca_model.specs.Due as action
use Rattle.ca_model.specs.Ends.{Why}
use Rattle.ca_model.specs.History.{Applied, Cause, Entry, Finished, Removal, Reply, Sent, Step, Told, Waits, Withdrawn}
use Rattle.ca_model.specs.Server.{Ended, Open, OpenChannel, Server, ServerCircuit, ServerEnd}
use Rattle.ca_model.specs.ServerCalls.{Replies, after_next, finish_reply, with_finish}
use Rattle.ca_model.specs.ServerSteps.{HasEnd, Pumps, Stepped, knows}
use Rattle.ca_model.specs.Speech.{In, Is, Stored, sid_in}
use Rattle.ca_model.specs.Channels.{IsReply, IsTaken, IsUncleared}
use Rattle.ca_model.specs.ClientEvents.{HappensAccept, WantsFirst, connected_as, new_circuit}
use Rattle.ca_model.specs.Events.{Event}
use Rattle.ca_model.specs.Events as event
use Rattle.ca_model.specs.Runs.{Happens, Runs, StopsAt, clients_below}
use Rattle.ca_model.specs.ServerEvents.{HappensFinish, HappensPump, HappensRemove, ServerStepped, StepHandles, about, acted, ending, ends_at, ends_by, finish_entry, first_of, handled_at, left_by, logged_by, next_entries, next_numbers, removal_told, replied_at, server_after, side_of, withdrawals}
use Rattle.ca_model.specs.ServerEvents as server
use Rattle.ca_model.specs.World.{ClientSide, IsSetting, Joined, PutPlace, RecordSide, ServerSide, Setting, Standing, World, opening, with_circuit}
use Rattle.ca_laws_parts.specs.Later.{IsLater, stamped_told}
use Rattle.ca_laws_parts.proofs.Updates.{stamps-later}
use Rattle.ca_laws_runs.specs.Pairs.{BusyPair}
use Rattle.ca_laws_runs.proofs.CauseKeeps.{handled-or}
use Rattle.ca_laws_runs.proofs.StepWhole.{takes-next}
use Rattle.ca_laws_parts.specs.Agrees.{Agrees, IsBusyAs, IsBusyBy, IsBusyWith}
use Rattle.ca_laws_parts.specs.Lives.{AreSlow, CameOn, IsPutOf, LostOn}
use Rattle.ca_laws_parts.specs.Moves.{Lives, finish_told}
use Rattle.ca_laws_parts.specs.Once.{HadWaited, Once, write_in}
use Rattle.ca_laws_parts.proofs.Cores.{EndsBy, next-ends, replies-stay, stay-self, stay-then}
use Rattle.ca_laws_parts.proofs.Doing.{due-applies, due-waits}
use Rattle.ca_laws_parts.proofs.WritesEvents.{Found, found}
use Rattle.ca_laws_parts.proofs.Every.{ticks-frame}
use Rattle.ca_laws_parts.proofs.Frames.{Frame}
use Rattle.ca_laws_parts.proofs.Grown.{ending-down, next-down}
use Rattle.ca_laws_parts.proofs.HappensClient.{sent-frame}
use Rattle.ca_laws_parts.proofs.InStepLasts.{world-numbered}
use Rattle.ca_laws_parts.proofs.Lasting.{told_late}
use Rattle.ca_laws_parts.proofs.WritesLists.{beside-right, none_at}
use Rattle.ca_laws_parts.proofs.WritesLives.{others-apart}
use Rattle.ca_laws_parts.proofs.Midway.{grown-here}
use Rattle.ca_laws_parts.proofs.WritesMoves.{At-below, same-or}
use Rattle.ca_laws_parts.proofs.Step.{known-one}
use Rattle.ca_laws_runs.proofs.Acting.{Extends, IsLonger, grown-back}
use Rattle.ca_laws_runs.proofs.AnsweringFrame.{step-lists, step-of}
use Rattle.ca_laws_runs.proofs.CausingEvents.{Nothing-new, Ready, steady-of}
use Rattle.ca_laws_runs.proofs.CausingFrame.{Back, IsStill, News, PumpNews, RemoveNews, Says, Takes, back-frame, finish-back, pump-back, removed-back, step-back, still-back, unhandled-back}
use Rattle.ca_laws_runs.proofs.CausingKeeps.{Steady}
use Rattle.ca_laws_runs.proofs.CausingRuns.{ready}
use Rattle.ca_laws_runs.proofs.LatelyKeeps.{IsDelayed, IsKnownLate, IsLateDid, delayed-old, late-forth}
use Rattle.ca_laws_runs.proofs.LatelyLogs.{FinishesOr, IsNoFinish, IsThis, event-told, finish-told}
use Rattle.ca_laws_runs.proofs.LatelyOpen.{AllHeld, event-since, open-was, run-held}
use Rattle.ca_laws_runs.proofs.LoggedStep.{told-logs}
use Rattle.ca_laws_runs.proofs.FollowsWhole.{LogsGrow, folds-snoc, logs-grow, logs-there}

-- ---- a put whose reply comes late has none in its step

late-none : (k : Knows) (m : Fields) (replies : List Fields) (did : Action) → AreSlow k → Due k m replies did → Is command.WriteNotify m
    → IsLateDid did → replies ≡ []
late-none k m replies did slow due is late = elim (due.put is) [
  | inl served ↦ put served
  | inr stray ↦ absurd (subst (λ (x : Action). IsLateDid x) stray.3 late)
]
  where
    put : PutDue k m replies did → replies ≡ []
    put (c, inl refused) = absurd (subst (λ (x : Action). IsLateDid x) refused.3 late)
    put (c, inr taken) = go c.known.state.slow refl
      where
        go : (b : Bool) → c.known.state.slow ≡ b → replies ≡ []
        go true is_slow = taken.2 ∙ ap (λ (x : Bool). cond x [] (status_reply m normal ∷ [])) is_slow
        go false not_slow = absurd (by-wait (must_wait k m c) refl)
          where
            by-wait : (x : Bool) → must_wait k m c ≡ x → ⊥
            by-wait true waits = (let e : true ≡ false = sym (slow c.channel.name c.known c.named (and_parts _ c.known.busy waits).1) ∙ not_slow in cc)
            by-wait false none =
                subst (λ (x : Action). IsLateDid x)
                (taken.3 ∙ ap (λ (x : Bool). cond x (action.Waits c.channel.name taken.0) (Applies c.channel.name taken.0 c.known.state.slow)) none ∙ ap (λ (x : Bool). Applies c.channel.name taken.0 x) not_slow) late

-- what a step logs is late only if it does so
one-in : (x e : Entry) → In (x ∷ []) e → x ≡ e
one-in x e (zero, at) = some_is x e at
one-in x e (suc i, at) = absurd (none_at i e at)

waits-is : (n k r a b q : ℕ) (v u : Stored) (x : Bool) → Applied n k r v x ≡ Waits a b q u → ⊥
waits-is n k r a b q v u x e = cc

applied-is : (n k r a b q : ℕ) (v u : Stored) (x : Bool) → Waits n k r v ≡ Applied a b q u x → ⊥
applied-is n k r a b q v u x e = cc

busies-is : (n k r a b q : ℕ) (v u : Stored) (x y : Bool) → Applied n k r v x ≡ Applied a b q u y → x ≡ y
busies-is n k r a b q v u x y e = cc

gone-waits : (ps : List PutPlace) (a b q : ℕ) (u : Stored) → In (map (λ (p : PutPlace). Withdrawn p.circuit p.place) ps) (Waits a b q u) → ⊥
gone-waits ps a b q u (i, at) = (let p = At-mapped (λ (p : PutPlace). Withdrawn p.circuit p.place) ps i (Waits a b q u) at in other p.0.circuit p.0.place p.2)
  where
    other : (n k : ℕ) → Waits a b q u ≡ Withdrawn n k → ⊥
    other n k e = cc

gone-applied : (ps : List PutPlace) (a b q : ℕ) (u : Stored) (x : Bool)
    → In (map (λ (p : PutPlace). Withdrawn p.circuit p.place) ps) (Applied a b q u x) → ⊥
gone-applied ps a b q u x (i, at) = (let p = At-mapped (λ (p : PutPlace). Withdrawn p.circuit p.place) ps i (Applied a b q u x) at in other p.0.circuit p.0.place p.2)
  where
    other : (n k : ℕ) → Applied a b q u x ≡ Withdrawn n k → ⊥
    other n k e = cc

logged-waits : (core : Server) (g : Handle) (p : PutPlace) (did : Action) (rs : List RecordSide) (a b q : ℕ) (u : Stored)
    → In (logged_by core g p did rs) (Waits a b q u) → IsLateDid did
logged-waits core g p (action.Waits name value) rs a b q u there = tt
logged-waits core g p (Applies name value busies) rs a b q u there = absurd (waits-is p.circuit p.place _ a b q _ u busies (one-in _ (Waits a b q u) there))
logged-waits core g p (action.Clears sid) rs a b q u there = absurd (gone-waits _ a b q u there)
logged-waits core g p action.Nothing rs a b q u there = absurd (none_at there.0 (Waits a b q u) there.1)
logged-waits core g p action.Greets rs a b q u there = absurd (none_at there.0 (Waits a b q u) there.1)
logged-waits core g p (action.Names x) rs a b q u there = absurd (none_at there.0 (Waits a b q u) there.1)
logged-waits core g p (action.Opens x) rs a b q u there = absurd (none_at there.0 (Waits a b q u) there.1)
logged-waits core g p (action.Adds x) rs a b q u there = absurd (none_at there.0 (Waits a b q u) there.1)
logged-waits core g p (action.Drops x) rs a b q u there = absurd (none_at there.0 (Waits a b q u) there.1)
logged-waits core g p (action.Switches x) rs a b q u there = absurd (none_at there.0 (Waits a b q u) there.1)

logged-applied : (core : Server) (g : Handle) (p : PutPlace) (did : Action) (rs : List RecordSide) (a b q : ℕ) (u : Stored)
    → In (logged_by core g p did rs) (Applied a b q u true) → IsLateDid did
logged-applied core g p (Applies name value busies) rs a b q u there =
    subst (λ (x : Bool). IsLateDid (Applies name value x)) (sym (busies-is p.circuit p.place _ a b q _ u busies true (one-in _ (Applied a b q u true) there))) tt
logged-applied core g p (action.Waits name value) rs a b q u there = absurd (applied-is p.circuit p.place _ a b q _ u true (one-in _ (Applied a b q u true) there))
logged-applied core g p (action.Clears sid) rs a b q u there = absurd (gone-applied _ a b q u true there)
logged-applied core g p action.Nothing rs a b q u there = absurd (none_at there.0 (Applied a b q u true) there.1)
logged-applied core g p action.Greets rs a b q u there = absurd (none_at there.0 (Applied a b q u true) there.1)
logged-applied core g p (action.Names x) rs a b q u there = absurd (none_at there.0 (Applied a b q u true) there.1)
logged-applied core g p (action.Opens x) rs a b q u there = absurd (none_at there.0 (Applied a b q u true) there.1)
logged-applied core g p (action.Adds x) rs a b q u there = absurd (none_at there.0 (Applied a b q u true) there.1)
logged-applied core g p (action.Drops x) rs a b q u there = absurd (none_at there.0 (Applied a b q u true) there.1)
logged-applied core g p (action.Switches x) rs a b q u there = absurd (none_at there.0 (Applied a b q u true) there.1)

-- ---- causes differ

reply-removal : let a : Cause = Reply in let b : Cause = Removal in a ≡ b → ⊥
reply-removal e = cc

-- ---- worlds

module _ (Answers : Fields → Fields → Type 0) where
  abbrev pub AllLate : World → Type 0
  AllLate w = (n : ℕ) (c : Joined) (y : List Entry) → At w.circuits n c → At w.server_logs c.lists.server y → (k : ℕ) (h : Step) (q : Sent) → At c.lists.handled k h → At c.lists.up k q → IsKnownLate Answers n c.lists y k q

  -- what a server would send for its busy puts
  abbrev pub AnswersAt : World → Type 0
  AnswersAt w = (i : ℕ) (y : ServerSide) (q : PutPlace) (b : Put) → At w.servers i y → BusyPair y.core.records y.records q b → (p : IsPutOf w.circuits i q b) → Answers p.s.message (finish_reply b)

  module _ (s : Setting) (w new : World) (e : Event) (ready_w : Ready s w) (ready_new : Ready s new) (happens : Happens w e new)
      (grow : LogsGrow w new) (all : AllLate w) where
    abbrev NoneTold : World → Type 0
    NoneTold v = FinishesOr (λ (n k : ℕ). ⊥) w v

    -- a circuit goes on, and nothing new is about the message at place k
    forth : (n : ℕ) (c d : Joined) (lg : List Entry) → At w.circuits n c → At new.circuits n d → At new.server_logs d.lists.server lg
        → d.lists.server ≡ c.lists.server → Extends c.lists d.lists → (k : ℕ) (h : Step) (q : Sent) → At c.lists.handled k h → At d.lists.up k q
        → ((j : ℕ) (m : Fields) → IsReply d.lists k j m → IsReply c.lists k j m) → ((i : ℕ) → At lg i (Finished n k) → (y : List Entry) × At w.server_logs d.lists.server y × At y i (Finished n k)) → IsKnownLate Answers n d.lists lg k q
    forth n c d lg on at logged life ext k h q at_h at_q replies finished =
        let log = logs-there s w ready_w.serves.stands.sound n c on in
        let more = grow c.lists.server log.0 log.1 in
        let here : At new.server_logs c.lists.server lg = subst (λ (l : ℕ). At new.server_logs l lg) life logged in
        let is : lg ≡ log.0 ++ more.0 = At-one new.server_logs c.lists.server lg (log.0 ++ more.0) here more.1 in
        let steady : Steady log.0 c.lists = steady-of s w ready_w n c log.0 on log.1 in
        let lt : k < length c.lists.handled = At-within c.lists.handled k h at_h in
        let few : length c.lists.handled ≤ length c.lists.up = steady.few in
        let inside = ready_w.serves.stands.sound.within n c on in
        let same : inside.0 ≡ log.0 = At-one w.server_logs c.lists.server inside.0 log.0 inside.1 log.1 in
        let ends : h.after ≤ length inside.0 = inside.2 k h at_h in
        let len : length inside.0 ≡ length log.0 = ap (λ (l : List Entry). length l) same in
        let once : Once (CameOn new.circuits c.lists.server) (LostOn new.circuits) (log.0 ++ more.0) = subst (λ (l : List Entry). Once (CameOn new.circuits c.lists.server) (LostOn new.circuits) l) is (ready_new.serves.stands.sound.writes.logs c.lists.server lg here) in
        late-forth Answers n c.lists d.lists log.0 lg k q ext (more.0, is)
        (λ delayed. delayed-old new.circuits c.lists.server log.0 more.0 once n k d at h (ext.handled k h at_h) (omega (arith, ends, len)) (subst (λ (l : List Entry). IsDelayed l n k) is delayed))
        replies
        (λ i there. (let f = finished i there in subst (λ (l : List Entry). At l i (Finished n k)) (At-one w.server_logs c.lists.server f.0 log.0 (subst (λ (l : ℕ). At w.server_logs l f.0) life f.1) log.1) f.2))
        (λ opened. open-was s w new e ready_w ready_new happens n c d on at opened)
        (all n c log.0 on log.1 k h q at_h (grown-back c.lists.up d.lists.up ext.up k q (omega (arith, lt, few)) at_q))

    old-finish : (v : World) → NoneTold v → (l : ℕ) (lg : List Entry) → At v.server_logs l lg → (n k i : ℕ) → At lg i (Finished n k)
        → (y : List Entry) × At w.server_logs l y × At y i (Finished n k)
    old-finish v told l lg logged n k i there = elim (told l lg i n k logged there) [ inl was ↦ was | inr none ↦ absurd none ]

    back-late : (F : ℕ → News → Type 0) → Back F w new → NoneTold new → ((l m : ℕ) (h : Step) → F l (Takes m h) → ⊥)
        → ((l k : ℕ) (m : Fields) → F l (Says (record { message = m; place = k; cause = Reply })) → ⊥) → AllLate new
    back-late F back told takes late n d lg at logged k h q at_h at_q =
        let c = back n d at in
        let was : At c.0.lists.handled k h = elim (c.2.handled k h at_h) [ inl x ↦ x | inr x ↦ absurd (takes n k h x) ] in
        forth n c.0 d lg c.1 at logged c.2.life c.2.lists k h q was at_q (λ j m reply. elim (c.2.told j _ reply) [ inl x ↦ x | inr x ↦ absurd (late n k m x.1) ])
        (old-finish new told d.lists.server lg logged n k)

    still-late : Back Nothing-new w new → NoneTold new → AllLate new
    still-late back told = back-late Nothing-new back told (λ l m h x. x) (λ l k m x. x)

    -- updates leave
    pump-late : (k : ℕ) (j : Joined) (y : ServerSide) (f : HappensPump w k j y new) → At w.circuits k j → At w.servers j.server y
        → j.lists.server_open ≡ true → NoneTold new → AllLate new
    pump-late k j y f on at opened told = back-late (PumpNews k (stamped_told f.updates j)) (pump-back w new k j y on f) told (λ l m h x. x) (λ l p m x. (later _ x.1).other refl)
      where
        ks : List ℕ
        ks = map (λ (z : Standing). z.place) j.standing

        later : (t : Told) → In (stamped_told f.updates j) t → IsLater ks j.lists t
        later t there = go f.pumps
          where
            go : Pumps y.core j.at_server f.updates f.core → IsLater ks j.lists t
            go (inl (e, has, (after, folds, rest))) =
                stamps-later ks j f.updates e after j folds (ready_w.serves.in_step k j y e on at opened has).queues (ready_w.serves.numbers k j on opened) (ready_w.serves.messages k j on opened)
                (λ st stands. (stands.0, At-map (λ (z : Standing). z.place) j.standing stands.0 st stands.1)) t there
            go (inr (none, nothing, is)) = absurd (none_at there.0 t (subst (λ (us : List _). At (stamped_told us j) there.0 t) nothing there.1))

    -- a record is removed
    remove-late : (i : ℕ) (y : ServerSide) (name : List ℕ) (gone : Handle → Bool) (left : Handle → ℕ)
        → Back (RemoveNews w i y.core name gone left) w new → NoneTold new → AllLate new
    remove-late i y name gone left back told =
        back-late (RemoveNews w i y.core name gone left) back told (λ l m h x. x)
        (λ l k m x. (let z = At-mapped (removal_told (x.0).creations) _ x.4.0 _ x.4.1 in reply-removal (ap (λ (v : Told). v.cause) z.2)))

    -- ---- a circuit is made

    accept-late : (i : ℕ) (x : ClientSide) (v : WantsFirst w x) → HappensAccept w i x v new → NoneTold new → AllLate new
    accept-late i x v f told = elim f.leaves [
      | inl full ↦ subst (λ (z : World). AllLate z) (sym full.1) all
      | inr made ↦
          let c : Joined = connected_as made.1 (new_circuit i x v.v.circuit v.i v.y made.0) in
          let mid : World = record w { servers = slice_set w.servers v.i (record v.y { core = f.server }); circuits = w.circuits ++ c ∷ [] } in
          let g : Frame mid new = sent-frame mid new i x.names made.2 (ap (λ (z : World). z.servers) made.6) (ap (λ (z : World). z.server_logs) made.6) (ap (λ (z : World). z.circuits) made.6) in
          λ n d lg at logged k h q at_h at_q.
          let b = back-frame Nothing-new mid new g n d at in
          let was : At b.0.lists.handled k h = elim (b.2.handled k h at_h) [ inl z ↦ z | inr z ↦ absurd z ] in
          elim (At-snoc w.circuits c n b.0 b.1) [
            | inl old_it ↦
                forth n b.0 d lg old_it at logged b.2.life b.2.lists k h q was at_q (λ j m reply. elim (b.2.told j _ reply) [ inl z ↦ z | inr z ↦ absurd z.1 ])
                (old-finish new told d.lists.server lg logged n k)
            | inr last ↦ absurd (none_at k h (subst (λ (l : List Step). At l k h) (ap (λ (z : Joined). z.lists.handled) last.1 ∙ empty made.1 made.0) was))
          ]
    ]
      where
        empty : (o : Option Closing) (g : _) → let z : Joined = connected_as o (new_circuit i x v.v.circuit v.i v.y g) in z.lists.handled ≡ []
        empty None g = refl
        empty (Some k) g = refl

    -- ---- a message is handled

    module _ (k : ℕ) (j : Joined) (y : ServerSide) (on : At w.circuits k j) (at_y : At w.servers j.server y) (opened : j.lists.server_open ≡ true)
        (f : StepHandles w k j y new) (told : NoneTold new) where
      abbrev place : ℕ
      place = length j.lists.handled

      abbrev p : PutPlace
      p = record { circuit = k; place = place }

      abbrev step : Step
      step = step-of w new k j y f

      abbrev replies : List Fields
      replies = (f.steps.0).replies

      abbrev did : Action
      did = (f.steps.0).action

      abbrev taken : ServerEnd
      taken = record f.e { link = with_rest (f.steps.0).rest f.e.link }

      own : Lives w j.server y
      own = ready_w.serves.stands.sound.writes.lives j.server y at_y

      joins : j.lists.server ≡ y.life
      joins = (let seat = ready_w.serves.stands.sound.seated.each k j on opened in seat.joins ∙ ap (λ (z : ServerSide). z.life) (At-one w.servers j.server seat.y y seat.at at_y))

      sent : (q : Sent) × At j.lists.up place q × (q.message ≡ (f.steps.0).m)
      sent = takes-next s w ready_w.serves k j y f.e (f.steps.0).m (f.steps.0).rest on at_y opened f.has (f.steps.0).takes

      -- the log did not tell of it
      untold : (x : Entry) → In own.log x → write_in x ≡ Some p → ⊥
      untold x there tells = (let lt : place < place = ready_w.serves.stands.sound.writes.handled y.life own.log x p own.at there tells j on opened in omega (arith, lt))

      slow-known : AreSlow (knows y.core taken)
      slow-known name r named busy =
          let c = known-one y.core.records name r named in
          let found_it = found (IsPutOf w.circuits j.server) own.log y.core.records y.records name c.0 own.life.each c.1 in
          let b = some-put c.0.busy (ap (λ (z : KnownRecord). z.busy) c.2 ∙ busy) in
          ap (λ (z : KnownRecord). z.state.slow) (sym c.2) ∙ found_it.agrees.slow b.0 b.1
        where
          some-put : (o : Option Put) → is_some o ≡ true → (b : Put) × (o ≡ Some b)
          some-put None is_it = absurd cc
          some-put (Some b) is_it = (b, refl)

      -- what its step logged
      abbrev more : List Entry
      more = logged_by y.core j.at_server p did y.records

      abbrev midway : World
      midway = acted k j y did w

      abbrev side : ServerSide
      side = side_of j.server y midway

      abbrev ended_log : List Entry
      ended_log = withdrawals (ends_at (ends_by j.server f.core) midway.circuits) side.records

      abbrev ended : World
      ended = server_after j.server side (ends_by j.server f.core) f.core midway

      side-life : side.life ≡ y.life
      side-life = go (slice_get midway.servers j.server) refl
        where
          next : ServerSide
          next = record y { records = server.records_after y.core j.at_server p did y.records }

          go : (o : Option ServerSide) → slice_get midway.servers j.server ≡ o → (unwrap_or o y).life ≡ y.life
          go None is = refl
          go (Some z) is = elim (At-set w.servers j.server next j.server z is) [ inl mine ↦ ap (λ (x : ServerSide). x.life) mine.1 | inr old ↦ absurd (old.1 refl) ]

      noted-log : (o : Option Joined)
          → (unwrap_or (option_map (λ (c : Joined). with_circuit k (handled_at place step replies c) ended) o) ended).server_logs ≡ ended.server_logs
      noted-log None = refl
      noted-log (Some c) = refl

      log-is : (lg : List Entry) → At new.server_logs y.life lg → lg ≡ (own.log ++ more) ++ ended_log
      log-is lg logged =
          let mid_log : At midway.server_logs y.life (own.log ++ more) = grown-here w.server_logs y.life own.log more own.at in
          let after_log : At ended.server_logs y.life ((own.log ++ more) ++ ended_log) = subst (λ (l : ℕ). At ended.server_logs l ((own.log ++ more) ++ ended_log)) side-life (grown-here midway.server_logs side.life (own.log ++ more) ended_log (subst (λ (l : ℕ). At midway.server_logs l (own.log ++ more)) (sym side-life) mid_log)) in
          At-one ended.server_logs y.life lg ((own.log ++ more) ++ ended_log) (subst (λ (x : List (List Entry)). At x y.life lg) (ap (λ (z : World). z.server_logs) f.leaves ∙ noted-log (slice_get ended.circuits k)) logged) after_log

      delayed-late : (lg : List Entry) → At new.server_logs y.life lg → IsDelayed lg k place → IsLateDid did
      delayed-late lg logged delayed = go (subst (λ (l : List Entry). IsDelayed l k place) (log-is lg logged) delayed)
        where
          ps : List PutPlace
          ps = flat_map (λ (r : RecordSide). filter (λ (q : PutPlace). ends_at (ends_by j.server f.core) midway.circuits q.circuit) r.waiting) side.records

          go : IsDelayed ((own.log ++ more) ++ ended_log) k place → IsLateDid did
          go (inl (r, v, there)) = elim (At-parts (own.log ++ more) ended_log there.0 (Waits k place r v) there.1) [
            | inl first ↦ elim (At-parts own.log more there.0 (Waits k place r v) first) [
              | inl old ↦ absurd (untold (Waits k place r v) (there.0, old) refl)
              | inr now ↦ logged-waits y.core j.at_server p did y.records k place r v (now.0, now.2)
            ]
            | inr last ↦ absurd (gone-waits ps k place r v (last.0, last.2))
          ]
          go (inr (r, v, there)) = elim (At-parts (own.log ++ more) ended_log there.0 (Applied k place r v true) there.1) [
            | inl first ↦ elim (At-parts own.log more there.0 (Applied k place r v true) first) [
              | inl old ↦ absurd (untold (Applied k place r v true) (there.0, old) refl)
              | inr now ↦ logged-applied y.core j.at_server p did y.records k place r v (now.0, now.2)
            ]
            | inr last ↦ absurd (gone-applied ps k place r v true (last.0, last.2))
          ]

      late-asks : IsLateDid did → Is command.WriteNotify (f.steps.0).m
      late-asks late = go did late ((f.steps.0).handles).due
        where
          go : (did : Action) → IsLateDid did → Due (knows y.core taken) (f.steps.0).m replies did → Is command.WriteNotify (f.steps.0).m
          go (Applies name value true) late due = ((due-applies (knows y.core taken) (f.steps.0).m replies name value true due).1 refl).0
          go (Applies name value false) late due = absurd late
          go (action.Waits name value) late due = (due-waits (knows y.core taken) (f.steps.0).m replies name value due).1
          go (action.Clears sid) late due = absurd late
          go action.Nothing late due = absurd late
          go action.Greets late due = absurd late
          go (action.Names x) late due = absurd late
          go (action.Opens x) late due = absurd late
          go (action.Adds x) late due = absurd late
          go (action.Drops x) late due = absurd late
          go (action.Switches x) late due = absurd late

      step-late : AllLate new
      step-late n d lg at logged m h q at_h at_q = elim (same-or n k) [
        | inr other ↦
            let c = step-back w new k j y on f n d at in
            let was : At c.0.lists.handled m h = elim (c.2.handled m h at_h) [ inl x ↦ x | inr x ↦ absurd (other x.0) ] in
            forth n c.0 d lg c.1 at logged c.2.life c.2.lists m h q was at_q (λ i z reply. elim (c.2.told i _ reply) [ inl x ↦ x | inr x ↦ absurd (other x.1.0) ])
            (old-finish new told d.lists.server lg logged n m)
        | inl is ↦ subst (λ (x : ℕ). IsKnownLate Answers x d.lists lg m q) (sym is) (own-late (subst (λ (x : ℕ). At new.circuits x d) is at))
      ]
        where
          own-late : At new.circuits k d → IsKnownLate Answers k d.lists lg m q
          own-late here = elim (At-snoc j.lists.handled step m h (subst (λ (l : List Step). At l m h) lists.2 at_h)) [
            | inl old ↦
                forth k j d lg on here logged lists.3 ext m h q old at_q
                (λ i z reply. elim (down-was i _ reply) [
                  | inl x ↦ x
                  | inr x ↦ (let r = reply-at x.0 _ x.2 in
                      let e1 : m ≡ place = ap (λ (t : Told). t.place) r.2 in
                      let lt : m < place = At-within j.lists.handled m h old in absurd (omega (arith, e1, lt)))
                ])
                (old-finish new told d.lists.server lg logged k m)
            | inr now ↦ subst (λ (x : ℕ). IsKnownLate Answers k d.lists lg x q) (sym now.0) fresh
          ]
            where
              lists : (d.lists.up ≡ j.lists.up) × (d.lists.down ≡ j.lists.down ++ about place Reply replies) × (d.lists.handled ≡ j.lists.handled ++ step ∷ []) × (d.lists.server ≡ j.lists.server)
              lists = step-lists w new k j y f d here

              ext : Extends j.lists d.lists
              ext = record {
                up = λ i x there. subst (λ (l : List Sent). At l i x) (sym lists.0) there;
                down = λ i x there. subst (λ (l : List Told). At l i x) (sym lists.1) (At-append j.lists.down (about place Reply replies) i x there);
                handled = λ i x there. subst (λ (l : List Step). At l i x) (sym lists.2) (At-append j.lists.handled (step ∷ []) i x there);
              }

              down-was : (i : ℕ) (t : Told) → At d.lists.down i t
                  → At j.lists.down i t ⊎ ((z : ℕ) × (i ≡ length j.lists.down + z) × At (about place Reply replies) z t)
              down-was i t there = At-parts j.lists.down (about place Reply replies) i t (subst (λ (z : List Told). At z i t) lists.1 there)

              reply-at : (z : ℕ) (t : Told) → At (about place Reply replies) z t
                  → (r : Fields) × At replies z r × (t ≡ record { message = r; place = place; cause = Reply })
              reply-at z t there = At-mapped (λ (v : Fields). let x : Told = record { message = v; place = place; cause = Reply } in x) replies z t there

              life_log : At new.server_logs y.life lg
              life_log = subst (λ (l : ℕ). At new.server_logs l lg) (lists.3 ∙ joins) logged

              -- it is not finished yet
              unfinished : (i : ℕ) → At lg i (Finished k place) → ⊥
              unfinished i there =
                  let o = old-finish new told y.life lg life_log k place i there in
                  untold (Finished k place) (i, subst (λ (l : List Entry). At l i (Finished k place)) (At-one w.server_logs y.life o.0 own.log o.1 own.at) o.2) refl

              steady : (log : List Entry) → At w.server_logs j.lists.server log → Steady log j.lists
              steady log there = steady-of s w ready_w k j log on there

              fresh : IsKnownLate Answers k d.lists lg place q
              fresh = record {
                place = 0;
                waits = λ delayed i z reply. elim (down-was i _ reply) [
                  | inl old ↦ (let lt : place < place = (steady own.log (subst (λ (l : ℕ). At w.server_logs l own.log) (sym joins) own.at)).below i _ old in absurd (omega (arith, lt)))
                  | inr now ↦
                      let late : IsLateDid did = delayed-late lg life_log delayed in
                      let none : replies ≡ [] = late-none (knows y.core taken) (f.steps.0).m replies did slow-known ((f.steps.0).handles).due (late-asks late) late in
                      let r = reply-at now.0 _ now.2 in
                      absurd (none_at now.0 r.0 (subst (λ (l : List Fields). At l now.0 r.0) none r.1))
                ];
                one = λ i z reply done. absurd (unfinished done.0 done.1);
                comes = λ i there uncleared is_open. absurd (unfinished i there);
              }

    -- ---- a put is finished

    module _ (i : ℕ) (y : ServerSide) (name : List ℕ) (at_y : At w.servers i y) (f : server.Finished w i y name new) (held : AllHeld w)
        (says : AnswersAt w) where
      abbrev ms : List Fields
      ms = map (λ (x : Handle × Fields). x.1) f.sent

      abbrev b : Put
      b = f.finishes.0.p

      abbrev next_side : ServerSide
      next_side = record y { records = server.with_record name server.next_busy y.records }

      abbrev told_world : World
      told_world = finish_told w i y name f.cr f.r f.p

      abbrev mid_world : World
      mid_world = replied_at f.p f.sent told_world

      abbrev new_world : World
      new_world = server_after i next_side (ends_by i f.core) f.core mid_world

      own-life : Lives w i y
      own-life = ready_w.serves.stands.sound.writes.lives i y at_y

      g0 : Found (IsPutOf w.circuits i) own-life.log y.core.records y.records name f.finishes.0.r
      g0 = found (IsPutOf w.circuits i) own-life.log y.core.records y.records name f.finishes.0.r own-life.life.each f.finishes.0.named

      one-side : g0.r ≡ f.r
      one-side =
          (let same_place : g0.i ≡ f.at.0 = elim (others-apart y.records g0.i f.at.0 g0.r f.r own-life.life.others g0.in_rs f.at.1) [ inl same ↦ same | inr other ↦ absurd (other.0 (f.at.2 ∙ sym g0.named)) ] in
          At-one y.records f.at.0 g0.r f.r (subst (λ (n : ℕ). At y.records n g0.r) same_place g0.in_rs) f.at.1)

      put : IsPutOf w.circuits i f.p b
      put =
          subst (λ (v : Option PutPlace × Option Put). IsBusyAs (IsPutOf w.circuits i) v.0 v.1) (λ n. ((ap (λ (z : RecordSide). z.busy) one-side ∙ f.busy) n, f.finishes.0.busy n)) g0.agrees.busy_as

      pair : BusyPair y.core.records y.records f.p b
      pair = record {
        c = f.finishes.0.r;
        r = f.r;
        in_cs = (g0.i, g0.in_cs);
        in_rs = (f.at.0, f.at.1);
        name = g0.agrees.name ∙ ap (λ (z : RecordSide). z.name) one-side;
        core = f.finishes.0.busy;
        side = f.busy;
      }

      by : IsBusyWith own-life.log f.r.number f.p
      by =
          let x = beside-right (Agrees (IsPutOf w.circuits i) own-life.log) y.core.records y.records f.at.0 f.r own-life.life.each f.at.1 in
          subst (λ (o : Option PutPlace). IsBusyBy own-life.log f.r.number o) f.busy x.2.busy

      -- the circuit of the put joins this life of the server
      put-life : put.c.lists.server ≡ y.life
      put-life = go (own-life.life.once.own by.i f.p.circuit f.p.place f.r.number by.v true by.at)
        where
          on-one : (c : Joined) → At w.circuits f.p.circuit c → c.lists.server ≡ y.life → put.c.lists.server ≡ y.life
          on-one c on joins = ap (λ (z : Joined). z.lists.server) (At-one w.circuits f.p.circuit put.c c put.on on) ∙ joins

          go : CameOn w.circuits y.life IsTaken f.p by.i by.v.value ⊎ HadWaited own-life.log f.p by.i f.r.number by.v.value → put.c.lists.server ≡ y.life
          go (inl came) = on-one came.c came.on came.joins
          go (inr waited) = (let came = own-life.life.once.came waited.0 f.p.circuit f.p.place f.r.number waited.1 waited.3 in on-one came.c came.on came.joins)

      -- every message that is sent is that reply
      sent-is : Replies (with_finish name f.finishes.0.r y.core) b f.finishes.0.gone f.sent f.finishes.1 → (z : ℕ) (v : Handle × Fields)
          → At f.sent z v → (z ≡ 0) × (v.1 ≡ finish_reply b)
      sent-is (inl (e, awaited, sent, is)) zero v there = (refl, ap (λ (o : Option (Handle × Fields)). (unwrap_or o v).1) (sym there ∙ ap (λ (l : List (Handle × Fields)). slice_get l 0) sent))
      sent-is (inl (e, awaited, sent, is)) (suc z) v there = absurd (none_at z v (subst (λ (l : List (Handle × Fields)). At l (suc z) v) sent there))
      sent-is (inr (none, sent, is)) z v there = absurd (none_at z v (subst (λ (l : List (Handle × Fields)). At l z v) sent there))

      -- the messages of the server on the circuit of the put
      down-is : (d : Joined) → At new.circuits f.p.circuit d → d.lists.down ≡ put.c.lists.down ++ about f.p.place Reply ms
      down-is d at =
          let x = At-mapped (ending (ends_by i f.core)) mid_world.circuits f.p.circuit d (subst (λ (z : World). At z.circuits f.p.circuit d) f.leaves at) in
          ap (λ (z : Joined). z.lists.down) x.2 ∙ ending-down (ends_by i f.core) x.0 ∙ go (slice_get told_world.circuits f.p.circuit) refl x.0 x.1
        where
          none-some : (x : Joined) → let a : Option Joined = None in let b : Option Joined = Some x in a ≡ b → ⊥
          none-some x e1 = cc

          told-down : (c : Joined) → At told_world.circuits f.p.circuit c → c.lists.down ≡ put.c.lists.down
          told-down c there =
              let z = At-mapped (next_numbers i y.core name f.cr.waiting) w.circuits f.p.circuit c there in
              ap (λ (v : Joined). v.lists.down) z.2 ∙ next-down i y.core name f.cr.waiting z.0 ∙ ap (λ (v : Joined). v.lists.down) (At-one w.circuits f.p.circuit z.0 put.c z.1 put.on)

          go : (o : Option Joined) → slice_get told_world.circuits f.p.circuit ≡ o → (c : Joined)
              → At (unwrap_or (option_map (λ (v : Joined). with_circuit f.p.circuit (told_late f.p.place ms v) told_world) o) told_world).circuits f.p.circuit c
              → c.lists.down ≡ put.c.lists.down ++ about f.p.place Reply ms
          go None is c there = absurd (none-some c (sym is ∙ there))
          go (Some v) is c there = elim (At-set told_world.circuits f.p.circuit (told_late f.p.place ms v) f.p.circuit c there) [
            | inl mine ↦ ap (λ (z : Joined). z.lists.down) mine.1 ∙ ap (λ (l : List Told). l ++ about f.p.place Reply ms) (told-down v is)
            | inr old ↦ absurd (old.1 refl)
          ]

      -- an end that is open still did not end for lack of memory
      not-gone : (d : Joined) → At new.circuits f.p.circuit d → d.lists.server_open ≡ true → put.c.at_server ≡ d.at_server → put.c.server ≡ d.server
          → (e0 : ServerEnd) → HasEnd y.core put.c.at_server e0 → f.finishes.0.gone put.c.at_server ≡ true → ⊥
      not-gone d at opened handle of e0 has gone =
          let seat = ready_new.serves.stands.sound.seated.each f.p.circuit d at opened in
          let there : At new_world.servers i seat.y = subst (λ (v : ℕ × World). At v.1.servers v.0 seat.y) (λ n. ((sym of ∙ put.of) n, f.leaves n)) seat.at in
          elim (At-set mid_world.servers i _ i seat.y there) [
            | inr old ↦ old.1 refl
            | inl own ↦
                let kept = all-freed-back (λ (u : ServerCircuit). is_some (left_by (Some u))) f.core.circuits d.at_server (Open seat.e) (subst (λ (z : ServerSide). HasEnd z.core d.at_server seat.e) own.1 seat.has) in
                elim (ends put.c.at_server e0 has) [
                  | inl over ↦ open-ended seat.e over.1.0 over.1.1 (one-value f.core.circuits put.c.at_server (Open seat.e) (Ended over.1.0 over.1.1) (subst (λ (h : Handle). HasEnd f.core h seat.e) (sym handle) kept.0) over.1.2)
                  | inr stays ↦ (let t : true ≡ false = sym gone ∙ stays.0 in cc)
                ]
          ]
        where
          open-ended : (e1 : ServerEnd) (w1 : Why) (left : List ℕ) → Open e1 ≡ Ended w1 left → ⊥
          open-ended e1 w1 left is = cc

          finish : Server
          finish = with_finish name f.finishes.0.r y.core

          ends : EndsBy y.core f.core f.finishes.0.gone
          ends =
              let r = f.finishes.0 in
              let made = f.finishes.1 in
              let stays = replies-stay finish r.p r.gone f.sent made f.finishes.2 in
              subst (λ (x : Server). EndsBy y.core x r.gone) (sym f.finishes.3)
              (stay-then y.core finish (after_next name r.r.waiting r.gone made) r.gone (stay-self y.core finish refl) (stay-then finish made (after_next name r.r.waiting r.gone made) r.gone stays.0 (next-ends name r.r.waiting r.gone made)))

      module _ (d : Joined) (lg : List Entry) (on_d : At new.circuits f.p.circuit d) (logged : At new.server_logs d.lists.server lg) (h : Step)
          (q : Sent) (at_h : At put.c.lists.handled f.p.place h) (at_q : At d.lists.up f.p.place q) (life : d.lists.server ≡ put.c.lists.server)
          (ext : Extends put.c.lists d.lists) where
        old_log : At w.server_logs put.c.lists.server own-life.log
        old_log = subst (λ (l : ℕ). At w.server_logs l own-life.log) (sym put-life) own-life.at

        longer : IsLonger own-life.log lg
        longer = (let more = grow put.c.lists.server own-life.log old_log in (more.0, At-one new.server_logs put.c.lists.server lg (own-life.log ++ more.0) (subst (λ (l : ℕ). At new.server_logs l lg) life logged) more.1))

        steady_c : Steady own-life.log put.c.lists
        steady_c = steady-of s w ready_w f.p.circuit put.c own-life.log put.on old_log

        early : f.p.place < length put.c.lists.handled
        early = At-within put.c.lists.handled f.p.place h at_h

        old-up : (l : ℕ) (r : Sent) → l < length put.c.lists.handled → At d.lists.up l r → At put.c.lists.up l r
        old-up l r lt at = (let few : length put.c.lists.handled ≤ length put.c.lists.up = steady_c.few in grown-back put.c.lists.up d.lists.up ext.up l r (omega (arith, lt, few)) at)

        q-is : put.s ≡ q
        q-is = At-one put.c.lists.up f.p.place put.s q put.sent (old-up f.p.place q early at_q)

        -- no reply was there
        none-there : (z : ℕ) (m : Fields) → IsReply put.c.lists f.p.place z m → ⊥
        none-there z m reply = by.unfinished ((all f.p.circuit put.c own-life.log put.on old_log f.p.place h q at_h (old-up f.p.place q early at_q)).waits (inr (f.r.number, by.v, (by.i, by.at))) z m reply)

        new-reply : (z : ℕ) (m : Fields) → IsReply d.lists f.p.place z m → (z ≡ length put.c.lists.down) × (m ≡ finish_reply b)
        new-reply z m reply = elim (At-parts put.c.lists.down (about f.p.place Reply ms) z (record { message = m; place = f.p.place; cause = Reply }) (subst (λ (l : List Told). At l z (record { message = m; place = f.p.place; cause = Reply })) (down-is d on_d) reply)) [
          | inl old ↦ absurd (none-there z m old)
          | inr last ↦
              let a = At-mapped (λ (v : Fields). let x : Told = record { message = v; place = f.p.place; cause = Reply } in x) ms last.0 _ last.2 in
              let c = At-mapped (λ (v : Handle × Fields). v.1) f.sent last.0 a.0 a.1 in
              let is = sent-is f.finishes.2 last.0 c.0 c.1 in
              let z_is : z ≡ length put.c.lists.down + last.0 = last.1 in
              let zero_is : last.0 ≡ 0 = is.0 in
              (omega (arith, z_is, zero_is), ap (λ (t : Told). t.message) a.2 ∙ c.2 ∙ is.1)
        ]

        -- it is finished now
        log-now : lg ≡ (own-life.log ++ (finish_entry f.p ∷ next_entries y f.r (first_of f.cr.waiting) (first_of f.r.waiting))) ++ withdrawals (ends_at (ends_by i f.core) mid_world.circuits) next_side.records
        log-now =
            let more : List Entry = finish_entry f.p ∷ next_entries y f.r (first_of f.cr.waiting) (first_of f.r.waiting) in
            let gone : List Entry = withdrawals (ends_at (ends_by i f.core) mid_world.circuits) next_side.records in
            let here : At mid_world.server_logs y.life (own-life.log ++ more) = subst (λ (l : List (List Entry)). At l y.life (own-life.log ++ more)) (sym (told-logs f.p f.sent told_world)) (grown-here w.server_logs y.life own-life.log more own-life.at) in
            let after : At new_world.server_logs y.life ((own-life.log ++ more) ++ gone) = grown-here mid_world.server_logs y.life (own-life.log ++ more) gone here in
            At-one new.server_logs y.life lg ((own-life.log ++ more) ++ gone) (subst (λ (l : ℕ). At new.server_logs l lg) (life ∙ put-life) logged) (subst (λ (z : World). At z.server_logs y.life ((own-life.log ++ more) ++ gone)) (sym f.leaves) after)

        finished-now : In lg (Finished f.p.circuit f.p.place)
        finished-now =
            let more : List Entry = finish_entry f.p ∷ next_entries y f.r (first_of f.cr.waiting) (first_of f.r.waiting) in
            let gone : List Entry = withdrawals (ends_at (ends_by i f.core) mid_world.circuits) next_side.records in
            let place : At (own-life.log ++ more) (length own-life.log + 0) (finish_entry f.p) = At-after own-life.log more 0 (finish_entry f.p) refl in
            (length own-life.log + 0, subst (λ (l : List Entry). At l (length own-life.log + 0) (finish_entry f.p)) (sym log-now) (At-append (own-life.log ++ more) gone (length own-life.log + 0) (finish_entry f.p) place))

        -- and it was not before
        late-entry : (z : ℕ) → At lg z (Finished f.p.circuit f.p.place) → length own-life.log ≤ z
        late-entry z there = elim (At-or own-life.log z) [
          | inr past ↦ past
          | inl x ↦
              let lt : z < length own-life.log = At-within own-life.log z x.0 x.1 in
              absurd (by.unfinished (z, At-back own-life.log longer.0 z (Finished f.p.circuit f.p.place) (subst (λ (l : List Entry). At l z (Finished f.p.circuit f.p.place)) longer.1 there) lt))
        ]

        reply-there : (z : ℕ) → At lg z (Finished f.p.circuit f.p.place) → IsUncleared d.lists f.p.place (sid_in q.message) z
            → d.lists.server_open ≡ true
            → Replies (with_finish name f.finishes.0.r y.core) b f.finishes.0.gone f.sent f.finishes.1 → (m : Fields) × IsReply d.lists f.p.place (length put.c.lists.down) m
        reply-there z there uncleared opened (inl (e0, awaited, sent, is)) = (
          finish_reply b,
          subst (λ (l : List Told). At l (length put.c.lists.down) (record { message = finish_reply b; place = f.p.place; cause = Reply })) (sym (down-is d on_d))
              (subst (λ (n : ℕ). At (put.c.lists.down ++ about f.p.place Reply ms) n (record { message = finish_reply b; place = f.p.place; cause = Reply })) (let e1 : length put.c.lists.down + 0 ≡ length put.c.lists.down = omega arith in e1)
              (At-after put.c.lists.down (about f.p.place Reply ms) 0 (record { message = finish_reply b; place = f.p.place; cause = Reply })
              (subst (λ (l : List (Handle × Fields)). At (about f.p.place Reply (map (λ (x : Handle × Fields). x.1) l)) 0 (record { message = finish_reply b; place = f.p.place; cause = Reply })) (sym sent) refl))),
        )
        reply-there z there uncleared opened (inr (why, sent, is)) =
            let opened_c : put.c.lists.server_open ≡ true = open-was s w new e ready_w ready_new happens f.p.circuit put.c d put.on on_d opened in
            let seat = ready_w.serves.stands.sound.seated.each f.p.circuit put.c put.on opened_c in
            let at_c : At w.servers put.c.server y = subst (λ (n : ℕ). At w.servers n y) (sym put.of) at_y in
            let own_seat : seat.y ≡ y = At-one w.servers put.c.server seat.y y seat.at at_c in
            let has : HasEnd y.core put.c.at_server seat.e = subst (λ (v : ServerSide). HasEnd v.core put.c.at_server seat.e) own_seat seat.has in
            let has_b : HasEnd y.core b.circuit seat.e = subst (λ (v : Handle). HasEnd y.core v seat.e) (sym put.handle) has in
            elim why [
              | inr gone ↦
                  let same = ends-same opened in
                  absurd (not-gone d on_d opened (sym same.1) (sym same.0) seat.e has (subst (λ (v : Handle). f.finishes.0.gone v ≡ true) put.handle gone))
              | inl none ↦ elim ((held f.p.circuit put.c y seat.e put.on at_c opened_c has).busy f.p b pair refl) [
                | inl ch ↦ absurd (none seat.e (has_b, ap (λ (o : Option OpenChannel). is_some o) ch.1))
                | inr cl ↦
                    let g = At-below put.c.lists.handled cl.0 cl.3 in
                    let within : g.0.logged ≤ length own-life.log = (steady_c.within cl.0 g.0 g.1).logged in
                    let from : length own-life.log ≤ z = late-entry z there in
                    let le : f.p.place ≤ cl.0 = cl.2 in
                    absurd (uncleared (
                      cl.0,
                      cl.1,
                      g.0,
                      after cl.0 cl.1 le cl.4 cl.5.0,
                      ext.up cl.0 cl.1 cl.4,
                      ext.handled cl.0 g.0 g.1,
                      omega (arith, within, from),
                      (cl.5.0, cl.5.1 ∙ put.sid ∙ ap (λ (v : Sent). sid_in v.message) q-is),
                    ))
              ]
            ]
          where
            -- the put is no clear
            after : (l : ℕ) (r : Sent) → f.p.place ≤ l → At put.c.lists.up l r → Is command.ClearChannel r.message → f.p.place < l
            after l r le at clears = elim (same-or l f.p.place) [
              | inr other ↦ less f.p.place l le (λ e1. other (sym e1))
              | inl same ↦
                  let one : put.s ≡ r = At-one put.c.lists.up f.p.place put.s r put.sent (subst (λ (n : ℕ). At put.c.lists.up n r) same at) in
                  let a : put.s.message.command ≡ 19 = put.asks in
                  let c : put.s.message.command ≡ 12 = ap (λ (v : Sent). v.message.command) one ∙ clears in
                  absurd (omega (arith, a, c))
            ]
              where
                less : (x z : ℕ) → x ≤ z → (x ≡ z → ⊥) → x < z
                less zero zero le differ = absurd (differ refl)
                less zero (suc z) le differ = omega arith
                less (suc x) zero le differ = absurd (omega (arith, le))
                less (suc x) (suc z) le differ = (let lt : x < z = less x z (omega (arith, le)) (λ e1. differ (ap suc e1)) in omega (arith, lt))

            ends-same : d.lists.server_open ≡ true → (d.server ≡ put.c.server) × (d.at_server ≡ put.c.at_server)
            ends-same opened =
                let seat = ready_new.serves.stands.sound.seated.each f.p.circuit d on_d opened in
                elim (event-since s w new e ready_w happens f.p.circuit d seat.y seat.e on_d seat.at opened seat.has) [
                  | inl late ↦ absurd (let lt : f.p.circuit < length w.circuits = At-within w.circuits f.p.circuit put.c put.on in omega (arith, late, lt))
                  | inr h0 ↦ (let one : h0.c ≡ put.c = At-one w.circuits f.p.circuit h0.c put.c h0.on put.on in (h0.server ∙ ap (λ (v : Joined). v.server) one, h0.handle ∙ ap (λ (v : Joined). v.at_server) one))
                ]

        this-late : IsKnownLate Answers f.p.circuit d.lists lg f.p.place q
        this-late = record {
          place = length put.c.lists.down;
          waits = λ delayed z m reply. finished-now;
          one = λ z m reply done. (let r = new-reply z m reply in (r.0, subst (λ (v : Sent × Fields). Answers v.0.message v.1) (λ n. (q-is n, sym r.1 n)) (says i y f.p b at_y pair put)));
          comes = λ z there uncleared opened. reply-there z there uncleared opened f.finishes.2;
        }

      finish-late : AllLate new
      finish-late n d lg at logged k h q at_h at_q =
          let c = finish-back w new i y name f n d at in
          let was : At c.0.lists.handled k h = elim (c.2.handled k h at_h) [ inl x ↦ x | inr x ↦ absurd x ] in
          elim (this-or n k) [
            | inr other ↦
                forth n c.0 d lg c.1 at logged c.2.life c.2.lists k h q was at_q
                (λ z m reply. elim (c.2.told z _ reply) [
                  | inl x ↦ x
                  | inr x ↦ (let a = At-mapped (λ (v : Fields). let t : Told = record { message = v; place = f.p.place; cause = Reply } in t) ms x.1.1.0 _ x.1.1.1 in absurd (other (x.1.0, ap (λ (t : Told). t.place) a.2)))
                ])
                (λ z there. elim (finish-told w new i y name f d.lists.server lg z n k logged there) [ inl x ↦ x | inr x ↦ absurd (other x) ])
            | inl is ↦
                let one : c.0 ≡ put.c = At-one w.circuits f.p.circuit c.0 put.c (subst (λ (x : ℕ). At w.circuits x c.0) is.0 c.1) put.on in
                subst (λ (v : ℕ × ℕ). IsKnownLate Answers v.0 d.lists lg v.1 q) (λ x. (sym is.0 x, sym is.1 x))
                (this-late d lg (subst (λ (x : ℕ). At new.circuits x d) is.0 at) logged h q (subst (λ (v : Joined × ℕ). At v.0.lists.handled v.1 h) (λ x. (one x, is.1 x)) was) (subst (λ (x : ℕ). At d.lists.up x q) is.1 at_q)
                (c.2.life ∙ ap (λ (v : Joined). v.lists.server) one) (subst (λ (v : Joined). Extends v.lists d.lists) one c.2.lists))
          ]
        where
          this-or : (n k : ℕ) → IsThis f.p n k ⊎ (IsThis f.p n k → ⊥)
          this-or n k = elim (same-or n f.p.circuit) [
            | inr other ↦ inr (λ x. other x.0)
            | inl is ↦ elim (same-or k f.p.place) [
              | inr other ↦ inr (λ x. other x.1)
              | inl too ↦ inl (is, too)
            ]
          ]

    -- ---- every event

    event-late : AllHeld w → AnswersAt w → AllLate new
    event-late held says = go e happens
      where
        still : (e1 : Event) → IsStill e1 → IsNoFinish e1 → Happens w e1 new → AllLate new
        still e1 quiet other h = still-late (still-back Nothing-new w new e1 quiet h) (event-told (λ (n k : ℕ). ⊥) w new e1 other h)

        stepped-by : (k : ℕ) → Happens w (event.ServerStep k) new → AllLate new
        stepped-by k (at, (did, f)) = elim (handled-or did) [
          | inl is ↦
              let g : StepHandles w k at.j at.y new = subst (λ (x : Stepped). ServerStepped w k at.j at.y x new) is f in
              step-late k at.j at.y at.joins.at at.joins.server at.is_open g (event-told (λ (n k : ℕ). ⊥) w new (event.ServerStep k) tt (at, (did, f)))
          | inr other ↦ still-late (unhandled-back Nothing-new w new k at.j at.y did at.joins.at other f) (event-told (λ (n k : ℕ). ⊥) w new (event.ServerStep k) tt (at, (did, f)))
        ]

        finished : (i : ℕ) (name : List ℕ) (y : ServerSide) → At w.servers i y → HappensFinish w i y name new → AllLate new
        finished i name y at (inl f) = finish-late i y name at f held says
        finished i name y at (inr refused) = subst (λ (z : World). AllLate z) (sym refused.2) all

        removed : (i : ℕ) (name : List ℕ) (y : ServerSide) → FinishesOr (λ (n k : ℕ). ⊥) w new → HappensRemove w i y name new → AllLate new
        removed i name y told (gone, left, core, inl (removes, is)) =
            remove-late i y name gone left (subst (λ (z : World). Back (RemoveNews w i y.core name gone left) w z) (sym is) (removed-back w i y name gone left core)) told
        removed i name y told (gone, left, core, inr (removes, is)) = subst (λ (z : World). AllLate z) (sym is) all

        go : (e1 : Event) → Happens w e1 new → AllLate new
        go (event.Accept i) h = accept-late i h.0.x h.0.v h.1 (event-told (λ (n k : ℕ). ⊥) w new (event.Accept i) tt h)
        go (event.ServerStep k) h = stepped-by k h
        go (event.Pump k) h = pump-late k h.0.j h.0.y h.1 h.0.joins.at h.0.joins.server h.0.is_open (event-told (λ (n k : ℕ). ⊥) w new (event.Pump k) tt h)
        go (event.Finish i name) h = finished i name h.0.y h.0.at h.1
        go (event.Remove i name) h = removed i name h.0.y (event-told (λ (n k : ℕ). ⊥) w new (event.Remove i name) tt h) h.1
        go (event.Open i name priority) h = still (event.Open i name priority) tt tt h
        go (event.Clear i c) h = still (event.Clear i c) tt tt h
        go (event.Read i c data_type count) h = still (event.Read i c data_type count) tt tt h
        go (event.Write i c v) h = still (event.Write i c v) tt tt h
        go (event.WriteNotify i c v) h = still (event.WriteNotify i c v) tt tt h
        go (event.Subscribe i c data_type count mask) h = still (event.Subscribe i c data_type count mask) tt tt h
        go (event.Unsubscribe i n) h = still (event.Unsubscribe i n) tt tt h
        go (event.Collect i r) h = still (event.Collect i r) tt tt h
        go (event.GiveUp i r) h = still (event.GiveUp i r) tt tt h
        go (event.ClientDatagram i from bytes) h = still (event.ClientDatagram i from bytes) tt tt h
        go (event.ServerDatagram i from bytes) h = still (event.ServerDatagram i from bytes) tt tt h
        go (event.Up k n) h = still (event.Up k n) tt tt h
        go (event.Down k n) h = still (event.Down k n) tt tt h
        go (event.ClientStep k) h = still (event.ClientStep k) tt tt h
        go (event.CutClient k) h = still (event.CutClient k) tt tt h
        go (event.CutServer k) h = still (event.CutServer k) tt tt h
        go (event.ClientRestart i) h = still (event.ClientRestart i) tt tt h
        go (event.ServerRestart i) h = still (event.ServerRestart i) tt tt h
        go (event.Post i name v mask) h = still (event.Post i name v mask) tt tt h
        go (event.Add i r) h = still (event.Add i r) tt tt h
        go (event.Tick moment) h = still (event.Tick moment) tt tt h

  -- ---- every run

  module _ (s : Setting) (ok : IsSetting s) (says : (es : List Event) (w : World) → FoldsTo Happens (opening s) es w → AnswersAt w) where
    events-late : (done es : List Event) (w new : World) → FoldsTo Happens (opening s) done w → FoldsTo Happens w es new → AllLate w → AllLate new
    events-late done [] w new before same all = subst (λ (z : World). AllLate z) same all
    events-late done (e ∷ es) w new before (mid, one, rest) all =
        let until : FoldsTo Happens (opening s) (done ++ e ∷ []) mid = folds-snoc done (opening s) w mid e before one in
        let ready_w : Ready s w = ready s done None w ok (w, before, refl) in
        events-late (done ++ e ∷ []) es mid new until rest
        (event-late s w mid e ready_w (ready s (done ++ e ∷ []) None mid ok (mid, until, refl)) one (logs-grow s w mid e (takes-next s w ready_w.serves) (world-numbered w ready_w.serves.in_step) one ready_w.serves.stands.sound) all
        (run-held s done w ok before) (says done w before))

    -- the clients whose ends are over by a tick that was stopped leave all that
    frame-late : (mid w : World) → Ready s mid → Frame mid w → AllLate mid → AllLate w
    frame-late mid w ready_mid g all n d lg at logged k h q at_h at_q =
        let c = g.back n d at in
        let ext : Extends c.0.lists d.lists = record { up = c.2.later.up; down = λ i x there. subst (λ (l : List Told). At l i x) (sym c.2.down) there; handled = c.2.later.handled } in
        let logged_c : At mid.server_logs c.0.lists.server lg = subst (λ (v : ℕ × List (List Entry)). At v.1 v.0 lg) (λ i. (c.2.later.life i, g.logs i)) logged in
        let at_c : At c.0.lists.handled k h = subst (λ (l : List Step). At l k h) c.2.handled at_h in
        let steady : Steady lg c.0.lists = steady-of s mid ready_mid n c.0 lg c.1 logged_c in
        let lt : k < length c.0.lists.handled = At-within c.0.lists.handled k h at_c in
        let few : length c.0.lists.handled ≤ length c.0.lists.up = steady.few in
        late-forth Answers n c.0.lists d.lists lg lg k q ext ([], sym (append-nil lg)) (λ x. x) (λ i m reply. subst (λ (l : List Told). At l i (record { message = m; place = k; cause = Reply })) c.2.down reply) (λ i there. there) (λ opened. sym c.2.is_open ∙ opened)
        (all n c.0 lg c.1 logged_c k h q at_c (grown-back c.0.lists.up d.lists.up ext.up k q (omega (arith, lt, few)) at_q))

    stops-late : (mid : World) (stopped : Option Event) (w : World) → Ready s mid → StopsAt mid stopped w → AllLate mid → AllLate w
    stops-late mid (Some (event.Tick moment)) w ready_mid stops all = elim stops [
      | inl same ↦ subst (λ (z : World). AllLate z) (sym same) all
      | inr ticked ↦ frame-late mid w ready_mid (ticks-frame moment mid (clients_below ticked.0) w ticked.3) all
    ]
    stops-late mid stopped w ready_mid stops all = subst (λ (z : World). AllLate z) (sym stops) all

    pub run-late : (es : List Event) (stopped : Option Event) (w : World) → Runs s es stopped w → AllLate w
    run-late es stopped w (mid, folds, stops) =
        stops-late mid stopped w (ready s es None mid ok (mid, folds, refl)) stops (events-late [] es (opening s) mid refl folds (λ n c log at. absurd (none_at n c at)))
