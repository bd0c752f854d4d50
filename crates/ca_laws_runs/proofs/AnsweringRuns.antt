-- Each message that a server handled was answered by what it knew, over every event and run.
use Rattle.std.proofs.Common.{◌≡◌, ℕ, zero, suc, ◌+◌, ◌<◌, ◌≤◌, ◌⊎◌, inl, inr, Bool, true, false, List, [], ◌∷◌, ◌++◌, length, Option, Some, None, refl, sym, ap, subst, ◌∙◌, arith}
use Rattle.std.specs.Prelude.{is_some, option_map, filter, map, not, slice_get, slice_set, take, unwrap_or}
use Rattle.std.specs.List.{FoldsTo, flat_map}
use Rattle.std.specs.Str.{bytes_eq}
use Rattle.ca_arena.specs.declared.handle.Handle.{Handle}
use Rattle.ca_link.specs.Link.{with_rest}
use Rattle.ca_text.specs.Place.{At}
use Rattle.ca_text.proofs.Places.{At-after, At-append, At-map, At-mapped, At-one, At-parts, At-set, At-snoc, At-within}
use Rattle.ca_wire.specs.Fields.{Fields}
use Rattle.ca_model.specs.Answers.{Closing}
use Rattle.ca_model.specs.Due.{Action, Applies, Due, KnownRecord, Knows}
use Rattle.ca_model.specs.Due as action
use Rattle.ca_model.specs.History.{Cause, Circuit, Entry, Finished, Line, Removal, Reply, Sent, Step, Told, Waits, Withdrawn}
use Rattle.ca_model.specs.Server.{Server, ServerEnd}
use Rattle.ca_model.specs.ServerCalls.{IsAwaited, Replies, finish_reply, with_finish}
use Rattle.ca_model.specs.ServerSteps.{HasEnd, Pumps, Stepped, known_record, knows, stored_now}
use Rattle.ca_model.specs.Speech.{In, Is, Stored, sid_in}
use Rattle.ca_text.specs.Status.{normal}
use Rattle.ca_records.specs.declared.puts.Put.{Put}
use Rattle.ca_ids.specs.Table.{under}
use Rattle.ca_laws_runs.specs.Pairs.{BusyPair}
use Rattle.ca_model.specs.Server.{Open, OpenChannel}
use Rattle.ca_text.specs.declared.command.Command.TheVariants as command
use Rattle.ca_model.specs.ClientEvents.{HappensAccept, WantsFirst, connected_as, new_circuit}
use Rattle.ca_model.specs.Events.{Event}
use Rattle.ca_model.specs.Events as event
use Rattle.ca_model.specs.Runs.{Happens, Runs, StopsAt, clients_below}
use Rattle.ca_model.specs.ServerEvents.{HappensFinish, HappensPump, HappensRemove, ServerStepped, StepHandles, about, acted, ends_by, logged_by, side_of, finish_entry, first_of, handled_at, next_entries, removal_told, replied_at, server_after, withdrawals}
use Rattle.ca_model.specs.ServerEvents as server
use Rattle.ca_model.specs.World.{ClientSide, IsSetting, Joined, PutPlace, RecordSide, ServerSide, Setting, Standing, World, circuit_of, opening, with_circuit}
use Rattle.ca_laws_parts.specs.Later.{IsLater, stamped_told}
use Rattle.ca_laws_parts.proofs.Thins.{put-facts}
use Rattle.ca_laws_parts.proofs.Updates.{stamps-later}
use Rattle.ca_laws_runs.proofs.CauseKeeps.{handled-or}
use Rattle.ca_laws_runs.proofs.StepWhole.{run-serves, takes-next}
use Rattle.ca_laws_parts.specs.Agrees.{Agrees, IsBusyAs, IsBusyBy, IsBusyWith}
use Rattle.ca_laws_parts.specs.Lives.{CameOn, IsPutOf}
use Rattle.ca_laws_parts.specs.Moves.{Lives}
use Rattle.ca_laws_parts.specs.Moves as moves
use Rattle.ca_laws_parts.specs.Once.{HadWaited}
use Rattle.ca_records.specs.Puts.{Record, record_named}
use Rattle.ca_laws_parts.proofs.Doing.{due-applies, due-waits}
use Rattle.ca_laws_parts.proofs.WritesEvents.{Found, found}
use Rattle.ca_laws_parts.proofs.Every.{ticks-frame}
use Rattle.ca_laws_parts.proofs.Frames.{Frame}
use Rattle.ca_laws_parts.proofs.HappensClient.{sent-frame}
use Rattle.ca_laws_parts.proofs.InStepLasts.{world-numbered}
use Rattle.ca_laws_parts.proofs.WritesLists.{beside-right, none_at, take-front, take-whole}
use Rattle.ca_laws_parts.proofs.WritesLives.{number-of, others-apart}
use Rattle.ca_laws_parts.proofs.Midway.{grown-here}
use Rattle.ca_laws_parts.proofs.WritesMoves.{same-or}
use Rattle.ca_laws_parts.proofs.Says.{logs-stay}
use Rattle.ca_laws_runs.specs.FollowsAnswering.{AnsweredAt, AnsweredBy, AnsweredSo, AreAnswered, KnowsLists, LogsSo, past}
use Rattle.ca_model.specs.Channels.{Has, IsBusyUntil, IsCleared, IsTaken, IsUncleared}
use Rattle.ca_laws_runs.specs.KnewLists.{as_known}
use Rattle.ca_laws_runs.proofs.Acting.{Extends, Grows, IsLonger, grown-back, longer-taken}
use Rattle.ca_laws_runs.proofs.ActsOn.{of-circuits}
use Rattle.ca_laws_runs.proofs.AnsweringFrame.{answered-on, step-lists, step-of}
use Rattle.ca_laws_runs.proofs.CausingEvents.{Nothing-new, Ready, steady-of}
use Rattle.ca_laws_runs.proofs.CausingFrame.{Back, FinishNews, IsStill, News, PumpNews, RemoveNews, Says, Takes, back-frame, finish-back, pump-back, removed-back, step-back, still-back, unhandled-back}
use Rattle.ca_laws_runs.proofs.CausingKeeps.{Steady}
use Rattle.ca_laws_runs.proofs.CausingRuns.{ready}
use Rattle.ca_laws_runs.specs.Awaiting.{AllAwaiting}
use Rattle.ca_laws_runs.specs.Given.{IsGiven}
use Rattle.ca_laws_runs.proofs.Awaiting.{run-awaiting}
use Rattle.ca_laws_runs.proofs.ClearedPuts.{cleared-just}
use Rattle.ca_model.specs.Known.{AreJust, IsWithdrawal}
use Rattle.ca_laws_parts.specs.Both.{Both}
use Rattle.ca_laws_runs.specs.KnewFaces.{IsFace, KeepSettings, face_of}
use Rattle.ca_laws_runs.proofs.FaceRuns.{run-know-faces, run-settings}
use Rattle.ca_laws_runs.proofs.KnewFull.{run-know-full}
use Rattle.ca_laws_runs.proofs.KnewListsRuns.{run-know-channels, run-know-keys}
use Rattle.ca_laws_runs.proofs.KnewRecords.{run-records}
use Rattle.ca_laws_runs.proofs.LoggedStep.{told-logs}
use Rattle.ca_laws_runs.proofs.FollowsWhole.{LogsGrow, folds-snoc, logs-grow, logs-there}

abbrev pub AllAnswered : Setting → World → Type 0
AllAnswered s w = (n : ℕ) (c : Joined) (y : List Entry) → At w.circuits n c → At w.server_logs c.lists.server y → (k : ℕ) (h : Step) → At c.lists.handled k h → AnsweredBy s c.server n c.lists y k h

-- what the servers of a world know
abbrev AllKnow : World → Type 0
AllKnow w = (n : ℕ) (c : Joined) (y : ServerSide) (e : ServerEnd) (log : List Entry) → At w.circuits n c → At w.servers c.server y → c.lists.server_open ≡ true → HasEnd y.core c.at_server e → At w.server_logs y.life log
    → KnowsLists (as_known c.lists) log (knows y.core e)

run-know : (s : Setting) (es : List Event) (stopped : Option Event) (w : World) → IsSetting s → Runs s es stopped w → AllKnow w
run-know s es stopped w ok runs n c y e log at there opened has logged = record {
  records = λ name. run-records s es stopped w ok runs c.server y e log name there logged;
  greeted = face.greeted;
  user = face.user;
  host = face.host;
  settled = face.settled;
  channels = run-know-channels s es stopped w ok runs n c y e log at there opened has logged;
  full = run-know-full s es stopped w ok runs n c y e at there opened has;
  keys = run-know-keys s es stopped w ok runs n c y e log at there opened has logged;
}
  where
    face : IsFace (as_known c.lists) (face_of e)
    face = run-know-faces s es stopped w ok runs n c y e at there opened has

-- a write came on this circuit, which joins this life of a server
pub record CameSome (circuits : List Joined) (life : ℕ) (p : PutPlace) : Type 0 where
  pub c : Joined
  pub on : At circuits p.circuit c
  pub joins : c.lists.server ≡ life

-- a clear that was handled by then was handled before
was-cleared : (log : List Entry) (c d : Joined) → ((l : ℕ) (g : Step) → At d.lists.handled l g → At c.lists.handled l g) → Grows c.lists.up d.lists.up → Steady log c.lists → (k sid b : ℕ) → IsCleared d.lists k sid b → IsCleared c.lists k sid b
was-cleared log c d handled up steady k sid b (l, q, g, after, at_q, at_g, le, clears) =
    (l, q, g, after, grown-back c.lists.up d.lists.up up l q (let below : l < length c.lists.handled = At-within c.lists.handled l g (handled l g at_g) in let most : length c.lists.handled ≤ length c.lists.up = steady.few in omega (arith, below, most)) at_q, handled l g at_g, le, clears)

-- ---- what is new on a circuit is a late reply

-- No step is new, and no reply.
pub record IsLaterBy (F : ℕ → News → Type 0) (l : ℕ) (lg : List Entry) (c : Circuit) : Type 0 where
  pub takes : (m : ℕ) (h : Step) → F l (Takes m h) → ⊥
  pub late : (k : ℕ) (m : Fields) → F l (Says (record { message = m; place = k; cause = Reply })) → ⊥

back-answered : (F : ℕ → News → Type 0) (s : Setting) (w new : World) → Ready s w → LogsGrow w new → Back F w new
    → ((l : ℕ) (c d : Joined) (log lg : List Entry) → At w.circuits l c → At new.circuits l d → At w.server_logs c.lists.server log → At new.server_logs c.lists.server lg → IsLonger log lg → IsLaterBy F l lg c.lists) → AllAnswered s w → AllAnswered s new
back-answered F s w new ready grow back by all n d lg at logged k h at_h =
    let c = back n d at in
    let log = logs-there s w ready.serves.stands.sound n c.0 c.1 in
    let more = grow c.0.lists.server log.0 log.1 in
    let here : At new.server_logs c.0.lists.server lg = subst (λ (l : ℕ). At new.server_logs l lg) c.2.life logged in
    let is : lg ≡ log.0 ++ more.0 = At-one new.server_logs c.0.lists.server lg (log.0 ++ more.0) here more.1 in
    let b = by n c.0 d log.0 lg c.1 at log.1 here (more.0, is) in
    let old : At c.0.lists.handled k h = elim (c.2.handled k h at_h) [ inl was ↦ was | inr new_it ↦ absurd (b.takes k h new_it) ] in
    answered-on n c.0.lists d.lists log.0 lg k h c.2.lists c.2.life (more.0, is) (steady-of s w ready n c.0 log.0 c.1 log.1) old s c.0.server d.server c.2.server
    (λ l g there. elim (c.2.handled l g there) [ inl was ↦ inl was | inr new_it ↦ absurd (b.takes l g new_it) ])
    (λ i m reply. elim (c.2.told i _ reply) [ inl was ↦ inl was | inr told ↦ absurd (b.late k m told.1) ])
    (all n c.0 log.0 c.1 log.1 k h old)

still-by : (l : ℕ) (lg : List Entry) (c : Circuit) → IsLaterBy Nothing-new l lg c
still-by l lg c = record { takes = λ m h none. none; late = λ k m none. none }

-- ---- causes differ

reply-removal : let a : Cause = Reply in let b : Cause = Removal in a ≡ b → ⊥
reply-removal e = cc

-- ---- updates leave

pump-by : (s : Setting) (w new : World) (k : ℕ) (j : Joined) (y : ServerSide) (f : HappensPump w k j y new) → Ready s w → At w.circuits k j → At w.servers j.server y → j.lists.server_open ≡ true → (l : ℕ) (lg : List Entry) (c : Circuit) → IsLaterBy (PumpNews k (stamped_told f.updates j)) l lg c
pump-by s w new k j y f ready on at opened l lg c = record { takes = λ m h none. none; late = λ p m told. (later _ told.1).other refl }
  where
    ks : List ℕ
    ks = map (λ (z : Standing). z.place) j.standing

    later : (t : Told) → In (stamped_told f.updates j) t → IsLater ks j.lists t
    later t there = go f.pumps
      where
        go : Pumps y.core j.at_server f.updates f.core → IsLater ks j.lists t
        go (inl (e, has, (after, folds, rest))) =
            stamps-later ks j f.updates e after j folds (ready.serves.in_step k j y e on at opened has).queues (ready.serves.numbers k j on opened) (ready.serves.messages k j on opened)
            (λ st stands. (stands.0, At-map (λ (z : Standing). z.place) j.standing stands.0 st stands.1)) t there
        go (inr (none, nothing, is)) = absurd (none_at there.0 t (subst (λ (us : List _). At (stamped_told us j) there.0 t) nothing there.1))

-- ---- a removal

remove-by : (w : World) (i : ℕ) (core : Server) (name : List ℕ) (gone : Handle → Bool) (left : Handle → ℕ) (l : ℕ) (lg : List Entry) (c : Circuit) → IsLaterBy (RemoveNews w i core name gone left) l lg c
remove-by w i core name gone left l lg c = record {
  takes = λ m h none. none;
  late = λ k m told.
      let x = At-mapped (removal_told (told.0).creations) _ told.4.0 _ told.4.1 in
      reply-removal (ap (λ (z : Told). z.cause) x.2);
}

-- ---- a finish

finish-by : (s : Setting) (w : World) (i : ℕ) (y : ServerSide) (name : List ℕ) (new : World) (f : server.Finished w i y name new) → Ready s w → At w.servers i y → (l : ℕ) (c : Joined) (log lg : List Entry) → At w.circuits l c → At w.server_logs y.life log → At new.server_logs c.lists.server lg
    → c.lists.server ≡ y.life → (k : ℕ) (m : Fields) → FinishNews f.p.circuit f.p.place (map (λ (x : Handle × Fields). x.1) f.sent) l (Says (record { message = m; place = k; cause = Reply }))
    → Is command.WriteNotify m × (m.p1 ≡ normal) × ((q : Sent) × At c.lists.up k q × Is command.WriteNotify q.message × ((e : ℕ) × At lg e (Finished l k) × ((b : ℕ) → IsUncleared c.lists k (sid_in q.message) b)))
finish-by s w i y name new f ready at l c log lg on at_log logged joins k m told =
    let x = At-mapped (λ (q : Fields). let z : Told = record { message = q; place = f.p.place; cause = Reply } in z) ms told.1.0 _ told.1.1 in
    let z = At-mapped (λ (v : Handle × Fields). v.1) f.sent told.1.0 x.0 x.1 in
    let message : m ≡ z.0.1 = ap (λ (t : Told). t.message) x.2 ∙ z.2 in
    let place : k ≡ f.p.place = ap (λ (t : Told). t.place) x.2 in
    let is = replied f.finishes.2 told.1.0 z.0 z.1 in
    let facts = put-facts s w i y f.p ready.serves.stands.sound at (f.r, (f.at.0, f.at.1), inl f.busy) in
    let one : facts.c ≡ c = At-one w.circuits l facts.c c (subst (λ (n : ℕ). At w.circuits n facts.c) (sym told.0) facts.on) on in
    let sent : At c.lists.up f.p.place facts.s = subst (λ (v : Joined). At v.lists.up f.p.place facts.s) one facts.sent in (
      ap (λ (q : Fields). q.command) (message ∙ is),
      ap (λ (q : Fields). q.p1) (message ∙ is),
      (
        facts.s,
        subst (λ (n : ℕ). At c.lists.up n facts.s) (sym place) sent,
        facts.asks,
        (finished.0, subst (λ (v : ℕ × ℕ). At lg finished.0 (Finished v.0 v.1)) (λ i. (sym told.0 i, sym place i)) finished.1, λ b. subst (λ (n : ℕ). IsUncleared c.lists n (sid_in facts.s.message) b) (sym place) (uncleared facts.s told.0 sent (awaited f.finishes.2 told.1.0 z.0 z.1) b)),
      ),
    )
  where
    ms : List Fields
    ms = map (λ (x : Handle × Fields). x.1) f.sent

    -- the put's channel is open
    awaited : Replies (with_finish name f.finishes.0.r y.core) f.finishes.0.p f.finishes.0.gone f.sent f.finishes.1 → (q : ℕ) (v : Handle × Fields) → At f.sent q v → (e : ServerEnd) × IsAwaited (with_finish name f.finishes.0.r y.core) f.finishes.0.p e
    awaited (inl (e, is_awaited, sent, is)) q v there = (e, is_awaited)
    awaited (inr (none, sent, is)) q v there = absurd (none_at q v (subst (λ (l : List (Handle × Fields)). At l q v) sent there))

    -- so no clear of it was handled since
    uncleared : (q : Sent) → l ≡ f.p.circuit → At c.lists.up f.p.place q → ((e : ServerEnd) × IsAwaited (with_finish name f.finishes.0.r y.core) f.finishes.0.p e) → (b : ℕ) → IsUncleared c.lists f.p.place (sid_in q.message) b
    uncleared q here at_q (e, is_awaited) b (t, r, g, after, at_r, at_g, le, clears) = go c.lists.server_open refl
      where
        own : Lives w i y
        own = ready.serves.stands.sound.writes.lives i y at

        g0 : Found (IsPutOf w.circuits i) own.log y.core.records y.records name f.finishes.0.r
        g0 = found (IsPutOf w.circuits i) own.log y.core.records y.records name f.finishes.0.r own.life.each f.finishes.0.named

        one-side : g0.r ≡ f.r
        one-side =
            (let place : g0.i ≡ f.at.0 = elim (others-apart y.records g0.i f.at.0 g0.r f.r own.life.others g0.in_rs f.at.1) [ inl same ↦ same | inr other ↦ absurd (other.0 (f.at.2 ∙ sym g0.named)) ] in
            At-one y.records f.at.0 g0.r f.r (subst (λ (n : ℕ). At y.records n g0.r) place g0.in_rs) f.at.1)

        of : IsPutOf w.circuits i f.p f.finishes.0.p
        of =
            subst (λ (v : Option PutPlace × Option Put). IsBusyAs (IsPutOf w.circuits i) v.0 v.1) (λ n. ((ap (λ (z : RecordSide). z.busy) one-side ∙ f.busy) n, f.finishes.0.busy n)) g0.agrees.busy_as

        one-c : of.c ≡ c
        one-c = At-one w.circuits l of.c c (subst (λ (n : ℕ). At w.circuits n of.c) (sym here) of.on) on

        server-is : c.server ≡ i
        server-is = ap (λ (z : Joined). z.server) (sym one-c) ∙ of.of

        at_c : At w.servers c.server y
        at_c = subst (λ (n : ℕ). At w.servers n y) (sym server-is) at

        has : HasEnd y.core c.at_server e
        has = subst (λ (h : Handle). HasEnd y.core h e) (of.handle ∙ ap (λ (z : Joined). z.at_server) one-c) is_awaited.0

        q-is : of.s ≡ q
        q-is = At-one c.lists.up f.p.place of.s q (subst (λ (z : Joined). At z.lists.up f.p.place of.s) one-c of.sent) at_q

        pair : BusyPair y.core.records y.records f.p f.finishes.0.p
        pair = record {
          c = f.finishes.0.r;
          r = f.r;
          in_cs = (g0.i, g0.in_cs);
          in_rs = (f.at.0, f.at.1);
          name = g0.agrees.name ∙ ap (λ (z : RecordSide). z.name) one-side;
          core = f.finishes.0.busy;
          side = f.busy;
        }

        some-of : (o : Option OpenChannel) → is_some o ≡ true → (ch : OpenChannel) × (o ≡ Some ch)
        some-of None is = absurd cc
        some-of (Some ch) is = (ch, refl)

        go : (o : Bool) → c.lists.server_open ≡ o → ⊥
        go false is = ready.serves.stands.handles.gone l c y (Open e) on at_c joins is has
        go true is =
            let ch = some-of (under e.channels f.finishes.0.p.channel) is_awaited.1 in
            let came = ((ready.serves.puts l c y e on at_c is has).busy f.p f.finishes.0.p pair (sym here)).before ch.0 ch.1 in
            let early : came.0.place < f.p.place = came.3 in
            (ready.creations l c y e on at_c is has).uncleared came.0 t r came.1 (omega (arith, early, after)) (At-within c.lists.handled t g at_g) at_r (clears.0, clears.1 ∙ ap (λ (z : Sent). sid_in z.message) (sym q-is) ∙ sym of.sid ∙ sym came.2)

    replied : Replies (with_finish name f.finishes.0.r y.core) f.finishes.0.p f.finishes.0.gone f.sent f.finishes.1 → (q : ℕ) (v : Handle × Fields) → At f.sent q v → v.1 ≡ finish_reply f.finishes.0.p
    replied (inl (e, awaited, sent, is)) zero v there = ap (λ (o : Option (Handle × Fields)). (unwrap_or o v).1) (sym there ∙ ap (λ (l : List (Handle × Fields)). slice_get l 0) sent)
    replied (inl (e, awaited, sent, is)) (suc q) v there = absurd (none_at q v (subst (λ (l : List (Handle × Fields)). At l (suc q) v) sent there))
    replied (inr (none, sent, is)) q v there = absurd (none_at q v (subst (λ (l : List (Handle × Fields)). At l q v) sent there))

    asked : (k : ℕ) → l ≡ f.p.circuit → k ≡ f.p.place → (q : Sent) × At c.lists.up k q × Is command.WriteNotify q.message
    asked k here place =
        let facts = put-facts s w i y f.p ready.serves.stands.sound at (f.r, (f.at.0, f.at.1), inl f.busy) in
        let one : facts.c ≡ c = At-one w.circuits l facts.c c (subst (λ (n : ℕ). At w.circuits n facts.c) (sym here) facts.on) on in
        (facts.s, subst (λ (v : ℕ × Joined). At v.1.lists.up v.0 facts.s) (λ i. (sym place i, one i)) facts.sent, facts.asks)

    finished : In lg (Finished f.p.circuit f.p.place)
    finished =
        let own = ready.serves.stands.sound.writes.lives i y at in
        let more : List Entry = finish_entry f.p ∷ next_entries y f.r (first_of f.cr.waiting) (first_of f.r.waiting) in
        let side : ServerSide = record y { records = server.with_record name server.next_busy y.records } in
        let told : World = moves.finish_told w i y name f.cr f.r f.p in
        let mid : World = replied_at f.p f.sent told in
        let logs : mid.server_logs ≡ told.server_logs = told-logs f.p f.sent told in
        let here : At mid.server_logs y.life (own.log ++ more) = subst (λ (l : List (List Entry)). At l y.life (own.log ++ more)) (sym logs) (grown-here w.server_logs y.life own.log more own.at) in
        let gone : List Entry = withdrawals (server.ends_at (ends_by i f.core) mid.circuits) side.records in
        let after : At (server_after i side (ends_by i f.core) f.core mid).server_logs y.life ((own.log ++ more) ++ gone) = grown-here mid.server_logs y.life (own.log ++ more) gone here in
        let one : lg ≡ (own.log ++ more) ++ gone = At-one new.server_logs y.life lg ((own.log ++ more) ++ gone) (subst (λ (l : ℕ). At new.server_logs l lg) joins logged) (subst (λ (z : World). At z.server_logs y.life ((own.log ++ more) ++ gone)) (sym f.leaves) after) in
        let place : At (own.log ++ more) (length own.log + 0) (finish_entry f.p) = At-after own.log more 0 (finish_entry f.p) refl in
        (length own.log + 0, subst (λ (l : List Entry). At l (length own.log + 0) (finish_entry f.p)) (sym one) (At-append (own.log ++ more) gone (length own.log + 0) (finish_entry f.p) place))

-- ---- a message is handled

long : {A B : Type 0} (f : B → A) (xs : List A) (ys : List B) → length xs + length ys ≤ length (xs ++ map f ys)
long f [] [] = omega arith
long f [] (y ∷ ys) = (let le : 0 + length ys ≤ length (map f ys) = long f [] ys in omega (arith, le))
long f (x ∷ xs) ys = (let le : length xs + length ys ≤ length (xs ++ map f ys) = long f xs ys in omega (arith, le))

known-is : (d j : Circuit) (h : Step) → d.server ≡ j.server → take (length j.handled) d.up ≡ take (length j.handled) j.up → take h.sent d.down ≡ j.down → take (length j.handled) d.handled ≡ j.handled → past d (length j.handled) h ≡ as_known j
known-is d j h server up down handled = λ i. record (as_known j) { server = server i; up = up i; down = down i; handled = handled i }

two-long : {A : Type 0} (xs ys : List A) → length (xs ++ ys) ≡ length xs + length ys
two-long [] ys = omega arith
two-long (x ∷ xs) ys = (let e : length (xs ++ ys) ≡ length xs + length ys = two-long xs ys in omega (arith, e))

longer-three : {A : Type 0} (xs ys zs : List A) → length xs + length ys ≤ length ((xs ++ ys) ++ zs)
longer-three xs ys zs =
    (let a : length (xs ++ ys) ≡ length xs + length ys = two-long xs ys in
    let b : length ((xs ++ ys) ++ zs) ≡ length (xs ++ ys) + length zs = two-long (xs ++ ys) zs in
    omega (arith, a, b))

withdrawn-is : (ps : List PutPlace) (i : ℕ) (e : Entry) → At (map (λ (p : PutPlace). Withdrawn p.circuit p.place) ps) i e → (m l : ℕ) × (e ≡ Withdrawn m l)
withdrawn-is ps i e at = (let p = At-mapped (λ (p : PutPlace). Withdrawn p.circuit p.place) ps i e at in (p.0.circuit, p.0.place, p.2))

known-from : (o : Option Record) (k : KnownRecord) → option_map known_record o ≡ Some k → (cr : Record) × (o ≡ Some cr)
known-from None k is = absurd cc
known-from (Some cr) k is = (cr, refl)

side-life : (w : World) (k : ℕ) (j : Joined) (y : ServerSide) (did : Action) → At w.servers j.server y → (side_of j.server y (acted k j y did w)).life ≡ y.life
side-life w k j y did at = go (slice_get (acted k j y did w).servers j.server) refl
  where
    next : ServerSide
    next = record y { records = server.records_after y.core j.at_server (record { circuit = k; place = length j.lists.handled }) did y.records }

    go : (o : Option ServerSide) → slice_get (acted k j y did w).servers j.server ≡ o → (unwrap_or o y).life ≡ y.life
    go None is = refl
    go (Some z) is = elim (At-set w.servers j.server next j.server z is) [ inl own ↦ ap (λ (x : ServerSide). x.life) own.1 | inr old ↦ absurd (old.1 refl) ]

module _ (s : Setting) (w new : World) (k : ℕ) (j : Joined) (y : ServerSide) (on : At w.circuits k j) (at_y : At w.servers j.server y) (opened : j.lists.server_open ≡ true) (f : StepHandles w k j y new) (ready : Ready s w) (grow : LogsGrow w new) (know : AllKnow w) (keep : KeepSettings w) (await : AllAwaiting w) (all : AllAnswered s w) where
  abbrev place : ℕ
  place = length j.lists.handled

  abbrev step : Step
  step = step-of w new k j y f

  abbrev replies : List Fields
  replies = (f.steps.0).replies

  abbrev taken : ServerEnd
  taken = record f.e { link = with_rest (f.steps.0).rest f.e.link }

  module _ (d : Joined) (lg : List Entry) (at : At new.circuits k d) (logged : At new.server_logs d.lists.server lg) where
    lists : (d.lists.up ≡ j.lists.up) × (d.lists.down ≡ j.lists.down ++ about place Reply replies) × (d.lists.handled ≡ j.lists.handled ++ step ∷ []) × (d.lists.server ≡ j.lists.server)
    lists = step-lists w new k j y f d at

    -- the same server has it
    of_server : d.server ≡ j.server
    of_server =
        let b = step-back w new k j y on f k d at in
        b.2.server ∙ ap (λ (z : Joined). z.server) (At-one w.circuits k b.0 j b.1 on)

    given : IsGiven s d.server (knows y.core taken)
    given = (y.setting, subst (λ (i : ℕ). At s.servers i y.setting) (sym of_server) (ready.serves.stands.sound.given j.server y at_y), (keep j.server y at_y).0, (keep j.server y at_y).1)

    own : (log : List Entry) × At w.server_logs j.lists.server log
    own = logs-there s w ready.serves.stands.sound k j on

    log : List Entry
    log = own.0

    longer : IsLonger own.0 lg
    longer = (let more = grow j.lists.server own.0 own.1 in (more.0, At-one new.server_logs j.lists.server lg (own.0 ++ more.0) (subst (λ (l : ℕ). At new.server_logs l lg) lists.3 logged) more.1))

    joins : j.lists.server ≡ y.life
    joins = (let seat = ready.serves.stands.sound.seated.each k j on opened in seat.joins ∙ ap (λ (z : ServerSide). z.life) (At-one w.servers j.server seat.y y seat.at at_y))

    here : At w.server_logs y.life own.0
    here = subst (λ (n : ℕ). At w.server_logs n own.0) joins own.1

    length-is : step.logged ≡ length own.0
    length-is = ap (λ (o : Option (List Entry)). length (unwrap_or o [])) here

    steady : Steady own.0 j.lists
    steady = steady-of s w ready k j own.0 on own.1

    ext : Extends j.lists d.lists
    ext = record {
      up = λ i x there. subst (λ (l : List Sent). At l i x) (sym lists.0) there;
      down = λ i x there. subst (λ (l : List Told). At l i x) (sym lists.1) (At-append j.lists.down (about place Reply replies) i x there);
      handled = λ i x there. subst (λ (l : List Step). At l i x) (sym lists.2) (At-append j.lists.handled (step ∷ []) i x there);
    }

    handled-was : (l : ℕ) (g : Step) → At d.lists.handled l g → At j.lists.handled l g ⊎ ((l ≡ place) × (g ≡ step))
    handled-was l g there = At-snoc j.lists.handled step l g (subst (λ (z : List Step). At z l g) lists.2 there)

    down-was : (i : ℕ) (t : Told) → At d.lists.down i t → At j.lists.down i t ⊎ ((q : ℕ) × (i ≡ length j.lists.down + q) × At (about place Reply replies) q t)
    down-was i t there = At-parts j.lists.down (about place Reply replies) i t (subst (λ (z : List Told). At z i t) lists.1 there)

    sent : (q : Sent) × At j.lists.up place q × (q.message ≡ (f.steps.0).m)
    sent = takes-next s w ready.serves k j y f.e (f.steps.0).m (f.steps.0).rest on at_y opened f.has (f.steps.0).takes

    reply-at : (q : ℕ) (t : Told) → At (about place Reply replies) q t → (r : Fields) × At replies q r × (t ≡ record { message = r; place = place; cause = Reply })
    reply-at q t there = At-mapped (λ (z : Fields). let v : Told = record { message = z; place = place; cause = Reply } in v) replies q t there

    -- what the step logged
    abbrev put_at : PutPlace
    put_at = record { circuit = k; place = place }

    abbrev more : List Entry
    more = logged_by y.core j.at_server put_at (f.steps.0).action y.records

    abbrev midway : World
    midway = acted k j y (f.steps.0).action w

    abbrev side : ServerSide
    side = side_of j.server y midway

    abbrev ended_log : List Entry
    ended_log = withdrawals (server.ends_at (ends_by j.server f.core) midway.circuits) side.records

    abbrev ended : World
    ended = server_after j.server side (ends_by j.server f.core) f.core midway

    mid-log : At midway.server_logs y.life (own.0 ++ more)
    mid-log = grown-here w.server_logs y.life own.0 more here

    after-log : At ended.server_logs y.life ((own.0 ++ more) ++ ended_log)
    after-log = (let life : side.life ≡ y.life = side-life w k j y (f.steps.0).action at_y in
        subst (λ (l : ℕ). At ended.server_logs l ((own.0 ++ more) ++ ended_log)) life (grown-here midway.server_logs side.life (own.0 ++ more) ended_log (subst (λ (l : ℕ). At midway.server_logs l (own.0 ++ more)) (sym life) mid-log)))

    noted-log : (o : Option Joined) → (unwrap_or (option_map (λ (c : Joined). with_circuit k (handled_at place step replies c) ended) o) ended).server_logs ≡ ended.server_logs
    noted-log None = refl
    noted-log (Some c) = refl

    lg-is : lg ≡ (own.0 ++ more) ++ ended_log
    lg-is =
        At-one ended.server_logs y.life lg ((own.0 ++ more) ++ ended_log)
        (subst (λ (v : ℕ × List (List Entry)). At v.1 v.0 lg) (λ i. ((lists.3 ∙ joins) i, (ap (λ (z : World). z.server_logs) f.leaves ∙ noted-log (slice_get ended.circuits k)) i)) logged) after-log

    after-is : step.after ≡ length ((own.0 ++ more) ++ ended_log)
    after-is = ap (λ (o : Option (List Entry)). length (unwrap_or o [])) after-log

    late : (i : ℕ) (e : Entry) → step.logged + length more ≤ i → At ((own.0 ++ more) ++ ended_log) i e → (m l : ℕ) × (e ≡ Withdrawn m l)
    late i e from there = elim (At-parts (own.0 ++ more) ended_log i e there) [
      | inl old_it ↦ absurd (let lt : i < length (own.0 ++ more) = At-within (own.0 ++ more) i e old_it in let is : length (own.0 ++ more) ≡ length own.0 + length more = two-long own.0 more in omega (arith, lt, is, from, length-is))
      | inr new_it ↦ withdrawn-is (flat_map (λ (r : RecordSide). filter (λ (q : PutPlace). server.ends_at (ends_by j.server f.core) midway.circuits q.circuit) r.waiting) side.records) new_it.0 e new_it.2
    ]

    -- a record of this name is there
    named : (name : List ℕ) (known : KnownRecord) → option_map known_record (record_named y.core.records name) ≡ Some known → Has own.0 (server.number_of name y.records) name
    named name known is =
        let cr = known-from (record_named y.core.records name) known is in
        let life = ready.serves.stands.sound.writes.lives j.server y at_y in
        let g : Found (IsPutOf w.circuits j.server) life.log y.core.records y.records name cr.0 = found (IsPutOf w.circuits j.server) life.log y.core.records y.records name cr.0 life.life.each cr.1 in
        let same : life.log ≡ own.0 = At-one w.server_logs y.life life.log own.0 life.at here in
        let number : server.number_of name y.records ≡ g.r.number = ap (λ (n : List ℕ). server.number_of n y.records) (sym g.named) ∙ number-of y.records g.i g.r life.life.others g.in_rs in
        subst (λ (v : List Entry × ℕ). Has v.0 v.1 name) (λ i. (same i, sym number i))
        (g.agrees.first, g.agrees.added, sym (ap (λ (z : _). z.name) g.agrees.state) ∙ g.agrees.name ∙ g.named, g.agrees.there)

    logs-so : (did : Action) → Due (knows y.core taken) (f.steps.0).m replies did → LogsSo k place own.0 did (logged_by y.core j.at_server put_at did y.records)
    logs-so (Applies name value busies) due = (let to = (due-applies (knows y.core taken) (f.steps.0).m replies name value busies due).0 in (server.number_of name y.records, stored_now y.core value, named name to.known to.named, refl, (y.core.stamp, refl), refl))
    logs-so (action.Waits name value) due = (let to = (due-waits (knows y.core taken) (f.steps.0).m replies name value due).0 in (server.number_of name y.records, stored_now y.core value, named name to.known to.named, refl, (y.core.stamp, refl), refl))
    logs-so (action.Clears sid) due = λ i e there. withdrawn-is (flat_map (λ (ps : List PutPlace). ps) (server.with_core (λ (c : Record) (r : RecordSide). server.places_where (server.is_of_channel j.at_server sid) c.waiting r.waiting) y.core.records y.records)) i e there
    logs-so action.Nothing due = refl
    logs-so action.Greets due = refl
    logs-so (action.Names x) due = refl
    logs-so (action.Opens x) due = refl
    logs-so (action.Adds x) due = refl
    logs-so (action.Drops x) due = refl
    logs-so (action.Switches x) due = refl

    -- the puts that wait on a channel of this SID are withdrawn
    cleared : (sid : ℕ) → AreJust (server.channel_withdrawals j.at_server sid y.core.records y.records) (IsWithdrawal k (as_known j.lists) own.0 sid)
    cleared sid =
        let writes = ready.serves.stands.sound.writes in
        let life = writes.lives j.server y at_y in
        let same : life.log ≡ own.0 = At-one w.server_logs y.life life.log own.0 life.at here in
        cleared-just w.circuits j.server k j own.0 y.core.records y.records (record {
          on = on;
          each = subst (λ (l : List Entry). Both (Agrees (IsPutOf w.circuits j.server) l) y.core.records y.records) same life.life.each;
          others = life.life.others;
          once = λ p r q v u first second.
              let index : first.0 ≡ second.0 = (writes.logs j.lists.server own.0 own.1).waits first.0 second.0 p.circuit p.place r q v u first.1 second.1 in
              same-waits p.circuit p.place r q v u (At-one own.0 second.0 (Waits p.circuit p.place r v) (Waits p.circuit p.place q u) (subst (λ (m : ℕ). At own.0 m (Waits p.circuit p.place r v)) index first.1) second.1);
          open_still = life.still_open;
          awaits = await j.server y own.0 at_y here;
          one = λ m c at_c of opened_c handle. ready.serves.stands.sound.seated.one m k c j at_c on of opened_c opened handle;
          handled = λ l r v told. writes.handled j.lists.server own.0 (Waits k l r v) (record { circuit = k; place = l }) own.1 told refl j on opened;
        }) sid
      where
        same-waits : (n l r q : ℕ) (v u : Stored) → Waits n l r v ≡ Waits n l q u → r ≡ q
        same-waits n l r q v u e = cc

    fresh : AnsweredAt k d.lists lg place step
    fresh = (
      record {
        s = sent.0;
        at = ext.up place sent.0 sent.1;
        known = knows y.core taken;
        did = (f.steps.0).action;
        replies = replies;
        knew =
            subst (λ (v : Circuit × List Entry). KnowsLists v.0 v.1 (knows y.core taken)) (λ i. (sym is-known i, sym is-log i))
            (know k j y f.e own.0 on at_y opened f.has here);
        due = subst (λ (m : Fields). Due (knows y.core taken) m replies (f.steps.0).action) (sym sent.2) ((f.steps.0).handles).due;
        now = λ i m there.
            subst (λ (l : List Told). At l (length j.lists.down + i) (record { message = m; place = place; cause = Reply })) (sym lists.1)
            (At-after j.lists.down (about place Reply replies) i (record { message = m; place = place; cause = Reply }) (At-map (λ (z : Fields). let v : Told = record { message = z; place = place; cause = Reply } in v) replies i m there));
        fits =
            (let le : length j.lists.down + length replies ≤ length (j.lists.down ++ about place Reply replies) = long (λ (z : Fields). let v : Told = record { message = z; place = place; cause = Reply } in v) j.lists.down replies in
            let is : length d.lists.down ≡ length (j.lists.down ++ about place Reply replies) = ap (λ (l : List Told). length l) lists.1 in
            omega (arith, le, is));
        next = λ l g lt there. elim (handled-was l g there) [
          | inl was ↦ absurd (let below : l < place = At-within j.lists.handled l g was in omega (arith, lt, below))
          | inr now ↦ absurd (let e : l ≡ place = now.0 in omega (arith, lt, e))
        ];
        logs = more;
        logs_are = subst (λ (l : List Entry). LogsSo k place l (f.steps.0).action more) (sym is-log) (logs-so (f.steps.0).action ((f.steps.0).handles).due);
        clears = λ sid is.
            subst (λ (v : Circuit × List Entry). AreJust more (IsWithdrawal k v.0 v.1 sid)) (λ i. (sym is-known i, sym is-log i))
            (subst (λ (a : Action). AreJust (logged_by y.core j.at_server put_at a y.records) (IsWithdrawal k (as_known j.lists) own.0 sid)) (sym is) (cleared sid));
        logged = λ i e there.
            let n_is : step.logged + i ≡ length own.0 + i = ap (λ (z : ℕ). z + i) length-is in
            subst (λ (v : ℕ × List Entry). At v.1 v.0 e) (λ q. (sym n_is q, sym lg-is q)) (At-append (own.0 ++ more) ended_log (length own.0 + i) e (At-after own.0 more i e there));
        within = (let w : length own.0 + length more ≤ length ((own.0 ++ more) ++ ended_log) = longer-three own.0 more ended_log in let e : step.after ≡ length ((own.0 ++ more) ++ ended_log) = after-is in omega (arith, w, e, length-is));
        besides = λ i e from until there. late i e from (subst (λ (l : List Entry). At l i e) lg-is there);
        ends = (let e : step.after ≡ length ((own.0 ++ more) ++ ended_log) = after-is in let g : length lg ≡ length ((own.0 ++ more) ++ ended_log) = ap (λ (l : List Entry). length l) lg-is in omega (arith, e, g));
      },
      λ i m reply. elim (down-was i (record { message = m; place = place; cause = Reply }) reply) [
        | inl was ↦ absurd (let lt : place < place = steady.below i (record { message = m; place = place; cause = Reply }) was in omega (arith, lt))
        | inr new_it ↦ (let x = reply-at new_it.0 _ new_it.2 in let lt : new_it.0 < length replies = At-within replies new_it.0 x.0 x.1 in let e : i ≡ length j.lists.down + new_it.0 = new_it.1 in inl (omega (arith, lt, e)))
      ],
    )
      where
        is-log : take step.logged lg ≡ own.0
        is-log = longer-taken step.logged own.0 lg longer (omega (arith, length-is)) ∙ ap (λ (n : ℕ). take n own.0) length-is ∙ take-whole own.0

        is-known : past d.lists place step ≡ as_known j.lists
        is-known =
            known-is d.lists j.lists step lists.3 (ap (λ (l : List Sent). take place l) lists.0)
            (ap (λ (l : List Told). take step.sent l) lists.1 ∙ take-front (length j.lists.down) j.lists.down (about place Reply replies) (omega arith) ∙ take-whole j.lists.down)
            (ap (λ (l : List Step). take place l) lists.2 ∙ take-front place j.lists.handled (step ∷ []) (omega arith) ∙ take-whole j.lists.handled)

    pub own-answered : (p : ℕ) (h : Step) → At d.lists.handled p h → AnsweredBy s d.server k d.lists lg p h
    unfolding fresh
    own-answered p h there = elim (handled-was p h there) [
      | inr now ↦ subst (λ (v : ℕ × Step). AnsweredBy s d.server k d.lists lg v.0 v.1) (λ i. (sym now.0 i, sym now.1 i)) (fresh, given)
      | inl was ↦
          answered-on k j.lists d.lists own.0 lg p h ext lists.3 longer steady was s j.server d.server of_server
          (λ l g at_g. elim (handled-was l g at_g) [
            | inl old_it ↦ inl old_it
            | inr now ↦ inr ((let e : g.sent ≡ length j.lists.down = ap (λ (z : Step). z.sent) now.1 in omega (arith, e)), (let e : g.logged ≡ step.logged = ap (λ (z : Step). z.logged) now.1 in omega (arith, e, length-is)))
          ])
          (λ i m reply. elim (down-was i (record { message = m; place = p; cause = Reply }) reply) [
            | inl old_it ↦ inl old_it
            | inr new_it ↦ (let x = reply-at new_it.0 _ new_it.2 in let e : p ≡ place = ap (λ (t : Told). t.place) x.2 in let lt : p < place = At-within j.lists.handled p h was in absurd (omega (arith, e, lt)))
          ])
          (all k j own.0 on own.1 p h was)
    ]

  pub step-answered : AllAnswered s new
  step-answered n d lg at logged p h there = elim (same-or n k) [
    | inl is ↦
        subst (λ (m : ℕ). AnsweredBy s d.server m d.lists lg p h) (sym is) (own-answered d lg (subst (λ (m : ℕ). At new.circuits m d) is at) logged p h there)
    | inr other ↦
        let c = step-back w new k j y on f n d at in
        let lo = logs-there s w ready.serves.stands.sound n c.0 c.1 in
        let more = grow c.0.lists.server lo.0 lo.1 in
        let is : lg ≡ lo.0 ++ more.0 = At-one new.server_logs c.0.lists.server lg (lo.0 ++ more.0) (subst (λ (l : ℕ). At new.server_logs l lg) c.2.life logged) more.1 in
        let was : At c.0.lists.handled p h = elim (c.2.handled p h there) [ inl x ↦ x | inr x ↦ absurd (other x.0) ] in
        answered-on n c.0.lists d.lists lo.0 lg p h c.2.lists c.2.life (more.0, is) (steady-of s w ready n c.0 lo.0 c.1 lo.1) was s c.0.server d.server c.2.server
        (λ l g at_g. elim (c.2.handled l g at_g) [ inl x ↦ inl x | inr x ↦ absurd (other x.0) ])
        (λ i m reply. elim (c.2.told i _ reply) [ inl x ↦ inl x | inr x ↦ absurd (other x.1.0) ])
        (all n c.0 lo.0 c.1 lo.1 p h was)
  ]

-- ---- a circuit is made

accept-answered : (s : Setting) (w new : World) (i : ℕ) (x : ClientSide) (v : WantsFirst w x) → Ready s w → LogsGrow w new → HappensAccept w i x v new → AllAnswered s w → AllAnswered s new
accept-answered s w new i x v ready grow f all = elim f.leaves [
  | inl full ↦ subst (λ (z : World). AllAnswered s z) (sym full.1) all
  | inr made ↦
      let c : Joined = connected_as made.1 (new_circuit i x v.v.circuit v.i v.y made.0) in
      let mid : World = record w { servers = slice_set w.servers v.i (record v.y { core = f.server }); circuits = w.circuits ++ c ∷ [] } in
      let g : Frame mid new = sent-frame mid new i x.names made.2 (ap (λ (z : World). z.servers) made.6) (ap (λ (z : World). z.server_logs) made.6) (ap (λ (z : World). z.circuits) made.6) in
      λ n d lg at logged p h there.
      let b = back-frame Nothing-new mid new g n d at in
      let was : At b.0.lists.handled p h = elim (b.2.handled p h there) [ inl z ↦ z | inr z ↦ absurd z ] in
      elim (At-snoc w.circuits c n b.0 b.1) [
        | inl old_it ↦
            let lo = logs-there s w ready.serves.stands.sound n b.0 old_it in
            let more = grow b.0.lists.server lo.0 lo.1 in
            let is : lg ≡ lo.0 ++ more.0 = At-one new.server_logs b.0.lists.server lg (lo.0 ++ more.0) (subst (λ (l : ℕ). At new.server_logs l lg) b.2.life logged) more.1 in
            answered-on n b.0.lists d.lists lo.0 lg p h b.2.lists b.2.life (more.0, is) (steady-of s w ready n b.0 lo.0 old_it lo.1) was s b.0.server d.server b.2.server
            (λ l z at_z. elim (b.2.handled l z at_z) [ inl q ↦ inl q | inr q ↦ absurd q ])
            (λ q m reply. elim (b.2.told q _ reply) [ inl z ↦ inl z | inr z ↦ absurd z.1 ])
            (all n b.0 lo.0 old_it lo.1 p h was)
        | inr last ↦ absurd (none_at p h (subst (λ (l : List Step). At l p h) (ap (λ (z : Joined). z.lists.handled) last.1 ∙ empty made.1 made.0) was))
      ]
]
  where
    empty : (o : Option Closing) (g : _) → let z : Joined = connected_as o (new_circuit i x v.v.circuit v.i v.y g) in z.lists.handled ≡ []
    empty None g = refl
    empty (Some k) g = refl

-- ---- every event

-- the put that makes a record busy came on a circuit of this life of the server
busy-came : (s : Setting) (w : World) (i : ℕ) (y : ServerSide) (name : List ℕ) (new : World) (f : server.Finished w i y name new) → Ready s w → At w.servers i y → CameSome w.circuits y.life f.p
busy-came s w i y name new f ready at = go (own.life.once.own b.i f.p.circuit f.p.place f.r.number b.v true b.at)
  where
    own : Lives w i y
    own = ready.serves.stands.sound.writes.lives i y at

    x : (c : Record) × At y.core.records f.at.0 c × Agrees (IsPutOf w.circuits i) own.log c f.r
    x = beside-right (Agrees (IsPutOf w.circuits i) own.log) y.core.records y.records f.at.0 f.r own.life.each f.at.1

    b : IsBusyWith own.log f.r.number f.p
    b = subst (λ (o : Option PutPlace). IsBusyBy own.log f.r.number o) f.busy x.2.busy

    go : CameOn w.circuits y.life IsTaken f.p b.i b.v.value ⊎ HadWaited own.log f.p b.i f.r.number b.v.value → CameSome w.circuits y.life f.p
    go (inl came) = record { c = came.c; on = came.on; joins = came.joins }
    go (inr waited) = (let came = own.life.once.came waited.0 f.p.circuit f.p.place f.r.number waited.1 waited.3 in record { c = came.c; on = came.on; joins = came.joins })

remove-answered : (s : Setting) (w : World) (i : ℕ) (y : ServerSide) (name : List ℕ) (gone : Handle → Bool) (left : Handle → ℕ) (core : Server) → Ready s w
    → (let new : World = server_after i (record y { records = filter (λ (r : RecordSide). not (bytes_eq r.name name)) y.records }) (ends_by i core) core (moves.removal_told w i y name gone left) in LogsGrow w new → AllAnswered s w → AllAnswered s new)
remove-answered s w i y name gone left core ready logs all =
    let new : World = server_after i (record y { records = filter (λ (r : RecordSide). not (bytes_eq r.name name)) y.records }) (ends_by i core) core (moves.removal_told w i y name gone left) in
    back-answered (RemoveNews w i y.core name gone left) s w new ready logs (removed-back w i y name gone left core)
    (λ l c d log lg at_c at_d logged there longer. remove-by w i y.core name gone left l lg c.lists) all

event-answered : (s : Setting) (w new : World) (e : Event) → Ready s w → AllKnow w → KeepSettings w → AllAwaiting w → Happens w e new → AllAnswered s w → AllAnswered s new
event-answered s w new e ready know keep await happens all = go e happens
  where
    grow : (e : Event) → Happens w e new → LogsGrow w new
    grow e happens = logs-grow s w new e (takes-next s w ready.serves) (world-numbered w ready.serves.in_step) happens ready.serves.stands.sound

    still : (e : Event) → IsStill e → Happens w e new → AllAnswered s new
    still e quiet happens =
        back-answered Nothing-new s w new ready (grow e happens) (still-back Nothing-new w new e quiet happens)
        (λ l c d log lg at_c at_d logged there longer. still-by l lg c.lists) all

    same : new ≡ w → AllAnswered s new
    same is = subst (λ (z : World). AllAnswered s z) (sym is) all

    stepped-by : (k : ℕ) (h : Happens w (event.ServerStep k) new) → AllAnswered s new
    stepped-by k (at, (did, f)) = elim (handled-or did) [
      | inl is ↦
          let g : StepHandles w k at.j at.y new = subst (λ (x : Stepped). ServerStepped w k at.j at.y x new) is f in
          step-answered s w new k at.j at.y at.joins.at at.joins.server at.is_open g ready (grow (event.ServerStep k) (at, (did, f))) know keep await all
      | inr other ↦
          back-answered Nothing-new s w new ready (grow (event.ServerStep k) (at, (did, f))) (unhandled-back Nothing-new w new k at.j at.y did at.joins.at other f)
          (λ l c d log lg at_c at_d logged there longer. still-by l lg c.lists) all
    ]

    finished : (i : ℕ) (name : List ℕ) (y : ServerSide) → At w.servers i y → LogsGrow w new → HappensFinish w i y name new → AllAnswered s new
    finished i name y at logs (inl f) = λ n d lg at_d logged k h at_h.
        let back = finish-back w new i y name f in
        let c = back n d at_d in
        let lo = logs-there s w ready.serves.stands.sound n c.0 c.1 in
        let more = logs c.0.lists.server lo.0 lo.1 in
        let is : lg ≡ lo.0 ++ more.0 = At-one new.server_logs c.0.lists.server lg (lo.0 ++ more.0) (subst (λ (l : ℕ). At new.server_logs l lg) c.2.life logged) more.1 in
        let was : At c.0.lists.handled k h = elim (c.2.handled k h at_h) [ inl x ↦ x | inr x ↦ absurd x ] in
        answered-on n c.0.lists d.lists lo.0 lg k h c.2.lists c.2.life (more.0, is) (steady-of s w ready n c.0 lo.0 c.1 lo.1) was s c.0.server d.server c.2.server
        (λ l g at_g. elim (c.2.handled l g at_g) [ inl x ↦ inl x | inr x ↦ absurd x ])
        (λ q m reply. elim (c.2.told q _ reply) [
          | inl x ↦ inl x
          | inr x ↦
              let own = ready.serves.stands.sound.writes.lives i y at in
              let fb = finish-by s w i y name new f ready at n c.0 own.log lg c.1 own.at (subst (λ (l : ℕ). At new.server_logs l lg) c.2.life logged) (put-life n c.0 c.1 x.1.0) k m x.1 in
              let steady = steady-of s w ready n c.0 lo.0 c.1 lo.1 in
              inr (
                fb.0,
                fb.1,
                (fb.2.3.0, fb.2.3.1),
                (
                  fb.2.0,
                  c.2.lists.up k fb.2.0 fb.2.1,
                  fb.2.2,
                  (
                    fb.2.3.0,
                    fb.2.3.1,
                    λ cleared. fb.2.3.2 fb.2.3.0 (was-cleared lo.0 c.0 d (λ l g there. elim (c.2.handled l g there) [ inl z ↦ z | inr z ↦ absurd z ]) c.2.lists.up steady k (sid_in fb.2.0.message) fb.2.3.0 cleared),
                  ),
                ),
              )
        ])
        (all n c.0 lo.0 c.1 lo.1 k h was)
      where
        put-life : (n : ℕ) (c : Joined) → At w.circuits n c → n ≡ f.p.circuit → c.lists.server ≡ y.life
        put-life n c on here =
            let came = busy-came s w i y name new f ready at in
            let one : came.c ≡ c = At-one w.circuits n came.c c (subst (λ (l : ℕ). At w.circuits l came.c) (sym here) came.on) on in
            ap (λ (z : Joined). z.lists.server) (sym one) ∙ came.joins
    finished i name y at logs (inr refused) = same refused.2

    removed : (i : ℕ) (name : List ℕ) (y : ServerSide) → LogsGrow w new → HappensRemove w i y name new → AllAnswered s new
    removed i name y logs (gone, left, core, inl (removes, is)) =
        subst (λ (z : World). AllAnswered s z) (sym is) (remove-answered s w i y name gone left core ready (subst (λ (z : World). LogsGrow w z) is logs) all)
    removed i name y logs (gone, left, core, inr (removes, is)) = same is

    go : (e : Event) → Happens w e new → AllAnswered s new
    go (event.Accept i) h = accept-answered s w new i h.0.x h.0.v ready (grow (event.Accept i) h) h.1 all
    go (event.ServerStep k) h = stepped-by k h
    go (event.Pump k) h =
        back-answered _ s w new ready (grow (event.Pump k) h) (pump-back w new k h.0.j h.0.y h.0.joins.at h.1)
        (λ l c d log lg at_c at_d logged there longer. pump-by s w new k h.0.j h.0.y h.1 ready h.0.joins.at h.0.joins.server h.0.is_open l lg c.lists) all
    go (event.Finish i name) h = finished i name h.0.y h.0.at (grow (event.Finish i name) h) h.1
    go (event.Remove i name) h = removed i name h.0.y (grow (event.Remove i name) h) h.1
    go (event.Open i name priority) h = still (event.Open i name priority) tt h
    go (event.Clear i c) h = still (event.Clear i c) tt h
    go (event.Read i c data_type count) h = still (event.Read i c data_type count) tt h
    go (event.Write i c v) h = still (event.Write i c v) tt h
    go (event.WriteNotify i c v) h = still (event.WriteNotify i c v) tt h
    go (event.Subscribe i c data_type count mask) h = still (event.Subscribe i c data_type count mask) tt h
    go (event.Unsubscribe i n) h = still (event.Unsubscribe i n) tt h
    go (event.Collect i r) h = still (event.Collect i r) tt h
    go (event.GiveUp i r) h = still (event.GiveUp i r) tt h
    go (event.ClientDatagram i from bytes) h = still (event.ClientDatagram i from bytes) tt h
    go (event.ServerDatagram i from bytes) h = still (event.ServerDatagram i from bytes) tt h
    go (event.Up k n) h = still (event.Up k n) tt h
    go (event.Down k n) h = still (event.Down k n) tt h
    go (event.ClientStep k) h = still (event.ClientStep k) tt h
    go (event.CutClient k) h = still (event.CutClient k) tt h
    go (event.CutServer k) h = still (event.CutServer k) tt h
    go (event.ClientRestart i) h = still (event.ClientRestart i) tt h
    go (event.ServerRestart i) h = still (event.ServerRestart i) tt h
    go (event.Post i name v mask) h = still (event.Post i name v mask) tt h
    go (event.Add i r) h = still (event.Add i r) tt h
    go (event.Tick moment) h = still (event.Tick moment) tt h

-- ---- every run

events-answered : (s : Setting) (ok : IsSetting s) (done es : List Event) (w new : World) → FoldsTo Happens (opening s) done w → FoldsTo Happens w es new → AllAnswered s w → AllAnswered s new
events-answered s ok done [] w new before same all = subst (λ (z : World). AllAnswered s z) same all
events-answered s ok done (e ∷ es) w new before (mid, one, rest) all =
    let runs : Runs s done None w = (w, before, refl) in
    events-answered s ok (done ++ e ∷ []) es mid new (folds-snoc done (opening s) w mid e before one) rest
    (event-answered s w mid e (ready s done None w ok runs) (run-know s done None w ok runs) (run-settings s done None w ok runs) (run-awaiting s done None w ok runs) one all)

stops-answered : (s : Setting) (mid : World) (stopped : Option Event) (w : World) → Ready s mid → StopsAt mid stopped w → AllAnswered s mid → AllAnswered s w
stops-answered s mid (Some (event.Tick moment)) w h stops all = elim stops [
  | inl same ↦ subst (λ (z : World). AllAnswered s z) (sym same) all
  | inr ticked ↦
      let g : Frame mid w = ticks-frame moment mid (clients_below ticked.0) w ticked.3 in
      back-answered Nothing-new s mid w h (logs-stay mid w g.logs) (back-frame Nothing-new mid w g) (λ l c d log lg at_c at_d logged there longer. still-by l lg c.lists) all
]
stops-answered s mid stopped w h stops all = subst (λ (z : World). AllAnswered s z) (sym stops) all

pub run-all-answered : (s : Setting) (es : List Event) (stopped : Option Event) (w : World) → IsSetting s → Runs s es stopped w → AllAnswered s w
run-all-answered s es stopped w ok (mid, folds, stops) =
    stops-answered s mid stopped w (ready s es None mid ok (mid, folds, refl)) stops (events-answered s ok [] es (opening s) mid refl folds (λ n c log at. absurd (none_at n c at)))

-- in the words of the statement
pub as-told : (n : ℕ) (j : Joined) (y : List Entry) → ((m l e : ℕ) → At y e (Finished m l) → IsBusyUntil y m l e) → (k : ℕ) (h : Step) → AnsweredAt n j.lists y k h → AnsweredSo n (circuit_of j) y k h
as-told n j y busy k h (a, rest) = (
  record {
    s = a.s;
    at = a.at;
    known = a.known;
    did = a.did;
    replies = a.replies;
    knew = a.knew;
    due = a.due;
    now = a.now;
    fits = a.fits;
    next = a.next;
    logs = a.logs;
    logs_are = a.logs_are;
    clears = a.clears;
    logged = a.logged;
    within = a.within;
    besides = a.besides;
    ends = a.ends;
  },
  λ i m reply. elim (rest i m reply) [
    | inl early ↦ inl early
    | inr late ↦
        let q = late.3.3 in
        let one : late.3.0 ≡ a.s = At-one j.lists.up k late.3.0 a.s late.3.1 a.at in
        inr (late.0, late.1, subst (λ (z : Sent). Is command.WriteNotify z.message) one late.3.2, (q.0, q.1, busy n k q.0 q.1, subst (λ (z : Sent). IsUncleared j.lists k (sid_in z.message) q.0) one q.2))
  ],
)

-- with the same message, knowledge, action, replies and entries
pub told-as : (G : Sent → Knows → Action → List Fields → List Entry → Type 0) (n : ℕ) (j : Joined) (y : List Entry) (busy : (m l e : ℕ) → At y e (Finished m l) → IsBusyUntil y m l e) (k : ℕ) (h : Step) (a : AnsweredAt n j.lists y k h) → G a.0.s a.0.known a.0.did a.0.replies a.0.logs
    → let b : AnsweredSo n (circuit_of j) y k h = as-told n j y busy k h a in G b.0.s b.0.known b.0.did b.0.replies b.0.logs
unfolding as-told
told-as G n j y busy k h (a, rest) g = g

pub run-answered : (s : Setting) (es : List Event) (stopped : Option Event) (w : World) → IsSetting s → Runs s es stopped w → AreAnswered w
run-answered s es stopped w ok runs =
    of-circuits s es stopped w ok runs (λ (n : ℕ) (c : Circuit) (x : List Line) (y : List Entry). (k : ℕ) (h : Step) → At c.handled k h → AnsweredSo n c y k h)
    (λ n j x y at lx ly k h there. as-told n j y (λ m l e is. (((run-serves s es stopped w ok runs).stands.sound.writes.logs j.lists.server y ly).finished m l e is).0) k h (run-all-answered s es stopped w ok runs n j y at ly k h there).0)
