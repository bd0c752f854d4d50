-- What each server knows of the peer on each open end is what the lists say, and servers keep their
-- settings, over every event and run.
use Rattle.std.proofs.Common.{◌≡◌, ℕ, zero, suc, ◌+◌, ◌<◌, ◌≤◌, ◌⊎◌, inl, inr, true, List, [], ◌∷◌, ◌++◌, length, Option, Some, None, refl, sym, ap, subst, ◌∙◌, arith}
use Rattle.std.specs.Prelude.{Ok, Result, filter, map, slice_set, take}
use Rattle.std.specs.List.{FoldsTo, fold}
use Rattle.ca_arena.specs.declared.handle.Handle.{Handle}
use Rattle.ca_ids.specs.Table.{MayGive}
use Rattle.ca_link.specs.Link.{with_rest}
use Rattle.ca_queue.specs.declared.entry.SubKey.{SubKey}
use Rattle.ca_text.specs.declared.command.Command.TheVariants as command
use Rattle.ca_text.specs.declared.refusal.Refusal.{Refusal}
use Rattle.ca_text.specs.Place.{At}
use Rattle.ca_text.proofs.Places.{some_is, At-mapped, At-one, At-snoc, At-within}
use Rattle.ca_wire.specs.Fields.{Fields}
use Rattle.ca_model.specs.Answers.{Closing}
use Rattle.ca_model.specs.Due.{Due}
use Rattle.ca_model.specs.History.{Circuit, Entry, Reply, Sent, Step, Told}
use Rattle.ca_model.specs.Server.{Open, Server, ServerEnd, concerns, key_of}
use Rattle.ca_model.specs.ServerCalls.{channels_of, finish_reply}
use Rattle.ca_model.specs.ServerSteps.{Accepts, HasEnd, Leaves, Pumps, Stepped, Update, knows}
use Rattle.ca_model.specs.Speech.{In, Is}
use Rattle.ca_model.specs.ClientEvents.{HappensAccept, WantsFirst, connected_as, new_circuit}
use Rattle.ca_model.specs.Events.{Event}
use Rattle.ca_model.specs.Events as event
use Rattle.ca_model.specs.Runs.{Happens, Runs, StopsAt, clients_below}
use Rattle.ca_model.specs.ServerEvents.{HappensFinish, HappensPump, HappensRemove, ServerStepped, StepHandles, about, handled_at, numbers_after, removal_told, stamped, with_number}
use Rattle.ca_model.specs.ServerEvents as server
use Rattle.ca_model.specs.World.{ClientSide, IsSetting, Joined, ServerSide, Setting, World, opening, server_begun}
use Rattle.ca_laws_parts.specs.Later.{stamped_told}
use Rattle.ca_laws_runs.proofs.CauseKeeps.{handled-or}
use Rattle.ca_laws_runs.proofs.StepWhole.{takes-next}
use Rattle.ca_laws_parts.specs.Moves.{Writes}
use Rattle.ca_laws_parts.proofs.WritesEvents.{numbered-at}
use Rattle.ca_laws_parts.proofs.Every.{ticks-frame}
use Rattle.ca_laws_parts.proofs.Frames.{Frame}
use Rattle.ca_laws_parts.proofs.HappensAdd.{given-free}
use Rattle.ca_laws_parts.proofs.HappensClient.{sent-frame}
use Rattle.ca_laws_parts.proofs.HappensPost.{stamped-same}
use Rattle.ca_laws_parts.proofs.Lasting.{Handled, Lasting, told_gone, told_late}
use Rattle.ca_laws_parts.proofs.LastingAll.{OnStep, event-by}
use Rattle.ca_laws_parts.proofs.WritesLists.{none_at}
use Rattle.ca_laws_parts.proofs.WritesMoves.{same-or}
use Rattle.ca_laws_parts.proofs.Waited.{numbers-after-same}
use Rattle.ca_laws_runs.specs.Given.{OfOneServer}
use Rattle.ca_laws_runs.specs.KnewFaces.{Face, IsFace, KeepSettings, KnowFaces, face_of}
use Rattle.ca_laws_runs.specs.KnewLists.{as_known}
use Rattle.ca_laws_runs.proofs.AnsweringFrame.{step-lists, step-of}
use Rattle.ca_laws_runs.proofs.CausingEvents.{Nothing-new, Ready, steady-of}
use Rattle.ca_laws_runs.proofs.CausingFrame.{Back, FinishNews, IsStill, News, Onward, PumpNews, RemoveNews, Says, Takes, back-frame, finish-back, pump-back, removed-back, step-back, still-back, unhandled-back}
use Rattle.ca_laws_runs.proofs.CausingKeeps.{Steady}
use Rattle.ca_laws_runs.proofs.CausingRuns.{ready}
use Rattle.ca_laws_runs.proofs.FaceCalls.{blank}
use Rattle.ca_laws_runs.proofs.FaceDue.{apart, facing}
use Rattle.ca_laws_runs.proofs.FaceEvents.{AreFaced, Calm, Stepped-faces, event-faced, handled-faced, unhandled-faced}
use Rattle.ca_laws_runs.proofs.FaceLists.{acts-face, blank-face, face-goes, face-handled, grown-same, known_next}
use Rattle.ca_laws_runs.proofs.KnewListsRuns.{shows-to}
use Rattle.ca_laws_runs.proofs.FollowsWhole.{folds-snoc, logs-there}

-- ---- which circuit an open end was on

-- The circuit was there with an open end, of the same server under the same handle; or
-- none had its number.
abbrev SeatFrom : World → ℕ → Joined → Type 0
SeatFrom w n c = ((b : Joined) × At w.circuits n b × (c.server ≡ b.server) × (c.at_server ≡ b.at_server) × (b.lists.server_open ≡ true)) ⊎ (length w.circuits ≤ n)

seat-as : (w : World) (n : ℕ) (c d : Joined) → d.server ≡ c.server → d.at_server ≡ c.at_server → SeatFrom w n c → SeatFrom w n d
seat-as w n c d server handle (inl (b, on, at, same, opened)) = inl (b, on, server ∙ at, handle ∙ same, opened)
seat-as w n c d server handle (inr new) = inr new

numbered-seat : (w : World) (n : ℕ) (keys : List SubKey) (c : Joined) → SeatFrom w n c → SeatFrom w n (fold with_number c keys)
numbered-seat w n [] c h = h
numbered-seat w n (k ∷ keys) c h = numbered-seat w n keys (with_number c k) (seat-as w n c (with_number c k) refl refl h)

abbrev Seats : World → ℕ → ServerEnd → Joined → Type 0
Seats w n e c = SeatFrom w n c

seats-lasting : (w : World) → Lasting (Seats w)
seats-lasting w = record {
  stays = λ n e f c d held goes h. seat-as w n c d goes.later.server goes.later.handle h;
  posted = λ n name mask v e c h. numbered-seat w n (map key_of (filter (concerns name mask) e.subscriptions)) c h;
  removed = λ n name e c h. seat-as w n c (told_gone (channels_of name e) c) refl refl h;
  pumped = λ n us e after c folds h. (let same = stamped-same us c in seat-as w n c (stamped us c) same.server same.handle h);
  replied = λ n e c place ms h. seat-as w n c (told_late place ms c) refl refl h;
}

seats-handled : (w : World) → Handled (Seats w)
seats-handled w n y e new s replies did step c at due acts h = (let same = numbers-after-same (length c.lists.handled) did c in seat-as w n c (handled_at (length c.lists.handled) step replies (numbers_after (length c.lists.handled) did c)) same.server same.handle h)

seats-step : (w v : World) (e : Event) → OnStep (Seats w) (seats-lasting w) v e
seats-step w v (event.ServerStep m) = λ j y at server e taken new s replies did step has held sent due acts p. seats-handled w m y.core taken new s replies did step j sent due acts p
seats-step w v e = tt

seats-from : (s : Setting) (w new : World) (e : Event) → Ready s w → Happens w e new → (n : ℕ) (c : Joined) (y : ServerSide) (f : ServerEnd) → At new.circuits n c → At new.servers c.server y → c.lists.server_open ≡ true → HasEnd y.core c.at_server f → SeatFrom w n c
seats-from s w new e ready happens =
    event-by (Seats w) (seats-lasting w) s w new e (λ n moment c more is_new. inr more) (seats-step w w e) (takes-next s w ready.serves) happens ready.serves.stands.sound
    (λ n c y f at there opened has. inl (c, at, refl, refl, opened))

-- ---- what was known

-- a server of this number had an end under this handle, which knew this
abbrev Was : World → ℕ → Handle → Face → Type 0
Was w i h f = (y : ServerSide) × (e : ServerEnd) × At w.servers i y × HasEnd y.core h e × (f ≡ face_of e)

-- a server of this number had this life, or the life is new
abbrev pub Lived : World → ℕ → ℕ → Type 0
Lived w i life = ((y : ServerSide) × At w.servers i y × (life ≡ y.life)) ⊎ (life ≡ length w.server_logs)

are-faced : (w : World) → KeepSettings w → AreFaced (Was w) (Lived w) w
are-faced w keep i y at = (record { port = (keep i y at).0; rules = (keep i y at).1; ends = λ h e has. (y, e, at, has, refl) }, inl (y, at, refl))

-- No message was handled on the circuit, and none was sent that creates a channel.
pub record IsQuietBy (F : ℕ → News → Type 0) (l : ℕ) : Type 0 where
  pub takes : (m : ℕ) (h : Step) → F l (Takes m h) → ⊥
  pub creates : (t : Told) → F l (Says t) → Is command.CreateChannel t.message → ⊥

quiet-on : (F : ℕ → News → Type 0) (n : ℕ) (log : List Entry) (c d : Joined) (f : Face) → Steady log c.lists → Onward F n c d → IsQuietBy F n → IsFace (as_known c.lists) f → IsFace (as_known d.lists) f
quiet-on F n log c d f steady on quiet is =
    face-goes c.lists d.lists steady.few (λ k h at. (steady.within k h at).sent) on.lists.up on.lists.down
    (grown-same c.lists.handled d.lists.handled on.lists.handled (λ k h at. elim (on.handled k h at) [ inl old ↦ old | inr new ↦ absurd (quiet.takes k h new) ]))
    (λ i t at creates. elim (on.told i t at) [ inl old ↦ old | inr new ↦ absurd (quiet.creates t new.1 creates) ]) f is

module _ (s : Setting) (w new : World) (ready : Ready s w) (know : KnowFaces w) where
  log-of : (n : ℕ) (c : Joined) → At w.circuits n c → (log : List Entry) × At w.server_logs c.lists.server log
  log-of n c at = logs-there s w ready.serves.stands.sound n c at

  was-face : (n : ℕ) (c : Joined) (i : ℕ) (h : Handle) (f : Face) → At w.circuits n c → c.server ≡ i → c.at_server ≡ h → c.lists.server_open ≡ true → Was w i h f → IsFace (as_known c.lists) f
  was-face n c i h f at server handle opened (y, e, there, has, is) =
      subst (λ (x : Face). IsFace (as_known c.lists) x) (sym is)
      (know n c y e at (subst (λ (m : ℕ). At w.servers m y) (sym server) there) opened (subst (λ (x : Handle). HasEnd y.core x e) (sym handle) has))

  -- an end that is open now, on a circuit that was there
  pub on-faces : (F : ℕ → News → Type 0) (n : ℕ) (c d : Joined) (f : Face) → At w.circuits n c → Onward F n c d → IsQuietBy F n → SeatFrom w n d → Was w d.server d.at_server f → IsFace (as_known d.lists) f
  on-faces F n c d f at on quiet (inl (b, on_b, server, handle, opened)) was =
      let same : b ≡ c = At-one w.circuits n b c on_b at in
      quiet-on F n (log-of n c at).0 c d f (steady-of s w ready n c (log-of n c at).0 at (log-of n c at).1) on quiet
      (was-face n c d.server d.at_server f at (sym (server ∙ ap (λ (x : Joined). x.server) same)) (sym (handle ∙ ap (λ (x : Joined). x.at_server) same)) (ap (λ (x : Joined). x.lists.server_open) (sym same) ∙ opened) was)
  on-faces F n c d f at on quiet (inr past) was = absurd (let lt : n < length w.circuits = At-within w.circuits n c at in omega (arith, lt, past))

  pub back-faces : (e : Event) → Happens w e new → (F : ℕ → News → Type 0) → Back F w new → ((l : ℕ) → IsQuietBy F l) → AreFaced (Was w) (Lived w) new → KnowFaces new
  back-faces e happens F back quiet faced n d z f at there opened has =
      let b = back n d at in
      on-faces F n b.0 d (face_of f) b.1 b.2 (quiet n) (seats-from s w new e ready happens n d z f at there opened has) ((faced d.server z there).0.ends d.at_server f has)

-- Each circuit was there, of the same server and of the same life of it; or it joins the
-- present life of a server.
abbrev pub Origins : World → World → Type 0
Origins w new = (n : ℕ) (d : Joined) → At new.circuits n d → ((c : Joined) × At w.circuits n c × (d.server ≡ c.server) × (d.lists.server ≡ c.lists.server))
    ⊎ ((i : ℕ) × (y : ServerSide) × At w.servers i y × (d.server ≡ i) × (d.lists.server ≡ y.life))

-- What an event leaves of servers: their settings, what they know of their peers, their lives, and
-- which circuits join these.
pub record Leaving (w new : World) : Type 0 where
  pub settings : KeepSettings new
  pub faces : KnowFaces new
  pub lives : (i : ℕ) (z : ServerSide) → At new.servers i z → Lived w i z.life
  pub origins : Origins w new

back-origins : (F : ℕ → News → Type 0) (w new : World) → Back F w new → Origins w new
back-origins F w new back n d at = (let c = back n d at in inl (c.0, c.1, c.2.server, c.2.life))

same-leaving : (w new : World) → new ≡ w → KeepSettings w → KnowFaces w → Leaving w new
same-leaving w new is keep know =
    subst (λ (z : World). Leaving w z) (sym is) (record { settings = keep; faces = know; lives = λ i z at. inl (z, at, refl); origins = λ n d at. inl (d, at, refl, refl) })

-- ---- what is sent creates no channel

nothing-quiet : (l : ℕ) → IsQuietBy Nothing-new l
nothing-quiet l = record { takes = λ m h none. none; creates = λ t none creates. none }

stamped-updates : (us : List Update) (e after : ServerEnd) (j : Joined) → FoldsTo Leaves e us after → (t : Told) → In (stamped_told us j) t → t.message.command ≡ 1
stamped-updates [] e after j folds t there = absurd (none_at there.0 t there.1)
stamped-updates (u ∷ us) e after j (mid, one, rest) t (zero, at) = ap (λ (z : Told). z.message.command) (sym (some_is _ t at)) ∙ shows-to u.of.wanted u.carries u.message one.shows
stamped-updates (u ∷ us) e after j (mid, one, rest) t (suc i, at) = stamped-updates us mid after _ rest t (i, at)

pump-quiet : (s : Setting) (w new : World) (k : ℕ) (j : Joined) (y : ServerSide) (f : HappensPump w k j y new) → (l : ℕ) → IsQuietBy (PumpNews k (stamped_told f.updates j)) l
pump-quiet s w new k j y f l = record {
  takes = λ m h none. none;
  creates = λ t told creates. updates t told.1 creates;
}
  where
    updates : (t : Told) → In (stamped_told f.updates j) t → Is command.CreateChannel t.message → ⊥
    updates t there creates = go f.pumps
      where
        go : Pumps y.core j.at_server f.updates f.core → ⊥
        go (inl (e, has, (after, folds, rest))) = apart 1 18 t.message.command refl (stamped-updates f.updates e after j folds t there) creates
        go (inr (none, nothing, is)) = none_at there.0 t (subst (λ (us : List Update). At (stamped_told us j) there.0 t) nothing there.1)

remove-quiet : (w : World) (i : ℕ) (core : Server) (name : List ℕ) (gone : Handle → _) (left : Handle → ℕ) (l : ℕ) → IsQuietBy (RemoveNews w i core name gone left) l
remove-quiet w i core name gone left l = record {
  takes = λ m h none. none;
  creates = λ t told creates.
      let x = At-mapped (removal_told (told.0).creations) _ told.4.0 t told.4.1 in
      apart 27 18 t.message.command refl (ap (λ (z : Told). z.message.command) x.2) creates;
}

finish-quiet : (w : World) (i : ℕ) (y : ServerSide) (name : List ℕ) (new : World) (f : server.Finished w i y name new) (l : ℕ) → IsQuietBy (FinishNews f.p.circuit f.p.place (map (λ (x : Handle × Fields). x.1) f.sent)) l
finish-quiet w i y name new f l = record {
  takes = λ m h none. none;
  creates = λ t told creates.
      let x = At-mapped (λ (q : Fields). let z : Told = record { message = q; place = f.p.place; cause = Reply } in z) (map (λ (v : Handle × Fields). v.1) f.sent) told.1.0 t told.1.1 in
      let v = At-mapped (λ (v : Handle × Fields). v.1) f.sent told.1.0 x.0 x.1 in
      apart 19 18 t.message.command refl (ap (λ (q : Fields). q.command) (ap (λ (z : Told). z.message) x.2 ∙ v.2 ∙ replied told.1.0 v.0 v.1)) creates;
}
  where
    replied : (q : ℕ) (v : Handle × Fields) → At f.sent q v → v.1 ≡ finish_reply f.finishes.0.p
    replied q v there = elim f.finishes.2 [
      | inl said ↦ only q v (subst (λ (l : List (Handle × Fields)). At l q v) said.2 there)
      | inr silent ↦ absurd (none_at q v (subst (λ (l : List (Handle × Fields)). At l q v) silent.1 there))
    ]
      where
        only : (q : ℕ) (v : Handle × Fields) → At ((f.finishes.0.p.circuit, finish_reply f.finishes.0.p) ∷ []) q v → v.1 ≡ finish_reply f.finishes.0.p
        only q v at = elim (At-snoc [] (f.finishes.0.p.circuit, finish_reply f.finishes.0.p) q v at) [ inl none ↦ absurd (none_at q v none) | inr own ↦ ap (λ (z : Handle × Fields). z.1) own.1 ]

-- ---- a message is handled

step-faces : (s : Setting) (w new : World) (k : ℕ) (j : Joined) (y : ServerSide) → At w.circuits k j → At w.servers j.server y → j.lists.server_open ≡ true → (f : StepHandles w k j y new) → Happens w (event.ServerStep k) new → Ready s w → KeepSettings w → KnowFaces w
    → Leaving w new
step-faces s w new k j y on at_y opened_j f happens ready keep know = record {
  settings = λ i z at. ((faced i z at).0.port, (faced i z at).0.rules);
  faces = knows_new;
  lives = λ i z at. (faced i z at).1;
  origins = back-origins _ w new (step-back w new k j y on f);
}
  where
    own : ServerEnd
    own = (f.steps.0).handles.acted

    taken : ServerEnd
    taken = record f.e { link = with_rest (f.steps.0).rest f.e.link }

    faced : AreFaced (Stepped-faces (Was w) j (face_of own)) (Lived w) new
    faced = handled-faced (Was w) (Lived w) w new k j y at_y f (are-faced w keep)

    log : (log : List Entry) × At w.server_logs j.lists.server log
    log = logs-there s w ready.serves.stands.sound k j on

    steady : Steady log.0 j.lists
    steady = steady-of s w ready k j log.0 on log.1

    sent : (q : Sent) × At j.lists.up (length j.lists.handled) q × (q.message ≡ (f.steps.0).m)
    sent = takes-next s w ready.serves k j y f.e (f.steps.0).m (f.steps.0).rest on at_y opened_j f.has (f.steps.0).takes

    due : Due (knows y.core taken) (sent.0).message (f.steps.0).replies (f.steps.0).action
    due = subst (λ (m : Fields). Due (knows y.core taken) m (f.steps.0).replies (f.steps.0).action) (sym sent.2) (f.steps.0).handles.due

    step : Step
    step = step-of w new k j y f

    next : Circuit
    next = known_next j.lists sent.0 step (f.steps.0).replies (λ m h at. (steady.within m h at).sent) sent.1 refl

    own-face : IsFace next (face_of own)
    own-face =
        subst (λ (x : Face). IsFace next x) (sym (acts-face y.core taken own (f.steps.0).action (f.steps.0).handles.acts))
        (face-handled j.lists sent.0 step (f.steps.0).replies (λ m h at. (steady.within m h at).sent) sent.1 refl (knows y.core taken) (face_of f.e) (f.steps.0).action refl refl
        (facing (knows y.core taken) (sent.0).message (f.steps.0).replies (f.steps.0).action due) (know k j y f.e on at_y opened_j f.has))

    more-long : {A : Type 0} (xs : List A) (x : A) → length (xs ++ x ∷ []) ≡ length xs + 1
    more-long [] x = refl
    more-long (z ∷ xs) x = (let e : length (xs ++ x ∷ []) ≡ length xs + 1 = more-long xs x in omega (arith, e))

    next-is : (d : Circuit) → d.server ≡ j.lists.server → d.up ≡ j.lists.up → d.down ≡ j.lists.down ++ about (length j.lists.handled) Reply (f.steps.0).replies → d.handled ≡ j.lists.handled ++ step ∷ [] → as_known d ≡ next
    next-is d server up down handled =
        let ups : take (length d.handled) d.up ≡ take (length j.lists.handled + 1) j.lists.up = ap (λ (l : List Sent). take (length d.handled) l) up ∙ ap (λ (n : ℕ). take n j.lists.up) (ap (λ (l : List Step). length l) handled ∙ more-long j.lists.handled step) in
        (λ i. record next { server = server i; up = ups i; down = down i; handled = handled i })

    knows_new : KnowFaces new
    knows_new n d z e at there opened has =
        let seat = seats-from s w new (event.ServerStep k) ready happens n d z e at there opened has in
        let q = (faced d.server z there).0.ends d.at_server e has in
        elim (same-or n k) [
          | inl here ↦
              let at_k : At new.circuits k d = subst (λ (m : ℕ). At new.circuits m d) here at in
              let lists = step-lists w new k j y f d at_k in
              subst (λ (x : Circuit). IsFace x (face_of e)) (sym (next-is d.lists lists.3 lists.0 lists.1 lists.2))
              (subst (λ (x : Face). IsFace next x) (sym (mine seat q here)) own-face)
          | inr other ↦
              let b = step-back w new k j y on f n d at in
              on-faces s w new ready know _ n b.0 d (face_of e) b.1 b.2 (record { takes = λ m h told. other told.0; creates = λ t told creates. other told.0 }) seat
              (q.1 (λ server handle. apart seat server handle other))
        ]
      where
        mine : SeatFrom w n d → Stepped-faces (Was w) j (face_of own) d.server d.at_server (face_of e) → n ≡ k → face_of e ≡ face_of own
        mine (inl (b, on_b, server, handle, opened_b)) q here =
            (let same : b ≡ j = At-one w.circuits k b j (subst (λ (m : ℕ). At w.circuits m b) here on_b) on in q.0 (server ∙ ap (λ (x : Joined). x.server) same) (handle ∙ ap (λ (x : Joined). x.at_server) same))
        mine (inr past) q here = absurd (let lt : k < length w.circuits = At-within w.circuits k j on in omega (arith, lt, past, here))

        apart : SeatFrom w n d → d.server ≡ j.server → d.at_server ≡ j.at_server → (n ≡ k → ⊥) → ⊥
        apart (inl (b, on_b, at_b, handle_b, opened_b)) server handle other = other (ready.serves.stands.sound.seated.one n k b j on_b on (sym at_b ∙ server) opened_b opened_j (sym handle_b ∙ handle))
        apart (inr past) server handle other = (let b = step-back w new k j y on f n d at in let lt : n < length w.circuits = At-within w.circuits n b.0 b.1 in omega (arith, lt, past))

-- ---- a circuit is made

-- of an end that was just accepted
abbrev Accepted : World → ℕ → Handle → Face → Type 0
Accepted w i h f = Was w i h f ⊎ ((f ≡ blank) × (y : ServerSide) × At w.servers i y × MayGive y.core.circuits h)

accept-faces : (s : Setting) (w new : World) (i : ℕ) (x : ClientSide) (v : WantsFirst w x) → Happens w (event.Accept i) new → HappensAccept w i x v new → Ready s w → KeepSettings w → KnowFaces w → Leaving w new
accept-faces s w new i x v happens f ready keep know = record { settings = λ i z at. ((faced i z at).0.port, (faced i z at).0.rules); faces = knows; lives = λ i z at. (faced i z at).1; origins = origins }
  where
    faced : AreFaced (Accepted w) (Lived w) new
    faced =
        event-faced (Accepted w) (Lived w) w (λ i y at. (let h = are-faced w keep i y at in (record { port = h.0.port; rules = h.0.rules; ends = λ g e has. inl (h.0.ends g e has) }, h.1))) new (event.Accept i)
        (λ i y h at may. inr (refl, y, at, may)) happens

    empty : (o : Option Closing) (g : Handle) → (connected_as o (new_circuit i x v.v.circuit v.i v.y g)).lists.handled ≡ []
    empty None g = refl
    empty (Some k) g = refl

    silent : (o : Option Closing) (g : Handle) → (connected_as o (new_circuit i x v.v.circuit v.i v.y g)).lists.down ≡ []
    silent None g = refl
    silent (Some k) g = refl

    -- a circuit that was there has an end under its handle
    was : (n : ℕ) (d b : Joined) → At w.circuits n b → (p : Face) → SeatFrom w n d → Accepted w d.server d.at_server p → Was w d.server d.at_server p
    was n d b at p seat (inl h) = h
    was n d b at p (inr past) (inr fresh) = absurd (let lt : n < length w.circuits = At-within w.circuits n b at in omega (arith, lt, past))
    was n d b at p (inl (c, on, server, handle, opened)) (inr (is, y, there, may)) =
        let seat = ready.serves.stands.sound.seated.each n c on opened in
        let same : seat.y ≡ y = At-one w.servers d.server seat.y y (subst (λ (m : ℕ). At w.servers m seat.y) (sym server) seat.at) there in
        absurd (given-free y.core.circuits d.at_server (Open seat.e) may (subst (λ (r : ServerSide × Handle). HasEnd r.0.core r.1 seat.e) (λ q. (same q, sym handle q)) seat.has))

    at_server : (o : Option Closing) (g : Handle) → (connected_as o (new_circuit i x v.v.circuit v.i v.y g)).server ≡ v.i
    at_server None g = refl
    at_server (Some k) g = refl

    by_handle : (o : Option Closing) (g : Handle) → (connected_as o (new_circuit i x v.v.circuit v.i v.y g)).at_server ≡ g
    by_handle None g = refl
    by_handle (Some k) g = refl

    -- and the one that is made has none before
    first : (d : Joined) (p : Face) (h : Handle) → d.server ≡ v.i → d.at_server ≡ h → MayGive v.y.core.circuits h → Accepted w d.server d.at_server p → p ≡ blank
    first d p h server handle may (inr fresh) = fresh.0
    first d p h server handle may (inl (y, e, there, has, face)) =
        let same : y ≡ v.y = At-one w.servers v.i y v.y (subst (λ (m : ℕ). At w.servers m y) server there) v.there.0 in
        absurd (given-free v.y.core.circuits h (Open e) may (subst (λ (r : ServerSide × Handle). HasEnd r.0.core r.1 e) (λ q. (same q, handle q)) has))

    of_life : (o : Option Closing) (g : Handle) → (connected_as o (new_circuit i x v.v.circuit v.i v.y g)).lists.server ≡ v.y.life
    of_life None g = refl
    of_life (Some k) g = refl

    origins : Origins w new
    origins = elim f.leaves [
      | inl full ↦ subst (λ (z : World). Origins w z) (sym full.1) (λ n d at. inl (d, at, refl, refl))
      | inr made ↦
          let c : Joined = connected_as made.1 (new_circuit i x v.v.circuit v.i v.y made.0) in
          let mid : World = record w { servers = slice_set w.servers v.i (record v.y { core = f.server }); circuits = w.circuits ++ c ∷ [] } in
          let g : Frame mid new = sent-frame mid new i x.names made.2 (ap (λ (z : World). z.servers) made.6) (ap (λ (z : World). z.server_logs) made.6) (ap (λ (z : World). z.circuits) made.6) in
          λ n d at.
          let b = g.back n d at in
          elim (At-snoc w.circuits c n b.0 b.1) [
            | inl old ↦ inl (b.0, old, b.2.later.server, b.2.later.life)
            | inr last ↦
                inr (v.i, v.y, v.there.0, b.2.later.server ∙ ap (λ (z : Joined). z.server) last.1 ∙ at_server made.1 made.0, b.2.later.life ∙ ap (λ (z : Joined). z.lists.server) last.1 ∙ of_life made.1 made.0)
          ]
    ]

    knows : KnowFaces new
    knows = elim f.leaves [
      | inl full ↦ subst (λ (z : World). KnowFaces z) (sym full.1) know
      | inr made ↦
          let c : Joined = connected_as made.1 (new_circuit i x v.v.circuit v.i v.y made.0) in
          let mid : World = record w { servers = slice_set w.servers v.i (record v.y { core = f.server }); circuits = w.circuits ++ c ∷ [] } in
          let g : Frame mid new = sent-frame mid new i x.names made.2 (ap (λ (z : World). z.servers) made.6) (ap (λ (z : World). z.server_logs) made.6) (ap (λ (z : World). z.circuits) made.6) in
          λ n d z e at there opened has.
          let b = back-frame Nothing-new mid new g n d at in
          let seat = seats-from s w new (event.Accept i) ready happens n d z e at there opened has in
          let q = (faced d.server z there).0.ends d.at_server e has in
          elim (At-snoc w.circuits c n b.0 b.1) [
            | inl old ↦ on-faces s w new ready know Nothing-new n b.0 d (face_of e) old b.2 (nothing-quiet n) seat (was n d b.0 old (face_of e) seat q)
            | inr last ↦
                let c' = g.back n d at in
                let is_c : c'.0 ≡ c = At-one mid.circuits n c'.0 b.0 c'.1 b.1 ∙ last.1 in
                let server : d.server ≡ v.i = c'.2.later.server ∙ ap (λ (z : Joined). z.server) is_c ∙ at_server made.1 made.0 in
                let handle : d.at_server ≡ made.0 = c'.2.later.handle ∙ ap (λ (z : Joined). z.at_server) is_c ∙ by_handle made.1 made.0 in
                let accepts : Accepts v.y.core (Ok made.0) f.server = subst (λ (a : Result Handle Refusal). Accepts v.y.core a f.server) made.4 f.accepts in
                subst (λ (p : Face). IsFace (as_known d.lists) p) (sym (first d (face_of e) made.0 server handle accepts.0 q))
                (blank-face d.lists (c'.2.handled ∙ ap (λ (z : Joined). z.lists.handled) is_c ∙ empty made.1 made.0) (c'.2.down ∙ ap (λ (z : Joined). z.lists.down) is_c ∙ silent made.1 made.0))
          ]
    ]

-- ---- every event

pub event-leaving : (s : Setting) (w new : World) (e : Event) → Ready s w → Happens w e new → KeepSettings w → KnowFaces w → Leaving w new
event-leaving s w new e ready happens keep know = go e happens
  where
    -- an event at which no message is handled, and no circuit made
    other : (e : Event) → Happens w e new → AreFaced (Was w) (Lived w) new → (F : ℕ → News → Type 0) → Back F w new → ((l : ℕ) → IsQuietBy F l) → Leaving w new
    other e happens faced F back quiet = record {
      settings = λ i z at. ((faced i z at).0.port, (faced i z at).0.rules);
      faces = back-faces s w new ready know e happens F back quiet faced;
      lives = λ i z at. (faced i z at).1;
      origins = back-origins F w new back;
    }

    still : (e : Event) → IsStill e → Calm (Was w) (Lived w) w e → Happens w e new → Leaving w new
    still e quiet calm happens = other e happens (event-faced (Was w) (Lived w) w (are-faced w keep) new e calm happens) Nothing-new (still-back Nothing-new w new e quiet happens) nothing-quiet

    stepped-by : (k : ℕ) (h : Happens w (event.ServerStep k) new) → Leaving w new
    stepped-by k (at, (did, f)) = elim (handled-or did) [
      | inl is ↦ step-faces s w new k at.j at.y at.joins.at at.joins.server at.is_open (subst (λ (x : Stepped). ServerStepped w k at.j at.y x new) is f) (at, (did, f)) ready keep know
      | inr none ↦
          other (event.ServerStep k) (at, (did, f)) (unhandled-faced (Was w) (Lived w) w (are-faced w keep) new k at.j at.y at.joins.server did none f) Nothing-new (unhandled-back Nothing-new w new k at.j at.y did at.joins.at none f) nothing-quiet
    ]

    same : new ≡ w → Leaving w new
    same is = same-leaving w new is keep know

    finished : (i : ℕ) (name : List ℕ) (y : ServerSide) → Happens w (event.Finish i name) new → HappensFinish w i y name new → Leaving w new
    finished i name y h (inl f) =
        other (event.Finish i name) h (event-faced (Was w) (Lived w) w (are-faced w keep) new (event.Finish i name) tt h) (FinishNews f.p.circuit f.p.place (map (λ (x : Handle × Fields). x.1) f.sent)) (finish-back w new i y name f) (finish-quiet w i y name new f)
    finished i name y h (inr refused) = same refused.2

    removed : (i : ℕ) (name : List ℕ) (y : ServerSide) → Happens w (event.Remove i name) new → HappensRemove w i y name new → Leaving w new
    removed i name y h (gone, left, core, inl (removes, is)) =
        other (event.Remove i name) h (event-faced (Was w) (Lived w) w (are-faced w keep) new (event.Remove i name) tt h) (RemoveNews w i y.core name gone left)
        (subst (λ (z : World). Back (RemoveNews w i y.core name gone left) w z) (sym is) (removed-back w i y name gone left core)) (remove-quiet w i y.core name gone left)
    removed i name y h (gone, left, core, inr (removes, is)) = same is

    go : (e : Event) → Happens w e new → Leaving w new
    go (event.Accept i) h = accept-faces s w new i h.0.x h.0.v h h.1 ready keep know
    go (event.ServerStep k) h = stepped-by k h
    go (event.Pump k) h =
        other (event.Pump k) h (event-faced (Was w) (Lived w) w (are-faced w keep) new (event.Pump k) tt h) (PumpNews k (stamped_told h.1.updates h.0.j)) (pump-back w new k h.0.j h.0.y h.0.joins.at h.1) (pump-quiet s w new k h.0.j h.0.y h.1)
    go (event.Finish i name) h = finished i name h.0.y h h.1
    go (event.Remove i name) h = removed i name h.0.y h h.1
    go (event.Open i name priority) h = still (event.Open i name priority) tt tt h
    go (event.Clear i c) h = still (event.Clear i c) tt tt h
    go (event.Read i c data_type count) h = still (event.Read i c data_type count) tt tt h
    go (event.Write i c v) h = still (event.Write i c v) tt tt h
    go (event.WriteNotify i c v) h = still (event.WriteNotify i c v) tt tt h
    go (event.Subscribe i c data_type count mask) h = still (event.Subscribe i c data_type count mask) tt tt h
    go (event.Unsubscribe i n) h = still (event.Unsubscribe i n) tt tt h
    go (event.Collect i r) h = still (event.Collect i r) tt tt h
    go (event.GiveUp i r) h = still (event.GiveUp i r) tt tt h
    go (event.ClientDatagram i from bytes) h = still (event.ClientDatagram i from bytes) tt tt h
    go (event.ServerDatagram i from bytes) h = still (event.ServerDatagram i from bytes) tt tt h
    go (event.Up k n) h = still (event.Up k n) tt tt h
    go (event.Down k n) h = still (event.Down k n) tt tt h
    go (event.ClientStep k) h = still (event.ClientStep k) tt tt h
    go (event.CutClient k) h = still (event.CutClient k) tt tt h
    go (event.CutServer k) h = still (event.CutServer k) tt tt h
    go (event.ClientRestart i) h = still (event.ClientRestart i) tt tt h
    go (event.ServerRestart i) h = still (event.ServerRestart i) tt (inr refl) h
    go (event.Post i name v mask) h = still (event.Post i name v mask) tt tt h
    go (event.Add i r) h = still (event.Add i r) tt tt h
    go (event.Tick moment) h = still (event.Tick moment) tt tt h

-- ---- every run

opening-settings : (s : Setting) → KeepSettings (opening s)
opening-settings s i y at = (let g = numbered-at (server_begun 0) s.servers 0 i y at in subst (λ (z : ServerSide). (z.core.port ≡ z.setting.address.port) × (z.core.rules ≡ z.setting.rules)) (sym g.2) (refl, refl))

opening-one : (s : Setting) → OfOneServer (opening s)
opening-one s = record { present = λ n i c y at. absurd (none_at n c at); joined = λ n m c d at. absurd (none_at n c at) }

-- a circuit that was there is of one of the lives that were
one-on : (s : Setting) (w new : World) → Ready s w → Leaving w new → OfOneServer w → OfOneServer new
one-on s w new ready leaving one = record {
  present = λ n i d z at there life. elim (leaving.origins n d at) [
    | inl old ↦ elim (leaving.lives i z there) [
      | inl was ↦ old.2 ∙ one.present n i old.0 was.0 old.1 was.1 (sym old.3 ∙ life ∙ was.2)
      | inr fresh ↦ absurd (late old.0 n old.1 (sym old.3 ∙ life ∙ fresh))
    ]
    | inr new_it ↦ elim (leaving.lives i z there) [
      | inl was ↦ new_it.3 ∙ writes.apart new_it.0 i new_it.1 was.0 new_it.2 was.1 (sym new_it.4 ∙ life ∙ was.2)
      | inr fresh ↦ absurd (early new_it.0 new_it.1 new_it.2 (sym new_it.4 ∙ life ∙ fresh))
    ]
  ];
  joined = λ n m c d at there life. elim (leaving.origins n c at) [
    | inl old ↦ elim (leaving.origins m d there) [
      | inl was ↦ old.2 ∙ one.joined n m old.0 was.0 old.1 was.1 (sym old.3 ∙ life ∙ was.3) ∙ sym was.2
      | inr new_it ↦ old.2 ∙ one.present n new_it.0 old.0 new_it.1 old.1 new_it.2 (sym old.3 ∙ life ∙ new_it.4) ∙ sym new_it.3
    ]
    | inr new_it ↦ elim (leaving.origins m d there) [
      | inl was ↦ new_it.3 ∙ sym (one.present m new_it.0 was.0 new_it.1 was.1 new_it.2 (sym was.3 ∙ sym life ∙ new_it.4)) ∙ sym was.2
      | inr other ↦ new_it.3 ∙ writes.apart new_it.0 other.0 new_it.1 other.1 new_it.2 other.2 (sym new_it.4 ∙ life ∙ other.4) ∙ sym other.3
    ]
  ];
}
  where
    writes : Writes w
    writes = ready.serves.stands.sound.writes

    late : (c : Joined) (n : ℕ) → At w.circuits n c → c.lists.server ≡ length w.server_logs → ⊥
    late c n at is = (let log = logs-there s w ready.serves.stands.sound n c at in let lt : c.lists.server < length w.server_logs = At-within w.server_logs c.lists.server log.0 log.1 in omega (arith, lt, is))

    early : (i : ℕ) (y : ServerSide) → At w.servers i y → y.life ≡ length w.server_logs → ⊥
    early i y at is = (let own = writes.lives i y at in let lt : y.life < length w.server_logs = At-within w.server_logs y.life own.log own.at in omega (arith, lt, is))

-- all of this
pub record FacesStand (w : World) : Type 0 where
  pub settings : KeepSettings w
  pub faces : KnowFaces w
  pub one : OfOneServer w

events-faces : (s : Setting) (ok : IsSetting s) (done es : List Event) (w new : World) → FoldsTo Happens (opening s) done w → FoldsTo Happens w es new → FacesStand w → FacesStand new
events-faces s ok done [] w new before same h = subst (λ (z : World). FacesStand z) same h
events-faces s ok done (e ∷ es) w new before (mid, one, rest) h =
    let at_w : Ready s w = ready s done None w ok (w, before, refl) in
    let l : Leaving w mid = event-leaving s w mid e at_w one h.settings h.faces in
    events-faces s ok (done ++ e ∷ []) es mid new (folds-snoc done (opening s) w mid e before one) rest (record { settings = l.settings; faces = l.faces; one = one-on s w mid at_w l h.one })

stops-faces : (s : Setting) (mid : World) (stopped : Option Event) (w : World) → Ready s mid → StopsAt mid stopped w → FacesStand mid → FacesStand w
stops-faces s mid (Some (event.Tick moment)) w r stops h = elim stops [
  | inl same ↦ subst (λ (z : World). FacesStand z) (sym same) h
  | inr ticked ↦
      let g : Frame mid w = ticks-frame moment mid (clients_below ticked.0) w ticked.3 in
      let l : Leaving mid w = record {
        settings = λ i y at. h.settings i y (subst (λ (l : List ServerSide). At l i y) g.servers at);
        faces = λ n d y e at there opened has.
            let c = g.back n d at in
            let b = back-frame Nothing-new mid w g n d at in
            let same : b.0 ≡ c.0 = At-one mid.circuits n b.0 c.0 b.1 c.1 in
            let log = logs-there s mid r.serves.stands.sound n c.0 c.1 in
            quiet-on Nothing-new n log.0 c.0 d (face_of e) (steady-of s mid r n c.0 log.0 c.1 log.1) (subst (λ (z : Joined). Onward Nothing-new n z d) same b.2) (nothing-quiet n)
            (h.faces n c.0 y e c.1 (subst (λ (m : ℕ). At mid.servers m y) c.2.later.server (subst (λ (l : List ServerSide). At l d.server y) g.servers there)) (sym c.2.is_open ∙ opened) (subst (λ (x : Handle). HasEnd y.core x e) c.2.later.handle has));
        lives = λ i z at. inl (z, subst (λ (l : List ServerSide). At l i z) g.servers at, refl);
        origins = back-origins Nothing-new mid w (back-frame Nothing-new mid w g);
      } in
      record { settings = l.settings; faces = l.faces; one = one-on s mid w r l h.one }
]
stops-faces s mid stopped w r stops h = subst (λ (z : World). FacesStand z) (sym stops) h

pub run-faces : (s : Setting) (es : List Event) (stopped : Option Event) (w : World) → IsSetting s → Runs s es stopped w → FacesStand w
run-faces s es stopped w ok (mid, folds, stops) =
    stops-faces s mid stopped w (ready s es None mid ok (mid, folds, refl)) stops
    (events-faces s ok [] es (opening s) mid refl folds (record { settings = opening-settings s; faces = λ n c y e at. absurd (none_at n c at); one = opening-one s }))

pub run-know-faces : (s : Setting) (es : List Event) (stopped : Option Event) (w : World) → IsSetting s → Runs s es stopped w → KnowFaces w
run-know-faces s es stopped w ok runs = (run-faces s es stopped w ok runs).faces

pub run-settings : (s : Setting) (es : List Event) (stopped : Option Event) (w : World) → IsSetting s → Runs s es stopped w → KeepSettings w
run-settings s es stopped w ok runs = (run-faces s es stopped w ok runs).settings
