-- Each reply of a server answers a message of its kind, over every event and run.
use Rattle.std.proofs.Common.{◌≡◌, ℕ, zero, suc, ◌⊎◌, inl, inr, Bool, true, false, cond, ◌&&◌, eqb, not, List, [], ◌∷◌, ◌++◌, length, Option, Some, None, refl, sym, ap, subst, ◌∙◌}
use Rattle.std.specs.Prelude.{drop, filter, map, option_map, slice_get, slice_set, unwrap_or}
use Rattle.std.specs.List.{FoldsTo, list_any}
use Rattle.std.specs.Str.{bytes_eq}
use Rattle.ca_arena.specs.declared.handle.Handle.{Handle}
use Rattle.ca_dbr.specs.Elements.{Elements}
use Rattle.ca_ids.specs.Table.{under}
use Rattle.ca_ids.specs.Wire.{wire_of}
use Rattle.ca_queue.specs.declared.entry.SubKey.{SubKey}
use Rattle.ca_link.specs.Link.{with_rest}
use Rattle.ca_records.specs.Puts.{WaitingPut}
use Rattle.ca_records.specs.Record.{RecordState, unset}
use Rattle.ca_text.specs.Place.{At}
use Rattle.ca_text.proofs.Places.{some_is, At-map, At-mapped, At-one, At-parts, At-set, At-snoc}
use Rattle.ca_wire.specs.Fields.{Fields}
use Rattle.ca_model.specs.Answers.{Closing}
use Rattle.ca_model.specs.Due.{Action, Due}
use Rattle.ca_model.specs.Ends as why
use Rattle.ca_model.specs.History.{Cause, Circuit, Collected, GaveUp, Removal, Reply, Sent, Step, Told}
use Rattle.ca_model.specs.Server.{OpenChannel, Server}
use Rattle.ca_model.specs.ServerCalls.{finish_reply}
use Rattle.ca_model.specs.ServerSteps.{Stepped, closed, knows}
use Rattle.ca_model.specs.ServerSteps as stepped
use Rattle.ca_model.specs.Speech.{In}
use Rattle.ca_model.specs.ClientEvents.{DownTaken, HappensAccept, HappensDown, WantsFirst, connected_as, new_circuit, up_taken}
use Rattle.ca_model.specs.Events.{Event}
use Rattle.ca_model.specs.Events as event
use Rattle.ca_model.specs.Runs.{CanBe, Happens, Leaves, StopsAt, clients_below}
use Rattle.ca_model.specs.ServerEvents.{HappensFinish, HappensPost, HappensRemove, ServerStepped, about, acted, disconnected_at, ending, ends_by, ends_here, handled_at, numbers_after, server_after, server_closed, side_of, unsaid, write_numbers}
use Rattle.ca_model.specs.ServerEvents as server
use Rattle.ca_model.specs.World.{ClientSide, IsSetting, Joined, RecordSide, ServerSide, Setting, World, opening, with_circuit}
use Rattle.ca_laws_parts.specs.Runs.{IsReached}
use Rattle.ca_laws_parts.proofs.Since.{stamped-parts}
use Rattle.ca_laws_parts.proofs.Thins.{put-facts}
use Rattle.ca_laws_parts.proofs.Handled.{numbers-like, posted-like, writes-like}
use Rattle.ca_laws_parts.specs.Moves.{finish_told, post_told, removal_told}
use Rattle.ca_laws_parts.specs.Seats.{Sound, TakesSent}
use Rattle.ca_laws_parts.specs.WritesSteps.{AllInStep}
use Rattle.ca_laws_parts.proofs.Every.{ticks-frame}
use Rattle.ca_laws_parts.proofs.Frames.{Frame}
use Rattle.ca_laws_parts.proofs.HappensClient.{begun-frame, clear-frame, cut-frame, datagram-frame, handing-frame, hear-frame, left-frame, open-frame, put-frame, read-frame, sent-frame, subscribe-frame, unsubscribe-frame, up-frame, write-frame}
use Rattle.ca_laws_parts.proofs.InStepLasts.{world-numbered}
use Rattle.ca_laws_parts.proofs.Lasting.{told_late}
use Rattle.ca_laws_parts.proofs.WritesLists.{none_at}
use Rattle.ca_laws_parts.proofs.Midway.{set-here}
use Rattle.ca_laws_runs.specs.HeldAnswering.{AllAnswer, Answers}
use Rattle.ca_laws_runs.specs.Worlds.{ServersStand}
use Rattle.ca_laws_runs.proofs.Answering.{answers-other, due-answer}
use Rattle.ca_laws_runs.proofs.StepWhole.{event-serves, opening-serves, takes-next}

-- ---- from one world to the next

-- A reply on this circuit was there, or answers what it is about.
abbrev BackOn : (c d : Joined) → Type 0
BackOn c d = ((p : ℕ) (s : Sent) → At c.lists.up p s → At d.lists.up p s)
    × ((i : ℕ) (t : Told) → At d.lists.down i t → t.cause ≡ Reply → At c.lists.down i t ⊎ ((s : Sent) × At d.lists.up t.place s × Answers s.message t.message))

abbrev Back : (w new : World) → Type 0
Back w new = (l : ℕ) (d : Joined) → At new.circuits l d → (c : Joined) × At w.circuits l c × BackOn c d

on-same : (c d : Joined) → d.lists.up ≡ c.lists.up → d.lists.down ≡ c.lists.down → BackOn c d
on-same c d up down = (λ p s at. subst (λ (l : List Sent). At l p s) (sym up) at, λ i t at reply. inl (subst (λ (l : List Told). At l i t) down at))

on-then : (a b c : Joined) → BackOn a b → BackOn b c → BackOn a c
on-then a b c f g = (
  λ p s at. g.0 p s (f.0 p s at),
  λ i t at reply. elim (g.1 i t at reply) [
    | inr new_it ↦ inr new_it
    | inl old ↦ elim (f.1 i t old reply) [
      | inl was ↦ inl was
      | inr known ↦ inr (known.0, g.0 t.place known.0 known.1, known.2)
    ]
  ],
)

back-same : (w new : World) → new.circuits ≡ w.circuits → Back w new
back-same w new is l d at = (d, subst (λ (x : List Joined). At x l d) is at, on-same d d refl refl)

back-frame : (w new : World) → Frame w new → Back w new
back-frame w new f l d at = (let c = f.back l d at in (c.0, c.1, (c.2.later.up, λ i t told reply. inl (subst (λ (x : List Told). At x i t) c.2.down told))))

back-then : (w mid new : World) → Back w mid → Back mid new → Back w new
back-then w mid new f g l d at = (let c = g l d at in let b = f l c.0 c.1 in (b.0, b.1, on-then b.0 c.0 d b.2 c.2))

-- each circuit is changed, and its lists are not
back-lists : (w mid : World) (f : Joined → Joined) → mid.circuits ≡ map f w.circuits → ((c : Joined) → (f c).lists ≡ c.lists) → Back w mid
back-lists w mid f is same l d at =
    let c = At-mapped f w.circuits l d (subst (λ (x : List Joined). At x l d) is at) in
    let lists : d.lists ≡ c.0.lists = ap (λ (z : Joined). z.lists) c.2 ∙ same c.0 in
    (c.0, c.1, on-same c.0 d (ap (λ (z : Circuit). z.up) lists) (ap (λ (z : Circuit). z.down) lists))

-- circuits end
on-ending : (ends : Joined → Option (List ℕ)) (c : Joined) → BackOn c (ending ends c)
on-ending ends c = go (ends c)
  where
    go : (o : Option (List ℕ)) → BackOn c (unwrap_or (option_map (λ (left : List ℕ). server_closed left c) o) c)
    go None = on-same c c refl refl
    go (Some left) = on-same c (server_closed left c) refl refl

back-after : (w mid : World) (i : ℕ) (side : ServerSide) (ends : Joined → Option (List ℕ)) (core : Server) → Back w mid → Back w (server_after i side ends core mid)
back-after w mid i side ends core back =
    back-then w mid (server_after i side ends core mid) back (λ l d at. (let c = At-mapped (ending ends) mid.circuits l d at in (c.0, c.1, subst (λ (z : Joined). BackOn c.0 z) (sym c.2) (on-ending ends c.0))))

back-set : (w : World) (k : ℕ) (j next : Joined) → At w.circuits k j → BackOn j next → Back w (with_circuit k next w)
back-set w k j next on back l d at = elim (At-set w.circuits k next l d at) [
  | inl own ↦ (j, subst (λ (m : ℕ). At w.circuits m j) (sym own.0) on, subst (λ (z : Joined). BackOn j z) (sym own.1) back)
  | inr old ↦ (d, old.0, on-same d d refl refl)
]

-- ---- a step of a server's end

back-acted : (w : World) (k : ℕ) (j : Joined) (y : ServerSide) (did : Action) → At w.circuits k j → Back w (acted k j y did w)
back-acted w k j y did on =
    let numbers : Joined = numbers_after (length j.lists.handled) did j in
    let here : World = with_circuit k numbers w in
    let same : numbers.lists ≡ j.lists = (numbers-like (length j.lists.handled) did j).0 in
    back-then w here (acted k j y did w) (back-set w k j numbers on (on-same j numbers (ap (λ (z : Circuit). z.up) same) (ap (λ (z : Circuit). z.down) same)))
    (back-lists here (acted k j y did w) (write_numbers j.server y.core did) refl (λ c. (writes-like j.server y.core did c).0))

-- replies about a message that the client sent there
on-about : (c d : Joined) (place : ℕ) (s : Sent) (ms : List Fields) → d.lists.up ≡ c.lists.up → d.lists.down ≡ c.lists.down ++ about place Reply ms → At c.lists.up place s → ((r : Fields) → In ms r → Answers s.message r) → BackOn c d
on-about c d place s ms up down sent answers = (
  λ p q at. subst (λ (l : List Sent). At l p q) (sym up) at,
  λ i t at reply. elim (At-parts c.lists.down (about place Reply ms) i t (subst (λ (l : List Told). At l i t) down at)) [
    | inl old ↦ inl old
    | inr new_it ↦
        let r = At-mapped (λ (m : Fields). let z : Told = record { message = m; place = place; cause = Reply } in z) ms new_it.0 t new_it.2 in
        let place_is : t.place ≡ place = ap (λ (z : Told). z.place) r.2 in
        inr (
          s,
          subst (λ (l : List Sent). At l t.place s) (sym up) (subst (λ (p : ℕ). At c.lists.up p s) (sym place_is) sent),
          subst (λ (z : Told). Answers s.message z.message) (sym r.2) (answers r.0 (new_it.0, r.1)),
        )
  ],
)

step-back : (w new : World) (k : ℕ) (j : Joined) (y : ServerSide) (did : Stepped) → At w.circuits k j → At w.servers j.server y → j.lists.server_open ≡ true → TakesSent w → ServerStepped w k j y did new → Back w new
step-back w new k j y stepped.Handled on at opened takes f = back-then w after new (back-after w mid j.server (side_of j.server y mid) (ends_by j.server f.core) f.core (back-acted w k j y did on)) told
  where
    next : stepped.Next y.core j.at_server f.e
    next = f.steps.0

    did : Action
    did = next.action

    mid : World
    mid = acted k j y did w

    after : World
    after = server_after j.server (side_of j.server y mid) (ends_by j.server f.core) f.core mid

    step : Step
    step = record { sent = length j.lists.down; logged = server.logged y w; after = server.logged y after }

    numbers : Joined
    numbers = numbers_after (length j.lists.handled) did j

    moved : Joined
    moved = write_numbers j.server y.core did numbers

    last : Joined
    last = ending (ends_by j.server f.core) moved

    there : At after.circuits k last
    there =
        At-map (ending (ends_by j.server f.core)) mid.circuits k moved
        (At-map (write_numbers j.server y.core did) (slice_set w.circuits k numbers) k numbers (set-here w.circuits k j numbers on))

    noted_last : Joined
    noted_last = handled_at (length j.lists.handled) step next.replies last

    new_is : new ≡ with_circuit k noted_last after
    new_is = f.leaves ∙ ap (λ (o : Option Joined). unwrap_or (option_map (λ (c : Joined). with_circuit k (handled_at (length j.lists.handled) step next.replies c) after) o) after) there

    told : Back after new
    told =
        let sent = takes k j y f.e next.m next.rest on at opened f.has next.takes in
        let up : At last.lists.up (length j.lists.handled) sent.0 =
        (on-ending (ends_by j.server f.core) moved).0 (length j.lists.handled) sent.0
        (subst (λ (z : Circuit). At z.up (length j.lists.handled) sent.0) (sym ((writes-like j.server y.core did numbers).0 ∙ (numbers-like (length j.lists.handled) did j).0)) sent.1) in
        subst (λ (z : World). Back after z) (sym new_is)
        (back-set after k last noted_last there
        (on-about last noted_last (length j.lists.handled) sent.0 next.replies refl refl up
        (due-answer (knows y.core (record f.e { link = with_rest next.rest f.e.link })) sent.0.message next.replies did
        (subst (λ (m : Fields). Due (knows y.core (record f.e { link = with_rest next.rest f.e.link })) m next.replies did) (sym sent.2) next.handles.due))))
step-back w new k j y stepped.NeedBytes on at opened takes f = back-same w new (ap (λ (z : World). z.circuits) f.3)
step-back w new k j y stepped.OutputFull on at opened takes f = back-same w new (ap (λ (z : World). z.circuits) f.3)
step-back w new k j y (stepped.Closed why.OutOfMemory left) on at opened takes f = subst (λ (z : World). Back w z) (sym f.leaves) (go f.lacks.written)
  where
    go : (o : Option (Handle → Bool)) → Back w (server_after j.server (side_of j.server y (unsaid k j y f.lacks.next.action o w)) (ends_here j left j.server f.core) f.core (unsaid k j y f.lacks.next.action o w))
    go None = back-after w w j.server (side_of j.server y w) (ends_here j left j.server f.core) f.core (back-same w w refl)
    go (Some gone) =
        back-after w (acted k j y f.lacks.next.action w) j.server (side_of j.server y (acted k j y f.lacks.next.action w)) (ends_here j left j.server f.core) f.core (back-acted w k j y f.lacks.next.action on)
step-back w new k j y (stepped.Closed cause left) on at opened takes f =
    subst (λ (z : World). Back w z) (sym f.3) (back-after w w j.server y (ends_here j left j.server y.core) (closed j.at_server y.core) (back-same w w refl))

-- ---- other events at a server

down-back : (w new : World) (k n : ℕ) (j : Joined) (x : ClientSide) (y : ServerSide) → At w.circuits k j → HappensDown w k n j x y new → Back w new
down-back w new k n j x y on (mid, sent, core, taken, gives, is) =
    back-then w mid new (go taken) (back-frame mid new (sent-frame mid new j.client x.names sent (ap (λ (z : World). z.servers) is) (ap (λ (z : World). z.server_logs) is) (ap (λ (z : World). z.circuits) is)))
  where
    go : DownTaken w k n j y mid → Back w mid
    go (inl (opened, (by, sends, same))) = back-same w mid (ap (λ (z : World). z.circuits) same)
    go (inr (shut, same)) = subst (λ (z : World). Back w z) (sym same) (back-frame w (with_circuit k (record j { left_down = drop n j.left_down }) w) (left-frame w k n j on))

post-back : (w new : World) (i : ℕ) (y : ServerSide) (name : List ℕ) (e : Elements) (mask : ℕ) → HappensPost w i y name e mask new → Back w new
post-back w new i y name e mask (gone, core, inl (posts, is)) =
    let told : World = post_told w i y name (record { value = e; meta = unset }) mask in
    subst (λ (z : World). Back w z) (sym is) (back-after w told i y (ends_by i core) core (back-lists w told (server.numbers_posted i y.core name mask) refl (λ c. (posted-like i y.core name mask c).0)))
post-back w new i y name e mask (gone, core, inr refused) = back-same w new (ap (λ (z : World). z.circuits) refused.3)

finish-back : (s : Setting) (w new : World) (i : ℕ) (y : ServerSide) (name : List ℕ) → Sound s w → At w.servers i y → HappensFinish w i y name new → Back w new
finish-back s w new i y name sound at (inl f) =
    subst (λ (z : World). Back w z) (sym f.leaves)
    (back-after w (server.replied_at f.p f.sent told) i (record y { records = server.with_record name server.next_busy y.records }) (ends_by i f.core) f.core
    (back-then w told (server.replied_at f.p f.sent told) numbered late))
  where
    told : World
    told = finish_told w i y name f.cr f.r f.p

    ms : List Fields
    ms = map (λ (x : Handle × Fields). x.1) f.sent

    numbered : Back w told
    numbered = back-lists w told (server.next_numbers i y.core name f.cr.waiting) refl (λ c. same f.cr.waiting c)
      where
        same : (ws : List WaitingPut) (c : Joined) → (server.next_numbers i y.core name ws c).lists ≡ c.lists
        same [] c = refl
        same (x ∷ ws) c = (posted-like i y.core name 3 c).0

    answers : (m r : Fields) → In ms r → Answers m r
    answers m r there = elim f.finishes.2 [
      | inl said ↦ go (ap (λ (l : List (Handle × Fields)). map (λ (x : Handle × Fields). x.1) l) said.2)
      | inr silent ↦ absurd (none_at there.0 r (subst (λ (l : List Fields). At l there.0 r) (ap (λ (l : List (Handle × Fields)). map (λ (x : Handle × Fields). x.1) l) silent.1) there.1))
    ]
      where
        only : (i : ℕ) → At (finish_reply f.finishes.0.p ∷ []) i r → Answers m r
        only zero at_r = subst (λ (x : Fields). Answers m x) (some_is (finish_reply f.finishes.0.p) r at_r) (answers-other m (finish_reply f.finishes.0.p) 19 refl refl)
        only (suc i) at_r = absurd (none_at i r at_r)

        go : ms ≡ finish_reply f.finishes.0.p ∷ [] → Answers m r
        go is = only there.0 (subst (λ (l : List Fields). At l there.0 r) is there.1)

    late : Back told (server.replied_at f.p f.sent told)
    late l d on = go (replied-at (slice_get told.circuits f.p.circuit) refl on)
      where
        -- the circuit as it was, or the put's own
        replied-at : (o : Option Joined) → slice_get told.circuits f.p.circuit ≡ o → At (unwrap_or (option_map (λ (j : Joined). with_circuit f.p.circuit (told_late f.p.place ms j) told) o) told).circuits l d
            → (c : Joined) × At told.circuits l c × ((d ≡ c) ⊎ ((l ≡ f.p.circuit) × (d ≡ told_late f.p.place ms c)))
        replied-at None is there = (d, there, inl refl)
        replied-at (Some j) is there = elim (At-set told.circuits f.p.circuit (told_late f.p.place ms j) l d there) [
          | inl own ↦ (j, subst (λ (m : ℕ). At told.circuits m j) (sym own.0) is, inr own)
          | inr old ↦ (d, old.0, inl refl)
        ]

        go : ((c : Joined) × At told.circuits l c × ((d ≡ c) ⊎ ((l ≡ f.p.circuit) × (d ≡ told_late f.p.place ms c)))) → (c : Joined) × At told.circuits l c × BackOn c d
        go (c, at_c, inl is) = (c, at_c, on-same c d (ap (λ (z : Joined). z.lists.up) is) (ap (λ (z : Joined). z.lists.down) is))
        go (c, at_c, inr (here, is)) =
            let facts = put-facts s w i y f.p sound at (f.r, (f.at.0, f.at.1), inl f.busy) in
            let b = numbered l c at_c in
            let one : facts.c ≡ b.0 = At-one w.circuits l facts.c b.0 (subst (λ (m : ℕ). At w.circuits m facts.c) (sym here) facts.on) b.1 in
            let sent : At c.lists.up f.p.place facts.s = b.2.0 f.p.place facts.s (subst (λ (z : Joined). At z.lists.up f.p.place facts.s) one facts.sent) in
            (c, at_c, subst (λ (z : Joined). BackOn c z) (sym is) (on-about c (told_late f.p.place ms c) f.p.place facts.s ms refl refl sent (answers facts.s.message)))
finish-back s w new i y name sound at (inr refused) = back-same w new (ap (λ (z : World). z.circuits) refused.2)

no-reply : let a : Cause = Removal in let b : Cause = Reply in a ≡ b → ⊥
no-reply e = cc

remove-back : (w new : World) (i : ℕ) (y : ServerSide) (name : List ℕ) → HappensRemove w i y name new → Back w new
remove-back w new i y name (gone, left, core, inl (removes, is)) =
    let told : World = removal_told w i y name gone left in
    subst (λ (z : World). Back w z) (sym is)
    (back-after w told i (record y { records = filter (λ (r : RecordSide). not (bytes_eq r.name name)) y.records }) (ends_by i core) core
    (λ l d at. (let c = At-mapped (server.removed_at i y.core name gone left) w.circuits l d at in (c.0, c.1, subst (λ (z : Joined). BackOn c.0 z) (sym c.2) (one c.0)))))
  where
    one : (c : Joined) → BackOn c (server.removed_at i y.core name gone left c)
    one c = go (eqb c.server i && c.lists.server_open)
      where
        gone_of : List (Handle × OpenChannel)
        gone_of = disconnected_at name gone left c.at_server (under y.core.circuits c.at_server)

        after : Joined
        after = server.without_standing (λ (k : SubKey). list_any (λ (x : Handle × OpenChannel). eqb (wire_of x.0) k.sid) gone_of) (record c { lists = record c.lists { down = c.lists.down ++ map (server.removal_told c.creations) gone_of } })

        go : (b : Bool) → BackOn c (cond b after c)
        go false = on-same c c refl refl
        go true = (
          λ p s at. at,
          λ j t at reply. elim (At-parts c.lists.down (map (server.removal_told c.creations) gone_of) j t at) [
            | inl old ↦ inl old
            | inr new_it ↦ (let r = At-mapped (server.removal_told c.creations) gone_of new_it.0 t new_it.2 in absurd (no-reply (ap (λ (z : Told). z.cause) (sym r.2) ∙ reply)))
          ],
        )
remove-back w new i y name (gone, left, core, inr (removes, is)) = back-same w new (ap (λ (z : World). z.circuits) is)

add-back : (w new : World) (i : ℕ) (y : ServerSide) (r : RecordState) → server.HappensAdd w i y r new → Back w new
add-back w new i y r (core, behind, inl (adds, is)) = back-same w new (ap (λ (z : World). z.circuits) is)
add-back w new i y r (core, behind, inr refused) = back-same w new (ap (λ (z : World). z.circuits) refused.3)

pump-back : (w new : World) (k : ℕ) (j : Joined) (y : ServerSide) → At w.circuits k j → At w.servers j.server y → j.lists.server_open ≡ true → AllInStep w → server.HappensPump w k j y new → Back w new
pump-back w new k j y on at opened step f =
    subst (λ (z : World). Back w z) (sym f.leaves)
    (back-after w (with_circuit k (server.stamped f.updates j) w) j.server y (ends_by j.server f.core) f.core
    (back-set w k j (server.stamped f.updates j) on (
      (λ p s sent. subst (λ (l : List Sent). At l p s) (sym (stamped-parts f.updates j).0) sent),
      (λ i t told reply. inl (world-numbered w step k j y f.updates f.core on at opened f.pumps i t told reply)),
    )))

-- ---- every event

abbrev IsAccepting : Event → Type 0
IsAccepting (event.Accept i) = Unit {0}
IsAccepting e = ⊥

leaves-back : (s : Setting) (w new : World) (e : Event) → (IsAccepting e → ⊥) → ServersStand s w → (at : CanBe w e) → Leaves w e at new → Back w new
leaves-back s w new (event.Accept i) not h at l = absurd (not tt)
leaves-back s w new (event.Up k n) not h at l = back-then w (up_taken k n at.0.j at.0.x w) new (back-frame w (up_taken k n at.0.j at.0.x w) (up-frame w k n at.0.j at.0.x at.0.joins.at)) (back-same (up_taken k n at.0.j at.0.x w) new (ap (λ (z : World). z.circuits) l.2))
leaves-back s w new (event.Down k n) not h at l = down-back w new k n at.0.j at.0.x at.0.y at.0.joins.at l
leaves-back s w new (event.ServerStep k) not h at l = step-back w new k at.j at.y l.0 at.joins.at at.joins.server at.is_open (takes-next s w h) l.1
leaves-back s w new (event.Pump k) not h at l = pump-back w new k at.j at.y at.joins.at at.joins.server at.is_open h.in_step l
leaves-back s w new (event.CutServer k) not h at l = subst (λ (z : World). Back w z) (sym l.leaves) (back-after w w at.j.server at.y (ends_by at.j.server l.core) l.core (back-same w w refl))
leaves-back s w new (event.ServerRestart i) not h at l =
    subst (λ (z : World). Back w z) (sym l) (λ m d on. (let c = At-mapped (ending (server.ends_untold i at.y.core)) w.circuits m d on in (c.0, c.1, subst (λ (z : Joined). BackOn c.0 z) (sym c.2) (on-ending (server.ends_untold i at.y.core) c.0))))
leaves-back s w new (event.Post i name e mask) not h at l = post-back w new i at.y name e mask l
leaves-back s w new (event.Finish i name) not h at l = finish-back s w new i at.y name h.stands.sound at.at l
leaves-back s w new (event.Remove i name) not h at l = remove-back w new i at.y name l
leaves-back s w new (event.Add i r) not h at l = add-back w new i at.y r l
leaves-back s w new (event.ServerDatagram i from bytes) not h at l = back-same w new (ap (λ (z : World). z.circuits) l.2)
leaves-back s w new (event.Open i name priority) not h at l = back-frame w new (open-frame w new i at.x name priority l)
leaves-back s w new (event.Clear i c) not h at l = back-frame w new (clear-frame w new i at.x c at.h l)
leaves-back s w new (event.Read i c data_type count) not h at l = back-frame w new (read-frame w new i at.x c at.h data_type count l)
leaves-back s w new (event.Write i c e) not h at l = back-frame w new (write-frame w new i at.x c at.h e l)
leaves-back s w new (event.WriteNotify i c e) not h at l = back-frame w new (put-frame w new i at.x c at.h e l)
leaves-back s w new (event.Subscribe i c data_type count mask) not h at l = back-frame w new (subscribe-frame w new i at.x c at.h data_type count mask l)
leaves-back s w new (event.Unsubscribe i n) not h at l = back-frame w new (unsubscribe-frame w new i at.x at.s l)
leaves-back s w new (event.Collect i r) not h at l = back-frame w new (handing-frame w new at.x r at.q.1 (Collected r) l)
leaves-back s w new (event.GiveUp i r) not h at l = back-frame w new (handing-frame w new at.x r at.q.1 (GaveUp r) l)
leaves-back s w new (event.ClientDatagram i from bytes) not h at l = back-frame w new (datagram-frame w new i at.x from bytes l)
leaves-back s w new (event.ClientStep k) not h at l = back-frame w new (hear-frame w new k at.j at.x at.joins.at l)
leaves-back s w new (event.CutClient k) not h at l = back-frame w new (cut-frame w new k at.j at.x at.joins.at l)
leaves-back s w new (event.ClientRestart i) not h at l = back-frame w new (begun-frame w new i at.x l)
leaves-back s w new (event.Tick moment) not h at (mid, ticks, is) =
    back-then w mid new (back-frame w mid (ticks-frame moment w (clients_below (length w.clients)) mid ticks)) (back-same mid new (ap (λ (z : World). z.circuits) is))

back-answer : (w new : World) → Back w new → AllAnswer w → AllAnswer new
back-answer w new back all l i d t on at reply =
    let c = back l d on in
    elim (c.2.1 i t at reply) [
      | inl old ↦ (let a = all l i c.0 t c.1 old reply in (a.0, c.2.0 t.place a.0 a.1, a.2))
      | inr new_it ↦ new_it
    ]

-- a circuit is made, on which nothing was told
accept-answer : (w new : World) (i : ℕ) (x : ClientSide) (v : WantsFirst w x) → HappensAccept w i x v new → AllAnswer w → AllAnswer new
accept-answer w new i x v f all = elim f.leaves [
  | inl full ↦ subst (λ (z : World). AllAnswer z) (sym full.1) all
  | inr made ↦
      let c : Joined = connected_as made.1 (new_circuit i x v.v.circuit v.i v.y made.0) in
      let mid : World = record w { servers = slice_set w.servers v.i (record v.y { core = f.server }); circuits = w.circuits ++ c ∷ [] } in
      let g : Frame mid new = sent-frame mid new i x.names made.2 (ap (λ (z : World). z.servers) made.6) (ap (λ (z : World). z.server_logs) made.6) (ap (λ (z : World). z.circuits) made.6) in
      back-answer mid new (back-frame mid new g) (λ l n d t on at reply. elim (At-snoc w.circuits c l d on) [
        | inl old ↦ all l n d t old at reply
        | inr last ↦ absurd (none_at n t (subst (λ (l : List Told). At l n t) (nothing made.1 made.0) (subst (λ (z : Joined). At z.lists.down n t) last.1 at)))
      ])
]
  where
    nothing : (o : Option Closing) (g : Handle) → (connected_as o (new_circuit i x v.v.circuit v.i v.y g)).lists.down ≡ []
    nothing None g = refl
    nothing (Some k) g = refl

pub event-answer : (s : Setting) (w new : World) (e : Event) → ServersStand s w → Happens w e new → AllAnswer w → AllAnswer new
event-answer s w new (event.Accept i) h happens all = accept-answer w new i happens.0.x happens.0.v happens.1 all
event-answer s w new (event.Open i name priority) h happens all = back-answer w new (leaves-back s w new (event.Open i name priority) (λ a. a) h happens.0 happens.1) all
event-answer s w new (event.Clear i c) h happens all = back-answer w new (leaves-back s w new (event.Clear i c) (λ a. a) h happens.0 happens.1) all
event-answer s w new (event.Read i c data_type count) h happens all = back-answer w new (leaves-back s w new (event.Read i c data_type count) (λ a. a) h happens.0 happens.1) all
event-answer s w new (event.Write i c e) h happens all = back-answer w new (leaves-back s w new (event.Write i c e) (λ a. a) h happens.0 happens.1) all
event-answer s w new (event.WriteNotify i c e) h happens all = back-answer w new (leaves-back s w new (event.WriteNotify i c e) (λ a. a) h happens.0 happens.1) all
event-answer s w new (event.Subscribe i c data_type count mask) h happens all = back-answer w new (leaves-back s w new (event.Subscribe i c data_type count mask) (λ a. a) h happens.0 happens.1) all
event-answer s w new (event.Unsubscribe i n) h happens all = back-answer w new (leaves-back s w new (event.Unsubscribe i n) (λ a. a) h happens.0 happens.1) all
event-answer s w new (event.Collect i r) h happens all = back-answer w new (leaves-back s w new (event.Collect i r) (λ a. a) h happens.0 happens.1) all
event-answer s w new (event.GiveUp i r) h happens all = back-answer w new (leaves-back s w new (event.GiveUp i r) (λ a. a) h happens.0 happens.1) all
event-answer s w new (event.ClientDatagram i from bytes) h happens all = back-answer w new (leaves-back s w new (event.ClientDatagram i from bytes) (λ a. a) h happens.0 happens.1) all
event-answer s w new (event.ServerDatagram i from bytes) h happens all = back-answer w new (leaves-back s w new (event.ServerDatagram i from bytes) (λ a. a) h happens.0 happens.1) all
event-answer s w new (event.Up k n) h happens all = back-answer w new (leaves-back s w new (event.Up k n) (λ a. a) h happens.0 happens.1) all
event-answer s w new (event.Down k n) h happens all = back-answer w new (leaves-back s w new (event.Down k n) (λ a. a) h happens.0 happens.1) all
event-answer s w new (event.ClientStep k) h happens all = back-answer w new (leaves-back s w new (event.ClientStep k) (λ a. a) h happens.0 happens.1) all
event-answer s w new (event.ServerStep k) h happens all = back-answer w new (leaves-back s w new (event.ServerStep k) (λ a. a) h happens.0 happens.1) all
event-answer s w new (event.Pump k) h happens all = back-answer w new (leaves-back s w new (event.Pump k) (λ a. a) h happens.0 happens.1) all
event-answer s w new (event.CutClient k) h happens all = back-answer w new (leaves-back s w new (event.CutClient k) (λ a. a) h happens.0 happens.1) all
event-answer s w new (event.CutServer k) h happens all = back-answer w new (leaves-back s w new (event.CutServer k) (λ a. a) h happens.0 happens.1) all
event-answer s w new (event.ClientRestart i) h happens all = back-answer w new (leaves-back s w new (event.ClientRestart i) (λ a. a) h happens.0 happens.1) all
event-answer s w new (event.ServerRestart i) h happens all = back-answer w new (leaves-back s w new (event.ServerRestart i) (λ a. a) h happens.0 happens.1) all
event-answer s w new (event.Post i name e mask) h happens all = back-answer w new (leaves-back s w new (event.Post i name e mask) (λ a. a) h happens.0 happens.1) all
event-answer s w new (event.Finish i name) h happens all = back-answer w new (leaves-back s w new (event.Finish i name) (λ a. a) h happens.0 happens.1) all
event-answer s w new (event.Remove i name) h happens all = back-answer w new (leaves-back s w new (event.Remove i name) (λ a. a) h happens.0 happens.1) all
event-answer s w new (event.Add i r) h happens all = back-answer w new (leaves-back s w new (event.Add i r) (λ a. a) h happens.0 happens.1) all
event-answer s w new (event.Tick moment) h happens all = back-answer w new (leaves-back s w new (event.Tick moment) (λ a. a) h happens.0 happens.1) all

events-answer : (s : Setting) (es : List Event) (w new : World) → IsSetting s → FoldsTo Happens w es new → ServersStand s w → AllAnswer w → AllAnswer new
events-answer s [] w new ok same h all = subst (λ (z : World). AllAnswer z) same all
events-answer s (e ∷ es) w new ok (mid, one, rest) h all = events-answer s es mid new ok rest (event-serves s w mid e ok one h) (event-answer s w mid e h one all)

stops-answer : (mid : World) (stopped : Option Event) (w : World) → StopsAt mid stopped w → AllAnswer mid → AllAnswer w
stops-answer mid (Some (event.Tick moment)) w stops all = elim stops [
  | inl same ↦ subst (λ (z : World). AllAnswer z) (sym same) all
  | inr ticked ↦ back-answer mid w (back-frame mid w (ticks-frame moment mid (clients_below ticked.0) w ticked.3)) all
]
stops-answer mid stopped w stops all = subst (λ (z : World). AllAnswer z) (sym stops) all

pub opening-answer : (s : Setting) → AllAnswer (opening s)
opening-answer s n i c t at = absurd (none_at n c at)

pub reached-answer : (w : World) → IsReached w → AllAnswer w
reached-answer w (s, es, stopped, ok, runs) = stops-answer runs.0 stopped w runs.2 (events-answer s es (opening s) runs.0 ok runs.1 (opening-serves s ok) (opening-answer s))
