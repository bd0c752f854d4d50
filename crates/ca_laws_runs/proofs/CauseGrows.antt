-- Over every event each circuit goes on; but for a message that a server's end handles there, what
-- is sent on it is about messages that were handled before.
use Rattle.std.proofs.Common.{◌≡◌, ℕ, zero, suc, arith, ◌<◌, ◌≤◌, ◌+◌, ◌⊎◌, inl, inr, Bool, true, false, cond, ◌&&◌, eqb, eqb-true, not, List, [], ◌∷◌, ◌++◌, length, Option, Some, None, refl, sym, ap, subst, ◌∙◌, append-nil, append_assoc}
use Rattle.std.specs.Prelude.{Err, Ok, Result, drop, filter, map, option_and_then, option_map, slice_get, slice_set, take, unwrap_or}
use Rattle.std.specs.List.{FoldsTo, list_any}
use Rattle.std.specs.Str.{bytes_eq}
use Rattle.std.proofs.lemmas.List.{length-append}
use Rattle.ca_arena.specs.declared.handle.Handle.{Handle}
use Rattle.ca_dbr.specs.Elements.{Elements}
use Rattle.ca_ids.specs.Table.{held, under}
use Rattle.ca_ids.specs.Wire.{wire_of}
use Rattle.ca_model.proofs.Tables.{held-under}
use Rattle.ca_queue.specs.declared.entry.SubKey.{SubKey}
use Rattle.ca_queue.specs.Queue.{Queue, with_front_taken}
use Rattle.ca_queue.specs.Waiting.{front}
use Rattle.ca_records.specs.Puts.{WaitingPut}
use Rattle.ca_records.specs.Record.{RecordState, unset}
use Rattle.ca_text.specs.declared.command.Command.TheVariants as command
use Rattle.ca_text.specs.declared.refusal.Refusal.{Refusal}
use Rattle.ca_text.specs.Place.{At}
use Rattle.ca_text.proofs.Places.{some_is, At-mapped, At-one, At-parts, At-set}
use Rattle.ca_wire.specs.Fields.{Fields}
use Rattle.ca_model.specs.Due.{Action}
use Rattle.ca_model.specs.Ends as why
use Rattle.ca_model.specs.History as history
use Rattle.ca_model.specs.History.{Cause, Circuit, Collected, GaveUp, Removal, Reply, Sent, Step, Told}
use Rattle.ca_model.specs.Images.{shown_in}
use Rattle.ca_model.specs.Server.{Open, OpenChannel, Server, ServerCircuit, ServerEnd}
use Rattle.ca_model.specs.ServerCalls.{channels_of, finish_reply}
use Rattle.ca_model.specs.ServerSteps.{HasEnd, Stepped, Update, closed}
use Rattle.ca_model.specs.ServerSteps as stepped
use Rattle.ca_model.specs.Speech.{In, Is}
use Rattle.ca_model.specs.Updates.{ShowsTo, update_count, update_in}
use Rattle.ca_model.specs.ClientEvents.{DownTaken, HappensDown, up_taken}
use Rattle.ca_model.specs.Events.{Event}
use Rattle.ca_model.specs.Events as event
use Rattle.ca_model.specs.Runs.{CanBe, Happens, Leaves, clients_below}
use Rattle.ca_model.specs.ServerEvents.{HappensFinish, HappensPost, HappensPump, HappensRemove, ServerStepped, about, acted, disconnected_at, ending, ends_by, ends_here, front_number, numbers_after, removal_told, removed_at, server_after, server_closed, side_of, stamped, unsaid, write_numbers}
use Rattle.ca_model.specs.ServerEvents as server
use Rattle.ca_model.specs.World.{ClientSide, Creation, Joined, RecordSide, ServerSide, Setting, Standing, World, with_circuit}
use Rattle.ca_laws_parts.specs.Channels.{ChannelsOn, has_sid}
use Rattle.ca_laws_parts.specs.Kept.{kept}
use Rattle.ca_laws_parts.specs.Later.{stamped_told}
use Rattle.ca_laws_parts.specs.Numbers.{HaveNumbers}
use Rattle.ca_laws_parts.proofs.KeptNumbers.{one-taken}
use Rattle.ca_laws_parts.proofs.Puts.{PutIn}
use Rattle.ca_laws_parts.proofs.Thins.{kept-there, put-facts, records-there}
use Rattle.ca_laws_parts.proofs.Updates.{pump-later}
use Rattle.ca_laws_parts.proofs.Handled.{numbers-like, posted-like, writes-like}
use Rattle.ca_laws_parts.specs.Moves.{finish_told, post_told}
use Rattle.ca_laws_parts.specs.Moves as moves
use Rattle.ca_laws_parts.proofs.WritesEvents.{find-at}
use Rattle.ca_laws_parts.proofs.Every.{ticks-frame}
use Rattle.ca_laws_parts.proofs.Frames.{Frame}
use Rattle.ca_laws_parts.proofs.HappensClient.{begun-frame, clear-frame, cut-frame, datagram-frame, handing-frame, hear-frame, left-frame, open-frame, put-frame, read-frame, sent-frame, subscribe-frame, unsubscribe-frame, up-frame, write-frame}
use Rattle.ca_laws_parts.proofs.Lasting.{told_late}
use Rattle.ca_laws_parts.proofs.WritesLists.{At-take, In-kept, none_at}
use Rattle.ca_laws_runs.specs.Worlds.{ServersStand}
use Rattle.ca_laws_runs.proofs.Awaited.{keeps-awaited}

-- ---- what is kept was handled

pub kept-handled : (s : Setting) (w : World) → ServersStand s w → (n p : ℕ) (c : Joined) → At w.circuits n c → In (kept w n) p → p < length c.lists.handled
kept-handled s w h n p c at there =
    let k = kept-there w n p there in
    subst (λ (z : Joined). p < length z.lists.handled) (At-one w.circuits n k.0 c k.1 at)
    (elim k.3 [
      | inl put ↦
          let seat = h.stands.sound.seated.each n k.0 k.1 k.2 in
          let f = put-facts s w k.0.server seat.y put.0 h.stands.sound seat.at (subst (λ (rs : List RecordSide). PutIn rs put.0) (records-there w k.0 seat.y seat.at) put.1) in
          let one : f.c ≡ k.0 = At-one w.circuits n f.c k.0 (subst (λ (m : ℕ). At w.circuits m f.c) put.2 f.on) k.1 in
          subst (λ (q : ℕ). q < length k.0.lists.handled) put.4
          (subst (λ (z : Joined). put.0.place < length z.lists.handled) one (f.handled (ap (λ (z : Joined). z.lists.server_open) one ∙ k.2)))
      | inr (inl st) ↦ subst (λ (q : ℕ). q < length k.0.lists.handled) st.2 ((h.messages n k.0 k.1 k.2).subs st.0 st.1).4
      | inr (inr x) ↦ subst (λ (q : ℕ). q < length k.0.lists.handled) x.2 ((h.messages n k.0 k.1 k.2).channels x.0 x.1).3
    ])

-- ---- from one world to the next

-- it tells of no removal
abbrev pub IsNoRemoval : Told → Type 0
IsNoRemoval t = (t.cause ≡ Removal → ⊥) × (Is command.ServerDisconnect t.message → ⊥)

-- The circuit goes on, and nothing is handled there. What is new of what its server sent comes
-- last, and is about what was handled; only a removal tells SERVER_DISCONNs.
pub record PlacesOn (Removes : Type 0) (c d : Joined) : Type 0 where
  pub handled : d.lists.handled ≡ c.lists.handled
  pub up : (p : ℕ) (s : Sent) → At c.lists.up p s → At d.lists.up p s
  pub longer : length c.lists.down ≤ length d.lists.down
  pub told : (i : ℕ) (t : Told) → At d.lists.down i t
      → At c.lists.down i t ⊎ ((length c.lists.down ≤ i) × (t.place < length c.lists.handled) × (Removes ⊎ IsNoRemoval t))

abbrev pub Back : (Removes : Type 0) (w new : World) → Type 0
Back Removes w new = (l : ℕ) (d : Joined) → At new.circuits l d → (c : Joined) × At w.circuits l c × PlacesOn Removes c d

on-same : (R : Type 0) (c d : Joined) → d.lists.handled ≡ c.lists.handled → ((p : ℕ) (s : Sent) → At c.lists.up p s → At d.lists.up p s) → d.lists.down ≡ c.lists.down → PlacesOn R c d
on-same R c d handled up down = record {
  handled = handled;
  up = up;
  longer = (let e : length d.lists.down ≡ length c.lists.down = ap (λ (l : List Told). length l) down in omega (arith, e));
  told = λ i t at. inl (subst (λ (l : List Told). At l i t) down at);
}

pub on-lists : (R : Type 0) (c d : Joined) → d.lists ≡ c.lists → PlacesOn R c d
on-lists R c d lists = on-same R c d (ap (λ (z : Circuit). z.handled) lists) (λ p s at. subst (λ (z : Circuit). At z.up p s) (sym lists) at) (ap (λ (z : Circuit). z.down) lists)

pub on-then : (R : Type 0) (a b c : Joined) → PlacesOn R a b → PlacesOn R b c → PlacesOn R a c
on-then R a b c f g = record {
  handled = g.handled ∙ f.handled;
  up = λ p s at. g.up p s (f.up p s at);
  longer = (let p : length a.lists.down ≤ length b.lists.down = f.longer in let q : length b.lists.down ≤ length c.lists.down = g.longer in omega (arith, p, q));
  told = λ i t at. elim (g.told i t at) [
    | inl old ↦ f.told i t old
    | inr more ↦
        let p : length a.lists.down ≤ length b.lists.down = f.longer in
        let q : length b.lists.down ≤ i = more.0 in
        inr (omega (arith, p, q), subst (λ (l : List Step). t.place < length l) f.handled more.1, more.2)
  ];
}

-- more was sent
on-more : (R : Type 0) (c d : Joined) (more : List Told) → d.lists.handled ≡ c.lists.handled → d.lists.up ≡ c.lists.up → d.lists.down ≡ c.lists.down ++ more → ((t : Told) → In more t → (t.place < length c.lists.handled) × (R ⊎ IsNoRemoval t)) → PlacesOn R c d
on-more R c d more handled up down each = record {
  handled = handled;
  up = λ p s at. subst (λ (l : List Sent). At l p s) (sym up) at;
  longer = (let e : length d.lists.down ≡ length c.lists.down + length more = ap (λ (l : List Told). length l) down ∙ length-append c.lists.down more in omega (arith, e));
  told = λ i t at. elim (At-parts c.lists.down more i t (subst (λ (l : List Told). At l i t) down at)) [
    | inl old ↦ inl old
    | inr last ↦ (let r = each t (last.0, last.2) in let e : i ≡ length c.lists.down + last.0 = last.1 in inr (omega (arith, e), r.0, r.1))
  ];
}

back-same : (R : Type 0) (w new : World) → new.circuits ≡ w.circuits → Back R w new
back-same R w new is l d at = (d, subst (λ (x : List Joined). At x l d) is at, on-lists R d d refl)

pub back-frame : (R : Type 0) (w new : World) → Frame w new → Back R w new
back-frame R w new f l d at = (let c = f.back l d at in (c.0, c.1, on-same R c.0 d c.2.handled c.2.later.up c.2.down))

pub back-then : (R : Type 0) (w mid new : World) → Back R w mid → Back R mid new → Back R w new
back-then R w mid new f g l d at = (let c = g l d at in let b = f l c.0 c.1 in (b.0, b.1, on-then R b.0 c.0 d b.2 c.2))

back-map : (R : Type 0) (w mid : World) (f : Joined → Joined) → mid.circuits ≡ map f w.circuits → ((c : Joined) → PlacesOn R c (f c)) → Back R w mid
back-map R w mid f is goes l d at =
    let c = At-mapped f w.circuits l d (subst (λ (x : List Joined). At x l d) is at) in
    (c.0, c.1, subst (λ (z : Joined). PlacesOn R c.0 z) (sym c.2) (goes c.0))

back-set : (R : Type 0) (w : World) (k : ℕ) (j next : Joined) → At w.circuits k j → PlacesOn R j next → Back R w (with_circuit k next w)
back-set R w k j next on back l d at = elim (At-set w.circuits k next l d at) [
  | inl own ↦ (j, subst (λ (m : ℕ). At w.circuits m j) (sym own.0) on, subst (λ (z : Joined). PlacesOn R j z) (sym own.1) back)
  | inr old ↦ (d, old.0, on-lists R d d refl)
]

-- circuits end
on-ending : (R : Type 0) (ends : Joined → Option (List ℕ)) (c : Joined) → PlacesOn R c (ending ends c)
on-ending R ends c = go (ends c)
  where
    go : (o : Option (List ℕ)) → PlacesOn R c (unwrap_or (option_map (λ (left : List ℕ). server_closed left c) o) c)
    go None = on-lists R c c refl
    go (Some left) = on-same R c (server_closed left c) refl (λ p s at. at) refl

pub back-after : (R : Type 0) (w mid : World) (i : ℕ) (side : ServerSide) (ends : Joined → Option (List ℕ)) (core : Server) → Back R w mid → Back R w (server_after i side ends core mid)
back-after R w mid i side ends core back =
    back-then R w mid (server_after i side ends core mid) back (back-map R mid (server_after i side ends core mid) (ending ends) refl (on-ending R ends))

-- ---- a step of a server's end

pub acted-back : (R : Type 0) (w : World) (k : ℕ) (j : Joined) (y : ServerSide) (did : Action) → At w.circuits k j → Back R w (acted k j y did w)
acted-back R w k j y did on =
    let numbers : Joined = numbers_after (length j.lists.handled) did j in
    let mid : World = with_circuit k numbers w in
    back-then R w mid (acted k j y did w) (back-set R w k j numbers on (on-lists R j numbers (numbers-like (length j.lists.handled) did j).0))
    (back-map R mid (acted k j y did w) (write_numbers j.server y.core did) refl (λ c. on-lists R c (write_numbers j.server y.core did c) (writes-like j.server y.core did c).0))

pub unhandled-back : (R : Type 0) (w new : World) (k : ℕ) (j : Joined) (y : ServerSide) (did : Stepped) → At w.circuits k j → (did ≡ stepped.Handled → ⊥) → ServerStepped w k j y did new → Back R w new
unhandled-back R w new k j y stepped.Handled on none f = absurd (none refl)
unhandled-back R w new k j y stepped.NeedBytes on none f = back-same R w new (ap (λ (z : World). z.circuits) f.3)
unhandled-back R w new k j y stepped.OutputFull on none f = back-same R w new (ap (λ (z : World). z.circuits) f.3)
unhandled-back R w new k j y (stepped.Closed why.OutOfMemory left) on none f = subst (λ (z : World). Back R w z) (sym f.leaves) (go f.lacks.written)
  where
    did : Action
    did = f.lacks.next.action

    go : (o : Option (Handle → Bool)) → Back R w (server_after j.server (side_of j.server y (unsaid k j y did o w)) (ends_here j left j.server f.core) f.core (unsaid k j y did o w))
    go None = back-after R w w j.server (side_of j.server y w) (ends_here j left j.server f.core) f.core (back-same R w w refl)
    go (Some gone) =
        let mid : World = acted k j y did w in
        back-after R w mid j.server (side_of j.server y mid) (ends_here j left j.server f.core) f.core (acted-back R w k j y did on)
unhandled-back R w new k j y (stepped.Closed cause left) on none f =
    subst (λ (z : World). Back R w z) (sym f.3) (back-after R w w j.server y (ends_here j left j.server y.core) (closed j.at_server y.core) (back-same R w w refl))

-- ---- other events at a server

down-back : (R : Type 0) (w new : World) (k n : ℕ) (j : Joined) (x : ClientSide) (y : ServerSide) → At w.circuits k j → HappensDown w k n j x y new → Back R w new
down-back R w new k n j x y on (mid, sent, core, taken, gives, is) =
    back-then R w mid new (go taken) (back-frame R mid new (sent-frame mid new j.client x.names sent (ap (λ (z : World). z.servers) is) (ap (λ (z : World). z.server_logs) is) (ap (λ (z : World). z.circuits) is)))
  where
    go : DownTaken w k n j y mid → Back R w mid
    go (inl (opened, (by, sends, same))) = back-same R w mid (ap (λ (z : World). z.circuits) same)
    go (inr (shut, same)) = subst (λ (z : World). Back R w z) (sym same) (back-frame R w (with_circuit k (record j { left_down = drop n j.left_down }) w) (left-frame w k n j on))

post-back : (R : Type 0) (w new : World) (i : ℕ) (y : ServerSide) (name : List ℕ) (e : Elements) (mask : ℕ) → HappensPost w i y name e mask new → Back R w new
post-back R w new i y name e mask (gone, core, inl (posts, is)) =
    let told : World = post_told w i y name (record { value = e; meta = unset }) mask in
    subst (λ (z : World). Back R w z) (sym is)
    (back-after R w told i y (ends_by i core) core (back-map R w told (server.numbers_posted i y.core name mask) refl (λ c. on-lists R c (server.numbers_posted i y.core name mask c) (posted-like i y.core name mask c).0)))
post-back R w new i y name e mask (gone, core, inr refused) = back-same R w new (ap (λ (z : World). z.circuits) refused.3)

next-lists : (i : ℕ) (core : Server) (name : List ℕ) (ws : List WaitingPut) (c : Joined) → (server.next_numbers i core name ws c).lists ≡ c.lists
next-lists i core name [] c = refl
next-lists i core name (x ∷ ws) c = (posted-like i core name 3 c).0

pub no-removal : let a : Cause = Reply in let b : Cause = Removal in a ≡ b → ⊥
no-removal e = cc

-- the reply of a put that is finished
finish-back : (R : Type 0) (s : Setting) (w new : World) (i : ℕ) (y : ServerSide) (name : List ℕ) → ServersStand s w → At w.servers i y → HappensFinish w i y name new → Back R w new
finish-back R s w new i y name h at (inl f) =
    subst (λ (z : World). Back R w z) (sym f.leaves)
    (back-after R w (server.replied_at f.p f.sent told) i (record y { records = server.with_record name server.next_busy y.records }) (ends_by i f.core) f.core late)
  where
    told : World
    told = finish_told w i y name f.cr f.r f.p

    ms : List Fields
    ms = map (λ (x : Handle × Fields). x.1) f.sent

    numbered : Back R w told
    numbered = back-map R w told (server.next_numbers i y.core name f.cr.waiting) refl (λ c. on-lists R c (server.next_numbers i y.core name f.cr.waiting c) (next-lists i y.core name f.cr.waiting c))

    -- the circuit as it was, or the put's own
    replied : (l : ℕ) (d : Joined) (o : Option Joined) → slice_get told.circuits f.p.circuit ≡ o → At (unwrap_or (option_map (λ (j : Joined). with_circuit f.p.circuit (told_late f.p.place ms j) told) o) told).circuits l d
        → (c : Joined) × At told.circuits l c × ((d ≡ c) ⊎ ((l ≡ f.p.circuit) × (d ≡ told_late f.p.place ms c)))
    replied l d None is there = (d, there, inl refl)
    replied l d (Some j) is there = elim (At-set told.circuits f.p.circuit (told_late f.p.place ms j) l d there) [
      | inl own ↦ (j, subst (λ (m : ℕ). At told.circuits m j) (sym own.0) is, inr own)
      | inr old ↦ (d, old.0, inl refl)
    ]

    -- it is the reply of a put
    plain : (q : Fields) → In ms q → Is command.ServerDisconnect q → ⊥
    plain q there tells = elim f.finishes.2 [
      | inl said ↦ only there.0 (subst (λ (l : List (Handle × Fields)). At (map (λ (x : Handle × Fields). x.1) l) there.0 q) said.2 there.1)
      | inr silent ↦ none_at there.0 q (subst (λ (l : List (Handle × Fields)). At (map (λ (x : Handle × Fields). x.1) l) there.0 q) silent.1 there.1)
    ]
      where
        only : (k : ℕ) → At (finish_reply f.finishes.0.p ∷ []) k q → ⊥
        only zero at_q = (let e : ◌≡◌ {A = ℕ} 19 27 = ap (λ (x : Fields). x.command) (some_is (finish_reply f.finishes.0.p) q at_q) ∙ tells in absurd (omega (arith, e)))
        only (suc k) at_q = none_at k q at_q

    each : (c : Joined) → At w.circuits f.p.circuit c → (t : Told) → In (about f.p.place Reply ms) t → (t.place < length c.lists.handled) × (R ⊎ IsNoRemoval t)
    each c on t there =
        let r = At-mapped (λ (q : Fields). let z : Told = record { message = q; place = f.p.place; cause = Reply } in z) ms there.0 t there.1 in (
          subst (λ (q : ℕ). q < length c.lists.handled) (ap (λ (z : Told). z.place) (sym r.2)) (elim f.finishes.2 [
            | inl said ↦
                kept-handled s w h f.p.circuit f.p.place c on
                (keeps-awaited s w h.stands.sound h.stands.handles h.puts i y name f.finishes.0.r f.finishes.0.p f.r f.p said.0 at f.finishes.0.named f.finishes.0.busy (f.at.0, f.at.1) f.at.2 f.busy said.1)
            | inr silent ↦ absurd (none_at there.0 r.0 (subst (λ (l : List (Handle × Fields)). At (map (λ (x : Handle × Fields). x.1) l) there.0 r.0) silent.1 r.1))
          ]),
          inr (λ removal. no-removal (ap (λ (z : Told). z.cause) (sym r.2) ∙ removal), λ tells. plain r.0 (there.0, r.1) (ap (λ (z : Told). z.message.command) (sym r.2) ∙ tells)),
        )

    late : Back R w (server.replied_at f.p f.sent told)
    late l d on = go (replied l d (slice_get told.circuits f.p.circuit) refl on)
      where
        go : ((c : Joined) × At told.circuits l c × ((d ≡ c) ⊎ ((l ≡ f.p.circuit) × (d ≡ told_late f.p.place ms c)))) → (c : Joined) × At w.circuits l c × PlacesOn R c d
        go (c, at_c, inl is) = (let b = numbered l c at_c in (b.0, b.1, subst (λ (z : Joined). PlacesOn R b.0 z) (sym is) b.2))
        go (c, at_c, inr (here, is)) =
            let b = At-mapped (server.next_numbers i y.core name f.cr.waiting) w.circuits l c at_c in
            let lists : c.lists ≡ b.0.lists = ap (λ (z : Joined). z.lists) b.2 ∙ next-lists i y.core name f.cr.waiting b.0 in (
              b.0,
              b.1,
              subst (λ (z : Joined). PlacesOn R b.0 z) (sym is)
                  (on-more R b.0 (told_late f.p.place ms c) (about f.p.place Reply ms) (ap (λ (z : Circuit). z.handled) lists) (ap (λ (z : Circuit). z.up) lists) (ap (λ (z : Circuit). z.down ++ about f.p.place Reply ms) lists)
                  (each b.0 (subst (λ (m : ℕ). At w.circuits m b.0) here b.1))),
            )
finish-back R s w new i y name h at (inr refused) = back-same R w new (ap (λ (z : World). z.circuits) refused.2)

-- ---- a removal

and-both : (a b : Bool) → a && b ≡ true → (a ≡ true) × (b ≡ true)
and-both true b e = (refl, e)
and-both false b e = absurd cc

-- a SERVER_DISCONN is of a channel that is open and not retired, and about its creation
pub disconnect-is : (name : List ℕ) (gone : Handle → Bool) (left : Handle → ℕ) (e : ServerEnd) (c : Joined) → ChannelsOn e c → (i : ℕ) (p : Handle × OpenChannel) → At (disconnected_at name gone left c.at_server (Some (Open e))) i p
    → At (channels_of name e) i p × (x : Creation) × In c.creations x × (x.sid ≡ wire_of p.0) × ((removal_told c.creations p).place ≡ x.place)
disconnect-is name gone left e c channels i p at =
    let own : At (channels_of name e) i p = all-of (gone c.at_server) at in
    let there = (In-kept (λ (z : Handle × OpenChannel). bytes_eq z.1.name name && not z.1.retired) (held e.channels) p (i, own)).0 in
    let r = channels.opens p.0 p.1 (held-under e.channels there.0 p there.1) in
    let f = find-at (has_sid (wire_of p.0)) c.creations r.0 r.1 in
    (own, r.0, (f.0, f.1), eqb-true r.0.sid (wire_of p.0) f.2, ap (λ (o : Option Creation). unwrap_or (option_map (λ (z : Creation). z.place) o) 0) r.1)
  where
    all-of : (b : Bool) → At (cond b (take (left c.at_server) (channels_of name e)) (channels_of name e)) i p → At (channels_of name e) i p
    all-of true h = At-take (left c.at_server) (channels_of name e) i p h
    all-of false h = h

remove-back : (s : Setting) (w new : World) (i : ℕ) (y : ServerSide) (name : List ℕ) → ServersStand s w → At w.servers i y → HappensRemove w i y name new → Back (Unit {0}) w new
remove-back s w new i y name h at (gone, left, core, inl (removes, is)) =
    let told : World = moves.removal_told w i y name gone left in
    subst (λ (z : World). Back (Unit {0}) w z) (sym is)
    (back-after (Unit {0}) w told i (record y { records = filter (λ (r : RecordSide). not (bytes_eq r.name name)) y.records }) (ends_by i core) core
    (λ l d on. (let c = At-mapped (removed_at i y.core name gone left) w.circuits l d on in (c.0, c.1, subst (λ (z : Joined). PlacesOn (Unit {0}) c.0 z) (sym c.2) (one l c.0 c.1)))))
  where
    one : (l : ℕ) (c : Joined) → At w.circuits l c → PlacesOn (Unit {0}) c (removed_at i y.core name gone left c)
    one l c on = go (eqb c.server i && c.lists.server_open) refl
      where
        gone_of : List (Handle × OpenChannel)
        gone_of = disconnected_at name gone left c.at_server (under y.core.circuits c.at_server)

        after : Joined
        after = server.without_standing (λ (k : SubKey). list_any (λ (x : Handle × OpenChannel). eqb (wire_of x.0) k.sid) gone_of) (record c { lists = record c.lists { down = c.lists.down ++ map (removal_told c.creations) gone_of } })

        handled : c.server ≡ i → c.lists.server_open ≡ true → (t : Told) → In (map (removal_told c.creations) gone_of) t → t.place < length c.lists.handled
        handled mine opened t there =
            let p = At-mapped (removal_told c.creations) gone_of there.0 t there.1 in
            let seat = h.stands.sound.seated.each l c on opened in
            let same : seat.y ≡ y = At-one w.servers i seat.y y (subst (λ (k : ℕ). At w.servers k seat.y) mine seat.at) at in
            let had : HasEnd y.core c.at_server seat.e = subst (λ (z : ServerSide). HasEnd z.core c.at_server seat.e) same seat.has in
            let x = disconnect-is name gone left seat.e c (h.channels l c seat.y seat.e on seat.at opened seat.has) there.0 p.0 (subst (λ (o : Option ServerCircuit). At (disconnected_at name gone left c.at_server o) there.0 p.0) had p.1) in
            subst (λ (q : ℕ). q < length c.lists.handled) (sym (ap (λ (z : Told). z.place) p.2 ∙ x.4)) ((h.messages l c on opened).channels x.1 x.2).3

        go : (b : Bool) → eqb c.server i && c.lists.server_open ≡ b → PlacesOn (Unit {0}) c (cond b after c)
        go false other = on-lists (Unit {0}) c c refl
        go true both =
            let b = and-both (eqb c.server i) c.lists.server_open both in
            on-more (Unit {0}) c after (map (removal_told c.creations) gone_of) refl refl refl (λ t there. (handled (eqb-true c.server i b.0) b.1 t there, inl tt))
remove-back s w new i y name h at (gone, left, core, inr (removes, is)) = back-same (Unit {0}) w new (ap (λ (z : World). z.circuits) is)

add-back : (R : Type 0) (w new : World) (i : ℕ) (y : ServerSide) (r : RecordState) → server.HappensAdd w i y r new → Back R w new
add-back R w new i y r (core, behind, inl (adds, is)) = back-same R w new (ap (λ (z : World). z.circuits) is)
add-back R w new i y r (core, behind, inr refused) = back-same R w new (ap (λ (z : World). z.circuits) refused.3)

-- ---- a pump

no-update : (n : ℕ) → let a : Cause = history.Update n in let b : Cause = Removal in a ≡ b → ⊥
no-update n e = cc

front-in : {E : Type 0} (l : List (SubKey × E)) (w : SubKey × E) → front l ≡ Some w → In l w
front-in [] w is = absurd cc
front-in (x ∷ l) w is = (0, is)

-- what leaves a queue is no SERVER_DISCONN
fronts : (ss : List Standing) (qs : List (Queue (ℕ × Cause))) (n : ℕ) → HaveNumbers ss qs → (unwrap_or (front_number qs n) (0, Reply)).1 ≡ Removal → ⊥
fronts ss qs n h = go (slice_get qs n) refl
  where
    lead : (q : Queue (ℕ × Cause)) → slice_get qs n ≡ Some q → (o : Option (SubKey × (ℕ × Cause))) → front q.waiting ≡ o → (unwrap_or (option_map (λ (w : SubKey × (ℕ × Cause)). w.1) o) (0, Reply)).1 ≡ Removal → ⊥
    lead q is None none removal = no-removal removal
    lead q is (Some w) first removal =
        let r = (h q (n, is) w (front-in q.waiting w first)).1 in
        no-update r.3.0 (sym (ap (λ (x : ℕ × Cause). x.1) r.3.1) ∙ removal)

    go : (o : Option (Queue (ℕ × Cause))) → slice_get qs n ≡ o → (unwrap_or (option_map (λ (w : SubKey × (ℕ × Cause)). w.1) (option_and_then (λ (q : Queue (ℕ × Cause)). front q.waiting) o)) (0, Reply)).1 ≡ Removal → ⊥
    go None is removal = no-removal removal
    go (Some q) is removal = lead q is (front q.waiting) refl removal

pub stamps-update : (us : List Update) (ss : List Standing) (j : Joined) → HaveNumbers ss j.queues → (t : Told) → In (stamped_told us j) t → t.cause ≡ Removal → ⊥
stamps-update [] ss j numbers t there = absurd (none_at there.0 t there.1)
stamps-update (u ∷ us) ss j numbers t there = go there.0 there.1 (λ later. stamps-update us ss next (one-taken ss j.queues u.queue numbers) t later)
  where
    item : ℕ × Cause
    item = unwrap_or (front_number j.queues u.queue) (0, Reply)

    next : Joined
    next = record j {
      queues = unwrap_or (option_map (λ (q : Queue (ℕ × Cause)). slice_set j.queues u.queue (with_front_taken q)) (slice_get j.queues u.queue)) j.queues;
      lists = record j.lists { down = j.lists.down ++ record { message = u.message; place = item.0; cause = item.1 } ∷ [] };
    }

    go : (k : ℕ) → At (stamped_told (u ∷ us) j) k t → (In (stamped_told us next) t → t.cause ≡ Removal → ⊥) → t.cause ≡ Removal → ⊥
    go zero at more removal = fronts ss j.queues u.queue numbers (ap (λ (x : Told). x.cause) (some_is _ t at) ∙ removal)
    go (suc k) at more removal = more (k, at) removal

-- they are EVENT_ADDs
abbrev pub AreAdds : List Update → Type 0
AreAdds us = (k : ℕ) (u : Update) → At us k u → Is command.EventAdd u.message

leaves-adds : (us : List Update) (e after : ServerEnd) → FoldsTo stepped.Leaves e us after → AreAdds us
leaves-adds [] e after folds k u at = absurd (none_at k u at)
leaves-adds (v ∷ us) e after (mid, one, rest) zero u at = subst (λ (z : Update). Is command.EventAdd z.message) (some_is v u at) (by one.shows)
  where
    by : ShowsTo v.of.wanted v.carries v.message → Is command.EventAdd v.message
    by (t, typed, is) = ap (λ (m : Fields). m.command) is ∙ shown-adds (shown_in v.carries.value (update_count v.of.wanted v.carries) t)
      where
        shown-adds : (r : Result Elements Refusal) → (update_in v.of.wanted v.carries t r).command ≡ 1
        shown-adds (Ok e) = refl
        shown-adds (Err r) = refl
leaves-adds (v ∷ us) e after (mid, one, rest) (suc k) u at = leaves-adds us mid after rest k u at

pumps-adds : (y : Server) (h : Handle) (us : List Update) (new : Server) → stepped.Pumps y h us new → AreAdds us
pumps-adds y h us new (inl (e, has, (after, folds, over))) = leaves-adds us e after folds
pumps-adds y h us new (inr (none, nothing, is)) = λ k u at. absurd (none_at k u (subst (λ (l : List Update). At l k u) nothing at))

pub stamps-adds : (us : List Update) (j : Joined) → AreAdds us → (t : Told) → In (stamped_told us j) t → Is command.ServerDisconnect t.message → ⊥
stamps-adds [] j adds t there tells = absurd (none_at there.0 t there.1)
stamps-adds (u ∷ us) j adds t there tells = go there.0 there.1 (λ later. stamps-adds us next (λ k v at. adds (suc k) v at) t later tells)
  where
    item : ℕ × Cause
    item = unwrap_or (front_number j.queues u.queue) (0, Reply)

    next : Joined
    next = record j {
      queues = unwrap_or (option_map (λ (q : Queue (ℕ × Cause)). slice_set j.queues u.queue (with_front_taken q)) (slice_get j.queues u.queue)) j.queues;
      lists = record j.lists { down = j.lists.down ++ record { message = u.message; place = item.0; cause = item.1 } ∷ [] };
    }

    go : (k : ℕ) → At (stamped_told (u ∷ us) j) k t → (In (stamped_told us next) t → ⊥) → ⊥
    go zero at more = (let e : ◌≡◌ {A = ℕ} 1 27 = sym (adds 0 u refl) ∙ ap (λ (x : Told). x.message.command) (some_is _ t at) ∙ tells in absurd (omega (arith, e)))
    go (suc k) at more = more (k, at)

-- a circuit whose updates went down
pub stamped-is : (us : List Update) (j : Joined) → (stamped us j).lists ≡ record j.lists { down = j.lists.down ++ stamped_told us j }
stamped-is [] j = sym (ap (λ (l : List Told). let c : Circuit = record j.lists { down = l } in c) (append-nil j.lists.down))
stamped-is (u ∷ us) j =
    let item : ℕ × Cause = unwrap_or (front_number j.queues u.queue) (0, Reply) in
    let queues : List (Queue (ℕ × Cause)) = unwrap_or (option_map (λ (q : Queue (ℕ × Cause)). slice_set j.queues u.queue (with_front_taken q)) (slice_get j.queues u.queue)) j.queues in
    let t : Told = record { message = u.message; place = item.0; cause = item.1 } in
    let d : Joined = record j { queues = queues; lists = record j.lists { down = j.lists.down ++ t ∷ [] } } in
    stamped-is us d ∙ ap (λ (l : List Told). let c : Circuit = record j.lists { down = l } in c) (append_assoc j.lists.down (t ∷ []) (stamped_told us d))

pump-back : (R : Type 0) (s : Setting) (w new : World) (k : ℕ) (j : Joined) (y : ServerSide) → ServersStand s w → At w.circuits k j → At w.servers j.server y → j.lists.server_open ≡ true → HappensPump w k j y new → Back R w new
pump-back R s w new k j y h on at opened f =
    let p = stamped-is f.updates j in
    subst (λ (z : World). Back R w z) (sym f.leaves)
    (back-after R w (with_circuit k (stamped f.updates j) w) j.server y (ends_by j.server f.core) f.core
    (back-set R w k j (stamped f.updates j) on
    (on-more R j (stamped f.updates j) (stamped_told f.updates j) (ap (λ (z : Circuit). z.handled) p) (ap (λ (z : Circuit). z.up) p) (ap (λ (z : Circuit). z.down) p)
    (λ t there. (kept-handled s w h k t.place j on (pump-later w new k j y f on at opened h.in_step h.numbers h.messages t there).keeps, inr (stamps-update f.updates j.standing j (h.numbers k j on opened) t there, stamps-adds f.updates j (pumps-adds y.core j.at_server f.updates f.core f.pumps) t there))))))

-- ---- every event

-- Every event but an acceptance, and a step of a server's end.
abbrev pub IsQuietEvent : Event → Type 0
IsQuietEvent (event.Accept i) = ⊥
IsQuietEvent (event.ServerStep k) = ⊥
IsQuietEvent e = Unit {0}

-- a removal tells SERVER_DISCONNs
abbrev pub Removes : Event → Type 0
Removes (event.Remove i name) = Unit {0}
Removes e = ⊥

leaves-back : (s : Setting) (w new : World) (e : Event) → IsQuietEvent e → ServersStand s w → (at : CanBe w e) → Leaves w e at new → Back (Removes e) w new
leaves-back s w new (event.Accept i) quiet h at l = absurd quiet
leaves-back s w new (event.Up k n) quiet h at l = back-then ⊥ w (up_taken k n at.0.j at.0.x w) new (back-frame ⊥ w (up_taken k n at.0.j at.0.x w) (up-frame w k n at.0.j at.0.x at.0.joins.at)) (back-same ⊥ (up_taken k n at.0.j at.0.x w) new (ap (λ (z : World). z.circuits) l.2))
leaves-back s w new (event.Down k n) quiet h at l = down-back ⊥ w new k n at.0.j at.0.x at.0.y at.0.joins.at l
leaves-back s w new (event.ServerStep k) quiet h at l = absurd quiet
leaves-back s w new (event.Pump k) quiet h at l = pump-back ⊥ s w new k at.j at.y h at.joins.at at.joins.server at.is_open l
leaves-back s w new (event.CutServer k) quiet h at l = subst (λ (z : World). Back ⊥ w z) (sym l.leaves) (back-after ⊥ w w at.j.server at.y (ends_by at.j.server l.core) l.core (back-same ⊥ w w refl))
leaves-back s w new (event.ServerRestart i) quiet h at l =
    subst (λ (z : World). Back ⊥ w z) (sym l) (back-map ⊥ w (moves.restarted w i at.y) (ending (server.ends_untold i at.y.core)) refl (on-ending ⊥ (server.ends_untold i at.y.core)))
leaves-back s w new (event.Post i name e mask) quiet h at l = post-back ⊥ w new i at.y name e mask l
leaves-back s w new (event.Finish i name) quiet h at l = finish-back ⊥ s w new i at.y name h at.at l
leaves-back s w new (event.Remove i name) quiet h at l = remove-back s w new i at.y name h at.at l
leaves-back s w new (event.Add i r) quiet h at l = add-back ⊥ w new i at.y r l
leaves-back s w new (event.ServerDatagram i from bytes) quiet h at l = back-same ⊥ w new (ap (λ (z : World). z.circuits) l.2)
leaves-back s w new (event.Open i name priority) quiet h at l = back-frame ⊥ w new (open-frame w new i at.x name priority l)
leaves-back s w new (event.Clear i c) quiet h at l = back-frame ⊥ w new (clear-frame w new i at.x c at.h l)
leaves-back s w new (event.Read i c data_type count) quiet h at l = back-frame ⊥ w new (read-frame w new i at.x c at.h data_type count l)
leaves-back s w new (event.Write i c e) quiet h at l = back-frame ⊥ w new (write-frame w new i at.x c at.h e l)
leaves-back s w new (event.WriteNotify i c e) quiet h at l = back-frame ⊥ w new (put-frame w new i at.x c at.h e l)
leaves-back s w new (event.Subscribe i c data_type count mask) quiet h at l = back-frame ⊥ w new (subscribe-frame w new i at.x c at.h data_type count mask l)
leaves-back s w new (event.Unsubscribe i n) quiet h at l = back-frame ⊥ w new (unsubscribe-frame w new i at.x at.s l)
leaves-back s w new (event.Collect i r) quiet h at l = back-frame ⊥ w new (handing-frame w new at.x r at.q.1 (Collected r) l)
leaves-back s w new (event.GiveUp i r) quiet h at l = back-frame ⊥ w new (handing-frame w new at.x r at.q.1 (GaveUp r) l)
leaves-back s w new (event.ClientDatagram i from bytes) quiet h at l = back-frame ⊥ w new (datagram-frame w new i at.x from bytes l)
leaves-back s w new (event.ClientStep k) quiet h at l = back-frame ⊥ w new (hear-frame w new k at.j at.x at.joins.at l)
leaves-back s w new (event.CutClient k) quiet h at l = back-frame ⊥ w new (cut-frame w new k at.j at.x at.joins.at l)
leaves-back s w new (event.ClientRestart i) quiet h at l = back-frame ⊥ w new (begun-frame w new i at.x l)
leaves-back s w new (event.Tick moment) not h at (mid, ticks, is) =
    back-then ⊥ w mid new (back-frame ⊥ w mid (ticks-frame moment w (clients_below (length w.clients)) mid ticks)) (back-same ⊥ mid new (ap (λ (z : World). z.circuits) is))

pub event-back : (s : Setting) (w new : World) (e : Event) → IsQuietEvent e → ServersStand s w → Happens w e new → Back (Removes e) w new
event-back s w new e quiet h happens = leaves-back s w new e quiet h happens.0 happens.1
