-- What servers told has a cause of its kind, whatever happens.
use Rattle.std.proofs.Common.{◌≡◌, ℕ, ◌+◌, zero, suc, inl, inr, ◌⊎◌, Bool, true, false, ◌&&◌, cond, eqb, List, [], ◌∷◌, ◌++◌, length, Option, Some, None, refl, sym, ap, subst, arith}
use Rattle.std.specs.List.{FoldsTo, list_any}
use Rattle.std.specs.Prelude.{filter, map, not, option_map, slice_get, slice_set, unwrap_or}
use Rattle.std.specs.Str.{bytes_eq}
use Rattle.ca_arena.specs.declared.handle.Handle.{Handle}
use Rattle.ca_dbr.specs.Elements.{Elements}
use Rattle.ca_ids.specs.Table.{under}
use Rattle.ca_ids.specs.Wire.{wire_of}
use Rattle.ca_queue.specs.declared.entry.SubKey.{SubKey}
use Rattle.ca_queue.specs.Queue.{Queue, with_front_taken}
use Rattle.ca_records.specs.Puts.{WaitingPut}
use Rattle.ca_records.specs.Record.{RecordState}
use Rattle.ca_text.specs.declared.command.Command.TheVariants as command
use Rattle.ca_text.specs.Place.{At}
use Rattle.ca_text.proofs.Places.{At-mapped, At-parts, At-set, At-snoc, some_is}
use Rattle.ca_wire.specs.Fields.{Fields}
use Rattle.ca_model.specs.Answers.{Closing}
use Rattle.ca_model.specs.Due.{Action}
use Rattle.ca_model.specs.Ends as why
use Rattle.ca_model.specs.History.{Cause, Circuit, Collected, GaveUp, Reply, Told}
use Rattle.ca_model.specs.Server.{OpenChannel, Server}
use Rattle.ca_model.specs.ServerSteps.{Closed, Handled, NeedBytes, OutputFull, Stepped, Update, closed}
use Rattle.ca_model.specs.Speech.{Is}
use Rattle.ca_model.specs.ClientEvents.{DownTaken, HappensAccept, HappensDown, HappensUp, WantsFirst, connected_as, new_circuit, up_taken}
use Rattle.ca_model.specs.Events.{Event}
use Rattle.ca_model.specs.Events as event
use Rattle.ca_model.specs.Runs.{AreEvents, Happens, Runs, StopsAt, clients_below}
use Rattle.ca_model.specs.ServerEvents.{HappensAdd, HappensCutServer, HappensFinish, HappensPost, HappensPump, HappensRemove, HappensServerRestart, ServerStepped, about, acted, disconnected_at, ending, ends_by, ends_here, ends_untold, front_number, handled_at, logged, next_busy, next_numbers, numbers_after, numbers_posted, removal_told, removed_at, replied_at, server_after, server_closed, side_of, stamped, unsaid, with_record, without_standing, write_numbers}
use Rattle.ca_model.specs.World.{ClientSide, IsSetting, Joined, RecordSide, ServerSide, Setting, World, opening, with_circuit, with_entries, with_server}
use Rattle.ca_laws_parts.proofs.Handled.{numbers-like, posted-like, writes-like}
use Rattle.ca_laws_parts.proofs.Frames.{Frame, frame-after, frame-self, frame-then}
use Rattle.ca_laws_parts.proofs.HappensClient.{begun-frame, clear-frame, cut-frame, datagram-frame, handing-frame, hear-frame, left-frame, open-frame, put-frame, read-frame, subscribe-frame, unsubscribe-frame, up-frame, write-frame}
use Rattle.ca_laws_parts.proofs.WritesLists.{none_at}
use Rattle.ca_laws_parts.specs.Runs.{Stands}
use Rattle.ca_laws_parts.specs.ServerFits.{AllAt, AllCaused, IsCaused, ServersFit}
use Rattle.ca_laws_parts.proofs.BytesRuns.{event-stands, opening-stands, ticks-frame}
use Rattle.ca_laws_parts.proofs.BytesServerCalls.{IsUpdating, pumps-update}
use Rattle.ca_laws_parts.proofs.ServerFits.{tail-at}
use Rattle.ca_laws_parts.proofs.ServerSpeaking.{event-servers, opening-servers}

-- ---- what circuits were told

-- what was told then was told before, or is caused so
abbrev Tolds : Joined → Joined → Type 0
Tolds c d = (i : ℕ) (t : Told) → At d.lists.down i t → ((k : ℕ) × At c.lists.down k t) ⊎ IsCaused t

told-same : (c d : Joined) → d.lists.down ≡ c.lists.down → Tolds c d
told-same c d is i t at = inl (i, subst (λ (l : List Told). At l i t) is at)

told-then : (a b c : Joined) → Tolds a b → Tolds b c → Tolds a c
told-then a b c f g i t at = elim (g i t at) [ inl old ↦ f old.0 t old.1 | inr new ↦ inr new ]

told-more : (c d : Joined) (more : List Told) → d.lists.down ≡ c.lists.down ++ more → AllAt IsCaused more → Tolds c d
told-more c d more is all i t at = elim (At-parts c.lists.down more i t (subst (λ (l : List Told). At l i t) is at)) [ inl old ↦ inl (i, old) | inr new ↦ inr (all new.0 t new.2) ]

-- replies
replies-caused : (place : ℕ) (ms : List Fields) → AllAt IsCaused (about place Reply ms)
replies-caused place ms i t at = (let b = At-mapped (λ (m : Fields). record { message = m; place = place; cause = Reply }) ms i t at in inl (ap (λ (z : Told). z.cause) b.2))

abbrev Said : List Joined → List Joined → Type 0
Said was now = (n : ℕ) (d : Joined) → At now n d → (c : Joined) × At was n c × Tolds c d

said-itself : (was : List Joined) → Said was was
said-itself was n d at = (d, at, told-same d d refl)

said-then : (a b c : List Joined) → Said a b → Said b c → Said a c
said-then a b c f g n z at = (let y = g n z at in let x = f n y.0 y.1 in (x.0, x.1, told-then x.0 y.0 z x.2 y.2))

said-map : (was : List Joined) (f : Joined → Joined) → ((c : Joined) → Tolds c (f c)) → Said was (map f was)
said-map was f told n d at = (let c = At-mapped f was n d at in (c.0, c.1, subst (λ (z : Joined). Tolds c.0 z) (sym c.2) (told c.0)))

said-set : (was : List Joined) (k : ℕ) (j d : Joined) → At was k j → Tolds j d → Said was (slice_set was k d)
said-set was k j d at told n c there = elim (At-set was k d n c there) [
  | inl here ↦ (j, subst (λ (l : ℕ). At was l j) (sym here.0) at, subst (λ (z : Joined). Tolds j z) (sym here.1) told)
  | inr old ↦ (c, old.0, told-same c c refl)
]

said-ending : (was : List Joined) (ends : Joined → Option (List ℕ)) → Said was (map (ending ends) was)
said-ending was ends = said-map was (ending ends) (λ c. told-same c (ending ends c) (go c (ends c)))
  where
    go : (c : Joined) (o : Option (List ℕ)) → (unwrap_or (option_map (λ (left : List ℕ). server_closed left c) o) c).lists.down ≡ c.lists.down
    go c None = refl
    go c (Some left) = refl

said-at : (w : World) (k : ℕ) (g : Joined → Joined) → ((c : Joined) → Tolds c (g c)) → Said w.circuits (unwrap_or (option_map (λ (c : Joined). with_circuit k (g c) w) (slice_get w.circuits k)) w).circuits
said-at w k g told = go (slice_get w.circuits k) refl
  where
    go : (o : Option Joined) → slice_get w.circuits k ≡ o → Said w.circuits (unwrap_or (option_map (λ (c : Joined). with_circuit k (g c) w) o) w).circuits
    go None is = said-itself w.circuits
    go (Some c) is = said-set w.circuits k c (g c) is (told c)

caused-on : (w new : World) → Said w.circuits new.circuits → AllCaused w → AllCaused new
caused-on w new said all = record { each = λ n d at i t there. (let c = said n d at in elim (c.2 i t there) [ inl old ↦ all.each n c.0 c.1 old.0 t old.1 | inr is ↦ is ]) }

frame-caused : (w new : World) → Frame w new → AllCaused w → AllCaused new
frame-caused w new f all = caused-on w new (λ n d at. (let c = f.back n d at in (c.0, c.1, told-same c.0 d c.2.down))) all

-- a call of server i is over
after-caused : (w mid : World) (i : ℕ) (side : ServerSide) (ends : Joined → Option (List ℕ)) (core : Server) → Said w.circuits mid.circuits → AllCaused w → AllCaused (server_after i side ends core mid)
after-caused w mid i side ends core said all = caused-on w (server_after i side ends core mid) (said-then w.circuits mid.circuits (map (ending ends) mid.circuits) said (said-ending mid.circuits ends)) all

-- ---- each event

accept-caused : (w new : World) (c : ℕ) (x : ClientSide) (v : WantsFirst w x) → HappensAccept w c x v new → AllCaused w → AllCaused new
accept-caused w new c x v happens all = elim happens.leaves [
  | inl refusal ↦ subst (λ (u : World). AllCaused u) (sym refusal.1) all
  | inr did ↦
      let n : Joined = connected_as did.1 (new_circuit c x v.v.circuit v.i v.y did.0) in
      let made : World = record (with_server v.i (record v.y { core = happens.server }) w) { circuits = w.circuits ++ n ∷ [] } in
      subst (λ (u : World). AllCaused u) (sym did.6)
      (frame-caused made _ (frame-after c x x.names _ made) (record {
        each = λ l d there. elim (At-snoc w.circuits n l d there) [
          | inl old ↦ all.each l d old
          | inr last ↦ subst (λ (q : Joined). AllAt IsCaused q.lists.down) (sym last.1) (nothing did.1 (new_circuit c x v.v.circuit v.i v.y did.0) refl)
        ];
      }))
]
  where
    nothing : (k : Option Closing) (n : Joined) → n.lists.down ≡ [] → AllAt IsCaused (connected_as k n).lists.down
    nothing None n is = subst (λ (l : List Told). AllAt IsCaused l) (sym is) (λ i t at. absurd cc)
    nothing (Some q) n is = subst (λ (l : List Told). AllAt IsCaused l) (sym is) (λ i t at. absurd cc)

up-caused : (w new : World) (k n : ℕ) (j : Joined) (x : ClientSide) (y : ServerSide) → At w.circuits k j → HappensUp w k n j x y new → AllCaused w → AllCaused new
up-caused w new k n j x y on (core, gives, is) all =
    let mid : World = up_taken k n j x w in
    subst (λ (v : World). AllCaused v) (sym is) (caused-on mid _ (said-itself mid.circuits) (frame-caused w mid (up-frame w k n j x on) all))

down-caused : (w new : World) (k n : ℕ) (j : Joined) (x : ClientSide) (y : ServerSide) → At w.circuits k j → HappensDown w k n j x y new → AllCaused w → AllCaused new
down-caused w new k n j x y on (mid, sent, core, down, gives, is) all = subst (λ (v : World). AllCaused v) (sym is) (frame-caused mid _ (frame-after j.client x x.names _ mid) (taken down))
  where
    taken : DownTaken w k n j y mid → AllCaused mid
    taken (inl (opened, (after, sends, leaves))) = subst (λ (v : World). AllCaused v) (sym leaves) (caused-on w _ (said-itself w.circuits) all)
    taken (inr (shut, leaves)) = subst (λ (v : World). AllCaused v) (sym leaves) (frame-caused w _ (left-frame w k n j on) all)

stamped-told : (us : List Update) (j : Joined) → AllAt (λ (u : Update). IsUpdating u.message) us → Tolds j (stamped us j)
stamped-told [] j all = told-same j j refl
stamped-told (u ∷ us) j all =
    let item : ℕ × Cause = unwrap_or (front_number j.queues u.queue) (0, Reply) in
    let queues : List (Queue (ℕ × Cause)) = unwrap_or (option_map (λ (q : Queue (ℕ × Cause)). slice_set j.queues u.queue (with_front_taken q)) (slice_get j.queues u.queue)) j.queues in
    let t : Told = record { message = u.message; place = item.0; cause = item.1 } in
    let d : Joined = record j { queues = queues; lists = record j.lists { down = j.lists.down ++ t ∷ [] } } in
    told-then j d (stamped us d) (told-more j d (t ∷ []) refl (one t (inr (inr (all 0 u refl))))) (stamped-told us d (tail-at (λ (u : Update). IsUpdating u.message) u us all))
  where
    one : (t : Told) → IsCaused t → AllAt IsCaused (t ∷ [])
    one t is zero s at = subst IsCaused (some_is t s at) is
    one t is (suc i) s at = absurd cc

module _ (w new : World) (k : ℕ) (j : Joined) (y : ServerSide) (on : At w.circuits k j) (all : AllCaused w) where
  acted-said : (did : Action) → Said w.circuits (acted k j y did w).circuits
  acted-said did =
      let here : Joined = numbers_after (length j.lists.handled) did j in
      said-then w.circuits (slice_set w.circuits k here) _ (said-set w.circuits k j here on (told-same j here (ap (λ (c : Circuit). c.down) (numbers-like (length j.lists.handled) did j).0)))
      (said-map (slice_set w.circuits k here) (write_numbers j.server y.core did) (λ c. told-same c (write_numbers j.server y.core did c) (ap (λ (q : Circuit). q.down) (writes-like j.server y.core did c).0)))

  unsaid-said : (did : Action) (o : Option (Handle → Bool)) → Said w.circuits (unsaid k j y did o w).circuits
  unsaid-said did None = said-itself w.circuits
  unsaid-said did (Some gone) = acted-said did

  stepped-caused : (did : Stepped) → ServerStepped w k j y did new → AllCaused new
  stepped-caused Handled s =
      let next = s.steps.0 in
      let mid : World = acted k j y next.action w in
      let after : World = server_after j.server (side_of j.server y mid) (ends_by j.server s.core) s.core mid in
      subst (λ (v : World). AllCaused v) (sym s.leaves)
      (caused-on after _ (said-at after k (handled_at (length j.lists.handled) (record { sent = length j.lists.down; logged = logged y w; after = logged y after }) next.replies)
      (λ c. told-more c (handled_at (length j.lists.handled) (record { sent = length j.lists.down; logged = logged y w; after = logged y after }) next.replies c) (about (length j.lists.handled) Reply next.replies) refl (replies-caused (length j.lists.handled) next.replies)))
      (after-caused w mid j.server (side_of j.server y mid) (ends_by j.server s.core) s.core (acted-said next.action) all))
  stepped-caused NeedBytes s = subst (λ (v : World). AllCaused v) (sym s.3) all
  stepped-caused OutputFull s = subst (λ (v : World). AllCaused v) (sym s.3) all
  stepped-caused (Closed why.OutOfMemory left) s =
      let mid : World = unsaid k j y s.lacks.next.action s.lacks.written w in
      subst (λ (v : World). AllCaused v) (sym s.leaves) (after-caused w mid j.server (side_of j.server y mid) (ends_here j left j.server s.core) s.core (unsaid-said s.lacks.next.action s.lacks.written) all)
  stepped-caused (Closed cause left) s = subst (λ (v : World). AllCaused v) (sym s.3) (after-caused w w j.server y (ends_here j left j.server y.core) (closed j.at_server y.core) (said-itself w.circuits) all)

  pump-caused : At w.servers j.server y → ServersFit w → HappensPump w k j y new → AllCaused new
  pump-caused at f p =
      subst (λ (v : World). AllCaused v) (sym p.leaves)
      (after-caused w (with_circuit k (stamped p.updates j) w) j.server y (ends_by j.server p.core) p.core
      (said-set w.circuits k j (stamped p.updates j) on (stamped-told p.updates j (pumps-update y.core j.at_server p.updates p.core p.pumps (f.cores j.server y at)))) all)

  cut-caused : HappensCutServer w k j y new → AllCaused new
  cut-caused c = subst (λ (v : World). AllCaused v) (sym c.leaves) (after-caused w w j.server y (ends_by j.server c.core) c.core (said-itself w.circuits) all)

module _ (w new : World) (i : ℕ) (y : ServerSide) (all : AllCaused w) where
  posted-told : (name : List ℕ) (mask : ℕ) (c : Joined) → Tolds c (numbers_posted i y.core name mask c)
  posted-told name mask c = told-same c (numbers_posted i y.core name mask c) (ap (λ (q : Circuit). q.down) (posted-like i y.core name mask c).0)

  post-caused : (name : List ℕ) (e : Elements) (mask : ℕ) → HappensPost w i y name e mask new → AllCaused new
  post-caused name e mask (gone, core, inr refused) = subst (λ (v : World). AllCaused v) (sym refused.3) all
  post-caused name e mask (gone, core, inl (posts, is)) =
      let mid : World = with_entries y.life _ (record w { circuits = map (numbers_posted i y.core name mask) w.circuits }) in
      subst (λ (v : World). AllCaused v) (sym is) (after-caused w mid i y (ends_by i core) core (said-map w.circuits (numbers_posted i y.core name mask) (posted-told name mask)) all)

  next-told : (name : List ℕ) (ws : List WaitingPut) (c : Joined) → Tolds c (next_numbers i y.core name ws c)
  next-told name [] c = told-same c c refl
  next-told name (p ∷ ps) c = posted-told name 3 c

  finish-caused : (name : List ℕ) → HappensFinish w i y name new → AllCaused new
  finish-caused name (inr refused) = subst (λ (v : World). AllCaused v) (sym refused.2) all
  finish-caused name (inl f) =
      let side : ServerSide = record y { records = with_record name next_busy y.records } in
      let mid : World = with_entries y.life _ (with_server i side (record w { circuits = map (next_numbers i y.core name f.cr.waiting) w.circuits })) in
      let said : List Fields = map (λ (m : Handle × Fields). m.1) f.sent in
      subst (λ (v : World). AllCaused v) (sym f.leaves)
      (after-caused w (replied_at f.p f.sent mid) i side (ends_by i f.core) f.core
      (said-then w.circuits mid.circuits _ (said-map w.circuits (next_numbers i y.core name f.cr.waiting) (next-told name f.cr.waiting))
      (said-at mid f.p.circuit (λ (j : Joined). record j { lists = record j.lists { down = j.lists.down ++ about f.p.place Reply said } }) (λ c. told-more c (record c { lists = record c.lists { down = c.lists.down ++ about f.p.place Reply said } }) (about f.p.place Reply said) refl (replies-caused f.p.place said)))) all)

  remove-caused : (name : List ℕ) → HappensRemove w i y name new → AllCaused new
  remove-caused name (gone, left, core, inr (removes, is)) = subst (λ (v : World). AllCaused v) (sym is) all
  remove-caused name (gone, left, core, inl (removes, is)) =
      let side : ServerSide = record y { records = filter (λ (r : RecordSide). not (bytes_eq r.name name)) y.records } in
      subst (λ (v : World). AllCaused v) (sym is) (after-caused w _ i side (ends_by i core) core (said-map w.circuits (removed_at i y.core name gone left) told) all)
    where
      told : (c : Joined) → Tolds c (removed_at i y.core name gone left c)
      told c = go (eqb c.server i && c.lists.server_open)
        where
          channels : List (Handle × OpenChannel)
          channels = disconnected_at name gone left c.at_server (under y.core.circuits c.at_server)

          over : SubKey → Bool
          over k = list_any (λ (e : Handle × OpenChannel). eqb (wire_of e.0) k.sid) channels

          go : (b : Bool) → Tolds c (cond b (without_standing over (record c { lists = record c.lists { down = c.lists.down ++ map (removal_told c.creations) channels } })) c)
          go true =
              told-more c (without_standing over (record c { lists = record c.lists { down = c.lists.down ++ map (removal_told c.creations) channels } })) (map (removal_told c.creations) channels) refl
              (λ i t at. (let b = At-mapped (removal_told c.creations) channels i t at in subst IsCaused (sym b.2) (inr (inl refl))))
          go false = told-same c c refl

  add-caused : (r : RecordState) → HappensAdd w i y r new → AllCaused new
  add-caused r (core, behind, inr refused) = subst (λ (v : World). AllCaused v) (sym refused.3) all
  add-caused r (core, behind, inl (adds, is)) = subst (λ (v : World). AllCaused v) (sym is) (caused-on w _ (said-itself w.circuits) all)

  restart-caused : HappensServerRestart w i y new → AllCaused new
  restart-caused is = subst (λ (v : World). AllCaused v) (sym is) (caused-on w _ (said-ending w.circuits (ends_untold i y.core)) all)

-- ---- every event

pub event-caused : (w new : World) (e : Event) → ServersFit w → Happens w e new → AllCaused w → AllCaused new
event-caused w new (event.Open i name priority) f (at, l) all = frame-caused w new (open-frame w new i at.x name priority l) all
event-caused w new (event.Clear i c) f (at, l) all = frame-caused w new (clear-frame w new i at.x c at.h l) all
event-caused w new (event.Read i c data_type count) f (at, l) all = frame-caused w new (read-frame w new i at.x c at.h data_type count l) all
event-caused w new (event.Write i c e) f (at, l) all = frame-caused w new (write-frame w new i at.x c at.h e l) all
event-caused w new (event.WriteNotify i c e) f (at, l) all = frame-caused w new (put-frame w new i at.x c at.h e l) all
event-caused w new (event.Subscribe i c data_type count mask) f (at, l) all = frame-caused w new (subscribe-frame w new i at.x c at.h data_type count mask l) all
event-caused w new (event.Unsubscribe i n) f (at, l) all = frame-caused w new (unsubscribe-frame w new i at.x at.s l) all
event-caused w new (event.Collect i r) f (at, l) all = frame-caused w new (handing-frame w new at.x r at.q.1 (Collected r) l) all
event-caused w new (event.GiveUp i r) f (at, l) all = frame-caused w new (handing-frame w new at.x r at.q.1 (GaveUp r) l) all
event-caused w new (event.ClientDatagram i from bytes) f (at, l) all = frame-caused w new (datagram-frame w new i at.x from bytes l) all
event-caused w new (event.ServerDatagram i from bytes) f (at, l) all = subst (λ (z : World). AllCaused z) (sym l.2) all
event-caused w new (event.Accept i) f (at, l) all = accept-caused w new i at.x at.v l all
event-caused w new (event.Up k n) f (at, l) all = up-caused w new k n at.0.j at.0.x at.0.y at.0.joins.at l all
event-caused w new (event.Down k n) f (at, l) all = down-caused w new k n at.0.j at.0.x at.0.y at.0.joins.at l all
event-caused w new (event.ServerStep k) f (at, l) all = stepped-caused w new k at.j at.y at.joins.at all l.0 l.1
event-caused w new (event.ClientStep k) f (at, l) all = frame-caused w new (hear-frame w new k at.j at.x at.joins.at l) all
event-caused w new (event.Pump k) f (at, l) all = pump-caused w new k at.j at.y at.joins.at all at.joins.server f l
event-caused w new (event.CutClient k) f (at, l) all = frame-caused w new (cut-frame w new k at.j at.x at.joins.at l) all
event-caused w new (event.CutServer k) f (at, l) all = cut-caused w new k at.j at.y at.joins.at all l
event-caused w new (event.ClientRestart i) f (at, l) all = frame-caused w new (begun-frame w new i at.x l) all
event-caused w new (event.ServerRestart i) f (at, l) all = restart-caused w new i at.y all l
event-caused w new (event.Post i name e mask) f (at, l) all = post-caused w new i at.y all name e mask l
event-caused w new (event.Finish i name) f (at, l) all = finish-caused w new i at.y all name l
event-caused w new (event.Remove i name) f (at, l) all = remove-caused w new i at.y all name l
event-caused w new (event.Add i r) f (at, l) all = add-caused w new i at.y all r l
event-caused w new (event.Tick moment) f (at, (mid, ticks, is)) all =
    frame-caused w new (frame-then w mid new (ticks-frame moment (clients_below (length w.clients)) w mid ticks) (frame-self mid new (ap (λ (z : World). z.servers) is) (ap (λ (z : World). z.server_logs) is) (ap (λ (z : World). z.circuits) is))) all

-- ---- every run

pub opening-caused : (s : Setting) → AllCaused (opening s)
opening-caused s = record { each = λ n c at. absurd (none_at n c at) }

events-caused : (s : Setting) (es : List Event) (w new : World) → IsSetting s → AreEvents es → FoldsTo Happens w es new → Stands s w → ServersFit w → AllCaused w → AllCaused new
events-caused s [] w new ok fine same h f all = subst (λ (z : World). AllCaused z) same all
events-caused s (e ∷ es) w new ok fine (mid, one, rest) h f all =
    events-caused s es mid new ok (λ i d at. fine (i + 1) d (later i d at)) rest (event-stands s w mid e ok one h) (event-servers s w mid e ok (fine 0 e refl) h one f) (event-caused w mid e f one all)
  where
    later : (i : ℕ) (d : Event) → At es i d → At (e ∷ es) (i + 1) d
    later i d at = (let n : suc i ≡ i + 1 = omega arith in subst (λ (k : ℕ). At (e ∷ es) k d) n at)

stops-caused : (mid : World) (stopped : Option Event) (w : World) → StopsAt mid stopped w → AllCaused mid → AllCaused w
stops-caused mid (Some (event.Tick moment)) w stops all = elim stops [
  | inl same ↦ subst (λ (z : World). AllCaused z) (sym same) all
  | inr ticked ↦ frame-caused mid w (ticks-frame moment (clients_below ticked.0) mid w ticked.3) all
]
stops-caused mid stopped w stops all = subst (λ (z : World). AllCaused z) (sym stops) all

pub runs-caused : (s : Setting) (es : List Event) (stopped : Option Event) (w : World) → IsSetting s → AreEvents es → Runs s es stopped w → AllCaused w
runs-caused s es stopped w ok fine (mid, folds, stops) =
    stops-caused mid stopped w stops (events-caused s es (opening s) mid ok fine folds (opening-stands s ok) (opening-servers s ok) (opening-caused s))

-- what is no SERVER_DISCONN, and has no payload if it is an EVENT_ADD, is a reply
pub is-reply : (w : World) → AllCaused w → (n i : ℕ) (c : Joined) (t : Told) → At w.circuits n c → At c.lists.down i t → (Is command.ServerDisconnect t.message → ⊥) → (Is command.EventAdd t.message → t.message.payload ≡ []) → t.cause ≡ Reply
is-reply w all n i c t at there other empty = elim (all.each n c at i t there) [
  | inl reply ↦ reply
  | inr (inl removal) ↦ absurd (other removal)
  | inr (inr update) ↦ absurd (update.1 (empty update.0))
]
