-- Over every event but an acceptance, each circuit was there before.
use Rattle.std.proofs.Common.{◌≡◌, ℕ, ◌<◌, ◌⊎◌, inl, inr, Bool, not, List, [], ◌∷◌, ◌++◌, length, Option, Some, None, refl, sym, ap, subst, arith}
use Rattle.std.specs.Str.{bytes_eq}
use Rattle.std.specs.Prelude.{drop, filter, map, option_map, slice_get, slice_set, unwrap_or}
use Rattle.ca_arena.specs.declared.handle.Handle.{Handle}
use Rattle.ca_dbr.specs.Elements.{Elements}
use Rattle.ca_records.specs.Record.{RecordState, unset}
use Rattle.ca_text.specs.Place.{At}
use Rattle.ca_text.proofs.Places.{At-mapped, At-set, At-snoc, At-within}
use Rattle.ca_model.specs.Due.{Action}
use Rattle.ca_model.specs.Ends as why
use Rattle.ca_model.specs.History.{Collected, GaveUp, Step}
use Rattle.ca_model.specs.Server.{Server}
use Rattle.ca_model.specs.ServerSteps.{Stepped, closed}
use Rattle.ca_model.specs.ServerSteps as stepped
use Rattle.ca_model.specs.ClientEvents.{DownTaken, HappensAccept, HappensDown, WantsFirst, connected_as, new_circuit}
use Rattle.ca_model.specs.Events.{Event}
use Rattle.ca_model.specs.Events as event
use Rattle.ca_model.specs.Runs.{CanBe, Leaves, clients_below}
use Rattle.ca_model.specs.ServerEvents.{HappensFinish, HappensPost, HappensRemove, ServerStepped, acted, ending, ends_by, ends_here, handled_at, noted, numbers_after, server_after, side_of, unsaid, write_numbers}
use Rattle.ca_model.specs.ServerEvents as server
use Rattle.ca_model.specs.World.{ClientSide, Joined, RecordSide, ServerSide, World, with_circuit}
use Rattle.ca_laws_parts.specs.Moves.{finish_told, post_told, removal_told}
use Rattle.ca_laws_parts.proofs.Every.{ticks-frame}
use Rattle.ca_laws_parts.proofs.Frames.{Frame}
use Rattle.ca_laws_parts.proofs.HappensClient.{begun-frame, clear-frame, cut-frame, datagram-frame, handing-frame, hear-frame, left-frame, open-frame, put-frame, read-frame, sent-frame, subscribe-frame, unsubscribe-frame, up-frame, write-frame}
use Rattle.ca_laws_parts.proofs.LastingStep.{replied-back}

-- each circuit of the later world was there
abbrev pub Were : (w new : World) → Type 0
Were w new = (l : ℕ) (d : Joined) → At new.circuits l d → l < length w.circuits

were-same : (w new : World) → new.circuits ≡ w.circuits → Were w new
were-same w new is l d at = At-within w.circuits l d (subst (λ (x : List Joined). At x l d) is at)

were-frame : (w new : World) → Frame w new → Were w new
were-frame w new f l d at = (let c = f.back l d at in At-within w.circuits l c.0 c.1)

were-map : (w new : World) (f : Joined → Joined) → new.circuits ≡ map f w.circuits → Were w new
were-map w new f is l d at = (let c = At-mapped f w.circuits l d (subst (λ (x : List Joined). At x l d) is at) in At-within w.circuits l c.0 c.1)

were-set : (w : World) (k : ℕ) (j next : Joined) → At w.circuits k j → Were w (with_circuit k next w)
were-set w k j next on l d at = elim (At-set w.circuits k next l d at) [
  | inl own ↦ (let lt : k < length w.circuits = At-within w.circuits k j on in let is : l ≡ k = own.0 in omega (arith, lt, is))
  | inr old ↦ At-within w.circuits l d old.0
]

were-after : (w mid : World) (i : ℕ) (side : ServerSide) (ends : Joined → Option (List ℕ)) (core : Server) → Were w mid → Were w (server_after i side ends core mid)
were-after w mid i side ends core were l d at = (let c = At-mapped (ending ends) mid.circuits l d at in were l c.0 c.1)

were-acted : (w : World) (k : ℕ) (j : Joined) (y : ServerSide) (did : Action) → At w.circuits k j → Were w (acted k j y did w)
were-acted w k j y did on l d at =
    let numbers : Joined = numbers_after (length j.lists.handled) did j in
    let c = At-mapped (write_numbers j.server y.core did) (slice_set w.circuits k numbers) l d at in
    were-set w k j numbers on l c.0 c.1

were-noted : (w mid : World) (k : ℕ) (j : Joined) (y : ServerSide) (replies : _) → Were w mid → Were w (noted k j y replies w mid)
were-noted w mid k j y replies were = go (slice_get mid.circuits k) refl
  where
    step : Step
    step = record { sent = length j.lists.down; logged = server.logged y w; after = server.logged y mid }

    go : (o : Option Joined) → slice_get mid.circuits k ≡ o → Were w (unwrap_or (option_map (λ (c : Joined). with_circuit k (handled_at (length j.lists.handled) step replies c) mid) o) mid)
    go None is l d at = were l d at
    go (Some c) is l d at = elim (At-set mid.circuits k (handled_at (length j.lists.handled) step replies c) l d at) [
      | inl own ↦ subst (λ (m : ℕ). m < length w.circuits) (sym own.0) (were k c is)
      | inr old ↦ were l d old.0
    ]

step-were : (w new : World) (k : ℕ) (j : Joined) (y : ServerSide) (did : Stepped) → At w.circuits k j → ServerStepped w k j y did new → Were w new
step-were w new k j y stepped.Handled on f =
    let did : Action = (f.steps.0).action in
    let mid : World = acted k j y did w in
    let after : World = server_after j.server (side_of j.server y mid) (ends_by j.server f.core) f.core mid in
    subst (λ (z : World). Were w z) (sym f.leaves)
    (were-noted w after k j y (f.steps.0).replies (were-after w mid j.server (side_of j.server y mid) (ends_by j.server f.core) f.core (were-acted w k j y did on)))
step-were w new k j y stepped.NeedBytes on f = were-same w new (ap (λ (z : World). z.circuits) f.3)
step-were w new k j y stepped.OutputFull on f = were-same w new (ap (λ (z : World). z.circuits) f.3)
step-were w new k j y (stepped.Closed why.OutOfMemory left) on f = subst (λ (z : World). Were w z) (sym f.leaves) (go f.lacks.written)
  where
    go : (o : Option (Handle → Bool)) → Were w (server_after j.server (side_of j.server y (unsaid k j y f.lacks.next.action o w)) (ends_here j left j.server f.core) f.core (unsaid k j y f.lacks.next.action o w))
    go None = were-after w w j.server (side_of j.server y w) (ends_here j left j.server f.core) f.core (were-same w w refl)
    go (Some gone) =
        were-after w (acted k j y f.lacks.next.action w) j.server (side_of j.server y (acted k j y f.lacks.next.action w)) (ends_here j left j.server f.core) f.core (were-acted w k j y f.lacks.next.action on)
step-were w new k j y (stepped.Closed cause left) on f =
    subst (λ (z : World). Were w z) (sym f.3) (were-after w w j.server y (ends_here j left j.server y.core) (closed j.at_server y.core) (were-same w w refl))

down-were : (w new : World) (k n : ℕ) (j : Joined) (x : ClientSide) (y : ServerSide) → At w.circuits k j → HappensDown w k n j x y new → Were w new
down-were w new k n j x y on (mid, sent, core, taken, gives, is) =
    let f : Frame mid new = sent-frame mid new j.client x.names sent (ap (λ (z : World). z.servers) is) (ap (λ (z : World). z.server_logs) is) (ap (λ (z : World). z.circuits) is) in
    λ l d at. (let c = f.back l d at in go taken l c.0 c.1)
  where
    go : DownTaken w k n j y mid → Were w mid
    go (inl (opened, (by, sends, same))) = were-same w mid (ap (λ (z : World). z.circuits) same)
    go (inr (shut, same)) = subst (λ (z : World). Were w z) (sym same) (were-frame w (with_circuit k (record j { left_down = drop n j.left_down }) w) (left-frame w k n j on))

post-were : (w new : World) (i : ℕ) (y : ServerSide) (name : List ℕ) (e : Elements) (mask : ℕ) → HappensPost w i y name e mask new → Were w new
post-were w new i y name e mask (gone, core, inl (posts, is)) =
    let told : World = post_told w i y name (record { value = e; meta = unset }) mask in
    subst (λ (z : World). Were w z) (sym is) (were-after w told i y (ends_by i core) core (were-map w told (server.numbers_posted i y.core name mask) refl))
post-were w new i y name e mask (gone, core, inr refused) = were-same w new (ap (λ (z : World). z.circuits) refused.3)

finish-were : (w new : World) (i : ℕ) (y : ServerSide) (name : List ℕ) → HappensFinish w i y name new → Were w new
finish-were w new i y name (inl f) =
    let told : World = finish_told w i y name f.cr f.r f.p in
    subst (λ (z : World). Were w z) (sym f.leaves)
    (were-after w (server.replied_at f.p f.sent told) i (record y { records = server.with_record name server.next_busy y.records }) (ends_by i f.core) f.core
    (λ l d at. (let c = replied-back f.p f.sent told l d at in were-map w told (server.next_numbers i y.core name f.cr.waiting) refl l c.0 c.1)))
finish-were w new i y name (inr refused) = were-same w new (ap (λ (z : World). z.circuits) refused.2)

remove-were : (w new : World) (i : ℕ) (y : ServerSide) (name : List ℕ) → HappensRemove w i y name new → Were w new
remove-were w new i y name (gone, left, core, inl (removes, is)) =
    let told : World = removal_told w i y name gone left in
    subst (λ (z : World). Were w z) (sym is) (were-after w told i (record y { records = filter (λ (r : RecordSide). not (bytes_eq r.name name)) y.records }) (ends_by i core) core (were-map w told (server.removed_at i y.core name gone left) refl))
remove-were w new i y name (gone, left, core, inr (removes, is)) = were-same w new (ap (λ (z : World). z.circuits) is)

add-were : (w new : World) (i : ℕ) (y : ServerSide) (r : RecordState) → server.HappensAdd w i y r new → Were w new
add-were w new i y r (core, behind, inl (adds, is)) = were-same w new (ap (λ (z : World). z.circuits) is)
add-were w new i y r (core, behind, inr refused) = were-same w new (ap (λ (z : World). z.circuits) refused.3)

-- an acceptance makes one more at most
pub accept-were : (w new : World) (i : ℕ) (x : ClientSide) (v : WantsFirst w x) → HappensAccept w i x v new → (l : ℕ) (d : Joined) → At new.circuits l d → (l < length w.circuits) ⊎ (l ≡ length w.circuits)
accept-were w new i x v f l d at = elim f.leaves [
  | inl full ↦ inl (were-same w new (ap (λ (z : World). z.circuits) full.1) l d at)
  | inr made ↦
      let c : Joined = connected_as made.1 (new_circuit i x v.v.circuit v.i v.y made.0) in
      let mid : World = record w { servers = slice_set w.servers v.i (record v.y { core = f.server }); circuits = w.circuits ++ c ∷ [] } in
      let g : Frame mid new = sent-frame mid new i x.names made.2 (ap (λ (z : World). z.servers) made.6) (ap (λ (z : World). z.server_logs) made.6) (ap (λ (z : World). z.circuits) made.6) in
      let b = g.back l d at in
      elim (At-snoc w.circuits c l b.0 b.1) [
        | inl old ↦ inl (At-within w.circuits l b.0 old)
        | inr last ↦ inr last.0
      ]
]

-- ---- every event

abbrev pub IsAccept : Event → Type 0
IsAccept (event.Accept i) = Unit {0}
IsAccept e = ⊥

pub leaves-were : (w new : World) (e : Event) → (IsAccept e → ⊥) → (at : CanBe w e) → Leaves w e at new → Were w new
leaves-were w new (event.Open i name priority) not at l = were-frame w new (open-frame w new i at.x name priority l)
leaves-were w new (event.Clear i c) not at l = were-frame w new (clear-frame w new i at.x c at.h l)
leaves-were w new (event.Read i c data_type count) not at l = were-frame w new (read-frame w new i at.x c at.h data_type count l)
leaves-were w new (event.Write i c e) not at l = were-frame w new (write-frame w new i at.x c at.h e l)
leaves-were w new (event.WriteNotify i c e) not at l = were-frame w new (put-frame w new i at.x c at.h e l)
leaves-were w new (event.Subscribe i c data_type count mask) not at l = were-frame w new (subscribe-frame w new i at.x c at.h data_type count mask l)
leaves-were w new (event.Unsubscribe i n) not at l = were-frame w new (unsubscribe-frame w new i at.x at.s l)
leaves-were w new (event.Collect i r) not at l = were-frame w new (handing-frame w new at.x r at.q.1 (Collected r) l)
leaves-were w new (event.GiveUp i r) not at l = were-frame w new (handing-frame w new at.x r at.q.1 (GaveUp r) l)
leaves-were w new (event.ClientDatagram i from bytes) not at l = were-frame w new (datagram-frame w new i at.x from bytes l)
leaves-were w new (event.ServerDatagram i from bytes) not at l = were-same w new (ap (λ (z : World). z.circuits) l.2)
leaves-were w new (event.Accept i) not at l = absurd (not tt)
leaves-were w new (event.Up k n) not at l =
    let f = up-frame w k n at.0.j at.0.x at.0.joins.at in
    λ m d on. (let c = f.back m d (subst (λ (x : List Joined). At x m d) (ap (λ (z : World). z.circuits) l.2) on) in At-within w.circuits m c.0 c.1)
leaves-were w new (event.Down k n) not at l = down-were w new k n at.0.j at.0.x at.0.y at.0.joins.at l
leaves-were w new (event.ServerStep k) not at l = step-were w new k at.j at.y l.0 at.joins.at l.1
leaves-were w new (event.ClientStep k) not at l = were-frame w new (hear-frame w new k at.j at.x at.joins.at l)
leaves-were w new (event.Pump k) not at l =
    subst (λ (z : World). Were w z) (sym l.leaves) (were-after w (with_circuit k (server.stamped l.updates at.j) w) at.j.server at.y (ends_by at.j.server l.core) l.core (were-set w k at.j (server.stamped l.updates at.j) at.joins.at))
leaves-were w new (event.CutClient k) not at l = were-frame w new (cut-frame w new k at.j at.x at.joins.at l)
leaves-were w new (event.CutServer k) not at l = subst (λ (z : World). Were w z) (sym l.leaves) (were-after w w at.j.server at.y (ends_by at.j.server l.core) l.core (were-same w w refl))
leaves-were w new (event.ClientRestart i) not at l = were-frame w new (begun-frame w new i at.x l)
leaves-were w new (event.ServerRestart i) not at l = were-map w new (ending (server.ends_untold i at.y.core)) (ap (λ (z : World). z.circuits) l)
leaves-were w new (event.Post i name e mask) not at l = post-were w new i at.y name e mask l
leaves-were w new (event.Finish i name) not at l = finish-were w new i at.y name l
leaves-were w new (event.Remove i name) not at l = remove-were w new i at.y name l
leaves-were w new (event.Add i r) not at l = add-were w new i at.y r l
leaves-were w new (event.Tick moment) not at (mid, ticks, is) =
    let f = ticks-frame moment w (clients_below (length w.clients)) mid ticks in
    λ m d on. (let c = f.back m d (subst (λ (x : List Joined). At x m d) (ap (λ (z : World). z.circuits) is) on) in At-within w.circuits m c.0 c.1)
