-- No event makes servers more or fewer.
use Rattle.std.proofs.Common.{◌≡◌, ℕ, suc, zero, ◌+◌, inl, inr, Bool, List, [], ◌∷◌, length, Option, Some, None, refl, sym, ap, subst, ◌∙◌}
use Rattle.std.specs.Prelude.{filter, not, option_map, slice_get, slice_set, unwrap_or}
use Rattle.std.specs.List.{FoldsTo}
use Rattle.std.specs.Str.{bytes_eq}
use Rattle.ca_arena.specs.declared.handle.Handle.{Handle}
use Rattle.ca_dbr.specs.Elements.{Elements}
use Rattle.ca_records.specs.Record.{RecordState, unset}
use Rattle.ca_model.specs.Due.{Action}
use Rattle.ca_model.specs.Ends as why
use Rattle.ca_model.specs.History.{Collected, GaveUp, Step}
use Rattle.ca_model.specs.Server.{Server}
use Rattle.ca_model.specs.ServerSteps.{Stepped, closed}
use Rattle.ca_model.specs.ServerSteps as stepped
use Rattle.ca_model.specs.ClientEvents.{DownTaken, up_taken}
use Rattle.ca_model.specs.Events.{Event}
use Rattle.ca_model.specs.Events as event
use Rattle.ca_model.specs.Runs.{CanBe, Happens, Leaves, Runs, StopsAt, clients_below}
use Rattle.ca_model.specs.ServerEvents.{HappensAdd, HappensFinish, HappensPost, HappensRemove, ServerStepped, acted, ends_by, ends_here, handled_at, logged, server_after, side_of, stamped, unsaid}
use Rattle.ca_model.specs.ServerEvents as server
use Rattle.ca_model.specs.World.{Joined, RecordSide, ServerSide, Setting, World, numbered, opening, server_begun, with_circuit}
use Rattle.ca_laws_parts.specs.Moves.{finish_told, post_told, removal_told}
use Rattle.ca_laws_parts.proofs.Every.{ticks-frame}
use Rattle.ca_laws_parts.proofs.Frames.{Frame}
use Rattle.ca_laws_parts.proofs.HappensClient.{begun-frame, clear-frame, cut-frame, datagram-frame, handing-frame, hear-frame, open-frame, put-frame, read-frame, subscribe-frame, unsubscribe-frame, up-frame, write-frame}
use Rattle.ca_laws_parts.proofs.LastingStep.{told-servers}

-- as many servers
abbrev pub AsMany : World → World → Type 0
AsMany w new = length new.servers ≡ length w.servers

pub set-count : {A : Type 0} (xs : List A) (i : ℕ) (y : A) → length (slice_set xs i y) ≡ length xs
set-count [] i y = refl
set-count (x ∷ xs) zero y = refl
set-count (x ∷ xs) (suc i) y = ap (λ (n : ℕ). suc n) (set-count xs i y)

same-many : (w new : World) → new.servers ≡ w.servers → AsMany w new
same-many w new is = ap (λ (l : List ServerSide). length l) is

set-many : (w new : World) (i : ℕ) (z : ServerSide) → new.servers ≡ slice_set w.servers i z → AsMany w new
set-many w new i z is = ap (λ (l : List ServerSide). length l) is ∙ set-count w.servers i z

after-many : (w mid : World) (i : ℕ) (side : ServerSide) (ends : Joined → Option (List ℕ)) (core : Server) → AsMany w mid → AsMany w (server_after i side ends core mid)
after-many w mid i side ends core same = set-count mid.servers i _ ∙ same

acted-many : (w : World) (k : ℕ) (j : Joined) (y : ServerSide) (did : Action) → AsMany w (acted k j y did w)
acted-many w k j y did = set-count w.servers j.server _

stepped-many : (w new : World) (k : ℕ) (j : Joined) (y : ServerSide) (did : Stepped) → ServerStepped w k j y did new → AsMany w new
stepped-many w new k j y stepped.Handled f = subst (λ (z : World). AsMany w z) (sym f.leaves) (go (slice_get after.circuits k))
  where
    mid : World
    mid = acted k j y (f.steps.0).action w

    after : World
    after = server_after j.server (side_of j.server y mid) (ends_by j.server f.core) f.core mid

    step : Step
    step = record { sent = length j.lists.down; logged = logged y w; after = logged y after }

    first : AsMany w after
    first = after-many w mid j.server (side_of j.server y mid) (ends_by j.server f.core) f.core (acted-many w k j y (f.steps.0).action)

    go : (o : Option Joined) → AsMany w (unwrap_or (option_map (λ (c : Joined). with_circuit k (handled_at (length j.lists.handled) step (f.steps.0).replies c) after) o) after)
    go None = first
    go (Some c) = first
stepped-many w new k j y stepped.NeedBytes f = same-many w new (ap (λ (z : World). z.servers) f.3)
stepped-many w new k j y stepped.OutputFull f = same-many w new (ap (λ (z : World). z.servers) f.3)
stepped-many w new k j y (stepped.Closed why.OutOfMemory left) f = subst (λ (z : World). AsMany w z) (sym f.leaves) (go f.lacks.written)
  where
    go : (o : Option (Handle → Bool)) → AsMany w (server_after j.server (side_of j.server y (unsaid k j y f.lacks.next.action o w)) (ends_here j left j.server f.core) f.core (unsaid k j y f.lacks.next.action o w))
    go None = after-many w w j.server (side_of j.server y w) (ends_here j left j.server f.core) f.core refl
    go (Some gone) = after-many w (acted k j y f.lacks.next.action w) j.server (side_of j.server y (acted k j y f.lacks.next.action w)) (ends_here j left j.server f.core) f.core (acted-many w k j y f.lacks.next.action)
stepped-many w new k j y (stepped.Closed cause left) f = subst (λ (z : World). AsMany w z) (sym f.3) (after-many w w j.server y (ends_here j left j.server y.core) (closed j.at_server y.core) refl)

post-many : (w new : World) (i : ℕ) (y : ServerSide) (name : List ℕ) (e : Elements) (mask : ℕ) → HappensPost w i y name e mask new → AsMany w new
post-many w new i y name e mask (gone, core, inl (posts, is)) = subst (λ (z : World). AsMany w z) (sym is) (after-many w (post_told w i y name (record { value = e; meta = unset }) mask) i y (ends_by i core) core refl)
post-many w new i y name e mask (gone, core, inr refused) = same-many w new (ap (λ (z : World). z.servers) refused.3)

finish-many : (w new : World) (i : ℕ) (y : ServerSide) (name : List ℕ) → HappensFinish w i y name new → AsMany w new
finish-many w new i y name (inl f) =
    let side : ServerSide = record y { records = server.with_record name server.next_busy y.records } in
    let told : World = finish_told w i y name f.cr f.r f.p in
    subst (λ (z : World). AsMany w z) (sym f.leaves)
    (after-many w (server.replied_at f.p f.sent told) i side (ends_by i f.core) f.core (ap (λ (l : List ServerSide). length l) (told-servers f.p f.sent told) ∙ set-count w.servers i side))
finish-many w new i y name (inr refused) = same-many w new (ap (λ (z : World). z.servers) refused.2)

remove-many : (w new : World) (i : ℕ) (y : ServerSide) (name : List ℕ) → HappensRemove w i y name new → AsMany w new
remove-many w new i y name (gone, left, core, inl (removes, is)) =
    let side : ServerSide = record y { records = filter (λ (r : RecordSide). not (bytes_eq r.name name)) y.records } in
    subst (λ (z : World). AsMany w z) (sym is) (after-many w (removal_told w i y name gone left) i side (ends_by i core) core (set-count w.servers i side))
remove-many w new i y name (gone, left, core, inr (removes, is)) = same-many w new (ap (λ (z : World). z.servers) is)

add-many : (w new : World) (i : ℕ) (y : ServerSide) (r : RecordState) → HappensAdd w i y r new → AsMany w new
add-many w new i y r (core, behind, inl (adds, is)) = set-many w new i _ (ap (λ (z : World). z.servers) is)
add-many w new i y r (core, behind, inr refused) = same-many w new (ap (λ (z : World). z.servers) refused.3)

frame-many : (w new : World) → Frame w new → AsMany w new
frame-many w new f = same-many w new f.servers

leaves-many : (w new : World) (e : Event) → (at : CanBe w e) → Leaves w e at new → AsMany w new
leaves-many w new (event.Open i name priority) at l = frame-many w new (open-frame w new i at.x name priority l)
leaves-many w new (event.Clear i c) at l = frame-many w new (clear-frame w new i at.x c at.h l)
leaves-many w new (event.Read i c data_type count) at l = frame-many w new (read-frame w new i at.x c at.h data_type count l)
leaves-many w new (event.Write i c e) at l = frame-many w new (write-frame w new i at.x c at.h e l)
leaves-many w new (event.WriteNotify i c e) at l = frame-many w new (put-frame w new i at.x c at.h e l)
leaves-many w new (event.Subscribe i c data_type count mask) at l = frame-many w new (subscribe-frame w new i at.x c at.h data_type count mask l)
leaves-many w new (event.Unsubscribe i n) at l = frame-many w new (unsubscribe-frame w new i at.x at.s l)
leaves-many w new (event.Collect i r) at l = frame-many w new (handing-frame w new at.x r at.q.1 (Collected r) l)
leaves-many w new (event.GiveUp i r) at l = frame-many w new (handing-frame w new at.x r at.q.1 (GaveUp r) l)
leaves-many w new (event.ClientDatagram i from bytes) at l = frame-many w new (datagram-frame w new i at.x from bytes l)
leaves-many w new (event.ServerDatagram i from bytes) at l = same-many w new (ap (λ (z : World). z.servers) l.2)
leaves-many w new (event.Accept i) at l = elim l.leaves [
  | inl full ↦ same-many w new (ap (λ (z : World). z.servers) full.1)
  | inr made ↦ set-many w new at.v.i (record at.v.y { core = l.server }) (ap (λ (z : World). z.servers) made.6)
]
leaves-many w new (event.Up k n) at l =
    set-many (up_taken k n at.0.j at.0.x w) new at.0.j.server (record at.0.y { core = l.0 }) (ap (λ (z : World). z.servers) l.2) ∙ frame-many w (up_taken k n at.0.j at.0.x w) (up-frame w k n at.0.j at.0.x at.0.joins.at)
leaves-many w new (event.Down k n) at (mid, sent, core, taken, gives, is) = same-many mid new (ap (λ (z : World). z.servers) is) ∙ go taken
  where
    go : DownTaken w k n at.0.j at.0.y mid → AsMany w mid
    go (inl (opened, (after, sends, leaves))) = set-many w mid at.0.j.server (record at.0.y { core = after }) (ap (λ (z : World). z.servers) leaves)
    go (inr (shut, leaves)) = same-many w mid (ap (λ (z : World). z.servers) leaves)
leaves-many w new (event.ServerStep k) at l = stepped-many w new k at.j at.y l.0 l.1
leaves-many w new (event.ClientStep k) at l = frame-many w new (hear-frame w new k at.j at.x at.joins.at l)
leaves-many w new (event.Pump k) at l = subst (λ (z : World). AsMany w z) (sym l.leaves) (after-many w (with_circuit k (stamped l.updates at.j) w) at.j.server at.y (ends_by at.j.server l.core) l.core refl)
leaves-many w new (event.CutClient k) at l = frame-many w new (cut-frame w new k at.j at.x at.joins.at l)
leaves-many w new (event.CutServer k) at l = subst (λ (z : World). AsMany w z) (sym l.leaves) (after-many w w at.j.server at.y (ends_by at.j.server l.core) l.core refl)
leaves-many w new (event.ClientRestart i) at l = frame-many w new (begun-frame w new i at.x l)
leaves-many w new (event.ServerRestart i) at l = set-many w new i (server_begun w.moment (length w.server_logs) at.y.setting) (ap (λ (z : World). z.servers) l)
leaves-many w new (event.Post i name e mask) at l = post-many w new i at.y name e mask l
leaves-many w new (event.Finish i name) at l = finish-many w new i at.y name l
leaves-many w new (event.Remove i name) at l = remove-many w new i at.y name l
leaves-many w new (event.Add i r) at l = add-many w new i at.y r l
leaves-many w new (event.Tick moment) at (mid, ticks, is) = same-many mid new (ap (λ (z : World). z.servers) is) ∙ frame-many w mid (ticks-frame moment w (clients_below (length w.clients)) mid ticks)

-- ---- every run

events-many : (es : List Event) (w new : World) → FoldsTo Happens w es new → AsMany w new
events-many [] w new same = ap (λ (z : World). length z.servers) (sym same)
events-many (e ∷ es) w new (mid, one, rest) = events-many es mid new rest ∙ leaves-many w mid e one.0 one.1

stops-many : (mid : World) (stopped : Option Event) (w : World) → StopsAt mid stopped w → AsMany mid w
stops-many mid (Some (event.Tick moment)) w stops = elim stops [
  | inl same ↦ ap (λ (z : World). length z.servers) same
  | inr ticked ↦ frame-many mid w (ticks-frame moment mid (clients_below ticked.0) w ticked.3)
]
stops-many mid stopped w stops = ap (λ (z : World). length z.servers) stops

numbered-count : {A B : Type 0} (f : ℕ → A → B) (xs : List A) (n : ℕ) → length (numbered n f xs) ≡ length xs
numbered-count f [] n = refl
numbered-count f (x ∷ xs) n = ap (λ (k : ℕ). suc k) (numbered-count f xs (n + 1))

-- there are as many as were given
pub run-many : (s : Setting) (es : List Event) (stopped : Option Event) (w : World) → Runs s es stopped w → length w.servers ≡ length s.servers
run-many s es stopped w (mid, folds, stops) = stops-many mid stopped w stops ∙ events-many es (opening s) mid folds ∙ numbered-count (server_begun 0) s.servers 0
