-- Every event, and every run.
use Rattle.std.proofs.Common.{◌≡◌, ◌⊎◌, ℕ, suc, inl, inr, List, [], ◌∷◌, length, Option, Some, refl, sym, ap, subst}
use Rattle.std.specs.List.{FoldsTo}
use Rattle.ca_text.specs.Place.{At}
use Rattle.ca_model.specs.History.{Collected, GaveUp}
use Rattle.ca_model.specs.Events.{Event}
use Rattle.ca_model.specs.Events as event
use Rattle.ca_model.specs.Runs.{CanBe, Happens, Leaves, Runs, StopsAt, TicksAll, clients_below}
use Rattle.ca_model.specs.World.{IsSetting, ServerSide, Setting, World, opening, server_begun}
use Rattle.ca_laws_parts.specs.Seats.{AllTakeSent, Sound, TakesSent}
use Rattle.ca_laws_parts.proofs.WritesEvents.{numbered-at, writes-opening}
use Rattle.ca_laws_parts.proofs.Frames.{Frame, frame-keeps, frame-self, frame-then}
use Rattle.ca_laws_parts.proofs.HappensAdd.{add-keeps, restart-keeps}
use Rattle.ca_laws_parts.proofs.HappensClient.{accept-keeps, begun-frame, clear-frame, cut-frame, datagram-frame, down-keeps, handing-frame, hear-frame, open-frame, put-frame, read-frame, subscribe-frame, tick-frame, unsubscribe-frame, up-keeps, write-frame}
use Rattle.ca_laws_parts.proofs.HappensPost.{cut-keeps, finish-keeps, post-keeps, pump-keeps, remove-keeps}
use Rattle.ca_laws_parts.proofs.HappensStep.{step-keeps}
use Rattle.ca_laws_parts.proofs.WritesLists.{none_at}
use Rattle.ca_laws_parts.specs.Says.{AreNumbered, Says}
use Rattle.ca_laws_parts.proofs.Says.{Grew, says-grow}
use Rattle.ca_laws_parts.proofs.Grown.{accept-grew, add-grew, cut-grew, down-grew, grew-by, post-grew, pump-grew, remove-grew, restart-grew, up-grew}
use Rattle.ca_laws_parts.proofs.Replied.{finish-grew, step-grew-by}

pub ticks-frame : (moment : ℕ) (w : World) (is : List ℕ) (new : World) → TicksAll moment w is new → Frame w new
ticks-frame moment w [] new same = frame-self w new (ap (λ (z : World). z.servers) (sym same)) (ap (λ (z : World). z.server_logs) (sym same)) (ap (λ (z : World). z.circuits) (sym same))
ticks-frame moment w (i ∷ is) new (mid, one, rest) = frame-then w mid new (tick-frame moment w i mid one) (ticks-frame moment mid is new rest)

-- ---- every event

leaves-sound : (s : Setting) (w new : World) (e : Event) → IsSetting s → TakesSent w → (at : CanBe w e) → Leaves w e at new → Sound s w → Sound s new
leaves-sound s w new (event.Open i name priority) ok t at l h = frame-keeps s w new (open-frame w new i at.x name priority l) h
leaves-sound s w new (event.Clear i c) ok t at l h = frame-keeps s w new (clear-frame w new i at.x c at.h l) h
leaves-sound s w new (event.Read i c data_type count) ok t at l h = frame-keeps s w new (read-frame w new i at.x c at.h data_type count l) h
leaves-sound s w new (event.Write i c e) ok t at l h = frame-keeps s w new (write-frame w new i at.x c at.h e l) h
leaves-sound s w new (event.WriteNotify i c e) ok t at l h = frame-keeps s w new (put-frame w new i at.x c at.h e l) h
leaves-sound s w new (event.Subscribe i c data_type count mask) ok t at l h = frame-keeps s w new (subscribe-frame w new i at.x c at.h data_type count mask l) h
leaves-sound s w new (event.Unsubscribe i n) ok t at l h = frame-keeps s w new (unsubscribe-frame w new i at.x at.s l) h
leaves-sound s w new (event.Collect i r) ok t at l h = frame-keeps s w new (handing-frame w new at.x r at.q.1 (Collected r) l) h
leaves-sound s w new (event.GiveUp i r) ok t at l h = frame-keeps s w new (handing-frame w new at.x r at.q.1 (GaveUp r) l) h
leaves-sound s w new (event.ClientDatagram i from bytes) ok t at l h = frame-keeps s w new (datagram-frame w new i at.x from bytes l) h
leaves-sound s w new (event.ServerDatagram i from bytes) ok t at l h = subst (λ (z : World). Sound s z) (sym l.2) h
leaves-sound s w new (event.Accept i) ok t at l h = accept-keeps s w new i at.x at.v l h
leaves-sound s w new (event.Up k n) ok t at l h = up-keeps s w new k n at.0.j at.0.x at.0.y at.0.joins.at at.0.joins.server l h
leaves-sound s w new (event.Down k n) ok t at l h = down-keeps s w new k n at.0.j at.0.x at.0.y at.0.joins.at at.0.joins.server l h
leaves-sound s w new (event.ServerStep k) ok t at l h = step-keeps s w new k at.j at.y l.0 at.joins.at at.joins.server at.is_open t l.1 h
leaves-sound s w new (event.ClientStep k) ok t at l h = frame-keeps s w new (hear-frame w new k at.j at.x at.joins.at l) h
leaves-sound s w new (event.Pump k) ok t at l h = pump-keeps s w new k at.j at.y at.joins.at at.joins.server l h
leaves-sound s w new (event.CutClient k) ok t at l h = frame-keeps s w new (cut-frame w new k at.j at.x at.joins.at l) h
leaves-sound s w new (event.CutServer k) ok t at l h = cut-keeps s w new k at.j at.y at.joins.server l h
leaves-sound s w new (event.ClientRestart i) ok t at l h = frame-keeps s w new (begun-frame w new i at.x l) h
leaves-sound s w new (event.ServerRestart i) ok t at l h = restart-keeps s w new i at.y ok at.at l h
leaves-sound s w new (event.Post i name e mask) ok t at l h = post-keeps s w new i at.y name e mask at.at l h
leaves-sound s w new (event.Finish i name) ok t at l h = finish-keeps s w new i at.y name at.at l h
leaves-sound s w new (event.Remove i name) ok t at l h = remove-keeps s w new i at.y name at.at l h
leaves-sound s w new (event.Add i r) ok t at l h = add-keeps s w new i at.y r at.at l h
leaves-sound s w new (event.Tick moment) ok t at (mid, ticks, is) h =
    frame-keeps s w new (frame-then w mid new (ticks-frame moment w (clients_below (length w.clients)) mid ticks)
    (frame-self mid new (ap (λ (z : World). z.servers) is) (ap (λ (z : World). z.server_logs) is) (ap (λ (z : World). z.circuits) is))) h

pub event-sound : (s : Setting) (w new : World) (e : Event) → IsSetting s → TakesSent w → Happens w e new → Sound s w → Sound s new
event-sound s w new e ok t happens h = leaves-sound s w new e ok t happens.0 happens.1 h

-- ---- before any event

pub opening-sound : (s : Setting) → IsSetting s → Sound s (opening s)
opening-sound s ok = record {
  writes = writes-opening s ok;
  seated = record { each = λ n c at opened. absurd (none_at n c at); one = λ n m c d p q same a b handles. absurd (none_at n c p) };
  within = λ n c at. absurd (none_at n c at);
  given = λ i y at.
      let g = numbered-at (server_begun 0) s.servers 0 i y at in
      subst (λ (z : ServerSide). At s.servers i z.setting) (sym g.2) g.1;
}

-- ---- every run

pub events-sound : (s : Setting) (es : List Event) (w new : World) → IsSetting s → FoldsTo Happens w es new → AllTakeSent w es → Sound s w → Sound s new
events-sound s [] w new ok same t h = subst (λ (z : World). Sound s z) same h
events-sound s (e ∷ es) w new ok (mid, one, rest) t h =
    events-sound s es mid new ok rest (λ n v folds. t (suc n) v (mid, one, folds)) (event-sound s w mid e ok (t 0 w refl) one h)

stops-sound : (s : Setting) (mid : World) (stopped : Option Event) (w : World) → StopsAt mid stopped w → Sound s mid → Sound s w
stops-sound s mid (Some (event.Tick moment)) w stops h = elim stops [
  | inl same ↦ subst (λ (z : World). Sound s z) (sym same) h
  | inr ticked ↦ frame-keeps s mid w (ticks-frame moment mid (clients_below ticked.0) w ticked.3) h
]
stops-sound s mid stopped w stops h = subst (λ (z : World). Sound s z) (sym stops) h

pub run-sound : (s : Setting) (es : List Event) (stopped : Option Event) (w : World) → IsSetting s → Runs s es stopped w → AllTakeSent (opening s) es → Sound s w
run-sound s es stopped w ok (mid, folds, stops) t = stops-sound s mid stopped w stops (events-sound s es (opening s) mid ok folds t (opening-sound s ok))

-- ---- what replies say

leaves-grew : (s : Setting) (w new : World) (e : Event) → TakesSent w → AreNumbered w → (at : CanBe w e) → Leaves w e at new → Sound s w → (new ≡ w) ⊎ Grew w new
leaves-grew s w new (event.Open i name priority) t u at l h = inr (grew-by w new new (open-frame w new i at.x name priority l) refl refl)
leaves-grew s w new (event.Clear i c) t u at l h = inr (grew-by w new new (clear-frame w new i at.x c at.h l) refl refl)
leaves-grew s w new (event.Read i c data_type count) t u at l h = inr (grew-by w new new (read-frame w new i at.x c at.h data_type count l) refl refl)
leaves-grew s w new (event.Write i c e) t u at l h = inr (grew-by w new new (write-frame w new i at.x c at.h e l) refl refl)
leaves-grew s w new (event.WriteNotify i c e) t u at l h = inr (grew-by w new new (put-frame w new i at.x c at.h e l) refl refl)
leaves-grew s w new (event.Subscribe i c data_type count mask) t u at l h = inr (grew-by w new new (subscribe-frame w new i at.x c at.h data_type count mask l) refl refl)
leaves-grew s w new (event.Unsubscribe i n) t u at l h = inr (grew-by w new new (unsubscribe-frame w new i at.x at.s l) refl refl)
leaves-grew s w new (event.Collect i r) t u at l h = inr (grew-by w new new (handing-frame w new at.x r at.q.1 (Collected r) l) refl refl)
leaves-grew s w new (event.GiveUp i r) t u at l h = inr (grew-by w new new (handing-frame w new at.x r at.q.1 (GaveUp r) l) refl refl)
leaves-grew s w new (event.ClientDatagram i from bytes) t u at l h = inr (grew-by w new new (datagram-frame w new i at.x from bytes l) refl refl)
leaves-grew s w new (event.ServerDatagram i from bytes) t u at l h = inl l.2
leaves-grew s w new (event.Accept i) t u at l h = accept-grew w new i at.x at.v l
leaves-grew s w new (event.Up k n) t u at l h = inr (up-grew w new k n at.0.j at.0.x at.0.y at.0.joins.at l)
leaves-grew s w new (event.Down k n) t u at l h = inr (down-grew w new k n at.0.j at.0.x at.0.y at.0.joins.at l)
leaves-grew s w new (event.ServerStep k) t u at l h = step-grew-by s w new k at.j at.y l.0 at.joins.at at.joins.server at.is_open t h l.1
leaves-grew s w new (event.ClientStep k) t u at l h = inr (grew-by w new new (hear-frame w new k at.j at.x at.joins.at l) refl refl)
leaves-grew s w new (event.Pump k) t u at l h = inr (pump-grew w new k at.j at.y at.joins.at at.joins.server at.is_open u l)
leaves-grew s w new (event.CutClient k) t u at l h = inr (grew-by w new new (cut-frame w new k at.j at.x at.joins.at l) refl refl)
leaves-grew s w new (event.CutServer k) t u at l h = inr (cut-grew w new k at.j at.y l)
leaves-grew s w new (event.ClientRestart i) t u at l h = inr (grew-by w new new (begun-frame w new i at.x l) refl refl)
leaves-grew s w new (event.ServerRestart i) t u at l h = inr (restart-grew w new i at.y l)
leaves-grew s w new (event.Post i name e mask) t u at l h = inr (post-grew w new i at.y name e mask l)
leaves-grew s w new (event.Finish i name) t u at l h = finish-grew s w new i at.y name at.at h l
leaves-grew s w new (event.Remove i name) t u at l h = remove-grew w new i at.y name l
leaves-grew s w new (event.Add i r) t u at l h = add-grew w new i at.y r l
leaves-grew s w new (event.Tick moment) t u at (mid, ticks, is) h =
    inr (grew-by w mid new (ticks-frame moment w (clients_below (length w.clients)) mid ticks) (ap (λ (z : World). z.server_logs) is) (ap (λ (z : World). z.circuits) is))

pub event-says : (s : Setting) (w new : World) (e : Event) → IsSetting s → TakesSent w → AreNumbered w → Happens w e new → Sound s w → Says w → Says new
event-says s w new e ok t u happens h says = elim (leaves-grew s w new e t u happens.0 happens.1 h) [
  | inl same ↦ subst (λ (z : World). Says z) (sym same) says
  | inr grew ↦ says-grow s w new h (event-sound s w new e ok t happens h) grew says
]

pub opening-says : (s : Setting) → Says (opening s)
opening-says s = record { so = λ n c y at. absurd (none_at n c at); about = λ n i c t at. absurd (none_at n c at) }
