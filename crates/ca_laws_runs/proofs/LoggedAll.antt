-- What holds of open ends and their circuits by their servers' logs stays so over every
-- event, and over runs.
use Rattle.std.proofs.Common.{◌≡◌, ℕ, suc, inl, inr, true, List, [], ◌∷◌, length, Option, Some, refl, sym, ap, subst}
use Rattle.std.specs.List.{FoldsTo}
use Rattle.ca_text.specs.Place.{At}
use Rattle.ca_model.specs.History.{Collected, Entry, GaveUp}
use Rattle.ca_model.specs.Server.{ServerEnd}
use Rattle.ca_model.specs.Events.{Event}
use Rattle.ca_model.specs.Events as event
use Rattle.ca_model.specs.Runs.{CanBe, Happens, Leaves, Runs, StopsAt, clients_below}
use Rattle.ca_model.specs.World.{IsSetting, Joined, RecordSide, ServerSide, Setting, World, opening}
use Rattle.ca_laws_parts.specs.Moves.{Writes}
use Rattle.ca_laws_parts.specs.Seats.{AllTakeSent, Sound, TakesSent}
use Rattle.ca_laws_parts.proofs.Every.{event-sound, opening-sound, ticks-frame}
use Rattle.ca_laws_parts.proofs.Frames.{frame-self, goes-self}
use Rattle.ca_laws_parts.proofs.HappensClient.{begun-frame, clear-frame, cut-frame, datagram-frame, handing-frame, hear-frame, open-frame, put-frame, read-frame, subscribe-frame, unsubscribe-frame, write-frame}
use Rattle.ca_laws_parts.proofs.WritesLists.{none_at}
use Rattle.ca_laws_runs.proofs.Logged.{AllEnds, Begins, Handled, Lasting, frame-lasts}
use Rattle.ca_laws_runs.proofs.LoggedEvents.{accept-lasts, add-lasts, cut-lasts, down-lasts, post-lasts, pump-lasts, remove-lasts, restart-lasts, up-lasts}
use Rattle.ca_laws_runs.proofs.LoggedStep.{HandledHere, finish-lasts, life-tells, step-lasts}

module _ (P : ℕ → List Entry → List RecordSide → ServerEnd → Joined → Type 0) (k : Lasting P) (b : Begins P) where
  -- in this world the message that is handled next on a circuit keeps it
  abbrev pub HandledIn : World → Type 0
  HandledIn w = (m : ℕ) (j : Joined) (y : ServerSide) (server : At w.servers j.server y) (wr : Writes w) → At w.circuits m j → j.lists.server_open ≡ true → HandledHere P k m j y (wr.lives j.server y server).log

  leaves-lasts : (s : Setting) (w new : World) (e : Event) → HandledIn w → TakesSent w → (at : CanBe w e) → Leaves w e at new → Sound s w → AllEnds P w → AllEnds P new
  leaves-lasts s w new (event.Open i name priority) g t at l h all = frame-lasts P k w new (open-frame w new i at.x name priority l) all
  leaves-lasts s w new (event.Clear i c) g t at l h all = frame-lasts P k w new (clear-frame w new i at.x c at.h l) all
  leaves-lasts s w new (event.Read i c data_type count) g t at l h all = frame-lasts P k w new (read-frame w new i at.x c at.h data_type count l) all
  leaves-lasts s w new (event.Write i c e) g t at l h all = frame-lasts P k w new (write-frame w new i at.x c at.h e l) all
  leaves-lasts s w new (event.WriteNotify i c e) g t at l h all = frame-lasts P k w new (put-frame w new i at.x c at.h e l) all
  leaves-lasts s w new (event.Subscribe i c data_type count mask) g t at l h all = frame-lasts P k w new (subscribe-frame w new i at.x c at.h data_type count mask l) all
  leaves-lasts s w new (event.Unsubscribe i n) g t at l h all = frame-lasts P k w new (unsubscribe-frame w new i at.x at.s l) all
  leaves-lasts s w new (event.Collect i r) g t at l h all = frame-lasts P k w new (handing-frame w new at.x r at.q.1 (Collected r) l) all
  leaves-lasts s w new (event.GiveUp i r) g t at l h all = frame-lasts P k w new (handing-frame w new at.x r at.q.1 (GaveUp r) l) all
  leaves-lasts s w new (event.ClientDatagram i from bytes) g t at l h all = frame-lasts P k w new (datagram-frame w new i at.x from bytes l) all
  leaves-lasts s w new (event.ServerDatagram i from bytes) g t at l h all = subst (λ (z : World). AllEnds P z) (sym l.2) all
  leaves-lasts s w new (event.Accept i) g t at l h all = accept-lasts P k w new i at.x at.v b l h.seated all
  leaves-lasts s w new (event.Up m n) g t at l h all = up-lasts P k w new m n at.0.j at.0.x at.0.y at.0.joins.at at.0.joins.server l all
  leaves-lasts s w new (event.Down m n) g t at l h all = down-lasts P k w new m n at.0.j at.0.x at.0.y at.0.joins.at at.0.joins.server l all
  leaves-lasts s w new (event.ServerStep m) g t at l h all =
      step-lasts P k w new m at.j at.y l.0 at.joins.server h.writes
      (g m at.j at.y at.joins.server h.writes at.joins.at at.is_open)
      at.joins.at at.is_open t l.1 h.seated all
  leaves-lasts s w new (event.ClientStep m) g t at l h all = frame-lasts P k w new (hear-frame w new m at.j at.x at.joins.at l) all
  leaves-lasts s w new (event.Pump m) g t at l h all = pump-lasts P k w new m at.j at.y at.joins.at at.joins.server at.is_open l h.writes h.seated all
  leaves-lasts s w new (event.CutClient m) g t at l h all = frame-lasts P k w new (cut-frame w new m at.j at.x at.joins.at l) all
  leaves-lasts s w new (event.CutServer m) g t at l h all = cut-lasts P k w new m at.j at.y at.joins.server l h.writes h.seated all
  leaves-lasts s w new (event.ClientRestart i) g t at l h all = frame-lasts P k w new (begun-frame w new i at.x l) all
  leaves-lasts s w new (event.ServerRestart i) g t at l h all = restart-lasts P k w new i at.y at.at l h.writes all
  leaves-lasts s w new (event.Post i name e mask) g t at l h all = post-lasts P k w new i at.y name e mask at.at l h.writes h.seated all
  leaves-lasts s w new (event.Finish i name) g t at l h all = finish-lasts P k w new i at.y name at.at l h.writes h.seated all
  leaves-lasts s w new (event.Remove i name) g t at l h all = remove-lasts P k w new i at.y name at.at l h.writes h.seated all
  leaves-lasts s w new (event.Add i r) g t at l h all = add-lasts P k w new i at.y r at.at l h.writes all
  leaves-lasts s w new (event.Tick moment) g t at (mid, ticks, is) h all =
      frame-lasts P k mid new (frame-self mid new (ap (λ (z : World). z.servers) is) (ap (λ (z : World). z.server_logs) is) (ap (λ (z : World). z.circuits) is))
      (frame-lasts P k w mid (ticks-frame moment w (clients_below (length w.clients)) mid ticks) all)

  pub event-lasts-if : (s : Setting) (w new : World) (e : Event) → HandledIn w → TakesSent w → Happens w e new → Sound s w → AllEnds P w → AllEnds P new
  event-lasts-if s w new e g t happens h all = leaves-lasts s w new e g t happens.0 happens.1 h all

-- So it is if each message that is handled keeps it.
module _ (P : ℕ → List Entry → List RecordSide → ServerEnd → Joined → Type 0) (k : Lasting P) (b : Begins P) (g : Handled P) where
  handled-in : (w : World) → HandledIn P k b w
  handled-in w m j y server wr at opened e taken made x replies did step has held sent due acts logged_is sent_is p =
      let log : List Entry = (wr.lives j.server y server).log in
      g m log y.records y.core taken made x replies did step j sent due acts logged_is (life-tells w j.server y wr server) (k.stays m log y.records e taken j j held (goes-self j) p)

  pub event-lasts : (s : Setting) (w new : World) (e : Event) → TakesSent w → Happens w e new → Sound s w → AllEnds P w → AllEnds P new
  event-lasts s w new e t happens h all = event-lasts-if P k b s w new e (handled-in w) t happens h all

  pub opening-lasts : (s : Setting) → AllEnds P (opening s)
  opening-lasts s n c y e log at = absurd (none_at n c at)

  events-last : (s : Setting) (es : List Event) (w new : World) → IsSetting s → FoldsTo Happens w es new → AllTakeSent w es → Sound s w → AllEnds P w → AllEnds P new
  events-last s [] w new ok same t h all = subst (λ (z : World). AllEnds P z) same all
  events-last s (e ∷ es) w new ok (mid, one, rest) t h all =
      events-last s es mid new ok rest (λ n v folds. t (suc n) v (mid, one, folds)) (event-sound s w mid e ok (t 0 w refl) one h) (event-lasts s w mid e (t 0 w refl) one h all)

  stops-last : (mid : World) (stopped : Option Event) (w : World) → StopsAt mid stopped w → AllEnds P mid → AllEnds P w
  stops-last mid (Some (event.Tick moment)) w stops all = elim stops [
    | inl same ↦ subst (λ (z : World). AllEnds P z) (sym same) all
    | inr ticked ↦ frame-lasts P k mid w (ticks-frame moment mid (clients_below ticked.0) w ticked.3) all
  ]
  stops-last mid stopped w stops all = subst (λ (z : World). AllEnds P z) (sym stops) all

  pub run-lasts : (s : Setting) (es : List Event) (stopped : Option Event) (w : World) → IsSetting s → Runs s es stopped w → AllTakeSent (opening s) es → AllEnds P w
  run-lasts s es stopped w ok (mid, folds, stops) t =
      stops-last mid stopped w stops (events-last s es (opening s) mid ok folds t (opening-sound s ok) (opening-lasts s))
