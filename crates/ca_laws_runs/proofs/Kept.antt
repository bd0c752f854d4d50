-- Every event keeps what was sent by all clients, and so does every run.
use Rattle.std.proofs.Common.{◌≡◌, ℕ, zero, suc, ◌+◌, inl, inr, List, [], ◌∷◌, Option, Some, refl, sym, subst}
use Rattle.std.specs.Prelude.{length}
use Rattle.std.specs.List.{FoldsTo}
use Rattle.ca_text.specs.Place.{At}
use Rattle.ca_text.proofs.Places.{some_is}
use Rattle.ca_model.specs.ClientEvents.{TicksOne}
use Rattle.ca_model.specs.Events.{Event}
use Rattle.ca_model.specs.Events as event
use Rattle.ca_model.specs.Runs.{Happens, Runs, StopsAt, clients_below}
use Rattle.ca_model.specs.World.{ClientSide, Setting, World, addresses, client_begun, numbered, opening}
use Rattle.ca_laws_parts.specs.Clients.{ClientsStand}
use Rattle.ca_laws_parts.proofs.RunsEvents.{stands-happens, stands-opening}
use Rattle.ca_laws_runs.specs.Quiet.{ClientsQuiet, Tidy}
use Rattle.ca_laws_runs.proofs.HeardClients.{quiet-accept, quiet-clear, quiet-client-restart, quiet-client-step, quiet-cut-client, quiet-datagram, quiet-down, quiet-open, quiet-read, quiet-subscribe, quiet-ticks, quiet-unsubscribe, quiet-up, quiet-write, quiet-write-notify, tidy-new}
use Rattle.ca_laws_runs.proofs.HeardEnds.{all-same, quiet-same}
use Rattle.ca_laws_runs.proofs.HeardServers.{quiet-add, quiet-cut-server, quiet-finish, quiet-post, quiet-pump, quiet-remove, quiet-server-restart, quiet-server-step}

pub quiet-happens : (w new : World) (e : Event) → ClientsStand w → ClientsQuiet w → Happens w e new → ClientsQuiet new
quiet-happens w new (event.Open i name priority) c s happens = quiet-open w new i happens.0.x happens.0.at c s name priority happens.1
quiet-happens w new (event.Clear i k) c s happens = quiet-clear w new i happens.0.x happens.0.at c s k happens.0.h happens.1
quiet-happens w new (event.Read i k data_type count) c s happens = quiet-read w new i happens.0.x happens.0.at c s k happens.0.h data_type count happens.0.named happens.1
quiet-happens w new (event.Write i k e) c s happens = quiet-write w new i happens.0.x happens.0.at c s k happens.0.h e happens.1
quiet-happens w new (event.WriteNotify i k e) c s happens = quiet-write-notify w new i happens.0.x happens.0.at c s k happens.0.h e happens.0.named happens.1
quiet-happens w new (event.Subscribe i k data_type count mask) c s happens = quiet-subscribe w new i happens.0.x happens.0.at c s k happens.0.h data_type count mask happens.0.named happens.1
quiet-happens w new (event.Unsubscribe i n) c s happens = quiet-unsubscribe w new i happens.0.x happens.0.at c s happens.0.s happens.1
quiet-happens w new (event.Collect i r) c s happens = subst (λ (v : World). ClientsQuiet v) (sym happens.1.2) (quiet-same w _ refl (all-same w.circuits) s)
quiet-happens w new (event.GiveUp i r) c s happens = subst (λ (v : World). ClientsQuiet v) (sym happens.1.2) (quiet-same w _ refl (all-same w.circuits) s)
quiet-happens w new (event.ClientDatagram i from bytes) c s happens = quiet-datagram w new i happens.0.x happens.0.at c s from bytes happens.1
quiet-happens w new (event.ServerDatagram i from bytes) c s happens = subst (λ (v : World). ClientsQuiet v) (sym happens.1.2) s
quiet-happens w new (event.Accept i) c s happens = quiet-accept w new i happens.0.x happens.0.v happens.0.at c s happens.1
quiet-happens w new (event.Up k n) c s happens = (let h = happens.0.0 in quiet-up w new k h.j h.x h.joins.at h.joins.client s n h.y happens.1)
quiet-happens w new (event.Down k n) c s happens = (let h = happens.0.0 in quiet-down w new k h.j h.x h.joins.at h.joins.client s n h.y happens.1)
quiet-happens w new (event.ServerStep k) c s happens = (let h = happens.0 in quiet-server-step w new k h.j h.y h.joins.at s happens.1)
quiet-happens w new (event.ClientStep k) c s happens = (let h = happens.0 in quiet-client-step w new k h.j h.x h.joins.at h.joins.client s h.is_open c happens.1)
quiet-happens w new (event.Pump k) c s happens = (let h = happens.0 in quiet-pump w new k h.j h.y h.joins.at s happens.1)
quiet-happens w new (event.CutClient k) c s happens = (let h = happens.0 in quiet-cut-client w new k h.j h.x h.joins.at h.joins.client s happens.1)
quiet-happens w new (event.CutServer k) c s happens = (let h = happens.0 in quiet-cut-server w new k h.j h.y h.joins.at s happens.1)
quiet-happens w new (event.ClientRestart i) c s happens = quiet-client-restart w new i happens.0.x happens.0.at s happens.1
quiet-happens w new (event.ServerRestart i) c s happens = quiet-server-restart w new i happens.0.y s happens.1
quiet-happens w new (event.Post i name e mask) c s happens = quiet-post w new i happens.0.y s name e mask happens.1
quiet-happens w new (event.Finish i name) c s happens = quiet-finish w new i happens.0.y s name happens.1
quiet-happens w new (event.Remove i name) c s happens = quiet-remove w new i happens.0.y s name happens.1
quiet-happens w new (event.Add i r) c s happens = quiet-add w new i happens.0.y s r happens.1
quiet-happens w new (event.Tick moment) c s happens = ticked_world moment happens.1
  where
    ticked_world : (moment : ℕ) → (mid : World) × FoldsTo (TicksOne moment) w (clients_below (length w.clients)) mid × (new ≡ record mid { moment = moment }) → ClientsQuiet new
    ticked_world moment ticks =
        let mid : World = ticks.0 in
        subst (λ (v : World). ClientsQuiet v) (sym ticks.2)
        (quiet-same mid (record mid { moment = moment }) refl (all-same mid.circuits) (quiet-ticks moment (clients_below (length w.clients)) w mid s ticks.1))

-- ---- the first world

at-numbered : {A B : Type 0} (n : ℕ) (f : ℕ → A → B) (xs : List A) (i : ℕ) (y : B) → At (numbered n f xs) i y → (m : ℕ) × (x : A) × (y ≡ f m x)
at-numbered n f [] i y at = absurd cc
at-numbered n f (x ∷ xs) zero y at = (n, x, sym (some_is (f n x) y at))
at-numbered n f (x ∷ xs) (suc i) y at = at-numbered (n + 1) f xs i y at

pub quiet-opening : (setting : Setting) → ClientsQuiet (opening setting)
quiet-opening setting = record {
  tidy = λ i x at.
      let r = at-numbered 0 (client_begun (addresses setting.servers) 0) setting.clients i x at in
      subst (λ (z : ClientSide). Tidy z.names z.core) (sym r.2) (tidy-new (addresses setting.servers) 0 r.0 r.1);
  quiet = λ k j x at there open_it. absurd cc;
  ids = λ k j at. absurd cc;
  apart = λ k j at. absurd cc;
  named = λ k j x at there open_it. absurd cc;
  cids = λ k j at. absurd cc;
}

-- ---- runs

pub quiet-folds : (es : List Event) (w new : World) → ClientsStand w → ClientsQuiet w → FoldsTo Happens w es new → ClientsQuiet new
quiet-folds [] w new c s folds = subst (λ (v : World). ClientsQuiet v) folds s
quiet-folds (e ∷ es) w new c s folds = quiet-folds es folds.0 new (stands-happens w folds.0 e c folds.1) (quiet-happens w folds.0 e c s folds.1) folds.2

-- a run that stopped left what was sent so too
quiet-stopped : (mid w : World) (stopped : Option Event) → ClientsQuiet mid → StopsAt mid stopped w → ClientsQuiet w
quiet-stopped mid w (Some (event.Tick moment)) s is = elim is [
  | inl same ↦ subst (λ (v : World). ClientsQuiet v) (sym same) s
  | inr before ↦ quiet-ticks moment (clients_below before.0) mid w s before.3
]
quiet-stopped mid w stopped s is = subst (λ (v : World). ClientsQuiet v) (sym is) s

pub quiet-runs : (setting : Setting) (es : List Event) (stopped : Option Event) (w : World) → Runs setting es stopped w → ClientsQuiet w
quiet-runs setting es stopped w runs = quiet-stopped runs.0 w stopped (quiet-folds es (opening setting) runs.0 (stands-opening setting) (quiet-opening setting) runs.1) runs.2
