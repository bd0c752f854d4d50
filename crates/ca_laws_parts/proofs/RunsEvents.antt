-- Every event keeps what holds of all clients, and so does every run.
use Rattle.std.proofs.Common.{◌≡◌, ℕ, zero, suc, ◌+◌, inl, inr, List, [], ◌∷◌, Option, Some, None, refl, sym, subst}
use Rattle.std.specs.Prelude.{length}
use Rattle.std.specs.List.{FoldsTo}
use Rattle.ca_text.specs.Place.{At}
use Rattle.ca_text.proofs.Places.{some_is}
use Rattle.ca_model.specs.ClientEvents.{TicksOne}
use Rattle.ca_model.specs.Events.{Event}
use Rattle.ca_model.specs.Events as event
use Rattle.ca_model.specs.Runs.{Happens, Runs, StopsAt, clients_below}
use Rattle.ca_model.specs.World.{ClientSide, Setting, World, addresses, client_begun, numbered, opening}
use Rattle.ca_laws_parts.specs.Client.{IsSound}
use Rattle.ca_laws_parts.specs.Clients.{ClientsStand}
use Rattle.ca_laws_parts.proofs.ClientsKeep.{sound-new, stands-clear, stands-client-restart, stands-client-step, stands-cut-client, stands-down, stands-open, stands-read, stands-subscribe, stands-unsubscribe, stands-up, stands-write, stands-write-notify}
use Rattle.ca_laws_parts.proofs.ClientsMore.{stands-accept, stands-datagram, stands-ticks}
use Rattle.ca_laws_parts.proofs.ServersKeep.{stands-add, stands-cut-server, stands-finish, stands-post, stands-pump, stands-remove, stands-server-restart, stands-server-step}
use Rattle.ca_laws_parts.proofs.Stands.{fewer-itself, stands-same}

pub stands-happens : (w new : World) (e : Event) → ClientsStand w → Happens w e new → ClientsStand new
stands-happens w new (event.Open i name priority) s happens = stands-open w new i happens.0.x happens.0.at s name priority happens.1
stands-happens w new (event.Clear i c) s happens = stands-clear w new i happens.0.x happens.0.at s c happens.0.h happens.1
stands-happens w new (event.Read i c data_type count) s happens = stands-read w new i happens.0.x happens.0.at s c happens.0.h data_type count happens.1
stands-happens w new (event.Write i c e) s happens = stands-write w new i happens.0.x happens.0.at s c happens.0.h e happens.1
stands-happens w new (event.WriteNotify i c e) s happens = stands-write-notify w new i happens.0.x happens.0.at s c happens.0.h e happens.1
stands-happens w new (event.Subscribe i c data_type count mask) s happens = stands-subscribe w new i happens.0.x happens.0.at s c happens.0.h data_type count mask happens.1
stands-happens w new (event.Unsubscribe i n) s happens = stands-unsubscribe w new i happens.0.x happens.0.at s happens.0.s happens.1
stands-happens w new (event.Collect i r) s happens = subst (λ (v : World). ClientsStand v) (sym happens.1.2) (stands-same w _ refl (fewer-itself w.circuits) s)
stands-happens w new (event.GiveUp i r) s happens = subst (λ (v : World). ClientsStand v) (sym happens.1.2) (stands-same w _ refl (fewer-itself w.circuits) s)
stands-happens w new (event.ClientDatagram i from bytes) s happens = stands-datagram w new i happens.0.x from bytes happens.0.at s happens.1
stands-happens w new (event.ServerDatagram i from bytes) s happens = subst (λ (v : World). ClientsStand v) (sym happens.1.2) s
stands-happens w new (event.Accept i) s happens = stands-accept w new i happens.0.x happens.0.v happens.0.at s happens.1
stands-happens w new (event.Up k n) s happens = (let h = happens.0.0 in stands-up w new k h.j h.x h.joins.at h.joins.client s n h.y happens.1)
stands-happens w new (event.Down k n) s happens = (let h = happens.0.0 in stands-down w new k h.j h.x h.joins.at h.joins.client s n h.y happens.1)
stands-happens w new (event.ServerStep k) s happens = (let h = happens.0 in stands-server-step w new k h.j h.y h.joins.at s happens.1)
stands-happens w new (event.ClientStep k) s happens = (let h = happens.0 in stands-client-step w new k h.j h.x h.joins.at h.joins.client s h.is_open happens.1)
stands-happens w new (event.Pump k) s happens = (let h = happens.0 in stands-pump w new k h.j h.y h.joins.at s happens.1)
stands-happens w new (event.CutClient k) s happens = (let h = happens.0 in stands-cut-client w new k h.j h.x h.joins.at h.joins.client s h.is_open happens.1)
stands-happens w new (event.CutServer k) s happens = (let h = happens.0 in stands-cut-server w new k h.j h.y h.joins.at s happens.1)
stands-happens w new (event.ClientRestart i) s happens = stands-client-restart w new i happens.0.x happens.0.at s happens.1
stands-happens w new (event.ServerRestart i) s happens = stands-server-restart w new i happens.0.y s happens.1
stands-happens w new (event.Post i name e mask) s happens = stands-post w new i happens.0.y s name e mask happens.1
stands-happens w new (event.Finish i name) s happens = stands-finish w new i happens.0.y s name happens.1
stands-happens w new (event.Remove i name) s happens = stands-remove w new i happens.0.y s name happens.1
stands-happens w new (event.Add i r) s happens = stands-add w new i happens.0.y s r happens.1
stands-happens w new (event.Tick moment) s happens = ticked_world moment happens.1
  where
    ticked_world : (moment : ℕ) → (mid : World) × FoldsTo (TicksOne moment) w (clients_below (length w.clients)) mid × (new ≡ record mid { moment = moment }) → ClientsStand new
    ticked_world moment ticks =
        let mid : World = ticks.0 in
        subst (λ (v : World). ClientsStand v) (sym ticks.2)
        (stands-same mid (record mid { moment = moment }) refl (fewer-itself mid.circuits) (stands-ticks moment (clients_below (length w.clients)) w mid s ticks.1))

-- ---- the first world

at-numbered : {A B : Type 0} (n : ℕ) (f : ℕ → A → B) (xs : List A) (i : ℕ) (y : B) → At (numbered n f xs) i y → (m : ℕ) × (x : A) × (y ≡ f m x)
at-numbered n f [] i y at = absurd cc
at-numbered n f (x ∷ xs) zero y at = (n, x, sym (some_is (f n x) y at))
at-numbered n f (x ∷ xs) (suc i) y at = at-numbered (n + 1) f xs i y at

pub stands-opening : (setting : Setting) → ClientsStand (opening setting)
stands-opening setting = record {
  sound = λ i x at.
      let r = at-numbered 0 (client_begun (addresses setting.servers) 0) setting.clients i x at in
      subst (λ (z : ClientSide). IsSound z.names z.core) (sym r.2) (sound-new (addresses setting.servers) 0 r.0 r.1);
  connected = λ k j x at there open_it. absurd cc;
  handles = λ k l a b at there same open_a open_b both. absurd cc;
}

-- ---- runs

pub stands-folds : (es : List Event) (w new : World) → ClientsStand w → FoldsTo Happens w es new → ClientsStand new
stands-folds [] w new s folds = subst (λ (v : World). ClientsStand v) folds s
stands-folds (e ∷ es) w new s folds = stands-folds es folds.0 new (stands-happens w folds.0 e s folds.1) folds.2

-- a run that stopped left what stands too
stands-stopped : (mid w : World) (stopped : Option Event) → ClientsStand mid → StopsAt mid stopped w → ClientsStand w
stands-stopped mid w None s is = subst (λ (v : World). ClientsStand v) (sym is) s
stands-stopped mid w (Some (event.Tick moment)) s is = elim is [
  | inl same ↦ subst (λ (v : World). ClientsStand v) (sym same) s
  | inr before ↦ stands-ticks moment (clients_below before.0) mid w s before.3
]
stands-stopped mid w (Some (event.Open i name priority)) s is = subst (λ (v : World). ClientsStand v) (sym is) s
stands-stopped mid w (Some (event.Clear i c)) s is = subst (λ (v : World). ClientsStand v) (sym is) s
stands-stopped mid w (Some (event.Read i c data_type count)) s is = subst (λ (v : World). ClientsStand v) (sym is) s
stands-stopped mid w (Some (event.Write i c e)) s is = subst (λ (v : World). ClientsStand v) (sym is) s
stands-stopped mid w (Some (event.WriteNotify i c e)) s is = subst (λ (v : World). ClientsStand v) (sym is) s
stands-stopped mid w (Some (event.Subscribe i c data_type count mask)) s is = subst (λ (v : World). ClientsStand v) (sym is) s
stands-stopped mid w (Some (event.Unsubscribe i n)) s is = subst (λ (v : World). ClientsStand v) (sym is) s
stands-stopped mid w (Some (event.Collect i r)) s is = subst (λ (v : World). ClientsStand v) (sym is) s
stands-stopped mid w (Some (event.GiveUp i r)) s is = subst (λ (v : World). ClientsStand v) (sym is) s
stands-stopped mid w (Some (event.ClientDatagram i from bytes)) s is = subst (λ (v : World). ClientsStand v) (sym is) s
stands-stopped mid w (Some (event.ServerDatagram i from bytes)) s is = subst (λ (v : World). ClientsStand v) (sym is) s
stands-stopped mid w (Some (event.Accept i)) s is = subst (λ (v : World). ClientsStand v) (sym is) s
stands-stopped mid w (Some (event.Up k n)) s is = subst (λ (v : World). ClientsStand v) (sym is) s
stands-stopped mid w (Some (event.Down k n)) s is = subst (λ (v : World). ClientsStand v) (sym is) s
stands-stopped mid w (Some (event.ServerStep k)) s is = subst (λ (v : World). ClientsStand v) (sym is) s
stands-stopped mid w (Some (event.ClientStep k)) s is = subst (λ (v : World). ClientsStand v) (sym is) s
stands-stopped mid w (Some (event.Pump k)) s is = subst (λ (v : World). ClientsStand v) (sym is) s
stands-stopped mid w (Some (event.CutClient k)) s is = subst (λ (v : World). ClientsStand v) (sym is) s
stands-stopped mid w (Some (event.CutServer k)) s is = subst (λ (v : World). ClientsStand v) (sym is) s
stands-stopped mid w (Some (event.ClientRestart i)) s is = subst (λ (v : World). ClientsStand v) (sym is) s
stands-stopped mid w (Some (event.ServerRestart i)) s is = subst (λ (v : World). ClientsStand v) (sym is) s
stands-stopped mid w (Some (event.Post i name e mask)) s is = subst (λ (v : World). ClientsStand v) (sym is) s
stands-stopped mid w (Some (event.Finish i name)) s is = subst (λ (v : World). ClientsStand v) (sym is) s
stands-stopped mid w (Some (event.Remove i name)) s is = subst (λ (v : World). ClientsStand v) (sym is) s
stands-stopped mid w (Some (event.Add i r)) s is = subst (λ (v : World). ClientsStand v) (sym is) s

pub stands-runs : (setting : Setting) (es : List Event) (stopped : Option Event) (w : World) → Runs setting es stopped w → ClientsStand w
stands-runs setting es stopped w runs = stands-stopped runs.0 w stopped (stands-folds es (opening setting) runs.0 (stands-opening setting) runs.1) runs.2
