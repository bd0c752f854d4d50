-- In every run each open request is on a channel that is live on the circuit on which it was sent.
use Rattle.std.proofs.Common.{inl, inr, List, [], ◌∷◌, Option, Some, sym, subst}
use Rattle.std.specs.List.{FoldsTo}
use Rattle.ca_model.specs.Events.{Event}
use Rattle.ca_model.specs.Events as event
use Rattle.ca_model.specs.Runs.{Happens, Runs, StopsAt, clients_below}
use Rattle.ca_model.specs.World.{ClientSide, Setting, World, addresses, client_begun, opening}
use Rattle.ca_laws_parts.specs.Clients.{ClientsStand}
use Rattle.ca_laws_parts.proofs.ClientsKeep.{none-under}
use Rattle.ca_laws_parts.proofs.RunsEvents.{stands-happens, stands-opening}
use Rattle.ca_laws_runs.proofs.Going.{AllOpenLive, go-event, go-live, go-open-all, ticks-open}
use Rattle.ca_laws_runs.proofs.OnceRuns.{numbered-place}
use Rattle.ca_laws_runs.proofs.OpenLive.{AreOpenLive}

pub open-opening : (s : Setting) → AllOpenLive (opening s)
open-opening s i x at =
    let r = numbered-place 0 (client_begun (addresses s.servers) 0) s.clients i x at in
    subst (λ (v : ClientSide). AreOpenLive v.core) (sym r.2) (λ q m is it. absurd (none-under q m is))

open-folds : (es : List Event) (w new : World) → ClientsStand w → AllOpenLive w → FoldsTo Happens w es new → AllOpenLive new
open-folds [] w new c all folds = subst (λ (v : World). AllOpenLive v) folds all
open-folds (e ∷ es) w new c all folds = open-folds es folds.0 new (stands-happens w folds.0 e c folds.1) (go-live w folds.0 (go-event w folds.0 e c folds.1) all) folds.2

open-stopped : (mid w : World) (stopped : Option Event) → AllOpenLive mid → StopsAt mid stopped w → AllOpenLive w
open-stopped mid w (Some (event.Tick moment)) all is = elim is [
  | inl same ↦ subst (λ (v : World). AllOpenLive v) (sym same) all
  | inr before ↦ go-live mid w (go-open-all mid w (ticks-open moment (clients_below before.0) mid w before.3)) all
]
open-stopped mid w stopped all is = subst (λ (v : World). AllOpenLive v) (sym is) all

pub open-runs : (s : Setting) (es : List Event) (stopped : Option Event) (w : World) → Runs s es stopped w → AllOpenLive w
open-runs s es stopped w runs = open-stopped runs.0 w stopped (open-folds es (opening s) runs.0 (stands-opening s) (open-opening s) runs.1) runs.2
