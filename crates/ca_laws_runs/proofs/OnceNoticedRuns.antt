-- After every run, what a client's log tells of is over, and it tells of each once.
use Rattle.std.proofs.Common.{ℕ, inl, inr, List, [], ◌∷◌, Option, Some, refl, sym, subst}
use Rattle.std.specs.Prelude.{length}
use Rattle.std.specs.List.{FoldsTo}
use Rattle.ca_text.specs.Place.{At}
use Rattle.ca_text.proofs.Places.{At-mapped}
use Rattle.ca_dbr.specs.declared.value.Outcome.{Outcome}
use Rattle.ca_model.specs.History.{Collected, GaveUp, Intent, Line, Noticed, On, Request, Write}
use Rattle.ca_model.specs.Channels.{OfClients}
use Rattle.ca_model.specs.Events.{Event}
use Rattle.ca_model.specs.Events as event
use Rattle.ca_model.specs.Runs.{Happens, Runs, StopsAt, clients_below}
use Rattle.ca_model.specs.World.{ClientSetting, ClientSide, Setting, World, addresses, client_begun, opening, told}
use Rattle.ca_laws_parts.specs.Clients.{ClientsStand}
use Rattle.ca_laws_parts.proofs.RunsEvents.{stands-happens, stands-opening}
use Rattle.ca_laws_runs.specs.Once.{TellsOnce, WritesTellFailed}
use Rattle.ca_laws_runs.specs.Quiet.{ClientsQuiet}
use Rattle.ca_laws_runs.proofs.Kept.{quiet-happens, quiet-opening}
use Rattle.ca_laws_runs.proofs.OnceNoticed.{ToldStand, have-logs, told-same}
use Rattle.ca_laws_runs.proofs.OnceNoticedClients.{collected-no-notice, gave-up-no-notice, issued-begun, told-accept, told-clear, told-client-restart, told-client-step, told-cut-client, told-datagram, told-down, told-handing-out, told-open, told-read, told-subscribe, told-ticks, told-unsubscribe, told-up, told-write, told-write-notify}
use Rattle.ca_laws_runs.proofs.OnceRuns.{numbered-place, once-happens, once-opening}
use Rattle.ca_laws_runs.proofs.OnceStill.{still-add, still-cut-server, still-finish, still-post, still-pump, still-remove, still-server-restart, still-server-step}
use Rattle.ca_laws_runs.proofs.OnceTold.{AreIssued}
use Rattle.ca_laws_runs.proofs.OnceWorld.{OnceStand}

pub told-happens : (w new : World) (e : Event) → ClientsStand w → ClientsQuiet w → OnceStand w → ToldStand w → Happens w e new → ToldStand new
told-happens w new (event.Open i name priority) c q o s happens = told-open w new i happens.0.x happens.0.at c q (have-logs w o) s name priority happens.1
told-happens w new (event.Clear i k) c q o s happens = told-clear w new i happens.0.x happens.0.at c q (have-logs w o) s k happens.0.h happens.1
told-happens w new (event.Read i k data_type count) c q o s happens = told-read w new i happens.0.x happens.0.at c q (have-logs w o) s k happens.0.h data_type count happens.1
told-happens w new (event.Write i k e) c q o s happens = told-write w new i happens.0.x happens.0.at c q (have-logs w o) s k happens.0.h e happens.1
told-happens w new (event.WriteNotify i k e) c q o s happens = told-write-notify w new i happens.0.x happens.0.at c q (have-logs w o) s k happens.0.h e happens.1
told-happens w new (event.Subscribe i k data_type count mask) c q o s happens = told-subscribe w new i happens.0.x happens.0.at c q (have-logs w o) s k happens.0.h data_type count mask happens.1
told-happens w new (event.Unsubscribe i n) c q o s happens = told-unsubscribe w new i happens.0.x happens.0.at c q (have-logs w o) s happens.0.s happens.1
told-happens w new (event.Collect i r) c q o s happens = told-handing-out w new i happens.0.x happens.0.at c q (have-logs w o) s r happens.0.q.1 (Collected r) (collected-no-notice r) happens.1
told-happens w new (event.GiveUp i r) c q o s happens = told-handing-out w new i happens.0.x happens.0.at c q (have-logs w o) s r happens.0.q.1 (GaveUp r) (gave-up-no-notice r) happens.1
told-happens w new (event.ClientDatagram i from bytes) c q o s happens = told-datagram w new i happens.0.x happens.0.at c q (have-logs w o) s from bytes happens.1
told-happens w new (event.ServerDatagram i from bytes) c q o s happens = subst (λ (v : World). ToldStand v) (sym happens.1.2) s
told-happens w new (event.Accept i) c q o s happens = told-accept w new i happens.0.x happens.0.v happens.0.at q (have-logs w o) s happens.1
told-happens w new (event.Up k n) c q o s happens = (let h = happens.0.0 in told-up w new k h.j h.x h.joins.at h.joins.client q (have-logs w o) s n h.y happens.1)
told-happens w new (event.Down k n) c q o s happens = (let h = happens.0.0 in told-down w new k h.j h.x h.joins.at h.joins.client q (have-logs w o) s n h.y happens.1)
told-happens w new (event.ServerStep k) c q o s happens = (let h = happens.0 in told-same w new (still-server-step w new k h.j h.y happens.1) s)
told-happens w new (event.ClientStep k) c q o s happens = (let h = happens.0 in told-client-step w new k h.j h.x h.joins.at h.joins.client q (have-logs w o) s h.is_open c happens.1)
told-happens w new (event.Pump k) c q o s happens = (let h = happens.0 in told-same w new (still-pump w new k h.j h.y happens.1) s)
told-happens w new (event.CutClient k) c q o s happens = (let h = happens.0 in told-cut-client w new k h.j h.x h.joins.at h.joins.client q (have-logs w o) s h.is_open c happens.1)
told-happens w new (event.CutServer k) c q o s happens = (let h = happens.0 in told-same w new (still-cut-server w new k h.j h.y happens.1) s)
told-happens w new (event.ClientRestart i) c q o s happens = told-client-restart w new i happens.0.x happens.0.at (have-logs w o) s happens.1
told-happens w new (event.ServerRestart i) c q o s happens = told-same w new (still-server-restart w new i happens.0.y happens.1) s
told-happens w new (event.Post i name e mask) c q o s happens = told-same w new (still-post w new i happens.0.y name e mask happens.1) s
told-happens w new (event.Finish i name) c q o s happens = told-same w new (still-finish w new i happens.0.y name happens.1) s
told-happens w new (event.Remove i name) c q o s happens = told-same w new (still-remove w new i happens.0.y name happens.1) s
told-happens w new (event.Add i r) c q o s happens = told-same w new (still-add w new i happens.0.y r happens.1) s
told-happens w new (event.Tick moment) c q o s happens =
    let mid : World = happens.1.0 in
    subst (λ (v : World). ToldStand v) (sym happens.1.2)
    (told-same mid (record mid { moment = moment }) (refl, refl) (told-ticks moment (clients_below (length w.clients)) w mid q o s happens.1.1))

told-opening : (setting : Setting) → ToldStand (opening setting)
told-opening setting = record {
  done = λ i x log p intent o at there line is. absurd (no-line x.life log p intent o there line);
  once = λ life log p q intent o r at a b is. absurd (no-line life log p intent o at a);
  failed = λ life log p c m o at a. absurd (no-line life log p (On c (Request Write m)) o at a);
  issued = λ i x at.
      let r = numbered-place 0 (client_begun (addresses setting.servers) 0) setting.clients i x at in
      subst (λ (v : ClientSide). AreIssued v.core) (sym r.2) (issued-begun (addresses setting.servers) 0 i r.0);
}
  where
    empty : ClientSetting → List Line
    empty c = []

    no-line : (life : ℕ) (log : List Line) (p : ℕ) (intent : Intent) (o : Outcome) → At (opening setting).client_logs life log → At log p (Noticed intent o) → ⊥
    no-line life log p intent o at line = (let m = At-mapped empty setting.clients life log at in nothing p (subst (λ (v : List Line). At v p (Noticed intent o)) m.2 line))
      where
        nothing : (p : ℕ) → (let v : List Line = [] in At v p (Noticed intent o)) → ⊥
        nothing p line = cc

-- ---- runs

told-folds : (es : List Event) (w new : World) → ClientsStand w → ClientsQuiet w → OnceStand w → ToldStand w → FoldsTo Happens w es new → ClientsQuiet new × OnceStand new × ToldStand new
told-folds [] w new c q o s folds = subst (λ (v : World). ClientsQuiet v × OnceStand v × ToldStand v) folds (q, o, s)
told-folds (e ∷ es) w new c q o s folds =
    told-folds es folds.0 new (stands-happens w folds.0 e c folds.1) (quiet-happens w folds.0 e c q folds.1) (once-happens w folds.0 e c q o folds.1) (told-happens w folds.0 e c q o s folds.1) folds.2

told-stopped : (mid w : World) (stopped : Option Event) → ClientsQuiet mid → OnceStand mid → ToldStand mid → StopsAt mid stopped w → ToldStand w
told-stopped mid w (Some (event.Tick moment)) q o s is = elim is [
  | inl same ↦ subst (λ (v : World). ToldStand v) (sym same) s
  | inr before ↦ told-ticks moment (clients_below before.0) mid w q o s before.3
]
told-stopped mid w stopped q o s is = subst (λ (v : World). ToldStand v) (sym is) s

pub told-runs : (setting : Setting) (es : List Event) (stopped : Option Event) (w : World) → Runs setting es stopped w → ToldStand w
told-runs setting es stopped w runs =
    let r = told-folds es (opening setting) runs.0 (stands-opening setting) (quiet-opening setting) (once-opening setting) (told-opening setting) runs.1 in
    told-stopped runs.0 w stopped r.0 r.1 r.2 runs.2

-- ---- what the statement says

pub tells-once : (setting : Setting) (es : List Event) (stopped : Option Event) (w : World) → Runs setting es stopped w → OfClients (told w) (TellsOnce (told w))
tells-once setting es stopped w runs life x at i l intent o p is first second = (told-runs setting es stopped w runs).once life x i l intent o p at first second is

pub writes-tell-failed : (setting : Setting) (es : List Event) (stopped : Option Event) (w : World) → Runs setting es stopped w → OfClients (told w) (WritesTellFailed (told w))
writes-tell-failed setting es stopped w runs life x at i channel number o line = (told-runs setting es stopped w runs).failed life x i channel number o at line
