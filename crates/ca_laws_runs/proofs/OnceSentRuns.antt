-- After every run, what a client called as a request or a subscription was sent.
use Rattle.std.proofs.Common.{◌≡◌, ℕ, inl, inr, true, List, [], ◌∷◌, Option, Some, refl, sym, subst}
use Rattle.std.specs.Prelude.{is_none, length}
use Rattle.std.specs.List.{FoldsTo}
use Rattle.std.proofs.lemmas.Bool.{both_ways}
use Rattle.ca_text.specs.Place.{At}
use Rattle.ca_text.proofs.Places.{At-map, At-mapped}
use Rattle.ca_model.specs.Client.{connection_at}
use Rattle.ca_model.specs.History.{Called, Collected, GaveUp, Intent, Line, Wish}
use Rattle.ca_model.specs.History as history
use Rattle.ca_model.specs.Channels.{IsRequest, IsUse, OfClients, Stands}
use Rattle.ca_model.specs.Legal.{IsSent}
use Rattle.ca_model.specs.Events.{Event}
use Rattle.ca_model.specs.Events as event
use Rattle.ca_model.specs.Runs.{Happens, Runs, StopsAt, clients_below}
use Rattle.ca_model.specs.World.{ClientSetting, ClientSide, Setting, World, addresses, circuit_of, client_begun, opening, told}
use Rattle.ca_laws_parts.specs.Clients.{ClientsStand}
use Rattle.ca_laws_parts.proofs.RunsEvents.{stands-happens, stands-opening}
use Rattle.ca_laws_runs.specs.Once.{SendsCalled}
use Rattle.ca_laws_runs.specs.Quiet.{ClientsQuiet}
use Rattle.ca_laws_runs.proofs.Kept.{quiet-happens, quiet-opening}
use Rattle.ca_laws_runs.proofs.OnceClients.{collected-no-call, gave-up-no-call}
use Rattle.ca_laws_runs.proofs.OnceRuns.{numbered-place, once-happens, once-opening}
use Rattle.ca_laws_runs.proofs.OnceSent.{IsSaid, SentStand, all-same, sent-same}
use Rattle.ca_laws_runs.proofs.OnceSentClients.{begun-none, sent-accept, sent-clear, sent-client-restart, sent-client-step, sent-cut-client, sent-datagram, sent-down, sent-handing-out, sent-open, sent-read, sent-subscribe, sent-ticks, sent-unsubscribe, sent-up, sent-write, sent-write-notify}
use Rattle.ca_laws_runs.proofs.OnceSentServers.{sent-add, sent-cut-server, sent-finish, sent-post, sent-pump, sent-remove, sent-server-restart, sent-server-step}
use Rattle.ca_laws_runs.proofs.OnceWorld.{OnceStand}

pub sent-happens : (w new : World) (e : Event) → ClientsStand w → ClientsQuiet w → OnceStand w → SentStand w → Happens w e new → SentStand new
sent-happens w new (event.Open i name priority) c q o s happens = sent-open w new i happens.0.x happens.0.at c q o s name priority happens.1
sent-happens w new (event.Clear i k) c q o s happens = sent-clear w new i happens.0.x happens.0.at c q o s k happens.0.h happens.0.named happens.1
sent-happens w new (event.Read i k data_type count) c q o s happens = sent-read w new i happens.0.x happens.0.at c q o s k happens.0.h data_type count happens.1
sent-happens w new (event.Write i k e) c q o s happens = sent-write w new i happens.0.x happens.0.at c q o s k happens.0.h e happens.0.named happens.1
sent-happens w new (event.WriteNotify i k e) c q o s happens = sent-write-notify w new i happens.0.x happens.0.at c q o s k happens.0.h e happens.1
sent-happens w new (event.Subscribe i k data_type count mask) c q o s happens = sent-subscribe w new i happens.0.x happens.0.at c q o s k happens.0.h data_type count mask happens.1
sent-happens w new (event.Unsubscribe i n) c q o s happens = sent-unsubscribe w new i happens.0.x happens.0.at c q o s n happens.0.s happens.0.named happens.1
sent-happens w new (event.Collect i r) c q o s happens = sent-handing-out w new i happens.0.x happens.0.at c q o s r happens.0.q.1 (Collected r) (collected-no-call r) happens.1
sent-happens w new (event.GiveUp i r) c q o s happens = sent-handing-out w new i happens.0.x happens.0.at c q o s r happens.0.q.1 (GaveUp r) (gave-up-no-call r) happens.1
sent-happens w new (event.ClientDatagram i from bytes) c q o s happens = sent-datagram w new i happens.0.x happens.0.at c q o s from bytes happens.1
sent-happens w new (event.ServerDatagram i from bytes) c q o s happens = subst (λ (v : World). SentStand v) (sym happens.1.2) s
sent-happens w new (event.Accept i) c q o s happens = sent-accept w new i happens.0.x happens.0.v happens.0.at q o s happens.1
sent-happens w new (event.Up k n) c q o s happens = (let h = happens.0.0 in sent-up w new k h.j h.x h.joins.at h.joins.client q o s n h.y happens.1)
sent-happens w new (event.Down k n) c q o s happens = (let h = happens.0.0 in sent-down w new k h.j h.x h.joins.at h.joins.client q o s n h.y happens.1)
sent-happens w new (event.ServerStep k) c q o s happens = (let h = happens.0 in sent-server-step w new k h.j h.y h.joins.at s happens.1)
sent-happens w new (event.ClientStep k) c q o s happens = (let h = happens.0 in sent-client-step w new k h.j h.x h.joins.at h.joins.client q o s h.is_open c happens.1)
sent-happens w new (event.Pump k) c q o s happens = (let h = happens.0 in sent-pump w new k h.j h.y h.joins.at s happens.1)
sent-happens w new (event.CutClient k) c q o s happens = (let h = happens.0 in sent-cut-client w new k h.j h.x h.joins.at h.joins.client q o s happens.1)
sent-happens w new (event.CutServer k) c q o s happens = (let h = happens.0 in sent-cut-server w new k h.j h.y h.joins.at s happens.1)
sent-happens w new (event.ClientRestart i) c q o s happens = sent-client-restart w new i happens.0.x happens.0.at s happens.1
sent-happens w new (event.ServerRestart i) c q o s happens = sent-server-restart w new i happens.0.y s happens.1
sent-happens w new (event.Post i name e mask) c q o s happens = sent-post w new i happens.0.y s name e mask happens.1
sent-happens w new (event.Finish i name) c q o s happens = sent-finish w new i happens.0.y s name happens.1
sent-happens w new (event.Remove i name) c q o s happens = sent-remove w new i happens.0.y s name happens.1
sent-happens w new (event.Add i r) c q o s happens = sent-add w new i happens.0.y s r happens.1
sent-happens w new (event.Tick moment) c q o s happens =
    let mid : World = happens.1.0 in
    subst (λ (v : World). SentStand v) (sym happens.1.2)
    (sent-same mid (record mid { moment = moment }) refl refl (all-same mid.circuits) (sent-ticks moment (clients_below (length w.clients)) w mid q o s happens.1.1))

sent-opening : (setting : Setting) → SentStand (opening setting)
sent-opening setting = record {
  reached = λ i x c at linked.
      let r = numbered-place 0 (client_begun (addresses setting.servers) 0) setting.clients i x at in
      absurd (both_ways (is_none (connection_at x.core c)) linked (subst (λ (v : ClientSide). is_none (connection_at v.core c) ≡ true) (sym r.2) (begun-none (addresses setting.servers) 0 i r.0 c)));
  asked = λ life log p intent e at line is. absurd (let m = At-mapped empty setting.clients life log at in nothing p intent e (subst (λ (v : List Line). At v p (Called intent e)) m.2 line));
}
  where
    empty : ClientSetting → List Line
    empty c = []

    nothing : (p : ℕ) (intent : Intent) (e : Wish) → (let v : List Line = [] in At v p (Called intent e)) → ⊥
    nothing p intent e line = cc

-- ---- runs

sent-folds : (es : List Event) (w new : World) → ClientsStand w → ClientsQuiet w → OnceStand w → SentStand w → FoldsTo Happens w es new → ClientsQuiet new × OnceStand new × SentStand new
sent-folds [] w new c q o s folds = subst (λ (v : World). ClientsQuiet v × OnceStand v × SentStand v) folds (q, o, s)
sent-folds (e ∷ es) w new c q o s folds =
    sent-folds es folds.0 new (stands-happens w folds.0 e c folds.1) (quiet-happens w folds.0 e c q folds.1) (once-happens w folds.0 e c q o folds.1) (sent-happens w folds.0 e c q o s folds.1) folds.2

sent-stopped : (mid w : World) (stopped : Option Event) → ClientsQuiet mid → OnceStand mid → SentStand mid → StopsAt mid stopped w → SentStand w
sent-stopped mid w (Some (event.Tick moment)) q o s is = elim is [
  | inl same ↦ subst (λ (v : World). SentStand v) (sym same) s
  | inr before ↦ sent-ticks moment (clients_below before.0) mid w q o s before.3
]
sent-stopped mid w stopped q o s is = subst (λ (v : World). SentStand v) (sym is) s

pub sent-runs : (setting : Setting) (es : List Event) (stopped : Option Event) (w : World) → Runs setting es stopped w → SentStand w
sent-runs setting es stopped w runs =
    let r = sent-folds es (opening setting) runs.0 (stands-opening setting) (quiet-opening setting) (once-opening setting) (sent-opening setting) runs.1 in
    sent-stopped runs.0 w stopped r.0 r.1 r.2 runs.2

-- ---- what the statement says

uses : (intent : Intent) → IsRequest intent → IsUse intent
uses (history.On channel (history.Request kind number)) r = tt
uses (history.On channel history.Create) r = r
uses (history.On channel history.Clear) r = r
uses (history.On channel (history.Subscribe number)) r = tt
uses (history.On channel (history.Cancel number)) r = r
uses history.OfCircuit r = r

said-at : (w : World) (life : ℕ) (intent : Intent) → IsSaid w life intent → (n k : ℕ) × Stands (told w) life intent n k
said-at w life intent r = (r.0, r.2, (circuit_of r.1, At-map circuit_of w.circuits r.0 r.1 r.4, r.5, (r.3, r.6, r.7)))

pub sends-called : (setting : Setting) (es : List Event) (stopped : Option Event) (w : World) → Runs setting es stopped w → OfClients (told w) (SendsCalled (told w))
sends-called setting es stopped w runs life x at intent e is called =
    said-at w life intent ((sent-runs setting es stopped w runs).asked life x called.0 intent e at called.1 (uses intent is))

pub is-sent : (setting : Setting) (es : List Event) (stopped : Option Event) (w : World) → Runs setting es stopped w → OfClients (told w) (IsSent (told w))
is-sent setting es stopped w runs life x at channel number called =
    let intent : Intent = history.On channel (history.Subscribe number) in
    said-at w life intent ((sent-runs setting es stopped w runs).asked life x called.1.0 intent called.0 at called.1.1 tt)
