-- Every event keeps what clients called and sent, and so does every run.
use Rattle.std.proofs.Common.{◌≡◌, ℕ, zero, suc, ◌+◌, inl, inr, List, [], ◌∷◌, Option, Some, refl, sym, ap, ◌∙◌, subst, arith}
use Rattle.std.specs.Prelude.{length, map}
use Rattle.std.specs.List.{FoldsTo}
use Rattle.ca_text.specs.Place.{At}
use Rattle.ca_text.proofs.Places.{At-map, At-mapped, some_is}
use Rattle.ca_model.specs.History.{Called, Circuit, Collected, GaveUp, Intent, Line, Sent, Wish}
use Rattle.ca_model.specs.Channels.{IsRequest, OfClients, Stands}
use Rattle.ca_model.specs.Events.{Event}
use Rattle.ca_model.specs.Events as event
use Rattle.ca_model.specs.Runs.{Happens, Runs, StopsAt, clients_below}
use Rattle.ca_model.specs.World.{ClientSetting, ClientSide, Joined, Setting, World, addresses, circuit_of, client_begun, numbered, opening, told}
use Rattle.ca_laws_parts.specs.Clients.{ClientsStand}
use Rattle.ca_laws_parts.proofs.RunsEvents.{stands-happens, stands-opening}
use Rattle.ca_laws_runs.specs.Once.{CallsOnce, StandsOnce}
use Rattle.ca_laws_runs.specs.Quiet.{ClientsQuiet}
use Rattle.ca_laws_runs.proofs.Kept.{quiet-happens, quiet-opening}
use Rattle.ca_laws_runs.proofs.OnceClients.{collected-no-call, gave-up-no-call, once-accept, once-clear, once-client-restart, once-client-step, once-cut-client, once-datagram, once-down, once-handing-out, once-open, once-read, once-subscribe, once-ticks, once-unsubscribe, once-up, once-write, once-write-notify}
use Rattle.ca_laws_runs.proofs.OnceServers.{once-add, once-cut-server, once-finish, once-post, once-pump, once-remove, once-server-restart, once-server-step}
use Rattle.ca_laws_runs.proofs.OnceWorld.{OnceStand, all-same, once-same}

pub once-happens : (w new : World) (e : Event) → ClientsStand w → ClientsQuiet w → OnceStand w → Happens w e new → OnceStand new
once-happens w new (event.Open i name priority) c q s happens = once-open w new i happens.0.x happens.0.at c q s name priority happens.1
once-happens w new (event.Clear i k) c q s happens = once-clear w new i happens.0.x happens.0.at c q s k happens.0.h happens.0.named happens.1
once-happens w new (event.Read i k data_type count) c q s happens = once-read w new i happens.0.x happens.0.at c q s k happens.0.h data_type count happens.1
once-happens w new (event.Write i k e) c q s happens = once-write w new i happens.0.x happens.0.at c q s k happens.0.h e happens.0.named happens.1
once-happens w new (event.WriteNotify i k e) c q s happens = once-write-notify w new i happens.0.x happens.0.at c q s k happens.0.h e happens.1
once-happens w new (event.Subscribe i k data_type count mask) c q s happens = once-subscribe w new i happens.0.x happens.0.at c q s k happens.0.h data_type count mask happens.1
once-happens w new (event.Unsubscribe i n) c q s happens = once-unsubscribe w new i happens.0.x happens.0.at c q s n happens.0.s happens.0.named happens.1
once-happens w new (event.Collect i r) c q s happens = once-handing-out w new i happens.0.x happens.0.at c q s r happens.0.q.1 (Collected r) (collected-no-call r) happens.1
once-happens w new (event.GiveUp i r) c q s happens = once-handing-out w new i happens.0.x happens.0.at c q s r happens.0.q.1 (GaveUp r) (gave-up-no-call r) happens.1
once-happens w new (event.ClientDatagram i from bytes) c q s happens = once-datagram w new i happens.0.x happens.0.at c q s from bytes happens.1
once-happens w new (event.ServerDatagram i from bytes) c q s happens = subst (λ (v : World). OnceStand v) (sym happens.1.2) s
once-happens w new (event.Accept i) c q s happens = once-accept w new i happens.0.x happens.0.v happens.0.at q s happens.1
once-happens w new (event.Up k n) c q s happens = (let h = happens.0.0 in once-up w new k h.j h.x h.joins.at h.joins.client q s n h.y happens.1)
once-happens w new (event.Down k n) c q s happens = (let h = happens.0.0 in once-down w new k h.j h.x h.joins.at h.joins.client q s n h.y happens.1)
once-happens w new (event.ServerStep k) c q s happens = (let h = happens.0 in once-server-step w new k h.j h.y h.joins.at s happens.1)
once-happens w new (event.ClientStep k) c q s happens = (let h = happens.0 in once-client-step w new k h.j h.x h.joins.at h.joins.client q s h.is_open c happens.1)
once-happens w new (event.Pump k) c q s happens = (let h = happens.0 in once-pump w new k h.j h.y h.joins.at s happens.1)
once-happens w new (event.CutClient k) c q s happens = (let h = happens.0 in once-cut-client w new k h.j h.x h.joins.at h.joins.client q s happens.1)
once-happens w new (event.CutServer k) c q s happens = (let h = happens.0 in once-cut-server w new k h.j h.y h.joins.at s happens.1)
once-happens w new (event.ClientRestart i) c q s happens = once-client-restart w new i happens.0.x happens.0.at s happens.1
once-happens w new (event.ServerRestart i) c q s happens = once-server-restart w new i happens.0.y s happens.1
once-happens w new (event.Post i name e mask) c q s happens = once-post w new i happens.0.y s name e mask happens.1
once-happens w new (event.Finish i name) c q s happens = once-finish w new i happens.0.y s name happens.1
once-happens w new (event.Remove i name) c q s happens = once-remove w new i happens.0.y s name happens.1
once-happens w new (event.Add i r) c q s happens = once-add w new i happens.0.y s r happens.1
once-happens w new (event.Tick moment) c q s happens =
    let mid : World = happens.1.0 in
    subst (λ (v : World). OnceStand v) (sym happens.1.2)
    (once-same mid (record mid { moment = moment }) refl refl (all-same mid.circuits) (once-ticks moment (clients_below (length w.clients)) w mid q s happens.1.1))

-- ---- the first world

pub numbered-place : {A B : Type 0} (n : ℕ) (f : ℕ → A → B) (xs : List A) (i : ℕ) (y : B) → At (numbered n f xs) i y → (x : A) × At xs i x × (y ≡ f (n + i) x)
numbered-place n f [] i y at = absurd cc
numbered-place {A} {B} n f (x ∷ xs) zero y at = (x, refl, sym (some_is (f n x) y at) ∙ ap (λ (m : ℕ). f m x) (let e : n ≡ n + 0 = omega arith in e))
numbered-place {A} {B} n f (x ∷ xs) (suc i) y at =
    let r = numbered-place (n + 1) f xs i y at in
    (r.0, r.1, r.2 ∙ ap (λ (m : ℕ). f m r.0) (let e : n + 1 + i ≡ n + suc i = omega arith in e))

pub once-opening : (setting : Setting) → OnceStand (opening setting)
once-opening setting = record {
  there = λ i x at. (let r = begun i x at in ([], subst (λ (n : ℕ). At (map empty setting.clients) n []) (sym r.2) (At-map empty setting.clients i r.0 r.1)));
  apart = λ i l x y at also e. sym (begun i x at).2 ∙ e ∙ (begun l y also).2;
  ends = λ k j x at there opened. absurd cc;
  lives = λ k j at. absurd cc;
  called = λ i x log p intent e at there line. absurd (no-line x.life log p intent e there line);
  once = λ life log p q intent e f at a b. absurd (no-line life log p intent e at a);
  said = λ k i p j x s at there mine place is. absurd cc;
  one = λ k l p q a b r s at also mine first second same is. absurd cc;
}
  where
    empty : ClientSetting → List Line
    empty c = []

    begun : (i : ℕ) (x : ClientSide) → At (opening setting).clients i x → (c : ClientSetting) × At setting.clients i c × (x.life ≡ i)
    begun i x at = (let r = numbered-place 0 (client_begun (addresses setting.servers) 0) setting.clients i x at in (r.0, r.1, ap (λ (v : ClientSide). v.life) r.2 ∙ (let e : 0 + i ≡ i = omega arith in e)))

    no-line : (life : ℕ) (log : List Line) (p : ℕ) (intent : Intent) (e : Wish) → At (opening setting).client_logs life log → At log p (Called intent e) → ⊥
    no-line life log p intent e at line = (let m = At-mapped empty setting.clients life log at in nothing p (subst (λ (v : List Line). At v p (Called intent e)) m.2 line))
      where
        nothing : (p : ℕ) → (let v : List Line = [] in At v p (Called intent e)) → ⊥
        nothing p line = cc

-- ---- runs

once-folds : (es : List Event) (w new : World) → ClientsStand w → ClientsQuiet w → OnceStand w → FoldsTo Happens w es new → ClientsQuiet new × OnceStand new
once-folds [] w new c q s folds = subst (λ (v : World). ClientsQuiet v × OnceStand v) folds (q, s)
once-folds (e ∷ es) w new c q s folds = once-folds es folds.0 new (stands-happens w folds.0 e c folds.1) (quiet-happens w folds.0 e c q folds.1) (once-happens w folds.0 e c q s folds.1) folds.2

-- a run that stopped left what was called so too
once-stopped : (mid w : World) (stopped : Option Event) → ClientsQuiet mid → OnceStand mid → StopsAt mid stopped w → OnceStand w
once-stopped mid w (Some (event.Tick moment)) q s is = elim is [
  | inl same ↦ subst (λ (v : World). OnceStand v) (sym same) s
  | inr before ↦ once-ticks moment (clients_below before.0) mid w q s before.3
]
once-stopped mid w stopped q s is = subst (λ (v : World). OnceStand v) (sym is) s

pub once-runs : (setting : Setting) (es : List Event) (stopped : Option Event) (w : World) → Runs setting es stopped w → OnceStand w
once-runs setting es stopped w runs =
    let r = once-folds es (opening setting) runs.0 (stands-opening setting) (quiet-opening setting) (once-opening setting) runs.1 in
    once-stopped runs.0 w stopped r.0 r.1 runs.2

-- ---- what the statement says

pub called-once : (setting : Setting) (es : List Event) (stopped : Option Event) (w : World) → Runs setting es stopped w → OfClients (told w) (CallsOnce (told w))
called-once setting es stopped w runs life x at i l intent e f first second = (once-runs setting es stopped w runs).once life x i l intent e f at first second

-- what is in the world as it is told
stands-there : (w : World) (life : ℕ) (intent : Intent) (n k : ℕ) → Stands (told w) life intent n k → (j : Joined) × At w.circuits n j × (j.lists.client ≡ life) × ((s : Sent) × At j.lists.up k s × (s.intent ≡ intent))
stands-there w life intent n k stands =
    let m = At-mapped circuit_of w.circuits n stands.0 stands.1 in
    let up : (stands.0).up ≡ (m.0).lists.up = ap (λ (c : Circuit). c.up) m.2 in
    (m.0, m.1, ap (λ (c : Circuit). c.client) (sym m.2) ∙ stands.2, (stands.3.0, subst (λ (v : List Sent). At v k stands.3.0) up stands.3.1, stands.3.2))

pub stands-once : (setting : Setting) (es : List Event) (stopped : Option Event) (w : World) → Runs setting es stopped w → OfClients (told w) (StandsOnce (told w))
stands-once setting es stopped w runs life x at intent n k m l is first second =
    let a = stands-there w life intent n k first in
    let b = stands-there w life intent m l second in
    (once-runs setting es stopped w runs).one n m k l a.0 b.0 a.3.0 b.3.0 a.1 b.1 (a.2 ∙ sym b.2) a.3.1 b.3.1 (a.3.2 ∙ sym b.3.2) (subst (λ (v : Intent). IsRequest v) (sym a.3.2) is)
