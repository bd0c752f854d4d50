-- Every event keeps what is told of the channels that clients opened, and so does every run; and
-- what each event sends that clears a channel.
use Rattle.std.proofs.Common.{◌≡◌, ℕ, inl, inr, List, [], ◌∷◌, length, Option, Some, refl, sym, ◌∙◌, subst}
use Rattle.std.specs.List.{FoldsTo}
use Rattle.ca_text.specs.Place.{At}
use Rattle.ca_text.proofs.Places.{At-mapped}
use Rattle.ca_ids.specs.Table.{under}
use Rattle.ca_model.specs.History.{Clear, Collected, GaveUp, Line, OfCircuit, On, Opened}
use Rattle.ca_model.specs.ClientEvents.{TicksOne}
use Rattle.ca_model.specs.Events.{Event}
use Rattle.ca_model.specs.Events as event
use Rattle.ca_model.specs.Runs.{Happens, Runs, StopsAt, clients_below}
use Rattle.ca_model.specs.World.{ClientSetting, ClientSide, Setting, World, addresses, client_begun, opening}
use Rattle.ca_laws_parts.specs.Clients.{ClientsStand}
use Rattle.ca_laws_parts.proofs.ClientsKeep.{none-under}
use Rattle.ca_laws_parts.proofs.RunsEvents.{stands-happens, stands-opening}
use Rattle.ca_laws_runs.specs.Quiet.{ClientsQuiet, Tidy}
use Rattle.ca_laws_runs.proofs.CancelsSaid.{ticks-none}
use Rattle.ca_laws_runs.proofs.ClearsSaid.{ClearsBack, TakesLeaving, clears-ups, ups-from, ups-self}
use Rattle.ca_laws_runs.proofs.Ends.{From, from-itself}
use Rattle.ca_laws_runs.proofs.Kept.{quiet-happens, quiet-opening}
use Rattle.ca_laws_runs.proofs.OnceRuns.{numbered-place, once-happens, once-opening}
use Rattle.ca_laws_runs.proofs.OnceServers.{kept-add, kept-cut-server, kept-finish, kept-post, kept-pump, kept-remove, kept-server-restart, kept-server-step}
use Rattle.ca_laws_runs.proofs.OnceWorld.{OnceStand, all-same}
use Rattle.ca_laws_runs.proofs.Servers.{from-add, from-cut-server, from-finish, from-post, from-pump, from-remove, from-server-restart, from-server-step}
use Rattle.ca_laws_runs.proofs.ActsClients.{NamesGo, names-accept, names-clear, names-client-restart, names-client-step, names-cut-client, names-datagram, names-down, names-handing-out, names-open, names-read, names-subscribe, names-ticks, names-unsubscribe, names-up, names-write, names-write-notify}
use Rattle.ca_laws_runs.proofs.ActsNamed.{NamesStand, names-same}

-- over a moment no channel is cleared
pub ticks-clear : (moment : ℕ) (is : List ℕ) (w new : World) → FoldsTo (TicksOne moment) w is new → ClearsBack (TakesLeaving w) w new
ticks-clear moment is w new folds n d k s a at there clears = elim (ticks-none moment is w new folds n d k s at there) [
  | inl served ↦ absurd (let e : OfCircuit ≡ On a Clear = sym served ∙ clears in cc)
  | inr old ↦ inl old
]

pub names-happens : (w new : World) (e : Event) → ClientsStand w → ClientsQuiet w → ClientsQuiet new → OnceStand w → NamesStand w → Happens w e new → NamesGo w new
names-happens w new e c q now o s happens = go e happens
  where
    tidy : (i : ℕ) (y : ClientSide) → At new.clients i y → Tidy y.names y.core
    tidy i y at = now.tidy i y at

    -- a server does it
    by-server : NamesStand new → From w new → NamesGo w new
    by-server after from = (after, clears-ups (TakesLeaving w) w new (ups-from w new from))

    go : (e : Event) → Happens w e new → NamesGo w new
    go (event.Open i name priority) h = names-open w new i h.0.x h.0.at q (tidy i) o s name priority h.1
    go (event.Clear i k) h = names-clear w new i h.0.x h.0.at q (tidy i) o s k h.0.h ((q.tidy i h.0.x h.0.at).once k h.0.h h.0.named) h.1
    go (event.Read i k data_type count) h = names-read w new i h.0.x h.0.at q (tidy i) o s k h.0.h data_type count h.1
    go (event.Write i k e) h = names-write w new i h.0.x h.0.at q (tidy i) o s k h.0.h e h.1
    go (event.WriteNotify i k e) h = names-write-notify w new i h.0.x h.0.at q (tidy i) o s k h.0.h e h.1
    go (event.Subscribe i k data_type count mask) h = names-subscribe w new i h.0.x h.0.at q (tidy i) o s k h.0.h data_type count mask h.1
    go (event.Unsubscribe i n) h = names-unsubscribe w new i h.0.x h.0.at q (tidy i) o s h.0.s h.1
    go (event.Collect i r) h = names-handing-out w new i h.0.x h.0.at q (tidy i) o s r h.0.q.1 (Collected r) (λ v c name e. cc) h.1
    go (event.GiveUp i r) h = names-handing-out w new i h.0.x h.0.at q (tidy i) o s r h.0.q.1 (GaveUp r) (λ v c name e. cc) h.1
    go (event.ClientDatagram i from bytes) h = names-datagram w new i h.0.x h.0.at q (tidy i) o s from bytes h.1
    go (event.ServerDatagram i from bytes) h = subst (λ (v : World). NamesGo w v) (sym h.1.2) (s, clears-ups (TakesLeaving w) w w (ups-self w w refl))
    go (event.Accept i) h = names-accept w new i h.0.x h.0.v h.0.at q o s h.1
    go (event.Up k n) h = names-up w new k h.0.0.j h.0.0.x h.0.0.joins.at h.0.0.joins.client q o s n h.0.0.y h.1
    go (event.Down k n) h = names-down w new k h.0.0.j h.0.0.x h.0.0.joins.at h.0.0.joins.client q o s n h.0.0.y h.1
    go (event.ServerStep k) h = by-server (kept-server-step NamesStand names-same w new k h.0.j h.0.y h.0.joins.at s h.1) (from-server-step w w new k h.0.j h.0.y h.0.joins.at (from-itself w) h.1)
    go (event.ClientStep k) h = names-client-step w new k h.0.j h.0.x h.0.joins.at h.0.joins.client q o s h.0.is_open c h.1
    go (event.Pump k) h = by-server (kept-pump NamesStand names-same w new k h.0.j h.0.y h.0.joins.at s h.1) (from-pump w w new k h.0.j h.0.y h.0.joins.at (from-itself w) h.1)
    go (event.CutClient k) h = names-cut-client w new k h.0.j h.0.x h.0.joins.at h.0.joins.client q o s h.1
    go (event.CutServer k) h = by-server (kept-cut-server NamesStand names-same w new k h.0.j h.0.y h.0.joins.at s h.1) (from-cut-server w w new k h.0.j h.0.y h.0.joins.at (from-itself w) h.1)
    go (event.ClientRestart i) h = names-client-restart w new i h.0.x h.0.at o s h.1
    go (event.ServerRestart i) h = by-server (kept-server-restart NamesStand names-same w new i h.0.y s h.1) (from-server-restart w w new i h.0.y (from-itself w) h.1)
    go (event.Post i name e mask) h = by-server (kept-post NamesStand names-same w new i h.0.y s name e mask h.1) (from-post w w new i h.0.y (from-itself w) name e mask h.1)
    go (event.Finish i name) h = by-server (kept-finish NamesStand names-same w new i h.0.y s name h.1) (from-finish w w new i h.0.y (from-itself w) name h.1)
    go (event.Remove i name) h = by-server (kept-remove NamesStand names-same w new i h.0.y s name h.1) (from-remove w w new i h.0.y (from-itself w) name h.1)
    go (event.Add i r) h = by-server (kept-add NamesStand names-same w new i h.0.y s r h.1) (from-add w w new i h.0.y (from-itself w) r h.1)
    go (event.Tick moment) h =
        let mid : World = h.1.0 in
        subst (λ (v : World). NamesGo w v) (sym h.1.2) (
          names-same mid (record mid { moment = moment }) refl refl (all-same mid.circuits) (names-ticks moment (clients_below (length w.clients)) w mid q o s h.1.1),
          ticks-clear moment (clients_below (length w.clients)) w mid h.1.1,
        )

-- ---- the first world

names-opening : (setting : Setting) → NamesStand (opening setting)
names-opening setting = record {
  titled = λ i x log h ch at there is.
      let r = numbered-place 0 (client_begun (addresses setting.servers) 0) setting.clients i x at in
      absurd (none-under h ch (subst (λ (v : ClientSide). under v.core.channels h ≡ Some ch) r.2 is));
  cleared = λ i x log h ch at there is gone.
      let r = numbered-place 0 (client_begun (addresses setting.servers) 0) setting.clients i x at in
      absurd (none-under h ch (subst (λ (v : ClientSide). under v.core.channels h ≡ Some ch) r.2 is));
  few = λ i x log p c name at there line. absurd (no-line x.life log p c name there line);
  once = λ life log p q c a b at first second. absurd (no-line life log p c a at first);
  said = λ k p a j log s at there place is. absurd cc;
}
  where
    empty : ClientSetting → List Line
    empty c = []

    no-line : (life : ℕ) (log : List Line) (p c : ℕ) (name : List ℕ) → At (opening setting).client_logs life log → At log p (Opened c name) → ⊥
    no-line life log p c name at line = (let m = At-mapped empty setting.clients life log at in nothing p (subst (λ (v : List Line). At v p (Opened c name)) m.2 line))
      where
        nothing : (p : ℕ) → (let v : List Line = [] in At v p (Opened c name)) → ⊥
        nothing p line = cc

-- ---- runs

names-folds : (es : List Event) (w new : World) → ClientsStand w → ClientsQuiet w → OnceStand w → NamesStand w → FoldsTo Happens w es new → ClientsQuiet new × OnceStand new × NamesStand new
names-folds [] w new c q o s folds = subst (λ (v : World). ClientsQuiet v × OnceStand v × NamesStand v) folds (q, o, s)
names-folds (e ∷ es) w new c q o s folds =
    let now : ClientsQuiet folds.0 = quiet-happens w folds.0 e c q folds.1 in
    names-folds es folds.0 new (stands-happens w folds.0 e c folds.1) now (once-happens w folds.0 e c q o folds.1) (names-happens w folds.0 e c q now o s folds.1).0 folds.2

names-stopped : (mid w : World) (stopped : Option Event) → ClientsQuiet mid → OnceStand mid → NamesStand mid → StopsAt mid stopped w → NamesStand w
names-stopped mid w (Some (event.Tick moment)) q o s is = elim is [
  | inl same ↦ subst (λ (v : World). NamesStand v) (sym same) s
  | inr before ↦ names-ticks moment (clients_below before.0) mid w q o s before.3
]
names-stopped mid w stopped q o s is = subst (λ (v : World). NamesStand v) (sym is) s

pub run-names : (setting : Setting) (es : List Event) (stopped : Option Event) (w : World) → Runs setting es stopped w → NamesStand w
run-names setting es stopped w runs =
    let r = names-folds es (opening setting) runs.0 (stands-opening setting) (quiet-opening setting) (once-opening setting) (names-opening setting) runs.1 in
    names-stopped runs.0 w stopped r.0 r.1 r.2 runs.2
