-- Every event keeps that each handle means what is beside it.
use Rattle.std.proofs.Common.{◌≡◌, ℕ, ◌+◌, inl, inr, Bool, true, false, cond, drop, List, [], ◌∷◌, ◌++◌, length, Option, Some, None, Ok, refl, sym, ◌∙◌, subst}
use Rattle.std.specs.Prelude.{option_map, slice_get, slice_set, unwrap_or}
use Rattle.std.specs.List.{FoldsTo}
use Rattle.ca_arena.specs.declared.handle.Handle.{Handle}
use Rattle.ca_dbr.specs.Elements.{Elements}
use Rattle.ca_ids.specs.Table.{MayGive}
use Rattle.ca_text.specs.Place.{At}
use Rattle.ca_text.proofs.Places.{At-set, At-snoc}
use Rattle.ca_model.specs.Answers.{Sending, Stepped}
use Rattle.ca_model.specs.Answers as answer
use Rattle.ca_model.specs.Client.{Client}
use Rattle.ca_model.specs.ClientCalls.{ClientPuts, ClientReads, ClientSubscribes, Shape}
use Rattle.ca_model.specs.ClientEnds.{handed_over}
use Rattle.ca_model.specs.Due.{Action}
use Rattle.ca_model.specs.Ends as why
use Rattle.ca_model.specs.History.{Ask, Intent, On}
use Rattle.ca_model.specs.History as history
use Rattle.ca_model.specs.ServerSteps as server
use Rattle.ca_model.specs.ClientEvents.{DownTaken, TicksOne, client_stepped, meant_by, with_request}
use Rattle.ca_model.specs.Events.{Event}
use Rattle.ca_model.specs.Events as event
use Rattle.ca_model.specs.Runs.{Happens, clients_below}
use Rattle.ca_model.specs.ServerEvents.{HappensFinish, ServerStepped, unsaid}
use Rattle.ca_model.specs.World.{ClientSide, Joined, Names, ServerSide, Setting, World, addresses, client_begun, opening, with_circuit, with_client}
use Rattle.ca_laws_parts.proofs.CircuitCalls.{meant-own}
use Rattle.ca_laws_parts.specs.Held.{IsNew}
use Rattle.ca_laws_runs.proofs.Issued.{meant-still}
use Rattle.ca_laws_runs.specs.Quiet.{ClientsQuiet}
use Rattle.ca_laws_runs.proofs.OnceRuns.{numbered-place}
use Rattle.ca_laws_parts.specs.Clients.{ClientsStand}
use Rattle.ca_laws_parts.proofs.RunsSending.{new-name}
use Rattle.ca_world_data.specs.Named.{AreMeant, IsMeant, MeanTheirs}

-- ---- names

-- one handle more, which is new
mean-more : (names : List (Handle × Intent)) (q : Handle) (a : ℕ) (ask : Ask) → ((i : ℕ) (e : Handle × Intent) → At names i e → (b : ℕ) × (k : Ask) × (e.1 ≡ On b k)) → IsNew names q → MeanTheirs names → MeanTheirs (names ++ (q, On a ask) ∷ [])
mean-more names q a ask asks new all i e at = elim (At-snoc names (q, On a ask) i e at) [
  | inl was ↦
      let k = asks i e was in
      meant-still names (q, On a ask) e.0 k.0 k.1 (all i e was ∙ k.2) ∙ sym k.2
  | inr last ↦ subst (λ (z : Handle × Intent). meant_by (names ++ (q, On a ask) ∷ []) z.0 ≡ z.1) (sym last.1) (meant-own names q (On a ask) new)
]

-- ---- clients

-- one of them changes
pub mean-set : (cs : List ClientSide) (i : ℕ) (y : ClientSide) → AreMeant cs → IsMeant y.names → AreMeant (slice_set cs i y)
mean-set cs i y all one k x at = elim (At-set cs i y k x at) [
  | inl here ↦ subst (λ (z : ClientSide). IsMeant z.names) (sym here.1) one
  | inr old ↦ all k x old.0
]

module _ (w : World) (i : ℕ) (x : ClientSide) (at : At w.clients i x) (all : AreMeant w.clients) where
  -- a client whose requests and subscriptions are named as before
  same-mean : (core : Client) → AreMeant (slice_set w.clients i (record x { core = core }))
  same-mean core = mean-set w.clients i (record x { core = core }) all (all i x at)

  named-mean : (core : Client) (names : Names) → IsMeant names → AreMeant (slice_set w.clients i (record x { core = core; names = names }))
  named-mean core names one = mean-set w.clients i (record x { core = core; names = names }) all one

  stepped-mean : (k : ℕ) (j : Joined) (did : Stepped) (sent : List Sending) (core : Client) → j.client ≡ i → AreMeant (client_stepped k j x did sent core w).clients
  stepped-mean k j answer.NeedBytes sent core is = all
  stepped-mean k j (answer.Closed c) sent core is = subst (λ (n : ℕ). AreMeant (slice_set w.clients n (record x { core = core }))) (sym is) (same-mean core)
  stepped-mean k j (answer.Notices notices) sent core is = subst (λ (n : ℕ). AreMeant (slice_set w.clients n (record x { core = core }))) (sym is) (same-mean core)

-- ---- servers

-- a circuit is noted, or changed where it is
at-mean : (w : World) (k : ℕ) (f : Joined → Joined) (o : Option Joined) → AreMeant w.clients → AreMeant (unwrap_or (option_map (λ (c : Joined). with_circuit k (f c) w) o) w).clients
at-mean w k f None all = all
at-mean w k f (Some c) all = all

unsaid-mean : (w : World) (k : ℕ) (j : Joined) (y : ServerSide) (action : Action) (o : Option (Handle → Bool)) → AreMeant w.clients → AreMeant (unsaid k j y action o w).clients
unsaid-mean w k j y action None all = all
unsaid-mean w k j y action (Some gone) all = all

stepped-server : (w new : World) (k : ℕ) (j : Joined) (y : ServerSide) (did : server.Stepped) → AreMeant w.clients → ServerStepped w k j y did new → AreMeant new.clients
stepped-server w new k j y server.Handled all steps = subst (λ (v : World). AreMeant v.clients) (sym steps.leaves) (at-mean _ k _ (slice_get _ k) all)
stepped-server w new k j y server.NeedBytes all steps = subst (λ (v : World). AreMeant v.clients) (sym steps.3) all
stepped-server w new k j y server.OutputFull all steps = subst (λ (v : World). AreMeant v.clients) (sym steps.3) all
stepped-server w new k j y (server.Closed why.OutOfMemory left) all steps =
    subst (λ (v : World). AreMeant v.clients) (sym steps.leaves) (unsaid-mean w k j y steps.lacks.next.action steps.lacks.written all)
stepped-server w new k j y (server.Closed cause left) all steps = subst (λ (v : World). AreMeant v.clients) (sym steps.3) all

finished-mean : (w new : World) (i : ℕ) (y : ServerSide) (name : List ℕ) → AreMeant w.clients → HappensFinish w i y name new → AreMeant new.clients
finished-mean w new i y name all (inl did) = subst (λ (v : World). AreMeant v.clients) (sym did.leaves) (at-mean _ did.p.circuit _ (slice_get _ did.p.circuit) all)
finished-mean w new i y name all (inr out) = subst (λ (v : World). AreMeant v.clients) (sym out.2) all

-- ---- moments

ticks-mean : (moment : ℕ) (clients : List ℕ) (w new : World) → AreMeant w.clients → FoldsTo (TicksOne moment) w clients new → AreMeant new.clients
ticks-mean moment [] w new all folds = subst (λ (v : World). AreMeant v.clients) folds all
ticks-mean moment (i ∷ clients) w new all folds =
    let t = folds.1 in
    ticks-mean moment clients folds.0 new (subst (λ (v : World). AreMeant v.clients) (sym t.6) (same-mean w i t.0 t.1 all t.4)) folds.2

-- ---- events

down-mean : (w mid : World) (k n : ℕ) (j : Joined) (y : ServerSide) → DownTaken w k n j y mid → mid.clients ≡ w.clients
down-mean w mid k n j y (inl on) = (λ t. (on.1.2 t).clients)
down-mean w mid k n j y (inr off) = (λ t. (off.1 t).clients)

module _ (w : World) (i : ℕ) (x : ClientSide) (at : At w.clients i x) (c : ClientsStand w) (q : ClientsQuiet w) (all : AreMeant w.clients) where
  -- one request more, and one subscription
  asked-mean : (g : Handle) (a : ℕ) (kind : history.Kind) (core : Client) → MayGive x.core.requests g → AreMeant (slice_set w.clients i (record x { core = core; names = with_request g a kind x.names }))
  asked-mean g a kind core may =
      let m = all i x at in
      let t = q.tidy i x at in
      let asks : (p : ℕ) (e : Handle × Intent) → At x.names.requests p e → (b : ℕ) × (k : Ask) × (e.1 ≡ On b k) = λ p e there. (let r = t.asked p e there in (r.0, history.Request r.1 p, r.2)) in
      let new : IsNew x.names.requests g = new-name x.names.requests x.core.requests g (c.sound i x at).named.requests may in
      mean-set w.clients i (record x { core = core; names = with_request g a kind x.names }) all
      (mean-more x.names.requests g a (history.Request kind (length x.names.requests)) asks new m.0, m.1)

  subscribed-mean : (g : Handle) (a : ℕ) (core : Client) → MayGive x.core.subscriptions g → AreMeant (slice_set w.clients i (record x { core = core; names = record x.names { subscriptions = x.names.subscriptions ++ (g, On a (history.Subscribe (length x.names.subscriptions))) ∷ [] } }))
  subscribed-mean g a core may =
      let m = all i x at in
      let t = q.tidy i x at in
      let asks : (p : ℕ) (e : Handle × Intent) → At x.names.subscriptions p e → (b : ℕ) × (k : Ask) × (e.1 ≡ On b k) = λ p e there. (let r = t.subscribed p e there in (r.0, history.Subscribe p, r.1)) in
      let new : IsNew x.names.subscriptions g = new-name x.names.subscriptions x.core.subscriptions g (c.sound i x at).named.subscriptions may in
      mean-set w.clients i (record x { core = core; names = record x.names { subscriptions = x.names.subscriptions ++ (g, On a (history.Subscribe (length x.names.subscriptions))) ∷ [] } }) all
      (m.0, mean-more x.names.subscriptions g a (history.Subscribe (length x.names.subscriptions)) asks new m.1)

reads-give : (x y : Client) (h : Handle) (a : Shape) (q : Handle) (sent : List Sending) → ClientReads x h a (Ok q) sent y → MayGive x.requests q
reads-give x y h a q sent does = does.3

puts-give : (x y : Client) (h : Handle) (e : Elements) (q : Handle) (sent : List Sending) → ClientPuts x h e (Ok q) sent y → MayGive x.requests q
puts-give x y h e q sent does = does.3

subscribes-give : (x y : Client) (h : Handle) (a : Shape) (mask : ℕ) (s : Handle) (sent : List Sending) → ClientSubscribes x h a mask (Ok s) sent y → MayGive x.subscriptions s
subscribes-give x y h a mask s sent does = does.3

pub mean-happens : (w new : World) (e : Event) → ClientsStand w → ClientsQuiet w → AreMeant w.clients → Happens w e new → AreMeant new.clients
mean-happens w new (event.Open i name priority) c q all h = elim h.1 [
  | inl out ↦ subst (λ (v : World). AreMeant v.clients) (sym out.3) all
  | inr did ↦ subst (λ (v : World). AreMeant v.clients) (sym did.4) (named-mean w i h.0.x h.0.at all did.2 (record h.0.x.names { channels = h.0.x.names.channels ++ did.0 ∷ [] }) (all i h.0.x h.0.at))
]
mean-happens w new (event.Clear i k) c q all h = elim h.1 [
  | inl out ↦ subst (λ (v : World). AreMeant v.clients) (sym out.3) all
  | inr did ↦ subst (λ (v : World). AreMeant v.clients) (sym did.4) (same-mean w i h.0.x h.0.at all did.2)
]
mean-happens w new (event.Read i k data_type count) c q all h = elim h.1 [
  | inl out ↦ subst (λ (v : World). AreMeant v.clients) (sym out.3) all
  | inr did ↦ subst (λ (v : World). AreMeant v.clients) (sym did.4) (asked-mean w i h.0.x h.0.at c q all did.0 k history.Read did.2 (reads-give h.0.x.core did.2 h.0.h (record { data_type = data_type; count = count }) did.0 did.1 did.3))
]
mean-happens w new (event.Write i k e) c q all h = elim h.1 [
  | inl out ↦ subst (λ (v : World). AreMeant v.clients) (sym out.3) all
  | inr did ↦ subst (λ (v : World). AreMeant v.clients) (sym did.4) (named-mean w i h.0.x h.0.at all did.2 (record h.0.x.names { writes = h.0.x.names.writes + 1 }) (all i h.0.x h.0.at))
]
mean-happens w new (event.WriteNotify i k e) c q all h = elim h.1 [
  | inl out ↦ subst (λ (v : World). AreMeant v.clients) (sym out.3) all
  | inr did ↦ subst (λ (v : World). AreMeant v.clients) (sym did.4) (asked-mean w i h.0.x h.0.at c q all did.0 k history.Put did.2 (puts-give h.0.x.core did.2 h.0.h e did.0 did.1 did.3))
]
mean-happens w new (event.Subscribe i k data_type count mask) c q all h = elim h.1 [
  | inl out ↦ subst (λ (v : World). AreMeant v.clients) (sym out.3) all
  | inr did ↦ subst (λ (v : World). AreMeant v.clients) (sym did.4) (subscribed-mean w i h.0.x h.0.at c q all did.0 k did.2 (subscribes-give h.0.x.core did.2 h.0.h (record { data_type = data_type; count = count }) mask did.0 did.1 did.3))
]
mean-happens w new (event.Unsubscribe i n) c q all h = elim h.1 [
  | inl out ↦ subst (λ (v : World). AreMeant v.clients) (sym out.3) all
  | inr did ↦ subst (λ (v : World). AreMeant v.clients) (sym did.4) (same-mean w i h.0.x h.0.at all did.2)
]
mean-happens w new (event.Collect i r) c q all h = subst (λ (v : World). AreMeant v.clients) (sym h.1.2) all
mean-happens w new (event.GiveUp i r) c q all h = subst (λ (v : World). AreMeant v.clients) (sym h.1.2) all
mean-happens w new (event.ClientDatagram i from bytes) c q all h = subst (λ (v : World). AreMeant v.clients) (sym h.1.3) (same-mean w i h.0.x h.0.at all h.1.1)
mean-happens w new (event.ServerDatagram i from bytes) c q all h = subst (λ (v : World). AreMeant v.clients) (sym h.1.2) all
mean-happens w new (event.Accept i) c q all h = elim h.1.leaves [
  | inl out ↦ subst (λ (v : World). AreMeant v.clients) (sym out.1) all
  | inr did ↦ subst (λ (v : World). AreMeant v.clients) (sym did.6) (same-mean w i h.0.x h.0.at all did.3)
]
mean-happens w new (event.Up k n) c q all h = (let j = h.0.0.j in let x = h.0.0.x in subst (λ (v : World). AreMeant v.clients) (sym h.1.2) (up-mean j.lists.client_open j x h.0.0.joins.client))
  where
    up-mean : (b : Bool) (j : Joined) (x : ClientSide) → At w.clients j.client x → AreMeant (cond b (with_client j.client (record x { core = handed_over j.at_client n x.core }) w) (with_circuit k (record j { left_up = drop n j.left_up }) w)).clients
    up-mean true j x at = same-mean w j.client x at all _
    up-mean false j x at = all
mean-happens w new (event.Down k n) c q all h =
    let j = h.0.0.j in
    let x = h.0.0.x in
    let d = h.1 in
    subst (λ (v : World). AreMeant v.clients) (sym d.5)
    (subst (λ (cs : List ClientSide). AreMeant (slice_set cs j.client (record x { core = d.2 }))) (sym (down-mean w d.0 k n j h.0.0.y d.3)) (same-mean w j.client x h.0.0.joins.client all d.2))
mean-happens w new (event.ServerStep k) c q all h = stepped-server w new k h.0.j h.0.y h.1.0 all h.1.1
mean-happens w new (event.ClientStep k) c q all h = (let d = h.1 in subst (λ (v : World). AreMeant v.clients) (sym d.4) (stepped-mean w h.0.j.client h.0.x h.0.joins.client all k h.0.j d.0 d.1 d.2 refl))
mean-happens w new (event.Pump k) c q all h = subst (λ (v : World). AreMeant v.clients) (sym h.1.leaves) all
mean-happens w new (event.CutClient k) c q all h = (let d = h.1 in subst (λ (v : World). AreMeant v.clients) (sym d.4) (same-mean w h.0.j.client h.0.x h.0.joins.client all d.2))
mean-happens w new (event.CutServer k) c q all h = subst (λ (v : World). AreMeant v.clients) (sym h.1.leaves) all
mean-happens w new (event.ClientRestart i) c q all h =
    subst (λ (v : World). AreMeant v.clients) (sym h.1) (mean-set w.clients i _ all ((λ p e there. absurd cc), (λ p e there. absurd cc)))
mean-happens w new (event.ServerRestart i) c q all h = subst (λ (v : World). AreMeant v.clients) (sym h.1) all
mean-happens w new (event.Post i name e mask) c q all h = elim h.1.2 [
  | inl did ↦ subst (λ (v : World). AreMeant v.clients) (sym did.1) all
  | inr out ↦ subst (λ (v : World). AreMeant v.clients) (sym out.3) all
]
mean-happens w new (event.Finish i name) c q all h = finished-mean w new i h.0.y name all h.1
mean-happens w new (event.Remove i name) c q all h = elim h.1.3 [
  | inl did ↦ subst (λ (v : World). AreMeant v.clients) (sym did.1) all
  | inr out ↦ subst (λ (v : World). AreMeant v.clients) (sym out.1) all
]
mean-happens w new (event.Add i r) c q all h = elim h.1.2 [
  | inl did ↦ subst (λ (v : World). AreMeant v.clients) (sym did.1) all
  | inr out ↦ subst (λ (v : World). AreMeant v.clients) (sym out.3) all
]
mean-happens w new (event.Tick moment) c q all h = (let t = h.1 in subst (λ (v : World). AreMeant v.clients) (sym t.2) (ticks-mean moment (clients_below (length w.clients)) w t.0 all t.1))

-- ---- a world before any event

pub mean-opening : (setting : Setting) → AreMeant (opening setting).clients
mean-opening setting i x at =
    let r = numbered-place 0 (client_begun (addresses setting.servers) 0) setting.clients i x at in
    subst (λ (z : ClientSide). IsMeant z.names) (sym r.2) ((λ p e there. absurd cc), (λ p e there. absurd cc))
