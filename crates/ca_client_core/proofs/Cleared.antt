-- A channel is cleared, by where it is.
use Rattle.std.proofs.Common.{◌≡◌, ◌∙◌, ℕ, Bool, true, false, ◌&&◌, cond, List, [], ◌∷◌, Option, Some, None, Result, Ok, Err, ap, filter, if◌then◌else◌, is_none, length, map, nat_eq, option_map, refl, subst, sym, unwrap_or}
use Rattle.std.proofs.lemmas.Bool.{both_ways}
use Rattle.ca_text.specs.declared.refusal.Refusal.{Refusal}
use Rattle.ca_text.specs.declared.refusal.Refusal.TheVariants as refusal
use Rattle.ca_dbr.specs.declared.value.Outcome.TheVariants as outcome
use Rattle.ca_arena.specs.declared.handle.Handle.{Handle}
use Rattle.ca_ids.specs.Table.{Table, under}
use Rattle.ca_requests.specs.Requests.{Request, asks_on, is_open, is_open_in}
use Rattle.ca_monitor.specs.Subscriptions.{is_to}
use Rattle.ca_model.specs.Answers.{Notice, Sending}
use Rattle.ca_model.specs.Answers as notice
use Rattle.ca_model.specs.Client.{Channel, Client, ClientCircuit, Native, On, Phase, Searching, Standing, channels_on, connection_at, disconnected, disconnections, is_on_in, let_go, without_circuit, sending, standing_at}
use Rattle.ca_model.specs.Client as phase
use Rattle.ca_model.specs.ClientCalls.{ClientClears, LiveChannel, cleared, clearing_sent, unsubscribed_all, unwanted}
use Rattle.ca_model.specs.ClientEnds.{is_connecting}
use Rattle.ca_model.specs.Placed.{HasNothingOut, IsPlaced, was_live}
use Rattle.ca_model.proofs.Handles.{same-is}
use Rattle.ca_model.proofs.Placed.{header_only-never}
use Rattle.ca_model.proofs.Standings.{fails-anywhere, fails-searched, found-standing, never-cleared}
use Rattle.ca_model.proofs.Tables.{all-freed-back, one-value}
use Rattle.ca_client_core.specs.Clearing.{ClearsLive}
use Rattle.ca_client_core.specs.Turns.{MayTurn, WasLiveOn}
use Rattle.ca_client_core.proofs.Endings.{circuits_left, order_left}

-- ---- nothing is attached to a channel that was not live

pub header_only-searched : (x : Client) (h : Handle) → standing_at x h ≡ Some Searching → IsPlaced x → HasNothingOut h x
header_only-searched x h at placed =
    let found = found-standing x h Searching at in
    header_only-never h x placed (λ ch on is. subst (λ (z : Channel). is_on_in was_live on z ≡ false) (one-value x.channels h found.0 ch found.1 is) (fails-searched was_live on found.0 found.2))

pub header_only-early : (x : Client) (h c : Handle) (p : Phase) → standing_at x h ≡ Some (On c p) → was_live p ≡ false → IsPlaced x → HasNothingOut h x
header_only-early x h c p at never placed =
    let found = found-standing x h (On c p) at in
    header_only-never h x placed (λ ch on is. subst (λ (z : Channel). is_on_in was_live on z ≡ false) (one-value x.channels h found.0 ch found.1 is) (fails-anywhere was_live on c found.0 p found.2 never))

-- nor after its subscriptions were freed
pub header_only-freed : (h g : Handle) (x : Client) → HasNothingOut h x → HasNothingOut h (unsubscribed_all g x)
header_only-freed h g x header_only = record {
  requests = header_only.requests;
  subscriptions = λ k d on is drains same. header_only.subscriptions k d on (all-freed-back (is_to g) x.subscriptions k d is).0 drains same;
}

-- and no request of it is open
pub none-open : (h : Handle) (x : Client) → HasNothingOut h x → disconnections (asks_on h) x ≡ []
none-open h x header_only = ap (map (λ (q : Handle). notice.Completed q outcome.Disconnected)) (go x.issued)
  where
    closed : (q : Handle) (o : Option Request) → under x.requests q ≡ o → unwrap_or (option_map (λ (r : Request). asks_on h r && is_open_in r.stage) o) false ≡ false
    closed q None at = refl
    closed q (Some r) at = by (asks_on h r) refl
      where
        by : (b : Bool) → asks_on h r ≡ b → (b && is_open_in r.stage) ≡ false
        by true is = absurd (header_only.requests q r at (same-is r.channel h is))
        by false is = refl

    go : (qs : List Handle) → filter (is_open (asks_on h) x.requests) qs ≡ []
    go [] = refl
    go (q ∷ qs) = ap (λ (b : Bool). cond b (q ∷ filter (is_open (asks_on h) x.requests) qs) (filter (is_open (asks_on h) x.requests) qs)) (closed q (under x.requests q) refl) ∙ go qs

-- ---- where it is

pub may-doom : (x : Client) (h c : Handle) (rights : ℕ) → standing_at x h ≡ Some (On c (phase.Creating rights)) → MayTurn h c phase.Doomed x
may-doom x h c rights at =
    let found = found-standing x h (On c (phase.Creating rights)) at in
    record { channel = found.0; there = found.1; phase = phase.Creating rights; stands = found.2; waits = refl; live = λ e. e }

pub live-on : (x : Client) (h c : Handle) (p : Phase) → standing_at x h ≡ Some (On c p) → is_connecting p ≡ false → was_live p ≡ true → WasLiveOn h c x
live-on x h c p at waits live =
    let found = found-standing x h (On c p) at in
    record { channel = found.0; there = found.1; phase = p; stands = found.2; waits = waits; live = live }

-- the circuit of one that waits is not connected
pub waits-there : (x : Client) (h c : Handle) → standing_at x h ≡ Some (On c phase.Connecting) → IsPlaced x → is_none (connection_at x c) ≡ true
waits-there x h c at placed =
    let found = found-standing x h (On c phase.Connecting) at in
    sym (placed.waiting h found.0 c phase.Connecting found.1 found.2)

-- ---- what `clear` answers

pub cleared-header_only : (x new : Client) (h : Handle) (s : Standing) (told : List Notice) → told ≡ [] → standing_at x h ≡ Some s → clearing_sent h s ≡ [] → HasNothingOut h x → new ≡ cleared h s x → (sent : List Sending) × ClientClears x h (Ok told) sent new
cleared-header_only x new h s told empty at none header_only is =
    ([], (s, at, empty ∙ sym (none-open h x header_only), (sym none, is ∙ ap (λ (sends : List Sending). sending sends (cleared h s x)) (sym none))))

pub cleared-left : (x new : Client) (h c : Handle) (told : List Notice) → standing_at x h ≡ Some (On c phase.Leaving) → told ≡ disconnections (asks_on h) x → new ≡ cleared h (On c phase.Leaving) x → (sent : List Sending) × ClientClears x h (Ok told) sent new
cleared-left x new h c told at same is = ([], (On c phase.Leaving, at, same, (refl, is)))

pub cleared-live : (x new : Client) (h c : Handle) (n : Native) (rights : ℕ) (r : Result (List Notice) Refusal) → standing_at x h ≡ Some (On c (phase.Live n rights)) → ClearsLive x h c n.sid r new → (sent : List Sending) × ClientClears x h r sent new
cleared-live x new h c n rights (Ok told) at did =
    (clearing_sent h (On c (phase.Live n rights)), (On c (phase.Live n rights), at, did.0, (refl, did.1)))
cleared-live x new h c n rights (Err refusal.OutOfMemory) at did =
    let l : LiveChannel = record { circuit = c; native = n; rights = rights } in
    ([], (l, at, (refl, did)))
cleared-live x new h c n rights (Err _) at did = absurd did

-- no channel that its caller cleared is named
pub not-cleared : {A : Type 0} (x : Client) (h c : Handle) (p : Phase) → standing_at x h ≡ Some (On c p) → phase.is_cleared p ≡ true → A
not-cleared x h c p at is = absurd (both_ways (phase.is_cleared p) (never-cleared x h c p at) is)

-- ---- a circuit that nothing wants any more

abbrev used : Client → Handle → Bool
used x c = nat_eq (length (channels_on (λ (p : Phase). true) c x)) 0

pub unwanted-used : (x : Client) (c : Handle) → used x c ≡ false → x ≡ unwanted c x
unwanted-used x c is = sym (ap (λ (b : Bool). if b then unwrap_or (option_map (λ (d : ClientCircuit). let_go c d x) (under x.circuits c)) x else x) is)

pub unwanted-none : (x : Client) (c : Handle) → used x c ≡ true → under x.circuits c ≡ None → x ≡ unwanted c x
unwanted-none x c is none =
    sym (ap (λ (b : Bool). if b then unwrap_or (option_map (λ (d : ClientCircuit). let_go c d x) (under x.circuits c)) x else x) is
    ∙ ap (λ (o : Option ClientCircuit). unwrap_or (option_map (λ (d : ClientCircuit). let_go c d x) o) x) none)

pub unwanted-there : (x : Client) (c : Handle) (d : ClientCircuit) (cs : Table ClientCircuit) (o : List Handle) → used x c ≡ true → under x.circuits c ≡ Some d → cs ≡ circuits_left d.is_name c x.circuits → o ≡ order_left d.is_name c x.order → ◌≡◌ {A = Client} (record x { circuits = cs; order = o }) (unwanted c x)
unwanted-there x c d cs o is there circuits order =
    (λ i. with_order (circuits i) (order i))
    ∙ go d.is_name
    ∙ sym (ap (λ (b : Bool). if b then unwrap_or (option_map (λ (e : ClientCircuit). let_go c e x) (under x.circuits c)) x else x) is
    ∙ ap (λ (p : Option ClientCircuit). unwrap_or (option_map (λ (e : ClientCircuit). let_go c e x) p) x) there)
  where
    with_order : Table ClientCircuit → List Handle → Client
    with_order t l = record x { circuits = t; order = l }

    go : (b : Bool) → with_order (circuits_left b c x.circuits) (order_left b c x.order) ≡ (if b then disconnected c x else without_circuit c x)
    go true = refl
    go false = refl
