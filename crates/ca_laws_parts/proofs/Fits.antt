-- What a client's core is made of fits messages, whatever it does to its tables.
use Rattle.std.proofs.Common.{◌≡◌, ℕ, zero, suc, ◌%◌, ◌^◌, ◌<◌, ◌≤◌, inl, inr, Bool, true, false, cond, eqb, List, [], ◌∷◌, ◌++◌, length, Option, Some, None, refl, sym, subst, arith}
use Rattle.std.specs.Prelude.{◌==◌, fold, not, option_map, unwrap_or}
use Rattle.std.proofs.lemmas.List.{length-append}
use Rattle.ca_arena.specs.declared.handle.Handle.{Handle}
use Rattle.ca_ids.specs.Table.{MayGive, Table, under, with_all, with_all_freed, with_changed, with_freed, with_held}
use Rattle.ca_ids.specs.Wire.{wire_of}
use Rattle.ca_monitor.specs.Subscriptions.{Subscription, is_to}
use Rattle.ca_monitor.specs.Subscriptions as monitor
use Rattle.ca_requests.specs.Requests.{Request, asks_on, over_on}
use Rattle.ca_requests.specs.Requests as request
use Rattle.ca_search.specs.Searcher.{with_one, without}
use Rattle.ca_search.specs.Searcher as searcher
use Rattle.ca_search.specs.Searches as search
use Rattle.ca_text.specs.Limits.{arena_slots, channel_name_limit, payload_limit}
use Rattle.ca_text.proofs.Places.{At-mapped, At-parts, At-within, some_is}
use Rattle.ca_wire.specs.Fields.{IsPayload}
use Rattle.ca_wire.specs.Message.{IsMessage}
use Rattle.ca_wire.specs.Messages.{text_payload}
use Rattle.ca_wire.proofs.Padding.{padded-payload}
use Rattle.ca_model.specs.Answers.{Sending}
use Rattle.ca_model.specs.Client.{Channel, Client, ClientCircuit, Connection, Connecting, Creating, Doomed, Clearing, Leaving, Live, Native, On, Phase, Searching, Standing, channels_ended, channels_on, disconnected, ended, found_on, is_cleared, let_go, on_connection, searched_again, sending, with_one_sent, with_standing, without_channel, without_circuit, without_ids}
use Rattle.ca_model.specs.ClientCalls.{unsubscribed_all, unwanted, all_over, cleared}
use Rattle.ca_model.specs.Ends.{Peer}
use Rattle.ca_model.proofs.Tables.{all-back, all-freed-back, changed-back, freed-back, held-back, under-at}
use Rattle.ca_laws_parts.specs.Speaks.{SendsMessages, ChannelFits, CircuitFits, ClientFits, AllHeld, RequestFits, SearchesFit, SubscriptionFits}

-- ---- tables

module _ {T : Type 0} (P : T → Type 0) where
  pub holds-held : (t : Table T) (h : Handle) (v : T) → MayGive t h → AllHeld P t → P v → AllHeld P (with_held h v t)
  holds-held t h v may all one g w is = elim (held-back t g h v w is) [
    | inl own ↦ subst P (sym own.1) one
    | inr old ↦ all g w old
  ]

  pub holds-changed : (f : T → T) (t : Table T) (h : Handle) → AllHeld P t → ((u : T) → under t h ≡ Some u → P u → P (f u)) → AllHeld P (with_changed f h t)
  holds-changed f t h all one g w is = elim (changed-back f t g h w is) [
    | inl own ↦ subst P (sym own.1.2) (one own.1.0 own.1.1 (all h own.1.0 own.1.1))
    | inr old ↦ all g w old.1
  ]

  pub holds-freed : (t : Table T) (h : Handle) → AllHeld P t → AllHeld P (with_freed h t)
  holds-freed t h all g w is = all g w (freed-back t g h w is).1

  pub holds-all : (f : T → T) (t : Table T) → AllHeld P t → ((u : T) → P u → P (f u)) → AllHeld P (with_all f t)
  holds-all f t all one g w is = (let b = all-back f t g w is in subst P (sym b.2) (one b.0 (all g b.0 b.1)))

  pub holds-all-freed : (test : T → Bool) (t : Table T) → AllHeld P t → AllHeld P (with_all_freed test t)
  holds-all-freed test t all g w is = all g w (all-freed-back test t g w is).0

-- an id of a table with no more slots than an arena fits a message
pub wire-fits : (h : Handle) → h.index < arena_slots → wire_of h < 2 ^ 32
wire-fits h lt = (let e : h.generation % 65536 < 65536 = omega arith in omega (arith, lt, e))

pub wire-under : {T : Type 0} (t : Table T) (h : Handle) (v : T) → length t ≤ arena_slots → under t h ≡ Some v → wire_of h < 2 ^ 32
wire-under t h v few is = (let lt : h.index < length t = At-within t h.index _ (under-at t h v is) in wire-fits h (omega (arith, lt, few)))

-- ---- searches

one-fits : (f : search.Channel → search.Channel) (cid : ℕ) (cs : List (ℕ × search.Channel)) → ((c : search.Channel) → (f c).name ≡ c.name) → SearchesFit cs → SearchesFit (with_one f cid cs)
one-fits f cid [] same fit = fit
one-fits f cid (c ∷ cs) same fit = go (eqb cid c.0) (one-fits f cid cs same (λ i d at. fit (suc i) d at))
  where
    go : (b : Bool) → SearchesFit (with_one f cid cs) → SearchesFit (cond b ((c.0, f c.1) ∷ cs) (c ∷ with_one f cid cs))
    go true rest zero d at = (let r = fit 0 c refl in subst (λ (z : ℕ × search.Channel). (z.0 < 2 ^ 32) × (length z.1.name ≤ channel_name_limit)) (some_is (c.0, f c.1) d at) (r.0, subst (λ (n : List ℕ). length n ≤ channel_name_limit) (sym (same c.1)) r.1))
    go true rest (suc i) d at = fit (suc i) d at
    go false rest zero d at = fit 0 d at
    go false rest (suc i) d at = rest i d at

without-fits : (cid : ℕ) (cs : List (ℕ × search.Channel)) → SearchesFit cs → SearchesFit (without cid cs)
without-fits cid [] fit = fit
without-fits cid (c ∷ cs) fit = go (eqb cid c.0) (without-fits cid cs (λ i d at. fit (suc i) d at))
  where
    go : (b : Bool) → SearchesFit (without cid cs) → SearchesFit (cond b cs (c ∷ without cid cs))
    go true rest i d at = fit (suc i) d at
    go false rest zero d at = fit 0 d at
    go false rest (suc i) d at = rest i d at

pub all-fit : (f : search.Channel → search.Channel) (cs : List (ℕ × search.Channel)) → ((c : search.Channel) → (f c).name ≡ c.name) → SearchesFit cs → SearchesFit (searcher.with_all f cs)
all-fit f cs same fit i d at =
    let b = At-mapped (λ (c : ℕ × search.Channel). (c.0, f c.1)) cs i d at in
    let r = fit i b.0 b.1 in
    subst (λ (z : ℕ × search.Channel). (z.0 < 2 ^ 32) × (length z.1.name ≤ channel_name_limit)) (sym b.2) (r.0, subst (λ (n : List ℕ). length n ≤ channel_name_limit) (sym (same b.0.1)) r.1)

-- ---- changes of a core

pub fits-circuits : (x y : Client) → y.peer ≡ x.peer → y.channels ≡ x.channels → y.subscriptions ≡ x.subscriptions → y.searches ≡ x.searches → AllHeld CircuitFits y.circuits → AllHeld RequestFits y.requests → ClientFits x → ClientFits y
fits-circuits x y peer channels subscriptions searches circuits requests f = record {
  user = subst (λ (p : Peer). length p.user < payload_limit) (sym peer) f.user;
  host = subst (λ (p : Peer). length p.host < payload_limit) (sym peer) f.host;
  channels = subst (λ (t : Table Channel). AllHeld ChannelFits t) (sym channels) f.channels;
  requests = requests;
  subscriptions = subst (λ (t : Table Subscription). AllHeld SubscriptionFits t) (sym subscriptions) f.subscriptions;
  circuits = circuits;
  searches = subst (λ (l : List (ℕ × search.Channel)). SearchesFit l) (sym searches) f.searches;
}

pub fits-on : (g : Connection → Connection) (c : Handle) (x : Client) → ClientFits x → ClientFits (on_connection g c x)
fits-on g c x f = fits-circuits x (on_connection g c x) refl refl refl refl (holds-changed CircuitFits _ x.circuits c f.circuits (λ u is h. h)) f.requests f

pub fits-sending : (sent : List Sending) (x : Client) → ClientFits x → ClientFits (sending sent x)
fits-sending [] x f = f
fits-sending (s ∷ sent) x f = fits-sending sent (with_one_sent x s) (fits-on _ s.circuit x f)

-- a channel is elsewhere
pub standing-fits : (s : Standing) (h : Handle) (x : Client) → ((c : Handle) (n : Native) (r : ℕ) → s ≡ On c (Live n r) → (n.sid < 2 ^ 32) × (n.count < 2 ^ 32)) → ClientFits x → ClientFits (with_standing s h x)
standing-fits s h x live f = record {
  user = f.user;
  host = f.host;
  channels = holds-changed ChannelFits (λ (here : Channel). record here { standing = s }) x.channels h f.channels (λ u is p. record { name = p.name; priority = p.priority; native = live });
  requests = f.requests;
  subscriptions = f.subscriptions;
  circuits = f.circuits;
  searches = f.searches;
}

pub never-live : (c : Handle) (p : Phase) → ((n : Native) (r : ℕ) → p ≡ Live n r → ⊥) → (d : Handle) (n : Native) (r : ℕ) → On c p ≡ On d (Live n r) → (n.sid < 2 ^ 32) × (n.count < 2 ^ 32)
never-live c p none d n r e = absurd (none n r (phase-of e))
  where
    phase-of : On c p ≡ On d (Live n r) → p ≡ Live n r
    phase-of e = cc

pub searched-fits : (x : Client) (h : Handle) → ClientFits x → ClientFits (searched_again x h)
searched-fits x h f =
    let g = standing-fits Searching h x (λ c n r e. absurd (nowhere c n r e)) f in
    record { user = g.user; host = g.host; channels = g.channels; requests = g.requests; subscriptions = g.subscriptions; circuits = g.circuits; searches = one-fits (search.resumed x.moment) (wire_of h) x.searches (λ c. refl) f.searches }
  where
    nowhere : (c : Handle) (n : Native) (r : ℕ) → Searching ≡ On c (Live n r) → ⊥
    nowhere c n r e = cc

pub found-fits : (c : Handle) (p : Phase) (h : Handle) (x : Client) → ((n : Native) (r : ℕ) → p ≡ Live n r → ⊥) → ClientFits x → ClientFits (found_on c p h x)
found-fits c p h x none f =
    let g = standing-fits (On c p) h x (never-live c p none) f in
    record { user = g.user; host = g.host; channels = g.channels; requests = g.requests; subscriptions = g.subscriptions; circuits = g.circuits; searches = one-fits search.paused (wire_of h) x.searches (λ c. refl) f.searches }

pub gone-fits : (x : Client) (h : Handle) → ClientFits x → ClientFits (without_channel x h)
gone-fits x h f =
    record { user = f.user; host = f.host; channels = holds-freed ChannelFits x.channels h f.channels; requests = f.requests; subscriptions = f.subscriptions; circuits = f.circuits; searches = without-fits (wire_of h) x.searches f.searches }

pub subscriptions-fit : (x : Client) (t : Table Subscription) → AllHeld SubscriptionFits t → ClientFits x → ClientFits (record x { subscriptions = t })
subscriptions-fit x t all f = record { user = f.user; host = f.host; channels = f.channels; requests = f.requests; subscriptions = all; circuits = f.circuits; searches = f.searches }

-- the order of circuits, the moment and beacons play no part
pub fits-like : (x y : Client) → y.peer ≡ x.peer → y.channels ≡ x.channels → y.subscriptions ≡ x.subscriptions → y.searches ≡ x.searches → y.circuits ≡ x.circuits → AllHeld RequestFits y.requests → ClientFits x → ClientFits y
fits-like x y peer channels subscriptions searches circuits requests f = fits-circuits x y peer channels subscriptions searches (subst (λ (t : Table ClientCircuit). AllHeld CircuitFits t) (sym circuits) f.circuits) requests f

-- requests that are over asked for the same
pub over-fit : (h : Handle) (x : Client) → ClientFits x → AllHeld RequestFits (request.channel_over h x.requests)
over-fit h x f = holds-all RequestFits (over_on h) x.requests f.requests (λ q p. go q (asks_on h q) p)
  where
    go : (q : Request) (b : Bool) → RequestFits q → RequestFits (cond b (record q { stage = request.Draining }) q)
    go q true p = p
    go q false p = p

pub all-over-fits : (c h : Handle) (x : Client) → ClientFits x → ClientFits (all_over c h x)
all-over-fits c h x f =
    fits-like (record x { subscriptions = monitor.channel_over c h x.subscriptions }) (all_over c h x) refl refl refl refl refl (over-fit h x f)
    (subscriptions-fit x (monitor.channel_over c h x.subscriptions) (holds-all SubscriptionFits (monitor.over_on c h) x.subscriptions f.subscriptions (λ u p. go u (is_to h u) p)) f)
  where
    go : (u : Subscription) (b : Bool) → SubscriptionFits u → SubscriptionFits (cond b (record u { stage = monitor.stage_over c u.stage }) u)
    go u true p = p
    go u false p = p

pub unsubscribed-all-fits : (h : Handle) (x : Client) → ClientFits x → ClientFits (unsubscribed_all h x)
unsubscribed-all-fits h x f = subscriptions-fit x (monitor.channel_gone h x.subscriptions) (holds-all-freed SubscriptionFits (is_to h) x.subscriptions f.subscriptions) f

let-go-fits : (c : Handle) (k : ClientCircuit) (x : Client) → ClientFits x → ClientFits (let_go c k x)
let-go-fits c k x f = go k.is_name
  where
    go : (b : Bool) → ClientFits (cond b (disconnected c x) (without_circuit c x))
    go true = fits-circuits x (disconnected c x) refl refl refl refl (holds-changed CircuitFits _ x.circuits c f.circuits (λ u is h. h)) f.requests f
    go false = fits-circuits x (without_circuit c x) refl refl refl refl (holds-freed CircuitFits x.circuits c f.circuits) f.requests f

unwanted-fits : (c : Handle) (x : Client) → ClientFits x → ClientFits (unwanted c x)
unwanted-fits c x f = go (length (channels_on (λ (p : Phase). true) c x) == 0) (under x.circuits c)
  where
    go : (b : Bool) (o : Option ClientCircuit) → ClientFits (cond b (unwrap_or (option_map (λ (k : ClientCircuit). let_go c k x) o) x) x)
    go true (Some k) = let-go-fits c k x f
    go true None = f
    go false o = f

pub not-clearing : (n : Native) (r : ℕ) → Clearing ≡ Live n r → ⊥
not-clearing n r e = cc

not-doomed : (n : Native) (r : ℕ) → Doomed ≡ Live n r → ⊥
not-doomed n r e = cc

pub cleared-fits : (h : Handle) (s : Standing) (x : Client) → ClientFits x → ClientFits (cleared h s x)
cleared-fits h Searching x f = gone-fits (unsubscribed_all h x) h (unsubscribed-all-fits h x f)
cleared-fits h (On c Connecting) x f = unwanted-fits c _ (gone-fits (unsubscribed_all h x) h (unsubscribed-all-fits h x f))
cleared-fits h (On c (Creating rights)) x f = standing-fits (On c Doomed) h (unsubscribed_all h x) (never-live c Doomed not-doomed) (unsubscribed-all-fits h x f)
cleared-fits h (On c (Live n rights)) x f = standing-fits (On c Clearing) h (all_over c h x) (never-live c Clearing not-clearing) (all-over-fits c h x f)
cleared-fits h (On c Leaving) x f = standing-fits (On c Clearing) h (all_over c h x) (never-live c Clearing not-clearing) (all-over-fits c h x f)
cleared-fits h (On c Clearing) x f = standing-fits (On c Clearing) h (all_over c h x) (never-live c Clearing not-clearing) (all-over-fits c h x f)
cleared-fits h (On c Doomed) x f = standing-fits (On c Clearing) h (all_over c h x) (never-live c Clearing not-clearing) (all-over-fits c h x f)

fits-fold : (g : Client → Handle → Client) → ((y : Client) (h : Handle) → ClientFits y → ClientFits (g y h)) → (hs : List Handle) (y : Client) → ClientFits y → ClientFits (fold g y hs)
fits-fold g one [] y f = f
fits-fold g one (h ∷ hs) y f = fits-fold g one hs (g y h) (one y h f)

pub ended-fits : (c : Handle) (x : Client) → ClientFits x → ClientFits (ended c x)
ended-fits c x f = go (under x.circuits c)
  where
    y : Client
    y = without_ids c x

    z : Client
    z = channels_ended c (without_ids c x)

    without-fits-ids : ClientFits (without_ids c x)
    without-fits-ids =
        fits-like (record x { subscriptions = monitor.circuit_gone c x.subscriptions }) (without_ids c x) refl refl refl refl refl (holds-all-freed RequestFits _ x.requests f.requests)
        (subscriptions-fit x (monitor.circuit_gone c x.subscriptions) (holds-all-freed SubscriptionFits _ x.subscriptions f.subscriptions) f)

    over : ClientFits (channels_ended c (without_ids c x))
    over =
        fits-fold searched_again searched-fits (channels_on (λ (p : Phase). not (is_cleared p)) c (without_ids c x)) (fold without_channel (without_ids c x) (channels_on is_cleared c (without_ids c x)))
        (fits-fold without_channel gone-fits (channels_on is_cleared c (without_ids c x)) (without_ids c x) without-fits-ids)

    go : (o : Option ClientCircuit) → ClientFits (unwrap_or (option_map (λ (k : ClientCircuit). let_go c k (channels_ended c (without_ids c x))) o) x)
    go None = f
    go (Some k) = let-go-fits c k (channels_ended c (without_ids c x)) over

-- ---- messages

pub empty-payload : IsPayload []
empty-payload = record { aligned = refl; within = omega arith }

pub text-fits : (text : List ℕ) → length text < payload_limit → IsPayload (text_payload text)
text-fits text lt = padded-payload (text ++ 0 ∷ []) (omega (arith, length-append text (0 ∷ [])))

-- what holds of each of these
pub none-sent : SendsMessages []
none-sent i s at = absurd cc

pub one-more : (s : Sending) (sent : List Sending) → IsMessage s.message → SendsMessages sent → SendsMessages (s ∷ sent)
one-more s sent good rest zero r at = subst (λ (z : Sending). IsMessage z.message) (some_is s r at) good
one-more s sent good rest (suc i) r at = rest i r at

pub both-sent : (xs ys : List Sending) → SendsMessages xs → SendsMessages ys → SendsMessages (xs ++ ys)
both-sent xs ys a b i s at = elim (At-parts xs ys i s at) [ inl front ↦ a i s front | inr back ↦ b back.0 s back.2 ]
