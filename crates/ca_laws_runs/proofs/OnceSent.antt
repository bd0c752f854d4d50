-- What a client called as a request or a subscription was sent: a circuit that is connected in its
-- core is open in the world, and its messages go there.
use Rattle.std.proofs.Common.{◌≡◌, ℕ, ◌+◌, ◌⊎◌, inl, inr, Bool, true, false, ◌&&◌, cond, eqb, List, [], ◌∷◌, ◌++◌, length, Option, Some, None, refl, sym, ap, ◌∙◌, subst}
use Rattle.std.specs.Prelude.{is_none, map, option_and_then, option_map, slice_set, unwrap_or}
use Rattle.std.proofs.lemmas.Bool.{and_from, both_ways, eq-eqb}
use Rattle.std.proofs.lemmas.List.{append-nil}
use Rattle.ca_text.specs.Place.{At}
use Rattle.ca_text.proofs.Places.{At-after, At-append, At-map, At-one, At-parts, At-set, At-set-other, At-within}
use Rattle.ca_arena.specs.declared.handle.Handle.{Handle}
use Rattle.ca_ids.specs.Table.{same_handle, under}
use Rattle.ca_model.specs.Answers.{Sending}
use Rattle.ca_model.specs.Client.{Client, ClientCircuit, Connection, channels_ended, connection_at, ended, let_go, without_circuit, without_ids}
use Rattle.ca_model.specs.Client as client
use Rattle.ca_model.specs.History.{Called, Circuit, Intent, Line, Sent, Wish}
use Rattle.ca_model.specs.Server.{Server}
use Rattle.ca_model.specs.Channels.{IsUse}
use Rattle.ca_model.proofs.Handles.{handle-or, same-itself}
use Rattle.ca_model.proofs.Letting.{ends-ended}
use Rattle.ca_model.proofs.Tables.{changed-back, freed-back}
use Rattle.ca_model.proofs.Thinner.{number-or, set-there}
use Rattle.ca_model.specs.ClientEvents.{Outcomes, client_after, sent_on}
use Rattle.ca_model.specs.ServerEvents.{ending, server_after, server_closed}
use Rattle.ca_model.specs.World.{ClientSide, Joined, Names, ServerSide, World, with_lines}
use Rattle.ca_laws_parts.specs.Circuit.{sent_to, stamped}
use Rattle.ca_laws_parts.proofs.Handled.{Like}
use Rattle.ca_laws_runs.proofs.OnceCalls.{Calls, NoCall}
use Rattle.ca_laws_runs.proofs.OnceWorld.{LogsAfter, logs-grown, logs-still}

-- Client i has an open end under this handle, of this life.
abbrev pub IsOpenAt : World → (i life : ℕ) → Handle → Type 0
IsOpenAt w i life c = (k : ℕ) × (j : Joined) × At w.circuits k j × (j.client ≡ i) × (j.at_client ≡ c) × (j.lists.client ≡ life) × (j.lists.client_open ≡ true)

-- The message of what was called is on a circuit of that life.
abbrev pub IsSaid : World → (life : ℕ) → Intent → Type 0
IsSaid w life intent = (k : ℕ) × (j : Joined) × (q : ℕ) × (s : Sent) × At w.circuits k j × (j.lists.client ≡ life) × At j.lists.up q s × (s.intent ≡ intent)

-- What is connected in a client's core is open, and each request and subscription
-- that a log has was sent.
pub record SentStand (w : World) : Type 0 where
  pub reached : (i : ℕ) (x : ClientSide) (c : Handle) → At w.clients i x → is_none (connection_at x.core c) ≡ false → IsOpenAt w i x.life c
  pub asked : (life : ℕ) (log : List Line) (p : ℕ) (intent : Intent) (e : Wish) → At w.client_logs life log → At log p (Called intent e) → IsUse intent → IsSaid w life intent

-- ---- ends of circuits

-- It is an end of the same client and life under the same handle, as open as it was, and these
-- were sent there since.
pub record IsEndOn (i : ℕ) (n : Names) (sent : List Sending) (a j : Joined) : Type 0 where
  pub client : j.client ≡ a.client
  pub handle : j.at_client ≡ a.at_client
  pub life : j.lists.client ≡ a.lists.client
  pub opens : j.lists.client_open ≡ a.lists.client_open
  pub up : j.lists.up ≡ a.lists.up ++ sent_on i n sent a

-- nothing was
pub record IsSameEnd (a j : Joined) : Type 0 where
  pub client : j.client ≡ a.client
  pub handle : j.at_client ≡ a.at_client
  pub life : j.lists.client ≡ a.lists.client
  pub opens : j.lists.client_open ≡ a.lists.client_open
  pub up : j.lists.up ≡ a.lists.up

pub same-end : (a : Joined) → IsSameEnd a a
same-end a = record { client = refl; handle = refl; life = refl; opens = refl; up = refl }

pub same-then : (a b c : Joined) → IsSameEnd a b → IsSameEnd b c → IsSameEnd a c
same-then a b c f g = record { client = g.client ∙ f.client; handle = g.handle ∙ f.handle; life = g.life ∙ f.life; opens = g.opens ∙ f.opens; up = g.up ∙ f.up }

pub same-like : (a j : Joined) → Like a j → IsSameEnd a j
same-like a j like = record {
  client = like.2;
  handle = like.1;
  life = ap (λ (c : Circuit). c.client) like.0;
  opens = ap (λ (c : Circuit). c.client_open) like.0;
  up = ap (λ (c : Circuit). c.up) like.0;
}

pub same-ending : (ends : Joined → Option (List ℕ)) (a : Joined) → IsSameEnd a (ending ends a)
same-ending ends a = go (ends a)
  where
    go : (o : Option (List ℕ)) → IsSameEnd a (unwrap_or (option_map (λ (left : List ℕ). server_closed left a) o) a)
    go (Some left) = record { client = refl; handle = refl; life = refl; opens = refl; up = refl }
    go None = same-end a

-- each end is there still
abbrev pub AllSame : List Joined → List Joined → Type 0
AllSame was now = (k : ℕ) (a : Joined) → At was k a → (j : Joined) × At now k j × IsSameEnd a j

pub all-same : (was : List Joined) → AllSame was was
all-same was k a at = (a, at, same-end a)

pub all-then : (a b c : List Joined) → AllSame a b → AllSame b c → AllSame a c
all-then a b c f g k j at =
    let m = f k j at in
    let n = g k m.0 m.1 in
    (n.0, n.1, same-then j m.0 n.0 m.2 n.2)

pub all-map : (f : Joined → Joined) (was : List Joined) → ((a : Joined) → IsSameEnd a (f a)) → AllSame was (map f was)
all-map f was ends k a at = (f a, At-map f was k a at, ends a)

pub all-set : (k : ℕ) (a new : Joined) (was : List Joined) → At was k a → IsSameEnd a new → AllSame was (slice_set was k new)
all-set k a new was at end l j there = elim (number-or l k) [
  | inl same ↦
      let one : j ≡ a = At-one was k j a (subst (λ (z : ℕ). At was z j) same there) at in
      (new, subst (λ (z : ℕ). At (slice_set was k new) z new) (sym same) (set-there was k new (At-within was k a at)), subst (λ (z : Joined). IsSameEnd z new) (sym one) end)
  | inr other ↦ (j, At-set-other was k l j new there other, same-end j)
]

-- ---- a world after an event

-- No client changes, nothing is logged and nothing is sent. An end that closed is not connected
-- in its client's core.
pub sent-closing : (w new : World) → new.clients ≡ w.clients → new.client_logs ≡ w.client_logs
    → ((k : ℕ) (a : Joined) → At w.circuits k a → (j : Joined) × At new.circuits k j × (j.client ≡ a.client) × (j.at_client ≡ a.at_client) × (j.lists.client ≡ a.lists.client) × (j.lists.up ≡ a.lists.up)
    × ((x : ClientSide) → At w.clients a.client x → is_none (connection_at x.core a.at_client) ≡ false → a.lists.client_open ≡ true → j.lists.client_open ≡ true))
    → SentStand w → SentStand new
sent-closing w new clients logs onward s = record {
  reached = λ i x c at linked.
      let there : At w.clients i x = subst (λ (l : List ClientSide). At l i x) clients at in
      let r = s.reached i x c there linked in
      let o = onward r.0 r.1 r.2 in (
        r.0,
        o.0,
        o.1,
        o.2 ∙ r.3,
        o.3 ∙ r.4,
        o.4 ∙ r.5,
        o.6 x (subst (λ (n : ℕ). At w.clients n x) (sym r.3) there) (subst (λ (h : Handle). is_none (connection_at x.core h) ≡ false) (sym r.4) linked) r.6,
      );
  asked = λ life log p intent e at line is.
      let r = s.asked life log p intent e (subst (λ (l : List (List Line)). At l life log) logs at) line is in
      let o = onward r.0 r.1 r.4 in
      (r.0, o.0, r.2, r.3, o.1, o.4 ∙ r.5, subst (λ (l : List Sent). At l r.2 r.3) (sym o.5) r.6, r.7);
}

pub sent-same : (w new : World) → new.clients ≡ w.clients → new.client_logs ≡ w.client_logs → AllSame w.circuits new.circuits → SentStand w → SentStand new
sent-same w new clients logs all s = sent-closing w new clients logs (λ k a at.
    let o = all k a at in
    (o.0, o.1, o.2.client, o.2.handle, o.2.life, o.2.up, λ x there linked opened. o.2.opens ∙ opened)) s

-- what was sent to an open end of the client under that handle is there
pub there-sent : (i : ℕ) (n : Names) (s : Sending) (a : Joined) → a.client ≡ i → a.lists.client_open ≡ true → s.circuit ≡ a.at_client → At (sent_on i n (s ∷ []) a) 0 (stamped n s)
there-sent i n s a mine opened on = go (eqb a.client i && a.lists.client_open) (and_from (eqb a.client i) a.lists.client_open (eq-eqb a.client i mine) opened) (same_handle s.circuit a.at_client) (subst (λ (h : Handle). same_handle s.circuit h ≡ true) on (same-itself s.circuit))
  where
    go : (b : Bool) → b ≡ true → (c : Bool) → c ≡ true → At (cond b (map (stamped n) (cond c (s ∷ []) [])) []) 0 (stamped n s)
    go true e true f = refl
    go true e false f = absurd (both_ways false refl f)
    go false e c f = absurd (both_ways false refl e)

-- one client changes
pub sent-moved : (w new : World) (i : ℕ) (x z : ClientSide) (spoken : Names) (sent : List Sending) (lines : List Line) → At w.clients i x
    → ((l : ℕ) (y : ClientSide) → At new.clients l y → ((l ≡ i) × (y ≡ z)) ⊎ (At w.clients l y × (l ≡ i → ⊥)))
    → z.life ≡ x.life → LogsAfter w.client_logs new.client_logs x.life lines
    → ((k : ℕ) (a : Joined) → At w.circuits k a → (j : Joined) × At new.circuits k j × IsEndOn i spoken sent a j)
    → Calls x.names x.core spoken sent lines z.names z.core
    → ((c : Handle) → is_none (connection_at z.core c) ≡ false → IsOpenAt w i x.life c) → SentStand w → SentStand new
sent-moved w new i x z spoken sent lines at_x clients life logs onward calls reach s = record {
  reached = λ l y c at linked. elim (clients l y at) [
    | inl here ↦
        let r = reach c (subst (λ (v : ClientSide). is_none (connection_at v.core c) ≡ false) here.1 linked) in
        let o = onward r.0 r.1 r.2 in
        (r.0, o.0, o.1, o.2.client ∙ r.3 ∙ sym here.0, o.2.handle ∙ r.4, o.2.life ∙ r.5 ∙ sym life ∙ ap (λ (v : ClientSide). v.life) (sym here.1), o.2.opens ∙ r.6)
    | inr old ↦
        let r = s.reached l y c old.0 linked in
        let o = onward r.0 r.1 r.2 in
        (r.0, o.0, o.1, o.2.client ∙ r.3, o.2.handle ∙ r.4, o.2.life ∙ r.5, o.2.opens ∙ r.6)
  ];
  asked = λ l log p intent e at line is. elim (logs.0 l log at) [
    | inr other ↦ before l intent (s.asked l log p intent e other.0 line is)
    | inl grew ↦ elim (At-parts grew.1.0 lines p (Called intent e) (subst (λ (v : List Line). At v p (Called intent e)) grew.1.2 line)) [
      | inl first ↦ before l intent (s.asked l grew.1.0 p intent e grew.1.1 first is)
      | inr later ↦
          let c = calls.asks later.0 intent e later.2 is in
          let r = s.reached i x (c.0).circuit at_x c.3 in
          let o = onward r.0 r.1 r.2 in
          let said : At (sent_on i spoken sent r.1) 0 (stamped spoken c.0) = subst (λ (v : List Sending). At (sent_on i spoken v r.1) 0 (stamped spoken c.0)) (sym c.1) (there-sent i spoken c.0 r.1 r.3 r.6 (sym r.4)) in
          let up : At (o.0).lists.up (length (r.1).lists.up + 0) (stamped spoken c.0) = subst (λ (v : List Sent). At v (length (r.1).lists.up + 0) (stamped spoken c.0)) (sym o.2.up) (At-after (r.1).lists.up (sent_on i spoken sent r.1) 0 (stamped spoken c.0) said) in
          (r.0, o.0, length (r.1).lists.up + 0, stamped spoken c.0, o.1, o.2.life ∙ r.5 ∙ sym grew.0, up, c.2)
    ]
  ];
}
  where
    before : (l : ℕ) (intent : Intent) → IsSaid w l intent → IsSaid new l intent
    before l intent r =
        let o = onward r.0 r.1 r.4 in
        (r.0, o.0, r.2, r.3, o.1, o.2.life ∙ r.5, subst (λ (v : List Sent). At v r.2 r.3) (sym o.2.up) (At-append (r.1).lists.up (sent_on i spoken sent r.1) r.2 r.3 r.6), r.7)

-- a call of client i
pub sent-called : (w : World) (i : ℕ) (x : ClientSide) (spoken : Names) (o : Outcomes) → At w.clients i x → (log : List Line) × At w.client_logs x.life log → Calls x.names x.core spoken o.sent o.lines o.names o.core
    → ((c : Handle) → is_none (connection_at o.core c) ≡ false → IsOpenAt w i x.life c) → SentStand w → SentStand (client_after i x spoken o w)
sent-called w i x spoken o at t calls reach s =
    let z : ClientSide = record x { core = o.core; names = o.names } in
    sent-moved w (client_after i x spoken o w) i x z spoken o.sent o.lines at (λ l y there. At-set w.clients i z l y there) refl (logs-grown w.client_logs x.life o.lines t.0 t.1)
    (λ k a there. (sent_to i spoken o.sent a, At-map (sent_to i spoken o.sent) w.circuits k a there, record { client = refl; handle = refl; life = refl; opens = refl; up = refl })) calls reach s

-- one by which the same circuits are connected
pub sent-linked : (w : World) (i : ℕ) (x : ClientSide) (spoken : Names) (o : Outcomes) → At w.clients i x → (log : List Line) × At w.client_logs x.life log → Calls x.names x.core spoken o.sent o.lines o.names o.core
    → ((c : Handle) → is_none (connection_at o.core c) ≡ is_none (connection_at x.core c)) → SentStand w → SentStand (client_after i x spoken o w)
sent-linked w i x spoken o at t calls links s = sent-called w i x spoken o at t calls (λ c linked. s.reached i x c at (sym (links c) ∙ linked)) s

nothing-sent : (i : ℕ) (n : Names) (a : Joined) → IsEndOn i n [] a a
nothing-sent i n a = record { client = refl; handle = refl; life = refl; opens = refl; up = by (eqb a.client i && a.lists.client_open) }
  where
    by : (b : Bool) → a.lists.up ≡ a.lists.up ++ cond b [] []
    by true = sym (append-nil a.lists.up)
    by false = sym (append-nil a.lists.up)

-- a client's core alone changes
pub sent-core : (w new : World) (i : ℕ) (x z : ClientSide) → At w.clients i x → new.clients ≡ slice_set w.clients i z → z.life ≡ x.life → new.client_logs ≡ w.client_logs → new.circuits ≡ w.circuits → Calls x.names x.core x.names [] [] z.names z.core
    → ((c : Handle) → is_none (connection_at z.core c) ≡ is_none (connection_at x.core c)) → SentStand w → SentStand new
sent-core w new i x z at clients life logs circuits calls links s =
    sent-moved w new i x z x.names [] [] at (λ l y there. At-set w.clients i z l y (subst (λ (c : List ClientSide). At c l y) clients there)) life
    (subst (λ (v : List (List Line)). LogsAfter w.client_logs v x.life []) (sym logs) (logs-still w.client_logs x.life))
    (λ k a there. (a, subst (λ (c : List Joined). At c k a) (sym circuits) there, nothing-sent i x.names a)) calls (λ c linked. s.reached i x c at (sym (links c) ∙ linked)) s

-- lines are logged by which nothing is called
pub sent-lines : (w : World) (i : ℕ) (x : ClientSide) (lines : List Line) → At w.clients i x → (log : List Line) × At w.client_logs x.life log → NoCall lines → SentStand w → SentStand (with_lines x.life lines w)
sent-lines w i x lines at t none s =
    sent-moved w (with_lines x.life lines w) i x x x.names [] lines at
    (λ l y there. elim (number-or l i) [
      | inl same ↦ inl (same, At-one w.clients i y x (subst (λ (n : ℕ). At w.clients n y) same there) at)
      | inr other ↦ inr (there, other)
    ]) refl (logs-grown w.client_logs x.life lines t.0 t.1) (λ k a there. (a, there, nothing-sent i x.names a))
    (record { olds = λ intent u. u; lines_new = λ p intent e line. absurd (none p intent e line); sends = inl (λ m r place is. nowhere m r place); asks = λ p intent e line is. absurd (none p intent e line) })
    (λ c linked. s.reached i x c at linked) s
  where
    nowhere : (m : ℕ) (r : Sending) → (let l : List Sending = [] in At l m r) → ⊥
    nowhere m r place = cc

-- a call of a server
pub sent-server : (w : World) (i : ℕ) (y : ServerSide) (ends : Joined → Option (List ℕ)) (core : Server) → SentStand w → SentStand (server_after i y ends core w)
sent-server w i y ends core s = sent-same w (server_after i y ends core w) refl refl (all-map (ending ends) w.circuits (same-ending ends)) s

-- ---- an end that has ended is not connected

connection-of : Option ClientCircuit → Option Connection
connection-of o = option_and_then (λ (d : ClientCircuit). d.connection) o

let-go-none : (c : Handle) (d : ClientCircuit) (x : Client) → is_none (connection_at (let_go c d x) c) ≡ true
let-go-none c d x = go d.is_name
  where
    freed : (o : Option ClientCircuit) → under (without_circuit c x).circuits c ≡ o → is_none (option_and_then (λ (v : ClientCircuit). v.connection) o) ≡ true
    freed None is = refl
    freed (Some v) is = absurd ((freed-back x.circuits c c v is).0 refl)

    shut : (o : Option ClientCircuit) → under (client.disconnected c x).circuits c ≡ o → is_none (option_and_then (λ (v : ClientCircuit). v.connection) o) ≡ true
    shut None is = refl
    shut (Some v) is = elim (changed-back (λ (u : ClientCircuit). record u { connection = None }) x.circuits c c v is) [
      | inl own ↦ ap (λ (u : ClientCircuit). is_none u.connection) own.1.2
      | inr old ↦ absurd (old.0 refl)
    ]

    go : (b : Bool) → is_none (connection_at (cond b (client.disconnected c x) (without_circuit c x)) c) ≡ true
    go true = shut (under (client.disconnected c x).circuits c) refl
    go false = freed (under (without_circuit c x).circuits c) refl

pub ended-none : (c : Handle) (x : Client) → is_none (connection_at (ended c x) c) ≡ true
ended-none c x = go (under x.circuits c) refl
  where
    go : (o : Option ClientCircuit) → under x.circuits c ≡ o → is_none (connection_at (unwrap_or (option_map (λ (d : ClientCircuit). let_go c d (channels_ended c (without_ids c x))) o) x) c) ≡ true
    go None is = ap (λ (v : Option ClientCircuit). is_none (option_and_then (λ (u : ClientCircuit). u.connection) v)) is
    go (Some d) is = let-go-none c d (channels_ended c (without_ids c x))

-- what is connected then is another, which was connected before
pub ended-linked : (c d : Handle) (x : Client) → is_none (connection_at (ended c x) d) ≡ false → (d ≡ c → ⊥) × (is_none (connection_at x d) ≡ false)
ended-linked c d x linked = elim (handle-or d c) [
  | inl same ↦ absurd (both_ways (is_none (connection_at (ended c x) d)) linked (subst (λ (h : Handle). is_none (connection_at (ended c x) h) ≡ true) (sym same) (ended-none c x)))
  | inr other ↦ (other, sym ((ends-ended c x).links d other) ∙ linked)
]
