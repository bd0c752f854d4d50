-- What an event leaves of what clients have of their circuits, by what it leaves of one
-- client and of circuits.
use Rattle.std.proofs.Common.{◌≡◌, ℕ, ◌≤◌, ◌<◌, inl, inr, true, false, List, [], ◌++◌, length, Option, Some, None, refl, sym, ap, ◌∙◌, subst, arith}
use Rattle.std.specs.Prelude.{map, option_map, slice_set, unwrap_or}
use Rattle.std.proofs.lemmas.Bool.{both_ways, cases_Bool}
use Rattle.std.proofs.lemmas.List.{append-nil}
use Rattle.ca_text.specs.declared.command.Command.TheVariants as command
use Rattle.ca_text.specs.Place.{At}
use Rattle.ca_text.proofs.Places.{At-mapped, At-one, At-set}
use Rattle.ca_arena.specs.declared.handle.Handle.{Handle}
use Rattle.ca_ids.specs.Wire.{wire_of}
use Rattle.ca_model.specs.Answers.{Sending}
use Rattle.ca_model.specs.Client.{Client}
use Rattle.ca_model.specs.History.{Circuit, Create, Intent, On, Reply, Sent, Told}
use Rattle.ca_model.specs.Server.{Server}
use Rattle.ca_model.specs.Speech.{Cid, Creates, Gives, Is, Speaks}
use Rattle.ca_model.specs.Channels.{Suits}
use Rattle.ca_model.proofs.Thinner.{number-or, three-ways}
use Rattle.ca_model.specs.ClientEvents.{Outcomes, channel_number, client_after, sent_on}
use Rattle.ca_model.specs.ServerEvents.{ending, server_after, server_closed}
use Rattle.ca_model.specs.World.{ClientSide, Joined, Names, ServerSide, World}
use Rattle.ca_laws_parts.specs.Flows.{Concerns}
use Rattle.ca_laws_parts.proofs.Flows.{given-now}
use Rattle.ca_laws_parts.specs.Kept.{kept}
use Rattle.ca_laws_parts.specs.Circuit.{HeldOn, sent_to}
use Rattle.ca_laws_parts.proofs.Handled.{Like}
use Rattle.ca_laws_runs.specs.Held.{AllCircuitsHeld}
use Rattle.ca_laws_runs.proofs.HeardEnds.{sent-closed, sent-mine, sent-other}
use Rattle.ca_laws_runs.proofs.Says.{said}
use Rattle.ca_laws_runs.specs.Sides.{AllSided, IsLiveAs, Right, Sides}
use Rattle.ca_laws_runs.proofs.Calls.{calm-silent}
use Rattle.ca_laws_runs.proofs.Grows.{Facts}
use Rattle.ca_laws_runs.proofs.Live.{live-itself}
use Rattle.ca_laws_runs.proofs.Ways.{AllServe, Way, by-way, serving-right}

-- ---- one circuit

none-at : (s : Sent) (i : ℕ) → At [] i s → ⊥
none-at s i at = cc

-- what was read since plays no part
pub right-again : (c d : Circuit) → length c.heard ≤ length d.heard → Right (record d { heard = c.heard }) → Right d
right-again c d more h = record {
  read = λ p a s ask at is other.
      let b = h.read p a s ask at is other in
      let lt : b.0 < length c.heard = b.2 in
      (b.0, b.1, omega (arith, lt, more), record { t = (b.3).t; r = (b.3).r; told = (b.3).told; asked = (b.3).asked; early = (b.3).early; since = (b.3).since });
  under = λ p a s ask at is other. (let b = h.under p a s ask at is other in (b.0, b.1, record { t = (b.2).t; r = (b.2).r; told = (b.2).told; asked = (b.2).asked; early = (b.2).early; since = (b.2).since }));
  between = h.between;
  turn = h.turn;
}

pub right-served : (c d : Circuit) (ss : List Sent) → d.up ≡ c.up ++ ss → d.down ≡ c.down → length c.heard ≤ length d.heard → length d.handled ≡ length c.handled → AllServe ss → Right c → Right d
right-served c d ss up down more handled serve h = right-again c d more (serving-right c (record d { heard = c.heard }) ss up down refl handled serve h)

pub same-right : (c d : Circuit) → d.up ≡ c.up → d.down ≡ c.down → length c.heard ≤ length d.heard → length d.handled ≡ length c.handled → Right c → Right d
same-right c d up down more handled h = right-served c d [] (up ∙ sym (append-nil c.up)) down more handled (λ i s at. absurd (none-at s i at)) h

module _ (c d : Circuit) (up : d.up ≡ c.up) (down : d.down ≡ c.down) (heard : length d.heard ≡ length c.heard) (handled : length d.handled ≡ length c.handled) where
  no-more : d.up ≡ c.up ++ []
  no-more = up ∙ sym (append-nil c.up)

  pub same-sides : (n : Names) (x : Client) (on : Handle) → Sides n x on c → Right c → Sides n x on d
  same-sides n x on sides right = (by-way c d [] no-more down heard handled n n x x on (λ i s a at. absurd (none-at s i at)) (λ h sid l. refl) sides right (inl (calm-silent on n x x (live-itself on x.channels)))).0

-- ---- what is known of circuits on which more was sent

create-command : (a : ℕ) (s : Sent) → s.intent ≡ On a Create → Suits s.intent s.message → Is command.CreateChannel s.message
create-command a s is suits = subst (λ (i : Intent). Suits i s.message) is suits

-- It is a CREATE_CHAN, so the id that it concerns is the CID that it gives.
given-by : (up : List Sent) (p cid : ℕ) (r : Sent) → At up p r → Is command.CreateChannel r.message → Concerns up p (Cid cid) → r.message.p1 ≡ cid
given-by up p cid r at creates concerns =
    let one : concerns.0 ≡ r = At-one up p concerns.0 r concerns.1 at in
    let is : r.message.command ≡ 18 = creates in
    let same : concerns.0.message.command ≡ r.message.command = ap (λ (v : Sent). v.message.command) one in
    elim concerns.2 [
      | inl gives ↦ ap (λ (v : Sent). v.message.p1) (sym one) ∙ gives.1
      | inr (inl clears) ↦ absurd (let e : ◌≡◌ {A = ℕ} 18 12 = sym is ∙ sym same ∙ clears.0 in omega (arith, e))
      | inr (inr (inl cancels)) ↦ absurd (let e : ◌≡◌ {A = ℕ} 18 2 = sym is ∙ sym same ∙ cancels.0 in omega (arith, e))
      | inr (inr (inr writes)) ↦ absurd (let e : ◌≡◌ {A = ℕ} 18 4 = sym is ∙ sym same ∙ writes.0 in omega (arith, e))
    ]

module _ (ps : List ℕ) (n : Names) (x : Client) (j : Joined) (h : HeldOn ps n x j) (opened : j.lists.client_open ≡ true) where
  -- the CREATE_CHANs of one channel have one CID
  one-cid : (p k a : ℕ) (r q : Sent) → At j.lists.up p r → At j.lists.up k q → r.intent ≡ On a Create → q.intent ≡ On a Create → r.message.p1 ≡ q.message.p1
  one-cid p k a r q at_r at_q is_r is_q =
      let f = h.cids opened p a r at_r is_r in
      let g = h.cids opened k a q at_q is_q in
      f.2 ∙ ap wire_of (At-one n.channels a f.0 g.0 f.1 g.1) ∙ sym g.2

  gives-cid : (k a cid : ℕ) (q : Sent) → At j.lists.up k q → q.intent ≡ On a Create → q.message.p1 ≡ cid → Gives q.message (Cid cid)
  gives-cid k a cid q at is same = (create-command a q is (h.flows.asked k q at), same)

  pub turn-held : (p k a : ℕ) (r q : Sent) → p < k → At j.lists.up p r → At j.lists.up k q → r.intent ≡ On a Create → q.intent ≡ On a Create → p < length j.lists.handled
  turn-held p k a r q lt at_r at_q is_r is_q = elim (three-ways p (length j.lists.handled)) [
    | inl before ↦ before
    | inr late ↦
        let le : length j.lists.handled ≤ p = elim late [ inl same ↦ omega (arith, same) | inr after ↦ omega (arith, after) ] in
        let means = h.flows.next p (Cid r.message.p1) (inl le) (r, at_r, inl (gives-cid p a r.message.p1 r at_r is_r refl)) in
        let before : means.0 ≤ p = means.4 in
        absurd (means.3.4 k q (omega (arith, before, lt)) at_q (gives-cid k a r.message.p1 q at_q is_q (sym (one-cid p k a r q at_r at_q is_r is_q))))
  ]

  pub read-held : (p k a i sid : ℕ) (r q : Sent) (t : Told) → p < k → At j.lists.up p r → At j.lists.up k q → r.intent ≡ On a Create → q.intent ≡ On a Create → At j.lists.down i t → t.place ≡ p → t.cause ≡ Reply → Creates t.message sid → i < length j.lists.heard
  read-held p k a i sid r q t lt at_r at_q is_r is_q told about reply creates = elim (three-ways i (length j.lists.heard)) [
    | inl before ↦ before
    | inr late ↦
        let le : length j.lists.heard ≤ i = elim late [ inl same ↦ omega (arith, same) | inr after ↦ omega (arith, after) ] in
        let cid : ℕ = t.message.p1 in
        let speaks : Speaks t.message (Cid cid) = inl (inl (inl creates.0, refl)) in
        let means = given-now j.lists i t.place (Cid cid) le (h.flows.own i t (Cid cid) told speaks) in
        let there : At j.lists.up t.place r = subst (λ (v : ℕ). At j.lists.up v r) (sym about) at_r in
        let same : r.message.p1 ≡ cid = given-by j.lists.up t.place cid r there (create-command a r is_r (h.flows.asked p r at_r)) (h.flows.concerns i t (Cid cid) told speaks) in
        let before : means.0 ≤ t.place = means.4 in
        absurd (means.3.4 k q (omega (arith, before, about, lt)) at_q (gives-cid k a cid q at_q is_q (sym (one-cid p k a r q at_r at_q is_r is_q) ∙ same)))
  ]

-- of the circuits whose ends at clients are open after an event
abbrev pub FactsFor : (w new : World) → Type 0
FactsFor w new = (k : ℕ) (j a : Joined) → At new.circuits k j → At w.circuits k a → j.lists.client_open ≡ true → Facts a.lists j.lists

pub facts-held : (w new : World) → AllCircuitsHeld w → AllCircuitsHeld new → FactsFor w new
facts-held w new held now k j a at_j at_a opened =
    let b = held k a at_a in
    let f = now k j at_j in
    let was : HeldOn (kept w k) b.1.names b.1.core a = subst (λ (v : Joined). HeldOn (kept w k) b.1.names b.1.core v) (At-one w.circuits k b.0 a b.2 at_a) b.4 in
    let is : HeldOn (kept new k) f.1.names f.1.core j = subst (λ (v : Joined). HeldOn (kept new k) f.1.names f.1.core v) (At-one new.circuits k f.0 j f.2 at_j) f.4 in
    record { turn = turn-held (kept new k) f.1.names f.1.core j is opened; read = read-held (kept new k) f.1.names f.1.core j is opened; about = was.flows.about }

-- ---- a client changes, and sent these

-- It is an end of the same client under the same handle; if it is open it was, and these were sent
-- there since; if it ended then, these only serve the circuit. Nothing else happened there.
pub record IsEndAfter (i : ℕ) (n : Names) (sent : List Sending) (a j : Joined) : Type 0 where
  pub client : j.client ≡ a.client
  pub handle : j.at_client ≡ a.at_client
  pub opens : j.lists.client_open ≡ true → a.lists.client_open ≡ true
  pub shuts : a.lists.client_open ≡ true → j.lists.client_open ≡ false → AllServe (said n a.at_client sent)
  pub up : j.lists.up ≡ a.lists.up ++ sent_on i n sent a
  pub down : j.lists.down ≡ a.lists.down
  pub heard : length j.lists.heard ≡ length a.lists.heard
  pub handled : length j.lists.handled ≡ length a.lists.handled

-- The same, except that the client may have read a message there.
pub record IsEnd (i : ℕ) (n : Names) (sent : List Sending) (a j : Joined) : Type 0 where
  pub client : j.client ≡ a.client
  pub handle : j.at_client ≡ a.at_client
  pub opens : j.lists.client_open ≡ true → a.lists.client_open ≡ true
  pub shuts : a.lists.client_open ≡ true → j.lists.client_open ≡ false → AllServe (said n a.at_client sent)
  pub up : j.lists.up ≡ a.lists.up ++ sent_on i n sent a
  pub down : j.lists.down ≡ a.lists.down
  pub heard : (a.client ≡ i → ⊥) → length j.lists.heard ≡ length a.lists.heard
  pub more : length a.lists.heard ≤ length j.lists.heard
  pub handled : length j.lists.handled ≡ length a.lists.handled

pub end-of : (i : ℕ) (n : Names) (sent : List Sending) (a j : Joined) → IsEndAfter i n sent a j → IsEnd i n sent a j
end-of i n sent a j e = record { client = e.client; handle = e.handle; opens = e.opens; shuts = e.shuts; up = e.up; down = e.down; heard = λ other. e.heard; more = (let is : length j.lists.heard ≡ length a.lists.heard = e.heard in omega (arith, is)); handled = e.handled }

abbrev pub AllEnds : (i : ℕ) (n : Names) (sent : List Sending) → (was now : List Joined) → Type 0
AllEnds i n sent was now = (k : ℕ) (j : Joined) → At now k j → (a : Joined) × At was k a × IsEnd i n sent a j

abbrev pub AllAfter : (i : ℕ) (n : Names) (sent : List Sending) → (was now : List Joined) → Type 0
AllAfter i n sent was now = (k : ℕ) (j : Joined) → At now k j → (a : Joined) × At was k a × IsEndAfter i n sent a j

module _ (w new : World) (i : ℕ) (x z : ClientSide) (spoken : Names) (sent : List Sending) (at : At w.clients i x) (same : new.clients ≡ slice_set w.clients i z) (ends : AllEnds i spoken sent w.circuits new.circuits)
    (step : (k : ℕ) (j a : Joined) → At new.circuits k j → At w.circuits k a → IsEnd i spoken sent a j → a.client ≡ i → j.lists.client_open ≡ true → j.lists.up ≡ a.lists.up ++ said spoken a.at_client sent → Sides x.names x.core a.at_client a.lists → Right a.lists
    → Sides z.names z.core a.at_client j.lists × Right j.lists) (s : AllSided w) where
  pub sided-by : AllSided new
  sided-by = record {
    sides = λ k j y stands there open_it.
        let p = ends k j stands in
        elim (At-set w.clients i z j.client y (subst (λ (l : List ClientSide). At l j.client y) same there)) [
          | inl here ↦
              let mine : p.0.client ≡ i = sym p.2.client ∙ here.0 in
              let r = stepped k j p.0 stands p.1 p.2 mine open_it in
              subst (λ (v : ClientSide × Handle). Sides v.0.names v.0.core v.1 j.lists) (λ l. (sym here.1 l, sym p.2.handle l)) r.0
          | inr old ↦
              let other : p.0.client ≡ i → ⊥ = λ e. old.1 (p.2.client ∙ e) in
              let was = s.sides k p.0 y p.1 (subst (λ (c : ℕ). At w.clients c y) p.2.client old.0) (p.2.opens open_it) in
              subst (λ (v : Handle). Sides y.names y.core v j.lists) (sym p.2.handle)
              (same-sides p.0.lists j.lists (up-same p.0 j p.2 (sent-other i spoken sent p.0 other)) p.2.down (p.2.heard other) p.2.handled y.names y.core p.0.at_client was (s.right k p.0 p.1))
        ];
    right = λ k j stands.
        let p = ends k j stands in
        elim (number-or p.0.client i) [
          | inr other ↦ same-right p.0.lists j.lists (up-same p.0 j p.2 (sent-other i spoken sent p.0 other)) p.2.down p.2.more p.2.handled (s.right k p.0 p.1)
          | inl mine ↦ elim (cases_Bool p.0.lists.client_open) [
            | inr shut ↦ same-right p.0.lists j.lists (up-same p.0 j p.2 (sent-closed i spoken sent p.0 shut)) p.2.down p.2.more p.2.handled (s.right k p.0 p.1)
            | inl opened ↦ elim (cases_Bool j.lists.client_open) [
              | inl still ↦ (stepped k j p.0 stands p.1 p.2 mine still).1
              | inr ended ↦
                  right-served p.0.lists j.lists (said spoken p.0.at_client sent) (p.2.up ∙ ap (λ (l : List Sent). p.0.lists.up ++ l) (sent-mine i spoken sent p.0 mine opened)) p.2.down p.2.more p.2.handled
                  (p.2.shuts opened ended) (s.right k p.0 p.1)
            ]
          ]
        ];
  }
    where
      up-same : (a j : Joined) → IsEnd i spoken sent a j → sent_on i spoken sent a ≡ [] → j.lists.up ≡ a.lists.up
      up-same a j end none = end.up ∙ ap (λ (l : List Sent). a.lists.up ++ l) none ∙ append-nil a.lists.up

      stepped : (k : ℕ) (j a : Joined) → At new.circuits k j → At w.circuits k a → IsEnd i spoken sent a j → a.client ≡ i → j.lists.client_open ≡ true → Sides z.names z.core a.at_client j.lists × Right j.lists
      stepped k j a at_j at_a end mine open_it =
          let opened : a.lists.client_open ≡ true = end.opens open_it in
          step k j a at_j at_a end mine open_it (end.up ∙ ap (λ (l : List Sent). a.lists.up ++ l) (sent-mine i spoken sent a mine opened))
          (s.sides k a x at_a (subst (λ (c : ℕ). At w.clients c x) (sym mine) at) opened) (s.right k a at_a)

-- it spoke in one of the three ways on each circuit that is open still
pub sided-ways : (w new : World) (i : ℕ) (x z : ClientSide) (spoken : Names) (sent : List Sending) → At w.clients i x → new.clients ≡ slice_set w.clients i z → AllAfter i spoken sent w.circuits new.circuits
    → ((k : ℕ) (j a : Joined) → At new.circuits k j → At w.circuits k a → a.client ≡ i → a.lists.client_open ≡ true → j.lists.client_open ≡ true → Way a.at_client x.names x.core (said spoken a.at_client sent) z.core)
    → ((k : ℕ) (j a : Joined) (l : ℕ) (m : Sent) (b : ℕ) → At new.circuits k j → At w.circuits k a → j.lists.client_open ≡ true → At (said spoken a.at_client sent) l m → m.intent ≡ On b Create → Facts a.lists j.lists)
    → ((h : Handle) (sid : ℕ) (on : Handle) → IsLiveAs x.core.channels on h sid → channel_number z.names h ≡ channel_number x.names h) → AllSided w → AllSided new
sided-ways w new i x z spoken sent at same ends ways facts numbers s = sided-by w new i x z spoken sent at same (λ k j at_j. (let p = ends k j at_j in (p.0, p.1, end-of i spoken sent p.0 j p.2))) (λ k j a at_j at_a end mine open_it up sides right.
    let p = ends k j at_j in
    let heard : length j.lists.heard ≡ length a.lists.heard = p.2.heard ∙ ap (λ (v : Joined). length v.lists.heard) (At-one w.circuits k p.0 a p.1 at_a) in
    by-way a.lists j.lists (said spoken a.at_client sent) up end.down heard end.handled x.names z.names x.core z.core a.at_client (λ l m b there creates. facts k j a l m b at_j at_a open_it there creates) (λ h sid l. numbers h sid a.at_client l) sides right
    (ways k j a at_j at_a mine (end.opens open_it) open_it)) s

pub after-sent : (i : ℕ) (n : Names) (sent : List Sending) (was : List Joined) → AllAfter i n sent was (map (sent_to i n sent) was)
after-sent i n sent was k j at =
    let m = At-mapped (sent_to i n sent) was k j at in
    (m.0, m.1, subst (λ (z : Joined). IsEndAfter i n sent m.0 z) (sym m.2) (record { client = refl; handle = refl; opens = λ o. o; shuts = λ o f. absurd (both_ways m.0.lists.client_open f o); up = refl; down = refl; heard = refl; handled = refl }))

-- a call of client i
pub sided-called : (w : World) (i : ℕ) (x : ClientSide) (spoken : Names) (o : Outcomes) → At w.clients i x → ((on : Handle) → Way on x.names x.core (said spoken on o.sent) o.core) → FactsFor w (client_after i x spoken o w)
    → ((h : Handle) (sid : ℕ) (on : Handle) → IsLiveAs x.core.channels on h sid → channel_number o.names h ≡ channel_number x.names h) → AllSided w → AllSided (client_after i x spoken o w)
sided-called w i x spoken o at ways facts numbers s =
    sided-ways w (client_after i x spoken o w) i x (record x { core = o.core; names = o.names }) spoken o.sent at refl (after-sent i spoken o.sent w.circuits) (λ k j a at_j at_a mine was open_it. ways a.at_client)
    (λ k j a l m b at_j at_a open_it there creates. facts k j a at_j at_a open_it) numbers s

-- ---- no client changes, and nothing is sent

-- It is an end of the same client under the same handle, on which the client said and read nothing.
pub record IsSameEnd (a j : Joined) : Type 0 where
  pub client : j.client ≡ a.client
  pub handle : j.at_client ≡ a.at_client
  pub opens : j.lists.client_open ≡ true → a.lists.client_open ≡ true
  pub up : j.lists.up ≡ a.lists.up
  pub heard : j.lists.heard ≡ a.lists.heard

pub same-end : (a : Joined) → IsSameEnd a a
same-end a = record { client = refl; handle = refl; opens = λ o. o; up = refl; heard = refl }

pub same-then : (a b c : Joined) → IsSameEnd a b → IsSameEnd b c → IsSameEnd a c
same-then a b c f g = record { client = g.client ∙ f.client; handle = g.handle ∙ f.handle; opens = λ o. f.opens (g.opens o); up = g.up ∙ f.up; heard = g.heard ∙ f.heard }

abbrev pub AllSame : List Joined → List Joined → Type 0
AllSame was now = (k : ℕ) (j : Joined) → At now k j → (a : Joined) × At was k a × IsSameEnd a j

pub all-same : (was : List Joined) → AllSame was was
all-same was k j at = (j, at, same-end j)

pub all-then : (a b c : List Joined) → AllSame a b → AllSame b c → AllSame a c
all-then a b c f g k j at =
    let m = g k j at in
    let n = f k m.0 m.1 in
    (n.0, n.1, same-then n.0 m.0 j n.2 m.2)

pub all-map : (f : Joined → Joined) (was : List Joined) → ((a : Joined) → IsSameEnd a (f a)) → AllSame was (map f was)
all-map f was ends k j at = (let m = At-mapped f was k j at in (m.0, m.1, subst (λ (z : Joined). IsSameEnd m.0 z) (sym m.2) (ends m.0)))

pub all-set : (k : ℕ) (a new : Joined) (was : List Joined) → At was k a → IsSameEnd a new → AllSame was (slice_set was k new)
all-set k a new was at end l j there = elim (At-set was k new l j there) [
  | inl here ↦ (a, subst (λ (z : ℕ). At was z a) (sym here.0) at, subst (λ (z : Joined). IsSameEnd a z) (sym here.1) end)
  | inr old ↦ (j, old.0, same-end j)
]

-- From the one world to the other clients are as they were, and so are their ends.
pub record From (o v : World) : Type 0 where
  pub clients : v.clients ≡ o.clients
  pub circuits : AllSame o.circuits v.circuits

pub from-itself : (o : World) → From o o
from-itself o = record { clients = refl; circuits = all-same o.circuits }

pub from-same : (o w new : World) → new.clients ≡ w.clients → AllSame w.circuits new.circuits → From o w → From o new
from-same o w new same all s = record { clients = same ∙ s.clients; circuits = all-then o.circuits w.circuits new.circuits s.circuits all }

pub same-like : (a j : Joined) → Like a j → IsSameEnd a j
same-like a j like = record {
  client = like.2;
  handle = like.1;
  opens = λ o. sym (ap (λ (c : Circuit). c.client_open) like.0) ∙ o;
  up = ap (λ (c : Circuit). c.up) like.0;
  heard = ap (λ (c : Circuit). c.heard) like.0;
}

pub same-ending : (ends : Joined → Option (List ℕ)) (a : Joined) → IsSameEnd a (ending ends a)
same-ending ends a = go (ends a)
  where
    go : (o : Option (List ℕ)) → IsSameEnd a (unwrap_or (option_map (λ (left : List ℕ). server_closed left a) o) a)
    go (Some left) = record { client = refl; handle = refl; opens = λ o. o; up = refl; heard = refl }
    go None = same-end a

-- a call of a server
pub from-server : (o w : World) (i : ℕ) (y : ServerSide) (ends : Joined → Option (List ℕ)) (core : Server) → From o w → From o (server_after i y ends core w)
from-server o w i y ends core s = from-same o w (server_after i y ends core w) refl (all-map (ending ends) w.circuits (same-ending ends)) s
