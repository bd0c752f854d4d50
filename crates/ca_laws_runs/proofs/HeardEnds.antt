-- What an event leaves of what was sent by the clients of a world, by what it leaves of one
-- client and of circuits.
use Rattle.std.proofs.Common.{◌≡◌, ℕ, inl, inr, Bool, true, false, ◌&&◌, cond, eqb, List, [], ◌++◌, Option, Some, None, refl, sym, ap, ◌∙◌, subst}
use Rattle.std.specs.Prelude.{filter, map, option_map, slice_set, unwrap_or}
use Rattle.std.proofs.lemmas.Bool.{and_from, both_ways, cases_Bool, eq-eqb, eqb-true}
use Rattle.std.proofs.lemmas.List.{append-nil}
use Rattle.ca_text.specs.Place.{At}
use Rattle.ca_text.proofs.Places.{At-mapped, At-set}
use Rattle.ca_arena.specs.declared.handle.Handle.{Handle}
use Rattle.ca_ids.specs.Table.{same_handle}
use Rattle.ca_model.specs.Answers.{Sending}
use Rattle.ca_model.specs.History.{Circuit, Sent}
use Rattle.ca_model.specs.Server.{Server}
use Rattle.ca_model.specs.ClientEvents.{Outcomes, client_after, client_closed, sent_on}
use Rattle.ca_model.specs.ServerEvents.{ending, server_after, server_closed}
use Rattle.ca_model.specs.World.{ClientSide, Joined, Names, ServerSide, World}
use Rattle.ca_laws_parts.specs.Circuit.{sent_to, stamped}
use Rattle.ca_model.proofs.Thinner.{number-or}
use Rattle.ca_laws_parts.proofs.Handled.{Like}
use Rattle.ca_laws_runs.specs.Quiet.{AreAddedApart, AreCids, HaveCids, AreSubIds, ClientsQuiet, Quiet, Tidy}
use Rattle.ca_laws_runs.proofs.CidsSaid.{cids-are}
use Rattle.ca_laws_runs.proofs.Says.{Moved, said, sub-ids}

-- It is an end of the same client under the same handle; if it is open it was, and these
-- were sent there since.
pub record IsEndAfter (i : ℕ) (n : Names) (sent : List Sending) (a j : Joined) : Type 0 where
  pub client : j.client ≡ a.client
  pub handle : j.at_client ≡ a.at_client
  pub opens : j.lists.client_open ≡ true → a.lists.client_open ≡ true
  pub up : j.lists.up ≡ a.lists.up ++ sent_on i n sent a

-- nothing was
pub record IsSameEnd (a j : Joined) : Type 0 where
  pub client : j.client ≡ a.client
  pub handle : j.at_client ≡ a.at_client
  pub opens : j.lists.client_open ≡ true → a.lists.client_open ≡ true
  pub up : j.lists.up ≡ a.lists.up

pub same-end : (a : Joined) → IsSameEnd a a
same-end a = record { client = refl; handle = refl; opens = λ o. o; up = refl }

pub same-then : (a b c : Joined) → IsSameEnd a b → IsSameEnd b c → IsSameEnd a c
same-then a b c f g = record { client = g.client ∙ f.client; handle = g.handle ∙ f.handle; opens = λ o. f.opens (g.opens o); up = g.up ∙ f.up }

pub same-closed : (left : List ℕ) (a : Joined) → IsSameEnd a (client_closed left a)
same-closed left a = record { client = refl; handle = refl; opens = λ o. absurd (both_ways false refl o); up = refl }

pub same-like : (a j : Joined) → Like a j → IsSameEnd a j
same-like a j like = record {
  client = like.2;
  handle = like.1;
  opens = λ o. sym (ap (λ (c : Circuit). c.client_open) like.0) ∙ o;
  up = ap (λ (c : Circuit). c.up) like.0;
}

pub same-ending : (ends : Joined → Option (List ℕ)) (a : Joined) → IsSameEnd a (ending ends a)
same-ending ends a = go (ends a)
  where
    go : (o : Option (List ℕ)) → IsSameEnd a (unwrap_or (option_map (λ (left : List ℕ). server_closed left a) o) a)
    go (Some left) = record { client = refl; handle = refl; opens = λ o. o; up = refl }
    go None = same-end a

-- each end was there so
abbrev pub AllSame : List Joined → List Joined → Type 0
AllSame was now = (k : ℕ) (j : Joined) → At now k j → (a : Joined) × At was k a × IsSameEnd a j

pub all-same : (was : List Joined) → AllSame was was
all-same was k j at = (j, at, same-end j)

pub all-then : (a b c : List Joined) → AllSame a b → AllSame b c → AllSame a c
all-then a b c f g k j at =
    let m = g k j at in
    let n = f k m.0 m.1 in
    (n.0, n.1, same-then n.0 m.0 j n.2 m.2)

pub all-map : (f : Joined → Joined) (was : List Joined) → ((a : Joined) → IsSameEnd a (f a)) → AllSame was (map f was)
all-map f was ends k j at = (let m = At-mapped f was k j at in (m.0, m.1, subst (λ (z : Joined). IsSameEnd m.0 z) (sym m.2) (ends m.0)))

pub all-set : (k : ℕ) (a new : Joined) (was : List Joined) → At was k a → IsSameEnd a new → AllSame was (slice_set was k new)
all-set k a new was at end l j there = elim (At-set was k new l j there) [
  | inl here ↦ (a, subst (λ (z : ℕ). At was z a) (sym here.0) at, subst (λ (z : Joined). IsSameEnd a z) (sym here.1) end)
  | inr old ↦ (j, old.0, same-end j)
]

-- ---- a world after an event

-- no client changes, and nothing is sent
pub quiet-same : (w new : World) → new.clients ≡ w.clients → AllSame w.circuits new.circuits → ClientsQuiet w → ClientsQuiet new
quiet-same w new same all s = record {
  tidy = λ i x at. s.tidy i x (subst (λ (l : List ClientSide). At l i x) same at);
  quiet = λ k j x at there open_it.
      let p = all k j at in
      let client : At w.clients p.0.client x = subst (λ (z : ℕ). At w.clients z x) p.2.client (subst (λ (l : List ClientSide). At l j.client x) same there) in
      subst (λ (z : Handle × List Sent). Quiet x.names x.core z.0 z.1) (λ i. (sym p.2.handle i, sym p.2.up i)) (s.quiet k p.0 x p.1 client (p.2.opens open_it));
  ids = λ k j at. (let p = all k j at in subst (λ (l : List Sent). AreSubIds l) (sym p.2.up) (s.ids k p.0 p.1));
  apart = λ k j at. (let p = all k j at in subst (λ (l : List Sent). AreAddedApart l) (sym p.2.up) (s.apart k p.0 p.1));
  named = λ k j x at there open_it.
      let p = all k j at in
      let client : At w.clients p.0.client x = subst (λ (z : ℕ). At w.clients z x) p.2.client (subst (λ (l : List ClientSide). At l j.client x) same there) in
      subst (λ (l : List Sent). HaveCids x.names.channels l) (sym p.2.up) (s.named k p.0 x p.1 client (p.2.opens open_it));
  cids = λ k j at. (let p = all k j at in subst (λ (l : List Sent). AreCids l) (sym p.2.up) (s.cids k p.0 p.1));
}

pub sent-mine : (i : ℕ) (n : Names) (sent : List Sending) (a : Joined) → a.client ≡ i → a.lists.client_open ≡ true → sent_on i n sent a ≡ said n a.at_client sent
sent-mine i n sent a mine opened = go (eqb a.client i && a.lists.client_open) (and_from (eqb a.client i) a.lists.client_open (eq-eqb a.client i mine) opened)
  where
    go : (b : Bool) → b ≡ true → cond b (map (stamped n) (filter (λ (s : Sending). same_handle s.circuit a.at_client) sent)) [] ≡ said n a.at_client sent
    go true is = refl
    go false is = absurd (both_ways false refl is)

pub sent-other : (i : ℕ) (n : Names) (sent : List Sending) (a : Joined) → (a.client ≡ i → ⊥) → sent_on i n sent a ≡ []
sent-other i n sent a other = go (eqb a.client i) refl
  where
    go : (b : Bool) → eqb a.client i ≡ b → cond (b && a.lists.client_open) (map (stamped n) (filter (λ (s : Sending). same_handle s.circuit a.at_client) sent)) [] ≡ []
    go true is = absurd (other (eqb-true a.client i is))
    go false is = refl

pub sent-closed : (i : ℕ) (n : Names) (sent : List Sending) (a : Joined) → a.lists.client_open ≡ false → sent_on i n sent a ≡ []
sent-closed i n sent a shut = go (eqb a.client i) a.lists.client_open shut
  where
    go : (b c : Bool) → c ≡ false → cond (b && c) (map (stamped n) (filter (λ (s : Sending). same_handle s.circuit a.at_client) sent)) [] ≡ []
    go true true is = absurd (both_ways true is refl)
    go true false is = refl
    go false c is = refl

-- ids stay right where nothing was sent
pub ids-still : (i : ℕ) (n : Names) (sent : List Sending) (a j : Joined) → IsEndAfter i n sent a j → sent_on i n sent a ≡ [] → AreSubIds a.lists.up → AreSubIds j.lists.up
ids-still i n sent a j end none ids =
    subst (λ (l : List Sent). AreSubIds l) (sym (end.up ∙ ap (λ (l : List Sent). a.lists.up ++ l) none ∙ append-nil a.lists.up)) ids

-- and so do EVENT_ADDs
apart-still : (i : ℕ) (n : Names) (sent : List Sending) (a j : Joined) → IsEndAfter i n sent a j → sent_on i n sent a ≡ [] → AreAddedApart a.lists.up → AreAddedApart j.lists.up
apart-still i n sent a j end none were =
    subst (λ (l : List Sent). AreAddedApart l) (sym (end.up ∙ ap (λ (l : List Sent). a.lists.up ++ l) none ∙ append-nil a.lists.up)) were

pub cids-still : (i : ℕ) (n : Names) (sent : List Sending) (a j : Joined) → IsEndAfter i n sent a j → sent_on i n sent a ≡ [] → AreCids a.lists.up → AreCids j.lists.up
cids-still i n sent a j end none were =
    subst (λ (l : List Sent). AreCids l) (sym (end.up ∙ ap (λ (l : List Sent). a.lists.up ++ l) none ∙ append-nil a.lists.up)) were

-- one client changes, and sent these
pub quiet-moved : (w new : World) (i : ℕ) (x z : ClientSide) (spoken : Names) (sent : List Sending) → At w.clients i x → new.clients ≡ slice_set w.clients i z → ((k : ℕ) (j : Joined) → At new.circuits k j → (a : Joined) × At w.circuits k a × IsEndAfter i spoken sent a j)
    → Moved x.names x.core spoken sent z.names z.core → ClientsQuiet w → ClientsQuiet new
quiet-moved w new i x z spoken sent at same ends moved s = record {
  tidy = λ l y there. elim (At-set w.clients i z l y (subst (λ (c : List ClientSide). At c l y) same there)) [
    | inl here ↦ subst (λ (v : ClientSide). Tidy v.names v.core) (sym here.1) moved.tidy
    | inr old ↦ s.tidy l y old.0
  ];
  quiet = λ k j y stands there open_it.
      let p = ends k j stands in
      let opened : p.0.lists.client_open ≡ true = p.2.opens open_it in
      elim (At-set w.clients i z j.client y (subst (λ (c : List ClientSide). At c j.client y) same there)) [
        | inl here ↦
            let mine : p.0.client ≡ i = sym p.2.client ∙ here.0 in
            let was : Quiet x.names x.core p.0.at_client p.0.lists.up = s.quiet k p.0 x p.1 (subst (λ (c : ℕ). At w.clients c x) (sym mine) at) opened in
            let up : j.lists.up ≡ p.0.lists.up ++ said spoken p.0.at_client sent = p.2.up ∙ ap (λ (l : List Sent). p.0.lists.up ++ l) (sent-mine i spoken sent p.0 mine opened) in
            subst (λ (v : ClientSide). Quiet v.names v.core j.at_client j.lists.up) (sym here.1)
            (subst (λ (v : Handle × List Sent). Quiet z.names z.core v.0 v.1) (λ i. (sym p.2.handle i, sym up i)) (moved.quiet p.0.at_client p.0.lists.up was))
        | inr old ↦
            let other : p.0.client ≡ i → ⊥ = λ e. old.1 (p.2.client ∙ e) in
            let up : j.lists.up ≡ p.0.lists.up = p.2.up ∙ ap (λ (l : List Sent). p.0.lists.up ++ l) (sent-other i spoken sent p.0 other) ∙ append-nil p.0.lists.up in
            subst (λ (v : Handle × List Sent). Quiet y.names y.core v.0 v.1) (λ i. (sym p.2.handle i, sym up i))
            (s.quiet k p.0 y p.1 (subst (λ (c : ℕ). At w.clients c y) p.2.client old.0) opened)
      ];
  ids = λ k j stands.
      let p = ends k j stands in
      elim (cases_Bool p.0.lists.client_open) [
        | inr shut ↦ ids-still i spoken sent p.0 j p.2 (sent-closed i spoken sent p.0 shut) (s.ids k p.0 p.1)
        | inl opened ↦ elim (number-or p.0.client i) [
          | inr other ↦ ids-still i spoken sent p.0 j p.2 (sent-other i spoken sent p.0 other) (s.ids k p.0 p.1)
          | inl mine ↦
              let was : Quiet x.names x.core p.0.at_client p.0.lists.up = s.quiet k p.0 x p.1 (subst (λ (c : ℕ). At w.clients c x) (sym mine) at) opened in
              let up : j.lists.up ≡ p.0.lists.up ++ said spoken p.0.at_client sent = p.2.up ∙ ap (λ (l : List Sent). p.0.lists.up ++ l) (sent-mine i spoken sent p.0 mine opened) in
              subst (λ (l : List Sent). AreSubIds l) (sym up) (sub-ids z.names z.core p.0.at_client (p.0.lists.up ++ said spoken p.0.at_client sent) (moved.quiet p.0.at_client p.0.lists.up was))
        ]
      ];
  apart = λ k j stands.
      let p = ends k j stands in
      elim (cases_Bool p.0.lists.client_open) [
        | inr shut ↦ apart-still i spoken sent p.0 j p.2 (sent-closed i spoken sent p.0 shut) (s.apart k p.0 p.1)
        | inl opened ↦ elim (number-or p.0.client i) [
          | inr other ↦ apart-still i spoken sent p.0 j p.2 (sent-other i spoken sent p.0 other) (s.apart k p.0 p.1)
          | inl mine ↦
              let was : Quiet x.names x.core p.0.at_client p.0.lists.up = s.quiet k p.0 x p.1 (subst (λ (c : ℕ). At w.clients c x) (sym mine) at) opened in
              let up : j.lists.up ≡ p.0.lists.up ++ said spoken p.0.at_client sent = p.2.up ∙ ap (λ (l : List Sent). p.0.lists.up ++ l) (sent-mine i spoken sent p.0 mine opened) in
              subst (λ (l : List Sent). AreAddedApart l) (sym up) (moved.apart p.0.at_client p.0.lists.up was (s.apart k p.0 p.1))
        ]
      ];
  named = λ k j y stands there open_it.
      let p = ends k j stands in
      let opened : p.0.lists.client_open ≡ true = p.2.opens open_it in
      elim (At-set w.clients i z j.client y (subst (λ (c : List ClientSide). At c j.client y) same there)) [
        | inl here ↦ subst (λ (v : ClientSide). HaveCids v.names.channels j.lists.up) (sym here.1) (mine-named k j p.0 p.1 p.2 (sym p.2.client ∙ here.0) opened)
        | inr old ↦
            let other : p.0.client ≡ i → ⊥ = λ e. old.1 (p.2.client ∙ e) in
            let up : j.lists.up ≡ p.0.lists.up = p.2.up ∙ ap (λ (l : List Sent). p.0.lists.up ++ l) (sent-other i spoken sent p.0 other) ∙ append-nil p.0.lists.up in
            subst (λ (l : List Sent). HaveCids y.names.channels l) (sym up) (s.named k p.0 y p.1 (subst (λ (c : ℕ). At w.clients c y) p.2.client old.0) opened)
      ];
  cids = λ k j stands.
      let p = ends k j stands in
      elim (cases_Bool p.0.lists.client_open) [
        | inr shut ↦ cids-still i spoken sent p.0 j p.2 (sent-closed i spoken sent p.0 shut) (s.cids k p.0 p.1)
        | inl opened ↦ elim (number-or p.0.client i) [
          | inr other ↦ cids-still i spoken sent p.0 j p.2 (sent-other i spoken sent p.0 other) (s.cids k p.0 p.1)
          | inl mine ↦ cids-are z.names.channels j.lists.up (mine-named k j p.0 p.1 p.2 mine opened)
        ]
      ];
}
  where
    mine-named : (k : ℕ) (j a : Joined) → At w.circuits k a → IsEndAfter i spoken sent a j → a.client ≡ i → a.lists.client_open ≡ true → HaveCids z.names.channels j.lists.up
    mine-named k j a at_a end mine opened =
        subst (λ (l : List Sent). HaveCids z.names.channels l) (sym (end.up ∙ ap (λ (l : List Sent). a.lists.up ++ l) (sent-mine i spoken sent a mine opened)))
        (moved.cids a.at_client a.lists.up (s.named k a x at_a (subst (λ (c : ℕ). At w.clients c x) (sym mine) at) opened))

pub after-sent : (i : ℕ) (n : Names) (sent : List Sending) (was : List Joined) (k : ℕ) (j : Joined) → At (map (sent_to i n sent) was) k j → (a : Joined) × At was k a × IsEndAfter i n sent a j
after-sent i n sent was k j at =
    let m = At-mapped (sent_to i n sent) was k j at in
    (m.0, m.1, subst (λ (z : Joined). IsEndAfter i n sent m.0 z) (sym m.2) (record { client = refl; handle = refl; opens = λ o. o; up = refl }))

-- after it some ends are closed
pub after-then : (i : ℕ) (n : Names) (sent : List Sending) (a b c : Joined) → IsEndAfter i n sent a b → IsSameEnd b c → IsEndAfter i n sent a c
after-then i n sent a b c f g = record { client = g.client ∙ f.client; handle = g.handle ∙ f.handle; opens = λ o. f.opens (g.opens o); up = g.up ∙ f.up }

-- a call of client i
pub quiet-called : (w : World) (i : ℕ) (x : ClientSide) (spoken : Names) (o : Outcomes) → At w.clients i x → Moved x.names x.core spoken o.sent o.names o.core → ClientsQuiet w → ClientsQuiet (client_after i x spoken o w)
quiet-called w i x spoken o at moved s =
    quiet-moved w (client_after i x spoken o w) i x (record x { core = o.core; names = o.names }) spoken o.sent at refl (after-sent i spoken o.sent w.circuits) moved s

-- a call of a server
pub quiet-server : (w : World) (i : ℕ) (y : ServerSide) (ends : Joined → Option (List ℕ)) (core : Server) → ClientsQuiet w → ClientsQuiet (server_after i y ends core w)
quiet-server w i y ends core s = quiet-same w (server_after i y ends core w) refl (all-map (ending ends) w.circuits (same-ending ends)) s
