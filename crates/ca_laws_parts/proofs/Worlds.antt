-- What an event of a client leaves of each circuit of a world, by what it leaves of
-- those of that client.
use Rattle.std.proofs.Common.{◌≡◌, ℕ, inl, inr, Bool, true, false, ◌&&◌, cond, eqb, List, [], ◌++◌, refl, sym, ap, ◌∙◌, subst}
use Rattle.std.specs.Prelude.{filter, map, slice_set}
use Rattle.std.proofs.lemmas.Bool.{eqb-true}
use Rattle.std.proofs.lemmas.List.{append-nil}
use Rattle.ca_text.specs.Place.{At}
use Rattle.ca_text.proofs.Places.{At-map, At-one, At-set-other, At-within}
use Rattle.ca_text.specs.declared.refusal.Refusal.{Refusal}
use Rattle.ca_ids.specs.Table.{same_handle}
use Rattle.ca_model.specs.Answers.{Sending}
use Rattle.ca_model.specs.Client.{Client}
use Rattle.ca_model.specs.History.{Sent}
use Rattle.ca_model.specs.ClientEvents.{Outcomes, client_after, refused}
use Rattle.ca_model.specs.World.{ClientSide, Joined, Names, World, with_circuit, with_client}
use Rattle.ca_laws_parts.specs.Circuit.{HeldAt, HeldOn, sent_to, stamped}
use Rattle.ca_laws_parts.proofs.RunsSending.{with_up}
use Rattle.ca_model.proofs.Thinner.{number-or, set-there}

-- a circuit of another client
pub other-client : (kept : List ℕ) (i : ℕ) (n : Names) (m : Names) (x : Client) (sent : List Sending) (j : Joined) → (j.client ≡ i → ⊥) → HeldOn kept n x j → HeldOn kept n x (sent_to i m sent j)
other-client kept i n m x sent j other held = go (eqb j.client i) refl
  where
    go : (b : Bool) → eqb j.client i ≡ b → HeldOn kept n x (with_up (j.lists.up ++ cond (b && j.lists.client_open) (map (stamped m) (filter (λ (s : Sending). same_handle s.circuit j.at_client) sent)) []) j)
    go true is = absurd (other (eqb-true j.client i is))
    go false is = subst (λ (l : List Sent). HeldOn kept n x (with_up l j)) (sym (append-nil j.lists.up)) held

-- names of writes play no part
pub more-writes : (kept : List ℕ) (n : Names) (x : Client) (j : Joined) (writes : ℕ) → HeldOn kept n x j → HeldOn kept (record n { writes = writes }) x j
more-writes kept n x j writes h = record {
  flows = h.flows;
  cids = h.cids;
  holds = λ o. (let r = h.holds o in record { channels = r.channels; requests = r.requests; subscriptions = r.subscriptions });
}

-- A call of client i: what is held of its circuits after it, and of the others, is held
-- in the world after it.
pub after-call : (kept : List ℕ) (w : World) (i k : ℕ) (x : ClientSide) (spoken : Names) (o : Outcomes) → At w.clients i x
    → ((j : Joined) → At w.circuits k j → j.client ≡ i → HeldOn kept x.names x.core j → HeldOn kept o.names o.core (sent_to i spoken o.sent j)) → HeldAt kept w k → HeldAt kept (client_after i x spoken o w) k
after-call kept w i k x spoken o at keeps held =
    let j : Joined = held.0 in
    let there : At (map (sent_to i spoken o.sent) w.circuits) k (sent_to i spoken o.sent j) = At-map (sent_to i spoken o.sent) w.circuits k j held.2 in
    let after : ClientSide = record x { core = o.core; names = o.names } in
    elim (number-or j.client i) [
      | inl mine ↦
          let same : held.1 ≡ x = At-one w.clients i held.1 x (subst (λ (c : ℕ). At w.clients c held.1) mine held.3) at in
          let was : HeldOn kept x.names x.core j = subst (λ (z : ClientSide). HeldOn kept z.names z.core j) same held.4 in (
            sent_to i spoken o.sent j,
            after,
            there,
            subst (λ (c : ℕ). At (slice_set w.clients i after) c after) (sym mine) (set-there w.clients i after (At-within w.clients i x at)),
            keeps j held.2 mine was,
          )
      | inr other ↦ (
        sent_to i spoken o.sent j,
        held.1,
        there,
        At-set-other w.clients i j.client held.1 after held.3 other,
        other-client kept i held.1.names spoken held.1.core o.sent j other held.4,
      )
    ]

-- a call that was refused changes nothing but the log
pub refused-held : (kept : List ℕ) (w new : World) (i k : ℕ) (x : ClientSide) (e : Refusal) → new ≡ refused i x e w → HeldAt kept w k → HeldAt kept new k
refused-held kept w new i k x e is held = subst (λ (v : World). HeldAt kept v k) (sym is) (held.0, held.1, held.2, held.3, held.4)

-- A circuit is changed so that what was held of it still is; the others stay.
pub circuit-changed : (kept : List ℕ) (w : World) (k l : ℕ) (j new : Joined) → At w.circuits k j → new.client ≡ j.client → ((n : Names) (x : Client) → HeldOn kept n x j → HeldOn kept n x new) → HeldAt kept w l → HeldAt kept (with_circuit k new w) l
circuit-changed kept w k l j new at same keeps held = elim (number-or l k) [
  | inl is ↦
      let one : held.0 ≡ j = At-one w.circuits k held.0 j (subst (λ (a : ℕ). At w.circuits a held.0) is held.2) at in
      let was : HeldOn kept held.1.names held.1.core j = subst (λ (z : Joined). HeldOn kept held.1.names held.1.core z) one held.4 in (
        new,
        held.1,
        subst (λ (a : ℕ). At (slice_set w.circuits k new) a new) (sym is) (set-there w.circuits k new (At-within w.circuits k j at)),
        subst (λ (a : ℕ). At w.clients a held.1) (ap (λ (z : Joined). z.client) one ∙ sym same) held.3,
        keeps held.1.names held.1.core was,
      )
  | inr other ↦ (held.0, held.1, At-set-other w.circuits k l held.0 new held.2 other, held.3, held.4)
]

-- A client is changed so that what was held of its circuits still is; the others stay.
pub client-changed : (kept : List ℕ) (w : World) (i k : ℕ) (x new : ClientSide) → At w.clients i x → ((j : Joined) → j.client ≡ i → HeldOn kept x.names x.core j → HeldOn kept new.names new.core j) → HeldAt kept w k → HeldAt kept (with_client i new w) k
client-changed kept w i k x new at keeps held =
    let j : Joined = held.0 in
    elim (number-or j.client i) [
      | inl mine ↦
          let same : held.1 ≡ x = At-one w.clients i held.1 x (subst (λ (c : ℕ). At w.clients c held.1) mine held.3) at in
          let was : HeldOn kept x.names x.core j = subst (λ (z : ClientSide). HeldOn kept z.names z.core j) same held.4 in
          (j, new, held.2, subst (λ (c : ℕ). At (slice_set w.clients i new) c new) (sym mine) (set-there w.clients i new (At-within w.clients i x at)), keeps j mine was)
      | inr other ↦ (j, held.1, held.2, At-set-other w.clients i j.client held.1 new held.3 other, held.4)
    ]

-- A step of a client on circuit k: what is held of that after it, and of the client's others, is
-- held in the world after it.
pub after-step : (kept : List ℕ) (w : World) (k l : ℕ) (j next : Joined) (x : ClientSide) (spoken : Names) (o : Outcomes) → At w.circuits k j → At w.clients j.client x → next.client ≡ j.client
    → (HeldOn kept x.names x.core j → HeldOn kept o.names o.core (sent_to j.client spoken o.sent next))
    → ((a : Joined) → At w.circuits l a → (l ≡ k → ⊥) → a.client ≡ j.client → HeldOn kept x.names x.core a → HeldOn kept o.names o.core (sent_to j.client spoken o.sent a))
    → HeldAt kept w l → HeldAt kept (client_after j.client x spoken o (with_circuit k next w)) l
after-step kept w k l j next x spoken o at there same own others held =
    let i : ℕ = j.client in
    let after : ClientSide = record x { core = o.core; names = o.names } in
    let a : Joined = held.0 in
    let ours : At (slice_set w.clients i after) i after = set-there w.clients i after (At-within w.clients i x there) in
    elim (number-or l k) [
      | inl is ↦
          let one : a ≡ j = At-one w.circuits k a j (subst (λ (b : ℕ). At w.circuits b a) is held.2) at in
          let client : held.1 ≡ x = At-one w.clients i held.1 x (subst (λ (z : Joined). At w.clients z.client held.1) one held.3) there in
          let was : HeldOn kept x.names x.core j = subst (λ (z : Joined × ClientSide). HeldOn kept z.1.names z.1.core z.0) (λ b. (one b, client b)) held.4 in (
            sent_to i spoken o.sent next,
            after,
            subst (λ (b : ℕ). At (map (sent_to i spoken o.sent) (slice_set w.circuits k next)) b (sent_to i spoken o.sent next)) (sym is)
                (At-map (sent_to i spoken o.sent) (slice_set w.circuits k next) k next (set-there w.circuits k next (At-within w.circuits k j at))),
            subst (λ (b : ℕ). At (slice_set w.clients i after) b after) (sym same) ours,
            own was,
          )
      | inr differs ↦
          let stands : At (map (sent_to i spoken o.sent) (slice_set w.circuits k next)) l (sent_to i spoken o.sent a) =
          At-map (sent_to i spoken o.sent) (slice_set w.circuits k next) l a (At-set-other w.circuits k l a next held.2 differs) in
          elim (number-or a.client i) [
            | inl mine ↦
                let client : held.1 ≡ x = At-one w.clients i held.1 x (subst (λ (b : ℕ). At w.clients b held.1) mine held.3) there in (
                  sent_to i spoken o.sent a,
                  after,
                  stands,
                  subst (λ (b : ℕ). At (slice_set w.clients i after) b after) (sym mine) ours,
                  others a held.2 differs mine (subst (λ (z : ClientSide). HeldOn kept z.names z.core a) client held.4),
                )
            | inr other ↦ (
              sent_to i spoken o.sent a,
              held.1,
              stands,
              At-set-other w.clients i a.client held.1 after held.3 other,
              other-client kept i held.1.names spoken held.1.core o.sent a other held.4,
            )
          ]
    ]
