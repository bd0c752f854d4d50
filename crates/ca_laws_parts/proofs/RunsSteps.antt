-- A step of a client's end: what is held of its own circuit and of the others stays so.
use Rattle.std.proofs.Common.{◌≡◌, ℕ, suc, ◌<◌, inl, inr, Bool, true, false, ◌&&◌, cond, eqb, List, [], ◌∷◌, ◌++◌, length, refl, sym, ap, subst}
use Rattle.std.specs.Prelude.{filter, map}
use Rattle.std.proofs.lemmas.Bool.{and_from, and_parts, both_ways, eq-eqb}
use Rattle.std.proofs.lemmas.List.{append-nil}
use Rattle.ca_text.specs.Place.{At}
use Rattle.ca_text.proofs.Places.{At-parts}
use Rattle.ca_arena.specs.declared.handle.Handle.{Handle}
use Rattle.ca_ids.specs.Table.{same_handle}
use Rattle.ca_model.specs.Answers.{Sending}
use Rattle.ca_model.specs.Client.{Client, sending}
use Rattle.ca_model.specs.Hears.{Effect}
use Rattle.ca_model.specs.History.{Circuit, Sent, Step}
use Rattle.ca_model.specs.History as history
use Rattle.ca_model.specs.ClientEvents.{heard_in}
use Rattle.ca_model.specs.World.{Joined, Names}
use Rattle.ca_laws_parts.specs.Flows.{Awaits, MaySendAll, with_all_sent, with_heard}
use Rattle.ca_laws_parts.specs.Held.{Holds}
use Rattle.ca_laws_parts.proofs.Alike.{client-then, holds-alike, sending-alike}
use Rattle.ca_laws_parts.proofs.Flows.{flows-heard}
use Rattle.ca_model.proofs.Handles.{same-itself}
use Rattle.ca_laws_parts.proofs.Many.{flows-all-sent}
use Rattle.ca_laws_parts.specs.Circuit.{AreCids, HeldOn, sent_to, stamped}
use Rattle.ca_laws_parts.proofs.RunsHeard.{Did}
use Rattle.ca_laws_parts.proofs.RunsSending.{with_up}

-- of messages on one circuit a filter by that leaves all, or none
pub all-here : (on at : Handle) (ss : List Sending) → ((i : ℕ) (s : Sending) → At ss i s → s.circuit ≡ on) → same_handle on at ≡ true → filter (λ (s : Sending). same_handle s.circuit at) ss ≡ ss
all-here on at [] all is = refl
all-here on at (s ∷ ss) all is =
    go (same_handle s.circuit at) (subst (λ (k : Handle). same_handle k at ≡ true) (sym (all 0 s refl)) is) (all-here on at ss (λ i r there. all (suc i) r there) is)
  where
    go : (b : Bool) → b ≡ true → filter (λ (s : Sending). same_handle s.circuit at) ss ≡ ss → cond b (s ∷ filter (λ (s : Sending). same_handle s.circuit at) ss) (filter (λ (s : Sending). same_handle s.circuit at) ss) ≡ s ∷ ss
    go true e rest = ap (λ (l : List Sending). s ∷ l) rest
    go false e rest = absurd (both_ways false refl e)

pub none-here : (on at : Handle) (ss : List Sending) → ((i : ℕ) (s : Sending) → At ss i s → s.circuit ≡ on) → same_handle on at ≡ false → filter (λ (s : Sending). same_handle s.circuit at) ss ≡ []
none-here on at [] all is = refl
none-here on at (s ∷ ss) all is =
    go (same_handle s.circuit at) (subst (λ (k : Handle). same_handle k at ≡ false) (sym (all 0 s refl)) is) (none-here on at ss (λ i r there. all (suc i) r there) is)
  where
    go : (b : Bool) → b ≡ false → filter (λ (s : Sending). same_handle s.circuit at) ss ≡ [] → cond b (s ∷ filter (λ (s : Sending). same_handle s.circuit at) ss) (filter (λ (s : Sending). same_handle s.circuit at) ss) ≡ []
    go true e rest = absurd (both_ways true e refl)
    go false e rest = rest

-- CIDs stay those of their channels if no message creates one
pub cids-all : (n : Names) (c : Circuit) (ss : List Sent) → AreCids n c → ((i : ℕ) (s : Sent) (channel : ℕ) → At ss i s → s.intent ≡ history.On channel history.Create → ⊥) → AreCids n (with_all_sent ss c)
cids-all n c ss were none k channel r at is = elim (At-parts c.up ss k r at) [
  | inl old ↦ were k channel r old is
  | inr new ↦ absurd (none new.0 r channel new.2 is)
]

module _ (kept : List ℕ) (i : ℕ) (n : Names) (x : Client) where
  -- on its own circuit
  pub step-held : (j : Joined) (g : Step) (e : Effect) → Did kept j.at_client n x j.lists g e → g.sent ≡ length j.lists.up → length j.lists.heard < length j.lists.down → HeldOn kept n x j → j.client ≡ i → j.lists.client_open ≡ true
      → HeldOn kept n e.core (sent_to i n e.sent (heard_in g j))
  step-held j g e did now more held mine open_it =
      subst (λ (w : Client × List Sending). HeldOn kept n w.0 (sent_to i n w.1 (heard_in g j))) (λ k. (sym did.core_is k, sym did.sent_is k))
      (go (eqb j.client i && j.lists.client_open) (and_from (eqb j.client i) j.lists.client_open (eq-eqb j.client i mine) open_it))
    where
      r : MaySendAll (Awaits j.lists kept) (with_heard g j.lists) (map (stamped n) did.sends) × Holds (Awaits j.lists kept) j.at_client n (sending did.sends did.z) (with_all_sent (map (stamped n) did.sends) (with_heard g j.lists))
      r = did.near held.flows (held.holds open_it)

      all : HeldOn kept n (sending did.sends did.z) (with_up (j.lists.up ++ map (stamped n) did.sends) (heard_in g j))
      all = record {
        flows = flows-all-sent (Awaits j.lists kept) (map (stamped n) did.sends) (with_heard g j.lists) r.0 (flows-heard (Awaits j.lists kept) j.lists g now more held.flows);
        cids = λ o. cids-all n (with_heard g j.lists) (map (stamped n) did.sends) (held.cids o) did.no_creates;
        holds = λ o. r.1;
      }

      go : (b : Bool) → b ≡ true → HeldOn kept n (sending did.sends did.z) (with_up (j.lists.up ++ cond b (map (stamped n) (filter (λ (s : Sending). same_handle s.circuit j.at_client) did.sends)) []) (heard_in g j))
      go true is =
          subst (λ (l : List Sending). HeldOn kept n (sending did.sends did.z) (with_up (j.lists.up ++ map (stamped n) l) (heard_in g j)))
          (sym (all-here j.at_client j.at_client did.sends did.all_on (same-itself j.at_client))) all
      go false is = absurd (both_ways false refl is)

  -- on another
  pub step-far : (a : Joined) (on : Handle) (c : Circuit) (g : Step) (e : Effect) → Did kept on n x c g e → HeldOn kept n x a → a.client ≡ i → (a.lists.client_open ≡ true → same_handle on a.at_client ≡ false)
      → HeldOn kept n e.core (sent_to i n e.sent a)
  step-far a on c g e did held mine apart =
      subst (λ (w : Client × List Sending). HeldOn kept n w.0 (sent_to i n w.1 a)) (λ k. (sym did.core_is k, sym did.sent_is k))
      (go (eqb a.client i && a.lists.client_open) refl)
    where
      as-was : HeldOn kept n (sending did.sends did.z) (with_up (a.lists.up ++ []) a)
      as-was = subst (λ (l : List Sent). HeldOn kept n (sending did.sends did.z) (with_up l a)) (sym (append-nil a.lists.up)) (record {
        flows = held.flows;
        cids = held.cids;
        holds = λ o.
            holds-alike (Awaits a.lists kept) a.at_client n x (sending did.sends did.z) a.lists
            (client-then a.at_client x did.z (sending did.sends did.z) (did.far a.at_client (apart o)) (sending-alike a.at_client did.sends did.z)) (held.holds o);
      })

      go : (b : Bool) → (eqb a.client i && a.lists.client_open) ≡ b → HeldOn kept n (sending did.sends did.z) (with_up (a.lists.up ++ cond b (map (stamped n) (filter (λ (s : Sending). same_handle s.circuit a.at_client) did.sends)) []) a)
      go true is =
          let open_it : a.lists.client_open ≡ true = (and_parts (eqb a.client i) a.lists.client_open is).1 in
          subst (λ (l : List Sending). HeldOn kept n (sending did.sends did.z) (with_up (a.lists.up ++ map (stamped n) l) a)) (sym (none-here on a.at_client did.sends did.all_on (apart open_it))) as-was
      go false is = as-was
