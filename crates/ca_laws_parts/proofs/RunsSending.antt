-- One message of a client, on its own circuit and on the others; and names of which one is new.
use Rattle.std.proofs.Common.{◌≡◌, ℕ, suc, ◌+◌, ◌≤◌, inl, inr, Bool, true, false, ◌&&◌, cond, eqb, List, [], ◌∷◌, ◌++◌, Some, None, refl, sym, ap, ◌∙◌, subst, arith}
use Rattle.std.specs.Prelude.{find, map}
use Rattle.std.proofs.lemmas.Bool.{and_from, and_parts, both_ways, cases_Bool, eq-eqb}
use Rattle.std.proofs.lemmas.List.{append-nil}
use Rattle.ca_text.specs.Place.{At}
use Rattle.ca_text.proofs.Places.{At-snoc, some_is}
use Rattle.ca_arena.specs.Arena.{place_at}
use Rattle.ca_arena.specs.declared.handle.Handle.{Handle}
use Rattle.ca_ids.specs.Table.{MayGive, Table, same_handle}
use Rattle.ca_ids.specs.Wire.{wire_of}
use Rattle.ca_model.specs.Answers.{Sending}
use Rattle.ca_model.specs.Client.{Client}
use Rattle.ca_model.specs.History.{Circuit, Create, Intent, On, Sent}
use Rattle.ca_model.specs.ClientEvents.{channel_number, place_of}
use Rattle.ca_model.specs.World.{Joined, Names}
use Rattle.ca_laws_parts.specs.Flows.{Awaits, MaySend, with_sent}
use Rattle.ca_laws_parts.specs.Held.{Holds, IsNew}
use Rattle.ca_laws_parts.proofs.Flows.{flows-sent}
use Rattle.ca_model.proofs.Handles.{same-is}
use Rattle.ca_laws_parts.specs.Circuit.{AreCids, AreGiven, HeldOn, sent_to, stamped}
use Rattle.ca_model.specs.Placed.{WasGiven}

-- a circuit with these messages of its client
abbrev pub with_up : List Sent → Joined → Joined
with_up l j = record j { lists = record j.lists { up = l } }

-- the channels that names name are still named
abbrev pub KeepNames : (n now : Names) → Type 0
KeepNames n now = (k : ℕ) (h : Handle) → At n.channels k h → At now.channels k h

cids-more : (n now : Names) (c : Circuit) (s : Sent) → KeepNames n now → AreCids n c → ((channel : ℕ) → s.intent ≡ On channel Create → (h : Handle) × At now.channels channel h × (s.message.p1 ≡ wire_of h)) → AreCids now (with_sent s c)
cids-more n now c s keeps were mine k channel r at is = elim (At-snoc c.up s k r at) [
  | inl old ↦ (let w = were k channel r old is in (w.0, keeps channel w.0 w.1, w.2))
  | inr new ↦
      let w = mine channel (ap (λ (z : Sent). z.intent) (sym new.1) ∙ is) in
      (w.0, w.1, ap (λ (z : Sent). z.message.p1) new.1 ∙ w.2)
]

pub cids-kept : (n now : Names) (c : Circuit) → KeepNames n now → AreCids n c → AreCids now c
cids-kept n now c keeps were k channel r at is = (let w = were k channel r at is in (w.0, keeps channel w.0 w.1, w.2))

-- no message is sent
pub none-sent-to : (kept : List ℕ) (i : ℕ) (n now : Names) (x y : Client) (j : Joined) → HeldOn kept n x j → KeepNames n now
    → (j.lists.client_open ≡ true → Holds (Awaits j.lists kept) j.at_client n x j.lists → Holds (Awaits j.lists kept) j.at_client now y j.lists)
    → HeldOn kept now y (sent_to i now [] j)
none-sent-to kept i n now x y j h keeps stays = go (eqb j.client i && j.lists.client_open)
  where
    as-was : HeldOn kept now y (with_up (j.lists.up ++ []) j)
    as-was = subst (λ (l : List Sent). HeldOn kept now y (with_up l j)) (sym (append-nil j.lists.up)) (record { flows = h.flows; cids = λ o. cids-kept n now j.lists keeps (h.cids o); holds = λ o. stays o (h.holds o) })

    go : (b : Bool) → HeldOn kept now y (with_up (j.lists.up ++ cond b [] []) j)
    go true = as-was
    go false = as-was

-- One message is sent: on its circuit it may be, and what is held stays so; what is held of the
-- others stays so too.
pub one-sent : (kept : List ℕ) (i : ℕ) (n now : Names) (x y : Client) (j : Joined) (s : Sending) → HeldOn kept n x j → j.client ≡ i → KeepNames n now
    → ((channel : ℕ) → (stamped now s).intent ≡ On channel Create → (h : Handle) × At now.channels channel h × (s.message.p1 ≡ wire_of h))
    → (j.lists.client_open ≡ true → s.circuit ≡ j.at_client → Holds (Awaits j.lists kept) j.at_client n x j.lists
    → MaySend (Awaits j.lists kept) j.lists (stamped now s) × Holds (Awaits j.lists kept) j.at_client now y (with_sent (stamped now s) j.lists))
    → (j.lists.client_open ≡ true → same_handle s.circuit j.at_client ≡ false → Holds (Awaits j.lists kept) j.at_client n x j.lists → Holds (Awaits j.lists kept) j.at_client now y j.lists)
    → HeldOn kept now y (sent_to i now (s ∷ []) j)
one-sent kept i n now x y j s h mine keeps create near far = go (eqb j.client i && j.lists.client_open) (same_handle s.circuit j.at_client) refl refl
  where
    as-was : (j.lists.client_open ≡ true → Holds (Awaits j.lists kept) j.at_client now y j.lists) → HeldOn kept now y (with_up (j.lists.up ++ []) j)
    as-was holds = subst (λ (l : List Sent). HeldOn kept now y (with_up l j)) (sym (append-nil j.lists.up)) (record { flows = h.flows; cids = λ o. cids-kept n now j.lists keeps (h.cids o); holds = holds })

    go : (a b : Bool) → (eqb j.client i && j.lists.client_open) ≡ a → same_handle s.circuit j.at_client ≡ b
        → HeldOn kept now y (with_up (j.lists.up ++ cond a (map (stamped now) (cond b (s ∷ []) [])) []) j)
    go true true ours on =
        let open_it : j.lists.client_open ≡ true = (and_parts (eqb j.client i) j.lists.client_open ours).1 in
        let r = near open_it (same-is s.circuit j.at_client on) (h.holds open_it) in
        record { flows = flows-sent (Awaits j.lists kept) j.lists (stamped now s) r.0 h.flows; cids = λ o. cids-more n now j.lists (stamped now s) keeps (h.cids o) create; holds = λ o. r.1 }
    go true false ours off = as-was (λ o. far o off (h.holds o))
    go false b ours on = as-was (λ o.
        absurd (both_ways (eqb j.client i && j.lists.client_open) ours (and_from (eqb j.client i) j.lists.client_open (eq-eqb j.client i mine) o)))

-- ---- names

-- what is found passes
find-none : {A : Type 0} (test : A → Bool) (xs : List A) → ((i : ℕ) (x : A) → At xs i x → test x ≡ false) → find test xs ≡ None
find-none test [] none = refl
find-none {A} test (x ∷ xs) none = go (test x) (none 0 x refl) (find-none test xs (λ i y at. none (suc i) y at))
  where
    go : (b : Bool) → b ≡ false → find test xs ≡ None → cond b (Some x) (find test xs) ≡ None
    go true e rest = absurd (both_ways true e refl)
    go false e rest = rest

-- a handle that may be given now was not given
pub not-given : {T : Type 0} (t : Table T) (q : Handle) → MayGive t q → WasGiven t q → ⊥
not-given t q may given = (let e : q.generation ≡ (place_at t q.index).generation + 1 = may.next in let le : q.generation ≤ (place_at t q.index).generation = given in omega (arith, e, le))

-- so it names nothing yet
pub new-name : {T : Type 0} (names : List (Handle × Intent)) (t : Table T) (q : Handle) → AreGiven names t → MayGive t q → IsNew names q
new-name names t q given may =
    find-none (λ (x : Handle × Intent). same_handle x.0 q) names (λ i e at. elim (cases_Bool (same_handle e.0 q)) [
      | inr other ↦ other
      | inl same ↦ absurd (not-given t q may (subst (λ (k : Handle). WasGiven t k) (same-is e.0 q same) (given i e at)))
    ])

-- what is at the first place that passes a test passes
pub place-passes : {A : Type 0} (test : A → Bool) (xs : List A) (y : A) → At xs (place_of test xs) y → test y ≡ true
place-passes test [] y at = absurd cc
place-passes {A} test (x ∷ xs) y at = go (test x) refl at (λ h. place-passes test xs y h)
  where
    go : (b : Bool) → test x ≡ b → At (x ∷ xs) (cond b 0 (place_of test xs + 1)) y → (At xs (place_of test xs) y → test y ≡ true) → test y ≡ true
    go true is h rest = ap test (sym (some_is x y h)) ∙ is
    go false is h rest = rest (let e : place_of test xs + 1 ≡ suc (place_of test xs) = omega arith in subst (λ (k : ℕ). At (x ∷ xs) k y) e h)

-- a channel's number names its handle
pub channel-named : (n : Names) (h k : Handle) → At n.channels (channel_number n h) k → k ≡ h
channel-named n h k at = sym (same-is h k (place-passes (same_handle h) n.channels k at))
