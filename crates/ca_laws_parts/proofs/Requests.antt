-- A client's requests on one circuit, as its lists grow and as its table changes.
use Rattle.std.proofs.Common.{◌≡◌, ℕ, ◌+◌, ◌<◌, ◌≤◌, ◌⊎◌, inl, inr, Bool, true, false, cond, [], ◌∷◌, ◌++◌, length, Some, refl, sym, ap, ◌∙◌, subst, arith}
use Rattle.std.proofs.lemmas.List.{length-map}
use Rattle.ca_text.specs.Limits.{arena_slots}
use Rattle.ca_text.specs.Place.{At}
use Rattle.ca_text.proofs.Places.{At-last, At-snoc, At-within}
use Rattle.ca_arena.specs.declared.handle.Handle.{Handle}
use Rattle.ca_ids.specs.Table.{MayGive, Table, under, with_all_freed, with_freed, with_held}
use Rattle.ca_ids.specs.Wire.{wire_of}
use Rattle.ca_requests.specs.Requests.{Draining, Request, asks_on, channel_over, over_on, was_sent_on}
use Rattle.ca_model.specs.Speech.{Id, Ioid, Gives, Speaks}
use Rattle.ca_model.specs.History.{Intent, Reply, Sent, Told, Step, Circuit}
use Rattle.ca_model.specs.Channels.{named}
use Rattle.ca_laws_parts.specs.Flows.{Concerns, Flows, IsGiven, IsLast, IsPending, MayTell, with_handled, with_heard, with_sent, with_told}
use Rattle.ca_laws_parts.specs.Held.{HoldsRequests, IsMeant}
use Rattle.ca_model.proofs.Tables.{length-more}
use Rattle.ca_laws_parts.proofs.Flows.{concerns-back, given-sent}
use Rattle.ca_laws_parts.proofs.Settled.{ioid-gives, pending-before, settled-request}
use Rattle.ca_model.proofs.Tables.{all-back, all-freed-back, all-freed-there, all-there, freed-back, freed-few, freed-other, given-fresh, held-back, held-few, held-other, held-own}

-- ---- what is pending as the lists grow

-- after a message was sent: what was, or what that concerns
pub pending-sent : (Awaits : ℕ → Type 0) (c : Circuit) (s : Sent) (p : ℕ) (id : Id) → IsPending Awaits (with_sent s c) p id
    → IsPending Awaits c p id ⊎ ((p ≡ length c.up) × Concerns (c.up ++ s ∷ []) (length c.up) id)
pending-sent Awaits c s p id pending = elim pending [
  | inl may ↦ elim (At-snoc c.up s p may.1.0 may.1.1) [
    | inl old ↦ inl (inl (may.0, concerns-back c.up s p id (At-within c.up p may.1.0 old) may.1))
    | inr new ↦ inr (new.0, subst (λ (q : ℕ). Concerns (c.up ++ s ∷ []) q id) new.0 may.1)
  ]
  | inr sent ↦ inl (inr sent)
]

-- after a message was told: what was
pub pending-told : (Awaits Fewer : ℕ → Type 0) (c : Circuit) (t : Told) (p : ℕ) (id : Id) → MayTell Awaits Fewer c t → IsPending Fewer (with_told t c) p id → IsPending Awaits c p id
pending-told Awaits Fewer c t p id may pending = elim pending [
  | inl m ↦ inl (may.fewer p m.0, m.1)
  | inr sent ↦ elim (At-snoc c.down t sent.0 sent.1 sent.2) [
    | inl old ↦ inr (sent.0, sent.1, old, sent.3, sent.4, sent.5)
    | inr new ↦
        let place : t.place ≡ p = ap (λ (x : Told). x.place) (sym new.1) ∙ sent.4 in
        let speaks : Speaks t.message id = subst (λ (x : Told). Speaks x.message id) new.1 sent.5 in
        inl (subst (λ (q : ℕ). Awaits q) place may.awaits, subst (λ (q : ℕ). Concerns c.up q id) place (may.speaks id speaks))
  ]
]

pub pending-fewer : (Awaits Fewer : ℕ → Type 0) (c : Circuit) (p : ℕ) (id : Id) → ((p : ℕ) → Fewer p → Awaits p) → IsPending Fewer c p id → IsPending Awaits c p id
pending-fewer Awaits Fewer c p id fewer pending = elim pending [
  | inl m ↦ inl (fewer p m.0, m.1)
  | inr sent ↦ inr sent
]

-- what is meant by a handle stays so if its id is not given again
pub meant-sent : (c : Circuit) (s : Sent) (intent : Intent) (id : Id) → (Gives s.message id → ⊥) → IsMeant c intent id → IsMeant (with_sent s c) intent id
meant-sent c s intent id other m = (m.0, m.1, given-sent c.up s id m.0 m.1 other m.2, m.3)

-- a message that was just sent gave its id last
pub given-new : (c : Circuit) (s : Sent) (id : Id) (number : ℕ) → Gives s.message id → named id s.intent ≡ Some number → IsGiven (c.up ++ s ∷ []) id (length c.up) number
given-new c s id number gives is =
    let len : length (c.up ++ s ∷ []) ≡ length c.up + 1 = length-more c.up s in
    (s, At-last c.up s, gives, is, λ l r lt at again. (let in_it : l < length (c.up ++ s ∷ []) = At-within (c.up ++ s ∷ []) l r at in omega (arith, lt, in_it, len)))

pub meant-new : (c : Circuit) (s : Sent) (id : Id) (number : ℕ) → Gives s.message id → named id s.intent ≡ Some number → IsMeant (with_sent s c) s.intent id
meant-new c s id number gives is = (length c.up, number, given-new c s id number gives is, is)

-- the ids that a message gives
one-ioid : (m : Sent) (a b : ℕ) → Gives m.message (Ioid a) → Gives m.message (Ioid b) → a ≡ b
one-ioid m a b p q = sym p.1 ∙ q.1

module _ (on : Handle) (meant : Handle → Intent) where
  -- ---- the lists grow, and the table stays

  -- a message is sent that gives no IOID
  pub requests-sent : (Awaits : ℕ → Type 0) (t : Table Request) (c : Circuit) (s : Sent) → ((n : ℕ) → Gives s.message (Ioid n) → ⊥) → HoldsRequests Awaits on meant t c → HoldsRequests Awaits on meant t (with_sent s c)
  requests-sent Awaits t c s none h = record {
    few = h.few;
    busy = λ p n pending. elim (pending-sent Awaits c s p (Ioid n) pending) [
      | inl old ↦ h.busy p n old
      | inr new ↦
          let g = ioid-gives (c.up ++ s ∷ []) (length c.up) n new.1 in
          absurd (elim (At-snoc c.up s (length c.up) g.0 g.1) [
            | inl old ↦ (let lt : length c.up < length c.up = At-within c.up (length c.up) g.0 old in omega (arith, lt))
            | inr is ↦ none n (subst (λ (x : Sent). Gives x.message (Ioid n)) is.1 g.2)
          ])
    ];
    own = λ q r is here. meant-sent c s (meant q) (Ioid (wire_of q)) (none (wire_of q)) (h.own q r is here);
  }

  pub requests-told : (Awaits Fewer : ℕ → Type 0) (t : Table Request) (c : Circuit) (u : Told) → MayTell Awaits Fewer c u → HoldsRequests Awaits on meant t c → HoldsRequests Fewer on meant t (with_told u c)
  requests-told Awaits Fewer t c u may h =
      record { few = h.few; busy = λ p n pending. h.busy p n (pending-told Awaits Fewer c u p (Ioid n) may pending); own = λ q r is here. h.own q r is here }

  pub requests-handled : (Awaits Fewer : ℕ → Type 0) (t : Table Request) (c : Circuit) (g : Step) → ((p : ℕ) → Fewer p → Awaits p) → HoldsRequests Awaits on meant t c → HoldsRequests Fewer on meant t (with_handled g c)
  requests-handled Awaits Fewer t c g fewer h =
      record { few = h.few; busy = λ p n pending. h.busy p n (pending-fewer Awaits Fewer c p (Ioid n) fewer pending); own = λ q r is here. h.own q r is here }

  pub requests-heard : (Awaits : ℕ → Type 0) (t : Table Request) (c : Circuit) (g : Step) → HoldsRequests Awaits on meant t c → HoldsRequests Awaits on meant t (with_heard g c)
  requests-heard Awaits t c g h =
      record { few = h.few; busy = λ p n pending. h.busy p n (pending-before Awaits c g p (Ioid n) pending); own = λ q r is here. h.own q r is here }

  module _ (Awaits : ℕ → Type 0) where
    -- ---- a request is issued

    -- nothing that may still come speaks of the IOID that is given to a new request
    pub issue-fresh : (t : Table Request) (c : Circuit) (q : Handle) → MayGive t q → HoldsRequests Awaits on meant t c → (p : ℕ) → IsPending Awaits c p (Ioid (wire_of q)) → ⊥
    issue-fresh t c q may h p pending =
        let holder = h.busy p (wire_of q) pending in
        given-fresh t holder.0 q holder.1 h.few may holder.2 holder.3

    pub requests-issued : (t : Table Request) (c : Circuit) (q : Handle) (r : Request) (s : Sent) (number : ℕ) → MayGive t q → was_sent_on on r ≡ true → Gives s.message (Ioid (wire_of q)) → meant q ≡ s.intent → named (Ioid (wire_of q)) s.intent ≡ Some number
        → HoldsRequests Awaits on meant t c → HoldsRequests Awaits on meant (with_held q r t) (with_sent s c)
    requests-issued t c q r s number may sent gives is number_is h = record {
      few = held-few t q r may h.few;
      busy = λ p n pending. elim (pending-sent Awaits c s p (Ioid n) pending) [
        | inl old ↦ (let holder = h.busy p n old in (holder.0, holder.1, held-other t holder.0 q r holder.1 may holder.2, holder.3, holder.4))
        | inr new ↦
            let g = ioid-gives (c.up ++ s ∷ []) (length c.up) n new.1 in
            elim (At-snoc c.up s (length c.up) g.0 g.1) [
              | inl old ↦ absurd (let lt : length c.up < length c.up = At-within c.up (length c.up) g.0 old in omega (arith, lt))
              | inr same ↦
                  (q, r, held-own t q r may, one-ioid s (wire_of q) n gives (subst (λ (x : Sent). Gives x.message (Ioid n)) same.1 g.2), sent)
            ]
      ];
      own = λ g w there here. elim (held-back t g q r w there) [
        | inl new ↦
            subst (λ (k : Handle). IsMeant (with_sent s c) (meant k) (Ioid (wire_of k))) (sym new.0)
            (subst (λ (i : Intent). IsMeant (with_sent s c) i (Ioid (wire_of q))) (sym is) (meant-new c s (Ioid (wire_of q)) number gives number_is))
        | inr old ↦
            meant-sent c s (meant g) (Ioid (wire_of g)) (λ again. given-fresh t g q w h.few may old (one-ioid s (wire_of g) (wire_of q) again gives)) (h.own g w old here)
      ];
    }

    -- ---- requests end

    -- a reply that was read frees the IOID of its request
    pub requests-replied : (t : Table Request) (c : Circuit) (g : Step) (u : Told) (s : Sent) (q : Handle) → Flows Awaits c → At c.down (length c.heard) u → u.cause ≡ Reply → At c.up u.place s → IsLast u.message s.intent
        → Speaks u.message (Ioid (wire_of q)) → HoldsRequests Awaits on meant t c → HoldsRequests Awaits on meant (with_freed q t) (with_heard g c)
    requests-replied t c g u s q f at cause there is speaks h = record {
      few = (let e : length (with_freed q t) ≡ length t = freed-few t q in let l : length t ≤ arena_slots = h.few in omega (arith, e, l));
      busy = λ p n pending.
          let holder = h.busy p n (pending-before Awaits c g p (Ioid n) pending) in (
            holder.0,
            holder.1,
            freed-other t holder.0 q holder.1 holder.2 (λ same.
                let wire : n ≡ wire_of q = sym holder.3 ∙ ap (λ (x : Handle). wire_of x) same in
                settled-request Awaits c g u s (wire_of q) f at cause there is speaks p (subst (λ (m : ℕ). IsPending Awaits (with_heard g c) p (Ioid m)) wire pending)),
            holder.3,
            holder.4,
          );
      own = λ k w there' here. h.own k w (freed-back t k q w there').1 here;
    }

    -- requests of which nothing may still come are freed, as those of a channel
    -- whose clear is answered
    pub requests-freed : (frees : Request → Bool) (t : Table Request) (c : Circuit) → ((p n : ℕ) (q : Handle) (r : Request) → IsPending Awaits c p (Ioid n) → under t q ≡ Some r → wire_of q ≡ n → was_sent_on on r ≡ true → frees r ≡ false)
        → HoldsRequests Awaits on meant t c → HoldsRequests Awaits on meant (with_all_freed frees t) c
    requests-freed frees t c stay h = record {
      few = (let e : length (with_all_freed frees t) ≡ length t = length-map t _ in let l : length t ≤ arena_slots = h.few in omega (arith, e, l));
      busy = λ p n pending.
          let holder = h.busy p n pending in
          (holder.0, holder.1, all-freed-there frees t holder.0 holder.1 holder.2 (stay p n holder.0 holder.1 pending holder.2 holder.3 holder.4), holder.3, holder.4);
      own = λ q r there here. h.own q r (all-freed-back frees t q r there).0 here;
    }

    -- a channel is over: its requests drain, on the circuits on which they were sent
    pub requests-over : (channel : Handle) (t : Table Request) (c : Circuit) → HoldsRequests Awaits on meant t c → HoldsRequests Awaits on meant (channel_over channel t) c
    requests-over channel t c h = record {
      few = (let e : length (channel_over channel t) ≡ length t = length-map t _ in let l : length t ≤ arena_slots = h.few in omega (arith, e, l));
      busy = λ p n pending.
          let holder = h.busy p n pending in
          (holder.0, over_on channel holder.1, all-there (over_on channel) t holder.0 holder.1 holder.2, holder.3, stays holder.1 ∙ holder.4);
      own = λ q r there here.
          let was = all-back (over_on channel) t q r there in
          h.own q was.0 was.1 (sym (stays was.0) ∙ ap (λ (x : Request). was_sent_on on x) (sym was.2) ∙ here);
    }
      where
        stays : (r : Request) → was_sent_on on (over_on channel r) ≡ was_sent_on on r
        stays r = go (asks_on channel r)
          where
            go : (b : Bool) → was_sent_on on (cond b (record r { stage = Draining }) r) ≡ was_sent_on on r
            go true = refl
            go false = refl
