-- A table of ids on one circuit, as the circuit's lists grow and as the table changes.
use Rattle.std.proofs.Common.{◌≡◌, ℕ, ◌≤◌, inl, inr, Bool, true, false, ◌||◌, [], ◌∷◌, ◌++◌, length, Some, sym, subst, arith}
use Rattle.std.proofs.lemmas.Bool.{both_ways, or_cases, or_left, or_right}
use Rattle.ca_text.specs.Limits.{arena_slots}
use Rattle.ca_arena.specs.declared.handle.Handle.{Handle}
use Rattle.ca_ids.specs.Table.{MayGive, Table, same_handle, under, with_changed, with_held}
use Rattle.ca_ids.specs.Wire.{wire_of}
use Rattle.ca_model.specs.Speech.{Id, Gives}
use Rattle.ca_model.specs.History.{Intent, Sent, Told, Step, Circuit}
use Rattle.ca_model.specs.Channels.{named}
use Rattle.ca_laws_parts.specs.Flows.{Concerns, IsPending, MayTell, with_handled, with_heard, with_sent, with_told}
use Rattle.ca_laws_parts.specs.Held.{HoldsIds, HoldsIdsBy, IsHeld, IsHeldBy, IsMeant}
use Rattle.ca_model.proofs.Handles.{handle-or, same-is, same-itself}
use Rattle.ca_laws_parts.proofs.Requests.{given-new, meant-sent, pending-fewer, pending-sent, pending-told}
use Rattle.ca_laws_parts.proofs.Settled.{pending-before}
use Rattle.ca_model.proofs.Tables.{changed-back, changed-few, changed-other, changed-own, given-fresh, held-back, held-few, held-other, held-own, one-by-wire, one-value}

module _ {T : Type 0} (kind : ℕ → Id) (meant : Handle → Intent) where
  -- ---- the lists grow, and the table stays

  pub ids-told : (Awaits Fewer : ℕ → Type 0) (here : T → Bool) (t : Table T) (c : Circuit) (u : Told) → MayTell Awaits Fewer c u → HoldsIds Awaits kind here meant t c → HoldsIds Fewer kind here meant t (with_told u c)
  ids-told Awaits Fewer here t c u may h =
      record { few = h.few; busy = λ p n pending. h.busy p n (pending-told Awaits Fewer c u p (kind n) may pending); own = λ g v is in_it. h.own g v is in_it }

  pub ids-handled : (Awaits Fewer : ℕ → Type 0) (here : T → Bool) (t : Table T) (c : Circuit) (g : Step) → ((p : ℕ) → Fewer p → Awaits p) → HoldsIds Awaits kind here meant t c → HoldsIds Fewer kind here meant t (with_handled g c)
  ids-handled Awaits Fewer here t c g fewer h =
      record { few = h.few; busy = λ p n pending. h.busy p n (pending-fewer Awaits Fewer c p (kind n) fewer pending); own = λ k v is in_it. h.own k v is in_it }

  pub ids-heard : (Awaits : ℕ → Type 0) (here : T → Bool) (t : Table T) (c : Circuit) (g : Step) → HoldsIds Awaits kind here meant t c → HoldsIds Awaits kind here meant t (with_heard g c)
  ids-heard Awaits here t c g h =
      record { few = h.few; busy = λ p n pending. h.busy p n (pending-before Awaits c g p (kind n) pending); own = λ k v is in_it. h.own k v is in_it }

  module _ (Awaits : ℕ → Type 0) where
    -- a message is sent that gives no id of this kind, and concerns none but those that are held
    pub ids-sent-by : (here : Handle → T → Bool) (t : Table T) (c : Circuit) (s : Sent) → ((n : ℕ) → Gives s.message (kind n) → ⊥) → ((n : ℕ) → Concerns (c.up ++ s ∷ []) (length c.up) (kind n) → IsHeldBy here t n)
        → HoldsIdsBy Awaits kind here meant t c → HoldsIdsBy Awaits kind here meant t (with_sent s c)
    ids-sent-by here t c s none held h = record {
      few = h.few;
      busy = λ p n pending. elim (pending-sent Awaits c s p (kind n) pending) [
        | inl old ↦ h.busy p n old
        | inr new ↦ held n new.1
      ];
      own = λ g v is in_it. meant-sent c s (meant g) (kind (wire_of g)) (none (wire_of g)) (h.own g v is in_it);
    }

    pub ids-sent : (here : T → Bool) (t : Table T) (c : Circuit) (s : Sent) → ((n : ℕ) → Gives s.message (kind n) → ⊥) → ((n : ℕ) → Concerns (c.up ++ s ∷ []) (length c.up) (kind n) → IsHeld here t n)
        → HoldsIds Awaits kind here meant t c → HoldsIds Awaits kind here meant t (with_sent s c)
    ids-sent here t c s none held h = ids-sent-by (λ (g : Handle). here) t c s none held h

    -- a message gives the id of something in the table that did not have its id here: now it has it
    pub ids-named : (here : Handle → T → Bool) (t : Table T) (c : Circuit) (q : Handle) (u : T) (s : Sent) (number : ℕ) → under t q ≡ Some u → Gives s.message (kind (wire_of q))
        → ((n : ℕ) → Concerns (c.up ++ s ∷ []) (length c.up) (kind n) → wire_of q ≡ n) → ((n : ℕ) → Gives s.message (kind n) → wire_of q ≡ n)
        → named (kind (wire_of q)) s.intent ≡ Some number → named (kind (wire_of q)) (meant q) ≡ Some number
        → HoldsIdsBy Awaits kind here meant t c → HoldsIdsBy Awaits kind (λ (g : Handle) (v : T). here g v || same_handle g q) meant t (with_sent s c)
    ids-named here t c q u s number there gives only gives_only is means h = record {
      few = h.few;
      busy = λ p n pending. elim (pending-sent Awaits c s p (kind n) pending) [
        | inl old ↦ (let holder = h.busy p n old in (holder.0, holder.1, holder.2, holder.3, or_left (here holder.0 holder.1) (same_handle holder.0 q) holder.4))
        | inr new ↦ (q, u, there, only n new.1, or_right (here q u) (same_handle q q) (same-itself q))
      ];
      own = λ g w stands in_too. elim (handle-or g q) [
        | inl same ↦
            let m : IsMeant (with_sent s c) (meant q) (kind (wire_of q)) = (length c.up, number, given-new c s (kind (wire_of q)) number gives is, means) in
            subst (λ (k : Handle). IsMeant (with_sent s c) (meant k) (kind (wire_of k))) (sym same) m
        | inr other ↦
            meant-sent c s (meant g) (kind (wire_of g)) (λ again. other (one-by-wire t g q w u h.few stands there (sym (gives_only (wire_of g) again))))
            (h.own g w stands (elim (or_cases (here g w) (same_handle g q) in_too) [
              | inl was ↦ was
              | inr is_it ↦ absurd (other (same-is g q is_it))
            ]))
      ];
    }

    -- nothing that may still come speaks of the id of what is in the table and does
    -- not have its id here
    pub ids-away : (here : Handle → T → Bool) (t : Table T) (c : Circuit) (q : Handle) (u : T) → under t q ≡ Some u → here q u ≡ false → HoldsIdsBy Awaits kind here meant t c → (p : ℕ) → IsPending Awaits c p (kind (wire_of q)) → ⊥
    ids-away here t c q u is away h p pending =
        let holder = h.busy p (wire_of q) pending in
        let same : holder.0 ≡ q = one-by-wire t holder.0 q holder.1 u h.few holder.2 is holder.3 in
        let value : holder.1 ≡ u = one-value t q holder.1 u (subst (λ (x : Handle). under t x ≡ Some holder.1) same holder.2) is in
        both_ways (here q u) away (subst (λ (x : Handle × T). here x.0 x.1 ≡ true) (λ i. (same i, value i)) holder.4)

    -- the table and its test change, and the lists stay: what is pending stays held, and
    -- nothing is held again
    pub ids-kept-by : (here there : Handle → T → Bool) (t u : Table T) (c : Circuit) → length u ≤ arena_slots
        → ((p n : ℕ) → IsPending Awaits c p (kind n) → IsHeldBy here t n → IsHeldBy there u n)
        → ((g : Handle) (v : T) → under u g ≡ Some v → there g v ≡ true → (w : T) × (under t g ≡ Some w) × (here g w ≡ true))
        → HoldsIdsBy Awaits kind here meant t c → HoldsIdsBy Awaits kind there meant u c
    ids-kept-by here there t u c few keeps back h = record {
      few = few;
      busy = λ p n pending. keeps p n pending (h.busy p n pending);
      own = λ g v is in_it. (let was = back g v is in_it in h.own g was.0 was.1 was.2);
    }

    -- ---- the table changes, and the lists stay

    -- what is pending stays held, and nothing is held again
    pub ids-kept : (here there : T → Bool) (t u : Table T) (c : Circuit) → length u ≤ arena_slots
        → ((p n : ℕ) → IsPending Awaits c p (kind n) → IsHeld here t n → IsHeld there u n)
        → ((g : Handle) (v : T) → under u g ≡ Some v → there v ≡ true → (w : T) × (under t g ≡ Some w) × (here w ≡ true))
        → HoldsIds Awaits kind here meant t c → HoldsIds Awaits kind there meant u c
    ids-kept here there t u c few keeps back h = record {
      few = few;
      busy = λ p n pending. keeps p n pending (h.busy p n pending);
      own = λ g v is in_it. (let was = back g v is in_it in h.own g was.0 was.1 was.2);
    }

    -- ---- an id is given

    -- nothing that may still come speaks of the id of a handle that may be given
    pub ids-fresh : (here : T → Bool) (t : Table T) (c : Circuit) (q : Handle) → MayGive t q → HoldsIds Awaits kind here meant t c → (p : ℕ) → IsPending Awaits c p (kind (wire_of q)) → ⊥
    ids-fresh here t c q may h p pending =
        let holder = h.busy p (wire_of q) pending in
        given-fresh t holder.0 q holder.1 h.few may holder.2 holder.3

    -- nor of the id of what is in the table and does not have its id here
    pub ids-free : (here : T → Bool) (t : Table T) (c : Circuit) (q : Handle) (u : T) → under t q ≡ Some u → here u ≡ false → HoldsIds Awaits kind here meant t c → (p : ℕ) → IsPending Awaits c p (kind (wire_of q)) → ⊥
    ids-free here t c q u is away h p pending =
        let holder = h.busy p (wire_of q) pending in
        let same : holder.0 ≡ q = one-by-wire t holder.0 q holder.1 u h.few holder.2 is holder.3 in
        let value : holder.1 ≡ u = one-value t q holder.1 u (subst (λ (x : Handle). under t x ≡ Some holder.1) same holder.2) is in
        both_ways (here u) away (subst (λ (x : T). here x ≡ true) value holder.4)

    -- a message gives the id of something new
    pub ids-given : (here : T → Bool) (t : Table T) (c : Circuit) (q : Handle) (v : T) (s : Sent) (number : ℕ) → MayGive t q → here v ≡ true → Gives s.message (kind (wire_of q))
        → ((n : ℕ) → Concerns (c.up ++ s ∷ []) (length c.up) (kind n) → wire_of q ≡ n) → ((n : ℕ) → Gives s.message (kind n) → wire_of q ≡ n)
        → named (kind (wire_of q)) s.intent ≡ Some number → named (kind (wire_of q)) (meant q) ≡ Some number
        → HoldsIds Awaits kind here meant t c → HoldsIds Awaits kind here meant (with_held q v t) (with_sent s c)
    ids-given here t c q v s number may in_it gives only gives_only is means h = record {
      few = held-few t q v may h.few;
      busy = λ p n pending. elim (pending-sent Awaits c s p (kind n) pending) [
        | inl old ↦ (let holder = h.busy p n old in (holder.0, holder.1, held-other t holder.0 q v holder.1 may holder.2, holder.3, holder.4))
        | inr new ↦ (q, v, held-own t q v may, only n new.1, in_it)
      ];
      own = λ g w there in_too. elim (held-back t g q v w there) [
        | inl new ↦
            let m : IsMeant (with_sent s c) (meant q) (kind (wire_of q)) = (length c.up, number, given-new c s (kind (wire_of q)) number gives is, means) in
            subst (λ (k : Handle). IsMeant (with_sent s c) (meant k) (kind (wire_of k))) (sym new.0) m
        | inr old ↦
            meant-sent c s (meant g) (kind (wire_of g)) (λ again. given-fresh t g q w h.few may old (sym (gives_only (wire_of g) again))) (h.own g w old in_too)
      ];
    }

    -- a message gives the id of something that did not have its id here, and now has it
    pub ids-again : (here : T → Bool) (f : T → T) (t : Table T) (c : Circuit) (q : Handle) (u : T) (s : Sent) (number : ℕ) → under t q ≡ Some u → here u ≡ false → here (f u) ≡ true → Gives s.message (kind (wire_of q))
        → ((n : ℕ) → Concerns (c.up ++ s ∷ []) (length c.up) (kind n) → wire_of q ≡ n) → ((n : ℕ) → Gives s.message (kind n) → wire_of q ≡ n)
        → named (kind (wire_of q)) s.intent ≡ Some number → named (kind (wire_of q)) (meant q) ≡ Some number
        → HoldsIds Awaits kind here meant t c → HoldsIds Awaits kind here meant (with_changed f q t) (with_sent s c)
    ids-again here f t c q u s number there away in_it gives only gives_only is means h = record {
      few = (let e : length (with_changed f q t) ≡ length t = changed-few f t q in let l : length t ≤ arena_slots = h.few in omega (arith, e, l));
      busy = λ p n pending. elim (pending-sent Awaits c s p (kind n) pending) [
        | inl old ↦
            let holder = h.busy p n old in
            (holder.0, holder.1, changed-other f t holder.0 q holder.1 holder.2 (λ same. other holder.0 holder.1 holder.2 holder.4 same), holder.3, holder.4)
        | inr new ↦ (q, f u, changed-own f t q u there, only n new.1, in_it)
      ];
      own = λ g w stands in_too. elim (changed-back f t g q w stands) [
        | inl new ↦
            let m : IsMeant (with_sent s c) (meant q) (kind (wire_of q)) = (length c.up, number, given-new c s (kind (wire_of q)) number gives is, means) in
            subst (λ (k : Handle). IsMeant (with_sent s c) (meant k) (kind (wire_of k))) (sym new.0) m
        | inr old ↦
            meant-sent c s (meant g) (kind (wire_of g)) (λ again. old.0 (one-by-wire t g q w u h.few old.1 there (sym (gives_only (wire_of g) again)))) (h.own g w old.1 in_too)
      ];
    }
      where
        other : (g : Handle) (v : T) → under t g ≡ Some v → here v ≡ true → g ≡ q → ⊥
        other g v is_it yes_it same =
            both_ways (here u) away (subst (λ (x : T). here x ≡ true) (one-value t q v u (subst (λ (x : Handle). under t x ≡ Some v) same is_it) there) yes_it)
