-- What a server's core knows of the keys of its subscriptions is what the lists say.
use Rattle.std.proofs.Common.{◌≡◌, ℕ, zero, suc, ◌<◌, ◌⊎◌, ◌||◌, inl, inr, Bool, true, false, List, [], ◌∷◌, length, refl, sym, ap, subst, ◌∙◌, arith}
use Rattle.std.specs.Prelude.{map, take}
use Rattle.ca_queue.specs.declared.entry.SubKey.{SubKey}
use Rattle.ca_queue.specs.Keys.{AreApart, is_among, same}
use Rattle.ca_queue.proofs.Keys.{same_itself}
use Rattle.ca_text.specs.Place.{At}
use Rattle.ca_text.proofs.Places.{some_is, At-map, At-mapped, At-one, At-within}
use Rattle.ca_model.specs.Due.{key_in}
use Rattle.ca_model.specs.History.{Circuit, Entry, Removed, Sent}
use Rattle.ca_model.specs.Server.{ServerEnd, key_of}
use Rattle.ca_model.specs.Speech.{Ends, In}
use Rattle.ca_model.specs.Channels.{Suits}
use Rattle.ca_model.specs.Causes.{Acted}
use Rattle.ca_model.specs.Known.{AreJust, IsKey}
use Rattle.ca_model.specs.World.{Joined, RecordSide, Standing}
use Rattle.ca_laws_parts.specs.Both.{Both}
use Rattle.ca_laws_parts.proofs.WritesLists.{At-take, beside-right, none_at}
use Rattle.ca_laws_parts.specs.InStep.{keys_standing}
use Rattle.ca_laws_runs.specs.Causing.{IsTaken}
use Rattle.ca_laws_runs.specs.Knew.{EndsKey}
use Rattle.ca_laws_runs.specs.KnewLists.{as_known}
use Rattle.ca_laws_runs.specs.Known.{IsOnRecord}
use Rattle.ca_laws_runs.proofs.Acting.{taken-at, taken-below}
use Rattle.ca_laws_runs.proofs.CausingRuns.{accepted-of}
use Rattle.ca_laws_runs.proofs.KnewChannels.{Facts}

-- ---- lists

both-left : {A B : Type 0} (Q : A → B → Type 0) (xs : List A) (ys : List B) (i : ℕ) (x : A) → Both Q xs ys → At xs i x → (y : B) × At ys i y × Q x y
both-left Q [] ys i x both at = absurd (none_at i x at)
both-left Q (a ∷ xs) [] i x both at = absurd both
both-left Q (a ∷ xs) (b ∷ ys) zero x both at = (b, refl, subst (λ (z : _). Q z b) (some_is a x at) both.0)
both-left Q (a ∷ xs) (b ∷ ys) (suc i) x both at = both-left Q xs ys i x both.1 at

or-left : (a b : Bool) → a ≡ true → a || b ≡ true
or-left true b e = refl
or-left false b e = absurd cc

or-right : (a b : Bool) → b ≡ true → a || b ≡ true
or-right true b e = refl
or-right false b e = e

among-at : (keys : List SubKey) (i : ℕ) (k : SubKey) → At keys i k → is_among k keys ≡ true
among-at [] i k at = absurd (none_at i k at)
among-at (x ∷ keys) zero k at = or-left (same k x) (is_among k keys) (ap (λ (z : SubKey). same k z) (some_is x k at) ∙ same_itself k)
among-at (x ∷ keys) (suc i) k at = or-right (same k x) (is_among k keys) (among-at keys i k at)

clash : (b : Bool) → b ≡ true → b ≡ false → ⊥
clash true e f = cc
clash false e f = cc

apart-one : (keys : List SubKey) → AreApart keys → (i j : ℕ) (k : SubKey) → At keys i k → At keys j k → i ≡ j
apart-one [] apart i j k first second = absurd (none_at i k first)
apart-one (x ∷ keys) apart zero zero k first second = refl
apart-one (x ∷ keys) apart zero (suc j) k first second = absurd (clash (is_among x keys) (among-at keys j x (subst (λ (z : SubKey). At keys j z) (sym (some_is x k first)) second)) apart.0)
apart-one (x ∷ keys) apart (suc i) zero k first second = absurd (clash (is_among x keys) (among-at keys i x (subst (λ (z : SubKey). At keys i z) (sym (some_is x k second)) first)) apart.0)
apart-one (x ∷ keys) apart (suc i) (suc j) k first second = ap (λ (n : ℕ). suc n) (apart-one keys apart.1 i j k first second)

-- ---- on which record a message acted, by what the server handled

module _ (c : Circuit) (log : List Entry) where
  abbrev many : ℕ
  many = length c.handled

  pub acted-known : (k r : ℕ) → k < many → Acted c log k r → Acted (as_known c) log k r
  acted-known k r lt (s, h, i, l, at_s, at_h, ((t, q, g, at_t, place, cause, creates, at_q, at_g, has, gives), later, cleared)) = (
    s,
    h,
    i,
    l,
    taken-at many c.up k s lt at_s,
    at_h,
    (
      (t, q, g, at_t, place, cause, creates, within l q at_q, at_g, has, gives),
      later,
      λ p m after below at clears. cleared p m after below (taken-at k c.up p m (taken-below k (take many c.up) p m at) (At-take many c.up p m (At-take k (take many c.up) p m at))) clears,
    ),
  )
    where
      within : (p : ℕ) (m : Sent) → At (take k c.up) p m → At (take k (take many c.up)) p m
      within p m at = (let below : p < k = taken-below k c.up p m at in taken-at k (take many c.up) p m below (taken-at many c.up p m (omega (arith, below, lt)) (At-take k c.up p m at)))

  pub acted-all : (k r : ℕ) → Acted (as_known c) log k r → Acted c log k r
  acted-all k r (s, h, i, l, at_s, at_h, ((t, q, g, at_t, place, cause, creates, at_q, at_g, has, gives), later, cleared)) = (
    s,
    h,
    i,
    l,
    At-take many c.up k s at_s,
    at_h,
    (
      (t, q, g, at_t, place, cause, creates, taken-at k c.up l q (taken-below k (take many c.up) l q at_q) (At-take many c.up l q (At-take k (take many c.up) l q at_q)), at_g, has, gives),
      later,
      λ p m after below at clears. cleared p m after below (within p m at) clears,
    ),
  )
    where
      lt : k < many
      lt = taken-below many c.up k s at_s

      within : (p : ℕ) (m : Sent) → At (take k c.up) p m → At (take k (take many c.up)) p m
      within p m at = (let below : p < k = taken-below k c.up p m at in taken-at k (take many c.up) p m below (taken-at many c.up p m (omega (arith, below, lt)) (At-take k c.up p m at)))

-- ---- an open end

module _ (log : List Entry) (rs : List RecordSide) (e : ServerEnd) (c : Joined) (f : Facts log rs e c) where
  abbrev known_c : Circuit
  known_c = as_known c.lists

  abbrev all : ℕ
  all = length c.lists.handled

  key-is : (a b : SubKey) → a.sid ≡ b.sid → a.sub ≡ b.sub → a ≡ b
  key-is a b p q = λ i. record { sid = p i; sub = q i }

  each-key : (key : SubKey) → In (map key_of e.subscriptions) key → IsKey known_c log key
  each-key key in_it =
      let x = At-mapped key_of e.subscriptions in_it.0 key in_it.1 in
      let b = both-left (IsOnRecord log rs c.lists) e.subscriptions c.standing in_it.0 x.0 f.known.subs x.1 in
      let st : Standing = b.0 in
      let o : IsOnRecord log rs c.lists x.0 st = b.2 in
      let taken : IsTaken log c.lists st.place = f.sources.stands st (in_it.0, b.1) in
      let a = accepted-of log c.lists st.place (λ q at. f.asked st.place q at) taken in
      let s : Sent = a.1 in
      let lt : st.place < all = At-within c.lists.handled st.place taken.h taken.handled in
      let s_is : o.s ≡ s = At-one c.lists.up st.place o.s s o.sent a.3.2 in
      let key_is : key ≡ key_in s.message = x.2 ∙ o.key ∙ sym o.named ∙ ap (λ (z : Sent). key_in z.message) s_is in
      let acted : Acted c.lists log st.place a.0 = a.3.5 in (
        st.place,
        a.0,
        s,
        a.2,
        (a.3.0, a.3.1, taken-at all c.lists.up st.place s lt a.3.2, a.3.3, a.3.4, acted-known c.lists log st.place a.0 lt acted, a.3.6),
        (
          refl,
          λ gone. f.there (x.0).name a.0 (o.acted a.0 acted) gone,
          λ l m after within at ends. f.unended.unended st l m (in_it.0, b.1) after within (At-take all c.lists.up l m at) (ended st s m (sym o.named ∙ ap (λ (z : Sent). key_in z.message) s_is) ends),
        ),
        ap (λ (z : SubKey). z.sid) key_is,
        ap (λ (z : SubKey). z.sub) key_is,
      )
    where
      ended : (st : Standing) (s m : Sent) → st.key ≡ key_in s.message → Ends s.message m.message → EndsKey st.key m.message
      ended st s m is (inl cancel) = inl (cancel.0, key-is (key_in m.message) (key_in s.message) cancel.1 cancel.2 ∙ sym is)
      ended st s m is (inr clears) = inr (clears.0, clears.1 ∙ ap (λ (z : SubKey). z.sid) (sym is))

  all-keys : (key : SubKey) → IsKey known_c log key → In (map key_of e.subscriptions) key
  all-keys key (k, r, s, h, (channel, number, at_s, intent, at_h, acted, unrefused), lasts, sid, sub) =
      elim (f.known.adds k s h at_up at_h (subst (λ (i : _). Suits i s.message) intent (f.asked k s at_up))) [
        | inl refused ↦ absurd (unrefused refused.0 refused.1 refused.2 refused.3 refused.4)
        | inr other ↦ elim other [
          | inr over ↦ absurd (not-over over)
          | inl stands ↦ stood stands.0 stands.1 stands.2 stands.3
        ]
      ]
    where
      at_up : At c.lists.up k s
      at_up = At-take all c.lists.up k s at_s

      not-over : ((l : ℕ) × (m : Sent) × (k < l) × (l < all) × At c.lists.up l m × Ends s.message m.message) ⊎ ((q : ℕ) → Acted c.lists log k q → In log (Removed q)) → ⊥
      not-over (inl ended) = lasts.2 ended.0 ended.1 ended.2 ended.3 (taken-at all c.lists.up ended.0 ended.1 ended.3 ended.4) ended.5
      not-over (inr removed) = lasts.1 (removed r (acted-all c.lists log k r acted))

      stood : (i : ℕ) (st : Standing) → At c.standing i st → st.place ≡ k → In (map key_of e.subscriptions) key
      stood i st at place =
          let b = beside-right (IsOnRecord log rs c.lists) e.subscriptions c.standing i st f.known.subs at in
          let o = b.2 in
          let s_is : o.s ≡ s = At-one c.lists.up k o.s s (subst (λ (p : ℕ). At c.lists.up p o.s) place o.sent) at_up in
          let key_is : key_of b.0 ≡ key = o.key ∙ sym o.named ∙ ap (λ (z : Sent). key_in z.message) s_is ∙ sym (key-is key (key_in s.message) sid sub) in
          (i, subst (λ (z : SubKey). At (map key_of e.subscriptions) i z) key_is (At-map key_of e.subscriptions i b.0 b.1))

  once-keys : (i j : ℕ) (key : SubKey) → At (map key_of e.subscriptions) i key → At (map key_of e.subscriptions) j key → i ≡ j
  once-keys i j key first second = apart-one (keys_standing c) f.follows.holds.apart i j key (stands i first) (stands j second)
    where
      stands : (i : ℕ) → At (map key_of e.subscriptions) i key → At (keys_standing c) i key
      stands i at =
          let x = At-mapped key_of e.subscriptions i key at in
          let b = both-left (IsOnRecord log rs c.lists) e.subscriptions c.standing i x.0 f.known.subs x.1 in
          subst (λ (z : SubKey). At (keys_standing c) i z) (sym (x.2 ∙ b.2.key)) (At-map (λ (z : Standing). z.key) c.standing i b.0 b.1)

  pub know-keys : AreJust (map key_of e.subscriptions) (IsKey known_c log)
  know-keys = record { each = each-key; all = all-keys; once = once-keys }
