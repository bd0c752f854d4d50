-- A channel that comes back: each message acts on the record of its channel.
use Rattle.std.proofs.Common.{◌≡◌, ℕ, ◌<◌, ◌≤◌, ◌⊎◌, inl, inr, List, refl, sym, ap, subst, ◌∙◌, arith}
use Rattle.std.specs.Prelude.{take, Option}
use Rattle.ca_text.specs.Place.{At}
use Rattle.ca_text.specs.declared.status.Status.{Status}
use Rattle.ca_dbr.specs.declared.value.Outcome.{Outcome}
use Rattle.ca_dbr.specs.declared.value.Outcome.TheVariants as outcome
use Rattle.ca_wire.specs.Fields.{Fields}
use Rattle.ca_records.specs.Record.{RecordState}
use Rattle.ca_model.specs.Speech.{Clears, Creates, In}
use Rattle.ca_model.specs.History.{Ask, Circuit, Intent, On, OfCircuit, Create, Line, Entry, Opened, Sent, Told, Added, Removed, Clear, Reply}
use Rattle.ca_model.specs.Channels.{Has, IsNamed, IsOpen, IsUse, KeepNames, before}
use Rattle.ca_model.specs.Headline.{ActsOnRecord}
use Rattle.ca_model.specs.Causes.{Acted}
use Rattle.ca_requests.specs.Meaning.{Means}
use Rattle.ca_model.specs.Updates.{Shows}
use Rattle.ca_model_examples.specs.Worlds.{adding, clearing, created_told, creating, long, reply, rights_told, step, temp, temp_name}
use Rattle.ca_model_examples.specs.Safe.{reopened, reopened_entries, reopened_lines}
use Rattle.ca_model_examples.proofs.Lists.{each-at, at-take, at-take-within}
use Rattle.ca_model_examples.proofs.UsedActs.{is-fine}
use Rattle.ca_model_examples.proofs.Reopened.{channel-of, created-on, reply-at}

abbrev removed-in : Entry → ℕ
removed-in (Removed r) = r
removed-in e = 0

abbrev added-in : Entry → ℕ
added-in (Added r s) = r
added-in e = 0

abbrev pub back : RecordState
back = record temp { value = (long 5).value }

pub removed-at : (e r : ℕ) → At reopened_entries e (Removed r) → (e ≡ 1) × (r ≡ 0)
removed-at e r at =
    each-at (λ (i : ℕ) (z : Entry). z ≡ Removed r → (i ≡ 1) × (r ≡ 0)) reopened_entries ((λ f. absurd cc), ((λ f. (refl, ap removed-in (sym f))), ((λ f. absurd cc), tt))) e _ at refl

pub added-at : (e r : ℕ) (s : RecordState) → At reopened_entries e (Added r s) → ((e ≡ 0) × (r ≡ 0)) ⊎ ((e ≡ 2) × (r ≡ 1))
added-at e r s at =
    each-at (λ (i : ℕ) (z : Entry). z ≡ Added r s → ((i ≡ 0) × (r ≡ 0)) ⊎ ((i ≡ 2) × (r ≡ 1))) reopened_entries (
      (λ f. inl (refl, ap added-in (sym f))),
      ((λ f. absurd cc), ((λ f. inr (refl, ap added-in (sym f))), tt)),
    ) e _ at refl

-- creations and clears, by place
pub sid-at : (j sid : ℕ) (t : Told) → At reopened.down j t → Creates t.message sid → sid ≡ 5
sid-at j sid t at is =
    each-at (λ (i : ℕ) (u : Told). Creates u.message sid → sid ≡ 5) reopened.down (
      (λ e. (let f = e.0 in absurd (omega (arith, f)))),
      (
        (λ e. sym e.1),
        (
          (λ e. (let f = e.0 in absurd (omega (arith, f)))),
          (
            (λ e. (let f = e.0 in absurd (omega (arith, f)))),
            (
              (λ e. (let f = e.0 in absurd (omega (arith, f)))),
              (
                (λ e. (let f = e.0 in absurd (omega (arith, f)))),
                (
                  (λ e. sym e.1),
                  (
                    (λ e. (let f = e.0 in absurd (omega (arith, f)))),
                    tt,
                  ),
                ),
              ),
            ),
          ),
        ),
      ),
    ) j t at is

creations : (n i : ℕ) (t : Told) → At (take n reopened.down) i t → Creates t.message 5 → ((i ≡ 1) ⊎ (i ≡ 6)) × (i < n)
creations n i t at is = (
  each-at (λ (j : ℕ) (u : Told). Creates u.message 5 → (j ≡ 1) ⊎ (j ≡ 6)) reopened.down (
    (λ e. (let f = e.0 in absurd (omega (arith, f)))),
    (
      (λ e. inl refl),
      (
        (λ e. (let f = e.0 in absurd (omega (arith, f)))),
        (
          (λ e. (let f = e.0 in absurd (omega (arith, f)))),
          (
            (λ e. (let f = e.0 in absurd (omega (arith, f)))),
            (
              (λ e. (let f = e.0 in absurd (omega (arith, f)))),
              (
                (λ e. inr refl),
                (
                  (λ e. (let f = e.0 in absurd (omega (arith, f)))),
                  tt,
                ),
              ),
            ),
          ),
        ),
      ),
    ),
  ) i t (at-take n reopened.down i t at) is,
  at-take-within n reopened.down i t at,
)

clears-at : (n l : ℕ) (s : Sent) → At (take n reopened.up) l s → Clears s.message 5 → (l ≡ 2) × (l < n)
clears-at n l s at is = (
  each-at (λ (j : ℕ) (u : Sent). Clears u.message 5 → j ≡ 2) reopened.up (
    (λ e. (let f = e.0 in absurd (omega (arith, f)))),
    (
      (λ e. (let f = e.0 in absurd (omega (arith, f)))),
      (
        (λ e. refl),
        (
          (λ e. (let f = e.0 in absurd (omega (arith, f)))),
          (
            (λ e. (let f = e.0 in absurd (omega (arith, f)))),
            tt,
          ),
        ),
      ),
    ),
  ) l s (at-take n reopened.up l s at) is,
  at-take-within n reopened.up l s at,
)

no-later : (n i j : ℕ) (t : Told) → n ≤ 6 ⊎ (6 ≤ j) → 1 ≤ j → j < i → At (take n reopened.down) i t → Creates t.message 5 → ⊥
no-later n i j t bound one after at is =
    let h = creations n i t at is in
    let within = h.1 in
    elim h.0 [
      | inl e ↦ omega (arith, e, after, one)
      | inr e ↦ elim bound [
        | inl b ↦ omega (arith, e, within, b)
        | inr b ↦ omega (arith, e, after, b)
      ]
    ]

no-clear : (n l k : ℕ) (s : Sent) → n ≤ 2 ⊎ (2 ≤ k) → k < l → At (take n reopened.up) l s → Clears s.message 5 → ⊥
no-clear n l k s bound after at is =
    let h = clears-at n l s at is in
    let e = h.0 in
    let within = h.1 in
    elim bound [
      | inl b ↦ omega (arith, e, within, b)
      | inr b ↦ omega (arith, e, after, b)
    ]

pub first-there : (n : ℕ) → At (take 1 (take n reopened_entries)) 0 (Added 0 temp) → Has (take 1 (take n reopened_entries)) 0 temp_name
first-there n at =
    (temp, (0, at), refl, (λ h. (let e = (removed-at h.0 0 (at-take n reopened_entries h.0 _ (at-take 1 (take n reopened_entries) h.0 _ h.1))).0 in let l = at-take-within 1 (take n reopened_entries) h.0 _ h.1 in omega (arith, e, l))))

pub not-removed : (r : ℕ) → r ≡ 1 → In reopened_entries (Removed r) → ⊥
not-removed r is h = (let e = (removed-at h.0 r h.1).1 in omega (arith, e, is))

pub open-1 : IsOpen (before reopened 1 (step 2 1 1)) (take 1 reopened_entries) 1 0 5 0
open-1 = (
  (created_told, creating, step 0 1 1, refl, refl, refl, (refl, refl), refl, refl, first-there 1 refl, (refl, refl)),
  (λ i t after at. no-later 2 i 1 t (inl (omega arith)) (omega arith) after at),
  (λ l m after early at. no-clear 1 l 0 m (inl (omega arith)) after at),
)

pub open-2 : IsOpen (before reopened 2 (step 4 2 2)) (take 2 reopened_entries) 1 0 5 0
open-2 = (
  (created_told, creating, step 0 1 1, refl, refl, refl, (refl, refl), refl, refl, first-there 2 refl, (refl, refl)),
  (λ i t after at. no-later 4 i 1 t (inl (omega arith)) (omega arith) after at),
  (λ l m after early at. no-clear 2 l 0 m (inl (omega arith)) after at),
)

pub open-4 : IsOpen (before reopened 4 (step 7 3 3)) (take 3 reopened_entries) 6 3 5 1
open-4 = (
  (reply 3 created_told.message, creating, step 5 3 3, refl, refl, refl, (refl, refl), refl, refl, (back, (2, refl), refl, (λ h. not-removed 1 refl (h.0, at-take 3 reopened_entries h.0 _ (at-take 3 (take 3 reopened_entries) h.0 _ h.1)))), (refl, refl)),
  (λ i t after at. no-later 7 i 6 t (inr (omega arith)) (omega arith) after at),
  (λ l m after early at. no-clear 4 l 3 m (inr (omega arith)) after at),
)

pub open-now : IsOpen reopened reopened_entries 6 3 5 1
open-now = (
  (reply 3 created_told.message, creating, step 5 3 3, refl, refl, refl, (refl, refl), refl, refl, (back, (2, refl), refl, (λ h. not-removed 1 refl (h.0, at-take 3 reopened_entries h.0 _ h.1))), (refl, refl)),
  (λ i t after at. no-later 8 i 6 t (inr (omega arith)) (omega arith) after at),
  (λ l m after early at. no-clear 5 l 3 m (inr (omega arith)) after at),
)

-- ---- the whole

-- no reply says that something failed
clear-means : (s : Status) → Means clearing.message (outcome.Failed s) → ⊥
clear-means s h =
    elim h [
      | inl a ↦ elim a.0 [
        | inl e ↦ omega (arith, e)
        | inr e ↦ omega (arith, e)
      ]
      | inr b ↦ elim b [
        | inl a ↦ (let e = a.0 in omega (arith, e))
        | inr c ↦ elim c [
          | inl a ↦ (let e = a.0 in omega (arith, e))
          | inr a ↦ (let e = a.0 in omega (arith, e))
        ]
      ]
    ]

none-fails : (j : ℕ) (t : Told) (s : Status) → At reopened.down j t → t.cause ≡ Reply → Means t.message (outcome.Failed s) → ⊥
none-fails j t s at cause means =
    each-at (λ (i : ℕ) (u : Told). u.cause ≡ Reply → Means u.message (outcome.Failed s) → ⊥) reopened.down (
      (λ c m. is-fine rights_told.message s refl (λ e. omega (arith, e)) m),
      (
        (λ c m. is-fine created_told.message s refl (λ e. omega (arith, e)) m),
        (
          (λ c m. cc),
          (
            (λ c m. cc),
            (
              (λ c m. clear-means s m),
              (
                (λ c m. is-fine rights_told.message s refl (λ e. omega (arith, e)) m),
                (
                  (λ c m. is-fine created_told.message s refl (λ e. omega (arith, e)) m),
                  (
                    (λ c m. cc),
                    tt,
                  ),
                ),
              ),
            ),
          ),
        ),
      ),
    ) j t at cause means

used-at : (k : ℕ) (s : Sent) → At reopened.up k s → IsUse s.intent → (k ≡ 1) ⊎ (k ≡ 4)
used-at k s at uses =
    each-at (λ (i : ℕ) (z : Sent). IsUse z.intent → (i ≡ 1) ⊎ (i ≡ 4)) reopened.up (
      (λ u. absurd u),
      ((λ u. inl refl), ((λ u. absurd u), ((λ u. absurd u), ((λ u. inr refl), tt)))),
    ) k s at uses

replied-at : (j k : ℕ) (t : Told) → At reopened.down j t → t.place ≡ k → t.cause ≡ Reply → (k ≡ 1) ⊎ (k ≡ 4) → ⊥
replied-at j k t at place cause is =
    each-at (λ (i : ℕ) (u : Told). u.place ≡ k → u.cause ≡ Reply → ⊥) reopened.down (
      (λ p c. elim is [ inl e ↦ omega (arith, p, e) | inr e ↦ omega (arith, p, e) ]),
      (
        (λ p c. elim is [ inl e ↦ omega (arith, p, e) | inr e ↦ omega (arith, p, e) ]),
        (
          (λ p c. cc),
          (
            (λ p c. cc),
            (
              (λ p c. elim is [ inl e ↦ omega (arith, p, e) | inr e ↦ omega (arith, p, e) ]),
              (
                (λ p c. elim is [ inl e ↦ omega (arith, p, e) | inr e ↦ omega (arith, p, e) ]),
                (
                  (λ p c. elim is [ inl e ↦ omega (arith, p, e) | inr e ↦ omega (arith, p, e) ]),
                  (
                    (λ p c. cc),
                    tt,
                  ),
                ),
              ),
            ),
          ),
        ),
      ),
    ) j t at place cause

pub opened-at : (o : Outcome) (i channel : ℕ) (a : List ℕ) → At (reopened_lines o) i (Opened channel a) → i ≡ 0
opened-at o i channel a at =
    each-at (λ (k : ℕ) (l : Line). l ≡ Opened channel a → k ≡ 0) (reopened_lines o) (
      (λ e. refl),
      ((λ e. absurd cc), ((λ e. absurd cc), ((λ e. absurd cc), ((λ e. absurd cc), ((λ e. absurd cc), tt))))),
    ) i _ at refl

one-added : (i j r : ℕ) (a b : RecordState) → At reopened_entries i (Added r a) → At reopened_entries j (Added r b) → i ≡ j
one-added i j r a b p q =
    elim (added-at i r a p) [
      | inl x ↦ elim (added-at j r b q) [
        | inl y ↦ x.0 ∙ sym y.0
        | inr y ↦ (let e = x.1 in let f = y.1 in absurd (omega (arith, e, f)))
      ]
      | inr x ↦ elim (added-at j r b q) [
        | inl y ↦ (let e = x.1 in let f = y.1 in absurd (omega (arith, e, f)))
        | inr y ↦ x.0 ∙ sym y.0
      ]
    ]

-- what was there before an entry
no-other : (n i q : ℕ) (name : List ℕ) → i ≡ n → ((n ≡ 0) ⊎ (n ≡ 2)) → Has (take i reopened_entries) q name → ⊥
no-other n i q name is cases has =
    let at = at-take i reopened_entries has.1.0 _ has.1.1 in
    let within = at-take-within i reopened_entries has.1.0 _ has.1.1 in
    elim cases [
      | inl e ↦ omega (arith, is, e, within)
      | inr e ↦ elim (added-at has.1.0 q has.0 at) [
        | inl x ↦ has.3 (subst (λ (z : ℕ). In (take z reopened_entries) (Removed q)) (sym (is ∙ e)) (subst (λ (z : ℕ). In (take 2 reopened_entries) (Removed z)) (sym x.1) (1, refl)))
        | inr x ↦ (let f = x.0 in omega (arith, is, e, within, f))
      ]
    ]

reopened-names : (o : Outcome) → KeepNames (reopened_lines o) reopened_entries
reopened-names o = record {
  one_name = λ i j channel a b p q. opened-at o i channel a p ∙ sym (opened-at o j channel b q);
  one_record = one-added;
  one_at_once = λ i r q s at has. elim (added-at i r s at) [
    | inl x ↦ no-other 0 i q s.name x.0 (inl refl) has
    | inr x ↦ no-other 2 i q s.name x.0 (inr refl) has
  ];
  was_there = λ i r at. (let e = removed-at i r at in subst (λ (z : ℕ). (name : List ℕ) × Has (take z reopened_entries) r name) (sym e.0) (subst (λ (z : ℕ). (name : List ℕ) × Has (take 1 reopened_entries) z name) (sym e.1) (temp_name, first-there 1 refl)));
}

named : (o : Outcome) (channel r : ℕ) → channel ≡ 0 → (r ≡ 0) ⊎ (r ≡ 1) → IsNamed (reopened_lines o) reopened_entries channel r
named o channel r e is =
    subst (λ (k : ℕ). IsNamed (reopened_lines o) reopened_entries k r) (sym e) (elim is [
      | inl f ↦ subst (λ (k : ℕ). IsNamed (reopened_lines o) reopened_entries 0 k) (sym f) (temp, (0, refl), (0, refl))
      | inr f ↦ subst (λ (k : ℕ). IsNamed (reopened_lines o) reopened_entries 0 k) (sym f) (back, (0, refl), (2, refl))
    ])

abbrev ask-of : Intent → Ask
ask-of (On channel ask) = ask
ask-of OfCircuit = Create

module _
    (Due : ℕ → Circuit → List Entry → Fields → List Fields → Option Fields → List Entry → Type 0) where
  pub reopened-acts : (o : Outcome) → ActsOnRecord Due Shows Means 0 reopened (reopened_lines o) reopened_entries
  reopened-acts o = record {
    acts = λ k channel ask early meant other. each-at (λ (i : ℕ) (s : Sent). s.intent ≡ On channel ask → (r : ℕ) × Acted reopened reopened_entries i r × IsNamed (reopened_lines o) reopened_entries channel r) reopened.up (
      (λ e. absurd (other (sym (ap ask-of e)))),
      (
        (λ e. (0, (adding 0 9, step 2 1 1, 1, 0, refl, refl, open-1), named o channel 0 (sym (ap channel-of e)) (inl refl))),
        (
          (λ e. (0, (clearing, step 4 2 2, 1, 0, refl, refl, open-2), named o channel 0 (sym (ap channel-of e)) (inl refl))),
          (
            (λ e. absurd (other (sym (ap ask-of e)))),
            ((λ e. (1, (adding 0 9, step 7 3 3, 6, 3, refl, refl, open-4), named o channel 1 (sym (ap channel-of e)) (inr refl))), tt),
          ),
        ),
      ),
    ) k meant.0 meant.1 meant.2;
    retired = λ k j r h bad acted at. absurd (none-fails j _ _ bad.1 refl bad.2);
    refused = λ k j r m s h here at uses acted handled gone. absurd (replied-at j k _ here refl refl (used-at k s at uses));
    live = λ channel j k sid l.
        (let on = created-on k channel l.1 in
        let of-sid : sid ≡ 5 = sid-at j sid l.0 l.2 l.5 in
        elim (reply-at j k sid l.0 l.2 l.3 l.5) [
          | inl e ↦ (let zero-place = e.1 in absurd (l.7 2 (omega (arith, zero-place)) (clearing, refl, ap (λ (c : ℕ). On c Clear) (sym on))))
          | inr e ↦ (1, subst (λ (i : ℕ). IsOpen reopened reopened_entries i k sid 1) (sym e.0) (subst (λ (i : ℕ). IsOpen reopened reopened_entries 6 i sid 1) (sym e.1) (subst (λ (i : ℕ). IsOpen reopened reopened_entries 6 3 i 1) (sym of-sid) open-now)), named o channel 1 on (inr refl), (λ up. inl (not-removed 1 refl)))
        ]);
    names = reopened-names o;
  }
