-- A channel that comes back: what the client's log tells, that no write is applied twice, and what the subscriber saw.
use Rattle.std.proofs.Common.{◌≡◌, ℕ, ◌<◌, ◌⊎◌, inl, inr, List, [], ◌∷◌, refl, sym, ap, subst, ◌∙◌, arith}
use Rattle.std.specs.Prelude.{take, true, false, Bool}
use Rattle.ca_text.specs.Place.{At}
use Rattle.ca_text.proofs.Places.{some_is}
use Rattle.ca_dbr.specs.declared.value.Outcome.{Outcome}
use Rattle.ca_dbr.specs.declared.value.Outcome.TheVariants as outcome
use Rattle.ca_dbr.specs.declared.data_type.BaseType.TheVariants as base
use Rattle.ca_dbr.specs.declared.data_type.Form.TheVariants as form
use Rattle.ca_display.specs.declared.image_type.ImageType.TheVariants as any
use Rattle.ca_dbr.specs.Elements as E
use Rattle.ca_model.specs.Speech.{In, Stored}
use Rattle.ca_wire.specs.Messages.{mask_in}
use Rattle.ca_model.specs.History.{Circuit, Intent, On, OfCircuit, Create, Request, Subscribe, Put, Line, Entry, Sent, Told, Step, Added, Applied, Finished, Waits, Withdrawn, Removed, Clear, Reply, Update, Cause, Called, Noticed, Updated, Nothing, Wish}
use Rattle.ca_model.specs.Channels.{IsApplied, IsLost, IsOpen, IsRequest, IsUse, Stands, before, updates}
use Rattle.ca_model.specs.Headline.{ActsOnRecord, AnswersOwn, CompletesOnce, Follows, FollowsRecord, LosesLive, NotTwice, Reads, Sees}
use Rattle.ca_model.specs.Known.{IsSafe}
use Rattle.ca_requests.specs.Meaning.{Means}
use Rattle.ca_model.specs.Posts.{matching}
use Rattle.ca_model.specs.Updates.{Shows}
use Rattle.ca_model_examples.specs.Worlds.{adding, clearing, created_told, creating, disconnected, long, ports, reply, rules, step}
use Rattle.ca_model_examples.specs.Safe.{first_update, reopened, reopened_entries, reopened_lines, reopened_world}
use Rattle.ca_model_examples.proofs.Lists.{each-at, at-take, at-take-within, one-at}
use Rattle.ca_model_examples.proofs.SmallDue.{TrueDue}
use Rattle.ca_model_examples.proofs.Reopened.{each-circuit, each-life, intent-of, is-held, reply-at}
use Rattle.ca_model_examples.proofs.ReopenedSafe.{added-at, reopened-acts}
use Rattle.ca_model_examples.proofs.ReopenedOwn.{reopened-answers}

abbrev noticed-of : Line → Intent
noticed-of (Noticed i o) = i
noticed-of (Updated i o) = i
noticed-of l = OfCircuit

abbrev outcome-of : Line → Outcome
outcome-of (Noticed i o) = o
outcome-of (Updated i o) = o
outcome-of l = outcome.Done

no-clear-line : (o : Outcome) (n : ℕ) → In (take n (reopened_lines o)) (Called (On 0 Clear) Nothing) → ⊥
no-clear-line o n h = (is-held o n 0 0).0 h

-- ---- the client's log

abbrev Bears : (o : Outcome) → ℕ → Intent → Outcome → Type 0
Bears o i intent p =
    ((by : Reads TrueDue Shows Means (reopened_world o) 0 (reopened_lines o) i intent p) × (by.t.cause ≡ Reply))
    ⊎ ((p ≡ outcome.Disconnected) × IsLost (reopened_world o) 0 (reopened_lines o) i intent)

abbrev read-first : (o : Outcome) → Reads TrueDue Shows Means (reopened_world o) 0 (reopened_lines o) 1 (On 0 Create) outcome.Done
read-first o = record {
  n = 0;
  c = reopened;
  on = (refl, refl);
  j = 1;
  t = created_told;
  h = step 1 1 2;
  read = (refl, refl, refl, omega arith);
  own = (creating, refl, refl);
  held = λ h. no-clear-line o 1 h;
  means = inr (inr (inl (refl, tt)));
}

live-first : (o : Outcome) → Bears o 1 (On 0 Create) outcome.Done
live-first o = inl (read-first o, refl)

live-again : (o : Outcome) → Bears o 5 (On 0 Create) outcome.Done
live-again o = inl (
  record {
    n = 0;
    c = reopened;
    on = (refl, refl);
    j = 6;
    t = reply 3 created_told.message;
    h = step 4 5 6;
    read = (refl, refl, refl, omega arith);
    own = (creating, refl, refl);
    held = λ h. no-clear-line o 5 h;
    means = inr (inr (inl (refl, tt)));
  },
  refl,
)

was-lost : (o : Outcome) → Bears o 4 (On 0 Create) outcome.Disconnected
was-lost o =
    inr (refl, (0, 0, 0, Create, reopened, refl, refl, refl, (creating, refl, refl), inr (inr (3, disconnected, step 2 4 5, refl, refl, refl, (creating, refl, refl), omega arith, omega arith, omega arith, omega arith))))

no-use : (o : Outcome) (i : ℕ) (intent : Intent) (p : Outcome) → At (reopened_lines o) i (Noticed intent p) → IsUse intent → ⊥
no-use o i intent p at uses =
    each-at (λ (k : ℕ) (l : Line). l ≡ Noticed intent p → ⊥) (reopened_lines o) (
      (λ e. cc),
      (
        (λ e. (let g : On 0 Create ≡ intent = ap noticed-of e in subst IsUse (sym g) uses)),
        (
          (λ e. cc),
          (
            (λ e. cc),
            (
              (λ e. (let g : On 0 Create ≡ intent = ap noticed-of e in subst IsUse (sym g) uses)),
              ((λ e. (let g : On 0 Create ≡ intent = ap noticed-of e in subst IsUse (sym g) uses)), tt),
            ),
          ),
        ),
      ),
    ) i _ at refl

abbrev is-done : Outcome → Bool
is-done outcome.Done = true
is-done p = false

not-lost : outcome.Done ≡ outcome.Disconnected → ⊥
not-lost e = (let f : true ≡ false = ap is-done e in cc)

abbrev channel-of : Intent → ℕ
channel-of (On c a) = c
channel-of i = 0

lost-line : (o : Outcome) (i channel : ℕ) → At (reopened_lines o) i (Noticed (On channel Create) outcome.Disconnected) → i ≡ 4
lost-line o i channel at =
    each-at (λ (k : ℕ) (l : Line). l ≡ Noticed (On channel Create) outcome.Disconnected → k ≡ 4) (reopened_lines o) (
      (λ e. absurd cc),
      ((λ e. absurd (not-lost (ap outcome-of e))), ((λ e. absurd cc), ((λ e. absurd cc), ((λ e. refl), ((λ e. absurd (not-lost (ap outcome-of e))), tt))))),
    ) i _ at refl

lost-channel : (o : Outcome) (i channel : ℕ) → At (reopened_lines o) i (Noticed (On channel Create) outcome.Disconnected) → 0 ≡ channel
lost-channel o i channel at =
    each-at (λ (k : ℕ) (l : Line). l ≡ Noticed (On channel Create) outcome.Disconnected → 0 ≡ channel) (reopened_lines o) (
      (λ e. absurd cc),
      ((λ e. absurd (not-lost (ap outcome-of e))), ((λ e. absurd cc), ((λ e. absurd cc), ((λ e. ap channel-of (ap noticed-of e)), ((λ e. absurd (not-lost (ap outcome-of e))), tt))))),
    ) i _ at refl

called-at : (o : Outcome) (i : ℕ) (intent : Intent) (e : Wish) → At (reopened_lines o) i (Called intent e) → (i ≡ 2) × (On 0 (Subscribe 0) ≡ intent)
called-at o i intent e at =
    each-at (λ (k : ℕ) (l : Line). l ≡ Called intent e → (k ≡ 2) × (On 0 (Subscribe 0) ≡ intent)) (reopened_lines o) (
      (λ f. absurd cc),
      ((λ f. absurd cc), ((λ f. (refl, ap intent-of f)), ((λ f. absurd cc), ((λ f. absurd cc), ((λ f. absurd cc), tt))))),
    ) i _ at refl

no-request : (o : Outcome) (intent : Intent) (n k : ℕ) → IsRequest intent → Stands (reopened_world o) 0 intent n k → ⊥
no-request o intent n k asks h =
    let at : At reopened.up k h.3.0 = subst (λ (c : Circuit). At c.up k h.3.0) (one-at reopened n h.0 h.1).1 h.3.1 in
    each-at (λ (i : ℕ) (s : Sent). s.intent ≡ intent → ⊥) reopened.up (
      (λ e. subst IsRequest (sym e) asks),
      ((λ e. subst IsRequest (sym e) asks), ((λ e. subst IsRequest (sym e) asks), ((λ e. subst IsRequest (sym e) asks), ((λ e. subst IsRequest (sym e) asks), tt)))),
    ) k h.3.0 at h.3.2

-- the one loss is of the channel that was live
lost-there : (o : Outcome) → LosesLive TrueDue Shows Means (reopened_world o) 0 (reopened_lines o) 4 0
lost-there o = record {
  l = 1;
  by = read-first o;
  live = (refl, omega arith, λ h. no-clear-line o 4 h);
  since = λ m low high at. (let four : m ≡ 4 = lost-line o m 0 at in omega (arith, four, high));
  why = inr (3, disconnected, step 2 4 5, refl, refl, refl, refl, omega arith, omega arith);
}

reopened-completes : (o : Outcome) → CompletesOnce TrueDue Shows Means (reopened_world o) 0 (reopened_lines o)
reopened-completes o = record {
  told = λ i intent p at. each-at (λ (k : ℕ) (l : Line). l ≡ Noticed intent p → Bears o k intent p) (reopened_lines o) (
    (λ f. absurd cc),
    (
      (λ f. subst (λ (d : Intent). Bears o 1 d p) (ap noticed-of f) (subst (λ (q : Outcome). Bears o 1 (On 0 Create) q) (ap outcome-of f) (live-first o))),
      (
        (λ f. absurd cc),
        (
          (λ f. absurd cc),
          (
            (λ f. subst (λ (d : Intent). Bears o 4 d p) (ap noticed-of f) (subst (λ (q : Outcome). Bears o 4 (On 0 Create) q) (ap outcome-of f) (was-lost o))),
            (
              (λ f. subst (λ (d : Intent). Bears o 5 d p) (ap noticed-of f) (subst (λ (q : Outcome). Bears o 5 (On 0 Create) q) (ap outcome-of f) (live-again o))),
              tt,
            ),
          ),
        ),
      ),
    ),
  ) i _ at refl;
  lost = λ i channel at. (
      let four : i ≡ 4 = lost-line o i channel at in
      let zero : 0 ≡ channel = lost-channel o i channel at in
      subst (λ (k : ℕ). LosesLive TrueDue Shows Means (reopened_world o) 0 (reopened_lines o) k channel) (sym four)
      (subst (λ (c : ℕ). LosesLive TrueDue Shows Means (reopened_world o) 0 (reopened_lines o) 4 c) zero (lost-there o)));
  once = λ i l intent p q uses a b. absurd (no-use o i intent p a uses);
  one_call = λ i l intent e f a b. (called-at o i intent e a).0 ∙ sym (called-at o l intent f b).0;
  sent = λ intent e asks h. absurd (subst IsRequest (sym (called-at o h.0 intent e h.1).1) asks);
  at_one = λ intent n k m l asks a. absurd (no-request o intent n k asks a);
}

-- ---- writes: none

no-write : (o : Outcome) (n k l i r : ℕ) (v : Stored) → IsApplied (reopened_world o) n k l i r v → ⊥
no-write o n k l i r v a =
    let at : At reopened_entries i (Applied n k r v a.1) = subst (λ (s : List Entry). At s i (Applied n k r v a.1)) (one-at reopened_entries l a.0 a.2).1 a.3 in
    each-at (λ (j : ℕ) (e : Entry). e ≡ Applied n k r v a.1 → ⊥) reopened_entries ((λ e. cc), ((λ e. cc), ((λ e. cc), tt))) i _ at refl

reopened-writes : (o : Outcome) → NotTwice TrueDue Shows Means (reopened_world o)
reopened-writes o = record {
  once = λ n k l m i j r q v u a. absurd (no-write o n k l i r v a);
  own = λ n k l i r v a. absurd (no-write o n k l i r v a);
  waits = λ n k l i r v a. absurd (each-at (λ (j : ℕ) (z : Entry). z ≡ Waits n k r v → ⊥) reopened_entries ((λ f. cc), ((λ f. cc), ((λ f. cc), tt))) i _ (subst (λ (s : List Entry). At s i (Waits n k r v)) (one-at reopened_entries l a.0 a.1).1 a.2) refl);
  dropped = λ n k l i y at drops. absurd (each-at (λ (j : ℕ) (z : Entry). z ≡ Withdrawn n k → ⊥) reopened_entries ((λ f. cc), ((λ f. cc), ((λ f. cc), tt))) i _ (subst (λ (s : List Entry). At s i (Withdrawn n k)) (one-at reopened_entries l y at).1 drops) refl);
  finished = λ n k l e y at ends. absurd (each-at (λ (j : ℕ) (z : Entry). z ≡ Finished n k → ⊥) reopened_entries ((λ f. cc), ((λ f. cc), ((λ f. cc), tt))) e _ (subst (λ (s : List Entry). At s e (Finished n k)) (one-at reopened_entries l y at).1 ends) refl);
  done = λ life channel number x at h. absurd (no-use o h.0 _ outcome.Done (subst (λ (s : List Line). At s h.0 (Noticed (On channel (Request Put number)) outcome.Done)) (one-at (reopened_lines o) life x at).1 h.1) tt);
  failed = λ life n k l i r intent s x v at h stands applied. no-write o n k l i r v applied;
}

-- ---- updates

abbrev item : Cause → ℕ
item (Update a) = a
item c = 0

abbrev is-update : Cause → Bool
is-update (Update a) = true
is-update c = false

-- the one update of each EVENT_ADD
update-at : (k i a : ℕ) → (k ≡ 1) ⊎ (k ≡ 4) → At (updates reopened) i (k, Update a) → (a ≡ 0) × (((k ≡ 1) × (i ≡ 2)) ⊎ ((k ≡ 4) × (i ≡ 7)))
update-at k i a is at =
    each-at (λ (j : ℕ) (u : ℕ × Cause). u ≡ (k, Update a) → (a ≡ 0) × (((k ≡ 1) × (j ≡ 2)) ⊎ ((k ≡ 4) × (j ≡ 7)))) (updates reopened) (
      (λ e. absurd (let f : false ≡ true = ap (λ (u : ℕ × Cause). is-update u.1) e in cc)),
      (
        (λ e. absurd (let f : false ≡ true = ap (λ (u : ℕ × Cause). is-update u.1) e in cc)),
        (
          (λ e. (ap (λ (u : ℕ × Cause). item u.1) (sym e), inl (ap (λ (u : ℕ × Cause). u.0) (sym e), refl))),
          (
            (λ e. absurd (let f : false ≡ true = ap (λ (u : ℕ × Cause). is-update u.1) e in cc)),
            (
              (λ e. absurd (let f : false ≡ true = ap (λ (u : ℕ × Cause). is-update u.1) e in cc)),
              (
                (λ e. absurd (let f : false ≡ true = ap (λ (u : ℕ × Cause). is-update u.1) e in cc)),
                (
                  (λ e. absurd (let f : false ≡ true = ap (λ (u : ℕ × Cause). is-update u.1) e in cc)),
                  (
                    (λ e. (ap (λ (u : ℕ × Cause). item u.1) (sym e), inr (ap (λ (u : ℕ × Cause). u.0) (sym e), refl))),
                    tt,
                  ),
                ),
              ),
            ),
          ),
        ),
      ),
    ) i _ at refl

told-at : (j k a : ℕ) (t : Told) → At reopened.down j t → t.place ≡ k → t.cause ≡ Update a → (a ≡ 0) × (((k ≡ 1) × (t ≡ first_update 1 21)) ⊎ ((k ≡ 4) × (t ≡ first_update 4 5)))
told-at j k a t at place cause =
    each-at (λ (i : ℕ) (u : Told). u.place ≡ k → u.cause ≡ Update a → (a ≡ 0) × (((k ≡ 1) × (u ≡ first_update 1 21)) ⊎ ((k ≡ 4) × (u ≡ first_update 4 5)))) reopened.down (
      (λ p c. absurd cc),
      (
        (λ p c. absurd cc),
        (
          (λ p c. (ap item (sym c), inl (sym p, refl))),
          (
            (λ p c. absurd cc),
            (
              (λ p c. absurd cc),
              (
                (λ p c. absurd cc),
                (
                  (λ p c. absurd cc),
                  (
                    (λ p c. (ap item (sym c), inr (sym p, refl))),
                    tt,
                  ),
                ),
              ),
            ),
          ),
        ),
      ),
    ) j t at place cause

shows-21 : Shows (adding 0 9).message (long 21) (first_update 1 21).message
unfolding E.signed_bytes_4
shows-21 = (any.Data (record { base = base.Long; form = form.Plain }), refl, refl)

shows-5 : Shows (adding 0 9).message (long 5) (first_update 4 5).message
unfolding E.signed_bytes_4
shows-5 = (any.Data (record { base = base.Long; form = form.Plain }), refl, refl)

follows-1 : Follows TrueDue Shows Means reopened reopened_entries 1 0 (adding 0 9) (long 21 ∷ [])
follows-1 = record {
  rising = λ i j a b lt p q. elim (update-at 1 i a (inl refl) p).1 [
    | inl x ↦ elim (update-at 1 j b (inl refl) q).1 [
      | inl y ↦ (let e = x.1 in let f = y.1 in absurd (omega (arith, e, f, lt)))
      | inr y ↦ (let e = y.0 in absurd (omega (arith, e)))
    ]
    | inr x ↦ (let e = x.0 in absurd (omega (arith, e)))
  ];
  matches = λ a h. (let e = (update-at 1 h.0 a (inl refl) h.1).0 in omega (arith, e));
  shows = λ j a t at place cause. (let w = told-at j 1 a t at place cause in elim w.1 [
    | inl x ↦ (long 21, subst (λ (k : ℕ). At (long 21 ∷ []) k (long 21)) (sym w.0) refl, subst (λ (u : Told). Shows (adding 0 9).message (long 21) u.message) (sym x.1) shows-21)
    | inr x ↦ (let e = x.0 in absurd (omega (arith, e)))
  ]);
  newest = λ lasts. absurd (lasts.1 (1, refl));
}

follows-4 : Follows TrueDue Shows Means reopened reopened_entries 4 1 (adding 0 9) (long 5 ∷ [])
follows-4 = record {
  rising = λ i j a b lt p q. elim (update-at 4 i a (inr refl) p).1 [
    | inr x ↦ elim (update-at 4 j b (inr refl) q).1 [
      | inr y ↦ (let e = x.1 in let f = y.1 in absurd (omega (arith, e, f, lt)))
      | inl y ↦ (let e = y.0 in absurd (omega (arith, e)))
    ]
    | inl x ↦ (let e = x.0 in absurd (omega (arith, e)))
  ];
  matches = λ a h. (let e = (update-at 4 h.0 a (inr refl) h.1).0 in omega (arith, e));
  shows = λ j a t at place cause. (let w = told-at j 4 a t at place cause in elim w.1 [
    | inr x ↦ (long 5, subst (λ (k : ℕ). At (long 5 ∷ []) k (long 5)) (sym w.0) refl, subst (λ (u : Told). Shows (adding 0 9).message (long 5) u.message) (sym x.1) shows-5)
    | inl x ↦ (let e = x.0 in absurd (omega (arith, e)))
  ]);
  newest = λ lasts. (0, (7, refl), refl);
}

-- where a subscription was asked for
asked-at : (k channel number : ℕ) (s : Sent) → At reopened.up k s → s.intent ≡ On channel (Subscribe number) → ((k ≡ 1) ⊎ (k ≡ 4)) × (s ≡ adding 0 9)
asked-at k channel number s at is =
    each-at (λ (i : ℕ) (z : Sent). z.intent ≡ On channel (Subscribe number) → ((i ≡ 1) ⊎ (i ≡ 4)) × (z ≡ adding 0 9)) reopened.up (
      (λ e. absurd cc),
      ((λ e. (inl refl, refl)), ((λ e. absurd cc), ((λ e. absurd cc), ((λ e. (inr refl, refl)), tt)))),
    ) k s at is

abbrev Followed : (k r : ℕ) → Sent → Step → Type 0
Followed k r s h = Follows TrueDue Shows Means reopened reopened_entries k r s (matching reopened_entries h.logged r (mask_in s.message))

followed : (k m r : ℕ) (s : Sent) (h g : Step) → k ≡ m → h ≡ g → s ≡ adding 0 9 → (q : ℕ) → r ≡ q → Followed m q (adding 0 9) g → Followed k r s h
followed k m r s h g a b c q d f =
    subst (λ (z : ℕ). Followed z r s h) (sym a) (subst (λ (z : ℕ). Followed m z s h) (sym d) (subst (λ (z : Sent). Followed m q z h) (sym c) (subst (λ (z : Step). Followed m q (adding 0 9) z) (sym b) f)))

-- when the second EVENT_ADD is handled, the channel to the removed record is not open
old-gone : (k r : ℕ) (h : Step) → k ≡ 4 → h ≡ step 7 3 3 → (i l sid : ℕ) → sid ≡ 5 → r ≡ 0 → IsOpen (before reopened k h) (take h.logged reopened_entries) i l sid r → ⊥
old-gone k r h is-four is-step i l sid is-sid is-zero open-one =
    let a = subst (λ (z : ℕ). IsOpen (before reopened z h) (take h.logged reopened_entries) i l sid r) is-four open-one in
    let b : IsOpen (before reopened 4 (step 7 3 3)) (take 3 reopened_entries) i l sid r = subst (λ (z : Step). IsOpen (before reopened 4 z) (take z.logged reopened_entries) i l sid r) is-step a in
    let c : IsOpen (before reopened 4 (step 7 3 3)) (take 3 reopened_entries) i l 5 r = subst (λ (z : ℕ). IsOpen (before reopened 4 (step 7 3 3)) (take 3 reopened_entries) i l z r) is-sid b in
    let d : IsOpen (before reopened 4 (step 7 3 3)) (take 3 reopened_entries) i l 5 0 = subst (λ (z : ℕ). IsOpen (before reopened 4 (step 7 3 3)) (take 3 reopened_entries) i l 5 z) is-zero c in
    elim (reply-at i l 5 d.0.0 (at-take 7 reopened.down i d.0.0 d.0.3) d.0.4 d.0.6) [
      | inl e ↦ (let first = e.1 in d.2 2 clearing (omega (arith, first)) (omega arith) refl (refl, refl))
      | inr e ↦
          let at : At (take 4 reopened.handled) 3 d.0.2 = subst (λ (z : ℕ). At (take 4 reopened.handled) z d.0.2) e.1 d.0.8 in
          let g : d.0.2 ≡ step 5 3 3 = some_is d.0.2 (step 5 3 3) (sym at) in
          d.0.9.3 (subst (λ (z : Step). In (take z.logged (take 3 reopened_entries)) (Removed 0)) (sym g) (1, refl))
    ]

reopened-follows : (o : Outcome) → FollowsRecord TrueDue Shows Means 0 reopened (reopened_lines o) reopened_entries
reopened-follows o k r s h accepted =
    let asked = asked-at k accepted.0 accepted.1 s accepted.2 accepted.3 in
    let acted = accepted.5 in
    let made = acted.6.0 in
    let has = made.9 in
    let inner : At (take acted.1.logged reopened_entries) has.1.0 (Added r has.0) = at-take made.2.logged (take acted.1.logged reopened_entries) has.1.0 _ has.1.1 in
    let here : At reopened_entries has.1.0 (Added r has.0) = at-take acted.1.logged reopened_entries has.1.0 _ inner in
    let within = at-take-within acted.1.logged reopened_entries has.1.0 _ inner in
    elim asked.0 [
      | inl first ↦
          let g : h ≡ step 2 1 1 = some_is h (step 2 1 1) (sym (subst (λ (i : ℕ). At reopened.handled i h) first accepted.4)) in
          let f : acted.1 ≡ step 2 1 1 = some_is acted.1 (step 2 1 1) (sym (subst (λ (i : ℕ). At reopened.handled i acted.1) first acted.5)) in
          let one : acted.1.logged ≡ 1 = ap (λ (z : Step). z.logged) f in
          elim (added-at has.1.0 r has.0 here) [
            | inl x ↦ followed k 1 r s h (step 2 1 1) first g asked.1 0 x.1 follows-1
            | inr x ↦ (let e = x.0 in absurd (omega (arith, e, within, one)))
          ]
      | inr last ↦
          let g : h ≡ step 7 3 3 = some_is h (step 7 3 3) (sym (subst (λ (i : ℕ). At reopened.handled i h) last accepted.4)) in
          elim (added-at has.1.0 r has.0 here) [
            | inr x ↦ followed k 4 r s h (step 7 3 3) last g asked.1 1 x.1 follows-4
            | inl x ↦
                let second : s ≡ acted.0 = some_is s acted.0 (sym accepted.2 ∙ acted.4) in
                let sid : acted.0.message.p1 ≡ 5 = ap (λ (z : Sent). z.message.p1) (sym second ∙ asked.1) in
                let g2 : acted.1 ≡ step 7 3 3 = some_is acted.1 (step 7 3 3) (sym (subst (λ (i : ℕ). At reopened.handled i acted.1) last acted.5)) in
                absurd (old-gone k r acted.1 last g2 acted.2 acted.3 acted.0.message.p1 sid x.1 acted.6)
          ]
    ]

-- ---- what was seen

updated-at : (o : Outcome) (i : ℕ) (intent : Intent) (p : Outcome) → At (reopened_lines o) i (Updated intent p) → (i ≡ 3) × (On 0 (Subscribe 0) ≡ intent) × (o ≡ p)
updated-at o i intent p at =
    each-at (λ (k : ℕ) (l : Line). l ≡ Updated intent p → (k ≡ 3) × (On 0 (Subscribe 0) ≡ intent) × (o ≡ p)) (reopened_lines o) (
      (λ e. absurd cc),
      ((λ e. absurd cc), ((λ e. absurd cc), ((λ e. (refl, ap noticed-of e, ap outcome-of e)), ((λ e. absurd cc), ((λ e. absurd cc), tt))))),
    ) i _ at refl

abbrev Reading : (o : Outcome) → ℕ → Intent → Outcome → Type 0
Reading o i intent p = (by : Reads TrueDue Shows Means (reopened_world o) 0 (reopened_lines o) i intent p) × (a : ℕ) × (by.t.cause ≡ Update a)

saw : (o : Outcome) → Means (first_update 1 21).message o → Reading o 3 (On 0 (Subscribe 0)) o
saw o means = (
  record {
    n = 0;
    c = reopened;
    on = (refl, refl);
    j = 2;
    t = first_update 1 21;
    h = step 2 3 4;
    read = (refl, refl, refl, omega arith);
    own = (adding 0 9, refl, refl);
    held = is-held o 3 0 0;
    means = means;
  },
  0,
  refl,
)

-- where the server's messages about an EVENT_ADD are
about-at : (j k : ℕ) (t : Told) → At reopened.down j t → t.place ≡ k → (k ≡ 1) ⊎ (k ≡ 4) → ((k ≡ 1) × (j ≡ 2)) ⊎ ((k ≡ 4) × (j ≡ 7))
about-at j k t at place is =
    each-at (λ (i : ℕ) (u : Told). u.place ≡ k → ((k ≡ 1) × (i ≡ 2)) ⊎ ((k ≡ 4) × (i ≡ 7))) reopened.down (
      (λ p. elim is [ inl e ↦ absurd (omega (arith, p, e)) | inr e ↦ absurd (omega (arith, p, e)) ]),
      (
        (λ p. elim is [ inl e ↦ absurd (omega (arith, p, e)) | inr e ↦ absurd (omega (arith, p, e)) ]),
        (
          (λ p. inl (sym p, refl)),
          (
            (λ p. elim is [ inl e ↦ absurd (omega (arith, p, e)) | inr e ↦ absurd (omega (arith, p, e)) ]),
            (
              (λ p. elim is [ inl e ↦ absurd (omega (arith, p, e)) | inr e ↦ absurd (omega (arith, p, e)) ]),
              (
                (λ p. elim is [ inl e ↦ absurd (omega (arith, p, e)) | inr e ↦ absurd (omega (arith, p, e)) ]),
                (
                  (λ p. elim is [ inl e ↦ absurd (omega (arith, p, e)) | inr e ↦ absurd (omega (arith, p, e)) ]),
                  (
                    (λ p. inr (sym p, refl)),
                    tt,
                  ),
                ),
              ),
            ),
          ),
        ),
      ),
    ) j t at place

same-message : (j i k : ℕ) (t u : Told) → At reopened.down j t → At reopened.down i u → t.place ≡ k → u.place ≡ k → (k ≡ 1) ⊎ (k ≡ 4) → j < i → ⊥
same-message j i k t u p q a b is lt =
    elim (about-at j k t p a is) [
      | inl x ↦ elim (about-at i k u q b is) [
        | inl y ↦ (let e = x.1 in let f = y.1 in omega (arith, e, f, lt))
        | inr y ↦ (let e = x.0 in let f = y.0 in omega (arith, e, f))
      ]
      | inr x ↦ elim (about-at i k u q b is) [
        | inl y ↦ (let e = x.0 in let f = y.0 in omega (arith, e, f))
        | inr y ↦ (let e = x.1 in let f = y.1 in omega (arith, e, f, lt))
      ]
    ]

reopened-sees : (o : Outcome) → Means (first_update 1 21).message o → Sees TrueDue Shows Means (reopened_world o) 0 (reopened_lines o)
reopened-sees o means = record {
  own = λ i intent p at. (let e = updated-at o i intent p at in
      subst (λ (k : ℕ). Reading o k intent p) (sym e.0) (subst (λ (d : Intent). Reading o 3 d p) e.1 (subst (λ (q : Outcome). Reading o 3 (On 0 (Subscribe 0)) q) e.2 (saw o means))));
  in_order = λ i intent p by j a t at early here place cause. (let e = updated-at o i intent p at in
      let c = (one-at reopened by.n by.c by.on.0).1 in
      let m = by.own in
      let up : At reopened.up by.t.place m.0 = subst (λ (d : Circuit). At d.up by.t.place m.0) c m.1 in
      let is = (asked-at by.t.place 0 0 m.0 up (m.2 ∙ sym e.1)).0 in
      absurd (same-message j by.j by.t.place t by.t (subst (λ (d : Circuit). At d.down j t) c here) (subst (λ (d : Circuit). At d.down by.j by.t) c by.read.0) place refl is early));
}

pub reopened-safe : (o : Outcome) → Means (first_update 1 21).message o → IsSafe ports rules (reopened_world o)
reopened-safe o means = record {
  acts = each-circuit o (ActsOnRecord TrueDue Shows Means) (reopened-acts TrueDue o);
  own = (each-circuit o (AnswersOwn TrueDue Shows Means) (reopened-answers o), each-life o (CompletesOnce TrueDue Shows Means (reopened_world o)) (reopened-completes o));
  applied = reopened-writes o;
  sees = (each-circuit o (FollowsRecord TrueDue Shows Means) (reopened-follows o), each-life o (Sees TrueDue Shows Means (reopened_world o)) (reopened-sees o means));
}
