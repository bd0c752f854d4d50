-- A subscription that is cancelled, and its confirmation.
use Rattle.std.proofs.Common.{◌≡◌, ℕ, ◌<◌, inl, inr, [], ◌∷◌, refl, sym, ap, subst, arith}
use Rattle.std.specs.Prelude.{take}
use Rattle.ca_wire.specs.Fields.{Fields}
use Rattle.ca_model.specs.Speech.{Id}
use Rattle.ca_model.specs.History.{Create, On, Intent, Sent, Told, Added, Subscribe, Update, Cause, Reply}
use Rattle.ca_model.specs.Channels.{before}
use Rattle.ca_model_examples.specs.Worlds.{adding, created_told, AnyDue, creating, step, temp, world}
use Rattle.ca_model_examples.specs.Parts.{FieldOf, Part, Holds, BreaksOnly, IsSafeNow, InCircuit}
use Rattle.ca_model_examples.specs.Parts as part
use Rattle.ca_model_examples.specs.Unsafe.{cancelled, cancelling, confirmed, opened, temp_there}
use Rattle.ca_model_examples.proofs.Lists.{each-at, two-at}
use Rattle.ca_model_examples.proofs.Quiet.{quiet, holds, whole}
use Rattle.ca_model_examples.proofs.Shown.{answered-by, answered-each, caused-each, taken-each}
use Rattle.ca_model.specs.Causes.{TakesOwn}
use Rattle.ca_model.specs.Updates.{Shows}
use Rattle.ca_requests.specs.Meaning.{Means}
use Rattle.ca_model_examples.proofs.Names.{its-part}
use Rattle.ca_model_examples.proofs.Opened.{created-here, created-own, open-here, takes-cid}
use Rattle.ca_model_examples.proofs.Speaks.{heads, of-update}
use Rattle.ca_model_examples.proofs.Creations.{only-added}
use Rattle.ca_model.specs.Channels.{Lasts, updates}
use Rattle.ca_model.specs.History.{Ask}
use Rattle.ca_model.specs.Headline.{IsBadChannel}
use Rattle.ca_model.specs.Causes.{Acted}
use Rattle.ca_model.specs.Speech.{Gives, SubId}
use Rattle.ca_model.specs.Channels.{IsNamed}
use Rattle.ca_dbr.specs.declared.value.Outcome.TheVariants as outcome
use Rattle.ca_text.specs.Status.{bad_channel}
use Rattle.ca_model_examples.proofs.Creations.{channel-of}
use Rattle.ca_model_examples.proofs.Quiet.{fine, is_fine}
use Rattle.ca_model_examples.proofs.Lists.{two-at}

abbrev ask-of : Intent → Ask
ask-of (On channel ask) = ask
ask-of i = Create

-- a confirmation has no payload, and so says of no failure
not-failed : (id k j : ℕ) → IsBadChannel AnyDue Shows Means (cancelled id) k j → ⊥
not-failed id k j bad =
    elim (two-at created_told (confirmed id) j _ bad.1) [
      | inl e ↦ fine bad.0 _ (ap (λ (t : Told). is_fine t.message) e.1) bad.2
      | inr e ↦ (let m : Means (confirmed id).message (outcome.Failed (record { number = bad_channel })) = subst (λ (z : Fields). Means z (outcome.Failed (record { number = bad_channel }))) (ap (λ (t : Told). t.message) e.1) bad.2 in elim m [
        | inl a ↦ elim a.0 [
          | inl f ↦ omega (arith, f)
          | inr f ↦ f.1 refl
        ]
        | inr b ↦ elim b [
          | inl a ↦ (let f = a.0 in omega (arith, f))
          | inr d ↦ elim d [
            | inl a ↦ (let f = a.0 in omega (arith, f))
            | inr a ↦ (let f = a.0 in omega (arith, f))
          ]
        ]
      ])
    ]

cancelled-safe-each : (p : Part) → Holds AnyDue p (world (cancelled 9 ∷ []) (opened) (temp_there))
cancelled-safe-each part.Acts = holds AnyDue part.Acts (cancelled 9) (opened) (temp_there) refl refl (λ k channel ask early meant other. each-at (λ (i : ℕ) (s : Sent). s.intent ≡ On channel ask → (r : ℕ) × Acted (cancelled 9) (temp_there) i r × IsNamed (opened) (temp_there) channel r) ((cancelled 9)).up ((λ e. absurd (other (sym (ap ask-of e)))), ((λ e. (0, (adding 0 9, step 1 1 1, 0, 0, refl, refl, open-here (before (cancelled 9) 1 (step 1 1 1)) (take 1 temp_there) (created-here (before (cancelled 9) 1 (step 1 1 1)) (take 1 temp_there) refl refl refl refl (only-added (Added 0 temp ∷ []) 0 refl)) refl refl), subst (λ (n : ℕ). IsNamed (opened) (temp_there) n 0) (ap channel-of e) (temp, (0, refl), (0, refl)))), ((λ e. (0, (cancelling, step 1 1 1, 0, 0, refl, refl, open-here (before (cancelled 9) 2 (step 1 1 1)) (take 1 temp_there) (created-here (before (cancelled 9) 2 (step 1 1 1)) (take 1 temp_there) refl refl refl refl (only-added (Added 0 temp ∷ []) 0 refl)) refl refl), subst (λ (n : ℕ). IsNamed (opened) (temp_there) n 0) (ap channel-of e) (temp, (0, refl), (0, refl)))), tt))) k meant.0 meant.1 meant.2) tt tt
cancelled-safe-each part.Caused = caused-each (cancelled 9) (opened) (temp_there) refl refl ((tt, (step 0 1 1, refl, omega arith)), ((tt, (step 1 1 1, refl, omega arith)), tt))
cancelled-safe-each part.Own = taken-each (cancelled 9) (opened) (temp_there) refl refl ((created-own (cancelled 9) 0 (takes-cid (cancelled 9) 0 0 creating refl refl refl (omega arith) refl)), ((λ id s. subst (λ (e : Id). TakesOwn (cancelled 9) 1 2 e) (sym (of-update (confirmed 9).message id refl (heads (confirmed 9).message id (λ e. omega (arith, e)) s))) (1, 0, adding 0 9, cancelling, (adding 0 9, refl, (refl, refl), omega arith, λ l r after early at gives. each-at (λ (i : ℕ) (z : Sent). 1 < i → Gives z.message (SubId 9) → ⊥) ((cancelled 9)).up ((λ a g. omega (arith, a)), ((λ a g. omega (arith, a)), ((λ a g. (let e = g.0 in omega (arith, e))), tt))) l r at after gives), omega arith, refl, refl, refl, refl)), tt))
cancelled-safe-each part.Answered = answered-each (cancelled 9) (opened) (temp_there) refl refl ((answered-by (cancelled 9) (temp_there) 0 (step 0 1 1) creating (created_told.message ∷ []) [] refl (refl, tt) tt refl ((λ p e. omega arith), ((λ p e. absurd (omega (arith, p))), tt)) ((λ l. absurd (omega (arith, l))), ((λ l. omega arith), ((λ l. omega arith), tt)))), ((answered-by (cancelled 9) (temp_there) 1 (step 1 1 1) (adding 0 9) [] [] refl tt tt refl ((λ p e. absurd (omega (arith, p))), ((λ p e. absurd (omega (arith, p))), tt)) ((λ l. absurd (omega (arith, l))), ((λ l. absurd (omega (arith, l))), ((λ l. omega arith), tt)))), ((answered-by (cancelled 9) (temp_there) 2 (step 1 1 1) cancelling ((confirmed 9).message ∷ []) [] refl (refl, tt) tt refl ((λ p e. absurd (omega (arith, p))), ((λ p e. omega arith), tt)) ((λ l. absurd (omega (arith, l))), ((λ l. absurd (omega (arith, l))), ((λ l. absurd (omega (arith, l))), tt)))), tt)))
cancelled-safe-each part.Retired = holds AnyDue part.Retired (cancelled 9) (opened) (temp_there) refl refl (λ k j r h bad acted at. absurd (not-failed 9 k j bad)) tt tt
cancelled-safe-each part.Rising = holds AnyDue part.Rising (cancelled 9) (opened) (temp_there) refl refl (λ k r s h b i j a d lt p q. absurd (each-at (λ (m : ℕ) (z : ℕ × Cause). z ≡ (k, Update a) → ⊥) (updates (cancelled 9)) ((λ e. (let f : Reply ≡ Update a = ap (λ (z : ℕ × Cause). z.1) e in cc)), ((λ e. (let f : Reply ≡ Update a = ap (λ (z : ℕ × Cause). z.1) e in cc)), tt)) i _ p refl)) tt tt
cancelled-safe-each part.Matches = holds AnyDue part.Matches (cancelled 9) (opened) (temp_there) refl refl (λ k r s h b a g. absurd (each-at (λ (m : ℕ) (z : ℕ × Cause). z ≡ (k, Update a) → ⊥) (updates (cancelled 9)) ((λ e. (let f : Reply ≡ Update a = ap (λ (z : ℕ × Cause). z.1) e in cc)), ((λ e. (let f : Reply ≡ Update a = ap (λ (z : ℕ × Cause). z.1) e in cc)), tt)) g.0 _ g.1 refl)) tt tt
cancelled-safe-each part.ShowsPost = holds AnyDue part.ShowsPost (cancelled 9) (opened) (temp_there) refl refl (λ k r s h b j a t at place cause. absurd (each-at (λ (i : ℕ) (u : Told). u.cause ≡ Update a → ⊥) ((cancelled 9)).down ((λ e. cc), ((λ e. cc), tt)) j t at cause)) tt tt
cancelled-safe-each part.Newest = holds AnyDue part.Newest (cancelled 9) (opened) (temp_there) refl refl (λ k r s h b lasts. absurd (each-at (λ (i : ℕ) (z : Sent). z.intent ≡ On b.0 (Subscribe b.1) → Lasts (cancelled 9) (temp_there) i r z → ⊥) ((cancelled 9)).up ((λ e l. cc), ((λ e l. l.2 2 cancelling (omega arith) (omega arith) refl (inl (refl, refl, refl))), ((λ e l. cc), tt))) k s b.2 b.3 lasts)) tt tt
cancelled-safe-each p = quiet AnyDue p (cancelled 9) (opened) (temp_there) refl refl refl refl refl

pub cancelled-safe : IsSafeNow (world (cancelled 9 ∷ []) (opened) (temp_there))
cancelled-safe = whole AnyDue _ (cancelled-safe-each)

confirmed-another-rest : (p : Part) → (p ≡ part.Own → ⊥) → Holds AnyDue p (world (cancelled 8 ∷ []) (opened) (temp_there))
confirmed-another-rest part.Own ne = absurd (ne refl)
confirmed-another-rest part.Acts ne = holds AnyDue part.Acts (cancelled 8) (opened) (temp_there) refl refl (λ k channel ask early meant other. each-at (λ (i : ℕ) (s : Sent). s.intent ≡ On channel ask → (r : ℕ) × Acted (cancelled 8) (temp_there) i r × IsNamed (opened) (temp_there) channel r) ((cancelled 8)).up ((λ e. absurd (other (sym (ap ask-of e)))), ((λ e. (0, (adding 0 9, step 1 1 1, 0, 0, refl, refl, open-here (before (cancelled 8) 1 (step 1 1 1)) (take 1 temp_there) (created-here (before (cancelled 8) 1 (step 1 1 1)) (take 1 temp_there) refl refl refl refl (only-added (Added 0 temp ∷ []) 0 refl)) refl refl), subst (λ (n : ℕ). IsNamed (opened) (temp_there) n 0) (ap channel-of e) (temp, (0, refl), (0, refl)))), ((λ e. (0, (cancelling, step 1 1 1, 0, 0, refl, refl, open-here (before (cancelled 8) 2 (step 1 1 1)) (take 1 temp_there) (created-here (before (cancelled 8) 2 (step 1 1 1)) (take 1 temp_there) refl refl refl refl (only-added (Added 0 temp ∷ []) 0 refl)) refl refl), subst (λ (n : ℕ). IsNamed (opened) (temp_there) n 0) (ap channel-of e) (temp, (0, refl), (0, refl)))), tt))) k meant.0 meant.1 meant.2) tt tt
confirmed-another-rest part.Caused ne = caused-each (cancelled 8) (opened) (temp_there) refl refl ((tt, (step 0 1 1, refl, omega arith)), ((tt, (step 1 1 1, refl, omega arith)), tt))
confirmed-another-rest part.Answered ne = answered-each (cancelled 8) (opened) (temp_there) refl refl ((answered-by (cancelled 8) (temp_there) 0 (step 0 1 1) creating (created_told.message ∷ []) [] refl (refl, tt) tt refl ((λ p e. omega arith), ((λ p e. absurd (omega (arith, p))), tt)) ((λ l. absurd (omega (arith, l))), ((λ l. omega arith), ((λ l. omega arith), tt)))), ((answered-by (cancelled 8) (temp_there) 1 (step 1 1 1) (adding 0 9) [] [] refl tt tt refl ((λ p e. absurd (omega (arith, p))), ((λ p e. absurd (omega (arith, p))), tt)) ((λ l. absurd (omega (arith, l))), ((λ l. absurd (omega (arith, l))), ((λ l. omega arith), tt)))), ((answered-by (cancelled 8) (temp_there) 2 (step 1 1 1) cancelling ((confirmed 8).message ∷ []) [] refl (refl, tt) tt refl ((λ p e. absurd (omega (arith, p))), ((λ p e. omega arith), tt)) ((λ l. absurd (omega (arith, l))), ((λ l. absurd (omega (arith, l))), ((λ l. absurd (omega (arith, l))), tt)))), tt)))
confirmed-another-rest part.Retired ne = holds AnyDue part.Retired (cancelled 8) (opened) (temp_there) refl refl (λ k j r h bad acted at. absurd (not-failed 8 k j bad)) tt tt
confirmed-another-rest part.Rising ne = holds AnyDue part.Rising (cancelled 8) (opened) (temp_there) refl refl (λ k r s h b i j a d lt p q. absurd (each-at (λ (m : ℕ) (z : ℕ × Cause). z ≡ (k, Update a) → ⊥) (updates (cancelled 8)) ((λ e. (let f : Reply ≡ Update a = ap (λ (z : ℕ × Cause). z.1) e in cc)), ((λ e. (let f : Reply ≡ Update a = ap (λ (z : ℕ × Cause). z.1) e in cc)), tt)) i _ p refl)) tt tt
confirmed-another-rest part.Matches ne = holds AnyDue part.Matches (cancelled 8) (opened) (temp_there) refl refl (λ k r s h b a g. absurd (each-at (λ (m : ℕ) (z : ℕ × Cause). z ≡ (k, Update a) → ⊥) (updates (cancelled 8)) ((λ e. (let f : Reply ≡ Update a = ap (λ (z : ℕ × Cause). z.1) e in cc)), ((λ e. (let f : Reply ≡ Update a = ap (λ (z : ℕ × Cause). z.1) e in cc)), tt)) g.0 _ g.1 refl)) tt tt
confirmed-another-rest part.ShowsPost ne = holds AnyDue part.ShowsPost (cancelled 8) (opened) (temp_there) refl refl (λ k r s h b j a t at place cause. absurd (each-at (λ (i : ℕ) (u : Told). u.cause ≡ Update a → ⊥) ((cancelled 8)).down ((λ e. cc), ((λ e. cc), tt)) j t at cause)) tt tt
confirmed-another-rest part.Newest ne = holds AnyDue part.Newest (cancelled 8) (opened) (temp_there) refl refl (λ k r s h b lasts. absurd (each-at (λ (i : ℕ) (z : Sent). z.intent ≡ On b.0 (Subscribe b.1) → Lasts (cancelled 8) (temp_there) i r z → ⊥) ((cancelled 8)).up ((λ e l. cc), ((λ e l. l.2 2 cancelling (omega arith) (omega arith) refl (inl (refl, refl, refl))), ((λ e l. cc), tt))) k s b.2 b.3 lasts)) tt tt
confirmed-another-rest p ne = quiet AnyDue p (cancelled 8) (opened) (temp_there) refl refl refl refl refl

pub confirmed-another : BreaksOnly part.Own (world (cancelled 8 ∷ []) (opened) (temp_there))
confirmed-another = (confirmed-another-rest, λ h. (let t = its-part part.Own (cancelled 8) (opened) (temp_there) refl refl h.0 1 (confirmed 8) (SubId 8) refl (inl (refl, refl)) in each-at (λ (i : ℕ) (z : Sent). Gives z.message (SubId 8) → ⊥) ((cancelled 8)).up ((λ g. (let e = g.0 in omega (arith, e))), ((λ g. (let e = g.1 in omega (arith, e))), ((λ g. (let e = g.0 in omega (arith, e))), tt))) t.0 t.4.0 t.4.1 t.4.2))
