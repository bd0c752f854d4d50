-- What was sent to a channel that comes back was due.
use Rattle.std.proofs.Common.{◌≡◌, ℕ, ◌≤◌, ◌⊎◌, inl, inr, List, [], ◌∷◌, refl, sym, ap, subst, arith}
use Rattle.std.specs.Prelude.{true, false, Some, None, take}
use Rattle.ca_text.specs.Place.{At}
use Rattle.ca_text.proofs.Places.{some_is}
use Rattle.ca_queue.specs.declared.entry.SubKey.{SubKey}
use Rattle.ca_model.specs.Due.{Adds, Opens, subscription_in}
use Rattle.ca_model.specs.Due as action
use Rattle.ca_model.specs.Speech.{In}
use Rattle.ca_model.specs.History.{On, Subscribe, Entry, Sent, Step, Removed, Applied}
use Rattle.ca_model.specs.Channels.{Has, IsOpen, before}
use Rattle.ca_model.specs.Known.{IsChannel, IsKey, IsNow, IsWithdrawal}
use Rattle.ca_model_examples.specs.Worlds.{adding, clearing, created_told, creating, long, rights_told, step, temp, temp_name}
use Rattle.ca_model_examples.specs.Safe.{reopened, reopened_entries}
use Rattle.ca_model_examples.proofs.Lists.{at-take, at-take-within, each-at, none-at}
use Rattle.ca_model_examples.proofs.SmallDue as small
use Rattle.ca_model_examples.proofs.SmallDue.{TrueDue, clear-due, knew, knows, no-key, none-just, one-channel, temp_channel, temp_now}
use Rattle.ca_model_examples.proofs.Reopened.{reply-at}
use Rattle.ca_model_examples.proofs.ReopenedSafe.{added-at, back, not-removed, open-1, open-2, open-4, sid-at}

-- the log after n entries
abbrev logged : ℕ → List Entry
logged n = take n reopened_entries

-- ---- the record

now-21 : IsNow (logged 1) 0 (temp_now false 21 false)
now-21 = record {
  first = temp;
  added = (0, refl);
  v = long 21;
  last = refl;
  state = refl;
  busy = ((λ e. absurd cc), (λ b. absurd (each-at (λ (i : ℕ) (z : Entry). z ≡ Applied b.0 b.1 0 b.2 true → ⊥) (logged 1) ((λ e. cc), tt) b.3.0 _ b.3.1 refl)));
  waits = refl;
}

-- as it was added again
now-5 : IsNow (logged 3) 1 (temp_now false 5 false)
now-5 = record {
  first = back;
  added = (2, refl);
  v = long 5;
  last = refl;
  state = refl;
  busy = ((λ e. absurd cc), (λ b. absurd (each-at (λ (i : ℕ) (z : Entry). z ≡ Applied b.0 b.1 1 b.2 true → ⊥) (logged 3) ((λ e. cc), ((λ e. cc), ((λ e. cc), tt))) b.3.0 _ b.3.1 refl)));
  waits = refl;
}

has-first : Has (logged 1) 0 temp_name
has-first = (temp, (0, refl), refl, (λ h. each-at (λ (i : ℕ) (z : Entry). z ≡ Removed 0 → ⊥) (logged 1) ((λ e. cc), tt) h.0 _ h.1 refl))

has-second : Has (logged 3) 1 temp_name
has-second = (back, (2, refl), refl, (λ h. not-removed 1 refl (h.0, at-take 3 reopened_entries h.0 _ h.1)))

-- After the removal none has the name.
has-none : (r : ℕ) → Has (logged 2) r temp_name → ⊥
has-none r h =
    let within = at-take-within 2 reopened_entries h.1.0 _ h.1.1 in
    elim (added-at h.1.0 r h.0 (at-take 2 reopened_entries h.1.0 _ h.1.1)) [
      | inl x ↦ h.3 (subst (λ (q : ℕ). In (logged 2) (Removed q)) (sym x.1) (1, refl))
      | inr x ↦ (let e = x.0 in omega (arith, e, within))
    ]

-- a record that was there by the first two entries
first-record : (n m r : ℕ) (name : List ℕ) → m ≤ 2 → Has (take n (logged m)) r name → r ≡ 0
first-record n m r name few h =
    let inner = at-take n (logged m) h.1.0 _ h.1.1 in
    let within = at-take-within m reopened_entries h.1.0 _ inner in
    elim (added-at h.1.0 r h.0 (at-take m reopened_entries h.1.0 _ inner)) [
      | inl x ↦ x.1
      | inr x ↦ (let e = x.0 in absurd (omega (arith, e, within, few)))
    ]

-- ---- the channels

-- Before the second creation was sent, only the first channel was open.
first-open : (n m : ℕ) (h : Step) → h.sent ≤ 6 → m ≤ 2 → (i l sid q : ℕ) → IsOpen (before reopened n h) (logged m) i l sid q → (l ≡ 0) × (sid ≡ 5) × (q ≡ 0)
first-open n m h early few i l sid q one =
    let made = one.0 in
    let at = at-take h.sent reopened.down i made.0 made.3 in
    let within = at-take-within h.sent reopened.down i made.0 made.3 in
    elim (reply-at i l sid made.0 at made.4 made.6) [
      | inl x ↦ (x.1, sid-at i sid made.0 at made.6, first-record made.2.logged m q _ few made.9)
      | inr x ↦ (let e = x.0 in absurd (omega (arith, e, within, early)))
    ]

-- an open channel that the first message made under the SID 5
as-first : (n m : ℕ) (h : Step) (l sid r i : ℕ) → IsOpen (before reopened n h) (logged m) i l sid r → l ≡ 0 → sid ≡ 5 → IsOpen (before reopened n h) (logged m) i 0 5 r
as-first n m h l sid r i one first five =
    subst (λ (z : ℕ). IsOpen (before reopened n h) (logged m) i 0 z r) five (subst (λ (z : ℕ). IsOpen (before reopened n h) (logged m) i z sid r) first one)

-- Once the CLEAR_CHANNEL was handled, none is open.
none-open : (i l sid q : ℕ) → IsOpen (before reopened 3 (step 5 3 3)) (logged 3) i l sid q → ⊥
none-open i l sid q one =
    let made = one.0 in
    let at = at-take 5 reopened.down i made.0 made.3 in
    let within = at-take-within 5 reopened.down i made.0 made.3 in
    let five = sid-at i sid made.0 at made.6 in
    elim (reply-at i l sid made.0 at made.4 made.6) [
      | inl x ↦ (as-first 3 3 (step 5 3 3) l sid q i one x.1 five).2 2 clearing (omega arith) (omega arith) refl (refl, refl)
      | inr x ↦ (let e = x.0 in omega (arith, e, within))
    ]

-- and in the end the second alone
second-open : (i l sid q : ℕ) → IsOpen (before reopened 4 (step 7 3 3)) (logged 3) i l sid q → (l ≡ 3) × (sid ≡ 5) × (q ≡ 1)
second-open i l sid q one =
    let made = one.0 in
    let at = at-take 7 reopened.down i made.0 made.3 in
    let five = sid-at i sid made.0 at made.6 in
    elim (reply-at i l sid made.0 at made.4 made.6) [
      | inl x ↦ absurd ((as-first 4 3 (step 7 3 3) l sid q i one x.1 five).2 2 clearing (omega arith) (omega arith) refl (refl, refl))
      | inr x ↦
          let has = made.9 in
          let there : At (take 4 reopened.handled) 3 made.2 = subst (λ (z : ℕ). At (take 4 reopened.handled) z made.2) x.1 made.8 in
          let g : made.2 ≡ step 5 3 3 = some_is made.2 (step 5 3 3) (sym there) in
          let inner = at-take made.2.logged (logged 3) has.1.0 _ has.1.1 in (
            x.1,
            five,
            elim (added-at has.1.0 q has.0 (at-take 3 reopened_entries has.1.0 _ inner)) [
              | inl y ↦ absurd (has.3 (subst (λ (z : ℕ). In (take made.2.logged (logged 3)) (Removed z)) (sym y.1) (subst (λ (z : Step). In (take z.logged (logged 3)) (Removed 0)) (sym g) (1, refl))))
              | inr y ↦ y.1
            ],
          )
    ]

-- ---- the subscriptions

asked-at : (k channel number : ℕ) (s : Sent) → At reopened.up k s → s.intent ≡ On channel (Subscribe number) → (k ≡ 1) ⊎ (k ≡ 4)
asked-at k channel number s at is =
    each-at (λ (i : ℕ) (z : Sent). z.intent ≡ On channel (Subscribe number) → (i ≡ 1) ⊎ (i ≡ 4)) reopened.up (
      (λ e. absurd cc),
      ((λ e. inl refl), ((λ e. absurd cc), ((λ e. absurd cc), ((λ e. inr refl), tt)))),
    ) k s at is

-- The first does not last, once its record was removed.
none-lasts : (n m : ℕ) (h : Step) → n ≤ 4 → In (logged m) (Removed 0) → (key : SubKey) → IsKey (before reopened n h) (logged m) key → ⊥
none-lasts n m h few gone key is =
    let a = is.4 in
    let within = at-take-within n reopened.up is.0 is.2 a.2 in
    elim (asked-at is.0 a.0 a.1 is.2 (at-take n reopened.up is.0 is.2 a.2) a.3) [
      | inl first ↦
          let acted = a.5 in
          let there : At reopened.handled 1 acted.1 = subst (λ (z : ℕ). At reopened.handled z acted.1) first (at-take n reopened.handled is.0 acted.1 acted.5) in
          let g : acted.1 ≡ step 2 1 1 = some_is acted.1 (step 2 1 1) (sym there) in
          let one : acted.1.logged ≡ 1 = ap (λ (z : Step). z.logged) g in
          let has = acted.6.0.9 in
          let inner = at-take acted.6.0.2.logged (take acted.1.logged (logged m)) has.1.0 _ has.1.1 in
          let early = at-take-within acted.1.logged (logged m) has.1.0 _ inner in
          elim (added-at has.1.0 is.1 has.0 (at-take m reopened_entries has.1.0 _ (at-take acted.1.logged (logged m) has.1.0 _ inner))) [
            | inl x ↦ is.5.1 (subst (λ (z : ℕ). In (logged m) (Removed z)) (sym x.1) gone)
            | inr x ↦ (let e = x.0 in omega (arith, e, early, one))
          ]
      | inr last ↦ omega (arith, last, within, few)
    ]

-- ---- what was due

pub created-due : TrueDue 0 (before reopened 0 (step 0 1 1)) (logged 1) creating.message (rights_told.message ∷ created_told.message ∷ []) None []
created-due = (
  knows (Some (temp_now false 21 false)) false [],
  Opens (temp_channel false),
  knew (before reopened 0 (step 0 1 1)) (logged 1) (Some (temp_now false 21 false)) false [] (refl, tt) (0, has-first, now-21) tt refl refl (
      none-just (IsChannel (before reopened 0 (step 0 1 1)) (logged 1)) (λ x h. none-at h.0 h.4.0.0 h.4.0.3)) (no-key (before reopened 0 (step 0 1 1)) (logged 1) tt),
  small.created-due false 21 false,
  refl,
  refl,
)

pub added-due : TrueDue 0 (before reopened 1 (step 2 1 1)) (logged 1) (adding 0 9).message [] None []
added-due = (
  knows (Some (temp_now false 21 false)) true (temp_channel false ∷ []),
  Adds (subscription_in (adding 0 9).message temp_name),
  knew (before reopened 1 (step 2 1 1)) (logged 1) (Some (temp_now false 21 false)) true (temp_channel false ∷ []) (refl, tt) (0, has-first, now-21) (refl, tt) refl refl (
      one-channel (before reopened 1 (step 2 1 1)) (logged 1) 1 0 0 false open-1 refl (λ e. absurd cc) (λ g. absurd (has-first.3 g)) (first-open 1 1 (step 2 1 1) (omega arith) (omega arith))) (
      no-key (before reopened 1 (step 2 1 1)) (logged 1) ((λ a b e. cc), tt)),
  small.added-due 21,
  refl,
  refl,
)

-- The channel is retired when it is cleared, and no put waits on it.
pub cleared-due : TrueDue 0 (before reopened 2 (step 4 2 2)) (logged 2) clearing.message (clearing.message ∷ []) None []
cleared-due = (
  knows None true (temp_channel true ∷ []),
  action.Clears 5,
  knew (before reopened 2 (step 4 2 2)) (logged 2) None true (temp_channel true ∷ []) (refl, (refl, tt)) has-none (refl, (refl, tt)) refl refl (
      one-channel (before reopened 2 (step 4 2 2)) (logged 2) 1 0 0 true open-2 refl (λ e. (1, refl)) (λ g. refl) (first-open 2 2 (step 4 2 2) (omega arith) (omega arith))) (
      none-lasts 2 2 (step 4 2 2) (omega arith) (1, refl)),
  clear-due (knows None true (temp_channel true ∷ [])) clearing.message refl,
  refl,
  none-just (IsWithdrawal 0 (before reopened 2 (step 4 2 2)) (logged 2) 5) (λ e h. none-at h.3.0 _ h.3.1),
)

pub created-again-due : TrueDue 0 (before reopened 3 (step 5 3 3)) (logged 3) creating.message (rights_told.message ∷ created_told.message ∷ []) None []
created-again-due = (
  knows (Some (temp_now false 5 false)) true [],
  Opens (temp_channel false),
  knew (before reopened 3 (step 5 3 3)) (logged 3) (Some (temp_now false 5 false)) true [] (refl, (refl, (refl, tt))) (1, has-second, now-5) (refl, (refl, (refl, tt))) refl refl (
      none-just (IsChannel (before reopened 3 (step 5 3 3)) (logged 3)) (λ x h. none-open h.0 h.1 x.sid h.2 h.4)) (none-lasts 3 3 (step 5 3 3) (omega arith) (1, refl)),
  small.created-due false 5 true,
  refl,
  refl,
)

pub added-again-due : TrueDue 0 (before reopened 4 (step 7 3 3)) (logged 3) (adding 0 9).message [] None []
added-again-due = (
  knows (Some (temp_now false 5 false)) true (temp_channel false ∷ []),
  Adds (subscription_in (adding 0 9).message temp_name),
  knew (before reopened 4 (step 7 3 3)) (logged 3) (Some (temp_now false 5 false)) true (temp_channel false ∷ []) (refl, (refl, (refl, tt))) (1, has-second, now-5) (refl, (refl, (refl, (refl, tt)))) refl refl (
      one-channel (before reopened 4 (step 7 3 3)) (logged 3) 6 3 1 false open-4 refl (λ e. absurd cc) (λ g. absurd (has-second.3 g)) second-open) (none-lasts 4 3 (step 7 3 3) (omega arith) (1, refl)),
  small.added-due 5,
  refl,
  refl,
)
