-- On the used channel each answer is its own request's.
use Rattle.std.proofs.Common.{◌≡◌, ℕ, ◌<◌, ◌≤◌, ◌+◌, inl, inr, List, [], ◌∷◌, refl, sym, subst, arith}
use Rattle.std.specs.Prelude.{false, Option, None, take}
use Rattle.ca_text.specs.Place.{At}
use Rattle.ca_text.specs.Status.{normal}
use Rattle.ca_text.specs.declared.command.Command.TheVariants as command
use Rattle.ca_wire.specs.Fields.{Fields}
use Rattle.ca_wire.specs.Messages.{update, value_reply}
use Rattle.ca_model.specs.Speech.{Id, Cid, Ioid, SubId, Gives, Is, Speaks}
use Rattle.ca_model.specs.History.{Reply, Removal, Circuit, Entry, Sent, Told, Step, Applied}
use Rattle.ca_model.specs.Channels.{AreSteps, IsReply, Suits, before}
use Rattle.ca_model.specs.Headline.{Answered, AnswersOwn}
use Rattle.ca_model.specs.Causes.{HasCause, TakesOwn}
use Rattle.ca_requests.specs.Meaning.{Means}
use Rattle.ca_model.specs.Updates.{Shows}
use Rattle.ca_model_examples.specs.Worlds.{adding, created_told, creating, long, put_told, putting, reading, rights_told, step}
use Rattle.ca_model_examples.specs.Safe.{used, used_entries, used_lines}
use Rattle.ca_model_examples.proofs.Lists.{Each, each-at, none-at}
use Rattle.ca_model_examples.proofs.Speaks.{heads, of-channel, of-request, of-update}
use Rattle.ca_model_examples.proofs.UsedActs.{acted-3}

-- ---- ids

-- the value of the read
abbrev pub value_told : Fields
value_told = value_reply (reading 1 7).message 1 (0 ∷ 0 ∷ 0 ∷ 22 ∷ [])

-- the update
abbrev pub update_told : Fields
update_told = update 5 1 normal 9 (0 ∷ 0 ∷ 0 ∷ 22 ∷ [])

last-cid : (l : ℕ) (r : Sent) → 0 < l → At used.up l r → Gives r.message (Cid 1) → ⊥
last-cid l r after at gives =
    each-at (λ (i : ℕ) (z : Sent). 0 < i → Gives z.message (Cid 1) → ⊥) used.up (
      (λ a e. omega (arith, a)),
      ((λ a e. let f = e.0 in omega (arith, f)), ((λ a e. let f = e.0 in omega (arith, f)), ((λ a e. let f = e.0 in omega (arith, f)), tt))),
    ) l r at after gives

last-of : (k : ℕ) (id : Id) → Each (λ (i : ℕ) (z : Sent). k < i → Gives z.message id → ⊥) used.up → (l : ℕ) (r : Sent) → k < l → At used.up l r → Gives r.message id → ⊥
last-of k id all l r after at gives = each-at (λ (i : ℕ) (z : Sent). k < i → Gives z.message id → ⊥) used.up all l r at after gives

not-request : (m : Fields) (n : ℕ) → (Is command.ReadNotify m → ⊥) → (Is command.WriteNotify m → ⊥) → Gives m (Ioid n) → ⊥
not-request m n a b g =
    elim g.0 [
      | inl e ↦ a e
      | inr e ↦ b e
    ]

takes-0 : TakesOwn used 0 0 (Cid 1)
takes-0 = (0, 0, creating, creating, (creating, refl, (refl, refl), omega arith, (λ l r after early at. last-cid l r after at)), omega arith, refl, refl, refl, refl)

takes-1 : TakesOwn used 1 0 (Cid 1)
takes-1 = (0, 0, creating, creating, (creating, refl, (refl, refl), omega arith, (λ l r after early at. last-cid l r after at)), omega arith, refl, refl, refl, refl)

takes-2 : TakesOwn used 2 1 (Ioid 8)
takes-2 = (
  1,
  0,
  putting 0 8 22,
  putting 0 8 22,
  (
    putting 0 8 22,
    refl,
    (inr refl, refl),
    omega arith,
    (λ l r after early at. last-of 1 (Ioid 8) (
      (λ a e. omega (arith, a)),
      ((λ a e. omega (arith, a)), ((λ a e. let f = e.1 in omega (arith, f)), ((λ a e. let f = e.1 in omega (arith, f)), tt))),
    ) l r after at),
  ),
  omega arith,
  refl,
  refl,
  refl,
  refl,
)

takes-3 : TakesOwn used 3 2 (Ioid 7)
takes-3 = (
  2,
  1,
  reading 1 7,
  reading 1 7,
  (
    reading 1 7,
    refl,
    (inl refl, refl),
    omega arith,
    (λ l r after early at. last-of 2 (Ioid 7) (
      (λ a e. omega (arith, a)),
      ((λ a e. omega (arith, a)), ((λ a e. omega (arith, a)), ((λ a e. let f = e.1 in omega (arith, f)), tt))),
    ) l r after at),
  ),
  omega arith,
  refl,
  refl,
  refl,
  refl,
)

takes-4 : TakesOwn used 4 3 (SubId 9)
takes-4 = (
  3,
  0,
  adding 0 9,
  adding 0 9,
  (
    adding 0 9,
    refl,
    (refl, refl),
    omega arith,
    (λ l r after early at. last-of 3 (SubId 9) (
      (λ a e. omega (arith, a)),
      ((λ a e. omega (arith, a)), ((λ a e. omega (arith, a)), ((λ a e. omega (arith, a)), tt))),
    ) l r after at),
  ),
  omega arith,
  refl,
  refl,
  refl,
  refl,
)

used-own : (j : ℕ) (t : Told) (id : Id) → At used.down j t → Speaks t.message id → TakesOwn used j t.place id
used-own j t id at says =
    each-at (λ (i : ℕ) (u : Told). (d : Id) → Speaks u.message d → TakesOwn used i u.place d) used.down (
      (λ d s. subst (λ (e : Id). TakesOwn used 0 0 e) (sym (of-channel (rights_told.message) d (inl refl) (heads (rights_told.message) d (λ e. omega (arith, e)) s))) takes-0),
      (
        (λ d s. subst (λ (e : Id). TakesOwn used 1 0 e) (sym (of-channel (created_told.message) d (inr refl) (heads (created_told.message) d (λ e. omega (arith, e)) s))) takes-1),
        (
          (λ d s. subst (λ (e : Id). TakesOwn used 2 1 e) (sym (of-request ((put_told 1 8 22).message) d (inr refl) (heads ((put_told 1 8 22).message) d (λ e. omega (arith, e)) s))) takes-2),
          (
            (λ d s. subst (λ (e : Id). TakesOwn used 3 2 e) (sym (of-request (value_told) d (inl refl) (heads (value_told) d (λ e. omega (arith, e)) s))) takes-3),
            ((λ d s. subst (λ (e : Id). TakesOwn used 4 3 e) (sym (of-update (update_told) d refl (heads (update_told) d (λ e. omega (arith, e)) s))) takes-4), tt),
          ),
        ),
      ),
    ) j t at id says

-- ---- kinds and causes

used-asked : (k : ℕ) (s : Sent) → At used.up k s → Suits s.intent s.message
used-asked k s at = each-at (λ (i : ℕ) (z : Sent). Suits z.intent z.message) used.up (refl, (refl, (refl, (refl, tt)))) k s at

no-reply-3 : (j : ℕ) (t : Told) → At used.down j t → t.place ≡ 3 → t.cause ≡ Reply → ⊥
no-reply-3 j t at place cause =
    each-at (λ (i : ℕ) (u : Told). u.place ≡ 3 → u.cause ≡ Reply → ⊥) used.down (
      (λ p e. omega (arith, p)),
      ((λ p e. omega (arith, p)), ((λ p e. omega (arith, p)), ((λ p e. omega (arith, p)), ((λ p e. cc), tt)))),
    ) j t at place cause

used-caused : (j : ℕ) (t : Told) → At used.down j t → HasCause used used_entries t t.cause × ((h : Step) × At used.handled t.place h × (h.sent ≤ j))
used-caused j t at =
    each-at (λ (i : ℕ) (u : Told). HasCause used used_entries u u.cause × ((h : Step) × At used.handled u.place h × (h.sent ≤ i))) used.down (
      (tt, (step 0 1 1, refl, omega arith)),
      (
        (tt, (step 0 1 1, refl, omega arith)),
        (
          (tt, (step 2 1 2, refl, omega arith)),
          (
            (tt, (step 3 2 2, refl, omega arith)),
            (
              ((0, adding 0 9, step 4 2 2, (0, 0, refl, refl, refl, acted-3, no-reply-3)), (step 4 2 2, refl, omega arith)),
              tt,
            ),
          ),
        ),
      ),
    ) j t at

no-disconnects : (j : ℕ) (t : Told) → At used.down j t → t.cause ≡ Removal → ⊥
no-disconnects j t at cause =
    each-at (λ (i : ℕ) (u : Told). u.cause ≡ Removal → ⊥) used.down ((λ e. cc), ((λ e. cc), ((λ e. cc), ((λ e. cc), ((λ e. cc), tt))))) j t at cause

-- ---- steps

abbrev Before : Step → ℕ → ℕ → Step → Type 0
Before g i j h = i < j → (g.sent ≤ h.sent) × (g.after ≤ h.logged)

used-steps : AreSteps used.handled used.up used.down used_entries
used-steps = record {
  one_each = omega arith;
  within = λ k h at. each-at (λ (i : ℕ) (g : Step). (g.sent ≤ 5) × (g.logged ≤ g.after) × (g.after ≤ 2)) used.handled (
    (omega arith, omega arith, omega arith),
    ((omega arith, omega arith, omega arith), ((omega arith, omega arith, omega arith), ((omega arith, omega arith, omega arith), tt))),
  ) k h at;
  rise = λ i j g h lt p q. each-at (λ (a : ℕ) (u : Step). (b : ℕ) (v : Step) → At used.handled b v → Before u a b v) used.handled (
    (λ b v z. each-at (Before (step 0 1 1) 0) used.handled ((λ l. (omega arith, omega (arith, l))), ((λ l. (omega arith, omega arith)), ((λ l. (omega arith, omega arith)), ((λ l. (omega arith, omega arith)), tt)))) b v z),
    (
      (λ b v z. each-at (Before (step 2 1 2) 1) used.handled ((λ l. absurd (omega (arith, l))), ((λ l. absurd (omega (arith, l))), ((λ l. (omega arith, omega arith)), ((λ l. (omega arith, omega arith)), tt)))) b v z),
      (
        (λ b v z. each-at (Before (step 3 2 2) 2) used.handled ((λ l. absurd (omega (arith, l))), ((λ l. absurd (omega (arith, l))), ((λ l. absurd (omega (arith, l))), ((λ l. (omega arith, omega arith)), tt)))) b v z),
        ((λ b v z. each-at (Before (step 4 2 2) 3) used.handled ((λ l. absurd (omega (arith, l))), ((λ l. absurd (omega (arith, l))), ((λ l. absurd (omega (arith, l))), ((λ l. absurd (omega (arith, l))), tt)))) b v z), tt),
      ),
    ),
  ) i g p j h q lt;
}

used-reads : AreSteps used.heard used.down used.up used_lines
used-reads = record {
  one_each = omega arith;
  within = λ k h at. each-at (λ (i : ℕ) (g : Step). (g.sent ≤ 4) × (g.logged ≤ g.after) × (g.after ≤ 6)) used.heard (
    (omega arith, omega arith, omega arith),
    ((omega arith, omega arith, omega arith), ((omega arith, omega arith, omega arith), tt)),
  ) k h at;
  rise = λ i j g h lt p q. each-at (λ (a : ℕ) (u : Step). (b : ℕ) (v : Step) → At used.heard b v → Before u a b v) used.heard (
    (λ b v z. each-at (Before (step 1 1 1) 0) used.heard ((λ l. (omega arith, omega arith)), ((λ l. (omega arith, omega arith)), ((λ l. (omega arith, omega arith)), tt))) b v z),
    (
      (λ b v z. each-at (Before (step 1 1 2) 1) used.heard ((λ l. absurd (omega (arith, l))), ((λ l. absurd (omega (arith, l))), ((λ l. (omega arith, omega arith)), tt))) b v z),
      ((λ b v z. each-at (Before (step 4 5 6) 2) used.heard ((λ l. absurd (omega (arith, l))), ((λ l. absurd (omega (arith, l))), ((λ l. absurd (omega (arith, l))), tt))) b v z), tt),
    ),
  ) i g p j h q lt;
}

-- ---- answers

-- a later step began when so much was sent
later : (k bound : ℕ) → Each (λ (l : ℕ) (g : Step). k < l → bound ≤ g.sent) used.handled → (l : ℕ) (g : Step) → k < l → At used.handled l g → bound ≤ g.sent
later k bound all l g after at = each-at (λ (i : ℕ) (h : Step). k < i → bound ≤ h.sent) used.handled all l g at after

-- a reply to the message at this place is among the first
among : (k bound : ℕ) → Each (λ (j : ℕ) (t : Told). t.place ≡ k → t.cause ≡ Reply → j < bound) used.down → (j : ℕ) (m : Fields) → IsReply used k j m → j < bound
among k bound all j m here = each-at (λ (i : ℕ) (t : Told). t.place ≡ k → t.cause ≡ Reply → i < bound) used.down all j _ here refl refl

module _
    (Due : ℕ → Circuit → List Entry → Fields → List Fields → Option Fields → List Entry → Type 0)
    (created : Due 0 (before used 0 (step 0 1 1)) (take 1 used_entries) creating.message (rights_told.message ∷ created_told.message ∷ []) None [])
    (put : Due 0 (before used 1 (step 2 1 2)) (take 1 used_entries) (putting 0 8 22).message ((put_told 1 8 22).message ∷ []) None (Applied 0 1 0 (long 22) false ∷ []))
    (read : Due 0 (before used 2 (step 3 2 2)) (take 2 used_entries) (reading 1 7).message (value_told ∷ []) None [])
    (added : Due 0 (before used 3 (step 4 2 2)) (take 2 used_entries) (adding 0 9).message [] None []) where
  answered-0 : Answered Due Shows Means 0 used used_entries 0 (step 0 1 1)
  answered-0 = record {
    s = creating;
    at = refl;
    replies = rights_told.message ∷ created_told.message ∷ [];
    late = None;
    logs = [];
    due = created;
    now = λ i m at. each-at (λ (j : ℕ) (r : Fields). IsReply used 0 (0 + j) r) (rights_told.message ∷ created_told.message ∷ []) (refl, (refl, tt)) i m at;
    logged = λ i e at. absurd (none-at i e at);
    within = omega arith;
    besides = λ i e low high at. absurd (omega (arith, low, high));
    place = 0;
    only = λ j m here. inl (among 0 2 ((λ p e. omega arith), ((λ p e. omega arith), ((λ p e. absurd (omega (arith, p))), ((λ p e. absurd (omega (arith, p))), ((λ p e. absurd (omega (arith, p))), tt))))) j m here);
    comes = λ m e. absurd cc;
    next = λ l g after at. later 0 2 ((λ a. absurd (omega (arith, a))), ((λ a. omega arith), ((λ a. omega arith), ((λ a. omega arith), tt)))) l g after at;
  }

  answered-1 : Answered Due Shows Means 0 used used_entries 1 (step 2 1 2)
  answered-1 = record {
    s = putting 0 8 22;
    at = refl;
    replies = (put_told 1 8 22).message ∷ [];
    late = None;
    logs = Applied 0 1 0 (long 22) false ∷ [];
    due = put;
    now = λ i m at. each-at (λ (j : ℕ) (r : Fields). IsReply used 1 (2 + j) r) ((put_told 1 8 22).message ∷ []) (refl, tt) i m at;
    logged = λ i e at. each-at (λ (j : ℕ) (z : Entry). At used_entries (1 + j) z) (Applied 0 1 0 (long 22) false ∷ []) (refl, tt) i e at;
    within = omega arith;
    besides = λ i e low high at. absurd (omega (arith, low, high));
    place = 0;
    only = λ j m here. inl (among 1 3 ((λ p e. absurd (omega (arith, p))), ((λ p e. absurd (omega (arith, p))), ((λ p e. omega arith), ((λ p e. absurd (omega (arith, p))), ((λ p e. absurd (omega (arith, p))), tt))))) j m here);
    comes = λ m e. absurd cc;
    next = λ l g after at. later 1 3 ((λ a. absurd (omega (arith, a))), ((λ a. absurd (omega (arith, a))), ((λ a. omega arith), ((λ a. omega arith), tt)))) l g after at;
  }

  answered-2 : Answered Due Shows Means 0 used used_entries 2 (step 3 2 2)
  answered-2 = record {
    s = reading 1 7;
    at = refl;
    replies = value_told ∷ [];
    late = None;
    logs = [];
    due = read;
    now = λ i m at. each-at (λ (j : ℕ) (r : Fields). IsReply used 2 (3 + j) r) (value_told ∷ []) (refl, tt) i m at;
    logged = λ i e at. absurd (none-at i e at);
    within = omega arith;
    besides = λ i e low high at. absurd (omega (arith, low, high));
    place = 0;
    only = λ j m here. inl (among 2 4 ((λ p e. absurd (omega (arith, p))), ((λ p e. absurd (omega (arith, p))), ((λ p e. absurd (omega (arith, p))), ((λ p e. omega arith), ((λ p e. absurd (omega (arith, p))), tt))))) j m here);
    comes = λ m e. absurd cc;
    next = λ l g after at. later 2 4 ((λ a. absurd (omega (arith, a))), ((λ a. absurd (omega (arith, a))), ((λ a. absurd (omega (arith, a))), ((λ a. omega arith), tt)))) l g after at;
  }

  answered-3 : Answered Due Shows Means 0 used used_entries 3 (step 4 2 2)
  answered-3 = record {
    s = adding 0 9;
    at = refl;
    replies = [];
    late = None;
    logs = [];
    due = added;
    now = λ i m at. absurd (none-at i m at);
    logged = λ i e at. absurd (none-at i e at);
    within = omega arith;
    besides = λ i e low high at. absurd (omega (arith, low, high));
    place = 0;
    only = λ j m here. absurd (no-reply-3 j _ here refl refl);
    comes = λ m e. absurd cc;
    next = λ l g after at. later 3 4 ((λ a. absurd (omega (arith, a))), ((λ a. absurd (omega (arith, a))), ((λ a. absurd (omega (arith, a))), ((λ a. absurd (omega (arith, a))), tt)))) l g after at;
  }

  pub used-answers : AnswersOwn Due Shows Means 0 used used_lines used_entries
  used-answers = record {
    asked = used-asked;
    caused = used-caused;
    removed = λ i j t u p q same a b. absurd (no-disconnects i t p a);
    own = used-own;
    answered = λ k h at. each-at (Answered Due Shows Means 0 used used_entries) used.handled (answered-0, (answered-1, (answered-2, (answered-3, tt)))) k h at;
    in_order = (used-steps, used-reads);
  }
