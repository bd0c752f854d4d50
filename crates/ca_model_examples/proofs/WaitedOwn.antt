-- A put that waits while its client begins again: on its circuit each answer is its own request's.
use Rattle.std.proofs.Common.{◌≡◌, ℕ, ◌<◌, ◌≤◌, ◌+◌, inl, inr, [], ◌∷◌, refl, sym, ap, subst, arith}
use Rattle.std.specs.Prelude.{true, Some, None}
use Rattle.ca_text.specs.Place.{At}
use Rattle.ca_text.proofs.Places.{some_is}
use Rattle.ca_wire.specs.Fields.{Fields}
use Rattle.ca_model.specs.Speech.{Cid, Gives, Id, Ioid, Speaks, Stored}
use Rattle.ca_model.specs.History.{Entry, Sent, Told, Step, Removal, Applied, Waits, Finished}
use Rattle.ca_model.specs.Channels.{AreSteps, IsBusyUntil, IsFinished, IsReply, Suits}
use Rattle.ca_model.specs.Headline.{Answered, AnswersOwn}
use Rattle.ca_model.specs.Causes.{HasCause, TakesOwn}
use Rattle.ca_requests.specs.Meaning.{Means}
use Rattle.ca_model.specs.Updates.{Shows}
use Rattle.ca_model_examples.specs.Worlds.{created_told, creating, long, put_told, putting, rights_told, step}
use Rattle.ca_model_examples.specs.Waited.{waited, waited_entries, waited_lines}
use Rattle.ca_model_examples.proofs.Lists.{Each, each-at, none-at}
use Rattle.ca_model_examples.proofs.Speaks.{heads, of-channel, of-request}
use Rattle.ca_model_examples.proofs.SmallDue.{TrueDue}
use Rattle.ca_model_examples.proofs.WaitedActs.{no-clears}
use Rattle.ca_model_examples.proofs.WaitedDue.{waited-busies, waited-created, waited-waits}

-- ---- ids

last-of : (k : ℕ) (id : Id) → Each (λ (i : ℕ) (z : Sent). k < i → Gives z.message id → ⊥) waited.up → (l : ℕ) (r : Sent) → k < l → At waited.up l r → Gives r.message id → ⊥
last-of k id all l r after at gives = each-at (λ (i : ℕ) (z : Sent). k < i → Gives z.message id → ⊥) waited.up all l r at after gives

last-cid : (l : ℕ) (r : Sent) → 0 < l → At waited.up l r → Gives r.message (Cid 1) → ⊥
last-cid = last-of 0 (Cid 1) ((λ a e. omega (arith, a)), ((λ a e. let f = e.0 in omega (arith, f)), ((λ a e. let f = e.0 in omega (arith, f)), tt)))

last-put : (l : ℕ) (r : Sent) → 1 < l → At waited.up l r → Gives r.message (Ioid 8) → ⊥
last-put = last-of 1 (Ioid 8) ((λ a e. omega (arith, a)), ((λ a e. omega (arith, a)), ((λ a e. let f = e.1 in omega (arith, f)), tt)))

takes-0 : TakesOwn waited 0 0 (Cid 1)
takes-0 = (0, 0, creating, creating, (creating, refl, (refl, refl), omega arith, (λ l r after early at. last-cid l r after at)), omega arith, refl, refl, refl, refl)

takes-1 : TakesOwn waited 1 0 (Cid 1)
takes-1 = (0, 0, creating, creating, (creating, refl, (refl, refl), omega arith, (λ l r after early at. last-cid l r after at)), omega arith, refl, refl, refl, refl)

takes-2 : TakesOwn waited 2 1 (Ioid 8)
takes-2 = (1, 0, putting 0 8 22, putting 0 8 22, (putting 0 8 22, refl, (inr refl, refl), omega arith, (λ l r after early at. last-put l r after at)), omega arith, refl, refl, refl, refl)

waited-own : (j : ℕ) (t : Told) (id : Id) → At waited.down j t → Speaks t.message id → TakesOwn waited j t.place id
waited-own j t id at says =
    each-at (λ (i : ℕ) (u : Told). (d : Id) → Speaks u.message d → TakesOwn waited i u.place d) waited.down (
      (λ d s. subst (λ (e : Id). TakesOwn waited 0 0 e) (sym (of-channel rights_told.message d (inl refl) (heads rights_told.message d (λ e. omega (arith, e)) s))) takes-0),
      (
        (λ d s. subst (λ (e : Id). TakesOwn waited 1 0 e) (sym (of-channel created_told.message d (inr refl) (heads created_told.message d (λ e. omega (arith, e)) s))) takes-1),
        ((λ d s. subst (λ (e : Id). TakesOwn waited 2 1 e) (sym (of-request (put_told 1 8 22).message d (inr refl) (heads (put_told 1 8 22).message d (λ e. omega (arith, e)) s))) takes-2), tt),
      ),
    ) j t at id says

-- ---- causes

waited-caused : (j : ℕ) (t : Told) → At waited.down j t → HasCause waited waited_entries t t.cause × ((h : Step) × At waited.handled t.place h × (h.sent ≤ j))
waited-caused j t at =
    each-at (λ (i : ℕ) (u : Told). HasCause waited waited_entries u u.cause × ((h : Step) × At waited.handled u.place h × (h.sent ≤ i))) waited.down (
      (tt, (step 0 1 1, refl, omega arith)),
      ((tt, (step 0 1 1, refl, omega arith)), ((tt, (step 2 1 2, refl, omega arith)), tt)),
    ) j t at

no-disconnects : (j : ℕ) (t : Told) → At waited.down j t → t.cause ≡ Removal → ⊥
no-disconnects j t at cause = each-at (λ (i : ℕ) (u : Told). u.cause ≡ Removal → ⊥) waited.down ((λ e. cc), ((λ e. cc), ((λ e. cc), tt))) j t at cause

-- ---- steps

abbrev Before : Step → ℕ → ℕ → Step → Type 0
Before g i j h = i < j → (g.sent ≤ h.sent) × (g.after ≤ h.logged)

server-steps : AreSteps waited.handled waited.up waited.down waited_entries
server-steps = record {
  one_each = omega arith;
  within = λ k h at. each-at (λ (i : ℕ) (g : Step). (g.sent ≤ 3) × (g.logged ≤ g.after) × (g.after ≤ 5)) waited.handled ((omega arith, omega arith, omega arith), ((omega arith, omega arith, omega arith), ((omega arith, omega arith, omega arith), tt))) k h at;
  rise = λ i j g h lt p q. each-at (λ (a : ℕ) (u : Step). (b : ℕ) (v : Step) → At waited.handled b v → Before u a b v) waited.handled (
    (λ b v z. each-at (Before (step 0 1 1) 0) waited.handled ((λ l. absurd (omega (arith, l))), ((λ l. (omega arith, omega arith)), ((λ l. (omega arith, omega arith)), tt))) b v z),
    (
      (λ b v z. each-at (Before (step 2 1 2) 1) waited.handled ((λ l. absurd (omega (arith, l))), ((λ l. absurd (omega (arith, l))), ((λ l. (omega arith, omega arith)), tt))) b v z),
      ((λ b v z. each-at (Before (step 2 2 3) 2) waited.handled ((λ l. absurd (omega (arith, l))), ((λ l. absurd (omega (arith, l))), ((λ l. absurd (omega (arith, l))), tt))) b v z), tt),
    ),
  ) i g p j h q lt;
}

client-steps : AreSteps waited.heard waited.down waited.up waited_lines
client-steps = record {
  one_each = omega arith;
  within = λ k h at. each-at (λ (i : ℕ) (g : Step). (g.sent ≤ 3) × (g.logged ≤ g.after) × (g.after ≤ 4)) waited.heard ((omega arith, omega arith, omega arith), ((omega arith, omega arith, omega arith), tt)) k h at;
  rise = λ i j g h lt p q. each-at (λ (a : ℕ) (u : Step). (b : ℕ) (v : Step) → At waited.heard b v → Before u a b v) waited.heard (
    (λ b v z. each-at (Before (step 1 1 1) 0) waited.heard ((λ l. absurd (omega (arith, l))), ((λ l. (omega arith, omega arith)), tt)) b v z),
    ((λ b v z. each-at (Before (step 1 1 2) 1) waited.heard ((λ l. absurd (omega (arith, l))), ((λ l. absurd (omega (arith, l))), tt)) b v z), tt),
  ) i g p j h q lt;
}

-- ---- the finish

abbrev circuit-in : Entry → ℕ
circuit-in (Finished n k) = n
circuit-in e = 0

abbrev place-in : Entry → ℕ
place-in (Finished n k) = k
place-in e = 1

-- the one finish
pub finished-at : (e n k : ℕ) → At waited_entries e (Finished n k) → (e ≡ 3) × (n ≡ 0) × (k ≡ 1)
finished-at e n k at =
    each-at (λ (i : ℕ) (z : Entry). z ≡ Finished n k → (i ≡ 3) × (n ≡ 0) × (k ≡ 1)) waited_entries (
      (λ f. absurd cc),
      ((λ f. absurd cc), ((λ f. absurd cc), ((λ f. (refl, ap circuit-in (sym f), ap place-in (sym f))), ((λ f. absurd cc), tt)))),
    ) e _ at refl

no-other : (j m l : ℕ) (u : Stored) → 1 < j → j < 3 → At waited_entries j (Applied m l 0 u true) → ⊥
no-other j m l u low high at =
    each-at (λ (i : ℕ) (z : Entry). 1 < i → i < 3 → z ≡ Applied m l 0 u true → ⊥) waited_entries (
      (λ a b f. omega (arith, a)),
      ((λ a b f. omega (arith, a)), ((λ a b f. cc), ((λ a b f. omega (arith, b)), ((λ a b f. omega (arith, b)), tt)))),
    ) j _ at low high refl

pub first-busy : IsBusyUntil waited_entries 0 1 3
first-busy = (1, 0, long 22, refl, omega arith, (λ j m l u low high at. no-other j m l u low high at))

first-finished : IsFinished 0 waited waited_entries 1 (putting 0 8 22)
first-finished = (3, refl, first-busy, (λ c. no-clears c.0 c.1 c.4 c.7))

-- ---- answers

later : (k bound : ℕ) → Each (λ (l : ℕ) (g : Step). k < l → bound ≤ g.sent) waited.handled → (l : ℕ) (g : Step) → k < l → At waited.handled l g → bound ≤ g.sent
later k bound all l g after at = each-at (λ (i : ℕ) (h : Step). k < i → bound ≤ h.sent) waited.handled all l g at after

among : (k bound : ℕ) → Each (λ (j : ℕ) (t : Told). t.place ≡ k → j < bound) waited.down → (j : ℕ) (m : Fields) → IsReply waited k j m → j < bound
among k bound all j m here = each-at (λ (i : ℕ) (t : Told). t.place ≡ k → i < bound) waited.down all j _ here refl

-- the reply to the first put
late-at : (j : ℕ) (m : Fields) → IsReply waited 1 j m → (j ≡ 2) × ((put_told 1 8 22).message ≡ m)
late-at j m here =
    each-at (λ (i : ℕ) (t : Told). t.place ≡ 1 → (i ≡ 2) × ((put_told 1 8 22).message ≡ t.message)) waited.down (
      (λ p. absurd (omega (arith, p))),
      ((λ p. absurd (omega (arith, p))), ((λ p. (refl, refl)), tt)),
    ) j _ here refl

none-to-second : (j : ℕ) (m : Fields) → IsReply waited 2 j m → ⊥
none-to-second j m here =
    each-at (λ (i : ℕ) (t : Told). t.place ≡ 2 → ⊥) waited.down ((λ p. omega (arith, p)), ((λ p. omega (arith, p)), ((λ p. omega (arith, p)), tt))) j _ here refl

answered-0 : Answered TrueDue Shows Means 0 waited waited_entries 0 (step 0 1 1)
answered-0 = record {
  s = creating;
  at = refl;
  replies = rights_told.message ∷ created_told.message ∷ [];
  late = None;
  logs = [];
  due = waited-created;
  now = λ i m at. each-at (λ (j : ℕ) (z : Fields). IsReply waited 0 (0 + j) z) (rights_told.message ∷ created_told.message ∷ []) (refl, (refl, tt)) i m at;
  logged = λ i e at. absurd (none-at i e at);
  within = omega arith;
  besides = λ i e low high at. absurd (omega (arith, low, high));
  place = 0;
  only = λ j m here. inl (among 0 2 ((λ p. omega arith), ((λ p. omega arith), ((λ p. absurd (omega (arith, p))), tt))) j m here);
  comes = λ m e. absurd cc;
  next = λ l g after at. later 0 2 ((λ a. absurd (omega (arith, a))), ((λ a. omega arith), ((λ a. omega arith), tt))) l g after at;
}

answered-1 : Answered TrueDue Shows Means 0 waited waited_entries 1 (step 2 1 2)
answered-1 = record {
  s = putting 0 8 22;
  at = refl;
  replies = [];
  late = Some (put_told 1 8 22).message;
  logs = Applied 0 1 0 (long 22) true ∷ [];
  due = waited-busies;
  now = λ i m at. absurd (none-at i m at);
  logged = λ i e at. each-at (λ (j : ℕ) (z : Entry). At waited_entries (1 + j) z) (Applied 0 1 0 (long 22) true ∷ []) (refl, tt) i e at;
  within = omega arith;
  besides = λ i e low high at. absurd (omega (arith, low, high));
  place = 2;
  only = λ j m here. (let e = late-at j m here in inr (e.0, ap (λ (z : Fields). Some z) e.1, first-finished));
  comes = λ m e ends up. subst (λ (z : Fields). IsReply waited 1 2 z) (some_is (put_told 1 8 22).message m e) refl;
  next = λ l g after at. later 1 2 ((λ a. absurd (omega (arith, a))), ((λ a. absurd (omega (arith, a))), ((λ a. omega arith), tt))) l g after at;
}

-- The second put is not finished.
answered-2 : Answered TrueDue Shows Means 0 waited waited_entries 2 (step 2 2 3)
answered-2 = record {
  s = putting 1 9 23;
  at = refl;
  replies = [];
  late = Some (put_told 2 9 23).message;
  logs = Waits 0 2 0 (long 23) ∷ [];
  due = waited-waits;
  now = λ i m at. absurd (none-at i m at);
  logged = λ i e at. each-at (λ (j : ℕ) (z : Entry). At waited_entries (2 + j) z) (Waits 0 2 0 (long 23) ∷ []) (refl, tt) i e at;
  within = omega arith;
  besides = λ i e low high at. absurd (omega (arith, low, high));
  place = 3;
  only = λ j m here. absurd (none-to-second j m here);
  comes = λ m e ends up. absurd (let f = (finished-at ends.0 0 2 ends.1).2 in omega (arith, f));
  next = λ l g after at. later 2 2 ((λ a. absurd (omega (arith, a))), ((λ a. absurd (omega (arith, a))), ((λ a. absurd (omega (arith, a))), tt))) l g after at;
}

pub waited-answers : AnswersOwn TrueDue Shows Means 0 waited waited_lines waited_entries
waited-answers = record {
  asked = λ k s at. each-at (λ (i : ℕ) (z : Sent). Suits z.intent z.message) waited.up (refl, (refl, (refl, tt))) k s at;
  caused = waited-caused;
  removed = λ i j t u p q same a b. absurd (no-disconnects i t p a);
  own = waited-own;
  answered = λ k h at. each-at (Answered TrueDue Shows Means 0 waited waited_entries) waited.handled (answered-0, (answered-1, (answered-2, tt))) k h at;
  in_order = (server-steps, client-steps);
}
