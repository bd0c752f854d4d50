-- A put that waits while its client begins again: what clients' logs tell, that no write is applied twice, and what subscribers saw.
use Rattle.std.proofs.Common.{◌≡◌, ℕ, suc, ◌⊎◌, inl, inr, List, [], ◌∷◌, refl, sym, ap, subst, ◌∙◌, arith}
use Rattle.std.specs.Prelude.{take, pos}
use Rattle.ca_text.specs.Place.{At}
use Rattle.ca_dbr.specs.declared.value.Outcome.{Outcome}
use Rattle.ca_dbr.specs.declared.value.Outcome.TheVariants as outcome
use Rattle.ca_dbr.specs.Elements.{longs}
use Rattle.ca_model.specs.Speech.{In, Stored}
use Rattle.ca_model.specs.History.{Circuit, Intent, On, OfCircuit, Create, Request, Subscribe, Put, Line, Entry, Sent, Applied, Waits, Withdrawn, Finished, Clear, Reply, Called, Noticed, Updated, Nothing, Wish}
use Rattle.ca_model.specs.Channels.{CameIn, IsApplied, IsBusyUntil, IsLost, IsOwnWrite, IsUse, IsWaiting, Joins, OfCircuits, OfClients, Stands}
use Rattle.ca_model.specs.Headline.{ActsOnRecord, AnswersOwn, CompletesOnce, FollowsRecord, NotTwice, Reads, Sees}
use Rattle.ca_model.specs.Known.{IsSafe}
use Rattle.ca_requests.specs.Meaning.{Means}
use Rattle.ca_model.specs.Updates.{Shows}
use Rattle.ca_model_examples.specs.Worlds.{created_told, creating, long, ports, putting, rules, step}
use Rattle.ca_model_examples.specs.Waited.{slow_temp, waited, waited_entries, waited_lines, waited_world}
use Rattle.ca_model_examples.proofs.Lists.{each-at, at-take, none-at, one-at, two-at}
use Rattle.ca_model_examples.proofs.SmallDue.{TrueDue}
use Rattle.ca_model_examples.proofs.WaitedActs.{first-only, waited-acts}
use Rattle.ca_model_examples.proofs.WaitedOwn.{finished-at, first-busy, waited-answers}

-- ---- parts of lines

abbrev intent-of : Line → Intent
intent-of (Noticed i o) = i
intent-of (Called i e) = i
intent-of l = OfCircuit

abbrev outcome-of : Line → Outcome
outcome-of (Noticed i o) = o
outcome-of l = outcome.Done

-- the line at which a put was called, and the place at which it was sent
abbrev called-at : Intent → ℕ
called-at (On c (Request kind n)) = suc (suc n)
called-at i = 0

abbrev sent-at : Intent → ℕ
sent-at (On c (Request kind n)) = suc n
sent-at i = 0

-- ---- the log of the first life

no-clear : (n : ℕ) → In (take n waited_lines) (Called (On 0 Clear) Nothing) → ⊥
no-clear n h =
    each-at (λ (k : ℕ) (l : Line). l ≡ Called (On 0 Clear) Nothing → ⊥) waited_lines ((λ e. cc), ((λ e. cc), ((λ e. cc), ((λ e. cc), tt)))) h.0 _ (at-take n waited_lines h.0 _ h.1) refl

calls : (i : ℕ) (intent : Intent) (e : Wish) → At waited_lines i (Called intent e) → i ≡ called-at intent
calls i intent e at =
    each-at (λ (k : ℕ) (l : Line). l ≡ Called intent e → k ≡ called-at intent) waited_lines (
      (λ f. absurd cc),
      ((λ f. absurd cc), ((λ f. ap (λ (l : Line). called-at (intent-of l)) f), ((λ f. ap (λ (l : Line). called-at (intent-of l)) f), tt))),
    ) i _ at refl

-- the one notice
notice-at : (i : ℕ) (intent : Intent) (o : Outcome) → At waited_lines i (Noticed intent o) → (i ≡ 1) × (On 0 Create ≡ intent) × (outcome.Done ≡ o)
notice-at i intent o at =
    each-at (λ (k : ℕ) (l : Line). l ≡ Noticed intent o → (k ≡ 1) × (On 0 Create ≡ intent) × (outcome.Done ≡ o)) waited_lines (
      (λ f. absurd cc),
      ((λ f. (refl, ap intent-of f, ap outcome-of f)), ((λ f. absurd cc), ((λ f. absurd cc), tt))),
    ) i _ at refl

no-use : (i : ℕ) (intent : Intent) (o : Outcome) → IsUse intent → At waited_lines i (Noticed intent o) → ⊥
no-use i intent o uses at = subst IsUse (sym (notice-at i intent o at).1) uses

stands-at : (intent : Intent) (n k : ℕ) → Stands waited_world 0 intent n k → (n ≡ 0) × (k ≡ sent-at intent)
stands-at intent n k h =
    let c = one-at waited n h.0 h.1 in
    let at : At waited.up k h.3.0 = subst (λ (d : Circuit). At d.up k h.3.0) c.1 h.3.1 in
    (c.0, each-at (λ (i : ℕ) (z : Sent). z.intent ≡ intent → i ≡ sent-at intent) waited.up ((λ e. ap sent-at e), ((λ e. ap sent-at e), ((λ e. ap sent-at e), tt))) k h.3.0 at h.3.2)

abbrev Bears : ℕ → Intent → Outcome → Type 0
Bears i intent o =
    ((by : Reads TrueDue Shows Means waited_world 0 waited_lines i intent o) × (by.t.cause ≡ Reply))
    ⊎ ((o ≡ outcome.Disconnected) × IsLost waited_world 0 waited_lines i intent)

live-told : Bears 1 (On 0 Create) outcome.Done
live-told = inl (
  record {
    n = 0;
    c = waited;
    on = (refl, refl);
    j = 1;
    t = created_told;
    h = step 1 1 2;
    read = (refl, refl, refl, omega arith);
    own = (creating, refl, refl);
    held = λ h. no-clear 1 h;
    means = inr (inr (inl (refl, tt)));
  },
  refl,
)

first-completes : CompletesOnce TrueDue Shows Means waited_world 0 waited_lines
first-completes = record {
  told = λ i intent o at. (let e = notice-at i intent o at in
      subst (λ (k : ℕ). Bears k intent o) (sym e.0) (subst (λ (d : Intent). Bears 1 d o) e.1 (subst (λ (p : Outcome). Bears 1 (On 0 Create) p) e.2 live-told)));
  lost = λ i channel at. absurd (let e : outcome.Done ≡ outcome.Disconnected = (notice-at i (On channel Create) outcome.Disconnected at).2 in cc);
  once = λ i l intent o p uses a b. absurd (no-use i intent o uses a);
  one_call = λ i l intent e f a b. calls i intent e a ∙ sym (calls l intent f b);
  sent = λ intent e asks h. each-at (λ (k : ℕ) (l : Line). l ≡ Called intent e → (n j : ℕ) × Stands waited_world 0 intent n j) waited_lines (
    (λ f. absurd cc),
    (
      (λ f. absurd cc),
      ((λ f. (0, 1, (waited, refl, refl, (putting 0 8 22, refl, ap intent-of f)))), ((λ f. (0, 2, (waited, refl, refl, (putting 1 9 23, refl, ap intent-of f)))), tt)),
    ),
  ) h.0 _ h.1 refl;
  at_one = λ intent n k m l asks a b. (let p = stands-at intent n k a in let q = stands-at intent m l b in (p.0 ∙ sym q.0, p.1 ∙ sym q.1));
}

-- ---- the log of the second life: empty

no-line : (i : ℕ) (l : Line) → At [] i l → ⊥
no-line i l at = none-at i l at

not-second : (intent : Intent) (n k : ℕ) → Stands waited_world 1 intent n k → ⊥
not-second intent n k h =
    let e : 0 ≡ 1 = subst (λ (d : Circuit). d.client ≡ 1) (one-at waited n h.0 h.1).1 h.2 in
    omega (arith, e)

second-completes : CompletesOnce TrueDue Shows Means waited_world 1 []
second-completes = record {
  told = λ i intent o at. absurd (no-line i _ at);
  lost = λ i channel at. absurd (no-line i _ at);
  once = λ i l intent o p uses a b. absurd (no-line i _ a);
  one_call = λ i l intent e f a b. absurd (no-line i _ a);
  sent = λ intent e asks h. absurd (no-line h.0 _ h.1);
  at_one = λ intent n k m l asks a b. absurd (not-second intent n k a);
}

-- ---- writes

abbrev circuit-in : Entry → ℕ
circuit-in (Applied n k r v b) = n
circuit-in e = 0

abbrev place-in : Entry → ℕ
place-in (Applied n k r v b) = k
place-in e = 0

abbrev record-in : Entry → ℕ
record-in (Applied n k r v b) = r
record-in e = 0

abbrev value-in : Entry → Stored
value-in (Applied n k r v b) = v
value-in e = long 22

-- A write is that of the first put, or that of the second.
abbrev IsEither : (n k i r : ℕ) → Stored → Type 0
IsEither n k i r v = (n ≡ 0) × (r ≡ 0) × (((i ≡ 1) × (k ≡ 1) × (v ≡ long 22)) ⊎ ((i ≡ 4) × (k ≡ 2) × (v ≡ long 23)))

applied-is : (n k l i r : ℕ) (v : Stored) → IsApplied waited_world n k l i r v → (l ≡ 0) × IsEither n k i r v
applied-is n k l i r v h =
    let y = one-at waited_entries l h.0 h.2 in
    let at : At waited_entries i (Applied n k r v h.1) = subst (λ (z : List Entry). At z i (Applied n k r v h.1)) y.1 h.3 in (
      y.0,
      each-at (λ (j : ℕ) (e : Entry). e ≡ Applied n k r v h.1 → IsEither n k j r v) waited_entries (
        (λ f. absurd cc),
        (
          (λ f. (sym (ap circuit-in f), sym (ap record-in f), inl (refl, sym (ap place-in f), sym (ap value-in f)))),
          ((λ f. absurd cc), ((λ f. absurd cc), ((λ f. (sym (ap circuit-in f), sym (ap record-in f), inr (refl, sym (ap place-in f), sym (ap value-in f)))), tt))),
        ),
      ) i _ at refl,
    )

once-at : (n k i j r q : ℕ) (v u : Stored) → IsEither n k i r v → IsEither n k j q u → i ≡ j
once-at n k i j r q v u a b =
    elim a.2 [
      | inl x ↦ elim b.2 [
        | inl y ↦ x.0 ∙ sym y.0
        | inr y ↦ (let e = x.1 in let f = y.1 in absurd (omega (arith, e, f)))
      ]
      | inr x ↦ elim b.2 [
        | inl y ↦ (let e = x.1 in let f = y.1 in absurd (omega (arith, e, f)))
        | inr y ↦ x.0 ∙ sym y.0
      ]
    ]

first-write : IsOwnWrite waited_world 0 1 0 1 0 (long 22)
first-write = record {
  c = waited;
  x = waited_lines;
  y = waited_entries;
  joins = ((refl, refl, refl), refl);
  channel = 0;
  ask = Request Put 0;
  given = longs (pos 22 ∷ []);
  called = ((putting 0 8 22, refl, refl), (2, refl));
  to = slow_temp;
  there = ((0, refl), (0, refl), λ h. first-only 1 0 h);
  value = refl;
  written = (record { seconds = 0; nanos = 0 }, refl);
  came = inl (inl (step 2 1 2, refl, omega arith, omega arith));
}

no-withdrawal : (i n k : ℕ) → At waited_entries i (Withdrawn n k) → ⊥
no-withdrawal i n k at = each-at (λ (j : ℕ) (e : Entry). e ≡ Withdrawn n k → ⊥) waited_entries ((λ f. cc), ((λ f. cc), ((λ f. cc), ((λ f. cc), ((λ f. cc), tt))))) i _ at refl

-- it was applied after it had waited
second-write : IsOwnWrite waited_world 0 2 0 4 0 (long 23)
second-write = record {
  c = waited;
  x = waited_lines;
  y = waited_entries;
  joins = ((refl, refl, refl), refl);
  channel = 0;
  ask = Request Put 1;
  given = longs (pos 23 ∷ []);
  called = ((putting 1 9 23, refl, refl), (3, refl));
  to = slow_temp;
  there = ((0, refl), (0, refl), λ h. first-only 4 0 h);
  value = refl;
  written = (record { seconds = 0; nanos = 0 }, refl);
  came = inr (2, long 23, refl, omega arith, (step 2 2 3, refl, omega arith, omega arith), (λ h. no-withdrawal h.0 0 2 h.1));
}

owned : (n k l i r : ℕ) (v : Stored) → l ≡ 0 → IsEither n k i r v → IsOwnWrite waited_world n k l i r v
owned n k l i r v a b =
    subst (λ (z : ℕ). IsOwnWrite waited_world n k z i r v) (sym a) (
    subst (λ (z : ℕ). IsOwnWrite waited_world z k 0 i r v) (sym b.0) (
    subst (λ (z : ℕ). IsOwnWrite waited_world 0 k 0 i z v) (sym b.1) (elim b.2 [
      | inl x ↦
          subst (λ (z : ℕ). IsOwnWrite waited_world 0 k 0 z 0 v) (sym x.0) (
          subst (λ (z : ℕ). IsOwnWrite waited_world 0 z 0 1 0 v) (sym x.1) (
          subst (λ (z : Stored). IsOwnWrite waited_world 0 1 0 1 0 z) (sym x.2) first-write))
      | inr x ↦
          subst (λ (z : ℕ). IsOwnWrite waited_world 0 k 0 z 0 v) (sym x.0) (
          subst (λ (z : ℕ). IsOwnWrite waited_world 0 z 0 4 0 v) (sym x.1) (
          subst (λ (z : Stored). IsOwnWrite waited_world 0 2 0 4 0 z) (sym x.2) second-write))
    ])))

-- a notice in either life
notice-in : (life i : ℕ) (x : List Line) (intent : Intent) (o : Outcome) → At waited_world.clients life x → At x i (Noticed intent o) → (On 0 Create ≡ intent) × (outcome.Done ≡ o)
notice-in life i x intent o at here =
    elim (two-at waited_lines [] life x at) [
      | inl e ↦ (let f = notice-at i intent o (subst (λ (z : List Line). At z i (Noticed intent o)) e.1 here) in (f.1, f.2))
      | inr e ↦ absurd (no-line i (Noticed intent o) (subst (λ (z : List Line). At z i (Noticed intent o)) e.1 here))
    ]

abbrev came-place : Entry → ℕ × ℕ
came-place (Waits n k r v) = (n, k)
came-place e = (0, 0)

-- the put that waits came in its step
came-waiting : (n k l i r : ℕ) (v : Stored) → IsWaiting waited_world n k l i r v → CameIn waited_world n k l i
came-waiting n k l i r v a =
    let z = one-at waited_entries l a.0 a.1 in
    let at : At waited_entries i (Waits n k r v) = subst (λ (s : List Entry). At s i (Waits n k r v)) z.1 a.2 in
    subst (λ (m : ℕ). CameIn waited_world n k m i) (sym z.0)
    (each-at (λ (j : ℕ) (e : Entry). e ≡ Waits n k r v → CameIn waited_world n k 0 j) waited_entries (
      (λ f. absurd cc),
      (
        (λ f. absurd cc),
        ((λ f. subst (λ (m : ℕ × ℕ). CameIn waited_world m.0 m.1 0 2) (ap came-place f) (waited, refl, refl, (step 2 2 3, refl, omega arith, omega arith))), ((λ f. absurd cc), ((λ f. absurd cc), tt))),
      ),
    ) i _ at refl)

pub waited-writes : NotTwice TrueDue Shows Means waited_world
waited-writes = record {
  once = λ n k l m i j r q v u a b. (let e = applied-is n k l i r v a in let f = applied-is n k m j q u b in (e.0 ∙ sym f.0, once-at n k i j r q v u e.1 f.1));
  own = λ n k l i r v a. (let e = applied-is n k l i r v a in owned n k l i r v e.0 e.1);
  waits = came-waiting;
  dropped = λ n k l i y at drops. absurd (no-withdrawal i n k (subst (λ (s : List Entry). At s i (Withdrawn n k)) (one-at waited_entries l y at).1 drops));
  finished = λ n k l e y at ends.
      (let z = one-at waited_entries l y at in
      let f = finished-at e n k (subst (λ (s : List Entry). At s e (Finished n k)) z.1 ends) in (
        subst (λ (s : List Entry). IsBusyUntil s n k e) (sym z.1) (
            subst (λ (a : ℕ). IsBusyUntil waited_entries n k a) (sym f.0) (
            subst (λ (a : ℕ). IsBusyUntil waited_entries a k 3) (sym f.1) (
            subst (λ (a : ℕ). IsBusyUntil waited_entries 0 a 3) (sym f.2) first-busy))),
        (λ g there. f.0 ∙ sym (finished-at g n k (subst (λ (s : List Entry). At s g (Finished n k)) z.1 there)).0),
      ));
  done = λ life channel number x at h. absurd (let e : On 0 Create ≡ On channel (Request Put number) = (notice-in life h.0 x _ _ at h.1).0 in cc);
  failed = λ life n k l i r intent s x v at h stands applied. (let e : outcome.Done ≡ outcome.Failed s = (notice-in life h.0 x intent (outcome.Failed s) at h.1).1 in cc);
}

-- ---- updates: none

waited-follows : FollowsRecord TrueDue Shows Means 0 waited waited_lines waited_entries
waited-follows k r s h accepted =
    absurd (each-at (λ (i : ℕ) (z : Sent). z.intent ≡ On accepted.0 (Subscribe accepted.1) → ⊥) waited.up ((λ e. cc), ((λ e. cc), ((λ e. cc), tt))) k s accepted.2 accepted.3)

no-update : (i : ℕ) (intent : Intent) (o : Outcome) → At waited_lines i (Updated intent o) → ⊥
no-update i intent o at = each-at (λ (k : ℕ) (l : Line). l ≡ Updated intent o → ⊥) waited_lines ((λ e. cc), ((λ e. cc), ((λ e. cc), ((λ e. cc), tt)))) i _ at refl

first-sees : Sees TrueDue Shows Means waited_world 0 waited_lines
first-sees = record {
  own = λ i intent o at. absurd (no-update i intent o at);
  in_order = λ i intent o by j a t at. absurd (no-update i intent o at);
}

second-sees : Sees TrueDue Shows Means waited_world 1 []
second-sees = record {
  own = λ i intent o at. absurd (no-line i _ at);
  in_order = λ i intent o by j a t at. absurd (no-line i _ at);
}

-- ---- the whole

pub each-circuit : (P : ℕ → Circuit → List Line → List Entry → Type 0) → P 0 waited waited_lines waited_entries → OfCircuits waited_world P
each-circuit P h n c at =
    let e = one-at waited n c at in
    subst (λ (d : Circuit). (x : List Line) × (y : List Entry) × Joins waited_world n d x y × P n d x y) (sym e.1) (
    subst (λ (m : ℕ). (x : List Line) × (y : List Entry) × Joins waited_world m waited x y × P m waited x y) (sym e.0) (waited_lines, waited_entries, (refl, refl, refl), h))

pub each-life : (P : ℕ → List Line → Type 0) → P 0 waited_lines → P 1 [] → OfClients waited_world P
each-life P h g life x at =
    elim (two-at waited_lines [] life x at) [
      | inl e ↦ subst (λ (y : List Line). P life y) (sym e.1) (subst (λ (m : ℕ). P m waited_lines) (sym e.0) h)
      | inr e ↦ subst (λ (y : List Line). P life y) (sym e.1) (subst (λ (m : ℕ). P m []) (sym e.0) g)
    ]

pub waited-safe : IsSafe ports rules waited_world
waited-safe = record {
  acts = each-circuit (ActsOnRecord TrueDue Shows Means) waited-acts;
  own = (each-circuit (AnswersOwn TrueDue Shows Means) waited-answers, each-life (CompletesOnce TrueDue Shows Means waited_world) first-completes second-completes);
  applied = waited-writes;
  sees = (each-circuit (FollowsRecord TrueDue Shows Means) waited-follows, each-life (Sees TrueDue Shows Means waited_world) first-sees second-sees);
}
