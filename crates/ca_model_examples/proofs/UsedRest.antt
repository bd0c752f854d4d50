-- The used channel: what its client's log tells, and that no write is applied twice.
use Rattle.std.proofs.Common.{◌≡◌, ℕ, ◌⊎◌, inl, inr, List, [], ◌∷◌, refl, sym, ap, subst, ◌∙◌, arith}
use Rattle.std.specs.Prelude.{false, Option, take, pos}
use Rattle.ca_text.specs.Place.{At}
use Rattle.ca_dbr.specs.declared.value.Outcome.{Outcome}
use Rattle.ca_dbr.specs.declared.value.Outcome.TheVariants as outcome
use Rattle.ca_dbr.specs.Elements.{longs}
use Rattle.ca_wire.specs.Fields.{Fields}
use Rattle.ca_model.specs.Speech.{In, Stored}
use Rattle.ca_model.specs.History.{Create, Clear, Request, Subscribe, Read, Put, Intent, On, OfCircuit, Reply, Circuit, Entry, Line, Sent, Added, Applied, Finished, Waits, Withdrawn, Called, Noticed, Updated, Nothing, Wish}
use Rattle.ca_model.specs.Channels.{IsApplied, IsOwnWrite, IsRequest, IsUse, Lasts, Stands, updates}
use Rattle.ca_model.specs.Headline.{CompletesOnce, NotTwice, Reads}
use Rattle.ca_requests.specs.Meaning.{Means}
use Rattle.ca_model.specs.Updates.{Shows}
use Rattle.ca_model_examples.specs.Worlds.{created_told, creating, long, put_told, putting, reading, step, temp}
use Rattle.ca_model_examples.specs.Safe.{used, used_entries, used_lines, used_world}
use Rattle.ca_model_examples.proofs.Lists.{each-at, at-take, one-at}
use Rattle.ca_model_examples.proofs.UsedActs.{no-removed}

-- ---- parts of lines and entries

abbrev intent-of : Line → Intent
intent-of (Noticed i o) = i
intent-of (Called i e) = i
intent-of (Updated i o) = i
intent-of l = OfCircuit

abbrev outcome-of : Line → Outcome
outcome-of (Noticed i o) = o
outcome-of l = outcome.Done

-- the line at which an intent was called, and the place at which it was sent
abbrev called-at : Intent → ℕ
called-at (On c (Request Put n)) = 2
called-at (On c (Request Read n)) = 3
called-at (On c (Subscribe n)) = 4
called-at i = 0

abbrev sent-at : Intent → ℕ
sent-at (On c (Request Put n)) = 1
sent-at (On c (Request Read n)) = 2
sent-at (On c (Subscribe n)) = 3
sent-at i = 0

-- ---- the client's log

no-clear : (n : ℕ) → In (take n used_lines) (Called (On 0 Clear) Nothing) → ⊥
no-clear n h =
    each-at (λ (k : ℕ) (l : Line). l ≡ Called (On 0 Clear) Nothing → ⊥) used_lines (
      (λ e. cc),
      ((λ e. cc), ((λ e. cc), ((λ e. cc), ((λ e. cc), ((λ e. cc), tt))))),
    ) h.0 _ (at-take n used_lines h.0 _ h.1) refl

calls : (i : ℕ) (intent : Intent) (e : Wish) → At used_lines i (Called intent e) → i ≡ called-at intent
calls i intent e at =
    each-at (λ (k : ℕ) (l : Line). l ≡ Called intent e → k ≡ called-at intent) used_lines (
      (λ f. absurd cc),
      ((λ f. absurd cc), ((λ f. ap (λ (l : Line). called-at (intent-of l)) f), ((λ f. ap (λ (l : Line). called-at (intent-of l)) f), ((λ f. ap (λ (l : Line). called-at (intent-of l)) f), ((λ f. absurd cc), tt))))),
    ) i _ at refl

notices : (i : ℕ) (intent : Intent) (o : Outcome) → IsUse intent → At used_lines i (Noticed intent o) → i ≡ 5
notices i intent o uses at =
    each-at (λ (k : ℕ) (l : Line). l ≡ Noticed intent o → k ≡ 5) used_lines (
      (λ f. absurd cc),
      ((λ f. (let g : On 0 Create ≡ intent = ap intent-of f in absurd (subst IsUse (sym g) uses))), ((λ f. absurd cc), ((λ f. absurd cc), ((λ f. absurd cc), ((λ f. refl), tt))))),
    ) i _ at refl

no-loss : (i channel : ℕ) → At used_lines i (Noticed (On channel Create) outcome.Disconnected) → ⊥
no-loss i channel at =
    each-at (λ (k : ℕ) (l : Line). l ≡ Noticed (On channel Create) outcome.Disconnected → ⊥) used_lines (
      (λ f. cc),
      ((λ f. (let g : outcome.Done ≡ outcome.Disconnected = ap outcome-of f in cc)), ((λ f. cc), ((λ f. cc), ((λ f. cc), ((λ f. (let g : outcome.Done ≡ outcome.Disconnected = ap outcome-of f in cc)), tt))))),
    ) i _ at refl

stands-at : (intent : Intent) (n k : ℕ) → Stands used_world 0 intent n k → (n ≡ 0) × (k ≡ sent-at intent)
stands-at intent n k h =
    let c = one-at used n h.0 h.1 in
    let at : At used.up k h.3.0 = subst (λ (d : Circuit). At d.up k h.3.0) c.1 h.3.1 in (
      c.0,
      each-at (λ (i : ℕ) (z : Sent). z.intent ≡ intent → i ≡ sent-at intent) used.up (
        (λ e. ap sent-at e),
        ((λ e. ap sent-at e), ((λ e. ap sent-at e), ((λ e. ap sent-at e), tt))),
      ) k h.3.0 at h.3.2,
    )

module _
    (Due : ℕ → Circuit → List Entry → Fields → List Fields → Option Fields → List Entry → Type 0) where
  abbrev Bears : ℕ → Intent → Outcome → Type 0
  Bears i intent o =
      ((by : Reads Due Shows Means used_world 0 used_lines i intent o) × (by.t.cause ≡ Reply))
      ⊎ ((o ≡ outcome.Disconnected) × Rattle.ca_model.specs.Channels.IsLost used_world 0 used_lines i intent)

  live-told : Bears 1 (On 0 Create) outcome.Done
  live-told = inl (
    record {
      n = 0;
      c = used;
      on = (refl, refl);
      j = 1;
      t = created_told;
      h = step 1 1 2;
      read = (refl, refl, refl, omega arith);
      own = (creating, refl, refl);
      held = λ h. no-clear 1 h;
      means = inr (inr (inl (refl, tt)));
    },
    refl,
  )

  done-told : Bears 5 (On 0 (Request Put 0)) outcome.Done
  done-told = inl (
    record {
      n = 0;
      c = used;
      on = (refl, refl);
      j = 2;
      t = put_told 1 8 22;
      h = step 4 5 6;
      read = (refl, refl, refl, omega arith);
      own = (putting 0 8 22, refl, refl);
      held = λ h. no-clear 5 h;
      means = inr (inl (refl, refl));
    },
    refl,
  )

  pub used-completes : CompletesOnce Due Shows Means used_world 0 used_lines
  used-completes = record {
    told = λ i intent o at. each-at (λ (k : ℕ) (l : Line). l ≡ Noticed intent o → Bears k intent o) used_lines (
      (λ f. absurd cc),
      (
        (λ f. subst (λ (d : Intent). Bears 1 d o) (ap intent-of f) (subst (λ (p : Outcome). Bears 1 (On 0 Create) p) (ap outcome-of f) live-told)),
        (
          (λ f. absurd cc),
          (
            (λ f. absurd cc),
            (
              (λ f. absurd cc),
              (
                (λ f. subst (λ (d : Intent). Bears 5 d o) (ap intent-of f) (subst (λ (p : Outcome). Bears 5 (On 0 (Request Put 0)) p) (ap outcome-of f) done-told)),
                tt,
              ),
            ),
          ),
        ),
      ),
    ) i _ at refl;
    lost = λ i channel at. absurd (no-loss i channel at);
    once = λ i l intent o p uses a b. notices i intent o uses a ∙ sym (notices l intent p uses b);
    one_call = λ i l intent e f a b. calls i intent e a ∙ sym (calls l intent f b);
    sent = λ intent e asks h. each-at (λ (k : ℕ) (l : Line). l ≡ Called intent e → (n j : ℕ) × Stands used_world 0 intent n j) used_lines (
      (λ f. absurd cc),
      (
        (λ f. absurd cc),
        (
          (λ f. (0, 1, (used, refl, refl, (putting 0 8 22, refl, ap intent-of f)))),
          (
            (λ f. (0, 2, (used, refl, refl, (reading 1 7, refl, ap intent-of f)))),
            (
              (λ f. (let g : On 0 (Subscribe 0) ≡ intent = ap intent-of f in absurd (subst IsRequest (sym g) asks))),
              ((λ f. absurd cc), tt),
            ),
          ),
        ),
      ),
    ) h.0 _ h.1 refl;
    at_one = λ intent n k m l asks a b. (let p = stands-at intent n k a in let q = stands-at intent m l b in (p.0 ∙ sym q.0, p.1 ∙ sym q.1));
  }

-- ---- writes

abbrev circuit-in : Entry → ℕ
circuit-in (Applied n k r v b) = n
circuit-in e = 0

abbrev place-in : Entry → ℕ
place-in (Applied n k r v b) = k
place-in e = 1

abbrev record-in : Entry → ℕ
record-in (Applied n k r v b) = r
record-in (Added r s) = r
record-in e = 0

abbrev value-in : Entry → Stored
value-in (Applied n k r v b) = v
value-in e = long 22

applied-is : (n k l i r : ℕ) (v : Stored) → IsApplied used_world n k l i r v → (l ≡ 0) × (i ≡ 1) × (n ≡ 0) × (k ≡ 1) × (r ≡ 0) × (v ≡ long 22)
applied-is n k l i r v h =
    let y = one-at used_entries l h.0 h.2 in
    let at : At used_entries i (Applied n k r v h.1) = subst (λ (z : List Entry). At z i (Applied n k r v h.1)) y.1 h.3 in
    let is : (i ≡ 1) × (Applied n k r v h.1 ≡ Applied 0 1 0 (long 22) false) = each-at (λ (j : ℕ) (e : Entry). e ≡ Applied n k r v h.1 → (j ≡ 1) × (Applied n k r v h.1 ≡ Applied 0 1 0 (long 22) false)) used_entries ((λ f. absurd cc), ((λ f. (refl, sym f)), tt)) i _ at refl in
    (y.0, is.0, ap circuit-in is.1, ap place-in is.1, ap record-in is.1, ap value-in is.1)

own-write : IsOwnWrite used_world 0 1 0 1 0 (long 22)
own-write = record {
  c = used;
  x = used_lines;
  y = used_entries;
  joins = ((refl, refl, refl), refl);
  channel = 0;
  ask = Request Put 0;
  given = longs (pos 22 ∷ []);
  called = ((putting 0 8 22, refl, refl), (2, refl));
  to = temp;
  there = ((0, refl), (0, refl), λ h. no-removed h.0 0 (at-take 1 used_entries h.0 _ h.1));
  value = refl;
  written = (record { seconds = 0; nanos = 0 }, refl);
  came = inl (inl (step 2 1 2, refl, omega arith, omega arith));
}

module _
    (Due : ℕ → Circuit → List Entry → Fields → List Fields → Option Fields → List Entry → Type 0) where
  pub used-writes : NotTwice Due Shows Means used_world
  used-writes = record {
    once = λ n k l m i j r q v u a b. (let e = applied-is n k l i r v a in let f = applied-is n k m j q u b in (e.0 ∙ sym f.0, e.1 ∙ sym f.1));
    own = λ n k l i r v a.
        (let e = applied-is n k l i r v a in
        subst (λ (z : ℕ). IsOwnWrite used_world z k l i r v) (sym e.2) (subst (λ (z : ℕ). IsOwnWrite used_world 0 z l i r v) (sym e.3) (
        subst (λ (z : ℕ). IsOwnWrite used_world 0 1 z i r v) (sym e.0) (subst (λ (z : ℕ). IsOwnWrite used_world 0 1 0 z r v) (sym e.1) (
        subst (λ (z : ℕ). IsOwnWrite used_world 0 1 0 1 z v) (sym e.4) (subst (λ (z : Stored). IsOwnWrite used_world 0 1 0 1 0 z) (sym e.5) own-write))))));
    waits = λ n k l i r v a.
        (let here : At used_entries i (Waits n k r v) = subst (λ (s : List Entry). At s i (Waits n k r v)) (one-at used_entries l a.0 a.1).1 a.2 in
        absurd (each-at (λ (j : ℕ) (s : Entry). s ≡ Waits n k r v → ⊥) used_entries ((λ f. cc), ((λ f. cc), tt)) i _ here refl));
    dropped = λ n k l i y at drops.
        (let z = one-at used_entries l y at in
        let here : At used_entries i (Withdrawn n k) = subst (λ (s : List Entry). At s i (Withdrawn n k)) z.1 drops in
        absurd (each-at (λ (j : ℕ) (s : Entry). s ≡ Withdrawn n k → ⊥) used_entries ((λ f. cc), ((λ f. cc), tt)) i _ here refl));
    finished = λ n k l e y at ends.
        (let z = one-at used_entries l y at in
        let here : At used_entries e (Finished n k) = subst (λ (s : List Entry). At s e (Finished n k)) z.1 ends in
        absurd (each-at (λ (j : ℕ) (s : Entry). s ≡ Finished n k → ⊥) used_entries ((λ f. cc), ((λ f. cc), tt)) e _ here refl));
    done = λ life channel number x at h.
        (let z = one-at used_lines life x at in
        let here : At used_lines h.0 (Noticed (On channel (Request Put number)) outcome.Done) = subst (λ (s : List Line). At s h.0 (Noticed (On channel (Request Put number)) outcome.Done)) z.1 h.1 in
        let is : On 0 (Request Put 0) ≡ On channel (Request Put number) = each-at (λ (j : ℕ) (s : Line). s ≡ Noticed (On channel (Request Put number)) outcome.Done → On 0 (Request Put 0) ≡ On channel (Request Put number)) used_lines (
          (λ f. absurd cc),
          ((λ f. absurd cc), ((λ f. absurd cc), ((λ f. absurd cc), ((λ f. absurd cc), ((λ f. ap intent-of f), tt))))),
        ) h.0 _ here refl in
        (0, 1, 0, 1, 0, long 22, (used, refl, sym z.0, (putting 0 8 22, refl, is)), (used_entries, false, refl, refl)));
    failed = λ life n k l i r intent s x v at h stands applied.
        (let z = one-at used_lines life x at in
        let here : At used_lines h.0 (Noticed intent (outcome.Failed s)) = subst (λ (t : List Line). At t h.0 (Noticed intent (outcome.Failed s))) z.1 h.1 in
        each-at (λ (j : ℕ) (t : Line). t ≡ Noticed intent (outcome.Failed s) → ⊥) used_lines (
          (λ f. cc),
          ((λ f. cc), ((λ f. cc), ((λ f. cc), ((λ f. cc), ((λ f. cc), tt))))),
        ) h.0 _ here refl);
  }
