-- Updates of two circuits are seen in the order in which they were read; and an id that is given too early is safe for now.
use Rattle.std.proofs.Common.{◌≡◌, ℕ, ◌<◌, inl, inr, List, [], ◌∷◌, refl, sym, ap, subst, ◌∙◌, arith}
use Rattle.std.specs.Prelude.{take, Option}
use Rattle.ca_text.specs.Place.{At}
use Rattle.ca_dbr.specs.declared.value.Outcome.{Outcome}
use Rattle.ca_dbr.specs.declared.value.Outcome.TheVariants as outcome
use Rattle.ca_wire.specs.Fields.{Fields}
use Rattle.ca_model.specs.Speech.{Cid, In, Stored}
use Rattle.ca_model.specs.History.{Circuit, Intent, On, OfCircuit, Create, Line, Entry, Opened, Called, Nothing, Noticed, Updated, Subscribe, Request, Put, Sent, Told, Update, Added, Applied, Finished, Waits, Withdrawn, Clear, Cancel}
use Rattle.ca_model.specs.Channels.{AreSteps, IsApplied, IsHeld, IsRequest, Joins, OfCircuits, OfClients, Stands, Suits}
use Rattle.ca_model.specs.Headline.{ActsOnRecord, AnswersOwn, CompletesOnce, FollowsRecord, NotTwice, Reads, Safe, Sees}
use Rattle.ca_model.specs.Legal.{Legal}
use Rattle.ca_model.specs.Known.{IsDue, IsSafe}
use Rattle.ca_requests.specs.Meaning.{Means}
use Rattle.ca_model.specs.Updates.{Shows}
use Rattle.ca_model_examples.specs.Worlds.{AnyDue, adding, ports, rules, temp, temp_name}
use Rattle.ca_model_examples.specs.Safe.{AnyMeans, SeesCrossed, crossed, crossed_lines, shared, shared_id, shared_lines, told_at}
use Rattle.ca_model_examples.proofs.Lists.{each-at, at-take, none-at, one-at, two-at}

abbrev meant : Line → Intent
meant (Updated intent o) = intent
meant l = OfCircuit

below-1 : (i : ℕ) → i ≡ 0 → i < 1
below-1 i e = omega (arith, e)

below-2 : (i : ℕ) → i ≡ 1 → i < 2
below-2 i e = omega (arith, e)

-- none of these lines is a call
no-call : (n : ℕ) (o p : Outcome) (intent : Intent) → In (take n (crossed_lines o p)) (Called intent Nothing) → ⊥
no-call n o p intent h =
    each-at (λ (k : ℕ) (l : Line). l ≡ Called intent Nothing → ⊥) (crossed_lines o p) ((λ e. cc), ((λ e. cc), tt)) h.0 _ (at-take n (crossed_lines o p) h.0 _ h.1) refl

held : (n : ℕ) (o p : Outcome) (intent : Intent) → On 0 (Subscribe 0) ≡ intent → IsHeld (take n (crossed_lines o p)) intent
held n o p intent is = subst (λ (i : Intent). IsHeld (take n (crossed_lines o p)) i) is (no-call n o p (On 0 Clear), no-call n o p (On 0 (Cancel 0)))

told : (m : Fields) → Told
told m = record { message = m; place = 0; cause = Update 0 }

-- line 0 was told when the update of circuit 1 was read, line 1 when that of circuit 0 was
abbrev reads-0 : (m : Fields) (o p q : Outcome) (i : ℕ) (intent : Intent) → i ≡ 0 → On 0 (Subscribe 0) ≡ intent → Reads AnyDue Shows AnyMeans (crossed m o p) 0 (crossed_lines o p) i intent q
reads-0 m o p q i intent e is = record {
  n = 1;
  c = told_at m 0;
  on = (refl, refl);
  j = 0;
  t = record { message = m; place = 0; cause = Update 0 };
  h = record { sent = 1; logged = 0; after = 1 };
  read = (refl, refl, sym e, below-1 i e);
  own = (adding 0 9, refl, is);
  held = held i o p intent is;
  means = tt;
}

abbrev reads-1 : (m : Fields) (o p q : Outcome) (i : ℕ) (intent : Intent) → i ≡ 1 → On 0 (Subscribe 0) ≡ intent → Reads AnyDue Shows AnyMeans (crossed m o p) 0 (crossed_lines o p) i intent q
reads-1 m o p q i intent e is = record {
  n = 0;
  c = told_at m 1;
  on = (refl, refl);
  j = 0;
  t = record { message = m; place = 0; cause = Update 0 };
  h = record { sent = 1; logged = 1; after = 2 };
  read = (refl, refl, sym e, below-2 i e);
  own = (adding 0 9, refl, is);
  held = held i o p intent is;
  means = tt;
}

-- each circuit of that world has one message of the server
first : (m : Fields) (o p : Outcome) (n j : ℕ) (c : Circuit) (t : Told) → At (crossed m o p).circuits n c → At c.down j t → j ≡ 0
first m o p n j c t here at =
    elim (two-at _ _ n c here) [
      | inl h ↦ (one-at (record { message = m; place = 0; cause = Update 0 }) j t (subst (λ (d : Circuit). At d.down j t) h.1 at)).0
      | inr h ↦ (one-at (record { message = m; place = 0; cause = Update 0 }) j t (subst (λ (d : Circuit). At d.down j t) h.1 at)).0
    ]

pub sees-crossed : (m : Fields) (o p : Outcome) → SeesCrossed m o p
sees-crossed m o p = record {
  own = λ i intent q at. elim (two-at _ _ i (Updated intent q) at) [
    | inl h ↦ (reads-0 m o p q i intent h.0 (sym (ap meant h.1)), 0, refl)
    | inr h ↦ (reads-1 m o p q i intent h.0 (sym (ap meant h.1)), 0, refl)
  ];
  in_order = λ i intent q by j a t at early. let e = first m o p by.n by.j by.c by.t by.on.0 by.read.0 in absurd (omega (arith, e, early));
}

-- ---- a shared id

pub never-shared : Legal shared_id → ⊥
never-shared l =
    let f = (l.circuits 0 shared refl).3.client.ids 0 1 _ _ (Cid 1) (Cid 1) (omega arith) refl refl (refl, refl) (refl, refl) refl in
    none-at f.0 f.3 f.5

not-handled : {A : Type 0} (k : ℕ) → k < 0 → A
not-handled k h = absurd (omega (arith, h))

abbrev opened : Line → ℕ
opened (Opened channel a) = channel
opened l = 0

opened-at : (i channel : ℕ) (a : List ℕ) → At shared_lines i (Opened channel a) → i ≡ channel
opened-at i channel a at =
    each-at (λ (k : ℕ) (l : Line). l ≡ Opened channel a → k ≡ channel) shared_lines ((λ e. ap opened e), ((λ e. ap opened e), tt)) i _ at refl

only-line : (i : ℕ) (l : Line) → At shared_lines i l → (channel : ℕ) × (l ≡ Opened channel temp_name)
only-line i l at = each-at (λ (k : ℕ) (m : Line). (channel : ℕ) × (m ≡ Opened channel temp_name)) shared_lines ((0, refl), ((1, refl), tt)) i l at

only-entry : (i : ℕ) (e : Entry) → At (Added 0 temp ∷ []) i e → (i ≡ 0) × (e ≡ Added 0 temp)
only-entry i e at = one-at (Added 0 temp) i e at

no-uses : (n k : ℕ) (intent : Intent) → Stands shared_id 0 intent n k → (channel : ℕ) × (On channel Create ≡ intent)
no-uses n k intent h =
    let at : At shared.up k h.3.0 = subst (λ (c : Circuit). At c.up k h.3.0) (one-at shared n h.0 h.1).1 h.3.1 in
    each-at (λ (i : ℕ) (s : Sent). s.intent ≡ intent → (channel : ℕ) × (On channel Create ≡ intent)) shared.up ((λ e. (0, e)), ((λ e. (1, e)), tt)) k h.3.0 at h.3.2

-- the line is no notice, call or update
no-line : (i : ℕ) (l : Line) → At shared_lines i l → ((channel : ℕ) → l ≡ Opened channel temp_name → ⊥) → ⊥
no-line i l at other = (let o = only-line i l at in other o.0 o.1)

shared-steps : {A B C : Type 0} (came : List A) (sent : List B) (log : List C) → AreSteps [] came sent log
shared-steps came sent log = record {
  one_each = omega arith;
  within = λ k h at. absurd (none-at k h at);
  rise = λ i j g h lt at. absurd (none-at i g at);
}

-- what holds of the circuit, or of the life, holds of each
each-circuit : (P : ℕ → Circuit → List Line → List Entry → Type 0) → P 0 shared shared_lines (Added 0 temp ∷ []) → OfCircuits shared_id P
each-circuit P h n c at =
    let e = one-at shared n c at in
    subst (λ (d : Circuit). (x : List Line) × (y : List Entry) × Joins shared_id n d x y × P n d x y) (sym e.1) (
    subst (λ (m : ℕ). (x : List Line) × (y : List Entry) × Joins shared_id m shared x y × P m shared x y) (sym e.0) (shared_lines, Added 0 temp ∷ [], (refl, refl, refl), h))

each-life : (P : ℕ → List Line → Type 0) → P 0 shared_lines → OfClients shared_id P
each-life P h life x at =
    let e = one-at shared_lines life x at in
    subst (λ (y : List Line). P life y) (sym e.1) (subst (λ (m : ℕ). P m shared_lines) (sym e.0) h)

no-write : (n k l i r : ℕ) (v : Stored) → IsApplied shared_id n k l i r v → ⊥
no-write n k l i r v a = (let e = (only-entry i _ (subst (λ (s : List Entry). At s i (Applied n k r v a.1)) (one-at (Added 0 temp ∷ []) l a.0 a.2).1 a.3)).1 in cc)

module _
    (Due : ℕ → Circuit → List Entry → Fields → List Fields → Option Fields → List Entry → Type 0) where
  shared-acts : ActsOnRecord Due Shows Means 0 shared shared_lines (Added 0 temp ∷ [])
  shared-acts = record {
    acts = λ k channel ask early. not-handled k early;
    retired = λ k j r h bad acted. absurd (none-at j _ bad.1);
    refused = λ k j r m s h here. absurd (none-at j _ here);
    live = λ channel j k sid l. absurd (none-at j l.0 l.2);
    names = record {
      one_name = λ i j channel a b p q. opened-at i channel a p ∙ sym (opened-at j channel b q);
      one_record = λ i j r a b p q. (only-entry i _ p).0 ∙ sym (only-entry j _ q).0;
      one_at_once = λ i r q s at has. none-at has.1.0 _ (subst (λ (k : ℕ). At (take k (Added 0 temp ∷ [])) has.1.0 (Added q has.0)) (only-entry i _ at).0 has.1.1);
      was_there = λ i r at. (let e = (only-entry i _ at).1 in absurd cc);
    };
  }

  shared-answers : AnswersOwn Due Shows Means 0 shared shared_lines (Added 0 temp ∷ [])
  shared-answers = record {
    asked = λ k s at. each-at (λ (i : ℕ) (z : Sent). Suits z.intent z.message) shared.up (refl, (refl, tt)) k s at;
    caused = λ j t at. absurd (none-at j t at);
    removed = λ i j t u at. absurd (none-at i t at);
    own = λ j t id at. absurd (none-at j t at);
    answered = λ k h at. absurd (none-at k h at);
    in_order = (shared-steps shared.up shared.down (Added 0 temp ∷ []), shared-steps shared.down shared.up shared_lines);
  }

  shared-completes : CompletesOnce Due Shows Means shared_id 0 shared_lines
  shared-completes = record {
    told = λ i intent o at. absurd (no-line i _ at (λ channel e. cc));
    lost = λ i channel at. absurd (no-line i _ at (λ c e. cc));
    once = λ i l intent o p uses at. absurd (no-line i _ at (λ channel e. cc));
    one_call = λ i l intent e f at. absurd (no-line i _ at (λ channel g. cc));
    sent = λ intent e asks h. absurd (no-line h.0 _ h.1 (λ channel g. cc));
    at_one = λ intent n k m l asks a. (let o = no-uses n k intent a in absurd (subst IsRequest (sym o.1) asks));
  }

  shared-writes : NotTwice Due Shows Means shared_id
  shared-writes = record {
    once = λ n k l m i j r q v u a. absurd (no-write n k l i r v a);
    own = λ n k l i r v a. absurd (no-write n k l i r v a);
    waits = λ n k l i r v a. (let z = (only-entry i _ (subst (λ (s : List Entry). At s i (Waits n k r v)) (one-at (Added 0 temp ∷ []) l a.0 a.1).1 a.2)).1 in absurd cc);
    dropped = λ n k l i y at drops. (let z = (only-entry i _ (subst (λ (s : List Entry). At s i (Withdrawn n k)) (one-at (Added 0 temp ∷ []) l y at).1 drops)).1 in absurd cc);
    finished = λ n k l e y at ends. (let z = (only-entry e _ (subst (λ (s : List Entry). At s e (Finished n k)) (one-at (Added 0 temp ∷ []) l y at).1 ends)).1 in absurd cc);
    done = λ life channel number x at h. absurd (no-line h.0 _ (subst (λ (s : List Line). At s h.0 (Noticed (On channel (Request Put number)) outcome.Done)) (one-at shared_lines life x at).1 h.1) (λ c e. cc));
    failed = λ life n k l i r intent s x v at h stands applied. no-write n k l i r v applied;
  }

  shared-follows : FollowsRecord Due Shows Means 0 shared shared_lines (Added 0 temp ∷ [])
  shared-follows k r s h accepted = absurd (none-at k h accepted.4)

  shared-sees : Sees Due Shows Means shared_id 0 shared_lines
  shared-sees = record {
    own = λ i intent o at. absurd (no-line i _ at (λ channel e. cc));
    in_order = λ i intent o by j a t at. absurd (no-line i _ at (λ channel e. cc));
  }

  pub shared-is-safe : Safe Due Shows Means shared_id
  shared-is-safe = record {
    acts = each-circuit (ActsOnRecord Due Shows Means) shared-acts;
    own = (each-circuit (AnswersOwn Due Shows Means) shared-answers, each-life (CompletesOnce Due Shows Means shared_id) shared-completes);
    applied = shared-writes;
    sees = (each-circuit (FollowsRecord Due Shows Means) shared-follows, each-life (Sees Due Shows Means shared_id) shared-sees);
  }

pub shared-safe : IsSafe ports rules shared_id
shared-safe = shared-is-safe (IsDue ports rules)
