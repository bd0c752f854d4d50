-- A channel that moves to another server, on a circuit that was there before: the world is safe and legal.
use Rattle.std.proofs.Common.{◌≡◌, ℕ, ◌⊎◌, inl, inr, List, [], ◌∷◌, refl, sym, ap, subst, ◌∙◌, arith}
use Rattle.std.specs.Prelude.{take, true, false, Bool}
use Rattle.ca_text.specs.Place.{At}
use Rattle.ca_text.proofs.Places.{some_is}
use Rattle.ca_dbr.specs.declared.value.Outcome.{Outcome}
use Rattle.ca_dbr.specs.declared.value.Outcome.TheVariants as outcome
use Rattle.ca_dbr.specs.declared.data_type.BaseType.TheVariants as base
use Rattle.ca_dbr.specs.declared.data_type.Form.TheVariants as form
use Rattle.ca_display.specs.declared.image_type.ImageType.TheVariants as any
use Rattle.ca_dbr.specs.Elements as E
use Rattle.ca_model.specs.Speech.{Stored}
use Rattle.ca_wire.specs.Messages.{mask_in}
use Rattle.ca_model.specs.History.{Circuit, Intent, On, Create, Request, Subscribe, Put, Line, Entry, Sent, Told, Step, Added, Finished, Withdrawn, Reply, Update, Cause, Called, Noticed, Updated, Wish}
use Rattle.ca_model.specs.Channels.{IsApplied, IsLost, IsRequest, IsUse, IsWaiting, Joins, OfCircuits, OfClients, Stands, updates}
use Rattle.ca_model.specs.Headline.{ActsOnRecord, AnswersOwn, CompletesOnce, Follows, FollowsRecord, LosesLive, NotTwice, Reads, Sees}
use Rattle.ca_model.specs.Known.{IsSafe}
use Rattle.ca_model.specs.Legal.{IsSent, Legal, LegalCircuit}
use Rattle.ca_requests.specs.Meaning.{Means}
use Rattle.ca_model.specs.Posts.{matching}
use Rattle.ca_model.specs.Updates.{Shows}
use Rattle.ca_model_examples.specs.Worlds.{adding, created_told, creating, long, ports, rules, step}
use Rattle.ca_model_examples.specs.Safe.{first_update}
use Rattle.ca_model_examples.specs.Moved.{ended, found_again, moved, moved_entries, moved_lines, moved_world, valued}
use Rattle.ca_model_examples.proofs.Lists.{at-take, each-at, one-at, two-at}
use Rattle.ca_model_examples.proofs.Quiet.{clash}
use Rattle.ca_model_examples.proofs.SmallDue.{TrueDue}
use Rattle.ca_model_examples.proofs.UsedActs.{channel-of}
use Rattle.ca_model_examples.proofs.MovedActs.{moved-acts}
use Rattle.ca_model_examples.proofs.MovedOwn.{moved-answers}
use Rattle.ca_model_examples.proofs.MovedLegal.{call-at, is-held, moved-circuit, no-clear-line}

-- ---- what holds of each circuit of the one form, and of the life, holds of each

each-circuit : (o p : Outcome) (P : ℕ → Circuit → List Line → List Entry → Type 0)
    → P 0 found_again (moved_lines o p) (moved_entries 5) → P 1 ended (moved_lines o p) (moved_entries 7) → OfCircuits (moved_world o p) P
each-circuit o p P again before n c at =
    elim (two-at found_again ended n c at) [
      | inl e ↦ subst (λ (d : Circuit). (x : List Line) × (y : List Entry) × Joins (moved_world o p) n d x y × P n d x y) (sym e.1) (
          subst (λ (m : ℕ). (x : List Line) × (y : List Entry) × Joins (moved_world o p) m found_again x y × P m found_again x y) (sym e.0) (moved_lines o p, moved_entries 5, (refl, refl, refl), again))
      | inr e ↦ subst (λ (d : Circuit). (x : List Line) × (y : List Entry) × Joins (moved_world o p) n d x y × P n d x y) (sym e.1) (
          subst (λ (m : ℕ). (x : List Line) × (y : List Entry) × Joins (moved_world o p) m ended x y × P m ended x y) (sym e.0) (moved_lines o p, moved_entries 7, (refl, refl, refl), before))
    ]

each-life : (o p : Outcome) (P : ℕ → List Line → Type 0) → P 0 (moved_lines o p) → OfClients (moved_world o p) P
each-life o p P h life x at =
    let e = one-at (moved_lines o p) life x at in
    subst (λ (y : List Line). P life y) (sym e.1) (subst (λ (m : ℕ). P m (moved_lines o p)) (sym e.0) h)

pub moved-legal : (o p : Outcome) → Legal (moved_world o p)
moved-legal o p = record {
  circuits = each-circuit o p LegalCircuit (moved-circuit 0 5 6 5 true o p) (moved-circuit 1 1 3 7 false o p);
  subscriptions = each-life o p (IsSent (moved_world o p)) (λ channel number h. (0, 1, (found_again, refl, refl, (adding 0 9, refl, (call-at o p h.1.0 channel number h.0 h.1.1).1))));
  ids = λ n m l k c d s r a b lt at_c at_d same open_c open_d at_s at_r gives_s gives_r index. elim (two-at found_again ended m d at_d) [
    | inl first ↦ (let zero_is = first.0 in absurd (omega (arith, lt, zero_is)))
    | inr second ↦ absurd (clash (sym (ap (λ (e : Circuit). e.client_open) second.1) ∙ open_d) refl)
  ];
}

-- ---- the client's log

abbrev intent-of : Line → Intent
intent-of (Called i e) = i
intent-of (Noticed i o) = i
intent-of (Updated i o) = i
intent-of l = On 0 Create

abbrev outcome-of : Line → Outcome
outcome-of (Noticed i o) = o
outcome-of (Updated i o) = o
outcome-of l = outcome.Done

abbrev is-done : Outcome → Bool
is-done outcome.Done = true
is-done p = false

not-lost : outcome.Done ≡ outcome.Disconnected → ⊥
not-lost e = (let f : true ≡ false = ap is-done e in cc)

abbrev Read : (o p : Outcome) → ℕ → Intent → Outcome → Type 0
Read o p i intent q = Reads TrueDue Shows Means (moved_world o p) 0 (moved_lines o p) i intent q

abbrev live-first : (o p : Outcome) → Read o p 1 (On 0 Create) outcome.Done
live-first o p = record {
  n = 1;
  c = ended;
  on = (refl, refl);
  j = 1;
  t = created_told;
  h = step 1 1 2;
  read = (refl, refl, refl, omega arith);
  own = (creating, refl, refl);
  held = no-clear-line o p 1 0;
  means = inr (inr (inl (refl, tt)));
}

abbrev live-again : (o p : Outcome) → Read o p 5 (On 0 Create) outcome.Done
live-again o p = record {
  n = 0;
  c = found_again;
  on = (refl, refl);
  j = 1;
  t = created_told;
  h = step 1 5 6;
  read = (refl, refl, refl, omega arith);
  own = (creating, refl, refl);
  held = no-clear-line o p 5 0;
  means = inr (inr (inl (refl, tt)));
}

was-lost : (o p : Outcome) → IsLost (moved_world o p) 0 (moved_lines o p) 4 (On 0 Create)
was-lost o p = (1, 0, 0, Create, ended, refl, refl, refl, (creating, refl, refl), inl refl)

abbrev Bears : (o p : Outcome) → ℕ → Intent → Outcome → Type 0
Bears o p i intent q = ((by : Read o p i intent q) × (by.t.cause ≡ Reply)) ⊎ ((q ≡ outcome.Disconnected) × IsLost (moved_world o p) 0 (moved_lines o p) i intent)

bears : (o p : Outcome) (i : ℕ) (d intent : Intent) (r q : Outcome) → d ≡ intent → r ≡ q → Bears o p i d r → Bears o p i intent q
bears o p i d intent r q e f h = subst (λ (a : Intent). Bears o p i a q) e (subst (λ (b : Outcome). Bears o p i d b) f h)

told : (o p : Outcome) (i : ℕ) (intent : Intent) (q : Outcome) → At (moved_lines o p) i (Noticed intent q) → Bears o p i intent q
told o p i intent q at =
    each-at (λ (k : ℕ) (l : Line). l ≡ Noticed intent q → Bears o p k intent q) (moved_lines o p) (
      (λ f. absurd cc),
      (
        (λ f. bears o p 1 (On 0 Create) intent outcome.Done q (ap intent-of f) (ap outcome-of f) (inl (live-first o p, refl))),
        (
          (λ f. absurd cc),
          (
            (λ f. absurd cc),
            (
              (λ f. bears o p 4 (On 0 Create) intent outcome.Disconnected q (ap intent-of f) (ap outcome-of f) (inr (refl, was-lost o p))),
              (
                (λ f. bears o p 5 (On 0 Create) intent outcome.Done q (ap intent-of f) (ap outcome-of f) (inl (live-again o p, refl))),
                ((λ f. absurd cc), tt),
              ),
            ),
          ),
        ),
      ),
    ) i _ at refl

-- each notice is of the channel
noticed-at : (o p : Outcome) (i : ℕ) (intent : Intent) (q : Outcome) → At (moved_lines o p) i (Noticed intent q) → On 0 Create ≡ intent
noticed-at o p i intent q at =
    each-at (λ (k : ℕ) (l : Line). l ≡ Noticed intent q → On 0 Create ≡ intent) (moved_lines o p) (
      (λ f. absurd cc),
      (
        (λ f. ap intent-of f),
        ((λ f. absurd cc), ((λ f. absurd cc), ((λ f. ap intent-of f), ((λ f. ap intent-of f), ((λ f. absurd cc), tt))))),
      ),
    ) i _ at refl

no-use : (o p : Outcome) (i : ℕ) (intent : Intent) (q : Outcome) → At (moved_lines o p) i (Noticed intent q) → IsUse intent → ⊥
no-use o p i intent q at uses = subst IsUse (sym (noticed-at o p i intent q at)) uses

lost-line : (o p : Outcome) (i channel : ℕ) → At (moved_lines o p) i (Noticed (On channel Create) outcome.Disconnected) → i ≡ 4
lost-line o p i channel at =
    each-at (λ (k : ℕ) (l : Line). l ≡ Noticed (On channel Create) outcome.Disconnected → k ≡ 4) (moved_lines o p) (
      (λ f. absurd cc),
      (
        (λ f. absurd (not-lost (ap outcome-of f))),
        ((λ f. absurd cc), ((λ f. absurd cc), ((λ f. refl), ((λ f. absurd (not-lost (ap outcome-of f))), ((λ f. absurd cc), tt))))),
      ),
    ) i _ at refl

called-at : (o p : Outcome) (i : ℕ) (intent : Intent) (e : Wish) → At (moved_lines o p) i (Called intent e) → (i ≡ 2) × (On 0 (Subscribe 0) ≡ intent)
called-at o p i intent e at =
    each-at (λ (k : ℕ) (l : Line). l ≡ Called intent e → (k ≡ 2) × (On 0 (Subscribe 0) ≡ intent)) (moved_lines o p) (
      (λ f. absurd cc),
      ((λ f. absurd cc), ((λ f. (refl, ap intent-of f)), ((λ f. absurd cc), ((λ f. absurd cc), ((λ f. absurd cc), ((λ f. absurd cc), tt)))))),
    ) i _ at refl

-- both circuits carry the same messages of the client
up-at : (o p : Outcome) (n k : ℕ) (c : Circuit) (s : Sent) → At (moved_world o p).circuits n c → At c.up k s → At found_again.up k s
up-at o p n k c s here at =
    elim (two-at found_again ended n c here) [
      | inl e ↦ subst (λ (d : Circuit). At d.up k s) e.1 at
      | inr e ↦ subst (λ (d : Circuit). At d.up k s) e.1 at
    ]

no-request : (o p : Outcome) (intent : Intent) (n k : ℕ) → IsRequest intent → Stands (moved_world o p) 0 intent n k → ⊥
no-request o p intent n k asks h =
    each-at (λ (i : ℕ) (s : Sent). s.intent ≡ intent → ⊥) found_again.up ((λ e. subst IsRequest (sym e) asks), ((λ e. subst IsRequest (sym e) asks), tt)) k h.3.0 (up-at o p n k h.0 h.3.0 h.1 h.3.1) h.3.2

-- the one loss is of the channel that was live on the circuit that ended
lost-there : (o p : Outcome) → LosesLive TrueDue Shows Means (moved_world o p) 0 (moved_lines o p) 4 0
lost-there o p = record {
  l = 1;
  by = live-first o p;
  live = (refl, omega arith, no-clear-line o p 4 0);
  since = λ m low high at. (let four : m ≡ 4 = lost-line o p m 0 at in omega (arith, four, high));
  why = inl refl;
}

moved-completes : (o p : Outcome) → CompletesOnce TrueDue Shows Means (moved_world o p) 0 (moved_lines o p)
moved-completes o p = record {
  told = told o p;
  lost = λ i channel at. (
      let four : i ≡ 4 = lost-line o p i channel at in
      let zero : 0 ≡ channel = ap channel-of (noticed-at o p i (On channel Create) outcome.Disconnected at) in
      subst (λ (k : ℕ). LosesLive TrueDue Shows Means (moved_world o p) 0 (moved_lines o p) k channel) (sym four)
      (subst (λ (c : ℕ). LosesLive TrueDue Shows Means (moved_world o p) 0 (moved_lines o p) 4 c) zero (lost-there o p)));
  once = λ i l intent q r uses a b. absurd (no-use o p i intent q a uses);
  one_call = λ i l intent e f a b. (called-at o p i intent e a).0 ∙ sym (called-at o p l intent f b).0;
  sent = λ intent e asks h. absurd (subst IsRequest (sym (called-at o p h.0 intent e h.1).1) asks);
  at_one = λ intent n k m l asks a. absurd (no-request o p intent n k asks a);
}

-- ---- writes: none

-- each server only added its record
only-added : (o p : Outcome) (l i : ℕ) (y : List Entry) (e : Entry) → At (moved_world o p).servers l y → At y i e
    → (e ≡ Added 0 (valued 5)) ⊎ (e ≡ Added 0 (valued 7))
only-added o p l i y e here at =
    elim (two-at (moved_entries 5) (moved_entries 7) l y here) [
      | inl f ↦ inl (one-at (Added 0 (valued 5)) i e (subst (λ (s : List Entry). At s i e) f.1 at)).1
      | inr f ↦ inr (one-at (Added 0 (valued 7)) i e (subst (λ (s : List Entry). At s i e) f.1 at)).1
    ]

no-write : (o p : Outcome) (n k l i r : ℕ) (v : Stored) → IsApplied (moved_world o p) n k l i r v → ⊥
no-write o p n k l i r v a =
    elim (only-added o p l i a.0 _ a.2 a.3) [
      | inl e ↦ cc
      | inr e ↦ cc
    ]

no-finish : (o p : Outcome) (n k l e : ℕ) (y : List Entry) → At (moved_world o p).servers l y → At y e (Finished n k) → ⊥
no-finish o p n k l e y at ends =
    elim (only-added o p l e y _ at ends) [
      | inl f ↦ cc
      | inr f ↦ cc
    ]

no-drop : (o p : Outcome) (n k l i : ℕ) (y : List Entry) → At (moved_world o p).servers l y → At y i (Withdrawn n k) → ⊥
no-drop o p n k l i y at drops =
    elim (only-added o p l i y _ at drops) [
      | inl f ↦ cc
      | inr f ↦ cc
    ]

no-wait : (o p : Outcome) (n k l i r : ℕ) (v : Stored) → IsWaiting (moved_world o p) n k l i r v → ⊥
no-wait o p n k l i r v a =
    elim (only-added o p l i a.0 _ a.1 a.2) [
      | inl f ↦ cc
      | inr f ↦ cc
    ]

moved-writes : (o p : Outcome) → NotTwice TrueDue Shows Means (moved_world o p)
moved-writes o p = record {
  once = λ n k l m i j r q v u a. absurd (no-write o p n k l i r v a);
  own = λ n k l i r v a. absurd (no-write o p n k l i r v a);
  waits = λ n k l i r v a. absurd (no-wait o p n k l i r v a);
  dropped = λ n k l i y at drops. absurd (no-drop o p n k l i y at drops);
  finished = λ n k l e y at ends. absurd (no-finish o p n k l e y at ends);
  done = λ life channel number x at h. absurd (no-use o p h.0 _ outcome.Done (subst (λ (s : List Line). At s h.0 (Noticed (On channel (Request Put number)) outcome.Done)) (one-at (moved_lines o p) life x at).1 h.1) tt);
  failed = λ life n k l i r intent s x v at h stands applied. no-write o p n k l i r v applied;
}

-- ---- updates

abbrev item : Cause → ℕ
item (Update a) = a
item c = 0

abbrev record-of : Entry → ℕ
record-of (Added r s) = r
record-of e = 0

abbrev is-update : Cause → Bool
is-update (Update a) = true
is-update c = false

shows-7 : Shows (adding 0 9).message (long 7) (first_update 1 7).message
unfolding E.signed_bytes_4
shows-7 = (any.Data (record { base = base.Long; form = form.Plain }), refl, refl)

shows-5 : Shows (adding 0 9).message (long 5) (first_update 1 5).message
unfolding E.signed_bytes_4
shows-5 = (any.Data (record { base = base.Long; form = form.Plain }), refl, refl)

-- both circuits have one form
module _ (server live read value : ℕ) (stays : Bool) (shows : Shows (adding 0 9).message (long value) (first_update 1 value).message) where
  abbrev c : Circuit
  c = moved server live read value stays

  -- the one update
  update-at : (k i a : ℕ) → At (updates c) i (k, Update a) → (k ≡ 1) × (i ≡ 2) × (a ≡ 0)
  update-at k i a at =
      each-at (λ (j : ℕ) (u : ℕ × Cause). u ≡ (k, Update a) → (k ≡ 1) × (j ≡ 2) × (a ≡ 0)) (updates c) (
        (λ e. absurd (let f : false ≡ true = ap (λ (u : ℕ × Cause). is-update u.1) e in cc)),
        (
          (λ e. absurd (let f : false ≡ true = ap (λ (u : ℕ × Cause). is-update u.1) e in cc)),
          ((λ e. (ap (λ (u : ℕ × Cause). u.0) (sym e), refl, ap (λ (u : ℕ × Cause). item u.1) (sym e))), tt),
        ),
      ) i _ at refl

  told-at : (j a : ℕ) (t : Told) → At c.down j t → t.cause ≡ Update a → (a ≡ 0) × (t ≡ first_update 1 value)
  told-at j a t at cause =
      each-at (λ (i : ℕ) (u : Told). u.cause ≡ Update a → (a ≡ 0) × (u ≡ first_update 1 value)) c.down ((λ f. absurd cc), ((λ f. absurd cc), ((λ f. (ap item (sym f), refl)), tt))) j t at cause

  follows : Follows TrueDue Shows Means c (moved_entries value) 1 0 (adding 0 9) (long value ∷ [])
  follows = record {
    rising = λ i j a b lt f g. (let d = (update-at 1 i a f).1 in let e = (update-at 1 j b g).1 in absurd (omega (arith, d, e, lt)));
    matches = λ a h. (let e = (update-at 1 h.0 a h.1).2 in omega (arith, e));
    shows = λ j a t at place cause. (let w = told-at j a t at cause in (long value, subst (λ (k : ℕ). At (long value ∷ []) k (long value)) (sym w.0) refl, subst (λ (u : Told). Shows (adding 0 9).message (long value) u.message) (sym w.1) shows));
    newest = λ lasts. (0, (2, refl), refl);
  }

  -- where the subscription was asked for
  asked-at : (k channel number : ℕ) (s : Sent) → At c.up k s → s.intent ≡ On channel (Subscribe number) → (k ≡ 1) × (s ≡ adding 0 9)
  asked-at k channel number s at is =
      each-at (λ (i : ℕ) (z : Sent). z.intent ≡ On channel (Subscribe number) → (i ≡ 1) × (z ≡ adding 0 9)) c.up ((λ e. absurd cc), ((λ e. (refl, refl)), tt)) k s at is

  abbrev Followed : (k r : ℕ) → Sent → Step → Type 0
  Followed k r s h = Follows TrueDue Shows Means c (moved_entries value) k r s (matching (moved_entries value) h.logged r (mask_in s.message))

  followed : (k r : ℕ) (s : Sent) (h : Step) → k ≡ 1 → h ≡ step 2 1 1 → s ≡ adding 0 9 → r ≡ 0 → Followed k r s h
  followed k r s h e f g i =
      subst (λ (z : ℕ). Followed z r s h) (sym e) (subst (λ (z : ℕ). Followed 1 z s h) (sym i) (subst (λ (z : Sent). Followed 1 0 z h) (sym g) (subst (λ (z : Step). Followed 1 0 (adding 0 9) z) (sym f) follows)))

  moved-follows : (o p : Outcome) → FollowsRecord TrueDue Shows Means server c (moved_lines o p) (moved_entries value)
  moved-follows o p k r s h accepted =
      let asked = asked-at k accepted.0 accepted.1 s accepted.2 accepted.3 in
      let first : h ≡ step 2 1 1 = some_is h (step 2 1 1) (sym (subst (λ (i : ℕ). At c.handled i h) asked.0 accepted.4)) in
      let acted = accepted.5 in
      let has = acted.6.0.9 in
      let there = at-take acted.1.logged (moved_entries value) has.1.0 _ (at-take acted.6.0.2.logged (take acted.1.logged (moved_entries value)) has.1.0 _ has.1.1) in
      followed k r s h asked.0 first asked.1 (ap record-of (one-at (Added 0 (valued value)) has.1.0 _ there).1)

-- ---- what was seen

abbrev Reading : (o p : Outcome) → ℕ → Intent → Outcome → Type 0
Reading o p i intent q = (by : Read o p i intent q) × (a : ℕ) × (by.t.cause ≡ Update a)

saw-7 : (o p : Outcome) → Means (first_update 1 7).message o → Reading o p 3 (On 0 (Subscribe 0)) o
saw-7 o p means = (
  record {
    n = 1;
    c = ended;
    on = (refl, refl);
    j = 2;
    t = first_update 1 7;
    h = step 2 3 4;
    read = (refl, refl, refl, omega arith);
    own = (adding 0 9, refl, refl);
    held = is-held o p 3 0 0;
    means = means;
  },
  0,
  refl,
)

saw-5 : (o p : Outcome) → Means (first_update 1 5).message p → Reading o p 6 (On 0 (Subscribe 0)) p
saw-5 o p means = (
  record {
    n = 0;
    c = found_again;
    on = (refl, refl);
    j = 2;
    t = first_update 1 5;
    h = step 2 6 7;
    read = (refl, refl, refl, omega arith);
    own = (adding 0 9, refl, refl);
    held = is-held o p 6 0 0;
    means = means;
  },
  0,
  refl,
)

reading : (o p : Outcome) (i : ℕ) (intent : Intent) (r q : Outcome) → On 0 (Subscribe 0) ≡ intent → r ≡ q → Reading o p i (On 0 (Subscribe 0)) r → Reading o p i intent q
reading o p i intent r q e f h = subst (λ (d : Intent). Reading o p i d q) e (subst (λ (b : Outcome). Reading o p i (On 0 (Subscribe 0)) b) f h)

-- where the server's message about an EVENT_ADD is, on each circuit
about-at : (o p : Outcome) (n j k : ℕ) (c : Circuit) (t : Told) → At (moved_world o p).circuits n c → At c.down j t → t.place ≡ k → k ≡ 1 → j ≡ 2
about-at o p n j k c t here at place is =
    elim (two-at found_again ended n c here) [
      | inl e ↦ each-at (λ (i : ℕ) (u : Told). u.place ≡ k → i ≡ 2) found_again.down ((λ f. absurd (omega (arith, f, is))), ((λ f. absurd (omega (arith, f, is))), ((λ f. refl), tt))) j t (subst (λ (d : Circuit). At d.down j t) e.1 at) place
      | inr e ↦ each-at (λ (i : ℕ) (u : Told). u.place ≡ k → i ≡ 2) ended.down ((λ f. absurd (omega (arith, f, is))), ((λ f. absurd (omega (arith, f, is))), ((λ f. refl), tt))) j t (subst (λ (d : Circuit). At d.down j t) e.1 at) place
    ]

updated-intent : (o p : Outcome) (i : ℕ) (intent : Intent) (q : Outcome) → At (moved_lines o p) i (Updated intent q) → On 0 (Subscribe 0) ≡ intent
updated-intent o p i intent q at =
    each-at (λ (k : ℕ) (l : Line). l ≡ Updated intent q → On 0 (Subscribe 0) ≡ intent) (moved_lines o p) (
      (λ f. absurd cc),
      ((λ f. absurd cc), ((λ f. absurd cc), ((λ f. ap intent-of f), ((λ f. absurd cc), ((λ f. absurd cc), ((λ f. ap intent-of f), tt)))))),
    ) i _ at refl

moved-sees : (o p : Outcome) → Means (first_update 1 7).message o → Means (first_update 1 5).message p → Sees TrueDue Shows Means (moved_world o p) 0 (moved_lines o p)
moved-sees o p first later = record {
  own = λ i intent q at. each-at (λ (k : ℕ) (l : Line). l ≡ Updated intent q → Reading o p k intent q) (moved_lines o p) (
    (λ f. absurd cc),
    (
      (λ f. absurd cc),
      (
        (λ f. absurd cc),
        (
          (λ f. reading o p 3 intent o q (ap intent-of f) (ap outcome-of f) (saw-7 o p first)),
          ((λ f. absurd cc), ((λ f. absurd cc), ((λ f. reading o p 6 intent p q (ap intent-of f) (ap outcome-of f) (saw-5 o p later)), tt))),
        ),
      ),
    ),
  ) i _ at refl;
  in_order = λ i intent q by j a t at early here place cause. (
      let m = by.own in
      let up : At found_again.up by.t.place m.0 = up-at o p by.n by.t.place by.c m.0 by.on.0 m.1 in
      let is = (asked-at 0 5 6 5 true shows-5 by.t.place 0 0 m.0 up (m.2 ∙ sym (updated-intent o p i intent q at))).0 in
      let d = about-at o p by.n by.j by.t.place by.c by.t by.on.0 by.read.0 refl is in
      let e = about-at o p by.n j by.t.place by.c t by.on.0 here place is in
      absurd (omega (arith, d, e, early)));
}

pub moved-safe : (o p : Outcome) → Means (first_update 1 7).message o → Means (first_update 1 5).message p → IsSafe ports rules (moved_world o p)
moved-safe o p first later = record {
  acts = each-circuit o p (ActsOnRecord TrueDue Shows Means) (moved-acts 0 5 6 5 true o p) (moved-acts 1 1 3 7 false o p);
  own = (
    each-circuit o p (AnswersOwn TrueDue Shows Means) (moved-answers 0 5 6 5 true (omega arith) (omega arith) o p) (moved-answers 1 1 3 7 false (omega arith) (omega arith) o p),
    each-life o p (CompletesOnce TrueDue Shows Means (moved_world o p)) (moved-completes o p),
  );
  applied = moved-writes o p;
  sees = (
    each-circuit o p (FollowsRecord TrueDue Shows Means) (moved-follows 0 5 6 5 true shows-5 o p) (moved-follows 1 1 3 7 false shows-7 o p),
    each-life o p (Sees TrueDue Shows Means (moved_world o p)) (moved-sees o p first later),
  );
}
