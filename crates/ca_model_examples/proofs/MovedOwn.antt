-- A channel that moves: on each of its circuits each answer is its own request's.
use Rattle.std.proofs.Common.{◌≡◌, ℕ, ◌<◌, ◌≤◌, ◌+◌, inl, inr, [], ◌∷◌, refl, sym, subst, arith}
use Rattle.std.specs.Prelude.{None, Bool}
use Rattle.ca_text.specs.Place.{At}
use Rattle.ca_dbr.specs.declared.value.Outcome.{Outcome}
use Rattle.ca_wire.specs.Fields.{Fields}
use Rattle.ca_model.specs.Speech.{Cid, Gives, Id, Speaks, SubId}
use Rattle.ca_model.specs.History.{Circuit, Sent, Told, Step, Reply, Removal}
use Rattle.ca_model.specs.Channels.{AreSteps, IsReply, Suits}
use Rattle.ca_model.specs.Headline.{Answered, AnswersOwn}
use Rattle.ca_model.specs.Causes.{HasCause, TakesOwn}
use Rattle.ca_requests.specs.Meaning.{Means}
use Rattle.ca_model.specs.Updates.{Shows}
use Rattle.ca_model_examples.specs.Worlds.{adding, created_told, creating, rights_told, step}
use Rattle.ca_model_examples.specs.Safe.{first_update}
use Rattle.ca_model_examples.specs.Moved.{moved, moved_entries, moved_lines}
use Rattle.ca_model_examples.proofs.Lists.{each-at, none-at}
use Rattle.ca_model_examples.proofs.Speaks.{heads, of-channel, of-update}
use Rattle.ca_model_examples.proofs.SmallDue.{TrueDue}
use Rattle.ca_model_examples.proofs.MovedActs.{no-reply, open-1}
use Rattle.ca_model_examples.proofs.MovedDue.{moved-added, moved-created}

abbrev Before : Step → ℕ → ℕ → Step → Type 0
Before g i j h = i < j → (g.sent ≤ h.sent) × (g.after ≤ h.logged)

-- both circuits have one form, and tell their update after the channel is live
module _ (server live read value : ℕ) (stays : Bool) (rising : live < read) (short : read < 7) where
  abbrev c : Circuit
  c = moved server live read value stays

  -- ---- ids

  cid-at : (l : ℕ) (r : Sent) → At c.up l r → Gives r.message (Cid 1) → l ≡ 0
  cid-at l r at gives =
      each-at (λ (i : ℕ) (z : Sent). Gives z.message (Cid 1) → i ≡ 0) c.up ((λ g. refl), ((λ g. (let e = g.0 in absurd (omega (arith, e)))), tt)) l r at gives

  sub-at : (l : ℕ) (r : Sent) → At c.up l r → Gives r.message (SubId 9) → l ≡ 1
  sub-at l r at gives =
      each-at (λ (i : ℕ) (z : Sent). Gives z.message (SubId 9) → i ≡ 1) c.up ((λ g. (let e = g.0 in absurd (omega (arith, e)))), ((λ g. refl), tt)) l r at gives

  takes-0 : TakesOwn c 0 0 (Cid 1)
  takes-0 = (0, 0, creating, creating, (creating, refl, (refl, refl), omega arith, (λ l r after early at gives. (let e = cid-at l r at gives in omega (arith, e, after)))), omega arith, refl, refl, refl, refl)

  takes-1 : TakesOwn c 1 0 (Cid 1)
  takes-1 = (0, 0, creating, creating, (creating, refl, (refl, refl), omega arith, (λ l r after early at gives. (let e = cid-at l r at gives in omega (arith, e, after)))), omega arith, refl, refl, refl, refl)

  takes-2 : TakesOwn c 2 1 (SubId 9)
  takes-2 = (1, 0, adding 0 9, adding 0 9, (adding 0 9, refl, (refl, refl), omega arith, (λ l r after early at gives. (let e = sub-at l r at gives in omega (arith, e, after)))), omega arith, refl, refl, refl, refl)

  own : (j : ℕ) (t : Told) (id : Id) → At c.down j t → Speaks t.message id → TakesOwn c j t.place id
  own j t id at says =
      each-at (λ (i : ℕ) (u : Told). (d : Id) → Speaks u.message d → TakesOwn c i u.place d) c.down (
        (λ d s. subst (λ (e : Id). TakesOwn c 0 0 e) (sym (of-channel rights_told.message d (inl refl) (heads rights_told.message d (λ e. omega (arith, e)) s))) takes-0),
        (
          (λ d s. subst (λ (e : Id). TakesOwn c 1 0 e) (sym (of-channel created_told.message d (inr refl) (heads created_told.message d (λ e. omega (arith, e)) s))) takes-1),
          ((λ d s. subst (λ (e : Id). TakesOwn c 2 1 e) (sym (of-update (first_update 1 value).message d refl (heads (first_update 1 value).message d (λ e. omega (arith, e)) s))) takes-2), tt),
        ),
      ) j t at id says

  -- ---- causes

  caused : (j : ℕ) (t : Told) → At c.down j t → HasCause c (moved_entries value) t t.cause × ((h : Step) × At c.handled t.place h × (h.sent ≤ j))
  caused j t at =
      each-at (λ (i : ℕ) (u : Told). HasCause c (moved_entries value) u u.cause × ((h : Step) × At c.handled u.place h × (h.sent ≤ i))) c.down (
        (tt, (step 0 1 1, refl, omega arith)),
        (
          (tt, (step 0 1 1, refl, omega arith)),
          (
            ((0, adding 0 9, step 2 1 1, (0, 0, refl, refl, refl, (adding 0 9, step 2 1 1, 1, 0, refl, refl, open-1 server live read value stays), (λ k u a q f. no-reply server live read value stays k 1 u refl a q f))), (step 2 1 1, refl, omega arith)),
            tt,
          ),
        ),
      ) j t at

  no-removal-told : (j : ℕ) (t : Told) → At c.down j t → t.cause ≡ Removal → ⊥
  no-removal-told j t at cause = each-at (λ (i : ℕ) (u : Told). u.cause ≡ Removal → ⊥) c.down ((λ e. cc), ((λ e. cc), ((λ e. cc), tt))) j t at cause

  -- ---- steps

  server-steps : AreSteps c.handled c.up c.down (moved_entries value)
  server-steps = record {
    one_each = omega arith;
    within = λ k h at. each-at (λ (i : ℕ) (g : Step). (g.sent ≤ 3) × (g.logged ≤ g.after) × (g.after ≤ 1)) c.handled ((omega arith, omega arith, omega arith), ((omega arith, omega arith, omega arith), tt)) k h at;
    rise = λ i j g h lt p q. each-at (λ (a : ℕ) (u : Step). (b : ℕ) (v : Step) → At c.handled b v → Before u a b v) c.handled (
      (λ b v z. each-at (Before (step 0 1 1) 0) c.handled ((λ l. absurd (omega (arith, l))), ((λ l. (omega arith, omega arith)), tt)) b v z),
      ((λ b v z. each-at (Before (step 2 1 1) 1) c.handled ((λ l. absurd (omega (arith, l))), ((λ l. absurd (omega (arith, l))), tt)) b v z), tt),
    ) i g p j h q lt;
  }

  client-steps : (o p : Outcome) → AreSteps c.heard c.down c.up (moved_lines o p)
  client-steps o p = record {
    one_each = omega arith;
    within = λ k h at. each-at (λ (i : ℕ) (g : Step). (g.sent ≤ 2) × (g.logged ≤ g.after) × (g.after ≤ 7)) c.heard (
      (omega arith, omega arith, omega (arith, rising, short)),
      ((omega arith, omega arith, omega (arith, rising, short)), ((omega arith, omega arith, omega (arith, short)), tt)),
    ) k h at;
    rise = λ i j g h lt s q. each-at (λ (a : ℕ) (u : Step). (b : ℕ) (v : Step) → At c.heard b v → Before u a b v) c.heard (
      (λ b v z. each-at (Before (step 1 live live) 0) c.heard ((λ l. absurd (omega (arith, l))), ((λ l. (omega arith, omega arith)), ((λ l. (omega arith, omega (arith, rising))), tt))) b v z),
      (
        (λ b v z. each-at (Before (step 1 live (live + 1)) 1) c.heard ((λ l. absurd (omega (arith, l))), ((λ l. absurd (omega (arith, l))), ((λ l. (omega arith, omega (arith, rising))), tt))) b v z),
        ((λ b v z. each-at (Before (step 2 read (read + 1)) 2) c.heard ((λ l. absurd (omega (arith, l))), ((λ l. absurd (omega (arith, l))), ((λ l. absurd (omega (arith, l))), tt))) b v z), tt),
      ),
    ) i g s j h q lt;
  }

  -- ---- answers

  only-0 : (j : ℕ) (m : Fields) → IsReply c 0 j m → j < 2
  only-0 j m here = each-at (λ (i : ℕ) (t : Told). t.cause ≡ Reply → i < 2) c.down ((λ f. omega arith), ((λ f. omega arith), ((λ f. absurd cc), tt))) j _ here refl

  next-0 : (l : ℕ) (g : Step) → 0 < l → At c.handled l g → 2 ≤ g.sent
  next-0 l g after at = each-at (λ (i : ℕ) (h : Step). 0 < i → 2 ≤ h.sent) c.handled ((λ a. absurd (omega (arith, a))), ((λ a. omega arith), tt)) l g at after

  next-1 : (l : ℕ) (g : Step) → 1 < l → At c.handled l g → 2 ≤ g.sent
  next-1 l g after at = next-0 l g (omega (arith, after)) at

  answered-0 : Answered TrueDue Shows Means server c (moved_entries value) 0 (step 0 1 1)
  answered-0 = record {
    s = creating;
    at = refl;
    replies = rights_told.message ∷ created_told.message ∷ [];
    late = None;
    logs = [];
    due = moved-created server live read value stays;
    now = λ i m at. each-at (λ (j : ℕ) (z : Fields). IsReply c 0 (0 + j) z) (rights_told.message ∷ created_told.message ∷ []) (refl, (refl, tt)) i m at;
    logged = λ i e at. absurd (none-at i e at);
    within = omega arith;
    besides = λ i e low high at. absurd (omega (arith, low, high));
    place = 0;
    only = λ j m here. inl (only-0 j m here);
    comes = λ m e. absurd cc;
    next = next-0;
  }

  answered-1 : Answered TrueDue Shows Means server c (moved_entries value) 1 (step 2 1 1)
  answered-1 = record {
    s = adding 0 9;
    at = refl;
    replies = [];
    late = None;
    logs = [];
    due = moved-added server live read value stays;
    now = λ i m at. absurd (none-at i m at);
    logged = λ i e at. absurd (none-at i e at);
    within = omega arith;
    besides = λ i e low high at. absurd (omega (arith, low, high));
    place = 0;
    only = λ j m here. absurd (no-reply server live read value stays j 1 _ refl here refl refl);
    comes = λ m e. absurd cc;
    next = next-1;
  }

  pub moved-answers : (o p : Outcome) → AnswersOwn TrueDue Shows Means server c (moved_lines o p) (moved_entries value)
  moved-answers o p = record {
    asked = λ k s at. each-at (λ (i : ℕ) (z : Sent). Suits z.intent z.message) c.up (refl, (refl, tt)) k s at;
    caused = caused;
    removed = λ i j t u a b same f g. absurd (no-removal-told i t a f);
    own = own;
    answered = λ k h at. each-at (Answered TrueDue Shows Means server c (moved_entries value)) c.handled (answered-0, (answered-1, tt)) k h at;
    in_order = (server-steps, client-steps o p);
  }
