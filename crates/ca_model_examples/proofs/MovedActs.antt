-- A channel that moves: on each of its circuits a message acts on the record of its channel.
use Rattle.std.proofs.Common.{◌≡◌, ℕ, ◌<◌, inl, List, refl, sym, ap, subst, ◌∙◌, arith}
use Rattle.std.specs.Prelude.{take, Bool}
use Rattle.ca_text.specs.Place.{At}
use Rattle.ca_text.specs.declared.status.Status.{Status}
use Rattle.ca_dbr.specs.declared.value.Outcome.{Outcome}
use Rattle.ca_dbr.specs.declared.value.Outcome.TheVariants as outcome
use Rattle.ca_model.specs.Speech.{Clears, Creates}
use Rattle.ca_model.specs.History.{Circuit, On, Create, Line, Entry, Opened, Sent, Told, Added, Removed, Reply}
use Rattle.ca_model.specs.Channels.{IsNamed, IsOpen, IsUse, KeepNames, Meant, before}
use Rattle.ca_model.specs.Headline.{ActsOnRecord}
use Rattle.ca_model.specs.Causes.{Acted}
use Rattle.ca_requests.specs.Meaning.{Means}
use Rattle.ca_model.specs.Updates.{Shows}
use Rattle.ca_model_examples.specs.Worlds.{adding, created_told, creating, rights_told, step}
use Rattle.ca_model_examples.specs.Moved.{moved, moved_entries, moved_lines, valued}
use Rattle.ca_model_examples.proofs.Lists.{each-at, at-take, none-at, one-at}
use Rattle.ca_model_examples.proofs.SmallDue.{TrueDue}
use Rattle.ca_model_examples.proofs.UsedActs.{ask-of, channel-of, is-fine}

pub no-removal : (value i r : ℕ) → At (moved_entries value) i (Removed r) → ⊥
no-removal value i r at = (let e = (one-at (Added 0 (valued value)) i _ at).1 in cc)

opened-at : (o p : Outcome) (i channel : ℕ) (a : List ℕ) → At (moved_lines o p) i (Opened channel a) → i ≡ 0
opened-at o p i channel a at =
    each-at (λ (k : ℕ) (l : Line). l ≡ Opened channel a → k ≡ 0) (moved_lines o p) (
      (λ e. refl),
      ((λ e. absurd cc), ((λ e. absurd cc), ((λ e. absurd cc), ((λ e. absurd cc), ((λ e. absurd cc), ((λ e. absurd cc), tt)))))),
    ) i _ at refl

named : (o p : Outcome) (value channel : ℕ) → channel ≡ 0 → IsNamed (moved_lines o p) (moved_entries value) channel 0
named o p value channel e = subst (λ (k : ℕ). IsNamed (moved_lines o p) (moved_entries value) k 0) (sym e) (valued value, (0, refl), (0, refl))

moved-names : (o p : Outcome) (value : ℕ) → KeepNames (moved_lines o p) (moved_entries value)
moved-names o p value = record {
  one_name = λ i j channel a b f g. opened-at o p i channel a f ∙ sym (opened-at o p j channel b g);
  one_record = λ i j r a b f g. (one-at (Added 0 (valued value)) i _ f).0 ∙ sym (one-at (Added 0 (valued value)) j _ g).0;
  one_at_once = λ i r q s at has. none-at has.1.0 _ (subst (λ (k : ℕ). At (take k (moved_entries value)) has.1.0 (Added q has.0)) (one-at (Added 0 (valued value)) i _ at).0 has.1.1);
  was_there = λ i r at. absurd (no-removal value i r at);
}

-- both circuits have one form
module _ (server live read value : ℕ) (stays : Bool) where
  abbrev c : Circuit
  c = moved server live read value stays

  abbrev y : List Entry
  y = moved_entries value

  -- the one reply to CREATE_CHAN
  pub reply-at : (j k sid : ℕ) (t : Told) → At c.down j t → t.place ≡ k → Creates t.message sid → (j ≡ 1) × (k ≡ 0) × (sid ≡ 5)
  reply-at j k sid t at place is =
      each-at (λ (i : ℕ) (u : Told). u.place ≡ k → Creates u.message sid → (i ≡ 1) × (k ≡ 0) × (sid ≡ 5)) c.down (
        (λ q e. (let f = e.0 in absurd (omega (arith, f)))),
        ((λ q e. (refl, sym q, sym e.1)), ((λ q e. (let f = e.0 in absurd (omega (arith, f)))), tt)),
      ) j t at place is

  created-on : (k channel : ℕ) → Meant c k (On channel Create) → channel ≡ 0
  created-on k channel m =
      each-at (λ (i : ℕ) (s : Sent). s.intent ≡ On channel Create → channel ≡ 0) c.up ((λ e. ap channel-of (sym e)), ((λ e. absurd cc), tt)) k m.0 m.1 m.2

  no-clear : (l : ℕ) (s : Sent) → At c.up l s → Clears s.message 5 → ⊥
  no-clear l s at is =
      each-at (λ (i : ℕ) (z : Sent). Clears z.message 5 → ⊥) c.up ((λ e. (let f = e.0 in omega (arith, f))), ((λ e. (let f = e.0 in omega (arith, f))), tt)) l s at is

  no-later : (i : ℕ) (t : Told) → 1 < i → At c.down i t → Creates t.message 5 → ⊥
  no-later i t after at is = (let e = (reply-at i t.place 5 t at refl is).0 in omega (arith, e, after))

  pub open-1 : IsOpen (before c 1 (step 2 1 1)) (take 1 y) 1 0 5 0
  open-1 = (
    (created_told, creating, step 0 1 1, refl, refl, refl, (refl, refl), refl, refl, (valued value, (0, refl), refl, (λ h. no-removal value h.0 0 (at-take 1 y h.0 _ (at-take 1 (take 1 y) h.0 _ h.1)))), (refl, refl)),
    (λ i t after at. no-later i t after (at-take 2 c.down i t at)),
    (λ l m after early at. no-clear l m (at-take 1 c.up l m at)),
  )

  open-now : IsOpen c y 1 0 5 0
  open-now = (
    (created_told, creating, step 0 1 1, refl, refl, refl, (refl, refl), refl, refl, (valued value, (0, refl), refl, (λ h. no-removal value h.0 0 (at-take 1 y h.0 _ h.1))), (refl, refl)),
    (λ i t after at. no-later i t after at),
    (λ l m after early at. no-clear l m at),
  )

  -- no reply says that something failed
  none-fails : (j : ℕ) (t : Told) (s : Status) → At c.down j t → t.cause ≡ Reply → Means t.message (outcome.Failed s) → ⊥
  none-fails j t s at cause means =
      each-at (λ (i : ℕ) (u : Told). u.cause ≡ Reply → Means u.message (outcome.Failed s) → ⊥) c.down (
        (λ f m. is-fine rights_told.message s refl (λ e. omega (arith, e)) m),
        ((λ f m. is-fine created_told.message s refl (λ e. omega (arith, e)) m), ((λ f m. cc), tt)),
      ) j t at cause means

  used-at : (k : ℕ) (s : Sent) → At c.up k s → IsUse s.intent → k ≡ 1
  used-at k s at uses = each-at (λ (i : ℕ) (z : Sent). IsUse z.intent → i ≡ 1) c.up ((λ u. absurd u), ((λ u. refl), tt)) k s at uses

  pub no-reply : (j k : ℕ) (t : Told) → k ≡ 1 → At c.down j t → t.place ≡ k → t.cause ≡ Reply → ⊥
  no-reply j k t is at place cause =
      each-at (λ (i : ℕ) (u : Told). u.place ≡ k → u.cause ≡ Reply → ⊥) c.down ((λ q f. omega (arith, q, is)), ((λ q f. omega (arith, q, is)), ((λ q f. cc), tt))) j t at place cause

  pub moved-acts : (o p : Outcome) → ActsOnRecord TrueDue Shows Means server c (moved_lines o p) y
  moved-acts o p = record {
    acts = λ k channel ask early meant other. each-at (λ (i : ℕ) (s : Sent). s.intent ≡ On channel ask → (r : ℕ) × Acted c y i r × IsNamed (moved_lines o p) y channel r) c.up (
      (λ e. absurd (other (sym (ap ask-of e)))),
      ((λ e. (0, (adding 0 9, step 2 1 1, 1, 0, refl, refl, open-1), named o p value channel (sym (ap channel-of e)))), tt),
    ) k meant.0 meant.1 meant.2;
    retired = λ k j r h bad acted at. absurd (none-fails j _ _ bad.1 refl bad.2);
    refused = λ k j r m s h here at uses acted handled gone. absurd (no-reply j k _ (used-at k s at uses) here refl refl);
    live = λ channel j k sid l.
        (let is = reply-at j k sid l.0 l.2 l.3 l.5 in (
          0,
          subst (λ (i : ℕ). IsOpen c y i k sid 0) (sym is.0) (subst (λ (i : ℕ). IsOpen c y 1 i sid 0) (sym is.1) (subst (λ (i : ℕ). IsOpen c y 1 0 i 0) (sym is.2) open-now)),
          named o p value channel (created-on k channel l.1),
          (λ up. inl (λ h. no-removal value h.0 0 h.1)),
        ));
    names = moved-names o p value;
  }
