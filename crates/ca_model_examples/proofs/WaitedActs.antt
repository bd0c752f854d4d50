-- A put that waits while its client begins again: each message acts on the record of its channel.
use Rattle.std.proofs.Common.{◌≡◌, ℕ, ◌<◌, List, refl, sym, ap, subst, ◌∙◌, arith}
use Rattle.std.specs.Prelude.{true, false, take}
use Rattle.ca_text.specs.Place.{At}
use Rattle.ca_text.specs.Status.{normal}
use Rattle.ca_text.specs.declared.command.Command.TheVariants as command
use Rattle.ca_records.specs.Record.{RecordState}
use Rattle.ca_model.specs.Speech.{Clears, Creates, In, Is}
use Rattle.ca_model.specs.History.{On, Entry, Line, Sent, Told, Added, Removed, Opened}
use Rattle.ca_model.specs.Channels.{IsNamed, IsOpen, KeepNames, before}
use Rattle.ca_model.specs.Headline.{ActsOnRecord}
use Rattle.ca_model.specs.Causes.{Acted}
use Rattle.ca_requests.specs.Meaning.{Means}
use Rattle.ca_model.specs.Updates.{Shows}
use Rattle.ca_model_examples.specs.Worlds.{created_told, creating, putting, step}
use Rattle.ca_model_examples.specs.Waited.{slow_temp, waited, waited_entries, waited_lines}
use Rattle.ca_model_examples.proofs.Lists.{each-at, at-take, none-at}
use Rattle.ca_model_examples.proofs.SmallDue.{TrueDue}
use Rattle.ca_model_examples.proofs.UsedActs.{ask-of, channel-of, is-fine}

all-fine : (j : ℕ) (t : Told) → At waited.down j t → (t.message.p1 ≡ normal) × (Is command.Error t.message → ⊥)
all-fine j t at =
    each-at (λ (i : ℕ) (u : Told). (u.message.p1 ≡ normal) × (Is command.Error u.message → ⊥)) waited.down (
      (refl, λ e. omega (arith, e)),
      ((refl, λ e. omega (arith, e)), ((refl, λ e. omega (arith, e)), tt)),
    ) j t at

pub no-removed : (i r : ℕ) → At waited_entries i (Removed r) → ⊥
no-removed i r at = each-at (λ (k : ℕ) (e : Entry). e ≡ Removed r → ⊥) waited_entries ((λ e. cc), ((λ e. cc), ((λ e. cc), ((λ e. cc), ((λ e. cc), tt))))) i _ at refl

pub no-clears : (l : ℕ) (m : Sent) → At waited.up l m → Clears m.message 5 → ⊥
no-clears l m at clears =
    each-at (λ (i : ℕ) (z : Sent). Clears z.message 5 → ⊥) waited.up (
      (λ e. let f = e.0 in omega (arith, f)),
      ((λ e. let f = e.0 in omega (arith, f)), ((λ e. let f = e.0 in omega (arith, f)), tt)),
    ) l m at clears

no-later : (k i : ℕ) (t : Told) → 1 < i → At (take k waited.down) i t → Creates t.message 5 → ⊥
no-later k i t after at creates =
    each-at (λ (j : ℕ) (u : Told). 1 < j → Creates u.message 5 → ⊥) waited.down (
      (λ a e. omega (arith, a)),
      ((λ a e. omega (arith, a)), ((λ a e. let f = e.0 in omega (arith, f)), tt)),
    ) i t (at-take k waited.down i t at) after creates

pub first-only : (n r : ℕ) → In (take n waited_entries) (Removed r) → ⊥
first-only n r h = no-removed h.0 r (at-take n waited_entries h.0 _ h.1)

-- the channel is open when each put is handled
pub open-1 : IsOpen (before waited 1 (step 2 1 2)) (take 1 waited_entries) 1 0 5 0
open-1 = (
  (created_told, creating, step 0 1 1, refl, refl, refl, (refl, refl), refl, refl, (slow_temp, (0, refl), refl, (λ h. first-only 1 0 h)), (refl, refl)),
  (λ i t after at. no-later 2 i t after at),
  (λ l m after early at. no-clears l m (at-take 1 waited.up l m at)),
)

pub open-2 : IsOpen (before waited 2 (step 2 2 3)) (take 2 waited_entries) 1 0 5 0
open-2 = (
  (created_told, creating, step 0 1 1, refl, refl, refl, (refl, refl), refl, refl, (slow_temp, (0, refl), refl, (λ h. first-only 1 0 h)), (refl, refl)),
  (λ i t after at. no-later 2 i t after at),
  (λ l m after early at. no-clears l m (at-take 2 waited.up l m at)),
)

acted-1 : Acted waited waited_entries 1 0
acted-1 = (putting 0 8 22, step 2 1 2, 1, 0, refl, refl, open-1)

acted-2 : Acted waited waited_entries 2 0
acted-2 = (putting 1 9 23, step 2 2 3, 1, 0, refl, refl, open-2)

named : (channel : ℕ) → channel ≡ 0 → IsNamed waited_lines waited_entries channel 0
named channel e = subst (λ (k : ℕ). IsNamed waited_lines waited_entries k 0) (sym e) (slow_temp, (0, refl), (0, refl))

opened-first : (i channel : ℕ) (a : List ℕ) → At waited_lines i (Opened channel a) → i ≡ 0
opened-first i channel a at =
    each-at (λ (k : ℕ) (l : Line). l ≡ Opened channel a → k ≡ 0) waited_lines ((λ e. refl), ((λ e. absurd cc), ((λ e. absurd cc), ((λ e. absurd cc), tt)))) i _ at refl

added-first : (i r : ℕ) (a : RecordState) → At waited_entries i (Added r a) → i ≡ 0
added-first i r a at =
    each-at (λ (k : ℕ) (e : Entry). e ≡ Added r a → k ≡ 0) waited_entries ((λ e. refl), ((λ e. absurd cc), ((λ e. absurd cc), ((λ e. absurd cc), ((λ e. absurd cc), tt))))) i _ at refl

waited-names : KeepNames waited_lines waited_entries
waited-names = record {
  one_name = λ i j channel a b p q. opened-first i channel a p ∙ sym (opened-first j channel b q);
  one_record = λ i j r a b p q. added-first i r a p ∙ sym (added-first j r b q);
  one_at_once = λ i r q s at has. none-at has.1.0 _ (subst (λ (k : ℕ). At (take k waited_entries) has.1.0 (Added q has.0)) (added-first i r s at) has.1.1);
  was_there = λ i r at. absurd (no-removed i r at);
}

pub waited-acts : ActsOnRecord TrueDue Shows Means 0 waited waited_lines waited_entries
waited-acts = record {
  acts = λ k channel ask early meant other. each-at (λ (i : ℕ) (s : Sent). s.intent ≡ On channel ask → (r : ℕ) × Acted waited waited_entries i r × IsNamed waited_lines waited_entries channel r) waited.up (
    (λ e. absurd (other (sym (ap ask-of e)))),
    ((λ e. (0, acted-1, named channel (sym (ap channel-of e)))), ((λ e. (0, acted-2, named channel (sym (ap channel-of e)))), tt)),
  ) k meant.0 meant.1 meant.2;
  retired = λ k j r h bad acted at. (let f = all-fine j _ bad.1 in absurd (is-fine bad.0 _ f.0 f.1 bad.2));
  refused = λ k j r m s h here at uses acted handled gone. absurd (first-only h.logged r gone);
  live = λ channel j k sid l. absurd (let e : false ≡ true = l.8 in cc);
  names = waited-names;
}
