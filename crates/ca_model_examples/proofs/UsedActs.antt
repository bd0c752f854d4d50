-- On the used channel each message acts on the record of its channel.
use Rattle.std.proofs.Common.{◌≡◌, ℕ, ◌<◌, inl, inr, List, refl, sym, ap, subst, ◌∙◌, arith}
use Rattle.std.specs.Prelude.{true, false, Some, None, take}
use Rattle.ca_text.specs.Place.{At}
use Rattle.ca_text.specs.Status.{normal}
use Rattle.ca_text.specs.declared.status.Status.{Status}
use Rattle.ca_text.specs.declared.command.Command.TheVariants as command
use Rattle.ca_dbr.specs.declared.value.Outcome.TheVariants as outcome
use Rattle.ca_wire.specs.Fields.{Fields}
use Rattle.ca_records.specs.Record.{RecordState}
use Rattle.ca_model.specs.Speech.{Clears, Creates, In, Is}
use Rattle.ca_model.specs.History.{Ask, Create, Intent, On, OfCircuit, Circuit, Entry, Line, Sent, Told, Added, Removed, Opened}
use Rattle.ca_model.specs.Channels.{IsNamed, IsOpen, KeepNames, before}
use Rattle.ca_model.specs.Headline.{ActsOnRecord}
use Rattle.ca_model.specs.Causes.{Acted}
use Rattle.ca_requests.specs.Meaning.{Means}
use Rattle.ca_model.specs.Updates.{Shows}
use Rattle.ca_model_examples.specs.Worlds.{adding, created_told, creating, putting, reading, step, temp}
use Rattle.ca_model_examples.specs.Safe.{used, used_entries, used_lines}
use Rattle.ca_model_examples.proofs.Lists.{each-at, at-take, none-at}

-- the channel of an intent
abbrev pub channel-of : Intent → ℕ
channel-of (On channel ask) = channel
channel-of OfCircuit = 0

-- what an intent asks
abbrev pub ask-of : Intent → Ask
ask-of (On channel ask) = ask
ask-of OfCircuit = Create

-- a message with the first parameter 1 that is no ERROR does not say that something failed
pub is-fine : (m : Fields) (s : Status) → m.p1 ≡ normal → (Is command.Error m → ⊥) → Means m (outcome.Failed s) → ⊥
is-fine m s fine other h =
    elim h [
      | inl a ↦ a.1.0 fine
      | inr b ↦ elim b [
        | inl a ↦ a.1.0 fine
        | inr d ↦ elim d [
          | inl a ↦ a.1
          | inr a ↦ other a.0
        ]
      ]
    ]

pub all-fine : (j : ℕ) (t : Told) → At used.down j t → (t.message.p1 ≡ normal) × (Is command.Error t.message → ⊥)
all-fine j t at =
    each-at (λ (i : ℕ) (u : Told). (u.message.p1 ≡ normal) × (Is command.Error u.message → ⊥)) used.down (
      (refl, λ e. omega (arith, e)),
      ((refl, λ e. omega (arith, e)), ((refl, λ e. omega (arith, e)), ((refl, λ e. omega (arith, e)), ((refl, λ e. omega (arith, e)), tt)))),
    ) j t at

pub no-removed : (i r : ℕ) → At used_entries i (Removed r) → ⊥
no-removed i r at = each-at (λ (k : ℕ) (e : Entry). e ≡ Removed r → ⊥) used_entries ((λ e. cc), ((λ e. cc), tt)) i _ at refl

no-clears : (k l : ℕ) (m : Sent) → At (take k used.up) l m → Clears m.message 5 → ⊥
no-clears k l m at clears =
    each-at (λ (i : ℕ) (z : Sent). Clears z.message 5 → ⊥) used.up (
      (λ e. let f = e.0 in omega (arith, f)),
      ((λ e. let f = e.0 in omega (arith, f)), ((λ e. let f = e.0 in omega (arith, f)), ((λ e. let f = e.0 in omega (arith, f)), tt))),
    ) l m (at-take k used.up l m at) clears

no-later : (k i : ℕ) (t : Told) → 1 < i → At (take k used.down) i t → Creates t.message 5 → ⊥
no-later k i t after at creates =
    each-at (λ (j : ℕ) (u : Told). 1 < j → Creates u.message 5 → ⊥) used.down (
      (λ a e. omega (arith, a)),
      ((λ a e. omega (arith, a)), ((λ a e. let f = e.0 in omega (arith, f)), ((λ a e. let f = e.0 in omega (arith, f)), ((λ a e. let f = e.0 in omega (arith, f)), tt)))),
    ) i t (at-take k used.down i t at) after creates

pub first-only : (n r : ℕ) → In (take n used_entries) (Removed r) → ⊥
first-only n r h = no-removed h.0 r (at-take n used_entries h.0 _ h.1)

-- the channel is open when each of the later messages is handled
pub open-1 : IsOpen (before used 1 (step 2 1 2)) (take 1 used_entries) 1 0 5 0
open-1 = (
  (created_told, creating, step 0 1 1, refl, refl, refl, (refl, refl), refl, refl, (temp, (0, refl), refl, (λ h. first-only 1 0 h)), (refl, refl)),
  (λ i t after at. no-later 2 i t after at),
  (λ l m after early at. no-clears 1 l m at),
)

pub open-2 : IsOpen (before used 2 (step 3 2 2)) (take 2 used_entries) 1 0 5 0
open-2 = (
  (created_told, creating, step 0 1 1, refl, refl, refl, (refl, refl), refl, refl, (temp, (0, refl), refl, (λ h. first-only 1 0 h)), (refl, refl)),
  (λ i t after at. no-later 3 i t after at),
  (λ l m after early at. no-clears 2 l m at),
)

pub open-3 : IsOpen (before used 3 (step 4 2 2)) (take 2 used_entries) 1 0 5 0
open-3 = (
  (created_told, creating, step 0 1 1, refl, refl, refl, (refl, refl), refl, refl, (temp, (0, refl), refl, (λ h. first-only 1 0 h)), (refl, refl)),
  (λ i t after at. no-later 4 i t after at),
  (λ l m after early at. no-clears 3 l m at),
)

-- so each is handled on TEMP
pub acted-1 : Acted used used_entries 1 0
acted-1 = (putting 0 8 22, step 2 1 2, 1, 0, refl, refl, open-1)

pub acted-2 : Acted used used_entries 2 0
acted-2 = (reading 1 7, step 3 2 2, 1, 0, refl, refl, open-2)

pub acted-3 : Acted used used_entries 3 0
acted-3 = (adding 0 9, step 4 2 2, 1, 0, refl, refl, open-3)

named : (channel : ℕ) → channel ≡ 0 → IsNamed used_lines used_entries channel 0
named channel e = subst (λ (k : ℕ). IsNamed used_lines used_entries k 0) (sym e) (temp, (0, refl), (0, refl))

pub used-open : IsOpen used used_entries 1 0 5 0
used-open = (
  (created_told, creating, step 0 1 1, refl, refl, refl, (refl, refl), refl, refl, (temp, (0, refl), refl, (λ h. first-only 1 0 h)), (refl, refl)),
  (λ i t after at. no-later 5 i t after at),
  (λ l m after early at. no-clears 4 l m at),
)

opened-first : (i channel : ℕ) (a : List ℕ) → At used_lines i (Opened channel a) → i ≡ 0
opened-first i channel a at =
    each-at (λ (k : ℕ) (l : Line). l ≡ Opened channel a → k ≡ 0) used_lines (
      (λ e. refl),
      ((λ e. absurd cc), ((λ e. absurd cc), ((λ e. absurd cc), ((λ e. absurd cc), ((λ e. absurd cc), tt))))),
    ) i _ at refl

added-first : (i r : ℕ) (a : RecordState) → At used_entries i (Added r a) → i ≡ 0
added-first i r a at = each-at (λ (k : ℕ) (e : Entry). e ≡ Added r a → k ≡ 0) used_entries ((λ e. refl), ((λ e. absurd cc), tt)) i _ at refl

pub used-names : KeepNames used_lines used_entries
used-names = record {
  one_name = λ i j channel a b p q. opened-first i channel a p ∙ sym (opened-first j channel b q);
  one_record = λ i j r a b p q. added-first i r a p ∙ sym (added-first j r b q);
  one_at_once = λ i r q s at has. none-at has.1.0 _ (subst (λ (k : ℕ). At (take k used_entries) has.1.0 (Added q has.0)) (added-first i r s at) has.1.1);
  was_there = λ i r at. absurd (no-removed i r at);
}

-- the only creation
pub created-at : (j k sid : ℕ) (t : Told) → At used.down j t → t.place ≡ k → Creates t.message sid → (j ≡ 1) × (k ≡ 0) × (sid ≡ 5)
created-at j k sid t at place creates =
    each-at (λ (i : ℕ) (u : Told). u.place ≡ k → Creates u.message sid → (i ≡ 1) × (k ≡ 0) × (sid ≡ 5)) used.down (
      (λ p e. (let f = e.0 in absurd (omega (arith, f)))),
      ((λ p e. (refl, sym p, sym e.1)), ((λ p e. (let f = e.0 in absurd (omega (arith, f)))), ((λ p e. (let f = e.0 in absurd (omega (arith, f)))), ((λ p e. (let f = e.0 in absurd (omega (arith, f)))), tt)))),
    ) j t at place creates

module _
    (Due : ℕ → Circuit → List Entry → Fields → List Fields → Rattle.std.specs.Prelude.Option Fields → List Entry → Type 0) where
  pub used-acts : ActsOnRecord Due Shows Means 0 used used_lines used_entries
  used-acts = record {
    acts = λ k channel ask early meant other. each-at (λ (i : ℕ) (s : Sent). s.intent ≡ On channel ask → (r : ℕ) × Acted used used_entries i r × IsNamed used_lines used_entries channel r) used.up (
      (λ e. absurd (other (sym (ap ask-of e)))),
      ((λ e. (0, acted-1, named channel (sym (ap channel-of e)))), ((λ e. (0, acted-2, named channel (sym (ap channel-of e)))), ((λ e. (0, acted-3, named channel (sym (ap channel-of e)))), tt))),
    ) k meant.0 meant.1 meant.2;
    retired = λ k j r h bad acted at. (let f = all-fine j _ bad.1 in absurd (is-fine bad.0 _ f.0 f.1 bad.2));
    refused = λ k j r m s h here at uses acted handled gone. absurd (first-only h.logged r gone);
    live = λ channel j k sid l.
        (let c = created-at j k sid l.0 l.2 l.3 l.5 in
        let on : channel ≡ 0 = (let m = l.1 in each-at (λ (i : ℕ) (s : Sent). s.intent ≡ On channel Create → channel ≡ 0) used.up ((λ e. sym (ap channel-of e)), ((λ e. sym (ap channel-of e)), ((λ e. sym (ap channel-of e)), ((λ e. sym (ap channel-of e)), tt)))) k m.0 m.1 m.2) in
        (0, subst (λ (i : ℕ). IsOpen used used_entries i k sid 0) (sym c.0) (subst (λ (i : ℕ). IsOpen used used_entries 1 i sid 0) (sym c.1) (subst (λ (i : ℕ). IsOpen used used_entries 1 0 i 0) (sym c.2) used-open)), named channel on, λ up. inl (λ h. no-removed h.0 0 h.1)));
    names = used-names;
  }
