-- A SID that was given again is that of the later channel.
use Rattle.std.proofs.Common.{◌≡◌, ℕ, ◌+◌, ◌*◌, inl, inr, List, length, refl, sym, ap, subst, ◌∙◌, arith}
use Rattle.std.specs.Prelude.{take}
use Rattle.ca_text.specs.Place.{At}
use Rattle.ca_text.proofs.Places.{some_is}
use Rattle.ca_records.specs.Record.{RecordState}
use Rattle.ca_model.specs.Speech.{name_in, sid_in}
use Rattle.ca_model.specs.History.{Request, Read, Sent, Told, Step, Entry, Line, Added, Opened}
use Rattle.ca_model.specs.Channels.{IsNamed, IsOpen, before}
use Rattle.ca_model_examples.specs.Worlds.{AnyDue, reading, step}
use Rattle.ca_model_examples.specs.Parts.{Holds}
use Rattle.ca_model_examples.specs.Parts as part
use Rattle.ca_model_examples.specs.Unsafe.{both_opened, both_there, sid_given_again, taken_over}
use Rattle.ca_model_examples.proofs.Lists.{at-take, each-at, two-at}
use Rattle.ca_model_examples.proofs.Names.{its-part}

abbrev opened-length : Line → ℕ
opened-length (Opened c name) = length name
opened-length l = 0

abbrev channel-in : Line → ℕ
channel-in (Opened c name) = c
channel-in l = 0

abbrev record-in : Entry → ℕ
record-in (Added r s) = r
record-in e = 0

abbrev length-in : Entry → ℕ
length-in (Added r s) = length s.name
length-in e = 0

-- record 0 has a name of four bytes, and record 1 one of one
lengths : (i r : ℕ) (s : RecordState) → At both_there i (Added r s) → length s.name + 3 * r ≡ 4
lengths i r s at =
    each-at (λ (k : ℕ) (e : Entry). e ≡ Added r s → length s.name + 3 * r ≡ 4) both_there (
      (λ e. (let f = ap record-in e in let g = ap length-in e in omega (arith, f, g))),
      ((λ e. (let f = ap record-in e in let g = ap length-in e in omega (arith, f, g))), tt),
    ) i _ at refl

opened-4 : (i : ℕ) (name : List ℕ) → At both_opened i (Opened 0 name) → length name ≡ 4
opened-4 i name at =
    each-at (λ (k : ℕ) (l : Line). l ≡ Opened 0 name → length name ≡ 4) both_opened (
      (λ e. sym (ap opened-length e)),
      ((λ e. absurd (let f = ap channel-in e in omega (arith, f))), tt),
    ) i _ at refl

never-open : (i l r : ℕ) → IsOpen (before taken_over 2 (step 2 2 2)) (take 2 both_there) i l 5 r → IsNamed both_opened both_there 0 r → ⊥
never-open i l r standing named =
    let made = standing.0 in
    let four = opened-4 named.1.0 named.0.name named.1.1 in
    let mine = lengths named.2.0 r named.0 named.2.1 in
    let has = made.9 in
    let its = lengths has.1.0 r has.0 (at-take 2 both_there has.1.0 _ (at-take made.2.logged (take 2 both_there) has.1.0 _ has.1.1)) in
    let place = made.4 in
    elim (two-at _ _ i made.0 made.3) [
      | inl first ↦ (let f = first.0 in standing.1 1 _ (omega (arith, f)) refl (refl, refl))
      | inr second ↦
          let one : 1 ≡ l = sym (ap (λ (t : Told). t.place) second.1) ∙ place in
          let asked : At (take 2 taken_over.up) 1 made.1 = subst (λ (n : ℕ). At (take 2 taken_over.up) n made.1) (sym one) made.7 in
          let name : length has.0.name ≡ 1 = ap (λ (s : List ℕ). length s) has.2 ∙ sym (ap (λ (s : Sent). length (name_in s.message)) (some_is _ made.1 asked)) in
          omega (arith, four, mine, its, name)
    ]

pub sid-again : Holds AnyDue part.Acts sid_given_again → ⊥
sid-again h =
    let a = its-part part.Acts taken_over both_opened both_there refl refl h.0 2 0 (Request Read 0) (omega arith) (reading 0 7, refl, refl) (λ e. cc) in
    let acted = a.1 in
    let s : reading 0 7 ≡ acted.0 = some_is (reading 0 7) acted.0 acted.4 in
    let g : step 2 2 2 ≡ acted.1 = some_is (step 2 2 2) acted.1 acted.5 in
    never-open acted.2 acted.3 a.0 (subst (λ (z : Step). IsOpen (before taken_over 2 z) (take z.logged both_there) acted.2 acted.3 5 a.0) (sym g) (subst (λ (z : Sent). IsOpen (before taken_over 2 acted.1) (take acted.1.logged both_there) acted.2 acted.3 (sid_in z.message) a.0) (sym s) acted.6)) a.2
