-- Histories that break a part of what is said of a read and a put on a channel.
use Rattle.std.proofs.Common.{◌≡◌, ℕ, ◌<◌, inl, inr, List, [], ◌∷◌, length, refl, sym, ap, subst, ◌∙◌, arith}
use Rattle.ca_text.proofs.Places.{some_is}
use Rattle.std.specs.Prelude.{false, take, pos}
use Rattle.ca_text.specs.Place.{At}
use Rattle.ca_dbr.specs.Elements.{longs}
use Rattle.ca_dbr.specs.declared.value.Outcome.{Outcome}
use Rattle.ca_dbr.specs.declared.value.Outcome.TheVariants as outcome
use Rattle.ca_records.specs.Record.{RecordState}
use Rattle.ca_wire.specs.Fields.{Fields}
use Rattle.ca_model.specs.Speech.{In, Stored, Id}
use Rattle.ca_model.specs.History.{Create, Clear, Request, Read, Put, On, Intent, Sent, Told, Step, Circuit, Entry, Line, Added, Removed, Applied, Opened, Called, Noticed, Nothing, Ask}
use Rattle.ca_model.specs.Channels.{IsNamed, IsOwnWrite, Stands, IsApplied, IsReply, IsUse, Meant, before}
use Rattle.ca_model_examples.specs.Worlds.{reply, created_told, AnyDue, circuit, creating, long, putting, reading, step, temp, world}
use Rattle.ca_model_examples.specs.Parts.{Part, Holds, BreaksOnly, IsSafeNow, InCircuit}
use Rattle.ca_model_examples.specs.Parts as part
use Rattle.ca_model_examples.specs.Unsafe.{opened, fails, no_channel, put_made, put_read, put_told, read_at, status_of, temp_removed, temp_there, value_21}
use Rattle.ca_model_examples.proofs.Lists.{at-take, each-at, none-at, one-at, two-at}
use Rattle.ca_model_examples.proofs.Quiet.{fine, is_applied, is_fine, none, quiet, holds, whole}
use Rattle.ca_model_examples.proofs.Shown.{ToldAt, own-each, sent-each, answered-by, answered-each, caused-each, taken-each, told-each}
use Rattle.ca_model.specs.Headline.{IsBadChannel}
use Rattle.ca_model.specs.Causes.{Acted, TakesOwn}
use Rattle.ca_model.specs.Updates.{Shows}
use Rattle.ca_requests.specs.Meaning.{Means}
use Rattle.ca_model_examples.proofs.Names.{its-part, was-there}
use Rattle.ca_model_examples.proofs.Opened.{created-here, created-own, open-here, takes-cid}
use Rattle.ca_model_examples.proofs.Speaks.{heads, of-request}
use Rattle.ca_model_examples.proofs.Creations.{channel-of, number-of, only-added}
use Rattle.ca_text.specs.Status.{bad_channel}

abbrev ask-of : Intent → Ask
ask-of (On channel ask) = ask
ask-of i = Create

-- a message that is handled on the channel
pub acts-by : (c : Circuit) (u : Sent) (x : List Line) (y : List Entry) → c.up ≡ creating ∷ u ∷ [] → u.intent ≡ On 0 (ask-of u.intent) → Acted c y 1 0 → IsNamed x y 0 0 → (k channel : ℕ) (ask : Ask) → Meant c k (On channel ask) → (ask ≡ Create → ⊥) → (r : ℕ) × Acted c y k r × IsNamed x y channel r
acts-by c u x y is on acted named k channel ask meant other =
    each-at (λ (i : ℕ) (s : Sent). s.intent ≡ On channel ask → (r : ℕ) × Acted c y i r × IsNamed x y channel r) (creating ∷ u ∷ []) (
      (λ e. absurd (other (sym (ap ask-of e)))),
      ((λ e. (0, acted, subst (λ (n : ℕ). IsNamed x y n 0) (ap channel-of (sym on ∙ e)) named)), tt),
    ) k meant.0 (subst (λ (up : List Sent). At up k meant.0) is meant.1) meant.2

-- there are two messages of the client
pub two-only : (a b : Sent) (l : ℕ) (r : Sent) → 1 < l → At (a ∷ b ∷ []) l r → ⊥
two-only a b l r after at =
    elim (two-at a b l r at) [
      | inl e ↦ (let f = e.0 in omega (arith, f, after))
      | inr e ↦ (let f = e.0 in omega (arith, f, after))
    ]

-- the record on which a message is handled is one that was added
pub acted-record : (c : Circuit) (y : List Entry) (k r : ℕ) → ((i q : ℕ) (s : RecordState) → At y i (Added q s) → 0 ≡ q) → Acted c y k r → 0 ≡ r
acted-record c y k r only acted =
    let has = acted.6.0.9 in
    only has.1.0 r has.0 (at-take acted.1.logged y has.1.0 _ (at-take acted.6.0.2.logged (take acted.1.logged y) has.1.0 _ has.1.1))

added-in : (i q : ℕ) (s : RecordState) → At temp_removed i (Added q s) → 0 ≡ q
added-in i q s at = each-at (λ (k : ℕ) (e : Entry). e ≡ Added q s → 0 ≡ q) temp_removed ((λ e. ap number-of e), ((λ e. absurd cc), tt)) i _ at refl

-- ---- a read

acted-1 : (m : Fields) → Acted (read_at 1 m) temp_removed 1 0
acted-1 m = (reading 0 7, step 1 1 1, 0, 0, refl, refl, open-here (before (read_at 1 m) 1 (step 1 1 1)) (take 1 temp_removed) (created-here (before (read_at 1 m) 1 (step 1 1 1)) (take 1 temp_removed) refl refl refl refl (only-added (Added 0 temp ∷ []) 0 refl)) refl refl)

acted-2 : (m : Fields) → Acted (read_at 2 m) temp_removed 1 0
acted-2 m = (reading 0 7, step 1 2 2, 0, 0, refl, refl, open-here (before (read_at 2 m) 1 (step 1 2 2)) (take 2 temp_removed) (created-here (before (read_at 2 m) 1 (step 1 2 2)) (take 2 temp_removed) refl refl refl refl (only-added (Added 0 temp ∷ []) 0 refl)) refl refl)

none-removed : (m : Fields) (k : ℕ) (h : Step) (r : ℕ) → At (read_at 1 m).handled k h → In (take h.logged temp_removed) (Removed r) → ⊥
none-removed m k h r at gone = each-at (λ (i : ℕ) (g : Step). In (take g.logged temp_removed) (Removed r) → ⊥) (read_at 1 m).handled (only-added (Added 0 temp ∷ []) r refl, (only-added (Added 0 temp ∷ []) r refl, tt)) k h at gone

-- BADCHID once TEMP was removed
bad-means : Means no_channel (outcome.Failed (record { number = bad_channel }))
bad-means = inl (inl refl, ((λ e. absurd (omega (arith, e))), refl))

retired-2 : (k j r : ℕ) (h : Step) → IsBadChannel AnyDue Shows Means (read_at 2 no_channel) k j → Acted (read_at 2 no_channel) temp_removed k r → At (read_at 2 no_channel).handled k h → In (take h.logged temp_removed) (Removed r)
retired-2 k j r h bad acted at =
    elim (two-at created_told (reply 1 no_channel) j _ bad.1) [
      | inl e ↦ absurd (fine bad.0 _ (ap (λ (t : Told). is_fine t.message) e.1) bad.2)
      | inr e ↦
          let k1 : k ≡ 1 = ap (λ (t : Told). t.place) e.1 in
          let g : step 1 2 2 ≡ h = some_is (step 1 2 2) h (subst (λ (n : ℕ). At (read_at 2 no_channel).handled n h) k1 at) in
          subst (λ (z : Step). In (take z.logged temp_removed) (Removed r)) g (1, subst (λ (n : ℕ). At temp_removed 1 (Removed n)) (acted-record (read_at 2 no_channel) temp_removed k r added-in acted) refl)
    ]

refused-2 : (k j r : ℕ) (m : Fields) (s : Sent) (h : Step) → IsReply (read_at 2 no_channel) k j m → At (read_at 2 no_channel).up k s → IsUse s.intent → Acted (read_at 2 no_channel) temp_removed k r → At (read_at 2 no_channel).handled k h → In (take h.logged temp_removed) (Removed r) → IsBadChannel AnyDue Shows Means (read_at 2 no_channel) k j
refused-2 k j r m s h here at uses acted handled gone =
    elim (two-at created_told (reply 1 no_channel) j _ here) [
      | inl e ↦
          let k0 : k ≡ 0 = ap (λ (t : Told). t.place) e.1 in
          let is : creating ≡ s = some_is creating s (subst (λ (n : ℕ). At (read_at 2 no_channel).up n s) k0 at) in
          absurd (subst (λ (z : Sent). IsUse z.intent) (sym is) uses)
      | inr e ↦ (m, here, subst (λ (z : Fields). Means z (outcome.Failed (record { number = bad_channel }))) (sym (ap (λ (t : Told). t.message) e.1)) bad-means)
    ]

read-answered-safe-each : (p : Part) → Holds AnyDue p (world (read_at 1 value_21 ∷ []) opened temp_removed)
read-answered-safe-each part.WasThere = holds AnyDue part.WasThere (read_at 1 value_21) opened temp_removed refl refl (was-there [] refl) tt tt
read-answered-safe-each part.Acts = holds AnyDue part.Acts (read_at 1 value_21) opened temp_removed refl refl (λ k channel ask early meant other. acts-by (read_at 1 value_21) (reading 0 7) opened temp_removed refl refl (acted-1 (value_21)) (temp, (0, refl), (0, refl)) k channel ask meant other) tt tt
read-answered-safe-each part.Refused = holds AnyDue part.Refused (read_at 1 value_21) opened temp_removed refl refl (λ k j r m s h here at uses acted handled gone. absurd (none-removed (value_21) k h r handled gone)) tt tt
read-answered-safe-each part.Caused = caused-each (read_at 1 value_21) opened temp_removed refl refl ((tt, (step 0 1 1, refl, omega arith)), ((tt, (step 1 1 1, refl, omega arith)), tt))
read-answered-safe-each part.Own = taken-each (read_at 1 value_21) opened temp_removed refl refl ((created-own (read_at 1 value_21) 0 (takes-cid (read_at 1 value_21) 0 0 creating refl refl refl (omega arith) refl)), ((λ id s. subst (λ (e : Id). TakesOwn (read_at 1 value_21) 1 1 e) (sym (of-request (value_21) id (inl refl) (heads (value_21) id (λ e. omega (arith, e)) s))) (1, 0, reading 0 7, reading 0 7, (reading 0 7, refl, (inl refl, refl), omega arith, λ l r after early at gives. two-only creating (reading 0 7) l r after at), omega arith, refl, refl, refl, refl)), tt))
read-answered-safe-each part.Answered = answered-each (read_at 1 value_21) opened temp_removed refl refl ((answered-by (read_at 1 value_21) temp_removed 0 (step 0 1 1) creating (created_told.message ∷ []) [] refl (refl, tt) tt refl ((λ p e. omega arith), ((λ p e. absurd (omega (arith, p))), tt)) ((λ l. absurd (omega (arith, l))), ((λ l. omega arith), tt))), ((answered-by (read_at 1 value_21) temp_removed 1 (step 1 1 1) (reading 0 7) ((value_21) ∷ []) [] refl (refl, tt) tt refl ((λ p e. absurd (omega (arith, p))), ((λ p e. omega arith), tt)) ((λ l. absurd (omega (arith, l))), ((λ l. absurd (omega (arith, l))), tt))), tt))
read-answered-safe-each p = quiet AnyDue p (read_at 1 value_21) opened temp_removed refl refl refl refl refl

pub read-answered-safe : IsSafeNow (world (read_at 1 value_21 ∷ []) opened temp_removed)
read-answered-safe = whole AnyDue _ (read-answered-safe-each)

abbrev state-of : Entry → RecordState
state-of (Added r s) = s
state-of e = temp

abbrev name-length : Line → ℕ
name-length (Opened c name) = length name
name-length l = 0

not-named : (r : ℕ) → IsNamed (Opened 0 (69 ∷ []) ∷ []) temp_removed 0 r → ⊥
not-named r named =
    let is : named.0 ≡ temp = each-at (λ (i : ℕ) (e : Entry). e ≡ Added r named.0 → named.0 ≡ temp) temp_removed ((λ e. sym (ap state-of e)), ((λ e. absurd cc), tt)) named.2.0 _ named.2.1 refl in
    let at : At (Opened 0 (69 ∷ []) ∷ []) named.1.0 (Opened 0 temp.name) = subst (λ (t : RecordState). At (Opened 0 (69 ∷ []) ∷ []) named.1.0 (Opened 0 t.name)) is named.1.1 in
    let e = ap name-length (one-at (Opened 0 (69 ∷ [])) named.1.0 _ at).1 in
    omega (arith, e)

read-of-another-rest : (p : Part) → (p ≡ part.Acts → ⊥) → Holds AnyDue p (world (read_at 1 value_21 ∷ []) (Opened 0 (69 ∷ []) ∷ []) temp_removed)
read-of-another-rest part.Acts ne = absurd (ne refl)
read-of-another-rest part.WasThere ne = holds AnyDue part.WasThere (read_at 1 value_21) (Opened 0 (69 ∷ []) ∷ []) temp_removed refl refl (was-there [] refl) tt tt
read-of-another-rest part.Refused ne = holds AnyDue part.Refused (read_at 1 value_21) (Opened 0 (69 ∷ []) ∷ []) temp_removed refl refl (λ k j r m s h here at uses acted handled gone. absurd (none-removed (value_21) k h r handled gone)) tt tt
read-of-another-rest part.Caused ne = caused-each (read_at 1 value_21) (Opened 0 (69 ∷ []) ∷ []) temp_removed refl refl ((tt, (step 0 1 1, refl, omega arith)), ((tt, (step 1 1 1, refl, omega arith)), tt))
read-of-another-rest part.Own ne = taken-each (read_at 1 value_21) (Opened 0 (69 ∷ []) ∷ []) temp_removed refl refl ((created-own (read_at 1 value_21) 0 (takes-cid (read_at 1 value_21) 0 0 creating refl refl refl (omega arith) refl)), ((λ id s. subst (λ (e : Id). TakesOwn (read_at 1 value_21) 1 1 e) (sym (of-request (value_21) id (inl refl) (heads (value_21) id (λ e. omega (arith, e)) s))) (1, 0, reading 0 7, reading 0 7, (reading 0 7, refl, (inl refl, refl), omega arith, λ l r after early at gives. two-only creating (reading 0 7) l r after at), omega arith, refl, refl, refl, refl)), tt))
read-of-another-rest part.Answered ne = answered-each (read_at 1 value_21) (Opened 0 (69 ∷ []) ∷ []) temp_removed refl refl ((answered-by (read_at 1 value_21) temp_removed 0 (step 0 1 1) creating (created_told.message ∷ []) [] refl (refl, tt) tt refl ((λ p e. omega arith), ((λ p e. absurd (omega (arith, p))), tt)) ((λ l. absurd (omega (arith, l))), ((λ l. omega arith), tt))), ((answered-by (read_at 1 value_21) temp_removed 1 (step 1 1 1) (reading 0 7) ((value_21) ∷ []) [] refl (refl, tt) tt refl ((λ p e. absurd (omega (arith, p))), ((λ p e. omega arith), tt)) ((λ l. absurd (omega (arith, l))), ((λ l. absurd (omega (arith, l))), tt))), tt))
read-of-another-rest p ne = quiet AnyDue p (read_at 1 value_21) (Opened 0 (69 ∷ []) ∷ []) temp_removed refl refl refl refl refl

pub read-of-another : BreaksOnly part.Acts (world (read_at 1 value_21 ∷ []) (Opened 0 (69 ∷ []) ∷ []) temp_removed)
read-of-another = (read-of-another-rest, λ h. (let a = its-part part.Acts (read_at 1 value_21) (Opened 0 (69 ∷ []) ∷ []) temp_removed refl refl h.0 1 0 (Request Read 0) (omega arith) (reading 0 7, refl, refl) (λ e. cc) in not-named a.0 a.2))

read-uncreated-rest : (p : Part) → (p ≡ part.Acts → ⊥) → Holds AnyDue p (world (circuit (creating ∷ reading 0 7 ∷ []) [] (step 0 1 1 ∷ step 0 1 1 ∷ []) [] ∷ []) opened temp_there)
read-uncreated-rest part.Acts ne = absurd (ne refl)
read-uncreated-rest part.Answered ne = answered-each (circuit (creating ∷ reading 0 7 ∷ []) [] (step 0 1 1 ∷ step 0 1 1 ∷ []) []) opened temp_there refl refl ((answered-by (circuit (creating ∷ reading 0 7 ∷ []) [] (step 0 1 1 ∷ step 0 1 1 ∷ []) []) temp_there 0 (step 0 1 1) (creating) [] [] refl tt tt refl tt ((λ l. absurd (omega (arith, l))), ((λ l. omega arith), tt))), ((answered-by (circuit (creating ∷ reading 0 7 ∷ []) [] (step 0 1 1 ∷ step 0 1 1 ∷ []) []) temp_there 1 (step 0 1 1) (reading 0 7) [] [] refl tt tt refl tt ((λ l. absurd (omega (arith, l))), ((λ l. omega arith), tt))), tt))
read-uncreated-rest p ne = quiet AnyDue p (circuit (creating ∷ reading 0 7 ∷ []) [] (step 0 1 1 ∷ step 0 1 1 ∷ []) []) opened temp_there refl refl refl refl refl

pub read-uncreated : BreaksOnly part.Acts (world (circuit (creating ∷ reading 0 7 ∷ []) [] (step 0 1 1 ∷ step 0 1 1 ∷ []) [] ∷ []) opened temp_there)
read-uncreated = (read-uncreated-rest, λ h. (let a = its-part part.Acts (circuit (creating ∷ reading 0 7 ∷ []) [] (step 0 1 1 ∷ step 0 1 1 ∷ []) []) opened temp_there refl refl h.0 1 0 (Request Read 0) (omega arith) (reading 0 7, refl, refl) (λ e. cc) in none-at a.1.2 a.1.6.0.0 (at-take a.1.1.sent [] a.1.2 a.1.6.0.0 a.1.6.0.3)))

refused-safe-each : (p : Part) → Holds AnyDue p (world (read_at 2 no_channel ∷ []) opened temp_removed)
refused-safe-each part.WasThere = holds AnyDue part.WasThere (read_at 2 no_channel) opened temp_removed refl refl (was-there [] refl) tt tt
refused-safe-each part.Acts = holds AnyDue part.Acts (read_at 2 no_channel) opened temp_removed refl refl (λ k channel ask early meant other. acts-by (read_at 2 no_channel) (reading 0 7) opened temp_removed refl refl (acted-2 (no_channel)) (temp, (0, refl), (0, refl)) k channel ask meant other) tt tt
refused-safe-each part.Retired = holds AnyDue part.Retired (read_at 2 no_channel) opened temp_removed refl refl retired-2 tt tt
refused-safe-each part.Refused = holds AnyDue part.Refused (read_at 2 no_channel) opened temp_removed refl refl refused-2 tt tt
refused-safe-each part.Caused = caused-each (read_at 2 no_channel) opened temp_removed refl refl ((tt, (step 0 1 1, refl, omega arith)), ((tt, (step 1 2 2, refl, omega arith)), tt))
refused-safe-each part.Own = taken-each (read_at 2 no_channel) opened temp_removed refl refl ((created-own (read_at 2 no_channel) 0 (takes-cid (read_at 2 no_channel) 0 0 creating refl refl refl (omega arith) refl)), ((λ id s. subst (λ (e : Id). TakesOwn (read_at 2 no_channel) 1 1 e) (sym (of-request (no_channel) id (inl refl) (heads (no_channel) id (λ e. omega (arith, e)) s))) (1, 0, reading 0 7, reading 0 7, (reading 0 7, refl, (inl refl, refl), omega arith, λ l r after early at gives. two-only creating (reading 0 7) l r after at), omega arith, refl, refl, refl, refl)), tt))
refused-safe-each part.Answered = answered-each (read_at 2 no_channel) opened temp_removed refl refl ((answered-by (read_at 2 no_channel) temp_removed 0 (step 0 1 1) creating (created_told.message ∷ []) [] refl (refl, tt) tt refl ((λ p e. omega arith), ((λ p e. absurd (omega (arith, p))), tt)) ((λ l. absurd (omega (arith, l))), ((λ l. omega arith), tt))), ((answered-by (read_at 2 no_channel) temp_removed 1 (step 1 2 2) (reading 0 7) ((no_channel) ∷ []) [] refl (refl, tt) tt refl ((λ p e. absurd (omega (arith, p))), ((λ p e. omega arith), tt)) ((λ l. absurd (omega (arith, l))), ((λ l. absurd (omega (arith, l))), tt))), tt))
refused-safe-each p = quiet AnyDue p (read_at 2 no_channel) opened temp_removed refl refl refl refl refl

pub refused-safe : IsSafeNow (world (read_at 2 no_channel ∷ []) opened temp_removed)
refused-safe = whole AnyDue _ (refused-safe-each)

refused-too-soon-rest : (p : Part) → (p ≡ part.Retired → ⊥) → Holds AnyDue p (world (read_at 1 no_channel ∷ []) opened temp_removed)
refused-too-soon-rest part.Retired ne = absurd (ne refl)
refused-too-soon-rest part.WasThere ne = holds AnyDue part.WasThere (read_at 1 no_channel) opened temp_removed refl refl (was-there [] refl) tt tt
refused-too-soon-rest part.Acts ne = holds AnyDue part.Acts (read_at 1 no_channel) opened temp_removed refl refl (λ k channel ask early meant other. acts-by (read_at 1 no_channel) (reading 0 7) opened temp_removed refl refl (acted-1 (no_channel)) (temp, (0, refl), (0, refl)) k channel ask meant other) tt tt
refused-too-soon-rest part.Refused ne = holds AnyDue part.Refused (read_at 1 no_channel) opened temp_removed refl refl (λ k j r m s h here at uses acted handled gone. absurd (none-removed (no_channel) k h r handled gone)) tt tt
refused-too-soon-rest part.Caused ne = caused-each (read_at 1 no_channel) opened temp_removed refl refl ((tt, (step 0 1 1, refl, omega arith)), ((tt, (step 1 1 1, refl, omega arith)), tt))
refused-too-soon-rest part.Own ne = taken-each (read_at 1 no_channel) opened temp_removed refl refl ((created-own (read_at 1 no_channel) 0 (takes-cid (read_at 1 no_channel) 0 0 creating refl refl refl (omega arith) refl)), ((λ id s. subst (λ (e : Id). TakesOwn (read_at 1 no_channel) 1 1 e) (sym (of-request (no_channel) id (inl refl) (heads (no_channel) id (λ e. omega (arith, e)) s))) (1, 0, reading 0 7, reading 0 7, (reading 0 7, refl, (inl refl, refl), omega arith, λ l r after early at gives. two-only creating (reading 0 7) l r after at), omega arith, refl, refl, refl, refl)), tt))
refused-too-soon-rest part.Answered ne = answered-each (read_at 1 no_channel) opened temp_removed refl refl ((answered-by (read_at 1 no_channel) temp_removed 0 (step 0 1 1) creating (created_told.message ∷ []) [] refl (refl, tt) tt refl ((λ p e. omega arith), ((λ p e. absurd (omega (arith, p))), tt)) ((λ l. absurd (omega (arith, l))), ((λ l. omega arith), tt))), ((answered-by (read_at 1 no_channel) temp_removed 1 (step 1 1 1) (reading 0 7) ((no_channel) ∷ []) [] refl (refl, tt) tt refl ((λ p e. absurd (omega (arith, p))), ((λ p e. omega arith), tt)) ((λ l. absurd (omega (arith, l))), ((λ l. absurd (omega (arith, l))), tt))), tt))
refused-too-soon-rest p ne = quiet AnyDue p (read_at 1 no_channel) opened temp_removed refl refl refl refl refl

pub refused-too-soon : BreaksOnly part.Retired (world (read_at 1 no_channel ∷ []) opened temp_removed)
refused-too-soon = (refused-too-soon-rest, λ h. only-added (Added 0 temp ∷ []) 0 refl (its-part part.Retired (read_at 1 no_channel) opened temp_removed refl refl h.0 1 1 0 (step 1 1 1) (no_channel, refl, bad-means) (acted-1 no_channel) refl))

not-refused-rest : (p : Part) → (p ≡ part.Refused → ⊥) → Holds AnyDue p (world (read_at 2 value_21 ∷ []) opened temp_removed)
not-refused-rest part.Refused ne = absurd (ne refl)
not-refused-rest part.WasThere ne = holds AnyDue part.WasThere (read_at 2 value_21) opened temp_removed refl refl (was-there [] refl) tt tt
not-refused-rest part.Acts ne = holds AnyDue part.Acts (read_at 2 value_21) opened temp_removed refl refl (λ k channel ask early meant other. acts-by (read_at 2 value_21) (reading 0 7) opened temp_removed refl refl (acted-2 (value_21)) (temp, (0, refl), (0, refl)) k channel ask meant other) tt tt
not-refused-rest part.Caused ne = caused-each (read_at 2 value_21) opened temp_removed refl refl ((tt, (step 0 1 1, refl, omega arith)), ((tt, (step 1 2 2, refl, omega arith)), tt))
not-refused-rest part.Own ne = taken-each (read_at 2 value_21) opened temp_removed refl refl ((created-own (read_at 2 value_21) 0 (takes-cid (read_at 2 value_21) 0 0 creating refl refl refl (omega arith) refl)), ((λ id s. subst (λ (e : Id). TakesOwn (read_at 2 value_21) 1 1 e) (sym (of-request (value_21) id (inl refl) (heads (value_21) id (λ e. omega (arith, e)) s))) (1, 0, reading 0 7, reading 0 7, (reading 0 7, refl, (inl refl, refl), omega arith, λ l r after early at gives. two-only creating (reading 0 7) l r after at), omega arith, refl, refl, refl, refl)), tt))
not-refused-rest part.Answered ne = answered-each (read_at 2 value_21) opened temp_removed refl refl ((answered-by (read_at 2 value_21) temp_removed 0 (step 0 1 1) creating (created_told.message ∷ []) [] refl (refl, tt) tt refl ((λ p e. omega arith), ((λ p e. absurd (omega (arith, p))), tt)) ((λ l. absurd (omega (arith, l))), ((λ l. omega arith), tt))), ((answered-by (read_at 2 value_21) temp_removed 1 (step 1 2 2) (reading 0 7) ((value_21) ∷ []) [] refl (refl, tt) tt refl ((λ p e. absurd (omega (arith, p))), ((λ p e. omega arith), tt)) ((λ l. absurd (omega (arith, l))), ((λ l. absurd (omega (arith, l))), tt))), tt))
not-refused-rest p ne = quiet AnyDue p (read_at 2 value_21) opened temp_removed refl refl refl refl refl

pub not-refused : BreaksOnly part.Refused (world (read_at 2 value_21 ∷ []) opened temp_removed)
not-refused = (not-refused-rest, λ h. (let b = its-part part.Refused (read_at 2 value_21) opened temp_removed refl refl h.0 1 1 0 value_21 (reading 0 7) (step 1 2 2) refl refl tt (acted-2 value_21) refl (1, refl) in fine b.0 _ (ap (λ (t : Told). is_fine t.message) (sym (some_is _ _ b.1))) b.2))

-- ---- a put

put-acted-1 : (m : Fields) → Acted (put_read m 1) temp_there 1 0
put-acted-1 m = (putting 0 8 22, step 1 1 1, 0, 0, refl, refl, open-here (before (put_read m 1) 1 (step 1 1 1)) (take 1 temp_there) (created-here (before (put_read m 1) 1 (step 1 1 1)) (take 1 temp_there) refl refl refl refl (only-added (Added 0 temp ∷ []) 0 refl)) refl refl)

put-acted-2 : (m : Fields) → Acted (put_read m 2) put_made 1 0
put-acted-2 m = (putting 0 8 22, step 1 1 2, 0, 0, refl, refl, open-here (before (put_read m 2) 1 (step 1 1 2)) (take 1 put_made) (created-here (before (put_read m 2) 1 (step 1 1 2)) (take 1 put_made) refl refl refl refl (only-added (Added 0 temp ∷ []) 0 refl)) refl refl)

failed-other : (k j : ℕ) (after : ℕ) → IsBadChannel AnyDue Shows Means (put_read (status_of 160) after) k j → ⊥
failed-other k j after bad =
    elim (two-at created_told (reply 1 (status_of 160)) j _ bad.1) [
      | inl e ↦ fine bad.0 _ (ap (λ (t : Told). is_fine t.message) e.1) bad.2
      | inr e ↦ not-160 (subst (λ (z : Fields). Means z (outcome.Failed (record { number = bad_channel }))) (ap (λ (t : Told). t.message) e.1) bad.2)
    ]
  where
    not-160 : Means (status_of 160) (outcome.Failed (record { number = bad_channel })) → ⊥
    not-160 h =
        elim h [
          | inl a ↦ elim a.0 [
            | inl e ↦ omega (arith, e)
            | inr e ↦ (let f = e.0 in omega (arith, f))
          ]
          | inr b ↦ elim b [
            | inl a ↦ (let e = a.1.1 in omega (arith, e))
            | inr d ↦ elim d [
              | inl a ↦ a.1
              | inr a ↦ (let e = a.0 in omega (arith, e))
            ]
          ]
        ]

not-cleared : (o : Outcome) → In (take 2 (put_told o)) (Called (On 0 Clear) Nothing) → ⊥
not-cleared o h = each-at (λ (i : ℕ) (l : Line). l ≡ Called (On 0 Clear) Nothing → ⊥) (take 2 (put_told o)) ((λ e. cc), ((λ e. cc), tt)) h.0 _ h.1 refl

put-reads : (m : Fields) (after : ℕ) (o : Outcome) (y : List Entry) → Means m o → ToldAt (world (put_read m after ∷ []) (put_told o) y) (put_told o) 2 (Noticed (On 0 (Request Put 0)) o)
put-reads m after o y means = inl (
  record {
    n = 0;
    c = put_read m after;
    on = (refl, refl);
    j = 1;
    t = reply 1 m;
    h = step 2 2 3;
    read = (refl, refl, refl, omega arith);
    own = (putting 0 8 22, refl, refl);
    held = not-cleared o;
    means = means;
  },
  refl,
)

done-means : Means (status_of 1) outcome.Done
done-means = inr (inl (refl, refl))

failed-means : Means (status_of 160) fails
failed-means = inr (inl (refl, ((λ e. omega (arith, e)), refl)))

put-own : (m : Fields) (o : Outcome) → IsOwnWrite (world (put_read m 2 ∷ []) (put_told o) put_made) 0 1 0 1 0 (long 22)
put-own m o = record {
  c = put_read m 2;
  x = put_told o;
  y = put_made;
  joins = ((refl, refl, refl), refl);
  channel = 0;
  ask = Request Put 0;
  given = longs (pos 22 ∷ []);
  called = ((putting 0 8 22, refl, refl), (1, refl));
  to = temp;
  there = ((0, refl), (0, refl), only-added (Added 0 temp ∷ []) 0 refl);
  value = refl;
  written = (record { seconds = 0; nanos = 0 }, refl);
  came = inl (inl (step 1 1 2, refl, omega arith, omega arith));
}

put-stands : (m : Fields) (after : ℕ) (o : Outcome) (y : List Entry) → Stands (world (put_read m after ∷ []) (put_told o) y) 0 (On 0 (Request Put 0)) 0 1
put-stands m after o y = (put_read m after, refl, refl, (putting 0 8 22, refl, refl))

abbrev intent-of : Line → Intent
intent-of (Noticed i o) = i
intent-of l = On 0 Create

put-done : (life channel number : ℕ) (x : List Line) → At (put_told outcome.Done ∷ []) life x → In x (Noticed (On channel (Request Put number)) outcome.Done)
    → (n k l i r : ℕ) × (v : Stored) × Stands (world (put_read (status_of 1) 2 ∷ []) (put_told outcome.Done) put_made) life (On channel (Request Put number)) n k × IsApplied (world (put_read (status_of 1) 2 ∷ []) (put_told outcome.Done) put_made) n k l i r v
put-done life channel number x at h =
    let z = one-at (put_told outcome.Done) life x at in
    let here : At (put_told outcome.Done) h.0 (Noticed (On channel (Request Put number)) outcome.Done) = subst (λ (s : List Line). At s h.0 (Noticed (On channel (Request Put number)) outcome.Done)) z.1 h.1 in
    let is : On 0 (Request Put 0) ≡ On channel (Request Put number) = each-at (λ (j : ℕ) (s : Line). s ≡ Noticed (On channel (Request Put number)) outcome.Done → On 0 (Request Put 0) ≡ On channel (Request Put number)) (put_told outcome.Done) ((λ f. absurd cc), ((λ f. absurd cc), ((λ f. ap intent-of f), tt))) h.0 _ here refl in
    (0, 1, 0, 1, 0, long 22, (put_read (status_of 1) 2, refl, sym z.0, (putting 0 8 22, refl, is)), (put_made, false, refl, refl))

done-safe-each : (p : Part) → Holds AnyDue p (world (put_read (status_of 1) 2 ∷ []) (put_told (outcome.Done)) put_made)
done-safe-each part.Acts = holds AnyDue part.Acts (put_read (status_of 1) 2) (put_told (outcome.Done)) put_made refl refl (λ k channel ask early meant other. acts-by (put_read (status_of 1) 2) (putting 0 8 22) (put_told (outcome.Done)) put_made refl refl (put-acted-2 (status_of 1)) (temp, (0, refl), (0, refl)) k channel ask meant other) tt tt
done-safe-each part.Caused = caused-each (put_read (status_of 1) 2) (put_told (outcome.Done)) put_made refl refl ((tt, (step 0 1 1, refl, omega arith)), ((tt, (step 1 1 2, refl, omega arith)), tt))
done-safe-each part.Own = taken-each (put_read (status_of 1) 2) (put_told (outcome.Done)) put_made refl refl ((created-own (put_read (status_of 1) 2) 0 (takes-cid (put_read (status_of 1) 2) 0 0 creating refl refl refl (omega arith) refl)), ((λ id s. subst (λ (e : Id). TakesOwn (put_read (status_of 1) 2) 1 1 e) (sym (of-request (status_of 1) id (inr refl) (heads (status_of 1) id (λ e. omega (arith, e)) s))) (1, 0, putting 0 8 22, putting 0 8 22, (putting 0 8 22, refl, (inr refl, refl), omega arith, λ l r after early at gives. two-only creating (putting 0 8 22) l r after at), omega arith, refl, refl, refl, refl)), tt))
done-safe-each part.Answered = answered-each (put_read (status_of 1) 2) (put_told (outcome.Done)) put_made refl refl ((answered-by (put_read (status_of 1) 2) put_made 0 (step 0 1 1) creating (created_told.message ∷ []) [] refl (refl, tt) tt refl ((λ p e. omega arith), ((λ p e. absurd (omega (arith, p))), tt)) ((λ l. absurd (omega (arith, l))), ((λ l. omega arith), tt))), ((answered-by (put_read (status_of 1) 2) put_made 1 (step 1 1 2) (putting 0 8 22) ((status_of 1) ∷ []) (Applied 0 1 0 (long 22) false ∷ []) refl (refl, tt) (refl, tt) refl ((λ p e. absurd (omega (arith, p))), ((λ p e. omega arith), tt)) ((λ l. absurd (omega (arith, l))), ((λ l. absurd (omega (arith, l))), tt))), tt))
done-safe-each part.Told = told-each (put_read (status_of 1) 2) (put_told (outcome.Done)) put_made refl refl (tt, (tt, (put-reads (status_of 1) 2 (outcome.Done) put_made done-means, tt)))
done-safe-each part.SentOnce = sent-each (put_read (status_of 1) 2) (put_told (outcome.Done)) put_made refl refl (tt, ((λ asks. (0, 1, put-stands (status_of 1) 2 (outcome.Done) put_made)), (tt, tt)))
done-safe-each part.OwnWrite = own-each (put_read (status_of 1) 2) (put_told (outcome.Done)) put_made refl refl (tt, (put-own (status_of 1) (outcome.Done), tt))
done-safe-each part.Done = holds AnyDue part.Done (put_read (status_of 1) 2) (put_told (outcome.Done)) put_made refl refl tt tt put-done
done-safe-each p = quiet AnyDue p (put_read (status_of 1) 2) (put_told (outcome.Done)) put_made refl refl refl refl refl

pub done-safe : IsSafeNow (world (put_read (status_of 1) 2 ∷ []) (put_told (outcome.Done)) put_made)
done-safe = whole AnyDue _ (done-safe-each)

failed-safe-each : (p : Part) → Holds AnyDue p (world (put_read (status_of 160) 1 ∷ []) (put_told (fails)) temp_there)
failed-safe-each part.Acts = holds AnyDue part.Acts (put_read (status_of 160) 1) (put_told (fails)) temp_there refl refl (λ k channel ask early meant other. acts-by (put_read (status_of 160) 1) (putting 0 8 22) (put_told (fails)) temp_there refl refl (put-acted-1 (status_of 160)) (temp, (0, refl), (0, refl)) k channel ask meant other) tt tt
failed-safe-each part.Caused = caused-each (put_read (status_of 160) 1) (put_told (fails)) temp_there refl refl ((tt, (step 0 1 1, refl, omega arith)), ((tt, (step 1 1 1, refl, omega arith)), tt))
failed-safe-each part.Own = taken-each (put_read (status_of 160) 1) (put_told (fails)) temp_there refl refl ((created-own (put_read (status_of 160) 1) 0 (takes-cid (put_read (status_of 160) 1) 0 0 creating refl refl refl (omega arith) refl)), ((λ id s. subst (λ (e : Id). TakesOwn (put_read (status_of 160) 1) 1 1 e) (sym (of-request (status_of 160) id (inr refl) (heads (status_of 160) id (λ e. omega (arith, e)) s))) (1, 0, putting 0 8 22, putting 0 8 22, (putting 0 8 22, refl, (inr refl, refl), omega arith, λ l r after early at gives. two-only creating (putting 0 8 22) l r after at), omega arith, refl, refl, refl, refl)), tt))
failed-safe-each part.Answered = answered-each (put_read (status_of 160) 1) (put_told (fails)) temp_there refl refl ((answered-by (put_read (status_of 160) 1) temp_there 0 (step 0 1 1) creating (created_told.message ∷ []) [] refl (refl, tt) tt refl ((λ p e. omega arith), ((λ p e. absurd (omega (arith, p))), tt)) ((λ l. absurd (omega (arith, l))), ((λ l. omega arith), tt))), ((answered-by (put_read (status_of 160) 1) temp_there 1 (step 1 1 1) (putting 0 8 22) ((status_of 160) ∷ []) [] refl (refl, tt) tt refl ((λ p e. absurd (omega (arith, p))), ((λ p e. omega arith), tt)) ((λ l. absurd (omega (arith, l))), ((λ l. absurd (omega (arith, l))), tt))), tt))
failed-safe-each part.Told = told-each (put_read (status_of 160) 1) (put_told (fails)) temp_there refl refl (tt, (tt, (put-reads (status_of 160) 1 (fails) temp_there failed-means, tt)))
failed-safe-each part.SentOnce = sent-each (put_read (status_of 160) 1) (put_told (fails)) temp_there refl refl (tt, ((λ asks. (0, 1, put-stands (status_of 160) 1 (fails) temp_there)), (tt, tt)))
failed-safe-each part.Retired = holds AnyDue part.Retired (put_read (status_of 160) 1) (put_told (fails)) temp_there refl refl (λ k j r h bad acted at. absurd (failed-other k j 1 bad)) tt tt
failed-safe-each p = quiet AnyDue p (put_read (status_of 160) 1) (put_told (fails)) temp_there refl refl refl refl refl

pub failed-safe : IsSafeNow (world (put_read (status_of 160) 1 ∷ []) (put_told (fails)) temp_there)
failed-safe = whole AnyDue _ (failed-safe-each)

done-unmade-rest : (p : Part) → (p ≡ part.Done → ⊥) → Holds AnyDue p (world (put_read (status_of 1) 1 ∷ []) (put_told (outcome.Done)) temp_there)
done-unmade-rest part.Done ne = absurd (ne refl)
done-unmade-rest part.Acts ne = holds AnyDue part.Acts (put_read (status_of 1) 1) (put_told (outcome.Done)) temp_there refl refl (λ k channel ask early meant other. acts-by (put_read (status_of 1) 1) (putting 0 8 22) (put_told (outcome.Done)) temp_there refl refl (put-acted-1 (status_of 1)) (temp, (0, refl), (0, refl)) k channel ask meant other) tt tt
done-unmade-rest part.Caused ne = caused-each (put_read (status_of 1) 1) (put_told (outcome.Done)) temp_there refl refl ((tt, (step 0 1 1, refl, omega arith)), ((tt, (step 1 1 1, refl, omega arith)), tt))
done-unmade-rest part.Own ne = taken-each (put_read (status_of 1) 1) (put_told (outcome.Done)) temp_there refl refl ((created-own (put_read (status_of 1) 1) 0 (takes-cid (put_read (status_of 1) 1) 0 0 creating refl refl refl (omega arith) refl)), ((λ id s. subst (λ (e : Id). TakesOwn (put_read (status_of 1) 1) 1 1 e) (sym (of-request (status_of 1) id (inr refl) (heads (status_of 1) id (λ e. omega (arith, e)) s))) (1, 0, putting 0 8 22, putting 0 8 22, (putting 0 8 22, refl, (inr refl, refl), omega arith, λ l r after early at gives. two-only creating (putting 0 8 22) l r after at), omega arith, refl, refl, refl, refl)), tt))
done-unmade-rest part.Answered ne = answered-each (put_read (status_of 1) 1) (put_told (outcome.Done)) temp_there refl refl ((answered-by (put_read (status_of 1) 1) temp_there 0 (step 0 1 1) creating (created_told.message ∷ []) [] refl (refl, tt) tt refl ((λ p e. omega arith), ((λ p e. absurd (omega (arith, p))), tt)) ((λ l. absurd (omega (arith, l))), ((λ l. omega arith), tt))), ((answered-by (put_read (status_of 1) 1) temp_there 1 (step 1 1 1) (putting 0 8 22) ((status_of 1) ∷ []) [] refl (refl, tt) tt refl ((λ p e. absurd (omega (arith, p))), ((λ p e. omega arith), tt)) ((λ l. absurd (omega (arith, l))), ((λ l. absurd (omega (arith, l))), tt))), tt))
done-unmade-rest part.Told ne = told-each (put_read (status_of 1) 1) (put_told (outcome.Done)) temp_there refl refl (tt, (tt, (put-reads (status_of 1) 1 (outcome.Done) temp_there done-means, tt)))
done-unmade-rest part.SentOnce ne = sent-each (put_read (status_of 1) 1) (put_told (outcome.Done)) temp_there refl refl (tt, ((λ asks. (0, 1, put-stands (status_of 1) 1 (outcome.Done) temp_there)), (tt, tt)))
done-unmade-rest p ne = quiet AnyDue p (put_read (status_of 1) 1) (put_told (outcome.Done)) temp_there refl refl refl refl refl

pub done-unmade : BreaksOnly part.Done (world (put_read (status_of 1) 1 ∷ []) (put_told (outcome.Done)) temp_there)
done-unmade = (done-unmade-rest, λ h. (let d = h.2 0 0 0 (put_told (outcome.Done)) refl (2, refl) in let a = d.7 in none is_applied temp_there refl d.3 _ (subst (λ (z : List Entry). At z d.3 (Applied d.0 d.1 d.4 d.5 a.1)) (one-at temp_there d.2 a.0 a.2).1 a.3) refl))

failed-made-rest : (p : Part) → (p ≡ part.Failed → ⊥) → Holds AnyDue p (world (put_read (status_of 160) 2 ∷ []) (put_told (fails)) put_made)
failed-made-rest part.Failed ne = absurd (ne refl)
failed-made-rest part.Acts ne = holds AnyDue part.Acts (put_read (status_of 160) 2) (put_told (fails)) put_made refl refl (λ k channel ask early meant other. acts-by (put_read (status_of 160) 2) (putting 0 8 22) (put_told (fails)) put_made refl refl (put-acted-2 (status_of 160)) (temp, (0, refl), (0, refl)) k channel ask meant other) tt tt
failed-made-rest part.Caused ne = caused-each (put_read (status_of 160) 2) (put_told (fails)) put_made refl refl ((tt, (step 0 1 1, refl, omega arith)), ((tt, (step 1 1 2, refl, omega arith)), tt))
failed-made-rest part.Own ne = taken-each (put_read (status_of 160) 2) (put_told (fails)) put_made refl refl ((created-own (put_read (status_of 160) 2) 0 (takes-cid (put_read (status_of 160) 2) 0 0 creating refl refl refl (omega arith) refl)), ((λ id s. subst (λ (e : Id). TakesOwn (put_read (status_of 160) 2) 1 1 e) (sym (of-request (status_of 160) id (inr refl) (heads (status_of 160) id (λ e. omega (arith, e)) s))) (1, 0, putting 0 8 22, putting 0 8 22, (putting 0 8 22, refl, (inr refl, refl), omega arith, λ l r after early at gives. two-only creating (putting 0 8 22) l r after at), omega arith, refl, refl, refl, refl)), tt))
failed-made-rest part.Answered ne = answered-each (put_read (status_of 160) 2) (put_told (fails)) put_made refl refl ((answered-by (put_read (status_of 160) 2) put_made 0 (step 0 1 1) creating (created_told.message ∷ []) [] refl (refl, tt) tt refl ((λ p e. omega arith), ((λ p e. absurd (omega (arith, p))), tt)) ((λ l. absurd (omega (arith, l))), ((λ l. omega arith), tt))), ((answered-by (put_read (status_of 160) 2) put_made 1 (step 1 1 2) (putting 0 8 22) ((status_of 160) ∷ []) (Applied 0 1 0 (long 22) false ∷ []) refl (refl, tt) (refl, tt) refl ((λ p e. absurd (omega (arith, p))), ((λ p e. omega arith), tt)) ((λ l. absurd (omega (arith, l))), ((λ l. absurd (omega (arith, l))), tt))), tt))
failed-made-rest part.Told ne = told-each (put_read (status_of 160) 2) (put_told (fails)) put_made refl refl (tt, (tt, (put-reads (status_of 160) 2 (fails) put_made failed-means, tt)))
failed-made-rest part.SentOnce ne = sent-each (put_read (status_of 160) 2) (put_told (fails)) put_made refl refl (tt, ((λ asks. (0, 1, put-stands (status_of 160) 2 (fails) put_made)), (tt, tt)))
failed-made-rest part.Retired ne = holds AnyDue part.Retired (put_read (status_of 160) 2) (put_told (fails)) put_made refl refl (λ k j r h bad acted at. absurd (failed-other k j 2 bad)) tt tt
failed-made-rest part.OwnWrite ne = own-each (put_read (status_of 160) 2) (put_told (fails)) put_made refl refl (tt, (put-own (status_of 160) (fails), tt))
failed-made-rest p ne = quiet AnyDue p (put_read (status_of 160) 2) (put_told (fails)) put_made refl refl refl refl refl

pub failed-made : BreaksOnly part.Failed (world (put_read (status_of 160) 2 ∷ []) (put_told (fails)) put_made)
failed-made = (failed-made-rest, λ h. h.2 0 0 1 0 1 0 (On 0 (Request Put 0)) (record { number = 160 }) (put_told (fails)) (long 22) refl (2, refl) (put-stands (status_of 160) 2 fails put_made) (put_made, false, refl, refl))
