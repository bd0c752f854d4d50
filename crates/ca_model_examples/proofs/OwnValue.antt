-- A read on a channel to TEMP is answered by TEMP's value, which is due, and not by that of SETP beside it.
use Rattle.std.proofs.Common.{◌≡◌, ℕ, ◌+◌, inl, inr, List, [], ◌∷◌, refl, sym, ap, subst, ◌∙◌, arith}
use Rattle.std.specs.Prelude.{false, true, take, pos, Option, Some, None, Result, Ok, Err, if◌then◌else◌}
use Rattle.std.specs.Str.{bytes_eq}
use Rattle.std.proofs.lemmas.Slice.Eq.{bytes_eq-Decides}
use Rattle.ca_text.specs.Place.{At}
use Rattle.ca_text.specs.declared.refusal.Refusal.{Refusal}
use Rattle.ca_text.proofs.Places.{some_is}
use Rattle.ca_dbr.specs.declared.data_type.BaseType.TheVariants as base
use Rattle.ca_dbr.specs.declared.data_type.Form.TheVariants as form
use Rattle.ca_dbr.specs.Elements as E
use Rattle.ca_dbr.specs.Elements.{Elements, count_of, longs}
use Rattle.ca_display.specs.declared.image_type.ImageType.{ImageType}
use Rattle.ca_display.specs.declared.image_type.ImageType.TheVariants as any
use Rattle.ca_records.specs.Record.{RecordState}
use Rattle.ca_wire.specs.Fields.{Fields}
use Rattle.ca_wire.specs.Messages.{value_reply}
use Rattle.ca_model.specs.Speech.{Id, In, Ioid, Stored, name_in}
use Rattle.ca_model.specs.Due.{KnownRecord, Knows, Nothing, Opens, ReadDue, Serves}
use Rattle.ca_model.specs.Faults.{read_shown}
use Rattle.ca_model.specs.Images.{image_of, image_type_of}
use Rattle.ca_model.specs.History.{Circuit, Entry, Sent, Told, Added, Removed, Reply}
use Rattle.ca_model.specs.Channels.{Has, IsOpen, IsReply, before}
use Rattle.ca_model.specs.Headline.{Answered, AnswersOwn}
use Rattle.ca_model.specs.Causes.{Acted, TakesOwn}
use Rattle.ca_model.specs.Known.{IsBusy, IsChannel, IsNow, IsRecordOf, IsSafe, Knew}
use Rattle.ca_requests.specs.Meaning.{Means}
use Rattle.ca_model.specs.Updates.{Shows}
use Rattle.ca_model_examples.specs.Worlds.{created_told, creating, long, ports, reading, rights_told, rules, step, temp, temp_name}
use Rattle.ca_model_examples.specs.Parts.{Part, Holds}
use Rattle.ca_model_examples.specs.Parts as part
use Rattle.ca_model_examples.specs.Unsafe.{opened}
use Rattle.ca_model_examples.specs.Owed.{UnsafeAsDue, answered_by_value, setp, temp_and_setp, temp_read, value_told}
use Rattle.ca_model_examples.proofs.Lists.{at-take, at-take-within, each-at, none-at, one-at, two-at}
use Rattle.ca_model_examples.proofs.Quiet.{clash, holds, is_applied, none, quiet, whole}
use Rattle.ca_model_examples.proofs.Creations.{number-of, only-added}
use Rattle.ca_model_examples.proofs.Opened.{created-own, takes-cid}
use Rattle.ca_model_examples.proofs.Owed.{its-own}
use Rattle.ca_model_examples.proofs.Shown.{answered-as, caused-each, taken-each}
use Rattle.ca_model_examples.proofs.SmallDue.{TrueDue, by-test, create-due, knew-by, knows, name-of, no-key, none-just, one-channel, read-due, temp_channel, temp_now}
use Rattle.ca_model_examples.proofs.Speaks.{heads, of-channel, of-request}
use Rattle.ca_model_examples.proofs.Uses.{acts-by, two-only}

-- ---- the log

abbrev state-of : Entry → RecordState
state-of (Added r s) = s
state-of e = temp

abbrev first : List ℕ → ℕ
first [] = 0
first (n ∷ ns) = n

-- TEMP is record 0
temp-at : (i q : ℕ) (s : RecordState) → At temp_and_setp i (Added q s) → s.name ≡ temp_name → q ≡ 0
temp-at i q s at named =
    each-at (λ (k : ℕ) (e : Entry). e ≡ Added q s → q ≡ 0) temp_and_setp (
      (λ e. ap number-of (sym e)),
      ((λ e. absurd (let f : 83 ≡ 84 = ap (λ (z : Entry). first (name-of z)) e ∙ ap first named in omega (arith, f))), tt),
    ) i _ at refl

its-temp : (n q : ℕ) → Has (take n temp_and_setp) q temp_name → q ≡ 0
its-temp n q h = temp-at h.1.0 q h.0 (at-take n temp_and_setp h.1.0 _ h.1.1) h.2

first-is : (i : ℕ) (s : RecordState) → At temp_and_setp i (Added 0 s) → s ≡ temp
first-is i s at =
    each-at (λ (k : ℕ) (e : Entry). e ≡ Added 0 s → s ≡ temp) temp_and_setp (
      (λ e. sym (ap state-of e)),
      ((λ e. absurd (let f : 1 ≡ 0 = ap number-of e in omega (arith, f))), tt),
    ) i _ at refl

none-removed : (r : ℕ) → In temp_and_setp (Removed r) → ⊥
none-removed r = only-added temp_and_setp r refl

has-temp : Has temp_and_setp 0 temp_name
has-temp = (temp, (0, refl), refl, none-removed 0)

-- ---- the channel, when the read is handled

abbrev known : ℕ → Circuit
known value = before (temp_read value) 1 (step 2 2 2)

open-now : (value : ℕ) → IsOpen (known value) temp_and_setp 1 0 5 0
open-now value = (
  (created_told, creating, step 0 2 2, refl, refl, refl, (refl, refl), refl, refl, has-temp, (refl, refl)),
  (λ i t after at made. (let w = at-take-within 2 (temp_read value).down i t at in omega (arith, w, after))),
  (λ l s after early at clears. omega (arith, after, early)),
)

only-open : (value i l sid q : ℕ) → IsOpen (known value) temp_and_setp i l sid q → (l ≡ 0) × (sid ≡ 5) × (q ≡ 0)
only-open value i l sid q h =
    let made = h.0 in
    elim (two-at rights_told created_told i made.0 made.3) [
      | inl e ↦ absurd (let f : 22 ≡ 18 = ap (λ (t : Told). t.message.command) (sym e.1) ∙ made.6.0 in omega (arith, f))
      | inr e ↦ (
        sym made.4 ∙ ap (λ (t : Told). t.place) e.1,
        sym made.6.1 ∙ ap (λ (t : Told). t.message.p2) e.1,
        its-temp made.2.logged q (subst (λ (s : Sent). Has (take made.2.logged temp_and_setp) q (name_in s.message)) (one-at creating l made.1 made.7).1 made.9),
      )
    ]

-- ---- the value of SETP is not due

-- the last byte of an element
abbrev fourth : List ℕ → ℕ
fourth (a ∷ b ∷ c ∷ d ∷ rest) = d
fourth rest = 0

its-byte : (value : ℕ) (replies : List Fields) (x : Fields) → replies ≡ x ∷ [] → ((i : ℕ) (m : Fields) → At replies i m → IsReply (temp_read value) 1 (2 + i) m) → value ≡ fourth x.payload
its-byte value replies x are now =
    let told : At replies 0 x = subst (λ (l : List Fields). At l 0 x) (sym are) refl in
    ap (λ (t : Told). fourth t.message.payload) (some_is (value_told value) (record { message = x; place = 1; cause = Reply }) (now 0 x told))

-- a record with this value
abbrev valued : RecordState → Stored → RecordState
valued s v = record s { value = v.value; meta = v.meta }

-- Record 0 is as it was added.
is-temp : (now : KnownRecord) → IsNow temp_and_setp 0 now → now.state ≡ temp
is-temp now is =
    let v : is.v ≡ long 21 = sym (some_is (long 21) is.v is.last) in
    is.state ∙ ap (λ (s : RecordState). valued s is.v) (first-is is.added.0 is.first is.added.1) ∙ ap (λ (u : Stored). valued temp u) v

-- So what is served on the channel is TEMP.
serves-temp : (k : Knows) → Knew 5064 [] (known 5) temp_and_setp k → (c : Serves k 5) → c.known.state ≡ temp
serves-temp k knew c =
    let h = knew.channels.each c.channel c.open_there in
    let name : c.channel.name ≡ temp_name = h.7 ∙ ap (λ (s : Sent). name_in s.message) (one-at creating h.1 h.3 h.5).1 in
    let there : k.record_of temp_name ≡ Some c.known = subst (λ (n : List ℕ). k.record_of n ≡ Some c.known) name c.named in
    let is : IsRecordOf temp_and_setp temp_name (Some c.known) = subst (λ (o : Option KnownRecord). IsRecordOf temp_and_setp temp_name o) there (knew.records temp_name) in
    is-temp c.known (subst (λ (r : ℕ). IsNow temp_and_setp r c.known) (its-temp 2 is.0 is.1) is.2)

abbrev plain_long : ImageType
plain_long = any.Data (record { base = base.Long; form = form.Plain })

abbrev of-ok : Result Elements Refusal → Elements
of-ok (Ok e) = e
of-ok (Err r) = longs []

-- And the value of a reply is 21.
its-value : (s : RecordState) (t : ImageType) (e : Elements) → s ≡ temp → image_type_of 5 ≡ Some t → read_shown s (reading 0 7).message t ≡ Ok e
    → fourth (value_reply (reading 0 7).message (count_of e) (image_of s.value t e s.meta)).payload ≡ 21
unfolding E.signed_bytes_4
its-value s t e is typed showed =
    let plain : t ≡ plain_long = sym (some_is _ t typed) in
    let here : read_shown temp (reading 0 7).message plain_long ≡ Ok e =
    subst (λ (u : ImageType). read_shown temp (reading 0 7).message u ≡ Ok e) plain (subst (λ (r : RecordState). read_shown r (reading 0 7).message t ≡ Ok e) is showed) in
    let so : longs (pos 21 ∷ []) ≡ e = ap of-ok here in
    subst (λ (r : RecordState). fourth (value_reply (reading 0 7).message (count_of e) (image_of r.value t e r.meta)).payload ≡ 21) (sym is) (
    subst (λ (u : ImageType). fourth (value_reply (reading 0 7).message (count_of e) (image_of temp.value u e temp.meta)).payload ≡ 21) (sym plain) (
    subst (λ (f : Elements). fourth (value_reply (reading 0 7).message (count_of f) (image_of temp.value plain_long f temp.meta)).payload ≡ 21) so refl))

pub never-of-another : UnsafeAsDue (answered_by_value 5)
never-of-another s =
    let p = its-own (AnswersOwn TrueDue Shows Means) (temp_read 5 ∷ []) opened temp_and_setp s.own.0 0 (temp_read 5) refl refl refl in
    let a = p.answered 1 (step 2 2 2) refl in
    let due : TrueDue 0 (known 5) temp_and_setp (reading 0 7).message a.replies a.late a.logs =
    subst (λ (z : Sent). TrueDue 0 (known 5) temp_and_setp z.message a.replies a.late a.logs) (sym (some_is (reading 0 7) a.s a.at)) a.due in
    let byte : (x : Fields) → a.replies ≡ x ∷ [] → 5 ≡ fourth x.payload = λ x are. its-byte 5 a.replies x are a.now in
    elim (due.3.read refl) [
      | inl h ↦ elim h.2 [
        | inl f ↦ (let e : 5 ≡ 0 = byte _ f.2 in omega (arith, e))
        | inr v ↦ (let e : 5 ≡ 21 = byte _ v.1.4 ∙ its-value h.0.known.state v.1.0 v.1.1 (serves-temp due.0 due.2 h.0) v.1.2 v.1.3 in omega (arith, e))
      ]
      | inr h ↦ (let e : 5 ≡ 0 = byte _ h.2 in omega (arith, e))
    ]

-- ---- the value of TEMP is due

abbrev setp_now : KnownRecord
setp_now = record { state = setp; busy = false; waits = 0 }

-- what the server knows of each name
abbrev both : List ℕ → Option KnownRecord
both name = if bytes_eq temp_name name then Some (temp_now false 21 false) else if bytes_eq setp.name name then Some setp_now else None

not-busy : (r : ℕ) → IsBusy temp_and_setp r → ⊥
not-busy r b = none is_applied temp_and_setp refl b.3.0 _ b.3.1 refl

temp-is : IsNow temp_and_setp 0 (temp_now false 21 false)
temp-is = record { first = temp; added = (0, refl); v = long 21; last = refl; state = refl; busy = ((λ e. absurd cc), (λ b. absurd (not-busy 0 b))); waits = refl }

setp-is : IsNow temp_and_setp 1 setp_now
setp-is = record { first = setp; added = (1, refl); v = long 5; last = refl; state = refl; busy = ((λ e. absurd cc), (λ b. absurd (not-busy 1 b))); waits = refl }

-- a name that is not this one
other-name : (a b : List ℕ) → bytes_eq a b ≡ false → a ≡ b → bytes_eq a a ≡ true → ⊥
other-name a b differ same here = clash (subst (λ (n : List ℕ). bytes_eq a n ≡ true) same here) differ

are-both : (name : List ℕ) → IsRecordOf temp_and_setp name (both name)
are-both name =
    by-test temp_and_setp name (Some (temp_now false 21 false)) _ (bytes_eq temp_name name) (
    λ e. subst (λ (n : List ℕ). IsRecordOf temp_and_setp n (Some (temp_now false 21 false))) ((bytes_eq-Decides temp_name name).0 e) (0, has-temp, temp-is)) (
    λ e. by-test temp_and_setp name (Some setp_now) None (bytes_eq setp.name name) (
    λ f. subst (λ (n : List ℕ). IsRecordOf temp_and_setp n (Some setp_now)) ((bytes_eq-Decides setp.name name).0 f) (1, (setp, (1, refl), refl, none-removed 1), setp-is)) (
    λ f r h. each-at (λ (i : ℕ) (z : Entry). z ≡ Added r h.0 → ⊥) temp_and_setp (
      (λ g. other-name temp_name name e (ap name-of g ∙ h.2) refl),
      ((λ g. other-name setp.name name f (ap name-of g ∙ h.2) refl), tt),
    ) h.1.0 _ h.1.1 refl))

abbrev read21 : Circuit
read21 = temp_read 21

created : TrueDue 0 (before read21 0 (step 0 2 2)) temp_and_setp creating.message (rights_told.message ∷ created_told.message ∷ []) None []
created = (
  record (knows None false []) { record_of = both },
  Opens (temp_channel false),
  knew-by (before read21 0 (step 0 2 2)) temp_and_setp both false [] are-both tt refl refl (
      none-just (IsChannel (before read21 0 (step 0 2 2)) temp_and_setp) (λ x h. none-at h.0 h.4.0.0 h.4.0.3)) (no-key (before read21 0 (step 0 2 2)) temp_and_setp tt),
  create-due (record (knows None false []) { record_of = both }) creating.message _ _ refl (record {
    known = temp_now false 21 false;
    named = refl;
    cid_free = λ h. none-at h.1.0 h.0 h.1.1;
    sid = 5;
    fits = omega arith;
    sid_free = λ c h. absurd (none-at h.0 c h.1);
    are = refl;
    does = refl;
  }),
  refl,
  refl,
)

abbrev open-knows : Knows
open-knows = record (knows None true (temp_channel false ∷ [])) { record_of = both }

shows : ReadDue open-knows (reading 0 7).message ((value_told 21).message ∷ []) Nothing
unfolding E.signed_bytes_4
shows = (
  record { channel = temp_channel false; open_there = (0, refl); under = refl; there = refl; known = temp_now false 21 false; named = refl },
  refl,
  inr (refl, (plain_long, longs (pos 21 ∷ []), refl, refl, refl)),
)

answered : TrueDue 0 (known 21) temp_and_setp (reading 0 7).message ((value_told 21).message ∷ []) None []
answered = (
  open-knows,
  Nothing,
  knew-by (known 21) temp_and_setp both true (temp_channel false ∷ []) are-both (refl, tt) refl refl (
      one-channel (known 21) temp_and_setp 1 0 0 false (open-now 21) refl (λ e. absurd cc) (λ g. absurd (none-removed 0 g)) (only-open 21)) (no-key (known 21) temp_and_setp ((λ a b e. cc), tt)),
  read-due open-knows (reading 0 7).message _ _ refl shows,
  refl,
  refl,
)

-- ---- the whole

acted : Acted read21 temp_and_setp 1 0
acted = (reading 0 7, step 2 2 2, 1, 0, refl, refl, open-now 21)

number-at : (i r : ℕ) (s : RecordState) → At temp_and_setp i (Added r s) → i ≡ r
number-at i r s at = each-at (λ (k : ℕ) (e : Entry). e ≡ Added r s → k ≡ r) temp_and_setp ((λ e. ap number-of e), ((λ e. ap number-of e), tt)) i _ at refl

-- SETP is no second TEMP
one-of-a-name : (i r q : ℕ) (s : RecordState) → At temp_and_setp i (Added r s) → Has (take i temp_and_setp) q s.name → ⊥
one-of-a-name i r q s at has =
    each-at (λ (k : ℕ) (e : Entry). e ≡ Added r s → Has (take k temp_and_setp) q s.name → ⊥) temp_and_setp (
      (λ e h. none-at h.1.0 _ h.1.1),
      ((λ e h. (let f : 84 ≡ 83 = ap (λ (z : Entry). first (name-of z)) (sym (one-at (Added 0 temp) h.1.0 _ h.1.1).1) ∙ ap first h.2 ∙ ap (λ (z : Entry). first (name-of z)) (sym e) in omega (arith, f))), tt),
    ) i _ at refl has

answered-0 : Answered TrueDue Shows Means 0 read21 temp_and_setp 0 (step 0 2 2)
answered-0 =
    answered-as TrueDue read21 temp_and_setp 0 (step 0 2 2) creating (rights_told.message ∷ created_told.message ∷ []) [] refl created (refl, (refl, tt)) tt refl (
      (λ p e. omega arith),
      ((λ p e. omega arith), ((λ p e. absurd (omega (arith, p))), tt)),
    ) ((λ l. absurd (omega (arith, l))), ((λ l. omega arith), tt))

answered-1 : Answered TrueDue Shows Means 0 read21 temp_and_setp 1 (step 2 2 2)
answered-1 =
    answered-as TrueDue read21 temp_and_setp 1 (step 2 2 2) (reading 0 7) ((value_told 21).message ∷ []) [] refl answered (refl, tt) tt refl (
      (λ p e. absurd (omega (arith, p))),
      ((λ p e. absurd (omega (arith, p))), ((λ p e. omega arith), tt)),
    ) ((λ l. absurd (omega (arith, l))), ((λ l. absurd (omega (arith, l))), tt))

takes-read : TakesOwn read21 2 1 (Ioid 7)
takes-read = (1, 0, reading 0 7, reading 0 7, (reading 0 7, refl, (inl refl, refl), omega arith, λ l r after early at gives. two-only creating (reading 0 7) l r after at), omega arith, refl, refl, refl, refl)

each : (p : Part) → Holds TrueDue p (answered_by_value 21)
each part.Acts = holds TrueDue part.Acts read21 opened temp_and_setp refl refl (λ k channel ask early meant other. acts-by read21 (reading 0 7) opened temp_and_setp refl refl acted (temp, (0, refl), (0, refl)) k channel ask meant other) tt tt
each part.OneRecord = holds TrueDue part.OneRecord read21 opened temp_and_setp refl refl (λ i j r a b p q. number-at i r a p ∙ sym (number-at j r b q)) tt tt
each part.OneAtOnce = holds TrueDue part.OneAtOnce read21 opened temp_and_setp refl refl one-of-a-name tt tt
each part.Caused = caused-each read21 opened temp_and_setp refl refl ((tt, (step 0 2 2, refl, omega arith)), ((tt, (step 0 2 2, refl, omega arith)), ((tt, (step 2 2 2, refl, omega arith)), tt)))
each part.Own = taken-each read21 opened temp_and_setp refl refl (
  (λ id s. subst (λ (e : Id). TakesOwn read21 0 0 e) (sym (of-channel rights_told.message id (inl refl) (heads rights_told.message id (λ e. omega (arith, e)) s))) (takes-cid read21 0 0 creating refl refl refl (omega arith) refl)),
  (
    created-own read21 1 (takes-cid read21 1 0 creating refl refl refl (omega arith) refl),
    ((λ id s. subst (λ (e : Id). TakesOwn read21 2 1 e) (sym (of-request (value_told 21).message id (inl refl) (heads (value_told 21).message id (λ e. omega (arith, e)) s))) takes-read), tt),
  ),
)
each part.Answered = holds TrueDue part.Answered read21 opened temp_and_setp refl refl (λ k h at. each-at (Answered TrueDue Shows Means 0 read21 temp_and_setp) read21.handled (answered-0, (answered-1, tt)) k h at) tt tt
each p = quiet TrueDue p read21 opened temp_and_setp refl refl refl refl refl

pub is-own : IsSafe ports rules (answered_by_value 21)
is-own = whole TrueDue _ each
