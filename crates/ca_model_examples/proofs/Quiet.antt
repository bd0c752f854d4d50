-- Histories in which little happens: a part is true where what it is about is not there, as a test computes.
use Rattle.std.proofs.Common.{◌≡◌, ℕ, zero, suc, ◌<◌, ◌≤◌, ◌⊎◌, inl, inr, List, [], ◌∷◌, length, refl, sym, ap, subst, ◌∙◌, arith}
use Rattle.std.specs.Prelude.{Bool, true, false, not, ◌&&◌, ◌||◌, ◌==◌, Option, take, drop}
use Rattle.std.proofs.Math.Dec.{leb}
use Rattle.std.proofs.lemmas.Bool.{and_parts, eq-eqb, eqb-true, leb-true, not-false, not-true, or_cases}
use Rattle.ca_text.specs.Place.{At}
use Rattle.ca_text.specs.declared.status.Status.{Status}
use Rattle.ca_text.proofs.Places.{At-one, At-or, At-within, some_is}
use Rattle.ca_dbr.specs.declared.value.Outcome.TheVariants as outcome
use Rattle.ca_wire.specs.Fields.{Fields}
use Rattle.ca_model.specs.Speech.{Id, Cid, Ioid, SubId, Speaks}
use Rattle.ca_model.specs.History.{Ask, Create, Clear, Request, Subscribe, Cancel, Read, Put, Write, Intent, On, OfCircuit, Reply, Removal, Update, Cause, Sent, Told, Step, Circuit, Entry, Line, Applied, Withdrawn, Finished, Called, Noticed, Updated, Opened, World}
use Rattle.ca_model.specs.History as history
use Rattle.ca_records.specs.Record.{RecordState}
use Rattle.ca_model.specs.Channels.{Has, IsRequest, IsUse, Joins, OfCircuits, OfClients, Stands, Suits, Asks}
use Rattle.ca_model.specs.Headline.{Answered, Safe}
use Rattle.ca_model.specs.Updates.{Shows}
use Rattle.ca_requests.specs.Meaning.{Means}
use Rattle.ca_model_examples.specs.Worlds.{world}
use Rattle.ca_model_examples.specs.Parts.{Part, InCircuit, InLife, InWorld, Holds}
use Rattle.ca_model_examples.specs.Parts as part
use Rattle.ca_model_examples.proofs.Lists.{at-take, none-at, one-at}

-- ---- tests of lists

abbrev pub any : {A : Type 0} → (A → Bool) → List A → Bool
any t [] = false
any t (x ∷ xs) = t x || any t xs

-- at most one passes
abbrev pub few : {A : Type 0} → (A → Bool) → List A → Bool
few t [] = true
few t (x ∷ xs) = (not (t x) || not (any t xs)) && few t xs

abbrev pub idle : {A : Type 0} → List A → Bool
idle [] = true
idle (x ∷ xs) = false

pub clash : {b : Bool} → b ≡ true → b ≡ false → ⊥
clash p q = cc

or-left : (a b : Bool) → (a || b) ≡ false → a ≡ false
or-left true b h = absurd cc
or-left false b h = refl

or-right : (a b : Bool) → (a || b) ≡ false → b ≡ false
or-right true b h = absurd cc
or-right false b h = h

pub any-at : {A : Type 0} (t : A → Bool) (xs : List A) → any t xs ≡ false → (k : ℕ) (x : A) → At xs k x → t x ≡ false
any-at t [] h k x e = absurd (none-at k x e)
any-at t (z ∷ xs) h zero x e = subst (λ v. t v ≡ false) (some_is z x e) (or-left (t z) (any t xs) h)
any-at t (z ∷ xs) h (suc k) x e = any-at t xs (or-right (t z) (any t xs) h) k x e

-- none passes
pub none : {A : Type 0} (t : A → Bool) (xs : List A) → not (any t xs) ≡ true → (k : ℕ) (x : A) → At xs k x → t x ≡ true → ⊥
none t xs h k x e p = clash p (any-at t xs (not-true (any t xs) h) k x e)

not-both : (a b : Bool) → (not a || not b) ≡ true → a ≡ true → b ≡ false
not-both true true h e = absurd cc
not-both true false h e = refl
not-both false b h e = absurd cc

pub few-same : {A : Type 0} (t : A → Bool) (xs : List A) → few t xs ≡ true → (i j : ℕ) (x y : A) → At xs i x → At xs j y → t x ≡ true → t y ≡ true → i ≡ j
few-same t [] h i j x y a b p q = absurd (none-at i x a)
few-same t (z ∷ xs) h zero zero x y a b p q = refl
few-same t (z ∷ xs) h zero (suc j) x y a b p q =
    let first : t z ≡ true = subst (λ v. t v ≡ true) (sym (some_is z x a)) p in
    absurd (clash q (any-at t xs (not-both (t z) (any t xs) (and_parts (not (t z) || not (any t xs)) (few t xs) h).0 first) j y b))
few-same t (z ∷ xs) h (suc i) zero x y a b p q =
    let first : t z ≡ true = subst (λ v. t v ≡ true) (sym (some_is z y b)) q in
    absurd (clash p (any-at t xs (not-both (t z) (any t xs) (and_parts (not (t z) || not (any t xs)) (few t xs) h).0 first) i x a))
few-same t (z ∷ xs) h (suc i) (suc j) x y a b p q = ap (λ (n : ℕ). suc n) (few-same t xs (and_parts (not (t z) || not (any t xs)) (few t xs) h).1 i j x y a b p q)

pub idle-at : {A : Type 0} (xs : List A) → idle xs ≡ true → (k : ℕ) (x : A) → At xs k x → ⊥
idle-at [] h k x e = none-at k x e
idle-at (z ∷ xs) h k x e = cc

pub idle-length : {A : Type 0} (xs : List A) → idle xs ≡ true → (k : ℕ) → k < length xs → ⊥
idle-length [] h k e = omega (arith, e)
idle-length (z ∷ xs) h k e = cc

-- ---- tests of messages, lines and entries

abbrev pub on_use : Intent → Bool
on_use (On channel Create) = false
on_use (On channel ask) = true
on_use OfCircuit = false

on-use : (channel : ℕ) (ask : Ask) → (ask ≡ Create → ⊥) → on_use (On channel ask) ≡ true
on-use channel Create other = absurd (other refl)
on-use channel Clear other = refl
on-use channel (Request kind n) other = refl
on-use channel (Subscribe n) other = refl
on-use channel (Cancel n) other = refl

abbrev pub is_subscription : Intent → Bool
is_subscription (On channel (Subscribe n)) = true
is_subscription i = false

abbrev pub is_request : Intent → Bool
is_request (On channel (Request kind n)) = true
is_request i = false

is-request : (i : Intent) → IsRequest i → is_request i ≡ true
is-request (On channel (Request kind n)) h = refl
is-request (On channel Create) h = absurd h
is-request (On channel Clear) h = absurd h
is-request (On channel (Subscribe n)) h = absurd h
is-request (On channel (Cancel n)) h = absurd h
is-request OfCircuit h = absurd h

abbrev pub is_use : Intent → Bool
is_use (On channel (Request kind n)) = true
is_use (On channel (Subscribe n)) = true
is_use i = false

pub is-use : (i : Intent) → IsUse i → is_use i ≡ true
is-use (On channel (Request kind n)) h = refl
is-use (On channel (Subscribe n)) h = refl
is-use (On channel Create) h = absurd h
is-use (On channel Clear) h = absurd h
is-use (On channel (Cancel n)) h = absurd h
is-use OfCircuit h = absurd h

-- an ECHO, ACCESS_RIGHTS, or what has the status NORMAL and is no ERROR
abbrev pub is_fine : Fields → Bool
is_fine m = not (m.command == 11) && (m.p1 == 1 || (m.command == 23 || m.command == 22))

pub fine : (m : Fields) (s : Status) → is_fine m ≡ true → Means m (outcome.Failed s) → ⊥
fine m s test h =
    let parts = and_parts (not (m.command == 11)) (m.p1 == 1 || (m.command == 23 || m.command == 22)) test in
    let other : m.command ≡ 11 → ⊥ = λ e. clash (ap (λ (n : ℕ). n == 11) e) (not-true (m.command == 11) parts.0) in
    let third : (m.p1 ≡ 1) ⊎ ((m.command ≡ 23) ⊎ (m.command ≡ 22)) = elim (or_cases (m.p1 == 1) (m.command == 23 || m.command == 22) parts.1) [
      | inl a ↦ inl (eqb-true m.p1 1 a)
      | inr a ↦ inr (elim (or_cases (m.command == 23) (m.command == 22) a) [
        | inl b ↦ inl (eqb-true m.command 23 b)
        | inr b ↦ inr (eqb-true m.command 22 b)
      ])
    ] in
    let odd : (n : ℕ) → m.command ≡ n → (n ≡ 23 → ⊥) → (n ≡ 22 → ⊥) → (m.p1 ≡ 1 → ⊥) → ⊥ = λ n e p q r. elim third [
      | inl a ↦ r a
      | inr a ↦ elim a [
        | inl b ↦ p (sym e ∙ b)
        | inr b ↦ q (sym e ∙ b)
      ]
    ] in
    elim h [
      | inl a ↦ elim a.0 [
        | inl e ↦ odd 15 e (λ f. omega (arith, f)) (λ f. omega (arith, f)) a.1.0
        | inr e ↦ odd 1 e.0 (λ f. omega (arith, f)) (λ f. omega (arith, f)) a.1.0
      ]
      | inr b ↦ elim b [
        | inl a ↦ odd 19 a.0 (λ f. omega (arith, f)) (λ f. omega (arith, f)) a.1.0
        | inr d ↦ elim d [
          | inl a ↦ a.1
          | inr a ↦ other a.0
        ]
      ]
    ]

-- a message is of the kind of its intent; the only one that serves the circuit is ECHO
abbrev pub asked_by : Ask → ℕ
asked_by Create = 18
asked_by Clear = 12
asked_by (Request Read n) = 15
asked_by (Request Put n) = 19
asked_by (Request Write n) = 4
asked_by (Subscribe n) = 1
asked_by (Cancel n) = 2

abbrev pub suits : Intent → Fields → Bool
suits (On channel ask) m = m.command == asked_by ask
suits OfCircuit m = m.command == 23

asks-by : (ask : Ask) (m : Fields) → m.command ≡ asked_by ask → Asks ask m
asks-by Create m e = e
asks-by Clear m e = e
asks-by (Request Read n) m e = e
asks-by (Request Put n) m e = e
asks-by (Request Write n) m e = e
asks-by (Subscribe n) m e = e
asks-by (Cancel n) m e = e

by-asks : (ask : Ask) (m : Fields) → Asks ask m → m.command ≡ asked_by ask
by-asks Create m e = e
by-asks Clear m e = e
by-asks (Request Read n) m e = e
by-asks (Request Put n) m e = e
by-asks (Request Write n) m e = e
by-asks (Subscribe n) m e = e
by-asks (Cancel n) m e = e

no-echo : (ask : Ask) → asked_by ask ≡ 23 → ⊥
no-echo Create e = omega (arith, e)
no-echo Clear e = omega (arith, e)
no-echo (Request Read n) e = omega (arith, e)
no-echo (Request Put n) e = omega (arith, e)
no-echo (Request Write n) e = omega (arith, e)
no-echo (Subscribe n) e = omega (arith, e)
no-echo (Cancel n) e = omega (arith, e)

suits-so : (i : Intent) (m : Fields) → suits i m ≡ true → Suits i m
suits-so (On channel ask) m h = asks-by ask m (eqb-true m.command (asked_by ask) h)
suits-so OfCircuit m h = λ ask asks. no-echo ask (sym (by-asks ask m asks) ∙ eqb-true m.command 23 h)

-- an ECHO speaks of no id
silent : (m : Fields) (id : Id) → (m.command == 23) ≡ true → Speaks m id → ⊥
silent m (Cid n) h s = (let e = eqb-true m.command 23 h in elim s [
  | inl a ↦ elim a [
    | inl b ↦ elim b.0 [
      | inl c ↦ (let d : m.command ≡ 18 = c in omega (arith, d, e))
      | inr c ↦ elim c [
        | inl d ↦ (let f : m.command ≡ 26 = d in omega (arith, f, e))
        | inr d ↦ elim d [
          | inl f ↦ (let g : m.command ≡ 22 = f in omega (arith, g, e))
          | inr f ↦ (let g : m.command ≡ 27 = f in omega (arith, g, e))
        ]
      ]
    ]
    | inr b ↦ (let d : m.command ≡ 12 = b.0 in omega (arith, d, e))
  ]
  | inr a ↦ (let d : m.command ≡ 11 = a.0 in omega (arith, d, e))
])
silent m (Ioid n) h s = (let e = eqb-true m.command 23 h in elim s [
  | inl a ↦ elim a.0 [
    | inl c ↦ (let d : m.command ≡ 15 = c in omega (arith, d, e))
    | inr c ↦ (let d : m.command ≡ 19 = c in omega (arith, d, e))
  ]
  | inr a ↦ (let d : m.command ≡ 11 = a.0 in omega (arith, d, e))
])
silent m (SubId n) h s = (let e = eqb-true m.command 23 h in elim s [
  | inl a ↦ (let d : m.command ≡ 1 = a.0 in omega (arith, d, e))
  | inr a ↦ (let d : m.command ≡ 11 = a.0 in omega (arith, d, e))
])

abbrev pub removes : Cause → Bool
removes Removal = true
removes c = false

abbrev pub is_removal : Told → Bool
is_removal t = removes t.cause

abbrev pub is_added : Entry → Bool
is_added (history.Added r s) = true
is_added e = false

abbrev pub is_removed : Entry → Bool
is_removed (history.Removed r) = true
is_removed e = false

abbrev pub is_applied : Entry → Bool
is_applied (Applied n k r v b) = true
is_applied e = false

abbrev pub is_waiting : Entry → Bool
is_waiting (history.Waits n k r v) = true
is_waiting e = false

abbrev pub is_withdrawn : Entry → Bool
is_withdrawn (Withdrawn n k) = true
is_withdrawn e = false

abbrev pub is_finished : Entry → Bool
is_finished (Finished n k) = true
is_finished e = false

abbrev pub is_opened : Line → Bool
is_opened (Opened channel a) = true
is_opened l = false

abbrev pub is_called : Line → Bool
is_called (Called i e) = true
is_called l = false

abbrev pub calls_request : Line → Bool
calls_request (Called i e) = is_request i
calls_request l = false

abbrev pub is_noticed : Line → Bool
is_noticed (Noticed i o) = true
is_noticed l = false

abbrev pub notices_use : Line → Bool
notices_use (Noticed i o) = is_use i
notices_use l = false

abbrev pub is_lost : Line → Bool
is_lost (Noticed (On channel Create) outcome.Disconnected) = true
is_lost l = false

abbrev pub is_done : Line → Bool
is_done (Noticed (On channel (Request Put n)) outcome.Done) = true
is_done l = false

abbrev pub is_failed : Line → Bool
is_failed (Noticed i (outcome.Failed s)) = true
is_failed l = false

abbrev pub is_updated : Line → Bool
is_updated (Updated i o) = true
is_updated l = false

-- ---- tests of steps

abbrev pub fits : (sent logged : ℕ) → Step → Bool
fits sent logged h = leb h.sent sent && (leb h.logged h.after && leb h.after logged)

abbrev pub later : Step → Step → Bool
later g h = leb g.sent h.sent && leb g.after h.logged

abbrev pub rises : List Step → Bool
rises [] = true
rises (g ∷ hs) = not (any (λ h. not (later g h)) hs) && rises hs

all-at : {A : Type 0} (t : A → Bool) (xs : List A) → not (any (λ x. not (t x)) xs) ≡ true → (k : ℕ) (x : A) → At xs k x → t x ≡ true
all-at t xs h k x e = not-false (t x) (any-at (λ z. not (t z)) xs (not-true (any (λ z. not (t z)) xs) h) k x e)

fits-so : (sent logged : ℕ) (h : Step) → fits sent logged h ≡ true → (h.sent ≤ sent) × (h.logged ≤ h.after) × (h.after ≤ logged)
fits-so sent logged h t =
    let a = and_parts (leb h.sent sent) (leb h.logged h.after && leb h.after logged) t in
    let b = and_parts (leb h.logged h.after) (leb h.after logged) a.1 in
    (leb-true h.sent sent a.0, leb-true h.logged h.after b.0, leb-true h.after logged b.1)

rises-so : (hs : List Step) → rises hs ≡ true → (i j : ℕ) (g h : Step) → i < j → At hs i g → At hs j h → (g.sent ≤ h.sent) × (g.after ≤ h.logged)
rises-so [] t i j g h lt a b = absurd (none-at i g a)
rises-so (z ∷ hs) t zero zero g h lt a b = absurd (omega (arith, lt))
rises-so (z ∷ hs) t (suc i) zero g h lt a b = absurd (omega (arith, lt))
rises-so (z ∷ hs) t zero (suc j) g h lt a b =
    let l : later z h ≡ true = all-at (λ x. later z x) hs (and_parts (not (any (λ x. not (later z x)) hs)) (rises hs) t).0 j h b in
    let p = and_parts (leb z.sent h.sent) (leb z.after h.logged) l in
    subst (λ (v : Step). (v.sent ≤ h.sent) × (v.after ≤ h.logged)) (some_is z g a) (leb-true z.sent h.sent p.0, leb-true z.after h.logged p.1)
rises-so (z ∷ hs) t (suc i) (suc j) g h lt a b = rises-so hs (and_parts (not (any (λ x. not (later z x)) hs)) (rises hs) t).1 i j g h (omega (arith, lt)) a b

-- ---- each part

abbrev pub circuit_test : Part → Circuit → List Line → List Entry → Bool
circuit_test part.Acts c x y = idle c.handled || not (any (λ (s : Sent). on_use s.intent) c.up)
circuit_test part.Retired c x y = not (any (λ (t : Told). not (is_fine t.message)) c.down)
circuit_test part.Refused c x y = not (any (λ (s : Sent). is_use s.intent) c.up) || (idle c.down || not (any is_removed y))
circuit_test part.Live c x y = not c.client_open || (idle c.heard || not (any (λ (t : Told). t.message.command == 18) c.down))
circuit_test part.OneName c x y = few is_opened x
circuit_test part.OneRecord c x y = few is_added y
circuit_test part.OneAtOnce c x y = not (any is_added (drop 1 y))
circuit_test part.WasThere c x y = not (any is_removed y)
circuit_test part.Asked c x y = not (any (λ (s : Sent). not (suits s.intent s.message)) c.up)
circuit_test part.Caused c x y = idle c.down
circuit_test part.DisconnectedOnce c x y = few is_removal c.down
circuit_test part.Own c x y = not (any (λ (t : Told). not (t.message.command == 23)) c.down)
circuit_test part.Answered c x y = idle c.handled
circuit_test part.HandledEach c x y = leb (length c.handled) (length c.up)
circuit_test part.HandledWithin c x y = not (any (λ h. not (fits (length c.down) (length y) h)) c.handled)
circuit_test part.HandledRise c x y = rises c.handled
circuit_test part.HeardEach c x y = leb (length c.heard) (length c.down)
circuit_test part.HeardWithin c x y = not (any (λ h. not (fits (length c.up) (length x) h)) c.heard)
circuit_test part.HeardRise c x y = rises c.heard
circuit_test part.Rising c x y = idle c.handled || not (any (λ (s : Sent). is_subscription s.intent) c.up)
circuit_test part.Matches c x y = idle c.handled || not (any (λ (s : Sent). is_subscription s.intent) c.up)
circuit_test part.ShowsPost c x y = idle c.handled || not (any (λ (s : Sent). is_subscription s.intent) c.up)
circuit_test part.Newest c x y = idle c.handled || not (any (λ (s : Sent). is_subscription s.intent) c.up)
circuit_test p c x y = true

abbrev pub life_test : Part → Circuit → List Line → Bool
life_test part.Told c x = not (any is_noticed x)
life_test part.Lost c x = not (any is_lost x)
life_test part.CompletedOnce c x = few notices_use x
life_test part.OneCall c x = few is_called x
life_test part.SentOnce c x = not (any calls_request x)
life_test part.AtOne c x = few (λ (s : Sent). is_request s.intent) c.up
life_test part.SeesOwn c x = not (any is_updated x)
life_test part.SeesInOrder c x = not (any is_updated x)
life_test p c x = true

abbrev pub world_test : Part → List Line → List Entry → Bool
world_test part.AppliedOnce x y = few is_applied y
world_test part.OwnWrite x y = not (any is_applied y)
world_test part.CameToWait x y = not (any is_waiting y)
world_test part.Dropped x y = not (any is_withdrawn y)
world_test part.Finished x y = not (any is_finished y)
world_test part.Done x y = not (any is_done x)
world_test part.Failed x y = not (any is_failed x) || not (any is_applied y)
world_test p x y = true

module _
    (Due : ℕ → Circuit → List Entry → Fields → List Fields → Option Fields → List Entry → Type 0) where
  no-accepted : (c : Circuit) → (idle c.handled || not (any (λ (s : Sent). is_subscription s.intent) c.up)) ≡ true → (k channel number : ℕ) (s : Sent) (h : Step) → At c.up k s → s.intent ≡ On channel (Subscribe number) → At c.handled k h → ⊥
  no-accepted c t k channel number s h at is handled =
      elim (or_cases (idle c.handled) (not (any (λ (z : Sent). is_subscription z.intent) c.up)) t) [
        | inl a ↦ idle-at c.handled a k h handled
        | inr a ↦ none (λ (z : Sent). is_subscription z.intent) c.up a k s at (ap is_subscription is)
      ]

  added-first : (i r q : ℕ) (s : RecordState) (y : List Entry) → not (any is_added (drop 1 y)) ≡ true → At y i (history.Added r s) → (name : List ℕ) → Has (take i y) q name → ⊥
  added-first i r q s [] t at name has = none-at i _ at
  added-first zero r q s (e ∷ y) t at name has = none-at has.1.0 _ has.1.1
  added-first (suc i) r q s (e ∷ y) t at name has = none is_added y t i _ at refl

  pub quiet-circuit : (p : Part) (c : Circuit) (x : List Line) (y : List Entry) → circuit_test p c x y ≡ true → InCircuit Due p 0 c x y
  quiet-circuit part.Acts c x y t = λ k channel ask early meant other.
      absurd (elim (or_cases (idle c.handled) (not (any (λ (s : Sent). on_use s.intent) c.up)) t) [
        | inl a ↦ idle-length c.handled a k early
        | inr a ↦ none (λ (s : Sent). on_use s.intent) c.up a k meant.0 meant.1 (ap on_use meant.2 ∙ on-use channel ask other)
      ])
  quiet-circuit part.Retired c x y t = λ k j r h bad acted at. absurd (fine bad.0 _ (all-at (λ (u : Told). is_fine u.message) c.down t j _ bad.1) bad.2)
  quiet-circuit part.Refused c x y t = λ k j r m s h here at uses acted handled gone.
      absurd (elim (or_cases (not (any (λ (z : Sent). is_use z.intent) c.up)) (idle c.down || not (any is_removed y)) t) [
        | inl a ↦ none (λ (z : Sent). is_use z.intent) c.up a k s at (is-use s.intent uses)
        | inr more ↦ elim (or_cases (idle c.down) (not (any is_removed y)) more) [
          | inl a ↦ idle-at c.down a j _ here
          | inr a ↦ none is_removed y a gone.0 _ (at-take h.logged y gone.0 _ gone.1) refl
        ]
      ])
  quiet-circuit part.Live c x y t = λ channel j k sid l.
      absurd (elim (or_cases (not c.client_open) (idle c.heard || not (any (λ (u : Told). u.message.command == 18) c.down)) t) [
        | inl a ↦ clash l.8 (not-true c.client_open a)
        | inr more ↦ elim (or_cases (idle c.heard) (not (any (λ (u : Told). u.message.command == 18) c.down)) more) [
          | inl a ↦ idle-length c.heard a j l.6
          | inr a ↦ none (λ (u : Told). u.message.command == 18) c.down a j l.0 l.2 (eq-eqb l.0.message.command 18 l.5.0)
        ]
      ])
  quiet-circuit part.OneName c x y t = λ i j channel a b p q. few-same is_opened x t i j _ _ p q refl refl
  quiet-circuit part.OneRecord c x y t = λ i j r a b p q. few-same is_added y t i j _ _ p q refl refl
  quiet-circuit part.OneAtOnce c x y t = λ i r q s at has. added-first i r q s y t at s.name has
  quiet-circuit part.WasThere c x y t = λ i r at. absurd (none is_removed y t i _ at refl)
  quiet-circuit part.Asked c x y t = λ k s at. suits-so s.intent s.message (all-at (λ (z : Sent). suits z.intent z.message) c.up t k s at)
  quiet-circuit part.Caused c x y t = λ j u at. absurd (idle-at c.down t j u at)
  quiet-circuit part.DisconnectedOnce c x y t = λ i j u v p q same a b. few-same is_removal c.down t i j u v p q (ap removes a) (ap removes b)
  quiet-circuit part.Own c x y t = λ j u id at says. absurd (silent u.message id (all-at (λ (z : Told). z.message.command == 23) c.down t j u at) says)
  quiet-circuit part.Answered c x y t = λ k h at. absurd (idle-at c.handled t k h at)
  quiet-circuit part.HandledEach c x y t = leb-true (length c.handled) (length c.up) t
  quiet-circuit part.HandledWithin c x y t = λ k h at. fits-so (length c.down) (length y) h (all-at (λ z. fits (length c.down) (length y) z) c.handled t k h at)
  quiet-circuit part.HandledRise c x y t = rises-so c.handled t
  quiet-circuit part.HeardEach c x y t = leb-true (length c.heard) (length c.down) t
  quiet-circuit part.HeardWithin c x y t = λ k h at. fits-so (length c.up) (length x) h (all-at (λ z. fits (length c.up) (length x) z) c.heard t k h at)
  quiet-circuit part.HeardRise c x y t = rises-so c.heard t
  quiet-circuit part.Rising c x y t = λ k r s h a. absurd (no-accepted c t k a.0 a.1 s h a.2 a.3 a.4)
  quiet-circuit part.Matches c x y t = λ k r s h a. absurd (no-accepted c t k a.0 a.1 s h a.2 a.3 a.4)
  quiet-circuit part.ShowsPost c x y t = λ k r s h a. absurd (no-accepted c t k a.0 a.1 s h a.2 a.3 a.4)
  quiet-circuit part.Newest c x y t = λ k r s h a. absurd (no-accepted c t k a.0 a.1 s h a.2 a.3 a.4)
  quiet-circuit p c x y t = tt

  -- a request is at the place of the only one
  only-request : (c : Circuit) (x : List Line) (y : List Entry) → few (λ (s : Sent). is_request s.intent) c.up ≡ true → (i : Intent) → IsRequest i → (n k m l : ℕ) → Stands (world (c ∷ []) x y) 0 i n k → Stands (world (c ∷ []) x y) 0 i m l → (n ≡ m) × (k ≡ l)
  only-request c x y t i asks n k m l a b =
      let p = one-at c n a.0 a.1 in
      let q = one-at c m b.0 b.1 in
      let at : At c.up k a.3.0 = subst (λ (d : Circuit). At d.up k a.3.0) p.1 a.3.1 in
      let bt : At c.up l b.3.0 = subst (λ (d : Circuit). At d.up l b.3.0) q.1 b.3.1 in
      (p.0 ∙ sym q.0, few-same (λ (s : Sent). is_request s.intent) c.up t k l a.3.0 b.3.0 at bt (ap is_request a.3.2 ∙ is-request i asks) (ap is_request b.3.2 ∙ is-request i asks))

  pub quiet-life : (p : Part) (c : Circuit) (x : List Line) (y : List Entry) → life_test p c x ≡ true → InLife Due p (world (c ∷ []) x y) 0 x
  quiet-life part.Told c x y t = λ i intent o at. absurd (none is_noticed x t i _ at refl)
  quiet-life part.Lost c x y t = λ i channel at. absurd (none is_lost x t i _ at refl)
  quiet-life part.CompletedOnce c x y t = λ i l intent o p uses a b. few-same notices_use x t i l _ _ a b (is-use intent uses) (is-use intent uses)
  quiet-life part.OneCall c x y t = λ i l intent e f a b. few-same is_called x t i l _ _ a b refl refl
  quiet-life part.SentOnce c x y t = λ intent e asks h. absurd (none calls_request x t h.0 _ h.1 (is-request intent asks))
  quiet-life part.AtOne c x y t = λ intent n k m l asks a b. only-request c x y t intent asks n k m l a b
  quiet-life part.SeesOwn c x y t = λ i intent o at. absurd (none is_updated x t i _ at refl)
  quiet-life part.SeesInOrder c x y t = λ i intent o by j a u at. absurd (none is_updated x t i _ at refl)
  quiet-life p c x y t = tt

  pub quiet-world : (p : Part) (c : Circuit) (x : List Line) (y : List Entry) → world_test p x y ≡ true → InWorld Due p (world (c ∷ []) x y)
  quiet-world part.AppliedOnce c x y t = λ n k l m i j r q v u a b.
      (let z = one-at y l a.0 a.2 in
      let o = one-at y m b.0 b.2 in
      let at : At y i (Applied n k r v a.1) = subst (λ (e : List Entry). At e i (Applied n k r v a.1)) z.1 a.3 in
      let bt : At y j (Applied n k q u b.1) = subst (λ (e : List Entry). At e j (Applied n k q u b.1)) o.1 b.3 in
      (z.0 ∙ sym o.0, few-same is_applied y t i j _ _ at bt refl refl))
  quiet-world part.OwnWrite c x y t = λ n k l i r v a.
      absurd (none is_applied y t i _ (subst (λ (e : List Entry). At e i (Applied n k r v a.1)) (one-at y l a.0 a.2).1 a.3) refl)
  quiet-world part.CameToWait c x y t = λ n k l i r v a.
      absurd (none is_waiting y t i _ (subst (λ (e : List Entry). At e i (history.Waits n k r v)) (one-at y l a.0 a.1).1 a.2) refl)
  quiet-world part.Dropped c x y t = λ n k l i z at drops.
      absurd (none is_withdrawn y t i _ (subst (λ (e : List Entry). At e i (Withdrawn n k)) (one-at y l z at).1 drops) refl)
  quiet-world part.Finished c x y t = λ n k l i z at ends.
      absurd (none is_finished y t i _ (subst (λ (e : List Entry). At e i (Finished n k)) (one-at y l z at).1 ends) refl)
  quiet-world part.Done c x y t = λ life channel number z at h.
      absurd (none is_done x t h.0 _ (subst (λ (e : List Line). At e h.0 (Noticed (On channel (Request Put number)) outcome.Done)) (one-at x life z at).1 h.1) refl)
  quiet-world part.Failed c x y t = λ life n k l i r intent s z v at h stands a.
      elim (or_cases (not (any is_failed x)) (not (any is_applied y)) t) [
        | inl b ↦ none is_failed x b h.0 _ (subst (λ (e : List Line). At e h.0 (Noticed intent (outcome.Failed s))) (one-at x life z at).1 h.1) refl
        | inr b ↦ none is_applied y b i _ (subst (λ (e : List Entry). At e i (Applied n k r v a.1)) (one-at y l a.0 a.2).1 a.3) refl
      ]
  quiet-world p c x y t = tt

  -- ---- a world of one circuit between the first lives

  pub of-circuit : (P : ℕ → Circuit → List Line → List Entry → Type 0) (c : Circuit) (x : List Line) (y : List Entry) → c.client ≡ 0 → c.server ≡ 0 → P 0 c x y → OfCircuits (world (c ∷ []) x y) P
  of-circuit P c x y e f h n d at =
      let o = one-at c n d at in
      subst (λ (z : Circuit). (a : List Line) × (b : List Entry) × Joins (world (c ∷ []) x y) n z a b × P n z a b) (sym o.1) (
      subst (λ (m : ℕ). (a : List Line) × (b : List Entry) × Joins (world (c ∷ []) x y) m c a b × P m c a b) (sym o.0) (
        x,
        y,
        (refl, subst (λ (k : ℕ). At (x ∷ []) k x) (sym e) refl, subst (λ (k : ℕ). At (y ∷ []) k y) (sym f) refl),
        h,
      ))

  pub of-life : (P : ℕ → List Line → Type 0) (c : Circuit) (x : List Line) (y : List Entry) → P 0 x → OfClients (world (c ∷ []) x y) P
  of-life P c x y h life z at =
      let o = one-at x life z at in
      subst (λ (v : List Line). P life v) (sym o.1) (subst (λ (m : ℕ). P m x) (sym o.0) h)

  pub holds : (p : Part) (c : Circuit) (x : List Line) (y : List Entry) → c.client ≡ 0 → c.server ≡ 0 → InCircuit Due p 0 c x y → InLife Due p (world (c ∷ []) x y) 0 x → InWorld Due p (world (c ∷ []) x y) → Holds Due p (world (c ∷ []) x y)
  holds p c x y e f a b d = (of-circuit (InCircuit Due p) c x y e f a, of-life (InLife Due p (world (c ∷ []) x y)) c x y b, d)

  -- by the tests
  pub quiet : (p : Part) (c : Circuit) (x : List Line) (y : List Entry) → c.client ≡ 0 → c.server ≡ 0 → circuit_test p c x y ≡ true → life_test p c x ≡ true → world_test p x y ≡ true → Holds Due p (world (c ∷ []) x y)
  quiet p c x y e f s t u = holds p c x y e f (quiet-circuit p c x y s) (quiet-life p c x y t) (quiet-world p c x y u)

  -- and what holds of its circuit
  pub its : (w : World) (P : ℕ → Circuit → List Line → List Entry → Type 0) → OfCircuits w P → (n : ℕ) (c : Circuit) (x : List Line) (y : List Entry) → Joins w n c x y → P n c x y
  its w P all n c x y j =
      let h = all n c j.0 in
      subst (λ (a : List Line). P n c a y) (At-one w.clients c.client h.0 x h.2.1 j.1) (
      subst (λ (b : List Entry). P n c h.0 b) (At-one w.servers c.server h.1 y h.2.2 j.2) h.3)

  -- The parts are the whole.
  pub whole : (w : World) → ((p : Part) → Holds Due p w) → Safe Due Shows Means w
  whole w each = record {
    acts = λ n c at. (let h = (each part.Acts).0 n c at in (
      h.0,
      h.1,
      h.2,
      record {
        acts = h.3;
        retired = its w (InCircuit Due part.Retired) (each part.Retired).0 n c h.0 h.1 h.2;
        refused = its w (InCircuit Due part.Refused) (each part.Refused).0 n c h.0 h.1 h.2;
        live = its w (InCircuit Due part.Live) (each part.Live).0 n c h.0 h.1 h.2;
        names = record {
          one_name = its w (InCircuit Due part.OneName) (each part.OneName).0 n c h.0 h.1 h.2;
          one_record = its w (InCircuit Due part.OneRecord) (each part.OneRecord).0 n c h.0 h.1 h.2;
          one_at_once = its w (InCircuit Due part.OneAtOnce) (each part.OneAtOnce).0 n c h.0 h.1 h.2;
          was_there = its w (InCircuit Due part.WasThere) (each part.WasThere).0 n c h.0 h.1 h.2;
        };
      },
    ));
    own = (
      λ n c at. (let h = (each part.Asked).0 n c at in (
        h.0,
        h.1,
        h.2,
        record {
          asked = h.3;
          caused = its w (InCircuit Due part.Caused) (each part.Caused).0 n c h.0 h.1 h.2;
          removed = its w (InCircuit Due part.DisconnectedOnce) (each part.DisconnectedOnce).0 n c h.0 h.1 h.2;
          own = its w (InCircuit Due part.Own) (each part.Own).0 n c h.0 h.1 h.2;
          answered = its w (InCircuit Due part.Answered) (each part.Answered).0 n c h.0 h.1 h.2;
          in_order = (
            record {
              one_each = its w (InCircuit Due part.HandledEach) (each part.HandledEach).0 n c h.0 h.1 h.2;
              within = its w (InCircuit Due part.HandledWithin) (each part.HandledWithin).0 n c h.0 h.1 h.2;
              rise = its w (InCircuit Due part.HandledRise) (each part.HandledRise).0 n c h.0 h.1 h.2;
            },
            record {
              one_each = its w (InCircuit Due part.HeardEach) (each part.HeardEach).0 n c h.0 h.1 h.2;
              within = its w (InCircuit Due part.HeardWithin) (each part.HeardWithin).0 n c h.0 h.1 h.2;
              rise = its w (InCircuit Due part.HeardRise) (each part.HeardRise).0 n c h.0 h.1 h.2;
            },
          );
        },
      )),
      λ life x at. record {
        told = (each part.Told).1 life x at;
        lost = (each part.Lost).1 life x at;
        once = (each part.CompletedOnce).1 life x at;
        one_call = (each part.OneCall).1 life x at;
        sent = (each part.SentOnce).1 life x at;
        at_one = (each part.AtOne).1 life x at;
      },
    );
    applied = record {
      once = (each part.AppliedOnce).2;
      own = (each part.OwnWrite).2;
      waits = (each part.CameToWait).2;
      dropped = (each part.Dropped).2;
      finished = (each part.Finished).2;
      done = (each part.Done).2;
      failed = (each part.Failed).2;
    };
    sees = (
      λ n c at. (let h = (each part.Rising).0 n c at in (
        h.0,
        h.1,
        h.2,
        λ k r s g a. record {
          rising = h.3 k r s g a;
          matches = its w (InCircuit Due part.Matches) (each part.Matches).0 n c h.0 h.1 h.2 k r s g a;
          shows = its w (InCircuit Due part.ShowsPost) (each part.ShowsPost).0 n c h.0 h.1 h.2 k r s g a;
          newest = its w (InCircuit Due part.Newest) (each part.Newest).0 n c h.0 h.1 h.2 k r s g a;
        },
      )),
      λ life x at. record { own = (each part.SeesOwn).1 life x at; in_order = (each part.SeesInOrder).1 life x at },
    );
  }

  -- And the whole has each part. The logs of each circuit are there.
  pub parts : (w : World) → Safe Due Shows Means w → (p : Part) → Holds Due p w
  parts w s part.Acts = (λ n c at. (let h = s.acts n c at in (h.0, h.1, h.2, h.3.acts)), (λ life x at. tt), tt)
  parts w s part.Retired = (λ n c at. (let h = s.acts n c at in (h.0, h.1, h.2, h.3.retired)), (λ life x at. tt), tt)
  parts w s part.Refused = (λ n c at. (let h = s.acts n c at in (h.0, h.1, h.2, h.3.refused)), (λ life x at. tt), tt)
  parts w s part.Live = (λ n c at. (let h = s.acts n c at in (h.0, h.1, h.2, h.3.live)), (λ life x at. tt), tt)
  parts w s part.OneName = (λ n c at. (let h = s.acts n c at in (h.0, h.1, h.2, h.3.names.one_name)), (λ life x at. tt), tt)
  parts w s part.OneRecord = (λ n c at. (let h = s.acts n c at in (h.0, h.1, h.2, h.3.names.one_record)), (λ life x at. tt), tt)
  parts w s part.OneAtOnce = (λ n c at. (let h = s.acts n c at in (h.0, h.1, h.2, h.3.names.one_at_once)), (λ life x at. tt), tt)
  parts w s part.WasThere = (λ n c at. (let h = s.acts n c at in (h.0, h.1, h.2, h.3.names.was_there)), (λ life x at. tt), tt)
  parts w s part.Asked = (λ n c at. (let h = s.own.0 n c at in (h.0, h.1, h.2, h.3.asked)), (λ life x at. tt), tt)
  parts w s part.Caused = (λ n c at. (let h = s.own.0 n c at in (h.0, h.1, h.2, h.3.caused)), (λ life x at. tt), tt)
  parts w s part.DisconnectedOnce = (λ n c at. (let h = s.own.0 n c at in (h.0, h.1, h.2, h.3.removed)), (λ life x at. tt), tt)
  parts w s part.Own = (λ n c at. (let h = s.own.0 n c at in (h.0, h.1, h.2, h.3.own)), (λ life x at. tt), tt)
  parts w s part.Answered = (λ n c at. (let h = s.own.0 n c at in (h.0, h.1, h.2, h.3.answered)), (λ life x at. tt), tt)
  parts w s part.HandledEach = (λ n c at. (let h = s.own.0 n c at in (h.0, h.1, h.2, h.3.in_order.0.one_each)), (λ life x at. tt), tt)
  parts w s part.HandledWithin = (λ n c at. (let h = s.own.0 n c at in (h.0, h.1, h.2, h.3.in_order.0.within)), (λ life x at. tt), tt)
  parts w s part.HandledRise = (λ n c at. (let h = s.own.0 n c at in (h.0, h.1, h.2, h.3.in_order.0.rise)), (λ life x at. tt), tt)
  parts w s part.HeardEach = (λ n c at. (let h = s.own.0 n c at in (h.0, h.1, h.2, h.3.in_order.1.one_each)), (λ life x at. tt), tt)
  parts w s part.HeardWithin = (λ n c at. (let h = s.own.0 n c at in (h.0, h.1, h.2, h.3.in_order.1.within)), (λ life x at. tt), tt)
  parts w s part.HeardRise = (λ n c at. (let h = s.own.0 n c at in (h.0, h.1, h.2, h.3.in_order.1.rise)), (λ life x at. tt), tt)
  parts w s part.Rising = (λ n c at. (let h = s.sees.0 n c at in (h.0, h.1, h.2, λ k r z g a. (h.3 k r z g a).rising)), (λ life x at. tt), tt)
  parts w s part.Matches = (λ n c at. (let h = s.sees.0 n c at in (h.0, h.1, h.2, λ k r z g a. (h.3 k r z g a).matches)), (λ life x at. tt), tt)
  parts w s part.ShowsPost = (λ n c at. (let h = s.sees.0 n c at in (h.0, h.1, h.2, λ k r z g a. (h.3 k r z g a).shows)), (λ life x at. tt), tt)
  parts w s part.Newest = (λ n c at. (let h = s.sees.0 n c at in (h.0, h.1, h.2, λ k r z g a. (h.3 k r z g a).newest)), (λ life x at. tt), tt)
  parts w s part.Told = (λ n c at. (let h = s.acts n c at in (h.0, h.1, h.2, tt)), (λ life x at. (s.own.1 life x at).told), tt)
  parts w s part.Lost = (λ n c at. (let h = s.acts n c at in (h.0, h.1, h.2, tt)), (λ life x at. (s.own.1 life x at).lost), tt)
  parts w s part.CompletedOnce = (λ n c at. (let h = s.acts n c at in (h.0, h.1, h.2, tt)), (λ life x at. (s.own.1 life x at).once), tt)
  parts w s part.OneCall = (λ n c at. (let h = s.acts n c at in (h.0, h.1, h.2, tt)), (λ life x at. (s.own.1 life x at).one_call), tt)
  parts w s part.SentOnce = (λ n c at. (let h = s.acts n c at in (h.0, h.1, h.2, tt)), (λ life x at. (s.own.1 life x at).sent), tt)
  parts w s part.AtOne = (λ n c at. (let h = s.acts n c at in (h.0, h.1, h.2, tt)), (λ life x at. (s.own.1 life x at).at_one), tt)
  parts w s part.SeesOwn = (λ n c at. (let h = s.acts n c at in (h.0, h.1, h.2, tt)), (λ life x at. (s.sees.1 life x at).own), tt)
  parts w s part.SeesInOrder = (λ n c at. (let h = s.acts n c at in (h.0, h.1, h.2, tt)), (λ life x at. (s.sees.1 life x at).in_order), tt)
  parts w s part.AppliedOnce = (λ n c at. (let h = s.acts n c at in (h.0, h.1, h.2, tt)), (λ life x at. tt), s.applied.once)
  parts w s part.OwnWrite = (λ n c at. (let h = s.acts n c at in (h.0, h.1, h.2, tt)), (λ life x at. tt), s.applied.own)
  parts w s part.CameToWait = (λ n c at. (let h = s.acts n c at in (h.0, h.1, h.2, tt)), (λ life x at. tt), s.applied.waits)
  parts w s part.Dropped = (λ n c at. (let h = s.acts n c at in (h.0, h.1, h.2, tt)), (λ life x at. tt), s.applied.dropped)
  parts w s part.Finished = (λ n c at. (let h = s.acts n c at in (h.0, h.1, h.2, tt)), (λ life x at. tt), s.applied.finished)
  parts w s part.Done = (λ n c at. (let h = s.acts n c at in (h.0, h.1, h.2, tt)), (λ life x at. tt), s.applied.done)
  parts w s part.Failed = (λ n c at. (let h = s.acts n c at in (h.0, h.1, h.2, tt)), (λ life x at. tt), s.applied.failed)

  -- A step of the server is for a message that came, if each is answered.
  steps-came : (n : ℕ) (c : Circuit) (y : List Entry) → ((k : ℕ) (h : Step) → At c.handled k h → Answered Due Shows Means n c y k h) → length c.handled ≤ length c.up
  steps-came n c y answered =
      elim (At-or c.handled (length c.up)) [
        | inl more ↦ absurd (let a = answered (length c.up) more.0 more.1 in let w = At-within c.up (length c.up) a.s a.at in omega (arith, w))
        | inr fits ↦ fits
      ]

  pub steps-implied : (w : World) → Holds Due part.Answered w → Holds Due part.HandledEach w
  steps-implied w h = (λ n c at. (let g = h.0 n c at in (g.0, g.1, g.2, steps-came n c g.1 g.3)), (λ life x at. tt), tt)
