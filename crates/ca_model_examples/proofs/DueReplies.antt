-- What is due for each command.
use Rattle.std.proofs.Common.{◌≡◌, ℕ, ◌<◌, ◌%◌, ◌^◌, ◌⊎◌, inl, inr, Bool, List, [], ◌∷◌, length, refl, sym, ap, subst, ◌∙◌, arith, rules}
use Rattle.std.specs.Prelude.{pos, ℤ, All, FitsSigned, true, false, Option, Some, None, ◌==◌, if◌then◌else◌}
use Rattle.std.specs.Int.{w32}
use Rattle.ca_text.specs.Command.{command_number}
use Rattle.ca_text.specs.declared.command.Command.{Command}
use Rattle.ca_text.specs.declared.command.Command.TheVariants as command
use Rattle.ca_text.specs.Status.{bad_channel, normal}
use Rattle.ca_text.proofs.Places.{some_is}
use Rattle.ca_dbr.specs.declared.data_type.BaseType.TheVariants as base
use Rattle.ca_dbr.specs.Reading.{ReadsElements}
use Rattle.ca_queue.specs.Keys.{is_among}
use Rattle.ca_dbr.specs.Elements.{Elements, longs, signed_bytes_4}
use Rattle.ca_wire.specs.Fields.{Fields}
use Rattle.ca_wire.specs.Header.{number16}
use Rattle.ca_wire.specs.Messages.{header_only, cancel_reply, cleared_reply, error_reply, status_reply, version_reply}
use Rattle.ca_model.specs.Due.{Action, Adds, Applies, Clears, Drops, Due, EventDue, Greets, IsCreated, IsNotCreated, IsRetired, IsUnknown, KnownChannel, KnownRecord, Knows, Names, Nothing, Opens, PutDue, PutReads, ReadDue, Serves, StrayDue, Switches, Waits, WriteDue, fault_of_read, must_wait, is_known, key_in, rights_at, named, search_due}
use Rattle.ca_model.specs.Faults.{early_put_fault, read_fault, subscription_fault}
use Rattle.ca_model.specs.Images.{base_type_of, image_type_of}
use Rattle.ca_records.specs.Rules.{Rule, rights}
use Rattle.ca_wire.specs.Messages.{text_in}
use Rattle.ca_model.specs.Speech.{In}
use Rattle.ca_model_examples.specs.Worlds.{temp, temp_name}
use Rattle.ca_model_examples.specs.ServerRows.{hall, slow, slow_name}
use Rattle.ca_model_examples.specs.DueReplies.{add_on, AreDue, RepliesLate, Row, creations_due, creations_not_due, fresh, greetings_due, greetings_not_due, knowing, others_due, others_not_due, puts_due, puts_not_due, read_on, reads_due, reads_not_due, retired_channel, searches_due, searches_not_due, seated, served, slow_channel, subscriptions_due, subscriptions_not_due, temp_channel, v22, write_on, writes_due, writes_not_due, put_on, no_rights, AreNotDue}
use Rattle.ca_model_examples.proofs.Lists.{each-at, none-at}

-- ---- what is due for one command

-- the command of this number, of those that a server acts on
abbrev command_at : ℕ → Command
command_at n =
    if n == 0 then command.Version else if n == 1 then command.EventAdd else if n == 2 then command.EventCancel else if n == 4 then command.Write else if n == 6 then command.Search else if n == 8 then command.EventsOff else if n == 9 then command.EventsOn else if n == 12 then command.ClearChannel else if n == 15 then command.ReadNotify else if n == 18 then command.CreateChannel else if n == 19 then command.WriteNotify else if n == 20 then command.ClientName else if n == 21 then command.HostName else if n == 23 then command.Echo else command.Error

-- what has to be shown for this command
abbrev IsDueFor : Knows → Fields → List Fields → Action → Command → Type 0
IsDueFor k m r a command.Version = (r ≡ (if k.greeted then [] else version_reply ∷ [])) × (a ≡ Greets)
IsDueFor k m r a command.ClientName = (r ≡ []) × (a ≡ named k (record k.peer { user = text_in m.payload }))
IsDueFor k m r a command.HostName = (r ≡ []) × (a ≡ named k (record k.peer { host = text_in m.payload }))
IsDueFor k m r a command.Echo = (r ≡ header_only command.Echo ∷ []) × (a ≡ Nothing)
IsDueFor k m r a command.Search = (r ≡ search_due k m) × (a ≡ Nothing)
IsDueFor k m r a command.CreateChannel = IsCreated k m r a ⊎ IsNotCreated k m r a
IsDueFor k m r a command.ReadNotify = ReadDue k m r a ⊎ StrayDue k m (λ cid. status_reply m bad_channel) r a
IsDueFor k m r a command.Write = WriteDue k m r a ⊎ StrayDue k m (λ cid. error_reply cid bad_channel m) r a
IsDueFor k m r a command.WriteNotify = PutDue k m r a ⊎ StrayDue k m (λ cid. status_reply m bad_channel) r a
IsDueFor k m r a command.EventAdd = EventDue k m r a ⊎ StrayDue k m (λ cid. error_reply cid bad_channel m) r a
IsDueFor k m r a command.EventCancel = (r ≡ cancel_reply m ∷ []) × (a ≡ Drops (key_in m))
IsDueFor k m r a command.EventsOff = (r ≡ []) × (a ≡ Switches false)
IsDueFor k m r a command.EventsOn = (r ≡ []) × (a ≡ Switches true)
IsDueFor k m r a command.ClearChannel = (r ≡ cleared_reply m ∷ []) × (a ≡ Clears m.p1)
IsDueFor k m r a _ = Unit {0}

pub due-of : (k : Knows) (m : Fields) (r : List Fields) (a : Action) → IsDueFor k m r a (command_at m.command) → (is_known m.command ≡ false → (r ≡ []) × (a ≡ Nothing)) → Due k m r a
due-of k m r a h other =
    let here : (c : Command) → m.command ≡ command_number c → IsDueFor k m r a (command_at (command_number c)) = λ c e. subst (λ (n : ℕ). IsDueFor k m r a (command_at n)) e h in
    record {
      version = here command.Version;
      user = here command.ClientName;
      host = here command.HostName;
      echo = here command.Echo;
      search = here command.Search;
      create = here command.CreateChannel;
      read = here command.ReadNotify;
      write = here command.Write;
      put = here command.WriteNotify;
      subscribe = here command.EventAdd;
      cancel = here command.EventCancel;
      off = here command.EventsOff;
      on = here command.EventsOn;
      clear = here command.ClearChannel;
      other = other;
    }

-- a row is due if this is shown of it
abbrev IsShown : Row → Type 0
IsShown x = IsDueFor x.knows x.message x.replies x.does (command_at x.message.command) × (is_known x.message.command ≡ false → (x.replies ≡ []) × (x.does ≡ Nothing))

abbrev AreShown : List Row → Type 0
AreShown [] = Unit {0}
AreShown (x ∷ xs) = IsShown x × AreShown xs

are-due : (rows : List Row) → AreShown rows → AreDue rows
are-due [] h = tt
are-due (x ∷ xs) h = (due-of x.knows x.message x.replies x.does h.0.0 h.0.1, are-due xs h.1)

-- the command is one that a server acts on
known : {A : Type 0} → true ≡ false → A
known e = absurd cc

-- ---- what differs

no-replies : {A : Type 0} {m : Fields} {ms : List Fields} → m ∷ ms ≡ [] → A
no-replies e = absurd cc

there-not : {A : Type 0} {B : Type 0} {x : A} → Some x ≡ None → B
there-not e = absurd cc

-- a number for each kind of action
abbrev kind : Action → ℕ
kind Nothing = 0
kind Greets = 1
kind (Names p) = 2
kind (Opens c) = 3
kind (Clears n) = 4
kind (Applies n v false) = 5
kind (Applies n v true) = 6
kind (Waits n v) = 7
kind (Adds s) = 8
kind (Drops x) = 9
kind (Switches false) = 10
kind (Switches true) = 11

apart : {A : Type 0} (a b : Action) → a ≡ b → (kind a < kind b) ⊎ (kind b < kind a) → A
apart a b e (inl h) = let f = ap kind e in absurd (omega (arith, f, h))
apart a b e (inr h) = let f = ap kind e in absurd (omega (arith, f, h))

-- ---- greetings

pub greetings-due : AreDue greetings_due
greetings-due =
    are-due greetings_due (
      ((refl, refl), known),
      (((refl, refl), known), (((refl, refl), known), (((refl, refl), known), (((refl, refl), known), (((refl, refl), known), (((refl, refl), known), tt)))))),
    )

pub greetings-not-due : AreNotDue greetings_not_due
greetings-not-due = (
  (λ d. no-replies (sym (d.version refl).0)),
  (
    (λ d. no-replies (d.version refl).0),
    (
      (λ d. apart _ _ (d.user refl).1 (inl (omega arith))),
      (
        (λ d. apart _ _ (d.host refl).1 (inl (omega arith))),
        (
          (λ d. apart _ _ (d.user refl).1 (inr (omega arith))),
          ((λ d. apart _ _ (d.host refl).1 (inr (omega arith))), ((λ d. no-replies (sym (d.echo refl).0)), tt)),
        ),
      ),
    ),
  ),
)

-- ---- SEARCH

pub searches-due : AreDue searches_due
searches-due = are-due searches_due (((refl, refl), known), (((refl, refl), known), (((refl, refl), known), (((refl, refl), known), tt))))

pub searches-not-due : AreNotDue searches_not_due
searches-not-due = ((λ d. no-replies (sym (d.search refl).0)), ((λ d. no-replies (d.search refl).0), ((λ d. no-replies (sym (d.search refl).0)), tt)))

-- ---- the channels of a circuit with three

one-of-three : (P : KnownChannel → Type 0) → P temp_channel → P slow_channel → P retired_channel → (c : KnownChannel) → In seated.channels c → P c
one-of-three P a b d c there = each-at (λ (i : ℕ) (x : KnownChannel). P x) seated.channels (a, (b, (d, tt))) there.0 c there.1

-- a new circuit has none
no-channel : {A : Type 0} (c : KnownChannel) → In fresh.channels c → A
no-channel c there = absurd (none-at there.0 c there.1)

-- ---- CREATE_CHAN

free-of-three : (cid : ℕ) → cid ≡ 3 → (c : KnownChannel) → In seated.channels c → c.cid ≡ cid → ⊥
free-of-three cid is c there = one-of-three (λ (x : KnownChannel). x.cid ≡ cid → ⊥) (λ e. omega (arith, e, is)) (λ e. omega (arith, e, is)) (λ e. omega (arith, e, is)) c there

not-three : (n : ℕ) → n < 3 → n ≡ 3 → ⊥
not-three n less e = omega (arith, less, e)

fourth-index : (sid : ℕ) → sid % 2 ^ 16 ≡ 3 → (c : KnownChannel) → In seated.channels c → c.sid % 2 ^ 16 ≡ sid % 2 ^ 16 → ⊥
fourth-index sid is c there =
    one-of-three (λ (x : KnownChannel). x.sid % 2 ^ 16 ≡ sid % 2 ^ 16 → ⊥) (λ e. not-three 0 (omega arith) (e ∙ is)) (λ e. not-three 1 (omega arith) (e ∙ is)) (λ e. not-three 2 (omega arith) (e ∙ is)) c there

pub creations-due : AreDue creations_due
creations-due =
    are-due creations_due (
      (inl (record { known = _; named = refl; cid_free = λ h. no-channel h.0 h.1; sid = 65536; fits = omega arith; sid_free = λ c there. no-channel c there; are = refl; does = refl }), known),
      (
        (inl (record { known = _; named = refl; cid_free = λ h. free-of-three 3 refl h.0 h.1 h.2; sid = 131075; fits = omega arith; sid_free = fourth-index 131075 refl; are = refl; does = refl }), known),
        (
          (inl (record { known = _; named = refl; cid_free = λ h. free-of-three 3 refl h.0 h.1 h.2; sid = 65539; fits = omega arith; sid_free = fourth-index 65539 refl; are = refl; does = refl }), known),
          (
            (inr (record { why = inl refl; are = refl; does = refl }), known),
            (
              (inr (record { why = inr (inl (temp_channel, (0, refl), refl)); are = refl; does = refl }), known),
              (
                (inr (record { why = inr (inl (retired_channel, (2, refl), refl)); are = refl; does = refl }), known),
                ((inr (record { why = inr (inr refl); are = refl; does = refl }), known), tt),
              ),
            ),
          ),
        ),
      ),
    )

-- the SID in a list of replies, and in an action
abbrev sid_told : List Fields → ℕ
sid_told (a ∷ b ∷ rest) = b.p2
sid_told rest = 0

abbrev sid_opened : Action → ℕ
sid_opened (Opens c) = c.sid
sid_opened a = 0

abbrev rights_told : List Fields → ℕ
rights_told (a ∷ rest) = a.p2
rights_told [] = 0

two-one : {A : Type 0} {a b c : Fields} → a ∷ [] ≡ b ∷ c ∷ [] → A
two-one e = absurd cc

-- what is created is so by the case for that
as-created : {k : Knows} {m : Fields} {c : KnownChannel} {r : List Fields} → IsCreated k m r (Opens c) ⊎ IsNotCreated k m r (Opens c) → IsCreated k m r (Opens c)
as-created (inl h) = h
as-created (inr h) = apart _ _ h.does (inr (omega arith))

pub creations-not-due : AreNotDue creations_not_due
creations-not-due = (
  (λ d. (let h = as-created (d.create refl) in let e = ap sid_told h.are in h.sid_free retired_channel (2, refl) (ap (λ (n : ℕ). n % 2 ^ 16) e))),
  (
    (λ d. (let h = as-created (d.create refl) in let e : 4294967296 ≡ h.sid = ap sid_told h.are in let f = h.fits in omega (arith, e, f))),
    (
      (λ d. elim (d.create refl) [ inl h ↦ apart _ _ h.does (inl (omega arith)) | inr h ↦ two-one (sym h.are) ]),
      (
        (λ d. (let h = as-created (d.create refl) in let e : 65536 ≡ h.sid = ap sid_told h.are in let f : 65537 ≡ h.sid = ap sid_opened h.does in omega (arith, e, f))),
        (
          (λ d. two-one (as-created (d.create refl)).are),
          (
            (λ d. (let e : 3 ≡ 0 = ap rights_told (as-created (d.create refl)).are in omega (arith, e))),
            (
              (λ d. elim (d.create refl) [
                | inl h ↦ apart _ _ h.does (inl (omega arith))
                | inr h ↦ elim h.why [
                  | inl a ↦ there-not a
                  | inr b ↦ elim b [
                    | inl a ↦ no-channel a.0 a.1
                    | inr a ↦ known (sym a)
                  ]
                ]
              ]),
              (
                (λ d. (as-created (d.create refl)).cid_free (retired_channel, (2, refl), refl)),
                (
                  (λ d. there-not (sym (as-created (d.create refl)).named)),
                  tt,
                ),
              ),
            ),
          ),
        ),
      ),
    ),
  ),
)

-- ---- who is served

-- the circuit with three channels, under these rules
abbrev ruled : (busy : Bool) → (waits : ℕ) → List Rule → Knows
ruled busy waits rules = record (knowing busy waits) { rules = rules }

abbrev known_temp : KnownRecord
known_temp = record { state = temp; busy = false; waits = 0 }

abbrev known_slow : Bool → ℕ → KnownRecord
known_slow busy waits = record { state = slow; busy = busy; waits = waits }

abbrev on-temp : (busy : Bool) (waits : ℕ) (rules : List Rule) → Serves (ruled busy waits rules) 65536
on-temp busy waits rules = record { channel = temp_channel; open_there = (0, refl); under = refl; there = refl; known = known_temp; named = refl }

abbrev on-slow : (busy : Bool) (waits : ℕ) (rules : List Rule) → Serves (ruled busy waits rules) 65537
on-slow busy waits rules = record { channel = slow_channel; open_there = (1, refl); under = refl; there = refl; known = known_slow busy waits; named = refl }

-- what is served under a SID is that
as-temp : (busy : Bool) (waits : ℕ) (rules : List Rule) (P : KnownChannel → KnownRecord → Type 0) (c : Serves (ruled busy waits rules) 65536) → P c.channel c.known → P temp_channel known_temp
as-temp busy waits rules P c h =
    let is : c.channel ≡ temp_channel = one-of-three (λ (x : KnownChannel). x.sid ≡ 65536 → x ≡ temp_channel) (λ e. refl) (λ e. absurd (omega (arith, e))) (λ e. absurd (omega (arith, e))) c.channel c.open_there c.under in
    let so : c.known ≡ known_temp = some_is c.known known_temp (sym c.named ∙ ap (λ (x : KnownChannel). served busy waits x.name) is) in
    subst (λ (x : KnownChannel). P x known_temp) is (subst (λ (x : KnownRecord). P c.channel x) so h)

as-slow : (busy : Bool) (waits : ℕ) (rules : List Rule) (P : KnownChannel → KnownRecord → Type 0) (c : Serves (ruled busy waits rules) 65537) → P c.channel c.known → P slow_channel (known_slow busy waits)
as-slow busy waits rules P c h =
    let is : c.channel ≡ slow_channel = one-of-three (λ (x : KnownChannel). x.sid ≡ 65537 → x ≡ slow_channel) (λ e. absurd (omega (arith, e))) (λ e. refl) (λ e. absurd (omega (arith, e))) c.channel c.open_there c.under in
    let so : c.known ≡ known_slow busy waits = some_is c.known (known_slow busy waits) (sym c.named ∙ ap (λ (x : KnownChannel). served busy waits x.name) is) in
    subst (λ (x : KnownChannel). P x (known_slow busy waits)) is (subst (λ (x : KnownRecord). P c.channel x) so h)

-- nothing is, under the SID of the record that was removed
no-service : {A : Type 0} → Serves seated 65538 → A
no-service c =
    absurd (one-of-three (λ (x : KnownChannel). x.sid ≡ 65538 → x.retired ≡ false → ⊥) (λ e f. omega (arith, e)) (λ e f. omega (arith, e)) (λ e f. known f) c.channel c.open_there c.under c.there)

-- a SID of TEMP is neither unknown nor retired
no-stray : {A : Type 0} {cid : ℕ} → IsUnknown seated 65536 cid ⊎ IsRetired seated 65536 cid → A
no-stray (inl h) = absurd (h.0 temp_channel (0, refl) refl)
no-stray (inr h) = absurd (one-of-three (λ (x : KnownChannel). x.sid ≡ 65536 → x.retired ≡ true → ⊥) (λ e f. known (sym f)) (λ e f. omega (arith, e)) (λ e f. omega (arith, e)) h.0 h.1 h.2 h.3)

-- the CID of the retired one, and of none
retired-cid : {cid : ℕ} → IsUnknown seated 65538 cid ⊎ IsRetired seated 65538 cid → cid ≡ 9
retired-cid (inl h) = absurd (h.0 retired_channel (2, refl) refl)
retired-cid {cid} (inr h) =
    sym h.4 ∙ one-of-three (λ (x : KnownChannel). x.sid ≡ 65538 → x.cid ≡ 9) (λ e. absurd (omega (arith, e))) (λ e. absurd (omega (arith, e))) (λ e. refl) h.0 h.1 h.2

unknown-cid : {cid : ℕ} → IsUnknown seated 5 cid ⊎ IsRetired seated 5 cid → cid ≡ 4294967295
unknown-cid (inl h) = h.1
unknown-cid (inr h) = absurd (one-of-three (λ (x : KnownChannel). x.sid ≡ 5 → ⊥) (λ e. omega (arith, e)) (λ e. omega (arith, e)) (λ e. omega (arith, e)) h.0 h.1 h.2)

nobody-has-5 : (c : KnownChannel) → In seated.channels c → c.sid ≡ 5 → ⊥
nobody-has-5 = one-of-three (λ (x : KnownChannel). x.sid ≡ 5 → ⊥) (λ e. omega (arith, e)) (λ e. omega (arith, e)) (λ e. omega (arith, e))

-- the first reply's parameters, and whether it has a payload
abbrev p1_of : List Fields → ℕ
p1_of [] = 0
p1_of (m ∷ ms) = m.p1

abbrev p2_of : List Fields → ℕ
p2_of [] = 0
p2_of (m ∷ ms) = m.p2

abbrev size_of : List Fields → ℕ
size_of [] = 0
size_of (m ∷ ms) = length m.payload

unlike : {A : Type 0} (a b : ℕ) → (a < b) ⊎ (b < a) → a ≡ b → A
unlike a b (inl h) e = absurd (omega (arith, h, e))
unlike a b (inr h) e = absurd (omega (arith, h, e))

-- ---- READ_NOTIFY

pub reads-due : AreDue reads_due
unfolding signed_bytes_4
reads-due =
    are-due reads_due (
      (inl (on-temp false 0 [], refl, inr (refl, (_, longs (pos 21 ∷ []), refl, refl, refl))), known),
      (
        (inl (on-temp false 0 [], refl, inr (refl, (_, longs (pos 21 ∷ []), refl, refl, refl))), known),
        (
          (inl (on-temp false 0 [], refl, inl (114, refl, refl)), known),
          (
            (inl (on-temp false 0 no_rights, refl, inl (368, refl, refl)), known),
            (
              (inr (4294967295, inl (nobody-has-5, refl), refl, refl), known),
              ((inr (9, inr (retired_channel, (2, refl), refl, refl, refl), refl, refl), known), tt),
            ),
          ),
        ),
      ),
    )

temp-fault : (rules : List Rule) (c : Serves (ruled false 0 rules) 65536) (f : Option ℕ) → fault_of_read (ruled false 0 rules) (read_on 65536) c ≡ f
    → read_fault temp (rights rules [] hall temp_name) (read_on 65536) (image_type_of 5) ≡ f
temp-fault rules c f h =
    as-temp false 0 rules (λ (x : KnownChannel) (r : KnownRecord). read_fault r.state (rights_at (ruled false 0 rules) x.name) (read_on 65536) (image_type_of 5) ≡ f) c h

pub reads-not-due : AreNotDue reads_not_due
unfolding signed_bytes_4
reads-not-due = (
  (λ d. elim (d.read refl) [
    | inl h ↦ elim h.2 [
      | inl a ↦ there-not (sym (temp-fault [] h.0 (Some a.0) a.1))
      | inr b ↦ unlike 410 1 (inr (omega arith)) (ap p1_of b.1.4)
    ]
    | inr h ↦ no-stray h.1
  ]),
  (
    (λ d. elim (d.read refl) [
      | inl h ↦ no-service h.0
      | inr h ↦ unlike 8 0 (inr (omega arith)) (ap size_of h.2)
    ]),
    (
      (λ d. elim (d.read refl) [
        | inl h ↦ elim h.2 [
          | inl a ↦ unlike 8 0 (inr (omega arith)) (ap size_of a.2)
          | inr b ↦ there-not (temp-fault no_rights h.0 None b.0)
        ]
        | inr h ↦ unlike 8 0 (inr (omega arith)) (ap size_of h.2)
      ]),
      (
        (λ d. elim (d.read refl) [
          | inl h ↦ elim h.2 [
            | inl a ↦ no-replies (sym a.2)
            | inr b ↦ no-replies (sym b.1.4)
          ]
          | inr h ↦ no-replies (sym h.2)
        ]),
        tt,
      ),
    ),
  ),
)

-- ---- WRITE and WRITE_NOTIFY

-- the payload of a put is read as the value 22
pub reads-22 : (m : Fields) → m.data_type ≡ 5 → m.count ≡ 1 → m.payload ≡ 0 ∷ 0 ∷ 0 ∷ 22 ∷ 0 ∷ 0 ∷ 0 ∷ 0 ∷ [] → PutReads m v22
unfolding signed_bytes_4
reads-22 m type count bytes = record {
  base = base.Long;
  typed = ap base_type_of type;
  reads =
      subst (λ (n : ℕ). ReadsElements base.Long n m.payload v22) (sym count) (subst (λ (x : List ℕ). ReadsElements base.Long 1 x v22) (sym bytes) (record { behind = 0 ∷ 0 ∷ 0 ∷ 0 ∷ []; spelled = refl; based = refl; counted = refl; valued = is-22 }));
}
  where
    is-22 : All (λ (z : ℤ). FitsSigned w32 z) (pos 22 ∷ [])
    is-22 = search rules

pub writes-due : AreDue writes_due
writes-due =
    are-due writes_due (
      (inl (on-temp false 0 [], inr (v22, record { elements = v22; early = refl; reads = reads-22 _ refl refl refl; late = refl; is = refl }, refl, refl)), known),
      (
        (inl (on-slow true 16 [], inr (v22, record { elements = v22; early = refl; reads = reads-22 _ refl refl refl; late = refl; is = refl }, refl, refl)), known),
        (
          (inl (on-temp false 0 no_rights, inl (376, inl refl, refl, refl)), known),
          (
            (inr (9, inr (retired_channel, (2, refl), refl, refl, refl), refl, refl), known),
            ((inr (4294967295, inl (nobody-has-5, refl), refl, refl), known), tt),
          ),
        ),
      ),
    )

-- the first fault of a put on TEMP
temp-early : (rules : List Rule) (m : Fields) (c : Serves (ruled false 0 rules) 65536) (f : Option ℕ)
    → early_put_fault c.known.state (rights_at (ruled false 0 rules) c.channel.name) m (base_type_of m.data_type) ≡ f
    → early_put_fault temp (rights rules [] hall temp_name) m (base_type_of m.data_type) ≡ f
temp-early rules m c f h =
    as-temp false 0 rules (λ (x : KnownChannel) (r : KnownRecord). early_put_fault r.state (rights_at (ruled false 0 rules) x.name) m (base_type_of m.data_type) ≡ f) c h

pub writes-not-due : AreNotDue writes_not_due
writes-not-due = (
  (λ d. elim (d.write refl) [
    | inl h ↦ no-service h.0
    | inr h ↦ (let e = retired-cid h.1 in let f : 4294967295 ≡ h.0 = ap p1_of h.2 in omega (arith, e, f))
  ]),
  (
    (λ d. elim (d.write refl) [
      | inl h ↦ nobody-has-5 h.0.channel h.0.open_there h.0.under
      | inr h ↦ (let e = unknown-cid h.1 in let f : 9 ≡ h.0 = ap p1_of h.2 in omega (arith, e, f))
    ]),
    (
      (λ d. elim (d.write refl) [
        | inl h ↦ elim h.1 [ inl a ↦ no-replies (sym a.2) | inr b ↦ apart _ _ b.3 (inl (omega arith)) ]
        | inr h ↦ no-replies (sym h.2)
      ]),
      (
        (λ d. elim (d.write refl) [
          | inl h ↦ no-service h.0
          | inr h ↦ no-replies (sym h.2)
        ]),
        (
          (λ d. elim (d.write refl) [
            | inl h ↦ elim h.1 [ inl a ↦ no-replies (sym a.2) | inr b ↦ there-not (temp-early no_rights (write_on 65536) h.0 None b.1.early) ]
            | inr h ↦ no-replies (sym h.2)
          ]),
          (
            (λ d. elim (d.write refl) [
              | inl h ↦ elim h.1 [ inl a ↦ no-replies (sym a.2) | inr b ↦ apart _ _ b.3 (inr (omega arith)) ]
              | inr h ↦ no-replies (sym h.2)
            ]),
            tt,
          ),
        ),
      ),
    ),
  ),
)

pub replies-late : RepliesLate
replies-late = (refl, refl, refl, refl)

pub puts-due : AreDue puts_due
puts-due =
    are-due puts_due (
      (inl (on-temp false 0 [], inr (v22, record { elements = v22; early = refl; reads = reads-22 _ refl refl refl; late = refl; is = refl }, refl, refl)), known),
      (
        (inl (on-slow false 0 [], inr (v22, record { elements = v22; early = refl; reads = reads-22 _ refl refl refl; late = refl; is = refl }, refl, refl)), known),
        (
          (inl (on-slow true 15 [], inr (v22, record { elements = v22; early = refl; reads = reads-22 _ refl refl refl; late = refl; is = refl }, refl, refl)), known),
          (
            (inl (on-slow true 16 [], inl (160, inr (refl, (v22, reads-22 _ refl refl refl, refl)), refl, refl)), known),
            (
              (inl (on-temp false 0 no_rights, inl (376, inl refl, refl, refl)), known),
              (
                (inr (4294967295, inl (nobody-has-5, refl), refl, refl), known),
                ((inr (9, inr (retired_channel, (2, refl), refl, refl, refl), refl, refl), known), tt),
              ),
            ),
          ),
        ),
      ),
    )

-- what a put on SLOW does is what it does while that is busy or not
slow-does : (busy : Bool) (waits : ℕ) (c : Serves (ruled busy waits []) 65537) (v : Elements) (a : Action)
    → a ≡ (if must_wait (ruled busy waits []) (put_on 65537) c then Waits c.channel.name v else Applies c.channel.name v c.known.state.slow)
    → a ≡ (if busy then Waits slow_name v else Applies slow_name v true)
slow-does busy waits c v a h =
    as-slow busy waits [] (λ (x : KnownChannel) (r : KnownRecord). a ≡ (if r.busy then Waits x.name v else Applies x.name v r.state.slow)) c h

slow-replies : (busy : Bool) (waits : ℕ) (c : Serves (ruled busy waits []) 65537) (rs : List Fields)
    → rs ≡ (if c.known.state.slow then [] else status_reply (put_on 65537) normal ∷ []) → rs ≡ []
slow-replies busy waits c rs h = as-slow busy waits [] (λ (x : KnownChannel) (r : KnownRecord). rs ≡ (if r.state.slow then [] else status_reply (put_on 65537) normal ∷ [])) c h

temp-replies : (c : Serves seated 65536) (rs : List Fields) → rs ≡ (if c.known.state.slow then [] else status_reply (put_on 65536) normal ∷ []) → rs ≡ status_reply (put_on 65536) normal ∷ []
temp-replies c rs h = as-temp false 0 [] (λ (x : KnownChannel) (r : KnownRecord). rs ≡ (if r.state.slow then [] else status_reply (put_on 65536) normal ∷ [])) c h

pub puts-not-due : AreNotDue puts_not_due
puts-not-due = (
  (λ d. elim (d.put refl) [
    | inl h ↦ elim h.1 [ inl a ↦ no-replies (sym a.2) | inr b ↦ apart _ _ (slow-does true 15 h.0 b.0 _ b.3) (inl (omega arith)) ]
    | inr h ↦ no-replies (sym h.2)
  ]),
  (
    (λ d. elim (d.put refl) [
      | inl h ↦ elim h.1 [ inl a ↦ apart _ _ a.3 (inr (omega arith)) | inr b ↦ no-replies (slow-replies false 0 h.0 _ b.2) ]
      | inr h ↦ apart _ _ h.3 (inr (omega arith))
    ]),
    (
      (λ d. elim (d.put refl) [
        | inl h ↦ elim h.1 [ inl a ↦ no-replies (sym a.2) | inr b ↦ no-replies (sym (temp-replies h.0 _ b.2)) ]
        | inr h ↦ no-replies (sym h.2)
      ]),
      (
        (λ d. elim (d.put refl) [
          | inl h ↦ no-service h.0
          | inr h ↦ apart _ _ h.3 (inr (omega arith))
        ]),
        (
          (λ d. elim (d.put refl) [
            | inl h ↦ elim h.1 [ inl a ↦ no-replies (sym a.2) | inr b ↦ apart _ _ (slow-does false 0 h.0 b.0 _ b.3) (inr (omega arith)) ]
            | inr h ↦ no-replies (sym h.2)
          ]),
          tt,
        ),
      ),
    ),
  ),
)

-- ---- EVENT_ADD

pub subscriptions-due : AreDue subscriptions_due
unfolding number16
subscriptions-due =
    are-due subscriptions_due (
      (inl (on-temp false 0 [], inr (refl, refl, refl)), known),
      (
        (inl (on-slow false 0 [], inr (refl, refl, refl)), known),
        (
          (inl (on-temp false 0 [], inl (168, refl, refl, refl)), known),
          (
            (inl (on-temp false 0 no_rights, inl (368, refl, refl, refl)), known),
            (
              (inr (9, inr (retired_channel, (2, refl), refl, refl, refl), refl, refl), known),
              ((inr (4294967295, inl (nobody-has-5, refl), refl, refl), known), tt),
            ),
          ),
        ),
      ),
    )

event-fault : (m : Fields) (c : Serves seated 65536) (f : Option ℕ)
    → subscription_fault c.known.state (rights_at seated c.channel.name) (is_among (key_in m) seated.keys) 1 m (image_type_of m.data_type) ≡ f
    → subscription_fault temp 3 (is_among (key_in m) seated.keys) 1 m (image_type_of m.data_type) ≡ f
event-fault m c f h =
    as-temp false 0 [] (λ (x : KnownChannel) (r : KnownRecord). subscription_fault r.state (rights_at seated x.name) (is_among (key_in m) seated.keys) 1 m (image_type_of m.data_type) ≡ f) c h

pub subscriptions-not-due : AreNotDue subscriptions_not_due
unfolding number16
subscriptions-not-due = (
  (λ d. elim (d.subscribe refl) [
    | inl h ↦ elim h.1 [ inl a ↦ no-replies (sym a.2) | inr b ↦ apart _ _ b.2 (inl (omega arith)) ]
    | inr h ↦ no-replies (sym h.2)
  ]),
  (
    (λ d. elim (d.subscribe refl) [
      | inl h ↦ elim h.1 [ inl a ↦ no-replies (sym a.2) | inr b ↦ there-not (event-fault (add_on 65536 1) h.0 None b.0) ]
      | inr h ↦ no-replies (sym h.2)
    ]),
    (
      (λ d. elim (d.subscribe refl) [
        | inl h ↦ no-service h.0
        | inr h ↦ no-replies (sym h.2)
      ]),
      (
        (λ d. elim (d.subscribe refl) [
          | inl h ↦ elim h.1 [ inl a ↦ there-not (sym (event-fault (add_on 65536 2) h.0 (Some a.0) a.1)) | inr b ↦ no-replies b.1 ]
          | inr h ↦ no-stray h.1
        ]),
        (
          (λ d. elim (d.subscribe refl) [
            | inl h ↦ no-service h.0
            | inr h ↦ (let e = retired-cid h.1 in let f : 4294967295 ≡ h.0 = ap p1_of h.2 in omega (arith, e, f))
          ]),
          tt,
        ),
      ),
    ),
  ),
)

-- ---- the others

pub others-due : AreDue others_due
others-due =
    are-due others_due (
      ((refl, refl), known),
      (((refl, refl), known), (((refl, refl), known), (((refl, refl), known), (((refl, refl), known), (((refl, refl), known), ((tt, λ e. (refl, refl)), ((tt, λ e. (refl, refl)), tt))))))),
    )

pub others-not-due : AreNotDue others_not_due
others-not-due = (
  (λ d. no-replies (sym (d.cancel refl).0)),
  (
    (λ d. apart _ _ (d.cancel refl).1 (inl (omega arith))),
    (
      (λ d. no-replies (sym (d.clear refl).0)),
      (
        (λ d. apart _ _ (d.clear refl).1 (inl (omega arith))),
        (
          (λ d. apart _ _ (d.off refl).1 (inr (omega arith))),
          ((λ d. apart _ _ (d.on refl).1 (inl (omega arith))), ((λ d. no-replies (d.other refl).0), ((λ d. apart _ _ (d.other refl).1 (inr (omega arith))), tt))),
        ),
      ),
    ),
  ),
)
