-- What replies say of the log stays so as it grows, and what is due for a write says what is done.
use Rattle.std.proofs.Common.{◌≡◌, ℕ, zero, suc, ◌<◌, inl, inr, Bool, true, false, cond, not, ◌==◌, ◌&&◌, ◌||◌, length, nat_lt, List, [], ◌∷◌, ◌++◌, Option, Some, None, refl, sym, ap, subst, ◌∙◌, arith}
use Rattle.std.specs.Prelude.{find, option_map}
use Rattle.ca_text.specs.declared.command.Command.TheVariants as command
use Rattle.ca_text.specs.Limits.{waiting_puts}
use Rattle.ca_text.specs.Place.{At}
use Rattle.ca_text.specs.Status.{bad_channel, bad_count, bad_type, no_convert, no_write_access, normal, put_fail}
use Rattle.ca_text.proofs.Places.{some_is}
use Rattle.ca_dbr.specs.declared.data_type.BaseType.{BaseType}
use Rattle.ca_dbr.specs.declared.value.Outcome.TheVariants.{Done, Failed}
use Rattle.ca_dbr.specs.Elements.{Elements}
use Rattle.ca_dbr.specs.Held.{kind_of}
use Rattle.ca_dbr.specs.Reading.{least_size}
use Rattle.ca_records.specs.Faults.{first_fault, has_misfit, lacks_conversion, late_put_fault}
use Rattle.ca_records.specs.Given.{given_as}
use Rattle.ca_records.specs.Record.{RecordState}
use Rattle.ca_records.specs.Rules.{may_write}
use Rattle.ca_requests.specs.Meaning.{Means}
use Rattle.ca_wire.specs.Messages.{status_reply}
use Rattle.ca_model.specs.Due.{Action, Applies, Due, Knows, Nothing, PutDue, PutRefused, Serves, Waits, must_wait, rights_at}
use Rattle.ca_model.specs.Faults.{early_put_fault}
use Rattle.ca_model.specs.Images.{base_type_of}
use Rattle.ca_text.specs.declared.status.Status.{Status}
use Rattle.ca_model.specs.Speech.{In, Is}
use Rattle.ca_wire.specs.Fields.{Fields}
use Rattle.ca_model.specs.History.{Applied, Entry, Sent}
use Rattle.ca_model.specs.World.{PutPlace}
use Rattle.ca_laws_parts.specs.Once.{write_in}
use Rattle.ca_laws_parts.specs.Lives.{AreSlow, IsWriting, SaysSo}
use Rattle.ca_laws_parts.proofs.WritesLists.{In-append, In-snoc}

-- One entry more: if it is about the write, the log told of that before.
pub says-more : (y : List Entry) (p : PutPlace) (s : Sent) (m : Fields) (e : Entry) → (write_in e ≡ Some p → (f : Entry) × In y f × (write_in f ≡ Some p)) → SaysSo y p s m → SaysSo (y ++ e ∷ []) p s m
says-more y p s m e told says = record {
  done = λ asks means. (let a = says.done asks means in (a.0, a.1, a.2, In-append y (e ∷ []) (Applied p.circuit p.place a.0 a.1 a.2) a.3));
  failed = λ status writes means f h about. elim (In-snoc y e f h) [
    | inl old ↦ says.failed status writes means f old about
    | inr new ↦ (let was = told (subst (λ (z : Entry). write_in z ≡ Some p) new about) in says.failed status writes means was.0 was.1 was.2)
  ];
}

-- ---- what is due for a write

-- these statuses are none that says that it went well
abbrev Above : List (Bool × ℕ) → Type 0
Above [] = Unit {0}
Above (f ∷ fs) = (1 < f.1) × Above fs

fault-above : (fs : List (Bool × ℕ)) (n : ℕ) → Above fs → first_fault fs ≡ Some n → 1 < n
fault-above [] n above is = absurd cc
fault-above (f ∷ fs) n above is = go f.0 is (λ h. fault-above fs n above.1 h)
  where
    go : (b : Bool) → option_map (λ (g : Bool × ℕ). g.1) (cond b (Some f) (find (λ (g : Bool × ℕ). g.0) fs)) ≡ Some n → (first_fault fs ≡ Some n → 1 < n) → 1 < n
    go true h rest = subst (λ (k : ℕ). 1 < k) (some_is f.1 n h) above.0
    go false h rest = rest h

early-above : (r : RecordState) (rights : ℕ) (m : Fields) (b : Option BaseType) (n : ℕ) → early_put_fault r rights m b ≡ Some n → 1 < n
early-above r rights m None n is = subst (λ (k : ℕ). 1 < k) (some_is bad_type n is) (let h : 1 < 114 = omega arith in h)
early-above r rights m (Some b) n is =
    fault-above ((not (may_write rights), no_write_access) ∷ (m.count == 0 || (nat_lt r.count m.count || nat_lt (length m.payload) (least_size b m.count)), bad_count) ∷ []) n
    ((let h : 1 < 376 = omega arith in h), ((let h : 1 < 176 = omega arith in h), tt)) is

late-above : (r : RecordState) (waits : Bool) (others : ℕ) (e : Elements) (n : ℕ) → late_put_fault r waits others e ≡ Some n → 1 < n
late-above r waits others e n is =
    fault-above ((lacks_conversion (given_as e (kind_of r.value)), no_convert) ∷ (has_misfit (given_as e (kind_of r.value)), put_fail) ∷ (cond waits (not (nat_lt others waiting_puts)) false, put_fail) ∷ []) n
    ((let h : 1 < 400 = omega arith in h), ((let h : 1 < 160 = omega arith in h), ((let h : 1 < 160 = omega arith in h), tt))) is

refused-above : (k : Knows) (m : Fields) (c : Serves k m.p1) (n : ℕ) → PutRefused k m c n → 1 < n
refused-above k m c n (inl early) = early-above c.known.state (rights_at k c.channel.name) m (base_type_of m.data_type) n early
refused-above k m c n (inr late) = late-above c.known.state (must_wait k m c) c.known.waits late.1.0 n late.1.2

one-of : {A : Type 0} (x r : A) (xs : List A) → xs ≡ x ∷ [] → In xs r → x ≡ r
one-of {A} x r xs is h = go h.0 (subst (λ (l : List A). At l h.0 r) is h.1)
  where
    go : (i : ℕ) → At (x ∷ []) i r → x ≡ r
    go zero at = some_is x r at
    go (suc i) at = absurd cc

none-of : {A : Type 0} (r : A) (xs : List A) → xs ≡ [] → In xs r → ⊥
none-of {A} r xs is h = (let at : At [] h.0 r = subst (λ (l : List A). At l h.0 r) is h.1 in cc)

-- the reply to a put with this status
means-done : (m : Fields) (status : ℕ) → Is command.WriteNotify m → Means (status_reply m status) Done → status ≡ normal
means-done m status is (inl image) = absurd image.1
means-done m status is (inr (inl put)) = put.1
means-done m status is (inr (inr (inl created))) =
    (let a : m.command ≡ 18 = created.0 in let b : m.command ≡ 19 = is in absurd (omega (arith, a, b)))
means-done m status is (inr (inr (inr fault))) = absurd fault.1

means-failed : (m : Fields) (status : ℕ) (s : Status) → Is command.WriteNotify m → Means (status_reply m status) (Failed s) → status ≡ normal → ⊥
means-failed m status s is (inl (inl read, image)) e =
    (let a : m.command ≡ 15 = read in let b : m.command ≡ 19 = is in absurd (omega (arith, a, b)))
means-failed m status s is (inl (inr event, image)) e =
    (let a : m.command ≡ 1 = event.0 in let b : m.command ≡ 19 = is in absurd (omega (arith, a, b)))
means-failed m status s is (inr (inl put)) e = put.1.0 e
means-failed m status s is (inr (inr (inl created))) e = created.1
means-failed m status s is (inr (inr (inr fault))) e =
    (let a : m.command ≡ 11 = fault.0 in let b : m.command ≡ 19 = is in absurd (omega (arith, a, b)))

-- A put that is told Done at once is applied, and makes its record not busy.
pub due-done : (k : Knows) (m : Fields) (replies : List Fields) (action : Action) (r : Fields) → AreSlow k → Due k m replies action → Is command.WriteNotify m → In replies r → Means r Done → (name : List ℕ) × (value : Elements) × (action ≡ Applies name value false)
due-done k m replies action r slow due is h means =
    elim (due.put is) [
      | inl served ↦ put served
      | inr stray ↦
          let one : status_reply m bad_channel ≡ r = one-of (status_reply m bad_channel) r replies stray.2 h in
          let bad : bad_channel ≡ normal = means-done m bad_channel is (subst (λ (f : Fields). Means f Done) (sym one) means) in
          (let e : ◌≡◌ {A = ℕ} 410 1 = bad in absurd (omega (arith, e)))
    ]
  where
    put : PutDue k m replies action → (name : List ℕ) × (value : Elements) × (action ≡ Applies name value false)
    put (c, inl refused) =
        let one : status_reply m refused.0 ≡ r = one-of (status_reply m refused.0) r replies refused.2 h in
        let bad : refused.0 ≡ normal = means-done m refused.0 is (subst (λ (f : Fields). Means f Done) (sym one) means) in
        let above : 1 < refused.0 = refused-above k m c refused.0 refused.1 in
        let e : refused.0 ≡ 1 = bad in
        absurd (omega (arith, e, above))
    put (c, inr taken) = go c.known.state.slow c.known.busy refl refl taken.2 taken.3
      where
        and-false : (b : Bool) → b && false ≡ false
        and-false true = refl
        and-false false = refl

        go : (s b : Bool) → c.known.state.slow ≡ s → c.known.busy ≡ b → replies ≡ cond s [] (status_reply m normal ∷ []) → action ≡ cond (m.command == 19 && b) (Waits c.channel.name taken.0) (Applies c.channel.name taken.0 s) → (name : List ℕ) × (value : Elements) × (action ≡ Applies name value false)
        go true b is_slow is_busy none does = absurd (none-of r replies none h)
        go false true is_slow is_busy one does = absurd (let f : c.known.state.slow ≡ true = slow c.channel.name c.known c.named is_busy in let g : true ≡ false = sym f ∙ is_slow in cc)
        go false false is_slow is_busy one does =
            (c.channel.name, taken.0, does ∙ ap (λ (x : Bool). cond x (Waits c.channel.name taken.0) (Applies c.channel.name taken.0 false)) (and-false (m.command == 19)))

-- A write that is told Failed does nothing.
pub due-failed : (k : Knows) (m : Fields) (replies : List Fields) (action : Action) (r : Fields) (s : Status) → Due k m replies action → IsWriting m → In replies r → Means r (Failed s) → action ≡ Nothing
due-failed k m replies action r s due (inl is) h means =
    elim (due.write is) [
      | inl served ↦ elim served.1 [
        | inl refused ↦ refused.3
        | inr taken ↦ absurd (none-of r replies taken.2 h)
      ]
      | inr stray ↦ stray.3
    ]
due-failed k m replies action r s due (inr is) h means =
    elim (due.put is) [
      | inl served ↦ put served
      | inr stray ↦ stray.3
    ]
  where
    put : PutDue k m replies action → action ≡ Nothing
    put (c, inl refused) = refused.3
    put (c, inr taken) = go c.known.state.slow taken.2
      where
        go : (b : Bool) → replies ≡ cond b [] (status_reply m normal ∷ []) → action ≡ Nothing
        go true none = absurd (none-of r replies none h)
        go false one = absurd (let is_it : status_reply m normal ≡ r = one-of (status_reply m normal) r replies one h in means-failed m normal s is (subst (λ (f : Fields). Means f (Failed s)) (sym is_it) means) refl)
