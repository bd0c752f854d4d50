-- Which replies tell that a channel is not known or retired, and to which messages they are due.
use Rattle.std.proofs.Common.{◌≡◌, ℕ, zero, suc, ◌⊎◌, inl, inr, Bool, true, false, cond, not, ◌||◌, List, [], ◌∷◌, length, Option, Some, None, refl, sym, ap, subst, ◌∙◌, arith}
use Rattle.std.specs.Prelude.{◌==◌, ◌%◌, ◌*◌, find, is_some, nat_lt, option_map}
use Rattle.ca_dbr.specs.declared.data_type.BaseType.{BaseType}
use Rattle.ca_dbr.specs.declared.value.Outcome.TheVariants.{Failed}
use Rattle.ca_dbr.specs.Elements.{Elements}
use Rattle.ca_dbr.specs.Held.{display_of, kind_of}
use Rattle.ca_dbr.specs.Reading.{least_size}
use Rattle.ca_display.specs.declared.image_type.ImageType.{ImageType}
use Rattle.ca_display.specs.Types.{base_in}
use Rattle.ca_queue.specs.Keys.{is_among}
use Rattle.ca_records.specs.Faults.{first_fault, has_misfit, lacks_conversion, late_put_fault}
use Rattle.ca_records.specs.Given.{given_as}
use Rattle.ca_records.specs.Record.{RecordState}
use Rattle.ca_records.specs.Rules.{may_read, may_write}
use Rattle.ca_requests.specs.Meaning.{Means}
use Rattle.ca_text.specs.declared.status.Status.{Status}
use Rattle.ca_text.specs.Limits.{circuit_queues, queue_subscriptions, waiting_puts}
use Rattle.ca_text.specs.Place.{At}
use Rattle.ca_text.specs.Status.{add_fail, bad_channel, bad_count, bad_type, get_fail, no_convert, no_read_access, no_write_access, normal, put_fail}
use Rattle.ca_text.proofs.Places.{some_is}
use Rattle.ca_wire.specs.Fields.{Fields}
use Rattle.ca_wire.specs.Messages.{cancel_reply, error_reply, mask_in, not_found_reply, search_reply, status_reply, text_in, version_reply}
use Rattle.ca_model.specs.Due.{Action, Due, key_in, IsRetired, IsUnknown, Knows, PutRefused, Serves, fault_of_event, fault_of_read, is_known, must_wait, rights_at}
use Rattle.ca_model.specs.Faults.{early_put_fault, read_count, read_fault, read_shown, subscribed_count, subscription_fault, too_many}
use Rattle.ca_model.specs.Images.{base_type_of, image_type_of, lacks_conversion_to, lacks_type}
use Rattle.ca_model.specs.Speech.{In}
use Rattle.ca_laws_parts.proofs.Doing.{any-of, commands, each-at, known-or}

-- ---- the faults of requests are others

abbrev bad : Status
bad = record { number = bad_channel }

abbrev AreOther : List (Bool × ℕ) → Type 0
AreOther [] = Unit {0}
AreOther (f ∷ fs) = (f.1 ≡ 410 → ⊥) × AreOther fs

fault-other : (fs : List (Bool × ℕ)) (n : ℕ) → AreOther fs → first_fault fs ≡ Some n → n ≡ 410 → ⊥
fault-other [] n others is = absurd cc
fault-other (f ∷ fs) n others is = go f.0 is (λ h. fault-other fs n others.1 h)
  where
    go : (b : Bool) → option_map (λ (g : Bool × ℕ). g.1) (cond b (Some f) (find (λ (g : Bool × ℕ). g.0) fs)) ≡ Some n → (first_fault fs ≡ Some n → n ≡ 410 → ⊥) → n ≡ 410 → ⊥
    go true h rest = subst (λ (k : ℕ). k ≡ 410 → ⊥) (some_is f.1 n h) others.0
    go false h rest = rest h

differs : (n : ℕ) → ◌≡◌ {A = Bool} (n == 410) false → n ≡ 410 → ⊥
differs n e is = (let f : ◌≡◌ {A = Bool} true false = sym (ap (λ (k : ℕ). k == 410) is) ∙ e in cc)

read-other : (r : RecordState) (rights : ℕ) (m : Fields) (t : Option ImageType) (n : ℕ) → read_fault r rights m t ≡ Some n → n ≡ 410 → ⊥
read-other r rights m None n is = subst (λ (k : ℕ). k ≡ 410 → ⊥) (some_is bad_type n is) (differs 114 refl)
read-other r rights m (Some t) n is =
    fault-other ((lacks_type (display_of r.value) t, bad_type) ∷ (not (may_read rights), no_read_access) ∷ (too_many r t (read_count r m), bad_count) ∷ (lacks_conversion (read_shown r m t), no_convert) ∷ (has_misfit (read_shown r m t), get_fail) ∷ []) n
    (differs 114 refl, (differs 368 refl, (differs 176 refl, (differs 400 refl, (differs 152 refl, tt))))) is

early-other : (r : RecordState) (rights : ℕ) (m : Fields) (b : Option BaseType) (n : ℕ) → early_put_fault r rights m b ≡ Some n → n ≡ 410 → ⊥
early-other r rights m None n is = subst (λ (k : ℕ). k ≡ 410 → ⊥) (some_is bad_type n is) (differs 114 refl)
early-other r rights m (Some b) n is =
    fault-other ((not (may_write rights), no_write_access) ∷ (m.count == 0 || (nat_lt r.count m.count || nat_lt (length m.payload) (least_size b m.count)), bad_count) ∷ []) n
    (differs 376 refl, (differs 176 refl, tt)) is

late-other : (r : RecordState) (waits : Bool) (others : ℕ) (e : Elements) (n : ℕ) → late_put_fault r waits others e ≡ Some n → n ≡ 410 → ⊥
late-other r waits others e n is =
    fault-other ((lacks_conversion (given_as e (kind_of r.value)), no_convert) ∷ (has_misfit (given_as e (kind_of r.value)), put_fail) ∷ (cond waits (not (nat_lt others waiting_puts)) false, put_fail) ∷ []) n
    (differs 400 refl, (differs 160 refl, (differs 160 refl, tt))) is

put-other : (k : Knows) (m : Fields) (c : Serves k m.p1) (n : ℕ) → PutRefused k m c n → n ≡ 410 → ⊥
put-other k m c n (inl early) = early-other c.known.state (rights_at k c.channel.name) m (base_type_of m.data_type) n early
put-other k m c n (inr late) = late-other c.known.state (must_wait k m c) c.known.waits late.1.0 n late.1.2

event-other : (r : RecordState) (rights : ℕ) (used : Bool) (others : ℕ) (m : Fields) (t : Option ImageType) (n : ℕ) → subscription_fault r rights used others m t ≡ Some n → n ≡ 410 → ⊥
event-other r rights used others m None n is = subst (λ (k : ℕ). k ≡ 410 → ⊥) (some_is bad_type n is) (differs 114 refl)
event-other r rights used others m (Some t) n is =
    fault-other (
    (lacks_type (display_of r.value) t, bad_type) ∷ (not (may_read rights), no_read_access) ∷ (nat_lt (length m.payload) 16 || (mask_in m % 16 == 0 || used), add_fail) ∷ (too_many r t (subscribed_count r m), bad_count)
    ∷ (lacks_conversion_to (display_of r.value) r.value (base_in t), no_convert) ∷ (not (nat_lt others (circuit_queues * queue_subscriptions)), add_fail) ∷ []
    ) n
    (differs 114 refl, (differs 368 refl, (differs 168 refl, (differs 176 refl, (differs 400 refl, (differs 168 refl, tt)))))) is

read-fault-other : (k : Knows) (m : Fields) (c : Serves k m.p1) (n : ℕ) → fault_of_read k m c ≡ Some n → n ≡ 410 → ⊥
read-fault-other k m c n is = read-other c.known.state (rights_at k c.channel.name) m (image_type_of m.data_type) n is

event-fault-other : (k : Knows) (m : Fields) (c : Serves k m.p1) (n : ℕ) → fault_of_event k m c ≡ Some n → n ≡ 410 → ⊥
event-fault-other k m c n is = event-other c.known.state (rights_at k c.channel.name) (is_among (key_in m) k.keys) (length k.keys) m (image_type_of m.data_type) n is

-- ---- what a message means

-- it has one of these commands
abbrev Speaks : ℕ → Type 0
Speaks n = ((n ≡ 15) ⊎ (n ≡ 1)) ⊎ ((n ≡ 19) ⊎ ((n ≡ 18) ⊎ (n ≡ 11)))

means-speaks : (r : Fields) (s : Status) → Means r (Failed s) → Speaks r.command
means-speaks r s (inl (inl read, image)) = inl (inl read)
means-speaks r s (inl (inr event, image)) = inl (inr event.0)
means-speaks r s (inr (inl put)) = inr (inl put.0)
means-speaks r s (inr (inr (inl created))) = inr (inr (inl created.0))
means-speaks r s (inr (inr (inr fault))) = inr (inr (inr fault.0))

no-speaker : (n k : ℕ) → n ≡ k → ◌≡◌ {A = Bool} ((k == 15) || ((k == 1) || ((k == 19) || ((k == 18) || (k == 11))))) false → Speaks n → ⊥
no-speaker n k is none (inl (inl e)) = (let f : k ≡ 15 = sym is ∙ e in let g : ◌≡◌ {A = Bool} true false = sym (ap (λ (q : ℕ). (q == 15) || ((q == 1) || ((q == 19) || ((q == 18) || (q == 11))))) f) ∙ none in cc)
no-speaker n k is none (inl (inr e)) = (let f : k ≡ 1 = sym is ∙ e in let g : ◌≡◌ {A = Bool} true false = sym (ap (λ (q : ℕ). (q == 15) || ((q == 1) || ((q == 19) || ((q == 18) || (q == 11))))) f) ∙ none in cc)
no-speaker n k is none (inr (inl e)) = (let f : k ≡ 19 = sym is ∙ e in let g : ◌≡◌ {A = Bool} true false = sym (ap (λ (q : ℕ). (q == 15) || ((q == 1) || ((q == 19) || ((q == 18) || (q == 11))))) f) ∙ none in cc)
no-speaker n k is none (inr (inr (inl e))) = (let f : k ≡ 18 = sym is ∙ e in let g : ◌≡◌ {A = Bool} true false = sym (ap (λ (q : ℕ). (q == 15) || ((q == 1) || ((q == 19) || ((q == 18) || (q == 11))))) f) ∙ none in cc)
no-speaker n k is none (inr (inr (inr e))) = (let f : k ≡ 11 = sym is ∙ e in let g : ◌≡◌ {A = Bool} true false = sym (ap (λ (q : ℕ). (q == 15) || ((q == 1) || ((q == 19) || ((q == 18) || (q == 11))))) f) ∙ none in cc)

-- a message that reports BADCHID of a READ_NOTIFY or a WRITE_NOTIFY has that status
status-is : (r : Fields) → (r.command ≡ 15) ⊎ (r.command ≡ 19) → Means r (Failed bad) → r.p1 ≡ 410
status-is r kind (inl (which, image)) = sym image.1
status-is r kind (inr (inl put)) = sym put.1.1
status-is r kind (inr (inr (inl created))) = absurd created.1
status-is r (inl is) (inr (inr (inr fault))) = (let a : r.command ≡ 11 = fault.0 in absurd (omega (arith, a, is)))
status-is r (inr is) (inr (inr (inr fault))) = (let a : r.command ≡ 11 = fault.0 in absurd (omega (arith, a, is)))

-- an ERROR that does
error-is : (r : Fields) → r.command ≡ 11 → Means r (Failed bad) → r.p2 ≡ 410
error-is r is (inl (inl read, image)) = absurd (omega (arith, is, read))
error-is r is (inl (inr event, image)) = (let a : r.command ≡ 1 = event.0 in absurd (omega (arith, is, a)))
error-is r is (inr (inl put)) = (let a : r.command ≡ 19 = put.0 in absurd (omega (arith, is, a)))
error-is r is (inr (inr (inl created))) = absurd created.1
error-is r is (inr (inr (inr fault))) = sym fault.1

-- and these do
pub status-means : (m : Fields) → (m.command ≡ 15) ⊎ (m.command ≡ 19) → Means (status_reply m bad_channel) (Failed bad)
status-means m (inl is) = inl (inl is, ((λ e. differ e), refl))
  where
    differ : ◌≡◌ {A = ℕ} 410 1 → ⊥
    differ e = omega (arith, e)
status-means m (inr is) = inr (inl (is, ((λ e. differ e), refl)))
  where
    differ : ◌≡◌ {A = ℕ} 410 1 → ⊥
    differ e = omega (arith, e)

pub error-means : (cid : ℕ) (m : Fields) → Means (error_reply cid bad_channel m) (Failed bad)
error-means cid m = inr (inr (inr (refl, refl)))

-- ---- one reply, or none

pub one-of : {A : Type 0} (x r : A) (xs : List A) → xs ≡ x ∷ [] → In xs r → x ≡ r
one-of {A} x r xs is h = go h.0 (subst (λ (l : List A). At l h.0 r) is h.1)
  where
    go : (i : ℕ) → At (x ∷ []) i r → x ≡ r
    go zero at = some_is x r at
    go (suc i) at = absurd cc

pub none-of : {A : Type 0} (r : A) (xs : List A) → xs ≡ [] → In xs r → ⊥
none-of {A} r xs is h = (let at : At [] h.0 r = subst (λ (l : List A). At l h.0 r) is h.1 in cc)

two-of : {A : Type 0} (x z r : A) (xs : List A) → xs ≡ x ∷ z ∷ [] → In xs r → (x ≡ r) ⊎ (z ≡ r)
two-of {A} x z r xs is h = go h.0 (subst (λ (l : List A). At l h.0 r) is h.1)
  where
    go : (i : ℕ) → At (x ∷ z ∷ []) i r → (x ≡ r) ⊎ (z ≡ r)
    go zero at = inl (some_is x r at)
    go (suc zero) at = inr (some_is z r at)
    go (suc (suc i)) at = absurd cc

-- ---- what is due

-- BADCHID is due only where nothing is served.
pub bad-due : (k : Knows) (m : Fields) (replies : List Fields) (did : Action) (r : Fields) → Due k m replies did → In replies r → Means r (Failed bad) → (cid : ℕ) × (IsUnknown k m.p1 cid ⊎ IsRetired k m.p1 cid)
bad-due k m replies did r due there means =
    elim (known-or (is_known m.command)) [
      | inr other ↦ absurd (none-of r replies (due.other other).0 there)
      | inl known ↦ any-of m.command commands known When (each-at When commands (
        (λ e. absurd (greeted k.greeted (due.version e).0)),
        (
          (λ e. elim (due.subscribe e) [
            | inl served ↦ elim served.1 [
              | inl refused ↦ absurd (event-fault-other k m served.0 refused.0 refused.1 (error-is (error_reply _ refused.0 m) refl (means-of _ refused.2)))
              | inr added ↦ absurd (none-of r replies added.1 there)
            ]
            | inr stray ↦ (stray.0, stray.1)
          ]),
          (
            (λ e. absurd (confirms (means-of (cancel_reply m) (due.cancel e).0))),
            (
              (λ e. elim (due.write e) [
                | inl served ↦ elim served.1 [
                  | inl refused ↦ absurd (put-other k m served.0 refused.0 refused.1 (error-is (error_reply _ refused.0 m) refl (means-of _ refused.2)))
                  | inr taken ↦ absurd (none-of r replies taken.2 there)
                ]
                | inr stray ↦ (stray.0, stray.1)
              ]),
              (
                (λ e. absurd (searched (is_some (k.record_of (text_in m.payload))) (m.data_type == 10) (due.search e).0)),
                (
                  (λ e. absurd (none-of r replies (due.off e).0 there)),
                  (
                    (λ e. absurd (none-of r replies (due.on e).0 there)),
                    (
                      (λ e. absurd (silent _ 12 (due.clear e).0 refl refl)),
                      (
                        (λ e. elim (due.read e) [
                          | inl served ↦ elim served.2 [
                            | inl refused ↦ absurd (read-fault-other k m served.0 refused.0 refused.1 (status-is (status_reply m refused.0) (inl e) (means-of _ refused.2)))
                            | inr shown ↦ absurd (valued r (ap (λ (x : Fields). x.command) (sym (one-of _ r replies shown.1.4 there)) ∙ e) (ap (λ (x : Fields). x.p1) (sym (one-of _ r replies shown.1.4 there))) means)
                          ]
                          | inr stray ↦ (stray.0, stray.1)
                        ]),
                        (
                          (λ e. elim (due.create e) [
                            | inl made ↦ absurd (elim (two-of _ _ r replies made.are there) [
                              | inl rights ↦ no-speaker r.command 22 (ap (λ (f : Fields). f.command) (sym rights)) refl (means-speaks r bad means)
                              | inr created ↦ makes r (ap (λ (f : Fields). f.command) (sym created)) means
                            ])
                            | inr none ↦ absurd (silent _ 26 none.are refl refl)
                          ]),
                          (
                            (λ e. elim (due.put e) [
                              | inl served ↦ elim served.1 [
                                | inl refused ↦ absurd (put-other k m served.0 refused.0 refused.1 (status-is (status_reply m refused.0) (inr e) (means-of _ refused.2)))
                                | inr taken ↦ absurd (done e (served.0).known.state.slow taken.2)
                              ]
                              | inr stray ↦ (stray.0, stray.1)
                            ]),
                            (
                              (λ e. absurd (none-of r replies (due.user e).0 there)),
                              ((λ e. absurd (none-of r replies (due.host e).0 there)), ((λ e. absurd (silent _ 23 (due.echo e).0 refl refl)), tt)),
                            ),
                          ),
                        ),
                      ),
                    ),
                  ),
                ),
              ),
            ),
          ),
        ),
      )) refl
    ]
  where
    Result : Type 0
    Result = (cid : ℕ) × (IsUnknown k m.p1 cid ⊎ IsRetired k m.p1 cid)

    When : ℕ → Type 0
    When n = m.command ≡ n → Result

    means-of : (x : Fields) → replies ≡ x ∷ [] → Means x (Failed bad)
    means-of x is = subst (λ (f : Fields). Means f (Failed bad)) (sym (one-of x r replies is there)) means

    -- a reply that means nothing
    silent : (x : Fields) (c : ℕ) → replies ≡ x ∷ [] → x.command ≡ c → ◌≡◌ {A = Bool} ((c == 15) || ((c == 1) || ((c == 19) || ((c == 18) || (c == 11))))) false → ⊥
    silent x c is named none = no-speaker x.command c named none (means-speaks x bad (means-of x is))

    greeted : (b : Bool) → replies ≡ cond b [] (version_reply ∷ []) → ⊥
    greeted true is = none-of r replies is there
    greeted false is = silent _ 0 is refl refl

    searched : (b d : Bool) → replies ≡ cond b (search_reply k.port m ∷ []) (cond d (not_found_reply m ∷ []) []) → ⊥
    searched true d is = silent _ 6 is refl refl
    searched false true is = silent _ 14 is refl refl
    searched false false is = none-of r replies is there

    confirms : Means (cancel_reply m) (Failed bad) → ⊥
    confirms (inl (inl read, image)) = (let e : ◌≡◌ {A = ℕ} 1 15 = read in omega (arith, e))
    confirms (inl (inr event, image)) = event.1 refl
    confirms (inr (inl put)) = (let e : ◌≡◌ {A = ℕ} 1 19 = put.0 in omega (arith, e))
    confirms (inr (inr (inl created))) = created.1
    confirms (inr (inr (inr fault))) = (let e : ◌≡◌ {A = ℕ} 1 11 = fault.0 in omega (arith, e))

    valued : (x : Fields) → x.command ≡ 15 → x.p1 ≡ 1 → Means x (Failed bad) → ⊥
    valued x is one said = (let e : x.p1 ≡ 410 = status-is x (inl is) said in omega (arith, e, one))

    makes : (x : Fields) → x.command ≡ 18 → Means x (Failed bad) → ⊥
    makes x is (inl (inl read, image)) = omega (arith, is, read)
    makes x is (inl (inr event, image)) = (let a : x.command ≡ 1 = event.0 in omega (arith, is, a))
    makes x is (inr (inl put)) = (let a : x.command ≡ 19 = put.0 in omega (arith, is, a))
    makes x is (inr (inr (inl created))) = created.1
    makes x is (inr (inr (inr fault))) = (let a : x.command ≡ 11 = fault.0 in omega (arith, is, a))

    done : m.command ≡ 19 → (slow : Bool) → replies ≡ cond slow [] (status_reply m normal ∷ []) → ⊥
    done is true none = none-of r replies none there
    done is false one = (let e : ◌≡◌ {A = ℕ} 1 410 = status-is (status_reply m normal) (inr is) (means-of (status_reply m normal) one) in omega (arith, e))
