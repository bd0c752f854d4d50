-- A subscription begins only under a key that none has on its circuit.
use Rattle.std.proofs.Common.{◌≡◌, ℕ, ◌⊎◌, inl, inr, Bool, true, false, cond, ◌||◌, List, [], ◌∷◌, length, Option, Some, None, refl, sym, subst}
use Rattle.std.specs.Prelude.{◌%◌, ◌*◌, ◌==◌, nat_lt, not}
use Rattle.ca_dbr.specs.Elements.{Elements}
use Rattle.ca_dbr.specs.Held.{display_of}
use Rattle.ca_display.specs.declared.image_type.ImageType.{ImageType}
use Rattle.ca_display.specs.Types.{base_in}
use Rattle.ca_queue.specs.Keys.{is_among}
use Rattle.ca_records.specs.Faults.{first_fault}
use Rattle.ca_records.specs.Record.{RecordState}
use Rattle.ca_records.specs.Rules.{may_read}
use Rattle.ca_queue.specs.declared.entry.SubKey.{SubKey}
use Rattle.ca_text.specs.Command.{command_number}
use Rattle.ca_text.specs.declared.command.Command.TheVariants as command
use Rattle.ca_text.specs.Limits.{circuit_queues, queue_subscriptions}
use Rattle.ca_text.specs.Status.{add_fail, bad_count, bad_type, no_convert, no_read_access}
use Rattle.ca_wire.specs.Fields.{Fields}
use Rattle.ca_wire.specs.Messages.{mask_in}
use Rattle.ca_model.specs.Due.{Action, Adds, Applies, Due, IsCreated, KnownChannel, Knows, Names, Nothing, Serves, fault_of_event, is_known, key_in, must_wait, named, rights_at, subscription_in}
use Rattle.ca_model.specs.Due as action
use Rattle.ca_model.specs.Ends.{Peer}
use Rattle.ca_model.specs.Faults.{subscribed_count, subscription_fault, too_many}
use Rattle.ca_model.specs.Images.{image_type_of, lacks_conversion_to, lacks_type}
use Rattle.ca_model.specs.Server.{Subscription, key_of}
use Rattle.ca_laws_parts.proofs.Doing.{any-of, commands, each-at, known-or}

-- ---- a key in use is refused

or-right : (a b : Bool) → a || b ≡ false → b ≡ false
or-right true b e = absurd cc
or-right false b e = e

third-none : (a b c d e f : Bool) (u v w x y z : ℕ) → first_fault ((a, u) ∷ (b, v) ∷ (c, w) ∷ (d, x) ∷ (e, y) ∷ (f, z) ∷ []) ≡ None → c ≡ false
third-none true b c d e f u v w x y z is = absurd cc
third-none false true c d e f u v w x y z is = absurd cc
third-none false false true d e f u v w x y z is = absurd cc
third-none false false false d e f u v w x y z is = refl

refused-in-use : (r : RecordState) (rights others : ℕ) (b : Bool) (m : Fields) (t : Option ImageType) → subscription_fault r rights b others m t ≡ None → b ≡ false
refused-in-use r rights others b m None is = absurd cc
refused-in-use r rights others b m (Some t) is =
    let either : nat_lt (length m.payload) 16 || (mask_in m % 16 == 0 || b) ≡ false =
    third-none (lacks_type (display_of r.value) t) (not (may_read rights)) (nat_lt (length m.payload) 16 || (mask_in m % 16 == 0 || b)) (too_many r t (subscribed_count r m)) (lacks_conversion_to (display_of r.value) r.value (base_in t))
    (not (nat_lt others (circuit_queues * queue_subscriptions))) bad_type no_read_access add_fail bad_count no_convert add_fail is in
    or-right (mask_in m % 16 == 0) b (or-right (nat_lt (length m.payload) 16) (mask_in m % 16 == 0 || b) either)

-- ---- every command

-- A fact that is so of no action but one that begins a subscription or creates a channel.
pub record OfBeginning (Fact : Action → Type 0) : Type 0 where
  pub nothing : Fact Nothing → ⊥
  pub greets : Fact action.Greets → ⊥
  pub names : (p : Peer) → Fact (action.Names p) → ⊥
  pub clears : (sid : ℕ) → Fact (action.Clears sid) → ⊥
  pub applies : (name : List ℕ) (value : Elements) (busies : Bool) → Fact (Applies name value busies) → ⊥
  pub waits : (name : List ℕ) (value : Elements) → Fact (action.Waits name value) → ⊥
  pub drops : (key : SubKey) → Fact (action.Drops key) → ⊥
  pub switches : (on : Bool) → Fact (action.Switches on) → ⊥

-- the EVENT_ADD by which a subscription begins
abbrev pub BeginsBy : Knows → Fields → List Fields → Action → Type 0
BeginsBy k m replies did = (c : Serves k m.p1) × (fault_of_event k m c ≡ None) × (replies ≡ []) × (did ≡ Adds (subscription_in m c.channel.name))

pub due-begins : (k : Knows) (m : Fields) (replies : List Fields) (did : Action) (Fact : Action → Type 0) → OfBeginning Fact → Due k m replies did → Fact did
    → ((m.command ≡ command_number command.EventAdd) × BeginsBy k m replies did) ⊎ ((m.command ≡ command_number command.CreateChannel) × IsCreated k m replies did)
due-begins k m replies did Fact only due fact =
    elim (known-or (is_known m.command)) [
      | inr other ↦ not-it Nothing (due.other other).1 only.nothing
      | inl known ↦ any-of m.command commands known When (each-at When commands (
        (λ e. not-it action.Greets (due.version e).1 only.greets),
        (
          (λ e. elim (due.subscribe e) [
            | inl served ↦ elim served.1 [ inl refused ↦ not-it Nothing refused.3 only.nothing | inr added ↦ inl (e, (served.0, added.0, added.1, added.2)) ]
            | inr stray ↦ not-it Nothing stray.3 only.nothing
          ]),
          (
            (λ e. not-it (action.Drops _) (due.cancel e).1 (only.drops _)),
            (
              (λ e. elim (due.write e) [
                | inl served ↦ elim served.1 [ inl refused ↦ not-it Nothing refused.3 only.nothing | inr taken ↦ not-it (Applies _ _ _) taken.3 (only.applies _ _ _) ]
                | inr stray ↦ not-it Nothing stray.3 only.nothing
              ]),
              (
                (λ e. not-it Nothing (due.search e).1 only.nothing),
                (
                  (λ e. not-it (action.Switches false) (due.off e).1 (only.switches false)),
                  (
                    (λ e. not-it (action.Switches true) (due.on e).1 (only.switches true)),
                    (
                      (λ e. not-it (action.Clears m.p1) (due.clear e).1 (only.clears m.p1)),
                      (
                        (λ e. elim (due.read e) [ inl served ↦ not-it Nothing served.1 only.nothing | inr stray ↦ not-it Nothing stray.3 only.nothing ]),
                        (
                          (λ e. elim (due.create e) [ inl made ↦ inr (e, made) | inr none ↦ not-it Nothing none.does only.nothing ]),
                          (
                            (λ e. elim (due.put e) [
                              | inl served ↦ elim served.1 [
                                | inl refused ↦ not-it Nothing refused.3 only.nothing
                                | inr taken ↦ not-it (cond (must_wait k m served.0) (action.Waits _ _) (Applies _ _ _)) taken.3 (put-not (must_wait k m served.0) _ _ _)
                              ]
                              | inr stray ↦ not-it Nothing stray.3 only.nothing
                            ]),
                            (
                              (λ e. not-it (named k _) (due.user e).1 (names-not k.settled _)),
                              ((λ e. not-it (named k _) (due.host e).1 (names-not k.settled _)), ((λ e. not-it Nothing (due.echo e).1 only.nothing), tt)),
                            ),
                          ),
                        ),
                      ),
                    ),
                  ),
                ),
              ),
            ),
          ),
        ),
      )) refl
    ]
  where
    Result : Type 0
    Result = ((m.command ≡ command_number command.EventAdd) × BeginsBy k m replies did) ⊎ ((m.command ≡ command_number command.CreateChannel) × IsCreated k m replies did)

    When : ℕ → Type 0
    When n = m.command ≡ n → Result

    not-it : (a : Action) → did ≡ a → (Fact a → ⊥) → Result
    not-it a is none = absurd (none (subst (λ (x : Action). Fact x) is fact))

    put-not : (b : Bool) (name : List ℕ) (value : Elements) (busies : Bool) → Fact (cond b (action.Waits name value) (Applies name value busies)) → ⊥
    put-not true name value busies h = only.waits name value h
    put-not false name value busies h = only.applies name value busies h

    names-not : (b : Bool) (p : Peer) → Fact (cond b Nothing (Names p)) → ⊥
    names-not true p h = only.nothing h
    names-not false p h = only.names p h

-- ---- a subscription begins, or a channel is created

abbrev IsAdding : Action → Type 0
IsAdding (Adds x) = Unit {0}
IsAdding a = ⊥

abbrev IsOpening : Action → Type 0
IsOpening (action.Opens x) = Unit {0}
IsOpening a = ⊥

adding-only : OfBeginning IsAdding
adding-only = record { nothing = λ h. h; greets = λ h. h; names = λ p h. h; clears = λ s h. h; applies = λ n v b h. h; waits = λ n v h. h; drops = λ k h. h; switches = λ b h. h }

opening-only : OfBeginning IsOpening
opening-only = record { nothing = λ h. h; greets = λ h. h; names = λ p h. h; clears = λ s h. h; applies = λ n v b h. h; waits = λ n v h. h; drops = λ k h. h; switches = λ b h. h }

pub due-adds : (k : Knows) (m : Fields) (replies : List Fields) (s : Subscription) → Due k m replies (Adds s) → (m.command ≡ command_number command.EventAdd) × BeginsBy k m replies (Adds s)
due-adds k m replies s due = elim (due-begins k m replies (Adds s) IsAdding adding-only due tt) [
  | inl begins ↦ begins
  | inr made ↦ absurd (subst (λ (a : Action). IsAdding a) made.1.does tt)
]

pub due-opens : (k : Knows) (m : Fields) (replies : List Fields) (c : KnownChannel) → Due k m replies (action.Opens c) → (m.command ≡ command_number command.CreateChannel) × IsCreated k m replies (action.Opens c)
due-opens k m replies c due = elim (due-begins k m replies (action.Opens c) IsOpening opening-only due tt) [
  | inl begins ↦ absurd (subst (λ (a : Action). IsOpening a) begins.1.3 tt)
  | inr made ↦ made
]

same-sub : (s t : Subscription) → Adds s ≡ Adds t → s ≡ t
same-sub s t is = cc

-- the subscription that begins is that of its EVENT_ADD
pub added-is : (k : Knows) (m : Fields) (replies : List Fields) (s : Subscription) → Due k m replies (Adds s) → (name : List ℕ) × (s ≡ subscription_in m name)
added-is k m replies s due = (let b = due-adds k m replies s due in (b.1.0.channel.name, same-sub s (subscription_in m b.1.0.channel.name) b.1.3))

pub adds-fresh : (k : Knows) (m : Fields) (replies : List Fields) (s : Subscription) → Due k m replies (Adds s) → is_among (key_of s) k.keys ≡ false
adds-fresh k m replies s due =
    let b = due-adds k m replies s due in
    let c : Serves k m.p1 = b.1.0 in
    subst (λ (x : Subscription). is_among (key_of x) k.keys ≡ false) (sym (same-sub s (subscription_in m c.channel.name) b.1.3))
    (refused-in-use c.known.state (rights_at k c.channel.name) (length k.keys) (is_among (key_in m) k.keys) m (image_type_of m.data_type) b.1.1)
