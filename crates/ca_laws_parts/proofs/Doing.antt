-- What a message that writes does, by what is due for it.
use Rattle.std.proofs.Common.{◌≡◌, ℕ, zero, suc, ◌⊎◌, inl, inr, Bool, true, false, cond, ◌&&◌, ◌||◌, eqb, eq-eqb, eqb-true, List, [], ◌∷◌, Ok, Some, refl, sym, ap, subst, ◌∙◌}
use Rattle.std.specs.List.{list_any}
use Rattle.ca_text.specs.Command.{command_number}
use Rattle.ca_text.specs.declared.command.Command.{Command}
use Rattle.ca_text.specs.declared.command.Command.TheVariants as command
use Rattle.ca_text.specs.Place.{At}
use Rattle.ca_text.proofs.Places.{some_is}
use Rattle.ca_dbr.specs.Elements.{Elements}
use Rattle.ca_model.specs.Due.{Action, Applies, Due, Knows, Names, Nothing, PutDue, WriteDue, is_known, must_wait, named}
use Rattle.ca_model.specs.Due as action
use Rattle.ca_model.specs.Ends.{Peer}
use Rattle.ca_model.specs.Speech.{Is}
use Rattle.ca_wire.specs.Fields.{Fields}
use Rattle.ca_laws_parts.specs.Lives.{IsWrite, IsWriting, WritesTo}

-- ---- every command

or-cases : (a b : Bool) → a || b ≡ true → (a ≡ true) ⊎ (b ≡ true)
or-cases true b e = inl refl
or-cases false b e = inr e

pub any-of : (n : ℕ) (cs : List Command) → list_any (λ (c : Command). eqb n (command_number c)) cs ≡ true → (P : ℕ → Type 0) → ((i : ℕ) (c : Command) → At cs i c → P (command_number c)) → P n
any-of n [] some P each = absurd cc
any-of n (c ∷ cs) some P each = elim (or-cases (eqb n (command_number c)) (list_any (λ (c : Command). eqb n (command_number c)) cs) some) [
  | inl is ↦ subst P (sym (eqb-true n (command_number c) is)) (each 0 c refl)
  | inr later ↦ any-of n cs later P (λ i d at. each (suc i) d at)
]

abbrev pub Each : (ℕ → Type 0) → List Command → Type 0
Each P [] = Unit {0}
Each P (c ∷ cs) = P (command_number c) × Each P cs

pub each-at : (P : ℕ → Type 0) (cs : List Command) → Each P cs → (i : ℕ) (c : Command) → At cs i c → P (command_number c)
each-at P [] each i c at = absurd cc
each-at P (d ∷ cs) each zero c at = subst (λ (x : Command). P (command_number x)) (some_is d c at) each.0
each-at P (d ∷ cs) each (suc i) c at = each-at P cs each.1 i c at

abbrev pub commands : List Command
commands =
    command.Version ∷ command.EventAdd ∷ command.EventCancel ∷ command.Write ∷ command.Search ∷ command.EventsOff ∷ command.EventsOn ∷ command.ClearChannel
    ∷ command.ReadNotify ∷ command.CreateChannel ∷ command.WriteNotify ∷ command.ClientName ∷ command.HostName ∷ command.Echo ∷ []

pub known-or : (b : Bool) → (b ≡ true) ⊎ (b ≡ false)
known-or true = inl refl
known-or false = inr refl

-- An action that writes is that of a message that writes.
pub writes-only : (k : Knows) (m : Fields) (replies : List Fields) (did : Action) → Due k m replies did → IsWrite did → IsWriting m
writes-only k m replies did due writes =
    elim (known-or (is_known m.command)) [
      | inr other ↦ not-it Nothing (due.other other).1 (λ h. h)
      | inl known ↦ any-of m.command commands known When (each-at When commands (
        (λ e. not-it action.Greets (due.version e).1 (λ h. h)),
        (
          (λ e. elim (due.subscribe e) [
            | inl served ↦ elim served.1 [ inl refused ↦ not-it Nothing refused.3 (λ h. h) | inr added ↦ not-it (action.Adds _) added.2 (λ h. h) ]
            | inr stray ↦ not-it Nothing stray.3 (λ h. h)
          ]),
          (
            (λ e. not-it (action.Drops _) (due.cancel e).1 (λ h. h)),
            (
              (λ e. inl e),
              (
                (λ e. not-it Nothing (due.search e).1 (λ h. h)),
                (
                  (λ e. not-it (action.Switches false) (due.off e).1 (λ h. h)),
                  (
                    (λ e. not-it (action.Switches true) (due.on e).1 (λ h. h)),
                    (
                      (λ e. not-it (action.Clears m.p1) (due.clear e).1 (λ h. h)),
                      (
                        (λ e. elim (due.read e) [ inl served ↦ not-it Nothing served.1 (λ h. h) | inr stray ↦ not-it Nothing stray.3 (λ h. h) ]),
                        (
                          (λ e. elim (due.create e) [ inl made ↦ not-it (action.Opens _) made.does (λ h. h) | inr not ↦ not-it Nothing not.does (λ h. h) ]),
                          (
                            (λ e. inr e),
                            (
                              (λ e. not-it (named k _) (due.user e).1 (names-not k.settled _)),
                              ((λ e. not-it (named k _) (due.host e).1 (names-not k.settled _)), ((λ e. not-it Nothing (due.echo e).1 (λ h. h)), tt)),
                            ),
                          ),
                        ),
                      ),
                    ),
                  ),
                ),
              ),
            ),
          ),
        ),
      )) refl
    ]
  where
    When : ℕ → Type 0
    When n = m.command ≡ n → IsWriting m

    not-it : (a : Action) → did ≡ a → (IsWrite a → ⊥) → IsWriting m
    not-it a is none = absurd (none (subst (λ (x : Action). IsWrite x) is writes))

    names-not : (b : Bool) (p : Peer) → IsWrite (cond b Nothing (Names p)) → ⊥
    names-not true p h = h
    names-not false p h = h

-- A channel is cleared by its CLEAR_CHANNEL.
pub clears-only : (k : Knows) (m : Fields) (replies : List Fields) (sid : ℕ) → Due k m replies (action.Clears sid) → Is command.ClearChannel m × (sid ≡ m.p1)
clears-only k m replies sid due =
    elim (known-or (is_known m.command)) [
      | inr other ↦ not-it Nothing (due.other other).1 (λ h. h)
      | inl known ↦ any-of m.command commands known When (each-at When commands (
        (λ e. not-it action.Greets (due.version e).1 (λ h. h)),
        (
          (λ e. elim (due.subscribe e) [
            | inl served ↦ elim served.1 [ inl refused ↦ not-it Nothing refused.3 (λ h. h) | inr added ↦ not-it (action.Adds _) added.2 (λ h. h) ]
            | inr stray ↦ not-it Nothing stray.3 (λ h. h)
          ]),
          (
            (λ e. not-it (action.Drops _) (due.cancel e).1 (λ h. h)),
            (
              (λ e. elim (due.write e) [
                | inl served ↦ elim served.1 [ inl refused ↦ not-it Nothing refused.3 (λ h. h) | inr taken ↦ not-it (Applies _ _ _) taken.3 (λ h. h) ]
                | inr stray ↦ not-it Nothing stray.3 (λ h. h)
              ]),
              (
                (λ e. not-it Nothing (due.search e).1 (λ h. h)),
                (
                  (λ e. not-it (action.Switches false) (due.off e).1 (λ h. h)),
                  (
                    (λ e. not-it (action.Switches true) (due.on e).1 (λ h. h)),
                    (
                      (λ e. (e, same-sid (due.clear e).1)),
                      (
                        (λ e. elim (due.read e) [ inl served ↦ not-it Nothing served.1 (λ h. h) | inr stray ↦ not-it Nothing stray.3 (λ h. h) ]),
                        (
                          (λ e. elim (due.create e) [ inl made ↦ not-it (action.Opens _) made.does (λ h. h) | inr not ↦ not-it Nothing not.does (λ h. h) ]),
                          (
                            (λ e. elim (due.put e) [
                              | inl served ↦ elim served.1 [ inl refused ↦ not-it Nothing refused.3 (λ h. h) | inr taken ↦ not-it (cond (must_wait k m served.0) (action.Waits _ _) (Applies _ _ _)) taken.3 (put-not (must_wait k m served.0) _ _ _) ]
                              | inr stray ↦ not-it Nothing stray.3 (λ h. h)
                            ]),
                            (
                              (λ e. not-it (named k _) (due.user e).1 (names-not k.settled _)),
                              ((λ e. not-it (named k _) (due.host e).1 (names-not k.settled _)), ((λ e. not-it Nothing (due.echo e).1 (λ h. h)), tt)),
                            ),
                          ),
                        ),
                      ),
                    ),
                  ),
                ),
              ),
            ),
          ),
        ),
      )) refl
    ]
  where
    When : ℕ → Type 0
    When n = m.command ≡ n → Is command.ClearChannel m × (sid ≡ m.p1)

    IsClear : Action → Type 0
    IsClear (action.Clears x) = Unit {0}
    IsClear a = ⊥

    not-it : (a : Action) → action.Clears sid ≡ a → (IsClear a → ⊥) → Is command.ClearChannel m × (sid ≡ m.p1)
    not-it a is none = absurd (none (subst (λ (x : Action). IsClear x) is tt))

    same-sid : action.Clears sid ≡ action.Clears m.p1 → sid ≡ m.p1
    same-sid is = cc

    put-not : (b : Bool) (name : List ℕ) (value : Elements) (busies : Bool) → IsClear (cond b (action.Waits name value) (Applies name value busies)) → ⊥
    put-not true name value busies h = h
    put-not false name value busies h = h

    names-not : (b : Bool) (p : Peer) → IsClear (cond b Nothing (Names p)) → ⊥
    names-not true p h = h
    names-not false p h = h

and-true : (a b : Bool) → a ≡ true → a && b ≡ false → b ≡ false
and-true true b e h = h
and-true false b e h = absurd cc

-- A write that is applied is that of its message; if it makes its record busy, the message is a
-- put, and the record is slow and idle.
pub due-applies : (k : Knows) (m : Fields) (replies : List Fields) (name : List ℕ) (value : Elements) (busies : Bool) → Due k m replies (Applies name value busies) → (to : WritesTo k m name value) × (busies ≡ true → Is command.WriteNotify m × (to.known.state.slow ≡ true) × (to.known.busy ≡ false))
due-applies k m replies name value busies due = elim (writes-only k m replies (Applies name value busies) due tt) [
  | inl is ↦ elim (due.write is) [ inl served ↦ wrote served | inr stray ↦ absurd (let x : Applies name value busies ≡ Nothing = stray.3 in cc) ]
  | inr is ↦ elim (due.put is) [ inl served ↦ put is served | inr stray ↦ absurd (let x : Applies name value busies ≡ Nothing = stray.3 in cc) ]
]
  where
    Says : Type 0
    Says = (to : WritesTo k m name value) × (busies ≡ true → Is command.WriteNotify m × (to.known.state.slow ≡ true) × (to.known.busy ≡ false))

    wrote : WriteDue k m replies (Applies name value busies) → Says
    wrote (c, inl refused) = absurd (let x : Applies name value busies ≡ Nothing = refused.3 in cc)
    wrote (c, inr taken) =
        let x : Applies name value busies ≡ Applies c.channel.name taken.0 false = taken.3 in
        let n : c.channel.name ≡ name = cc in
        let v : taken.0 ≡ value = cc in
        let b : busies ≡ false = cc in (
          record {
            known = c.known;
            named = subst (λ (z : List ℕ). k.record_of z ≡ Some c.known) n c.named;
            given = taken.1.elements;
            reads = taken.1.reads;
            is = taken.1.is ∙ ap (λ (e : Elements). Ok e) v;
          },
          λ e. absurd (let f : true ≡ false = sym e ∙ b in cc),
        )

    put : Is command.WriteNotify m → PutDue k m replies (Applies name value busies) → Says
    put is (c, inl refused) = absurd (let x : Applies name value busies ≡ Nothing = refused.3 in cc)
    put is (c, inr taken) = go (must_wait k m c) refl taken.3
      where
        go : (b : Bool) → must_wait k m c ≡ b → Applies name value busies ≡ cond b (action.Waits c.channel.name taken.0) (Applies c.channel.name taken.0 c.known.state.slow) → Says
        go true waits x = absurd cc
        go false waits x =
            let n : c.channel.name ≡ name = cc in
            let v : taken.0 ≡ value = cc in
            let b : busies ≡ c.known.state.slow = cc in (
              record {
                known = c.known;
                named = subst (λ (z : List ℕ). k.record_of z ≡ Some c.known) n c.named;
                given = taken.1.elements;
                reads = taken.1.reads;
                is = taken.1.is ∙ ap (λ (e : Elements). Ok e) v;
              },
              λ e. (is, sym b ∙ e, and-true (eqb m.command 19) c.known.busy (eq-eqb m.command 19 is) waits),
            )

-- A put that waits is that of its message.
pub due-waits : (k : Knows) (m : Fields) (replies : List Fields) (name : List ℕ) (value : Elements) → Due k m replies (action.Waits name value) → WritesTo k m name value × Is command.WriteNotify m
due-waits k m replies name value due = elim (writes-only k m replies (action.Waits name value) due tt) [
  | inl is ↦ elim (due.write is) [ inl served ↦ wrote served | inr stray ↦ absurd (let x : action.Waits name value ≡ Nothing = stray.3 in cc) ]
  | inr is ↦ elim (due.put is) [ inl served ↦ put is served | inr stray ↦ absurd (let x : action.Waits name value ≡ Nothing = stray.3 in cc) ]
]
  where
    wrote : WriteDue k m replies (action.Waits name value) → WritesTo k m name value × Is command.WriteNotify m
    wrote (c, inl refused) = absurd (let x : action.Waits name value ≡ Nothing = refused.3 in cc)
    wrote (c, inr taken) = absurd (let x : action.Waits name value ≡ Applies c.channel.name taken.0 false = taken.3 in cc)

    put : Is command.WriteNotify m → PutDue k m replies (action.Waits name value) → WritesTo k m name value × Is command.WriteNotify m
    put is (c, inl refused) = absurd (let x : action.Waits name value ≡ Nothing = refused.3 in cc)
    put is (c, inr taken) = go (must_wait k m c) taken.3
      where
        go : (b : Bool) → action.Waits name value ≡ cond b (action.Waits c.channel.name taken.0) (Applies c.channel.name taken.0 c.known.state.slow) → WritesTo k m name value × Is command.WriteNotify m
        go false x = absurd cc
        go true x =
            let n : c.channel.name ≡ name = cc in
            let v : taken.0 ≡ value = cc in (
              record {
                known = c.known;
                named = subst (λ (z : List ℕ). k.record_of z ≡ Some c.known) n c.named;
                given = taken.1.elements;
                reads = taken.1.reads;
                is = taken.1.is ∙ ap (λ (e : Elements). Ok e) v;
              },
              is,
            )
