-- What a message does to busy records, by what is due for it.
use Rattle.std.proofs.Common.{◌≡◌, ℕ, zero, suc, ◌⊎◌, inl, inr, Bool, true, false, cond, ◌&&◌, ◌||◌, eqb, eqb-true, List, [], ◌∷◌, refl, sym, subst}
use Rattle.std.specs.List.{list_any}
use Rattle.ca_text.specs.Command.{command_number}
use Rattle.ca_text.specs.declared.command.Command.{Command}
use Rattle.ca_text.specs.declared.command.Command.TheVariants as command
use Rattle.ca_text.specs.Place.{At}
use Rattle.ca_text.proofs.Places.{some_is}
use Rattle.ca_model.specs.Due.{Action, Applies, Due, Knows, Names, Nothing, PutDue, Serves, WriteDue, is_known, must_wait, named}
use Rattle.ca_model.specs.Due as action
use Rattle.ca_model.specs.Ends.{Peer}
use Rattle.ca_model.specs.Speech.{Is}
use Rattle.ca_wire.specs.Fields.{Fields}

-- ---- every command

or-cases : (a b : Bool) → a || b ≡ true → (a ≡ true) ⊎ (b ≡ true)
or-cases true b e = inl refl
or-cases false b e = inr e

any-of : (n : ℕ) (cs : List Command) → list_any (λ (c : Command). eqb n (command_number c)) cs ≡ true → (P : ℕ → Type 0) → ((i : ℕ) (c : Command) → At cs i c → P (command_number c)) → P n
any-of n [] some P each = absurd cc
any-of n (c ∷ cs) some P each = elim (or-cases (eqb n (command_number c)) (list_any (λ (c : Command). eqb n (command_number c)) cs) some) [
  | inl is ↦ subst P (sym (eqb-true n (command_number c) is)) (each 0 c refl)
  | inr later ↦ any-of n cs later P (λ i d at. each (suc i) d at)
]

abbrev Each : (ℕ → Type 0) → List Command → Type 0
Each P [] = Unit {0}
Each P (c ∷ cs) = P (command_number c) × Each P cs

each-at : (P : ℕ → Type 0) (cs : List Command) → Each P cs → (i : ℕ) (c : Command) → At cs i c → P (command_number c)
each-at P [] each i c at = absurd cc
each-at P (d ∷ cs) each zero c at = subst (λ (x : Command). P (command_number x)) (some_is d c at) each.0
each-at P (d ∷ cs) each (suc i) c at = each-at P cs each.1 i c at

abbrev commands : List Command
commands =
    command.Version ∷ command.EventAdd ∷ command.EventCancel ∷ command.Write ∷ command.Search ∷ command.EventsOff ∷ command.EventsOn ∷ command.ClearChannel
    ∷ command.ReadNotify ∷ command.CreateChannel ∷ command.WriteNotify ∷ command.ClientName ∷ command.HostName ∷ command.Echo ∷ []

known-or : (b : Bool) → (b ≡ true) ⊎ (b ≡ false)
known-or true = inl refl
known-or false = inr refl

-- ---- busy records

-- Of the actions that a put with notification alone does: it makes the record of its channel busy,
-- or it waits for one that is busy.
abbrev pub Busies : Knows → Fields → Action → Type 0
Busies k m (Applies name value true) = Is command.WriteNotify m × ((c : Serves k m.p1) × (c.channel.name ≡ name))
Busies k m (action.Waits name value) = (c : Serves k m.p1) × (c.known.busy ≡ true)
Busies k m a = Unit {0}

and-right : (a b : Bool) → a && b ≡ true → b ≡ true
and-right true b e = e
and-right false b e = absurd cc

pub due-busies : (k : Knows) (m : Fields) (replies : List Fields) (did : Action) → Due k m replies did → Busies k m did
due-busies k m replies did due =
    elim (known-or (is_known m.command)) [
      | inr other ↦ by Nothing (due.other other).1 tt
      | inl known ↦ any-of m.command commands known When (each-at When commands (
        (λ e. by action.Greets (due.version e).1 tt),
        (
          (λ e. elim (due.subscribe e) [
            | inl served ↦ elim served.1 [ inl refused ↦ by Nothing refused.3 tt | inr added ↦ by (action.Adds _) added.2 tt ]
            | inr stray ↦ by Nothing stray.3 tt
          ]),
          (
            (λ e. by (action.Drops _) (due.cancel e).1 tt),
            (
              (λ e. elim (due.write e) [
                | inl served ↦ elim served.1 [ inl refused ↦ by Nothing refused.3 tt | inr taken ↦ by (Applies _ _ false) taken.3 tt ]
                | inr stray ↦ by Nothing stray.3 tt
              ]),
              (
                (λ e. by Nothing (due.search e).1 tt),
                (
                  (λ e. by (action.Switches false) (due.off e).1 tt),
                  (
                    (λ e. by (action.Switches true) (due.on e).1 tt),
                    (
                      (λ e. by (action.Clears m.p1) (due.clear e).1 tt),
                      (
                        (λ e. elim (due.read e) [ inl served ↦ by Nothing served.1 tt | inr stray ↦ by Nothing stray.3 tt ]),
                        (
                          (λ e. elim (due.create e) [ inl made ↦ by (action.Opens _) made.does tt | inr none ↦ by Nothing none.does tt ]),
                          (
                            (λ e. elim (due.put e) [ inl served ↦ put e served | inr stray ↦ by Nothing stray.3 tt ]),
                            (
                              (λ e. by (named k _) (due.user e).1 (names k.settled _)),
                              ((λ e. by (named k _) (due.host e).1 (names k.settled _)), ((λ e. by Nothing (due.echo e).1 tt), tt)),
                            ),
                          ),
                        ),
                      ),
                    ),
                  ),
                ),
              ),
            ),
          ),
        ),
      )) refl
    ]
  where
    When : ℕ → Type 0
    When n = m.command ≡ n → Busies k m did

    by : (a : Action) → did ≡ a → Busies k m a → Busies k m did
    by a is h = subst (λ (x : Action). Busies k m x) (sym is) h

    names : (b : Bool) (p : Peer) → Busies k m (cond b Nothing (Names p))
    names true p = tt
    names false p = tt

    put : Is command.WriteNotify m → PutDue k m replies did → Busies k m did
    put is (c, inl refused) = by Nothing refused.3 tt
    put is (c, inr taken) = by (cond (must_wait k m c) (action.Waits c.channel.name taken.0) (Applies c.channel.name taken.0 c.known.state.slow)) taken.3 (go (must_wait k m c) refl c.known.state.slow)
      where
        go : (b : Bool) → must_wait k m c ≡ b → (slow : Bool) → Busies k m (cond b (action.Waits c.channel.name taken.0) (Applies c.channel.name taken.0 slow))
        go true waits slow = (c, and-right (eqb m.command 19) c.known.busy waits)
        go false waits true = (is, (c, refl))
        go false waits false = tt
