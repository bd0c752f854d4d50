-- What is due for a message: it is quiet, or it creates a channel, clears one, adds a
-- subscription or drops one.
use Rattle.std.proofs.Common.{◌≡◌, ℕ, zero, suc, inl, inr, Bool, true, false, ◌||◌, cond, eqb, List, [], ◌∷◌, refl, sym, ap, ◌∙◌, subst, arith}
use Rattle.std.specs.Prelude.{is_some}
use Rattle.std.proofs.lemmas.Bool.{both_ways}
use Rattle.ca_text.specs.declared.command.Command.TheVariants as command
use Rattle.ca_text.specs.Status.{bad_channel, normal}
use Rattle.ca_text.specs.Place.{At}
use Rattle.ca_text.proofs.Places.{some_is}
use Rattle.ca_wire.specs.Fields.{Fields}
use Rattle.ca_wire.specs.Messages.{header_only, cancel_reply, cleared_reply, error_reply, failed_reply, not_found_reply, search_reply, status_reply, text_in, version_reply}
use Rattle.ca_model.specs.Due.{Action, Due, IsCreated, Knows, Serves, is_known, key_in, must_wait, subscription_in}
use Rattle.ca_model.specs.Due as action
use Rattle.ca_model.specs.Ends.{Peer}
use Rattle.ca_laws_parts.proofs.Doing.{any-of, commands, each-at, known-or}

-- a CREATE_CHAN, an EVENT_ADD or a SERVER_DISCONN
abbrev pub marks : ℕ → Bool
marks n = eqb n 18 || (eqb n 1 || eqb n 27)

-- None of these messages is one.
abbrev pub AreMute : List Fields → Type 0
AreMute ms = (q : ℕ) (m : Fields) → At ms q m → marks m.command ≡ false

-- It leaves channels and subscriptions as they are.
abbrev pub IsCalm : Action → Type 0
IsCalm (action.Opens c) = ⊥
IsCalm (action.Clears sid) = ⊥
IsCalm (action.Adds s) = ⊥
IsCalm (action.Drops key) = ⊥
IsCalm did = Unit {0}

pub data Deals (k : Knows) (m : Fields) (replies : List Fields) (did : Action) : Type 0 where
  Calm : AreMute replies → IsCalm did → (m.command ≡ 12 → ⊥) → (m.command ≡ 2 → ⊥) → Deals k m replies did
  Creates : IsCreated k m replies did → m.command ≡ 18 → Deals k m replies did
  Clears : m.command ≡ 12 → replies ≡ cleared_reply m ∷ [] → did ≡ action.Clears m.p1 → Deals k m replies did
  Adds : m.command ≡ 1 → (c : Serves k m.p1) → replies ≡ [] → did ≡ action.Adds (subscription_in m c.channel.name) → Deals k m replies did
  Drops : m.command ≡ 2 → replies ≡ cancel_reply m ∷ [] → did ≡ action.Drops (key_in m) → Deals k m replies did

pub none-mute : AreMute []
none-mute q m at = absurd (none q m at)
  where
    none : (q : ℕ) (m : Fields) → At [] q m → ⊥
    none q m at = cc

pub one-mute : (r : Fields) → marks r.command ≡ false → AreMute (r ∷ [])
one-mute r is zero m at = ap (λ (z : Fields). marks z.command) (sym (some_is r m at)) ∙ is
one-mute r is (suc q) m at = absurd (none q m at)
  where
    none : (q : ℕ) (m : Fields) → At [] q m → ⊥
    none q m at = cc

mute-is : (ms rs : List Fields) → ms ≡ rs → AreMute rs → AreMute ms
mute-is ms rs is mute = subst (λ (l : List Fields). AreMute l) (sym is) mute

calm-is : (a b : Action) → a ≡ b → IsCalm b → IsCalm a
calm-is a b is calm = subst (λ (x : Action). IsCalm x) (sym is) calm

module _ (k : Knows) (m : Fields) (replies : List Fields) (did : Action) (due : Due k m replies did) where
  -- a message of this command is quiet
  quiet : (n : ℕ) → m.command ≡ n → (n ≡ 12 → ⊥) → (n ≡ 2 → ⊥) → (rs : List Fields) → replies ≡ rs → AreMute rs → (a : Action) → did ≡ a → IsCalm a → Deals k m replies did
  quiet n e no_clear no_stop rs are mute a is calm = Calm (mute-is replies rs are mute) (calm-is did a is calm) (λ c. no_clear (sym e ∙ c)) (λ c. no_stop (sym e ∙ c))

  maybe : (b : Bool) (r : Fields) → marks r.command ≡ false → AreMute (cond b [] (r ∷ []))
  maybe true r is = none-mute
  maybe false r is = one-mute r is

  searched : (a b : Bool) → AreMute (cond a (search_reply k.port m ∷ []) (cond b (not_found_reply m ∷ []) []))
  searched true b = one-mute (search_reply k.port m) refl
  searched false true = one-mute (not_found_reply m) refl
  searched false false = none-mute

  names : (b : Bool) (p : Peer) → IsCalm (cond b action.Nothing (action.Names p))
  names true p = tt
  names false p = tt

  puts : (a b : Bool) (name : _) (value : _) → IsCalm (cond a (action.Waits name value) (action.Applies name value b))
  puts true b name value = tt
  puts false b name value = tt

  same-command : (n : ℕ) → m.command ≡ n → marks n ≡ false → marks m.command ≡ false
  same-command n e is = ap marks e ∙ is

  abbrev When : ℕ → Type 0
  When n = m.command ≡ n → Deals k m replies did

  unknown : is_known m.command ≡ false → Deals k m replies did
  unknown other =
      Calm (mute-is replies [] (due.other other).0 none-mute) (calm-is did action.Nothing (due.other other).1 tt)
      (λ e. both other (ap is_known e)) (λ e. both other (ap is_known e))
    where
      both : {b : Bool} → b ≡ false → b ≡ true → ⊥
      both {b} f t = both_ways b f t

  pub deal : Deals k m replies did
  deal = elim (known-or (is_known m.command)) [
    | inr other ↦ unknown other
    | inl known ↦ any-of m.command commands known When (each-at When commands (
      (λ e. quiet 0 e (λ n. omega (arith, n)) (λ n. omega (arith, n)) _ (due.version e).0 (maybe k.greeted version_reply refl) action.Greets (due.version e).1 tt),
      (
        (λ e. elim (due.subscribe e) [
          | inl served ↦ elim served.1 [
            | inl refused ↦ quiet 1 e (λ n. omega (arith, n)) (λ n. omega (arith, n)) _ refused.2 (one-mute (error_reply served.0.channel.cid refused.0 m) refl) action.Nothing refused.3 tt
            | inr added ↦ Adds e served.0 added.1 added.2
          ]
          | inr stray ↦ quiet 1 e (λ n. omega (arith, n)) (λ n. omega (arith, n)) _ stray.2 (one-mute (error_reply stray.0 bad_channel m) refl) action.Nothing stray.3 tt
        ]),
        (
          (λ e. Drops e (due.cancel e).0 (due.cancel e).1),
          (
            (λ e. elim (due.write e) [
              | inl served ↦ elim served.1 [
                | inl refused ↦ quiet 4 e (λ n. omega (arith, n)) (λ n. omega (arith, n)) _ refused.2 (one-mute (error_reply served.0.channel.cid refused.0 m) refl) action.Nothing refused.3 tt
                | inr taken ↦ quiet 4 e (λ n. omega (arith, n)) (λ n. omega (arith, n)) [] taken.2 none-mute _ taken.3 tt
              ]
              | inr stray ↦ quiet 4 e (λ n. omega (arith, n)) (λ n. omega (arith, n)) _ stray.2 (one-mute (error_reply stray.0 bad_channel m) refl) action.Nothing stray.3 tt
            ]),
            (
              (λ e. quiet 6 e (λ n. omega (arith, n)) (λ n. omega (arith, n)) _ (due.search e).0 (searched (is_some (k.record_of (text_in m.payload))) (eqb m.data_type 10)) action.Nothing (due.search e).1 tt),
              (
                (λ e. quiet 8 e (λ n. omega (arith, n)) (λ n. omega (arith, n)) [] (due.off e).0 none-mute _ (due.off e).1 tt),
                (
                  (λ e. quiet 9 e (λ n. omega (arith, n)) (λ n. omega (arith, n)) [] (due.on e).0 none-mute _ (due.on e).1 tt),
                  (
                    (λ e. Clears e (due.clear e).0 (due.clear e).1),
                    (
                      (λ e. elim (due.read e) [
                        | inl served ↦ elim served.2 [
                          | inl fault ↦ quiet 15 e (λ n. omega (arith, n)) (λ n. omega (arith, n)) _ fault.2 (one-mute (status_reply m fault.0) (same-command 15 e refl)) action.Nothing served.1 tt
                          | inr shown ↦ quiet 15 e (λ n. omega (arith, n)) (λ n. omega (arith, n)) _ shown.1.4 (one-mute _ (same-command 15 e refl)) action.Nothing served.1 tt
                        ]
                        | inr stray ↦ quiet 15 e (λ n. omega (arith, n)) (λ n. omega (arith, n)) _ stray.2 (one-mute (status_reply m bad_channel) (same-command 15 e refl)) action.Nothing stray.3 tt
                      ]),
                      (
                        (λ e. elim (due.create e) [
                          | inl made ↦ Creates made e
                          | inr not ↦ quiet 18 e (λ n. omega (arith, n)) (λ n. omega (arith, n)) _ not.are (one-mute (failed_reply m) refl) action.Nothing not.does tt
                        ]),
                        (
                          (λ e. elim (due.put e) [
                            | inl served ↦ elim served.1 [
                              | inl refused ↦ quiet 19 e (λ n. omega (arith, n)) (λ n. omega (arith, n)) _ refused.2 (one-mute (status_reply m refused.0) (same-command 19 e refl)) action.Nothing refused.3 tt
                              | inr taken ↦
                                  quiet 19 e (λ n. omega (arith, n)) (λ n. omega (arith, n)) _ taken.2 (maybe served.0.known.state.slow (status_reply m normal) (same-command 19 e refl)) _ taken.3
                                  (puts (must_wait k m served.0) served.0.known.state.slow served.0.channel.name taken.0)
                            ]
                            | inr stray ↦ quiet 19 e (λ n. omega (arith, n)) (λ n. omega (arith, n)) _ stray.2 (one-mute (status_reply m bad_channel) (same-command 19 e refl)) action.Nothing stray.3 tt
                          ]),
                          (
                            (λ e. quiet 20 e (λ n. omega (arith, n)) (λ n. omega (arith, n)) [] (due.user e).0 none-mute _ (due.user e).1 (names k.settled _)),
                            (
                              (λ e. quiet 21 e (λ n. omega (arith, n)) (λ n. omega (arith, n)) [] (due.host e).0 none-mute _ (due.host e).1 (names k.settled _)),
                              (
                                (λ e. quiet 23 e (λ n. omega (arith, n)) (λ n. omega (arith, n)) _ (due.echo e).0 (one-mute (header_only command.Echo) refl) action.Nothing (due.echo e).1 tt),
                                tt,
                              ),
                            ),
                          ),
                        ),
                      ),
                    ),
                  ),
                ),
              ),
            ),
          ),
        ),
      ),
    )) refl
  ]
