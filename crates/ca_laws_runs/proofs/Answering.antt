-- Which command each reply answers.
use Rattle.std.proofs.Common.{◌≡◌, ℕ, zero, suc, inl, inr, Bool, true, false, cond, ◌||◌, eqb, List, [], ◌∷◌, refl, sym, ap, subst, ◌∙◌, arith}
use Rattle.std.proofs.lemmas.Bool.{both_ways}
use Rattle.std.specs.Prelude.{is_some}
use Rattle.ca_text.specs.declared.command.Command.TheVariants as command
use Rattle.ca_text.specs.Place.{At}
use Rattle.ca_text.specs.Status.{normal}
use Rattle.ca_text.proofs.Places.{some_is}
use Rattle.ca_wire.specs.Fields.{Fields}
use Rattle.ca_wire.specs.Messages.{header_only, cancel_reply, cleared_reply, error_reply, failed_reply, not_found_reply, search_reply, status_reply, text_in, version_reply}
use Rattle.ca_model.specs.Due.{Action, Due, Knows, is_known}
use Rattle.ca_model.specs.Speech.{In, Is}
use Rattle.ca_laws_parts.proofs.Doing.{any-of, commands, each-at, known-or}
use Rattle.ca_laws_parts.proofs.WritesLists.{none_at}
use Rattle.ca_laws_runs.specs.HeldAnswering.{Answers}

-- one of the commands that answer one of their own, ERROR, or SERVER_DISCONN
abbrev pub is_own : ℕ → Bool
is_own a = eqb a 26 || (eqb a 12 || (eqb a 1 || (eqb a 27 || eqb a 11)))

pub answers-other : (m q : Fields) (a : ℕ) → q.command ≡ a → is_own a ≡ false → Answers m q
answers-other m q a is none = record {
  failed = λ e. absurd (both_ways (is_own a) none (ap is_own (sym is ∙ e)));
  cleared = λ e. absurd (both_ways (is_own a) none (ap is_own (sym is ∙ e)));
  confirms = λ e. absurd (both_ways (is_own a) none (ap is_own (sym is ∙ e)));
  copies = λ e. absurd (both_ways (is_own a) none (ap is_own (sym is ∙ e)));
  refuses = λ e. absurd (both_ways (is_own a) none (ap is_own (sym is ∙ e)));
  never = λ e. absurd (both_ways (is_own a) none (ap is_own (sym is ∙ e)));
}

answers-error : (m : Fields) (cid status : ℕ) → Answers m (error_reply cid status m)
answers-error m cid status = record {
  failed = λ f. absurd (let x : ◌≡◌ {A = ℕ} 11 26 = f in cc);
  cleared = λ f. absurd (let x : ◌≡◌ {A = ℕ} 11 12 = f in cc);
  confirms = λ f. absurd (let x : ◌≡◌ {A = ℕ} 11 1 = f in cc);
  copies = λ f. absurd (let x : ◌≡◌ {A = ℕ} 11 1 = f in cc);
  refuses = λ f. (cid, status, refl);
  never = λ f. absurd (let x : ◌≡◌ {A = ℕ} 11 27 = f in cc);
}

-- each answers its message, and an ERROR is the first
pub due-answer-at : (k : Knows) (m : Fields) (replies : List Fields) (did : Action) → Due k m replies did → (r : Fields) (there : In replies r) → Answers m r × (Is command.Error r → there.0 ≡ 0)
due-answer-at k m replies did due r there =
    elim (known-or (is_known m.command)) [
      | inr other ↦ none (due.other other).0
      | inl known ↦ any-of m.command commands known When (each-at When commands (
        (λ e. maybe k.greeted version_reply (due.version e).0 (answers-other m version_reply 0 refl refl)),
        (
          (λ e. elim (due.subscribe e) [
            | inl served ↦ elim served.1 [ inl refused ↦ one (error_reply served.0.channel.cid refused.0 m) refused.2 (answers-error m _ _) | inr added ↦ none added.1 ]
            | inr stray ↦ one (error_reply stray.0 _ m) stray.2 (answers-error m _ _)
          ]),
          (
            (λ e. one (cancel_reply m) (due.cancel e).0 (cancelled e)),
            (
              (λ e. elim (due.write e) [
                | inl served ↦ elim served.1 [ inl refused ↦ one (error_reply served.0.channel.cid refused.0 m) refused.2 (answers-error m _ _) | inr taken ↦ none taken.2 ]
                | inr stray ↦ one (error_reply stray.0 _ m) stray.2 (answers-error m _ _)
              ]),
              (
                (λ e. searched (is_some (k.record_of (text_in m.payload))) (eqb m.data_type 10) (due.search e).0),
                (
                  (λ e. none (due.off e).0),
                  (
                    (λ e. none (due.on e).0),
                    (
                      (λ e. one (cleared_reply m) (due.clear e).0 (clearing e)),
                      (
                        (λ e. elim (due.read e) [
                          | inl served ↦ elim served.2 [
                            | inl fault ↦ one (status_reply m fault.0) fault.2 (answers-other m _ 15 e refl)
                            | inr shown ↦ one _ shown.1.4 (answers-other m _ 15 e refl)
                          ]
                          | inr stray ↦ one (status_reply m _) stray.2 (answers-other m _ 15 e refl)
                        ]),
                        (
                          (λ e. elim (due.create e) [
                            | inl made ↦ two _ _ made.are (answers-other m _ 22 refl refl) (answers-other m _ 18 refl refl) (λ f. absurd (let x : ◌≡◌ {A = ℕ} 18 11 = f in cc))
                            | inr not ↦ one (failed_reply m) not.are (failing e)
                          ]),
                          (
                            (λ e. elim (due.put e) [
                              | inl served ↦ elim served.1 [
                                | inl refused ↦ one (status_reply m refused.0) refused.2 (answers-other m _ 19 e refl)
                                | inr taken ↦ maybe served.0.known.state.slow (status_reply m normal) taken.2 (answers-other m _ 19 e refl)
                              ]
                              | inr stray ↦ one (status_reply m _) stray.2 (answers-other m _ 19 e refl)
                            ]),
                            (
                              (λ e. none (due.user e).0),
                              ((λ e. none (due.host e).0), ((λ e. one (header_only command.Echo) (due.echo e).0 (answers-other m _ 23 refl refl)), tt)),
                            ),
                          ),
                        ),
                      ),
                    ),
                  ),
                ),
              ),
            ),
          ),
        ),
      )) refl
    ]
  where
    When : ℕ → Type 0
    When n = m.command ≡ n → Answers m r × (Is command.Error r → there.0 ≡ 0)

    none : replies ≡ [] → Answers m r × (Is command.Error r → there.0 ≡ 0)
    none is = absurd (none_at there.0 r (subst (λ (l : List Fields). At l there.0 r) is there.1))

    one : (q : Fields) → replies ≡ q ∷ [] → Answers m q → Answers m r × (Is command.Error r → there.0 ≡ 0)
    one q is answers = go there.0 (subst (λ (l : List Fields). At l there.0 r) is there.1)
      where
        go : (i : ℕ) → At (q ∷ []) i r → Answers m r × (Is command.Error r → i ≡ 0)
        go zero at = (subst (λ (x : Fields). Answers m x) (some_is q r at) answers, λ e. refl)
        go (suc i) at = absurd (none_at i r at)

    two : (p q : Fields) → replies ≡ p ∷ q ∷ [] → Answers m p → Answers m q → (Is command.Error q → ⊥) → Answers m r × (Is command.Error r → there.0 ≡ 0)
    two p q is first second other = go there.0 (subst (λ (l : List Fields). At l there.0 r) is there.1)
      where
        go : (i : ℕ) → At (p ∷ q ∷ []) i r → Answers m r × (Is command.Error r → i ≡ 0)
        go zero at = (subst (λ (x : Fields). Answers m x) (some_is p r at) first, λ e. refl)
        go (suc zero) at = (subst (λ (x : Fields). Answers m x) (some_is q r at) second, λ e. absurd (other (subst (λ (x : Fields). Is command.Error x) (sym (some_is q r at)) e)))
        go (suc (suc i)) at = absurd (none_at i r at)

    maybe : (b : Bool) (q : Fields) → replies ≡ cond b [] (q ∷ []) → Answers m q → Answers m r × (Is command.Error r → there.0 ≡ 0)
    maybe true q is answers = none is
    maybe false q is answers = one q is answers

    searched : (a b : Bool) → replies ≡ cond a (search_reply k.port m ∷ []) (cond b (not_found_reply m ∷ []) []) → Answers m r × (Is command.Error r → there.0 ≡ 0)
    searched true b is = one (search_reply k.port m) is (answers-other m _ 6 refl refl)
    searched false true is = one (not_found_reply m) is (answers-other m _ 14 refl refl)
    searched false false is = none is

    cancelled : m.command ≡ 2 → Answers m (cancel_reply m)
    cancelled e = record { failed = λ f. absurd (let x : ◌≡◌ {A = ℕ} 1 26 = f in cc); cleared = λ f. absurd (let x : ◌≡◌ {A = ℕ} 1 12 = f in cc); confirms = λ f. e; copies = λ f. refl; refuses = λ f. absurd (let x : ◌≡◌ {A = ℕ} 1 11 = f in cc); never = λ f. absurd (let x : ◌≡◌ {A = ℕ} 1 27 = f in cc) }

    clearing : m.command ≡ 12 → Answers m (cleared_reply m)
    clearing e = record { failed = λ f. absurd (let x : ◌≡◌ {A = ℕ} 12 26 = f in cc); cleared = λ f. e; confirms = λ f. absurd (let x : ◌≡◌ {A = ℕ} 12 1 = f in cc); copies = λ f. absurd (let x : ◌≡◌ {A = ℕ} 12 1 = f in cc); refuses = λ f. absurd (let x : ◌≡◌ {A = ℕ} 12 11 = f in cc); never = λ f. absurd (let x : ◌≡◌ {A = ℕ} 12 27 = f in cc) }

    failing : m.command ≡ 18 → Answers m (failed_reply m)
    failing e = record { failed = λ f. e; cleared = λ f. absurd (let x : ◌≡◌ {A = ℕ} 26 12 = f in cc); confirms = λ f. absurd (let x : ◌≡◌ {A = ℕ} 26 1 = f in cc); copies = λ f. absurd (let x : ◌≡◌ {A = ℕ} 26 1 = f in cc); refuses = λ f. absurd (let x : ◌≡◌ {A = ℕ} 26 11 = f in cc); never = λ f. absurd (let x : ◌≡◌ {A = ℕ} 26 27 = f in omega (arith, x)) }

pub due-answer : (k : Knows) (m : Fields) (replies : List Fields) (did : Action) → Due k m replies did → (r : Fields) → In replies r → Answers m r
due-answer k m replies did due r there = (due-answer-at k m replies did due r there).0
