-- What a message makes of what a server knows of its peer, by what is due for it; and which message
-- is answered by a creation.
use Rattle.std.proofs.Common.{◌≡◌, ℕ, zero, suc, Bool, true, false, cond, ◌||◌, eqb, eq-eqb, inl, inr, List, [], ◌∷◌, refl, sym, ap, subst, ◌∙◌}
use Rattle.std.proofs.lemmas.Bool.{both_ways}
use Rattle.std.specs.Prelude.{is_some}
use Rattle.ca_dbr.specs.Elements.{Elements, base_of}
use Rattle.ca_dbr.specs.Types.{base_number}
use Rattle.ca_text.specs.declared.command.Command.TheVariants as command
use Rattle.ca_text.specs.Place.{At}
use Rattle.ca_text.specs.Status.{normal}
use Rattle.ca_text.proofs.Places.{some_is}
use Rattle.ca_wire.specs.Fields.{Fields}
use Rattle.ca_wire.specs.Messages.{header_only, cancel_reply, cleared_reply, created_reply, error_reply, failed_reply, not_found_reply, search_reply, status_reply, text_in, version_reply}
use Rattle.ca_model.specs.Due.{Action, Adds, Applies, Clears, Drops, Due, KnownChannel, Knows, Names, Nothing, Opens, Switches, is_known, must_wait, named}
use Rattle.ca_model.specs.Due as action
use Rattle.ca_model.specs.Speech.{In, Is}
use Rattle.ca_laws_parts.proofs.Doing.{any-of, commands, each-at, known-or}
use Rattle.ca_laws_parts.proofs.WritesLists.{none_at}

-- a number is not two
pub apart : (a b n : ℕ) → eqb a b ≡ false → n ≡ a → n ≡ b → ⊥
apart a b n none is other = both_ways (eqb a b) none (eq-eqb a b (sym is ∙ other))

-- VERSION, CLIENT_NAME and HOST_NAME
abbrev is_face : ℕ → Bool
is_face n = eqb n 0 || (eqb n 20 || eqb n 21)

-- none of these replies creates a channel
abbrev pub CreateNone : List Fields → Type 0
CreateNone replies = (r : Fields) → In replies r → Is command.CreateChannel r → ⊥

-- one of them does
abbrev pub CreateOne : List Fields → Type 0
CreateOne replies = (r : Fields) × In replies r × Is command.CreateChannel r

-- an action that leaves what is known of the peer
abbrev pub IsPlain : Action → Type 0
IsPlain action.Greets = ⊥
IsPlain (Names p) = ⊥
IsPlain (Opens c) = ⊥
IsPlain did = Unit {0}

-- A message greets, or names the peer, or creates a channel, or does none of these.
pub data Facing (k : Knows) (m : Fields) (replies : List Fields) (did : Action) : Type 0 where
  Greeting : Is command.Version m → did ≡ action.Greets → CreateNone replies → Facing k m replies did
  Naming : Is command.ClientName m → did ≡ named k (record k.peer { user = text_in m.payload }) → CreateNone replies → Facing k m replies did
  Hosting : Is command.HostName m → did ≡ named k (record k.peer { host = text_in m.payload }) → CreateNone replies → Facing k m replies did
  Opening : Is command.CreateChannel m → (c : KnownChannel) → did ≡ Opens c → CreateOne replies → Facing k m replies did
  Resting : (Is command.Version m → ⊥) → (Is command.ClientName m → ⊥) → (Is command.HostName m → ⊥) → IsPlain did → CreateNone replies → Facing k m replies did

module _ (k : Knows) (m : Fields) (replies : List Fields) (did : Action) (due : Due k m replies did) where
  none : replies ≡ [] → CreateNone replies
  none is r there creates = none_at there.0 r (subst (λ (l : List Fields). At l there.0 r) is there.1)

  one : (q : Fields) (a : ℕ) → replies ≡ q ∷ [] → q.command ≡ a → eqb a 18 ≡ false → CreateNone replies
  one q a is number other r there creates = at there.0 (subst (λ (l : List Fields). At l there.0 r) is there.1)
    where
      at : (i : ℕ) → At (q ∷ []) i r → ⊥
      at zero at_r = apart a 18 r.command other (ap (λ (x : Fields). x.command) (sym (some_is q r at_r)) ∙ number) creates
      at (suc i) at_r = none_at i r at_r

  maybe : (b : Bool) (q : Fields) (a : ℕ) → replies ≡ cond b [] (q ∷ []) → q.command ≡ a → eqb a 18 ≡ false → CreateNone replies
  maybe true q a is number other = none is
  maybe false q a is number other = one q a is number other

  searched : (b c : Bool) (q r : Fields) → replies ≡ cond b (q ∷ []) (cond c (r ∷ []) []) → q.command ≡ 6 → r.command ≡ 14 → CreateNone replies
  searched true c q r is first second = one q 6 is first refl
  searched false true q r is first second = one r 14 is second refl
  searched false false q r is first second = none is

  plain-as : (a : Action) → did ≡ a → IsPlain a → IsPlain did
  plain-as a is plain = subst (λ (x : Action). IsPlain x) (sym is) plain

  put-plain : (b : Bool) (name : List ℕ) (value : Elements) (busies : Bool) → IsPlain (cond b (action.Waits name value) (Applies name value busies))
  put-plain true name value busies = tt
  put-plain false name value busies = tt

  -- a message with this command is neither of the three
  rests : (n : ℕ) → m.command ≡ n → is_face n ≡ false → (a : Action) → did ≡ a → IsPlain a → CreateNone replies → Facing k m replies did
  rests n is other act does plain quiet =
      Resting (λ e. both_ways (is_face n) other (ap is_face (sym is ∙ e))) (λ e. both_ways (is_face n) other (ap is_face (sym is ∙ e))) (λ e. both_ways (is_face n) other (ap is_face (sym is ∙ e))) (plain-as act does plain) quiet

  abbrev When : ℕ → Type 0
  When n = m.command ≡ n → Facing k m replies did

  unknown : is_known m.command ≡ false → (n : ℕ) → is_known n ≡ true → m.command ≡ n → ⊥
  unknown other n known is = both_ways (is_known m.command) other (ap is_known is ∙ known)

  pub facing : Facing k m replies did
  facing = elim (known-or (is_known m.command)) [
    | inr other ↦ Resting (unknown other 0 refl) (unknown other 20 refl) (unknown other 21 refl) (plain-as Nothing (due.other other).1 tt) (none (due.other other).0)
    | inl known ↦ any-of m.command commands known When (each-at When commands (
      (λ e. Greeting e (due.version e).1 (maybe k.greeted version_reply 0 (due.version e).0 refl refl)),
      (
        (λ e. elim (due.subscribe e) [
          | inl served ↦ elim served.1 [
            | inl refused ↦ rests 1 e refl Nothing refused.3 tt (one (error_reply served.0.channel.cid refused.0 m) 11 refused.2 refl refl)
            | inr added ↦ rests 1 e refl (Adds _) added.2 tt (none added.1)
          ]
          | inr stray ↦ rests 1 e refl Nothing stray.3 tt (one (error_reply stray.0 _ m) 11 stray.2 refl refl)
        ]),
        (
          (λ e. rests 2 e refl (Drops _) (due.cancel e).1 tt (one (cancel_reply m) 1 (due.cancel e).0 refl refl)),
          (
            (λ e. elim (due.write e) [
              | inl served ↦ elim served.1 [
                | inl refused ↦ rests 4 e refl Nothing refused.3 tt (one (error_reply served.0.channel.cid refused.0 m) 11 refused.2 refl refl)
                | inr taken ↦ rests 4 e refl (Applies _ _ _) taken.3 tt (none taken.2)
              ]
              | inr stray ↦ rests 4 e refl Nothing stray.3 tt (one (error_reply stray.0 _ m) 11 stray.2 refl refl)
            ]),
            (
              (λ e. rests 6 e refl Nothing (due.search e).1 tt (searched (is_some (k.record_of (text_in m.payload))) _ (search_reply k.port m) (not_found_reply m) (due.search e).0 refl refl)),
              (
                (λ e. rests 8 e refl (Switches false) (due.off e).1 tt (none (due.off e).0)),
                (
                  (λ e. rests 9 e refl (Switches true) (due.on e).1 tt (none (due.on e).0)),
                  (
                    (λ e. rests 12 e refl (Clears m.p1) (due.clear e).1 tt (one (cleared_reply m) 12 (due.clear e).0 refl refl)),
                    (
                      (λ e. elim (due.read e) [
                        | inl served ↦ rests 15 e refl Nothing served.1 tt (elim served.2 [
                          | inl fault ↦ one (status_reply m fault.0) 15 fault.2 e refl
                          | inr shown ↦ one _ 15 shown.1.4 e refl
                        ])
                        | inr stray ↦ rests 15 e refl Nothing stray.3 tt (one (status_reply m _) 15 stray.2 e refl)
                      ]),
                      (
                        (λ e. elim (due.create e) [
                          | inl made ↦
                              let answer : Fields = created_reply m (base_number (base_of made.known.state.value)) made.known.state.count made.sid in
                              Opening e _ made.does (answer, (1, subst (λ (l : List Fields). At l 1 answer) (sym made.are) refl), refl)
                          | inr not ↦ rests 18 e refl Nothing not.does tt (one (failed_reply m) 26 not.are refl refl)
                        ]),
                        (
                          (λ e. elim (due.put e) [
                            | inl served ↦ elim served.1 [
                              | inl refused ↦ rests 19 e refl Nothing refused.3 tt (one (status_reply m refused.0) 19 refused.2 e refl)
                              | inr taken ↦ rests 19 e refl (cond (must_wait k m served.0) (action.Waits _ _) (Applies _ _ _)) taken.3 (put-plain (must_wait k m served.0) _ _ _)
                                  (maybe served.0.known.state.slow (status_reply m normal) 19 taken.2 e refl)
                            ]
                            | inr stray ↦ rests 19 e refl Nothing stray.3 tt (one (status_reply m _) 19 stray.2 e refl)
                          ]),
                          (
                            (λ e. Naming e (due.user e).1 (none (due.user e).0)),
                            (
                              (λ e. Hosting e (due.host e).1 (none (due.host e).0)),
                              ((λ e. rests 23 e refl Nothing (due.echo e).1 tt (one (header_only command.Echo) 23 (due.echo e).0 refl refl)), tt),
                            ),
                          ),
                        ),
                      ),
                    ),
                  ),
                ),
              ),
            ),
          ),
        ),
      ),
    )) refl
  ]
