-- A creation may be refused only if no record has its name, its CID is in use, or no SID may be given.
use Rattle.std.proofs.Common.{◌≡◌, ℕ, ◌≤◌, ◌+◌, List, [], ◌∷◌, inl, inr, refl, sym, ap, subst, arith}
use Rattle.std.specs.Prelude.{Option, None}
use Rattle.ca_text.specs.Limits.{last_generation}
use Rattle.ca_text.specs.Place.{At}
use Rattle.ca_text.proofs.Places.{some_is}
use Rattle.ca_wire.specs.Fields.{Fields}
use Rattle.ca_wire.specs.Messages.{failed_reply, text_in}
use Rattle.ca_model.specs.Due.{Action, IsNotCreated, KnownChannel, KnownRecord, Knows}
use Rattle.ca_model.specs.History.{Circuit, Reply, Sent}
use Rattle.ca_model.specs.Updates.{Shows}
use Rattle.ca_model.specs.Channels.{Has, IsReply, before}
use Rattle.ca_model.specs.Headline.{AnswersOwn}
use Rattle.ca_model.specs.Known.{IsChannel, IsDue, IsRecordOf, Knew}
use Rattle.ca_requests.specs.Meaning.{Means}
use Rattle.ca_model_examples.specs.Unsafe.{temp_there}
use Rattle.ca_model_examples.specs.Owed.{UnsafeAsDue, creation_refused, refused_creation}
use Rattle.ca_model_examples.specs.Worlds.{creating, ports, reply, rules, step, temp, temp_name}
use Rattle.ca_model_examples.proofs.Lists.{none-at, one-at}
use Rattle.ca_model_examples.proofs.Owed.{its-own}

-- the circuit as its server knew it
abbrev known : Circuit
known = before creation_refused 0 (step 0 1 1)

no-channel : (c : KnownChannel) → IsChannel known temp_there c → ⊥
no-channel c h = none-at h.0 h.4.0.0 h.4.0.3

has-temp : Has temp_there 0 temp_name
has-temp = (temp, (0, refl), refl, (λ h. (let e = (one-at _ h.0 _ h.1).1 in cc)))

-- the server knew no reason
no-reason : (k : Knows) (m : Fields) (replies : List Fields) (did : Action) → creating.message ≡ m → Knew 5064 [] known temp_there k → IsNotCreated k m replies did → ⊥
no-reason k m replies did is knew not =
    elim not.why [
      | inl none ↦
          (let here : k.record_of temp_name ≡ None = subst (λ (f : Fields). k.record_of (text_in f.payload) ≡ None) (sym is) none in
          let no : IsRecordOf temp_there temp_name None = subst (λ (o : Option KnownRecord). IsRecordOf temp_there temp_name o) here (knew.records temp_name) in
          no 0 has-temp)
      | inr more ↦ elim more [
        | inl taken ↦ no-channel taken.0 (knew.channels.each taken.0 taken.1)
        | inr full ↦ elim (knew.full full 0 (omega arith)) [
          | inl c ↦ no-channel c.0 (knew.channels.each c.0 c.1)
          | inr given ↦ (let g : last_generation ≤ 0 = given in omega (arith, g))
        ]
      ]
    ]

-- its one reply is not two
two-replies : (replies : List Fields) (x y : Fields) → replies ≡ x ∷ y ∷ [] → ((i : ℕ) (m : Fields) → At replies i m → IsReply creation_refused 0 (0 + i) m) → ⊥
two-replies replies x y are now =
    let second : At replies 1 y = subst (λ (l : List Fields). At l 1 y) (sym are) refl in
    let e : 1 ≡ 0 = (one-at (reply 0 (failed_reply creating.message)) 1 (record { message = y; place = 0; cause = Reply }) (now 1 y second)).0 in
    omega (arith, e)

pub never-refused-creation : UnsafeAsDue refused_creation
never-refused-creation s =
    let p = its-own (AnswersOwn (IsDue ports rules) Shows Means) (creation_refused ∷ []) _ temp_there s.own.0 0 creation_refused refl refl refl in
    let a = p.answered 0 (step 0 1 1) refl in
    let is : creating.message ≡ a.s.message = ap (λ (r : Sent). r.message) (some_is creating a.s a.at) in
    let due = a.due in
    elim (due.3.create (ap (λ (m : Fields). m.command) (sym is))) [
      | inl made ↦
          two-replies a.replies _ _ made.are a.now
      | inr not ↦ no-reason due.0 a.s.message a.replies due.1 is due.2 not
    ]
