-- The used channel: its updates follow its record, and so the whole is safe.
use Rattle.std.proofs.Common.{◌≡◌, ℕ, List, [], ◌∷◌, refl, sym, ap, subst, arith}
use Rattle.std.specs.Prelude.{false, Option, None, take}
use Rattle.ca_text.specs.Place.{At}
use Rattle.ca_dbr.specs.declared.value.Outcome.{Outcome}
use Rattle.ca_dbr.specs.declared.data_type.BaseType.TheVariants as base
use Rattle.ca_dbr.specs.declared.data_type.Form.TheVariants as form
use Rattle.ca_display.specs.declared.image_type.ImageType.TheVariants as any
use Rattle.ca_dbr.specs.Elements as E
use Rattle.ca_wire.specs.Fields.{Fields}
use Rattle.ca_wire.specs.Messages.{mask_in}
use Rattle.ca_model.specs.History.{Intent, On, Subscribe, Cause, Reply, Removal, Update, Circuit, Entry, Line, Sent, Told, Step, Added, Applied, Updated}
use Rattle.ca_model.specs.Channels.{Joins, OfCircuits, OfClients, before, updates}
use Rattle.ca_model.specs.Headline.{ActsOnRecord, AnswersOwn, CompletesOnce, Follows, FollowsRecord, Safe, Sees}
use Rattle.ca_requests.specs.Meaning.{Means}
use Rattle.ca_model.specs.Posts.{matching}
use Rattle.ca_model.specs.Updates.{Shows}
use Rattle.ca_model_examples.specs.Worlds.{adding, created_told, creating, long, put_told, putting, reading, rights_told, step}
use Rattle.ca_model_examples.specs.Safe.{used, used_entries, used_lines, used_world}
use Rattle.ca_model_examples.proofs.Lists.{each-at, at-take, one-at}
use Rattle.ca_model_examples.proofs.UsedActs.{used-acts}
use Rattle.ca_model_examples.proofs.UsedOwn.{update_told, used-answers, value_told}
use Rattle.ca_model_examples.proofs.UsedRest.{used-completes, used-writes}

-- the number of the post of an update
abbrev item : Cause → ℕ
item Reply = 0
item Removal = 0
item (Update a) = a

-- the record of an entry
abbrev added-in : Entry → ℕ
added-in (Added r s) = r
added-in e = 0

its-post : matching used_entries 2 0 (mask_in (adding 0 9).message) ≡ long 22 ∷ []
its-post = refl

-- the only update
update-at : (i a : ℕ) → At (updates used) i (3, Update a) → (i ≡ 4) × (a ≡ 0)
update-at i a at =
    each-at (λ (k : ℕ) (u : ℕ × Cause). u ≡ (3, Update a) → (k ≡ 4) × (a ≡ 0)) (updates used) (
      (λ e. absurd (let f = ap (λ (u : ℕ × Cause). u.0) e in omega (arith, f))),
      (
        (λ e. absurd (let f = ap (λ (u : ℕ × Cause). u.0) e in omega (arith, f))),
        (
          (λ e. absurd (let f = ap (λ (u : ℕ × Cause). u.0) e in omega (arith, f))),
          (
            (λ e. absurd (let f = ap (λ (u : ℕ × Cause). u.0) e in omega (arith, f))),
            (
              (λ e. (refl, ap (λ (u : ℕ × Cause). item u.1) (sym e))),
              tt,
            ),
          ),
        ),
      ),
    ) i _ at refl

update_sent : Told
update_sent = record { message = update_told; place = 3; cause = Update 0 }

told-at : (j a : ℕ) (t : Told) → At used.down j t → t.place ≡ 3 → t.cause ≡ Update a → (t ≡ record { message = update_told; place = 3; cause = Update 0 }) × (a ≡ 0)
told-at j a t at place cause =
    each-at (λ (k : ℕ) (u : Told). u.place ≡ 3 → u.cause ≡ Update a → (u ≡ record { message = update_told; place = 3; cause = Update 0 }) × (a ≡ 0)) used.down (
      (λ p e. absurd (omega (arith, p))),
      (
        (λ p e. absurd (omega (arith, p))),
        (
          (λ p e. absurd (omega (arith, p))),
          (
            (λ p e. absurd (omega (arith, p))),
            (
              (λ p e. (refl, ap item (sym e))),
              tt,
            ),
          ),
        ),
      ),
    ) j t at place cause

shows-22 : Shows (adding 0 9).message (long 22) update_told
unfolding E.signed_bytes_4
shows-22 = (any.Data (record { base = base.Long; form = form.Plain }), refl, refl)

module _
    (Due : ℕ → Circuit → List Entry → Fields → List Fields → Option Fields → List Entry → Type 0) where
  follows : Follows Due Shows Means used used_entries 3 0 (adding 0 9) (long 22 ∷ [])
  follows = record {
    rising = λ i j a b lt p q. (let e = (update-at i a p).0 in let f = (update-at j b q).0 in absurd (omega (arith, e, f, lt)));
    matches = λ a h. (let e = (update-at h.0 a h.1).1 in omega (arith, e));
    shows = λ j a t at place cause. (let e = told-at j a t at place cause in (long 22, subst (λ (k : ℕ). At (long 22 ∷ []) k (long 22)) (sym e.1) refl, subst (λ (u : Told). Shows (adding 0 9).message (long 22) u.message) (sym e.0) shows-22));
    newest = λ lasts. (0, (4, refl), refl);
  }

  pub used-follows : FollowsRecord Due Shows Means 0 used used_lines used_entries
  used-follows k r s h accepted =
      let is : (k ≡ 3) × (s ≡ adding 0 9) = each-at (λ (i : ℕ) (z : Sent). z.intent ≡ On accepted.0 (Subscribe accepted.1) → (i ≡ 3) × (z ≡ adding 0 9)) used.up (
        (λ e. absurd cc),
        ((λ e. absurd cc), ((λ e. absurd cc), ((λ e. (refl, refl)), tt))),
      ) k s accepted.2 accepted.3 in
      let at : At used.handled 3 h = subst (λ (j : ℕ). At used.handled j h) is.0 accepted.4 in
      let at-three : h ≡ step 4 2 2 = each-at (λ (i : ℕ) (g : Step). i ≡ 3 → g ≡ step 4 2 2) used.handled ((λ e. absurd (omega (arith, e))), ((λ e. absurd (omega (arith, e))), ((λ e. absurd (omega (arith, e))), ((λ e. refl), tt)))) 3 h at refl in
      let acted = accepted.5 in
      let has = acted.6.0.9 in
      let here : At used_entries has.1.0 (Added r has.0) = at-take acted.1.logged used_entries has.1.0 _ (at-take acted.6.0.2.logged (take acted.1.logged used_entries) has.1.0 _ has.1.1) in
      let on : r ≡ 0 = each-at (λ (i : ℕ) (e : Entry). e ≡ Added r has.0 → r ≡ 0) used_entries ((λ e. ap added-in (sym e)), ((λ e. absurd cc), tt)) has.1.0 _ here refl in
      subst (λ (j : ℕ). Follows Due Shows Means used used_entries j r s (matching used_entries h.logged r (mask_in s.message))) (sym is.0) (
      subst (λ (z : Sent). Follows Due Shows Means used used_entries 3 r z (matching used_entries h.logged r (mask_in z.message))) (sym is.1) (
      subst (λ (q : ℕ). Follows Due Shows Means used used_entries 3 q (adding 0 9) (matching used_entries h.logged q (mask_in (adding 0 9).message))) (sym on) (
      subst (λ (g : Step). Follows Due Shows Means used used_entries 3 0 (adding 0 9) (matching used_entries g.logged 0 (mask_in (adding 0 9).message))) (sym at-three) follows)))

  no-update-line : (i : ℕ) (intent : Intent) (o : Outcome) → At used_lines i (Updated intent o) → ⊥
  no-update-line i intent o at =
      each-at (λ (k : ℕ) (l : Line). l ≡ Updated intent o → ⊥) used_lines (
        (λ e. cc),
        ((λ e. cc), ((λ e. cc), ((λ e. cc), ((λ e. cc), ((λ e. cc), tt))))),
      ) i _ at refl

  pub used-sees : Sees Due Shows Means used_world 0 used_lines
  used-sees = record {
    own = λ i intent o at. absurd (no-update-line i intent o at);
    in_order = λ i intent o by j a t at. absurd (no-update-line i intent o at);
  }

-- what holds of the circuit holds of each
of-circuits : (P : ℕ → Circuit → List Line → List Entry → Type 0) → P 0 used used_lines used_entries → OfCircuits used_world P
of-circuits P h n c at =
    let e = one-at used n c at in
    subst (λ (d : Circuit). (x : List Line) × (y : List Entry) × Joins used_world n d x y × P n d x y) (sym e.1) (
    subst (λ (m : ℕ). (x : List Line) × (y : List Entry) × Joins used_world m used x y × P m used x y) (sym e.0) (used_lines, used_entries, (refl, refl, refl), h))

-- what holds of the life holds of each
of-clients : (P : ℕ → List Line → Type 0) → P 0 used_lines → OfClients used_world P
of-clients P h life x at =
    let e = one-at used_lines life x at in
    subst (λ (y : List Line). P life y) (sym e.1) (subst (λ (m : ℕ). P m used_lines) (sym e.0) h)

module _
    (Due : ℕ → Circuit → List Entry → Fields → List Fields → Option Fields → List Entry → Type 0)
    (created : Due 0 (before used 0 (step 0 1 1)) (take 1 used_entries) creating.message (rights_told.message ∷ created_told.message ∷ []) None [])
    (put : Due 0 (before used 1 (step 2 1 2)) (take 1 used_entries) (putting 0 8 22).message ((put_told 1 8 22).message ∷ []) None (Applied 0 1 0 (long 22) false ∷ []))
    (read : Due 0 (before used 2 (step 3 2 2)) (take 2 used_entries) (reading 1 7).message (value_told ∷ []) None [])
    (added : Due 0 (before used 3 (step 4 2 2)) (take 2 used_entries) (adding 0 9).message [] None []) where
  pub used-is-safe : Safe Due Shows Means used_world
  used-is-safe = record {
    acts = of-circuits (ActsOnRecord Due Shows Means) (used-acts Due);
    own = (of-circuits (AnswersOwn Due Shows Means) (used-answers Due created put read added), of-clients (CompletesOnce Due Shows Means used_world) (used-completes Due));
    applied = used-writes Due;
    sees = (of-circuits (FollowsRecord Due Shows Means) (used-follows Due), of-clients (Sees Due Shows Means used_world) (used-sees Due));
  }
