-- A channel that comes back: on its circuit each answer is its own request's.
use Rattle.std.proofs.Common.{◌≡◌, ℕ, ◌<◌, ◌≤◌, ◌+◌, ◌⊎◌, inl, inr, [], ◌∷◌, refl, sym, ap, subst, ◌∙◌, arith}
use Rattle.std.specs.Prelude.{None}
use Rattle.ca_text.specs.Place.{At}
use Rattle.ca_text.proofs.Places.{some_is}
use Rattle.ca_text.specs.declared.command.Command.TheVariants as command
use Rattle.ca_dbr.specs.declared.value.Outcome.{Outcome}
use Rattle.ca_wire.specs.Fields.{Fields}
use Rattle.ca_model.specs.Speech.{Cid, Clears, Gives, Heads, Id, Ioid, Is, Speaks, SubId}
use Rattle.ca_model.specs.History.{Sent, Told, Step, Reply, Removal}
use Rattle.ca_model.specs.Channels.{AreSteps, IsReply, IsUncleared, Suits}
use Rattle.ca_model.specs.Headline.{Answered, AnswersOwn}
use Rattle.ca_model.specs.Causes.{HasCause, TakesOwn}
use Rattle.ca_requests.specs.Meaning.{Means}
use Rattle.ca_model.specs.Updates.{Shows}
use Rattle.ca_model_examples.specs.Worlds.{adding, clearing, created_told, creating, disconnected, rights_told, step}
use Rattle.ca_model_examples.specs.Safe.{first_update, reopened, reopened_entries, reopened_lines}
use Rattle.ca_model_examples.proofs.Lists.{Each, each-at, none-at}
use Rattle.ca_model_examples.proofs.Speaks.{heads, of-channel, of-update}
use Rattle.ca_model_examples.proofs.SmallDue.{TrueDue}
use Rattle.ca_model_examples.proofs.ReopenedSafe.{first-there, open-1, open-4}
use Rattle.ca_model_examples.proofs.ReopenedDue.{added-again-due, added-due, cleared-due, created-again-due, created-due}

-- ---- ids

-- SERVER_DISCONN speaks of its CID
of-disconnect : (m : Fields) (id : Id) → Is command.ServerDisconnect m → Heads m id → id ≡ Cid m.p1
of-disconnect m (Cid n) is h =
    elim h [
      | inl a ↦ ap Cid (sym a.1)
      | inr a ↦ (let e = a.0 in absurd (omega (arith, e, is)))
    ]
of-disconnect m (Ioid n) is h =
    elim h.0 [
      | inl e ↦ absurd (omega (arith, e, is))
      | inr e ↦ absurd (omega (arith, e, is))
    ]
of-disconnect m (SubId n) is h = (let e = h.0 in absurd (omega (arith, e, is)))

-- the reply to CLEAR_CHANNEL speaks of its CID
of-clear : (m : Fields) (id : Id) → Is command.ClearChannel m → Heads m id → id ≡ Cid m.p2
of-clear m (Cid n) is h =
    elim h [
      | inl a ↦ elim a.0 [
        | inl e ↦ absurd (omega (arith, e, is))
        | inr b ↦ elim b [
          | inl e ↦ absurd (omega (arith, e, is))
          | inr d ↦ elim d [
            | inl e ↦ absurd (omega (arith, e, is))
            | inr e ↦ absurd (omega (arith, e, is))
          ]
        ]
      ]
      | inr a ↦ ap Cid (sym a.1)
    ]
of-clear m (Ioid n) is h =
    elim h.0 [
      | inl e ↦ absurd (omega (arith, e, is))
      | inr e ↦ absurd (omega (arith, e, is))
    ]
of-clear m (SubId n) is h = (let e = h.0 in absurd (omega (arith, e, is)))

-- where an id is given
cid-at : (l : ℕ) (r : Sent) → At reopened.up l r → Gives r.message (Cid 1) → (l ≡ 0) ⊎ (l ≡ 3)
cid-at l r at gives =
    each-at (λ (i : ℕ) (z : Sent). Gives z.message (Cid 1) → (i ≡ 0) ⊎ (i ≡ 3)) reopened.up (
      (λ g. inl refl),
      ((λ g. (let e = g.0 in absurd (omega (arith, e)))), ((λ g. (let e = g.0 in absurd (omega (arith, e)))), ((λ g. inr refl), ((λ g. (let e = g.0 in absurd (omega (arith, e)))), tt)))),
    ) l r at gives

sub-at : (l : ℕ) (r : Sent) → At reopened.up l r → Gives r.message (SubId 9) → (l ≡ 1) ⊎ (l ≡ 4)
sub-at l r at gives =
    each-at (λ (i : ℕ) (z : Sent). Gives z.message (SubId 9) → (i ≡ 1) ⊎ (i ≡ 4)) reopened.up (
      (λ g. (let e = g.0 in absurd (omega (arith, e)))),
      ((λ g. inl refl), ((λ g. (let e = g.0 in absurd (omega (arith, e)))), ((λ g. (let e = g.0 in absurd (omega (arith, e)))), ((λ g. inr refl), tt)))),
    ) l r at gives

last-cid : (k bound l : ℕ) (r : Sent) → (bound ≤ 3) ⊎ (3 ≤ k) → k < l → l < bound → At reopened.up l r → Gives r.message (Cid 1) → ⊥
last-cid k bound l r few after early at gives =
    elim (cid-at l r at gives) [
      | inl e ↦ omega (arith, e, after)
      | inr e ↦ elim few [
        | inl f ↦ omega (arith, e, early, f)
        | inr f ↦ omega (arith, e, after, f)
      ]
    ]

last-sub : (k bound l : ℕ) (r : Sent) → 1 ≤ k → (bound ≤ 4) ⊎ (4 ≤ k) → k < l → l < bound → At reopened.up l r → Gives r.message (SubId 9) → ⊥
last-sub k bound l r one few after early at gives =
    elim (sub-at l r at gives) [
      | inl e ↦ omega (arith, e, after, one)
      | inr e ↦ elim few [
        | inl f ↦ omega (arith, e, early, f)
        | inr f ↦ omega (arith, e, after, f)
      ]
    ]

takes-0 : TakesOwn reopened 0 0 (Cid 1)
takes-0 = (0, 0, creating, creating, (creating, refl, (refl, refl), omega arith, (λ l r after early at. last-cid 0 1 l r (inl (omega arith)) after early at)), omega arith, refl, refl, refl, refl)

takes-1 : TakesOwn reopened 1 0 (Cid 1)
takes-1 = (0, 0, creating, creating, (creating, refl, (refl, refl), omega arith, (λ l r after early at. last-cid 0 1 l r (inl (omega arith)) after early at)), omega arith, refl, refl, refl, refl)

takes-2 : TakesOwn reopened 2 1 (SubId 9)
takes-2 = (1, 0, adding 0 9, adding 0 9, (adding 0 9, refl, (refl, refl), omega arith, (λ l r after early at. last-sub 1 2 l r (omega arith) (inl (omega arith)) after early at)), omega arith, refl, refl, refl, refl)

takes-3 : TakesOwn reopened 3 0 (Cid 1)
takes-3 = (0, 0, creating, creating, (creating, refl, (refl, refl), omega arith, (λ l r after early at. last-cid 0 2 l r (inl (omega arith)) after early at)), omega arith, refl, refl, refl, refl)

takes-4 : TakesOwn reopened 4 2 (Cid 1)
takes-4 = (0, 0, creating, clearing, (creating, refl, (refl, refl), omega arith, (λ l r after early at. last-cid 0 3 l r (inl (omega arith)) after early at)), omega arith, refl, refl, refl, refl)

takes-5 : TakesOwn reopened 5 3 (Cid 1)
takes-5 = (3, 0, creating, creating, (creating, refl, (refl, refl), omega arith, (λ l r after early at. last-cid 3 4 l r (inr (omega arith)) after early at)), omega arith, refl, refl, refl, refl)

takes-6 : TakesOwn reopened 6 3 (Cid 1)
takes-6 = (3, 0, creating, creating, (creating, refl, (refl, refl), omega arith, (λ l r after early at. last-cid 3 4 l r (inr (omega arith)) after early at)), omega arith, refl, refl, refl, refl)

takes-7 : TakesOwn reopened 7 4 (SubId 9)
takes-7 = (4, 0, adding 0 9, adding 0 9, (adding 0 9, refl, (refl, refl), omega arith, (λ l r after early at. last-sub 4 5 l r (omega arith) (inr (omega arith)) after early at)), omega arith, refl, refl, refl, refl)

reopened-own : (j : ℕ) (t : Told) (id : Id) → At reopened.down j t → Speaks t.message id → TakesOwn reopened j t.place id
reopened-own j t id at says =
    each-at (λ (i : ℕ) (u : Told). (d : Id) → Speaks u.message d → TakesOwn reopened i u.place d) reopened.down (
      (λ d s. subst (λ (e : Id). TakesOwn reopened 0 0 e) (sym (of-channel rights_told.message d (inl refl) (heads rights_told.message d (λ e. omega (arith, e)) s))) takes-0),
      (
        (λ d s. subst (λ (e : Id). TakesOwn reopened 1 0 e) (sym (of-channel created_told.message d (inr refl) (heads created_told.message d (λ e. omega (arith, e)) s))) takes-1),
        (
          (λ d s. subst (λ (e : Id). TakesOwn reopened 2 1 e) (sym (of-update (first_update 1 21).message d refl (heads (first_update 1 21).message d (λ e. omega (arith, e)) s))) takes-2),
          (
            (λ d s. subst (λ (e : Id). TakesOwn reopened 3 0 e) (sym (of-disconnect disconnected.message d refl (heads disconnected.message d (λ e. omega (arith, e)) s))) takes-3),
            (
              (λ d s. subst (λ (e : Id). TakesOwn reopened 4 2 e) (sym (of-clear clearing.message d refl (heads clearing.message d (λ e. omega (arith, e)) s))) takes-4),
              (
                (λ d s. subst (λ (e : Id). TakesOwn reopened 5 3 e) (sym (of-channel rights_told.message d (inl refl) (heads rights_told.message d (λ e. omega (arith, e)) s))) takes-5),
                (
                  (λ d s. subst (λ (e : Id). TakesOwn reopened 6 3 e) (sym (of-channel created_told.message d (inr refl) (heads created_told.message d (λ e. omega (arith, e)) s))) takes-6),
                  (
                    (λ d s. subst (λ (e : Id). TakesOwn reopened 7 4 e) (sym (of-update (first_update 4 5).message d refl (heads (first_update 4 5).message d (λ e. omega (arith, e)) s))) takes-7),
                    tt,
                  ),
                ),
              ),
            ),
          ),
        ),
      ),
    ) j t at id says

-- ---- causes

no-reply : (k j : ℕ) (t : Told) → (k ≡ 1) ⊎ (k ≡ 4) → At reopened.down j t → t.place ≡ k → t.cause ≡ Reply → ⊥
no-reply k j t is at place cause =
    each-at (λ (i : ℕ) (u : Told). u.place ≡ k → u.cause ≡ Reply → ⊥) reopened.down (
      (λ p c. elim is [ inl e ↦ omega (arith, p, e) | inr e ↦ omega (arith, p, e) ]),
      (
        (λ p c. elim is [ inl e ↦ omega (arith, p, e) | inr e ↦ omega (arith, p, e) ]),
        (
          (λ p c. cc),
          (
            (λ p c. cc),
            (
              (λ p c. elim is [ inl e ↦ omega (arith, p, e) | inr e ↦ omega (arith, p, e) ]),
              (
                (λ p c. elim is [ inl e ↦ omega (arith, p, e) | inr e ↦ omega (arith, p, e) ]),
                (
                  (λ p c. elim is [ inl e ↦ omega (arith, p, e) | inr e ↦ omega (arith, p, e) ]),
                  (
                    (λ p c. cc),
                    tt,
                  ),
                ),
              ),
            ),
          ),
        ),
      ),
    ) j t at place cause

cleared-later : (l : ℕ) (s : Sent) (h : Step) → At reopened.up l s → At reopened.handled l h → h.logged ≤ 1 → Clears s.message 5 → ⊥
cleared-later l s h at handled early clears =
    let is : l ≡ 2 = each-at (λ (i : ℕ) (z : Sent). Clears z.message 5 → i ≡ 2) reopened.up (
      (λ g. (let e = g.0 in absurd (omega (arith, e)))),
      ((λ g. (let e = g.0 in absurd (omega (arith, e)))), ((λ g. refl), ((λ g. (let e = g.0 in absurd (omega (arith, e)))), ((λ g. (let e = g.0 in absurd (omega (arith, e)))), tt)))),
    ) l s at clears in
    let g : h ≡ step 4 2 2 = some_is h (step 4 2 2) (sym (subst (λ (i : ℕ). At reopened.handled i h) is handled)) in
    let two : h.logged ≡ 2 = ap (λ (z : Step). z.logged) g in
    omega (arith, two, early)

uncleared : IsUncleared reopened 0 5 1
uncleared c = cleared-later c.0 c.1 c.2 c.4 c.5 c.6 c.7

reopened-caused : (j : ℕ) (t : Told) → At reopened.down j t → HasCause reopened reopened_entries t t.cause × ((h : Step) × At reopened.handled t.place h × (h.sent ≤ j))
reopened-caused j t at =
    each-at (λ (i : ℕ) (u : Told). HasCause reopened reopened_entries u u.cause × ((h : Step) × At reopened.handled u.place h × (h.sent ≤ i))) reopened.down (
      (tt, (step 0 1 1, refl, omega arith)),
      (
        (tt, (step 0 1 1, refl, omega arith)),
        (
          ((0, adding 0 9, step 2 1 1, (0, 0, refl, refl, refl, (adding 0 9, step 2 1 1, 1, 0, refl, refl, open-1), (λ k u a p c. no-reply 1 k u (inl refl) a p c))), (step 2 1 1, refl, omega arith)),
          (
            ((1, 5, 0, 1, creating, (created_told, creating, step 0 1 1, refl, refl, refl, (refl, refl), refl, refl, first-there 1 refl, (refl, refl)), refl, uncleared, refl, (refl, refl)), (step 0 1 1, refl, omega arith)),
            (
              (tt, (step 4 2 2, refl, omega arith)),
              (
                (tt, (step 5 3 3, refl, omega arith)),
                (
                  (tt, (step 5 3 3, refl, omega arith)),
                  (
                    ((1, adding 0 9, step 7 3 3, (0, 0, refl, refl, refl, (adding 0 9, step 7 3 3, 6, 3, refl, refl, open-4), (λ k u a p c. no-reply 4 k u (inr refl) a p c))), (step 7 3 3, refl, omega arith)),
                    tt,
                  ),
                ),
              ),
            ),
          ),
        ),
      ),
    ) j t at

removal-at : (j : ℕ) (t : Told) → At reopened.down j t → t.cause ≡ Removal → j ≡ 3
removal-at j t at cause =
    each-at (λ (i : ℕ) (u : Told). u.cause ≡ Removal → i ≡ 3) reopened.down (
      (λ e. absurd cc),
      (
        (λ e. absurd cc),
        (
          (λ e. absurd cc),
          (
            (λ e. refl),
            (
              (λ e. absurd cc),
              (
                (λ e. absurd cc),
                (
                  (λ e. absurd cc),
                  (
                    (λ e. absurd cc),
                    tt,
                  ),
                ),
              ),
            ),
          ),
        ),
      ),
    ) j t at cause

-- ---- steps

abbrev Before : Step → ℕ → ℕ → Step → Type 0
Before g i j h = i < j → (g.sent ≤ h.sent) × (g.after ≤ h.logged)

server-steps : AreSteps reopened.handled reopened.up reopened.down reopened_entries
server-steps = record {
  one_each = omega arith;
  within = λ k h at. each-at (λ (i : ℕ) (g : Step). (g.sent ≤ 8) × (g.logged ≤ g.after) × (g.after ≤ 3)) reopened.handled ((omega arith, omega arith, omega arith), ((omega arith, omega arith, omega arith), ((omega arith, omega arith, omega arith), ((omega arith, omega arith, omega arith), ((omega arith, omega arith, omega arith), tt))))) k h at;
  rise = λ i j g h lt p q. each-at (λ (a : ℕ) (u : Step). (b : ℕ) (v : Step) → At reopened.handled b v → Before u a b v) reopened.handled (
    (λ b v z. each-at (Before (step 0 1 1) 0) reopened.handled ((λ l. absurd (omega (arith, l))), ((λ l. (omega arith, omega arith)), ((λ l. (omega arith, omega arith)), ((λ l. (omega arith, omega arith)), ((λ l. (omega arith, omega arith)), tt))))) b v z),
    (
      (λ b v z. each-at (Before (step 2 1 1) 1) reopened.handled ((λ l. absurd (omega (arith, l))), ((λ l. absurd (omega (arith, l))), ((λ l. (omega arith, omega arith)), ((λ l. (omega arith, omega arith)), ((λ l. (omega arith, omega arith)), tt))))) b v z),
      (
        (λ b v z. each-at (Before (step 4 2 2) 2) reopened.handled ((λ l. absurd (omega (arith, l))), ((λ l. absurd (omega (arith, l))), ((λ l. absurd (omega (arith, l))), ((λ l. (omega arith, omega arith)), ((λ l. (omega arith, omega arith)), tt))))) b v z),
        (
          (λ b v z. each-at (Before (step 5 3 3) 3) reopened.handled ((λ l. absurd (omega (arith, l))), ((λ l. absurd (omega (arith, l))), ((λ l. absurd (omega (arith, l))), ((λ l. absurd (omega (arith, l))), ((λ l. (omega arith, omega arith)), tt))))) b v z),
          (
            (λ b v z. each-at (Before (step 7 3 3) 4) reopened.handled ((λ l. absurd (omega (arith, l))), ((λ l. absurd (omega (arith, l))), ((λ l. absurd (omega (arith, l))), ((λ l. absurd (omega (arith, l))), ((λ l. absurd (omega (arith, l))), tt))))) b v z),
            tt,
          ),
        ),
      ),
    ),
  ) i g p j h q lt;
}

client-steps : (o : Outcome) → AreSteps reopened.heard reopened.down reopened.up (reopened_lines o)
client-steps o = record {
  one_each = omega arith;
  within = λ k h at. each-at (λ (i : ℕ) (g : Step). (g.sent ≤ 5) × (g.logged ≤ g.after) × (g.after ≤ 6)) reopened.heard ((omega arith, omega arith, omega arith), ((omega arith, omega arith, omega arith), ((omega arith, omega arith, omega arith), ((omega arith, omega arith, omega arith), ((omega arith, omega arith, omega arith), ((omega arith, omega arith, omega arith), ((omega arith, omega arith, omega arith), tt))))))) k h at;
  rise = λ i j g h lt p q. each-at (λ (a : ℕ) (u : Step). (b : ℕ) (v : Step) → At reopened.heard b v → Before u a b v) reopened.heard (
    (λ b v z. each-at (Before (step 1 1 1) 0) reopened.heard ((λ l. absurd (omega (arith, l))), ((λ l. (omega arith, omega arith)), ((λ l. (omega arith, omega arith)), ((λ l. (omega arith, omega arith)), ((λ l. (omega arith, omega arith)), ((λ l. (omega arith, omega arith)), ((λ l. (omega arith, omega arith)), tt))))))) b v z),
    (
      (λ b v z. each-at (Before (step 1 1 2) 1) reopened.heard ((λ l. absurd (omega (arith, l))), ((λ l. absurd (omega (arith, l))), ((λ l. (omega arith, omega arith)), ((λ l. (omega arith, omega arith)), ((λ l. (omega arith, omega arith)), ((λ l. (omega arith, omega arith)), ((λ l. (omega arith, omega arith)), tt))))))) b v z),
      (
        (λ b v z. each-at (Before (step 2 3 4) 2) reopened.heard ((λ l. absurd (omega (arith, l))), ((λ l. absurd (omega (arith, l))), ((λ l. absurd (omega (arith, l))), ((λ l. (omega arith, omega arith)), ((λ l. (omega arith, omega arith)), ((λ l. (omega arith, omega arith)), ((λ l. (omega arith, omega arith)), tt))))))) b v z),
        (
          (λ b v z. each-at (Before (step 2 4 5) 3) reopened.heard ((λ l. absurd (omega (arith, l))), ((λ l. absurd (omega (arith, l))), ((λ l. absurd (omega (arith, l))), ((λ l. absurd (omega (arith, l))), ((λ l. (omega arith, omega arith)), ((λ l. (omega arith, omega arith)), ((λ l. (omega arith, omega arith)), tt))))))) b v z),
          (
            (λ b v z. each-at (Before (step 3 5 5) 4) reopened.heard ((λ l. absurd (omega (arith, l))), ((λ l. absurd (omega (arith, l))), ((λ l. absurd (omega (arith, l))), ((λ l. absurd (omega (arith, l))), ((λ l. absurd (omega (arith, l))), ((λ l. (omega arith, omega arith)), ((λ l. (omega arith, omega arith)), tt))))))) b v z),
            (
              (λ b v z. each-at (Before (step 4 5 5) 5) reopened.heard ((λ l. absurd (omega (arith, l))), ((λ l. absurd (omega (arith, l))), ((λ l. absurd (omega (arith, l))), ((λ l. absurd (omega (arith, l))), ((λ l. absurd (omega (arith, l))), ((λ l. absurd (omega (arith, l))), ((λ l. (omega arith, omega arith)), tt))))))) b v z),
              (
                (λ b v z. each-at (Before (step 4 5 6) 6) reopened.heard ((λ l. absurd (omega (arith, l))), ((λ l. absurd (omega (arith, l))), ((λ l. absurd (omega (arith, l))), ((λ l. absurd (omega (arith, l))), ((λ l. absurd (omega (arith, l))), ((λ l. absurd (omega (arith, l))), ((λ l. absurd (omega (arith, l))), tt))))))) b v z),
                tt,
              ),
            ),
          ),
        ),
      ),
    ),
  ) i g p j h q lt;
}

-- ---- answers

later : (k bound : ℕ) → Each (λ (l : ℕ) (g : Step). k < l → bound ≤ g.sent) reopened.handled → (l : ℕ) (g : Step) → k < l → At reopened.handled l g → bound ≤ g.sent
later k bound all l g after at = each-at (λ (i : ℕ) (h : Step). k < i → bound ≤ h.sent) reopened.handled all l g at after

among : (k bound : ℕ) → Each (λ (j : ℕ) (t : Told). t.place ≡ k → t.cause ≡ Reply → j < bound) reopened.down → (j : ℕ) (m : Fields) → IsReply reopened k j m → j < bound
among k bound all j m here = each-at (λ (i : ℕ) (t : Told). t.place ≡ k → t.cause ≡ Reply → i < bound) reopened.down all j _ here refl refl

answered-0 : Answered TrueDue Shows Means 0 reopened reopened_entries 0 (step 0 1 1)
answered-0 = record {
  s = creating;
  at = refl;
  replies = rights_told.message ∷ created_told.message ∷ [];
  late = None;
  logs = [];
  due = created-due;
  now = λ i m at. each-at (λ (j : ℕ) (z : Fields). IsReply reopened 0 (0 + j) z) (rights_told.message ∷ created_told.message ∷ []) (refl, (refl, tt)) i m at;
  logged = λ i e at. absurd (none-at i e at);
  within = omega arith;
  besides = λ i e low high at. absurd (omega (arith, low, high));
  place = 0;
  only = λ j m here. inl (among 0 2 ((λ p e. omega arith), ((λ p e. omega arith), ((λ p e. absurd cc), ((λ p e. absurd cc), ((λ p e. absurd (omega (arith, p))), ((λ p e. absurd (omega (arith, p))), ((λ p e. absurd (omega (arith, p))), ((λ p e. absurd cc), tt)))))))) j m here);
  comes = λ m e. absurd cc;
  next = λ l g after at. later 0 2 ((λ a. absurd (omega (arith, a))), ((λ a. omega arith), ((λ a. omega arith), ((λ a. omega arith), ((λ a. omega arith), tt))))) l g after at;
}

answered-1 : Answered TrueDue Shows Means 0 reopened reopened_entries 1 (step 2 1 1)
answered-1 = record {
  s = adding 0 9;
  at = refl;
  replies = [];
  late = None;
  logs = [];
  due = added-due;
  now = λ i m at. absurd (none-at i m at);
  logged = λ i e at. absurd (none-at i e at);
  within = omega arith;
  besides = λ i e low high at. absurd (omega (arith, low, high));
  place = 0;
  only = λ j m here. absurd (no-reply 1 j _ (inl refl) here refl refl);
  comes = λ m e. absurd cc;
  next = λ l g after at. later 1 2 ((λ a. absurd (omega (arith, a))), ((λ a. absurd (omega (arith, a))), ((λ a. omega arith), ((λ a. omega arith), ((λ a. omega arith), tt))))) l g after at;
}

answered-2 : Answered TrueDue Shows Means 0 reopened reopened_entries 2 (step 4 2 2)
answered-2 = record {
  s = clearing;
  at = refl;
  replies = clearing.message ∷ [];
  late = None;
  logs = [];
  due = cleared-due;
  now = λ i m at. each-at (λ (j : ℕ) (z : Fields). IsReply reopened 2 (4 + j) z) (clearing.message ∷ []) (refl, tt) i m at;
  logged = λ i e at. absurd (none-at i e at);
  within = omega arith;
  besides = λ i e low high at. absurd (omega (arith, low, high));
  place = 0;
  only = λ j m here. inl (among 2 5 ((λ p e. absurd (omega (arith, p))), ((λ p e. absurd (omega (arith, p))), ((λ p e. absurd cc), ((λ p e. absurd cc), ((λ p e. omega arith), ((λ p e. absurd (omega (arith, p))), ((λ p e. absurd (omega (arith, p))), ((λ p e. absurd cc), tt)))))))) j m here);
  comes = λ m e. absurd cc;
  next = λ l g after at. later 2 5 ((λ a. absurd (omega (arith, a))), ((λ a. absurd (omega (arith, a))), ((λ a. absurd (omega (arith, a))), ((λ a. omega arith), ((λ a. omega arith), tt))))) l g after at;
}

answered-3 : Answered TrueDue Shows Means 0 reopened reopened_entries 3 (step 5 3 3)
answered-3 = record {
  s = creating;
  at = refl;
  replies = rights_told.message ∷ created_told.message ∷ [];
  late = None;
  logs = [];
  due = created-again-due;
  now = λ i m at. each-at (λ (j : ℕ) (z : Fields). IsReply reopened 3 (5 + j) z) (rights_told.message ∷ created_told.message ∷ []) (refl, (refl, tt)) i m at;
  logged = λ i e at. absurd (none-at i e at);
  within = omega arith;
  besides = λ i e low high at. absurd (omega (arith, low, high));
  place = 0;
  only = λ j m here. inl (among 3 7 ((λ p e. absurd (omega (arith, p))), ((λ p e. absurd (omega (arith, p))), ((λ p e. absurd cc), ((λ p e. absurd cc), ((λ p e. absurd (omega (arith, p))), ((λ p e. omega arith), ((λ p e. omega arith), ((λ p e. absurd cc), tt)))))))) j m here);
  comes = λ m e. absurd cc;
  next = λ l g after at. later 3 7 ((λ a. absurd (omega (arith, a))), ((λ a. absurd (omega (arith, a))), ((λ a. absurd (omega (arith, a))), ((λ a. absurd (omega (arith, a))), ((λ a. omega arith), tt))))) l g after at;
}

answered-4 : Answered TrueDue Shows Means 0 reopened reopened_entries 4 (step 7 3 3)
answered-4 = record {
  s = adding 0 9;
  at = refl;
  replies = [];
  late = None;
  logs = [];
  due = added-again-due;
  now = λ i m at. absurd (none-at i m at);
  logged = λ i e at. absurd (none-at i e at);
  within = omega arith;
  besides = λ i e low high at. absurd (omega (arith, low, high));
  place = 0;
  only = λ j m here. absurd (no-reply 4 j _ (inr refl) here refl refl);
  comes = λ m e. absurd cc;
  next = λ l g after at. later 4 7 ((λ a. absurd (omega (arith, a))), ((λ a. absurd (omega (arith, a))), ((λ a. absurd (omega (arith, a))), ((λ a. absurd (omega (arith, a))), ((λ a. absurd (omega (arith, a))), tt))))) l g after at;
}

pub reopened-answers : (o : Outcome) → AnswersOwn TrueDue Shows Means 0 reopened (reopened_lines o) reopened_entries
reopened-answers o = record {
  asked = λ k s at. each-at (λ (i : ℕ) (z : Sent). Suits z.intent z.message) reopened.up (refl, (refl, (refl, (refl, (refl, tt))))) k s at;
  caused = reopened-caused;
  removed = λ i j t u p q same a b. removal-at i t p a ∙ sym (removal-at j u q b);
  own = reopened-own;
  answered = λ k h at. each-at (Answered TrueDue Shows Means 0 reopened reopened_entries) reopened.handled (answered-0, (answered-1, (answered-2, (answered-3, (answered-4, tt))))) k h at;
  in_order = (server-steps, client-steps o);
}
