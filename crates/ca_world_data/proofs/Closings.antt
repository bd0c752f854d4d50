-- Circuits whose ends have ended, one by one.
use Rattle.std.proofs.Common.{◌≡◌, ℕ, zero, suc, ◌+◌, ◌≤◌, Bool, true, false, List, [], ◌∷◌, length, refl, sym, ap, ◌∙◌, arith}
use Rattle.std.specs.Prelude.{if◌then◌else◌, map, slice_set}
use Rattle.ca_text.specs.Place.{At}
use Rattle.ca_text.proofs.Places.{At-map, some_is}
use Rattle.ca_world_data.specs.declared.joined.Joined.{Joined as Opened}
use Rattle.ca_world_data.specs.Closing.{with_lefts}
use Rattle.ca_world_data.specs.Seen.{joined_of}
use Rattle.ca_world_data.proofs.Worlds.{set-map}
use Rattle.ca_model.specs.World.{Joined}

-- ---- a walk over circuits with what is left

-- from this place on
abbrev pub lefts_from : ℕ → (List ℕ → Joined → Joined) → List Joined → List (List ℕ) → List Joined
lefts_from zero f js lefts = with_lefts f js lefts
lefts_from (suc p) f (j ∷ js) lefts = j ∷ lefts_from p f js lefts
lefts_from (suc p) f [] lefts = []

pub lefts-none : (p : ℕ) (f : List ℕ → Joined → Joined) (js : List Joined) → lefts_from p f js [] ≡ js
lefts-none zero f [] = refl
lefts-none zero f (j ∷ js) = refl
lefts-none (suc p) f [] = refl
lefts-none (suc p) f (j ∷ js) = ap (λ (t : List Joined). j ∷ t) (lefts-none p f js)

-- none is there
pub lefts-over : (p : ℕ) (f : List ℕ → Joined → Joined) (js : List Joined) (lefts : List (List ℕ)) → length js ≤ p → lefts_from p f js lefts ≡ js
lefts-over zero f [] [] le = refl
lefts-over zero f [] (l ∷ lefts) le = refl
lefts-over zero f (j ∷ js) lefts le = absurd (omega (arith, le))
lefts-over (suc p) f [] lefts le = refl
lefts-over (suc p) f (j ∷ js) lefts le = ap (λ (t : List Joined). j ∷ t) (lefts-over p f js lefts (omega (arith, le)))

-- the next circuit is as it is to be
pub lefts-next : (p : ℕ) (f : List ℕ → Joined → Joined) (js : List Joined) (j : Joined) (left : List ℕ) (lefts : List (List ℕ)) → At js p j → lefts_from (p + 1) f (slice_set js p (f left j)) lefts ≡ lefts_from p f js (left ∷ lefts)
lefts-next p f [] j left lefts at = absurd cc
lefts-next zero f (i ∷ js) j left lefts at = ap (λ (z : Joined). f left z ∷ with_lefts f js lefts) (sym (some_is i j at))
lefts-next (suc p) f (i ∷ js) j left lefts at =
    let e : suc p + 1 ≡ suc (p + 1) = omega arith in
    rw e (ap (λ (t : List Joined). i ∷ t) (lefts-next p f js j left lefts at))

-- the same, of the circuits that are kept
pub lefts-step : (p : ℕ) (f : List ℕ → Joined → Joined) (ks : List Opened) (k new : Opened) (left : List ℕ) (lefts : List (List ℕ)) → At ks p k → joined_of new ≡ f left (joined_of k)
    → lefts_from (p + 1) f (map joined_of (slice_set ks p new)) lefts ≡ lefts_from p f (map joined_of ks) (left ∷ lefts)
lefts-step p f ks k new left lefts at is =
    ap (λ (t : List Joined). lefts_from (p + 1) f t lefts) (set-map joined_of ks p new ∙ ap (slice_set (map joined_of ks) p) is)
    ∙ lefts-next p f (map joined_of ks) (joined_of k) left lefts (At-map joined_of ks p k at)

-- a change of each circuit by what it leaves
pub lefts-each : (f : List ℕ → Joined → Joined) (left : Opened → List ℕ) (g : Joined → Joined) (ks : List Opened) → ((k : Opened) → f (left k) (joined_of k) ≡ g (joined_of k)) → with_lefts f (map joined_of ks) (map left ks) ≡ map g (map joined_of ks)
lefts-each f left g [] same = refl
lefts-each f left g (k ∷ ks) same = (λ i. same k i ∷ lefts-each f left g ks same i)

-- what is left is asked for where it is used alone
pub asked-there : {A B : Type 0} (b : Bool) (f : A → B) (left other : A) (d : B) → (if b then f (if b then left else other) else d) ≡ (if b then f left else d)
asked-there true f left other d = refl
asked-there false f left other d = refl
