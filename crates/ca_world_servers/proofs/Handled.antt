-- What a handled message changes of each queue or record, one by one.
use Rattle.std.proofs.Common.{◌≡◌, ℕ, zero, suc, ◌+◌, ◌≤◌, inl, inr, Bool, true, false, not, List, [], ◌∷◌, length, refl, sym, ap, subst, ◌∙◌, arith}
use Rattle.std.specs.Prelude.{IsFalse, IsTrue, if◌then◌else◌, map, nat_le, nat_lt, slice_set}
use Rattle.std.specs.Str.{bytes_eq}
use Rattle.std.proofs.lemmas.Bool.{both_ways}
use Rattle.std.proofs.lemmas.Bool.Decides.{leb_tells}
use Rattle.ca_queue.specs.declared.entry.SubKey.{SubKey}
use Rattle.ca_queue.specs.Circuit.{HasNone}
use Rattle.ca_queue.specs.Keys.{is_among}
use Rattle.ca_queue.specs.Queue.{Queue, Refuses, added, posted}
use Rattle.ca_queue.proofs.Images.{posted_images}
use Rattle.ca_text.specs.declared.refusal.Refusal.{Refusal}
use Rattle.ca_text.specs.declared.refusal.Refusal.TheVariants as refusal
use Rattle.ca_text.specs.Limits.{queue_subscriptions}
use Rattle.ca_text.specs.Place.{At}
use Rattle.ca_text.proofs.Places.{At-map, At-set, At-within, some_is}
use Rattle.ca_model.specs.History as history
use Rattle.ca_model.specs.ClientEvents.{place_of}
use Rattle.ca_model.specs.ServerEvents.{number_taken}
use Rattle.ca_model.specs.World.{RecordSide}
use Rattle.ca_world_data.specs.declared.history.Cause.{Cause}
use Rattle.ca_world_data.specs.declared.history.Cause.TheVariants as cause
use Rattle.ca_world_data.specs.Seen.{cause_of, queue_of}
use Rattle.ca_world_data.proofs.Counting.{queue_in}
use Rattle.ca_world_data.proofs.Gone.{from-here, map_from}
use Rattle.ca_world_data.proofs.Worlds.{set-map, set-same}
use Rattle.ca_world_servers.specs.Handling.{FirstIsRoomy, has_room}

abbrev Q : Type 0
Q = Queue (ℕ × history.Cause)

-- with one element changed as it is to be, those after it are left
pub change-next : {A B : Type 0} (see : A → B) (f : B → B) (i : ℕ) (xs : List A) (x got new : A) → At xs i x → x ≡ got → see new ≡ f (see got) → map_from (i + 1) f (map see (slice_set xs i new)) ≡ map_from i f (map see xs)
change-next see f i xs x got new at is changed =
    ap (map_from (i + 1) f) (set-map see xs i new ∙ ap (slice_set (map see xs) i) (changed ∙ ap (λ (z : _). f (see z)) (sym is)))
    ∙ from-here i f (map see xs) (see x) (At-map see xs i x at)

-- with one element that is seen as before, all are
pub same-next : {A B : Type 0} (see : A → B) (i : ℕ) (xs : List A) (x got new : A) → At xs i x → x ≡ got → see new ≡ see got → map see (slice_set xs i new) ≡ map see xs
same-next see i xs x got new at is same =
    set-map see xs i new ∙ ap (slice_set (map see xs) i) (same ∙ ap see (sym is)) ∙ set-same (map see xs) i (see x) (At-map see xs i x at)

-- a change of the records of this name
abbrev pub if_named : List ℕ → (RecordSide → RecordSide) → RecordSide → RecordSide
if_named name f r = if bytes_eq r.name name then f r else r

-- ---- the first queue with room

abbrev limit : ℕ
limit = queue_subscriptions

lt-is : (n : ℕ) → nat_lt n limit ≡ not (nat_le limit n)
lt-is n =
    elim (leb_tells (suc n) limit) [
      | inl few ↦
          elim (leb_tells limit n) [
            | inl many ↦ absurd (omega (arith, few.1, many.1))
            | inr fewer ↦ few.0 ∙ ap not (sym fewer.0)
          ]
      | inr full ↦
          elim (leb_tells limit n) [
            | inl many ↦ full.0 ∙ ap not (sym many.0)
            | inr fewer ↦ absurd (omega (arith, full.1, fewer.1))
          ]
    ]

abbrev Kept : Type 0
Kept = Queue (ℕ × Cause) × Bool

-- the one that is found has room
pub room-there : (ws : List Kept) (w : Kept) → At ws (place_of has_room ws) w → has_room w ≡ true
room-there [] w at = absurd cc
room-there (x ∷ ws) w at = go (has_room x) refl at (λ there. room-there ws w there)
  where
    go : (b : Bool) → has_room x ≡ b → At (x ∷ ws) (if b then 0 else place_of has_room ws + 1) w → (At ws (place_of has_room ws) w → has_room w ≡ true) → has_room w ≡ true
    go true is there rest = ap has_room (sym (some_is x w there)) ∙ is
    go false is there rest = rest (let e : place_of has_room ws + 1 ≡ suc (place_of has_room ws) = omega arith in subst (λ (n : ℕ). At (x ∷ ws) n w) e there)

-- a queue with as many subscriptions in the place of another leaves the first where it is
place-set : (ws : List Kept) (n : ℕ) (w new : Kept) → At ws n w → has_room new ≡ has_room w → place_of has_room (slice_set ws n new) ≡ place_of has_room ws
place-set [] n w new at same = absurd cc
place-set (x ∷ ws) zero w new at same =
    (λ i. if (same ∙ ap has_room (sym (some_is x w at))) i then 0 else place_of has_room ws + 1)
place-set (x ∷ ws) (suc n) w new at same = (λ i. if has_room x then 0 else place-set ws n w new at same i + 1)

-- once that has its memory, the first has
pub first-roomy : (ws : List Kept) (n : ℕ) (w new : Kept) → n ≡ place_of has_room ws → At ws n w → new.0 ≡ w.0 → IsTrue new.1 → FirstIsRoomy (slice_set ws n new)
first-roomy ws n w new is at same roomy q there =
    let one : has_room new ≡ has_room w = ap (λ (z : Queue (ℕ × Cause)). not (nat_le queue_subscriptions (length z.subscriptions))) same in
    let here : At (slice_set ws n new) n q = subst (λ (k : ℕ). At (slice_set ws n new) k q) (place-set ws n w new at one ∙ sym is) there in
    elim (At-set ws n new n q here) [
      | inl set ↦ subst (λ (z : Kept). IsTrue z.1) (sym set.1) roomy
      | inr other ↦ absurd (other.1 refl)
    ]

-- none has room
pub none-first : (ws : List Kept) → length ws ≤ place_of has_room ws → FirstIsRoomy ws
none-first ws over q at = (let within = At-within ws (place_of has_room ws) q at in absurd (omega (arith, over, within)))

module _ (key : SubKey) (item : ℕ × history.Cause) where
  -- without room in any nothing is taken
  pub none-takes : (ws : List Kept) → length ws ≤ place_of has_room ws → number_taken key item (map queue_in ws) ≡ map queue_in ws
  none-takes [] over = refl
  none-takes (x ∷ ws) over = go (has_room x) refl over (λ much. none-takes ws much)
    where
      go : (b : Bool) → has_room x ≡ b → length (x ∷ ws) ≤ (if b then 0 else place_of has_room ws + 1) → (length ws ≤ place_of has_room ws → number_taken key item (map queue_in ws) ≡ map queue_in ws)
          → number_taken key item (map queue_in (x ∷ ws)) ≡ map queue_in (x ∷ ws)
      go true is much rest = absurd (omega (arith, much))
      go false is much rest =
          ap (λ (b : Bool). if b then posted key item (added key (queue_in x)) ∷ map queue_in ws else queue_in x ∷ number_taken key item (map queue_in ws)) (lt-is (length x.0.subscriptions) ∙ is)
          ∙ ap (λ (l : List Q). queue_in x ∷ l) (rest (omega (arith, much)))

  -- the first with room takes it
  pub first-takes : (ws : List Kept) (w new : Kept) → At ws (place_of has_room ws) w → queue_in new ≡ posted key item (added key (queue_in w))
      → map queue_in (slice_set ws (place_of has_room ws) new) ≡ number_taken key item (map queue_in ws)
  first-takes [] w new at is = absurd cc
  first-takes (x ∷ ws) w new at is = go (has_room x) refl at (λ there. first-takes ws w new there is)
    where
      go : (b : Bool) → has_room x ≡ b → At (x ∷ ws) (if b then 0 else place_of has_room ws + 1) w
          → (At ws (place_of has_room ws) w → map queue_in (slice_set ws (place_of has_room ws) new) ≡ number_taken key item (map queue_in ws))
          → map queue_in (slice_set (x ∷ ws) (if b then 0 else place_of has_room ws + 1) new) ≡ number_taken key item (map queue_in (x ∷ ws))
      go true room there rest =
          ap (λ (q : Q). q ∷ map queue_in ws) (is ∙ ap (λ (z : Kept). posted key item (added key (queue_in z))) (sym (some_is x w there)))
          ∙ sym (ap (λ (b : Bool). if b then posted key item (added key (queue_in x)) ∷ map queue_in ws else queue_in x ∷ number_taken key item (map queue_in ws)) (lt-is (length x.0.subscriptions) ∙ room))
      go false room there rest =
          let e : place_of has_room ws + 1 ≡ suc (place_of has_room ws) = omega arith in
          ap (λ (n : ℕ). map queue_in (slice_set (x ∷ ws) n new)) e
          ∙ ap (λ (l : List Q). queue_in x ∷ l) (rest (subst (λ (n : ℕ). At (x ∷ ws) n w) e there))
          ∙ sym (ap (λ (b : Bool). if b then posted key item (added key (queue_in x)) ∷ map queue_in ws else queue_in x ∷ number_taken key item (map queue_in ws)) (lt-is (length x.0.subscriptions) ∙ room))

-- a queue with room and its memory refuses no subscription
pub none-refused : (w : Kept) (e : Refusal) → Refuses w.0 e → (e ≡ refusal.OutOfMemory → IsFalse w.1) → has_room w ≡ true → IsTrue w.1 → ⊥
none-refused w refusal.TooManySubscriptions full lacks room roomy =
    both_ways (has_room w) (ap (λ (n : ℕ). not (nat_le queue_subscriptions n)) full) room
none-refused w refusal.OutOfMemory none lacks room roomy = both_ways w.1 (lacks refl) roomy
none-refused w _ never lacks room roomy = absurd never

-- as its images
pub begun-images : (key : SubKey) (place : ℕ) (w new : Queue (ℕ × Cause)) → new ≡ posted key (place, cause.Update 0) (added key w) → queue_of new ≡ posted key (place, history.Update 0) (added key (queue_of w))
begun-images key place w new is = ap queue_of is ∙ sym (posted_images (λ (item : ℕ × Cause). (item.0, cause_of item.1)) key (place, cause.Update 0) (added key w))

-- no queue of all has the key
pub none-has : (ws : List Kept) (n : ℕ) (w : Kept) (key : SubKey) → HasNone (map queue_in ws) key → At ws n w → is_among key w.0.subscriptions ≡ false
none-has ws n w key none at = none n (queue_in w) (At-map queue_in ws n w at)
