-- A client gives an id on a circuit only if it is free: in every run.
use Rattle.std.proofs.Common.{◌≡◌, ℕ, suc, ◌<◌, ◌≤◌, ◌⊎◌, inl, inr, true, List, [], ◌∷◌, ◌++◌, length, Option, Some, None, refl, sym, subst, arith}
use Rattle.std.specs.List.{FoldsTo}
use Rattle.ca_text.specs.Place.{At}
use Rattle.ca_text.proofs.Places.{At-mapped, At-one, At-or, At-within}
use Rattle.ca_wire.specs.Fields.{Fields}
use Rattle.ca_model.specs.History.{Circuit, Sent}
use Rattle.ca_model.specs.Sends.{IsFree}
use Rattle.ca_model.specs.Speech.{Gives, Id}
use Rattle.ca_model.specs.Legal.{client_conduct}
use Rattle.ca_model.specs.ClientEvents.{TicksOne}
use Rattle.ca_model.specs.Events.{Event}
use Rattle.ca_model.specs.Events as event
use Rattle.ca_model.specs.Runs.{AreEvents, Happens, Runs, StopsAt, clients_below}
use Rattle.ca_model.specs.World.{ClientSide, IsSetting, Joined, Setting, World, circuit_of, opening}
use Rattle.ca_laws_parts.proofs.ServerSpeaking.{runs-hear}
use Rattle.ca_laws_parts.proofs.WritesLists.{none_at}
use Rattle.ca_laws_runs.specs.LegalIds.{ClientsGiveFreeIds, GivesFreeIds}
use Rattle.ca_laws_runs.proofs.Created.{reached-created}
use Rattle.ca_laws_runs.proofs.Joint.{are-snoc, folds-snoc}
use Rattle.ca_laws_runs.proofs.LegalCancels.{run-all-cancels}
use Rattle.ca_laws_runs.proofs.LegalIdsFreed.{FreeOn, back, free-forth, freed-now}
use Rattle.ca_laws_parts.proofs.Given.{HeldBy}
use Rattle.ca_laws_runs.proofs.LegalIdsGoing.{AllStep, IsFreedNever, IsFreedNow, event-ids, ids-tick}
use Rattle.ca_laws_runs.proofs.LegalRead.{run-read}
use Rattle.ca_laws_runs.proofs.LostRuns.{known-runs}
use Rattle.ca_laws_runs.proofs.OrderGrows.{ticks-grown}
use Rattle.ca_laws_runs.proofs.OrderKeeps.{run-server-steps}
use Rattle.ca_laws_runs.proofs.ToldGrows.{Onward, WorldsOn, event-on, on-grown, onward-self}

-- On each circuit ids are given only if they are free.
abbrev pub AllFree : World → Type 0
AllFree w = (n : ℕ) (c : Joined) → At w.circuits n c → FreeOn c.lists

-- Each id that was given on a circuit whose end is open is free again, or held.
abbrev pub AllHeldOr : World → Type 0
AllHeldOr w = (n : ℕ) (c : Joined) (x : ClientSide) → At w.circuits n c → At w.clients c.client x → c.lists.client_open ≡ true → (l : ℕ) (s : Sent) (id : Id) → At c.lists.up l s → Gives s.message id
    → IsFree (client_conduct c.lists) l (length c.lists.up) ⊎ HeldBy c.at_client x.core s.message id

abbrev Both : World → Type 0
Both w = AllFree w × AllHeldOr w

-- ---- one event

module _ (Freed : (c d : Joined) → ClientSide → Fields → Id → Type 0) (w new : World) (on : WorldsOn w new) (steps : AllStep Freed w new)
    (frees : (n : ℕ) (c d : Joined) (x : ClientSide) → At w.circuits n c → Onward c d → At w.clients c.client x → c.lists.client_open ≡ true → (l : ℕ) (s : Sent) (id : Id) → At c.lists.up l s → Gives s.message id → Freed c d x s.message id
    → IsFree (client_conduct d.lists) l (length c.lists.up)) (both : Both w) where
  onward : (n : ℕ) (c d : Joined) → At w.circuits n c → At new.circuits n d → Onward c d
  onward n c d at_c at_d = (let o = on.circuits n c at_c in subst (λ (v : Joined). Onward c v) (At-one new.circuits n o.0 d o.1 at_d) o.2)

  -- what was sent before was sent on a circuit that was there
  was-there : (n : ℕ) (c : Joined) (l : ℕ) (s : Sent) → At w.circuits n c ⊎ (c.lists.up ≡ []) → At c.lists.up l s → At w.circuits n c
  was-there n c l s (inl there) at = there
  was-there n c l s (inr empty) at = absurd (none_at l s (subst (λ (v : List Sent). At v l s) empty at))

  longer : (c d : Joined) → ((p : ℕ) (s : Sent) → At c.lists.up p s → At d.lists.up p s) → length c.lists.up ≤ length d.lists.up
  longer c d up = elim (At-or c.lists.up (length d.lists.up)) [
    | inr past ↦ past
    | inl v ↦ absurd (let lt : length d.lists.up < length d.lists.up = At-within d.lists.up (length d.lists.up) v.0 (up (length d.lists.up) v.0 v.1) in omega (arith, lt))
  ]

  old-at : (c d : Joined) → ((p : ℕ) (s : Sent) → At c.lists.up p s → At d.lists.up p s) → (p : ℕ) (s : Sent) → At d.lists.up p s
      → At c.lists.up p s ⊎ (length c.lists.up ≤ p)
  old-at c d up p s at = elim (At-or c.lists.up p) [
    | inr past ↦ inr past
    | inl v ↦ inl (subst (λ (y : Sent). At c.lists.up p y) (At-one d.lists.up p v.0 s (up p v.0 v.1) at) v.1)
  ]

  free-new : AllFree new
  free-new n d at_d l k s r a b lt at_s at_r gives_s gives_r same =
      let step = steps n d at_d in
      let c : Joined = step.0 in
      elim (old-at c d step.2.up k r at_r) [
        | inl old_r ↦
            let at_c : At w.circuits n c = was-there n c k r step.1 old_r in
            let k_lt : k < length c.lists.up = At-within c.lists.up k r old_r in
            let o : Onward c d = onward n c d at_c at_d in
            free-forth c d o l k k (omega (arith, k_lt)) (omega arith)
            (both.0 n c at_c l k s r a b lt (back c d o l s (omega (arith, lt, k_lt)) at_s) old_r gives_s gives_r same)
        | inr past_k ↦ elim (old-at c d step.2.up l s at_s) [
          | inr past_l ↦ absurd (step.2.once l k s r a b past_l lt at_s at_r gives_s gives_r same)
          | inl old_s ↦
              let at_c : At w.circuits n c = was-there n c l s step.1 old_s in
              let i = step.2.idle k r b past_k at_r gives_r in
              elim (both.1 n c i.0 at_c i.1 i.2 l s a old_s gives_s) [
                | inl is_free ↦ free-forth c d (onward n c d at_c at_d) l (length c.lists.up) k (omega arith) past_k is_free
                | inr held ↦ absurd (i.3 a s.message held same)
              ]
        ]
      ]

  held-new : AllHeldOr new
  held-new n d y at_d at_y opened l s id at_s gives =
      let step = steps n d at_d in
      let c : Joined = step.0 in
      let h = step.2.held y at_y opened in
      let le : length c.lists.up ≤ length d.lists.up = longer c d step.2.up in
      elim (old-at c d step.2.up l s at_s) [
        | inr past ↦ inr (h.4 l s id past at_s gives)
        | inl old ↦
            let at_c : At w.circuits n c = was-there n c l s step.1 old in
            let o : Onward c d = onward n c d at_c at_d in
            elim (both.1 n c h.0 at_c h.1 h.2 l s id old gives) [
              | inl is_free ↦ inl (free-forth c d o l (length c.lists.up) (length d.lists.up) (omega arith) le is_free)
              | inr held ↦ elim (h.3 s.message id held) [
                | inl stays ↦ inr stays
                | inr gone ↦
                    inl (free-forth d d (onward-self d) l (length c.lists.up) (length d.lists.up) le le (frees n c d h.0 at_c o h.1 h.2 l s id old gives gone))
              ]
            ]
      ]

  both-new : Both new
  both-new = (free-new, held-new)

-- ---- a moment

ticks-both : (moment : ℕ) (is : List ℕ) (w new : World) → FoldsTo (TicksOne moment) w is new → Both w → Both new
ticks-both moment [] w new folds both = subst (λ (v : World). Both v) folds both
ticks-both moment (i ∷ is) w new (mid, one, rest) both =
    ticks-both moment is mid new rest
    (both-new IsFreedNever w mid (on-grown w mid (ticks-grown moment w (i ∷ []) mid (mid, one, refl))) (ids-tick IsFreedNever moment w i mid one) (λ n c d x at_c o at_x opened l s id at gives never. absurd never) both)

-- ---- every run

after-ids : (s : Setting) (es rest : List Event) (w new : World) → IsSetting s → AreEvents es → AreEvents rest → FoldsTo Happens (opening s) es w
    → FoldsTo Happens w rest new → Both w → Both new
after-ids s es [] w new ok are more folds same both = subst (λ (v : World). Both v) same both
after-ids s es (e ∷ rest) w new ok are more folds (mid, one, others) both =
    let longer : AreEvents (es ++ e ∷ []) = are-snoc es e are (more 0 e refl) in
    let runs : Runs s es None w = (w, folds, refl) in
    let then_so : FoldsTo Happens (opening s) (es ++ e ∷ []) mid = folds-snoc es (opening s) w mid e folds one in
    let on : WorldsOn w mid = event-on w mid e one in
    let known = known-runs s es None w ok are runs in
    let read = run-read s es None w ok are runs in
    let next : Both mid = elim (event-ids w mid e known.stands (runs-hear s es None w ok are runs) one (λ n c at. (let o = on.circuits n c at in (o.0, o.1, o.2.down)))) [
      | inl steps ↦
          both-new IsFreedNow w mid on steps
          (λ n c d x at_c o at_x opened l q id at gives now.
          freed-now w known (run-all-cancels s es None w ok are runs) (reached-created w (s, es, None, ok, runs)) n c x at_c at_x opened (read.0 n c at_c) (read.1 n c at_c) (both.0 n c at_c) d o l q id at gives now) both
      | inr ticked ↦
          let b : Both ticked.2 = ticks-both ticked.0 ticked.1 w ticked.2 ticked.3 both in
          subst (λ (v : World). Both v) (sym ticked.4) (λ n c at. b.0 n c at, λ n c x at at_x opened. b.1 n c x at at_x opened)
    ] in
    after-ids s (es ++ e ∷ []) rest mid new ok longer (λ i f at. more (suc i) f at) then_so others next

pub run-both : (s : Setting) (es : List Event) (stopped : Option Event) (w : World) → IsSetting s → AreEvents es → Runs s es stopped w → Both w
run-both s es stopped w ok are (mid, folds, stops) = stop stopped stops
  where
    both : Both mid
    both = after-ids s [] es (opening s) mid ok (λ i e at. absurd (none_at i e at)) are refl folds (λ n c at. absurd (none_at n c at), λ n c x at. absurd (none_at n c at))

    stop : (stopped : Option Event) → StopsAt mid stopped w → Both w
    stop (Some (event.Tick moment)) stops = elim stops [
      | inl same ↦ subst (λ (v : World). Both v) (sym same) both
      | inr ticked ↦ ticks-both moment (clients_below ticked.0) mid w ticked.3 both
    ]
    stop stopped stops = subst (λ (v : World). Both v) (sym stops) both

-- ---- what the statement says

gives-free : (c : Circuit) → FreeOn c → GivesFreeIds (client_conduct c)
gives-free c free l k r m a b lt at_r at_m gives_r gives_m same =
    let s = At-mapped (λ (z : Sent). z.message) c.up l r at_r in
    let t = At-mapped (λ (z : Sent). z.message) c.up k m at_m in
    free l k s.0 t.0 a b lt s.1 t.1 (subst (λ (z : Fields). Gives z a) s.2 gives_r) (subst (λ (z : Fields). Gives z b) t.2 gives_m) same

pub run-ids : (s : Setting) (es : List Event) (stopped : Option Event) (w : World) → IsSetting s → AreEvents es → Runs s es stopped w
    → ClientsGiveFreeIds w
run-ids s es stopped w ok fine runs n d at =
    let j = At-mapped circuit_of w.circuits n d at in
    let l = run-server-steps s es stopped w ok runs n d at in
    (l.0, l.1, l.2, subst (λ (v : Circuit). GivesFreeIds (client_conduct v)) (sym j.2) (gives-free j.0.lists ((run-both s es stopped w ok fine runs).0 n j.0 j.1)))
