-- A subscription that is on a live channel has its EVENT_ADD after that channel's last CREATE_CHAN,
-- over every event and run.
use Rattle.std.proofs.Common.{◌≡◌, ℕ, suc, ◌<◌, ◌≤◌, inl, inr, true, List, [], ◌∷◌, ◌++◌, length, Option, Some, None, refl, sym, ap, ◌∙◌, subst, arith}
use Rattle.std.specs.List.{FoldsTo}
use Rattle.ca_text.specs.Place.{At}
use Rattle.ca_text.proofs.Places.{At-one, At-or, At-within}
use Rattle.ca_arena.specs.declared.handle.Handle.{Handle}
use Rattle.ca_model.specs.History.{Ask, Create, On, Sent, Step, Subscribe, Told}
use Rattle.ca_model.specs.ClientEvents.{channel_number, meant_by}
use Rattle.ca_model.specs.Events.{Event}
use Rattle.ca_model.specs.Events as event
use Rattle.ca_model.specs.Runs.{AreEvents, Happens, Runs, StopsAt, clients_below}
use Rattle.ca_model.specs.World.{ClientSide, IsSetting, Joined, Setting, World, opening}
use Rattle.ca_laws_parts.proofs.ServerSpeaking.{runs-hear}
use Rattle.ca_laws_parts.proofs.WritesLists.{none_at}
use Rattle.ca_laws_runs.specs.Anew.{IsAddedSince, SubscriptionsAreAddedAnew}
use Rattle.ca_laws_runs.specs.Under.{IsUse}
use Rattle.ca_laws_runs.proofs.Joint.{are-snoc, folds-snoc}
use Rattle.ca_laws_runs.proofs.LostRuns.{known-runs}
use Rattle.ca_laws_runs.proofs.OrderGrows.{ticks-grown}
use Rattle.ca_laws_runs.proofs.Spent.{Known, ReadOn, ReadsBack, read-early, reads-event, reads-lasting}
use Rattle.ca_laws_runs.proofs.Stood.{IsStood}
use Rattle.ca_laws_runs.proofs.StoodGoing.{AddsBack, adds-still, ends-grown, event-adds, stay-still, ticks-still}
use Rattle.ca_laws_runs.proofs.ToldGrows.{WorldsOn, event-on, on-grown}

-- Of each subscription that is on a live channel the EVENT_ADD was sent, and since then no
-- CREATE_CHAN of its channel.
abbrev pub AllAdded : World → Type 0
AllAdded w = (n : ℕ) (c : Joined) (x : ClientSide) (g h : Handle) → At w.circuits n c → At w.clients c.client x → c.lists.client_open ≡ true → IsStood x.core c.at_client g h
    → (a m : ℕ) × (meant_by x.names.subscriptions g ≡ On a (Subscribe m)) × IsAddedSince c.lists.up a m

create-used : (ask : Ask) → ask ≡ Create → IsUse ask → ⊥
create-used ask is uses = subst (λ (z : Ask). IsUse z) is uses

number-of : (a b : ℕ) (p q : Ask) → On a p ≡ On b q → a ≡ b
number-of a b p q e = cc

pub added-on : (w new : World) → Known w → Known new → AddsBack w new → WorldsOn w new → ReadsBack w new → AllAdded w → AllAdded new
added-on w new known now adds on back all n d y g h at at_y opened it =
    let sid : ℕ = it.live.0 in
    let b = (now.sided.sides n d y at at_y opened).lives h sid it.live.1 in
    let created = b.3 in
    let tidy = (now.quiet.tidy d.client y at_y).subscriptions g it.d it.there in
    let number : ℕ = channel_number y.names h in
    let meant : meant_by y.names.subscriptions g ≡ On number (Subscribe tidy.0) = tidy.2 ∙ ap (λ (k : Handle). On (channel_number y.names k) (Subscribe tidy.0)) it.to in
    elim (adds n d y g h at at_y opened it) [
      | inr (inr empty) ↦ absurd (let e : length d.lists.heard ≡ 0 = ap (λ (l : List Step). length l) empty in let lt : b.0 < length d.lists.heard = b.2 in omega (arith, e, lt))
      | inr (inl new_add) ↦
          let first : b.1 < length (new_add.0).lists.up = early (new_add.0) new_add.3 b.0 created.t b.2 created.told.0 b.1 created.told.1 in
          let from : length (new_add.0).lists.up ≤ new_add.1 = new_add.4 in (
            number,
            tidy.0,
            meant,
            (
              new_add.1,
              new_add.2,
              new_add.5,
              new_add.6 ∙ meant,
              λ p q lt at_q is_q. create-used Create refl (created.since p q Create (omega (arith, first, from, lt)) (At-within d.lists.up p q at_q) at_q is_q),
            ),
          )
      | inl old ↦
          let c : Joined = old.0 in
          let was = all n c (old.1) g h old.2 old.3 old.4 old.5 in
          let first : b.1 < length c.lists.up = early c old.2 b.0 created.t b.2 created.told.0 b.1 created.told.1 in
          let a_is : was.0 ≡ number = number-of was.0 number (Subscribe was.1) (Subscribe tidy.0) (sym was.2 ∙ sym old.6 ∙ meant) in (
            was.0,
            was.1,
            old.6 ∙ was.2,
            (
              was.3.0,
              was.3.1,
              up c old.2 was.3.0 was.3.1 was.3.2,
              was.3.3,
              λ p q lt at_q is_q. elim (At-or c.lists.up p) [
                | inl before ↦
                    let same : before.0 ≡ q = At-one d.lists.up p before.0 q (up c old.2 p before.0 before.1) at_q in
                    was.3.4 p q lt (subst (λ (v : Sent). At c.lists.up p v) same before.1) is_q
                | inr past ↦ create-used Create refl (created.since p q Create (omega (arith, first, past)) (At-within d.lists.up p q at_q) at_q (is_q ∙ ap (λ (z : ℕ). On z Create) a_is))
              ],
            ),
          )
    ]
  where
    grows : (c : Joined) → At w.circuits n c → ((p : ℕ) (s : Sent) → At c.lists.up p s → At d.lists.up p s) × ((i : ℕ) (t : Told) → At c.lists.down i t → At d.lists.down i t)
    grows c on_c =
        let o = on.circuits n c on_c in
        let one : o.0 ≡ d = At-one new.circuits n o.0 d o.1 at in
        (λ p s there. subst (λ (z : Joined). At z.lists.up p s) one (o.2.up p s there), λ i t there. subst (λ (z : Joined). At z.lists.down i t) one (o.2.down i t there))

    up : (c : Joined) → At w.circuits n c → (p : ℕ) (s : Sent) → At c.lists.up p s → At d.lists.up p s
    up c on_c p s there = (grows c on_c).0 p s there

    -- what was read is about what was sent before
    early : (c : Joined) → At w.circuits n c → (j : ℕ) (t : Told) → j < length d.lists.heard → At d.lists.down j t → (k : ℕ) → t.place ≡ k → k < length c.lists.up
    early c on_c j t lt there k is = elim (back n d at) [
      | inr empty ↦ absurd (let e : length d.lists.heard ≡ 0 = ap (λ (l : List Step). length l) empty in omega (arith, e, lt))
      | inl r ↦
          let same : r.0 ≡ c = At-one w.circuits n r.0 c r.1 on_c in
          subst (λ (v : ℕ). v < length c.lists.up) is (read-early w known n c d on_c (subst (λ (v : Joined). ReadOn v d) same r.3) (λ i u was. (grows c on_c).1 i u was) j t lt there)
    ]

-- ---- events and runs

runs-folds : (s : Setting) (es : List Event) (w : World) → Runs s es None w → FoldsTo Happens (opening s) es w
runs-folds s es w (mid, folds, same) = subst (λ (v : World). FoldsTo Happens (opening s) es v) (sym same) folds

after-added : (s : Setting) (es rest : List Event) (w new : World) → IsSetting s → AreEvents es → AreEvents rest → FoldsTo Happens (opening s) es w → FoldsTo Happens w rest new → AllAdded w → AllAdded new
after-added s es [] w new ok are more folds same all = subst (λ (v : World). AllAdded v) same all
after-added s es (e ∷ rest) w new ok are more folds (mid, one, others) all =
    let longer : AreEvents (es ++ e ∷ []) = are-snoc es e are (more 0 e refl) in
    let runs : Runs s es None w = (w, folds, refl) in
    let then_so : FoldsTo Happens (opening s) (es ++ e ∷ []) mid = folds-snoc es (opening s) w mid e folds one in
    let known : Known w = known-runs s es None w ok are runs in
    after-added s (es ++ e ∷ []) rest mid new ok longer (λ i f at. more (suc i) f at) then_so others
    (added-on w mid known (known-runs s (es ++ e ∷ []) None mid ok longer (mid, then_so, refl)) (event-adds w mid e known.stands known.quiet one) (event-on w mid e one) (reads-event w mid e (runs-hear s es None w ok are runs) one) all)

pub run-all-added : (s : Setting) (es : List Event) (stopped : Option Event) (w : World) → IsSetting s → AreEvents es → Runs s es stopped w → AllAdded w
run-all-added s es stopped w ok are (mid, folds, stops) = stop stopped (known-runs s es stopped w ok are (mid, folds, stops)) stops
  where
    all : AllAdded mid
    all = after-added s [] es (opening s) mid ok (λ i e at. absurd (none_at i e at)) are refl folds (λ n c x g h at. absurd (none_at n c at))

    stop : (stopped : Option Event) → Known w → StopsAt mid stopped w → AllAdded w
    stop (Some (event.Tick moment)) now stops = elim stops [
      | inl same ↦ subst (λ (v : World). AllAdded v) (sym same) all
      | inr ticked ↦
          let grown = ticks-grown moment mid (clients_below ticked.0) w ticked.3 in
          added-on mid w (known-runs s es None mid ok are (mid, folds, refl)) now
          (adds-still mid w (stay-still mid w (ticks-still moment (clients_below ticked.0) mid w ticked.3)) (ends-grown mid w grown)) (on-grown mid w grown) (reads-lasting mid w grown) all
    ]
    stop stopped now stops = subst (λ (v : World). AllAdded v) (sym stops) all

pub run-added-renewed : (s : Setting) (es : List Event) (stopped : Option Event) (w : World) → IsSetting s → AreEvents es → Runs s es stopped w → SubscriptionsAreAddedAnew w
run-added-renewed s es stopped w ok are runs k sid j x g d at at_x opened there stands live =
    run-all-added s es stopped w ok are runs k j x g d.channel at at_x opened (record { d = d; there = there; stands = stands; to = refl; live = (sid, live) })
