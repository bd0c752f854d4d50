-- An EVENT_CANCEL is for an EVENT_ADD on its channel that was not cancelled, of every run.
use Rattle.std.proofs.Common.{◌≡◌, ℕ, suc, ◌<◌, inl, inr, true, false, ◌&&◌, List, [], ◌∷◌, ◌++◌, length, Option, Some, None, refl, sym, ap, ◌∙◌, subst, arith}
use Rattle.std.specs.Prelude.{option_map, unwrap_or}
use Rattle.std.specs.List.{FoldsTo}
use Rattle.std.proofs.lemmas.Bool.{and_from, or_right}
use Rattle.ca_text.specs.declared.command.Command.TheVariants as command
use Rattle.ca_text.specs.Place.{At}
use Rattle.ca_text.proofs.Places.{At-map, At-mapped, At-one, At-or, At-within, some_is}
use Rattle.ca_arena.specs.declared.handle.Handle.{Handle}
use Rattle.ca_ids.specs.Table.{under}
use Rattle.ca_ids.specs.Wire.{wire_of}
use Rattle.ca_monitor.specs.Subscriptions.{Stage, Subscription, drains_in, stands_in}
use Rattle.ca_wire.specs.Fields.{Fields}
use Rattle.ca_model.specs.Client.{Channel, Live, is_on_in}
use Rattle.ca_model.specs.History.{Ask, Cancel, Circuit, Create, Intent, On, Sent, Subscribe, Told}
use Rattle.ca_model.specs.History as history
use Rattle.ca_model.specs.Speech.{Gives, Is, SubId, sid_in}
use Rattle.ca_model.proofs.Standings.{is-on}
use Rattle.ca_model.proofs.Thinner.{three-ways}
use Rattle.ca_model.specs.Channels.{Suits, named}
use Rattle.ca_model.specs.Legal.{client_conduct}
use Rattle.ca_model.specs.ClientEvents.{cancelled, meant_by}
use Rattle.ca_model.specs.Events.{Event}
use Rattle.ca_model.specs.Events as event
use Rattle.ca_model.specs.Runs.{AreEvents, Happens, Runs, StopsAt, clients_below}
use Rattle.ca_model.specs.World.{ClientSide, IsSetting, Joined, Setting, World, circuit_of, opening}
use Rattle.ca_laws_parts.specs.Held.{has_id, is_subscribed}
use Rattle.ca_laws_parts.proofs.Refused.{sub-named}
use Rattle.ca_laws_parts.specs.Kept.{kept}
use Rattle.ca_laws_parts.specs.Circuit.{HeldOn}
use Rattle.ca_laws_parts.proofs.WritesLists.{none_at}
use Rattle.ca_laws_runs.specs.Anew.{IsAddedSince}
use Rattle.ca_laws_runs.specs.Created.{CreatedOn}
use Rattle.ca_laws_runs.specs.LegalParts.{CancelsWhatWasAdded, ClientsCancelWhatWasAdded}
use Rattle.ca_laws_runs.specs.Quiet.{IsNamedIn, StageIn, Tidy}
use Rattle.ca_laws_runs.specs.Under.{AreUnder, IsCreatedBefore, IsUse}
use Rattle.ca_laws_runs.proofs.AddedSince.{AllAdded, run-all-added}
use Rattle.ca_laws_runs.proofs.CancelsSaid.{CancelsBack, IsCancelling, event-says, ticks-says}
use Rattle.ca_laws_runs.proofs.Created.{reached-created}
use Rattle.ca_laws_runs.proofs.Joint.{are-snoc, folds-snoc, run-sided}
use Rattle.ca_laws_runs.proofs.LostRuns.{known-runs}
use Rattle.ca_laws_runs.proofs.OrderGrows.{ticks-grown}
use Rattle.ca_laws_runs.proofs.OrderKeeps.{run-server-steps}
use Rattle.ca_laws_runs.proofs.Phased.{standing-stage}
use Rattle.ca_laws_runs.proofs.Says.{subscribed-at}
use Rattle.ca_laws_runs.proofs.Spent.{Known}
use Rattle.ca_laws_runs.proofs.StepWhole.{run-serves}
use Rattle.ca_laws_runs.proofs.ToldGrows.{WorldsOn, event-on, on-grown}

-- The EVENT_CANCEL at place k is for the EVENT_ADD at place l: between them the channel was not
-- created, and nothing gave the id; and it is the first for that subscription.
pub record IsCancelOf (up : List Sent) (k a m : ℕ) (s : Sent) : Type 0 where
  pub l : ℕ
  pub r : Sent
  pub early : l < k
  pub at : At up l r
  pub adds : r.intent ≡ On a (Subscribe m)
  pub gives : Gives r.message (SubId s.message.p2)
  pub apart : (p : ℕ) (q : Sent) → l < p → p < k → At up p q → q.intent ≡ On a Create → ⊥
  pub own : (p : ℕ) (q : Sent) → l < p → p < k → At up p q → Gives q.message (SubId s.message.p2) → ⊥
  pub first : (p b : ℕ) (q : Sent) → p < k → At up p q → q.intent ≡ On b (Cancel m) → ⊥

abbrev pub AllCancels : World → Type 0
AllCancels w = (n : ℕ) (c : Joined) (k a m : ℕ) (s : Sent) → At w.circuits n c → At c.lists.up k s → s.intent ≡ On a (Cancel m) → IsCancelOf c.lists.up k a m s

cancel-parts : (a b m l : ℕ) → On a (Cancel m) ≡ On b (Cancel l) → (a ≡ b) × (m ≡ l)
cancel-parts a b m l e = (cc, cc)

pub add-parts : (a b m l : ℕ) → On a (Subscribe m) ≡ On b (Subscribe l) → (a ≡ b) × (m ≡ l)
add-parts a b m l e = (cc, cc)

add-create : (a b m : ℕ) → On a (Subscribe m) ≡ On b Create → ⊥
add-create a b m e = cc

create-used : (ask : Ask) → ask ≡ Create → IsUse ask → ⊥
create-used ask is uses = subst (λ (z : Ask). IsUse z) is uses

abbrev pair-intent : Handle × Intent → Intent
pair-intent e = e.1

-- ---- the event that sends it

module _ (w new : World) (known : Known w) (added : AllAdded w) (n k a m : ℕ) (s : Sent) (z : IsCancelling w new n k s) (is : s.intent ≡ On a (Cancel m)) where
  abbrev up : List Sent
  up = ((z.c).lists).up

  abbrev d : Subscription
  d = (z.stood).d

  tidy : Tidy (z.x).names (z.x).core
  tidy = known.quiet.tidy (z.c).client z.x z.at

  held-so : HeldOn (kept w n) (z.x).names (z.x).core z.c
  held-so =
      let h = known.held n z.c z.on in
      let joined : h.0 ≡ z.c = At-one w.circuits n h.0 z.c h.2 z.on in
      let holder : h.1 ≡ z.x = At-one w.clients (z.c).client h.1 z.x (subst (λ (v : Joined). At w.clients v.client h.1) joined h.3) z.at in
      subst (λ (v : Joined × ClientSide). HeldOn (kept w n) v.1.names v.1.core v.0) (λ i. (joined i, holder i)) h.4

  since : (b l : ℕ) × (meant_by (z.x).names.subscriptions z.g ≡ On b (Subscribe l)) × IsAddedSince up b l
  since = added n z.c z.x z.g z.h z.on z.at z.opened z.stood

  abbrev l : ℕ
  l = since.3.0

  abbrev r : Sent
  r = since.3.1

  parts : (since.0 ≡ a) × (since.1 ≡ m)
  parts = cancel-parts since.0 a since.1 m (sym (z.meant ∙ ap cancelled since.2) ∙ is)

  named-at : At (z.x).names.subscriptions since.1 (z.g, On since.0 (Subscribe since.1))
  named-at = subscribed-at (z.x).names (z.x).core z.g since.0 since.1 tidy since.2

  -- the EVENT_ADD gives the id
  r-gives : Gives r.message (SubId (wire_of z.g))
  r-gives =
      let f = (known.quiet.quiet n z.c z.x z.on z.at z.opened).ids l r since.3.2 since.0 since.1 (inl since.3.3) in
      let one = At-one (z.x).names.subscriptions since.1 (f.0, f.1) (z.g, On since.0 (Subscribe since.1)) f.2 named-at in (
        subst (λ (i : Intent). Suits i r.message) since.3.3 (held-so.flows.asked l r since.3.2),
        f.3 ∙ ap (λ (e : Handle × Intent). wire_of e.0) one,
      )

  here : has_id (z.x).core.channels (z.c).at_client d ≡ true
  here =
      let live = ((z.stood).live).1 in
      let on_it : unwrap_or (option_map (is_on_in is_subscribed (z.c).at_client) (under (z.x).core.channels d.channel)) false ≡ true =
      ap (λ (o : Option Channel). unwrap_or (option_map (is_on_in is_subscribed (z.c).at_client) o) false) (ap (λ (h : Handle). under (z.x).core.channels h) (z.stood).to ∙ live.there)
      ∙ is-on is_subscribed (z.c).at_client live.ch (Live live.native live.rights) live.stands in
      or_right (drains_in (z.c).at_client d.stage) (stands_in d.stage && unwrap_or (option_map (is_on_in is_subscribed (z.c).at_client) (under (z.x).core.channels d.channel)) false)
      (and_from (stands_in d.stage) (unwrap_or (option_map (is_on_in is_subscribed (z.c).at_client) (under (z.x).core.channels d.channel)) false) (z.stood).stands on_it)

  given : (j number : ℕ) × (q : Sent) × At up j q × Gives q.message (SubId (wire_of z.g)) × (named (SubId (wire_of z.g)) q.intent ≡ Some number) × (named (SubId (wire_of z.g)) (meant_by (z.x).names.subscriptions z.g) ≡ Some number)
      × ((p : ℕ) (v : Sent) → j < p → At up p v → Gives v.message (SubId (wire_of z.g)) → ⊥)
  given =
      let own = (held-so.holds z.opened).subscriptions.own z.g d (z.stood).there here in
      (own.0, own.1, own.2.0, own.2.1, own.2.2, own.2.3, own.3, own.2.4)

  number-is : since.1 ≡ given.1
  number-is = some_is since.1 given.1 (ap (named (SubId (wire_of z.g))) (sym since.2) ∙ given.6)

  -- what gave the id last is an EVENT_ADD of it
  giver : (given.2).intent ≡ On since.0 (Subscribe since.1)
  giver = elim (sub-named (wire_of z.g) (given.2).intent given.1 given.5) [
    | inr cancels ↦
        let suits : Is command.EventCancel (given.2).message = subst (λ (i : Intent). Suits i (given.2).message) cancels.1 (held-so.flows.asked given.0 given.2 given.3) in
        absurd (let e : ◌≡◌ {A = ℕ} 2 1 = sym suits ∙ given.4.0 in omega (arith, e))
    | inl adds ↦
        let name : IsNamedIn (z.x).names (On adds.0 (Subscribe given.1)) = subst (λ (i : Intent). IsNamedIn (z.x).names i) adds.1 ((known.quiet.quiet n z.c z.x z.on z.at z.opened).named given.0 given.2 given.3) in
        let one = At-one (z.x).names.subscriptions given.1 (name.0, On adds.0 (Subscribe given.1)) (z.g, On since.0 (Subscribe since.1)) name.1
        (subst (λ (v : ℕ). At (z.x).names.subscriptions v (z.g, On since.0 (Subscribe since.1))) number-is named-at) in
        adds.1 ∙ ap pair-intent one
  ]

  same-place : given.0 ≡ l
  same-place = elim (three-ways given.0 l) [
    | inl less ↦ absurd (given.7 l r less since.3.2 r-gives)
    | inr (inl same) ↦ same
    | inr (inr more) ↦
        let b = known.quiet.apart n z.c z.on l given.0 since.0 since.1 r given.2 more since.3.2 given.3 since.3.3 giver in
        absurd (since.3.4 b.0 b.1 b.2 b.4 b.5)
  ]

  none-cancelled : (p b : ℕ) (q : Sent) → At up p q → q.intent ≡ On b (Cancel m) → ⊥
  none-cancelled p b q at_q is_q =
      let stage : StageIn (z.c).at_client up since.1 d.stage = (known.quiet.quiet n z.c z.x z.on z.at z.opened).subscriptions z.g d since.0 since.1 (z.stood).there since.2 in
      (subst (λ (v : Stage). StageIn (z.c).at_client up since.1 v) (standing-stage d.stage (z.stood).stands) stage) p b q at_q (is_q ∙ ap (λ (v : ℕ). On b (Cancel v)) (sym parts.1))

  pub cancels-now : (now : List Sent) → ((p : ℕ) (q : Sent) → At up p q → At now p q) → ((p : ℕ) (q : Sent) → p < length up → At now p q → At up p q) → IsCancelOf now k a m s
  cancels-now now grows below =
      let place : k ≡ length up = z.place in
      let within : l < length up = At-within up l r since.3.2 in
      record {
        l = l;
        r = r;
        early = omega (arith, place, within);
        at = grows l r since.3.2;
        adds = since.3.3 ∙ (λ i. On (parts.0 i) (Subscribe (parts.1 i)));
        gives = (r-gives.0, r-gives.1 ∙ sym z.wire);
        apart = λ p q lt upto there is_q. since.3.4 p q lt (below p q (omega (arith, place, upto)) there) (is_q ∙ ap (λ (v : ℕ). On v Create) (sym parts.0));
        own = λ p q lt upto there gives_q. given.7 p q (let e : given.0 ≡ l = same-place in omega (arith, e, lt)) (below p q (omega (arith, place, upto)) there) (gives_q.0, gives_q.1 ∙ z.wire);
        first = λ p b q upto there is_q. none-cancelled p b q (below p q (omega (arith, place, upto)) there) is_q;
      }

-- ---- every event

pub cancels-on : (w new : World) → Known w → AllAdded w → CancelsBack w new → WorldsOn w new → AllCancels w → AllCancels new
cancels-on w new known added back on all n d k a m s at at_s is = elim (back n d k s at at_s) [
  | inl other ↦ absurd (other a m is)
  | inr (inl old) ↦
      let c : Joined = old.0 in
      let was = all n c k a m s old.1 old.2 is in
      let within : k < length c.lists.up = At-within c.lists.up k s old.2 in
      record {
        l = was.l;
        r = was.r;
        early = was.early;
        at = grows c old.1 was.l was.r was.at;
        adds = was.adds;
        gives = was.gives;
        apart = λ p q lt upto there is_q. was.apart p q lt upto (below c old.1 p q (omega (arith, upto, within)) there) is_q;
        own = λ p q lt upto there gives_q. was.own p q lt upto (below c old.1 p q (omega (arith, upto, within)) there) gives_q;
        first = λ p b q upto there is_q. was.first p b q upto (below c old.1 p q (omega (arith, upto, within)) there) is_q;
      }
  | inr (inr z) ↦ cancels-now w new known added n k a m s z is d.lists.up (grows z.c z.on) (below z.c z.on)
]
  where
    grows : (c : Joined) → At w.circuits n c → (p : ℕ) (q : Sent) → At c.lists.up p q → At d.lists.up p q
    grows c on_c p q there =
        let o = on.circuits n c on_c in
        let one : o.0 ≡ d = At-one new.circuits n o.0 d o.1 at in
        subst (λ (v : Joined). At v.lists.up p q) one (o.2.up p q there)

    below : (c : Joined) → At w.circuits n c → (p : ℕ) (q : Sent) → p < length c.lists.up → At d.lists.up p q → At c.lists.up p q
    below c on_c p q lt there = elim (At-or c.lists.up p) [
      | inr past ↦ absurd (omega (arith, past, lt))
      | inl v ↦ subst (λ (y : Sent). At c.lists.up p y) (At-one d.lists.up p v.0 q (grows c on_c p v.0 v.1) there) v.1
    ]

after-cancels : (s : Setting) (es rest : List Event) (w new : World) → IsSetting s → AreEvents es → AreEvents rest → FoldsTo Happens (opening s) es w → FoldsTo Happens w rest new → AllCancels w → AllCancels new
after-cancels s es [] w new ok are more folds same all = subst (λ (v : World). AllCancels v) same all
after-cancels s es (e ∷ rest) w new ok are more folds (mid, one, others) all =
    let longer : AreEvents (es ++ e ∷ []) = are-snoc es e are (more 0 e refl) in
    let runs : Runs s es None w = (w, folds, refl) in
    let then_so : FoldsTo Happens (opening s) (es ++ e ∷ []) mid = folds-snoc es (opening s) w mid e folds one in
    let known : Known w = known-runs s es None w ok are runs in
    let now : Known mid = known-runs s (es ++ e ∷ []) None mid ok longer (mid, then_so, refl) in
    after-cancels s (es ++ e ∷ []) rest mid new ok longer (λ i f at. more (suc i) f at) then_so others
    (cancels-on w mid known (run-all-added s es None w ok are runs) (event-says w mid e known.stands known.quiet now.quiet one) (event-on w mid e one) all)

pub run-all-cancels : (s : Setting) (es : List Event) (stopped : Option Event) (w : World) → IsSetting s → AreEvents es → Runs s es stopped w → AllCancels w
run-all-cancels s es stopped w ok are (mid, folds, stops) = stop stopped stops
  where
    all : AllCancels mid
    all = after-cancels s [] es (opening s) mid ok (λ i e at. absurd (none_at i e at)) are refl folds (λ n c k a m q at. absurd (none_at n c at))

    stop : (stopped : Option Event) → StopsAt mid stopped w → AllCancels w
    stop (Some (event.Tick moment)) stops = elim stops [
      | inl same ↦ subst (λ (v : World). AllCancels v) (sym same) all
      | inr ticked ↦
          cancels-on mid w (known-runs s es None mid ok are (mid, folds, refl)) (run-all-added s es None mid ok are (mid, folds, refl)) (ticks-says moment (clients_below ticked.0) mid w ticked.3)
          (on-grown mid w (ticks-grown moment mid (clients_below ticked.0) w ticked.3)) all
    ]
    stop stopped stops = subst (λ (v : World). AllCancels v) (sym stops) all

-- ---- what the statement says

-- an EVENT_CANCEL is meant to cancel
pub cancel-is : (i : Intent) (m : Fields) → Suits i m → Is command.EventCancel m → (a number : ℕ) × (i ≡ On a (Cancel number))
cancel-is (On a (Cancel number)) m suits is = (a, number, refl)
cancel-is (On a Create) m suits is = absurd (let e : ◌≡◌ {A = ℕ} 18 2 = sym suits ∙ is in omega (arith, e))
cancel-is (On a history.Clear) m suits is = absurd (let e : ◌≡◌ {A = ℕ} 12 2 = sym suits ∙ is in omega (arith, e))
cancel-is (On a (Subscribe number)) m suits is = absurd (let e : ◌≡◌ {A = ℕ} 1 2 = sym suits ∙ is in omega (arith, e))
cancel-is (On a (history.Request history.Read number)) m suits is = absurd (let e : ◌≡◌ {A = ℕ} 15 2 = sym suits ∙ is in omega (arith, e))
cancel-is (On a (history.Request history.Put number)) m suits is = absurd (let e : ◌≡◌ {A = ℕ} 19 2 = sym suits ∙ is in omega (arith, e))
cancel-is (On a (history.Request history.Write number)) m suits is = absurd (let e : ◌≡◌ {A = ℕ} 4 2 = sym suits ∙ is in omega (arith, e))
cancel-is history.OfCircuit m suits is = absurd (suits (Cancel 0) is)

module _ (c : Joined) (created : CreatedOn c) (under_so : AreUnder c.lists) (asked : (k : ℕ) (q : Sent) → At c.lists.up k q → Suits q.intent q.message)
    (all : (k a m : ℕ) (s : Sent) → At c.lists.up k s → s.intent ≡ On a (Cancel m) → IsCancelOf c.lists.up k a m s) where
  -- both go under the SID of one creation
  pub same-sid : (k a m : ℕ) (s : Sent) → At c.lists.up k s → s.intent ≡ On a (Cancel m) → (of : IsCancelOf c.lists.up k a m s) → (of.r).message.p1 ≡ s.message.p1
  same-sid k a m s at is of =
      let u = under_so k a s (Cancel m) at is (λ e. cc) in
      let v = under_so of.l a of.r (Subscribe m) of.at of.adds (λ e. cc) in
      let x : IsCreatedBefore c.lists a u.0 u.1 (sid_in s.message) k = u.2 in
      let y : IsCreatedBefore c.lists a v.0 v.1 (sid_in (of.r).message) of.l = v.2 in
      let early : of.l < k = of.early in
      let y_early : v.1 < of.l = y.early in
      let x_early : u.1 < k = x.early in
      let before : u.1 < of.l = elim (three-ways u.1 of.l) [
        | inl less ↦ less
        | inr (inl same) ↦ absurd (add-create a a m (sym of.adds ∙ ap (λ (q : Sent). q.intent) (At-one c.lists.up of.l of.r x.r of.at (subst (λ (p : ℕ). At c.lists.up p x.r) same x.asked.0)) ∙ x.asked.1))
        | inr (inr more) ↦ absurd (of.apart u.1 x.r more x_early x.asked.0 x.asked.1)
      ] in
      let places : u.1 ≡ v.1 = elim (three-ways u.1 v.1) [
        | inl less ↦ absurd (create-used Create refl (x.since v.1 y.r Create less (omega (arith, y_early, early)) y.asked.0 y.asked.1))
        | inr (inl same) ↦ same
        | inr (inr more) ↦ absurd (create-used Create refl (y.since u.1 x.r Create more before x.asked.0 x.asked.1))
      ] in
      let index : u.0 ≡ v.0 = created.once u.0 v.0 (sid_in s.message) (sid_in (of.r).message) x.t y.t x.told.0 y.told.0 x.told.2 y.told.2 x.told.3 y.told.3 (x.told.1 ∙ places ∙ sym y.told.1) in
      let one : x.t ≡ y.t = At-one c.lists.down v.0 x.t y.t (subst (λ (p : ℕ). At c.lists.down p x.t) index x.told.0) y.told.0 in
      sym y.told.3.1 ∙ ap (λ (t : Told). t.message.p2) (sym one) ∙ x.told.3.1

  -- two cancels of one id have EVENT_ADDs of their own
  uncancelled : (k a m i b l : ℕ) (s q : Sent) → At c.lists.up k s → s.intent ≡ On a (Cancel m) → At c.lists.up i q → q.intent ≡ On b (Cancel l) → (of : IsCancelOf c.lists.up k a m s) → of.l < i → i < k → q.message.p2 ≡ (of.r).message.p2 → ⊥
  uncancelled k a m i b l s q at_s is_s at_q is_q of from upto same =
      let o = all i b l q at_q is_q in
      let o_early : o.l < i = o.early in
      elim (three-ways o.l of.l) [
        | inl less ↦ o.own of.l of.r less from of.at (of.gives.0, sym same)
        | inr (inr more) ↦ of.own o.l o.r more (omega (arith, o_early, upto)) o.at (o.gives.0, o.gives.1 ∙ same ∙ of.gives.1)
        | inr (inl one) ↦
            let r_is : o.r ≡ of.r = At-one c.lists.up of.l o.r of.r (subst (λ (p : ℕ). At c.lists.up p o.r) one o.at) of.at in
            let parts = add-parts b a l m (sym o.adds ∙ ap (λ (v : Sent). v.intent) r_is ∙ of.adds) in
            of.first i b q upto at_q (is_q ∙ ap (λ (v : ℕ). On b (Cancel v)) parts.1)
      ]

  pub legal-cancels : CancelsWhatWasAdded (client_conduct c.lists)
  legal-cancels k m at is =
      let s = At-mapped (λ (z : Sent). z.message) c.lists.up k m at in
      let means = cancel-is (s.0).intent (s.0).message (asked k s.0 s.1) (subst (λ (z : Fields). Is command.EventCancel z) s.2 is) in
      let of = all k means.0 means.1 s.0 s.1 means.2 in (
        of.l,
        (of.r).message,
        At-map (λ (z : Sent). z.message) c.lists.up of.l of.r of.at,
        of.gives.0,
        of.early,
        same-sid k means.0 means.1 s.0 s.1 means.2 of ∙ ap (λ (z : Fields). z.p1) (sym s.2),
        of.gives.1 ∙ ap (λ (z : Fields). z.p2) (sym s.2),
        λ i q from upto at_q is_q same_sid same_id.
            let v = At-mapped (λ (z : Sent). z.message) c.lists.up i q at_q in
            let own = cancel-is (v.0).intent (v.0).message (asked i v.0 v.1) (subst (λ (z : Fields). Is command.EventCancel z) v.2 is_q) in
            uncancelled k means.0 means.1 i own.0 own.1 s.0 v.0 s.1 means.2 v.1 own.2 of from upto (ap (λ (z : Fields). z.p2) (sym v.2) ∙ same_id),
      )

pub run-cancels : (s : Setting) (es : List Event) (stopped : Option Event) (w : World) → IsSetting s → AreEvents es → Runs s es stopped w → ClientsCancelWhatWasAdded w
run-cancels s es stopped w ok fine runs n d at =
    let j = At-mapped circuit_of w.circuits n d at in
    let l = run-server-steps s es stopped w ok runs n d at in
    let c : Joined = j.0 in (
      l.0,
      l.1,
      l.2,
      subst (λ (v : Circuit). CancelsWhatWasAdded (client_conduct v)) (sym j.2)
          (legal-cancels c (reached-created w (s, es, stopped, ok, runs) n c j.1) ((run-sided s es stopped w ok fine runs).right n c j.1).under (λ k q there. (run-serves s es stopped w ok runs).stands.asked n k c q j.1 there)
          (λ k a m q there is. run-all-cancels s es stopped w ok fine runs n c k a m q j.1 there is)),
    )
