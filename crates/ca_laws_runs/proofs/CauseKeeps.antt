-- Over every event and run each message of a server comes after what it is about was handled.
use Rattle.std.proofs.Common.{◌≡◌, ℕ, ◌+◌, ◌<◌, ◌≤◌, ◌⊎◌, inl, inr, List, [], ◌∷◌, ◌++◌, length, Option, Some, None, refl, sym, ap, subst, ◌∙◌, arith}
use Rattle.std.specs.Prelude.{option_map, slice_get, slice_set, unwrap_or}
use Rattle.std.specs.List.{FoldsTo}
use Rattle.ca_arena.specs.declared.handle.Handle.{Handle}
use Rattle.ca_text.specs.Place.{At}
use Rattle.ca_text.proofs.Places.{At-append, At-last, At-mapped, At-one, At-or, At-parts, At-set, At-snoc}
use Rattle.ca_wire.specs.Fields.{Fields}
use Rattle.ca_model.specs.Answers.{Closing}
use Rattle.ca_model.specs.History.{Circuit, Reply, Step, Told}
use Rattle.ca_model.specs.ServerSteps.{Stepped}
use Rattle.ca_model.specs.ServerSteps as stepped
use Rattle.ca_model.specs.ClientEvents.{HappensAccept, WantsFirst, connected_as, new_circuit}
use Rattle.ca_model.specs.Events.{Event}
use Rattle.ca_model.specs.Events as event
use Rattle.ca_model.specs.Runs.{Happens, Runs, StopsAt, clients_below}
use Rattle.ca_model.specs.ServerEvents.{ServerStepped, StepHandles, about, acted, ends_by, handled_at, server_after, side_of}
use Rattle.ca_model.specs.ServerEvents as server
use Rattle.ca_model.specs.World.{ClientSide, IsSetting, Joined, ServerSide, Setting, World, circuit_of, log_length, opening, with_circuit}
use Rattle.ca_laws_parts.proofs.Every.{ticks-frame}
use Rattle.ca_laws_parts.proofs.Frames.{Frame}
use Rattle.ca_laws_parts.proofs.HappensClient.{sent-frame}
use Rattle.ca_laws_parts.proofs.WritesLists.{none_at}
use Rattle.ca_laws_runs.specs.Worlds.{ServersStand}
use Rattle.ca_laws_runs.proofs.StepWhole.{event-serves, opening-serves, takes-next}
use Rattle.ca_laws_runs.specs.Causes.{AllComeAfter, ComeAfter, MessagesComeAfter}
use Rattle.ca_laws_runs.specs.OrderSteps.{InOrder, ServersInOrder}
use Rattle.ca_laws_runs.proofs.CauseGrows.{Back, PlacesOn, Removes, acted-back, back-after, event-back, unhandled-back}
use Rattle.ca_laws_runs.proofs.OrderKeeps.{event-served, run-server-steps}

-- ---- what was handled before

-- by the steps that were
before-after : (R : Type 0) (c d : Joined) (up log : ℕ) → InOrder c.lists.handled up (length c.lists.down) log → PlacesOn R c d → ComeAfter c.lists
    → (i : ℕ) (t : Told) → At d.lists.down i t → (h : Step) × At c.lists.handled t.place h × (h.sent ≤ i)
before-after R c d up log order p h i t at = elim (p.told i t at) [
  | inl old ↦ h i t old
  | inr more ↦ elim (At-or c.lists.handled t.place) [
    | inl there ↦ (let le : there.0.sent ≤ length c.lists.down = (order.within t.place there.0 there.1).0 in let from : length c.lists.down ≤ i = more.0 in (there.0, there.1, omega (arith, le, from)))
    | inr past ↦ absurd (let lt : t.place < length c.lists.handled = more.1 in omega (arith, lt, past))
  ]
]

-- a circuit on which nothing is handled
still-after : (R : Type 0) (c d : Joined) (up log : ℕ) → InOrder c.lists.handled up (length c.lists.down) log → PlacesOn R c d → ComeAfter c.lists → ComeAfter d.lists
still-after R c d up log order p h i t at = (let r = before-after R c d up log order p h i t at in (r.0, subst (λ (l : List Step). At l t.place r.0) (sym p.handled) r.1, r.2))

back-after-all : (R : Type 0) (w new : World) → Back R w new → ServersInOrder w → AllComeAfter w → AllComeAfter new
back-after-all R w new back order all l d at =
    let c = back l d at in
    still-after R c.0 d (length c.0.lists.up) (log_length c.0.lists.server w.server_logs) (order l c.0 c.1) c.2 (all l c.0 c.1)

-- ---- a message is handled

module _ (w new : World) (k : ℕ) (j : Joined) (y : ServerSide) (on : At w.circuits k j) (f : StepHandles w k j y new) (order : ServersInOrder w) (all : AllComeAfter w) where
  abbrev did-mid : World
  did-mid = acted k j y (f.steps.0).action w

  abbrev did-after : World
  did-after = server_after j.server (side_of j.server y did-mid) (ends_by j.server f.core) f.core did-mid

  abbrev did-step : Step
  did-step = record { sent = length j.lists.down; logged = server.logged y w; after = server.logged y did-after }

  abbrev place : ℕ
  place = length j.lists.handled

  did-back : Back ⊥ w did-after
  did-back = back-after ⊥ w did-mid j.server (side_of j.server y did-mid) (ends_by j.server f.core) f.core (acted-back ⊥ w k j y (f.steps.0).action on)

  -- the circuit as it is noted
  did-own : (c : Joined) → PlacesOn ⊥ j c → ComeAfter (handled_at place did-step (f.steps.0).replies c).lists
  did-own c p i t at = elim (At-parts c.lists.down (about place Reply (f.steps.0).replies) i t at) [
    | inl old ↦
        let r = before-after ⊥ j c (length j.lists.up) (log_length j.lists.server w.server_logs) (order k j on) p (all k j on) i t old in
        (r.0, At-append c.lists.handled (did-step ∷ []) t.place r.0 (subst (λ (l : List Step). At l t.place r.0) (sym p.handled) r.1), r.2)
    | inr last ↦
        let r = At-mapped (λ (q : Fields). let z : Told = record { message = q; place = place; cause = Reply } in z) (f.steps.0).replies last.0 t last.2 in
        let is : t.place ≡ length c.lists.handled = ap (λ (z : Told). z.place) r.2 ∙ ap (λ (l : List Step). length l) (sym p.handled) in
        let longer : length j.lists.down ≤ length c.lists.down = p.longer in
        let from : i ≡ length c.lists.down + last.0 = last.1 in
        (did-step, subst (λ (n : ℕ). At (c.lists.handled ++ did-step ∷ []) n did-step) (sym is) (At-last c.lists.handled did-step), omega (arith, longer, from))
  ]

  pub did-come-after : AllComeAfter new
  did-come-after = subst (λ (z : World). AllComeAfter z) (sym f.leaves) (go (slice_get did-after.circuits k) refl)
    where
      still : AllComeAfter did-after
      still = back-after-all ⊥ w did-after did-back order all

      go : (o : Option Joined) → slice_get did-after.circuits k ≡ o → AllComeAfter (unwrap_or (option_map (λ (c : Joined). with_circuit k (handled_at place did-step (f.steps.0).replies c) did-after) o) did-after)
      go None is = still
      go (Some c) is = λ l d at. elim (At-set did-after.circuits k (handled_at place did-step (f.steps.0).replies c) l d at) [
        | inl own ↦
            let b = did-back k c is in
            subst (λ (z : Joined). ComeAfter z.lists) (sym own.1) (did-own c (subst (λ (z : Joined). PlacesOn ⊥ z c) (At-one w.circuits k b.0 j b.1 on) b.2))
        | inr old ↦ still l d old.0
      ]

pub handled-or : (did : Stepped) → (did ≡ stepped.Handled) ⊎ (did ≡ stepped.Handled → ⊥)
handled-or stepped.Handled = inl refl
handled-or stepped.NeedBytes = inr (λ e. cc)
handled-or stepped.OutputFull = inr (λ e. cc)
handled-or (stepped.Closed cause left) = inr (λ e. cc)

step-after : (w new : World) (k : ℕ) → Happens w (event.ServerStep k) new → ServersInOrder w → AllComeAfter w → AllComeAfter new
step-after w new k (at, (did, f)) order all = elim (handled-or did) [
  | inl is ↦ did-come-after w new k at.j at.y at.joins.at (subst (λ (x : Stepped). ServerStepped w k at.j at.y x new) is f) order all
  | inr not ↦ back-after-all ⊥ w new (unhandled-back ⊥ w new k at.j at.y did at.joins.at not f) order all
]

-- ---- a circuit is made

accept-after : (w new : World) (i : ℕ) (x : ClientSide) (v : WantsFirst w x) → HappensAccept w i x v new → ServersInOrder w → AllComeAfter w → AllComeAfter new
accept-after w new i x v f order all = elim f.leaves [
  | inl full ↦ subst (λ (z : World). AllComeAfter z) (sym full.1) all
  | inr made ↦
      let c : Joined = connected_as made.1 (new_circuit i x v.v.circuit v.i v.y made.0) in
      let mid : World = record w { servers = slice_set w.servers v.i (record v.y { core = f.server }); circuits = w.circuits ++ c ∷ [] } in
      let g : Frame mid new = sent-frame mid new i x.names made.2 (ap (λ (z : World). z.servers) made.6) (ap (λ (z : World). z.server_logs) made.6) (ap (λ (z : World). z.circuits) made.6) in
      λ l d at.
      let b = g.back l d at in
      elim (At-snoc w.circuits c l b.0 b.1) [
        | inl old ↦ (λ m t told. (let r = all l b.0 old m t (subst (λ (z : List Told). At z m t) b.2.down told) in (r.0, subst (λ (z : List Step). At z t.place r.0) (sym b.2.handled) r.1, r.2)))
        | inr last ↦ (λ m t told. absurd (none_at m t (subst (λ (z : List Told). At z m t) (b.2.down ∙ ap (λ (z : Joined). z.lists.down) last.1 ∙ nothing made.1 made.0) told)))
      ]
]
  where
    nothing : (o : Option Closing) (g : Handle) → (connected_as o (new_circuit i x v.v.circuit v.i v.y g)).lists.down ≡ []
    nothing None g = refl
    nothing (Some k) g = refl

-- ---- every event and run

-- an acceptance, a step of a server's end, or another event
pub event-or : (P : Type 0) (s : Setting) (w new : World) (e : Event) → ServersStand s w → Happens w e new → (Back (Removes e) w new → P) → ((k : ℕ) → e ≡ event.ServerStep k → Happens w (event.ServerStep k) new → P) → ((i : ℕ) → e ≡ event.Accept i → Happens w (event.Accept i) new → P) → P
event-or P s w new (event.Accept i) h happens others steps accepts = accepts i refl happens
event-or P s w new (event.ServerStep k) h happens others steps accepts = steps k refl happens
event-or P s w new (event.Open i name priority) h happens others steps accepts = others (event-back s w new (event.Open i name priority) tt h happens)
event-or P s w new (event.Clear i c) h happens others steps accepts = others (event-back s w new (event.Clear i c) tt h happens)
event-or P s w new (event.Read i c data_type count) h happens others steps accepts = others (event-back s w new (event.Read i c data_type count) tt h happens)
event-or P s w new (event.Write i c v) h happens others steps accepts = others (event-back s w new (event.Write i c v) tt h happens)
event-or P s w new (event.WriteNotify i c v) h happens others steps accepts = others (event-back s w new (event.WriteNotify i c v) tt h happens)
event-or P s w new (event.Subscribe i c data_type count mask) h happens others steps accepts = others (event-back s w new (event.Subscribe i c data_type count mask) tt h happens)
event-or P s w new (event.Unsubscribe i n) h happens others steps accepts = others (event-back s w new (event.Unsubscribe i n) tt h happens)
event-or P s w new (event.Collect i r) h happens others steps accepts = others (event-back s w new (event.Collect i r) tt h happens)
event-or P s w new (event.GiveUp i r) h happens others steps accepts = others (event-back s w new (event.GiveUp i r) tt h happens)
event-or P s w new (event.ClientDatagram i from bytes) h happens others steps accepts = others (event-back s w new (event.ClientDatagram i from bytes) tt h happens)
event-or P s w new (event.ServerDatagram i from bytes) h happens others steps accepts = others (event-back s w new (event.ServerDatagram i from bytes) tt h happens)
event-or P s w new (event.Up k n) h happens others steps accepts = others (event-back s w new (event.Up k n) tt h happens)
event-or P s w new (event.Down k n) h happens others steps accepts = others (event-back s w new (event.Down k n) tt h happens)
event-or P s w new (event.ClientStep k) h happens others steps accepts = others (event-back s w new (event.ClientStep k) tt h happens)
event-or P s w new (event.Pump k) h happens others steps accepts = others (event-back s w new (event.Pump k) tt h happens)
event-or P s w new (event.CutClient k) h happens others steps accepts = others (event-back s w new (event.CutClient k) tt h happens)
event-or P s w new (event.CutServer k) h happens others steps accepts = others (event-back s w new (event.CutServer k) tt h happens)
event-or P s w new (event.ClientRestart i) h happens others steps accepts = others (event-back s w new (event.ClientRestart i) tt h happens)
event-or P s w new (event.ServerRestart i) h happens others steps accepts = others (event-back s w new (event.ServerRestart i) tt h happens)
event-or P s w new (event.Post i name v mask) h happens others steps accepts = others (event-back s w new (event.Post i name v mask) tt h happens)
event-or P s w new (event.Finish i name) h happens others steps accepts = others (event-back s w new (event.Finish i name) tt h happens)
event-or P s w new (event.Remove i name) h happens others steps accepts = others (event-back s w new (event.Remove i name) tt h happens)
event-or P s w new (event.Add i r) h happens others steps accepts = others (event-back s w new (event.Add i r) tt h happens)
event-or P s w new (event.Tick moment) h happens others steps accepts = others (event-back s w new (event.Tick moment) tt h happens)

pub event-after : (s : Setting) (w new : World) (e : Event) → ServersStand s w → Happens w e new → ServersInOrder w → AllComeAfter w → AllComeAfter new
event-after s w new e h happens order all =
    event-or (AllComeAfter new) s w new e h happens (λ back. back-after-all (Removes e) w new back order all) (λ k is steps. step-after w new k steps order all)
    (λ i is accepts. accept-after w new i accepts.0.x accepts.0.v accepts.1 order all)

events-after : (s : Setting) (es : List Event) (w new : World) → IsSetting s → FoldsTo Happens w es new → ServersStand s w → ServersInOrder w → AllComeAfter w → AllComeAfter new
events-after s [] w new ok same h order all = subst (λ (z : World). AllComeAfter z) same all
events-after s (e ∷ es) w new ok (mid, one, rest) h order all =
    events-after s es mid new ok rest (event-serves s w mid e ok one h) (event-served w mid e h.stands.sound.seated (takes-next s w h) one order) (event-after s w mid e h one order all)

frame-after-all : (w new : World) → Frame w new → AllComeAfter w → AllComeAfter new
frame-after-all w new g all l d at m t told =
    let b = g.back l d at in
    let r = all l b.0 b.1 m t (subst (λ (z : List Told). At z m t) b.2.down told) in
    (r.0, subst (λ (z : List Step). At z t.place r.0) (sym b.2.handled) r.1, r.2)

stops-after : (mid : World) (stopped : Option Event) (w : World) → StopsAt mid stopped w → AllComeAfter mid → AllComeAfter w
stops-after mid (Some (event.Tick moment)) w stops all = elim stops [
  | inl same ↦ subst (λ (z : World). AllComeAfter z) (sym same) all
  | inr ticked ↦ frame-after-all mid w (ticks-frame moment mid (clients_below ticked.0) w ticked.3) all
]
stops-after mid stopped w stops all = subst (λ (z : World). AllComeAfter z) (sym stops) all

pub run-after : (s : Setting) (es : List Event) (stopped : Option Event) (w : World) → IsSetting s → Runs s es stopped w → AllComeAfter w
run-after s es stopped w ok (mid, folds, stops) =
    stops-after mid stopped w stops
    (events-after s es (opening s) mid ok folds (opening-serves s ok) (λ n c at. absurd (none_at n c at)) (λ n c at. absurd (none_at n c at)))

pub run-come-after : (s : Setting) (es : List Event) (stopped : Option Event) (w : World) → IsSetting s → Runs s es stopped w → MessagesComeAfter w
run-come-after s es stopped w ok runs n d at =
    let j = At-mapped circuit_of w.circuits n d at in
    let l = run-server-steps s es stopped w ok runs n d at in
    (l.0, l.1, l.2, subst (λ (c : Circuit). ComeAfter c) (sym j.2) (run-after s es stopped w ok runs n j.0 j.1))
