-- What a server tells for a removal is a SERVER_DISCONN about a CREATE_CHAN, over
-- every event and run.
use Rattle.std.proofs.Common.{◌≡◌, ℕ, inl, inr, Bool, true, false, cond, ◌&&◌, eqb, eqb-true, List, [], ◌∷◌, ◌++◌, Option, Some, None, refl, sym, ap, subst, ◌∙◌}
use Rattle.std.specs.Prelude.{map, slice_set}
use Rattle.std.specs.List.{FoldsTo, list_any}
use Rattle.std.proofs.lemmas.Bool.{and_parts}
use Rattle.ca_arena.specs.declared.handle.Handle.{Handle}
use Rattle.ca_ids.specs.Table.{under}
use Rattle.ca_ids.specs.Wire.{wire_of}
use Rattle.ca_queue.specs.declared.entry.SubKey.{SubKey}
use Rattle.ca_text.specs.declared.command.Command.TheVariants as command
use Rattle.ca_text.specs.Place.{At}
use Rattle.ca_text.proofs.Places.{At-mapped, At-one, At-parts, At-snoc}
use Rattle.ca_model.specs.Answers.{Closing}
use Rattle.ca_model.specs.History.{Removal, Sent, Told}
use Rattle.ca_model.specs.Server.{OpenChannel, ServerCircuit}
use Rattle.ca_model.specs.ServerSteps.{HasEnd, Stepped}
use Rattle.ca_model.specs.Speech.{Is}
use Rattle.ca_model.specs.ClientEvents.{HappensAccept, WantsFirst, connected_as, new_circuit}
use Rattle.ca_model.specs.Events.{Event}
use Rattle.ca_model.specs.Events as event
use Rattle.ca_model.specs.Runs.{Happens, Runs, StopsAt, clients_below}
use Rattle.ca_model.specs.ServerEvents.{HappensRemove, ServerStepped, disconnected_at, ending, ends_by, removal_told, removed_at, without_standing}
use Rattle.ca_model.specs.World.{ClientSide, IsSetting, Joined, ServerSide, Setting, World, opening}
use Rattle.ca_laws_parts.specs.Moves as moves
use Rattle.ca_laws_parts.proofs.Every.{ticks-frame}
use Rattle.ca_laws_parts.proofs.Frames.{Frame}
use Rattle.ca_laws_parts.proofs.HappensClient.{sent-frame}
use Rattle.ca_laws_parts.proofs.WritesLists.{none_at}
use Rattle.ca_laws_runs.specs.Worlds.{ServersStand}
use Rattle.ca_laws_runs.proofs.StepWhole.{event-serves, opening-serves}
use Rattle.ca_laws_runs.proofs.CauseGrows.{Removes, unhandled-back}
use Rattle.ca_laws_runs.proofs.CauseKeeps.{event-or, handled-or}
use Rattle.ca_laws_runs.proofs.CauseOnce.{WereThere, back-were, did-were, ended-down, frame-were, removes-or, told-as}
use Rattle.ca_laws_runs.proofs.OrderGrows.{ticks-grown}
use Rattle.ca_laws_runs.proofs.ToldGrows.{WorldsOn, event-on, on-grown}

-- It is a SERVER_DISCONN, and about a CREATE_CHAN.
abbrev pub IsRemoval : Joined → Told → Type 0
IsRemoval c t = Is command.ServerDisconnect t.message × ((s : Sent) × At c.lists.up t.place s × Is command.CreateChannel s.message)

abbrev pub AllRemovals : World → Type 0
AllRemovals w = (n i : ℕ) (c : Joined) (t : Told) → At w.circuits n c → At c.lists.down i t → t.cause ≡ Removal → IsRemoval c t

-- what was a removal is one still
still-removal : (w new : World) → WorldsOn w new → (n : ℕ) (c d : Joined) (t : Told) → At w.circuits n c → At new.circuits n d → IsRemoval c t → IsRemoval d t
still-removal w new on n c d t was now r =
    let o = on.circuits n c was in
    let one : o.0 ≡ d = At-one new.circuits n o.0 d o.1 now in
    (r.0, (r.1.0, subst (λ (z : Joined). At z.lists.up t.place r.1.0) one (o.2.up t.place r.1.0 r.1.1), r.1.2))

were-removals : (w new : World) → WorldsOn w new → WereThere w new → AllRemovals w → AllRemovals new
were-removals w new on were all n i d t at there removal =
    let c = were n d at in
    still-removal w new on n c.0 d t c.1 at (all n i c.0 t c.1 (c.2 i t there removal) removal)

-- a record is removed
remove-removals : (s : Setting) (w new : World) (i : ℕ) (y : ServerSide) (name : List ℕ) → WorldsOn w new → ServersStand s w → At w.servers i y → HappensRemove w i y name new → AllRemovals w → AllRemovals new
remove-removals s w new i y name on h at (gone, left, core, inr (removes, is)) all n m d t at_d there removal = all n m d t (subst (λ (z : World). At z.circuits n d) is at_d) there removal
remove-removals s w new i y name on h at (gone, left, core, inl (removes, is)) all n m d t at_d there removal =
    let down : d.lists.down ≡ (removed_at i y.core name gone left known.0).lists.down = ap (λ (z : Joined). z.lists.down) split.2 ∙ ended-down (ends_by i core) split.0 ∙ ap (λ (z : Joined). z.lists.down) known.2 in
    still-removal w new on n known.0 d t known.1 at_d (one known.0 known.1 (subst (λ (z : List Told). At z m t) down there))
  where
    split : (x : Joined) × At (moves.removal_told w i y name gone left).circuits n x × (d ≡ ending (ends_by i core) x)
    split = At-mapped (ending (ends_by i core)) (moves.removal_told w i y name gone left).circuits n d (subst (λ (z : World). At z.circuits n d) is at_d)

    known : (c : Joined) × At w.circuits n c × (split.0 ≡ removed_at i y.core name gone left c)
    known = At-mapped (removed_at i y.core name gone left) w.circuits n split.0 split.1

    one : (c : Joined) → At w.circuits n c → At (removed_at i y.core name gone left c).lists.down m t → IsRemoval c t
    one c on_c = go (eqb c.server i && c.lists.server_open) refl
      where
        gone_of : List (Handle × OpenChannel)
        gone_of = disconnected_at name gone left c.at_server (under y.core.circuits c.at_server)

        after : Joined
        after = without_standing (λ (k : SubKey). list_any (λ (x : Handle × OpenChannel). eqb (wire_of x.0) k.sid) gone_of) (record c { lists = record c.lists { down = c.lists.down ++ map (removal_told c.creations) gone_of } })

        -- one that is told now
        told-now : c.server ≡ i → c.lists.server_open ≡ true → (k : ℕ) → At (map (removal_told c.creations) gone_of) k t → IsRemoval c t
        told-now mine opened k new_it =
            let seat = h.stands.sound.seated.each n c on_c opened in
            let same : seat.y ≡ y = At-one w.servers i seat.y y (subst (λ (l : ℕ). At w.servers l seat.y) mine seat.at) at in
            let had : HasEnd y.core c.at_server seat.e = subst (λ (z : ServerSide). HasEnd z.core c.at_server seat.e) same seat.has in
            let q = At-mapped (removal_told c.creations) gone_of k t new_it in
            let of = told-as name gone left seat.e c (h.channels n c seat.y seat.e on_c seat.at opened seat.has) k t (subst (λ (o : Option ServerCircuit). At (map (removal_told c.creations) (disconnected_at name gone left c.at_server o)) k t) had new_it) in
            let s = (h.messages n c on_c opened).channels of.x of.there in
            (ap (λ (z : Told). z.message.command) q.2, (s.0, subst (λ (p : ℕ). At c.lists.up p s.0) (sym of.place) s.1, s.2))

        go : (b : Bool) → eqb c.server i && c.lists.server_open ≡ b → At (cond b after c).lists.down m t → IsRemoval c t
        go false other there = all n m c t on_c there removal
        go true both there = (let b = and_parts (eqb c.server i) c.lists.server_open both in elim (At-parts c.lists.down (map (removal_told c.creations) gone_of) m t there) [
          | inl old ↦ all n m c t on_c old removal
          | inr new_it ↦ told-now (eqb-true c.server i b.0) b.1 new_it.0 new_it.2
        ])

step-removals : (w new : World) (k : ℕ) → WorldsOn w new → Happens w (event.ServerStep k) new → AllRemovals w → AllRemovals new
step-removals w new k on (at, (did, f)) all = elim (handled-or did) [
  | inl is ↦ were-removals w new on (did-were w new k at.j at.y at.joins.at (subst (λ (x : Stepped). ServerStepped w k at.j at.y x new) is f)) all
  | inr other ↦ were-removals w new on (back-were ⊥ w new (λ r. r) (unhandled-back ⊥ w new k at.j at.y did at.joins.at other f)) all
]

accept-removals : (w new : World) (i : ℕ) (x : ClientSide) (v : WantsFirst w x) → WorldsOn w new → HappensAccept w i x v new → AllRemovals w → AllRemovals new
accept-removals w new i x v on f all = elim f.leaves [
  | inl full ↦ subst (λ (z : World). AllRemovals z) (sym full.1) all
  | inr made ↦
      let c : Joined = connected_as made.1 (new_circuit i x v.v.circuit v.i v.y made.0) in
      let mid : World = record w { servers = slice_set w.servers v.i (record v.y { core = f.server }); circuits = w.circuits ++ c ∷ [] } in
      let g : Frame mid new = sent-frame mid new i x.names made.2 (ap (λ (z : World). z.servers) made.6) (ap (λ (z : World). z.server_logs) made.6) (ap (λ (z : World). z.circuits) made.6) in
      λ n m d t at there removal.
      let b = frame-were mid new g n d at in
      elim (At-snoc w.circuits c n b.0 b.1) [
        | inl old ↦ still-removal w new on n b.0 d t old at (all n m b.0 t old (b.2 m t there removal) removal)
        | inr last ↦ absurd (none_at m t (subst (λ (z : List Told). At z m t) (ap (λ (z : Joined). z.lists.down) last.1 ∙ nothing made.1 made.0) (b.2 m t there removal)))
      ]
]
  where
    nothing : (o : Option Closing) (g : Handle) → (connected_as o (new_circuit i x v.v.circuit v.i v.y g)).lists.down ≡ []
    nothing None g = refl
    nothing (Some k) g = refl

event-removals : (s : Setting) (w new : World) (e : Event) → ServersStand s w → Happens w e new → AllRemovals w → AllRemovals new
event-removals s w new e h happens all =
    let on : WorldsOn w new = event-on w new e happens in
    event-or (AllRemovals new) s w new e h happens
    (λ back. elim (removes-or e) [
      | inl none ↦ were-removals w new on (back-were (Removes e) w new none back) all
      | inr remove ↦ (let r : Happens w (event.Remove remove.0 remove.1) new = subst (λ (x : Event). Happens w x new) remove.2 happens in remove-removals s w new remove.0 r.0.y remove.1 on h r.0.at r.1 all)
    ])
    (λ k is steps. step-removals w new k on steps all) (λ i is accepts. accept-removals w new i accepts.0.x accepts.0.v on accepts.1 all)

events-removals : (s : Setting) (es : List Event) (w new : World) → IsSetting s → FoldsTo Happens w es new → ServersStand s w → AllRemovals w → AllRemovals new
events-removals s [] w new ok same h all = subst (λ (z : World). AllRemovals z) same all
events-removals s (e ∷ es) w new ok (mid, one, rest) h all = events-removals s es mid new ok rest (event-serves s w mid e ok one h) (event-removals s w mid e h one all)

stops-removals : (mid : World) (stopped : Option Event) (w : World) → StopsAt mid stopped w → AllRemovals mid → AllRemovals w
stops-removals mid (Some (event.Tick moment)) w stops all = elim stops [
  | inl same ↦ subst (λ (z : World). AllRemovals z) (sym same) all
  | inr ticked ↦ were-removals mid w (on-grown mid w (ticks-grown moment mid (clients_below ticked.0) w ticked.3)) (frame-were mid w (ticks-frame moment mid (clients_below ticked.0) w ticked.3)) all
]
stops-removals mid stopped w stops all = subst (λ (z : World). AllRemovals z) (sym stops) all

pub run-removals : (s : Setting) (es : List Event) (stopped : Option Event) (w : World) → IsSetting s → Runs s es stopped w → AllRemovals w
run-removals s es stopped w ok (mid, folds, stops) = stops-removals mid stopped w stops (events-removals s es (opening s) mid ok folds (opening-serves s ok) (λ n i c t at. absurd (none_at n c at)))
