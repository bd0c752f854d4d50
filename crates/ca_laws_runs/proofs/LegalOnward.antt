-- Over every event each circuit goes on, and what is handled now is handled after all that was sent
-- and logged; or nothing was sent on it yet.
use Rattle.std.proofs.Common.{◌≡◌, ℕ, ◌≤◌, ◌⊎◌, inl, inr, true, List, [], ◌∷◌, ◌++◌, length, Option, Some, None, refl, sym, ap, subst, ◌∙◌, arith}
use Rattle.std.specs.Prelude.{filter, map, not, slice_set, unwrap_or}
use Rattle.std.specs.Str.{bytes_eq}
use Rattle.ca_arena.specs.declared.handle.Handle.{Handle}
use Rattle.ca_text.specs.Place.{At}
use Rattle.ca_text.proofs.Places.{At-one, At-snoc}
use Rattle.ca_wire.specs.Fields.{Fields}
use Rattle.ca_model.specs.Answers.{Closing}
use Rattle.ca_model.specs.History.{Entry, Told}
use Rattle.ca_model.specs.ServerSteps.{Stepped}
use Rattle.ca_model.specs.ClientEvents.{HappensAccept, WantsFirst, connected_as, new_circuit}
use Rattle.ca_model.specs.Events.{Event}
use Rattle.ca_model.specs.Events as event
use Rattle.ca_model.specs.Runs.{Happens}
use Rattle.ca_model.specs.ServerEvents.{HappensFinish, HappensRemove, ServerStepped, StepHandles, ends_by, server_after}
use Rattle.ca_model.specs.ServerEvents as server
use Rattle.ca_model.specs.World.{ClientSide, Joined, RecordSide, ServerSide, Setting, World}
use Rattle.ca_laws_parts.specs.Later.{stamped_told}
use Rattle.ca_laws_parts.specs.Moves as moves
use Rattle.ca_laws_parts.proofs.Frames.{Frame}
use Rattle.ca_laws_parts.proofs.HappensClient.{sent-frame}
use Rattle.ca_laws_runs.proofs.CauseKeeps.{handled-or}
use Rattle.ca_laws_runs.proofs.CausingEvents.{Nothing-new, Ready}
use Rattle.ca_laws_runs.proofs.CausingFrame.{Back, FinishNews, IsStill, News, Onward, PumpNews, RemoveNews, Says, StepNews, Stood, Takes, back-frame, finish-back, on-self, pump-back, removed-back, step-back, still-back, unhandled-back}

-- Whatever is new on a circuit: a step comes after all that was sent there and logged
-- by its server's life.
abbrev pub AnyNews : World → ℕ → News → Type 0
AnyNews w l (Says t) = Unit {0}
AnyNews w l (Stood p) = Unit {0}
AnyNews w l (Takes m h) = (c : Joined) (log : List Entry) → At w.circuits l c → At w.server_logs c.lists.server log → (h.sent ≤ length c.lists.down) × (h.logged ≤ length log)

pub on-as : (F G : ℕ → News → Type 0) (l : ℕ) (c d : Joined) → ((x : News) → F l x → G l x) → Onward F l c d → Onward G l c d
on-as F G l c d gives on = record {
  server = on.server;
  life = on.life;
  lists = on.lists;
  told = λ i t at. elim (on.told i t at) [ inl old ↦ inl old | inr more ↦ inr (more.0, gives (Says t) more.1) ];
  handled = λ m h at. elim (on.handled m h at) [ inl old ↦ inl old | inr new ↦ inr (gives (Takes m h) new) ];
  standing = λ st at. elim (on.standing st at) [ inl old ↦ inl old | inr new ↦ inr (gives (Stood st.place) new) ];
}

abbrev pub GoesOn : (w new : World) → Type 0
GoesOn w new = (l : ℕ) (d : Joined) → At new.circuits l d → ((c : Joined) × At w.circuits l c × Onward (AnyNews w) l c d) ⊎ (d.lists.down ≡ [])

goes-back : (F : ℕ → News → Type 0) (w new : World) → ((l : ℕ) (x : News) → F l x → AnyNews w l x) → Back F w new → GoesOn w new
goes-back F w new gives back l d at = (let c = back l d at in inl (c.0, c.1, on-as F (AnyNews w) l c.0 d (gives l) c.2))

nothing-any : (w : World) (l : ℕ) (x : News) → Nothing-new l x → AnyNews w l x
nothing-any w l x none = absurd none

pub frame-goes : (w new : World) → Frame w new → GoesOn w new
frame-goes w new f = goes-back Nothing-new w new (nothing-any w) (back-frame Nothing-new w new f)

step-any : (s : Setting) (w : World) (k : ℕ) (j : Joined) (y : ServerSide) (new : World) (f : StepHandles w k j y new) → Ready s w → At w.circuits k j → At w.servers j.server y → j.lists.server_open ≡ true → (l : ℕ) (x : News)
    → StepNews k (length j.lists.handled) (f.steps.0).action (length j.lists.down) (server.logged y w) (f.steps.0).replies l x → AnyNews w l x
step-any s w k j y new f ready on at_y opened l (Says t) new_it = tt
step-any s w k j y new f ready on at_y opened l (Stood p) new_it = tt
step-any s w k j y new f ready on at_y opened l (Takes m h) new_it = λ c log at logged.
    let same : c ≡ j = At-one w.circuits k c j (subst (λ (n : ℕ). At w.circuits n c) new_it.0 at) on in
    let len : length c.lists.down ≡ length j.lists.down = ap (λ (z : Joined). length z.lists.down) same in
    let sent : h.sent ≡ length j.lists.down = new_it.1 in
    let seat = ready.serves.stands.sound.seated.each k j on opened in
    let same_y : seat.y ≡ y = At-one w.servers j.server seat.y y seat.at at_y in
    let life : c.lists.server ≡ y.life = ap (λ (z : Joined). z.lists.server) same ∙ seat.joins ∙ ap (λ (z : ServerSide). z.life) same_y in
    let own : At w.server_logs y.life log = subst (λ (n : ℕ). At w.server_logs n log) life logged in
    let long : server.logged y w ≡ length log = ap (λ (o : Option (List Entry)). length (unwrap_or o [])) own in
    let is : h.logged ≡ length log = new_it.2 ∙ long in
    (omega (arith, len, sent), omega (arith, is))

finish-any : (w : World) (circuit place : ℕ) (ms : List Fields) (l : ℕ) (x : News) → FinishNews circuit place ms l x → AnyNews w l x
finish-any w circuit place ms l (Says t) new_it = tt
finish-any w circuit place ms l (Stood p) new_it = tt
finish-any w circuit place ms l (Takes m h) new_it = absurd new_it

remove-any : (w : World) (i : ℕ) (y : ServerSide) (name : List ℕ) (gone : Handle → _) (left : Handle → ℕ) (l : ℕ) (x : News) → RemoveNews w i y.core name gone left l x → AnyNews w l x
remove-any w i y name gone left l (Says t) new_it = tt
remove-any w i y name gone left l (Stood p) new_it = tt
remove-any w i y name gone left l (Takes m h) new_it = absurd new_it

pump-any : (w : World) (k : ℕ) (told : List Told) (l : ℕ) (x : News) → PumpNews k told l x → AnyNews w l x
pump-any w k told l (Says t) new_it = tt
pump-any w k told l (Stood p) new_it = tt
pump-any w k told l (Takes m h) new_it = absurd new_it

same-goes : (w new : World) → new ≡ w → GoesOn w new
same-goes w new is l d at = inl (d, subst (λ (z : World). At z.circuits l d) is at, on-self (AnyNews w) l d)

accept-goes : (w new : World) (i : ℕ) (x : ClientSide) (v : WantsFirst w x) → HappensAccept w i x v new → GoesOn w new
accept-goes w new i x v f = elim f.leaves [
  | inl full ↦ same-goes w new full.1
  | inr made ↦
      let c : Joined = connected_as made.1 (new_circuit i x v.v.circuit v.i v.y made.0) in
      let mid : World = record w { servers = slice_set w.servers v.i (record v.y { core = f.server }); circuits = w.circuits ++ c ∷ [] } in
      let g : Frame mid new = sent-frame mid new i x.names made.2 (ap (λ (z : World). z.servers) made.6) (ap (λ (z : World). z.server_logs) made.6) (ap (λ (z : World). z.circuits) made.6) in
      λ n d at.
      let b = g.back n d at in
      let k = back-frame Nothing-new mid new g n d at in
      elim (At-snoc w.circuits c n b.0 b.1) [
        | inl old ↦
            let same : k.0 ≡ b.0 = At-one mid.circuits n k.0 b.0 k.1 b.1 in
            inl (b.0, old, on-as Nothing-new (AnyNews w) n b.0 d (nothing-any w n) (subst (λ (z : Joined). Onward Nothing-new n z d) same k.2))
        | inr last ↦ inr (b.2.down ∙ ap (λ (z : Joined). z.lists.down) last.1 ∙ nothing made.1 made.0)
      ]
]
  where
    nothing : (o : Option Closing) (g : Handle) → (connected_as o (new_circuit i x v.v.circuit v.i v.y g)).lists.down ≡ []
    nothing None g = refl
    nothing (Some k) g = refl

pub event-goes : (s : Setting) (w new : World) (e : Event) → Ready s w → Happens w e new → GoesOn w new
event-goes s w new e ready happens = go e happens
  where
    still : (e : Event) → IsStill e → Happens w e new → GoesOn w new
    still e quiet happens = goes-back Nothing-new w new (nothing-any w) (still-back Nothing-new w new e quiet happens)

    stepped-by : (k : ℕ) (h : Happens w (event.ServerStep k) new) → GoesOn w new
    stepped-by k (at, (did, f)) = elim (handled-or did) [
      | inl is ↦
          let g : StepHandles w k at.j at.y new = subst (λ (x : Stepped). ServerStepped w k at.j at.y x new) is f in
          goes-back (StepNews k (length at.j.lists.handled) (g.steps.0).action (length at.j.lists.down) (server.logged at.y w) (g.steps.0).replies) w new
          (step-any s w k at.j at.y new g ready at.joins.at at.joins.server at.is_open) (step-back w new k at.j at.y at.joins.at g)
      | inr other ↦ goes-back Nothing-new w new (nothing-any w) (unhandled-back Nothing-new w new k at.j at.y did at.joins.at other f)
    ]

    finished : (i : ℕ) (name : List ℕ) (y : ServerSide) → HappensFinish w i y name new → GoesOn w new
    finished i name y (inl f) =
        goes-back (FinishNews f.p.circuit f.p.place (map (λ (x : Handle × Fields). x.1) f.sent)) w new (finish-any w f.p.circuit f.p.place (map (λ (x : Handle × Fields). x.1) f.sent)) (finish-back w new i y name f)
    finished i name y (inr refused) = same-goes w new refused.2

    removed-by : (i : ℕ) (name : List ℕ) (y : ServerSide) → HappensRemove w i y name new → GoesOn w new
    removed-by i name y (gone, left, core, inl (removes, is)) =
        let next : World = server_after i (record y { records = filter (λ (r : RecordSide). not (bytes_eq r.name name)) y.records }) (ends_by i core) core (moves.removal_told w i y name gone left) in
        subst (λ (z : World). GoesOn w z) (sym is) (goes-back (RemoveNews w i y.core name gone left) w next (remove-any w i y name gone left) (removed-back w i y name gone left core))
    removed-by i name y (gone, left, core, inr (removes, is)) = same-goes w new is

    go : (e : Event) → Happens w e new → GoesOn w new
    go (event.Accept i) h = accept-goes w new i h.0.x h.0.v h.1
    go (event.ServerStep k) h = stepped-by k h
    go (event.Pump k) h = goes-back (PumpNews k (stamped_told h.1.updates h.0.j)) w new (pump-any w k (stamped_told h.1.updates h.0.j)) (pump-back w new k h.0.j h.0.y h.0.joins.at h.1)
    go (event.Finish i name) h = finished i name h.0.y h.1
    go (event.Remove i name) h = removed-by i name h.0.y h.1
    go (event.Open i name priority) h = still (event.Open i name priority) tt h
    go (event.Clear i c) h = still (event.Clear i c) tt h
    go (event.Read i c data_type count) h = still (event.Read i c data_type count) tt h
    go (event.Write i c v) h = still (event.Write i c v) tt h
    go (event.WriteNotify i c v) h = still (event.WriteNotify i c v) tt h
    go (event.Subscribe i c data_type count mask) h = still (event.Subscribe i c data_type count mask) tt h
    go (event.Unsubscribe i n) h = still (event.Unsubscribe i n) tt h
    go (event.Collect i r) h = still (event.Collect i r) tt h
    go (event.GiveUp i r) h = still (event.GiveUp i r) tt h
    go (event.ClientDatagram i from bytes) h = still (event.ClientDatagram i from bytes) tt h
    go (event.ServerDatagram i from bytes) h = still (event.ServerDatagram i from bytes) tt h
    go (event.Up k n) h = still (event.Up k n) tt h
    go (event.Down k n) h = still (event.Down k n) tt h
    go (event.ClientStep k) h = still (event.ClientStep k) tt h
    go (event.CutClient k) h = still (event.CutClient k) tt h
    go (event.CutServer k) h = still (event.CutServer k) tt h
    go (event.ClientRestart i) h = still (event.ClientRestart i) tt h
    go (event.ServerRestart i) h = still (event.ServerRestart i) tt h
    go (event.Post i name v mask) h = still (event.Post i name v mask) tt h
    go (event.Add i r) h = still (event.Add i r) tt h
    go (event.Tick moment) h = still (event.Tick moment) tt h
