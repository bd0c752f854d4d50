-- Each SERVER_DISCONN that a server sends is for a channel that is open, and the first for it.
use Rattle.std.proofs.Common.{◌≡◌, ℕ, ◌+◌, ◌<◌, ◌≤◌, ◌⊎◌, inl, inr, Bool, true, false, cond, ◌&&◌, eqb, eqb-true, List, [], ◌∷◌, ◌++◌, length, Option, Some, None, refl, sym, ap, subst, ◌∙◌, arith}
use Rattle.std.specs.Prelude.{map, option_map, slice_get, slice_set, unwrap_or}
use Rattle.std.specs.List.{FoldsTo, list_any}
use Rattle.std.proofs.lemmas.List.{length-append}
use Rattle.ca_arena.specs.declared.handle.Handle.{Handle}
use Rattle.ca_ids.specs.Table.{held, under}
use Rattle.ca_ids.specs.Wire.{wire_of}
use Rattle.ca_link.specs.Link.{with_rest}
use Rattle.ca_model.proofs.Tables.{held-apart, one-by-wire}
use Rattle.ca_model.proofs.Thinner.{three-ways}
use Rattle.ca_queue.specs.declared.entry.SubKey.{SubKey}
use Rattle.ca_text.specs.declared.command.Command.TheVariants as command
use Rattle.ca_text.specs.Place.{At}
use Rattle.ca_text.proofs.Places.{At-back, At-map, At-mapped, At-one, At-or, At-parts, At-set, At-snoc, At-within}
use Rattle.ca_wire.specs.Fields.{Fields}
use Rattle.ca_model.specs.Answers.{Closing}
use Rattle.ca_model.specs.History.{Circuit, Removal, Reply, Sent, Step, Told}
use Rattle.ca_model.specs.Server.{Open, OpenChannel, ServerCircuit, ServerEnd}
use Rattle.ca_model.specs.ServerCalls.{channels_of}
use Rattle.ca_model.specs.ServerSteps.{HasEnd, Stepped, knows}
use Rattle.ca_model.specs.Sends.{Conduct, IsConnected, IsOpenAt}
use Rattle.ca_model.specs.Speech.{Clears, Creates, Is}
use Rattle.ca_model.specs.Legal.{server_conduct}
use Rattle.ca_model.specs.ClientEvents.{HappensAccept, WantsFirst, connected_as, new_circuit}
use Rattle.ca_model.specs.Events.{Event}
use Rattle.ca_model.specs.Events as event
use Rattle.ca_model.specs.Runs.{Happens, Runs, StopsAt, clients_below}
use Rattle.ca_model.specs.ServerEvents.{HappensRemove, ServerStepped, StepHandles, about, acted, disconnected_at, ending, ends_by, handled_at, removal_told, removed_at, server_after, side_of, without_standing}
use Rattle.ca_model.specs.ServerEvents as server
use Rattle.ca_model.specs.World.{ClientSide, Creation, IsSetting, Joined, ServerSide, Setting, World, circuit_of, log_length, opening, with_circuit}
use Rattle.ca_laws_parts.specs.Sids.{IsClearedWithin}
use Rattle.ca_laws_parts.specs.Channels.{has_sid}
use Rattle.ca_laws_parts.specs.Moves as moves
use Rattle.ca_laws_parts.proofs.WritesEvents.{find-at}
use Rattle.ca_laws_parts.proofs.Every.{ticks-frame}
use Rattle.ca_laws_parts.proofs.Frames.{Frame}
use Rattle.ca_laws_parts.proofs.HappensClient.{sent-frame}
use Rattle.ca_laws_parts.proofs.Lasting.{AllEnds}
use Rattle.ca_laws_parts.proofs.LastingAll.{event-lasts, opening-lasts}
use Rattle.ca_laws_parts.proofs.WritesLists.{none_at}
use Rattle.ca_laws_runs.specs.Causes.{AllComeAfter, ComeAfter}
use Rattle.ca_laws_runs.specs.Created.{AllCreated, CreatedOn}
use Rattle.ca_laws_runs.specs.Creations.{CreationsOn}
use Rattle.ca_laws_runs.specs.LegalParts.{EndsOpenChannels, ServersEndOpenChannels}
use Rattle.ca_laws_runs.specs.OrderSteps.{InOrder, ServersInOrder}
use Rattle.ca_laws_runs.specs.Worlds.{ServersStand}
use Rattle.ca_laws_runs.proofs.Answering.{due-answer}
use Rattle.ca_laws_runs.proofs.CauseGrows.{Back, PlacesOn, Removes, acted-back, back-after, back-frame, unhandled-back}
use Rattle.ca_laws_runs.proofs.CauseKeeps.{event-after, event-or, handled-or, run-after}
use Rattle.ca_laws_runs.proofs.CauseOnce.{RemovedOn, ToldOf, and-both, apart-at, apart-kept, not-both, removed-begun, removed-handled, removed-lasting, told-as, told-parts}
use Rattle.ca_laws_runs.proofs.Created.{event-created, opening-created}
use Rattle.ca_laws_runs.proofs.Creations.{HasCreations, creations-begun, creations-handled, creations-lasting}
use Rattle.ca_laws_runs.proofs.LegalServers.{sent-at}
use Rattle.ca_laws_runs.proofs.OrderKeeps.{event-served, run-served, run-server-steps}
use Rattle.ca_laws_runs.proofs.StepWhole.{event-serves, opening-serves, takes-next}

-- The SERVER_DISCONN at place k tells of a removal. Its channel was created by the reply at place
-- i, was not cleared since by what was handled before, and had none before.
pub record RemovedAs (c : Joined) (k : ℕ) (t : Told) : Type 0 where
  pub removal : t.cause ≡ Removal
  pub i : ℕ
  pub sid : ℕ
  pub u : Told
  pub at : At c.lists.down i u
  pub early : i < k
  pub reply : u.cause ≡ Reply
  pub creates : Creates u.message sid
  pub place : u.place ≡ t.place
  pub cid : u.message.p1 ≡ t.message.p1
  pub uncleared : (l : ℕ) (s : Sent) (h : Step) → u.place < l → At c.lists.handled l h → h.sent ≤ k → At c.lists.up l s → Clears s.message sid → ⊥
  pub alone : (j : ℕ) (v : Told) → i < j → j < k → At c.lists.down j v → Is command.ServerDisconnect v.message → v.message.p1 ≡ t.message.p1 → ⊥

abbrev pub RemovedRight : Joined → Type 0
RemovedRight c = (k : ℕ) (t : Told) → At c.lists.down k t → Is command.ServerDisconnect t.message → RemovedAs c k t

abbrev pub AllRemovedRight : World → Type 0
AllRemovedRight w = (n : ℕ) (c : Joined) → At w.circuits n c → RemovedRight c

-- ---- a circuit goes on

-- what was sent and handled stays, and what is handled now was handled after all that was sent
pub record GoesOn (c d : Joined) : Type 0 where
  pub down : (i : ℕ) (t : Told) → i < length c.lists.down → At d.lists.down i t → At c.lists.down i t
  pub longer : length c.lists.down ≤ length d.lists.down
  pub handled : (l : ℕ) (h : Step) → At d.lists.handled l h → At c.lists.handled l h ⊎ (length c.lists.down ≤ h.sent)
  pub up : (p : ℕ) (s : Sent) → At c.lists.up p s → At d.lists.up p s

told-on : (c d : Joined) → GoesOn c d → (i : ℕ) (t : Told) → At c.lists.down i t → At d.lists.down i t
told-on c d g i t at = elim (At-or d.lists.down i) [
  | inl there ↦ (let b = g.down i there.0 (At-within c.lists.down i t at) there.1 in subst (λ (z : Told). At d.lists.down i z) (At-one c.lists.down i there.0 t b at) there.1)
  | inr past ↦ absurd (let w : i < length c.lists.down = At-within c.lists.down i t at in let more : length c.lists.down ≤ length d.lists.down = g.longer in omega (arith, w, more, past))
]

removed-on : (c d : Joined) (up log : ℕ) → InOrder c.lists.handled (length c.lists.up) up log → GoesOn c d → (k : ℕ) (t : Told) → At c.lists.down k t → RemovedAs c k t → RemovedAs d k t
removed-on c d up log order g k t at r = record {
  removal = r.removal;
  i = r.i;
  sid = r.sid;
  u = r.u;
  at = told-on c d g r.i r.u r.at;
  early = r.early;
  reply = r.reply;
  creates = r.creates;
  place = r.place;
  cid = r.cid;
  uncleared = λ l s h lt on le there clears. elim (g.handled l h on) [
    | inr late ↦ absurd (let w : k < length c.lists.down = At-within c.lists.down k t at in omega (arith, w, late, le))
    | inl old ↦ elim (At-or c.lists.up l) [
      | inl q ↦ r.uncleared l s h lt old le (subst (λ (z : Sent). At c.lists.up l z) (At-one d.lists.up l q.0 s (g.up l q.0 q.1) there) q.1) clears
      | inr past ↦ absurd (let w : l < length c.lists.handled = At-within c.lists.handled l h old in let each : length c.lists.handled ≤ length c.lists.up = order.one_each in omega (arith, w, each, past))
    ]
  ];
  alone = λ j v after before there is same. r.alone j v after before (g.down j v (let w : k < length c.lists.down = At-within c.lists.down k t at in omega (arith, w, before)) there) is same;
}

-- all SERVER_DISCONNs were there
right-on : (c d : Joined) (up log : ℕ) → InOrder c.lists.handled (length c.lists.up) up log → GoesOn c d → ((k : ℕ) (t : Told) → At d.lists.down k t → Is command.ServerDisconnect t.message → At c.lists.down k t) → RemovedRight c → RemovedRight d
right-on c d up log order g were all k t at is = (let old = were k t at is in removed-on c d up log order g k t old (all k t old is))

-- ---- circuits where nothing is handled

goes-places : (R : Type 0) (c d : Joined) → PlacesOn R c d → GoesOn c d
goes-places R c d p = record {
  down = λ i t lt at. elim (p.told i t at) [ inl old ↦ old | inr more ↦ absurd (let from : length c.lists.down ≤ i = more.0 in omega (arith, from, lt)) ];
  longer = p.longer;
  handled = λ l h at. inl (subst (λ (s : List Step). At s l h) p.handled at);
  up = p.up;
}

places-right : (R : Type 0) → (R → ⊥) → (c d : Joined) (up log : ℕ) → InOrder c.lists.handled (length c.lists.up) up log → PlacesOn R c d → RemovedRight c → RemovedRight d
places-right R none c d up log order p all =
    right-on c d up log order (goes-places R c d p) (λ k t at is. elim (p.told k t at) [ inl old ↦ old | inr more ↦ elim more.2 [ inl r ↦ absurd (none r) | inr other ↦ absurd (other.1 is) ] ]) all

back-right : (R : Type 0) → (R → ⊥) → (w new : World) → Back R w new → ServersInOrder w → AllRemovedRight w → AllRemovedRight new
back-right R none w new back order all l d at = (let c = back l d at in places-right R none c.0 d (length c.0.lists.down) (log_length c.0.lists.server w.server_logs) (order l c.0 c.1) c.2 (all l c.0 c.1))

-- ---- a message is handled

did-right : (w new : World) (k : ℕ) (j : Joined) (y : ServerSide) → At w.circuits k j → StepHandles w k j y new → ServersInOrder w → AllRemovedRight w → AllRemovedRight new
did-right w new k j y on f order all = subst (λ (z : World). AllRemovedRight z) (sym f.leaves) (go (slice_get after.circuits k) refl)
  where
    place : ℕ
    place = length j.lists.handled

    replies : List Fields
    replies = (f.steps.0).replies

    mid : World
    mid = acted k j y (f.steps.0).action w

    after : World
    after = server_after j.server (side_of j.server y mid) (ends_by j.server f.core) f.core mid

    step : Step
    step = record { sent = length j.lists.down; logged = server.logged y w; after = server.logged y after }

    back : Back ⊥ w after
    back = back-after ⊥ w mid j.server (side_of j.server y mid) (ends_by j.server f.core) f.core (acted-back ⊥ w k j y (f.steps.0).action on)

    still : AllRemovedRight after
    still = back-right ⊥ (λ r. r) w after back order all

    own : (c : Joined) → PlacesOn ⊥ j c → RemovedRight (handled_at place step replies c)
    own c p = right-on j d (length j.lists.down) (log_length j.lists.server w.server_logs) (order k j on) goes were (all k j on)
      where
        d : Joined
        d = handled_at place step replies c

        goes : GoesOn j d
        goes = record {
          down = λ i t lt at. (let more : length j.lists.down ≤ length c.lists.down = p.longer in (goes-places ⊥ j c p).down i t lt (At-back c.lists.down (about place Reply replies) i t at (omega (arith, lt, more))));
          longer = (let more : length j.lists.down ≤ length c.lists.down = p.longer in let e = length-append c.lists.down (about place Reply replies) in omega (arith, more, e));
          handled = λ l h at. elim (At-snoc c.lists.handled step l h at) [
            | inl old ↦ inl (subst (λ (s : List Step). At s l h) p.handled old)
            | inr last ↦ inr (let e : h.sent ≡ length j.lists.down = ap (λ (s : Step). s.sent) last.1 in omega (arith, e))
          ];
          up = p.up;
        }

        were : (m : ℕ) (t : Told) → At d.lists.down m t → Is command.ServerDisconnect t.message → At j.lists.down m t
        were m t at is = elim (At-parts c.lists.down (about place Reply replies) m t at) [
          | inl old ↦ elim (p.told m t old) [ inl was ↦ was | inr more ↦ elim more.2 [ inl r ↦ absurd r | inr other ↦ absurd (other.1 is) ] ]
          | inr new_it ↦
              let r = At-mapped (λ (q : Fields). let z : Told = record { message = q; place = place; cause = Reply } in z) replies new_it.0 t new_it.2 in
              absurd ((due-answer (knows y.core (record f.e { link = with_rest (f.steps.0).rest f.e.link })) (f.steps.0).m replies (f.steps.0).action (f.steps.0).handles.due r.0 (new_it.0, r.1)).never (subst (λ (z : Told). Is command.ServerDisconnect z.message) r.2 is))
        ]

    go : (o : Option Joined) → slice_get after.circuits k ≡ o → AllRemovedRight (unwrap_or (option_map (λ (c : Joined). with_circuit k (handled_at place step replies c) after) o) after)
    go None is = still
    go (Some c) is = λ l d at. elim (At-set after.circuits k (handled_at place step replies c) l d at) [
      | inl here ↦
          let b = back k c is in
          subst (λ (z : Joined). RemovedRight z) (sym here.1) (own c (subst (λ (z : Joined). PlacesOn ⊥ z c) (At-one w.circuits k b.0 j b.1 on) b.2))
      | inr old ↦ still l d old.0
    ]

step-right : (w new : World) (k : ℕ) → Happens w (event.ServerStep k) new → ServersInOrder w → AllRemovedRight w → AllRemovedRight new
step-right w new k (at, (did, f)) order all = elim (handled-or did) [
  | inl is ↦ did-right w new k at.j at.y at.joins.at (subst (λ (x : Stepped). ServerStepped w k at.j at.y x new) is f) order all
  | inr other ↦ back-right ⊥ (λ r. r) w new (unhandled-back ⊥ w new k at.j at.y did at.joins.at other f) order all
]

-- a circuit is made, on which nothing was told
accept-right : (w new : World) (i : ℕ) (x : ClientSide) (v : WantsFirst w x) → HappensAccept w i x v new → ServersInOrder w → AllRemovedRight w → AllRemovedRight new
accept-right w new i x v f order all = elim f.leaves [
  | inl full ↦ subst (λ (z : World). AllRemovedRight z) (sym full.1) all
  | inr made ↦
      let c : Joined = connected_as made.1 (new_circuit i x v.v.circuit v.i v.y made.0) in
      let mid : World = record w { servers = slice_set w.servers v.i (record v.y { core = f.server }); circuits = w.circuits ++ c ∷ [] } in
      let g : Frame mid new = sent-frame mid new i x.names made.2 (ap (λ (z : World). z.servers) made.6) (ap (λ (z : World). z.server_logs) made.6) (ap (λ (z : World). z.circuits) made.6) in
      λ l d at.
      let b = back-frame ⊥ mid new g l d at in
      elim (At-snoc w.circuits c l b.0 b.1) [
        | inl old ↦ places-right ⊥ (λ r. r) b.0 d (length b.0.lists.down) (log_length b.0.lists.server w.server_logs) (order l b.0 old) b.2 (all l b.0 old)
        | inr last ↦ (λ m t told is. elim (b.2.told m t told) [
          | inl old ↦ absurd (none_at m t (subst (λ (z : List Told). At z m t) (ap (λ (z : Joined). z.lists.down) last.1 ∙ nothing made.1 made.0) old))
          | inr more ↦ elim more.2 [ inl r ↦ absurd r | inr other ↦ absurd (other.1 is) ]
        ])
      ]
]
  where
    nothing : (o : Option Closing) (g : Handle) → (connected_as o (new_circuit i x v.v.circuit v.i v.y g)).lists.down ≡ []
    nothing None g = refl
    nothing (Some k) g = refl

-- ---- a removal

-- a message that tells of a removal, and the reply by which its channel was created
record Gone (name : List ℕ) (e : ServerEnd) (c : Joined) (m : ℕ) (t : Told) : Type 0 where
  of : ToldOf name e c m t
  i : ℕ
  u : Told
  at : At c.lists.down i u
  place : u.place ≡ of.x.place
  reply : u.cause ≡ Reply
  creates : Creates u.message of.x.sid
  cid : u.message.p1 ≡ t.message.p1

module _ (name : List ℕ) (gone : Handle → Bool) (left : Handle → ℕ) (n : ℕ) (e : ServerEnd) (c d : Joined) (log : ℕ) (removed : RemovedOn n e c) (opens : CreationsOn c) (created : CreatedOn c) (after : ComeAfter c.lists)
    (order : InOrder c.lists.handled (length c.lists.up) (length c.lists.down) log) (up : d.lists.up ≡ c.lists.up) (handled : d.lists.handled ≡ c.lists.handled)
    (down : d.lists.down ≡ c.lists.down ++ map (removal_told c.creations) (disconnected_at name gone left c.at_server (Some (Open e)))) (all : RemovedRight c) where
  abbrev more : List Told
  more = map (removal_told c.creations) (disconnected_at name gone left c.at_server (Some (Open e)))

  gone-of : (m : ℕ) (t : Told) → At more m t → Gone name e c m t
  gone-of m t at =
      let p = told-as name gone left e c removed.0 m t at in
      let parts = told-parts name e m p.p p.at in
      let b = opens.told p.x p.there in
      let o = removed.0.opens p.p.0 p.p.1 parts.0 in
      let g = find-at (has_sid (wire_of p.p.0)) c.creations o.0 o.1 in
      let one : o.0 ≡ p.x = opens.one o.0 p.x (g.0, g.1) p.there (eqb-true o.0.sid (wire_of p.p.0) g.2 ∙ sym p.sid) in
      let asked : At c.lists.up b.1.place o.2.0 = subst (λ (q : ℕ). At c.lists.up q o.2.0) (ap (λ (z : Creation). z.place) one ∙ sym b.3) o.2.1 in
      record {
        of = p;
        i = b.0;
        u = b.1;
        at = b.2;
        place = b.3;
        reply = b.4;
        creates = b.5;
        cid = created.copies b.0 p.x.sid b.1 o.2.0 b.2 b.4 b.5 asked ∙ o.2.2 ∙ sym (ap (λ (z : Told). z.message.p1) p.is);
      }

  -- it was not cleared by what was handled
  kept : (m : ℕ) (t : Told) (g : Gone name e c m t) (i : ℕ) (v : Told) → At c.lists.down i v → IsClearedWithin c.lists.up g.of.x.sid g.u.place v.place → ⊥
  kept m t g i v at w =
      let h = after i v at in
      let within : v.place < length c.lists.handled = At-within c.lists.handled v.place h.0 h.1 in
      let lt : w.0 < v.place = w.3 in
      opens.uncleared g.of.x w.0 w.1 g.of.there (subst (λ (q : ℕ). q < w.0) g.place w.2) (omega (arith, within, lt)) w.4 w.5

  -- a second one for its CID before it
  second : (m : ℕ) (t : Told) (g : Gone name e c m t) (j : ℕ) (v : Told) → g.i < j → At c.lists.down j v → Is command.ServerDisconnect v.message → v.message.p1 ≡ t.message.p1 → ⊥
  second m t g j v lt at is same =
      let r = all j v at is in
      let cids : r.u.message.p1 ≡ g.u.message.p1 = r.cid ∙ same ∙ sym g.cid in
      elim (three-ways r.i g.i) [
        | inl first ↦
            let o = created.owned r.i g.i r.sid g.of.x.sid r.u g.u first r.at g.at r.reply g.reply r.creates g.creates cids in
            let w = o.1 in
            let h = after g.i g.u g.at in
            elim (At-or c.lists.handled w.0) [
              | inl s ↦
                  let late : s.0.sent ≤ h.0.sent = (order.rise w.0 g.u.place s.0 h.0 w.3 s.1 h.1).0 in
                  let le : h.0.sent ≤ g.i = h.2 in
                  r.uncleared w.0 w.1 s.0 w.2 s.1 (omega (arith, late, le, lt)) w.4 w.5
              | inr past ↦ (let within : g.u.place < length c.lists.handled = At-within c.lists.handled g.u.place h.0 h.1 in let q : w.0 < g.u.place = w.3 in omega (arith, within, q, past))
            ]
        | inr (inl one) ↦
            let said : r.u ≡ g.u = At-one c.lists.down g.i r.u g.u (subst (λ (z : ℕ). At c.lists.down z r.u) one r.at) g.at in
            let parts = told-parts name e m g.of.p g.of.at in
            not-both g.of.p.1.retired
            (removed.3.retired v g.of.x g.of.p.0 g.of.p.1 (j, at) r.removal g.of.there (sym g.place ∙ ap (λ (z : Told). z.place) (sym said) ∙ r.place) parts.0 (sym g.of.sid)) parts.2
        | inr (inr last) ↦
            let o = created.owned g.i r.i g.of.x.sid r.sid g.u r.u last g.at r.at g.reply r.reply g.creates r.creates (sym cids) in
            kept m t g r.i r.u r.at o.1
      ]

  -- another one that goes with it
  beside : (m k : ℕ) (t v : Told) → At more m t → At more k v → k < m → v.message.p1 ≡ t.message.p1 → ⊥
  beside m k t v at also lt same =
      let g = gone-of m t at in
      let f = gone-of k v also in
      let cids : f.u.message.p1 ≡ g.u.message.p1 = f.cid ∙ same ∙ sym g.cid in
      elim (three-ways f.i g.i) [
        | inl first ↦ kept k v f g.i g.u g.at (created.owned f.i g.i f.of.x.sid g.of.x.sid f.u g.u first f.at g.at f.reply g.reply f.creates g.creates cids).1
        | inr (inl one) ↦
            let said : f.u ≡ g.u = At-one c.lists.down g.i f.u g.u (subst (λ (z : ℕ). At c.lists.down z f.u) one f.at) g.at in
            let sids : f.of.x.sid ≡ g.of.x.sid = sym f.creates.1 ∙ ap (λ (z : Told). z.message.p2) said ∙ g.creates.1 in
            let p = told-parts name e k f.of.p f.of.at in
            let q = told-parts name e m g.of.p g.of.at in
            let handles : f.of.p.0 ≡ g.of.p.0 = one-by-wire e.channels f.of.p.0 g.of.p.0 f.of.p.1 g.of.p.1 removed.0.few p.0 q.0 (sym f.of.sid ∙ sids ∙ g.of.sid) in
            let places : k ≡ m = apart-at (channels_of name e) (apart-kept _ (held e.channels) (held-apart e.channels)) k m f.of.p g.of.p f.of.at g.of.at handles in
            omega (arith, lt, places)
        | inr (inr last) ↦ kept m t g f.i f.u f.at (created.owned g.i f.i g.of.x.sid f.of.x.sid g.u f.u last g.at f.at g.reply f.reply g.creates f.creates (sym cids)).1
      ]

  goes : GoesOn c d
  goes = record {
    down = λ i t lt at. At-back c.lists.down more i t (subst (λ (l : List Told). At l i t) down at) lt;
    longer = (let q : length d.lists.down ≡ length (c.lists.down ++ more) = ap (λ (l : List Told). length l) down in let r = length-append c.lists.down more in omega (arith, q, r));
    handled = λ l h at. inl (subst (λ (s : List Step). At s l h) handled at);
    up = λ p s at. subst (λ (l : List Sent). At l p s) (sym up) at;
  }

  pub gone-right : RemovedRight d
  gone-right k t at is = elim (At-parts c.lists.down more k t (subst (λ (l : List Told). At l k t) down at)) [
    | inl old ↦ removed-on c d (length c.lists.down) log order goes k t old (all k t old is)
    | inr new_it ↦ here new_it.0 new_it.1 new_it.2
  ]
    where
      here : (m : ℕ) → k ≡ length c.lists.down + m → At more m t → RemovedAs d k t
      here m index at_m =
          let g = gone-of m t at_m in
          let in_it : g.i < length c.lists.down = At-within c.lists.down g.i g.u g.at in
          record {
            removal = ap (λ (z : Told). z.cause) g.of.is;
            i = g.i;
            sid = g.of.x.sid;
            u = g.u;
            at = told-on c d goes g.i g.u g.at;
            early = omega (arith, in_it, index);
            reply = g.reply;
            creates = g.creates;
            place = g.place ∙ sym g.of.place;
            cid = g.cid;
            uncleared = λ l s h lt on le there clears.
                opens.uncleared g.of.x l s g.of.there (subst (λ (q : ℕ). q < l) g.place lt) (At-within c.lists.handled l h (subst (λ (z : List Step). At z l h) handled on)) (subst (λ (z : List Sent). At z l s) up there) clears;
            alone = λ j v late before there tells same. elim (At-parts c.lists.down more j v (subst (λ (l : List Told). At l j v) down there)) [
              | inl old ↦ second m t g j v late old tells same
              | inr too ↦ beside m too.0 t v at_m too.2 (let e : j ≡ length c.lists.down + too.0 = too.1 in omega (arith, e, index, before)) same
            ];
          }

remove-right : (s : Setting) (w new : World) (i : ℕ) (y : ServerSide) (name : List ℕ) → ServersStand s w → AllEnds RemovedOn w → AllEnds HasCreations w → AllCreated w → AllComeAfter w → ServersInOrder w → At w.servers i y → HappensRemove w i y name new
    → AllRemovedRight w → AllRemovedRight new
remove-right s w new i y name h ends open_now created after order at (gone, left, core, inr (removes, is)) all = subst (λ (z : World). AllRemovedRight z) (sym is) all
remove-right s w new i y name h ends open_now created after order at (gone, left, core, inl (removes, is)) all = subst (λ (z : World). AllRemovedRight z) (sym is) (λ l d at_d.
    let x = At-mapped (ending (ends_by i core)) (moves.removal_told w i y name gone left).circuits l d at_d in
    let c = At-mapped (removed_at i y.core name gone left) w.circuits l x.0 x.1 in
    subst (λ (z : Joined). RemovedRight z) (sym x.2) (ended-right (ends_by i core) x.0 (subst (λ (z : Joined). RemovedRight z) (sym c.2) (one l c.0 c.1))))
  where
    ended-right : (f : Joined → Option (List ℕ)) (c : Joined) → RemovedRight c → RemovedRight (ending f c)
    ended-right f c r = go (f c)
      where
        go : (o : Option (List ℕ)) → RemovedRight (unwrap_or (option_map (λ (bytes : List ℕ). server.server_closed bytes c) o) c)
        go None = r
        go (Some bytes) = λ k t there tells. (let b = r k t there tells in record { removal = b.removal; i = b.i; sid = b.sid; u = b.u; at = b.at; early = b.early; reply = b.reply; creates = b.creates; place = b.place; cid = b.cid; uncleared = b.uncleared; alone = b.alone })

    one : (l : ℕ) (c : Joined) → At w.circuits l c → RemovedRight (removed_at i y.core name gone left c)
    one l c on = go (eqb c.server i && c.lists.server_open) refl
      where
        gone_of : List (Handle × OpenChannel)
        gone_of = disconnected_at name gone left c.at_server (under y.core.circuits c.at_server)

        next : Joined
        next = without_standing (λ (k : SubKey). list_any (λ (x : Handle × OpenChannel). eqb (wire_of x.0) k.sid) gone_of) (record c { lists = record c.lists { down = c.lists.down ++ map (removal_told c.creations) gone_of } })

        here : c.server ≡ i → c.lists.server_open ≡ true → RemovedRight next
        here mine opened =
            let seat = h.stands.sound.seated.each l c on opened in
            let same : seat.y ≡ y = At-one w.servers i seat.y y (subst (λ (k : ℕ). At w.servers k seat.y) mine seat.at) at in
            let had : HasEnd y.core c.at_server seat.e = subst (λ (z : ServerSide). HasEnd z.core c.at_server seat.e) same seat.has in
            gone-right name gone left l seat.e c next (log_length c.lists.server w.server_logs) (ends l c seat.y seat.e on seat.at opened seat.has) (open_now l c seat.y seat.e on seat.at opened seat.has).1 (created l c on) (after l c on) (order l c on) refl refl
            (ap (λ (o : Option ServerCircuit). c.lists.down ++ map (removal_told c.creations) (disconnected_at name gone left c.at_server o)) had) (all l c on)

        go : (b : Bool) → eqb c.server i && c.lists.server_open ≡ b → RemovedRight (cond b next c)
        go false other = all l c on
        go true both = (let b = and-both (eqb c.server i) c.lists.server_open both in here (eqb-true c.server i b.0) b.1)

-- ---- every event and run

removes-or : (e : Event) → (Removes e → ⊥) ⊎ ((i : ℕ) × (name : List ℕ) × (e ≡ event.Remove i name))
removes-or (event.Remove i name) = inr (i, name, refl)
removes-or e = inl (λ r. r)

-- what holds beside it
pub record Beside (s : Setting) (w : World) : Type 0 where
  pub stand : ServersStand s w
  pub removed : AllEnds RemovedOn w
  pub open_now : AllEnds HasCreations w
  pub created : AllCreated w
  pub after : AllComeAfter w
  pub order : ServersInOrder w

event-beside : (s : Setting) (w new : World) (e : Event) → IsSetting s → Happens w e new → Beside s w → Beside s new
event-beside s w new e ok one b = record {
  stand = event-serves s w new e ok one b.stand;
  removed = event-lasts RemovedOn removed-lasting removed-begun removed-handled s w new e (takes-next s w b.stand) one b.stand.stands.sound b.removed;
  open_now = event-lasts HasCreations creations-lasting creations-begun creations-handled s w new e (takes-next s w b.stand) one b.stand.stands.sound b.open_now;
  created = event-created s w new e b.stand (λ n c y f at there opened has. (b.open_now n c y f at there opened has).1) one b.created;
  after = event-after s w new e b.stand one b.order b.after;
  order = event-served w new e b.stand.stands.sound.seated (takes-next s w b.stand) one b.order;
}

event-right : (s : Setting) (w new : World) (e : Event) → Beside s w → Happens w e new → AllRemovedRight w → AllRemovedRight new
event-right s w new e b happens all =
    event-or (AllRemovedRight new) s w new e b.stand happens
    (λ back. elim (removes-or e) [
      | inl none ↦ back-right (Removes e) none w new back b.order all
      | inr remove ↦ (let r : Happens w (event.Remove remove.0 remove.1) new = subst (λ (x : Event). Happens w x new) remove.2 happens in remove-right s w new remove.0 r.0.y remove.1 b.stand b.removed b.open_now b.created b.after b.order r.0.at r.1 all)
    ])
    (λ k is steps. step-right w new k steps b.order all) (λ i is accepts. accept-right w new i accepts.0.x accepts.0.v accepts.1 b.order all)

events-right : (s : Setting) (es : List Event) (w new : World) → IsSetting s → FoldsTo Happens w es new → Beside s w → AllRemovedRight w → Beside s new × AllRemovedRight new
events-right s [] w new ok same b all = subst (λ (z : World). Beside s z × AllRemovedRight z) same (b, all)
events-right s (e ∷ es) w new ok (mid, one, rest) b all = events-right s es mid new ok rest (event-beside s w mid e ok one b) (event-right s w mid e b one all)

stops-right : (s : Setting) (mid : World) (stopped : Option Event) (w : World) → StopsAt mid stopped w → Beside s mid → AllRemovedRight mid → AllRemovedRight w
stops-right s mid (Some (event.Tick moment)) w stops b all = elim stops [
  | inl same ↦ subst (λ (z : World). AllRemovedRight z) (sym same) all
  | inr ticked ↦ back-right ⊥ (λ r. r) mid w (back-frame ⊥ mid w (ticks-frame moment mid (clients_below ticked.0) w ticked.3)) b.order all
]
stops-right s mid stopped w stops b all = subst (λ (z : World). AllRemovedRight z) (sym stops) all

pub run-right : (s : Setting) (es : List Event) (stopped : Option Event) (w : World) → IsSetting s → Runs s es stopped w → AllRemovedRight w
run-right s es stopped w ok (mid, folds, stops) =
    let begun : Beside s (opening s) = record {
      stand = opening-serves s ok;
      removed = opening-lasts RemovedOn removed-lasting s;
      open_now = opening-lasts HasCreations creations-lasting s;
      created = opening-created s;
      after = λ n c at. absurd (none_at n c at);
      order = λ n c at. absurd (none_at n c at);
    } in
    let r = events-right s es (opening s) mid ok folds begun (λ n c at. absurd (none_at n c at)) in
    stops-right s mid stopped w stops r.0 r.1

-- ---- what the statement says

module _ (c : Joined) (log : ℕ) (after : ComeAfter c.lists) (order : InOrder c.lists.handled (length c.lists.up) (length c.lists.down) log) (right : RemovedRight c) where
  abbrev did : Conduct
  did = server_conduct c.lists

  pub legal-disconnects : (k : ℕ) (m : Fields) → At did.sent k m → Is command.ServerDisconnect m → (i sid : ℕ) × IsOpenAt did k i m.p1 sid × IsConnected did i k m.p1
  legal-disconnects k m at is =
      let t = sent-at c.lists k m at in
      let r = right k t.0 t.1 (subst (λ (x : Fields). Is command.ServerDisconnect x) t.2 is) in
      let h = after r.i r.u r.at in
      let le : h.0.sent ≤ r.i = h.2 in (
        r.i,
        r.sid,
        (
          r.u.message,
          At-map (λ (x : Told). x.message) c.lists.down r.i r.u r.at,
          r.creates,
          r.cid ∙ ap (λ (x : Fields). x.p1) (sym t.2),
          r.early,
          λ j q reads clears.
              let s = At-mapped (λ (x : Sent). x.message) c.lists.up j q reads.1 in
              let g = At-mapped (λ (x : Step). x.sent) c.lists.handled j reads.0 reads.2 in
              let b : reads.0 ≡ g.0.sent = g.2 in
              let from : r.i < reads.0 = reads.3 in
              let until : reads.0 ≤ k = reads.4 in
              elim (three-ways j r.u.place) [
                | inl first ↦ (let early : g.0.sent ≤ h.0.sent = (order.rise j r.u.place g.0 h.0 first g.1 h.1).0 in omega (arith, early, le, b, from))
                | inr (inl one) ↦ (let same : g.0.sent ≡ h.0.sent = ap (λ (x : Step). x.sent) (At-one c.lists.handled r.u.place g.0 h.0 (subst (λ (z : ℕ). At c.lists.handled z g.0) one g.1) h.1) in omega (arith, same, le, b, from))
                | inr (inr later) ↦ r.uncleared j s.0 g.0 later g.1 (omega (arith, b, until)) s.1 (subst (λ (x : Fields). Clears x r.sid) s.2 clears)
              ],
        ),
        λ l q late before there ends.
            let v = sent-at c.lists l q there in
            r.alone l v.0 late before v.1 (subst (λ (x : Fields). Is command.ServerDisconnect x) v.2 ends.0) (ap (λ (x : Fields). x.p1) (sym v.2) ∙ ends.1 ∙ ap (λ (x : Fields). x.p1) t.2),
      )

pub run-disconnects : (s : Setting) (es : List Event) (stopped : Option Event) (w : World) → IsSetting s → Runs s es stopped w → ServersEndOpenChannels w
run-disconnects s es stopped w ok runs n d at =
    let j = At-mapped circuit_of w.circuits n d at in
    let l = run-server-steps s es stopped w ok runs n d at in
    let c : Joined = j.0 in (
      l.0,
      l.1,
      l.2,
      subst (λ (v : Circuit). EndsOpenChannels (server_conduct v)) (sym j.2)
          (legal-disconnects c (log_length c.lists.server w.server_logs) (run-after s es stopped w ok runs n c j.1) (run-served s es stopped w ok runs n c j.1) (run-right s es stopped w ok runs n c j.1)),
    )
