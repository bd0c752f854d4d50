-- A removal: its SERVER_DISCONNs are about channels that are open.
use Rattle.std.proofs.Common.{◌≡◌, ℕ, ◌<◌, inl, inr, Bool, true, false, cond, ◌&&◌, eqb, eqb-true, not, List, ◌++◌, length, Option, Some, refl, sym, ap, subst, ◌∙◌}
use Rattle.std.specs.Prelude.{filter, map, option_map, take, unwrap_or}
use Rattle.std.specs.Str.{bytes_eq}
use Rattle.ca_arena.specs.declared.handle.Handle.{Handle}
use Rattle.ca_ids.specs.Table.{held, under}
use Rattle.ca_ids.specs.Wire.{wire_of}
use Rattle.ca_model.proofs.Tables.{held-under}
use Rattle.ca_laws_parts.proofs.CircuitTold.{removal-speaks}
use Rattle.ca_laws_parts.specs.Flows.{Concerns}
use Rattle.ca_text.specs.Place.{At}
use Rattle.ca_text.proofs.Places.{At-map, At-one, At-within}
use Rattle.ca_wire.specs.Fields.{Fields}
use Rattle.ca_model.specs.Client.{Client}
use Rattle.ca_model.specs.History.{Cause, Removal, Reply, Sent, Told}
use Rattle.ca_model.specs.Server.{Open, OpenChannel, Server, ServerCircuit, ServerEnd}
use Rattle.ca_model.specs.ServerCalls.{channels_of}
use Rattle.ca_model.specs.ServerSteps.{HasEnd}
use Rattle.ca_model.specs.Speech.{In, Speaks}
use Rattle.ca_model.specs.Events as event
use Rattle.ca_model.specs.Runs.{Happens}
use Rattle.ca_model.specs.ServerEvents.{HappensRemove, disconnected_at, ends_by, removal_told, removed_at}
use Rattle.ca_model.specs.World.{Creation, IsSetting, Joined, Names, RecordSide, ServerSide, Setting, World}
use Rattle.ca_laws_parts.specs.Circuit.{HeldAt, HeldOn}
use Rattle.ca_laws_parts.proofs.Handled.{like-held}
use Rattle.ca_laws_parts.proofs.RunsServers.{server-held}
use Rattle.ca_laws_parts.specs.Moves.{removal_told as removal_world}
use Rattle.ca_laws_parts.specs.Seats.{Sound, TakesSent}
use Rattle.ca_laws_parts.proofs.WritesEvents.{find-at}
use Rattle.ca_laws_parts.proofs.WritesLists.{At-take, In-kept}
use Rattle.ca_laws_parts.proofs.Lasting.{told_gone}
use Rattle.ca_laws_parts.specs.Channels.{AllChannels, ChannelsOn, has_sid}
use Rattle.ca_laws_parts.specs.Kept.{kept}
use Rattle.ca_laws_parts.specs.Later.{IsLater}
use Rattle.ca_laws_parts.specs.Messages.{AllMessages, Messages}
use Rattle.ca_laws_parts.proofs.Laters.{held-then, laters-held, with_down}
use Rattle.ca_laws_parts.proofs.Puts.{In-mapped}
use Rattle.ca_laws_parts.proofs.Thins.{there-kept}

no-removal : let a : Cause = Removal in let b : Cause = Reply in a ≡ b → ⊥
no-removal e = cc

and-both : (a b : Bool) → a && b ≡ true → (a ≡ true) × (b ≡ true)
and-both true b e = (refl, e)
and-both false b e = absurd cc

-- the circuit after a removal, by what goes down there
removed-on : (ks : List ℕ) (n : Names) (x : Client) (i : ℕ) (core : Server) (name : List ℕ) (gone : Handle → Bool) (left : Handle → ℕ) (c : Joined)
    → (c.server ≡ i → c.lists.server_open ≡ true → (t : Told) → In (map (removal_told c.creations) (disconnected_at name gone left c.at_server (under core.circuits c.at_server))) t → IsLater ks c.lists t)
    → HeldOn ks n x c → HeldOn ks n x (removed_at i core name gone left c)
removed-on ks n x i core name gone left c each h = go (eqb c.server i && c.lists.server_open) refl
  where
    told : List (Handle × OpenChannel)
    told = disconnected_at name gone left c.at_server (under core.circuits c.at_server)

    go : (b : Bool) → eqb c.server i && c.lists.server_open ≡ b → HeldOn ks n x (cond b (told_gone told c) c)
    go false is = h
    go true is =
        let b = and-both (eqb c.server i) c.lists.server_open is in
        like-held ks n x (with_down (c.lists.down ++ map (removal_told c.creations) told) c) (told_gone told c) (refl, refl, refl)
        (laters-held ks n x c (map (removal_told c.creations) told) (each (eqb-true c.server i b.0) b.1) h)

removed-client : (i : ℕ) (core : Server) (name : List ℕ) (gone : Handle → Bool) (left : Handle → ℕ) (c : Joined) → (removed_at i core name gone left c).client ≡ c.client
removed-client i core name gone left c = go (eqb c.server i && c.lists.server_open)
  where
    go : (b : Bool) → (cond b (told_gone (disconnected_at name gone left c.at_server (under core.circuits c.at_server)) c) c).client ≡ c.client
    go true = refl
    go false = refl

-- a SERVER_DISCONN is about the creation of its channel
disconnect-later : (w : World) (l : ℕ) (c : Joined) (e : ServerEnd) (name : List ℕ) (gone : Handle → Bool) (left : Handle → ℕ) → At w.circuits l c → c.lists.server_open ≡ true → ChannelsOn e c → Messages c
    → (t : Told) → In (map (removal_told c.creations) (disconnected_at name gone left c.at_server (Some (Open e)))) t → IsLater (kept w l) c.lists t
disconnect-later w l c e name gone left at opened channels m t there =
    let p = In-mapped (removal_told c.creations) (disconnected_at name gone left c.at_server (Some (Open e))) t there in
    let h : Handle = p.0.0 in
    let ch : OpenChannel = p.0.1 in
    let in_it : In (held e.channels) p.0 = (In-kept (λ (z : Handle × OpenChannel). bytes_eq z.1.name name && not z.1.retired) (held e.channels) p.0 (all-of (gone c.at_server) p.0 p.1)).0 in
    let open_it : under e.channels h ≡ Some ch = held-under e.channels in_it.0 p.0 in_it.1 in
    let r = channels.opens h ch open_it in
    let f = find-at (has_sid (wire_of h)) c.creations r.0 r.1 in
    let created : In c.creations r.0 = (f.0, f.1) in
    let s = m.channels r.0 created in
    let one : r.2.0 ≡ s.0 = At-one c.lists.up r.0.place r.2.0 s.0 r.2.1 s.1 in
    let place : t.place ≡ r.0.place = ap (λ (z : Told). z.place) p.2 ∙ ap (λ (o : Option Creation). unwrap_or (option_map (λ (z : Creation). z.place) o) 0) r.1 in
    let message = ap (λ (z : Told). z.message) p.2 in
    record {
      other = λ reply. no-removal (sym (ap (λ (z : Told). z.cause) p.2) ∙ reply);
      keeps = subst (λ (q : ℕ). In (kept w l) q) (sym place) (there-kept w l r.0.place c at opened (inr (inr (r.0, created, refl))));
      there = subst (λ (q : ℕ). q < length c.lists.up) (sym place) (At-within c.lists.up r.0.place s.0 s.1);
      speaks = λ id spoken.
          subst (λ (q : ℕ). Concerns c.lists.up q id) (sym place)
          (removal-speaks c.lists.up r.0.place s.0 ch.cid s.1 s.2 (ap (λ (z : Sent). z.message.p1) (sym one) ∙ r.2.2) id (subst (λ (f : Fields). Speaks f id) message spoken));
    }
  where
    all-of : (b : Bool) (z : Handle × OpenChannel) → In (cond b (take (left c.at_server) (channels_of name e)) (channels_of name e)) z → In (channels_of name e) z
    all-of true z h = (h.0, At-take (left c.at_server) (channels_of name e) h.0 z h.1)
    all-of false z h = h

remove-held : (ks : List ℕ) (w new : World) (i l : ℕ) (y : ServerSide) (name : List ℕ)
    → ((gone : Handle → Bool) (left : Handle → ℕ) (c : Joined) → At w.circuits l c → c.server ≡ i → c.lists.server_open ≡ true → (t : Told) → In (map (removal_told c.creations) (disconnected_at name gone left c.at_server (under y.core.circuits c.at_server))) t → IsLater ks c.lists t)
    → HappensRemove w i y name new → HeldAt ks w l → HeldAt ks new l
remove-held ks w new i l y name each (gone, left, core, inr (removes, is)) held = subst (λ (z : World). HeldAt ks z l) (sym is) held
remove-held ks w new i l y name each (gone, left, core, inl (removes, is)) held =
    let c : Joined = held.0 in
    let f : Joined → Joined = removed_at i y.core name gone left in
    let side : ServerSide = record y { records = filter (λ (r : RecordSide). not (bytes_eq r.name name)) y.records } in
    subst (λ (z : World). HeldAt ks z l) (sym is)
    (server-held ks (removal_world w i y name gone left) i l side (ends_by i core) core (
      f c,
      held.1,
      At-map f w.circuits l c held.2,
      subst (λ (k : ℕ). At w.clients k held.1) (sym (removed-client i y.core name gone left c)) held.3,
      removed-on ks held.1.names held.1.core i y.core name gone left c (each gone left c held.2) held.4,
    ))

pub remove-keeps-held : (s : Setting) (w new : World) (i l : ℕ) (name : List ℕ) → IsSetting s → TakesSent w → Sound s w → AllMessages w → AllChannels w → Happens w (event.Remove i name) new → HeldAt (kept w l) w l → HeldAt (kept new l) new l
remove-keeps-held s w new i l name ok takes h messages channels happens start =
    let y : ServerSide = happens.0.y in
    held-then s w new (event.Remove i name) l ok takes h happens (At-within w.circuits l start.0 start.2) (λ p own. own)
    (remove-held (kept w l) w new i l y name
    (λ gone left c at mine opened t there.
    let seat = h.seated.each l c at opened in
    let same : seat.y ≡ y = At-one w.servers i seat.y y (subst (λ (k : ℕ). At w.servers k seat.y) mine seat.at) happens.0.at in
    let had : HasEnd y.core c.at_server seat.e = subst (λ (z : ServerSide). HasEnd z.core c.at_server seat.e) same seat.has in
    disconnect-later w l c seat.e name gone left at opened (channels l c seat.y seat.e at seat.at opened seat.has) (messages l c at opened) t
    (subst (λ (o : Option ServerCircuit). In (map (removal_told c.creations) (disconnected_at name gone left c.at_server o)) t) had there))
    happens.1 start)
