-- Events at a server keep the handles of its circuits.
use Rattle.std.proofs.Common.{◌≡◌, ℕ, ◌<◌, inl, inr, Bool, true, false, ◌&&◌, cond, eqb, List, [], ◌∷◌, ◌++◌, length, Option, Some, None, refl, sym, ap, ◌∙◌, subst, arith}
use Rattle.std.specs.Prelude.{Ok, Result, drop, filter, map, not, option_map, slice_get, slice_set, unwrap_or}
use Rattle.std.specs.Str.{bytes_eq}
use Rattle.std.proofs.lemmas.Bool.{both_ways, eqb-true}
use Rattle.ca_arena.specs.declared.handle.Handle.{Handle}
use Rattle.ca_dbr.specs.Elements.{Elements}
use Rattle.ca_ids.specs.Table.{under}
use Rattle.ca_records.specs.Record.{RecordState}
use Rattle.ca_text.specs.Place.{At}
use Rattle.ca_text.specs.declared.refusal.Refusal.{Refusal}
use Rattle.ca_text.proofs.Places.{At-map, At-mapped, At-set, At-snoc, At-within}
use Rattle.ca_ids.specs.Wire.{wire_of}
use Rattle.ca_queue.specs.declared.entry.SubKey.{SubKey}
use Rattle.std.specs.List.{list_any}
use Rattle.ca_model.specs.ClientEnds.{handed_over}
use Rattle.ca_model.specs.Due.{Action}
use Rattle.ca_model.specs.Ends as why
use Rattle.ca_model.specs.Answers.{Closing}
use Rattle.ca_model.specs.History as history
use Rattle.ca_model.specs.Server.{OpenChannel, Server, ServerCircuit}
use Rattle.ca_model.specs.ServerSteps.{Accepts, Next, Stepped, closed, output_of}
use Rattle.ca_model.specs.ServerSteps as stepped
use Rattle.ca_model.specs.ClientEvents.{HappensAccept, HappensDown, HappensUp, Outcomes, WantsFirst, connected_as, lines_of, new_circuit, closing_notices}
use Rattle.ca_model.specs.ServerEvents.{HappensAdd, HappensCutServer, HappensPost, HappensPump, HappensRemove, HappensServerRestart, ServerStepped, StepHandles, StepLacks, acted, disconnected_at, ending, ends_by, ends_here, ends_untold, handled_at, logged, numbers_after, numbers_posted, records_after, removal_told, removed_at, reported, server_after, server_closed, side_of, stamped, unsaid, without_standing, write_numbers}
use Rattle.ca_model.specs.World.{ClientSide, Joined, RecordSide, ServerSide, Setting, World, server_begun, with_circuit, with_client, with_server}
use Rattle.ca_model.proofs.Tables.{freed-back, held-back}
use Rattle.ca_model.specs.Placed.{WasGiven}
use Rattle.ca_laws_parts.proofs.RunsSending.{not-given}
use Rattle.ca_model.proofs.Thinner.{given-held, given-own, thin-then}
use Rattle.ca_laws_parts.specs.Seats.{Sound}
use Rattle.ca_laws_parts.proofs.Frames.{frame-after, frame-circuit, goes-same}
use Rattle.ca_laws_parts.proofs.Midway.{set-here}
use Rattle.ca_laws_parts.specs.Worlds.{HandlesStand}
use Rattle.ca_laws_parts.proofs.Handles.{circuit-handles, frame-handles, handles-after, over-by-core, over-here, server-handles}
use Rattle.ca_laws_parts.proofs.ServerEvents.{posted-tells, stamped-tells}
use Rattle.ca_laws_parts.proofs.BytesServerSteps.{acted-tells, noted-is}
use Rattle.ca_laws_parts.proofs.BytesServers.{Like, ending-like, like-itself}
use Rattle.ca_laws_parts.proofs.Tables.{Thin, cuts-thin, gives-thin, left-thin, next-thin, pumps-thin, reaches-thin, removal-thin, sends-thin, thin-closed, thin-each, thin-is, thin-server}

itself-back : (w : World) (n : ℕ) (m : Joined) → At w.circuits n m → (c : Joined) × At w.circuits n c × Like c m × (m.lists.server_open ≡ c.lists.server_open)
itself-back w n m at = (m, at, like-itself m, refl)

map-back : (w : World) (f : Joined → Joined) → ((c : Joined) → Like c (f c) × ((f c).lists.server_open ≡ c.lists.server_open)) → (n : ℕ) (m : Joined) → At (map f w.circuits) n m → (c : Joined) × At w.circuits n c × Like c m × (m.lists.server_open ≡ c.lists.server_open)
map-back w f like n m at =
    let c = At-mapped f w.circuits n m at in
    (c.0, c.1, subst (λ (d : Joined). Like c.0 d) (sym c.2) (like c.0).0, ap (λ (d : Joined). d.lists.server_open) c.2 ∙ (like c.0).1)

set-back : (w : World) (k : ℕ) (j d : Joined) → At w.circuits k j → Like j d → d.lists.server_open ≡ j.lists.server_open → (n : ℕ) (m : Joined) → At (slice_set w.circuits k d) n m → (c : Joined) × At w.circuits n c × Like c m × (m.lists.server_open ≡ c.lists.server_open)
set-back w k j d at like is_open n m there = elim (At-set w.circuits k d n m there) [
  | inl here ↦ (j, subst (λ (l : ℕ). At w.circuits l j) (sym here.0) at, subst (λ (q : Joined). Like j q) (sym here.1) like, ap (λ (q : Joined). q.lists.server_open) here.1 ∙ is_open)
  | inr old ↦ (m, old.0, like-itself m, refl)
]

-- ---- posts, cuts, pumps and removals

pub post-handles : (w new : World) (i : ℕ) (y : ServerSide) (name : List ℕ) (e : Elements) (mask : ℕ) → At w.servers i y → HappensPost w i y name e mask new → HandlesStand w → HandlesStand new
post-handles w new i y name e mask at (gone, core, inl (posts, is)) h =
    subst (λ (z : World). HandlesStand z) (sym is)
    (handles-after w _ i y y core (ends_by i core) at refl (λ l s there other. there) (thin-is y.core _ core posts.2 (thin-each _ y.core.circuits))
    (map-back w (numbers_posted i y.core name mask) (λ c. (let t = posted-tells i y.core name mask c in (t.like, t.is_open)))) (over-by-core i core) h)
post-handles w new i y name e mask at (gone, core, inr refused) h = subst (λ (z : World). HandlesStand z) (sym refused.3) h

pub cut-handles : (w new : World) (k : ℕ) (j : Joined) (y : ServerSide) → At w.servers j.server y → HappensCutServer w k j y new → HandlesStand w → HandlesStand new
cut-handles w new k j y at f h =
    subst (λ (z : World). HandlesStand z) (sym f.leaves)
    (handles-after w w j.server y y f.core (ends_by j.server f.core) at refl (λ l s there other. there) (cuts-thin y.core j.at_server f.core f.cuts) (itself-back w) (over-by-core j.server f.core) h)

pub pump-handles : (w new : World) (k : ℕ) (j : Joined) (y : ServerSide) → At w.circuits k j → At w.servers j.server y → HappensPump w k j y new → HandlesStand w → HandlesStand new
pump-handles w new k j y on at f h =
    let t = stamped-tells f.updates j in
    subst (λ (z : World). HandlesStand z) (sym f.leaves)
    (handles-after w (with_circuit k (stamped f.updates j) w) j.server y y f.core (ends_by j.server f.core) at refl (λ l s there other. there) (pumps-thin y.core j.at_server f.updates f.core f.pumps)
    (set-back w k j (stamped f.updates j) on t.like t.is_open) (over-by-core j.server f.core) h)

pub remove-handles : (w new : World) (i : ℕ) (y : ServerSide) (name : List ℕ) → At w.servers i y → HappensRemove w i y name new → HandlesStand w → HandlesStand new
remove-handles w new i y name at (gone, left, core, inr (removes, is)) h = subst (λ (z : World). HandlesStand z) (sym is) h
remove-handles w new i y name at (gone, left, core, inl (removes, is)) h =
    subst (λ (z : World). HandlesStand z) (sym is)
    (handles-after w _ i y side core (ends_by i core) at refl (λ l s there other. elim (At-set w.servers i side l s there) [ inl new ↦ absurd (other new.0) | inr old ↦ old.0 ])
    (removal-thin name gone left y.core core (ap (λ (x : Server). x.circuits) removes.2)) (map-back w (removed_at i y.core name gone left) like) (over-by-core i core) h)
  where
    side : ServerSide
    side = record y { records = filter (λ (r : RecordSide). not (bytes_eq r.name name)) y.records }

    like : (c : Joined) → Like c (removed_at i y.core name gone left c) × ((removed_at i y.core name gone left c).lists.server_open ≡ c.lists.server_open)
    like c = go (eqb c.server i && c.lists.server_open)
      where
        told : List (Handle × OpenChannel)
        told = disconnected_at name gone left c.at_server (under y.core.circuits c.at_server)

        over : SubKey → Bool
        over k = list_any (λ (e : Handle × OpenChannel). eqb (wire_of e.0) k.sid) told

        go : (b : Bool) → let d : Joined = cond b (without_standing over (record c { lists = record c.lists { down = c.lists.down ++ map (removal_told c.creations) told } })) c in Like c d × (d.lists.server_open ≡ c.lists.server_open)
        go true = (record { client = refl; server = refl; handle = refl; life = refl; side = λ x. refl; up = refl }, refl)
        go false = (like-itself c, refl)

-- ---- a step

module _ (w : World) (k : ℕ) (j : Joined) (y : ServerSide) (on : At w.circuits k j) (at : At w.servers j.server y) (h : HandlesStand w) where
  acted-back : (did : Action) (n : ℕ) (m : Joined) → At (acted k j y did w).circuits n m → (c : Joined) × At w.circuits n c × Like c m × (m.lists.server_open ≡ c.lists.server_open)
  acted-back did n m there = (let c = acted-tells w k j y did on n m there in (c.0, c.1, c.2.like, c.2.is_open))

  side-life : (l : ServerSide) → l.life ≡ y.life → (o : Option ServerSide) → o ≡ Some l → (unwrap_or o y).life ≡ y.life
  side-life l same o is = ap (λ (q : Option ServerSide). (unwrap_or q y).life) is ∙ same

  handled-handles : (new : World) → StepHandles w k j y new → HandlesStand new
  handled-handles new f = subst (λ (v : World). HandlesStand v) (sym (f.leaves ∙ noted-is k (length j.lists.handled) _ next.replies after own own-there)) (circuit-handles after k own (handled_at (length j.lists.handled) (record { sent = length j.lists.down; logged = logged y w; after = logged y after }) next.replies own) own-there (record { client = refl; server = refl; handle = refl; life = refl; side = λ x. refl; up = refl }) refl ended)
    where
      next : Next y.core j.at_server f.e
      next = f.steps.0

      mid : World
      mid = acted k j y next.action w

      after : World
      after = server_after j.server (side_of j.server y mid) (ends_by j.server f.core) f.core mid

      side : ServerSide
      side = record y { records = records_after y.core j.at_server (record { circuit = k; place = length j.lists.handled }) next.action y.records }

      there : At mid.servers j.server side
      there = set-here w.servers j.server y side at

      ended : HandlesStand after
      ended =
          handles-after w mid j.server y (side_of j.server y mid) f.core (ends_by j.server f.core) at (side-life side refl (slice_get mid.servers j.server) there)
          (λ l s stands other. elim (At-set w.servers j.server side l s stands) [ inl here ↦ absurd (other here.0) | inr old ↦ old.0 ])
          (thin-then y.core.circuits next.after.circuits f.core.circuits (next-thin y.core j.at_server f.e next) (reaches-thin next.action f.steps.1 next.after f.core f.steps.3)) (acted-back next.action) (over-by-core j.server f.core) h

      before : Joined
      before = numbers_after (length j.lists.handled) next.action j

      own : Joined
      own = ending (ends_by j.server f.core) (write_numbers j.server y.core next.action before)

      own-there : At after.circuits k own
      own-there =
          At-map (ending (ends_by j.server f.core)) mid.circuits k (write_numbers j.server y.core next.action before)
          (At-map (write_numbers j.server y.core next.action) (slice_set w.circuits k before) k before (set-here w.circuits k j before on))

  lacks-handles : (left : List ℕ) (new : World) → StepLacks w k j y left new → HandlesStand new
  lacks-handles left new f = subst (λ (v : World). HandlesStand v) (sym f.leaves) (go f.lacks.written)
    where
      thin : Thin y.core f.core
      thin = thin-is y.core _ f.core f.lacks.leaves (thin-then y.core.circuits f.lacks.mid.circuits (closed j.at_server f.lacks.mid).circuits (left-thin y.core j.at_server f.e f.lacks.next f.lacks.written f.lacks.mid f.lacks.left_is) (thin-closed f.lacks.mid j.at_server))

      over : (m : Joined) (l : List ℕ) → ends_here j left j.server f.core m ≡ Some l → (m.server ≡ j.server) × ((v : ServerCircuit) → under (reported f.core).circuits m.at_server ≡ Some v → ⊥)
      over m l =
          subst (λ (q : Server). ends_here j left j.server q m ≡ Some l → (m.server ≡ j.server) × ((v : ServerCircuit) → under (reported q).circuits m.at_server ≡ Some v → ⊥)) (sym f.lacks.leaves)
          (over-here j left (closed j.at_server f.lacks.mid) f.lacks.mid (λ g v is. is) m l)

      go : (o : Option (Handle → Bool)) → HandlesStand (server_after j.server (side_of j.server y (unsaid k j y f.lacks.next.action o w)) (ends_here j left j.server f.core) f.core (unsaid k j y f.lacks.next.action o w))
      go None = handles-after w w j.server y (side_of j.server y w) f.core (ends_here j left j.server f.core) at (side-life y refl (slice_get w.servers j.server) at) (λ l s there other. there) thin (itself-back w) over h
      go (Some gone) =
          let side : ServerSide = record y { records = records_after y.core j.at_server (record { circuit = k; place = length j.lists.handled }) f.lacks.next.action y.records } in
          let mid : World = acted k j y f.lacks.next.action w in
          handles-after w mid j.server y (side_of j.server y mid) f.core (ends_here j left j.server f.core) at (side-life side refl (slice_get mid.servers j.server) (set-here w.servers j.server y side at))
          (λ l s stands other. elim (At-set w.servers j.server side l s stands) [ inl here ↦ absurd (other here.0) | inr old ↦ old.0 ]) thin (acted-back f.lacks.next.action) over h

  bad-handles : (left : List ℕ) → HandlesStand (server_after j.server y (ends_here j left j.server y.core) (closed j.at_server y.core) w)
  bad-handles left =
      handles-after w w j.server y y (closed j.at_server y.core) (ends_here j left j.server y.core) at refl (λ l s there other. there) (thin-closed y.core j.at_server) (itself-back w)
      (over-here j left y.core y.core (λ g v is. (freed-back y.core.circuits g j.at_server v is).1)) h

  pub step-handles : (did : Stepped) (new : World) → ServerStepped w k j y did new → HandlesStand new
  step-handles stepped.Handled new f = handled-handles new f
  step-handles stepped.NeedBytes new f = subst (λ (v : World). HandlesStand v) (sym f.3) h
  step-handles stepped.OutputFull new f = subst (λ (v : World). HandlesStand v) (sym f.3) h
  step-handles (stepped.Closed why.OutOfMemory left) new f = lacks-handles left new f
  step-handles (stepped.Closed why.Misaligned left) new f = subst (λ (v : World). HandlesStand v) (sym f.3) (bad-handles left)
  step-handles (stepped.Closed why.TooLarge left) new f = subst (λ (v : World). HandlesStand v) (sym f.3) (bad-handles left)
  step-handles (stepped.Closed why.Cut left) new f = subst (λ (v : World). HandlesStand v) (sym f.3) (bad-handles left)
  step-handles (stepped.Closed why.Asked left) new f = subst (λ (v : World). HandlesStand v) (sym f.3) (bad-handles left)
  step-handles (stepped.Closed why.Silence left) new f = subst (λ (v : World). HandlesStand v) (sym f.3) (bad-handles left)

-- ---- a server alone

-- its core changes, and no circuit
pub alone-handles : (w new : World) (i : ℕ) (y z : ServerSide) → At w.servers i y → z.life ≡ y.life → new.servers ≡ slice_set w.servers i z → new.circuits ≡ w.circuits → Thin y.core z.core → HandlesStand w → HandlesStand new
alone-handles w new i y z at life servers circuits thin h =
    server-handles w new i y z at life (λ l s there. elim (At-set w.servers i z l s (subst (λ (q : List ServerSide). At q l s) servers there)) [ inl here ↦ inl here | inr old ↦ inr old ]) thin
    (λ n d there. (d, subst (λ (q : List Joined). At q n d) circuits there, like-itself d, (λ shut. inl shut))) h

pub add-handles : (w new : World) (i : ℕ) (y : ServerSide) (r : RecordState) → At w.servers i y → HappensAdd w i y r new → HandlesStand w → HandlesStand new
add-handles w new i y r at (core, behind, inr refused) h = subst (λ (z : World). HandlesStand z) (sym refused.3) h
add-handles w new i y r at (core, behind, inl (adds, is)) h =
    subst (λ (z : World). HandlesStand z) (sym is) (alone-handles w _ i y _ at refl refl refl (thin-server y.core core (ap (λ (x : Server). x.circuits) adds.1)) h)

-- a new life has no circuit yet
pub restart-handles : (setting : Setting) (w new : World) (i : ℕ) (y : ServerSide) → Sound setting w → HappensServerRestart w i y new → HandlesStand w → HandlesStand new
restart-handles setting w new i y sound is h = subst (λ (v : World). HandlesStand v) (sym is) (record {
  given = λ n d s on there life.
      let r = old n d s on there life in
      subst (λ (q : Joined). WasGiven s.core.circuits q.at_server) (sym r.1) (h.given n r.0 s r.2 (subst (λ (q : Joined). At w.servers q.server s) r.1 r.3) (ap (λ (q : Joined). q.lists.server) (sym r.1) ∙ life));
  gone = λ n d s v on there life shut under_it.
      let r = old n d s on there life in
      h.gone n r.0 s v r.2 (subst (λ (q : Joined). At w.servers q.server s) r.1 r.3) (ap (λ (q : Joined). q.lists.server) (sym r.1) ∙ life) (ap (λ (q : Joined). q.lists.server_open) (sym r.1) ∙ shut)
      (ap (λ (q : Joined). under s.core.circuits q.at_server) (sym r.1) ∙ under_it);
})
  where
    z : ServerSide
    z = server_begun w.moment (length w.server_logs) y.setting

    -- a circuit of a server's present life is one of another server, and as it was
    old : (n : ℕ) (d : Joined) (s : ServerSide) → At (map (ending (ends_untold i y.core)) w.circuits) n d → At (slice_set w.servers i z) d.server s → d.lists.server ≡ s.life → (c : Joined) × (d ≡ c) × At w.circuits n c × At w.servers d.server s
    old n d s on there life =
        let c = At-mapped (ending (ends_untold i y.core)) w.circuits n d on in
        let like : Like c.0 d = subst (λ (q : Joined). Like c.0 q) (sym c.2) (ending-like (ends_untold i y.core) c.0) in
        elim (At-set w.servers i z d.server s there) [
          | inl new ↦
              absurd (let log = sound.within n c.0 c.1 in
              let lt : c.0.lists.server < length w.server_logs = At-within w.server_logs c.0.lists.server log.0 log.1 in
              let e : c.0.lists.server ≡ length w.server_logs = sym like.life ∙ life ∙ ap (λ (q : ServerSide). q.life) new.1 in
              omega (arith, lt, e))
          | inr was ↦ (c.0, c.2 ∙ elsewhere c.0 (λ q. was.1 (like.server ∙ q)), c.1, was.0)
        ]
      where
        elsewhere : (c : Joined) → (c.server ≡ i → ⊥) → ending (ends_untold i y.core) c ≡ c
        elsewhere c other = go (eqb c.server i) refl
          where
            go : (b : Bool) → eqb c.server i ≡ b → unwrap_or (option_map (λ (left : List ℕ). server_closed left c) (cond (b && c.lists.server_open) (Some (output_of (under y.core.circuits c.at_server))) None)) c ≡ c
            go true e = absurd (other (eqb-true c.server i e))
            go false e = refl

-- ---- bytes move, and circuits are made

pub up-handles : (w new : World) (k n : ℕ) (j : Joined) (x : ClientSide) (y : ServerSide) → At w.circuits k j → At w.servers j.server y → HappensUp w k n j x y new → HandlesStand w → HandlesStand new
up-handles w new k n j x y on at (core, gives, is) h = subst (λ (v : World). HandlesStand v) (sym is) (go j.lists.client_open)
  where
    z : ServerSide
    z = record y { core = core }

    go : (b : Bool) → HandlesStand (with_server j.server z (cond b (with_client j.client (record x { core = handed_over j.at_client n x.core }) w) (with_circuit k (record j { left_up = drop n j.left_up }) w)))
    go true = alone-handles w _ j.server y z at refl refl refl (gives-thin y.core core j.at_server _ gives) h
    go false =
        let j1 : Joined = record j { left_up = drop n j.left_up } in
        alone-handles (with_circuit k j1 w) _ j.server y z at refl refl refl (gives-thin y.core core j.at_server _ gives)
        (frame-handles w (with_circuit k j1 w) (frame-circuit w k j j1 on (goes-same j j1 (record { server = refl; handle = refl; life = refl; up = refl; handled = refl; is_open = refl }) refl refl refl refl)) h)

pub down-handles : (w new : World) (k n : ℕ) (j : Joined) (x : ClientSide) (y : ServerSide) → At w.circuits k j → At w.servers j.server y → HappensDown w k n j x y new → HandlesStand w → HandlesStand new
down-handles w new k n j x y on at (mid, sent, core, taken, gives, is) h =
    subst (λ (v : World). HandlesStand v) (sym is) (frame-handles mid _ (frame-after j.client x x.names _ mid) (elim taken [
      | inl open_it ↦ subst (λ (v : World). HandlesStand v) (sym open_it.1.2) (alone-handles w _ j.server y (record y { core = open_it.1.0 }) at refl refl refl (sends-thin y.core open_it.1.0 j.at_server n open_it.1.1) h)
      | inr shut_it ↦
          subst (λ (v : World). HandlesStand v) (sym shut_it.1) (circuit-handles w k j (record j { left_down = drop n j.left_down }) on (record { client = refl; server = refl; handle = refl; life = refl; side = λ q. refl; up = refl }) refl h)
    ]))

pub accept-handles : (w new : World) (c : ℕ) (x : ClientSide) (v : WantsFirst w x) → HappensAccept w c x v new → HandlesStand w → HandlesStand new
accept-handles w new c x v happens hs = elim happens.leaves [
  | inl refusal ↦ subst (λ (u : World). HandlesStand u) (sym refusal.1) hs
  | inr did ↦
      let o : Outcomes = record { core = did.3; names = x.names; lines = lines_of history.OfCircuit x.names (closing_notices did.1); sent = did.2 } in
      let made : World = record (with_server v.i (record v.y { core = happens.server }) w) { circuits = w.circuits ++ connected_as did.1 (new_circuit c x v.v.circuit v.i v.y did.0) ∷ [] } in
      subst (λ (u : World). HandlesStand u) (sym did.6)
      (frame-handles made _ (frame-after c x x.names o made) (stands did.0 did.1 (subst (λ (a : Result Handle Refusal). Accepts v.y.core a happens.server) did.4 happens.accepts)))
]
  where
    side : ServerSide
    side = record v.y { core = happens.server }

    stands : (h : Handle) (k : Option Closing) → Accepts v.y.core (Ok h) happens.server → HandlesStand (record (with_server v.i side w) { circuits = w.circuits ++ connected_as k (new_circuit c x v.v.circuit v.i v.y h) ∷ [] })
    stands h k accepts = record {
      given = λ l d s on there life. elim (At-snoc w.circuits (connected_as k n) l d on) [
        | inl old ↦ elim (At-set w.servers v.i side d.server s there) [
          | inl here ↦
              subst (λ (q : ServerSide). WasGiven q.core.circuits d.at_server) (sym here.1) (subst (λ (q : Server). WasGiven q.circuits d.at_server) (sym accepts.1)
              (given-held v.y.core.circuits d.at_server h _ accepts.0 (hs.given l d v.y old (subst (λ (b : ℕ). At w.servers b v.y) (sym here.0) v.there.0) (life ∙ ap (λ (q : ServerSide). q.life) here.1))))
          | inr was ↦ hs.given l d s old was.0 life
        ]
        | inr last ↦ elim (At-set w.servers v.i side d.server s there) [
          | inl here ↦
              subst (λ (q : ServerSide). WasGiven q.core.circuits d.at_server) (sym here.1)
              (subst (λ (q : Handle). WasGiven happens.server.circuits q) (sym (ap (λ (q : Joined). q.at_server) last.1 ∙ (new-of k).1)) (subst (λ (q : Server). WasGiven q.circuits h) (sym accepts.1) (given-own v.y.core.circuits h _ accepts.0)))
          | inr was ↦ absurd (was.1 (ap (λ (q : Joined). q.server) last.1 ∙ (new-of k).0))
        ]
      ];
      gone = λ l d s q on there life shut is. elim (At-snoc w.circuits (connected_as k n) l d on) [
        | inl old ↦ elim (At-set w.servers v.i side d.server s there) [
          | inl here ↦
              let was : At w.servers d.server v.y = subst (λ (b : ℕ). At w.servers b v.y) (sym here.0) v.there.0 in
              let lives : d.lists.server ≡ v.y.life = life ∙ ap (λ (q : ServerSide). q.life) here.1 in
              elim (held-back v.y.core.circuits d.at_server h _ q (ap (λ (z : Server). under z.circuits d.at_server) (sym accepts.1) ∙ ap (λ (z : ServerSide). under z.core.circuits d.at_server) (sym here.1) ∙ is)) [
                | inl own ↦ not-given v.y.core.circuits h accepts.0 (subst (λ (g : Handle). WasGiven v.y.core.circuits g) own.0 (hs.given l d v.y old was lives))
                | inr held ↦ hs.gone l d v.y q old was lives shut held
              ]
          | inr was ↦ hs.gone l d s q old was.0 life shut is
        ]
        | inr last ↦ both_ways true (sym (sym shut ∙ ap (λ (q : Joined). q.lists.server_open) last.1 ∙ (new-of k).2)) refl
      ];
    }
      where
        n : Joined
        n = new_circuit c x v.v.circuit v.i v.y h

        new-of : (k : Option Closing) → ((connected_as k n).server ≡ v.i) × ((connected_as k n).at_server ≡ h) × ((connected_as k n).lists.server_open ≡ true)
        new-of None = (refl, refl, refl)
        new-of (Some q) = (refl, refl, refl)
