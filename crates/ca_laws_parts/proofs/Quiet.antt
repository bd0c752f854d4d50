-- Events at a server leave all clients, and what these sent, as they were.
use Rattle.std.proofs.Common.{◌≡◌, ℕ, inl, inr, Bool, true, false, ◌&&◌, cond, eqb, List, ◌++◌, length, Option, Some, None, refl, sym, ap, ◌∙◌, subst}
use Rattle.std.specs.List.{list_any}
use Rattle.std.specs.Prelude.{filter, map, not, option_map, slice_get, unwrap_or}
use Rattle.std.specs.Str.{bytes_eq}
use Rattle.ca_arena.specs.declared.handle.Handle.{Handle}
use Rattle.ca_dbr.specs.Elements.{Elements}
use Rattle.ca_ids.specs.Table.{under}
use Rattle.ca_ids.specs.Wire.{wire_of}
use Rattle.ca_queue.specs.declared.entry.SubKey.{SubKey}
use Rattle.ca_records.specs.Record.{RecordState}
use Rattle.ca_text.specs.Place.{At}
use Rattle.ca_text.proofs.Places.{At-mapped, At-set}
use Rattle.ca_wire.specs.Fields.{Fields}
use Rattle.ca_model.specs.Due.{Action}
use Rattle.ca_model.specs.Ends as why
use Rattle.ca_model.specs.History.{Reply}
use Rattle.ca_model.specs.Server.{OpenChannel, Server}
use Rattle.ca_model.specs.ServerSteps.{Closed, Handled, NeedBytes, OutputFull, Stepped, closed}
use Rattle.ca_model.specs.ServerEvents.{HappensAdd, HappensCutServer, HappensFinish, HappensPost, HappensPump, HappensRemove, HappensServerRestart, HappensServerStep, ServerStepped, about, acted, disconnected_at, ending, ends_by, ends_here, ends_untold, handled_at, logged, next_busy, next_numbers, numbers_posted, removal_told, removed_at, replied_at, server_after, side_of, stamped, unsaid, with_record, without_standing}
use Rattle.ca_model.specs.World.{Joined, RecordSide, ServerSide, World, with_circuit, with_entries, with_server}
use Rattle.ca_laws_parts.proofs.ServerEvents.{next-tells, posted-tells, stamped-tells}
use Rattle.ca_laws_parts.proofs.BytesServerSteps.{acted-tells}
use Rattle.ca_laws_parts.proofs.BytesServers.{ending-like}

-- Clients are as they were, and each circuit has what its client sent before.
pub record Quiet (w new : World) : Type 0 where
  pub clients : new.clients ≡ w.clients
  pub back : (n : ℕ) (d : Joined) → At new.circuits n d → (c : Joined) × At w.circuits n c × (d.lists.up ≡ c.lists.up)

pub quiet-as : (w new : World) → new.clients ≡ w.clients → new.circuits ≡ w.circuits → Quiet w new
quiet-as w new clients circuits = record { clients = clients; back = λ n d at. (d, subst (λ (l : List Joined). At l n d) circuits at, refl) }

pub quiet-then : (a b c : World) → Quiet a b → Quiet b c → Quiet a c
quiet-then a b c p q = record {
  clients = q.clients ∙ p.clients;
  back = λ n d at. (let m = q.back n d at in let j = p.back n m.0 m.1 in (j.0, j.1, m.2 ∙ j.2));
}

pub quiet-map : (w new : World) (f : Joined → Joined) → new.clients ≡ w.clients → new.circuits ≡ map f w.circuits → ((c : Joined) → (f c).lists.up ≡ c.lists.up) → Quiet w new
quiet-map w new f clients circuits same = record {
  clients = clients;
  back = λ n d at. (let c = At-mapped f w.circuits n d (subst (λ (l : List Joined). At l n d) circuits at) in (c.0, c.1, ap (λ (z : Joined). z.lists.up) c.2 ∙ same c.0));
}

pub quiet-set : (w : World) (k : ℕ) (j d : Joined) → At w.circuits k j → d.lists.up ≡ j.lists.up → Quiet w (with_circuit k d w)
quiet-set w k j d at same = record {
  clients = refl;
  back = λ n c there. elim (At-set w.circuits k d n c there) [
    | inl here ↦ (j, subst (λ (l : ℕ). At w.circuits l j) (sym here.0) at, ap (λ (z : Joined). z.lists.up) here.1 ∙ same)
    | inr old ↦ (c, old.0, refl)
  ];
}

-- a circuit is changed where it is, if it is there
quiet-at : (w : World) (k : ℕ) (f : Joined → Joined) → ((c : Joined) → (f c).lists.up ≡ c.lists.up) → Quiet w (unwrap_or (option_map (λ (c : Joined). with_circuit k (f c) w) (slice_get w.circuits k)) w)
quiet-at w k f same = go (slice_get w.circuits k) refl
  where
    go : (o : Option Joined) → slice_get w.circuits k ≡ o → Quiet w (unwrap_or (option_map (λ (c : Joined). with_circuit k (f c) w) o) w)
    go None is = quiet-as w w refl refl
    go (Some c) is = quiet-set w k c (f c) is (same c)

pub quiet-server : (w : World) (i : ℕ) (side : ServerSide) (ends : Joined → Option (List ℕ)) (core : Server) → Quiet w (server_after i side ends core w)
quiet-server w i side ends core = quiet-map w _ (ending ends) refl refl (λ c. (ending-like ends c).up)

module _ (w new : World) (k : ℕ) (j : Joined) (y : ServerSide) (at : At w.circuits k j) where
  acted-quiet : (did : Action) → Quiet w (acted k j y did w)
  acted-quiet did = record { clients = refl; back = λ n m there. (let c = acted-tells w k j y did at n m there in (c.0, c.1, c.2.like.up)) }

  unsaid-quiet : (did : Action) (o : Option (Handle → Bool)) → Quiet w (unsaid k j y did o w)
  unsaid-quiet did None = quiet-as w w refl refl
  unsaid-quiet did (Some gone) = acted-quiet did

  stepped-quiet : (did : Stepped) → ServerStepped w k j y did new → Quiet w new
  stepped-quiet Handled f =
      let mid : World = acted k j y (f.steps.0).action w in
      let after : World = server_after j.server (side_of j.server y mid) (ends_by j.server f.core) f.core mid in
      subst (λ (v : World). Quiet w v) (sym f.leaves)
      (quiet-then w after _ (quiet-then w mid after (acted-quiet (f.steps.0).action) (quiet-server mid j.server (side_of j.server y mid) (ends_by j.server f.core) f.core))
      (quiet-at after k (handled_at (length j.lists.handled) (record { sent = length j.lists.down; logged = logged y w; after = logged y after }) (f.steps.0).replies) (λ c. refl)))
  stepped-quiet NeedBytes f = quiet-as w new (ap (λ (v : World). v.clients) f.3) (ap (λ (v : World). v.circuits) f.3)
  stepped-quiet OutputFull f = quiet-as w new (ap (λ (v : World). v.clients) f.3) (ap (λ (v : World). v.circuits) f.3)
  stepped-quiet (Closed why.OutOfMemory left) f =
      let mid : World = unsaid k j y f.lacks.next.action f.lacks.written w in
      subst (λ (v : World). Quiet w v) (sym f.leaves)
      (quiet-then w mid _ (unsaid-quiet f.lacks.next.action f.lacks.written) (quiet-server mid j.server (side_of j.server y mid) (ends_here j left j.server f.core) f.core))
  stepped-quiet (Closed cause left) f = subst (λ (v : World). Quiet w v) (sym f.3) (quiet-server w j.server y (ends_here j left j.server y.core) (closed j.at_server y.core))

  pub step-quiet : HappensServerStep w k j y new → Quiet w new
  step-quiet happens = stepped-quiet happens.0 happens.1

  pub pump-quiet : HappensPump w k j y new → Quiet w new
  pump-quiet f =
      let mid : World = with_circuit k (stamped f.updates j) w in
      subst (λ (v : World). Quiet w v) (sym f.leaves)
      (quiet-then w mid _ (quiet-set w k j (stamped f.updates j) at (stamped-tells f.updates j).like.up) (quiet-server mid j.server y (ends_by j.server f.core) f.core))

  pub cut-quiet : HappensCutServer w k j y new → Quiet w new
  cut-quiet f = subst (λ (v : World). Quiet w v) (sym f.leaves) (quiet-server w j.server y (ends_by j.server f.core) f.core)

module _ (w new : World) (i : ℕ) (y : ServerSide) where
  pub post-quiet : (name : List ℕ) (e : Elements) (mask : ℕ) → HappensPost w i y name e mask new → Quiet w new
  post-quiet name e mask (gone, core, inr refused) = quiet-as w new (ap (λ (v : World). v.clients) refused.3) (ap (λ (v : World). v.circuits) refused.3)
  post-quiet name e mask (gone, core, inl (posts, is)) =
      let mid : World = with_entries y.life _ (record w { circuits = map (numbers_posted i y.core name mask) w.circuits }) in
      subst (λ (v : World). Quiet w v) (sym is)
      (quiet-then w mid _ (quiet-map w mid (numbers_posted i y.core name mask) refl refl (λ c. (posted-tells i y.core name mask c).like.up)) (quiet-server mid i y (ends_by i core) core))

  pub finish-quiet : (name : List ℕ) → HappensFinish w i y name new → Quiet w new
  finish-quiet name (inr refused) = quiet-as w new (ap (λ (v : World). v.clients) refused.2) (ap (λ (v : World). v.circuits) refused.2)
  finish-quiet name (inl f) =
      let side : ServerSide = record y { records = with_record name next_busy y.records } in
      let mid : World = with_entries y.life _ (with_server i side (record w { circuits = map (next_numbers i y.core name f.cr.waiting) w.circuits })) in
      let told : World = replied_at f.p f.sent mid in
      subst (λ (v : World). Quiet w v) (sym f.leaves)
      (quiet-then w mid _ (quiet-map w mid (next_numbers i y.core name f.cr.waiting) refl refl (λ c. (next-tells i y.core name f.cr.waiting c).like.up))
      (quiet-then mid told _
      (quiet-at mid f.p.circuit (λ (j : Joined). record j { lists = record j.lists { down = j.lists.down ++ about f.p.place Reply (map (λ (m : Handle × Fields). m.1) f.sent) } }) (λ c. refl))
      (quiet-server told i side (ends_by i f.core) f.core)))

  removed-up : (name : List ℕ) (gone : Handle → Bool) (left : Handle → ℕ) (c : Joined) → (removed_at i y.core name gone left c).lists.up ≡ c.lists.up
  removed-up name gone left c = go (eqb c.server i && c.lists.server_open)
    where
      told : List (Handle × OpenChannel)
      told = disconnected_at name gone left c.at_server (under y.core.circuits c.at_server)

      go : (b : Bool) → (cond b (without_standing (λ (k : SubKey). list_any (λ (e : Handle × OpenChannel). eqb (wire_of e.0) k.sid) told) (record c { lists = record c.lists { down = c.lists.down ++ map (removal_told c.creations) told } })) c).lists.up ≡ c.lists.up
      go true = refl
      go false = refl

  pub remove-quiet : (name : List ℕ) → HappensRemove w i y name new → Quiet w new
  remove-quiet name (gone, left, core, inr (removes, is)) = quiet-as w new (ap (λ (v : World). v.clients) is) (ap (λ (v : World). v.circuits) is)
  remove-quiet name (gone, left, core, inl (removes, is)) =
      let side : ServerSide = record y { records = filter (λ (r : RecordSide). not (bytes_eq r.name name)) y.records } in
      subst (λ (v : World). Quiet w v) (sym is)
      (quiet-then w _ _ (quiet-map w _ (removed_at i y.core name gone left) refl refl (removed-up name gone left)) (quiet-server _ i side (ends_by i core) core))

  pub add-quiet : (r : RecordState) → HappensAdd w i y r new → Quiet w new
  add-quiet r (core, behind, inr refused) = quiet-as w new (ap (λ (v : World). v.clients) refused.3) (ap (λ (v : World). v.circuits) refused.3)
  add-quiet r (core, behind, inl (adds, is)) = quiet-as w new (ap (λ (v : World). v.clients) is) (ap (λ (v : World). v.circuits) is)

  pub restart-quiet : HappensServerRestart w i y new → Quiet w new
  restart-quiet is =
      quiet-map w new (ending (ends_untold i y.core)) (ap (λ (v : World). v.clients) is) (ap (λ (v : World). v.circuits) is) (λ c. (ending-like (ends_untold i y.core) c).up)
