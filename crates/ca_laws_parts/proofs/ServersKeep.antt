-- The events of a server keep what holds of all clients: none of them changes, and ends of circuits
-- there stay as they are.
use Rattle.std.proofs.Common.{◌≡◌, ℕ, inl, inr, Bool, true, false, ◌&&◌, cond, eqb, List, [], ◌∷◌, ◌++◌, length, Option, Some, None, refl, sym, ◌∙◌, subst}
use Rattle.std.specs.List.{list_any}
use Rattle.ca_ids.specs.Wire.{wire_of}
use Rattle.ca_queue.specs.declared.entry.SubKey.{SubKey}
use Rattle.std.specs.Str.{bytes_eq}
use Rattle.std.specs.Prelude.{filter, map, not, option_map, slice_get, slice_set, unwrap_or}
use Rattle.ca_text.specs.Place.{At}
use Rattle.ca_arena.specs.declared.handle.Handle.{Handle}
use Rattle.ca_dbr.specs.Elements.{Elements}
use Rattle.ca_ids.specs.Table.{under}
use Rattle.ca_records.specs.Puts.{WaitingPut}
use Rattle.ca_records.specs.Record.{RecordState}
use Rattle.ca_wire.specs.Fields.{Fields}
use Rattle.ca_model.specs.Due.{Action}
use Rattle.ca_model.specs.Ends as why
use Rattle.ca_model.specs.History.{Reply}
use Rattle.ca_model.specs.Server.{OpenChannel}
use Rattle.ca_model.specs.ServerSteps.{Closed, Handled, NeedBytes, OutputFull, Stepped, Update, closed, write_mask}
use Rattle.ca_model.specs.ServerEvents.{HappensAdd, HappensCutServer, HappensFinish, HappensPost, HappensPump, HappensRemove, HappensServerRestart, HappensServerStep, ServerStepped, about, acted, disconnected_at, ending, ends_by, ends_here, ends_untold, handled_at, logged, next_busy, next_numbers, numbers_after, numbers_posted, removal_told, removed_at, replied_at, server_after, side_of, stamped, unsaid, with_record, without_standing, write_numbers}
use Rattle.ca_model.specs.World.{Joined, RecordSide, ServerSide, World, with_circuit, with_entries, with_server}
use Rattle.ca_laws_parts.specs.Clients.{ClientsStand}
use Rattle.ca_laws_parts.proofs.Handled.{numbers-like, posted-like, writes-like}
use Rattle.ca_laws_parts.proofs.Stands.{IsEndOf, end-ending, end-itself, end-like, end-then, fewer-itself, fewer-map, fewer-set, fewer-then, stands-same, stands-server}

plain : (a j : Joined) → j.client ≡ a.client → j.at_client ≡ a.at_client → j.lists.client_open ≡ a.lists.client_open → IsEndOf a j
plain a j client handle opens = record { client = client; handle = handle; opens = λ o. sym opens ∙ o }

-- a circuit is noted, or changed where it is
stands-at : (w : World) (k : ℕ) (f : Joined → Joined) → ((a : Joined) → IsEndOf a (f a)) → ClientsStand w → ClientsStand (unwrap_or (option_map (λ (c : Joined). with_circuit k (f c) w) (slice_get w.circuits k)) w)
stands-at w k f ends s = go (slice_get w.circuits k) refl
  where
    go : (o : Option Joined) → slice_get w.circuits k ≡ o → ClientsStand (unwrap_or (option_map (λ (c : Joined). with_circuit k (f c) w) o) w)
    go None is = s
    go (Some c) is = stands-same w (with_circuit k (f c) w) refl (fewer-set k c (f c) w.circuits is (ends c)) s

module _ (w new : World) (k : ℕ) (j : Joined) (y : ServerSide) (at : At w.circuits k j) (s : ClientsStand w) where
  stands-acted : (action : Action) → ClientsStand (acted k j y action w)
  stands-acted action =
      let here : List Joined = slice_set w.circuits k (numbers_after (length j.lists.handled) action j) in
      stands-same w (acted k j y action w) refl
      (fewer-then w.circuits here (map (write_numbers j.server y.core action) here)
      (fewer-set k j (numbers_after (length j.lists.handled) action j) w.circuits at (end-like j _ (numbers-like (length j.lists.handled) action j)))
      (fewer-map (write_numbers j.server y.core action) here (λ a. end-like a _ (writes-like j.server y.core action a)))) s

  stands-unsaid : (action : Action) (o : Option (Handle → Bool)) → ClientsStand (unsaid k j y action o w)
  stands-unsaid action None = s
  stands-unsaid action (Some gone) = stands-acted action

  stands-stepped : (did : Stepped) → ServerStepped w k j y did new → ClientsStand new
  stands-stepped Handled steps =
      let mid : World = acted k j y (steps.steps.0).action w in
      let after : World = server_after j.server (side_of j.server y mid) (ends_by j.server steps.core) steps.core mid in
      subst (λ (v : World). ClientsStand v) (sym steps.leaves)
      (stands-at after k (handled_at (length j.lists.handled) (record { sent = length j.lists.down; logged = logged y w; after = logged y after }) (steps.steps.0).replies) (λ a. plain a _ refl refl refl)
      (stands-server mid j.server (side_of j.server y mid) (ends_by j.server steps.core) steps.core (stands-acted (steps.steps.0).action)))
  stands-stepped NeedBytes steps = subst (λ (v : World). ClientsStand v) (sym steps.3) s
  stands-stepped OutputFull steps = subst (λ (v : World). ClientsStand v) (sym steps.3) s
  stands-stepped (Closed why.OutOfMemory left) steps =
      let mid : World = unsaid k j y steps.lacks.next.action steps.lacks.written w in
      subst (λ (v : World). ClientsStand v) (sym steps.leaves)
      (stands-server mid j.server (side_of j.server y mid) (ends_here j left j.server steps.core) steps.core (stands-unsaid steps.lacks.next.action steps.lacks.written))
  stands-stepped (Closed cause left) steps =
      subst (λ (v : World). ClientsStand v) (sym steps.3) (stands-server w j.server y (ends_here j left j.server y.core) (closed j.at_server y.core) s)

  pub stands-server-step : HappensServerStep w k j y new → ClientsStand new
  stands-server-step happens = stands-stepped happens.0 happens.1

  stamped-end : (us : List Update) (a : Joined) → IsEndOf a (stamped us a)
  stamped-end [] a = end-itself a
  stamped-end (u ∷ us) a = end-then a (stamped (u ∷ []) a) (stamped us (stamped (u ∷ []) a)) (plain a (stamped (u ∷ []) a) refl refl refl) (stamped-end us (stamped (u ∷ []) a))

  pub stands-pump : HappensPump w k j y new → ClientsStand new
  stands-pump happens =
      let mid : World = with_circuit k (stamped happens.updates j) w in
      subst (λ (v : World). ClientsStand v) (sym happens.leaves)
      (stands-server mid j.server y (ends_by j.server happens.core) happens.core
      (stands-same w mid refl (fewer-set k j (stamped happens.updates j) w.circuits at (stamped-end happens.updates j)) s))

  pub stands-cut-server : HappensCutServer w k j y new → ClientsStand new
  stands-cut-server happens = subst (λ (v : World). ClientsStand v) (sym happens.leaves) (stands-server w j.server y (ends_by j.server happens.core) happens.core s)

module _ (w new : World) (i : ℕ) (y : ServerSide) (s : ClientsStand w) where
  pub stands-post : (name : List ℕ) (e : Elements) (mask : ℕ) → HappensPost w i y name e mask new → ClientsStand new
  stands-post name e mask happens = elim happens.2 [
    | inr refusal ↦ subst (λ (v : World). ClientsStand v) (sym refusal.3) s
    | inl did ↦
        let posted : World = record w { circuits = map (numbers_posted i y.core name mask) w.circuits } in
        let mid : World = with_entries y.life _ posted in
        subst (λ (v : World). ClientsStand v) (sym did.1)
        (stands-server mid i y (ends_by i happens.1) happens.1 (stands-same w mid refl (fewer-map (numbers_posted i y.core name mask) w.circuits (λ a. end-like a _ (posted-like i y.core name mask a))) s))
  ]

  next-end : (name : List ℕ) (ps : List WaitingPut) (a : Joined) → IsEndOf a (next_numbers i y.core name ps a)
  next-end name [] a = end-itself a
  next-end name (p ∷ ps) a = end-like a _ (posted-like i y.core name write_mask a)

  pub stands-finish : (name : List ℕ) → HappensFinish w i y name new → ClientsStand new
  stands-finish name happens = elim happens [
    | inr refusal ↦ subst (λ (v : World). ClientsStand v) (sym refusal.2) s
    | inl did ↦
        let side : ServerSide = record y { records = with_record name next_busy y.records } in
        let mid : World = with_entries y.life _ (with_server i side (record w { circuits = map (next_numbers i y.core name did.cr.waiting) w.circuits })) in
        subst (λ (v : World). ClientsStand v) (sym did.leaves)
        (stands-server (replied_at did.p did.sent mid) i side (ends_by i did.core) did.core
        (stands-at mid did.p.circuit (λ (a : Joined). record a { lists = record a.lists { down = a.lists.down ++ about did.p.place Reply (map (λ (m : Handle × Fields). m.1) did.sent) } }) (λ a. plain a _ refl refl refl)
        (stands-same w mid refl (fewer-map (next_numbers i y.core name did.cr.waiting) w.circuits (next-end name did.cr.waiting)) s)))
  ]

  removed-end : (name : List ℕ) (gone : Handle → Bool) (left : Handle → ℕ) (a : Joined) → IsEndOf a (removed_at i y.core name gone left a)
  removed-end name gone left a = go (eqb a.server i && a.lists.server_open)
    where
      go : (b : Bool) → IsEndOf a (cond b (without_standing (λ (k : SubKey). list_any (λ (c : Handle × OpenChannel). eqb (wire_of c.0) k.sid) (disconnected_at name gone left a.at_server (under y.core.circuits a.at_server))) (record a { lists = record a.lists { down = a.lists.down ++ map (removal_told a.creations) (disconnected_at name gone left a.at_server (under y.core.circuits a.at_server)) } })) a)
      go true = plain a _ refl refl refl
      go false = end-itself a

  pub stands-remove : (name : List ℕ) → HappensRemove w i y name new → ClientsStand new
  stands-remove name happens = elim happens.3 [
    | inr refusal ↦ subst (λ (v : World). ClientsStand v) (sym refusal.1) s
    | inl did ↦
        let side : ServerSide = record y { records = filter (λ (r : RecordSide). not (bytes_eq r.name name)) y.records } in
        subst (λ (v : World). ClientsStand v) (sym did.1)
        (stands-server _ i side (ends_by i happens.2) happens.2 (stands-same w _ refl (fewer-map (removed_at i y.core name happens.0 happens.1) w.circuits (removed-end name happens.0 happens.1)) s))
  ]

  pub stands-add : (r : RecordState) → HappensAdd w i y r new → ClientsStand new
  stands-add r happens = elim happens.2 [
    | inr refusal ↦ subst (λ (v : World). ClientsStand v) (sym refusal.3) s
    | inl did ↦ subst (λ (v : World). ClientsStand v) (sym did.1) (stands-same w _ refl (fewer-itself w.circuits) s)
  ]

  pub stands-server-restart : HappensServerRestart w i y new → ClientsStand new
  stands-server-restart happens = subst (λ (v : World). ClientsStand v) (sym happens) (stands-same w _ refl (fewer-map (ending (ends_untold i y.core)) w.circuits (end-ending (ends_untold i y.core))) s)
