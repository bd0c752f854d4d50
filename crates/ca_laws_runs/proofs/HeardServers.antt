-- The events of a server keep what was sent by all clients.
use Rattle.std.proofs.Common.{◌≡◌, ℕ, inl, inr, Bool, true, false, ◌&&◌, cond, eqb, List, [], ◌∷◌, ◌++◌, length, Option, Some, None, refl, sym, ◌∙◌, subst}
use Rattle.std.specs.List.{list_any}
use Rattle.ca_ids.specs.Wire.{wire_of}
use Rattle.ca_queue.specs.declared.entry.SubKey.{SubKey}
use Rattle.std.specs.Str.{bytes_eq}
use Rattle.std.specs.Prelude.{filter, map, not, option_map, slice_get, slice_set, unwrap_or}
use Rattle.ca_text.specs.Place.{At}
use Rattle.ca_arena.specs.declared.handle.Handle.{Handle}
use Rattle.ca_dbr.specs.Elements.{Elements}
use Rattle.ca_ids.specs.Table.{under}
use Rattle.ca_records.specs.Puts.{WaitingPut}
use Rattle.ca_records.specs.Record.{RecordState}
use Rattle.ca_wire.specs.Fields.{Fields}
use Rattle.ca_model.specs.Due.{Action}
use Rattle.ca_model.specs.Ends as why
use Rattle.ca_model.specs.History.{Reply}
use Rattle.ca_model.specs.Server.{OpenChannel}
use Rattle.ca_model.specs.ServerSteps.{Closed, Handled, NeedBytes, OutputFull, Stepped, Update, closed, write_mask}
use Rattle.ca_model.specs.ServerEvents.{HappensAdd, HappensCutServer, HappensFinish, HappensPost, HappensPump, HappensRemove, HappensServerRestart, HappensServerStep, ServerStepped, about, acted, disconnected_at, ending, ends_by, ends_here, ends_untold, handled_at, logged, next_busy, next_numbers, numbers_after, numbers_posted, removal_told, removed_at, replied_at, server_after, side_of, stamped, unsaid, with_record, without_standing, write_numbers}
use Rattle.ca_model.specs.World.{Joined, RecordSide, ServerSide, World, with_circuit, with_entries, with_server}
use Rattle.ca_laws_runs.specs.Quiet.{ClientsQuiet}
use Rattle.ca_laws_parts.proofs.Handled.{numbers-like, posted-like, writes-like}
use Rattle.ca_laws_runs.proofs.HeardEnds.{IsSameEnd, all-map, all-same, all-set, all-then, quiet-same, quiet-server, same-end, same-ending, same-like, same-then}

plain : (a j : Joined) → j.client ≡ a.client → j.at_client ≡ a.at_client → j.lists.client_open ≡ a.lists.client_open → j.lists.up ≡ a.lists.up → IsSameEnd a j
plain a j client handle opens up = record { client = client; handle = handle; opens = λ o. sym opens ∙ o; up = up }

-- a circuit is noted, or changed where it is
quiet-at : (w : World) (k : ℕ) (f : Joined → Joined) → ((a : Joined) → IsSameEnd a (f a)) → ClientsQuiet w → ClientsQuiet (unwrap_or (option_map (λ (c : Joined). with_circuit k (f c) w) (slice_get w.circuits k)) w)
quiet-at w k f ends s = go (slice_get w.circuits k) refl
  where
    go : (o : Option Joined) → slice_get w.circuits k ≡ o → ClientsQuiet (unwrap_or (option_map (λ (c : Joined). with_circuit k (f c) w) o) w)
    go None is = s
    go (Some c) is = quiet-same w (with_circuit k (f c) w) refl (all-set k c (f c) w.circuits is (ends c)) s

module _ (w new : World) (k : ℕ) (j : Joined) (y : ServerSide) (at : At w.circuits k j) (s : ClientsQuiet w) where
  quiet-acted : (action : Action) → ClientsQuiet (acted k j y action w)
  quiet-acted action =
      let here : List Joined = slice_set w.circuits k (numbers_after (length j.lists.handled) action j) in
      quiet-same w (acted k j y action w) refl
      (all-then w.circuits here (map (write_numbers j.server y.core action) here)
      (all-set k j (numbers_after (length j.lists.handled) action j) w.circuits at (same-like j _ (numbers-like (length j.lists.handled) action j)))
      (all-map (write_numbers j.server y.core action) here (λ a. same-like a _ (writes-like j.server y.core action a)))) s

  quiet-unsaid : (action : Action) (o : Option (Handle → Bool)) → ClientsQuiet (unsaid k j y action o w)
  quiet-unsaid action None = s
  quiet-unsaid action (Some gone) = quiet-acted action

  quiet-stepped : (did : Stepped) → ServerStepped w k j y did new → ClientsQuiet new
  quiet-stepped Handled steps =
      let mid : World = acted k j y (steps.steps.0).action w in
      let after : World = server_after j.server (side_of j.server y mid) (ends_by j.server steps.core) steps.core mid in
      subst (λ (v : World). ClientsQuiet v) (sym steps.leaves)
      (quiet-at after k (handled_at (length j.lists.handled) (record { sent = length j.lists.down; logged = logged y w; after = logged y after }) (steps.steps.0).replies) (λ a. plain a _ refl refl refl refl)
      (quiet-server mid j.server (side_of j.server y mid) (ends_by j.server steps.core) steps.core (quiet-acted (steps.steps.0).action)))
  quiet-stepped NeedBytes steps = subst (λ (v : World). ClientsQuiet v) (sym steps.3) s
  quiet-stepped OutputFull steps = subst (λ (v : World). ClientsQuiet v) (sym steps.3) s
  quiet-stepped (Closed why.OutOfMemory left) steps =
      let mid : World = unsaid k j y steps.lacks.next.action steps.lacks.written w in
      subst (λ (v : World). ClientsQuiet v) (sym steps.leaves)
      (quiet-server mid j.server (side_of j.server y mid) (ends_here j left j.server steps.core) steps.core (quiet-unsaid steps.lacks.next.action steps.lacks.written))
  quiet-stepped (Closed cause left) steps =
      subst (λ (v : World). ClientsQuiet v) (sym steps.3) (quiet-server w j.server y (ends_here j left j.server y.core) (closed j.at_server y.core) s)

  pub quiet-server-step : HappensServerStep w k j y new → ClientsQuiet new
  quiet-server-step happens = quiet-stepped happens.0 happens.1

  stamped-end : (us : List Update) (a : Joined) → IsSameEnd a (stamped us a)
  stamped-end [] a = same-end a
  stamped-end (u ∷ us) a = same-then a (stamped (u ∷ []) a) (stamped us (stamped (u ∷ []) a)) (plain a (stamped (u ∷ []) a) refl refl refl refl) (stamped-end us (stamped (u ∷ []) a))

  pub quiet-pump : HappensPump w k j y new → ClientsQuiet new
  quiet-pump happens =
      let mid : World = with_circuit k (stamped happens.updates j) w in
      subst (λ (v : World). ClientsQuiet v) (sym happens.leaves)
      (quiet-server mid j.server y (ends_by j.server happens.core) happens.core
      (quiet-same w mid refl (all-set k j (stamped happens.updates j) w.circuits at (stamped-end happens.updates j)) s))

  pub quiet-cut-server : HappensCutServer w k j y new → ClientsQuiet new
  quiet-cut-server happens = subst (λ (v : World). ClientsQuiet v) (sym happens.leaves) (quiet-server w j.server y (ends_by j.server happens.core) happens.core s)

module _ (w new : World) (i : ℕ) (y : ServerSide) (s : ClientsQuiet w) where
  pub quiet-post : (name : List ℕ) (e : Elements) (mask : ℕ) → HappensPost w i y name e mask new → ClientsQuiet new
  quiet-post name e mask happens = elim happens.2 [
    | inr refusal ↦ subst (λ (v : World). ClientsQuiet v) (sym refusal.3) s
    | inl did ↦
        let posted : World = record w { circuits = map (numbers_posted i y.core name mask) w.circuits } in
        let mid : World = with_entries y.life _ posted in
        subst (λ (v : World). ClientsQuiet v) (sym did.1)
        (quiet-server mid i y (ends_by i happens.1) happens.1 (quiet-same w mid refl (all-map (numbers_posted i y.core name mask) w.circuits (λ a. same-like a _ (posted-like i y.core name mask a))) s))
  ]

  next-end : (name : List ℕ) (ps : List WaitingPut) (a : Joined) → IsSameEnd a (next_numbers i y.core name ps a)
  next-end name [] a = same-end a
  next-end name (p ∷ ps) a = same-like a _ (posted-like i y.core name write_mask a)

  pub quiet-finish : (name : List ℕ) → HappensFinish w i y name new → ClientsQuiet new
  quiet-finish name happens = elim happens [
    | inr refusal ↦ subst (λ (v : World). ClientsQuiet v) (sym refusal.2) s
    | inl did ↦
        let side : ServerSide = record y { records = with_record name next_busy y.records } in
        let mid : World = with_entries y.life _ (with_server i side (record w { circuits = map (next_numbers i y.core name did.cr.waiting) w.circuits })) in
        subst (λ (v : World). ClientsQuiet v) (sym did.leaves)
        (quiet-server (replied_at did.p did.sent mid) i side (ends_by i did.core) did.core
        (quiet-at mid did.p.circuit (λ (a : Joined). record a { lists = record a.lists { down = a.lists.down ++ about did.p.place Reply (map (λ (m : Handle × Fields). m.1) did.sent) } }) (λ a. plain a _ refl refl refl refl)
        (quiet-same w mid refl (all-map (next_numbers i y.core name did.cr.waiting) w.circuits (next-end name did.cr.waiting)) s)))
  ]

  removed-end : (name : List ℕ) (gone : Handle → Bool) (left : Handle → ℕ) (a : Joined) → IsSameEnd a (removed_at i y.core name gone left a)
  removed-end name gone left a = go (eqb a.server i && a.lists.server_open)
    where
      go : (b : Bool) → IsSameEnd a (cond b (without_standing (λ (k : SubKey). list_any (λ (c : Handle × OpenChannel). eqb (wire_of c.0) k.sid) (disconnected_at name gone left a.at_server (under y.core.circuits a.at_server))) (record a { lists = record a.lists { down = a.lists.down ++ map (removal_told a.creations) (disconnected_at name gone left a.at_server (under y.core.circuits a.at_server)) } })) a)
      go true = plain a _ refl refl refl refl
      go false = same-end a

  pub quiet-remove : (name : List ℕ) → HappensRemove w i y name new → ClientsQuiet new
  quiet-remove name happens = elim happens.3 [
    | inr refusal ↦ subst (λ (v : World). ClientsQuiet v) (sym refusal.1) s
    | inl did ↦
        let side : ServerSide = record y { records = filter (λ (r : RecordSide). not (bytes_eq r.name name)) y.records } in
        subst (λ (v : World). ClientsQuiet v) (sym did.1)
        (quiet-server _ i side (ends_by i happens.2) happens.2 (quiet-same w _ refl (all-map (removed_at i y.core name happens.0 happens.1) w.circuits (removed-end name happens.0 happens.1)) s))
  ]

  pub quiet-add : (r : RecordState) → HappensAdd w i y r new → ClientsQuiet new
  quiet-add r happens = elim happens.2 [
    | inr refusal ↦ subst (λ (v : World). ClientsQuiet v) (sym refusal.3) s
    | inl did ↦ subst (λ (v : World). ClientsQuiet v) (sym did.1) (quiet-same w _ refl (all-same w.circuits) s)
  ]

  pub quiet-server-restart : HappensServerRestart w i y new → ClientsQuiet new
  quiet-server-restart happens = subst (λ (v : World). ClientsQuiet v) (sym happens) (quiet-same w _ refl (all-map (ending (ends_untold i y.core)) w.circuits (same-ending (ends_untold i y.core))) s)
