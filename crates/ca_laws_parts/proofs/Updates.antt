-- Updates that leave the queues of an end are about subscriptions that stand.
use Rattle.std.proofs.Common.{◌≡◌, ℕ, zero, suc, ◌<◌, inl, inr, true, List, [], ◌∷◌, ◌++◌, length, Option, Some, refl, sym, ap, subst, ◌∙◌}
use Rattle.std.specs.Prelude.{option_and_then, option_map, slice_get, slice_set, unwrap_or}
use Rattle.std.specs.List.{FoldsTo}
use Rattle.ca_queue.specs.declared.entry.SubKey.{SubKey}
use Rattle.ca_queue.specs.Queue.{Queue, with_front_taken}
use Rattle.ca_queue.specs.Waiting.{front}
use Rattle.ca_text.specs.declared.command.Command.TheVariants as command
use Rattle.ca_text.specs.Place.{At}
use Rattle.ca_text.proofs.Places.{some_is, At-within}
use Rattle.ca_model.specs.History.{Cause, Reply, Sent, Told}
use Rattle.ca_model.specs.History as history
use Rattle.ca_model.specs.Server.{ServerEnd, key_of}
use Rattle.ca_model.specs.ServerSteps.{Leaves, Pumps, Update}
use Rattle.ca_model.specs.Speech.{In, Is, Speaks, Stored}
use Rattle.ca_wire.specs.Fields.{Fields}
use Rattle.ca_laws_parts.specs.Flows.{Concerns}
use Rattle.ca_model.specs.ServerEvents.{HappensPump, front_number}
use Rattle.ca_model.specs.World.{Joined, ServerSide, Standing, World}
use Rattle.ca_laws_parts.proofs.CircuitTold.{update-speaks}
use Rattle.ca_laws_parts.specs.InStep.{InStep}
use Rattle.ca_laws_parts.proofs.InStep.{step-taken}
use Rattle.ca_laws_parts.specs.WritesSteps.{AllInStep}
use Rattle.ca_laws_parts.proofs.WritesLists.{none_at}
use Rattle.ca_laws_parts.specs.Kept.{kept}
use Rattle.ca_laws_parts.specs.Later.{IsLater, stamped_told}
use Rattle.ca_laws_parts.specs.Messages.{AllMessages, Messages}
use Rattle.ca_laws_parts.specs.Numbers.{AllNumbers, HaveNumbers}
use Rattle.ca_laws_parts.proofs.KeptNumbers.{one-taken}
use Rattle.ca_laws_parts.proofs.Thins.{there-kept}

no-update : (n : ℕ) → let a : Cause = history.Update n in let b : Cause = Reply in a ≡ b → ⊥
no-update n e = cc

front-in : {E : Type 0} (l : List (SubKey × E)) (w : SubKey × E) → front l ≡ Some w → In l w
front-in [] w is = absurd cc
front-in (x ∷ l) w is = (0, is)

-- each update of a pump, in turn
pub stamps-later : (ks : List ℕ) (c : Joined) (us : List Update) (e after : ServerEnd) (j : Joined) → FoldsTo Leaves e us after → InStep e.queues j.queues → HaveNumbers c.standing j.queues → Messages c
    → ((st : Standing) → In c.standing st → In ks st.place) → (t : Told) → In (stamped_told us j) t → IsLater ks c.lists t
stamps-later ks c [] e after j folds step numbers m keeps t there = absurd (none_at there.0 t there.1)
stamps-later ks c (u ∷ us) e after j (mid, one, rest) step numbers m keeps t there =
    let r = step-taken e.queues j.queues u.queue one.q (key_of u.of) u.carries one.at one.taken_is step in
    let number : front_number j.queues u.queue ≡ Some (r.0, history.Update r.1) =
    ap (λ (o : Option (Queue (ℕ × Cause))). option_map (λ (w : SubKey × (ℕ × Cause)). w.1) (option_and_then (λ (q : Queue (ℕ × Cause)). front q.waiting) o)) r.3
    ∙ ap (λ (o : Option (SubKey × (ℕ × Cause))). option_map (λ (w : SubKey × (ℕ × Cause)). w.1) o) r.4 in
    let queues : (unwrap_or (option_map (λ (q : Queue (ℕ × Cause)). slice_set j.queues u.queue (with_front_taken q)) (slice_get j.queues u.queue)) j.queues) ≡ slice_set j.queues u.queue (with_front_taken r.2) =
    ap (λ (o : Option (Queue (ℕ × Cause))). unwrap_or (option_map (λ (q : Queue (ℕ × Cause)). slice_set j.queues u.queue (with_front_taken q)) o) j.queues) r.3 in
    let item : ℕ × Cause = unwrap_or (front_number j.queues u.queue) (0, Reply) in
    let is_item : item ≡ (r.0, history.Update r.1) = ap (λ (o : Option (ℕ × Cause)). unwrap_or o (0, Reply)) number in
    let found = numbers r.2 (u.queue, r.3) (key_of u.of, (r.0, history.Update r.1)) (front-in r.2.waiting (key_of u.of, (r.0, history.Update r.1)) r.4) in
    let st : Standing = found.1.0 in
    let place : r.0 ≡ st.place = ap (λ (x : ℕ × Cause). x.0) found.1.3.1 in
    let s = m.subs st found.1.1 in
    let ids : s.0.message.p2 ≡ u.of.wanted.id = ap (λ (k : SubKey). k.sub) (s.3 ∙ found.1.2) in
    let here : item.0 ≡ st.place = ap (λ (x : ℕ × Cause). x.0) is_item ∙ place in
    go there.0 there.1 st here r.0 r.1 is_item (s.0, s.1, s.2, ids) (keeps st found.1.1)
    (λ later. stamps-later ks c us mid after _ rest
    (subst (λ (l : List (Queue (ℕ × Cause))). InStep mid.queues l) (sym queues) (subst (λ (l : List (Queue Stored)). InStep l (slice_set j.queues u.queue (with_front_taken r.2))) (sym (ap (λ (x : ServerEnd). x.queues) one.leaves)) r.5))
    (one-taken c.standing j.queues u.queue numbers) m keeps t later)
  where
    item_of : ℕ × Cause
    item_of = unwrap_or (front_number j.queues u.queue) (0, Reply)

    rest_of : List Told
    rest_of = stamped_told us (record j {
      queues = unwrap_or (option_map (λ (q : Queue (ℕ × Cause)). slice_set j.queues u.queue (with_front_taken q)) (slice_get j.queues u.queue)) j.queues;
      lists = record j.lists { down = j.lists.down ++ record { message = u.message; place = item_of.0; cause = item_of.1 } ∷ [] };
    })

    go : (k : ℕ) → At (stamped_told (u ∷ us) j) k t → (st : Standing) → item_of.0 ≡ st.place → (a b : ℕ) → item_of ≡ (a, history.Update b) → ((s : Sent) × At c.lists.up st.place s × Is command.EventAdd s.message × (s.message.p2 ≡ u.of.wanted.id)) → In ks st.place
        → (In rest_of t → IsLater ks c.lists t) → IsLater ks c.lists t
    go zero at st here a b is s held later =
        let t_is : t ≡ record { message = u.message; place = item_of.0; cause = item_of.1 } = sym (some_is _ t at) in
        let place : t.place ≡ st.place = ap (λ (x : Told). x.place) t_is ∙ here in
        let message : t.message ≡ u.message = ap (λ (x : Told). x.message) t_is in
        let cause : t.cause ≡ history.Update b = ap (λ (x : Told). x.cause) t_is ∙ ap (λ (x : ℕ × Cause). x.1) is in
        record {
          other = λ reply. no-update b (sym cause ∙ reply);
          keeps = subst (λ (p : ℕ). In ks p) (sym place) held;
          there = subst (λ (p : ℕ). p < length c.lists.up) (sym place) (At-within c.lists.up st.place s.0 s.1);
          speaks = λ id spoken.
              subst (λ (p : ℕ). Concerns c.lists.up p id) (sym place)
              (update-speaks c.lists.up st.place s.0 u.of.wanted u.carries u.message s.1 s.2 s.3 one.shows id (subst (λ (m : Fields). Speaks m id) message spoken));
        }
    go (suc k) at st here a b is s held later = later (k, at)

-- What a pump sends is about subscriptions that are on its circuit.
pub pump-later : (w new : World) (k : ℕ) (j : Joined) (y : ServerSide) (f : HappensPump w k j y new) → At w.circuits k j → At w.servers j.server y → j.lists.server_open ≡ true → AllInStep w → AllNumbers w → AllMessages w
    → (t : Told) → In (stamped_told f.updates j) t → IsLater (kept w k) j.lists t
pump-later w new k j y f at server opened steps numbers messages t there = go f.pumps
  where
    keeps : (st : Standing) → In j.standing st → In (kept w k) st.place
    keeps st here = there-kept w k st.place j at opened (inr (inl (st, here, refl)))

    go : Pumps y.core j.at_server f.updates f.core → IsLater (kept w k) j.lists t
    go (inl (e, has, (after, folds, rest))) =
        stamps-later (kept w k) j f.updates e after j folds (steps k j y e at server opened has).queues (numbers k j at opened) (messages k j at opened) keeps t there
    go (inr (none, nothing, is)) = absurd (none_at there.0 t (subst (λ (us : List Update). At (stamped_told us j) there.0 t) nothing there.1))
