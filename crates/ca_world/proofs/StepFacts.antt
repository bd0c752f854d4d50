-- What is known of the circuits once a message was handled: for what it did to be told, and
-- for its end to close.
use Rattle.std.proofs.Common.{◌≡◌, ℕ, ◌<◌, inl, inr, Bool, true, List, [], Option, Some, None, refl, sym, ap, subst, ◌∙◌}
use Rattle.std.specs.Prelude.{map, slice_set}
use Rattle.ca_arena.specs.declared.handle.Handle.{Handle}
use Rattle.ca_ids.specs.Table.{Table, under, with_changed}
use Rattle.ca_link.specs.Link.{with_rest, with_sent}
use Rattle.ca_text.specs.Place.{At}
use Rattle.ca_text.proofs.Places.{At-map, At-mapped, At-set}
use Rattle.ca_model.specs.Due.{Action, Adds, Applies, Clears, Drops, Greets, Names, Nothing, Opens, Switches, Waits}
use Rattle.ca_model.specs.History.{Step, Told}
use Rattle.ca_model.specs.Server.{Ended, Open, Server, ServerCircuit, ServerEnd, key_of}
use Rattle.ca_model.specs.ServerSteps.{Handles, HasEnd, Next, Reaches, is_write, reached, stored_now, write_mask}
use Rattle.ca_model.specs.Speech.{Stored}
use Rattle.ca_model.proofs.Handles.{handle-or}
use Rattle.ca_model.proofs.Placed.{under-other}
use Rattle.ca_model.proofs.Tables.{changed-own}
use Rattle.ca_model.specs.ServerEvents.{numbers_after}
use Rattle.ca_model.specs.World as model
use Rattle.ca_model.specs.World.{Joined, RecordSide}
use Rattle.ca_server_circuit.specs.declared.effect.Effect.{Effect}
use Rattle.ca_world.specs.declared.server_step.SteppingEnd.{SteppingEnd}
use Rattle.ca_world.specs.ServerStepping.{with_lists}
use Rattle.ca_world.specs.StepParts.{IsHandled, MayStep}
use Rattle.ca_world_data.specs.declared.joined.Joined.{Joined as Opened}
use Rattle.ca_world_data.specs.Numbering.{AllAlike, AllMayCount, AreAlike, IsAlike, keys_within, post_limit}
use Rattle.ca_world_data.specs.Reporting.{AreServed}
use Rattle.ca_world_data.specs.Seen.{standing_of}
use Rattle.ca_world_data.proofs.Indexes.{KeepsEnds}
use Rattle.ca_world_servers.specs.declared.ahead.Ahead.{Ahead}
use Rattle.ca_world_servers.specs.Effects.{wrote_by}
use Rattle.ca_world_servers.proofs.Dealt.{busies_of, wrote-due}
use Rattle.ca_world_servers.proofs.Done.{WasDone}
use Rattle.ca_world.proofs.Postings.{each-under, reached-alike}
use Rattle.ca_world.proofs.StepNumbers.{wrote-circuits}

-- ---- by the action

-- a write that is applied at once
busies-writes : (action : Action) (busies : Bool) → busies_of action ≡ Some busies → is_write action ≡ true
busies-writes (Applies name value b) busies is = refl
busies-writes (Waits name value) busies is = absurd cc
busies-writes (Clears sid) busies is = absurd cc
busies-writes Nothing busies is = absurd cc
busies-writes Greets busies is = absurd cc
busies-writes (Names p) busies is = absurd cc
busies-writes (Opens c) busies is = absurd cc
busies-writes (Adds s) busies is = absurd cc
busies-writes (Drops key) busies is = absurd cc
busies-writes (Switches on) busies is = absurd cc

-- does nothing to its own circuit beside the numbers
pub write-same : (place : ℕ) (action : Action) (j : Joined) → is_write action ≡ true → numbers_after place action j ≡ j
write-same place (Applies name value b) j is = refl
write-same place (Waits name value) j is = refl
write-same place Nothing j is = refl
write-same place Greets j is = refl
write-same place (Names p) j is = refl
write-same place (Clears sid) j is = absurd cc
write-same place (Opens c) j is = absurd cc
write-same place (Adds s) j is = absurd cc
write-same place (Drops key) j is = absurd cc
write-same place (Switches on) j is = absurd cc

-- ---- ends beside their circuits

-- an end with the same subscriptions and queues
as-alike : (e next : ServerEnd) (j : Joined) → next.subscriptions ≡ e.subscriptions → next.queues ≡ e.queues → AreAlike e j → AreAlike next j
as-alike e next j subs queues a =
    record { keys = ap (map key_of) subs ∙ a.keys; apart = a.apart; queues = a.queues ∙ sym (ap keys_within queues) }

changed-alike : (y : Server) (h : Handle) (e next : ServerEnd) → HasEnd y h e → next.subscriptions ≡ e.subscriptions → next.queues ≡ e.queues → (j : Joined) → IsAlike (under y.circuits j.at_server) j
    → IsAlike (under (with_changed (λ (c : ServerCircuit). Open next) h y.circuits) j.at_server) j
changed-alike y h e next has subs queues j alike = elim (handle-or j.at_server h) [
  | inr other ↦ subst (λ (o : Option ServerCircuit). IsAlike o j) (sym (under-other (λ (c : ServerCircuit). Open next) y.circuits h j.at_server other)) alike
  | inl same ↦
      let here : IsAlike (under y.circuits h) j = subst (λ (x : Handle). IsAlike (under y.circuits x) j) same alike in
      let was : AreAlike e j = subst (λ (o : Option ServerCircuit). IsAlike o j) has here in
      let now : IsAlike (under (with_changed (λ (c : ServerCircuit). Open next) h y.circuits) h) j =
      subst (λ (o : Option ServerCircuit). IsAlike o j) (sym (changed-own (λ (c : ServerCircuit). Open next) y.circuits h (Open e) has)) (as-alike e next j subs queues was) in
      subst (λ (x : Handle). IsAlike (under (with_changed (λ (c : ServerCircuit). Open next) h y.circuits) x) j) (sym same) now
]

-- a circuit with other lists
lists-alike : (d : List Told) (s : List Step) (o : Option ServerCircuit) (j : Joined) → IsAlike o j → IsAlike o (with_lists d s j)
lists-alike d s None j a = tt
lists-alike d s (Some (Ended cause left)) j a = tt
lists-alike d s (Some (Open e)) j a = record { keys = a.keys; apart = a.apart; queues = a.queues }

alike-set : (d : List Told) (s : List Step) (i : ℕ) (core : Server) (ks : List Joined) (k : ℕ) (j : Joined) → At ks k j → AllAlike i core ks → AllAlike i core (slice_set ks k (with_lists d s j))
alike-set d s i core ks k j at all n g there mine on = elim (At-set ks k (with_lists d s j) n g there) [
  | inr old ↦ all n g old.0 mine on
  | inl is ↦
      let was : IsAlike (under core.circuits j.at_server) j = all k j at (ap (λ (z : Joined). z.server) (sym is.1) ∙ mine) (ap (λ (z : Joined). z.lists.server_open) (sym is.1) ∙ on) in
      subst (λ (z : Joined). IsAlike (under core.circuits z.at_server) z) (sym is.1) (lists-alike d s (under core.circuits j.at_server) j was)
]

-- The same subscriptions are at the ends and on the circuits, once a message's write reached them.
pub alike-wrote : (y : Server) (h : Handle) (e : ServerEnd) → HasEnd y h e → (next : Next y h e) (gone : Handle → Bool) (core : Server) → Reaches next.action gone next.after core → is_write next.action ≡ true
    → (i : ℕ) (ks : List Joined) → AllAlike i y ks → AllAlike i core ks
alike-wrote y h e has next gone core reaches wrote i ks alike = go next.action next.handles reaches wrote
  where
    taken : ServerEnd
    taken = record e { link = with_rest next.rest e.link }

    now : ServerEnd
    now = record taken { link = with_sent next.replies taken.link }

    go : (action : Action) → Handles y h taken next.m next.replies action next.after → Reaches action gone next.after core → is_write action ≡ true → AllAlike i core ks
    go (Applies name value busies) handles reaches wrote = λ n g there mine on.
        let v : Stored = stored_now next.after value in
        let is : under next.after.circuits g.at_server ≡ under (with_changed (λ (c : ServerCircuit). Open now) h y.circuits) g.at_server =
        ap (λ (t : Table ServerCircuit). under t g.at_server) (wrote-circuits y h taken next.m next.replies name value busies next.after handles) in
        let after : IsAlike (under next.after.circuits g.at_server) g =
        subst (λ (o : Option ServerCircuit). IsAlike o g) (sym is) (changed-alike y h e now has refl refl g (alike n g there mine on)) in
        subst (λ (o : Option ServerCircuit). IsAlike o g)
        (sym (ap (λ (z : Server). under z.circuits g.at_server) reaches.1 ∙ each-under (reached name write_mask v gone) next.after.circuits g.at_server))
        (reached-alike name write_mask v gone g.at_server (under next.after.circuits g.at_server) g after)
    go (Waits name value) handles reaches wrote = absurd cc
    go (Clears sid) handles reaches wrote = absurd cc
    go Nothing handles reaches wrote = absurd cc
    go Greets handles reaches wrote = absurd cc
    go (Names p) handles reaches wrote = absurd cc
    go (Opens c) handles reaches wrote = absurd cc
    go (Adds s) handles reaches wrote = absurd cc
    go (Drops key) handles reaches wrote = absurd cc
    go (Switches on) handles reaches wrote = absurd cc

-- ---- a message that was handled

module _ (before core : Server) (j : Joined) (ks : List Joined) (rs : List RecordSide) (a : Ahead) (t : SteppingEnd) (did : Effect) (m : MayStep t before j ks rs a) (d : IsHandled before core j.at_server m.e did) where
  -- what it did
  pub was-done : WasDone before j.at_server rs a d.next.m d.next.action
  was-done = record {
    e = m.e;
    has = m.has;
    replies = d.next.replies;
    due = d.next.handles.due;
    ahead = m.ahead d.next;
    beside = m.beside;
    unstamped = m.unstamped;
  }

  -- whether it wrote
  handled-wrote : wrote_by did ≡ busies_of d.next.action
  handled-wrote = ap (λ (e : Effect). wrote_by e) d.tells ∙ wrote-due d.next.m d.next.action

  -- a write does nothing to its own circuit beside the numbers
  pub handled-same : (busies : Bool) → wrote_by did ≡ Some busies → (place : ℕ) → numbers_after place d.next.action j ≡ j
  handled-same busies wrote place = write-same place d.next.action j (busies-writes d.next.action busies (sym handled-wrote ∙ wrote))

  -- The same subscriptions are at the ends and on the circuits, once its write reached them; the
  -- lists of its circuit are aside.
  pub alike-after : (busies : Bool) → wrote_by did ≡ Some busies → (k place : ℕ) → At ks k j → AllAlike t.server core (slice_set ks k (with_lists [] [] (numbers_after place d.next.action j)))
  alike-after busies wrote k place at =
      let written : is_write d.next.action ≡ true = busies-writes d.next.action busies (sym handled-wrote ∙ wrote) in
      subst (λ (z : Joined). AllAlike t.server core (slice_set ks k (with_lists [] [] z))) (sym (handled-same busies wrote place))
      (alike-set [] [] t.server core ks k j at (alike-wrote before j.at_server m.e m.has d.next d.gone core d.reaches written t.server ks m.alike))

-- ---- one circuit of many

-- one more post may be counted still
pub counts-set : (items : List Opened) (k : ℕ) (old new : Opened) → At items k old → map standing_of new.standing.items ≡ map standing_of old.standing.items → AllMayCount items → AllMayCount (slice_set items k new)
counts-set items k old new at same all n g there p s here = elim (At-set items k new n g there) [
  | inr was ↦ all n g was.0 p s here
  | inl is ↦
      let mine : At new.standing.items p s = subst (λ (z : Opened). At z.standing.items p s) is.1 here in
      let seen : At (map standing_of old.standing.items) p (standing_of s) =
      subst (λ (ss : List model.Standing). At ss p (standing_of s)) same (At-map standing_of new.standing.items p s mine) in
      let m = At-mapped standing_of old.standing.items p (standing_of s) seen in
      subst (λ (n : ℕ). n < post_limit) (sym (ap (λ (z : model.Standing). z.posts) m.2)) (all k old at p m.0 m.1)
]

-- what a message does to its circuit, whose lists are aside, leaves its ends
pub keeps-noted : (place : ℕ) (action : Action) (j : Joined) → KeepsEnds j (with_lists [] [] (numbers_after place action j))
keeps-noted place (Applies name value b) j = record { client = refl; server = refl; at_client = refl; at_server = refl; closes = λ on. on; stops = λ on. on }
keeps-noted place (Waits name value) j = record { client = refl; server = refl; at_client = refl; at_server = refl; closes = λ on. on; stops = λ on. on }
keeps-noted place (Clears sid) j = record { client = refl; server = refl; at_client = refl; at_server = refl; closes = λ on. on; stops = λ on. on }
keeps-noted place Nothing j = record { client = refl; server = refl; at_client = refl; at_server = refl; closes = λ on. on; stops = λ on. on }
keeps-noted place Greets j = record { client = refl; server = refl; at_client = refl; at_server = refl; closes = λ on. on; stops = λ on. on }
keeps-noted place (Names p) j = record { client = refl; server = refl; at_client = refl; at_server = refl; closes = λ on. on; stops = λ on. on }
keeps-noted place (Opens c) j = record { client = refl; server = refl; at_client = refl; at_server = refl; closes = λ on. on; stops = λ on. on }
keeps-noted place (Adds s) j = record { client = refl; server = refl; at_client = refl; at_server = refl; closes = λ on. on; stops = λ on. on }
keeps-noted place (Drops key) j = record { client = refl; server = refl; at_client = refl; at_server = refl; closes = λ on. on; stops = λ on. on }
keeps-noted place (Switches on) j = record { client = refl; server = refl; at_client = refl; at_server = refl; closes = λ on. on; stops = λ on. on }

-- the server finds its circuits still
pub served-set : (own : List ℕ) (ks : List Joined) (i : ℕ) (k : ℕ) (j new : Joined) → At ks k j → KeepsEnds j new → AreServed own ks i → AreServed own (slice_set ks k new) i
served-set own ks i k j new at keeps served n g there mine on = elim (At-set ks k new n g there) [
  | inr old ↦ served n g old.0 mine on
  | inl is ↦
      let here : At own j.at_server.index k =
      served k j at (sym keeps.server ∙ ap (λ (z : Joined). z.server) (sym is.1) ∙ mine) (keeps.stops (ap (λ (z : Joined). z.lists.server_open) (sym is.1) ∙ on)) in
      subst (λ (z : ℕ × Handle). At own z.1.index z.0) (λ t. (sym is.0 t, sym (ap (λ (z : Joined). z.at_server) is.1 ∙ keeps.at_server) t)) here
]
