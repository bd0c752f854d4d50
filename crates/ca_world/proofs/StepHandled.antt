-- A message was handled, and what it did is told and noted: that is a step of its server's end.
use Rattle.std.proofs.Common.{◌≡◌, ◌++◌, ◌==◌, ◌&&◌, ℕ, true, List, [], ◌∷◌, Option, None, length, refl, sym, ap, subst, ◌∙◌, inl}
use Rattle.std.specs.Prelude.{map, option_map, slice_get, slice_set, unwrap_or}
use Rattle.std.proofs.lemmas.List.{length-map}
use Rattle.ca_arena.specs.declared.handle.Handle.{Handle}
use Rattle.ca_ids.specs.Table.{under}
use Rattle.ca_link.specs.Link.{with_rest}
use Rattle.ca_text.specs.Place.{At}
use Rattle.ca_text.proofs.Places.{At-map, At-one}
use Rattle.ca_model.specs.Due.{Action, Adds, Applies, Clears, Drops, Greets, Names, Nothing, Opens, Switches, Waits}
use Rattle.ca_model.specs.History as history
use Rattle.ca_model.specs.Server.{Server, ServerEnd}
use Rattle.ca_model.specs.ServerSteps.{HasEnd}
use Rattle.ca_model.specs.ServerEvents.{about, ending, ends_at, ends_by, handled_at, left_by, logged_by, numbers_after, records_after, reported, withdrawals, without_puts, write_numbers}
use Rattle.ca_model.specs.World.{Joined, PutPlace, RecordSide, ServerSide as Side, grown, log_length}
use Rattle.ca_server_circuit.specs.declared.effect.Effect.{Effect}
use Rattle.ca_world.specs.declared.server_step.Prepared.{Prepared}
use Rattle.ca_world.specs.declared.server_step.SteppingEnd.{SteppingEnd}
use Rattle.ca_world.specs.ServerStepping.{HandlesAt, StepsAt, put_place, with_lists}
use Rattle.ca_world.specs.StepParts.{AreAside, IsHandled, IsPrepared, MayStep, NotesAt}
use Rattle.ca_world_data.specs.declared.server.ServerSide.{ServerSide}
use Rattle.ca_world_data.specs.Reporting.{gone_at}
use Rattle.ca_world_data.specs.Seen.{record_of, server_of, step_of, told_of}
use Rattle.ca_world_servers.specs.declared.ahead.Ahead.{Ahead}
use Rattle.ca_world_servers.specs.Effects.{TellsAction, TellsMessage}
use Rattle.ca_world_servers.specs.Handling.{with_handled}
use Rattle.ca_world_servers.proofs.Done.{WasDone, tells-action}
use Rattle.ca_world.proofs.Downward.{at-set}
use Rattle.ca_world.proofs.StepFacts.{was-done}
use Rattle.ca_world.proofs.StepLists.{ending-aside, ending-lists, gone-aside, write-lists}
use Rattle.ca_world.proofs.StepNumbers.{gone-agree, quits-by, writes-agree}
use Rattle.ca_queue.proofs.Circuits.{set-twice}

-- what went down and was handled on a circuit stays
abbrev Lasts : Joined → Joined → Type 0
Lasts j new = (new.lists.down ≡ j.lists.down) × (new.lists.handled ≡ j.lists.handled)

number-lasts : (place : ℕ) (action : Action) (j : Joined) → Lasts j (numbers_after place action j)
number-lasts place (Applies name value b) j = (refl, refl)
number-lasts place (Waits name value) j = (refl, refl)
number-lasts place (Clears sid) j = (refl, refl)
number-lasts place Nothing j = (refl, refl)
number-lasts place Greets j = (refl, refl)
number-lasts place (Names p) j = (refl, refl)
number-lasts place (Opens c) j = (refl, refl)
number-lasts place (Adds s) j = (refl, refl)
number-lasts place (Drops key) j = (refl, refl)
number-lasts place (Switches on) j = (refl, refl)

write-lasts : (i : ℕ) (core : Server) (action : Action) (j : Joined) → Lasts j (write_numbers i core action j)
write-lasts i core action j =
    let own : write_numbers i core action j ≡ with_lists j.lists.down j.lists.handled (write_numbers i core action j) = write-lists j.lists.down j.lists.handled i core action j in
    (ap (λ (z : Joined). z.lists.down) own, ap (λ (z : Joined). z.lists.handled) own)

ending-lasts : (i : ℕ) (core : Server) (j : Joined) → Lasts j (ending (ends_by i core) j)
ending-lasts i core j =
    let own : ending (ends_by i core) j ≡ with_lists j.lists.down j.lists.handled (ending (ends_by i core) j) = ending-lists j.lists.down j.lists.handled (ends_by i core) j refl in
    (ap (λ (z : Joined). z.lists.down) own, ap (λ (z : Joined). z.lists.handled) own)

module _ (k : ℕ) (j : Joined) (before core : Server) (ks : List Joined) (e : ServerEnd) (has : HasEnd before j.at_server e) (did : Effect) (d : IsHandled before core j.at_server e did) (at : At ks k j) where
  abbrev action : Action
  action = d.next.action

  -- the circuit with what the message did to it, and among the others
  abbrev numbered : Joined
  numbered = numbers_after (length j.lists.handled) action j

  abbrev plain : List Joined
  plain = slice_set ks k numbered

  abbrev ends : Joined → Option (List ℕ)
  ends = ends_by j.server core

  -- the circuits after the message, whose numbers are those of the core before it
  abbrev acted : List Joined
  acted = map (write_numbers j.server before action) plain

  abbrev mid : List Joined
  mid = map (ending ends) acted

  -- the circuit among them
  abbrev here : Joined
  here = ending ends (write_numbers j.server core action numbered)

  there : At plain k numbered
  there = at-set ks k j numbered at

  abbrev taken : ServerEnd
  taken = record e { link = with_rest d.next.rest e.link }

  quits : (c : Joined) → ends c ≡ None → c.server == j.server && c.lists.server_open ≡ true → (under core.circuits c.at_server ≡ under core.circuits c.at_server) × (left_by (under core.circuits c.at_server) ≡ None)
  quits c none on = (refl, quits-by j.server core c none on)

  agree : map (ending ends) (map (write_numbers j.server core action) plain) ≡ mid
  agree =
      writes-agree before j.at_server e taken has refl d.next.m d.next.replies j.server plain d.next.after core core d.gone ends (λ key c. refl) quits action d.next.handles d.reaches

  same-gone : ends_at ends (map (write_numbers j.server core action) plain) ≡ ends_at ends acted
  same-gone =
      gone-agree before j.at_server e taken has refl d.next.m d.next.replies j.server plain d.next.after core core d.gone ends (λ key c. refl) quits action d.next.handles d.reaches

  -- the same circuits end as without the lists aside
  gone-is : ends_at ends (map (write_numbers j.server core action) (slice_set ks k (with_lists [] [] numbered))) ≡ ends_at ends acted
  gone-is =
      ap (λ (cs : List Joined). ends_at ends (map (write_numbers j.server core action) cs)) (sym (set-twice ks k numbered (with_lists [] [] numbered)))
      ∙ gone-aside j.server core action plain k numbered there [] [] ∙ same-gone

  over-is : map (ending ends) (map (write_numbers j.server core action) (slice_set ks k (with_lists [] [] numbered))) ≡ slice_set mid k (with_lists [] [] here)
  over-is =
      ap (λ (cs : List Joined). map (ending ends) (map (write_numbers j.server core action) cs)) (sym (set-twice ks k numbered (with_lists [] [] numbered)))
      ∙ ending-aside j.server core action plain k numbered there [] [] ∙ ap (λ (cs : List Joined). slice_set cs k (with_lists [] [] here)) agree

  here-at : At mid k here
  here-at =
      subst (λ (cs : List Joined). At cs k here) agree
      (At-map (ending ends) (map (write_numbers j.server core action) plain) k (write_numbers j.server core action numbered) (At-map (write_numbers j.server core action) plain k numbered there))

  here-lasts : Lasts j here
  here-lasts =
      let n : Lasts j numbered = number-lasts (length j.lists.handled) action j in
      let w : Lasts numbered (write_numbers j.server core action numbered) = write-lasts j.server core action numbered in
      let z : Lasts (write_numbers j.server core action numbered) here = ending-lasts j.server core (write_numbers j.server core action numbered) in
      (z.0 ∙ w.0 ∙ n.0, z.1 ∙ w.1 ∙ n.1)

  -- The circuit with its lists given back, and the message noted on it.
  module _ (down : List history.Told) (handled : List history.Step) (told : List history.Told) (step now : history.Step) (replies_are : told ≡ about (length j.lists.handled) history.Reply d.next.replies) (down_is : down ≡ j.lists.down) (handled_is : handled ≡ j.lists.handled) (step_is : step ≡ now)
      (over : List Joined) (is : over ≡ slice_set mid k (with_lists [] [] here)) (x : Joined) (x_at : At over k x) where
    back : with_handled step told (with_lists down handled (with_lists [] [] here)) ≡ handled_at (length j.lists.handled) now d.next.replies here
    back =
        let l : Lasts j here = here-lasts in
        let lower : down ≡ here.lists.down = down_is ∙ sym l.0 in
        let steps : handled ≡ here.lists.handled = handled_is ∙ sym l.1 in
        (λ t. record here { lists = record here.lists { down = lower t ++ replies_are t; handled = steps t ++ step_is t ∷ [] } })

    x-is : x ≡ with_lists [] [] here
    x-is = At-one over k x (with_lists [] [] here) x_at (subst (λ (cs : List Joined). At cs k (with_lists [] [] here)) (sym is) (at-set mid k here (with_lists [] [] here) here-at))

    set-is : slice_set over k (with_handled step told (with_lists down handled x)) ≡ slice_set mid k (handled_at (length j.lists.handled) now d.next.replies here)
    set-is =
        (λ t. slice_set (is t) k (with_handled step told (with_lists down handled (x-is t))))
        ∙ set-twice mid k (with_lists [] [] here) (with_handled step told (with_lists down handled (with_lists [] [] here))) ∙ ap (slice_set mid k) back

    noted-is : slice_set over k (with_handled step told (with_lists down handled x)) ≡ unwrap_or (option_map (λ (c : Joined). slice_set mid k (handled_at (length j.lists.handled) now d.next.replies c)) (slice_get mid k)) mid
    noted-is = set-is ∙ sym (ap (λ (o : Option Joined). unwrap_or (option_map (λ (c : Joined). slice_set mid k (handled_at (length j.lists.handled) now d.next.replies c)) o) mid) here-at)

-- What a message did is told and noted, so it was handled.
handled-at : (k : ℕ) (j : Joined) (before : Server) (y y' : ServerSide) (ks noted ks' : List Joined) (logs logs' : List (List history.Entry)) (e : ServerEnd) (did : Effect) (d : IsHandled before y.core j.at_server e did) (a : Ahead) (r : Prepared) (new : Joined)
    → HasEnd before j.at_server e → At ks k j → WasDone before j.at_server (map record_of y.records.items) a d.next.m d.next.action → IsPrepared before e j d.next r new → AreAside j r → noted ≡ slice_set ks k new
    → NotesAt k j.server did a r y noted logs y' ks' logs'
    → HandlesAt k j (record (server_of y) { core = before }) ks logs (server_of y') ks' logs'
handled-at k j before y y' ks noted ks' logs logs' e did d a r new has at was prepared aside is n =
    let act : Action = d.next.action in
    let h : Handle = j.at_server in
    let p : PutPlace = record { circuit = k; place = length r.handled.items } in
    let rs : List RecordSide = map record_of y.records.items in
    let long : length r.handled.items ≡ length j.lists.handled = sym (length-map r.handled.items step_of) ∙ ap length aside.handled in
    let sent : length r.down.items ≡ length j.lists.down = sym (length-map r.down.items told_of) ∙ ap length aside.down in
    let done : TellsAction j.server p before h act y noted logs n.mid n.circuits n.told =
    tells-action j.server p before h y noted logs a d.next.m act n.mid n.circuits n.told was
    (subst (λ (e : Effect). TellsMessage j.server p e a.write a.parting y noted logs n.mid n.circuits n.told) d.tells n.done) in
    let reports = n.reports in
    let around : noted ≡ slice_set ks k (with_lists [] [] (numbers_after (length j.lists.handled) act j)) = is ∙ ap (slice_set ks k) prepared.circuit in
    let circuits : n.circuits ≡ map (write_numbers j.server y.core act) (slice_set ks k (with_lists [] [] (numbers_after (length j.lists.handled) act j))) =
    done.circuits ∙ ap (map (write_numbers j.server y.core act)) around in
    let side : server_of n.mid ≡ record (server_of y) { records = records_after before h (record { circuit = k; place = length r.handled.items }) act rs } = done.side in
    let core : n.mid.core ≡ y.core = ap (λ (s : Side). s.core) side in
    let life : n.mid.life ≡ y.life = ap (λ (s : Side). s.life) side in
    let records : map record_of n.mid.records.items ≡ records_after before h (put_place k j) act rs =
    ap (λ (s : Side). s.records) side ∙ ap (λ (p : ℕ). records_after before h (record { circuit = k; place = p }) act rs) long in
    let gone : gone_at j.server n.mid.core n.circuits ≡ ends_at (ends_by j.server y.core) (acted k j before y.core ks e has did d at) =
    (λ t. ends_at (ends_by j.server (core t)) (circuits t)) ∙ gone-is k j before y.core ks e has did d at in
    let over : n.over ≡ slice_set (mid k j before y.core ks e has did d at) k (with_lists [] [] (here k j before y.core ks e has did d at)) =
    reports.circuits ∙ (λ t. map (ending (ends_by j.server (core t))) (circuits t)) ∙ over-is k j before y.core ks e has did d at in
    record {
      e = e;
      has = has;
      core = y.core;
      steps = (d.next, d.gone, d.stays, d.reaches);
      mid = mid k j before y.core ks e has did d at;
      quits = record {
        side =
            reports.side
            ∙ (λ t. record { setting = let s : Side = side t in s.setting; core = reported (core t); life = life t; records = map (without_puts (gone t)) (records t); added = let s : Side = side t in s.added });
        circuits = refl;
        logged =
            reports.logged
            ∙ (λ t. grown (life t) (withdrawals (gone t) (records t)) (done.logged t))
            ∙ ap (λ (p : ℕ). grown y.life (withdrawals (ends_at (ends_by j.server y.core) (acted k j before y.core ks e has did d at)) (records_after before h (put_place k j) act rs)) (grown y.life (logged_by before h (record { circuit = k; place = p }) act rs) logs)) long;
      };
      noted =
          n.noted
          ∙ noted-is k j before y.core ks e has did d at (map told_of r.down.items) (map step_of r.handled.items) (map told_of r.told.items)
          (record { sent = length r.down.items; logged = log_length y.life logs; after = log_length y.life logs' })
          (record { sent = length j.lists.down; logged = log_length y.life logs; after = log_length y.life logs' })
          prepared.told aside.down aside.handled (λ t. record { sent = sent t; logged = log_length y.life logs; after = log_length y.life logs' })
          n.over over n.x n.at;
    }

-- The same of the circuit at that place, whatever it is called.
pub step-handled : (t : SteppingEnd) (x : Joined) (before : Server) (y y' : ServerSide) (ks noted ks' : List Joined) (logs logs' : List (List history.Entry)) (a : Ahead) (did : Effect) (r : Prepared) (new : Joined)
    → At ks t.circuit x → ((m : MayStep t before x ks (map record_of y.records.items) a) (d : IsHandled before y.core x.at_server m.e did) → IsPrepared before m.e x d.next r new) → AreAside x r → noted ≡ slice_set ks t.circuit new
    → NotesAt t.circuit t.server did a r y noted logs y' ks' logs'
    → (j : Joined) → At ks t.circuit j → (m : MayStep t before j ks (map record_of y.records.items) a) → IsHandled before y.core j.at_server m.e did
    → StepsAt t.circuit j (record (server_of y) { core = before }) ks logs (server_of y') ks' logs'
step-handled t x before y y' ks noted ks' logs logs' a did r new here prepared aside is notes j at =
    subst (λ (z : Joined). (m : MayStep t before z ks (map record_of y.records.items) a) → IsHandled before y.core z.at_server m.e did → StepsAt t.circuit z (record (server_of y) { core = before }) ks logs (server_of y') ks' logs')
    (At-one ks t.circuit x j here at)
    (λ m d.
    inl (handled-at t.circuit x before y y' ks noted ks' logs logs' m.e did d a r new m.has here (was-done before y.core x ks (map record_of y.records.items) a t did m d) (prepared m d) aside is
    (subst (λ (i : ℕ). NotesAt t.circuit i did a r y noted logs y' ks' logs') (sym m.mine) notes)))
