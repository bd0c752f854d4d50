-- A step of a server's end, if the end closed in it: what is left, from what is told of it.
use Rattle.std.proofs.Common.{◌≡◌, ◌≢◌, ℕ, inl, inr, Bool, true, false, List, Option, Some, None, length, refl, sym, ap, subst, arith, ◌∙◌}
use Rattle.std.specs.Prelude.{if◌then◌else◌, map, slice_set}
use Rattle.std.proofs.lemmas.Bool.{le-ltb}
use Rattle.ca_arena.specs.declared.handle.Handle.{Handle}
use Rattle.ca_ids.specs.Table.{under, with_freed}
use Rattle.ca_text.specs.Place.{At}
use Rattle.ca_model.specs.Ends as why
use Rattle.ca_model.specs.Ends.{Why}
use Rattle.ca_model.specs.History.{Entry}
use Rattle.ca_model.specs.Server.{Ended, Open, Server, ServerCircuit, ServerEnd}
use Rattle.ca_model.specs.ServerSteps.{HasEnd, LacksMemory, LeftOf, Next, StepsOpen, closed}
use Rattle.ca_model.specs.ServerSteps as stepped
use Rattle.ca_model.proofs.Tables.{freed-back}
use Rattle.ca_model.specs.ServerEvents.{ending, ends_at, ends_here, logged_by, records_after, reported, withdrawals, without_puts, write_numbers}
use Rattle.ca_model.specs.World.{Joined, PutPlace, RecordSide, ServerSide, grown}
use Rattle.ca_server_circuit.specs.Effects.{effect_due}
use Rattle.ca_server_circuit.specs.declared.effect.Effect.{Effect}
use Rattle.ca_server_core.specs.Effects.{TellsEffect, action_at, message_at}
use Rattle.ca_server_core.specs.declared.stepping.CoreStep.TheVariants as step
use Rattle.ca_world.proofs.EndsClosed.{ends-closed}
use Rattle.ca_world.proofs.StepFacts.{alike-wrote, write-same}
use Rattle.ca_world.proofs.StepNumbers.{gone-agree, quits-here, writes-agree}
use Rattle.ca_world.specs.ServerStepping.{BreaksAt, LacksAs, LacksAt, Quits, RestsAt, StepsAt, circuits_acted, logs_acted, records_acted}
use Rattle.ca_world.specs.declared.server_step.SteppingEnd.{SteppingEnd}
use Rattle.ca_world.specs.StepParts.{ClosesWith, IsHandled, MayStep}
use Rattle.ca_world_data.specs.declared.server.ServerSide.{ServerSide as Side}
use Rattle.ca_world_data.specs.Numbering.{AllAlike, IsAlike}
use Rattle.ca_world_data.specs.Seen.{record_of, server_of}
use Rattle.ca_world_data.proofs.Worlds.{set-same}
use Rattle.ca_world_servers.specs.Effects.{TellsAction, TellsWrite, busies_in, wrote_in}
use Rattle.ca_world_servers.specs.declared.ahead.Ahead.{Ahead}
use Rattle.ca_world_data.specs.EndsWith.{ReportsWith, ends_under}
use Rattle.ca_world_servers.proofs.Dealt.{left_written, wrote-lacks}
use Rattle.ca_world_servers.proofs.Done.{WasDone, tells-busies}

-- ---- what is left of the core

-- circuits beside a core are beside it once an end of it closed
alike-closed : (i : ℕ) (mid : Server) (h : Handle) (ks : List Joined) → AllAlike i mid ks → AllAlike i (closed h mid) ks
alike-closed i mid h ks alike k c at mine opened = go (under (with_freed h mid.circuits) c.at_server) refl
  where
    go : (o : Option ServerCircuit) → under (with_freed h mid.circuits) c.at_server ≡ o → IsAlike o c
    go None is = tt
    go (Some (Ended w left)) is = tt
    go (Some (Open e)) is = subst (λ (o : Option ServerCircuit). IsAlike o c) (freed-back mid.circuits c.at_server h (Open e) is).1 (alike k c at mine opened)

-- ---- what is left of the world

-- what is reported of a server with the end of this handle, as the statement has its side
record Left (h : Handle) (left : List ℕ) (i : ℕ) (y : ServerSide) (ks : List Joined) (logs : List (List Entry)) (y' : ServerSide) (ks' : List Joined) (logs' : List (List Entry)) : Type 0 where
  side : y' ≡ record y { core = reported y.core; records = map (without_puts (ends_at (ends_under h left i y.core) ks)) y.records }
  circuits : ks' ≡ map (ending (ends_under h left i y.core)) ks
  logged : logs' ≡ grown y.life (withdrawals (ends_at (ends_under h left i y.core) ks) y.records) logs

left-of : (h : Handle) (left : List ℕ) (i : ℕ) (y : Side) (ks : List Joined) (logs : List (List Entry)) (y' : Side) (ks' : List Joined) (logs' : List (List Entry)) → ReportsWith h left i y ks logs y' ks' logs' → Left h left i (server_of y) ks logs (server_of y') ks' logs'
left-of h left i y ks logs y' ks' logs' r = record { side = r.side; circuits = r.circuits; logged = r.logged }

module _ (k : ℕ) (j : Joined) (before : Server) (e : ServerEnd) (has : HasEnd before j.at_server e) (left : List ℕ) (y : ServerSide) (ks : List Joined) (at : At ks k j) (logs : List (List Entry)) (y' : ServerSide) (ks' : List Joined) (logs' : List (List Entry)) where
  abbrev was : ServerSide
  was = record y { core = before }

  abbrev ends : Server → Joined → Option (List ℕ)
  ends core = ends_here j left j.server core

  quits-none : Left j.at_server left j.server y ks logs y' ks' logs' → Quits (ends y.core) y.core was was.records ks logs y' ks' logs'
  quits-none r = record { side = r.side; circuits = r.circuits; logged = r.logged }

  module _ (next : Next before j.at_server e) (gone : Handle → Bool) (mid : Server) (left_is : LeftOf next (Some gone) mid) (leaves : y.core ≡ closed j.at_server mid) where
    acted-as : map (write_numbers j.server before next.action) ks ≡ circuits_acted k j was next.action ks
    acted-as = ap (map (write_numbers j.server before next.action)) (sym (ap (slice_set ks k) (write-same (length j.lists.handled) next.action j left_is.0) ∙ set-same ks k j at))

    circuits-as : map (ending (ends y.core)) (map (write_numbers j.server y.core next.action) ks) ≡ map (ending (ends y.core)) (circuits_acted k j was next.action ks)
    circuits-as =
        subst (λ (c : Server). map (ending (ends c)) (map (write_numbers j.server c next.action) ks) ≡ map (ending (ends c)) (map (write_numbers j.server before next.action) ks)) (sym leaves)
        (writes-agree before j.at_server e _ has refl next.m next.replies j.server ks next.after mid (closed j.at_server mid) gone (ends (closed j.at_server mid)) (λ key c. refl) (quits-here j left j.server mid) next.action next.handles left_is.1)
        ∙ ap (map (ending (ends y.core))) acted-as

    gone-as : ends_at (ends y.core) (map (write_numbers j.server y.core next.action) ks) ≡ ends_at (ends y.core) (circuits_acted k j was next.action ks)
    gone-as =
        subst (λ (c : Server). ends_at (ends c) (map (write_numbers j.server c next.action) ks) ≡ ends_at (ends c) (map (write_numbers j.server before next.action) ks)) (sym leaves)
        (gone-agree before j.at_server e _ has refl next.m next.replies j.server ks next.after mid (closed j.at_server mid) gone (ends (closed j.at_server mid)) (λ key c. refl) (quits-here j left j.server mid) next.action next.handles left_is.1)
        ∙ ap (ends_at (ends y.core)) acted-as

    quits-some : Left j.at_server left j.server (record y { records = records_acted k j was next.action }) (map (write_numbers j.server y.core next.action) ks) (logs_acted k j was next.action logs) y' ks' logs'
        → Quits (ends y.core) y.core was (records_acted k j was next.action) (circuits_acted k j was next.action ks) (logs_acted k j was next.action logs) y' ks' logs'
    quits-some r = record {
      side = r.side ∙ ap (λ (g : ℕ → Bool). record was { core = reported y.core; records = map (without_puts g) (records_acted k j was next.action) }) gone-as;
      circuits = r.circuits ∙ circuits-as;
      logged = r.logged ∙ ap (λ (g : ℕ → Bool). grown y.life (withdrawals g (records_acted k j was next.action)) (logs_acted k j was next.action logs)) gone-as;
    }

module _ (k i : ℕ) (j : Joined) (mine : j.server ≡ i) (before : Server) (e : ServerEnd) (has : HasEnd before j.at_server e) (h : Handle) (here : h ≡ j.at_server) (left : List ℕ) (left_is : left ≡ e.link.output) (y : Side) (ks : List Joined) (at : At ks k j) (logs : List (List Entry)) (y' : Side) (ks' : List Joined) (logs' : List (List Entry)) (lacks : LacksMemory before j.at_server e y.core) where
  moved : (z : Side) (zs : List Joined) (ls : List (List Entry)) → ReportsWith h left i z zs ls y' ks' logs' → Left j.at_server e.link.output j.server (server_of z) zs ls (server_of y') ks' logs'
  moved z zs ls r =
      subst (λ (l : List ℕ). Left j.at_server l j.server (server_of z) zs ls (server_of y') ks' logs') left_is
      (subst (λ (n : ℕ). Left j.at_server left n (server_of z) zs ls (server_of y') ks' logs') (sym mine)
      (subst (λ (g : Handle). Left g left i (server_of z) zs ls (server_of y') ks' logs') here (left-of h left i z zs ls y' ks' logs' r)))

  -- An end that closed out of memory, by whether its message wrote.
  lacks-at : (a : Ahead) → WasDone before j.at_server (map record_of y.records.items) a lacks.next.m lacks.next.action → (wrote : Option Bool) → wrote ≡ left_written lacks.written lacks.next.action
      → ClosesWith k i h (length j.lists.handled) wrote a.write left y ks logs y' ks' logs'
      → LacksAt k j (record (server_of y) { core = before }) ks logs (server_of y') ks' logs'
  lacks-at a was wrote is c = record { e = e; has = has; core = y.core; lacks = lacks; quits = go lacks.written lacks.left_is is }
    where
      p : PutPlace
      p = record { circuit = k; place = length j.lists.handled }

      go : (written : Option (Handle → Bool)) → LeftOf lacks.next written lacks.mid → wrote ≡ left_written written lacks.next.action → LacksAs k j (record (server_of y) { core = before }) lacks.next written e.link.output y.core ks logs (server_of y') ks' logs'
      go None left_of is =
          let told : TellsWrite i p None a.write y ks logs c.mid c.circuits c.told = subst (λ (o : Option Bool). TellsWrite i p o a.write y ks logs c.mid c.circuits c.told) is c.done in
          quits-none k j before e has e.link.output (server_of y) ks at logs (server_of y') ks' logs'
          (moved y ks logs
          (subst (λ (z : Side × (List Joined × List (List Entry))). ReportsWith h left i z.0 z.1.0 z.1.1 y' ks' logs') (λ t. (told.0 t, (told.1 t, told.2 t))) c.reports))
      go (Some gone) left_of is =
          let told : TellsAction i p before j.at_server lacks.next.action y ks logs c.mid c.circuits c.told =
          tells-busies i p before j.at_server y ks logs a lacks.next.m lacks.next.action c.mid c.circuits c.told left_of.0 was
          (subst (λ (o : Option Bool). TellsWrite i p o a.write y ks logs c.mid c.circuits c.told) is c.done) in
          let there = moved c.mid c.circuits c.told c.reports in
          let R : List RecordSide = records_after before j.at_server p lacks.next.action (server_of y).records in
          let at_told : Left j.at_server e.link.output j.server (record (server_of y) { records = R }) (map (write_numbers i y.core lacks.next.action) ks) (grown y.life (logged_by before j.at_server p lacks.next.action (server_of y).records) logs) (server_of y') ks' logs' =
          subst (λ (ls : List (List Entry)). Left j.at_server e.link.output j.server (record (server_of y) { records = R }) (map (write_numbers i y.core lacks.next.action) ks) ls (server_of y') ks' logs') told.logged
          (subst (λ (zs : List Joined). Left j.at_server e.link.output j.server (record (server_of y) { records = R }) zs c.told (server_of y') ks' logs') told.circuits
          (subst (λ (s : ServerSide). Left j.at_server e.link.output j.server s c.circuits c.told (server_of y') ks' logs') told.side there)) in
          quits-some k j before e has e.link.output (server_of y) ks at logs (server_of y') ks' logs' lacks.next gone lacks.mid left_of lacks.leaves
          (subst (λ (n : ℕ). Left j.at_server e.link.output j.server (record (server_of y) { records = R }) (map (write_numbers n y.core lacks.next.action) ks) (grown y.life (logged_by before j.at_server p lacks.next.action (server_of y).records) logs) (server_of y') ks' logs') (sym mine) at_told)

-- ---- an end that lacks memory

module _ (before core : Server) (j : Joined) (ks : List Joined) (rs : List RecordSide) (a : Ahead) (t : SteppingEnd) (m : MayStep t before j ks rs a) (l : LacksMemory before j.at_server m.e core) where
  -- what is known of its message
  lacks-done : WasDone before j.at_server rs a l.next.m l.next.action
  lacks-done = record {
    e = m.e;
    has = m.has;
    replies = l.next.replies;
    due = l.next.handles.due;
    ahead = m.ahead l.next;
    beside = m.beside;
    unstamped = m.unstamped;
  }

  -- whether that wrote
  lacks-wrote : wrote_in core t.applied a.write ≡ left_written l.written l.next.action
  lacks-wrote =
      let ahead = m.ahead l.next in
      ap (λ (n : ℕ). wrote_in core n a.write) m.turn.applied
      ∙ wrote-lacks before j.at_server m.e m.has m.turn.few l.next l.written l.mid core l.left_is l.leaves a.write ahead.writes

  lacks-alike : (wrote : Option Bool) → wrote ≡ left_written l.written l.next.action → (busies : Bool) → wrote ≡ Some busies → AllAlike t.server core ks
  lacks-alike wrote are busies is = go l.written l.left_is (sym are ∙ is)
    where
      go : (written : Option (Handle → Bool)) → LeftOf l.next written l.mid → left_written written l.next.action ≡ Some busies → AllAlike t.server core ks
      go None left is = absurd cc
      go (Some gone) left is =
          subst (λ (z : Server). AllAlike t.server z ks) (sym l.leaves)
          (alike-closed t.server l.mid j.at_server ks (alike-wrote before j.at_server m.e m.has l.next gone l.mid left.1 left.0 t.server ks m.alike))

-- ---- an end that closed

-- what a step does at an open end
pub open-steps : (y : Server) (h : Handle) (e : ServerEnd) (did : stepped.Stepped) (new : Server) → HasEnd y h e → stepped.Steps y h did new → StepsOpen y h e did new
open-steps y h e did new has steps = subst (λ (o : Option ServerCircuit). stepped.StepsAt y h o did new) has steps

handled-step : (y : Server) (h : Handle) (e : ServerEnd) (did : Effect) (new : Server) → HasEnd y h e → TellsEffect y h (step.Handled did) new → IsHandled y new h e did
handled-step y h e did new has tells =
    let s =
    subst (λ (o : Option ServerCircuit). (d : stepped.StepsAt y h o stepped.Handled new) × (did ≡ effect_due (message_at y h new o d) (action_at y h new o d))) has tells in
    record { next = s.0.0; gone = s.0.1; stays = s.0.2; reaches = s.0.3; tells = s.1 }

pub handled-here : (t : SteppingEnd) (before core : Server) (j : Joined) (ks : List Joined) (rs : List RecordSide) (a : Ahead) (did : Effect) (m : MayStep t before j ks rs a) → TellsEffect before t.at (step.Handled did) core → IsHandled before core j.at_server m.e did
handled-here t before core j ks rs a did m tells =
    handled-step before j.at_server m.e did core m.has (subst (λ (h : Handle). TellsEffect before h (step.Handled did) core) m.turn.here tells)

module _ (before core : Server) (j : Joined) (ks : List Joined) (rs : List RecordSide) (a : Ahead) (t : SteppingEnd) (m : MayStep t before j ks rs a) where
  -- a server as it was, but for an end that closed, did not write
  unwritten : core ≡ closed j.at_server before → wrote_in core t.applied a.write ≡ None
  unwritten is =
      let applied : core.applied ≡ t.applied = ap (λ (z : Server). z.applied) is ∙ sym m.turn.applied in
      ap (λ (b : Bool). if b then busies_in a.write else None) (le-ltb t.applied core.applied (omega (arith, applied)))

  none-some : (b : Bool) → (let n : Option Bool = None in n ≡ Some b) → ⊥
  none-some b e = cc

  -- Where the end closed the same subscriptions are at the ends and on the circuits,
  -- if its message wrote.
  pub closed-alike : (left : List ℕ) (cause : Why) → StepsOpen before j.at_server m.e (stepped.Closed cause left) core → (busies : Bool) → wrote_in core t.applied a.write ≡ Some busies → AllAlike t.server core ks
  closed-alike left why.OutOfMemory steps busies is = lacks-alike before core j ks rs a t m steps.1 _ (lacks-wrote before core j ks rs a t m steps.1) busies is
  closed-alike left why.Misaligned steps busies is = absurd (none-some busies (sym (unwritten steps.3) ∙ is))
  closed-alike left why.TooLarge steps busies is = absurd (none-some busies (sym (unwritten steps.3) ∙ is))
  closed-alike left why.Silence steps busies is = absurd (none-some busies (sym (unwritten steps.3) ∙ is))
  closed-alike left why.Asked steps busies is = absurd (none-some busies (sym (unwritten steps.3) ∙ is))
  closed-alike left why.Cut steps busies is = absurd (none-some busies (sym (unwritten steps.3) ∙ is))

-- ---- an end that closed, by what is told of it

module _ (t : SteppingEnd) (before : Server) (j : Joined) (y : Side) (ks : List Joined) (at : At ks t.circuit j) (a : Ahead) (m : MayStep t before j ks (map record_of y.records.items) a) (wrote : Option Bool) (left : List ℕ) (logs : List (List Entry)) (y' : Side) (ks' : List Joined) (logs' : List (List Entry))
    (closes : ClosesWith t.circuit t.server t.at (length j.lists.handled) wrote a.write left y ks logs y' ks' logs') where
  abbrev begun : ServerSide
  begun = record (server_of y) { core = before }

  -- out of memory
  closed-lacks : left ≡ m.e.link.output → (l : LacksMemory before j.at_server m.e y.core) → wrote ≡ left_written l.written l.next.action → LacksAt t.circuit j begun ks logs (server_of y') ks' logs'
  closed-lacks left_is l is =
      lacks-at t.circuit t.server j m.mine before m.e m.has t.at m.turn.here left left_is y ks at logs y' ks' logs' l a (lacks-done before y.core j ks (map record_of y.records.items) a t m l) wrote is closes

  -- for another cause
  closed-breaks : (cause : Why) → cause ≢ why.OutOfMemory → StepsOpen before j.at_server m.e (stepped.Closed cause left) (closed j.at_server before) → y.core ≡ closed j.at_server before → wrote ≡ wrote_in y.core t.applied a.write → BreaksAt t.circuit j begun ks logs (server_of y') ks' logs'
  closed-breaks cause other steps core is = record {
    e = m.e;
    has = m.has;
    cause = cause;
    other = other;
    left = left;
    steps = steps;
    quits =
        subst (λ (f : Joined → Option (List ℕ)). Quits f (closed j.at_server before) begun begun.records ks logs (server_of y') ks' logs') (ends-closed j left j.server before)
        (subst (λ (z : Server). Quits (ends_here j left j.server z) z begun begun.records ks logs (server_of y') ks' logs') core
        (quits-none t.circuit j before m.e m.has left (server_of y) ks at logs (server_of y') ks' logs' reports));
  }
    where
      p : PutPlace
      p = record { circuit = t.circuit; place = length j.lists.handled }

      told : TellsWrite t.server p None a.write y ks logs closes.mid closes.circuits closes.told
      told = subst (λ (o : Option Bool). TellsWrite t.server p o a.write y ks logs closes.mid closes.circuits closes.told) (is ∙ unwritten before y.core j ks (map record_of y.records.items) a t m core) closes.done

      reports : Left j.at_server left j.server (server_of y) ks logs (server_of y') ks' logs'
      reports =
          subst (λ (n : ℕ). Left j.at_server left n (server_of y) ks logs (server_of y') ks' logs') (sym m.mine)
          (subst (λ (g : Handle). Left g left t.server (server_of y) ks logs (server_of y') ks' logs') m.turn.here
          (left-of t.at left t.server y ks logs y' ks' logs'
          (subst (λ (z : Side × (List Joined × List (List Entry))). ReportsWith t.at left t.server z.0 z.1.0 z.1.1 y' ks' logs') (λ n. (told.0 n, (told.1 n, told.2 n))) closes.reports)))

  -- The end closed.
  pub closed-at : (cause : Why) → StepsOpen before j.at_server m.e (stepped.Closed cause left) y.core → wrote ≡ wrote_in y.core t.applied a.write → StepsAt t.circuit j begun ks logs (server_of y') ks' logs'
  closed-at why.OutOfMemory steps is = inr (inl (closed-lacks steps.0 steps.1 (is ∙ lacks-wrote before y.core j ks (map record_of y.records.items) a t m steps.1)))
  closed-at why.Misaligned steps is = inr (inr (inl (closed-breaks why.Misaligned (λ is. cc) (steps.0, steps.1, steps.2, refl) steps.3 is)))
  closed-at why.TooLarge steps is = inr (inr (inl (closed-breaks why.TooLarge (λ is. cc) (steps.0, steps.1, steps.2, refl) steps.3 is)))
  closed-at why.Silence steps is = inr (inr (inl (closed-breaks why.Silence (λ is. cc) (steps.0, steps.1, steps.2, refl) steps.3 is)))
  closed-at why.Asked steps is = inr (inr (inl (closed-breaks why.Asked (λ is. cc) (steps.0, steps.1, steps.2, refl) steps.3 is)))
  closed-at why.Cut steps is = inr (inr (inl (closed-breaks why.Cut (λ is. cc) (steps.0, steps.1, steps.2, refl) steps.3 is)))

-- The end took no message.
pub rests-at : (k : ℕ) (before : Server) (j : Joined) (y : ServerSide) (ks : List Joined) (logs : List (List Entry)) (e : ServerEnd) → HasEnd before j.at_server e → (full : Bool) → StepsOpen before j.at_server e (if full then stepped.OutputFull else stepped.NeedBytes) y.core
    → StepsAt k j (record y { core = before }) ks logs y ks logs
rests-at k before j y ks logs e has full steps = inr (inr (inr (go full steps)))
  where
    rests : (full : Bool) → StepsOpen before j.at_server e (if full then stepped.OutputFull else stepped.NeedBytes) before → y.core ≡ before → RestsAt j (record y { core = before }) ks logs y ks logs
    rests full steps same = record { e = e; has = has; full = full; steps = steps; side = ap (λ (z : Server). record y { core = z }) same; circuits = refl; logged = refl }

    go : (full : Bool) → StepsOpen before j.at_server e (if full then stepped.OutputFull else stepped.NeedBytes) y.core → RestsAt j (record y { core = before }) ks logs y ks logs
    go true steps = rests true (steps.0, refl) steps.1
    go false steps = rests false (steps.0, steps.1, steps.2, refl) steps.3
