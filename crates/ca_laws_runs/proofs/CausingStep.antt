-- A message that is handled: the channel that it creates is one of a record that is there, and the
-- subscription that it begins is on one.
use Rattle.std.proofs.Common.{◌≡◌, ℕ, ◌<◌, ◌≤◌, ◌⊎◌, inl, inr, List, [], length, Option, Some, None, refl, sym, ap, subst, ◌∙◌, arith}
use Rattle.std.specs.Prelude.{option_map, take}
use Rattle.ca_arena.specs.declared.handle.Handle.{Handle}
use Rattle.ca_ids.specs.Table.{held, under}
use Rattle.ca_ids.specs.Wire.{wire_of}
use Rattle.ca_model.proofs.Tables.{held-under}
use Rattle.ca_records.specs.Puts.{Record, record_named}
use Rattle.ca_text.specs.Command.{command_number}
use Rattle.ca_text.specs.declared.command.Command.TheVariants as command
use Rattle.ca_text.specs.Place.{At}
use Rattle.ca_text.proofs.Places.{At-mapped, At-within}
use Rattle.ca_wire.specs.Fields.{Fields}
use Rattle.ca_model.specs.Due.{Action, Adds, Due, KnownChannel, KnownRecord, Serves, fault_of_event, subscription_in}
use Rattle.ca_model.specs.History.{Entry, Reply, Sent, Step, Told}
use Rattle.ca_model.specs.Server.{OpenChannel, Server, ServerEnd, Subscription}
use Rattle.ca_model.specs.ServerSteps.{known_channel, known_record, knows}
use Rattle.ca_model.specs.Speech.{Clears, Creates, In, Is, name_in, sid_in}
use Rattle.ca_model.specs.Channels.{Created, Has, IsOpen, before}
use Rattle.ca_model.specs.ServerEvents.{about}
use Rattle.ca_model.specs.World.{Joined, RecordSide}
use Rattle.ca_laws_runs.specs.Created.{CreatedOn}
use Rattle.ca_laws_runs.specs.Creations.{CreationsOn}
use Rattle.ca_laws_runs.proofs.Created.{due-creates}
use Rattle.ca_laws_parts.proofs.Fresh.{due-adds}
use Rattle.ca_laws_parts.proofs.WritesLists.{At-take, take-whole}
use Rattle.ca_laws_runs.specs.Causing.{IsTaken, SourcesOn}
use Rattle.ca_laws_runs.specs.Known.{IsOrigin}
use Rattle.ca_laws_runs.proofs.Acting.{Extends, IsLonger, grown-back, longer-taken, taken-at, taken-back, taken-below}
use Rattle.ca_laws_runs.proofs.CausingKeeps.{Steady}

known-from : (o : Option Record) (k : KnownRecord) → option_map known_record o ≡ Some k → (cr : Record) × (o ≡ Some cr)
known-from None k is = absurd cc
known-from (Some cr) k is = (cr, refl)

module _ (log lg : List Entry) (rs : List RecordSide) (core : Server) (e : ServerEnd) (c d : Joined) (s : Sent) (replies : List Fields) (did : Action) (step : Step) (at_s : At c.lists.up (length c.lists.handled) s) (due : Due (knows core e) s.message replies did)
    (logged : step.logged ≡ length log) (sent : step.sent ≡ length c.lists.down) (at_step : At d.lists.handled (length c.lists.handled) step) (ext : Extends c.lists d.lists) (longer : IsLonger log lg) where
  abbrev place : ℕ
  place = length c.lists.handled

  log-is : take step.logged lg ≡ log
  log-is = longer-taken step.logged log lg longer (omega (arith, logged)) ∙ ap (λ (n : ℕ). take n log) logged ∙ take-whole log

  -- a channel is created
  pub made-here : ((name : List ℕ) (cr : Record) → record_named core.records name ≡ Some cr → (r : ℕ) × Has log r name)
      → (i sid : ℕ) (t : Told) → In (about place Reply replies) t → At d.lists.down i t → Creates t.message sid → (r : ℕ) × Created d.lists lg i t.place sid r
  made-here there i sid t new at creates =
      let x = At-mapped (λ (q : Fields). let z : Told = record { message = q; place = place; cause = Reply } in z) replies new.0 t new.1 in
      let made = due-creates (knows core e) s.message replies did due new.0 x.0 x.1 (subst (λ (z : Told). Is command.CreateChannel z.message) x.2 creates.0) in
      let cr = known-from (record_named core.records (name_in s.message)) made.1.known made.1.named in
      let has = there (name_in s.message) cr.0 cr.1 in
      let here : t.place ≡ place = ap (λ (z : Told). z.place) x.2 in (
        has.0,
        (
          t,
          s,
          step,
          at,
          refl,
          ap (λ (z : Told). z.cause) x.2,
          creates,
          subst (λ (n : ℕ). At d.lists.up n s) (sym here) (ext.up place s at_s),
          subst (λ (n : ℕ). At d.lists.handled n step) (sym here) at_step,
          subst (λ (l : List Entry). Has l has.0 (name_in s.message)) (sym log-is) has.1,
          (made.0, sym (ap (λ (z : Told). z.message.p1) x.2 ∙ made.4)),
        ),
      )

  -- ---- a subscription begins

  module _ (creations : CreationsOn c) (created : CreatedOn c) (causes : (i sid : ℕ) (t : Told) → At c.lists.down i t → Creates t.message sid → t.cause ≡ Reply) (steady : Steady log c.lists) (p : SourcesOn log c) where
    -- the channel that is open under a SID is, by the lists
    pub open-here : (sid : ℕ) (o : (ch : OpenChannel) × IsOrigin log rs c sid ch) → (i l r : ℕ) × IsOpen (before d.lists place step) (take step.logged lg) i l sid r
    open-here sid (ch, o) = (
      u.0,
      o.x.place,
      m.0,
      (
        (
          m.1.0,
          m.1.1,
          m.1.2,
          taken-at step.sent d.lists.down u.0 m.1.0 (let lt : u.0 < length c.lists.down = At-within c.lists.down u.0 u.1 u.2 in omega (arith, lt, sent)) (ext.down u.0 m.1.0 m.1.3),
          m.1.4 ∙ u.3,
          m.1.5,
          (m.1.6.0, m.1.6.1 ∙ o.under_sid),
          taken-at place d.lists.up o.x.place m.1.1 early (ext.up o.x.place m.1.1 (subst (λ (n : ℕ). At c.lists.up n m.1.1) u.3 m.1.7)),
          taken-at place d.lists.handled o.x.place m.1.2 early (ext.handled o.x.place m.1.2 (subst (λ (n : ℕ). At c.lists.handled n m.1.2) u.3 m.1.8)),
          subst (λ (l : List Entry). Has (take (m.1.2).logged l) m.0 (name_in (m.1.1).message)) (sym log-is) m.1.9,
          m.1.10,
        ),
        later,
        cleared,
      ),
    )
      where
        u : (i : ℕ) × (u : Told) × At c.lists.down i u × (u.place ≡ o.x.place) × (u.cause ≡ Reply) × Creates u.message o.x.sid
        u = creations.told o.x o.noted

        m : (r : ℕ) × Created c.lists log u.0 u.1.place o.x.sid r
        m = p.made u.0 o.x.sid u.1 u.2 u.4 u.5

        early : o.x.place < place
        early = (let lt : u.1.place < place = At-within c.lists.handled u.1.place m.1.2 m.1.8 in let is : u.1.place ≡ o.x.place = u.3 in omega (arith, lt, is))

        later : (i : ℕ) (t : Told) → u.0 < i → At (take step.sent d.lists.down) i t → Creates t.message sid → ⊥
        later i t lt at creates =
            let at_c : At c.lists.down i t = At-take step.sent c.lists.down i t (taken-back step.sent c.lists.down d.lists.down ext.down (omega (arith, sent)) i t at) in
            let w = created.apart u.0 i sid sid u.1 t lt u.2 at_c u.4 (causes i sid t at_c creates) (u.5.0, u.5.1 ∙ o.under_sid) creates refl in
            let cleared = w.1 in
            let after : u.1.place < cleared.0 = cleared.2 in
            let until : cleared.0 < t.place = cleared.3 in
            let handled : t.place < place = steady.below i t at_c in
            let is : u.1.place ≡ o.x.place = u.3 in
            creations.uncleared o.x cleared.0 cleared.1 o.noted (omega (arith, after, is)) (omega (arith, until, handled)) cleared.4 (cleared.5.0, cleared.5.1 ∙ sym o.under_sid)

        cleared : (l : ℕ) (q : Sent) → o.x.place < l → l < length (take place d.lists.handled) → At (take place d.lists.up) l q → Clears q.message sid → ⊥
        cleared l q lt within at clears =
            let below : l < place = taken-below place d.lists.up l q at in
            let few : place ≤ length c.lists.up = steady.few in
            creations.uncleared o.x l q o.noted lt below (grown-back c.lists.up d.lists.up ext.up l q (omega (arith, below, few)) (At-take place d.lists.up l q at)) (clears.0, clears.1 ∙ sym o.under_sid)

    pub taken-here : (sub : Subscription) → did ≡ Adds sub → ((g : Handle) (ch : OpenChannel) → under e.channels g ≡ Some ch → IsOrigin log rs c (wire_of g) ch)
        → ((j : ℕ) (t : Told) → At d.lists.down j t → t.place ≡ place → t.cause ≡ Reply → At c.lists.down j t ⊎ In (about place Reply replies) t) → IsTaken lg d.lists place
    taken-here sub is origins split = record {
      s = s;
      sent = ext.up place s at_s;
      asks = adds.0;
      h = step;
      handled = at_step;
      r = o.2;
      acted = (s, step, o.0, o.1, ext.up place s at_s, at_step, o.3);
      unrefused = λ j t at here reply. elim (split j t at here reply) [
        | inl old ↦ (let lt : t.place < place = steady.below j t old in absurd (omega (arith, lt, here)))
        | inr new ↦ none (subst (λ (ms : List Fields). In (about place Reply ms) t) adds.1.2 new)
      ];
    }
      where
        adds : (s.message.command ≡ command_number command.EventAdd) × ((k : Serves (knows core e) s.message.p1) × (fault_of_event (knows core e) s.message k ≡ None) × (replies ≡ []) × (Adds sub ≡ Adds (subscription_in s.message k.channel.name)))
        adds = due-adds (knows core e) s.message replies sub (subst (λ (a : Action). Due (knows core e) s.message replies a) is due)

        serves : Serves (knows core e) s.message.p1
        serves = adds.1.0

        opened : (x : Handle × OpenChannel) × At (held e.channels) serves.open_there.0 x × (serves.channel ≡ known_channel x)
        opened = At-mapped known_channel (held e.channels) serves.open_there.0 serves.channel serves.open_there.1

        wire-is : wire_of opened.0.0 ≡ sid_in s.message
        wire-is = ap (λ (k : KnownChannel). k.sid) (sym opened.2) ∙ serves.under

        o : (i l r : ℕ) × IsOpen (before d.lists place step) (take step.logged lg) i l (sid_in s.message) r
        o = open-here (sid_in s.message) (opened.0.1, subst (λ (n : ℕ). IsOrigin log rs c n opened.0.1) wire-is (origins opened.0.0 opened.0.1 (held-under e.channels serves.open_there.0 opened.0 opened.1)))

        none : {t : Told} → In (about place Reply []) t → ⊥
        none (i, at) = cc
