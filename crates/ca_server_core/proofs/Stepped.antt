-- A step of a server, from what it made of one circuit.
use Rattle.std.proofs.Common.{◌≡◌, ℕ, suc, ◌+◌, ◌≤◌, inl, inr, Bool, true, false, List, [], ◌∷◌, length, Option, Some, None, refl, sym, ap, ◌∙◌, subst}
use Rattle.std.specs.Prelude.{option_map, if◌then◌else◌}
use Rattle.ca_arena.specs.declared.handle.Handle.{Handle}
use Rattle.ca_arena.specs.Arena.{Place}
use Rattle.ca_beacon.specs.Clock.{Clock}
use Rattle.ca_ids.specs.Table.{Table, under, with_changed, with_each_from, with_freed}
use Rattle.ca_records.specs.declared.puts.Put.{Put}
use Rattle.ca_records.specs.Puts.{Record, withdrawn}
use Rattle.ca_records.specs.Store.{Store, records_of}
use Rattle.ca_text.specs.declared.refusal.Refusal.TheVariants as refusal
use Rattle.ca_text.specs.Limits.{arena_slots}
use Rattle.ca_text.specs.Place.{At}
use Rattle.ca_text.proofs.Places.{some_is}
use Rattle.ca_wire.specs.Fields.{Fields}
use Rattle.ca_model.specs.Due.{Action, Adds, Applies, Clears, Drops, Due, Greets, Names, Nothing, Opens, Switches, Waits}
use Rattle.ca_model.specs.Ends as why
use Rattle.ca_model.specs.Server.{Ended, Open, Server, ServerCircuit, ServerEnd}
use Rattle.ca_model.specs.ServerSteps.{Handles, LacksMemory, Next, Records, Stepped, Steps, StepsAt, StepsOpen, closed, is_write, reached, with_end}
use Rattle.ca_model.specs.ServerSteps as steps
use Rattle.ca_server_circuit.specs.declared.cause.EndCause.{EndCause}
use Rattle.ca_server_circuit.specs.declared.cause.EndCause.TheVariants as cause
use Rattle.ca_server_circuit.specs.declared.step.EndStep.TheVariants as step
use Rattle.ca_server_core.specs.declared.stepping.CoreStep.{CoreStep}
use Rattle.ca_server_circuit.specs.declared.effect.Effect.TheVariants as told
use Rattle.ca_server_core.specs.declared.stepping.CoreStep.TheVariants as own
use Rattle.ca_server_circuit.specs.declared.step.FollowUp.{FollowUp}
use Rattle.ca_server_circuit.specs.Circuits.{is_open}
use Rattle.ca_server_circuit.specs.Ending.{KeepsPlaces, WithdrawsAll}
use Rattle.ca_server_circuit.specs.Handling.{Does, Recorded, Tells, is_wrote, known, replied}
use Rattle.ca_server_circuit.specs.Serving.{CircuitSteps}
use Rattle.ca_server_core.specs.Following.{IsSettled, Settles}
use Rattle.ca_server_core.specs.Serving.{IsReport, Reports, StepsIn, more_applied, stepped}
use Rattle.ca_server_circuit.specs.Sound.{EndIsSound}
use Rattle.ca_server_core.specs.Sound.{IsSound}
use Rattle.ca_dbr.specs.Octets.{AreBytes}
use Rattle.ca_server_circuit.specs.Stepping.{BreaksBy, EndSteps, Takes, after_first, why_is}
use Rattle.ca_server_circuit.specs.Subscribing.{events_of}
use Rattle.ca_server_subscriptions.specs.Subscribed.{HasRoom}
use Rattle.ca_server_circuit.proofs.Cleared.{none-of}
use Rattle.ca_server_core.proofs.Closing.{none-waits, not-ended, sound-freed, sound-handled}
use Rattle.ca_server_circuit.proofs.Could.{could}
use Rattle.ca_dbr.proofs.LongBytes.{are-back, are-front}
use Rattle.ca_server_core.proofs.Servers.{became, freed-changed, freed-nothing, made_of, same-parts, server_of, stayed}
use Rattle.ca_server_circuit.proofs.Tables.{changed-own}
use Rattle.ca_server_circuit.proofs.Walking.{keeps-same}

-- ---- nothing changes

-- a table in which nothing changes
pub each-same : (f : Handle → ServerCircuit → ServerCircuit) (n : ℕ) (t : Table ServerCircuit) → ((i : ℕ) (p : Place ServerCircuit) (c : ServerCircuit) → At t i p → p.value ≡ Some c → (h : Handle) → f h c ≡ c) → with_each_from n f t ≡ t
each-same f n [] same = refl
each-same f n (p ∷ t) same =
    ap (λ (o : Option ServerCircuit). let q : Place ServerCircuit = record { generation = p.generation; value = o } in q ∷ with_each_from (n + 1) f t) (by p.value (λ c is. same 0 p c refl is (record { index = n; generation = p.generation })))
    ∙ ap (λ (u : Table ServerCircuit). p ∷ u) (each-same f (n + 1) t (λ i q c at is h. same (suc i) q c at is h))
  where
    by : (o : Option ServerCircuit) → ((c : ServerCircuit) → o ≡ Some c → f (record { index = n; generation = p.generation }) c ≡ c) → option_map (f (record { index = n; generation = p.generation })) o ≡ o
    by None h = refl
    by (Some c) h = ap (λ (x : ServerCircuit). Some x) (h c refl)

-- no put is taken out
pub none-gone : (rs : List Record) → withdrawn (λ (p : Put). false) rs ≡ rs
none-gone rs = sym (none-of (λ (p : Put). false) rs (λ i k q w at at'. refl))

pub none-wrote : {A : Type 0} (gone : Handle → Bool) → (let none : Option (Handle → Bool) = None in none ≡ Some gone) → A
none-wrote gone is = absurd cc

module _ (port now n : ℕ) (b : Clock) where
  -- whether a write was applied
  wrote-is : (m : Fields) (a : Action) (did : FollowUp) (u : Store) → Tells m a did u → is_wrote did ≡ is_write a
  wrote-is m (Applies name value busies) did u is = ap is_wrote is.2
  wrote-is m (Adds x) did u is = ap is_wrote is.2
  wrote-is m Nothing did u is = ap is_wrote is
  wrote-is m Greets did u is = ap is_wrote is
  wrote-is m (Names p) did u is = ap is_wrote is
  wrote-is m (Opens c) did u is = ap is_wrote is.2
  wrote-is m (Clears sid) did u is = ap is_wrote is
  wrote-is m (Waits name value) did u is = ap is_wrote is
  wrote-is m (Drops k) did u is = ap is_wrote is
  wrote-is m (Switches on) did u is = ap is_wrote is

  -- what a message makes of the records makes it of the server
  records-of : (s : Store) (t : Table ServerCircuit) (h : Handle) (e : ServerEnd) (m : Fields) (a : Action) (rs : List Record) → Recorded (records_of s) s.stamp h e m a rs
      → Records (server_of port s now t b n) h e m a (made_of port s.rules rs s.stamp now t b (more_applied (is_write a) n))
  records-of s t h e m (Applies name value false) rs is = ap (λ (x : List Record). made_of port s.rules x s.stamp now t b (more_applied true n)) is
  records-of s t h e m (Applies name value true) rs is = (is.0, is.1, ap (λ (x : List Record). made_of port s.rules x s.stamp now t b (more_applied true n)) is.2)
  records-of s t h e m (Waits name value) rs is = (is.0, is.1, ap (λ (x : List Record). made_of port s.rules x s.stamp now t b n) is.2)
  records-of s t h e m (Clears sid) rs is = ap (λ (x : List Record). made_of port s.rules x s.stamp now t b n) is
  records-of s t h e m Nothing rs is = ap (λ (x : List Record). made_of port s.rules x s.stamp now t b n) is
  records-of s t h e m Greets rs is = ap (λ (x : List Record). made_of port s.rules x s.stamp now t b n) is
  records-of s t h e m (Names p) rs is = ap (λ (x : List Record). made_of port s.rules x s.stamp now t b n) is
  records-of s t h e m (Opens c) rs is = ap (λ (x : List Record). made_of port s.rules x s.stamp now t b n) is
  records-of s t h e m (Adds x) rs is = ap (λ (x : List Record). made_of port s.rules x s.stamp now t b n) is
  records-of s t h e m (Drops k) rs is = ap (λ (x : List Record). made_of port s.rules x s.stamp now t b n) is
  records-of s t h e m (Switches on) rs is = ap (λ (x : List Record). made_of port s.rules x s.stamp now t b n) is

  -- what an end did is what its server did
  handles-of : (s u : Store) (t after : Table ServerCircuit) (h : Handle) (e : ServerEnd) (m : Fields) (did : FollowUp) (new : ServerEnd) (d : Does (Due (known port s e) m) s h e m did u new) → after ≡ with_changed (λ (x : ServerCircuit). Open new) h t
      → Handles (server_of port s now t b n) h e m d.replies d.action (server_of port u now after b (more_applied (is_wrote did) n))
  handles-of s u t after h e m did new d changed = record {
    due = d.due;
    acted = d.acted;
    acts = d.acts (server_of port s now t b n) refl;
    recorded = made_of port s.rules (records_of u) s.stamp now t b (more_applied (is_write d.action) n);
    records = records-of s t h e m d.action (records_of u) d.records;
    leaves = same-parts port now b u.rules s.rules (records_of u) (records_of u) u.stamp s.stamp after _ (more_applied (is_wrote did) n) (more_applied (is_write d.action) n) d.rules refl d.stamp
        (changed ∙ ap (λ (x : ServerEnd). with_changed (λ (z : ServerCircuit). Open x) h t) d.leaves) (ap (λ (w : Bool). more_applied w n) (wrote-is m d.action did u d.tells));
  }

  -- an end that its first message is taken from
  first-sound : (rs : List Record) (h : Handle) (e : ServerEnd) (x : Takes e) → EndIsSound rs h e → EndIsSound rs h (after_first x)
  first-sound rs h e x i = record {
    live = i.live;
    room = i.room;
    served = i.served;
    puts = i.puts;
    few = i.few;
    on = i.on;
  }

  pub step-at : (y : Server) (h : Handle) (c : ServerCircuit) (did : Stepped) (new : Server) → under y.circuits h ≡ Some c → StepsAt y h (Some c) did new → Steps y h did new
  step-at y h c did new there is = subst (λ (o : Option ServerCircuit). StepsAt y h o did new) (sym there) is

  -- ---- a message was handled

  -- the circuits after a message was handled are sound
  handled-sound : (s u : Store) (t after : Table ServerCircuit) (h : Handle) (e new : ServerEnd) (did : FollowUp) → under t h ≡ Some (Open e) → EndSteps port h e s (step.Handled did) new u → HasRoom (events_of new) → length new.channels ≤ arena_slots → after ≡ with_changed (λ (x : ServerCircuit). Open new) h t → IsSound (records_of s) t → IsSound (records_of u) after
  handled-sound s u t after h e new did there x room few changed i =
      subst (λ (z : Table ServerCircuit). IsSound (records_of u) z) (sym changed)
      (sound-handled (server_of port s now t b n) s u h e (after_first x.0) x.0.m did (Due (known port s (after_first x.0)) x.0.m) new t refl i there (first-sound (records_of s) h e x.0 (i.ends h e there)) x.1 room few)

  -- the next message, whose write has not reached the subscriptions yet
  pub handled-next : (s u : Store) (t after : Table ServerCircuit) (h : Handle) (e new : ServerEnd) (did : FollowUp) (d : EndSteps port h e s (step.Handled did) new u) → after ≡ with_changed (λ (x : ServerCircuit). Open new) h t
      → (next : Next (server_of port s now t b n) h e) × (next.after ≡ server_of port u now after b (more_applied (is_wrote did) n)) × (next.action ≡ d.1.action) × (next.m ≡ d.0.m)
  handled-next s u t after h e new did (x, d) changed = (
    record {
      room = x.room;
      m = x.m;
      rest = x.rest;
      takes = x.takes;
      replies = d.replies;
      action = d.action;
      after = server_of port u now after b (more_applied (is_wrote did) n);
      handles = handles-of s u t after h (after_first x) x.m did new d changed;
    },
    refl,
    refl,
    refl,
  )

  -- ---- nothing was done

  same-server : (s u : Store) (t after : Table ServerCircuit) → u ≡ s → after ≡ t → server_of port u now after b n ≡ server_of port s now t b n
  same-server s u t after su ta = ap (λ (x : Store). server_of port x now after b n) su ∙ ap (λ (x : Table ServerCircuit). server_of port s now x b n) ta

  -- ---- an end closes

  -- the server without the circuit and its puts
  closed-is : (s u : Store) (t last : Table ServerCircuit) (h : Handle) → WithdrawsAll h s u → last ≡ with_freed h t → server_of port u now last b n ≡ closed h (server_of port s now t b n)
  closed-is s u t last h w freed = same-parts port now b u.rules s.rules (records_of u) _ u.stamp s.stamp last _ n n w.rules w.records w.stamp freed refl

  -- the payload of the first message is bytes
  payload-bytes : (e : ServerEnd) (x : Takes e) → AreBytes e.link.input.bytes → AreBytes x.m.payload
  payload-bytes e x are =
      let front = are-front x.takes.0 x.rest (subst AreBytes x.takes.2 are) in
      are-back x.takes.1.head x.m.payload (subst AreBytes x.takes.1.are front)

  lacks : (s : Store) (t : Table ServerCircuit) (h : Handle) (e : ServerEnd) (new : Server) → EndIsSound (records_of s) h e → BreaksBy port s e cause.OutOfMemory → new ≡ closed h (server_of port s now t b n) → LacksMemory (server_of port s now t b n) h e new
  lacks s t h e new i did is =
      let x = did.0 in
      let y : Server = server_of port s now t b n in
      let c = could port s h (after_first x) x.m (first-sound (records_of s) h e x i) (payload-bytes e x did.1) in
      let next : Next y h e = record {
        room = x.room;
        m = x.m;
        rest = x.rest;
        takes = x.takes;
        replies = c.replies;
        action = c.action;
        after = with_end h (replied c.replies c.acted) (made_of port s.rules c.after s.stamp now t b (more_applied (is_write c.action) n));
        handles = record {
          due = c.due;
          acted = c.acted;
          acts = c.acts y refl;
          recorded = made_of port s.rules c.after s.stamp now t b (more_applied (is_write c.action) n);
          records = records-of s t h (after_first x) x.m c.action c.after c.records;
          leaves = refl;
        };
      } in
      record {
        next = next;
        needs = did.2 c.replies c.action c.due;
        written = None;
        itself = λ gone wrote. none-wrote gone wrote;
        mid = y;
        left_is = refl;
        leaves = is;
      }

  breaks-steps : (s : Store) (t : Table ServerCircuit) (h : Handle) (e : ServerEnd) (c : EndCause) (new : Server) → EndIsSound (records_of s) h e → BreaksBy port s e c → new ≡ closed h (server_of port s now t b n) → StepsOpen (server_of port s now t b n) h e (steps.Closed (why_is c) e.link.output) new
  breaks-steps s t h e cause.OutOfMemory new i did is = (refl, lacks s t h e new i did is)
  breaks-steps s t h e cause.Misaligned new i did is = (did.0, (refusal.Misaligned, did.1, refl), refl, is)
  breaks-steps s t h e cause.TooLarge new i did is = (did.0, (refusal.TooLarge, did.1, refl), refl, is)
  breaks-steps s t h e cause.Cut new i did is = absurd did

-- ---- by what the step of one circuit did

pub not-some : {A B : Type 0} (d : A) → (let none : Option A = None in Some d ≡ none) → B
not-some d e = absurd cc

pub step-sound : (port : ℕ) (s u : Store) (t after : Table ServerCircuit) (h : Handle) (did : FollowUp) → StepsIn port t h s (Some (step.Handled did)) after u → IsSound (records_of s) t → IsSound (records_of u) after
step-sound port s u t after h did (inr none) i = not-some (step.Handled did) none.1
step-sound port s u t after h did (inl g) i = by g.0 g.1 g.2 g.3 g.4
  where
    by : (c new : ServerCircuit) → under t h ≡ Some c → CircuitSteps port h c s (Some (step.Handled did)) new u → after ≡ with_changed (λ (x : ServerCircuit). new) h t → IsSound (records_of u) after
    by (Open e) new there d changed =
        handled-sound port 0 0 (record { number = 0; wait = 0; due = 0 }) s u t after h e d.0 did there d.1 d.2 d.3 (became t after h new (Open d.0) changed d.4) i
    by (Ended w left) new there d changed = not-some (step.Handled did) d.0

-- the end of a circuit that handled a message is open, so that nothing is to be taken out
pub handled-open : (port : ℕ) (s u : Store) (t after : Table ServerCircuit) (h : Handle) (did : FollowUp) → StepsIn port t h s (Some (step.Handled did)) after u → is_open (under after h) ≡ true
handled-open port s u t after h did (inr none) = not-some (step.Handled did) none.1
handled-open port s u t after h did (inl g) = by g.0 g.1 g.2 g.3 g.4
  where
    by : (c new : ServerCircuit) → under t h ≡ Some c → CircuitSteps port h c s (Some (step.Handled did)) new u → after ≡ with_changed (λ (x : ServerCircuit). new) h t → is_open (under after h) ≡ true
    by (Open e) new there d changed =
        ap (λ (z : Table ServerCircuit). is_open (under z h)) (became t after h new (Open d.0) changed d.4) ∙ ap is_open (changed-own (λ (z : ServerCircuit). Open d.0) t h (Open e) there)
    by (Ended w left) new there d changed = not-some (step.Handled did) d.0

pub handled-settles : (port : ℕ) (s u : Store) (t after : Table ServerCircuit) (h : Handle) (did : FollowUp) (waited : ℕ) → StepsIn port t h s (Some (step.Handled did)) after u → Settles after h waited (own.Handled told.Quiet) after
handled-settles port s u t after h did waited (inr none) = not-some (step.Handled did) none.1
handled-settles port s u t after h did waited (inl g) = by g.0 g.1 g.2 g.3 g.4
  where
    by : (c new : ServerCircuit) → under t h ≡ Some c → CircuitSteps port h c s (Some (step.Handled did)) new u → after ≡ with_changed (λ (x : ServerCircuit). new) h t → Settles after h waited (own.Handled told.Quiet) after
    by (Open e) new there d changed =
        let found : under after h ≡ Some (Open d.0) = ap (λ (z : Table ServerCircuit). under z h) (became t after h new (Open d.0) changed d.4) ∙ changed-own (λ (z : ServerCircuit). Open d.0) t h (Open e) there in
        subst (λ (o : Option ServerCircuit). IsSettled o waited (own.Handled told.Quiet) × (after ≡ (if is_open o then after else with_freed h after))) (sym found) (refl, refl)
    by (Ended w left) new there d changed = not-some (step.Handled did) d.0

-- a step that finds nothing to do leaves all as it was
pub idle-same : (port : ℕ) (s u : Store) (t after : Table ServerCircuit) (h : Handle) → StepsIn port t h s (Some step.NeedBytes) after u → (u ≡ s) × (after ≡ t)
idle-same port s u t after h (inr none) = not-some step.NeedBytes none.1
idle-same port s u t after h (inl g) = by g.0 g.1 g.2 g.3 g.4
  where
    by : (c new : ServerCircuit) → under t h ≡ Some c → CircuitSteps port h c s (Some step.NeedBytes) new u → after ≡ with_changed (λ (x : ServerCircuit). new) h t → (u ≡ s) × (after ≡ t)
    by (Open e) new there did changed = (did.1.4, stayed t after h new (Open e) there changed (did.4 ∙ ap (λ (x : ServerEnd). Open x) did.1.3))
    by (Ended w left) new there did changed = not-some step.NeedBytes did.0

pub full-same : (port : ℕ) (s u : Store) (t after : Table ServerCircuit) (h : Handle) → StepsIn port t h s (Some step.OutputFull) after u → (u ≡ s) × (after ≡ t)
full-same port s u t after h (inr none) = not-some step.OutputFull none.1
full-same port s u t after h (inl g) = by g.0 g.1 g.2 g.3 g.4
  where
    by : (c new : ServerCircuit) → under t h ≡ Some c → CircuitSteps port h c s (Some step.OutputFull) new u → after ≡ with_changed (λ (x : ServerCircuit). new) h t → (u ≡ s) × (after ≡ t)
    by (Open e) new there did changed = (did.1.2, stayed t after h new (Open e) there changed (did.4 ∙ ap (λ (x : ServerEnd). Open x) did.1.1))
    by (Ended w left) new there did changed = not-some step.OutputFull did.0

pub still-sound : (s u : Store) (t after : Table ServerCircuit) → (u ≡ s) × (after ≡ t) → IsSound (records_of s) t → IsSound (records_of u) after
still-sound s u t after e i = subst (λ (x : Table ServerCircuit). IsSound (records_of u) x) (sym e.1) (subst (λ (x : Store). IsSound (records_of x) t) (sym e.0) i)

-- ---- an end that broke is reported

report-at : (t : Table ServerCircuit) (h : Handle) (c : ServerCircuit) (did : Stepped) → under t h ≡ Some c → IsReport (under t h) did → IsReport (Some c) did
report-at t h c did there is = subst (λ (o : Option ServerCircuit). IsReport o did) there is

pub broke-sound : (port : ℕ) (s u : Store) (t after last : Table ServerCircuit) (h : Handle) (c : EndCause) (did : CoreStep) → StepsIn port t h s (Some (step.Breaks c)) after u → Reports after h did last → IsSound (records_of s) t → IsSound (records_of u) last
broke-sound port s u t after last h c did (inr none) r i = not-some (step.Breaks c) none.1
broke-sound port s u t after last h c did (inl g) r i = by g.0 g.1 g.2 g.3 g.4
  where
    by : (x new : ServerCircuit) → under t h ≡ Some x → CircuitSteps port h x s (Some (step.Breaks c)) new u → after ≡ with_changed (λ (z : ServerCircuit). new) h t → IsSound (records_of u) last
    by (Open e) new there broke changed =
        let gone : last ≡ with_freed h t = r.1 ∙ ap (λ (z : Table ServerCircuit). with_freed h z) changed ∙ freed-changed t h (Open e) new there in
        subst (λ (z : Table ServerCircuit). IsSound (records_of u) z) (sym gone) (subst (λ (rs : List Record). IsSound rs (with_freed h t)) (sym broke.2.records) (sound-freed (records_of s) t h i))
    by (Ended w left) new there broke changed = not-some (step.Breaks c) broke.0

pub steps-broke : (port now n : ℕ) (b : Clock) (s u : Store) (t after last : Table ServerCircuit) (h : Handle) (c : EndCause) (did : CoreStep) → StepsIn port t h s (Some (step.Breaks c)) after u → Reports after h did last → IsSound (records_of s) t → Steps (server_of port s now t b n) h (stepped did) (server_of port u now last b n)
steps-broke port now n b s u t after last h c did (inr none) r i = not-some (step.Breaks c) none.1
steps-broke port now n b s u t after last h c did (inl g) r i = by g.0 g.1 g.2 g.3 g.4
  where
    by : (x new : ServerCircuit) → under t h ≡ Some x → CircuitSteps port h x s (Some (step.Breaks c)) new u → after ≡ with_changed (λ (z : ServerCircuit). new) h t → Steps (server_of port s now t b n) h (stepped did) (server_of port u now last b n)
    by (Open e) new there broke changed =
        let gone : last ≡ with_freed h t = r.1 ∙ ap (λ (z : Table ServerCircuit). with_freed h z) changed ∙ freed-changed t h (Open e) new there in
        let now_ended = became t after h new (Ended (why_is c) e.link.output) changed broke.1 in
        let found : under after h ≡ Some (Ended (why_is c) e.link.output) = ap (λ (z : Table ServerCircuit). under z h) now_ended ∙ changed-own (λ (z : ServerCircuit). Ended (why_is c) e.link.output) t h (Open e) there in
        let report : stepped did ≡ steps.Closed (why_is c) e.link.output = report-at after h (Ended (why_is c) e.link.output) (stepped did) found r.0 in
        let whole = closed-is port now n b s u t last h broke.2 gone in
        let closes = breaks-steps port now n b s t h e c (server_of port u now last b n) (i.ends h e there) broke.0 whole in
        subst (λ (z : Stepped). Steps (server_of port s now t b n) h z (server_of port u now last b n)) (sym report)
        (step-at port now n b (server_of port s now t b n) h (Open e) (steps.Closed (why_is c) e.link.output) (server_of port u now last b n) there closes)
    by (Ended w left) new there broke changed = not-some (step.Breaks c) broke.0

-- ---- an end that had ended is reported

pub none-sound : (port : ℕ) (s u : Store) (t after last : Table ServerCircuit) (h : Handle) (did : CoreStep) → StepsIn port t h s None after u → Reports after h did last → IsSound (records_of s) t → IsSound (records_of u) last
none-sound port s u t after last h did (inr none) r i =
    let gone : last ≡ t = r.1 ∙ ap (λ (z : Table ServerCircuit). with_freed h z) none.2 ∙ freed-nothing t h none.0 in
    still-sound s u t last (none.3, gone) i
none-sound port s u t after last h did (inl g) r i = by g.0 g.1 g.2 g.3 g.4
  where
    by : (x new : ServerCircuit) → under t h ≡ Some x → CircuitSteps port h x s None new u → after ≡ with_changed (λ (z : ServerCircuit). new) h t → IsSound (records_of u) last
    by (Open e) new there was changed = absurd was
    by (Ended w left) new there was changed =
        let gone : last ≡ with_freed h t = r.1 ∙ ap (λ (z : Table ServerCircuit). with_freed h z) (stayed t after h new (Ended w left) there changed was.1) in
        let clear = none-waits (records_of s) t h i (λ e at. not-ended e w left (some_is (Open e) (Ended w left) (sym at ∙ there))) in
        subst (λ (z : Table ServerCircuit). IsSound (records_of u) z) (sym gone)
        (subst (λ (z : Store). IsSound (records_of z) (with_freed h t)) (sym was.2) (subst (λ (rs : List Record). IsSound rs (with_freed h t)) clear (sound-freed (records_of s) t h i)))

pub steps-none : (port now n : ℕ) (b : Clock) (s u : Store) (t after last : Table ServerCircuit) (h : Handle) (did : CoreStep) → StepsIn port t h s None after u → Reports after h did last → IsSound (records_of s) t → Steps (server_of port s now t b n) h (stepped did) (server_of port u now last b n)
steps-none port now n b s u t after last h did (inr none) r i =
    let gone : last ≡ t = r.1 ∙ ap (λ (z : Table ServerCircuit). with_freed h z) none.2 ∙ freed-nothing t h none.0 in
    let report : stepped did ≡ steps.Closed why.Cut [] = subst (λ (o : Option ServerCircuit). IsReport o (stepped did)) (ap (λ (z : Table ServerCircuit). under z h) none.2 ∙ none.0) r.0 in
    subst (λ (o : Option ServerCircuit). StepsAt (server_of port s now t b n) h o (stepped did) (server_of port u now last b n)) (sym none.0)
    (report, same-server port now n b s u t last none.3 gone)
steps-none port now n b s u t after last h did (inl g) r i = by g.0 g.1 g.2 g.3 g.4
  where
    by : (x new : ServerCircuit) → under t h ≡ Some x → CircuitSteps port h x s None new u → after ≡ with_changed (λ (z : ServerCircuit). new) h t → Steps (server_of port s now t b n) h (stepped did) (server_of port u now last b n)
    by (Open e) new there was changed = absurd was
    by (Ended w left) new there was changed =
        let stays = stayed t after h new (Ended w left) there changed was.1 in
        let gone : last ≡ with_freed h t = r.1 ∙ ap (λ (z : Table ServerCircuit). with_freed h z) stays in
        let found : under after h ≡ Some (Ended w left) = ap (λ (z : Table ServerCircuit). under z h) stays ∙ there in
        let clear = none-waits (records_of s) t h i (λ e at. not-ended e w left (some_is (Open e) (Ended w left) (sym at ∙ there))) in
        let w_all : WithdrawsAll h s u = record {
          records = ap (λ (z : Store). records_of z) was.2 ∙ sym clear;
          rules = ap (λ (z : Store). z.rules) was.2;
          stamp = ap (λ (z : Store). z.stamp) was.2;
          places = subst (λ (z : Store). KeepsPlaces s z) (sym was.2) (keeps-same s);
        } in
        step-at port now n b (server_of port s now t b n) h (Ended w left) (stepped did) (server_of port u now last b n) there
        (report-at after h (Ended w left) (stepped did) found r.0, closed-is port now n b s u t last h w_all gone)

-- ---- the same along the view of the fields

pub viewed-broke : (y : Server) (port now n : ℕ) (b : Clock) (s u : Store) (t after last : Table ServerCircuit) (h : Handle) (c : EndCause) (did : CoreStep) → server_of port s now t b n ≡ y → StepsIn port t h s (Some (step.Breaks c)) after u → Reports after h did last → IsSound (records_of s) t → Steps y h (stepped did) (server_of port u now last b n)
viewed-broke y port now n b s u t after last h c did is g r i =
    subst (λ (x : Server). Steps x h (stepped did) (server_of port u now last b n)) is (steps-broke port now n b s u t after last h c did g r i)

pub viewed-none : (y : Server) (port now n : ℕ) (b : Clock) (s u : Store) (t after last : Table ServerCircuit) (h : Handle) (did : CoreStep) → server_of port s now t b n ≡ y → StepsIn port t h s None after u → Reports after h did last → IsSound (records_of s) t → Steps y h (stepped did) (server_of port u now last b n)
viewed-none y port now n b s u t after last h did is g r i =
    subst (λ (x : Server). Steps x h (stepped did) (server_of port u now last b n)) is (steps-none port now n b s u t after last h did g r i)
