-- Which record a step made busy.
use Rattle.std.proofs.Common.{◌≡◌, ℕ, ◌⊎◌, inl, inr, Bool, true, false, cond, List, [], map, Option, Some, None, Ok, refl, sym, ap, ◌∙◌, subst}
use Rattle.std.specs.Prelude.{is_some}
use Rattle.std.specs.Str.{bytes_eq}
use Rattle.std.proofs.lemmas.Slice.Eq.{bytes_eq-Decides}
use Rattle.ca_arena.specs.declared.handle.Handle.{Handle}
use Rattle.ca_beacon.specs.Clock.{Clock}
use Rattle.ca_ids.specs.Table.{Table, same_handle, under, with_changed, with_freed}
use Rattle.ca_records.specs.declared.puts.Finished.{Finished}
use Rattle.ca_records.specs.declared.puts.Put.{Put}
use Rattle.ca_records.specs.declared.puts.Stamp.{Stamp}
use Rattle.ca_records.specs.Puts.{Record, record_named, with_record, with_value, with_waiting, without_puts, withdrawn, written_meta}
use Rattle.ca_records.specs.Record.{RecordState}
use Rattle.ca_records.specs.Store.{Finds, HasAt, Store, records_of}
use Rattle.ca_records.specs.Writes as writes
use Rattle.ca_records.specs.Writes.{FinishesAt}
use Rattle.ca_text.proofs.Places.{At-mapped, some_is}
use Rattle.ca_wire.specs.Fields.{Fields}
use Rattle.ca_model.specs.Due.{Action, Adds, Applies, Clears, Drops, Greets, Names, Nothing, Opens, Switches, Waits}
use Rattle.ca_model.specs.Ends.{Why}
use Rattle.ca_model.specs.Ends as why
use Rattle.ca_model.specs.Server.{Ended, Open, Server, ServerCircuit, ServerEnd}
use Rattle.ca_model.specs.ServerSteps.{Stepped, Steps}
use Rattle.ca_model.specs.ServerSteps as steps
use Rattle.ca_model.specs.Speech.{In}
use Rattle.ca_server_circuit.specs.declared.cause.EndCause.{EndCause}
use Rattle.ca_server_circuit.specs.declared.step.FollowUp.{FollowUp}
use Rattle.ca_server_circuit.specs.declared.step.FollowUp.TheVariants as effect
use Rattle.ca_server_circuit.specs.declared.step.EndStep.TheVariants as step
use Rattle.ca_server_circuit.specs.Circuits.{is_open}
use Rattle.ca_server_circuit.specs.Ending.{EndsAt, KeepsPlaces}
use Rattle.ca_server_circuit.specs.Handling.{Recorded, Tells, is_wrote}
use Rattle.ca_server_circuit.specs.Serving.{CircuitSteps}
use Rattle.ca_server_circuit.specs.Stepping.{after_first, why_is}
use Rattle.ca_server_circuit.proofs.Tables.{changed-own, find-at, none-some}
use Rattle.ca_server_core.specs.Ending.{EndsIn}
use Rattle.ca_server_core.specs.Following.{Begins, Follows, IsSettled, Settles}
use Rattle.ca_server_core.specs.Noting.{BusyBut, EndsPutAt, IsBusy, LeadsTo, Notes, NotesAt, HandlesAndFinishes, ServesAndPumps, Tries, TriesAt, busy_name, was_handled, wrote_busy}
use Rattle.ca_server_core.specs.Finishing.{RepliesIn, effect_after}
use Rattle.ca_server_core.specs.Serving.{IsReport, Reports, StepsIn, more_applied, stepped}
use Rattle.ca_server_core.specs.declared.stepping.CoreStep.{CoreStep}
use Rattle.ca_server_circuit.specs.declared.effect.Effect.{Effect}
use Rattle.ca_server_circuit.specs.declared.effect.Effect.TheVariants as told
use Rattle.ca_server_core.specs.declared.stepping.CoreStep.TheVariants as own
use Rattle.ca_server_core.proofs.Followed.{HandledBy}
use Rattle.ca_server_core.proofs.Nexts.{viewed-finish}
use Rattle.ca_server_core.proofs.Reached.{there-is}
use Rattle.ca_server_core.proofs.Servers.{became, server_of, stayed}
use Rattle.ca_server_core.proofs.Stepped.{not-some}

abbrev Circuits : Type 0
Circuits = Table ServerCircuit

both-bools : (b : Bool) → b ≡ true → b ≡ false → ⊥
both-bools b t f = cc

-- each of the changed records is one that was there, changed
in-mapped : (f : Record → Record) (rs : List Record) (r : Record) → In (map f rs) r → (q : Record) × In rs q × (r ≡ f q)
in-mapped f rs r h = (let b = At-mapped f rs h.0 r h.1 in (b.0, (h.0, b.1), b.2))

named-in : (rs : List Record) (name : List ℕ) (r : Record) → record_named rs name ≡ Some r → In rs r × (r.state.name ≡ name)
named-in rs name r is = (let f = find-at (λ (x : Record). bytes_eq x.state.name name) rs r is in ((f.0, f.1), (bytes_eq-Decides r.state.name name).0 f.2))

-- ---- records that change

busy-same : (rs : List Record) (noted : Option (List ℕ)) → BusyBut rs rs noted
busy-same rs noted r i busy = inr (r, i, refl, busy)

busy-both : (rs mid new : List Record) (noted : Option (List ℕ)) → BusyBut rs mid noted → BusyBut mid new noted → BusyBut rs new noted
busy-both rs mid new noted first second r i busy = elim (second r i busy) [
  | inl own ↦ inl own
  | inr q ↦ elim (first q.0 q.1 q.3) [
    | inl own ↦ inl (own ∙ ap (λ (n : List ℕ). Some n) q.2)
    | inr p ↦ inr (p.0, p.1, p.2 ∙ q.2, p.3)
  ]
]

-- a change that leaves names, and who is busy
busy-mapped : (f : Record → Record) (rs : List Record) (noted : Option (List ℕ)) → ((q : Record) → (f q).state.name ≡ q.state.name) → ((q : Record) → (f q).busy ≡ q.busy) → BusyBut rs (map f rs) noted
busy-mapped f rs noted n b r i busy =
    let q = in-mapped f rs r i in
    inr (
      q.0,
      q.1,
      sym (ap (λ (z : Record). z.state.name) q.2 ∙ n q.0),
      ap (λ (o : Option Put). is_some o) (sym (ap (λ (z : Record). z.busy) q.2 ∙ b q.0)) ∙ busy,
    )

busy-withdrawn : (which : Put → Bool) (rs new : List Record) (noted : Option (List ℕ)) → new ≡ withdrawn which rs → BusyBut rs new noted
busy-withdrawn which rs new noted is = subst (λ (z : List Record). BusyBut rs z noted) (sym is) (busy-mapped (without_puts which) rs noted (λ q. refl) (λ q. refl))

-- the same of the record of a name
busy-with : (name : List ℕ) (f : Record → Record) (rs new : List Record) (noted : Option (List ℕ)) → ((q : Record) → (f q).state.name ≡ q.state.name) → ((q : Record) → (f q).busy ≡ q.busy) → new ≡ with_record name f rs → BusyBut rs new noted
busy-with name f rs new noted n b is =
    subst (λ (z : List Record). BusyBut rs z noted) (sym is)
    (busy-mapped (λ (r : Record). cond (bytes_eq r.state.name name) (f r) r) rs noted (λ q. names q (bytes_eq q.state.name name)) (λ q. busies q (bytes_eq q.state.name name)))
  where
    names : (q : Record) (t : Bool) → (cond t (f q) q).state.name ≡ q.state.name
    names q true = n q
    names q false = refl

    busies : (q : Record) (t : Bool) → (cond t (f q) q).busy ≡ q.busy
    busies q true = b q
    busies q false = refl

-- a put makes the record of a name busy
module _ (name : List ℕ) (f : Record → Record) (rs : List Record) (n : (q : Record) → (f q).state.name ≡ q.state.name) (p : Put) (b : (q : Record) → (f q).busy ≡ Some p) where
  made-busy : (r : Record) → In (with_record name f rs) r → r.state.name ≡ name → is_some r.busy ≡ true
  made-busy r i named =
      let q = in-mapped (λ (r : Record). cond (bytes_eq r.state.name name) (f r) r) rs r i in
      subst (λ (z : Record). z.state.name ≡ name → is_some z.busy ≡ true) (sym q.2) (go q.0 (bytes_eq q.0.state.name name) refl) named
    where
      go : (q : Record) (t : Bool) → bytes_eq q.state.name name ≡ t → (cond t (f q) q).state.name ≡ name → is_some (cond t (f q) q).busy ≡ true
      go q true e named = ap (λ (o : Option Put). is_some o) (b q)
      go q false e named = absurd (both-bools (bytes_eq q.state.name name) ((bytes_eq-Decides q.state.name name).1 named) e)

  busy-put : (noted : Option (List ℕ)) → noted ≡ Some name → BusyBut rs (with_record name f rs) noted
  busy-put noted is r i busy =
      let q = in-mapped (λ (r : Record). cond (bytes_eq r.state.name name) (f r) r) rs r i in
      elim (go q.0 (bytes_eq q.0.state.name name) refl) [
        | inl own ↦ inl (is ∙ ap (λ (m : List ℕ). Some m) (sym (ap (λ (z : Record). z.state.name) q.2 ∙ own)))
        | inr same ↦ inr (q.0, q.1, ap (λ (z : Record). z.state.name) (sym same ∙ sym q.2), ap (λ (z : Record). is_some z.busy) (sym same ∙ sym q.2) ∙ busy)
      ]
    where
      go : (q : Record) (t : Bool) → bytes_eq q.state.name name ≡ t → ((cond t (f q) q).state.name ≡ name) ⊎ (cond t (f q) q ≡ q)
      go q true e = inl (n q ∙ (bytes_eq-Decides q.state.name name).0 e)
      go q false e = inr refl

-- ---- what follows from a message

begun-busy : (h : Handle) (t last : Circuits) (u x : Store) (noted : Option (List ℕ)) → Begins h t u last x → BusyBut (records_of u) (records_of x) noted
begun-busy h t last u x noted f = by f
  where
    same : x ≡ u → BusyBut (records_of u) (records_of x) noted
    same is = subst (λ (z : Store). BusyBut (records_of u) (records_of z) noted) (sym is) (busy-same (records_of u) noted)

    on : (c new : ServerCircuit) → EndsAt h c u why.OutOfMemory new x → BusyBut (records_of u) (records_of x) noted
    on (Open e) new did = busy-withdrawn (λ (p : Put). same_handle p.circuit h) (records_of u) (records_of x) noted did.1.records
    on (Ended w left) new did = same did.1

    by : ((last ≡ t) × (x ≡ u)) ⊎ EndsIn t h u why.OutOfMemory last x → BusyBut (records_of u) (records_of x) noted
    by (inl is) = same is.1
    by (inr (inl g)) = on g.0 g.1 g.3
    by (inr (inr none)) = same none.2

followed-busy : (did : FollowUp) (h : Handle) (t last : Circuits) (u x : Store) (noted : Option (List ℕ)) → Follows did h t u last x → BusyBut (records_of u) (records_of x) noted
followed-busy (effect.Quiet said) h t last u x noted f = subst (λ (z : Store). BusyBut (records_of u) (records_of z) noted) (sym f.1) (busy-same (records_of u) noted)
followed-busy (effect.Wrote place busies sid) h t last u x noted f =
    busy-withdrawn (λ (p : Put). f.2.0 p.circuit) (records_of u) (records_of x) noted f.2.1.records
followed-busy (effect.Began place sid sub) h t last u x noted f = begun-busy h t last u x noted f
followed-busy (effect.Opened place sid) h t last u x noted f = begun-busy h t last u x noted f

-- what is noted is busy
noted-busy : (did : FollowUp) (x : Store) (noted : Option (List ℕ)) → NotesAt did x noted → IsBusy (records_of x) noted
noted-busy (effect.Quiet said) x noted n name is = absurd (none-some name (sym n ∙ is))
noted-busy (effect.Began place sid sub) x noted n name is = absurd (none-some name (sym n ∙ is))
noted-busy (effect.Opened place sid) x noted n name is = absurd (none-some name (sym n ∙ is))
noted-busy (effect.Wrote place busies sid) x noted n name is = by (is_some n.0.busy) refl (sym n.3 ∙ is)
  where
    by : (b : Bool) → is_some n.0.busy ≡ b → cond b (Some n.0.state.name) None ≡ Some name → (r : Record) × (record_named (records_of x) name ≡ Some r) × (is_some r.busy ≡ true)
    by true busy same = (n.0, ap (λ (m : List ℕ). record_named (records_of x) m) (sym (some_is n.0.state.name name same)) ∙ n.2, busy)
    by false free same = absurd (none-some name same)

-- the record that a put made busy is noted
wrote-noted : (name : List ℕ) (u x : Store) (which : Put → Bool) (place : ℕ) (busies : Bool) (sid : ℕ) (noted : Option (List ℕ)) → ((r : Record) → In (records_of u) r → r.state.name ≡ name → is_some r.busy ≡ true) → records_of x ≡ withdrawn which (records_of u) → KeepsPlaces u x
    → (was : Record) → HasAt u place was → was.state.name ≡ name → NotesAt (effect.Wrote place busies sid) x noted → noted ≡ Some name
wrote-noted name u x which place busies sid noted busy is places was at named n =
    let kept = places place was at in
    let r : Record = n.0 in
    let same : kept.0 ≡ r = there-is x place kept.0 r kept.1 n.1 in
    let name_is : r.state.name ≡ name = ap (λ (z : Record). z.state.name) (sym same) ∙ ap (λ (z : RecordState). z.name) kept.2 ∙ named in
    let there : In (records_of x) r = (named-in (records_of x) r.state.name r n.2).0 in
    let q = in-mapped (without_puts which) (records_of u) r (subst (λ (z : List Record). In z r) is there) in
    let before : is_some q.0.busy ≡ true = busy q.0 q.1 (ap (λ (z : Record). z.state.name) (sym q.2) ∙ name_is) in
    let now : is_some r.busy ≡ true = ap (λ (z : Record). is_some z.busy) q.2 ∙ before in
    n.3 ∙ ap (λ (b : Bool). cond b (Some r.state.name) None) now ∙ ap (λ (m : List ℕ). Some m) name_is

-- ---- a step

-- what a message made of the records, and what followed
recorded-busy : (rs : List Record) (stamp : Stamp) (h : Handle) (e : ServerEnd) (m : Fields) (a : Action) (did : FollowUp) (u x : Store) (t last : Circuits) (noted : Option (List ℕ)) → Recorded rs stamp h e m a (records_of u) → Tells m a did u → Follows did h t u last x → NotesAt did x noted → BusyBut rs (records_of u) noted
recorded-busy rs stamp h e m (Applies name value false) did u x t last noted is told f n = busy-with name (with_value value (written_meta value stamp)) rs (records_of u) noted (λ q. refl) (λ q. refl) is
recorded-busy rs stamp h e m (Applies name value true) did u x t last noted (p, put, is) told f n =
    let change : Record → Record = λ (r : Record). record (with_value value (written_meta value stamp) r) { busy = Some p } in
    let from = subst (λ (d : FollowUp). Follows d h t u last x) told.2 f in
    let at = subst (λ (d : FollowUp). NotesAt d x noted) told.2 n in
    let named : noted ≡ Some name =
    wrote-noted name u x (λ (q : Put). from.2.0 q.circuit) told.0 true m.p1 noted (λ r i own. made-busy name (λ (r : Record). record (with_value value (written_meta value stamp) r) { busy = Some p }) rs (λ q. refl) p (λ q. refl) r (subst (λ (z : List Record). In z r) is i) own) from.2.1.records from.2.1.places told.1 told.3 told.4 at in
    subst (λ (z : List Record). BusyBut rs z noted) (sym is) (busy-put name (λ (r : Record). record (with_value value (written_meta value stamp) r) { busy = Some p }) rs (λ q. refl) p (λ q. refl) noted named)
recorded-busy rs stamp h e m (Waits name value) did u x t last noted (p, put, is) told f n =
    busy-with name (with_waiting (record { put = p; value = value })) rs (records_of u) noted (λ q. refl) (λ q. refl) is
recorded-busy rs stamp h e m (Clears sid) did u x t last noted is told f n = busy-withdrawn _ rs (records_of u) noted is
recorded-busy rs stamp h e m Nothing did u x t last noted is told f n = subst (λ (z : List Record). BusyBut rs z noted) (sym is) (busy-same rs noted)
recorded-busy rs stamp h e m Greets did u x t last noted is told f n = subst (λ (z : List Record). BusyBut rs z noted) (sym is) (busy-same rs noted)
recorded-busy rs stamp h e m (Names p) did u x t last noted is told f n = subst (λ (z : List Record). BusyBut rs z noted) (sym is) (busy-same rs noted)
recorded-busy rs stamp h e m (Opens c) did u x t last noted is told f n = subst (λ (z : List Record). BusyBut rs z noted) (sym is) (busy-same rs noted)
recorded-busy rs stamp h e m (Adds s) did u x t last noted is told f n = subst (λ (z : List Record). BusyBut rs z noted) (sym is) (busy-same rs noted)
recorded-busy rs stamp h e m (Drops k) did u x t last noted is told f n = subst (λ (z : List Record). BusyBut rs z noted) (sym is) (busy-same rs noted)
recorded-busy rs stamp h e m (Switches on) did u x t last noted is told f n = subst (λ (z : List Record). BusyBut rs z noted) (sym is) (busy-same rs noted)

notes-after : (port : ℕ) (s u x : Store) (t after last : Circuits) (h : Handle) (did : FollowUp) (noted : Option (List ℕ)) → StepsIn port t h s (Some (step.Handled did)) after u → Follows did h after u last x → NotesAt did x noted → Notes (records_of s) (records_of x) noted
notes-after port s u x t after last h did noted (inr none) f n = not-some (step.Handled did) none.1
notes-after port s u x t after last h did noted (inl g) f n = by g.0 g.1 g.3
  where
    by : (c new : ServerCircuit) → CircuitSteps port h c s (Some (step.Handled did)) new u → Notes (records_of s) (records_of x) noted
    by (Open e) new d = record {
      busy = noted-busy did x noted n;
      others = busy-both (records_of s) (records_of u) (records_of x) noted (recorded-busy (records_of s) s.stamp h (after_first d.1.0) d.1.0.m d.1.1.action did u x after last noted d.1.1.records d.1.1.tells f n) (followed-busy did h after last u x noted f);
    }
    by (Ended w left) new d = not-some (step.Handled did) d.0

-- what is noted is the record to which the message wrote, if that is busy
own-noted : (did : FollowUp) (h : Handle) (u x : Store) (t last : Circuits) (noted : Option (List ℕ)) → Follows did h t u last x → NotesAt did x noted → (m : Fields) (a : Action) → Tells m a did u → noted ≡ wrote_busy a (records_of x)
own-noted did h u x t last noted f n m (Applies name value busies) told =
    let from = subst (λ (d : FollowUp). Follows d h t u last x) told.2 f in
    let at = subst (λ (d : FollowUp). NotesAt d x noted) told.2 n in
    let kept = from.2.1.places told.0 told.1 told.3 in
    let same : kept.0 ≡ at.0 = there-is x told.0 kept.0 at.0 kept.1 at.1 in
    let named : at.0.state.name ≡ name = ap (λ (z : Record). z.state.name) (sym same) ∙ ap (λ (z : RecordState). z.name) kept.2 ∙ told.4 in
    let found : record_named (records_of x) name ≡ Some at.0 = ap (λ (m : List ℕ). record_named (records_of x) m) (sym named) ∙ at.2 in
    at.3 ∙ ap (λ (o : Option Record). busy_name o) (sym found)
own-noted did h u x t last noted f n m (Adds s) told = subst (λ (d : FollowUp). NotesAt d x noted) told.2 n
own-noted did h u x t last noted f n m (Waits name value) told = subst (λ (d : FollowUp). NotesAt d x noted) told n
own-noted did h u x t last noted f n m (Clears sid) told = subst (λ (d : FollowUp). NotesAt d x noted) told n
own-noted did h u x t last noted f n m Nothing told = subst (λ (d : FollowUp). NotesAt d x noted) told n
own-noted did h u x t last noted f n m Greets told = subst (λ (d : FollowUp). NotesAt d x noted) told n
own-noted did h u x t last noted f n m (Names p) told = subst (λ (d : FollowUp). NotesAt d x noted) told n
own-noted did h u x t last noted f n m (Opens c) told = subst (λ (d : FollowUp). NotesAt d x noted) told.2 n
own-noted did h u x t last noted f n m (Drops k) told = subst (λ (d : FollowUp). NotesAt d x noted) told n
own-noted did h u x t last noted f n m (Switches on) told = subst (λ (d : FollowUp). NotesAt d x noted) told n

-- a step that handled a message, for whatever holds of its action
abbrev pub HandlesAny : Server → Handle → FollowUp → Store → Server → Type 1
HandlesAny y h did u new = (P : Fields → Action → Type 0) → ((m : Fields) (a : Action) → Tells m a did u → P m a) → HandledBy P y h new

-- a step, after which it is noted what its message made busy
abbrev StepsNoting : Server → Handle → Option (List ℕ) → Server → Type 0
StepsNoting old h noted new =
    HandledBy (λ (m : Fields) (a : Action). noted ≡ wrote_busy a new.records) old h new × Notes old.records new.records noted

-- the same along the view of the fields
viewed-noting : (y : Server) (port now n k : ℕ) (b : Clock) (s u x : Store) (t after last final : Circuits) (h : Handle) (did : FollowUp) (noted : Option (List ℕ)) → server_of port s now t b n ≡ y → StepsIn port t h s (Some (step.Handled did)) after u → Follows did h after u last x → NotesAt did x noted
    → HandlesAny y h did u (server_of port x now final b k) → StepsNoting y h noted (server_of port x now final b k)
viewed-noting y port now n k b s u x t after last final h did noted is g f at made = (
  made (λ (m : Fields) (a : Action). noted ≡ wrote_busy a (records_of x)) (own-noted did h u x after last noted f at),
  subst (λ (z : Server). Notes z.records (records_of x) noted) is (notes-after port s u x t after last h did noted g f at),
)

-- ---- steps that handled no message

never-closed : (w : Why) (left : List ℕ) → steps.Closed w left ≡ steps.Handled → ⊥
never-closed w left is = cc

-- an end that broke is reported
pub broke-closes : (port : ℕ) (s u : Store) (t after last : Circuits) (h : Handle) (c : EndCause) (did : CoreStep) → StepsIn port t h s (Some (step.Breaks c)) after u → Reports after h did last → stepped did ≡ steps.Handled → ⊥
broke-closes port s u t after last h c did (inr none) r handled = not-some (step.Breaks c) none.1
broke-closes port s u t after last h c did (inl g) r handled = by g.0 g.1 g.2 g.3 g.4
  where
    by : (x new : ServerCircuit) → under t h ≡ Some x → CircuitSteps port h x s (Some (step.Breaks c)) new u → after ≡ with_changed (λ (z : ServerCircuit). new) h t → ⊥
    by (Open e) new there broke changed =
        let now_ended = became t after h new (Ended (why_is c) e.link.output) changed broke.1 in
        let found : under after h ≡ Some (Ended (why_is c) e.link.output) = ap (λ (z : Circuits). under z h) now_ended ∙ changed-own (λ (z : ServerCircuit). Ended (why_is c) e.link.output) t h (Open e) there in
        never-closed (why_is c) e.link.output (sym (subst (λ (o : Option ServerCircuit). IsReport o (stepped did)) found r.0) ∙ handled)
    by (Ended w left) new there broke changed = not-some (step.Breaks c) broke.0

-- and so is one that had ended, or none
pub none-closes : (port : ℕ) (s u : Store) (t after last : Circuits) (h : Handle) (did : CoreStep) → StepsIn port t h s None after u → Reports after h did last → stepped did ≡ steps.Handled → ⊥
none-closes port s u t after last h did (inr none) r handled =
    never-closed why.Cut [] (sym (subst (λ (o : Option ServerCircuit). IsReport o (stepped did)) (ap (λ (z : Circuits). under z h) none.2 ∙ none.0) r.0) ∙ handled)
none-closes port s u t after last h did (inl g) r handled = by g.0 g.1 g.2 g.3 g.4
  where
    by : (x new : ServerCircuit) → under t h ≡ Some x → CircuitSteps port h x s None new u → after ≡ with_changed (λ (z : ServerCircuit). new) h t → ⊥
    by (Open e) new there was changed = absurd was
    by (Ended w left) new there was changed =
        let found : under after h ≡ Some (Ended w left) = ap (λ (z : Circuits). under z h) (stayed t after h new (Ended w left) there changed was.1) ∙ there in
        never-closed w left (sym (subst (λ (o : Option ServerCircuit). IsReport o (stepped did)) found r.0) ∙ handled)

-- nothing is to be noted of them
pub noting-none : (y : Server) (h : Handle) (did : Stepped) (waiting : ℕ) (new : Server) → (did ≡ steps.Handled → ⊥) → Steps y h did new → ServesAndPumps y h did waiting new
noting-none y h steps.Handled waiting new other made = absurd (other refl)
noting-none y h steps.NeedBytes waiting new other made = made
noting-none y h steps.OutputFull waiting new other made = made
noting-none y h (steps.Closed w left) waiting new other made = made

pub not-handled : (did : Stepped) → was_handled did ≡ false → did ≡ steps.Handled → ⊥
not-handled steps.Handled f is = both-bools true refl f
not-handled steps.NeedBytes f is = cc
not-handled steps.OutputFull f is = cc
not-handled (steps.Closed w left) f is = cc

-- an open one stays as it is
pub open-settles : (t : Circuits) (h : Handle) (waited : ℕ) → is_open (under t h) ≡ true → Settles t h waited (own.Handled told.Quiet) t
open-settles t h waited opened = (by (under t h) opened, sym (ap (λ (b : Bool). cond b t (with_freed h t)) opened))
  where
    by : (o : Option ServerCircuit) → is_open o ≡ true → IsSettled o waited (own.Handled told.Quiet)
    by (Some (Open e)) is = refl
    by (Some (Ended w left)) is = absurd (both-bools false is refl)
    by None is = absurd (both-bools false is refl)

-- ---- the put that it made busy

finds-named : (s : Store) (name : List ℕ) (place : ℕ) (g : Finds s name place) → record_named (records_of s) g.r.state.name ≡ Some g.r
finds-named s name place g = ap (λ (m : List ℕ). record_named (records_of s) m) g.named ∙ g.found

-- the put of the record at a place ended
pub ended-at : (place n k : ℕ) (t mid last : Circuits) (s left v x : Store) (f : Finished) (did : FollowUp) (q : Bool) → FinishesAt s place (Some f) left → RepliesIn t f.ended left mid v → did ≡ effect_after f → q ≡ is_wrote did → k ≡ more_applied q n → Follows did f.ended.circuit mid v last x → EndsPutAt place n t s k last x
ended-at place n k t mid last s left v x f did q (name, g, fin) replies is wrote more follows =
    let same : fin.0 ≡ g.r = some_is fin.0 g.r (sym fin.3.found ∙ g.found) in
    let busy : is_some g.r.busy ≡ true = ap (λ (r : Record). is_some r.busy) (sym same) ∙ ap (λ (o : Option Put). is_some o) fin.1 in (
      g.r,
      g.at,
      finds-named s name place g,
      inl (
        busy,
        record {
          f = f;
          left = left;
          finishes = subst (λ (m : List ℕ). writes.Finishes s m (Ok f) left) (sym g.named) fin;
          mid = mid;
          after = v;
          replies = replies;
          follows = subst (λ (d : FollowUp). Follows d f.ended.circuit mid v last x) is follows;
          counts = more ∙ ap (λ (b : Bool). more_applied b n) (wrote ∙ ap is_wrote is);
        },
      ),
    )

-- or there was none
pub stayed-at : (place n : ℕ) (t : Circuits) (s left : Store) → FinishesAt s place None left → EndsPutAt place n t s n t left
stayed-at place n t s left (name, g, none) =
    let r : Record = none.0.0 in
    let same : r ≡ g.r = some_is r g.r (sym none.0.1 ∙ g.found) in
    let free : is_some g.r.busy ≡ false = ap (λ (q : Record). is_some q.busy) (sym same) ∙ ap (λ (o : Option Put). is_some o) none.0.2 in
    (g.r, g.at, finds-named s name place g, inr (free, (refl, refl, none.1)))

-- what of it stays, if it is not busy
pub free-at : (place n : ℕ) (t : Circuits) (s : Store) (r : Record) → HasAt s place r → record_named (records_of s) r.state.name ≡ Some r → is_some r.busy ≡ false → EndsPutAt place n t s n t s
free-at place n t s r at found free = (r, at, found, inr (free, (refl, refl, refl)))

same-server : (port now n k : ℕ) (b : Clock) (s x : Store) (t last : Circuits) → k ≡ n → last ≡ t → x ≡ s → server_of port x now last b k ≡ server_of port s now t b n
same-server port now n k b s x t last a c e =
    ap (λ (z : Store). server_of port z now last b k) e ∙ ap (λ (z : Circuits). server_of port s now z b k) c ∙ ap (λ (z : ℕ). server_of port s now t b z) a

-- the record that it made busy is noted, and its put ended
tried-at : (did : FollowUp) (port now : ℕ) (b : Clock) (n k : ℕ) (t last : Circuits) (s x : Store) → TriesAt did n t s k last x → (noted : Option (List ℕ)) × NotesAt did s noted × Tries (server_of port s now t b n) noted (server_of port x now last b k)
tried-at (effect.Quiet said) port now b n k t last s x is = (None, refl, same-server port now n k b s x t last is.0 is.1 is.2)
tried-at (effect.Began place sid sub) port now b n k t last s x is = (None, refl, same-server port now n k b s x t last is.0 is.1 is.2)
tried-at (effect.Opened place sid) port now b n k t last s x is = (None, refl, same-server port now n k b s x t last is.0 is.1 is.2)
tried-at (effect.Wrote place busies sid) port now b n k t last s x (r, at, found, inl (busy, e)) =
    let g = viewed-finish (server_of port s now t b n) port now n k b s e.left e.after x t e.mid last r.state.name e.f (effect_after e.f) (is_wrote (effect_after e.f)) refl refl refl e.counts e.finishes e.replies e.follows in
    (Some r.state.name, (r, at, found, ap (λ (c : Bool). cond c (Some r.state.name) None) (sym busy)), (g.0, Ok tt, g.1))
tried-at (effect.Wrote place busies sid) port now b n k t last s x (r, at, found, inr (free, is)) =
    (None, (r, at, found, ap (λ (c : Bool). cond c (Some r.state.name) None) (sym free)), same-server port now n k b s x t last is.0 is.1 is.2)

-- the put of the record to which a message wrote ended
served : (y : Server) (h : Handle) (noted : Option (List ℕ)) (mid new : Server) → StepsNoting y h noted mid → Tries mid noted new → HandlesAndFinishes y h new
served y h noted mid new did tries = record {
  put = noted;
  stepped = mid;
  steps = did.0.0;
  own = did.0.1;
  notes = did.1;
  tries = tries;
}

-- a message was handled that leaves nothing to do
pub viewed-quiet : (y : Server) (port now n k : ℕ) (b : Clock) (s u : Store) (t after : Circuits) (h : Handle) (said : Effect) → server_of port s now t b n ≡ y → StepsIn port t h s (Some (step.Handled (effect.Quiet said))) after u → HandlesAny y h (effect.Quiet said) u (server_of port u now after b k) → HandlesAndFinishes y h (server_of port u now after b k)
viewed-quiet y port now n k b s u t after h said is g made =
    served y h None (server_of port u now after b k) (server_of port u now after b k)
    (viewed-noting y port now n k b s u u t after after after h (effect.Quiet said) None is g (refl, refl) refl made) refl

-- a message was handled, and the put of the record to which it wrote ended
pub viewed-served : (y : Server) (port now n k j : ℕ) (b : Clock) (s u x z : Store) (t after last mid final : Circuits) (h : Handle) (did : FollowUp) → server_of port s now t b n ≡ y → StepsIn port t h s (Some (step.Handled did)) after u → Follows did h after u last x
    → HandlesAny y h did u (server_of port x now mid b k) → TriesAt did k mid x j final z → HandlesAndFinishes y h (server_of port z now final b j)
viewed-served y port now n k j b s u x z t after last mid final h did is g f made tries =
    let it = tried-at did port now b k j mid final x z tries in
    served y h it.0 (server_of port x now mid b k) (server_of port z now final b j) (viewed-noting y port now n k b s u x t after last mid h did it.0 is g f it.1 made) it.2

-- the record to which a message wrote is there after what followed
pub leads-after : (did : FollowUp) (h : Handle) (t last : Circuits) (u x : Store) → Follows did h t u last x → LeadsTo did x
leads-after (effect.Quiet said) h t last u x f = tt
leads-after (effect.Wrote place busies sid) h t last u x f = (let kept = f.2.1.places place f.0 f.1 in (kept.0, kept.1))
leads-after (effect.Began place sid sub) h t last u x f = tt
leads-after (effect.Opened place sid) h t last u x f = tt
