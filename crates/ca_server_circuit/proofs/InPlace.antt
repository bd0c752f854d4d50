-- A message that is handled where it came.
use Rattle.std.proofs.Common.{◌≡◌, ℕ, ◌+◌, ◌<◌, ◌≤◌, Bool, Fits, List, [], ◌∷◌, None, Option, Some, false, true, drop, if◌then◌else◌, inl, inr, length, refl, take, w64, ap, ◌∙◌, subst, sym, arith}
use Rattle.std.proofs.lemmas.List.{length-take-le, take-append-drop, take_at}
use Rattle.ca_arena.specs.declared.handle.Handle.{Handle}
use Rattle.ca_dgram.proofs.Readings.{spells-fields_at}
use Rattle.ca_link.specs.Link.{LinkState, with_rest}
use Rattle.ca_dbr.specs.declared.data_type.BaseType.{BaseType}
use Rattle.ca_dbr.specs.Elements.{Elements}
use Rattle.ca_dbr.specs.Octets.{AreBytes}
use Rattle.ca_records.specs.declared.puts.Begun.{Begun}
use Rattle.ca_records.specs.declared.puts.Begun.TheVariants as begun
use Rattle.ca_records.specs.Puts.{Record}
use Rattle.ca_records.specs.Record.{RecordState}
use Rattle.ca_records.specs.declared.puts.Put.{Put}
use Rattle.ca_records.specs.declared.puts.Stamp.{Stamp}
use Rattle.ca_records.specs.Store.{Store, records_of}
use Rattle.ca_text.specs.Command.{command_number}
use Rattle.ca_text.specs.declared.command.Command.TheVariants as command
use Rattle.ca_text.specs.Limits.{output_limit}
use Rattle.ca_text.specs.Status.{normal}
use Rattle.ca_wire.specs.Fields.{Fields}
use Rattle.ca_wire.specs.Message.{spelled}
use Rattle.ca_wire.specs.Stream.{Held}
use Rattle.ca_wire.specs.Messages.{on_channel, status_reply, wanted_in}
use Rattle.ca_wire.specs.Reading.{IsWhole}
use Rattle.ca_wire.specs.declared.reading.Head.{Head}
use Rattle.ca_wire.specs.declared.requests.Wanted.{Wanted}
use Rattle.ca_wire.proofs.Headers.{length-extended, length-short}
use Rattle.ca_model.specs.Due.{Action, Adds, Applies, Clears, Drops, Due, Greets, Names, Nothing, Opens, PutReads, Switches, Waits}
use Rattle.ca_model.specs.Faults.{early_put_fault}
use Rattle.ca_model.specs.Images.{base_type_of}
use Rattle.ca_model.specs.Server.{Server, ServerEnd, new_server}
use Rattle.ca_model.specs.ServerSteps.{Acts}
use Rattle.ca_server_circuit.specs.declared.seek.Seat.{Seat}
use Rattle.ca_server_circuit.specs.declared.step.FollowUp.{FollowUp}
use Rattle.ca_server_circuit.specs.declared.cause.EndCause.TheVariants as cause
use Rattle.ca_server_circuit.specs.declared.step.EndStep.TheVariants.{Breaks, Handled}
use Rattle.ca_server_circuit.specs.Handling as here
use Rattle.ca_server_circuit.specs.Handling.{AllStay, Does, MayLack, Recorded, known, replied}
use Rattle.ca_server_circuit.specs.Putting.{IsRefused, IsTaken, WritesTo, asked, early}
use Rattle.ca_server_circuit.specs.Stepping.{EndSteps, Takes, after_head, first_at}
use Rattle.ca_server_circuit.proofs.Stays.{link-kept}
use Rattle.ca_server_circuit.proofs.Taken.{put_in}

-- what a put asks for does not depend on its command
module _ (w : Wanted) (bytes : List ℕ) (c : ℕ) where
  abbrev by : Fields
  by = record (asked w bytes) { command = c }

  early-by : (r : RecordState) (rights : ℕ) (o : Option BaseType) → early_put_fault r rights (asked w bytes) o ≡ early_put_fault r rights by o
  early-by r rights None = refl
  early-by r rights (Some b) = refl

  reads-by : (e : Elements) → PutReads (asked w bytes) e → PutReads by e
  reads-by e x = record { base = x.base; typed = x.typed; reads = x.reads }

  none-by : (r : RecordState) (rights : ℕ) (o : Option ℕ) → early r rights (asked w bytes) ≡ o → early r rights by ≡ o
  none-by r rights o is = sym (early-by r rights (base_type_of w.data_type)) ∙ is

  refused-by : (r : Record) (rights : ℕ) (put : Option Put) (status : ℕ) → IsRefused r rights put (asked w bytes) status → IsRefused r rights put by status
  refused-by r rights put status (inl h) = inl (none-by r.state rights (Some status) h)
  refused-by r rights put status (inr h) = inr (none-by r.state rights None h.0, (h.1.0, reads-by h.1.0 h.1.1, h.1.2))

  taken-by : (s : Store) (r next : Record) (rights : ℕ) (put : Option Put) (b : Begun) → IsTaken s r rights put (asked w bytes) b next → IsTaken s r rights put by b next
  taken-by s r next rights put b t =
      record { e = t.e; no_early = none-by r.state rights None t.no_early; reads = reads-by t.e t.reads; no_late = t.no_late; v = t.v; is = t.is; takes = t.takes }

  writes-by : (s t : Store) (place rights : ℕ) (put : Option Put) (b : Begun) → WritesTo s place rights put (asked w bytes) b t → WritesTo s place rights put by b t
  writes-by s t place rights put (begun.Refused status) d = (d.0, d.1, refused-by d.0 rights put status.number d.2, d.3)
  writes-by s t place rights put (begun.Applied busies) d = (d.0, d.1, taken-by s d.0 d.1 rights put (begun.Applied busies) d.2, d.3)
  writes-by s t place rights put begun.Waiting d = (d.0, d.1, taken-by s d.0 d.1 rights put begun.Waiting d.2, d.3)

-- a write is one of the message that names this and has this payload
pub asked-is : (s t : Store) (place bits : ℕ) (put : Option Put) (b : Begun) (m : Fields) (w : Wanted) (bytes : List ℕ) → w ≡ wanted_in m → bytes ≡ m.payload → WritesTo s place bits put (asked w bytes) b t → WritesTo s place bits put m b t
asked-is s t place bits put b m w bytes named lies did =
    let one : WritesTo s place bits put (by (wanted_in m) bytes m.command) b t = subst (λ (x : Wanted). WritesTo s place bits put (by x bytes m.command) b t) named (writes-by w bytes m.command s t place bits put b did) in
    subst (λ (x : List ℕ). WritesTo s place bits put (by (wanted_in m) x m.command) b t) lies one

-- the end of a message that is there
pub end-fits : (bytes : List ℕ) (head : Head) → IsWhole bytes head → Fits w64 (head.start + head.header.size)
end-fits bytes head whole =
    let room = whole.room in
    let within = whole.within in
    let long : length (take head.start bytes) ≡ head.start = length-take-le head.start bytes (omega arith) in
    let few : head.start ≤ 24 = elim whole.header.form [
      | inl p ↦ omega (arith, long, ap length p.are, length-short head.header)
      | inr p ↦ omega (arith, long, ap length p.are, length-extended p.count16 head.header)
    ] in
    omega (arith, few, within)

-- the reply to a put with notification, by what that names
pub acknowledged : (e new : ServerEnd) (m : Fields) (w : Wanted) (is slow : Bool) → w ≡ wanted_in m → m.command ≡ command_number command.WriteNotify → is ≡ slow
    → new ≡ replied (if is then [] else status_reply (on_channel command.WriteNotify w []) normal ∷ []) e → new ≡ replied (if slow then [] else status_reply m normal ∷ []) e
acknowledged e new m w is slow named put same sent =
    let reply : ℕ → Fields = λ n. record (status_reply m normal) { command = n } in
    let one : status_reply (on_channel command.WriteNotify w []) normal ≡ status_reply m normal = ap (λ (x : Wanted). status_reply (on_channel command.WriteNotify x []) normal) named ∙ ap reply (sym put) in
    let late : Bool → Fields → List Fields = λ b r. if b then [] else r ∷ [] in
    sent ∙ ap (λ (r : Fields). replied (late is r) e) one ∙ ap (λ (b : Bool). replied (late b (status_reply m normal)) e) same

-- the same of one that is refused
pub refused-put : (e : ServerEnd) (m : Fields) (w : Wanted) (status : ℕ) → w ≡ wanted_in m → m.command ≡ command_number command.WriteNotify
    → replied (status_reply (on_channel command.WriteNotify w []) status ∷ []) e ≡ replied (status_reply m status ∷ []) e
refused-put e m w status named put =
    let reply : ℕ → Fields = λ n. record (status_reply m status) { command = n } in
    let one : status_reply (on_channel command.WriteNotify w []) status ≡ status_reply m status = ap (λ (x : Wanted). status_reply (on_channel command.WriteNotify x []) status) named ∙ ap reply (sym put) in
    ap (λ (r : Fields). replied (r ∷ []) e) one

-- the put with notification that a message is, by what that names
pub put-is : (h : Handle) (seat : Seat) (m : Fields) (w : Wanted) (p : Put) → w ≡ wanted_in m → (let q : Put = record { circuit = h; channel = seat.channel; data_type = w.data_type; count = w.count; ioid = w.id } in p ≡ q) → p ≡ put_in h seat m
put-is h seat m w p named is =
    is ∙ ap (λ (x : Wanted). let q : Put = record { circuit = h; channel = seat.channel; data_type = x.data_type; count = x.count; ioid = x.id } in q) named

-- what was queued is taken back
pub taken-back : (v e : ServerEnd) (ms : List Fields) (n : ℕ) (cut : LinkState) → v ≡ replied ms e → n ≡ length e.link.output → (let l : LinkState = record v.link { output = take n v.link.output } in cut ≡ l) → (let new : ServerEnd = record v { link = cut } in new) ≡ e
taken-back v e ms n cut was all is =
    let back : cut ≡ e.link =
    is ∙ ap (λ (x : ServerEnd). let l : LinkState = record x.link { output = take n x.link.output } in l) was ∙ ap (λ (o : List ℕ). let l : LinkState = record e.link { output = o } in l) (take_at e.link.output (spelled ms) n (sym all)) in
    ap (λ (x : ServerEnd). let new : ServerEnd = record x { link = cut } in new) was ∙ ap (λ (l : LinkState). let new : ServerEnd = record e { link = l } in new) back

-- ---- the first message

-- what came is as it was after what was done
kept-input : (s t : Store) (h : Handle) (e new : ServerEnd) (m : Fields) (D : List Fields → Action → Type 0) (did : FollowUp) → Does D s h e m did t new → new.link.input ≡ e.link.input
kept-input s t h e new m D did d =
    let y : Server = record (new_server 0 0 [] []) { records = records_of s } in
    ap (λ (x : ServerEnd). x.link.input) d.leaves ∙ ap (λ (l : LinkState). l.input) (link-kept y e d.action d.acted (d.acts y refl))

pub whole-still : (s t : Store) (h : Handle) (e new : ServerEnd) (m : Fields) (D : List Fields → Action → Type 0) (did : FollowUp) (head : Head) → Does D s h e m did t new → IsWhole e.link.input.bytes head → IsWhole new.link.input.bytes head
whole-still s t h e new m D did head d whole =
    subst (λ (b : List ℕ). IsWhole b head) (sym (ap (λ (x : Held). x.bytes) (kept-input s t h e new m D did d))) whole

-- the end with these bytes left to be read
abbrev left : List ℕ → ServerEnd → ServerEnd
left rest e = record e { link = with_rest rest e.link }

left-acts : (y : Server) (e : ServerEnd) (rest : List ℕ) (a : Action) (new : ServerEnd) → Acts y e a new → Acts y (left rest e) a (left rest new)
left-acts y e rest Nothing new is = ap (left rest) is
left-acts y e rest Greets new is = ap (left rest) is
left-acts y e rest (Names p) new is = ap (left rest) is
left-acts y e rest (Opens c) new is = (is.0, is.1, is.2, ap (left rest) is.3)
left-acts y e rest (Clears s) new is = ap (left rest) is
left-acts y e rest (Applies n v b) new is = ap (left rest) is
left-acts y e rest (Waits n v) new is = ap (left rest) is
left-acts y e rest (Adds s) new is =
    let t = is.2 in
    (is.0, is.1, record { place = t.place; q = t.q; at = t.at; room = t.room; first = t.first; leaves = ap (left rest) t.leaves })
left-acts y e rest (Drops k) new is = ap (left rest) is
left-acts y e rest (Switches on) new is = ap (left rest) is

left-recorded : (rs qs : List Record) (s : Stamp) (h : Handle) (e : ServerEnd) (m : Fields) (rest : List ℕ) (a : Action) → Recorded rs s h e m a qs → Recorded rs s h (left rest e) m a qs
left-recorded rs qs s h e m rest Nothing is = is
left-recorded rs qs s h e m rest Greets is = is
left-recorded rs qs s h e m rest (Names p) is = is
left-recorded rs qs s h e m rest (Opens c) is = is
left-recorded rs qs s h e m rest (Clears n) is = is
left-recorded rs qs s h e m rest (Applies n v true) is = is
left-recorded rs qs s h e m rest (Applies n v false) is = is
left-recorded rs qs s h e m rest (Waits n v) is = is
left-recorded rs qs s h e m rest (Adds x) is = is
left-recorded rs qs s h e m rest (Drops k) is = is
left-recorded rs qs s h e m rest (Switches on) is = is

left-fits : (rs : List Record) (e : ServerEnd) (m : Fields) (rest : List ℕ) (a : Action) → here.Fits rs e m a → here.Fits rs (left rest e) m a
left-fits rs e m rest Nothing is = is
left-fits rs e m rest Greets is = is
left-fits rs e m rest (Names p) is = is
left-fits rs e m rest (Opens c) is = is
left-fits rs e m rest (Clears n) is = is
left-fits rs e m rest (Applies n v b) is = is
left-fits rs e m rest (Waits n v) is = is
left-fits rs e m rest (Adds x) is = is
left-fits rs e m rest (Drops k) is = is
left-fits rs e m rest (Switches on) is = is

-- what was done while the message was there was done without it, once it is dropped
pub does-dropped : (port : ℕ) (s t : Store) (h : Handle) (e new after : ServerEnd) (m : Fields) (did : FollowUp) (head : Head)
    → Does (Due (known port s e) m) s h e m did t new → after ≡ after_head head new → Does (Due (known port s (after_head head e)) m) s h (after_head head e) m did t after
does-dropped port s t h e new after m did head d gone =
    let n = head.start + head.header.size in
    let rest = drop n e.link.input.bytes in
    let kept : new.link.input.bytes ≡ e.link.input.bytes = ap (λ (x : Held). x.bytes) (kept-input s t h e new m (Due (known port s e) m) did d) in
    let is : after ≡ left rest new = gone ∙ ap (λ (b : List ℕ). left (drop n b) new) kept in
    record {
      replies = d.replies;
      action = d.action;
      due = d.due;
      acted = left rest d.acted;
      acts = λ y same. left-acts y e rest d.action d.acted (d.acts y same);
      records = left-recorded (records_of s) (records_of t) s.stamp h e m rest d.action d.records;
      rules = d.rules;
      stamp = d.stamp;
      tells = d.tells;
      fits = left-fits (records_of s) e m rest d.action d.fits;
      leaves = is ∙ ap (left rest) d.leaves;
    }

-- the end whose first message was dropped
pub dropped-head : (head : Head) (v e : ServerEnd) (link : LinkState) → v ≡ e → link ≡ with_rest (drop (head.start + head.header.size) v.link.input.bytes) v.link → (let new : ServerEnd = record v { link = link } in new) ≡ after_head head e
dropped-head head v e link is gone =
    ap (λ (l : LinkState). let new : ServerEnd = record v { link = l } in new) gone ∙ ap (λ (x : ServerEnd). after_head head x) is

-- ---- a step

-- the end that can take it
abbrev pub takes-first : (e : ServerEnd) (head : Head) → length e.link.output < output_limit → IsWhole e.link.input.bytes head → Takes e
takes-first e head room whole =
    let n = head.start + head.header.size in
    let bytes = e.link.input.bytes in
    record { room = room; m = first_at bytes head; rest = drop n bytes; takes = (take n bytes, spells-fields_at bytes head whole, sym (take-append-drop n bytes)) }

-- the message was handled, and dropped then
pub steps-first : (port : ℕ) (h : Handle) (s t : Store) (e mid new : ServerEnd) (head : Head) (did : FollowUp) → length e.link.output < output_limit → IsWhole e.link.input.bytes head
    → Does (Due (known port s e) (first_at e.link.input.bytes head)) s h e (first_at e.link.input.bytes head) did t mid → new ≡ after_head head mid → EndSteps port h e s (Handled did) new t
steps-first port h s t e mid new head did room whole d gone =
    (takes-first e head room whole, does-dropped port s t h e mid new (first_at e.link.input.bytes head) did head d gone)

-- there was no memory for it
pub breaks-first : (port : ℕ) (h : Handle) (s t : Store) (e new : ServerEnd) (head : Head) → length e.link.output < output_limit → IsWhole e.link.input.bytes head → AreBytes e.link.input.bytes
    → MayLack (known port s e) (first_at e.link.input.bytes head) → new.link.output ≡ e.link.output → AllStay e.channels new.channels → t ≡ s → EndSteps port h e s (Breaks cause.OutOfMemory) new t
breaks-first port h s t e new head room whole are lack output stay same = ((takes-first e head room whole, are, lack), output, stay, same)
