-- One element that is read over the value of a record, at a place of the store.
use Rattle.std.proofs.Common.{◌≡◌, ℕ, ◌+◌, ◌≤◌, ◌&&◌, Bool, true, false, not, List, [], ◌∷◌, length, is_some, if◌then◌else◌, nat_lt, Option, None, Some, Ok, Result, slice_set, refl, sym, ap, ◌∙◌, subst, arith}
use Rattle.ca_dbr.specs.declared.data_type.BaseType.{BaseType}
use Rattle.ca_dbr.specs.declared.value.Meta.{Meta}
use Rattle.ca_dbr.specs.Held.{Kind, kind_of}
use Rattle.ca_dbr.specs.Elements.{Elements, base_of, count_of, IsValue}
use Rattle.ca_dbr.specs.Reading.{CanReadOver, ReadsElements, least_size}
use Rattle.ca_dbr.specs.Types.{base_number}
use Rattle.ca_text.specs.Limits.{waiting_puts}
use Rattle.ca_text.specs.Place.{At}
use Rattle.ca_text.proofs.Places.{At-one, some_is}
use Rattle.ca_text.specs.declared.refusal.Refusal.{Refusal}
use Rattle.ca_records.specs.declared.puts.Begun.TheVariants.{Applied}
use Rattle.ca_records.specs.declared.puts.Put.{Put}
use Rattle.ca_records.specs.declared.puts.QueuedPut.{QueuedPut}
use Rattle.ca_records.specs.declared.puts.Stamp.{Stamp}
use Rattle.ca_records.specs.declared.slot.RecordSlot.{RecordSlot}
use Rattle.ca_records.specs.declared.slot.RecordSlot.TheVariants.{Full}
use Rattle.ca_records.specs.Chain.{IsStored}
use Rattle.ca_records.specs.Faults.{put_fault}
use Rattle.ca_records.specs.Layout.{AreFit, waiting_on}
use Rattle.ca_records.specs.Given.{given_as}
use Rattle.ca_records.specs.Over.{IsOne, PutsOver, TakesOver, WritesOver, in_place_of}
use Rattle.ca_records.specs.Puts.{Record, WaitingPut, with_value, written_meta}
use Rattle.ca_records.specs.Record.{RecordState}
use Rattle.ca_records.specs.Rules.{Rule}
use Rattle.ca_records.specs.Writes.{BeginsOn, CanPutOne, CanWriteOne, PutsOne, WritesOne, must_wait, write_fault}
use Rattle.ca_dbr.proofs.Helds.{display_of-valued}
use Rattle.ca_records.proofs.Givens.{given-own, kind_of-displayed}
use Rattle.ca_records.proofs.Waiters.{waits-alike}
use Rattle.ca_records.proofs.Steps.{Change, change, seen, seen-full, store_of}

-- what waits fits a record of the same type and count
still-fit : (s t : RecordState) → t.count ≡ s.count → kind_of t.value ≡ kind_of s.value → (ws : List WaitingPut) → AreFit s ws → AreFit t ws
still-fit s t count based [] fit = tt
still-fit s t count based (w ∷ ws) fit =
    let within : count_of w.value ≤ t.count = (let most = fit.0.holds.within in omega (arith, most, count)) in (
      record {
        holds = record { one = fit.0.holds.one; within = within; limit = (let most = fit.0.holds.limit in omega (arith, most, count)) };
        valued = fit.0.valued;
        based = fit.0.based ∙ sym based;
      },
      still-fit s t count based ws fit.1,
    )

over-kind : (number : ℕ) (bytes : List ℕ) (meta : Elements → Meta) (old new : RecordState) → TakesOver number bytes meta old true new → kind_of new.value ≡ kind_of old.value
over-kind number bytes meta old new over =
    ap (λ (s : RecordState). kind_of s.value) over.2 ∙ kind_of-displayed over.0 old.value (display_of-valued over.0 over.1.reads.valued) over.1.reads.based

-- what waits stays as it is
over-alike : (number : ℕ) (bytes : List ℕ) (meta : Elements → Meta) (old : RecordState) (result : Bool) (new : RecordState) (ws : List QueuedPut) → TakesOver number bytes meta old result new → waiting_on new ws ≡ waiting_on old ws
over-alike number bytes meta old true new ws over = waits-alike old new ws (ap (λ (k : Kind). k.display) (over-kind number bytes meta old new over))
over-alike number bytes meta old false new ws over = ap (λ (s : RecordState). waiting_on s ws) over.1

pub kept-fit : (number : ℕ) (bytes : List ℕ) (meta : Elements → Meta) (old : RecordState) (result : Bool) (new : RecordState) (ws : List QueuedPut) → TakesOver number bytes meta old result new → AreFit old (waiting_on old ws) → AreFit new (waiting_on new ws)
kept-fit number bytes meta old result new ws over fit = subst (λ (qs : List WaitingPut). AreFit new qs) (sym (over-alike number bytes meta old result new ws over)) (by result over)
  where
    by : (result : Bool) → TakesOver number bytes meta old result new → AreFit new (waiting_on old ws)
    by true over = still-fit old new (ap (λ (s : RecordState). s.count) over.2) (over-kind number bytes meta old new over) (waiting_on old ws) fit
    by false over = subst (λ (s : RecordState). AreFit s (waiting_on old ws)) (sym over.1) fit

pub writes-over : (s : Stamp) (old new : RecordState) (busy : Option Put) (ws : List QueuedPut) (is_put : Bool) (number : ℕ) (bytes : List ℕ) (result : Bool) → (is_put && is_some busy) ≡ false → (is_put && old.slow) ≡ false → TakesOver number bytes (λ h. written_meta h s) old result new → let r : Record = record { state = old; busy = busy; waiting = waiting_on old ws } in let q : Record = record { state = new; busy = busy; waiting = waiting_on new ws } in WritesOver s r is_put number bytes result q
writes-over s old new busy ws is_put number bytes true free quick over =
    let v : Elements = in_place_of old.value over.0 in (
      over.0,
      over.1,
      free,
      quick,
      ap (λ (x : RecordState). let q : Record = record { state = x; busy = busy; waiting = waiting_on new ws } in q) over.2
          ∙ ap (λ (ps : List WaitingPut). let q : Record = record { state = record old { value = v; meta = written_meta v s }; busy = busy; waiting = ps } in q) (over-alike number bytes (λ h. written_meta h s) old true new ws over),
    )
writes-over s old new busy ws is_put number bytes false free quick over =
    ((λ f q can. over.0 can), ap (λ (x : RecordState). let q : Record = record { state = x; busy = busy; waiting = waiting_on x ws } in q) over.1)

-- an element of the record's own type has no fault
one-applied : (s : Stamp) (r : Record) (put : Option Put) (e : Elements) (next : Record) → IsValue e → base_of e ≡ base_of r.state.value → must_wait r put ≡ false → (is_some put && r.state.slow) ≡ false → next ≡ with_value (in_place_of r.state.value e) (written_meta (in_place_of r.state.value e) s) r → BeginsOn s r put e (Ok (Applied false)) next
one-applied s r put e next valued based free quick is =
    let v : Elements = in_place_of r.state.value e in
    let own : Result Elements Refusal = Ok v in
    let made : given_as e (kind_of r.state.value) ≡ own = given-own e r.state.value (display_of-valued e valued) based in
    let none : write_fault r put e ≡ None =
    ap (λ (c : Result Elements Refusal). put_fault c (if must_wait r put then not (nat_lt (length r.waiting) waiting_puts) else false)) made
    ∙ ap (λ (w : Bool). put_fault own (if w then not (nat_lt (length r.waiting) waiting_puts) else false)) free in
    (v, none, made, (free, quick, is))

pub record OverStep (slots : List RecordSlot) (free : Option ℕ) (f : List ℕ → Option ℕ) (waiting : ℕ) (rules : List Rule) (stamp : Stamp) (place : ℕ) (next : Record) (is_put : Bool) (number : ℕ) (bytes : List ℕ) (result : Bool) : Type 0 where
  pub stored : IsStored (slice_set slots place (Full next)) free f waiting
  pub cannot : result ≡ false → CanWriteOne (store_of slots rules stamp) place is_put number bytes → ⊥
  pub written : result ≡ true → WritesOne (store_of slots rules stamp) place is_put number bytes (store_of (slice_set slots place (Full next)) rules stamp)

pub over-step : (slots : List RecordSlot) (free : Option ℕ) (f : List ℕ → Option ℕ) (waiting : ℕ) (rules : List Rule) (stamp : Stamp) (place : ℕ) (r next : Record) (is_put : Bool) (number : ℕ) (bytes : List ℕ) (result : Bool) → IsStored slots free f waiting → At slots place (Full r) → WritesOver stamp r is_put number bytes result next → OverStep slots free f waiting rules stamp place next is_put number bytes result
over-step slots free f waiting rules stamp place r next is_put number bytes true stored full over =
    let e = over.0 in
    let one : IsOne r.state number bytes e = over.1 in
    let based : base_of e ≡ base_of r.state.value = one.reads.based in
    let made : Change slots free f rules stamp place r next waiting = change slots free f waiting waiting rules stamp place r next stored full (ap (λ (q : Record). q.state.name) over.4) (ap (λ (q : Record). waiting + length q.waiting) (sym over.4)) in
    record {
      stored = made.stored;
      cannot = λ no. absurd (let same : true ≡ false = no in cc);
      written = λ yes. record {
        e = e;
        takes = (r, seen-full slots place r full, (let counted = one.reads.counted in omega (arith, counted)), (let counted = one.reads.counted in let some = one.some in omega (arith, counted, some)));
        typed = ap base_number based ∙ one.typed;
        long = subst (λ (b : BaseType). least_size b 1 ≤ length bytes) (sym based) one.long;
        reads = subst (λ (b : BaseType). ReadsElements b 1 bytes e) (sym based) one.reads;
        begins = λ put is. record {
          r = r;
          next = next;
          begins = one-applied stamp r put e next one.reads.valued based (ap (λ (b : Bool). b && is_some r.busy) is ∙ over.2) (ap (λ (b : Bool). b && r.state.slow) is ∙ over.3) over.4;
          becomes = made.becomes;
        };
      };
    }
over-step slots free f waiting rules stamp place r next is_put number bytes false stored full over =
    let made : Change slots free f rules stamp place r next waiting = change slots free f waiting waiting rules stamp place r next stored full (ap (λ (q : Record). q.state.name) over.1) (ap (λ (q : Record). waiting + length q.waiting) (sym over.1)) in
    record {
      stored = made.stored;
      cannot = λ no can.
          let one : can.r ≡ r = some_is can.r r (At-one (seen slots) place (Some can.r) (Some r) can.at (seen-full slots place r full)) in
          over.0 (subst (λ (q : Record). (is_put && is_some q.busy) ≡ false) one can.free) (subst (λ (q : Record). (is_put && q.state.slow) ≡ false) one can.quick) (subst (λ (q : Record). CanReadOver number bytes q.state.value) one can.over);
      written = λ no. absurd (let same : false ≡ true = no in cc);
    }

-- ---- a put that makes its record busy

put-applied : (s : Stamp) (r : Record) (put : Put) (e : Elements) (next : Record) → IsValue e → base_of e ≡ base_of r.state.value → r.busy ≡ None → r.state.slow ≡ true → next ≡ record (with_value (in_place_of r.state.value e) (written_meta (in_place_of r.state.value e) s) r) { busy = Some put } → BeginsOn s r (Some put) e (Ok (Applied true)) next
put-applied s r put e next valued based free slow is =
    let v : Elements = in_place_of r.state.value e in
    let own : Result Elements Refusal = Ok v in
    let made : given_as e (kind_of r.state.value) ≡ own = given-own e r.state.value (display_of-valued e valued) based in
    let none : write_fault r (Some put) e ≡ None =
    ap (λ (c : Result Elements Refusal). put_fault c (if is_some r.busy then not (nat_lt (length r.waiting) waiting_puts) else false)) made
    ∙ ap (λ (o : Option Put). put_fault own (if is_some o then not (nat_lt (length r.waiting) waiting_puts) else false)) free in
    (v, none, made, (put, refl, free, slow, is))

pub record PutStep (slots : List RecordSlot) (free : Option ℕ) (f : List ℕ → Option ℕ) (waiting : ℕ) (rules : List Rule) (stamp : Stamp) (place : ℕ) (next : Record) (put : Put) (number : ℕ) (bytes : List ℕ) (result : Bool) : Type 0 where
  pub stored : IsStored (slice_set slots place (Full next)) free f waiting
  pub cannot : result ≡ false → CanPutOne (store_of slots rules stamp) place number bytes → ⊥
  pub made : result ≡ true → PutsOne (store_of slots rules stamp) place put number bytes (store_of (slice_set slots place (Full next)) rules stamp)

pub put-step : (slots : List RecordSlot) (free : Option ℕ) (f : List ℕ → Option ℕ) (waiting : ℕ) (rules : List Rule) (stamp : Stamp) (place : ℕ) (r next : Record) (put : Put) (number : ℕ) (bytes : List ℕ) (result : Bool) → IsStored slots free f waiting → At slots place (Full r) → PutsOver stamp r put number bytes result next → PutStep slots free f waiting rules stamp place next put number bytes result
put-step slots free f waiting rules stamp place r next put number bytes true stored full over =
    let e = over.0 in
    let one : IsOne r.state number bytes e = over.1 in
    let based : base_of e ≡ base_of r.state.value = one.reads.based in
    let made : Change slots free f rules stamp place r next waiting = change slots free f waiting waiting rules stamp place r next stored full (ap (λ (q : Record). q.state.name) over.4) (ap (λ (q : Record). waiting + length q.waiting) (sym over.4)) in
    record {
      stored = made.stored;
      cannot = λ no. absurd (let same : true ≡ false = no in cc);
      made = λ yes. record {
        e = e;
        takes = (r, seen-full slots place r full, (let counted = one.reads.counted in omega (arith, counted)), (let counted = one.reads.counted in let some = one.some in omega (arith, counted, some)));
        typed = ap base_number based ∙ one.typed;
        long = subst (λ (b : BaseType). least_size b 1 ≤ length bytes) (sym based) one.long;
        reads = subst (λ (b : BaseType). ReadsElements b 1 bytes e) (sym based) one.reads;
        begins = record { r = r; next = next; begins = put-applied stamp r put e next one.reads.valued based over.2 over.3 over.4; becomes = made.becomes };
      };
    }
put-step slots free f waiting rules stamp place r next put number bytes false stored full over =
    let made : Change slots free f rules stamp place r next waiting = change slots free f waiting waiting rules stamp place r next stored full (ap (λ (q : Record). q.state.name) over.1) (ap (λ (q : Record). waiting + length q.waiting) (sym over.1)) in
    record {
      stored = made.stored;
      cannot = λ no can.
          let one : can.r ≡ r = some_is can.r r (At-one (seen slots) place (Some can.r) (Some r) can.at (seen-full slots place r full)) in
          over.0 (subst (λ (q : Record). q.busy ≡ None) one can.free) (subst (λ (q : Record). q.state.slow ≡ true) one can.slow) (subst (λ (q : Record). CanReadOver number bytes q.state.value) one can.over);
      made = λ no. absurd (let same : false ≡ true = no in cc);
    }
