-- What a write without a fault comes to.
use Rattle.std.proofs.Common.{◌≡◌, ℕ, ◌<◌, ◌≤◌, inl, Bool, true, false, not, if◌then◌else◌, IfOk, OnErr, nat_lt, None, Ok, Err, Option, Result, length, sym, ap, ◌∙◌}
use Rattle.std.specs.declared.alloc.AllocError.{AllocError}
use Rattle.ca_text.specs.Limits.{waiting_puts}
use Rattle.ca_dbr.specs.declared.value.Value.{Value}
use Rattle.ca_dbr.specs.Elements.{Elements, count_of, elements}
use Rattle.ca_dbr.specs.Held.{IsHeldValue, kind_of}
use Rattle.ca_records.specs.declared.puts.Begun.{Begun}
use Rattle.ca_records.specs.declared.puts.Begun.TheVariants.{Applied, Refused, Waiting}
use Rattle.ca_records.specs.Faults.{put_fault}
use Rattle.ca_records.specs.Judging.{converted_as}
use Rattle.ca_records.specs.Layout.{IsFit}
use Rattle.ca_records.specs.declared.puts.Put.{Put}
use Rattle.ca_records.specs.declared.puts.Stamp.{Stamp}
use Rattle.ca_records.specs.Puts.{Record}
use Rattle.ca_records.specs.Record.{IsRecord, RecordState}
use Rattle.ca_records.specs.Given.{given_as}
use Rattle.ca_records.specs.Writes.{BeginsOn, Takes, must_wait, write_fault}
use Rattle.ca_records.proofs.Givens.{given-counted, given-kind}
use Rattle.ca_records.proofs.Placings.{fault-given}

-- elements that fit a record fit it in its own type
pub is-fit : (s : RecordState) (e v : Elements) → IsRecord s → 0 < count_of e → count_of e ≤ s.count → given_as e (kind_of s.value) ≡ Ok v → IsHeldValue v → IsFit s v
is-fit s e v record_is some within made valued =
    let counted : count_of v ≡ count_of e = given-counted e (kind_of s.value) v made in
    record {
      holds = record { one = rw counted some; within = rw counted within; limit = record_is.value.limit };
      valued = valued;
      based = given-kind e (kind_of s.value) v made;
    }

-- the fault of the write, as it was judged
abbrev pub is_crowded : Record → Option Put → Bool
is_crowded r put = if must_wait r put then not (nat_lt (length r.waiting) waiting_puts) else false

pub judged-fault : (r : Record) (put : Option Put) (a : Value) (held : Elements) (crowded : Bool) (f : Option ℕ) → held ≡ r.state.value → crowded ≡ is_crowded r put → put_fault (converted_as (elements a) (kind_of held)) crowded ≡ f → write_fault r put (elements a) ≡ f
judged-fault r put a held crowded f same crowd fault =
    fault-given a r.state.value (is_crowded r put)
    ∙ ap (λ (h : Elements). put_fault (converted_as (elements a) (kind_of h)) (is_crowded r put)) (sym same)
    ∙ ap (λ (c : Bool). put_fault (converted_as (elements a) (kind_of held)) c) (sym crowd)
    ∙ fault

pub begins-taken : (s : Stamp) (r : Record) (put : Option Put) (e v : Elements) (result : Result Begun AllocError) (next : Record) → write_fault r put e ≡ None → given_as e (kind_of r.state.value) ≡ Ok v → IfOk result (λ begun. Takes s r put v begun next) → OnErr result ((must_wait r put ≡ true) × (next ≡ r)) → BeginsOn s r put e result next
begins-taken s r put e v (Ok (Applied true)) next fault made takes memory = (v, fault, made, takes)
begins-taken s r put e v (Ok (Applied false)) next fault made takes memory = (v, fault, made, takes)
begins-taken s r put e v (Ok Waiting) next fault made takes memory = (v, fault, made, takes)
begins-taken s r put e v (Ok (Refused status)) next fault made takes memory = absurd takes
begins-taken s r put e v (Err lack) next fault made takes memory = (fault, inl memory.0, memory.1)
