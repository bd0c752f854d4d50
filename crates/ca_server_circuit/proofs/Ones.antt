-- A write of one element, which goes over the value of its record.
use Rattle.std.proofs.Common.{◌≡◌, ◌≤◌, ℕ, Bool, true, List, length, Ok, Option, arith, sym, subst}
use Rattle.ca_dbr.specs.Elements.{Elements, base_of, count_of}
use Rattle.ca_dbr.specs.Reading.{ReadsElements, least_size}
use Rattle.ca_dbr.specs.Types.{base_number}
use Rattle.ca_records.specs.declared.puts.Begun.TheVariants.{Applied}
use Rattle.ca_records.specs.declared.puts.Put.{Put}
use Rattle.ca_records.specs.Puts.{Record}
use Rattle.ca_records.specs.Rules.{may_write}
use Rattle.ca_records.specs.Store.{Store, TakesAt}
use Rattle.ca_records.specs.Writes.{Begins}
use Rattle.ca_wire.specs.Fields.{Fields}
use Rattle.ca_server_circuit.specs.Putting.{WritesTo}
use Rattle.ca_server_circuit.proofs.Givens.{no-early}
use Rattle.ca_server_circuit.proofs.Taken.{one-record}
use Rattle.ca_server_circuit.proofs.Types.{base-of-number}

pub writes-one : (old new : Store) (place rights : ℕ) (put : Option Put) (busies : Bool) (m : Fields) (e : Elements) → may_write rights ≡ true → m.count ≡ 1
    → TakesAt old place e → base_number (base_of e) ≡ m.data_type → least_size (base_of e) 1 ≤ length m.payload → ReadsElements (base_of e) 1 m.payload e → Begins old place put e (Ok (Applied busies)) new
    → WritesTo old place rights put m (Applied busies) new
writes-one old new place rights put busies m e may one takes typed long reads b =
    let counted : count_of e ≡ 1 = reads.counted in
    let same : takes.0 ≡ b.r = one-record old place takes.0 b.r takes.1 b.becomes.at in
    let within : count_of e ≤ b.r.state.count = subst (λ (r : Record). count_of e ≤ r.state.count) same takes.3 in
    let long_so : least_size (base_of e) m.count ≤ length m.payload = subst (λ (n : ℕ). least_size (base_of e) n ≤ length m.payload) (sym one) long in (
      b.r,
      b.next,
      record {
        e = e;
        no_early = no-early b.r.state rights m (base_of e) typed may (λ none. absurd (omega (arith, none, one))) (omega (arith, one, counted, within)) long_so;
        reads = record {
          base = base_of e;
          typed = base-of-number (base_of e) m.data_type typed;
          reads = subst (λ (n : ℕ). ReadsElements (base_of e) n m.payload e) (sym one) reads;
        };
        no_late = b.begins.1;
        v = b.begins.0;
        is = b.begins.2;
        takes = b.begins.3;
      },
      b.becomes,
    )
