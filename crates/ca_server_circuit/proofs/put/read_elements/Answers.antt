use Rattle.std.proofs.Common.{◌≡◌, ◌≤◌, ◌/◌, ◌%◌, length, sym, ◌∙◌, arith}
use Rattle.std.proofs.lemmas.Bool.{eq-eqb}
use Rattle.ca_dbr.specs.Elements.{count_of, elements}
use Rattle.ca_dbr.specs.Reading.{least_size}
use Rattle.ca_dbr.specs.Types.{base_number}
use Rattle.ca_server_circuit.specs.Putting.{asked}
use Rattle.ca_server_circuit.proofs.Givens.{never-refused, no-early, put-reads}
use Rattle.ca_server_circuit.proofs.put.read_elements.Goals as goal

pub returns-in-Ok : goal.returns-in-Ok
returns-in-Ok c =
    let r = c.args.of.now in
    let m = asked c.args.wanted.now c.args.payload.now in
    let base = c.in-Some.base in
    let e = elements c.in-Ok.value in
    let read = c.in-Ok.ensures.read in
    let typed : base_number base ≡ m.data_type = c.in-Some.ensures in
    let some : m.count ≡ 0 → ⊥ = c.if-count-eq0.false in
    let within : m.count ≤ r.count = (let most = c.count.ensures.count in let le = c.if-count.false in omega (arith, most, le)) in
    let least : c.least_size.result ≡ least_size base m.count = c.least_size.ensures in
    let long : least_size base m.count ≤ length m.payload = (let le = c.if-payload-least_size.false in omega (arith, least, le)) in
    let put = put-reads r c.args.rights m base typed read.0 e c.in-Ok.field-0-1 (read.1 ∙ c.number.ensures) read.2 in
    let counted : count_of e ≡ m.count = put.reads.counted in (
      no-early r c.args.rights m base typed (eq-eqb (c.args.rights / 2 % 2) 1 c.if-rights-ne1.false) some within long,
      put,
      omega (arith, counted, some),
      omega (arith, counted, within),
    )

pub unreachable-requires : goal.unreachable-requires
unreachable-requires c =
    let base = c.in-Some.base in
    let w = c.args.wanted.now in
    let least : c.least_size.result ≡ least_size base w.count = c.least_size.ensures in
    let long : least_size base w.count ≤ length c.args.payload.now = (let le = c.if-payload-least_size.false in omega (arith, least, le)) in
    never-refused base c.number.result w.count c.args.payload.now c.in-Err.refusal (sym c.number.ensures) long c.in_default-refusal.not-OutOfMemory c.in-Err.ensures.refused
