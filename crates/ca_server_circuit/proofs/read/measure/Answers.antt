use Rattle.std.proofs.Common.{◌≡◌, ◌%◌, ◌<◌, ◌≤◌, ℕ, true, subst, arith}
use Rattle.std.proofs.lemmas.Bool.{eq-eqb, ne_eqb}
use Rattle.ca_text.specs.Limits.{payload_limit}
use Rattle.ca_dbr.specs.Elements.{Elements}
use Rattle.ca_display.specs.Image.{size_in}
use Rattle.ca_wire.specs.Messages.{read_request}
use Rattle.ca_model.specs.Faults.{too_many}
use Rattle.ca_server_circuit.specs.Showing.{HasImage, LacksImage}
use Rattle.ca_server_circuit.proofs.Shows.{fault-count, fault-right, fault-type, not-many, over-count, over-size}
use Rattle.ca_server_circuit.proofs.read.measure.Goals as goal

pub returns-in_default : goal.returns-in_default
returns-in_default c =
    let r = c.args.of.now in
    let m = read_request c.args.wanted.now in
    fault-type r c.args.rights m (subst (λ (e : Elements). LacksImage e m.data_type) c.held.ensures.held c.in_default.ensures)

pub returns-then-rights-ne1 : goal.returns-then-rights-ne1
returns-then-rights-ne1 c =
    let r = c.args.of.now in
    let m = read_request c.args.wanted.now in
    let is = subst (λ (e : Elements). HasImage e m.data_type c.count_of-count.result c.in-Some.size) c.held.ensures.held c.in-Some.ensures in
    fault-right r c.args.rights m is.t is.typed is.has (ne_eqb (c.args.rights % 2) 1 c.if-rights-ne1.true)

pub returns-then-count : goal.returns-then-count
returns-then-count c =
    let r = c.args.of.now in
    let m = read_request c.args.wanted.now in
    let n = c.count_of-count.result in
    let is = subst (λ (e : Elements). HasImage e m.data_type n c.in-Some.size) c.held.ensures.held c.in-Some.ensures in
    let over : r.count < n = (let e = c.count.ensures.count in let lt = c.if-count.true in omega (arith, e, lt)) in
    fault-count r c.args.rights m is.t is.typed is.has (eq-eqb (c.args.rights % 2) 1 c.if-rights-ne1.false) (subst (λ (k : ℕ). too_many r is.t k ≡ true) c.count_of-count.ensures.count (over-count r is.t n over))

pub returns-then-size-gt-PAYLOAD_LIMIT : goal.returns-then-size-gt-PAYLOAD_LIMIT
returns-then-size-gt-PAYLOAD_LIMIT c =
    let r = c.args.of.now in
    let m = read_request c.args.wanted.now in
    let n = c.count_of-count.result in
    let is = subst (λ (e : Elements). HasImage e m.data_type n c.in-Some.size) c.held.ensures.held c.in-Some.ensures in
    let over : payload_limit < size_in is.t n = (let e = is.sized in let lt = c.if-size-gt-PAYLOAD_LIMIT.true in omega (arith, e, lt)) in
    fault-count r c.args.rights m is.t is.typed is.has (eq-eqb (c.args.rights % 2) 1 c.if-rights-ne1.false) (subst (λ (k : ℕ). too_many r is.t k ≡ true) c.count_of-count.ensures.count (over-size r is.t n over))

pub returns : goal.returns
returns c =
    let r = c.args.of.now in
    let m = read_request c.args.wanted.now in
    let n = c.count_of-count.result in
    let is = subst (λ (e : Elements). HasImage e m.data_type n c.in-Some.size) c.held.ensures.held c.in-Some.ensures in
    let few : n ≤ r.count = (let e = c.count.ensures.count in let le = c.if-count.false in omega (arith, e, le)) in
    let small : size_in is.t n ≤ payload_limit = (let e = is.sized in let le = c.if-size-gt-PAYLOAD_LIMIT.false in omega (arith, e, le)) in (
      record { count = c.count_of-count.ensures.count; image = is; few = not-many r is.t n few small },
      eq-eqb (c.args.rights % 2) 1 c.if-rights-ne1.false,
    )
