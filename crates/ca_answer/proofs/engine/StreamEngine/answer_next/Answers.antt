use Rattle.std.proofs.Common.{◌≡◌, Bool, ℕ, take, refl, sym, ap, subst, arith}
use Rattle.std.specs.Prelude.{Result, Err}
use Rattle.ca_arena.specs.declared.handle.Handle.{Handle}
use Rattle.ca_text.specs.declared.refusal.Refusal.{Refusal}
use Rattle.ca_server_circuit.specs.Stepping.{why_is}
use Rattle.ca_server_core.specs.Counting.{PumpsCounting}
use Rattle.ca_answer.specs.Engines.{EngineState}
use Rattle.ca_answer.specs.Serving.{Comes, Goes, Hands}
use Rattle.ca_answer.proofs.Servings.{closes-comes, comes-handled, comes-left, comes-stopped, comes-unpumped, rests, same-error}
use Rattle.ca_answer.proofs.Sizes.{pumped-size, stepped-size}
use Rattle.ca_answer.proofs.engine.StreamEngine.answer_next.Goals as goal

pub returns-in_err-keep-in-Handled-clause-comes : goal.returns-in_err-keep-in-Handled-clause-comes
returns-in_err-keep-in-Handled-clause-comes g c = λ rules states.
    let did = c.in-Handled.ensures.served in
    let mid : EngineState = record c.serve_next.new.self { core = did.0 } in
    let same : mid ≡ (let x : EngineState = record c.args.self.now { core = did.0 } in x) = ap (λ (z : EngineState). let x : EngineState = record z { core = did.0 } in x) c.serve_next.ensures.stays in
    let here = ap (λ (z : EngineState). z.circuit) c.serve_next.ensures.stays in
    let pumps = subst (λ (h : Handle). PumpsCounting did.0 h c.serve_next.new.waiting c.serve_next.new.self.core) (sym here) did.2 in
    subst (λ (r : Result Bool Refusal). Comes g.K.Sink.takes g.K.Sink.fault_count rules states c.args.sink.now c.keep.new.sink c.args.self.now c.keep.new.self c.keep.new.turns r)
    (sym (same-error c.from_residual.result c.in_err-keep-in-Handled.field-0.0 c.from_residual.ensures.1))
    (comes-unpumped g.K.Sink.takes g.K.Sink.fault_count rules states c.args.sink.now c.keep.new.sink c.args.self.now mid c.keep.new.self c.keep.new.turns c.in_err-keep-in-Handled.field-0.0 same did.1 (c.in_err-keep-in-Handled.ensures.pumped rules states did.0 pumps))

pub returns-in_err-hand_left-in-Closed-clause-comes : goal.returns-in_err-hand_left-in-Closed-clause-comes
returns-in_err-hand_left-in-Closed-clause-comes g c = λ rules states.
    let same = ap (λ (z : EngineState). z.waiting) c.serve_next.ensures.stays in
    let e = c.in_err-hand_left-in-Closed.field-0.0 in
    let hands = subst (λ (n : ℕ). Hands g.K.Sink.takes g.K.Sink.fault_count c.args.sink.now (take n c.in-Closed.left) c.hand_left.new.sink c.hand_left.new.turns (Err e)) same c.in_err-hand_left-in-Closed.ensures.hands in
    subst (λ (r : Result Bool Refusal). Comes g.K.Sink.takes g.K.Sink.fault_count rules states c.args.sink.now c.hand_left.new.sink c.args.self.now c.serve_next.new.self c.hand_left.new.turns r)
    (sym (same-error c.from_residual-in_err-hand_left-in-Closed.result e c.from_residual-in_err-hand_left-in-Closed.ensures.1))
    (comes-left g.K.Sink.takes g.K.Sink.fault_count rules states c.args.sink.now c.hand_left.new.sink c.args.self.now c.serve_next.new.self c.serve_next.new.self.core (why_is c.in-Closed.cause) c.in-Closed.left c.hand_left.new.turns e c.in-Closed.ensures.served hands)

pub returns-in_err-flush-in-NeedBytes-clause-comes : goal.returns-in_err-flush-in-NeedBytes-clause-comes
returns-in_err-flush-in-NeedBytes-clause-comes g c = λ rules states.
    subst (λ (r : Result Bool Refusal). Comes g.K.Sink.takes g.K.Sink.fault_count rules states c.args.sink.now c.flush.new.sink c.args.self.now c.flush.new.self c.flush.new.turns r)
    (sym (same-error c.from_residual-in_err-flush-in-NeedBytes.result c.in_err-flush-in-NeedBytes.field-0.0 c.from_residual-in_err-flush-in-NeedBytes.ensures.1))
    (comes-stopped g.K.Sink.takes g.K.Sink.fault_count rules states c.args.sink.now c.flush.new.sink c.args.self.now c.serve_next.new.self c.flush.new.self c.serve_next.new.self.core c.flush.new.turns c.in_err-flush-in-NeedBytes.field-0.0 c.in-NeedBytes.ensures.served c.serve_next.ensures.stays c.in_err-flush-in-NeedBytes.ensures.hands)

pub returns-in_ok-keep-in-Handled-clause-comes : goal.returns-in_ok-keep-in-Handled-clause-comes
returns-in_ok-keep-in-Handled-clause-comes g c = λ rules states.
    let did = c.in-Handled.ensures.served in
    let mid : EngineState = record c.serve_next.new.self { core = did.0 } in
    let same : mid ≡ (let x : EngineState = record c.args.self.now { core = did.0 } in x) = ap (λ (z : EngineState). let x : EngineState = record z { core = did.0 } in x) c.serve_next.ensures.stays in
    let here = ap (λ (z : EngineState). z.circuit) c.serve_next.ensures.stays in
    let pumps = subst (λ (h : Handle). PumpsCounting did.0 h c.serve_next.new.waiting c.serve_next.new.self.core) (sym here) did.2 in
    comes-handled g.K.Sink.takes g.K.Sink.fault_count rules states c.args.sink.now c.keep.new.sink c.args.self.now mid c.keep.new.self c.keep.new.turns same did.1 (c.in_ok-keep-in-Handled.ensures.pumped rules states did.0 pumps)

pub returns-in_ok-keep-in-Handled-clause-smaller : goal.returns-in_ok-keep-in-Handled-clause-smaller
returns-in_ok-keep-in-Handled-clause-smaller g c = λ more.
    let did = c.in-Handled.ensures.served in
    let mid : EngineState = record c.serve_next.new.self { core = did.0 } in
    let same : mid ≡ (let x : EngineState = record c.args.self.now { core = did.0 } in x) = ap (λ (z : EngineState). let x : EngineState = record z { core = did.0 } in x) c.serve_next.ensures.stays in
    let here = ap (λ (z : EngineState). z.circuit) c.serve_next.ensures.stays in
    let pumps = subst (λ (h : Handle). PumpsCounting did.0 h c.serve_next.new.waiting c.serve_next.new.self.core) (sym here) did.2 in
    let less = stepped-size c.args.self.now mid same did.1 in
    let pumped = pumped-size mid c.serve_next.new.self pumps.0.0 c.serve_next.new.self.waiting refl pumps.0.1 in
    let few = c.in_ok-keep-in-Handled.ensures.fewer in
    omega (arith, less, pumped, few)

pub returns-in_ok-hand_left-in-Closed-clause-comes : goal.returns-in_ok-hand_left-in-Closed-clause-comes
returns-in_ok-hand_left-in-Closed-clause-comes g c = λ rules states.
    let same = ap (λ (z : EngineState). z.waiting) c.serve_next.ensures.stays in
    let hands = c.in_ok-hand_left-in-Closed.ensures.hands in
    let goes = subst (λ (n : ℕ). Goes g.K.Sink.takes c.args.sink.now (take n c.in-Closed.left) c.hand_left.new.sink) same hands.1 in
    subst (λ (e : Refusal). Comes g.K.Sink.takes g.K.Sink.fault_count rules states c.args.sink.now c.hand_left.new.sink c.args.self.now c.serve_next.new.self c.hand_left.new.turns (Err e)) (sym c.refusal_of.ensures)
    (closes-comes g.K.Sink.takes g.K.Sink.fault_count rules states c.args.sink.now c.hand_left.new.sink c.args.self.now c.serve_next.new.self c.serve_next.new.self.core c.in-Closed.left goes (why_is c.in-Closed.cause) c.hand_left.new.turns hands.0 c.in-Closed.ensures.served)

pub returns-in_ok-flush-in-NeedBytes-clause-comes : goal.returns-in_ok-flush-in-NeedBytes-clause-comes
returns-in_ok-flush-in-NeedBytes-clause-comes g c = λ rules states.
    let hands = c.in_ok-flush-in-NeedBytes.ensures.hands in
    (hands.0, rests g.K.Sink.takes g.K.Sink.fault_count rules states c.args.sink.now c.flush.new.sink c.args.self.now c.serve_next.new.self c.flush.new.self c.serve_next.new.self.core c.in-NeedBytes.ensures.served c.serve_next.ensures.stays hands.1 c.in_ok-flush-in-NeedBytes.ensures.sent)
