use Rattle.std.proofs.Common.{List, ℕ, length, refl, sym, ap, subst, arith, ◌<◌}
use Rattle.std.specs.Prelude.{Result}
use Rattle.ca_text.specs.declared.refusal.Refusal.{Refusal}
use Rattle.ca_answer.specs.Engines.{EngineState, HasSent}
use Rattle.ca_answer.specs.Serving.{MakesRoom}
use Rattle.ca_answer.proofs.Servings.{room-emptied, room-made, room-stopped, room-unfinished, same-error}
use Rattle.ca_answer.proofs.Sizes.{pumped-size, sent-size}
use Rattle.ca_answer.proofs.engine.StreamEngine.make_room.Goals as goal

pub returns-in_err-flush-clause-makes : goal.returns-in_err-flush-clause-makes
returns-in_err-flush-clause-makes g c = λ rules states.
    subst (λ (r : Result (Unit {0}) Refusal). MakesRoom g.K.Sink.takes g.K.Sink.fault_count rules states c.args.sink.now c.flush.new.sink c.args.self.now c.flush.new.self c.flush.new.turns r)
    (sym (same-error c.from_residual.result c.in_err-flush.field-0.0 c.from_residual.ensures.1))
    (room-stopped g.K.Sink.takes g.K.Sink.fault_count rules states c.args.sink.now c.flush.new.sink c.args.self.now c.flush.new.self c.flush.new.turns c.in_err-flush.field-0.0 c.in_err-flush.ensures.hands)

pub returns-then-self-eq0-clause-makes : goal.returns-then-self-eq0-clause-makes
returns-then-self-eq0-clause-makes g c = λ rules states.
    let i = c.self.inside in
    let p = c.pump in
    let n : ℕ = length c.out_bytes.result.now in
    let mid : EngineState = record { core = i.core; circuit = i.circuit; waiting = i.waiting } in
    let new : EngineState = record { core = p.new.self; circuit = i.circuit; waiting = n } in
    let sent = subst (λ (z : EngineState). HasSent c.args.self.now z) (sym c.self.view_is) c.in_ok-flush.ensures.sent in
    let hands = c.in_ok-flush.ensures.hands in
    room-made g.K.Sink.takes g.K.Sink.fault_count rules states c.args.sink.now c.flush.new.sink c.args.self.now mid new p.ensures.0 n 0 hands.0 hands.1 sent p.ensures.1 (ap (λ (b : List ℕ). length b) c.out_bytes.ensures) refl

pub returns-then-self-eq0-clause-fewer : goal.returns-then-self-eq0-clause-fewer
returns-then-self-eq0-clause-fewer g c =
    let i = c.self.inside in
    let p = c.pump in
    let n : ℕ = length c.out_bytes.result.now in
    let mid : EngineState = record { core = i.core; circuit = i.circuit; waiting = i.waiting } in
    let new : EngineState = record { core = p.new.self; circuit = i.circuit; waiting = n } in
    let same = sent-size c.args.self.now mid (subst (λ (z : EngineState). HasSent c.args.self.now z) (sym c.self.view_is) c.in_ok-flush.ensures.sent) in
    let few = pumped-size mid new p.ensures.0 n refl p.ensures.1 in
    omega (arith, same, few)

pub returns-in_err-flush-2-clause-makes : goal.returns-in_err-flush-2-clause-makes
returns-in_err-flush-2-clause-makes g c = λ rules states.
    let i = c.self.inside in
    let p = c.pump in
    let n : ℕ = length c.out_bytes.result.now in
    let mid : EngineState = record { core = i.core; circuit = i.circuit; waiting = i.waiting } in
    let new : EngineState = record { core = p.new.self; circuit = i.circuit; waiting = n } in
    let sent = subst (λ (z : EngineState). HasSent c.args.self.now z) (sym c.self.view_is) c.in_ok-flush.ensures.sent in
    let hands = c.in_ok-flush.ensures.hands in
    let full : 0 < n = (let f = c.if-self-eq0.false in omega (arith, f)) in
    subst (λ (r : Result (Unit {0}) Refusal). MakesRoom g.K.Sink.takes g.K.Sink.fault_count rules states c.args.sink.now c.flush-2.new.sink c.args.self.now c.flush-2.new.self c.flush-2.new.turns r)
    (sym (same-error c.from_residual-in_err-flush-2.result c.in_err-flush-2.field-0.0 c.from_residual-in_err-flush-2.ensures.1))
    (room-unfinished g.K.Sink.takes g.K.Sink.fault_count rules states c.args.sink.now c.flush.new.sink c.flush-2.new.sink c.args.self.now mid new c.flush-2.new.self p.ensures.0 n c.flush-2.new.turns c.in_err-flush-2.field-0.0 hands.0 hands.1 sent p.ensures.1 (ap (λ (b : List ℕ). length b) c.out_bytes.ensures) refl full c.in_err-flush-2.ensures.hands)

pub returns-clause-makes : goal.returns-clause-makes
returns-clause-makes g c = λ rules states.
    let i = c.self.inside in
    let p = c.pump in
    let n : ℕ = length c.out_bytes.result.now in
    let mid : EngineState = record { core = i.core; circuit = i.circuit; waiting = i.waiting } in
    let new : EngineState = record { core = p.new.self; circuit = i.circuit; waiting = n } in
    let sent = subst (λ (z : EngineState). HasSent c.args.self.now z) (sym c.self.view_is) c.in_ok-flush.ensures.sent in
    let hands = c.in_ok-flush.ensures.hands in
    let again = c.in_ok-flush-2.ensures.hands in
    let full : 0 < n = (let f = c.if-self-eq0.false in omega (arith, f)) in
    room-emptied g.K.Sink.takes g.K.Sink.fault_count rules states c.args.sink.now c.flush.new.sink c.flush-2.new.sink c.args.self.now mid new c.flush-2.new.self p.ensures.0 n 0 hands.0 hands.1 sent p.ensures.1 (ap (λ (b : List ℕ). length b) c.out_bytes.ensures) refl full again.0 again.1 c.in_ok-flush-2.ensures.sent

pub returns-clause-fewer : goal.returns-clause-fewer
returns-clause-fewer g c =
    let i = c.self.inside in
    let p = c.pump in
    let n : ℕ = length c.out_bytes.result.now in
    let mid : EngineState = record { core = i.core; circuit = i.circuit; waiting = i.waiting } in
    let new : EngineState = record { core = p.new.self; circuit = i.circuit; waiting = n } in
    let same = sent-size c.args.self.now mid (subst (λ (z : EngineState). HasSent c.args.self.now z) (sym c.self.view_is) c.in_ok-flush.ensures.sent) in
    let few = pumped-size mid new p.ensures.0 n refl p.ensures.1 in
    let last = sent-size new c.flush-2.new.self c.in_ok-flush-2.ensures.sent in
    omega (arith, same, few, last)
