use Rattle.std.proofs.Common.{refl, subst, arith, ◌<◌, ◌≤◌}
use Rattle.std.specs.Prelude.{Result, Ok}
use Rattle.ca_text.specs.declared.refusal.Refusal.{Refusal}
use Rattle.ca_text.specs.Limits.{output_limit}
use Rattle.ca_server_core.specs.Counting.{PumpsCounting}
use Rattle.ca_answer.specs.Engines.{EngineState}
use Rattle.ca_answer.specs.Serving.{Pumped}
use Rattle.ca_answer.proofs.Servings.{pumped-few, pumped-room}
use Rattle.ca_answer.proofs.engine.StreamEngine.keep.Goals as goal

pub returns-then-waiting-ge-OUTPUT_LIMIT-clause-pumped : goal.returns-then-waiting-ge-OUTPUT_LIMIT-clause-pumped
returns-then-waiting-ge-OUTPUT_LIMIT-clause-pumped g c = λ rules states handled p.
    let old = c.args.self.now in
    let x : EngineState = record old { core = handled } in
    let full : output_limit ≤ c.args.waiting = (let f = c.if-waiting-ge-OUTPUT_LIMIT.true in omega (arith, f)) in
    pumped-room g.K.Sink.takes g.K.Sink.fault_count rules states c.args.sink.now c.make_room.new.sink x old c.make_room.new.self p.0.0 c.args.waiting c.make_room.new.turns c.make_room.result refl p.0.1 p.1 full (c.make_room.ensures.makes rules states)

pub returns-clause-pumped : goal.returns-clause-pumped
returns-clause-pumped g c = λ rules states handled p.
    let i = c.self.inside in
    let x : EngineState = record { core = handled; circuit = i.circuit; waiting = i.waiting } in
    let done : Result (Unit {0}) Refusal = Ok tt in
    let new : EngineState = record { core = i.core; circuit = i.circuit; waiting = c.max-self-inside.result } in
    let few : c.args.waiting < output_limit = (let f = c.if-waiting-ge-OUTPUT_LIMIT.false in omega (arith, f)) in
    (subst (λ (z : EngineState). PumpsCounting handled z.circuit c.args.waiting z.core → Pumped g.K.Sink.takes g.K.Sink.fault_count rules states c.args.sink.now c.args.sink.now (record z { core = handled }) new 0 done) c.self.view_is
    (λ q. pumped-few g.K.Sink.takes g.K.Sink.fault_count rules states c.args.sink.now x q.0.0 i.core c.args.waiting c.max-self-inside.result 0 q.0.1 q.1 few c.max-self-inside.ensures)) p
