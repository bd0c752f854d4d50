use Rattle.std.proofs.Common.{◌≡◌, ◌<◌, ◌∷◌, ◌++◌, ℕ, List, [], inl, inr, refl, sym, ap, ◌∙◌, subst, arith, take, rules}
use Rattle.std.specs.Prelude.{Result, Err}
use Rattle.std.specs.List.{concat}
use Rattle.std.proofs.lemmas.List.{with_items_is}
use Rattle.ca_text.specs.declared.refusal.Refusal.{Refusal}
use Rattle.ca_text.specs.declared.refusal.Refusal.TheVariants.{OutOfMemory, Device}
use Rattle.ca_answer.specs.Answering.{Streams}
use Rattle.ca_answer.specs.Engines.{EngineState}
use Rattle.ca_answer.specs.Serving.{Serving}
use Rattle.ca_answer.proofs.Answerings.{breaks-first, breaks-read, breaks-rested, given-refused, reads-all, rested-given, rested-new, source-fails, streams-refused}
use Rattle.ca_answer.proofs.Servings.{moves-more, same-error}
use Rattle.ca_answer.proofs.stream.answer_stream.Goals as goal

pub returns-in_err-buffer-clause-answers : goal.returns-in_err-buffer-clause-answers
returns-in_err-buffer-clause-answers g c =
    subst (λ (r : Result (Unit {0}) Refusal). Streams g.S.Source.gives g.K.Sink.takes g.S.Source.call_count g.K.Sink.call_count g.S.Source.fault_count g.K.Sink.fault_count c.args.rules.items c.args.records.now c.args.source.now c.args.source.now c.args.sink.now c.args.sink.now r)
    (sym (same-error c.from_residual.result OutOfMemory c.from_residual.ensures.1))
    (breaks-first g.S.Source.gives g.K.Sink.takes g.S.Source.call_count g.K.Sink.call_count g.S.Source.fault_count g.K.Sink.fault_count c.args.rules.items c.args.records.now c.args.source.now c.args.sink.now)

pub returns-in_err-engine-clause-answers : goal.returns-in_err-engine-clause-answers
returns-in_err-engine-clause-answers g c =
    subst (λ (r : Result (Unit {0}) Refusal). Streams g.S.Source.gives g.K.Sink.takes g.S.Source.call_count g.K.Sink.call_count g.S.Source.fault_count g.K.Sink.fault_count c.args.rules.items c.args.records.now c.args.source.now c.args.source.now c.args.sink.now c.args.sink.now r)
    (sym (same-error c.from_residual-in_err-engine.result c.in_err-engine.field-0.0 c.from_residual-in_err-engine.ensures.1 ∙ ap (λ (e : Refusal). Err e) c.in_err-engine.ensures.err))
    (breaks-first g.S.Source.gives g.K.Sink.takes g.S.Source.call_count g.K.Sink.call_count g.S.Source.fault_count g.K.Sink.fault_count c.args.rules.items c.args.records.now c.args.source.now c.args.sink.now)

pub loop-turns-init : goal.loop-turns-init
loop-turns-init g c =
    record {
      chunks = ([], refl, rested-new g.K.Sink.takes c.args.rules.items c.args.records.now c.args.sink.now c.in_ok-engine.engine c.in_ok-engine.ensures.ok);
      within = omega arith;
      calls = omega arith;
      source_calls = omega arith;
      sink_calls = omega arith;
      source_faults = refl;
      sink_faults = refl;
      size = search rules;
    }

pub returns-in_err-n-clause-answers : goal.returns-in_err-n-clause-answers
returns-in_err-n-clause-answers g c =
    let inv = c.loop-turns.invariant in
    let came = inv.chunks in
    let risen : g.S.Source.fault_count c.args.source.now < g.S.Source.fault_count c.read.new.self = (let f = c.in_err-n.ensures.faults in let same = inv.source_faults in omega (arith, f, same)) in
    subst (λ (r : Result (Unit {0}) Refusal). Streams g.S.Source.gives g.K.Sink.takes g.S.Source.call_count g.K.Sink.call_count g.S.Source.fault_count g.K.Sink.fault_count c.args.rules.items c.args.records.now c.args.source.now c.read.new.self c.args.sink.now c.loop-turns.sink r)
    (sym (same-error c.from_residual-in_err-n.result Device c.from_residual-in_err-n.ensures.1))
    (inl (risen, source-fails g.S.Source.gives g.K.Sink.takes g.S.Source.call_count g.K.Sink.call_count g.S.Source.fault_count g.K.Sink.fault_count c.args.rules.items c.args.records.now c.args.source.now c.loop-turns.source c.args.sink.now c.loop-turns.sink came.0 c.loop-turns.engine came.1 came.2))

pub returns-then-n-eq0-clause-answers : goal.returns-then-n-eq0-clause-answers
returns-then-n-eq0-clause-answers g c =
    let inv = c.loop-turns.invariant in
    let came = inv.chunks in
    reads-all g.S.Source.gives g.K.Sink.takes g.S.Source.call_count g.K.Sink.call_count g.S.Source.fault_count g.K.Sink.fault_count c.args.rules.items c.args.records.now c.args.source.now c.loop-turns.source c.read.new.self c.args.sink.now c.loop-turns.sink came.0 c.loop-turns.engine came.1 (rw c.if-n-eq0.true at c.in_ok-n.ensures.given) came.2

pub returns-in_err-give-clause-answers : goal.returns-in_err-give-clause-answers
returns-in_err-give-clause-answers g c =
    let inv = c.loop-turns.invariant in
    let came = inv.chunks in
    let chunk : List ℕ = take c.in_ok-n.n c.read.new.buffer in
    let lacks = given-refused g.K.Sink.takes c.args.rules.items c.args.records.now c.args.sink.now c.loop-turns.sink (concat came.0) _ c.loop-turns.engine c.in_err-give.field-0.0 c.give.new.self.core came.2 c.in_err-give.ensures.gives in
    subst (λ (r : Result (Unit {0}) Refusal). Streams g.S.Source.gives g.K.Sink.takes g.S.Source.call_count g.K.Sink.call_count g.S.Source.fault_count g.K.Sink.fault_count c.args.rules.items c.args.records.now c.args.source.now c.read.new.self c.args.sink.now c.loop-turns.sink r)
    (sym (same-error c.from_residual-in_err-give.result c.in_err-give.field-0.0 c.from_residual-in_err-give.ensures.1 ∙ ap (λ (e : Refusal). Err e) lacks))
    (breaks-read g.S.Source.gives g.K.Sink.takes g.S.Source.call_count g.K.Sink.call_count g.S.Source.fault_count g.K.Sink.fault_count c.args.rules.items c.args.records.now c.args.source.now c.loop-turns.source c.read.new.self c.args.sink.now c.loop-turns.sink came.0 chunk c.loop-turns.engine came.1 c.in_ok-n.ensures.given came.2)

pub loop-turns-smaller : goal.loop-turns-smaller
loop-turns-smaller g c = (let a = c.in_ok-drain.ensures.rises in let b = c.in_ok-drain.ensures.within in omega arith)

pub loop-turns-preserved : goal.loop-turns-preserved
loop-turns-preserved g c =
    let inv = c.loop-turns.invariant in
    let came = inv.chunks in
    let chunk : List ℕ = take c.in_ok-n.n c.read.new.buffer in
    let same : c.deref.result.now ≡ c.read.new.buffer = c.deref.ensures.value ∙ with_items_is c.loop-turns.buffer c.read.new.buffer (c.read.auto.buffer ∙ c.deref_mut.ensures.len) in
    let moved = moves-more g.S.Source.gives c.args.source.now c.loop-turns.source c.read.new.self came.0 chunk came.1 c.in_ok-n.ensures.given in
    let serving = rested-given g.K.Sink.takes c.args.rules.items c.args.records.now c.args.sink.now c.loop-turns.sink came.0 chunk c.loop-turns.engine tt c.give.new.self.core came.2 (rw same at c.in_ok-give.ensures.gives) in
    let held = subst (λ (x : EngineState). Serving g.K.Sink.takes c.args.rules.items c.args.records.now c.args.sink.now (concat (came.0 ++ chunk ∷ [])) c.loop-turns.sink x) (sym c.in_ok-give.ensures.stays) serving in
    let drained = c.in_ok-drain.ensures.drains c.args.rules.items c.args.records.now in
    let read_calls = c.in_ok-n.ensures.calls in
    let read_faults = c.in_ok-n.ensures.faults in
    let drain_calls = c.in_ok-drain.ensures.calls in
    let before = inv.calls in
    record {
      chunks = (came.0 ++ chunk ∷ [], moved, drained.1 c.args.sink.now (concat (came.0 ++ chunk ∷ [])) held);
      within = c.in_ok-drain.ensures.within;
      calls = omega (arith, read_calls, drain_calls, before);
      source_calls = (let s = inv.source_calls in let r = c.in_ok-drain.ensures.rises in omega (arith, read_calls, s, r));
      sink_calls = (let s = inv.sink_calls in omega (arith, drain_calls, s));
      source_faults = (let s = inv.source_faults in omega (arith, read_faults, s));
      sink_faults = drained.0 ∙ inv.sink_faults;
      size = search rules;
    }

pub returns-in_err-drain-clause-answers : goal.returns-in_err-drain-clause-answers
returns-in_err-drain-clause-answers g c =
    let inv = c.loop-turns.invariant in
    let came = inv.chunks in
    let chunk : List ℕ = take c.in_ok-n.n c.read.new.buffer in
    let same : c.deref.result.now ≡ c.read.new.buffer = c.deref.ensures.value ∙ with_items_is c.loop-turns.buffer c.read.new.buffer (c.read.auto.buffer ∙ c.deref_mut.ensures.len) in
    let moved = moves-more g.S.Source.gives c.args.source.now c.loop-turns.source c.read.new.self came.0 chunk came.1 c.in_ok-n.ensures.given in
    let serving = rested-given g.K.Sink.takes c.args.rules.items c.args.records.now c.args.sink.now c.loop-turns.sink came.0 chunk c.loop-turns.engine tt c.give.new.self.core came.2 (rw same at c.in_ok-give.ensures.gives) in
    let held = subst (λ (x : EngineState). Serving g.K.Sink.takes c.args.rules.items c.args.records.now c.args.sink.now (concat (came.0 ++ chunk ∷ [])) c.loop-turns.sink x) (sym c.in_ok-give.ensures.stays) serving in
    let read_calls = c.in_ok-n.ensures.calls in
    let drain_calls = c.in_err-drain.ensures.calls in
    let before = inv.calls in
    subst (λ (r : Result (Unit {0}) Refusal). Streams g.S.Source.gives g.K.Sink.takes g.S.Source.call_count g.K.Sink.call_count g.S.Source.fault_count g.K.Sink.fault_count c.args.rules.items c.args.records.now c.args.source.now c.read.new.self c.args.sink.now c.drain.new.sink r)
    (sym (same-error c.from_residual-in_err-drain.result c.in_err-drain.field-0.0 c.from_residual-in_err-drain.ensures.1))
    (streams-refused g.S.Source.gives g.K.Sink.takes g.S.Source.call_count g.K.Sink.call_count g.S.Source.fault_count g.K.Sink.fault_count c.args.rules.items c.args.records.now c.args.source.now c.read.new.self c.args.sink.now c.loop-turns.sink c.drain.new.sink came.0 chunk c.loop-turns.engine c.give.new.self c.drain.new.self
    c.drain.new.turns c.in_err-drain.field-0.0 moved came.2 held inv.sink_faults (omega (arith, read_calls, drain_calls, before)) (c.in_err-drain.ensures.drains c.args.rules.items c.args.records.now))

pub returns-clause-answers : goal.returns-clause-answers
returns-clause-answers g c =
    let inv = c.loop-turns.invariant in
    let within = inv.within in
    let spent = c.loop-turns-test.false in
    let calls = inv.calls in
    inr (inr (omega (arith, within, spent, calls), breaks-rested g.S.Source.gives g.K.Sink.takes g.S.Source.call_count g.K.Sink.call_count g.S.Source.fault_count g.K.Sink.fault_count c.args.rules.items c.args.records.now c.args.source.now c.loop-turns.source c.args.sink.now c.loop-turns.sink inv.chunks.0 c.loop-turns.engine inv.chunks.1 inv.chunks.2))

pub drain-requires-clause-few : goal.drain-requires-clause-few
drain-requires-clause-few g c =
    let none = c.loop-turns.invariant.chunks.2.sent in
    let same = ap (λ (x : EngineState). x.waiting) c.in_ok-give.ensures.stays in
    omega (arith, none, same)
