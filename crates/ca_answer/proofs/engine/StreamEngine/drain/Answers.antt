use Rattle.std.proofs.Common.{Bool, List, [], refl, sym, ◌∙◌, subst, arith}
use Rattle.std.specs.Prelude.{Result, Ok}
use Rattle.ca_records.specs.Record.{RecordState}
use Rattle.ca_records.specs.Rules.{Rule}
use Rattle.ca_text.specs.declared.refusal.Refusal.{Refusal}
use Rattle.ca_answer.specs.Serving.{Comes, Drains}
use Rattle.ca_answer.proofs.Servings.{drains-stopped, same-error}
use Rattle.ca_answer.proofs.engine.StreamEngine.drain.Goals as goal

pub loop-init : goal.loop-init
loop-init g c = record {
  serves = λ rules states k0 bytes s. s;
  few = c.requires.few;
  rises = omega arith;
  within = c.requires.within;
  calls = refl;
  faults = refl;
}

pub answer_next-requires-clause-few : goal.answer_next-requires-clause-few
answer_next-requires-clause-few g c = c.loop.invariant.few

pub answer_next-requires-clause-within : goal.answer_next-requires-clause-within
answer_next-requires-clause-within g c = c.loop.invariant.within

pub answer_next-requires-clause-calls : goal.answer_next-requires-clause-calls
answer_next-requires-clause-calls g c = (let calls = c.loop.invariant.calls in let few = c.requires.calls in omega (arith, calls, few))

pub answer_next-requires-clause-faults : goal.answer_next-requires-clause-faults
answer_next-requires-clause-faults g c = (let same = c.loop.invariant.faults in let few = c.requires.faults in omega (arith, same, few))

pub returns-in_err-answer_next-clause-drains : goal.returns-in_err-answer_next-clause-drains
returns-in_err-answer_next-clause-drains g c = λ rules states.
    let loop = c.loop in
    let inv = loop.invariant in
    subst (λ (r : Result (Unit {0}) Refusal). Drains g.K.Sink.takes g.K.Sink.fault_count rules states c.args.sink.now c.answer_next.new.sink c.args.self.now c.answer_next.new.self c.answer_next.new.turns r)
    (sym (same-error c.from_residual.result c.in_err-answer_next.field-0.0 c.from_residual.ensures.1))
    (drains-stopped g.K.Sink.takes g.K.Sink.fault_count rules states c.args.sink.now loop.sink c.answer_next.new.sink c.args.self.now loop.self c.answer_next.new.self c.answer_next.new.turns c.in_err-answer_next.field-0.0 (inv.serves rules states) inv.faults (c.in_err-answer_next.ensures.comes rules states))

pub returns-in_err-answer_next-clause-rises : goal.returns-in_err-answer_next-clause-rises
returns-in_err-answer_next-clause-rises g c = (let before = c.loop.invariant.rises in let asked = c.in_err-answer_next.ensures.rises in omega (arith, before, asked))

pub returns-in_err-answer_next-clause-calls : goal.returns-in_err-answer_next-clause-calls
returns-in_err-answer_next-clause-calls g c = (let before = c.loop.invariant.calls in let asked = c.in_err-answer_next.ensures.calls in omega (arith, before, asked))

pub loop-smaller : goal.loop-smaller
loop-smaller g c = c.in_ok-answer_next.ensures.smaller c.if-branch.true

pub loop-preserved : goal.loop-preserved
loop-preserved g c =
    let loop = c.loop in
    let inv = loop.invariant in
    let come = λ (rules : List Rule) (states : List RecordState). subst (λ (b : Bool). Comes g.K.Sink.takes g.K.Sink.fault_count rules states loop.sink c.answer_next.new.sink loop.self c.answer_next.new.self c.answer_next.new.turns (Ok b)) c.if-branch.true (c.in_ok-answer_next.ensures.comes rules states) in
    record {
      serves = λ rules states k0 bytes s. (come rules states).1 k0 bytes (inv.serves rules states k0 bytes s);
      few = c.in_ok-answer_next.ensures.few;
      rises = (let asked = c.in_ok-answer_next.ensures.rises in let before = inv.rises in omega (arith, asked, before));
      within = c.in_ok-answer_next.ensures.within;
      calls = (let before = inv.calls in let called = c.in_ok-answer_next.ensures.calls in omega (arith, called, before));
      faults = (come [] []).0 ∙ inv.faults;
    }

pub returns-clause-drains : goal.returns-clause-drains
returns-clause-drains g c = λ rules states.
    let loop = c.loop in
    let inv = loop.invariant in
    let come = subst (λ (b : Bool). Comes g.K.Sink.takes g.K.Sink.fault_count rules states loop.sink c.answer_next.new.sink loop.self c.answer_next.new.self c.answer_next.new.turns (Ok b)) c.if-branch.false (c.in_ok-answer_next.ensures.comes rules states) in
    (come.0 ∙ inv.faults, λ k0 bytes s. come.1 k0 bytes (inv.serves rules states k0 bytes s))

pub returns-clause-rises : goal.returns-clause-rises
returns-clause-rises g c = (let before = c.loop.invariant.rises in let asked = c.in_ok-answer_next.ensures.rises in omega (arith, before, asked))

pub returns-clause-calls : goal.returns-clause-calls
returns-clause-calls g c = (let before = c.loop.invariant.calls in let asked = c.in_ok-answer_next.ensures.calls in omega (arith, before, asked))
