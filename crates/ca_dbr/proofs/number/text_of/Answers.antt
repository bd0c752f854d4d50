use Rattle.std.proofs.Common.{ℕ, ◌==◌, Bool, not, take, sym, ap, arith}
use Rattle.ca_dbr.proofs.Numbers.{prefix_at, text_of-all}
use Rattle.ca_dbr.proofs.number.text_of.Goals as goal

pub returns-then-byte-eq0-clause-text : goal.returns-then-byte-eq0-clause-text
returns-then-byte-eq0-clause-text c =
    let p : ℕ → Bool = λ b. not (b == 0) in
    ap (λ (n : ℕ). take n c.args.bytes.now) (prefix_at p c.args.bytes.now c.loop-i.i (omega arith) c.loop-i.invariant (ap p c.if-byte-eq0.true))

pub returns-clause-text : goal.returns-clause-text
returns-clause-text c = sym (text_of-all c.args.bytes.now (λ k h. c.loop-i.invariant k (omega arith)))
