use Rattle.std.proofs.Common.{◌-◌, sym, ap, ◌∙◌, arith}
use Rattle.ca_queue.specs.Keys.{same}
use Rattle.ca_queue.specs.Ring.{waits}
use Rattle.ca_queue.proofs.Rounds.{last-before, last-nowhere, last-there}
use Rattle.ca_queue.proofs.event_queue.last_of.Goals as goal

pub returns-then-behind-length : goal.returns-then-behind-length
returns-then-behind-length g c =
    last-before c.args.key c.args.behind (waits c.args.ring.now) c.requires (omega (arith, c.if-behind-length.true, c.waiting-length.ensures))

pub returns-then-is_same : goal.returns-then-is_same
returns-then-is_same g c =
    last-there c.args.key c.args.behind (c.waiting-length.result - 1 - c.args.behind) c.key_of.ensures.0 (waits c.args.ring.now) c.requires
    (omega (arith, c.if-behind-length.false, c.waiting-length.ensures)) c.key_of.ensures.1 (ap (same c.args.key) (sym c.key_of.ensures.2) ∙ sym c.is_same.ensures ∙ c.if-is_same.true)

pub returns : goal.returns
returns g c =
    last-nowhere c.args.key c.args.behind (c.waiting-length.result - 1 - c.args.behind) c.key_of.ensures.0 (waits c.args.ring.now) c.requires
    (omega (arith, c.if-behind-length.false, c.waiting-length.ensures)) c.key_of.ensures.1 (ap (same c.args.key) (sym c.key_of.ensures.2) ∙ sym c.is_same.ensures ∙ c.if-is_same.false)
