use Rattle.std.proofs.Common.{◌∙◌, sym, inl, inr}
use Rattle.ca_dgram.proofs.Readings.{not_whole-none}
use Rattle.ca_repeat.proofs.Fans.{some-test}
use Rattle.ca_repeat.proofs.Firsts.{blank-first, none-first, other-first, register-first, some-bytes}
use Rattle.ca_repeat.proofs.first.first_of.Goals as goal

pub returns-in_default : goal.returns-in_default
returns-in_default c = none-first c.args.bytes.now (some-bytes c.args.bytes.now (some-test _ c.if-is_empty.ensures)) (not_whole-none c.args.bytes.now c.read_one.result c.read_one.ensures c.in_default.not-Whole)

pub returns-then-header-number : goal.returns-then-header-number
returns-then-header-number c = register-first c.args.bytes.now c.in-Whole.head c.in-Whole.ensures (c.if-header-number.true ∙ c.number.ensures)

pub returns-then-header-number-2 : goal.returns-then-header-number-2
returns-then-header-number-2 c =
    other-first c.args.bytes.now c.in-Whole.head (some-bytes c.args.bytes.now (some-test _ c.if-is_empty.ensures)) c.in-Whole.ensures (λ e. c.if-header-number.false (e ∙ sym c.number.ensures)) (inl (λ e. c.if-header-number-2.true (e ∙ sym c.number-2.ensures)))

pub returns-then-header-ne0 : goal.returns-then-header-ne0
returns-then-header-ne0 c =
    other-first c.args.bytes.now c.in-Whole.head (some-bytes c.args.bytes.now (some-test _ c.if-is_empty.ensures)) c.in-Whole.ensures (λ e. c.if-header-number.false (e ∙ sym c.number.ensures)) (inr c.if-header-ne0.true)

pub returns : goal.returns
returns c = blank-first c.args.bytes.now c.in-Whole.head c.in-Whole.ensures (c.if-header-number-2.false ∙ c.number-2.ensures) c.if-header-ne0.false
