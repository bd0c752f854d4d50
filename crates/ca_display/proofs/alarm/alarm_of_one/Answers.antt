use Rattle.std.proofs.Common.{ℕ, ◌∙◌, ap, sym, arith, tests, from_bits, Result}
use Rattle.std.specs.Float.{Float, binary64}
use Rattle.ca_text.specs.declared.refusal.Refusal.{Refusal}
use Rattle.ca_display.specs.declared.number.Number.{Number}
use Rattle.ca_dbr.specs.Data.{limits_of}
use Rattle.ca_display.specs.Alarm.{alarm_at, number_alarm}
use Rattle.ca_display.proofs.Alarms.{alarm-none, alarm-one, alarm-several}
use Rattle.ca_display.proofs.alarm.alarm_of_one.Goals as goal

pub returns-in_default : goal.returns-in_default
returns-in_default g c = sym (alarm-none (limits_of c.args.limits.now) g.S.Numeric.number c.args.items.now c.in_default.ensures.cases)

pub returns-then-not-is_empty : goal.returns-then-not-is_empty
returns-then-not-is_empty g c =
    sym (alarm-several (limits_of c.args.limits.now) g.S.Numeric.number c.args.items.now c.in-Some.item.now c.in-Some.others.now c.in-Some.ensures.cases.0 (omega (arith, tests, c.if-not-is_empty.ensures)))

pub returns-in-Err : goal.returns-in-Err
returns-in-Err g c =
    let limits = limits_of c.args.limits.now in
    let number = g.S.Numeric.number in
    sym (alarm-one limits number c.args.items.now c.in-Some.item.now c.in-Some.others.now c.in-Some.ensures.cases.0 (omega (arith, tests, c.if-not-is_empty.ensures)) ∙ ap (λ (r : Result Number Refusal). number_alarm limits r) (sym c.number.ensures ∙ c.in-Err.is))

pub returns-in-Ok : goal.returns-in-Ok
returns-in-Ok g c =
    let limits = limits_of c.args.limits.now in
    let one = alarm-one limits g.S.Numeric.number c.args.items.now c.in-Some.item.now c.in-Some.others.now c.in-Some.ensures.cases.0 (omega (arith, tests, c.if-not-is_empty.ensures)) ∙ ap (λ (r : Result Number Refusal). number_alarm limits r) (sym c.number.ensures ∙ c.in-Ok.is) in
    c.alarm_at.ensures ∙ ap (λ (x : Float). alarm_at limits x) (c.f64_from_bits_with_nan.ensures ∙ ap (λ (n : ℕ). from_bits binary64 n) c.to_double.ensures) ∙ sym one
