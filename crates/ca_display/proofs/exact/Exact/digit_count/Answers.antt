use Rattle.std.proofs.Common.{◌<◌, length, ◌∙◌, arith, tests}
use Rattle.ca_display.specs.Exact.{number_of}
use Rattle.ca_display.proofs.Roundings.{count-of-digits}
use Rattle.ca_display.proofs.exact.Exact.digit_count.Goals as goal

pub returns-clause-count : goal.returns-clause-count
returns-clause-count c =
    let ds = c.args.self.now.digits.items in
    let some : 0 < length ds = omega (arith, tests, c.if-is_empty.ensures) in
    c.len.ensures.value ∙ count-of-digits ds (number_of ds) c.args.self.now.places c.requires.digits some
