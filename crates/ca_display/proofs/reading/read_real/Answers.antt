use Rattle.std.proofs.Common.{ℕ, List, arith, sym, ap, ◌∙◌, take}
use Rattle.std.specs.Int.{w16}
use Rattle.std.proofs.lemmas.Int.{to_z-of_z}
use Rattle.std.proofs.lemmas.List.{take_rest}
use Rattle.ca_display.proofs.Readings.{real_read}
use Rattle.ca_display.proofs.reading.read_real.Goals as goal

pub returns-clause-read : goal.returns-clause-read
returns-clause-read c =
    let t = c.args.data_type in
    let bytes = c.args.bytes.now in
    let p = c.read_precision-precision in
    let r = c.in_ok-limits.ensures.read in
    real_read t.base t.form bytes _ p.result r.0 (omega (arith, c.requires)) (to_z-of_z w16 p.result p.ensures.fits) p.ensures.again p.ensures.fits (c.read_units-units.ensures ∙ ap (λ (x : List ℕ). take 8 x) (take_rest bytes 4)) (sym (take_rest bytes 12) ∙ r.1) r.2 r.3 r.4 r.5 c.new.ensures.items
