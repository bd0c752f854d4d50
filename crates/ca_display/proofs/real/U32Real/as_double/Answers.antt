use Rattle.std.proofs.Common.{ap, ◌∙◌}
use lib.Ieee.{binary32, binary64, of_bits, to_bits}
use lib.Ieee.Bits.{of_bits-to_bits, of_bits-fits}
use lib.Ieee.Fits.{fits_widens}
use Rattle.ca_display.proofs.real.U32Real.as_double.Goals as goal

pub returns : goal.returns
returns c =
    let x = of_bits binary32 c.args.self in
    ap (of_bits binary64) (c.f64_to_bits_with_nan.ensures ∙ ap (to_bits binary64) (c.f32_to_f64_with_nan.ensures ∙ c.f32_from_bits_with_nan.ensures)) ∙ of_bits-to_bits binary64 x (fits_widens x (of_bits-fits binary32 c.args.self))
