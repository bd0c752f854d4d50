use Rattle.std.proofs.Common.{ℤ, refl, ap, ◌∙◌}
use Rattle.std.specs.Fmt.{signed_decimal}
use Rattle.std.specs.Int.{w64}
use Rattle.std.proofs.lemmas.Int.{to_z-of_z}
use Rattle.ca_dbr.proofs.Numbers.{text_over}
use Rattle.ca_dbr.proofs.number.write_number.Goals as goal

pub returns : goal.returns
returns c = text_over c.copy_from_slice.new.self c.as_bytes-digits.result.now _ c.args.number c.copy_from_slice.ensures.after (c.as_bytes-digits.ensures.value ∙ c.format.ensures.text ∙ ap (λ (z : ℤ). signed_decimal z) (to_z-of_z w64 c.args.number c.ranges.number)) refl
