use Rattle.std.proofs.Common.{◌≡◌, ℕ}
use Rattle.ca_text.specs.declared.refusal.Refusal.{Refusal}
use Rattle.ca_text.specs.declared.refusal.Refusal.TheVariants.{BadText}
use Rattle.ca_script.specs.Lines.{IsFloat}
use Rattle.ca_script.proofs.Sayings.{handed-on}
use Rattle.ca_script.proofs.ElementRefusals.{no-float}
use Rattle.ca_script.proofs.element.U32Element.read.Goals as goal

pub returns-in_err-read_hex-clause-err : goal.returns-in_err-read_hex-clause-err
returns-in_err-read_hex-clause-err c =
    handed-on c.from_residual.result c.in_err-read_hex.field-0.0 (λ (e : Refusal). (e ≡ BadText) × ((x : ℕ) → IsFloat c.args.word.now x → ⊥)) c.from_residual.ensures.1
    (c.in_err-read_hex.ensures.err.0, no-float c.args.word.now c.in_err-read_hex.ensures.err.1)
