use Rattle.std.proofs.Common.{◌≡◌, ℕ}
use Rattle.ca_text.specs.declared.refusal.Refusal.{Refusal}
use Rattle.ca_text.specs.declared.refusal.Refusal.TheVariants.{BadText}
use Rattle.ca_script.specs.Lines.{IsDouble}
use Rattle.ca_script.proofs.Sayings.{handed-on}
use Rattle.ca_script.proofs.ElementRefusals.{no-double}
use Rattle.ca_script.proofs.element.U64Element.read.Goals as goal

pub returns-in_err-read_hex-clause-err : goal.returns-in_err-read_hex-clause-err
returns-in_err-read_hex-clause-err c =
    handed-on c.from_residual.result c.in_err-read_hex.field-0.0 (λ (e : Refusal). (e ≡ BadText) × ((x : ℕ) → IsDouble c.args.word.now x → ⊥)) c.from_residual.ensures.1
    (c.in_err-read_hex.ensures.err.0, no-double c.args.word.now c.in_err-read_hex.ensures.err.1)
