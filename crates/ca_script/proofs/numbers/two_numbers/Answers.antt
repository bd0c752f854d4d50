use Rattle.std.proofs.Common.{◌≡◌, ℕ, [], ◌∷◌}
use Rattle.ca_text.specs.declared.refusal.Refusal.{Refusal}
use Rattle.ca_text.specs.declared.refusal.Refusal.TheVariants.{BadText}
use Rattle.ca_script.specs.Grammar.{AreNumbers}
use Rattle.ca_script.proofs.Sayings.{handed-on, none-first}
use Rattle.ca_script.proofs.numbers.two_numbers.Goals as goal

pub returns-in_err-first-clause-err : goal.returns-in_err-first-clause-err
returns-in_err-first-clause-err c =
    handed-on c.from_residual.result c.in_err-first.field-0.0 (λ (e : Refusal). (e ≡ BadText) × ((m n : ℕ) → AreNumbers c.args.words (m ∷ n ∷ []) → ⊥)) c.from_residual.ensures.1
    (c.in_err-first.ensures.err.0, λ m n h. none-first c.args.words c.in_err-first.ensures.err.1 m (n ∷ []) h)
