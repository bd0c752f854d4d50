use Rattle.std.proofs.Common.{◌≡◌, ℕ, [], ◌∷◌}
use Rattle.ca_text.specs.declared.refusal.Refusal.{Refusal}
use Rattle.ca_text.specs.declared.refusal.Refusal.TheVariants.{BadText}
use Rattle.ca_script.specs.Grammar.{AreNumbers}
use Rattle.ca_script.proofs.Sayings.{behind-first, handed-on, no-numbers, none-first}
use Rattle.ca_script.proofs.numbers.one_number.Goals as goal

pub returns-in_err-number-clause-err : goal.returns-in_err-number-clause-err
returns-in_err-number-clause-err c =
    handed-on c.from_residual.result c.in_err-number.field-0.0 (λ (e : Refusal). (e ≡ BadText) × ((n : ℕ) → AreNumbers c.args.words (n ∷ []) → ⊥)) c.from_residual.ensures.1
    (c.in_err-number.ensures.err.0, λ n h. none-first c.args.words c.in_err-number.ensures.err.1 n [] h)

pub returns-in_err-end-clause-err : goal.returns-in_err-end-clause-err
returns-in_err-end-clause-err c =
    handed-on c.from_residual-in_err-end.result c.in_err-end.field-0.0 (λ (e : Refusal). (e ≡ BadText) × ((n : ℕ) → AreNumbers c.args.words (n ∷ []) → ⊥)) c.from_residual-in_err-end.ensures.1
    (c.in_err-end.ensures.err.0, λ n h. c.in_err-end.ensures.err.1 (no-numbers _ (behind-first c.args.words c.in_ok-number.ensures.ok.0 _ c.in_ok-number.ensures.ok.1 n [] h)))
