use Rattle.std.proofs.Common.{◌≡◌, ℕ, [], ◌∷◌}
use Rattle.ca_text.specs.declared.refusal.Refusal.{Refusal}
use Rattle.ca_text.specs.declared.refusal.Refusal.TheVariants.{BadText}
use Rattle.ca_script.specs.Grammar.{AreNumbers}
use Rattle.ca_script.proofs.Sayings.{behind-first, handed-on, none-first}
use Rattle.ca_script.proofs.numbers.four_numbers.Goals as goal

pub returns-in_err-first-clause-err : goal.returns-in_err-first-clause-err
returns-in_err-first-clause-err c =
    handed-on c.from_residual.result c.in_err-first.field-0.0 (λ (e : Refusal). (e ≡ BadText) × ((k l m n : ℕ) → AreNumbers c.args.words (k ∷ l ∷ m ∷ n ∷ []) → ⊥)) c.from_residual.ensures.1
    (c.in_err-first.ensures.err.0, λ k l m n h. none-first c.args.words c.in_err-first.ensures.err.1 k (l ∷ m ∷ n ∷ []) h)

pub returns-in_err-second-clause-err : goal.returns-in_err-second-clause-err
returns-in_err-second-clause-err c =
    handed-on c.from_residual-in_err-second.result c.in_err-second.field-0.0 (λ (e : Refusal). (e ≡ BadText) × ((k l m n : ℕ) → AreNumbers c.args.words (k ∷ l ∷ m ∷ n ∷ []) → ⊥)) c.from_residual-in_err-second.ensures.1
    (c.in_err-second.ensures.err.0, λ k l m n h. none-first _ c.in_err-second.ensures.err.1 l (m ∷ n ∷ []) (behind-first c.args.words c.in_ok-first.ensures.ok.0 _ c.in_ok-first.ensures.ok.1 k (l ∷ m ∷ n ∷ []) h))
