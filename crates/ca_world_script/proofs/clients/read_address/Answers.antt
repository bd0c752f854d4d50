use Rattle.std.proofs.Common.{◌≡◌, ℕ, List, sym, subst}
use Rattle.ca_text.specs.declared.refusal.Refusal.{Refusal}
use Rattle.ca_text.specs.declared.refusal.Refusal.TheVariants.{BadText}
use Rattle.ca_model.specs.Ends.{Address}
use Rattle.ca_script.specs.Lines.{SaysServer}
use Rattle.ca_script.proofs.Sayings.{handed-on}
use Rattle.ca_world_script.specs.Lines.{IsAddress}
use Rattle.ca_world_script.proofs.clients.read_address.Goals as goal

pub returns-in_err-host-clause-err : goal.returns-in_err-host-clause-err
returns-in_err-host-clause-err c =
    let why = c.in_err-host.ensures.err in
    handed-on c.from_residual.result c.in_err-host.field-0.0 (λ (e : Refusal). (e ≡ BadText) × ((a : Address) → IsAddress c.args.word.now a → ⊥)) c.from_residual.ensures.1
    (why.0, λ (a : Address) (h : IsAddress c.args.word.now a). why.1 a.host a.port (subst (λ (ws : List (List ℕ)). SaysServer ws a.host a.port) (sym c.new.ensures) h))
