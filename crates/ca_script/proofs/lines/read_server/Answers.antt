use Rattle.std.proofs.Common.{◌≡◌, ℕ}
use Rattle.ca_text.specs.declared.refusal.Refusal.{Refusal}
use Rattle.ca_text.specs.declared.refusal.Refusal.TheVariants.{BadText}
use Rattle.ca_script.specs.Lines.{SaysServer}
use Rattle.ca_script.proofs.LineRefusals.{no-address, no-place, no-server-host}
use Rattle.ca_script.proofs.Sayings.{handed-on}
use Rattle.ca_script.proofs.lines.read_server.Goals as goal

pub returns-in_err-word-clause-err : goal.returns-in_err-word-clause-err
returns-in_err-word-clause-err c =
    let why = c.in_err-word.ensures.err in
    handed-on c.from_residual.result c.in_err-word.field-0.0 (λ (e : Refusal). (e ≡ BadText) × ((address port : ℕ) → SaysServer c.args.words address port → ⊥)) c.from_residual.ensures.1
    (why.0, no-place c.args.words why.1)

pub returns-in_err-host-clause-err : goal.returns-in_err-host-clause-err
returns-in_err-host-clause-err c =
    let why = c.in_err-host.ensures.err in
    handed-on c.from_residual-in_err-host.result c.in_err-host.field-0.0 (λ (e : Refusal). (e ≡ BadText) × ((address port : ℕ) → SaysServer c.args.words address port → ⊥)) c.from_residual-in_err-host.ensures.1
    (why.0, no-server-host c.args.words _ _ _ c.in_ok-word.ensures.ok.0 c.new-parts.ensures why.1)

pub returns-in_err-address-clause-err : goal.returns-in_err-address-clause-err
returns-in_err-address-clause-err c =
    let why = c.in_err-address.ensures.err in
    handed-on c.from_residual-in_err-address.result c.in_err-address.field-0.0 (λ (e : Refusal). (e ≡ BadText) × ((address port : ℕ) → SaysServer c.args.words address port → ⊥)) c.from_residual-in_err-address.ensures.1
    (why.0, no-address c.args.words _ _ _ _ _ c.in_ok-word.ensures.ok.0 c.new-parts.ensures c.in_ok-host.ensures.ok.0 why.1)
