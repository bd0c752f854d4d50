use Rattle.std.proofs.Common.{◌≡◌, ℕ}
use Rattle.ca_text.specs.declared.refusal.Refusal.{Refusal}
use Rattle.ca_text.specs.declared.refusal.Refusal.TheVariants.{BadText}
use Rattle.ca_script.specs.Lines.{IsAddress}
use Rattle.ca_script.proofs.LineRefusals.{address-goes-on, no-first-octet, no-last-octet, no-second-octet, no-third-octet}
use Rattle.ca_script.proofs.Sayings.{handed-on}
use Rattle.ca_script.proofs.lines.address_in.Goals as goal

pub returns-in_err-a-clause-err : goal.returns-in_err-a-clause-err
returns-in_err-a-clause-err c =
    let why = c.in_err-a.ensures.err in
    handed-on c.from_residual.result c.in_err-a.field-0.0 (λ (e : Refusal). (e ≡ BadText) × ((address : ℕ) → IsAddress c.args.text.now address → ⊥)) c.from_residual.ensures.1
    (why.0, no-first-octet c.args.text.now _ c.new-parts.ensures why.1)

pub returns-in_err-b-clause-err : goal.returns-in_err-b-clause-err
returns-in_err-b-clause-err c =
    let why = c.in_err-b.ensures.err in
    handed-on c.from_residual-in_err-b.result c.in_err-b.field-0.0 (λ (e : Refusal). (e ≡ BadText) × ((address : ℕ) → IsAddress c.args.text.now address → ⊥)) c.from_residual-in_err-b.ensures.1
    (why.0, no-second-octet c.args.text.now _ _ _ c.new-parts.ensures c.in_ok-a.ensures.ok.1 why.1)

pub returns-in_err-c-clause-err : goal.returns-in_err-c-clause-err
returns-in_err-c-clause-err c =
    let why = c.in_err-c.ensures.err in
    handed-on c.from_residual-in_err-c.result c.in_err-c.field-0.0 (λ (e : Refusal). (e ≡ BadText) × ((address : ℕ) → IsAddress c.args.text.now address → ⊥)) c.from_residual-in_err-c.ensures.1
    (why.0, no-third-octet c.args.text.now _ _ _ _ _ c.new-parts.ensures c.in_ok-a.ensures.ok.1 c.in_ok-b.ensures.ok.1 why.1)

pub returns-in_err-d-clause-err : goal.returns-in_err-d-clause-err
returns-in_err-d-clause-err c =
    let why = c.in_err-d.ensures.err in
    handed-on c.from_residual-in_err-d.result c.in_err-d.field-0.0 (λ (e : Refusal). (e ≡ BadText) × ((address : ℕ) → IsAddress c.args.text.now address → ⊥)) c.from_residual-in_err-d.ensures.1
    (why.0, no-last-octet c.args.text.now _ _ _ _ _ _ _ c.new-parts.ensures c.in_ok-a.ensures.ok.1 c.in_ok-b.ensures.ok.1 c.in_ok-c.ensures.ok.1 why.1)

pub returns-in_err-end-clause-err : goal.returns-in_err-end-clause-err
returns-in_err-end-clause-err c =
    let why = c.in_err-end.ensures.err in
    handed-on c.from_residual-in_err-end.result c.in_err-end.field-0.0 (λ (e : Refusal). (e ≡ BadText) × ((address : ℕ) → IsAddress c.args.text.now address → ⊥)) c.from_residual-in_err-end.ensures.1
    (why.0, address-goes-on c.args.text.now _ _ _ _ _ _ _ _ _ c.new-parts.ensures c.in_ok-a.ensures.ok.1 c.in_ok-b.ensures.ok.1 c.in_ok-c.ensures.ok.1 c.in_ok-d.ensures.ok.1 why.1)
