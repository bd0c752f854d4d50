use Rattle.std.proofs.Common.{◌≡◌, ◌≢◌, ◌∙◌, ap, inl, rules, sym, true}
use Rattle.std.specs.Prelude.{is_some}
use Rattle.ca_dbr.specs.Elements.{base_of, elements}
use Rattle.ca_dbr.specs.Held.{display_of}
use Rattle.ca_records.proofs.Givens.{other-kind}
use Rattle.ca_world.proofs.Judgements.{other-shown, own-kind, some-mapped}
use Rattle.ca_world.proofs.judging.fits_in.Goals as goal

pub returns-then-ne-clause-faults : goal.returns-then-ne-clause-faults
returns-then-ne-clause-faults c fails =
    let other : base_of (elements c.args.value.now) ≢ base_of c.args.kept.now = search rules in
    inl (other-kind (elements c.args.value.now) c.args.kept.now other)

pub returns-then-is_some-clause-faults : goal.returns-then-is_some-clause-faults
returns-then-is_some-clause-faults c fails =
    let shown : is_some (display_of c.args.kept.now) ≡ true = ap (λ o. is_some o) (sym c.display.ensures) ∙ some-mapped _ c.display.result ∙ sym c.is_some.ensures ∙ c.if-is_some.true in
    inl (other-shown c.args.value.now c.args.kept.now shown)
