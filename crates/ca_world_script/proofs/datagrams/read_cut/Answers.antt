use Rattle.ca_text.specs.declared.refusal.Refusal.{Refusal}
use Rattle.ca_script.specs.Grammar.{Refuses}
use Rattle.ca_script.proofs.Sayings.{handed-on}
use Rattle.ca_world_script.specs.Events.{SaysCut}
use Rattle.ca_world_script.proofs.EventRefusals.{cut-unended}
use Rattle.ca_world_script.proofs.datagrams.read_cut.Goals as goal

pub returns-in_err-end-clause-err : goal.returns-in_err-end-clause-err
returns-in_err-end-clause-err c =
    handed-on c.from_residual-in_err-end.result c.in_err-end.field-0.0 (λ (e : Refusal). Refuses (SaysCut c.args.words) e) c.from_residual-in_err-end.ensures.1
    (cut-unended c.args.words _ _ _ c.in_ok-circuit.ensures.ok.1 c.in_err-end.ensures.err)
