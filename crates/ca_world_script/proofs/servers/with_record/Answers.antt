use Rattle.std.proofs.Common.{List, ◌∷◌, ap, subst}
use Rattle.std.specs.Prelude.{codes}
use Rattle.ca_text.specs.declared.refusal.Refusal.{Refusal}
use Rattle.ca_script.specs.Grammar.{Refuses}
use Rattle.ca_script.proofs.Sayings.{handed-on}
use Rattle.ca_records.specs.Record.{RecordState}
use Rattle.ca_script.specs.Lines.{SaysRecord}
use Rattle.ca_world_script.specs.Servers.{TakesRecord}
use Rattle.ca_world_script.proofs.ServerLines.{record-unread}
use Rattle.ca_world_script.proofs.servers.with_record.Goals as goal

pub returns-in_err-read_record-clause-err : goal.returns-in_err-read_record-clause-err
returns-in_err-read_record-clause-err c =
    handed-on c.from_residual.result c.in_err-read_record.field-0.0 (λ (e : Refusal). Refuses (TakesRecord c.args.server (codes "record" ∷ c.args.words)) e) c.from_residual.ensures.1
    (record-unread c.args.server c.args.words c.in_err-read_record.field-0.0
    (subst (λ (rs : List RecordState). Refuses (SaysRecord c.args.words rs) c.in_err-read_record.field-0.0) (ap (λ s. s.records) c.server.view_is) c.in_err-read_record.ensures.err))
