-- What lines of a log say.
use Rattle.std.proofs.Common.{◌≡◌, ℕ, List, ◌++◌, sym, ap, ◌∙◌}
use Rattle.std.specs.Prelude.{codes}
use Rattle.std.proofs.lemmas.List.{append_assoc}
use Rattle.ca_dbr.specs.declared.value.Outcome.{Outcome}
use Rattle.ca_model.specs.History.{Intent}
use Rattle.ca_model.specs.History as history
use Rattle.ca_script.specs.Report.{counted}
use Rattle.ca_world_script.specs.Logs.{noticed_text, status_text}

-- a plain write that was refused
pub write-told : (intent : Intent) (channel n : ℕ) (o : Outcome) (a b t : List ℕ) → intent ≡ history.On channel (history.Request history.Write n) → a ≡ t ++ counted (codes " write_refused ") channel → b ≡ a ++ status_text o → b ≡ t ++ noticed_text intent o
write-told intent channel n o a b t is first second =
    second ∙ ap (λ (x : List ℕ). x ++ status_text o) first ∙ append_assoc t (counted (codes " write_refused ") channel) (status_text o) ∙ ap (λ (i : Intent). t ++ noticed_text i o) (sym is)
