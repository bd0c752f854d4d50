use Rattle.std.proofs.Common.{List, Result, subst, sym}
use Rattle.ca_text.specs.declared.refusal.Refusal.{Refusal}
use Rattle.ca_dbr.specs.Elements.{elements}
use Rattle.ca_model.specs.Answers.{Sending}
use Rattle.ca_model.specs.ClientCalls.{ClientWrites}
use Rattle.ca_client_core.specs.Lives.{live_of}
use Rattle.ca_client_core.proofs.Faults.{same-error}
use Rattle.ca_client_core.proofs.Putting.{writes-done, writes-not}
use Rattle.ca_client_core.proofs.client.ClientCore.write.Goals as goal

pub returns-in_err-live : goal.returns-in_err-live
returns-in_err-live c =
    let x = c.args.self.now in
    let v = elements c.args.value.now in
    let e = c.in_err-live.field-0.0 in
    subst (λ (r : Result (Unit {0}) Refusal). (sent : List Sending) × ClientWrites x c.args.channel v r sent x) (sym (same-error c.from_residual.result e c.from_residual.ensures.1))
    (writes-not x c.args.channel v e c.in_err-live.ensures)

pub returns-in-Ok : goal.returns-in-Ok
returns-in-Ok c =
    writes-done c.args.self.now c.args.channel (elements c.args.value.now) (live_of c.in_ok-live.live) c.new.result c.queue_value.new.self c.in_ok-live.ensures.0 c.in_ok-live.ensures.1 c.new.ensures c.in-Ok.ensures.ok
