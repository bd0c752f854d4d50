use Rattle.std.proofs.Common.{◌∙◌, List, Result, ap, refl, subst, sym}
use Rattle.ca_text.specs.declared.refusal.Refusal.{Refusal}
use Rattle.ca_arena.specs.declared.handle.Handle.{Handle}
use Rattle.ca_dbr.specs.Elements.{elements}
use Rattle.ca_ids.specs.Table.{MayGive, is_full}
use Rattle.ca_ids.specs.Wire.{wire_of}
use Rattle.ca_model.specs.Answers.{Sending}
use Rattle.ca_model.specs.Client.{Client}
use Rattle.ca_model.specs.ClientCalls.{ClientPuts}
use Rattle.ca_client_core.specs.Lives.{live_of}
use Rattle.ca_client_core.proofs.Faults.{same-error}
use Rattle.ca_client_core.proofs.Putting.{puts-done, puts-full, puts-not, puts-out}
use Rattle.ca_model.proofs.Changes.{live-there}
use Rattle.ca_client_core.proofs.client.ClientCore.write_notify.Goals as goal

pub returns-in_err-live : goal.returns-in_err-live
returns-in_err-live c =
    let x = c.args.self.now in
    let v = elements c.args.value.now in
    let e = c.in_err-live.field-0.0 in
    subst (λ (r : Result Handle Refusal). (sent : List Sending) × ClientPuts x c.args.channel v r sent x) (sym (same-error c.from_residual.result e c.from_residual.ensures.1))
    (puts-not x c.args.channel v e c.in_err-live.ensures)

pub returns-in_default : goal.returns-in_default
returns-in_default c =
    let x = c.args.self.now in
    puts-full x c.args.channel (elements c.args.value.now) (live_of c.in_ok-live.live) c.in_ok-live.ensures.0 c.in_ok-live.ensures.1
    (sym (ap (λ (y : Client). is_full y.requests) c.self.view_is) ∙ c.in_default.ensures)

pub returns-in-Ok : goal.returns-in-Ok
returns-in-Ok c =
    puts-done c.args.self.now c.args.channel (elements c.args.value.now) (live_of c.in_ok-live.live) c.in-Some.request (wire_of c.in-Some.request) c.put.new.self c.in_ok-live.ensures.0 c.in_ok-live.ensures.1 refl c.in-Ok.ensures

pub returns-in-Err : goal.returns-in-Err
returns-in-Err c =
    let q = c.in-Some.request in
    puts-out c.args.self.now c.args.channel (elements c.args.value.now) q c.put.new.self c.in_ok-live.ensures.1 (subst (λ (y : Client). MayGive y.requests q) c.self.view_is c.in-Some.ensures) c.in-Err.ensures

pub put-requires-clause-live : goal.put-requires-clause-live
put-requires-clause-live c = live-there c.args.self.now c.args.channel (live_of c.in_ok-live.live) c.in_ok-live.ensures.0
