use Rattle.std.proofs.Common.{ℕ, [], ◌∷◌, subst}
use Rattle.ca_records.specs.Record.{RecordState}
use Rattle.ca_wire.specs.Messages.{read_request, status_reply}
use Rattle.ca_server_circuit.specs.Seeking.{IsServed}
use Rattle.ca_server_circuit.specs.Showing.{AnswersRead}
use Rattle.ca_server_circuit.proofs.Replying.{relinked, right-is, served-read, state-is, stray-read}
use Rattle.ca_server_circuit.proofs.end.End.read.Goals as goal

pub returns-in_ok-send_status-in-Stray-clause-ok : goal.returns-in_ok-send_status-in-Stray-clause-ok
returns-in_ok-send_status-in-Stray-clause-ok c port =
    let s = c.args.records.now in
    let e = c.args.self.now in
    let m = read_request c.args.wanted.now in
    stray-read port s e _ m c.in-Stray.field-0 c.in-Stray.ensures.seeks (relinked _ e c.send_status.new.link (status_reply m 410 ∷ []) c.self.view_is c.in_ok-send_status-in-Stray.ensures.ok)

pub returns-in_ok-answer-in-Served-clause-ok : goal.returns-in_ok-answer-in-Served-clause-ok
returns-in_ok-answer-in-Served-clause-ok c port =
    let s = c.args.records.now in
    let e = c.args.self.now in
    let m = read_request c.args.wanted.now in
    let at_sid : IsServed s e m.p1 c.in-Served.seat = c.in-Served.ensures.seeks in
    let right = right-is c.args.records.now c.args.self.now _ m.p1 c.in-Served.seat at_sid c.rights-rights.result _ _ _ c.at.result.now _ c.self.view_is c.deref.ensures.value c.deref-in-Served.ensures.value c.at.ensures.at c.state-record.ensures c.name.ensures c.rights-rights.ensures in
    let state = state-is s e m.p1 c.in-Served.seat at_sid c.at.result.now c.state-record.result.now c.at.ensures.at c.state-record.ensures in
    let did = c.in_ok-answer-in-Served.ensures.ok in
    let answers = subst (λ (n : ℕ). AnswersRead at_sid.r.state n m did.0) right (subst (λ (r : RecordState). AnswersRead r c.rights-rights.result m did.0) state did.1) in
    served-read port s e _ m did.0 c.in-Served.seat at_sid answers (relinked _ e c.answer.new.link (did.0 ∷ []) c.self.view_is did.2)
