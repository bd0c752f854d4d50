use Rattle.std.proofs.Common.{◌≡◌, ◌∙◌, List, [], Some, ap, subst, sym}
use Rattle.ca_ids.specs.Table.{under}
use Rattle.ca_requests.specs.Meaning.{message_of}
use Rattle.ca_model.specs.Client.{Client, ClientCircuit}
use Rattle.ca_model.specs.Ends.{Address}
use Rattle.ca_wire.specs.Fields.{Fields}
use Rattle.ca_client_core.specs.declared.for_histories.Sending.{Sending}
use Rattle.ca_client_core.specs.ForHistories.{SendsNext}
use Rattle.ca_client_core.specs.Foretelling.{foretold}
use Rattle.ca_client_core.proofs.Foretold.{message-waits, no-message, sends-next, sends-some, tells-more}
use Rattle.ca_client_core.proofs.for_histories.sent_by_step.Goals as goal

pub returns-in_default-first : goal.returns-in_default-first
returns-in_default-first c =
    let x : Client = c.args.core.now in
    let d : ClientCircuit = c.in-Some.found.now in
    let there : Some d ≡ under x.circuits c.args.circuit = c.in-Some.ensures ∙ ap (λ (y : Client). under y.circuits c.args.circuit) c.core.view_is in
    let items : c.new-in_default-first.result.items ≡ [] = c.new-in_default-first.ensures.items in
    (subst (λ (z : List Sending). SendsNext x c.args.circuit z) (sym items) (no-message x c.args.circuit d c.first.result there c.first.ensures c.in_default-first.not-Message), λ none. items)

pub returns : goal.returns
returns c =
    let x : Client = c.args.core.now in
    let d : ClientCircuit = c.in-Some.found.now in
    let there : Some d ≡ under x.circuits c.args.circuit = c.in-Some.ensures ∙ ap (λ (y : Client). under y.circuits c.args.circuit) c.core.view_is in
    let from : Address = c.found.inside.address in
    let at : from ≡ d.address = ap (λ (e : ClientCircuit). e.address) c.found.view_is in
    let m : Fields = message_of c.in-Message.head.header [] in
    tells-more x c.args.circuit (foretold x c.args.circuit from m) c.sent_by.result
    (λ sent are. sends-next x c.args.circuit d from c.in-Message.head sent there at c.in-Message.ensures are)
    (sends-some x c.args.circuit d from c.in-Message.head there at c.in-Message.ensures)
    (message-waits x c.args.circuit d c.in-Message.head there c.in-Message.ensures)
    c.sent_by.ensures.ok
    c.sent_by.ensures.some
