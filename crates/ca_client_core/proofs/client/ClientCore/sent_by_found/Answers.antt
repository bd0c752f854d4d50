use Rattle.std.proofs.Common.{◌≡◌, ◌≢◌, ◌∙◌, [], Some, subst, sym}
use Rattle.ca_requests.specs.Meaning.{message_of}
use Rattle.ca_model.specs.Client.{Client}
use Rattle.ca_client_tables.specs.Foretelling.{creation_by}
use Rattle.ca_client_core.specs.Foretelling.{found_sent}
use Rattle.ca_client_core.proofs.Foretold.{creation-some, creation-there, on_err}
use Rattle.ca_client_core.proofs.client.ClientCore.sent_by_found.Goals as goal

pub returns-in_err-found-clause-some : goal.returns-in_err-found-clause-some
returns-in_err-found-clause-some c =
    let i = c.self.inside in
    let some : found_sent c.args.self.now c.args.from (message_of c.args.reply.now []) ≢ [] = subst (λ (y : Client). found_sent y c.args.from (message_of c.args.reply.now []) ≢ []) c.self.view_is (creation-some (creation_by i.channels i.circuits c.args.from (message_of c.args.reply.now [])) c.in_err-found.ensures.some) in
    on_err c.from_residual.result some

pub returns-clause-some : goal.returns-clause-some
returns-clause-some c =
    let i = c.self.inside in
    let there : creation_by i.channels i.circuits c.args.from (message_of c.args.reply.now []) ≡ Some c.in-Some.creation = sym c.in_ok-found.ensures.ok ∙ c.in-Some.is in
    let some : found_sent c.args.self.now c.args.from (message_of c.args.reply.now []) ≢ [] = subst (λ (y : Client). found_sent y c.args.from (message_of c.args.reply.now []) ≢ []) c.self.view_is (creation-there (creation_by i.channels i.circuits c.args.from (message_of c.args.reply.now [])) c.in-Some.creation there) in
    on_err c.one.result some
