use Rattle.std.proofs.Common.{◌∙◌, [], refl}
use Rattle.ca_model.specs.Hears as hears
use Rattle.ca_model.specs.Hears.{doing}
use Rattle.ca_client_core.specs.Hearing.{completed}
use Rattle.ca_client_core.proofs.Dispatched.{reply-out}
use Rattle.ca_client_core.proofs.client.ClientCore.hear_reply.Goals as goal

pub returns-in_err-told : goal.returns-in_err-told
returns-in_err-told c =
    reply-out c.self.inside.user c.args.self.now c.args.circuit c.args.head.now c.in_err-told.field-0.0 c.from_residual.result c.complete.new.self c.requires.reply c.requires.first c.in_err-told.ensures c.from_residual.ensures.0

pub returns : goal.returns
returns c =
    (doing [] (completed c.in_ok-told.told) c.complete.new.self, hears.Reply c.requires.reply c.in_ok-told.ensures, c.one.ensures ∙ c.completed.ensures, refl)
