use Rattle.std.proofs.Common.{◌≡◌, [], None, Some, subst, sym}
use Rattle.ca_model.specs.Client.{Client}
use Rattle.ca_model.specs.Hears.{Fails, doing, failing}
use Rattle.ca_client_core.specs.First.{first_on, without_first}
use Rattle.ca_client_core.specs.Notices.{noticed}
use Rattle.ca_client_core.proofs.Quoted.{error-none, error-quotes}
use Rattle.ca_client_core.proofs.client.ClientCore.hear_error.Goals as goal

pub returns-in-Some : goal.returns-in-Some
returns-in-Some c =
    let m = first_on c.args.self.now c.args.circuit c.args.head.now in
    let e = doing [] (noticed c.hear_failed.result) c.hear_failed.new.self in
    error-quotes (without_first c.args.circuit c.args.head.now c.args.self.now) c.args.circuit m e c.in-Some.request c.in-Some.ensures
    (subst (λ (y : Client). e ≡ failing y c.args.circuit m c.in-Some.request.header) c.take.ensures c.hear_failed.ensures)

pub returns-in-None : goal.returns-in-None
returns-in-None c =
    let y = without_first c.args.circuit c.args.head.now c.args.self.now in
    let m = first_on c.args.self.now c.args.circuit c.args.head.now in
    subst (λ (z : Client). Fails y c.args.circuit m (doing [] [] z)) (sym c.take.ensures) (error-none y c.args.circuit m c.in-None.ensures)
