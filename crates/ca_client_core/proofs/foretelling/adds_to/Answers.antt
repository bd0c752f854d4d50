use Rattle.ca_client_core.specs.Foretelling.{adds_sent}
use Rattle.ca_client_core.proofs.Foretold.{adds-next, adds-within, on_err}
use Rattle.ca_client_core.proofs.foretelling.adds_to.Goals as goal

pub returns-in_err-add_of-clause-some : goal.returns-in_err-add_of-clause-some
returns-in_err-add_of-clause-some c = on_err c.from_residual.result (adds-within c.args.circuit c.args.sid c.args.standing.now c.loop-index.index c.loop-index-test.true)

pub returns-in_err-push-clause-some : goal.returns-in_err-push-clause-some
returns-in_err-push-clause-some c = on_err c.from_residual-in_err-push.result (adds-within c.args.circuit c.args.sid c.args.standing.now c.loop-index.index c.loop-index-test.true)

pub loop-index-preserved : goal.loop-index-preserved
loop-index-preserved c =
    record {
      adds =
          adds-next c.args.circuit c.args.sid c.args.standing.now c.loop-index.index c.index-standing-index.result c.index-standing-index.result c.loop-index.adds.items c.in_ok-add_of.field-0 c.push.new.self.items
          (adds_sent c.args.circuit c.args.sid c.args.standing.now)
          c.loop-index-test.true c.index-standing-index.is c.in_ok-add_of.ensures c.in_ok-push.ensures.items c.loop-index.invariant.adds;
    }
