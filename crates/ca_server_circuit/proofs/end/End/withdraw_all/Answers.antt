use Rattle.std.proofs.Common.{ap, arith, length}
use Rattle.ca_model.specs.Server.{ServerEnd}
use Rattle.ca_server_circuit.proofs.Walking.{walks-all}
use Rattle.ca_server_circuit.proofs.end.End.withdraw_all.Goals as goal

pub returns : goal.returns
returns c =
    let all = ap (λ (x : ServerEnd). length x.channels) c.self.view_is in
    walks-all c.loop-index.index c.args.circuit c.args.self.now.channels c.args.records.now c.loop-index.records c.requires
    (omega (arith, all, c.places-index-end.ensures, c.loop-index-test.false)) c.loop-index.invariant
