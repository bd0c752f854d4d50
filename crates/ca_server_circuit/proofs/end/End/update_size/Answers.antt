use Rattle.std.proofs.Common.{None, Some, subst}
use Rattle.ca_model.specs.Server.{ServerEnd}
use Rattle.ca_server_circuit.specs.Concerned.{SizesAt}
use Rattle.ca_server_circuit.specs.Subscribing.{events_of}
use Rattle.ca_server_circuit.proofs.Sizes.{sizes-none, sizes-one}
use Rattle.ca_server_circuit.proofs.end.End.update_size.Goals as goal

pub returns-in_default : goal.returns-in_default
returns-in_default c =
    subst (λ (e : ServerEnd). SizesAt (events_of e) c.args.place c.args.index None) c.self.view_is (sizes-none c.self.inside.subscriptions c.args.place c.args.index c.in_default.ensures.gives)

pub returns : goal.returns
returns c =
    subst (λ (e : ServerEnd). SizesAt (events_of e) c.args.place c.args.index (Some c.payload_size.result)) c.self.view_is
    (sizes-one c.self.inside.subscriptions c.args.place c.args.index c.in-Some.wanted c.in-Some.update.now c.payload_size.result c.in-Some.ensures.gives c.payload_size.ensures)
