use Rattle.std.proofs.Common.{◌≡◌, ◌∙◌, List, ap, max}
use Rattle.ca_model.specs.Client.{Client, later}
use Rattle.ca_client_core.specs.declared.marks.CircuitMark.{CircuitMark}
use Rattle.ca_client_core.specs.Marks.{undone}
use Rattle.ca_client_core.proofs.Prepared.{tick-lacks, tick-so}
use Rattle.ca_client_core.proofs.client.ClientCore.tick.Goals as goal

pub returns-in-Ok : goal.returns-in-Ok
returns-in-Ok c =
    let x = c.args.self.now in
    let at : c.max.result ≡ later c.args.now x = c.max.ensures ∙ ap (λ (y : Client). max y.moment c.args.now) c.self.view_is in
    tick-so x c.set_moment.new.self c.plan.new.self c.carry_out.new.self c.args.now c.max.result c.in-Ok.plan c.carry_out.result at c.set_moment.ensures c.in-Ok.ensures.ok c.carry_out.ensures

pub returns : goal.returns
returns c =
    let x = c.args.self.now in
    let w = c.set_moment.new.self in
    let at : c.max.result ≡ later c.args.now x = c.max.ensures ∙ ap (λ (y : Client). max y.moment c.args.now) c.self.view_is in
    tick-lacks x w c.take_back.new.self c.set_moment-in-Err.new.self c.args.now c.max.result c.self.inside.moment at (ap (λ (y : Client). y.moment) c.self.view_is) c.set_moment.ensures c.in-Err.ensures.some
    (c.take_back.ensures
    ∙ ap (λ (ms : List CircuitMark). undone ms c.plan.new.self) c.deref.ensures.value
    ∙ c.in-Err.ensures.kept
    ∙ ap (λ (ms : List CircuitMark). undone ms w) c.new-marks.ensures.items)
    c.set_moment-in-Err.ensures
