use Rattle.std.proofs.Common.{◌<◌, length, List, arith, map, sym, ap, subst, ◌∙◌, Vec, Global}
use Rattle.ca_text.specs.Place.{At}
use Rattle.ca_model.specs.History as history
use Rattle.ca_model.specs.ClientEvents.{HandsOut}
use Rattle.ca_world_data.specs.declared.history.Line.{Line}
use Rattle.ca_world_data.specs.Seen.{intent_of, line_of}
use Rattle.ca_world_data.proofs.Handed.{log-here}
use Rattle.ca_world_data.proofs.Worlds.{found}
use Rattle.ca_world_data.proofs.handing.outcome_of.Goals as goal

pub returns : goal.returns
returns c =
    let logs : List (Vec Line Global) = c.args.logs.now in
    let log : Vec Line Global = c.index-logs-life.result in
    let within : c.args.life < length logs = omega (arith, c.if-life-logs.false) in
    let at : At logs c.args.life log = found logs c.args.life log log within c.index-logs-life.is in
    subst (λ (z : List history.Line). HandsOut z c.args.request (intent_of c.args.meant) c.outcome_in.result)
    (ap (map line_of) c.deref.ensures.value ∙ sym (log-here logs c.args.life log at)) c.outcome_in.ensures
