use Rattle.std.proofs.Common.{◌++◌, ◌∙◌, ap, length, sym}
use Rattle.std.proofs.lemmas.Bool.{leb-false, leb-true}
use Rattle.ca_text.specs.Limits.{output_limit}
use Rattle.ca_model.specs.Server.{ServerEnd}
use Rattle.ca_server_circuit.specs.CircuitOutput.{behind, end_behind}
use Rattle.ca_server_circuit.proofs.Leaving.{full-one, grows-same, stays-behind}
use Rattle.ca_server_circuit.proofs.Pumps.{idle-one, lacks-first, leaves-first}
use Rattle.ca_server_circuit.proofs.end.End.pump_one.Goals as goal

pub returns-then-is_full-clause-pumps : goal.returns-then-is_full-clause-pumps
returns-then-is_full-clause-pumps c =
    let b = c.args.to.now.before in
    full-one _ c.args.self.now b c.self.view_is (leb-true output_limit (length (b ++ c.self.inside.link.output)) (sym c.is_full.ensures ∙ c.if-is_full.true))

pub returns-then-is_idle-clause-pumps : goal.returns-then-is_idle-clause-pumps
returns-then-is_idle-clause-pumps c =
    let b = c.args.to.now.before in
    idle-one (end_behind b _) (end_behind b c.args.self.now) (ap (λ (x : ServerEnd). end_behind b x) c.self.view_is) (c.is_idle.ensures c.if-is_idle.true)

pub returns-in_err-show-clause-pumps : goal.returns-in_err-show-clause-pumps
returns-in_err-show-clause-pumps c =
    let o = c.args.to.now in
    let e = c.in_err-show.ensures in
    lacks-first (end_behind o.before _) (end_behind o.before c.args.self.now) (behind c.show.new.to.before c.show.new.link) c.in-Some.wanted _ c.from_residual.result c.from_residual.ensures.0 (ap (λ (x : ServerEnd). end_behind o.before x) c.self.view_is)
    (leb-false output_limit (length (o.before ++ c.self.inside.link.output)) (sym c.if-is_full.ensures)) c.in-Some.ensures.gives e.some (stays-behind o c.show.new.to c.self.inside.link c.show.new.link e.err)

pub returns-clause-pumps : goal.returns-clause-pumps
returns-clause-pumps c =
    let o = c.args.to.now in
    let did = c.in_ok-show.ensures.ok in
    leaves-first (end_behind o.before _) (end_behind o.before c.args.self.now) (behind c.show.new.to.before c.show.new.link) c.drop_first.new.self c.in-Some.wanted _ did.0 (ap (λ (x : ServerEnd). end_behind o.before x) c.self.view_is)
    (leb-false output_limit (length (o.before ++ c.self.inside.link.output)) (sym c.if-is_full.ensures)) c.in-Some.ensures.gives c.drop_first.ensures did.1 did.2
