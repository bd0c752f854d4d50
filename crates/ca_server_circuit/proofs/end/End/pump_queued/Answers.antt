use Rattle.std.proofs.Common.{◌≡◌, ◌<◌, ◌++◌, List, Option, ap, length, sym, subst, ℕ}
use Rattle.ca_text.specs.Limits.{output_limit}
use Rattle.ca_model.specs.Server.{ServerEnd}
use Rattle.ca_model.specs.Speech.{Stored}
use Rattle.ca_server_circuit.specs.CircuitOutput.{behind, end_behind}
use Rattle.ca_server_circuit.proofs.Leaving.{stays-behind}
use Rattle.ca_server_circuit.proofs.Pumps.{lacks-any, lacks-one, leaves-one}
use Rattle.ca_server_subscriptions.specs.Pumping.{GivesUpdate}
use Rattle.ca_wire.specs.declared.requests.Wanted.{Wanted}
use Rattle.ca_server_circuit.proofs.end.End.pump_queued.Goals as goal

room : {v e : ServerEnd} (b : List ℕ) → v ≡ e → length (b ++ e.link.output) < output_limit → length (b ++ v.link.output) < output_limit
room {v} {e} b is lt = subst (λ (z : ServerEnd). length (b ++ z.link.output) < output_limit) (sym is) lt

pub returns-in_err-wanted-clause-pumps : goal.returns-in_err-wanted-clause-pumps
returns-in_err-wanted-clause-pumps c =
    let b = c.args.to.now.before in
    rw c.in_err-wanted.ensures.err
    (lacks-any (end_behind b _) (end_behind b c.args.self.now) c.from_residual.result c.from_residual.ensures.0 (ap (λ (x : ServerEnd). end_behind b x) c.self.view_is) (room b c.self.view_is c.requires.room) c.in_err-wanted.ensures.some)

pub returns-in_err-show-clause-pumps : goal.returns-in_err-show-clause-pumps
returns-in_err-show-clause-pumps c =
    let o = c.args.to.now in
    let e = c.in_err-show.ensures in
    let gives = subst (λ (x : Option (Wanted × Stored)). GivesUpdate c.self.inside.subscriptions x c.take.new.self) c.in-Some.is c.in_ok-wanted.ensures.gives in
    lacks-one (end_behind o.before _) (end_behind o.before c.args.self.now) (behind c.show.new.to.before c.show.new.link) c.take.new.self c.in-Some.wanted _ c.from_residual-in_err-show.result c.from_residual-in_err-show.ensures.0
    (ap (λ (x : ServerEnd). end_behind o.before x) c.self.view_is) (room o.before c.self.view_is c.requires.room) gives e.some (stays-behind o c.show.new.to c.self.inside.link c.show.new.link e.err)

pub returns-clause-pumps : goal.returns-clause-pumps
returns-clause-pumps c =
    let o = c.args.to.now in
    let gives = subst (λ (x : Option (Wanted × Stored)). GivesUpdate c.self.inside.subscriptions x c.take.new.self) c.in-Some.is c.in_ok-wanted.ensures.gives in
    let did = c.in_ok-show.ensures.ok in
    rw c.recycle.ensures
    (leaves-one (end_behind o.before _) (end_behind o.before c.args.self.now) (behind c.show.new.to.before c.show.new.link) c.take.new.self c.in-Some.wanted _ did.0 (ap (λ (x : ServerEnd). end_behind o.before x) c.self.view_is)
    (room o.before c.self.view_is c.requires.room) gives did.1 did.2)
