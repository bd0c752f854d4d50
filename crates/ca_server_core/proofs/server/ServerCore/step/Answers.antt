use Rattle.std.proofs.Common.{◌≡◌, ◌∙◌, false, length, refl, sym, ap}
use Rattle.ca_wire.specs.Fields.{Fields}
use Rattle.ca_model.specs.Due.{Action}
use Rattle.ca_ids.specs.Table.{Table, under}
use Rattle.ca_model.specs.Server.{Server, ServerCircuit}
use Rattle.ca_model.specs.ServerSteps.{output_of}
use Rattle.ca_records.specs.Store.{records_of}
use Rattle.ca_server_core.proofs.Covered.{covers-thinned}
use Rattle.ca_server_core.proofs.Effects.{told-as, tells-by, tells-none}
use Rattle.ca_server_core.proofs.Followed.{broke-thins, made-followed-by, none-thins, settled-sound, settled-thins, step-covers, step-led, viewed-followed}
use Rattle.ca_server_core.proofs.Led.{led-thinned}
use Rattle.ca_server_core.proofs.Noted.{broke-closes, none-closes}
use Rattle.ca_server_core.proofs.Listed.{listed-broke, listed-none, listed-step}
use Rattle.ca_server_core.proofs.Served.{quiet-is}
use Rattle.ca_server_circuit.specs.Circuits.{is_open}
use Rattle.ca_server_circuit.specs.Effects.{effect_due}
use Rattle.ca_server_circuit.specs.Handling.{effect_of}
use Rattle.ca_server_core.proofs.Stepped.{broke-sound, handled-open, handled-settles, none-sound, step-sound, viewed-broke, viewed-none}
use Rattle.ca_server_circuit.specs.declared.step.FollowUp.TheVariants.{Quiet}
use Rattle.ca_server_circuit.specs.declared.effect.Effect.TheVariants as told
use Rattle.ca_server_core.specs.declared.stepping.CoreStep.TheVariants as own
use Rattle.ca_server_core.proofs.server.ServerCore.step.Goals as goal

pub invariant_of-self : goal.invariant_of-self
invariant_of-self c =
    let i = c.self.inside in
    let quiet = quiet-is c.in-Some-Handled.left (sym c.is_quiet.ensures ∙ c.if-is_quiet.true) in
    let did = rw quiet.1 at (rw c.in-Some-Handled.field-0-is at c.in-Some-Handled.ensures.steps) in
    record {
      sound = step-sound i.port i.records c.step_on.new.records i.circuits c.step_on.new.circuits c.args.circuit (Quiet quiet.0) did c.self.invariant.sound;
      covered = step-covers i.port i.watchers i.records c.step_on.new.records i.circuits c.step_on.new.circuits c.args.circuit (Quiet quiet.0) did c.self.invariant.covered;
      listed = listed-step i.port i.records c.step_on.new.records i.circuits c.step_on.new.circuits c.args.circuit (Quiet quiet.0) i.watchers did c.self.invariant.listed;
      led = step-led i.port i.leading i.records c.step_on.new.records i.circuits c.step_on.new.circuits c.args.circuit (Quiet quiet.0) did (listed-step i.port i.records c.step_on.new.records i.circuits c.step_on.new.circuits c.args.circuit (Quiet quiet.0) i.leading did c.self.invariant.led.listed) c.self.invariant.led;
    }

pub returns-then-is_quiet-clause-steps : goal.returns-then-is_quiet-clause-steps
returns-then-is_quiet-clause-steps c =
    let i = c.self.inside in
    let u = c.step_on.new in
    let quiet = quiet-is c.in-Some-Handled.left (sym c.is_quiet.ensures ∙ c.if-is_quiet.true) in
    let did = rw quiet.1 at (rw c.in-Some-Handled.field-0-is at c.in-Some-Handled.ensures.steps) in
    let long = c.in-Some-Handled.ensures.waited ∙ ap (λ (z : Server). length (output_of (under z.circuits c.args.circuit))) c.self.view_is in
    let sound = step-sound i.port i.records u.records i.circuits u.circuits c.args.circuit (Quiet quiet.0) did c.self.invariant.sound in
    let settles = handled-settles i.port i.records u.records i.circuits u.circuits c.args.circuit (Quiet quiet.0) _ did in
    viewed-followed c.args.self.now i.port i.moment i.applied i.applied _ i.beacons i.records u.records u.records i.circuits u.circuits u.circuits u.circuits c.args.circuit (Quiet quiet.0) false (own.Handled told.Quiet) c.self.view_is refl refl long did (refl, refl) sound settles

pub follow-may_have_ended-requires-clause-sound : goal.follow-may_have_ended-requires-clause-sound
follow-may_have_ended-requires-clause-sound c =
    let i = c.self.inside in
    let did = rw c.in-Some-Handled.field-0-is at c.in-Some-Handled.ensures.steps in
    step-sound i.port i.records c.step_on.new.records i.circuits c.step_on.new.circuits c.args.circuit c.in-Some-Handled.left did c.self.invariant.sound

pub follow-may_have_ended-requires-clause-covered : goal.follow-may_have_ended-requires-clause-covered
follow-may_have_ended-requires-clause-covered c =
    let i = c.self.inside in
    let did = rw c.in-Some-Handled.field-0-is at c.in-Some-Handled.ensures.steps in
    step-covers i.port i.watchers i.records c.step_on.new.records i.circuits c.step_on.new.circuits c.args.circuit c.in-Some-Handled.left did c.self.invariant.covered

pub follow-may_have_ended-requires-clause-listed : goal.follow-may_have_ended-requires-clause-listed
follow-may_have_ended-requires-clause-listed c =
    let i = c.self.inside in
    let did = rw c.in-Some-Handled.field-0-is at c.in-Some-Handled.ensures.steps in
    listed-step i.port i.records c.step_on.new.records i.circuits c.step_on.new.circuits c.args.circuit c.in-Some-Handled.left i.watchers did c.self.invariant.listed

pub follow-may_have_ended-requires-clause-led : goal.follow-may_have_ended-requires-clause-led
follow-may_have_ended-requires-clause-led c =
    let i = c.self.inside in
    let did = rw c.in-Some-Handled.field-0-is at c.in-Some-Handled.ensures.steps in
    step-led i.port i.leading i.records c.step_on.new.records i.circuits c.step_on.new.circuits c.args.circuit c.in-Some-Handled.left did
    (listed-step i.port i.records c.step_on.new.records i.circuits c.step_on.new.circuits c.args.circuit c.in-Some-Handled.left i.leading did c.self.invariant.led.listed) c.self.invariant.led

pub settle-requires : goal.settle-requires
settle-requires c = λ never.
    let i = c.self.inside in
    let u = c.step_on.new in
    let did = rw c.in-Some-Handled.field-0-is at c.in-Some-Handled.ensures.steps in
    ap (λ (t : Table ServerCircuit). is_open (under t c.args.circuit)) (c.follow-may_have_ended.ensures.none never)
    ∙ handled-open i.port i.records u.records i.circuits u.circuits c.args.circuit c.in-Some-Handled.left did

pub invariant_of-self-in-Some-Handled : goal.invariant_of-self-in-Some-Handled
invariant_of-self-in-Some-Handled c =
    let f = c.follow-may_have_ended.new in
    record {
      sound = settled-sound (records_of f.records) f.circuits c.settle.new.circuits c.args.circuit _ c.settle.result c.settle.ensures.settles c.follow-may_have_ended.ensures.sound;
      covered = covers-thinned f.watchers f.circuits c.settle.new.circuits (settled-thins f.circuits c.settle.new.circuits c.args.circuit _ c.settle.result c.settle.ensures.settles) c.follow-may_have_ended.ensures.covered;
      listed = c.follow-may_have_ended.ensures.listed;
      led = led-thinned (records_of f.records) (records_of f.records) f.leading f.circuits c.settle.new.circuits (settled-thins f.circuits c.settle.new.circuits c.args.circuit _ c.settle.result c.settle.ensures.settles) c.follow-may_have_ended.ensures.led.listed c.follow-may_have_ended.ensures.led;
    }

pub invariant_of-self-in-Some-Breaks : goal.invariant_of-self-in-Some-Breaks
invariant_of-self-in-Some-Breaks c =
    let i = c.self.inside in
    let did = rw c.in-Some-Breaks.field-0-is at c.in-Some-Breaks.ensures.steps in
    record {
      sound = broke-sound i.port i.records c.step_on.new.records i.circuits c.step_on.new.circuits c.report.new.circuits c.args.circuit c.in-Some-Breaks.field-0-0 c.report.result did c.report.ensures c.self.invariant.sound;
      covered = covers-thinned i.watchers i.circuits c.report.new.circuits (broke-thins i.port i.records c.step_on.new.records i.circuits c.step_on.new.circuits c.report.new.circuits c.args.circuit c.in-Some-Breaks.field-0-0 c.report.result did c.report.ensures) c.self.invariant.covered;
      listed = listed-broke i.port i.records c.step_on.new.records i.circuits c.step_on.new.circuits c.args.circuit c.in-Some-Breaks.field-0-0 i.watchers did c.self.invariant.listed;
      led = led-thinned (records_of i.records) (records_of c.step_on.new.records) i.leading i.circuits c.report.new.circuits (broke-thins i.port i.records c.step_on.new.records i.circuits c.step_on.new.circuits c.report.new.circuits c.args.circuit c.in-Some-Breaks.field-0-0 c.report.result did c.report.ensures) (listed-broke i.port i.records c.step_on.new.records i.circuits c.step_on.new.circuits c.args.circuit c.in-Some-Breaks.field-0-0 i.leading did c.self.invariant.led.listed) c.self.invariant.led;
    }

pub invariant_of-self-in-None : goal.invariant_of-self-in-None
invariant_of-self-in-None c =
    let i = c.self.inside in
    record {
      sound = none-sound i.port i.records c.step_on.new.records i.circuits c.step_on.new.circuits c.report-in-None.new.circuits c.args.circuit c.report-in-None.result c.in-None.ensures.steps c.report-in-None.ensures c.self.invariant.sound;
      covered = covers-thinned i.watchers i.circuits c.report-in-None.new.circuits (none-thins i.port i.records c.step_on.new.records i.circuits c.step_on.new.circuits c.report-in-None.new.circuits c.args.circuit c.report-in-None.result c.in-None.ensures.steps c.report-in-None.ensures) c.self.invariant.covered;
      listed = listed-none i.port i.records c.step_on.new.records i.circuits c.step_on.new.circuits c.args.circuit i.watchers c.in-None.ensures.steps c.self.invariant.listed;
      led = led-thinned (records_of i.records) (records_of c.step_on.new.records) i.leading i.circuits c.report-in-None.new.circuits (none-thins i.port i.records c.step_on.new.records i.circuits c.step_on.new.circuits c.report-in-None.new.circuits c.args.circuit c.report-in-None.result c.in-None.ensures.steps c.report-in-None.ensures) (listed-none i.port i.records c.step_on.new.records i.circuits c.step_on.new.circuits c.args.circuit i.leading c.in-None.ensures.steps c.self.invariant.led.listed) c.self.invariant.led;
    }

pub returns-else-is_quiet-clause-steps : goal.returns-else-is_quiet-clause-steps
returns-else-is_quiet-clause-steps c =
    let i = c.self.inside in
    let did = rw c.in-Some-Handled.field-0-is at c.in-Some-Handled.ensures.steps in
    let f = c.follow-may_have_ended.new in
    let long = c.in-Some-Handled.ensures.waited ∙ ap (λ (z : Server). length (output_of (under z.circuits c.args.circuit))) c.self.view_is in
    viewed-followed c.args.self.now i.port i.moment i.applied c.more_applied-self-inside.result _ i.beacons i.records c.step_on.new.records f.records i.circuits c.step_on.new.circuits f.circuits c.settle.new.circuits c.args.circuit c.in-Some-Handled.left c.is_write.result c.settle.result c.self.view_is c.is_write.ensures c.more_applied-self-inside.ensures long did c.follow-may_have_ended.ensures.follows c.follow-may_have_ended.ensures.sound c.settle.ensures.settles

pub returns-in-Some-Breaks-clause-steps : goal.returns-in-Some-Breaks-clause-steps
returns-in-Some-Breaks-clause-steps c =
    let i = c.self.inside in
    let did = rw c.in-Some-Breaks.field-0-is at c.in-Some-Breaks.ensures.steps in
    viewed-broke c.args.self.now i.port i.moment i.applied i.beacons i.records c.step_on.new.records i.circuits c.step_on.new.circuits c.report.new.circuits c.args.circuit c.in-Some-Breaks.field-0-0 c.report.result c.self.view_is did c.report.ensures c.self.invariant.sound

pub returns-in-None-clause-steps : goal.returns-in-None-clause-steps
returns-in-None-clause-steps c =
    let i = c.self.inside in
    viewed-none c.args.self.now i.port i.moment i.applied i.beacons i.records c.step_on.new.records i.circuits c.step_on.new.circuits c.report-in-None.new.circuits c.args.circuit c.report-in-None.result c.self.view_is c.in-None.ensures.steps c.report-in-None.ensures c.self.invariant.sound

pub returns-then-is_quiet-clause-tells : goal.returns-then-is_quiet-clause-tells
returns-then-is_quiet-clause-tells c =
    let i = c.self.inside in
    let u = c.step_on.new in
    let quiet = quiet-is c.in-Some-Handled.left (sym c.is_quiet.ensures ∙ c.if-is_quiet.true) in
    let did = rw quiet.1 at (rw c.in-Some-Handled.field-0-is at c.in-Some-Handled.ensures.steps) in
    let long = c.in-Some-Handled.ensures.waited ∙ ap (λ (z : Server). length (output_of (under z.circuits c.args.circuit))) c.self.view_is in
    let sound = step-sound i.port i.records u.records i.circuits u.circuits c.args.circuit (Quiet quiet.0) did c.self.invariant.sound in
    let settles = handled-settles i.port i.records u.records i.circuits u.circuits c.args.circuit (Quiet quiet.0) _ did in
    let made = made-followed-by c.args.self.now i.port i.moment i.applied i.applied _ i.beacons i.records u.records u.records i.circuits u.circuits u.circuits u.circuits c.args.circuit (Quiet quiet.0) false (own.Handled told.Quiet) c.self.view_is refl refl long did (refl, refl) sound settles
    (λ (m : Fields) (a : Action). effect_of (Quiet quiet.0) ≡ effect_due m a) (λ m a is. told-as m a (Quiet quiet.0) u.records is) in
    (made.0, c.effect.ensures ∙ ap effect_of quiet.1 ∙ made.1)

pub returns-else-is_quiet-clause-tells : goal.returns-else-is_quiet-clause-tells
returns-else-is_quiet-clause-tells c =
    let i = c.self.inside in
    let left = c.in-Some-Handled.left in
    let did = rw c.in-Some-Handled.field-0-is at c.in-Some-Handled.ensures.steps in
    let f = c.follow-may_have_ended.new in
    let long = c.in-Some-Handled.ensures.waited ∙ ap (λ (z : Server). length (output_of (under z.circuits c.args.circuit))) c.self.view_is in
    let made = made-followed-by c.args.self.now i.port i.moment i.applied c.more_applied-self-inside.result _ i.beacons i.records c.step_on.new.records f.records i.circuits c.step_on.new.circuits f.circuits c.settle.new.circuits c.args.circuit left c.is_write.result c.settle.result c.self.view_is c.is_write.ensures c.more_applied-self-inside.ensures long did c.follow-may_have_ended.ensures.follows c.follow-may_have_ended.ensures.sound c.settle.ensures.settles
    (λ (m : Fields) (a : Action). effect_of left ≡ effect_due m a) (λ m a is. told-as m a left c.step_on.new.records is) in
    tells-by c.args.self.now c.args.circuit left c.settle.result _ made (λ e is. c.settle.ensures.tells e is ∙ c.effect-effect.ensures)

pub returns-in-Some-Breaks-clause-tells : goal.returns-in-Some-Breaks-clause-tells
returns-in-Some-Breaks-clause-tells c =
    let i = c.self.inside in
    let did = rw c.in-Some-Breaks.field-0-is at c.in-Some-Breaks.ensures.steps in
    tells-none c.args.self.now c.args.circuit c.report.result _ (broke-closes i.port i.records c.step_on.new.records i.circuits c.step_on.new.circuits c.report.new.circuits c.args.circuit c.in-Some-Breaks.field-0-0 c.report.result did c.report.ensures)

pub returns-in-None-clause-tells : goal.returns-in-None-clause-tells
returns-in-None-clause-tells c =
    let i = c.self.inside in
    tells-none c.args.self.now c.args.circuit c.report-in-None.result _ (none-closes i.port i.records c.step_on.new.records i.circuits c.step_on.new.circuits c.report-in-None.new.circuits c.args.circuit c.report-in-None.result c.in-None.ensures.steps c.report-in-None.ensures)
