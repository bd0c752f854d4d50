use Rattle.std.proofs.Common.{◌≡◌, ℕ, ◌∙◌, false, length, refl, sym, ap, subst}
use Rattle.ca_ids.specs.Table.{Table, under}
use Rattle.ca_model.specs.Server.{Server, ServerCircuit}
use Rattle.ca_model.specs.ServerSteps.{output_of}
use Rattle.ca_model.specs.ServerSteps as steps
use Rattle.ca_records.specs.Store.{Store, records_of}
use Rattle.ca_server_core.proofs.Covered.{covers-thinned}
use Rattle.ca_server_core.proofs.Effects.{quiet-none}
use Rattle.ca_server_core.proofs.Followed.{broke-thins, made-followed-by, none-thins, settled-sound, settled-thins, step-covers, step-led, viewed-followed}
use Rattle.ca_server_core.proofs.Led.{led-thinned}
use Rattle.ca_server_core.proofs.Listed.{listed-broke, listed-none, listed-pumped, listed-step}
use Rattle.ca_server_core.proofs.Noted.{broke-closes, none-closes, not-handled, noting-none, viewed-quiet, viewed-served}
use Rattle.ca_server_core.proofs.Pumped.{pumps-at, sound-pumped}
use Rattle.ca_server_core.proofs.Servers.{server_of}
use Rattle.ca_server_core.proofs.Stepped.{broke-sound, full-same, handled-settles, idle-same, none-sound, step-sound, still-sound, viewed-broke, viewed-none}
use Rattle.ca_server_core.proofs.Thinned.{thins-pumped}
use Rattle.ca_server_circuit.specs.declared.step.FollowUp.TheVariants.{Quiet}
use Rattle.ca_server_core.specs.Covering.{AreLed, AreListed, Covers}
use Rattle.ca_server_circuit.specs.Handling.{is_wrote}
use Rattle.ca_server_core.specs.Noting.{ServesAndPumps}
use Rattle.ca_server_core.specs.Serving.{more_applied, stepped}
use Rattle.ca_server_circuit.specs.declared.effect.Effect.TheVariants as told
use Rattle.ca_server_core.specs.declared.stepping.CoreStep.TheVariants as own
use Rattle.ca_server_core.proofs.server.ServerCore.serve_and_pump.Goals.{then-is_quiet-via-then-is_quiet, then-is_quiet-via-else-is_quiet+then-follow_and_pump}
use Rattle.ca_server_core.proofs.server.ServerCore.serve_and_pump.Goals as goal

pub invariant_of-self : goal.invariant_of-self
invariant_of-self c =
    let i = c.self.inside in
    let u = c.step_counting_on.new in
    let same = idle-same i.port i.records u.records i.circuits u.circuits c.args.circuit ((rw c.in-Some-NeedBytes.field-0-is at c.in-Some-NeedBytes.ensures.steps) refl) in
    record {
      sound = still-sound i.records u.records i.circuits u.circuits same c.self.invariant.sound;
      covered = subst (λ (t : Table ServerCircuit). Covers i.watchers t) (sym same.1) c.self.invariant.covered;
      listed = subst (λ (s : Store). AreListed (records_of s) i.watchers) (sym same.0) c.self.invariant.listed;
      led = subst (λ (t : Table ServerCircuit). AreLed (records_of u.records) i.leading t) (sym same.1) (subst (λ (s : Store). AreLed (records_of s) i.leading i.circuits) (sym same.0) c.self.invariant.led);
    }

pub invariant_of-self-in-Some-OutputFull : goal.invariant_of-self-in-Some-OutputFull
invariant_of-self-in-Some-OutputFull c =
    let i = c.self.inside in
    let u = c.step_counting_on.new in
    let same = full-same i.port i.records u.records i.circuits u.circuits c.args.circuit ((rw c.in-Some-OutputFull.field-0-is at c.in-Some-OutputFull.ensures.steps) refl) in
    record {
      sound = still-sound i.records u.records i.circuits u.circuits same c.self.invariant.sound;
      covered = subst (λ (t : Table ServerCircuit). Covers i.watchers t) (sym same.1) c.self.invariant.covered;
      listed = subst (λ (s : Store). AreListed (records_of s) i.watchers) (sym same.0) c.self.invariant.listed;
      led = subst (λ (t : Table ServerCircuit). AreLed (records_of u.records) i.leading t) (sym same.1) (subst (λ (s : Store). AreLed (records_of s) i.leading i.circuits) (sym same.0) c.self.invariant.led);
    }

pub invariant_of-self-then-is_quiet : goal.invariant_of-self-then-is_quiet
invariant_of-self-then-is_quiet c =
    let i = c.self.inside in
    let u = c.step_counting_on.new in
    let did = (rw c.in-Some-Handled.field-0-is at c.in-Some-Handled.ensures.pumps) (sym c.is_quiet.ensures ∙ c.if-is_quiet.true) in
    record {
      sound = sound-pumped did.1 u.records did.0 u.circuits c.args.circuit did.4 (step-sound i.port i.records did.1 i.circuits did.0 c.args.circuit (Quiet did.2) did.3 c.self.invariant.sound);
      covered = covers-thinned i.watchers did.0 u.circuits (thins-pumped did.1 u.records did.0 u.circuits c.args.circuit did.4) (step-covers i.port i.watchers i.records did.1 i.circuits did.0 c.args.circuit (Quiet did.2) did.3 c.self.invariant.covered);
      listed = listed-pumped did.1 u.records did.0 u.circuits c.args.circuit i.watchers did.4 (listed-step i.port i.records did.1 i.circuits did.0 c.args.circuit (Quiet did.2) i.watchers did.3 c.self.invariant.listed);
      led = (
          let listed = listed-step i.port i.records did.1 i.circuits did.0 c.args.circuit (Quiet did.2) i.leading did.3 c.self.invariant.led.listed in
          led-thinned (records_of did.1) (records_of u.records) i.leading did.0 u.circuits (thins-pumped did.1 u.records did.0 u.circuits c.args.circuit did.4) (listed-pumped did.1 u.records did.0 u.circuits c.args.circuit i.leading did.4 listed) (step-led i.port i.leading i.records did.1 i.circuits did.0 c.args.circuit (Quiet did.2) did.3 listed c.self.invariant.led)
          );
    }

pub returns-then-is_quiet-clause-serves : goal.returns-then-is_quiet-clause-serves
returns-then-is_quiet-clause-serves c =
    let i = c.self.inside in
    let h = c.args.circuit in
    let u = c.step_counting_on.new in
    let long = c.in-Some-Handled.ensures.waited ∙ ap (λ (z : Server). length (output_of (under z.circuits h))) c.self.view_is in
    let at : (n : ℕ) (x : Server) → ServesAndPumps c.args.self.now h steps.Handled n x → c.then-is_quiet.left ≡ n → c.then-is_quiet.self ≡ x → ServesAndPumps c.args.self.now h steps.Handled c.then-is_quiet.left c.then-is_quiet.self = λ n x serves counts same.
    subst (λ (k : ℕ). ServesAndPumps c.args.self.now h steps.Handled k c.then-is_quiet.self) (sym counts) (subst (λ (z : Server). ServesAndPumps c.args.self.now h steps.Handled n z) (sym same) serves) in
    elim c.then-is_quiet.branch [
      | then-is_quiet-via-then-is_quiet w ↦
          let did = (rw c.in-Some-Handled.field-0-is at c.in-Some-Handled.ensures.pumps) (sym c.is_quiet.ensures ∙ w.if-is_quiet.true) in
          let sound = step-sound i.port i.records did.1 i.circuits did.0 h (Quiet did.2) did.3 c.self.invariant.sound in
          let settles = handled-settles i.port i.records did.1 i.circuits did.0 h (Quiet did.2) _ did.3 in
          at u.left (server_of i.port u.records i.moment u.circuits i.beacons i.applied) (
            server_of i.port did.1 i.moment did.0 i.beacons i.applied,
            viewed-quiet c.args.self.now i.port i.moment i.applied i.applied i.beacons i.records did.1 i.circuits did.0 h did.2 c.self.view_is did.3
                (made-followed-by c.args.self.now i.port i.moment i.applied i.applied _ i.beacons i.records did.1 did.1 i.circuits did.0 did.0 did.0 h (Quiet did.2) false (own.Handled told.Quiet) c.self.view_is refl refl long did.3 (refl, refl) sound settles),
            (pumps-at (server_of i.port did.1 i.moment did.0 i.beacons i.applied) i.port i.moment i.applied i.beacons did.1 u.records did.0 u.circuits h refl did.4, (rw c.in-Some-Handled.field-0-is at c.in-Some-Handled.ensures.left) refl),
          ) w.left-is w.self-is
      | then-is_quiet-via-else-is_quiet+then-follow_and_pump w ↦
          let f = w.follow_and_pump.new in
          let effect = c.in-Some-Handled.effect in
          let did = (rw c.in-Some-Handled.field-0-is at c.in-Some-Handled.ensures.steps) (sym c.is_quiet.ensures ∙ w.if-is_quiet.false) in
          let g = w.follow_and_pump.ensures.pumps w.if-follow_and_pump.true in
          let k = more_applied (is_wrote effect) i.applied in
          let settles = g.settles u.waited (handled-settles i.port i.records u.records i.circuits u.circuits h effect u.waited did) in
          let made = made-followed-by c.args.self.now i.port i.moment i.applied k _ i.beacons i.records u.records g.left i.circuits u.circuits g.mid g.mid h effect (is_wrote effect) (own.Handled told.Quiet) c.self.view_is refl refl long did g.follows g.sound settles in
          at f.left (server_of i.port f.records i.moment f.circuits i.beacons f.applied) (
            server_of i.port g.u i.moment g.last i.beacons f.applied,
            viewed-served c.args.self.now i.port i.moment i.applied k f.applied i.beacons i.records u.records g.left g.u i.circuits u.circuits g.mid g.mid g.last h effect c.self.view_is did g.follows made g.tries,
            (pumps-at _ i.port i.moment f.applied i.beacons g.u f.records g.last f.circuits h refl g.pumps, w.follow_and_pump.ensures.counts w.if-follow_and_pump.true),
          ) w.left-is w.self-is
    ]

pub follow_and_pump-requires-clause-sound : goal.follow_and_pump-requires-clause-sound
follow_and_pump-requires-clause-sound c =
    let i = c.self.inside in
    let did = (rw c.in-Some-Handled.field-0-is at c.in-Some-Handled.ensures.steps) (sym c.is_quiet.ensures ∙ c.if-is_quiet.false) in
    step-sound i.port i.records c.step_counting_on.new.records i.circuits c.step_counting_on.new.circuits c.args.circuit c.in-Some-Handled.effect did c.self.invariant.sound

pub follow_and_pump-requires-clause-covered : goal.follow_and_pump-requires-clause-covered
follow_and_pump-requires-clause-covered c =
    let i = c.self.inside in
    let did = (rw c.in-Some-Handled.field-0-is at c.in-Some-Handled.ensures.steps) (sym c.is_quiet.ensures ∙ c.if-is_quiet.false) in
    step-covers i.port i.watchers i.records c.step_counting_on.new.records i.circuits c.step_counting_on.new.circuits c.args.circuit c.in-Some-Handled.effect did c.self.invariant.covered

pub follow_and_pump-requires-clause-listed : goal.follow_and_pump-requires-clause-listed
follow_and_pump-requires-clause-listed c =
    let i = c.self.inside in
    let did = (rw c.in-Some-Handled.field-0-is at c.in-Some-Handled.ensures.steps) (sym c.is_quiet.ensures ∙ c.if-is_quiet.false) in
    listed-step i.port i.records c.step_counting_on.new.records i.circuits c.step_counting_on.new.circuits c.args.circuit c.in-Some-Handled.effect i.watchers did c.self.invariant.listed

pub follow_and_pump-requires-clause-led : goal.follow_and_pump-requires-clause-led
follow_and_pump-requires-clause-led c =
    let i = c.self.inside in
    let u = c.step_counting_on.new in
    let effect = c.in-Some-Handled.effect in
    let did = (rw c.in-Some-Handled.field-0-is at c.in-Some-Handled.ensures.steps) (sym c.is_quiet.ensures ∙ c.if-is_quiet.false) in
    step-led i.port i.leading i.records u.records i.circuits u.circuits c.args.circuit effect did (listed-step i.port i.records u.records i.circuits u.circuits c.args.circuit effect i.leading did c.self.invariant.led.listed) c.self.invariant.led

pub follow_and_pump-requires-clause-rests : goal.follow_and_pump-requires-clause-rests
follow_and_pump-requires-clause-rests c = λ yes. c.in-Some-Handled.ensures.idle yes

pub follow_and_pump-requires-clause-counted : goal.follow_and_pump-requires-clause-counted
follow_and_pump-requires-clause-counted c = (rw c.in-Some-Handled.field-0-is at c.in-Some-Handled.ensures.left) refl

pub invariant_of-self-2 : goal.invariant_of-self-2
invariant_of-self-2 c =
    let f = c.follow_and_pump.new in
    let before = c.follow_and_pump.ensures.server in
    let settles = c.over.ensures.settles in
    let thins = settled-thins f.circuits c.over.new.circuits c.args.circuit _ c.over.result settles in
    record {
      sound = settled-sound (records_of f.records) f.circuits c.over.new.circuits c.args.circuit _ c.over.result settles before.sound;
      covered = covers-thinned f.watchers f.circuits c.over.new.circuits thins before.covered;
      listed = before.listed;
      led = led-thinned (records_of f.records) (records_of f.records) f.leading f.circuits c.over.new.circuits thins before.led.listed before.led;
    }

pub returns-clause-serves : goal.returns-clause-serves
returns-clause-serves c =
    let i = c.self.inside in
    let u = c.step_counting_on.new in
    let f = c.follow_and_pump.new in
    let did = (rw c.in-Some-Handled.field-0-is at c.in-Some-Handled.ensures.steps) (sym c.is_quiet.ensures ∙ c.if-is_quiet.false) in
    let e = c.follow_and_pump.ensures.ends c.if-follow_and_pump.false in
    let long = c.in-Some-Handled.ensures.waited ∙ ap (λ (z : Server). length (output_of (under z.circuits c.args.circuit))) c.self.view_is in
    let made = viewed-followed c.args.self.now i.port i.moment i.applied f.applied _ i.beacons i.records u.records f.records i.circuits u.circuits f.circuits c.over.new.circuits c.args.circuit c.in-Some-Handled.effect (is_wrote c.in-Some-Handled.effect) c.over.result c.self.view_is refl e.counts long did e.follows c.follow_and_pump.ensures.server.sound c.over.ensures.settles in
    noting-none c.args.self.now c.args.circuit (stepped c.over.result) c.args.waiting.now (server_of i.port f.records i.moment c.over.new.circuits i.beacons f.applied)
    (not-handled (stepped c.over.result) c.over.ensures.closed) made

pub invariant_of-self-in-Some-Breaks : goal.invariant_of-self-in-Some-Breaks
invariant_of-self-in-Some-Breaks c =
    let i = c.self.inside in
    let did = (rw c.in-Some-Breaks.field-0-is at c.in-Some-Breaks.ensures.steps) refl in
    record {
      sound = broke-sound i.port i.records c.step_counting_on.new.records i.circuits c.step_counting_on.new.circuits c.report.new.circuits c.args.circuit c.in-Some-Breaks.field-0-0 c.report.result did c.report.ensures c.self.invariant.sound;
      covered = covers-thinned i.watchers i.circuits c.report.new.circuits (broke-thins i.port i.records c.step_counting_on.new.records i.circuits c.step_counting_on.new.circuits c.report.new.circuits c.args.circuit c.in-Some-Breaks.field-0-0 c.report.result did c.report.ensures) c.self.invariant.covered;
      listed = listed-broke i.port i.records c.step_counting_on.new.records i.circuits c.step_counting_on.new.circuits c.args.circuit c.in-Some-Breaks.field-0-0 i.watchers did c.self.invariant.listed;
      led = led-thinned (records_of i.records) (records_of c.step_counting_on.new.records) i.leading i.circuits c.report.new.circuits (broke-thins i.port i.records c.step_counting_on.new.records i.circuits c.step_counting_on.new.circuits c.report.new.circuits c.args.circuit c.in-Some-Breaks.field-0-0 c.report.result did c.report.ensures) (listed-broke i.port i.records c.step_counting_on.new.records i.circuits c.step_counting_on.new.circuits c.args.circuit c.in-Some-Breaks.field-0-0 i.leading did c.self.invariant.led.listed) c.self.invariant.led;
    }

pub invariant_of-self-in-None : goal.invariant_of-self-in-None
invariant_of-self-in-None c =
    let i = c.self.inside in
    record {
      sound = none-sound i.port i.records c.step_counting_on.new.records i.circuits c.step_counting_on.new.circuits c.report-in-None.new.circuits c.args.circuit c.report-in-None.result (c.in-None.ensures.steps refl) c.report-in-None.ensures c.self.invariant.sound;
      covered = covers-thinned i.watchers i.circuits c.report-in-None.new.circuits (none-thins i.port i.records c.step_counting_on.new.records i.circuits c.step_counting_on.new.circuits c.report-in-None.new.circuits c.args.circuit c.report-in-None.result (c.in-None.ensures.steps refl) c.report-in-None.ensures) c.self.invariant.covered;
      listed = listed-none i.port i.records c.step_counting_on.new.records i.circuits c.step_counting_on.new.circuits c.args.circuit i.watchers (c.in-None.ensures.steps refl) c.self.invariant.listed;
      led = led-thinned (records_of i.records) (records_of c.step_counting_on.new.records) i.leading i.circuits c.report-in-None.new.circuits (none-thins i.port i.records c.step_counting_on.new.records i.circuits c.step_counting_on.new.circuits c.report-in-None.new.circuits c.args.circuit c.report-in-None.result (c.in-None.ensures.steps refl) c.report-in-None.ensures) (listed-none i.port i.records c.step_counting_on.new.records i.circuits c.step_counting_on.new.circuits c.args.circuit i.leading (c.in-None.ensures.steps refl) c.self.invariant.led.listed) c.self.invariant.led;
    }

pub returns-in-Some-Breaks-clause-serves : goal.returns-in-Some-Breaks-clause-serves
returns-in-Some-Breaks-clause-serves c =
    let i = c.self.inside in
    let did = (rw c.in-Some-Breaks.field-0-is at c.in-Some-Breaks.ensures.steps) refl in
    noting-none c.args.self.now c.args.circuit (stepped c.report.result) c.args.waiting.now (server_of i.port c.step_counting_on.new.records i.moment c.report.new.circuits i.beacons i.applied)
    (broke-closes i.port i.records c.step_counting_on.new.records i.circuits c.step_counting_on.new.circuits c.report.new.circuits c.args.circuit c.in-Some-Breaks.field-0-0 c.report.result did c.report.ensures)
    (viewed-broke c.args.self.now i.port i.moment i.applied i.beacons i.records c.step_counting_on.new.records i.circuits c.step_counting_on.new.circuits c.report.new.circuits c.args.circuit c.in-Some-Breaks.field-0-0 c.report.result c.self.view_is did c.report.ensures c.self.invariant.sound)

pub returns-in-None-clause-serves : goal.returns-in-None-clause-serves
returns-in-None-clause-serves c =
    let i = c.self.inside in
    noting-none c.args.self.now c.args.circuit (stepped c.report-in-None.result) c.args.waiting.now (server_of i.port c.step_counting_on.new.records i.moment c.report-in-None.new.circuits i.beacons i.applied)
    (none-closes i.port i.records c.step_counting_on.new.records i.circuits c.step_counting_on.new.circuits c.report-in-None.new.circuits c.args.circuit c.report-in-None.result (c.in-None.ensures.steps refl) c.report-in-None.ensures)
    (viewed-none c.args.self.now i.port i.moment i.applied i.beacons i.records c.step_counting_on.new.records i.circuits c.step_counting_on.new.circuits c.report-in-None.new.circuits c.args.circuit c.report-in-None.result c.self.view_is (c.in-None.ensures.steps refl) c.report-in-None.ensures c.self.invariant.sound)

pub returns-clause-quiet : goal.returns-clause-quiet
returns-clause-quiet c = λ e is.
    quiet-none c.over.result e told.Quiet (not-handled (stepped c.over.result) c.over.ensures.closed) is

pub returns-in-Some-Breaks-clause-quiet : goal.returns-in-Some-Breaks-clause-quiet
returns-in-Some-Breaks-clause-quiet c = λ e is.
    let i = c.self.inside in
    let did = (rw c.in-Some-Breaks.field-0-is at c.in-Some-Breaks.ensures.steps) refl in
    quiet-none c.report.result e told.Quiet
    (broke-closes i.port i.records c.step_counting_on.new.records i.circuits c.step_counting_on.new.circuits c.report.new.circuits c.args.circuit c.in-Some-Breaks.field-0-0 c.report.result did c.report.ensures) is

pub returns-in-None-clause-quiet : goal.returns-in-None-clause-quiet
returns-in-None-clause-quiet c = λ e is.
    let i = c.self.inside in
    quiet-none c.report-in-None.result e told.Quiet
    (none-closes i.port i.records c.step_counting_on.new.records i.circuits c.step_counting_on.new.circuits c.report-in-None.new.circuits c.args.circuit c.report-in-None.result (c.in-None.ensures.steps refl) c.report-in-None.ensures) is
