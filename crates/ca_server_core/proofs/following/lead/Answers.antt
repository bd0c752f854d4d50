use Rattle.std.proofs.Common.{◌≡◌, ℕ, List, ap, ◌∙◌, subst}
use Rattle.ca_records.specs.Puts.{Record}
use Rattle.ca_records.specs.Record.{RecordState}
use Rattle.ca_server_watchers.specs.Watching.{Watches}
use Rattle.ca_model.specs.Ends as why
use Rattle.ca_server_core.proofs.Led.{leads-entered, leads-out}
use Rattle.ca_server_core.proofs.Listed.{listed-at, listed-ended}
use Rattle.ca_server_core.proofs.Reached.{there-is}
use Rattle.ca_server_core.proofs.Servers.{sound-end}
use Rattle.ca_server_core.proofs.following.lead.Goals as goal

pub returns-in-Ok-clause-led : goal.returns-in-Ok-clause-led
returns-in-Ok-clause-led c =
    let r = c.requires.led.0 in
    let there = c.requires.led.1 in
    let named : c.name.result.now ≡ r.state.name =
    c.name.ensures ∙ ap (λ (x : RecordState). x.name) c.state.ensures ∙ ap (λ (x : Record). x.state.name) (there-is c.args.records.now c.args.place c.at.result.now r c.at.ensures.at there) in
    let watches = subst (λ (n : List ℕ). Watches n c.args.circuit c.args.leading.now c.watch.new.self) named c.in-Ok.ensures.ok in
    record {
      leads = leads-entered c.args.leading.now c.watch.new.self c.args.circuits.now r.state.name c.args.circuit c.requires.led.2.0 watches c.requires.led.2.1 c.requires.led.3;
      listed = listed-at c.args.records.now c.args.place r c.args.leading.now c.watch.new.self there watches.stay c.requires.led.4;
    }

pub returns-in-Err-clause-sound : goal.returns-in-Err-clause-sound
returns-in-Err-clause-sound c =
    sound-end c.args.records.now c.end_on.new.records c.args.circuits.now c.end_on.new.circuits c.args.circuit why.OutOfMemory c.end_on.ensures c.requires.sound

pub returns-in-Err-clause-led : goal.returns-in-Err-clause-led
returns-in-Err-clause-led c =
    let r = c.requires.led.0 in
    rw (c.in-Err.ensures.err)
    (record {
      leads = leads-out c.args.leading.now c.args.circuits.now c.end_on.new.circuits c.args.circuit r.state.name c.args.records.now c.end_on.new.records why.OutOfMemory c.end_on.ensures c.requires.led.3;
      listed = listed-ended c.args.records.now c.end_on.new.records c.args.circuits.now c.end_on.new.circuits c.args.circuit why.OutOfMemory c.args.leading.now c.end_on.ensures c.requires.led.4;
    })
