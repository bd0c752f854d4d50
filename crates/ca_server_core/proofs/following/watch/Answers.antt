use Rattle.std.proofs.Common.{◌≡◌, ℕ, List, ap, ◌∙◌, subst}
use Rattle.ca_records.specs.Puts.{Record}
use Rattle.ca_records.specs.Record.{RecordState}
use Rattle.ca_server_watchers.specs.Watching.{OthersStay, Watches}
use Rattle.ca_model.specs.Ends as why
use Rattle.ca_server_core.proofs.Covered.{covers-out, covers-watched}
use Rattle.ca_server_core.proofs.Listed.{listed-at, listed-ended}
use Rattle.ca_server_core.proofs.Reached.{there-is}
use Rattle.ca_server_core.proofs.Servers.{sound-end}
use Rattle.ca_server_core.proofs.following.watch.Goals as goal

pub returns-in-Ok-clause-covered : goal.returns-in-Ok-clause-covered
returns-in-Ok-clause-covered c =
    let r = c.requires.covered.0 in
    let there = c.requires.covered.1 in
    let named : c.name.result.now ≡ r.state.name =
    c.name.ensures ∙ ap (λ (x : RecordState). x.name) c.state.ensures ∙ ap (λ (x : Record). x.state.name) (there-is c.args.records.now c.args.place c.at.result.now r c.at.ensures.at there) in
    covers-watched c.args.watchers.now c.watch.new.self c.args.circuits.now r.state.name c.args.circuit c.requires.covered.2.0
    (subst (λ (n : List ℕ). Watches n c.args.circuit c.args.watchers.now c.watch.new.self) named c.in-Ok.ensures.ok) c.requires.covered.2.1 c.requires.covered.3

pub returns-in-Err-clause-sound : goal.returns-in-Err-clause-sound
returns-in-Err-clause-sound c =
    sound-end c.args.records.now c.end_on.new.records c.args.circuits.now c.end_on.new.circuits c.args.circuit why.OutOfMemory c.end_on.ensures c.requires.sound

pub returns-in-Err-clause-covered : goal.returns-in-Err-clause-covered
returns-in-Err-clause-covered c h e s at i =
    let r = c.requires.covered.0 in
    rw (c.in-Err.ensures.err)
    (covers-out c.args.watchers.now c.args.circuits.now c.end_on.new.circuits c.args.circuit r.state.name c.args.records.now c.end_on.new.records why.OutOfMemory c.end_on.ensures c.requires.covered.3 h e s at i)

pub returns-in-Ok-clause-listed : goal.returns-in-Ok-clause-listed
returns-in-Ok-clause-listed c =
    let r = c.at.result.now in
    let named : c.name.result.now ≡ r.state.name = c.name.ensures ∙ ap (λ (x : RecordState). x.name) c.state.ensures in
    listed-at c.args.records.now c.args.place r c.args.watchers.now c.watch.new.self c.at.ensures.at
    (subst (λ (n : List ℕ). OthersStay n c.args.watchers.now c.watch.new.self) named c.in-Ok.ensures.ok.stay) c.requires.listed

pub returns-in-Err-clause-listed : goal.returns-in-Err-clause-listed
returns-in-Err-clause-listed c =
    rw (c.in-Err.ensures.err)
    (listed-ended c.args.records.now c.end_on.new.records c.args.circuits.now c.end_on.new.circuits c.args.circuit why.OutOfMemory c.args.watchers.now c.end_on.ensures c.requires.listed)
