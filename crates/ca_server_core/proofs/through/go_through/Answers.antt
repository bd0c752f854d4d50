use Rattle.std.proofs.Common.{◌≡◌, [], length, sym, ap, ◌∙◌, subst}
use Rattle.ca_server_watchers.specs.Watching.{AreApart, Watched, watching}
use Rattle.ca_server_watchers.proofs.Lines.{none-apart}
use Rattle.ca_server_circuit.specs.declared.step.FollowUp.{FollowUp}
use Rattle.ca_server_core.specs.Following.{CoversFor}
use Rattle.ca_server_core.specs.Through.{GoesThrough}
use Rattle.ca_server_core.proofs.GoneThrough.{goes-idle}
use Rattle.ca_server_core.proofs.through.go_through.Goals as goal

pub returns-then-is_empty-clause-through : goal.returns-then-is_empty-clause-through
returns-then-is_empty-clause-through c = λ idle.
    let w = c.args.watchers.now in
    let t = c.args.circuits.now in
    let s = c.args.records.now in
    let r = c.at.result.now in
    let none : w ≡ [] = c.is_empty.ensures.0 c.if-is_empty.true in
    let apart : AreApart (watching w r.state.name) = subst (λ (v : Watched). AreApart (watching v r.state.name)) (sym none) none-apart in
    subst (λ (e : FollowUp). GoesThrough e c.args.circuit w t s t) (sym c.in-Wrote.is)
    (goes-idle c.in-Wrote.place c.args.circuit w t s r c.at.ensures.at c.at.ensures.found (sym c.is_busy.ensures ∙ c.if-is_busy.false) apart (ap (λ (v : Watched). length (watching v r.state.name)) none) c.requires.sound (subst (λ (e : FollowUp). CoversFor e c.args.circuit c.args.records.now c.args.watchers.now c.args.circuits.now) c.in-Wrote.is c.requires.covered).1 (c.requires.rests idle) c.in-Wrote.field-1 c.in-Wrote.field-2)

pub at-requires : goal.at-requires
at-requires c = (subst (λ (e : FollowUp). CoversFor e c.args.circuit c.args.records.now c.args.watchers.now c.args.circuits.now) c.in-Wrote.is c.requires.covered).0

pub go_to_watching-requires-clause-there : goal.go_to_watching-requires-clause-there
go_to_watching-requires-clause-there c = (subst (λ (e : FollowUp). CoversFor e c.args.circuit c.args.records.now c.args.watchers.now c.args.circuits.now) c.in-Wrote.is c.requires.covered).0

pub go_to_watching-requires-clause-covered : goal.go_to_watching-requires-clause-covered
go_to_watching-requires-clause-covered c = (subst (λ (e : FollowUp). CoversFor e c.args.circuit c.args.records.now c.args.watchers.now c.args.circuits.now) c.in-Wrote.is c.requires.covered).1

pub returns-clause-through : goal.returns-clause-through
returns-clause-through c = λ yes. subst (λ (e : FollowUp). GoesThrough e c.args.circuit c.args.watchers.now c.args.circuits.now c.args.records.now c.go_to_watching.new.circuits) (sym c.in-Wrote.is) (c.go_to_watching.ensures.through yes c.in-Wrote.field-1 c.in-Wrote.field-2)
