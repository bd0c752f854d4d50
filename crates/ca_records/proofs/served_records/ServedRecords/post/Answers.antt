use Rattle.std.proofs.Common.{◌≡◌, ◌∙◌, Some, ap, subst}
use Rattle.ca_dbr.specs.Elements.{elements}
use Rattle.ca_text.proofs.Places.{At-one, some_is}
use Rattle.ca_records.specs.Layout.{IsFit}
use Rattle.ca_records.specs.Over.{in_place_of}
use Rattle.ca_records.specs.Puts.{Record}
use Rattle.ca_records.specs.Record.{RecordState}
use Rattle.ca_records.proofs.CallSteps.{post-step}
use Rattle.ca_records.proofs.Placings.{posted-so}
use Rattle.ca_records.proofs.Steps.{looked, seen, seen-full, store_of}
use Rattle.ca_records.proofs.served_records.ServedRecords.post.Goals as goal

pub invariant_of-self : goal.invariant_of-self
invariant_of-self c =
    let slots = c.self.inside.slots.items in
    let found = rw (← c.self.view_is) at c.in-Some.ensures in
    let full = looked slots c.in-Some.place found.r c.index_mut.result.now c.record_mut.result.now found.at c.index_mut.ensures.value c.record_mut.ensures.value in
    let there = rw (← c.self.view_is) at c.at.ensures.at in
    let same : c.at.result.now ≡ c.record_mut.result.now = some_is c.at.result.now c.record_mut.result.now (At-one (seen slots) c.in-Some.place (Some c.at.result.now) (Some c.record_mut.result.now) there (seen-full slots c.in-Some.place c.record_mut.result.now full)) in
    let may : IsFit c.record_mut.result.now.state (in_place_of c.record_mut.result.now.state.value (elements c.args.value)) = subst (λ (s : RecordState). IsFit s (in_place_of s.value (elements c.args.value))) (c.state.ensures ∙ ap (λ (q : Record). q.state) same) c.in_ok-check_post.ensures.ok in
    let made = post-step slots c.self.inside.free _ c.self.inside.waiting c.self.inside.rules.items c.self.inside.stamp c.args.name.now c.in-Some.place c.record_mut.result.now c.apply.new.self (in_place_of c.record_mut.result.now.state.value (elements c.args.value)) c.args.meta c.self.invariant full found may c.apply.ensures in
    made.stored

pub returns : goal.returns
returns c =
    let slots = c.self.inside.slots.items in
    let found = rw (← c.self.view_is) at c.in-Some.ensures in
    let full = looked slots c.in-Some.place found.r c.index_mut.result.now c.record_mut.result.now found.at c.index_mut.ensures.value c.record_mut.ensures.value in
    let there = rw (← c.self.view_is) at c.at.ensures.at in
    let same : c.at.result.now ≡ c.record_mut.result.now = some_is c.at.result.now c.record_mut.result.now (At-one (seen slots) c.in-Some.place (Some c.at.result.now) (Some c.record_mut.result.now) there (seen-full slots c.in-Some.place c.record_mut.result.now full)) in
    let may : IsFit c.record_mut.result.now.state (in_place_of c.record_mut.result.now.state.value (elements c.args.value)) = subst (λ (s : RecordState). IsFit s (in_place_of s.value (elements c.args.value))) (c.state.ensures ∙ ap (λ (q : Record). q.state) same) c.in_ok-check_post.ensures.ok in
    let made = post-step slots c.self.inside.free _ c.self.inside.waiting c.self.inside.rules.items c.self.inside.stamp c.args.name.now c.in-Some.place c.record_mut.result.now c.apply.new.self (in_place_of c.record_mut.result.now.state.value (elements c.args.value)) c.args.meta c.self.invariant full found may c.apply.ensures in
    let stored = store_of slots c.self.inside.rules.items c.self.inside.stamp in
    let shown = posted-so stored c.args.name.now c.in-Some.place found c.record_mut.result.now (seen-full slots c.in-Some.place c.record_mut.result.now full) (elements c.args.value) in
    rw (← c.self.view_is) (rw shown made.posts)
