use Rattle.std.proofs.Common.{◌≡◌, ℕ, ◌-◌, List, length, slice_get, sym, ap, ◌∙◌, subst, arith}
use Rattle.ca_arena.specs.declared.handle.Handle.{Handle}
use Rattle.ca_records.specs.Record.{RecordState}
use Rattle.ca_text.specs.Place.{At}
use Rattle.ca_text.proofs.Places.{At-within}
use Rattle.ca_server_watchers.specs.Watching.{AreApart, watching}
use Rattle.ca_server_core.proofs.Idle.{none-last}
use Rattle.ca_server_core.proofs.GoneThrough.{goes-idle, goes-shown}
use Rattle.ca_server_core.proofs.through.go_to_watching.Goals as goal

pub returns-in_default-clause-through : goal.returns-in_default-clause-through
returns-in_default-clause-through c = λ idle busies sid.
    let w = c.args.watchers.now in
    let t = c.args.circuits.now in
    let s = c.args.records.now in
    let r = c.at-served.result.now in
    let named : c.name.result.now ≡ r.state.name = c.name.ensures ∙ ap (λ (x : RecordState). x.name) c.state.ensures in
    let none =
    none-last (watching w r.state.name) c.last.new.before (c.last.ensures.before ∙ ap (λ (n : List ℕ). length (watching w n) - 1) named)
    (ap (λ (n : List ℕ). slice_get (watching w n) c.last.new.before) (sym named) ∙ sym c.in_default.ensures.last) in
    (goes-idle c.args.place c.args.circuit w t s r c.at-served.ensures.at c.at-served.ensures.found (sym c.is_busy.ensures ∙ c.if-is_busy.false) (subst (λ (n : List ℕ). AreApart (watching w n)) named c.last.ensures.apart) none c.requires.sound c.requires.covered (c.requires.rests idle) busies sid)

pub returns-clause-through : goal.returns-clause-through
returns-clause-through c = λ yes busies sid.
    let w = c.args.watchers.now in
    let t = c.args.circuits.now in
    let s = c.args.records.now in
    let r = c.at-served.result.now in
    let named : c.name.result.now ≡ r.state.name = c.name.ensures ∙ ap (λ (x : RecordState). x.name) c.state.ensures in
    let sole = c.is_only.ensures c.if-not-is_only.false in
    let there : At (watching w r.state.name) c.last.new.before c.in-Some.last = subst (λ (n : List ℕ). At (watching w n) c.last.new.before c.in-Some.last) named (sym c.in-Some.ensures.last) in
    let within = At-within (watching w r.state.name) c.last.new.before c.in-Some.last there in
    let one : length (watching w r.state.name) ≡ 1 = omega (arith, c.last.ensures.before ∙ ap (λ (n : List ℕ). length (watching w n) - 1) named, sole.0, within) in
    let last : At (watching w r.state.name) 0 c.args.circuit = subst (λ (h : Handle). At (watching w r.state.name) 0 h) sole.1 (subst (λ (n : ℕ). At (watching w r.state.name) n c.in-Some.last) sole.0 there) in
    (goes-shown c.args.place c.args.circuit w t c.show_on.new.circuits s r c.at-served.ensures.at c.at-served.ensures.found (sym c.is_busy.ensures ∙ c.if-is_busy.false) (subst (λ (n : List ℕ). AreApart (watching w n)) named c.last.ensures.apart) one last c.requires.sound c.requires.covered (c.show_on.ensures.shown yes) busies sid)
