use Rattle.std.proofs.Common.{◌+◌, ◌<◌, ◌≤◌, ◌⊎◌, drop, length, List, subst, ◌∙◌}
use Rattle.ca_world_data.specs.declared.history.Told.{Told}
use Rattle.ca_world_data.specs.declared.joined.Joined.{Joined}
use Rattle.ca_world.specs.Resting.{bytes_down}
use Rattle.ca_world.proofs.Rests.{hears-next, rests-heard}
use Rattle.ca_world.proofs.resting.may_hear.Goals as goal

pub returns-clause-hears : goal.returns-clause-hears
returns-clause-hears c = λ core comes held.
    let x : Joined = c.args.joined.now in
    let came = subst (λ (ts : List Told). (c.len.result < length ts) × (c.args.waiting ≤ bytes_down (drop (c.len.result + 1) ts))) c.deref.ensures.value (c.came_down.ensures.yes held) in
    hears-next core x c.args.waiting c.len.result (c.len.ensures ∙ x.lists.heard.ok.0) comes came.0 came.1

pub returns-clause-rests : goal.returns-clause-rests
returns-clause-rests c = λ core comes held.
    let x : Joined = c.args.joined.now in
    rests-heard core x c.args.waiting c.len.result (c.len.ensures ∙ x.lists.heard.ok.0) comes (subst (λ (ts : List Told). (length ts ≤ c.len.result) ⊎ ((c.len.result < length ts) × (bytes_down (drop (c.len.result + 1) ts) < c.args.waiting))) c.deref.ensures.value (c.came_down.ensures.no held))
