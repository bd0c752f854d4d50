use Rattle.std.proofs.Common.{ℕ, ◌+◌, ◌<◌, ◌≤◌, ◌⊎◌, drop, length, List, ap, subst, ◌∙◌, arith}
use Rattle.ca_world_data.specs.declared.history.Sent.{Sent}
use Rattle.ca_world_data.specs.declared.joined.Joined.{Joined}
use Rattle.ca_world.specs.Resting.{bytes_up}
use Rattle.ca_world.proofs.Rests.{rests-short, takes-next}
use Rattle.ca_world.proofs.resting.may_take.Goals as goal

pub returns-clause-takes : goal.returns-clause-takes
returns-clause-takes c = λ held.
    let x : Joined = c.args.joined.now in
    let out = ap (λ (l : List ℕ). length l) c.out_bytes.ensures in
    let came = subst (λ (ss : List Sent). (c.len.result < length ss) × (c.args.waiting ≤ bytes_up (drop (c.len.result + 1) ss))) c.deref.ensures.value (c.came_up.ensures.yes held) in
    takes-next c.args.core.now x c.args.waiting c.len.result (c.len.ensures ∙ x.lists.handled.ok.0) c.requires (omega (arith, out, c.if-out_bytes-ge-OUTPUT_LIMIT.false)) came.0 came.1

pub returns-clause-rests : goal.returns-clause-rests
returns-clause-rests c = λ held.
    let x : Joined = c.args.joined.now in
    let out = ap (λ (l : List ℕ). length l) c.out_bytes.ensures in
    rests-short c.args.core.now x c.args.waiting c.len.result (c.len.ensures ∙ x.lists.handled.ok.0) c.requires (omega (arith, out, c.if-out_bytes-ge-OUTPUT_LIMIT.false)) (subst (λ (ss : List Sent). (length ss ≤ c.len.result) ⊎ ((c.len.result < length ss) × (bytes_up (drop (c.len.result + 1) ss) < c.args.waiting))) c.deref.ensures.value (c.came_up.ensures.no held))
