use Rattle.std.proofs.Common.{◌≡◌, None, rules}
use Rattle.ca_world_script.specs.Index.{added_of}
use Rattle.ca_world_script.proofs.Same.{type-recorded}
use Rattle.ca_world_script.proofs.posts.type_of.Goals as goal

pub returns-in-Some-recorded-clause-only : goal.returns-in-Some-recorded-clause-only
returns-in-Some-recorded-clause-only c = λ b h.
    let none : added_of c.args.types.now c.args.server c.args.name.now ≡ None = search rules in
    c.in-Some-recorded.ensures.only b (type-recorded c.args.servers.now (added_of c.args.types.now) c.args.server c.args.name.now b none h)

pub returns-in-None-clause-err : goal.returns-in-None-clause-err
returns-in-None-clause-err c = λ b h.
    let none : added_of c.args.types.now c.args.server c.args.name.now ≡ None = search rules in
    c.in-None.ensures.found b (type-recorded c.args.servers.now (added_of c.args.types.now) c.args.server c.args.name.now b none h)
