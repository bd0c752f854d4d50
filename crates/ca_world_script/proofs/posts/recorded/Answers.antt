use Rattle.std.proofs.Common.{◌≡◌, ℕ, rules, subst}
use Rattle.ca_text.specs.Place.{At}
use Rattle.ca_world_script.proofs.Same.{is-recorded, none-recorded, only-recorded}
use Rattle.ca_world_script.proofs.posts.recorded.Goals as goal

pub returns-in-Some-clause-found : goal.returns-in-Some-clause-found
returns-in-Some-clause-found c =
    let at : At c.args.servers.now c.args.server c.server_at-line.result.now = subst (λ (k : ℕ). At c.args.servers.now k c.server_at-line.result.now) (search rules) c.server_at-line.ensures in
    let same : c.server_at-line.result.now.records ≡ c.line.inside.records = search rules in
    is-recorded c.args.servers.now c.args.server c.args.name.now c.server_at-line.result.now c.line.inside.records c.in-Some.at c.at.result.now c.base_type.result at same c.in-Some.ensures.found c.at.ensures.at (search rules)

pub returns-in-Some-clause-only : goal.returns-in-Some-clause-only
returns-in-Some-clause-only c =
    let at : At c.args.servers.now c.args.server c.server_at-line.result.now = subst (λ (k : ℕ). At c.args.servers.now k c.server_at-line.result.now) (search rules) c.server_at-line.ensures in
    let same : c.server_at-line.result.now.records ≡ c.line.inside.records = search rules in
    only-recorded c.args.servers.now c.args.server c.args.name.now c.server_at-line.result.now c.line.inside.records c.in-Some.at c.at.result.now c.base_type.result at same c.in-Some.ensures.apart c.in-Some.ensures.found c.at.ensures.at (search rules)

pub returns-in-None-clause-found : goal.returns-in-None-clause-found
returns-in-None-clause-found c =
    let at : At c.args.servers.now c.args.server c.server_at-line.result.now = subst (λ (k : ℕ). At c.args.servers.now k c.server_at-line.result.now) (search rules) c.server_at-line.ensures in
    let same : c.server_at-line.result.now.records ≡ c.line.inside.records = search rules in
    none-recorded c.args.servers.now c.args.server c.args.name.now c.server_at-line.result.now c.line.inside.records at same c.in-None.ensures.found
