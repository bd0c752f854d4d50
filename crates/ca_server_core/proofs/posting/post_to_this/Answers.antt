use Rattle.std.proofs.Common.{◌≡◌, List, ℕ, sym, ap, ◌∙◌, subst}
use Rattle.ca_records.specs.Record.{RecordState}
use Rattle.ca_records.specs.Store.{IsThere, Store}
use Rattle.ca_server_watchers.specs.Watching.{LeavesAt}
use Rattle.ca_server_core.proofs.Idle.{posts-nothing, reaches-off, reaches-on}
use Rattle.ca_server_core.proofs.posting.post_to_this.Goals as goal

pub at-requires : goal.at-requires
at-requires c =
    let idle = posts-nothing c.args.circuits.now c.post_on.new.circuits c.args.circuit c.args.place c.args.mask c.args.records.now c.post_on.new.records c.post_on.result c.if-post_on.false c.post_on.ensures.watches c.post_on.ensures.posts in
    subst (λ (x : Store). IsThere x c.args.place) (sym idle.1) (c.requires.listed.0, c.requires.listed.1)

pub returns-then-post_on : goal.returns-then-post_on
returns-then-post_on c =
    reaches-on c.args.watchers.now c.args.circuits.now c.post_on.new.circuits c.args.circuit c.args.place c.args.mask c.args.watcher c.args.records.now c.post_on.new.records c.post_on.result c.if-post_on.true c.requires.listed c.post_on.ensures.watches c.post_on.ensures.posts

pub returns : goal.returns
returns c =
    let named : c.name.result.now ≡ c.at.result.now.state.name = c.name.ensures ∙ ap (λ (x : RecordState). x.name) c.state.ensures in
    reaches-off c.args.watchers.now c.forget.new.self c.args.circuits.now c.post_on.new.circuits c.args.circuit c.args.place c.args.mask c.args.watcher c.args.records.now c.post_on.new.records c.post_on.result c.if-post_on.false c.requires.listed c.post_on.ensures.watches
    (posts-nothing c.args.circuits.now c.post_on.new.circuits c.args.circuit c.args.place c.args.mask c.args.records.now c.post_on.new.records c.post_on.result c.if-post_on.false c.post_on.ensures.watches c.post_on.ensures.posts) c.at.result.now c.at.ensures.at (subst (λ (n : List ℕ). LeavesAt n c.args.watcher c.args.watchers.now c.forget.new.self) named c.forget.ensures)
