use Rattle.std.proofs.Common.{◌≡◌, List, ℕ, sym, ap, ◌∙◌, subst}
use Rattle.ca_records.specs.Record.{RecordState}
use Rattle.ca_text.specs.Place.{At}
use Rattle.ca_server_watchers.specs.Watching.{watching}
use Rattle.ca_server_core.proofs.posting.post_to_one.Goals as goal

pub at-requires : goal.at-requires
at-requires c = (c.requires.copy.0, c.requires.copy.1)

pub post_to_this-requires-clause-listed : goal.post_to_this-requires-clause-listed
post_to_this-requires-clause-listed c =
    let named : c.name.result.now ≡ c.at.result.now.state.name = c.name.ensures ∙ ap (λ (x : RecordState). x.name) c.state.ensures in
    (c.at.result.now, c.at.ensures.at, subst (λ (n : List ℕ). At (watching c.args.watchers.now n) c.args.watcher c.in-Some.circuit) named (sym c.in-Some.ensures))
