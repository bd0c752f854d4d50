use Rattle.std.proofs.Common.{rules}
use Rattle.std.proofs.lemmas.Fn.{filter_same}
use Rattle.ca_requests.specs.Layout.{named}
use Rattle.ca_requests.specs.Requests.{is_open}
use Rattle.ca_requests.proofs.requests.keep_open.Goals as goal

pub returns : goal.returns
returns c = filter_same _ (is_open (named c.args.which) c.args.table.now) _ (λ x b f' k. search rules) _ _ c.retain.ensures.filtered
