use Rattle.std.proofs.Common.{◌∙◌, ap, take}
use Rattle.ca_model.specs.Ends.{Address}
use Rattle.ca_client_tables.specs.Names.{is_among, nowhere}
use Rattle.ca_client_tables.proofs.Beginnings.{read-within}
use Rattle.ca_client_tables.proofs.beginning.is_seen_before.Goals as goal

pub returns : goal.returns
returns c =
    let names = c.args.names.now in
    c.is_among.ensures
    ∙ ap (λ (a : Address). is_among a (take c.args.index names))
    (c.index-names-index.is ∙ read-within names c.args.index c.index-names-index.result nowhere c.requires)
