use Rattle.std.proofs.Common.{◌*◌, ◌∙◌, ℕ, ap, sym}
use Rattle.ca_dbr.specs.Elements.{count_of, elements}
use Rattle.ca_dbr.specs.Types.{element_size}
use Rattle.ca_dbr.proofs.Images.{length-bytes_of}
use Rattle.ca_client_tables.proofs.valued.size_of.Goals as goal

pub returns : goal.returns
returns c =
    let e = elements c.args.value.now in
    ap (λ (n : ℕ). n * c.element_size.result) c.count.ensures
    ∙ ap (λ (n : ℕ). count_of e * n) (c.element_size.ensures ∙ ap element_size c.base_type.ensures)
    ∙ sym (length-bytes_of e c.know.ensures.valued)
