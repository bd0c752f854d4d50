use Rattle.std.proofs.Common.{ℕ, List, ◌++◌, ap, ◌∙◌}
use Rattle.ca_dbr.specs.Elements.{bytes_2}
use Rattle.ca_display.proofs.Images.{three_pieces}
use Rattle.ca_display.proofs.image.put_states.Goals as goal

pub returns-clause-after : goal.returns-clause-after
unfolding bytes_2
returns-clause-after c =
    three_pieces c.args.out.now.items _ _ _ c.put_bytes.new.out.items c.put_names.new.out.items c.put_zeros.new.out.items (c.put_bytes.ensures.after ∙ ap (λ (x : List ℕ). c.args.out.now.items ++ x) c.to_be_bytes.ensures) c.put_names.ensures.after c.put_zeros.ensures.after
