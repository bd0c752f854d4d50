use Rattle.std.proofs.Common.{◌∙◌}
use Rattle.ca_wire.proofs.Appends.{appended}
use Rattle.ca_wire.proofs.Words.{three-words}
use Rattle.ca_wire.proofs.scalar_message.spell_scalar.Goals as goal

pub returns-clause-ok : goal.returns-clause-ok
returns-clause-ok c =
    appended c.extend_from_slice.result _ _ _ _ c.extend_from_slice.ensures.items (c.three_words.ensures ∙ three-words c.args.said _ _ c.first_half.ensures c.second_half.ensures)
