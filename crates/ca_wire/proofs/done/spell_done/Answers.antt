use Rattle.std.proofs.Common.{◌∙◌}
use Rattle.ca_wire.proofs.Appends.{appended}
use Rattle.ca_wire.proofs.Words.{two-words}
use Rattle.ca_wire.proofs.done.spell_done.Goals as goal

pub returns-clause-ok : goal.returns-clause-ok
returns-clause-ok c =
    appended c.extend_from_slice.result _ _ _ _ c.extend_from_slice.ensures.items (c.two_words.ensures ∙ two-words c.args.said _ _ c.done_half.ensures c.second_half.ensures)
