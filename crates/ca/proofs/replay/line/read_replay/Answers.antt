use Rattle.std.proofs.Common.{◌∙◌, codes, string_bytes, sym}
use Rattle.clap.specs.Words.{found_of}
use Rattle.clap.proofs.WalkLemmas.{first_value-rows}
use Rattle.ca.proofs.Escaping.{texts-escape}
use Rattle.ca.proofs.ReplayReading.{escape-names, taken-names}
use Rattle.ca.proofs.replay.line.read_replay.Goals as goal

pub returns-in-Ok-clause-ok : goal.returns-in-Ok-clause-ok
returns-in-Ok-clause-ok c =
    taken-names _ _ _ _ c.meant.result _ _ (sym (texts-escape string_bytes c.args.words.now _ c.escapes.ensures) ∙ c.if-escapes.false) c.in_ok-command.ensures c.in-Ok.ensures.kinds c.in-Ok.ensures.matches (c.get_str.ensures ∙ first_value-rows (found_of c.in-Ok.matches) (codes "file")) (c.get_str-in-Ok.ensures ∙ first_value-rows (found_of c.in-Ok.matches) (codes "seed")) c.meant.ensures

pub returns-then-escapes-clause-ok : goal.returns-then-escapes-clause-ok
returns-then-escapes-clause-ok c = escape-names _ (sym (texts-escape string_bytes c.args.words.now _ c.escapes.ensures) ∙ c.if-escapes.true)
