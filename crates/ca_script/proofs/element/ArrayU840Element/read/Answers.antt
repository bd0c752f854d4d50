use Rattle.std.proofs.Common.{◌≡◌, length, rules}
use Rattle.ca_script.proofs.Elements.{hex-string}
use Rattle.ca_script.proofs.element.ArrayU840Element.read.Goals as goal

pub returns-clause-ok : goal.returns-clause-ok
returns-clause-ok c =
    let len : length c.read_hex.new.bytes ≡ c.byte_count-size.result = search rules in
    hex-string c.args.word.now c.read_hex.new.bytes c.byte_count-size.result c.in_ok-read_hex.ensures.ok len (search rules)
