use Rattle.std.proofs.Common.{◌≡◌, ◌*◌, length, arith}
use Rattle.ca_script.proofs.ElementRefusals.{hex-length}
use Rattle.ca_script.proofs.element.byte_count.Goals as goal

pub returns : goal.returns
returns c = λ bytes h. (let twice : length c.args.word.now ≡ 2 * length bytes = hex-length c.args.word.now bytes h in omega (arith, twice))
