use Rattle.ca_laws_parts.proofs.UpdatesNumbers.{part-take}
use Rattle.ca_laws_parts.proofs.update_laws.a_subsequence_begins_with_one.Goals as goal

pub returns : goal.returns
returns g c n xs ys p = part-take n xs ys p
