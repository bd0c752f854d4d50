use Rattle.std.proofs.Common.{◌≡◌, length, arith}
use Rattle.std.proofs.lemmas.Bool.Decides.{nat_tests}
use Rattle.ca_dgram.proofs.Searches.{length-begun}
use Rattle.ca_dgram.proofs.search.opening.Goals as goal

pub returns-then-is_empty-clause-opens : goal.returns-then-is_empty-clause-opens
returns-then-is_empty-clause-opens c =
    let none : length c.args.datagram.now ≡ 0 = grind (arith, nat_tests) in
    omega (arith, length-begun c.args.datagram.now none)
