use Rattle.ca_laws_parts.specs.Lives.{CameOn, LostOn}
use Rattle.ca_laws_parts.proofs.Once.{once-begins, once-told}
use Rattle.ca_laws_parts.proofs.write_laws.a_log_has_each_write_once.Goals as goal

pub returns : goal.returns
returns c = record {
  begins = λ cs l. once-begins (CameOn cs l) (LostOn cs);
  told = λ cs l y e once may. once-told (CameOn cs l) (LostOn cs) y e once may;
}
