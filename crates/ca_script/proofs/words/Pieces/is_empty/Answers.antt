use Rattle.std.proofs.lemmas.Bool.{false≢true}
use Rattle.ca_script.proofs.Partings.{some-left}
use Rattle.ca_script.proofs.words.Pieces.is_empty.Goals as goal

pub returns-in-Some : goal.returns-in-Some
returns-in-Some g c = (λ h. absurd (false≢true h), λ h. absurd (some-left g.row.SEPARATOR c.self.inside.rest c.in-Some.field-0 c.args.self.now c.in-Some.is c.self.view_is h))
