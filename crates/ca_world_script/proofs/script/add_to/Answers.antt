use Rattle.std.proofs.Common.{◌≡◌, ◌∷◌, [], ◌++◌, rules}
use Rattle.ca_text.specs.declared.refusal.Refusal.{Refusal}
use Rattle.ca_script.specs.Grammar.{Refuses, parted}
use Rattle.ca_script.proofs.Sayings.{handed-on}
use Rattle.ca_world_script.specs.Scripts.{AddsTo, reading}
use Rattle.ca_world_script.proofs.ServerLines.{line-refused}
use Rattle.ca_world_script.proofs.script.add_to.Goals as goal

pub returns-in_err-server-clause-err : goal.returns-in_err-server-clause-err
returns-in_err-server-clause-err c = λ added.
    let last : c.args.script.now.servers.items ≡ c.pop.new.self.items ++ c.in-Some.server ∷ [] = search rules in
    handed-on c.from_residual.result c.in_err-server.field-0.0 (λ (e : Refusal). Refuses (AddsTo (reading c.args.script.now added) (parted 32 c.args.line.now)) e) c.from_residual.ensures.1
    (line-refused (reading c.args.script.now added) (parted 32 c.args.line.now) c.pop.new.self.items c.in-Some.server c.in_err-server.field-0.0 last c.in_err-server.ensures.err)
