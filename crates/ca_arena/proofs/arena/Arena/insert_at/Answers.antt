use Rattle.ca_arena.proofs.Vacant.{inserted-at}
use Rattle.ca_arena.proofs.arena.Arena.insert_at.Goals as goal

pub returns-in-Ok-clause-inserts : goal.returns-in-Ok-clause-inserts
returns-in-Ok-clause-inserts g c =
    inserted-at c.args.self.now c.insert.new.self c.args.value c.vacant.result c.in-Some.next c.args.vacant c.in-Ok.field-0 c.vacant.ensures c.in-Some.is c.if-next-vacant.false c.if-next-vacant-2.false c.in-Ok.ensures.inserts
