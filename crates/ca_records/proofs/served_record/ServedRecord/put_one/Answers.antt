use Rattle.ca_records.specs.Puts.{written_meta}
use Rattle.ca_records.proofs.Overs.{kept-fit}
use Rattle.ca_records.proofs.served_record.ServedRecord.put_one.Goals as goal

pub invariant_of-self : goal.invariant_of-self
invariant_of-self c =
    kept-fit c.args.number c.args.bytes.now (λ h. written_meta h c.args.stamp) c.self.inside.record c.read_over.result c.read_over.new.self c.self.inside.waiting.items c.read_over.ensures c.self.invariant

pub invariant_of-self-2 : goal.invariant_of-self-2
invariant_of-self-2 c =
    kept-fit c.args.number c.args.bytes.now (λ h. written_meta h c.args.stamp) c.self.inside.record c.read_over.result c.read_over.new.self c.self.inside.waiting.items c.read_over.ensures c.self.invariant
