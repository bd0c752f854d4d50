use Rattle.std.proofs.Common.{rules}
use Rattle.ca_records.specs.Puts.{written_meta}
use Rattle.ca_records.proofs.Overs.{kept-fit, writes-over}
use Rattle.ca_records.proofs.served_record.ServedRecord.write_one.Goals as goal
use Rattle.ca_records.proofs.served_record.ServedRecord.write_one.Goals.{else-is_put-via-then-is_put+else-is_slow, else-is_put-via-else-is_put}

pub invariant_of-self : goal.invariant_of-self
invariant_of-self c =
    kept-fit c.args.number c.args.bytes.now (λ h. written_meta h c.args.stamp) c.self.inside.record c.read_over.result c.read_over.new.self c.self.inside.waiting.items c.read_over.ensures c.self.invariant

pub returns : goal.returns
returns c =
    let i = c.self.inside in
    elim c.else-is_put.branch [
      | else-is_put-via-then-is_put+else-is_slow w ↦ rw (← c.self.view_is) (writes-over c.args.stamp i.record c.read_over.new.self i.busy i.waiting.items c.args.is_put c.args.number c.args.bytes.now c.read_over.result (search rules) (search rules) c.read_over.ensures)
      | else-is_put-via-else-is_put w ↦ rw (← c.self.view_is) (writes-over c.args.stamp i.record c.read_over.new.self i.busy i.waiting.items c.args.is_put c.args.number c.args.bytes.now c.read_over.result (search rules) (search rules) c.read_over.ensures)
    ]
