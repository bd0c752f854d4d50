use Rattle.std.proofs.Common.{not, rules}
use Rattle.std.proofs.lemmas.Fn.{filter_same}
use Rattle.ca_records.specs.declared.puts.QueuedPut.{QueuedPut}
use Rattle.ca_records.specs.Writes.{is_of}
use Rattle.ca_records.proofs.Waiters.{withdraws, withdraws-fit}
use Rattle.ca_records.proofs.served_record.ServedRecord.withdraw.Goals as goal

pub invariant_of-self : goal.invariant_of-self
invariant_of-self c =
    let t = is_of c.args.circuit c.args.channel in
    withdraws-fit c.self.inside.record t c.self.inside.waiting.items c.retain.new.self.items c.self.invariant (filter_same _ (λ (w : QueuedPut). not (t w.put)) _ (λ x b f' k. search rules) _ _ c.retain.ensures.filtered)

pub returns-clause-without : goal.returns-clause-without
returns-clause-without c =
    let t = is_of c.args.circuit c.args.channel in
    rw (← c.self.view_is) (withdraws c.self.inside.record c.self.inside.busy t c.self.inside.waiting.items c.retain.new.self.items (filter_same _ (λ (w : QueuedPut). not (t w.put)) _ (λ x b f' k. search rules) _ _ c.retain.ensures.filtered))
