use Rattle.std.proofs.Common.{◌∙◌, List, sym, subst, take_all}
use Rattle.ca_records.specs.Record.{RecordState}
use Rattle.ca_records.specs.Records.{AreApart, IsServed}
use Rattle.ca_records.proofs.Copies.{copy-fresh, copy-more}
use Rattle.ca_records.proofs.Indexes.{index-apart}
use Rattle.ca_records.proofs.records.Records.copy.Goals as goal

pub put_copy-requires : goal.put_copy-requires
put_copy-requires c =
    let xs = c.deref-record-items.result.now in
    let apart : AreApart xs = subst AreApart (sym c.deref-record-items.ensures.value) (index-apart _ _ c.self.invariant) in
    λ served. copy-fresh xs c.loop-record.record-index c.record-item.result apart c.loop-record-test.true c.record-item.is (subst (λ (t : List RecordState). IsServed t c.record-item.result.name) c.loop-record.invariant served)

pub loop-record-preserved : goal.loop-record-preserved
loop-record-preserved c =
    copy-more c.deref-record-items.result.now c.loop-record.copy c.put_copy.new.self c.loop-record.record-index c.record-item.result c.loop-record-test.true c.record-item.is c.loop-record.invariant c.in_ok-put_copy.ensures

pub returns-clause-copy : goal.returns-clause-copy
returns-clause-copy c =
    let xs = c.deref-record-items.result.now in
    c.loop-record.invariant ∙ take_all c.loop-record.record-index xs c.loop-record-test.false ∙ c.deref-record-items.ensures.value ∙ c.self.view_is
