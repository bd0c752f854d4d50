use Rattle.std.proofs.Common.{◌≡◌, length, ap, sym, ◌∙◌, rules}
use Rattle.ca_records.proofs.Indexes.{index-defined}
use Rattle.ca_records.specs.Record.{RecordState}
use Rattle.ca_records.proofs.records.Records.add.Goals as goal

pub invariant_of-self-2 : goal.invariant_of-self-2
invariant_of-self-2 c =
    let own : c.in_ok-own.own.items ≡ c.args.name.now = c.in_ok-own.ensures.items in
    let key : c.in_ok-key.key.items ≡ c.args.name.now = c.in_ok-key.ensures.items in
    let named : c.new.result.name ≡ c.args.name.now = ap (λ (s : RecordState). s.name) c.new.ensures ∙ own in
    let here : c.len.result ≡ length c.self.inside.list.items = search rules in
    index-defined (λ k. k.items) c.self.inside.places.entries c.insert.new.self.entries c.self.inside.list.items c.push_reserved.new.self.items c.new.result c.in_ok-key.key c.len.result c.self.invariant (rw (named, c.self.view_is) c.requires) (key ∙ sym named) here c.in_ok-insert.ensures.entries (cc (c.push_reserved.ensures.items, c.in_ok-reserve.ensures.items))
