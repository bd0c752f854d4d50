use Rattle.std.proofs.Common.{ℕ, List, ◌≡◌, ◌/◌, ◌%◌, ◌^◌, ◌++◌, take, ap, ◌∙◌, rules}
use Rattle.std.specs.Fmt.{decimal}
use Rattle.ca_display.specs.Decimal.{padded_digits}
use Rattle.ca_display.proofs.Decimals.{point_some}
use Rattle.ca_display.proofs.decimal.put_units.Goals as goal

pub returns : goal.returns
returns c =
    let w = c.from-power.result in
    let power : w ≡ 10 ^ c.args.places = search rules in
    let front : c.as_bytes.result.now ≡ decimal (c.args.units / w) = search rules in
    point_some c.args.text.now.items c.put.new.text.items c.put-2.new.text.items c.put_padded.new.text.items c.args.places c.args.units w c.if-places-eq0.false power (c.put.ensures ∙ ap (λ (x : List ℕ). take 40 (c.args.text.now.items ++ x)) front) c.put-2.ensures (c.put_padded.ensures ∙ ap (λ (k : ℕ). take 40 (c.put-2.new.text.items ++ padded_digits k (c.args.units % w))) c.from.ensures)
