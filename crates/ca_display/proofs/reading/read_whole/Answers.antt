use Rattle.std.proofs.Common.{ℕ, List, ◌≡◌, ◌*◌, arith, refl, sym, ap, ◌∙◌, take}
use Rattle.std.proofs.lemmas.List.{take_rest}
use Rattle.ca_dbr.specs.Types.{element_size}
use Rattle.ca_display.specs.Types.{limit_count}
use Rattle.ca_display.proofs.Readings.{whole_read}
use Rattle.ca_display.proofs.reading.read_whole.Goals as goal

pub returns-clause-read : goal.returns-clause-read
returns-clause-read c =
    let t = c.args.data_type in
    let bytes = c.args.bytes.now in
    let n = c.limit_count.result * c.element_size.result in
    let r = c.in_ok-limits.ensures.read in
    let size : n ≡ limit_count t.form * element_size t.base = ap (λ (k : ℕ). k * c.element_size.result) c.limit_count.ensures ∙ ap (λ (k : ℕ). limit_count t.form * k) c.element_size.ensures in
    whole_read t.base t.form n bytes _ r.0 size (omega (arith, c.requires, size)) c.read_units-units.ensures (ap (λ (x : List ℕ). take n x) (sym (take_rest bytes 8)) ∙ r.1) r.2 r.3 r.4 r.5 refl c.new.ensures.items
