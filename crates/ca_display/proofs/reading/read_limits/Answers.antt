use Rattle.std.proofs.Common.{ℕ, List, ◌≡◌, ◌*◌, sym, ap, ◌∙◌, length}
use Rattle.ca_dbr.specs.Types.{element_size}
use Rattle.ca_dbr.specs.Elements.{elements}
use Rattle.ca_dbr.specs.Reading.{ReadsElements}
use Rattle.ca_dbr.specs.Data.{in_field}
use Rattle.ca_display.proofs.Readings.{plain_body, exact_body, limit_count-many}
use Rattle.ca_display.proofs.reading.read_limits.Goals as goal

pub returns-clause-read : goal.returns-clause-read
returns-clause-read c =
    let b = c.args.data_type.base in
    let bytes = c.args.bytes.now in
    let count = c.limit_count-count.result in
    let e = elements c.in_ok-shown.shown in
    let r = c.in_ok-shown.ensures.read in
    let body : ReadsElements b count bytes e = plain_body r.0 b count bytes e _ (r.1 ∙ c.number.ensures) r.2 in
    let sized : length bytes ≡ count * element_size b = c.requires ∙ ap (λ (n : ℕ). n * element_size b) (sym c.limit_count-count.ensures) in
    (e, exact_body b count bytes e (λ one. limit_count-many c.args.data_type.form (sym c.limit_count-count.ensures ∙ one)) sized body, body.based, body.counted ∙ c.limit_count-count.ensures, body.valued, c.to_limits.ensures ∙ ap (λ (x : List ℕ). in_field 8 x) (c.deref.ensures.value ∙ c.in_ok-doubles.ensures))
