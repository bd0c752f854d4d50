use Rattle.std.proofs.Common.{◌+◌, drop, ap, ◌∙◌, arith}
use Rattle.std.proofs.lemmas.List.{take_rest}
use Rattle.ca_dbr.proofs.Readings.{reads_parts, reads_long}
use Rattle.ca_dbr.specs.Reading.{IsLong}
use Rattle.ca_dbr.proofs.reading.read_value_into.Goals as goal

pub returns-then-bytes-front-clause-refused : goal.returns-then-bytes-front-clause-refused
returns-then-bytes-front-clause-refused c =
    let t = c.in-Some.data_type in
    let short : IsLong t c.args.count c.args.bytes.now → ⊥ = λ long. omega arith in
    (t, c.in-Some.ensures, short, λ e m r. short (reads_long t c.args.count c.args.bytes.now e m r))

pub returns-clause-read : goal.returns-clause-read
returns-clause-read c =
    let t = c.in-Some.data_type in
    (t, c.in-Some.ensures, reads_parts t c.args.count c.args.bytes.now _ _ c.read_meta-meta.result c.read_meta-meta.ensures.front (omega arith) (take_rest c.args.bytes.now (c.meta_size.result + c.padding_size.result) ∙ ap (λ k. drop k c.args.bytes.now) (omega arith)) c.in_ok-value.ensures.read c.read_meta-meta.ensures.meta c.read_meta-meta.ensures.only)
