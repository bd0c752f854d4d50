use Rattle.std.proofs.Common.{ℕ, List, arith, ◌-◌, length, take, drop}
use Rattle.std.proofs.lemmas.List.{take_rest}
use Rattle.ca_display.proofs.Readings.{display_long, display_read, value_refused, data_refused}
use Rattle.ca_display.proofs.reading.read_display.Goals as goal

pub returns-then-bytes-size-clause-refused : goal.returns-then-bytes-size-clause-refused
returns-then-bytes-size-clause-refused c =
    let t = c.in-Some.data_type in
    (t, c.in-Some.ensures, λ e m d r. omega (arith, display_long t c.args.count c.args.bytes.now e m d r, c.if-bytes-size.true, c.data_size-size.ensures))

pub returns-in-Err-clause-refused : goal.returns-in-Err-clause-refused
returns-in-Err-clause-refused c =
    let bytes = c.args.bytes.now in
    data_refused c.in-Some.data_type c.args.number c.args.count c.data_size-size.result bytes (take (length bytes - 4) (drop 4 bytes)) c.in-Err.refusal c.in-Some.ensures c.data_size-size.ensures (take_rest bytes 4) c.in-Err.ensures.err

pub returns-in-Err-read_value-clause-refused : goal.returns-in-Err-read_value-clause-refused
returns-in-Err-read_value-clause-refused c =
    let bytes = c.args.bytes.now in
    let n = c.data_size-size.result in
    let rest : List ℕ = take (length bytes - 4) (drop 4 bytes) in
    value_refused c.in-Some.data_type c.args.number c.number.result c.args.count n bytes rest (take (length rest - n) (drop n rest)) c.in-Err-read_value.refusal c.in-Some.ensures c.number.ensures c.data_size-size.ensures (omega arith) (take_rest bytes 4) (take_rest rest n) c.in-Err-read_value.ensures.refused

pub returns-in-Ok-read_value-clause-read : goal.returns-in-Ok-read_value-clause-read
returns-in-Ok-read_value-clause-read c =
    let t = c.in-Some.data_type in
    let bytes = c.args.bytes.now in
    let n = c.data_size-size.result in
    let rest : List ℕ = take (length bytes - 4) (drop 4 bytes) in
    let r = c.in-Ok-read_value.ensures.read in
    let alarm = c.read_alarm-meta.ensures in
    (t, c.in-Some.ensures, display_read t r.0 c.args.count c.number.result n bytes rest (take (length rest - n) (drop n rest)) _ c.read_alarm-meta.result _ _ c.number.ensures (take_rest bytes 4) (take_rest rest n) alarm.front alarm.meta alarm.only c.in-Ok.ensures.read r.1 r.2)
