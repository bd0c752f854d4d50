use Rattle.std.proofs.Common.{◌*◌, refl, arith, rules}
use Rattle.ca_dbr.specs.Elements.{strings, ints, floats, enums, chars, longs, doubles}
use Rattle.ca_dbr.proofs.Readings.{reads_front, reads_text, filled_many}
use Rattle.ca_dbr.proofs.reading.read_elements.Goals as goal

pub returns-in_ok-push-in-String-clause-read : goal.returns-in_ok-push-in-String-clause-read
returns-in_ok-push-in-String-clause-read c =
    rw c.in-String.is (reads_text c.args.count c.args.bytes.now c.read_text.result c.push.new.self.items (omega arith) (search rules) c.read_text.ensures)

pub returns-in_ok-read_all-in-String-2-clause-read : goal.returns-in_ok-read_all-in-String-2-clause-read
returns-in_ok-read_all-in-String-2-clause-read c =
    let r = c.in_ok-read_all-in-String-2 in
    rw c.in-String-2.is (reads_front (strings r.field-0.items) c.args.bytes.now c.args.count (c.args.count * 40) (filled_many c.args.bytes.now c.args.count c.if-count-eq1.false) r.ensures.again r.ensures.count r.ensures.fits)

pub returns-in_ok-read_all-in-Int-clause-read : goal.returns-in_ok-read_all-in-Int-clause-read
returns-in_ok-read_all-in-Int-clause-read c =
    let r = c.in_ok-read_all-in-Int in
    rw c.in-Int.is (reads_front (ints r.field-0.items) c.args.bytes.now c.args.count (c.args.count * 2) refl r.ensures.again r.ensures.count r.ensures.fits)

pub returns-in_ok-read_all-in-Float-clause-read : goal.returns-in_ok-read_all-in-Float-clause-read
returns-in_ok-read_all-in-Float-clause-read c =
    let r = c.in_ok-read_all-in-Float in
    rw c.in-Float.is (reads_front (floats r.field-0.items) c.args.bytes.now c.args.count (c.args.count * 4) refl r.ensures.again r.ensures.count r.ensures.fits)

pub returns-in_ok-read_all-in-Enum-clause-read : goal.returns-in_ok-read_all-in-Enum-clause-read
returns-in_ok-read_all-in-Enum-clause-read c =
    let r = c.in_ok-read_all-in-Enum in
    rw c.in-Enum.is (reads_front (enums r.field-0.items) c.args.bytes.now c.args.count (c.args.count * 2) refl r.ensures.again r.ensures.count r.ensures.fits)

pub returns-in_ok-read_all-in-Char-clause-read : goal.returns-in_ok-read_all-in-Char-clause-read
returns-in_ok-read_all-in-Char-clause-read c =
    let r = c.in_ok-read_all-in-Char in
    rw c.in-Char.is (reads_front (chars r.field-0.items) c.args.bytes.now c.args.count (c.args.count * 1) refl r.ensures.again r.ensures.count r.ensures.fits)

pub returns-in_ok-read_all-in-Long-clause-read : goal.returns-in_ok-read_all-in-Long-clause-read
returns-in_ok-read_all-in-Long-clause-read c =
    let r = c.in_ok-read_all-in-Long in
    rw c.in-Long.is (reads_front (longs r.field-0.items) c.args.bytes.now c.args.count (c.args.count * 4) refl r.ensures.again r.ensures.count r.ensures.fits)

pub returns-in_ok-read_all-in-Double-clause-read : goal.returns-in_ok-read_all-in-Double-clause-read
returns-in_ok-read_all-in-Double-clause-read c =
    let r = c.in_ok-read_all-in-Double in
    rw c.in-Double.is (reads_front (doubles r.field-0.items) c.args.bytes.now c.args.count (c.args.count * 8) refl r.ensures.again r.ensures.count r.ensures.fits)
