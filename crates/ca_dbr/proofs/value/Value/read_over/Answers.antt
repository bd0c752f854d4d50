use Rattle.std.proofs.Common.{◌≡◌, ap, ◌∙◌, refl, sym}
use Rattle.ca_dbr.specs.Elements.{base_of, elements, chars, doubles, enums, floats, ints, longs}
use Rattle.ca_dbr.specs.Types.{base_number}
use Rattle.ca_dbr.proofs.Readings.{reads_over}
use Rattle.ca_dbr.proofs.value.Value.read_over.Goals as goal

pub returns-in-Ints : goal.returns-in-Ints
returns-in-Ints c =
    let r = c.read_one_over in
    let is : base_number (base_of (elements c.args.self.now)) ≡ c.args.number = sym (c.number.ensures ∙ ap base_number c.base_type.ensures) ∙ c.if-number.false in
    let numbered = rw c.in-Ints.is at is in
    rw c.in-Ints.is (reads_over (ints c.in-Ints.items.items) (ints r.new.items.items) c.args.number 2 c.args.bytes.now r.result refl (λ e. absurd cc) numbered refl refl r.ensures.again r.ensures.count r.ensures.one r.ensures.fits r.ensures.enough (λ no. ap ints (ap (λ v. v.items) (r.ensures.same no))) r.ensures.unfit)

pub returns-in-Floats : goal.returns-in-Floats
returns-in-Floats c =
    let r = c.read_one_over-in-Floats in
    let is : base_number (base_of (elements c.args.self.now)) ≡ c.args.number = sym (c.number.ensures ∙ ap base_number c.base_type.ensures) ∙ c.if-number.false in
    let numbered = rw c.in-Floats.is at is in
    rw c.in-Floats.is (reads_over (floats c.in-Floats.items.items) (floats r.new.items.items) c.args.number 4 c.args.bytes.now r.result refl (λ e. absurd cc) numbered refl refl r.ensures.again r.ensures.count r.ensures.one r.ensures.fits r.ensures.enough (λ no. ap floats (ap (λ v. v.items) (r.ensures.same no))) r.ensures.unfit)

pub returns-in-Enums : goal.returns-in-Enums
returns-in-Enums c =
    let r = c.read_one_over-in-Enums in
    let is : base_number (base_of (elements c.args.self.now)) ≡ c.args.number = sym (c.number.ensures ∙ ap base_number c.base_type.ensures) ∙ c.if-number.false in
    let numbered = rw c.in-Enums.is at is in
    rw c.in-Enums.is (reads_over (enums c.in-Enums.items.items) (enums r.new.items.items) c.args.number 2 c.args.bytes.now r.result refl (λ e. absurd cc) numbered refl refl r.ensures.again r.ensures.count r.ensures.one r.ensures.fits r.ensures.enough (λ no. ap enums (ap (λ v. v.items) (r.ensures.same no))) r.ensures.unfit)

pub returns-in-Chars : goal.returns-in-Chars
returns-in-Chars c =
    let r = c.read_one_over-in-Chars in
    let is : base_number (base_of (elements c.args.self.now)) ≡ c.args.number = sym (c.number.ensures ∙ ap base_number c.base_type.ensures) ∙ c.if-number.false in
    let numbered = rw c.in-Chars.is at is in
    rw c.in-Chars.is (reads_over (chars c.in-Chars.items.items) (chars r.new.items.items) c.args.number 1 c.args.bytes.now r.result refl (λ e. absurd cc) numbered refl refl r.ensures.again r.ensures.count r.ensures.one r.ensures.fits r.ensures.enough (λ no. ap chars (ap (λ v. v.items) (r.ensures.same no))) r.ensures.unfit)

pub returns-in-Longs : goal.returns-in-Longs
returns-in-Longs c =
    let r = c.read_one_over-in-Longs in
    let is : base_number (base_of (elements c.args.self.now)) ≡ c.args.number = sym (c.number.ensures ∙ ap base_number c.base_type.ensures) ∙ c.if-number.false in
    let numbered = rw c.in-Longs.is at is in
    rw c.in-Longs.is (reads_over (longs c.in-Longs.items.items) (longs r.new.items.items) c.args.number 4 c.args.bytes.now r.result refl (λ e. absurd cc) numbered refl refl r.ensures.again r.ensures.count r.ensures.one r.ensures.fits r.ensures.enough (λ no. ap longs (ap (λ v. v.items) (r.ensures.same no))) r.ensures.unfit)

pub returns-in-Doubles : goal.returns-in-Doubles
returns-in-Doubles c =
    let r = c.read_one_over-in-Doubles in
    let is : base_number (base_of (elements c.args.self.now)) ≡ c.args.number = sym (c.number.ensures ∙ ap base_number c.base_type.ensures) ∙ c.if-number.false in
    let numbered = rw c.in-Doubles.is at is in
    rw c.in-Doubles.is (reads_over (doubles c.in-Doubles.items.items) (doubles r.new.items.items) c.args.number 8 c.args.bytes.now r.result refl (λ e. absurd cc) numbered refl refl r.ensures.again r.ensures.count r.ensures.one r.ensures.fits r.ensures.enough (λ no. ap doubles (ap (λ v. v.items) (r.ensures.same no))) r.ensures.unfit)
