use Rattle.std.proofs.Common.{refl}
use Rattle.ca_dbr.specs.Elements.{elements}
use Rattle.ca_dbr.proofs.OneElement.{told-char, told-double, told-enum, told-float, told-int, told-long}
use Rattle.ca_dbr.proofs.value.Value.scalar.Goals as goal

pub returns-in-Ints-clause-some : goal.returns-in-Ints-clause-some
returns-in-Ints-clause-some c =
    told-int (elements c.args.self.now) _ _ c.args.number _ (rw c.in-Ints.is (rw c.deref.ensures.value refl)) c.number.ensures c.one_word.ensures

pub returns-in-Floats-clause-some : goal.returns-in-Floats-clause-some
returns-in-Floats-clause-some c =
    told-float (elements c.args.self.now) _ _ c.args.number _ (rw c.in-Floats.is (rw c.deref-in-Floats.ensures.value refl)) c.number-in-Floats.ensures c.one_word-in-Floats.ensures

pub returns-in-Enums-clause-some : goal.returns-in-Enums-clause-some
returns-in-Enums-clause-some c =
    told-enum (elements c.args.self.now) _ _ c.args.number _ (rw c.in-Enums.is (rw c.deref-in-Enums.ensures.value refl)) c.number-in-Enums.ensures c.one_word-in-Enums.ensures

pub returns-in-Chars-clause-some : goal.returns-in-Chars-clause-some
returns-in-Chars-clause-some c =
    told-char (elements c.args.self.now) _ _ c.args.number _ (rw c.in-Chars.is (rw c.deref-in-Chars.ensures.value refl)) c.number-in-Chars.ensures c.one_word-in-Chars.ensures

pub returns-in-Longs-clause-some : goal.returns-in-Longs-clause-some
returns-in-Longs-clause-some c =
    told-long (elements c.args.self.now) _ _ c.args.number _ (rw c.in-Longs.is (rw c.deref-in-Longs.ensures.value refl)) c.number-in-Longs.ensures c.one_word-in-Longs.ensures

pub returns-in-Doubles-clause-some : goal.returns-in-Doubles-clause-some
returns-in-Doubles-clause-some c =
    told-double (elements c.args.self.now) _ _ c.args.number _ (rw c.in-Doubles.is (rw c.deref-in-Doubles.ensures.value refl)) c.number-in-Doubles.ensures c.one_word-in-Doubles.ensures
