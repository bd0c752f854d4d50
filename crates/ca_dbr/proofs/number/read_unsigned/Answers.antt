use Rattle.std.proofs.Common.{◌≡◌, ℕ, ◌^◌, min, take, Option, Some, sym, ap, ◌∙◌, arith}
use Rattle.std.specs.Prelude.{option_map}
use Rattle.std.specs.Char.{is_ascii_digit}
use Rattle.ca_dbr.specs.Number.{digits_number}
use Rattle.ca_dbr.proofs.Numbers.{digits_of_front, unsigned_no_digit, unsigned_more_behind, unsigned_whole}
use Rattle.ca_dbr.proofs.number.read_unsigned.Goals as goal

clip : Option ℕ → Option ℕ
clip o = option_map (λ n. min n (2 ^ 32)) o

pub returns-then-count-eq0 : goal.returns-then-count-eq0
unfolding clip
returns-then-count-eq0 c = sym (ap clip (unsigned_no_digit c.args.text.now c.leading_digits-count.result c.leading_digits-count.ensures.count (omega arith)))

pub returns-then-leading_spaces-after : goal.returns-then-leading_spaces-after
unfolding clip
returns-then-leading_spaces-after c = sym (ap clip (unsigned_more_behind c.args.text.now c.split_at.result.1.now c.leading_digits-count.result c.leading_digits-count.ensures.count c.split_at.ensures.back (omega arith)))

pub clipped_number-requires : goal.clipped_number-requires
clipped_number-requires c =
    rw c.split_at.ensures.front (digits_of_front is_ascii_digit c.args.text.now c.leading_digits-count.result c.leading_digits-count.ensures.count)

pub returns : goal.returns
unfolding clip
returns c =
    let text = c.args.text.now in
    let count = c.leading_digits-count.result in
    let whole = unsigned_whole text c.split_at.result.1.now count c.leading_digits-count.ensures.count (omega arith) c.split_at.ensures.back (omega arith) in
    let number : c.clipped_number.result ≡ min (digits_number (take count text)) (2 ^ 32) = rw (← c.split_at.ensures.front) c.clipped_number.ensures in
    ap Some number ∙ sym (ap clip whole)
