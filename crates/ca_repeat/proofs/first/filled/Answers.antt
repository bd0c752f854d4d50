use Rattle.std.proofs.Common.{◌++◌, drop, take, ◌∙◌, ap, append_assoc, arith}
use Rattle.std.proofs.lemmas.List.{length-take, take_rest}
use Rattle.ca_wire.specs.Header.{number32}
use Rattle.ca_repeat.proofs.Firsts.{blank-long}
use Rattle.ca_repeat.proofs.first.filled.Goals as goal

pub slice_bounds-from_slice-end : goal.slice_bounds-from_slice-end
slice_bounds-from_slice-end c = omega (arith, blank-long c.args.bytes.now c.requires, length-take 12 c.args.bytes.now)

pub slice_bounds-extend_from_slice-count : goal.slice_bounds-extend_from_slice-count
slice_bounds-extend_from_slice-count c = omega (arith, blank-long c.args.bytes.now c.requires)

pub slice_bounds-extend_from_slice-start : goal.slice_bounds-extend_from_slice-start
slice_bounds-extend_from_slice-start c = omega (arith, blank-long c.args.bytes.now c.requires)

pub returns : goal.returns
unfolding number32
returns c =
    let bytes = c.args.bytes.now in
    c.in_ok-extend_from_slice-2.ensures.items ∙ ap (λ t. c.extend_from_slice.new.self.items ++ t) (take_rest bytes 16)
    ∙ ap (λ t. t ++ drop 16 bytes) (c.in_ok-extend_from_slice.ensures.items ∙ ap (λ t. t ++ c.to_be_bytes.result) c.in_ok-beacon.ensures.items ∙ ap (λ t. take 12 bytes ++ t) c.to_be_bytes.ensures)
    ∙ append_assoc (take 12 bytes) (number32 c.args.from.ip) (drop 16 bytes)
