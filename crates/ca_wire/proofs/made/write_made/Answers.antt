use Rattle.std.proofs.Common.{◌≡◌, ℕ, List, ◌++◌, refl, ap, ◌∙◌, arith}
use Rattle.ca_wire.specs.declared.header.Header.{Header}
use Rattle.ca_wire.specs.Header.{header_spelling}
use Rattle.ca_wire.proofs.Headers.{header_spelling-short, header-same}
use Rattle.ca_wire.proofs.Making.{made-whole, padded_size, refused-after, same-error}
use Rattle.ca_wire.proofs.made.write_made.Goals as goal

after-reserve : (old reserved new more : List ℕ) → new ≡ reserved ++ more → reserved ≡ old → new ≡ old ++ more
after-reserve old reserved new more e f = e ∙ ap (λ (t : List ℕ). t ++ more) f

pub overflow_add-header_size : goal.overflow_add-header_size
overflow_add-header_size g c =
    let h : Header = record { command = c.command.result; data_type = c.data_type.result; size = c.next_multiple_of-padded.result; count = c.count.result; p1 = c.p1.result; p2 = c.p2.result } in
    omega (arith, c.header_size.ensures, header_spelling-short h, c.requires.within, c.next_multiple_of-padded.ensures.upper_bound)

pub returns-in_err-put : goal.returns-in_err-put
returns-in_err-put g c =
    let old = c.args.out.now.items in
    let h : Header = record { command = c.command.result; data_type = c.data_type.result; size = c.next_multiple_of-padded.result; count = c.count.result; p1 = c.p1.result; p2 = c.p2.result } in
    let at : c.spell_header.new.out.items ≡ old ++ header_spelling h = after-reserve _ _ _ _ c.in_ok-spell_header.ensures.ok c.in_ok-reserve.ensures.items in
    refused-after c.args.head.now _ c.args.out.now.items _ _ _ _ _ (same-error _ _ c.from_residual-in_err-put.ensures.1) at c.in_err-put.ensures

pub returns : goal.returns
returns g c =
    let old = c.args.out.now.items in
    let h : Header = record { command = c.command.result; data_type = c.data_type.result; size = c.next_multiple_of-padded.result; count = c.count.result; p1 = c.p1.result; p2 = c.p2.result } in
    let at : c.spell_header.new.out.items ≡ old ++ header_spelling h = after-reserve _ _ _ _ c.in_ok-spell_header.ensures.ok c.in_ok-reserve.ensures.items in
    let n = c.next_multiple_of-padded.ensures in
    made-whole c.args.head.now _ c.args.out.now.items _ _ _ c.args.size c.next_multiple_of-padded.result h c.requires.sized (padded_size c.args.size _ n.lower_bound n.upper_bound n.multiple)
    (header-same _ _ c.command.ensures c.data_type.ensures refl c.count.ensures c.p1.ensures c.p2.ensures)
    at c.in_ok-put.ensures c.in_ok-pad.ensures.ok
