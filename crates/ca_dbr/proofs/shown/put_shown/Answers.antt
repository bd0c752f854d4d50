use Rattle.std.proofs.Common.{ℕ, ◌≡◌, ◌-◌, ◌*◌, ◌++◌, replicate, ap, ◌∙◌, arith}
use Rattle.ca_dbr.specs.Types.{element_size}
use Rattle.ca_dbr.specs.Elements.{elements, count_of}
use Rattle.ca_dbr.proofs.Shows.{shown_written}
use Rattle.ca_dbr.proofs.shown.put_shown.Goals as goal

pub returns-in-Ok-clause-shown : goal.returns-in-Ok-clause-shown
returns-in-Ok-clause-shown c =
    let put = c.in-Ok.ensures.puts in
    let e = elements c.args.value.now in
    let o1 = c.put_meta.new.out.items in
    let o3 = c.put_first.new.out.items in
    let missing : c.saturating_sub-missing.result ≡ c.args.count - count_of e = omega arith in
    let size : c.saturating_sub-missing.result * c.element_size.result ≡ (c.args.count - count_of e) * element_size c.args.data_type.base = ap (λ (k : ℕ). k * c.element_size.result) missing ∙ ap (λ (k : ℕ). (c.args.count - count_of e) * k) c.element_size.ensures in
    shown_written c.args.data_type e c.args.count c.args.meta put.0 c.args.out.now.items o1 c.put_zeros.new.out.items o3 c.put_zeros-in-Ok.new.out.items put.1 put.3 c.put_meta.ensures.after
    (c.put_zeros.ensures.after ∙ ap (λ (k : ℕ). o1 ++ replicate k 0) c.padding_size.ensures) put.2 (c.put_zeros-in-Ok.ensures.after ∙ ap (λ (k : ℕ). o3 ++ replicate k 0) size)
