use Rattle.std.proofs.Common.{◌≡◌, ◌∙◌, sym, rules, inr}
use Rattle.ca_dbr.specs.Elements.{base_of, elements}
use Rattle.ca_dbr.specs.Data.{data_of}
use Rattle.ca_display.specs.Types.{base_in}
use Rattle.ca_display.proofs.Images.{own_written}
use Rattle.ca_display.proofs.Shown.{shows-own}
use Rattle.ca_display.proofs.image.write_display.Goals as goal

pub returns-then-eq-clause-written : goal.returns-then-eq-clause-written
returns-then-eq-clause-written c =
    let t = c.in-Some.image_type in
    let d = data_of c.args.display.now in
    let e = elements c.args.value.now in
    let same : c.base_type.result ≡ c.base.result = search rules in
    let own : base_of e ≡ base_in t = sym c.base_type.ensures ∙ same ∙ c.base.ensures in
    let w = c.write_own in
    inr (t, c.in-Some.ensures, own_written t c.args.count e e c.args.meta.now d c.args.out.now.items w.new.out.items w.result (shows-own d e c.args.count (base_in t) own) w.ensures.written w.ensures.err w.ensures.stays)

pub returns-clause-written : goal.returns-clause-written
returns-clause-written c = inr (c.in-Some.image_type, c.in-Some.ensures, c.write_converted.ensures)
