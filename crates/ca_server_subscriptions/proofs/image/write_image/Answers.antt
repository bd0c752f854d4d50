use Rattle.std.proofs.Common.{◌∙◌, ap, option_map, sym}
use Rattle.ca_dbr.specs.Elements.{elements}
use Rattle.ca_dbr.specs.Data.{data_of}
use Rattle.ca_server_subscriptions.proofs.Imaging.{writes-display, writes-plain}
use Rattle.ca_server_subscriptions.proofs.image.write_image.Goals as goal

pub returns-in-None : goal.returns-in-None
returns-in-None c =
    writes-plain c.args.held.now c.args.number c.args.count (elements c.value-value.result.now) c.args.meta.now c.args.out.now.items c.write_shown.new.out.items c.write_shown.result c.value-value.ensures.bare (ap (λ o. option_map (λ d. data_of d.now) o) (sym c.in-None.is) ∙ c.display.ensures) c.write_shown.ensures.shown

pub returns-in-Some : goal.returns-in-Some
returns-in-Some c =
    writes-display c.args.held.now c.args.number c.args.count (elements c.value-value.result.now) c.args.meta.now c.args.out.now.items c.write_display.new.out.items c.write_display.result c.value-value.ensures.bare (data_of c.in-Some.display.now)
    (ap (λ o. option_map (λ d. data_of d.now) o) (sym c.in-Some.is) ∙ c.display.ensures)
    c.write_display.ensures.written
