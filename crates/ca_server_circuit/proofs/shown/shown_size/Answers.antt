use Rattle.std.proofs.Common.{◌∙◌, ap, option_map, sym}
use Rattle.std.specs.Prelude.{is_some}
use Rattle.ca_dbr.specs.Held.{display_of}
use Rattle.ca_dbr.specs.Data.{data_of}
use Rattle.ca_server_circuit.proofs.Sizes.{sized-display, sized-plain}
use Rattle.ca_server_circuit.proofs.Subscribes.{is-some}
use Rattle.ca_server_circuit.proofs.shown.shown_size.Goals as goal

pub returns-in-None : goal.returns-in-None
returns-in-None c =
    let h = c.args.held.now in
    sized-plain h c.args.number c.args.count c.image_size.result c.ok.result c.ok.ensures.value (sym (ap (λ o. option_map (λ d. data_of d.now) o) (sym c.in-None.is) ∙ c.display.ensures)) c.image_size.ensures

pub returns-in-Some : goal.returns-in-Some
returns-in-Some c =
    let h = c.args.held.now in
    sized-display h c.args.number c.args.count c.display_size.result c.ok-in-Some.result c.ok-in-Some.ensures.value (is-some (λ d. data_of d.now) c.display.result (display_of h) c.display.ensures (ap is_some c.in-Some.is)) c.display_size.ensures
