use Rattle.std.proofs.Common.{ℕ, List, ◌-◌, ◌*◌, arith, refl, sym, ap, ◌∙◌, length, take, drop}
use Rattle.std.proofs.lemmas.List.{take_rest}
use Rattle.ca_display.proofs.Readings.{states_read}
use Rattle.ca_display.proofs.reading.read_states.Goals as goal

pub returns-clause-read : goal.returns-clause-read
returns-clause-read c =
    let bytes = c.args.bytes.now in
    let n = c.read_number.result in
    let states = c.in_ok-states.ensures in
    states_read bytes _ n c.requires (sym c.from-count.ensures ∙ sym states.count) (omega arith) c.read_number.ensures.again (states.again ∙ ap (λ (k : ℕ). take (k * 26) (take (length bytes - 2) (drop 2 bytes))) c.from-count.ensures ∙ ap (λ (x : List ℕ). take (n * 26) x) (take_rest bytes 2)) states.names refl
