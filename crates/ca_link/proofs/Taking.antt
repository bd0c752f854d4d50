-- What a link's reader answers, as an answer of the link.
use Rattle.std.proofs.Common.{◌≡◌, Bool, [], take, Option, Some, None, Result, Ok, Err, sym, ap, ◌∙◌, subst}
use Rattle.std.proofs.lemmas.List.{take-append-drop}
use Rattle.ca_text.specs.declared.refusal.Refusal.{Refusal}
use Rattle.ca_text.specs.declared.refusal.Refusal.TheVariants as refusal
use Rattle.ca_text.specs.declared.command.Command.{Command}
use Rattle.ca_wire.specs.declared.requests.Wanted.{Wanted}
use Rattle.ca_wire.specs.Fields.{Fields}
use Rattle.ca_wire.specs.Messages.{on_channel}
use Rattle.ca_wire.specs.Reading as wire
use Rattle.ca_wire.specs.Stream.{Held}
use Rattle.ca_wire.proofs.Shorts.{short-spells}
use Rattle.ca_link.specs.Calls.{FirstScalar, Nexts, NextsHeaderOnly}
use Rattle.ca_link.specs.Link.{LinkState}

-- the link with this in its reader
abbrev pub with_input : LinkState → Held → LinkState
with_input l input = record l { input = input }

pub nexts-link : (old : LinkState) (r : Result (Option Fields) Refusal) (input : Held) → wire.Nexts old.input r input → Nexts old r (with_input old input)
nexts-link old (Ok (Some m)) input is =
    let closed : input.closed ≡ old.input.closed = is.stays ∙ sym is.was_open in
    let made : Bool → LinkState = λ c. with_input old (record { bytes = input.bytes; closed = c }) in
    (is.was_open, (input.bytes, (is.front, is.spells, is.bytes), ap made closed))
nexts-link old (Ok None) input is = (is.0, is.1, is.2, ap (with_input old) is.3)
nexts-link old (Err refusal.CircuitClosed) input is = (is.0, ap (with_input old) is.1)
nexts-link old (Err refusal.Misaligned) input is = (is.was_open, is.bad, ap (with_input old) is.closed)
nexts-link old (Err refusal.TooLarge) input is = (is.was_open, is.bad, ap (with_input old) is.closed)
nexts-link old (Err refusal.OutOfMemory) input is =
    let p = is.1 in
    (is.0, (p.m, p.back, (p.front, p.spells, p.are), p.some), ap (with_input old) is.2)
nexts-link old (Err _) input is = absurd is

-- the same of a link by its fields
pub nexts-of : (old new : LinkState) (r : Result (Option Fields) Refusal) (input : Held) → wire.Nexts old.input r input → with_input old input ≡ new → Nexts old r new
nexts-of old new r input is e = subst (λ (l : LinkState). Nexts old r l) e (nexts-link old r input is)

-- a message without payload
pub header_only-link : (c : Command) (old new : LinkState) (o : Option Wanted) (input : Held) → wire.NextsHeaderOnly c old.input o input → with_input old input ≡ new → NextsHeaderOnly c old o new
header_only-link c old new (Some w) input is e = nexts-of old new (Ok (Some (on_channel c w []))) input is e
header_only-link c old new None input is e = (is.0, sym e ∙ ap (with_input old) is.1)

-- a message with a payload of eight bytes
pub short-link : (c : Command) (l : LinkState) (o : Option Wanted) → wire.FirstScalar c l.input o → FirstScalar c l o
short-link c l (Some w) is =
    record { live = is.0; room = is.1.room; takes = (take 24 l.input.bytes, short-spells l.input.bytes c w is.1, sym (take-append-drop 24 l.input.bytes)) }
short-link c l None is = is
