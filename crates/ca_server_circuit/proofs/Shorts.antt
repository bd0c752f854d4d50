-- A first message that is handled where it came.
use Rattle.std.proofs.Common.{◌≡◌, ℕ, ◌<◌, List, true, drop, length, refl, ap, ◌∙◌}
use Rattle.ca_arena.specs.declared.handle.Handle.{Handle}
use Rattle.ca_link.specs.Calls.{HasScalar}
use Rattle.ca_link.specs.Link.{LinkState, with_rest, with_sent}
use Rattle.ca_records.specs.Store.{Store}
use Rattle.ca_text.specs.Command.{command_number}
use Rattle.ca_text.specs.declared.command.Command.{Command}
use Rattle.ca_text.specs.Limits.{output_limit}
use Rattle.ca_wire.specs.Fields.{Fields}
use Rattle.ca_wire.specs.Reading.{scalar_in}
use Rattle.ca_wire.specs.declared.requests.Wanted.{Wanted}
use Rattle.ca_model.specs.Due.{is_known}
use Rattle.ca_model.specs.Server.{ServerEnd}
use Rattle.ca_server_circuit.specs.declared.seek.Seat.{Seat}
use Rattle.ca_server_circuit.specs.declared.step.FollowUp.{FollowUp}
use Rattle.ca_server_circuit.specs.declared.step.EndStep.TheVariants.{Handled}
use Rattle.ca_server_circuit.specs.Handling.{Does, replied}
use Rattle.ca_server_circuit.specs.Seeking.{IsServed}
use Rattle.ca_server_circuit.specs.Stepping.{EndSteps, Takes, after_scalar}
use Rattle.ca_server_circuit.proofs.Dues.{command_at}
use Rattle.ca_server_circuit.proofs.Handled.{DueFor, does-for}

-- the end without its first message serves what it served
abbrev pub served-after : (s : Store) (e : ServerEnd) (sid : ℕ) (seat : Seat) → IsServed s e sid seat → IsServed s (after_scalar e) sid seat
served-after s e sid seat i =
    record { channel = i.channel; held = i.held; there = i.there; cid = i.cid; r = i.r; at = i.at; named = i.named; found = i.found }

-- the end whose first message was dropped
pub dropped : (v e : ServerEnd) (link : LinkState) → v ≡ e → link ≡ with_rest (drop 24 v.link.input.bytes) v.link → (let new : ServerEnd = record v { link = link } in new) ≡ after_scalar e
dropped v e link is gone =
    ap (λ (l : LinkState). let new : ServerEnd = record v { link = l } in new) gone ∙ ap (λ (x : ServerEnd). after_scalar x) is

-- the same after these messages were queued
pub answered : (v e : ServerEnd) (mid link : LinkState) (ms : List Fields) → v ≡ e → mid ≡ with_sent ms v.link → link ≡ with_rest (drop 24 mid.input.bytes) mid → (let new : ServerEnd = record v { link = link } in new) ≡ replied ms (after_scalar e)
answered v e mid link ms is sent gone =
    ap (λ (l : LinkState). let new : ServerEnd = record v { link = l } in new) (gone ∙ ap (λ (k : LinkState). with_rest (drop 24 k.input.bytes) k) sent)
    ∙ ap (λ (x : ServerEnd). replied ms (after_scalar x)) is

abbrev takes-short : (e : ServerEnd) (c : Command) (w : Wanted) → length e.link.output < output_limit → HasScalar c e.link w → Takes e
takes-short e c w room short = record { room = room; m = scalar_in e.link.input.bytes c w; rest = drop 24 e.link.input.bytes; takes = short.takes }

-- a step that handled it
pub steps-short : (port : ℕ) (h : Handle) (s : Store) (e : ServerEnd) (c : Command) (w : Wanted) (did : FollowUp) (t : Store) (new : ServerEnd) → length e.link.output < output_limit → HasScalar c e.link w → is_known (command_number c) ≡ true → command_at (command_number c) ≡ c
    → Does (DueFor port s h (after_scalar e) (scalar_in e.link.input.bytes c w) c) s h (after_scalar e) (scalar_in e.link.input.bytes c w) did t new → EndSteps port h e s (Handled did) new t
steps-short port h s e c w did t new room short is one d =
    (takes-short e c w room short, does-for port s h (after_scalar e) (scalar_in e.link.input.bytes c w) did t new c refl is one d)
