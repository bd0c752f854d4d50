use Rattle.std.proofs.Common.{◌≡◌, ◌+◌, ◌<◌, ◌≤◌, ◌++◌, ℕ, Result, OnErr, ap, ◌∙◌, length, vec_capacity, vec_len, arith}
use Rattle.std.proofs.lemmas.List.{length-append}
use Rattle.ca_wire.specs.Fields.{Fields}
use Rattle.ca_wire.specs.Header.{header_spelling}
use Rattle.ca_wire.proofs.Appends.{appended-both, never-err}
use Rattle.ca_wire.specs.Message.{header_of}
use Rattle.ca_wire.proofs.Messages.{length-spelling}
use Rattle.ca_wire.proofs.message.spell_all.Goals as goal

pub returns-clause-ok : goal.returns-clause-ok
returns-clause-ok c =
    let payload : c.deref.result.now ≡ c.args.message.now.payload = c.deref.ensures.value ∙ ap (λ (m : Fields). m.payload) c.message.view_is in
    let header : c.spell_header.new.out.items ≡ c.args.out.now.items ++ header_spelling c.header.result = rw (← c.in_ok-reserve.ensures.items) c.in_ok-spell_header.ensures.ok in
    appended-both c.extend_from_slice.result c.args.out.now.items _ _ _ c.header.result c.args.message.now c.header.ensures.header payload header c.extend_from_slice.ensures.items

-- room was made, so the payload is not refused
never-full : {T E : Type 0} (r : Result T E) (Q : Type 0) (reserved capacity was mid header payload size : ℕ) → OnErr r (capacity < mid + payload) → was + size ≤ reserved → reserved ≤ capacity → mid ≡ was + header → size ≡ header + payload → OnErr r Q
never-full r Q reserved capacity was mid header payload size full room more a b = never-err r _ Q full (λ f. omega (arith, f, room, more, a, b))

pub returns-clause-err : goal.returns-clause-err
returns-clause-err c =
    let m = c.args.message.now in
    let payload : length c.deref.result.now ≡ length m.payload = ap length (c.deref.ensures.value ∙ ap (λ (f : Fields). f.payload) c.message.view_is) in
    let head : length (header_spelling c.header.result) ≡ length (header_spelling (header_of m)) = ap (λ (h : _). length (header_spelling h)) c.header.ensures.header in
    let written : vec_len c.spell_header.new.out ≡ vec_len c.reserve.new.self + length (header_spelling c.header.result) = omega (arith, ap length c.in_ok-spell_header.ensures.ok, length-append c.reserve.new.self.items (header_spelling c.header.result), c.spell_header.new.out.ok, c.reserve.new.self.ok) in
    never-full c.extend_from_slice.result _ (vec_capacity c.reserve.new.self) _ (vec_len c.reserve.new.self) (vec_len c.spell_header.new.out) (length (header_spelling c.header.result)) _ c.spelled_size.result
    c.extend_from_slice.ensures.full c.in_ok-reserve.ensures.ok c.in_ok-spell_header.ensures.capacity written (omega (arith, c.spelled_size.ensures, length-spelling m, head, payload))

pub returns-clause-room : goal.returns-clause-room
returns-clause-room c =
    let m = c.args.message.now in
    let payload : length c.deref.result.now ≡ length m.payload = ap length (c.deref.ensures.value ∙ ap (λ (f : Fields). f.payload) c.message.view_is) in
    let head : length (header_spelling c.header.result) ≡ length (header_spelling (header_of m)) = ap (λ (h : _). length (header_spelling h)) c.header.ensures.header in
    let written : vec_len c.spell_header.new.out ≡ vec_len c.reserve.new.self + length (header_spelling c.header.result) = omega (arith, ap length c.in_ok-spell_header.ensures.ok, length-append c.reserve.new.self.items (header_spelling c.header.result), c.spell_header.new.out.ok, c.reserve.new.self.ok) in
    never-full c.extend_from_slice.result _ (vec_capacity c.reserve.new.self) _ (vec_len c.reserve.new.self) (vec_len c.spell_header.new.out) (length (header_spelling c.header.result)) _ c.spelled_size.result
    c.extend_from_slice.ensures.full c.in_ok-reserve.ensures.ok c.in_ok-spell_header.ensures.capacity written (omega (arith, c.spelled_size.ensures, length-spelling m, head, payload))

pub returns-in_err-spell_header-clause-room : goal.returns-in_err-spell_header-clause-room
returns-in_err-spell_header-clause-room c =
    let m = c.args.message.now in
    let head : length (header_spelling c.header.result) ≡ length (header_spelling (header_of m)) = ap (λ (h : _). length (header_spelling h)) c.header.ensures.header in
    absurd (omega (arith, c.in_err-spell_header.ensures.room, c.in_ok-reserve.ensures.ok, c.spelled_size.ensures, length-spelling m, head))
