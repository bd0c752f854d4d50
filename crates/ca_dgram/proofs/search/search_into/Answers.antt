use Rattle.std.proofs.Common.{[], ◌≡◌, ◌+◌, ◌-◌, ◌%◌, length, refl, sym, ap, ◌∙◌, arith}
use Rattle.ca_wire.specs.Header.{short_header}
use Rattle.ca_wire.specs.Message.{header_of}
use Rattle.ca_wire.specs.Messages.{search_request}
use Rattle.ca_dgram.specs.Search.{begun, searched}
use Rattle.ca_dgram.proofs.Searches.{length-searched, room-lacked, searched-written, searches-refused}
use Rattle.ca_dgram.proofs.search.search_into.Goals as goal

pub returns-then-len-growth-clause-searches : goal.returns-then-len-growth-clause-searches
returns-then-len-growth-clause-searches c =
    let out = c.args.out.now.items in
    let name = c.bytes-name.result.now in
    let within = c.bytes-name.ensures.name.within in
    let long : length (searched out c.args.cid c.args.name.now) ≡ length (begun out) + 16 + length name + (8 - length name % 8) = ap (λ t. length (searched out c.args.cid t)) (sym c.bytes-name.ensures.bytes) ∙ length-searched out c.args.cid name (8 - length name % 8) within refl in
    (omega (arith, ap length c.deref.ensures.value, ap (λ t. length (begun t)) c.deref.ensures.value), refl)

pub returns-in_err-reserve-clause-searches : goal.returns-in_err-reserve-clause-searches
returns-in_err-reserve-clause-searches c =
    let out = c.args.out.now.items in
    let name = c.bytes-name.result.now in
    let within = c.bytes-name.ensures.name.within in
    let long : length (searched out c.args.cid c.args.name.now) ≡ length (begun out) + 16 + length name + (8 - length name % 8) = ap (λ t. length (searched out c.args.cid t)) (sym c.bytes-name.ensures.bytes) ∙ length-searched out c.args.cid name (8 - length name % 8) within refl in
    searches-refused out _ c.args.cid c.args.name.now c.from_residual.result c.from_residual.ensures.1 (omega (arith, ap length c.deref.ensures.value, ap (λ t. length (begun t)) c.deref.ensures.value)) c.in_err-reserve.ensures.items

pub returns-in_err-reserve-clause-room : goal.returns-in_err-reserve-clause-room
returns-in_err-reserve-clause-room c =
    let out = c.args.out.now.items in
    let name = c.bytes-name.result.now in
    let within = c.bytes-name.ensures.name.within in
    let long : length (searched out c.args.cid c.args.name.now) ≡ length (begun out) + 16 + length name + (8 - length name % 8) = ap (λ t. length (searched out c.args.cid t)) (sym c.bytes-name.ensures.bytes) ∙ length-searched out c.args.cid name (8 - length name % 8) within refl in
    room-lacked _ _ c.from_residual.result (omega (arith, long, c.in_err-reserve.ensures.full, c.args.out.now.ok.0, ap length c.deref.ensures.value, ap (λ t. length (begun t)) c.deref.ensures.value))

pub returns-clause-searches : goal.returns-clause-searches
returns-clause-searches c =
    let out = c.args.out.now.items in
    let name = c.bytes-name.result.now in
    let within = c.bytes-name.ensures.name.within in
    let long : length (searched out c.args.cid c.args.name.now) ≡ length (begun out) + 16 + length name + (8 - length name % 8) = ap (λ t. length (searched out c.args.cid t)) (sym c.bytes-name.ensures.bytes) ∙ length-searched out c.args.cid name (8 - length name % 8) within refl in
    let begins = c.begin.ensures.items ∙ ap begun c.in_ok-reserve.ensures.items in
    let written = searched-written out _ _ _ _ c.short_form-header.result name c.args.cid (length name + (8 - length name % 8)) (8 - length name % 8) within refl refl begins (c.short_form-header.ensures ∙ ap short_header (c.search_header.ensures ∙ ap (λ (n : _). record (header_of (search_request n [])) { size = length name + (8 - length name % 8) }) c.new.ensures)) c.append.ensures.items c.append-2.ensures.items c.append-3.ensures.items in
    let all = written ∙ ap (λ t. searched out c.args.cid t) c.bytes-name.ensures.bytes in
    (omega (arith, ap length all, long, ap length c.deref.ensures.value, ap (λ t. length (begun t)) c.deref.ensures.value), all)
