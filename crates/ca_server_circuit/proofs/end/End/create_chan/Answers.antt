use Rattle.std.proofs.Common.{◌≡◌, ◌≤◌, ℕ, List, Bool, true, false, None, Option, length, inl, inr, sym, ap, ◌∙◌, subst}
use Rattle.std.specs.Prelude.{option_map}
use Rattle.ca_text.specs.Limits.{arena_slots}
use Rattle.ca_ids.specs.Table.{Table, is_full}
use Rattle.ca_records.specs.Puts.{Record, record_named}
use Rattle.ca_records.specs.Store.{Finds, records_of}
use Rattle.ca_wire.specs.Messages.{text_in}
use Rattle.ca_model.specs.Server.{OpenChannel, ServerEnd}
use Rattle.ca_model.specs.ServerSteps.{known_record}
use Rattle.ca_server_circuit.specs.Cids.{UsesCid}
use Rattle.ca_server_circuit.specs.Stepping.{first_at}
use Rattle.ca_server_circuit.proofs.Created.{none-created, one-created, taken-known}
use Rattle.ca_server_circuit.proofs.Replying.{if-then}
use Rattle.ca_server_circuit.proofs.end.End.create_chan.Goals as goal

not-both : (b : Bool) → b ≡ true → b ≡ false → ⊥
not-both b t f = cc

pub returns-in_default-clause-ok : goal.returns-in_default-clause-ok
returns-in_default-clause-ok c =
    let s = c.args.records.now in
    let e = c.args.self.now in
    let m = first_at e.link.input.bytes c.args.head.now in
    let none = subst (λ (n : List ℕ). let no : Option Record = None in record_named (records_of s) n ≡ no) c.text.ensures c.in_default.ensures in
    if-then c.refuse_channel.result (λ did is port. none-created port s e c.refuse_channel.new.self m did (inl (ap (λ (o : Option Record). option_map known_record o) none)) is) c.refuse_channel.ensures.ok

pub returns-then-has_cid-clause-ok : goal.returns-then-has_cid-clause-ok
returns-then-has_cid-clause-ok c =
    let s = c.args.records.now in
    let e = c.args.self.now in
    let m = first_at e.link.input.bytes c.args.head.now in
    let same = ap (λ (x : ServerEnd). x.channels) c.self.view_is in
    let used : UsesCid e.channels m.p1 = subst (λ (n : ℕ). UsesCid e.channels n) c.new.ensures (subst (λ (t : Table OpenChannel). UsesCid t c.new.result) same (c.has_cid.ensures.tells.0 c.if-has_cid.true)) in
    if-then c.refuse_channel-then-has_cid.result (λ did is port. none-created port s e c.refuse_channel-then-has_cid.new.self m did (inr (inl (taken-known port s e m.p1 used))) is) c.refuse_channel-then-has_cid.ensures.ok

pub returns-then-is_full-clause-ok : goal.returns-then-is_full-clause-ok
returns-then-is_full-clause-ok c =
    let s = c.args.records.now in
    let e = c.args.self.now in
    let m = first_at e.link.input.bytes c.args.head.now in
    let same = ap (λ (x : ServerEnd). x.channels) c.self.view_is in
    let full : is_full e.channels ≡ true = subst (λ (t : Table OpenChannel). is_full t ≡ true) same (sym c.is_full.ensures ∙ c.if-is_full.true) in
    if-then c.refuse_channel-then-is_full.result (λ did is port. none-created port s e c.refuse_channel-then-is_full.new.self m did (inr (inr full)) is) c.refuse_channel-then-is_full.ensures.ok

pub returns-clause-ok : goal.returns-clause-ok
returns-clause-ok c =
    let s = c.args.records.now in
    let e = c.args.self.now in
    let m = first_at e.link.input.bytes c.args.head.now in
    let same = ap (λ (x : ServerEnd). x.channels) c.self.view_is in
    let few : length e.channels ≤ arena_slots = subst (λ (t : Table OpenChannel). length t ≤ arena_slots) same c.has_cid.ensures.limit in
    let unused : UsesCid e.channels m.p1 → ⊥ = λ used. not-both c.has_cid.result (c.has_cid.ensures.tells.1 (subst (λ (t : Table OpenChannel). UsesCid t c.new.result) (sym same) (subst (λ (n : ℕ). UsesCid e.channels n) (sym c.new.ensures) used))) c.if-has_cid.false in
    let found : Finds s (text_in m.payload) c.in-Some.place = subst (λ (n : List ℕ). Finds s n c.in-Some.place) c.text.ensures c.in-Some.ensures in
    if-then c.open_channel.result (λ did made port. one-created port c.in-Some.place s e c.open_channel.new.self m did found few unused made) c.open_channel.ensures.ok
