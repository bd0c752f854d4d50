use Rattle.std.proofs.Common.{◌≡◌, ℕ, List, Some, None, Option, sym, ap, ◌∙◌, subst}
use Rattle.ca_ids.specs.Table.{Table, under}
use Rattle.ca_records.specs.Puts.{Record, record_named}
use Rattle.ca_records.specs.Store.{records_of}
use Rattle.ca_model.specs.Server.{OpenChannel, ServerEnd}
use Rattle.ca_server_circuit.proofs.Tables.{wire-under}
use Rattle.ca_server_circuit.proofs.end.End.seek.Goals as goal

no-record : (r : Record) → let none : Option Record = None in none ≡ Some r → ⊥
no-record r e = cc

pub unreachable-requires : goal.unreachable-requires
unreachable-requires c =
    let rs = records_of c.args.records.now in
    let h = c.in-Some.handle in
    let o = c.in-Some.channel.now in
    let same = ap (λ (x : ServerEnd). x.channels) c.self.view_is in
    let there = wire-under c.self.inside.channels c.args.sid (h, o) (sym c.in-Some.ensures.found) in
    let open_there = subst (λ (t : Table OpenChannel). under t h ≡ Some o) same there.0 in
    let have = c.requires h o open_there (sym c.is_retired.ensures ∙ c.if-is_retired.false) in
    no-record have.0 (sym c.in-None.ensures ∙ ap (λ (n : List ℕ). record_named rs n) c.name.ensures ∙ have.1)
