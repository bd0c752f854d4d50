use Rattle.std.proofs.Common.{◌≡◌, ℕ, List, Option, Some, None, ap, subst}
use Rattle.ca_arena.specs.Arena.{place_at}
use Rattle.ca_ids.specs.Table.{Table, held_at}
use Rattle.ca_records.specs.Puts.{Record, record_named}
use Rattle.ca_records.specs.Store.{Finds, records_of}
use Rattle.ca_model.specs.Server.{OpenChannel, ServerEnd}
use Rattle.ca_server_circuit.proofs.Walking.{walks-on, walks-unnamed}
use Rattle.ca_server_circuit.proofs.end.End.withdraw_on.Goals as goal

pub returns-in_default-find_near : goal.returns-in_default-find_near
returns-in_default-find_near c =
    let n = c.args.index in
    let g = c.in-Some.field-0-0 in
    let o = c.in-Some.channel.now in
    let same = ap (λ (x : ServerEnd). x.channels) c.self.view_is in
    let is = subst (λ (t : Table OpenChannel). Some (g, o) ≡ held_at n (place_at t n)) same c.in-Some.ensures in
    let none = subst (λ (m : List ℕ). let no : Option Record = None in record_named (records_of c.args.records.now) m ≡ no) c.name.ensures c.in_default-find_near.ensures in
    walks-unnamed n c.args.circuit c.args.self.now.channels c.args.records.now g o is none

pub returns : goal.returns
returns c =
    let n = c.args.index in
    let g = c.in-Some.field-0-0 in
    let o = c.in-Some.channel.now in
    let same = ap (λ (x : ServerEnd). x.channels) c.self.view_is in
    let is = subst (λ (t : Table OpenChannel). Some (g, o) ≡ held_at n (place_at t n)) same c.in-Some.ensures in
    let found = subst (λ (m : List ℕ). Finds c.args.records.now m c.in-Some-find_near.place) c.name.ensures c.in-Some-find_near.ensures in
    walks-on n c.args.circuit c.args.self.now.channels c.args.records.now c.withdraw.new.self g o c.in-Some-find_near.place is found c.withdraw.ensures
