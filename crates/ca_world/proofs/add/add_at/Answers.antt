use Rattle.std.proofs.Common.{◌≡◌, ◌∙◌, ℕ, ◌+◌, inl, List, [], ◌∷◌, Ok, ap, arith, length, map, refl, subst, sym}
use Rattle.ca_dbr.specs.Elements.{elements}
use Rattle.ca_records.specs.Calls.{MayAdd}
use Rattle.ca_records.specs.Record.{RecordState, unset}
use Rattle.ca_model.specs.History as entry
use Rattle.ca_model.specs.Server.{Server}
use Rattle.ca_model.specs.ServerCalls.{AddsRecord}
use Rattle.ca_model.specs.World.{grown, record_begun}
use Rattle.ca_model.specs.World as model
use Rattle.ca_world_data.specs.declared.server.RecordSide.{RecordSide}
use Rattle.ca_world_data.specs.declared.server.ServerSide.{ServerSide}
use Rattle.ca_world_data.specs.Opening.{entries_in}
use Rattle.ca_world_data.specs.Seen.{record_of, server_of}
use Rattle.ca_world.specs.Adding.{StandsBehind}
use Rattle.ca_world.proofs.Counted.{few-entries}
use Rattle.ca_world.proofs.Additions.{adds-behind, adds-same, clamped, map-put, put_at, stands-behind}
use Rattle.ca_world.proofs.Judgements.{add-lacks, add-refusal, add-taken, count-exact}
use Rattle.ca_world.proofs.add.add_at.Goals as goal

pub returns-then-not-takes_record-clause-adds : goal.returns-then-not-takes_record-clause-adds
returns-then-not-takes_record-clause-adds c =
    let s : RecordState = record { name = c.args.name.now; count = c.args.count; slow = c.args.slow; value = elements c.args.value.now; meta = unset } in
    add-refusal s (server_of c.args.side.now) (entries_in c.args.logs.now.items) c.takes_record.result (c.takes_record.ensures c.args.slow) c.if-not-takes_record.true

pub returns-in_err-from_slice-clause-adds : goal.returns-in_err-from_slice-clause-adds
returns-in_err-from_slice-clause-adds c =
    let y : ServerSide = c.args.side.now in
    let s : RecordState = record { name = c.args.name.now; count = c.args.count; slow = c.args.slow; value = elements c.args.value.now; meta = unset } in
    let may : MayAdd y.core.records s = add-taken y.core.records s c.takes_record.result (c.takes_record.ensures c.args.slow) c.if-not-takes_record.false in
    add-lacks s (server_of y) _ (entries_in c.args.logs.now.items) _ c.from_residual.result c.from_residual.ensures.1 may refl refl

pub returns-in_err-value_again-clause-adds : goal.returns-in_err-value_again-clause-adds
returns-in_err-value_again-clause-adds c =
    let y : ServerSide = c.args.side.now in
    let s : RecordState = record { name = c.args.name.now; count = c.args.count; slow = c.args.slow; value = elements c.args.value.now; meta = unset } in
    let may : MayAdd y.core.records s = add-taken y.core.records s c.takes_record.result (c.takes_record.ensures c.args.slow) c.if-not-takes_record.false in
    add-lacks s (server_of y) _ (entries_in c.args.logs.now.items) _ c.from_residual-in_err-value_again.result c.from_residual-in_err-value_again.ensures.1 may refl refl

pub returns-in_err-given-clause-adds : goal.returns-in_err-given-clause-adds
returns-in_err-given-clause-adds c =
    let y : ServerSide = c.args.side.now in
    let s : RecordState = record { name = c.args.name.now; count = c.args.count; slow = c.args.slow; value = elements c.args.value.now; meta = unset } in
    let may : MayAdd y.core.records s = add-taken y.core.records s c.takes_record.result (c.takes_record.ensures c.args.slow) c.if-not-takes_record.false in
    add-lacks s (server_of y) _ (entries_in c.args.logs.now.items) _ c.from_residual-in_err-given.result c.from_residual-in_err-given.ensures.1 may refl refl

pub returns-in_err-begun-clause-adds : goal.returns-in_err-begun-clause-adds
returns-in_err-begun-clause-adds c =
    let y : ServerSide = c.args.side.now in
    let s : RecordState = record { name = c.args.name.now; count = c.args.count; slow = c.args.slow; value = elements c.args.value.now; meta = unset } in
    let may : MayAdd y.core.records s = add-taken y.core.records s c.takes_record.result (c.takes_record.ensures c.args.slow) c.if-not-takes_record.false in
    add-lacks s (server_of y) _ (entries_in c.args.logs.now.items) _ c.from_residual-in_err-begun.result c.from_residual-in_err-begun.ensures.1 may refl refl

pub returns-in_err-reserve-clause-adds : goal.returns-in_err-reserve-clause-adds
returns-in_err-reserve-clause-adds c =
    let y : ServerSide = c.args.side.now in
    let s : RecordState = record { name = c.args.name.now; count = c.args.count; slow = c.args.slow; value = elements c.args.value.now; meta = unset } in
    let may : MayAdd y.core.records s = add-taken y.core.records s c.takes_record.result (c.takes_record.ensures c.args.slow) c.if-not-takes_record.false in
    add-lacks s (server_of y) _ (entries_in c.args.logs.now.items) _ c.from_residual-in_err-reserve.result c.from_residual-in_err-reserve.ensures.1 may (λ t. record (server_of y) { records = map record_of (c.reserve.ensures.items t) }) refl

pub returns-in_err-reserve_entries-clause-adds : goal.returns-in_err-reserve_entries-clause-adds
returns-in_err-reserve_entries-clause-adds c =
    let y : ServerSide = c.args.side.now in
    let s : RecordState = record { name = c.args.name.now; count = c.args.count; slow = c.args.slow; value = elements c.args.value.now; meta = unset } in
    let may : MayAdd y.core.records s = add-taken y.core.records s c.takes_record.result (c.takes_record.ensures c.args.slow) c.if-not-takes_record.false in
    add-lacks s (server_of y) _ (entries_in c.args.logs.now.items) _ c.from_residual-in_err-reserve_entries.result c.from_residual-in_err-reserve_entries.ensures.1 may (λ t. record (server_of y) { records = map record_of (c.reserve.ensures.items t) }) c.reserve_entries.ensures.same

pub put_in-requires-clause-within : goal.put_in-requires-clause-within
put_in-requires-clause-within c = (let h = c.count_before-behind.ensures.within in omega (arith, h, c.deref.ensures.len, ap (λ (xs : List RecordSide). length xs) c.deref.ensures.value))

pub overflow_add-side : goal.overflow_add-side
overflow_add-side c = (let few = (few-entries (server_of c.args.side.now) c.args.logs.now.items c.requires.counted).0 in omega (arith, few))

pub returns-in-Ok-clause-adds : goal.returns-in-Ok-clause-adds
returns-in-Ok-clause-adds c =
    let y : ServerSide = c.args.side.now in
    let s : RecordState = record { name = c.args.name.now; count = c.args.count; slow = c.args.slow; value = elements c.args.value.now; meta = unset } in
    let core : Server = c.add_record.new.self in
    let rs : List model.RecordSide = map record_of y.records.items in
    let n : ℕ = c.in-Ok.ensures.0 in
    let may : MayAdd y.core.records s = add-taken y.core.records s c.takes_record.result (c.takes_record.ensures c.args.slow) c.if-not-takes_record.false in
    let exact : c.count_of-carried.result ≡ c.args.count = count-exact y.core.records s c.count_of-carried.result may c.count_of-carried.ensures in
    let adds : AddsRecord y.core s n (Ok tt) core =
    subst (λ (z : RecordState). AddsRecord y.core z n (Ok tt) core) (λ t. record { name = c.args.name.now; count = exact t; slow = c.args.slow; value = c.in_ok-given.ensures t; meta = unset }) c.in-Ok.ensures.1 in
    let cl = clamped n y.core.records in
    let stands : StandsBehind cl.0 core.records rs c.args.name.now = stands-behind s y.core core n cl.0 rs adds c.requires.order cl.1 cl.2 cl.3 in
    let kept : c.deref.result.now ≡ y.records.items = c.deref.ensures.value ∙ c.reserve.ensures.items in
    let is_m : c.count_before-behind.result ≡ cl.0 = c.count_before-behind.ensures.counts cl.0 (subst (λ (zs : List RecordSide). StandsBehind cl.0 core.records (map record_of zs) c.args.name.now) (sym kept) stands) in
    let records : map record_of c.put_in.new.records.items ≡ put_at cl.0 (record_begun y.added s) rs =
    ap (map record_of) c.put_in.ensures ∙ map-put record_of c.count_before-behind.result c.in_ok-begun.begun c.reserve.new.self.items
    ∙ (λ t. put_at (is_m t) (c.in_ok-begun.ensures t) (map record_of (c.reserve.ensures.items t))) in
    let logged : entries_in c.push_entry.new.logs.items ≡ grown y.life (entry.Added y.added s ∷ []) (entries_in c.args.logs.now.items) =
    c.push_entry.ensures.logged ∙ (λ t. grown y.life (entry.Added y.added (record { name = c.in_ok-from_slice.ensures.items t; count = exact t; slow = c.args.slow; value = (c.of.ensures ∙ c.in_ok-value_again.ensures) t; meta = unset }) ∷ []) (c.reserve_entries.ensures.same t)) in
    (core, cl.0, inl (adds-behind s y.core core n cl.0 adds cl.2 cl.3, (λ t. record (server_of y) { core = core; records = records t; added = y.added + 1 }), logged))

pub returns-in-Err-clause-adds : goal.returns-in-Err-clause-adds
returns-in-Err-clause-adds c =
    let y : ServerSide = c.args.side.now in
    let s : RecordState = record { name = c.args.name.now; count = c.args.count; slow = c.args.slow; value = elements c.args.value.now; meta = unset } in
    let core : Server = c.add_record.new.self in
    let own : RecordState = record { name = c.args.name.now; count = c.count_of-carried.result; slow = c.args.slow; value = elements c.in_ok-given.given; meta = unset } in (
      add-taken y.core.records s c.takes_record.result (c.takes_record.ensures c.args.slow) c.if-not-takes_record.false,
      (λ t. record (server_of y) { core = adds-same own y.core core c.in-Err.ensures.0 c.in-Err.field-0 c.in-Err.ensures.1 t; records = map record_of (c.reserve.ensures.items t) }),
      c.reserve_entries.ensures.same,
    )
