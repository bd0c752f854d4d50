use Rattle.std.proofs.Common.{◌≡◌, ◌∙◌, ◌+◌, ℕ, List, length, map, not, ap, refl, subst, sym, arith}
use Rattle.std.specs.Str.{bytes_eq}
use Rattle.std.specs.Vec.{with_items}
use Rattle.std.proofs.lemmas.List.{with_items_is}
use Rattle.ca_model.specs.History.{Entry}
use Rattle.ca_model.specs.Server.{Server}
use Rattle.ca_model.specs.World as model
use Rattle.ca_world_data.specs.declared.joined.Joined.{Joined}
use Rattle.ca_world_data.specs.declared.server.RecordSide.{RecordSide}
use Rattle.ca_world_data.specs.declared.server.ServerSide.{ServerSide}
use Rattle.ca_world_data.specs.Opening.{entries_in}
use Rattle.ca_world_data.specs.Reporting.{AreServed, Reports, waits}
use Rattle.ca_world_data.specs.Seen.{entry_of, joined_of}
use Rattle.ca_world_data.specs.ServerCuts.{HasRoomFor}
use Rattle.ca_world_servers.specs.declared.losing.Leading.{Leading}
use Rattle.ca_world_servers.specs.Losing.{AllMayLose, AreLost, removed_all}
use Rattle.ca_world_servers.specs.Removing.{TellsRemoval}
use Rattle.ca_world.proofs.Judgements.{remove-lacks, remove-refused}
use Rattle.ca_world.proofs.Removings.{remove-kept, remove-told, removal-becomes, removal-may, room-left}
use Rattle.ca_world.proofs.remove.remove_at.Goals as goal

pub returns-then-not-takes_removal : goal.returns-then-not-takes_removal
returns-then-not-takes_removal c =
    remove-refused c.args.server c.args.name.now c.args.side.now (map joined_of c.args.circuits.now.items) (entries_in c.args.logs.now.items) (sym c.takes_removal.ensures ∙ c.if-not-takes_removal.true)

pub returns-in_err-told : goal.returns-in_err-told
returns-in_err-told c =
    remove-lacks c.args.server c.args.name.now c.args.side.now c.args.side.now (map joined_of c.args.circuits.now.items) _ (entries_in c.args.logs.now.items) _ c.from_residual.result c.from_residual.ensures.1 (sym c.takes_removal.ensures ∙ c.if-not-takes_removal.false) refl refl refl

pub returns-in_err-leading : goal.returns-in_err-leading
returns-in_err-leading c =
    let ks : List Joined = (with_items c.args.circuits.now c.prepare_losses.new.circuits).items in
    let is : ks ≡ c.prepare_losses.new.circuits = with_items_is c.args.circuits.now c.prepare_losses.new.circuits (c.prepare_losses.auto.circuits ∙ c.deref_mut.ensures.len) in
    let same : map joined_of ks ≡ map joined_of c.args.circuits.now.items = ap (map joined_of) is ∙ c.prepare_losses.ensures.same ∙ ap (map joined_of) c.deref_mut.ensures.value in
    remove-lacks c.args.server c.args.name.now c.args.side.now c.args.side.now (map joined_of c.args.circuits.now.items) _ (entries_in c.args.logs.now.items) _ c.from_residual-in_err-leading.result c.from_residual-in_err-leading.ensures.1 (sym c.takes_removal.ensures ∙ c.if-not-takes_removal.false) refl same refl

pub returns-in_err-reserve_reports : goal.returns-in_err-reserve_reports
returns-in_err-reserve_reports c =
    let ks : List Joined = (with_items c.args.circuits.now c.prepare_losses.new.circuits).items in
    let is : ks ≡ c.prepare_losses.new.circuits = with_items_is c.args.circuits.now c.prepare_losses.new.circuits (c.prepare_losses.auto.circuits ∙ c.deref_mut.ensures.len) in
    let same : map joined_of ks ≡ map joined_of c.args.circuits.now.items = ap (map joined_of) is ∙ c.prepare_losses.ensures.same ∙ ap (map joined_of) c.deref_mut.ensures.value in
    remove-lacks c.args.server c.args.name.now c.args.side.now c.args.side.now (map joined_of c.args.circuits.now.items) _ (entries_in c.args.logs.now.items) _ c.from_residual-in_err-reserve_reports.result c.from_residual-in_err-reserve_reports.ensures.1 (sym c.takes_removal.ensures ∙ c.if-not-takes_removal.false) refl same c.reserve_reports.ensures.same

pub push_entries-requires : goal.push_entries-requires
push_entries-requires c =
    let y : ServerSide = c.args.side.now in
    let room : HasRoomFor (waits y.records.items + c.len.result) y.life c.reserve_reports.new.logs.items =
    subst (λ (rs : List RecordSide). HasRoomFor (waits rs + c.len.result) y.life c.reserve_reports.new.logs.items) c.deref-2.ensures.value c.in_ok-reserve_reports.ensures.room in
    λ log at. (let had = room log at in omega (arith, had, c.len.ensures))

pub lose_all-requires : goal.lose_all-requires
lose_all-requires c =
    let y : ServerSide = c.args.side.now in
    let i : ℕ = c.args.server in
    let core : Server = c.remove_record.new.self in
    let own = with_items c.args.circuits.now c.prepare_losses.new.circuits in
    let ks : List Joined = own.items in
    let ls : List Leading = c.deref-in-Ok.result.now in
    let is : ks ≡ c.prepare_losses.new.circuits = with_items_is c.args.circuits.now c.prepare_losses.new.circuits (c.prepare_losses.auto.circuits ∙ c.deref_mut.ensures.len) in
    let same : map joined_of ks ≡ map joined_of c.args.circuits.now.items = ap (map joined_of) is ∙ c.prepare_losses.ensures.same ∙ ap (map joined_of) c.deref_mut.ensures.value in
    record {
      may =
          subst (λ (js : List Joined). AllMayLose i core js ls) (sym c.deref_mut-in-Ok.ensures.value)
          (removal-may i c.args.name.now c.in-Ok.ensures.0 c.in-Ok.ensures.1.0 y.core core ks c.prepare_losses.new.circuits ls c.in_ok-leading.leading.items (map joined_of c.args.circuits.now.items)
          c.in-Ok.ensures.1.1 c.in_ok-leading.ensures.ready is c.deref-in-Ok.ensures.value same c.requires.seated);
    }

pub report_ends-requires-clause-room : goal.report_ends-requires-clause-room
report_ends-requires-clause-room c =
    let y : ServerSide = c.args.side.now in
    let room : HasRoomFor (waits y.records.items + c.len.result) y.life c.reserve_reports.new.logs.items =
    subst (λ (rs : List RecordSide). HasRoomFor (waits rs + c.len.result) y.life c.reserve_reports.new.logs.items) c.deref-2.ensures.value c.in_ok-reserve_reports.ensures.room in
    let told : HasRoomFor (waits y.records.items + length c.in_ok-told.told.items) y.life c.reserve_reports.new.logs.items = λ log at. (let had = room log at in omega (arith, had, c.len.ensures)) in
    room-left y.life c.push_entries.new.logs.items (λ (r : model.RecordSide). not (bytes_eq r.name c.args.name.now)) y.records.items c.forget_record.new.records.items c.forget_record.ensures
    (c.push_entries.ensures.room (waits y.records.items) told)

pub report_ends-requires-clause-served : goal.report_ends-requires-clause-served
report_ends-requires-clause-served c =
    let y : ServerSide = c.args.side.now in
    let i : ℕ = c.args.server in
    let core : Server = c.remove_record.new.self in
    let own = with_items c.args.circuits.now c.prepare_losses.new.circuits in
    let ks : List Joined = own.items in
    let ls : List Leading = c.deref-in-Ok.result.now in
    let is : ks ≡ c.prepare_losses.new.circuits = with_items_is c.args.circuits.now c.prepare_losses.new.circuits (c.prepare_losses.auto.circuits ∙ c.deref_mut.ensures.len) in
    let same : map joined_of ks ≡ map joined_of c.args.circuits.now.items = ap (map joined_of) is ∙ c.prepare_losses.ensures.same ∙ ap (map joined_of) c.deref_mut.ensures.value in
    let b =
    removal-becomes i c.args.name.now c.in-Ok.ensures.0 c.in-Ok.ensures.1.0 y.core core y.circuits.items ks c.prepare_losses.new.circuits ls c.in_ok-leading.leading.items (map joined_of c.args.circuits.now.items)
    c.in-Ok.ensures.1.1 c.in_ok-leading.ensures.ready is c.deref-in-Ok.ensures.value same c.requires.served in
    let lost : AreLost i core c.deref_mut-in-Ok.result.now ls b.f = subst (λ (js : List Joined). AreLost i core js ls b.f) (sym c.deref_mut-in-Ok.ensures.value) b.lost in
    let after : map joined_of (with_items own c.lose_all.new.circuits).items ≡ map b.f (map joined_of ks) =
    ap (map joined_of) (with_items_is own c.lose_all.new.circuits (c.lose_all.auto.circuits ∙ c.deref_mut-in-Ok.ensures.len)) ∙ c.lose_all.ensures b.f lost ∙ ap (λ (js : List Joined). map b.f (map joined_of js)) c.deref_mut-in-Ok.ensures.value in
    subst (λ (js : List model.Joined). AreServed y.circuits.items js i) (sym after) b.served

pub returns-in-Ok : goal.returns-in-Ok
returns-in-Ok c =
    let y : ServerSide = c.args.side.now in
    let i : ℕ = c.args.server in
    let core : Server = c.remove_record.new.self in
    let own = with_items c.args.circuits.now c.prepare_losses.new.circuits in
    let ks : List Joined = own.items in
    let ls : List Leading = c.deref-in-Ok.result.now in
    let is : ks ≡ c.prepare_losses.new.circuits = with_items_is c.args.circuits.now c.prepare_losses.new.circuits (c.prepare_losses.auto.circuits ∙ c.deref_mut.ensures.len) in
    let same : map joined_of ks ≡ map joined_of c.args.circuits.now.items = ap (map joined_of) is ∙ c.prepare_losses.ensures.same ∙ ap (map joined_of) c.deref_mut.ensures.value in
    let name : List ℕ = c.args.name.now in
    let mid : List (List Entry) = entries_in c.reserve_reports.new.logs.items in
    let entries : List Entry = map entry_of c.in_ok-told.told.items in
    let y' : ServerSide = c.report_ends.new.side in
    let ks' : List model.Joined = map joined_of c.report_ends.new.circuits.items in
    let logs' : List (List Entry) = entries_in c.report_ends.new.logs.items in
    let told : entries ≡ removed_all name y.records.items = c.in_ok-told.ensures ∙ ap (λ (rs : List RecordSide). removed_all name rs) c.deref.ensures.value in
    let tells : (f : model.Joined → model.Joined) → AreLost i core ks ls f → TellsRemoval i name entries f (record y { core = c.remove_record.new.self }) (map joined_of ks) mid y' ks' logs' = λ f lost.
    let here : AreLost i core c.deref_mut-in-Ok.result.now ls f = subst (λ (js : List Joined). AreLost i core js ls f) (sym c.deref_mut-in-Ok.ensures.value) lost in
    let after : map joined_of (with_items own c.lose_all.new.circuits).items ≡ map f (map joined_of ks) =
    ap (map joined_of) (with_items_is own c.lose_all.new.circuits (c.lose_all.auto.circuits ∙ c.deref_mut-in-Ok.ensures.len)) ∙ c.lose_all.ensures f here ∙ ap (λ (js : List Joined). map f (map joined_of js)) c.deref_mut-in-Ok.ensures.value in
    record {
      rest = c.forget_record.new.records;
      records = c.forget_record.ensures;
      reports =
          subst (λ (z : List model.Joined × List (List Entry)). Reports i (record y { core = c.remove_record.new.self; records = c.forget_record.new.records }) z.0 z.1 y' ks' logs')
          (λ t. (after t, c.push_entries.ensures.logged t)) c.report_ends.ensures;
    } in
    remove-told i name c.in-Ok.ensures.0 c.in-Ok.ensures.1.0 y y' core ks c.prepare_losses.new.circuits ls c.in_ok-leading.leading.items entries
    (map joined_of c.args.circuits.now.items) ks' (entries_in c.args.logs.now.items) mid logs'
    c.in-Ok.ensures.1.1 c.in_ok-leading.ensures.ready is c.deref-in-Ok.ensures.value same told c.reserve_reports.ensures.same tells

pub returns-in-Err : goal.returns-in-Err
returns-in-Err c =
    let ks : List Joined = (with_items c.args.circuits.now c.prepare_losses.new.circuits).items in
    let is : ks ≡ c.prepare_losses.new.circuits = with_items_is c.args.circuits.now c.prepare_losses.new.circuits (c.prepare_losses.auto.circuits ∙ c.deref_mut.ensures.len) in
    let same : map joined_of ks ≡ map joined_of c.args.circuits.now.items = ap (map joined_of) is ∙ c.prepare_losses.ensures.same ∙ ap (map joined_of) c.deref_mut.ensures.value in
    remove-kept c.args.server c.args.name.now c.in-Err.ensures.0 c.in-Err.ensures.1.0 c.args.side.now c.remove_record.new.self (map joined_of c.args.circuits.now.items) (map joined_of ks) (entries_in c.args.logs.now.items) (entries_in c.reserve_reports.new.logs.items) c.in-Err.field-0
    c.in-Err.ensures.1.1 same c.reserve_reports.ensures.same
