use Rattle.std.proofs.Common.{◌≡◌, ◌+◌, ℕ, [], ◌∷◌, List, Ok, Err, ap, refl, subst, sym, arith, ◌∙◌}
use Rattle.std.specs.Prelude.{map}
use Rattle.std.specs.Vec.{with_items}
use Rattle.std.proofs.lemmas.List.{with_items_is}
use Rattle.ca_dbr.specs.Elements.{Elements, elements}
use Rattle.ca_model.specs.History as history
use Rattle.ca_model.specs.History.{Entry}
use Rattle.ca_model.specs.ServerEvents.{number_of, numbers_posted, posted_entry}
use Rattle.ca_model.specs.ServerCalls.{Posts}
use Rattle.ca_model.specs.Speech.{Stored}
use Rattle.ca_model.specs.World as model
use Rattle.ca_model.specs.World.{grown}
use Rattle.ca_records.specs.Calls.{PostFits}
use Rattle.ca_records.specs.Record.{unset}
use Rattle.ca_world_data.specs.declared.joined.Joined.{Joined}
use Rattle.ca_world_data.specs.declared.server.RecordSide.{RecordSide}
use Rattle.ca_world_data.specs.declared.server.ServerSide.{ServerSide}
use Rattle.ca_world_data.specs.Numbering.{AllAlike, AllMayCount}
use Rattle.ca_world_data.specs.Opening.{entries_in}
use Rattle.ca_world_data.specs.Posting.{PostsAt, TellsPost}
use Rattle.ca_world_data.specs.Reporting.{AreServed, Reports, waits}
use Rattle.ca_world_data.specs.Seen.{joined_of, record_of, server_of}
use Rattle.ca_world_data.specs.ServerCuts.{HasRoomFor}
use Rattle.ca_world.proofs.Judgements.{post-alone, post-lacks, post-refused, post-taken}
use Rattle.ca_world.proofs.Postings.{alike-posted, post-kept, post-told, served-posted}
use Rattle.ca_world.proofs.post.post_at.Goals as goal

pub returns-then-not-takes_post : goal.returns-then-not-takes_post
returns-then-not-takes_post c =
    let v : Stored = record { value = elements c.args.value.now; meta = unset } in
    post-refused c.args.server c.args.name.now v c.args.mask c.args.side.now (map joined_of c.args.circuits.now.items) (entries_in c.args.logs.now.items) c.takes_post.result c.takes_post.ensures c.if-not-takes_post.true

pub returns-in_err-given : goal.returns-in_err-given
returns-in_err-given c =
    let y : ServerSide = c.args.side.now in
    let v : Stored = record { value = elements c.args.value.now; meta = unset } in
    let fits : PostFits y.core.records c.args.name.now v.value = post-taken y.core.records c.args.name.now v.value c.takes_post.result c.takes_post.ensures c.if-not-takes_post.false in
    post-lacks c.args.server c.args.name.now v c.args.mask y y (map joined_of c.args.circuits.now.items) _ (entries_in c.args.logs.now.items) _ c.from_residual.result c.from_residual.ensures.1 fits refl refl refl

pub returns-in_err-value_told : goal.returns-in_err-value_told
returns-in_err-value_told c =
    let y : ServerSide = c.args.side.now in
    let v : Stored = record { value = elements c.args.value.now; meta = unset } in
    let fits : PostFits y.core.records c.args.name.now v.value = post-taken y.core.records c.args.name.now v.value c.takes_post.result c.takes_post.ensures c.if-not-takes_post.false in
    post-lacks c.args.server c.args.name.now v c.args.mask y y (map joined_of c.args.circuits.now.items) _ (entries_in c.args.logs.now.items) _ c.from_residual-in_err-value_told.result c.from_residual-in_err-value_told.ensures.1 fits refl refl refl

pub returns-in_err-check_counts : goal.returns-in_err-check_counts
returns-in_err-check_counts c =
    let y : ServerSide = c.args.side.now in
    let v : Stored = record { value = elements c.args.value.now; meta = unset } in
    let fits : PostFits y.core.records c.args.name.now v.value = post-taken y.core.records c.args.name.now v.value c.takes_post.result c.takes_post.ensures c.if-not-takes_post.false in
    post-lacks c.args.server c.args.name.now v c.args.mask y y (map joined_of c.args.circuits.now.items) _ (entries_in c.args.logs.now.items) _ c.from_residual-in_err-check_counts.result c.from_residual-in_err-check_counts.ensures.1 fits refl refl refl

pub returns-in_err-reserve_reports : goal.returns-in_err-reserve_reports
returns-in_err-reserve_reports c =
    let y : ServerSide = c.args.side.now in
    let v : Stored = record { value = elements c.args.value.now; meta = unset } in
    let fits : PostFits y.core.records c.args.name.now v.value = post-taken y.core.records c.args.name.now v.value c.takes_post.result c.takes_post.ensures c.if-not-takes_post.false in
    post-lacks c.args.server c.args.name.now v c.args.mask y y (map joined_of c.args.circuits.now.items) _ (entries_in c.args.logs.now.items) _ c.from_residual-in_err-reserve_reports.result c.from_residual-in_err-reserve_reports.ensures.1 fits refl refl c.reserve_reports.ensures.same

pub push_entry-requires : goal.push_entry-requires
push_entry-requires c =
    let y : ServerSide = c.args.side.now in
    let room : HasRoomFor (waits y.records.items + 1) y.life c.reserve_reports.new.logs.items =
    subst (λ (rs : List RecordSide). HasRoomFor (waits rs + 1) y.life c.reserve_reports.new.logs.items) c.deref-2.ensures.value c.in_ok-reserve_reports.ensures.room in
    λ log at. (let had = room log at in omega (arith, had))

pub post_numbers-requires-clause-alike : goal.post_numbers-requires-clause-alike
post_numbers-requires-clause-alike c =
    let v : Stored = record { value = elements c.in_ok-given.given; meta = unset } in
    let fits : PostFits c.args.side.now.core.records c.args.name.now (elements c.in_ok-given.given) = subst (λ (e : Elements). PostFits c.args.side.now.core.records c.args.name.now e) (sym c.in_ok-given.ensures) (post-taken c.args.side.now.core.records c.args.name.now (elements c.args.value.now) c.takes_post.result c.takes_post.ensures c.if-not-takes_post.false) in
    let posts : Posts c.args.side.now.core c.args.name.now v c.args.mask c.in-Ok.ensures.0 (Ok tt) c.post.new.self = subst (λ (e : Elements). Posts c.args.side.now.core c.args.name.now (record { value = e; meta = unset }) c.args.mask c.in-Ok.ensures.0 (Ok tt) c.post.new.self) (post-alone c.args.side.now.core.records c.args.name.now c.in_ok-given.given fits) c.in-Ok.ensures.1 in
    subst (λ (ks : List Joined). AllAlike c.args.server c.post.new.self (map joined_of ks)) (sym c.deref_mut.ensures.value)
    (alike-posted c.args.name.now c.args.mask v c.in-Ok.ensures.0 c.args.side.now.core c.post.new.self posts c.args.server (map joined_of c.args.circuits.now.items) c.requires.alike)

pub post_numbers-requires-clause-counts : goal.post_numbers-requires-clause-counts
post_numbers-requires-clause-counts c = subst AllMayCount (sym c.deref_mut.ensures.value) (subst AllMayCount c.deref.ensures.value c.in_ok-check_counts.ensures)

pub report_ends-requires-clause-room : goal.report_ends-requires-clause-room
report_ends-requires-clause-room c =
    let y : ServerSide = c.args.side.now in
    let room : HasRoomFor (waits y.records.items + 1) y.life c.reserve_reports.new.logs.items =
    subst (λ (rs : List RecordSide). HasRoomFor (waits rs + 1) y.life c.reserve_reports.new.logs.items) c.deref-2.ensures.value c.in_ok-reserve_reports.ensures.room in
    c.push_entry.ensures.room (waits y.records.items) room

pub report_ends-requires-clause-served : goal.report_ends-requires-clause-served
report_ends-requires-clause-served c =
    let numbers : model.Joined → model.Joined = numbers_posted c.args.server c.post.new.self c.args.name.now c.args.mask in
    let after : map joined_of (with_items c.args.circuits.now c.post_numbers.new.circuits).items ≡ map numbers (map joined_of c.args.circuits.now.items) =
    ap (map joined_of) (with_items_is c.args.circuits.now c.post_numbers.new.circuits (c.post_numbers.auto.circuits ∙ c.deref_mut.ensures.len)) ∙ c.post_numbers.ensures ∙ ap (λ (ks : List Joined). map numbers (map joined_of ks)) c.deref_mut.ensures.value in
    subst (λ (ks : List model.Joined). AreServed c.args.side.now.circuits.items ks c.args.server) (sym after)
    (served-posted c.args.server c.post.new.self c.args.name.now c.args.mask c.args.side.now.circuits.items (map joined_of c.args.circuits.now.items) c.requires.served)

pub returns-in-Ok : goal.returns-in-Ok
returns-in-Ok c =
    let y : ServerSide = c.args.side.now in
    let z : ServerSide = record y { core = c.post.new.self } in
    let v : Stored = record { value = elements c.in_ok-given.given; meta = unset } in
    let fits : PostFits c.args.side.now.core.records c.args.name.now (elements c.in_ok-given.given) = subst (λ (e : Elements). PostFits c.args.side.now.core.records c.args.name.now e) (sym c.in_ok-given.ensures) (post-taken c.args.side.now.core.records c.args.name.now (elements c.args.value.now) c.takes_post.result c.takes_post.ensures c.if-not-takes_post.false) in
    let posts : Posts c.args.side.now.core c.args.name.now v c.args.mask c.in-Ok.ensures.0 (Ok tt) c.post.new.self = subst (λ (e : Elements). Posts c.args.side.now.core c.args.name.now (record { value = e; meta = unset }) c.args.mask c.in-Ok.ensures.0 (Ok tt) c.post.new.self) (post-alone c.args.side.now.core.records c.args.name.now c.in_ok-given.given fits) c.in-Ok.ensures.1 in
    let told : Stored = record { value = c.of.result; meta = unset } in
    let ks : List model.Joined = map joined_of c.args.circuits.now.items in
    let ks' : List model.Joined = map joined_of c.report_ends.new.circuits.items in
    let logs : List (List Entry) = entries_in c.args.logs.now.items in
    let mid : List (List Entry) = entries_in c.reserve_reports.new.logs.items in
    let logs' : List (List Entry) = entries_in c.report_ends.new.logs.items in
    let numbers : model.Joined → model.Joined = numbers_posted c.args.server c.post.new.self c.args.name.now c.args.mask in
    let after : map joined_of (with_items c.args.circuits.now c.post_numbers.new.circuits).items ≡ map numbers (map joined_of c.args.circuits.now.items) =
    ap (map joined_of) (with_items_is c.args.circuits.now c.post_numbers.new.circuits (c.post_numbers.auto.circuits ∙ c.deref_mut.ensures.len)) ∙ c.post_numbers.ensures ∙ ap (λ (ks : List Joined). map numbers (map joined_of ks)) c.deref_mut.ensures.value in
    let number : c.number_of-number.result ≡ number_of c.args.name.now (map record_of y.records.items) =
    c.number_of-number.ensures ∙ ap (λ (rs : List RecordSide). number_of c.args.name.now (map record_of rs)) c.deref-in-Ok.ensures.value in
    let logged : entries_in c.push_entry.new.logs.items ≡ grown y.life (posted_entry (server_of z) c.args.name.now told c.args.mask) mid =
    c.push_entry.ensures.logged ∙ ap (λ (n : ℕ). grown y.life (history.Posted n c.args.mask told ∷ []) mid) number in
    let tells : TellsPost c.args.server c.args.name.now told c.args.mask z ks mid c.report_ends.new.side ks' logs' =
    subst (λ (w : List model.Joined × List (List Entry)). Reports c.args.server z w.0 w.1 c.report_ends.new.side ks' logs') (λ t. (after t, logged t)) c.report_ends.ensures in
    subst (λ (e : Elements). PostsAt c.args.server c.args.name.now (record { value = e; meta = unset }) c.args.mask y ks logs (Ok tt) c.report_ends.new.side ks' logs') c.in_ok-given.ensures
    (post-told c.args.server c.args.name.now v told c.args.mask y c.report_ends.new.side c.post.new.self c.in-Ok.ensures.0
    ks ks' logs mid logs'
    posts
    (ap (λ (e : Elements). let s : Stored = record { value = e; meta = unset } in s) (c.of.ensures ∙ c.in_ok-value_told.ensures ∙ sym c.in_ok-given.ensures))
    c.reserve_reports.ensures.same
    tells)

pub returns-in-Err : goal.returns-in-Err
returns-in-Err c =
    let y : ServerSide = c.args.side.now in
    let v : Stored = record { value = elements c.in_ok-given.given; meta = unset } in
    let fits : PostFits c.args.side.now.core.records c.args.name.now (elements c.in_ok-given.given) = subst (λ (e : Elements). PostFits c.args.side.now.core.records c.args.name.now e) (sym c.in_ok-given.ensures) (post-taken c.args.side.now.core.records c.args.name.now (elements c.args.value.now) c.takes_post.result c.takes_post.ensures c.if-not-takes_post.false) in
    let posts : Posts c.args.side.now.core c.args.name.now v c.args.mask c.in-Err.ensures.0 (Err c.in-Err.field-0) c.post.new.self = subst (λ (e : Elements). Posts c.args.side.now.core c.args.name.now (record { value = e; meta = unset }) c.args.mask c.in-Err.ensures.0 (Err c.in-Err.field-0) c.post.new.self) (post-alone c.args.side.now.core.records c.args.name.now c.in_ok-given.given fits) c.in-Err.ensures.1 in
    let ks : List model.Joined = map joined_of c.args.circuits.now.items in
    let logs : List (List Entry) = entries_in c.args.logs.now.items in
    let mid : List (List Entry) = entries_in c.reserve_reports.new.logs.items in
    subst (λ (e : Elements). PostsAt c.args.server c.args.name.now (record { value = e; meta = unset }) c.args.mask y ks logs (Ok tt) (record y { core = c.post.new.self }) ks mid) c.in_ok-given.ensures
    (post-kept c.args.server c.args.name.now v c.args.mask y c.post.new.self c.in-Err.ensures.0 ks logs mid c.in-Err.field-0 posts c.reserve_reports.ensures.same)
