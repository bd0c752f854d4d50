use Rattle.std.proofs.Common.{◌≡◌, ℕ, List, Some, map, subst, sym, Vec, Global}
use Rattle.ca_model.specs.ServerEvents.{withdrawals, without_puts}
use Rattle.ca_model.specs.World.{grown}
use Rattle.ca_model.specs.World as model
use Rattle.ca_world_data.specs.declared.joined.Joined.{Joined}
use Rattle.ca_world_data.specs.declared.server.RecordSide.{RecordSide}
use Rattle.ca_world_data.specs.declared.server.ServerSide.{ServerSide}
use Rattle.ca_world_data.specs.EndsWith.{gone_with}
use Rattle.ca_world_data.specs.Opening.{entries_in}
use Rattle.ca_world_data.specs.Reporting.{AreServed}
use Rattle.ca_world_data.specs.Seen.{joined_of, record_of}
use Rattle.ca_world_data.proofs.EndsUnder.{reports-all, served-still}
use Rattle.ca_world_data.proofs.reporting.report_ends_with.Goals as goal

pub close_gone-requires : goal.close_gone-requires
close_gone-requires c =
    let own : List ℕ = c.args.side.now.circuits.items in
    subst (λ (z : List ℕ × List model.Joined). AreServed z.0 z.1 c.args.server) (λ t. (sym c.deref-3.ensures.value t, sym c.close_under.ensures t))
    (served-still c.args.handle c.args.server c.args.left own (map joined_of c.args.circuits.now.items) c.requires.served)

pub returns : goal.returns
returns c =
    let y : ServerSide = c.args.side.now in
    let rest : Vec RecordSide Global = c.withdraw_all.new.records in
    let logged : entries_in c.withdraw_all.new.logs.items ≡ grown y.life (withdrawals (gone_with (Some c.args.handle) c.args.server y.core (map joined_of c.args.circuits.now.items)) (map record_of y.records.items)) (entries_in c.args.logs.now.items) =
    subst (λ (ls : List Joined). entries_in c.withdraw_all.new.logs.items ≡ grown y.life (withdrawals (gone_with (Some c.args.handle) c.args.server y.core (map joined_of ls)) (map record_of y.records.items)) (entries_in c.args.logs.now.items)) c.deref.ensures.value c.withdraw_all.ensures.logged in
    let kept : map record_of rest.items ≡ map (without_puts (gone_with (Some c.args.handle) c.args.server y.core (map joined_of c.args.circuits.now.items))) (map record_of y.records.items) =
    subst (λ (ls : List Joined). map record_of rest.items ≡ map (without_puts (gone_with (Some c.args.handle) c.args.server y.core (map joined_of ls))) (map record_of y.records.items)) c.deref.ensures.value c.withdraw_all.ensures.kept in
    reports-all c.args.handle c.args.left c.args.server y rest c.close_gone.new.core (map joined_of c.args.circuits.now.items) (map joined_of c.close_under.new.circuits.items) (map joined_of c.close_gone.new.circuits.items) (entries_in c.args.logs.now.items) (entries_in c.withdraw_all.new.logs.items)
    logged kept c.close_under.ensures c.close_gone.ensures.core c.close_gone.ensures.circuits
