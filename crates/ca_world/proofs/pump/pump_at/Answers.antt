use Rattle.std.proofs.Common.{◌≡◌, ℕ, ◌==◌, List, None, Some, inl, inr, refl, sym, ap, subst, ◌∙◌}
use Rattle.std.specs.Prelude.{map}
use Rattle.std.specs.Vec.{with_items}
use Rattle.std.proofs.lemmas.List.{with_items_is}
use Rattle.ca_model.specs.ServerEvents.{without_puts}
use Rattle.ca_model.specs.World.{grown}
use Rattle.ca_model.specs.World as model
use Rattle.ca_world_data.specs.declared.server.RecordSide.{RecordSide}
use Rattle.ca_world_data.specs.declared.server.ServerSide.{ServerSide}
use Rattle.ca_world_data.specs.Seen.{entry_of, joined_of, record_of, server_of}
use Rattle.ca_world_data.specs.ServerCuts.{IsServing}
use Rattle.ca_world_data.specs.Withdrawing.{all_withdrawn}
use Rattle.ca_world_data.specs.Updates.{WaitsAlike}
use Rattle.ca_world.specs.ServerPumps.{PumpsUntil, UpdatesFit}
use Rattle.ca_world.proofs.pump.pump_at.Goals as goal

pub pump_end-requires-clause-serves : goal.pump_end-requires-clause-serves
pump_end-requires-clause-serves c = subst (λ (j : model.Joined). IsServing c.args.side.now.core j.at_server) (sym c.reserve_updates.ensures.same) c.requires.serves

pub pump_end-requires-clause-fits : goal.pump_end-requires-clause-fits
pump_end-requires-clause-fits c = subst (λ (j : model.Joined). UpdatesFit c.args.side.now.core j.at_server) (sym c.reserve_updates.ensures.same) c.requires.fits

pub pump_end-requires-clause-alike : goal.pump_end-requires-clause-alike
pump_end-requires-clause-alike c = subst (WaitsAlike c.args.side.now.core) (sym c.reserve_updates.ensures.same) c.requires.alike

-- the updates that left, of the circuit before room was made on it
pub returns-in_default : goal.returns-in_default
returns-in_default c = (
  refl,
  inl (
    subst (λ (j : model.Joined). PumpsUntil c.args.side.now.core j None c.pump_end.new.core (joined_of c.pump_end.new.joined)) c.reserve_updates.ensures.same c.in_default.ensures,
    refl,
    c.reserve_entries.ensures.same,
  ),
)

pub returns : goal.returns
returns c =
    let y : ServerSide = c.args.side.now in
    let k : ℕ = c.args.circuit in
    let gone : model.RecordSide → model.RecordSide = without_puts (λ n. n == k) in
    let records : map record_of (with_items y.records c.withdraw.new.records).items ≡ map gone (map record_of y.records.items) =
    ap (map record_of) (with_items_is y.records c.withdraw.new.records (c.withdraw.auto.records ∙ c.deref_mut.ensures.len)) ∙ c.withdraw.ensures ∙ ap (λ (rs : List RecordSide). map gone (map record_of rs)) c.deref_mut.ensures.value in
    let told : map entry_of c.in_ok-told.told.items ≡ all_withdrawn k y.records.items = c.in_ok-told.ensures.told ∙ ap (all_withdrawn k) c.deref.ensures.value in (
      refl,
      inr (
        c.in-Some.left,
        joined_of c.pump_end.new.joined,
        subst (λ (j : model.Joined). PumpsUntil y.core j (Some c.in-Some.left) c.pump_end.new.core (joined_of c.pump_end.new.joined)) c.reserve_updates.ensures.same c.in-Some.ensures,
        c.close_server.ensures,
        (λ t. record (server_of y) { core = c.pump_end.new.core; records = records t }),
        c.push_entries.ensures.logged ∙ (λ t. grown y.life (told t) (c.reserve_entries.ensures.same t)),
      ),
    )
