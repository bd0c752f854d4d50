use Rattle.std.proofs.Common.{ℕ, refl, subst}
use Rattle.std.specs.Prelude.{map}
use Rattle.ca_world_data.specs.Seen.{record_of}
use Rattle.ca_world_servers.specs.Effects.{IsParting}
use Rattle.ca_world_servers.proofs.ahead.look_clear.Goals as goal

pub returns : goal.returns
returns c =
    let parts : IsParting c.args.core.now c.args.circuit c.args.message.now.p1 (map record_of c.args.records.now) c.in_ok-parting.parting =
    subst (λ (n : ℕ). IsParting c.args.core.now c.args.circuit n (map record_of c.args.records.now) c.in_ok-parting.parting) c.p1.ensures
    (record { kept = c.in_ok-parting.ensures.kept; told = c.in_ok-parting.ensures.told }) in
    record { clears = λ e. (c.in_ok-parting.parting, refl, parts); parted = (c.args.core.now, c.args.circuit, c.args.message.now.p1, parts) }
