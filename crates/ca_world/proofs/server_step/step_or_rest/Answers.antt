use Rattle.std.proofs.Common.{◌≡◌, ℕ, ◌<◌, List, length, sym, subst, arith}
use Rattle.std.specs.Prelude.{map}
use Rattle.ca_text.specs.Place.{At}
use Rattle.ca_text.proofs.Places.{At-one}
use Rattle.ca_model.specs.History as history
use Rattle.ca_model.specs.Server.{Server}
use Rattle.ca_model.specs.World as model
use Rattle.ca_world_data.specs.declared.joined.Joined.{Joined}
use Rattle.ca_world_data.specs.declared.server.ServerSide.{ServerSide}
use Rattle.ca_world_data.specs.Does.{MayTake}
use Rattle.ca_world_data.specs.Opening.{entries_in}
use Rattle.ca_world_data.specs.Seen.{joined_of}
use Rattle.ca_world.specs.Resting.{ComesUp, RestsUp}
use Rattle.ca_world.proofs.Rests.{lacked, rests-so}
use Rattle.ca_world.proofs.StepCloses.{lacked-core, lacked-long, lacked-there}
use Rattle.ca_world.proofs.server_step.step_or_rest.Goals as goal

pub index-requires : goal.index-requires
index-requires c =
    let ks : List Joined = c.args.circuits.now.items in
    let next : List Joined = c.step_at.new.circuits.items in
    let k : ℕ = c.args.circuit in
    let within : k < length ks = subst (λ (n : ℕ). k < n) c.args.circuits.now.ok.0 c.requires.within in
    let long : length next ≡ length ks = lacked-long k c.args.side.now c.step_at.new.side ks next (entries_in c.args.logs.now.items) (entries_in c.step_at.new.logs.items) c.in-Err.refusal c.in-Err.ensures in
    omega (arith, within, long)

pub may_take-requires : goal.may_take-requires
may_take-requires c =
    let y : ServerSide = c.args.side.now in
    let y' : ServerSide = c.step_at.new.side in
    let ks : List Joined = c.args.circuits.now.items in
    let next : List Joined = c.step_at.new.circuits.items in
    let logs : List (List history.Entry) = entries_in c.args.logs.now.items in
    let logs' : List (List history.Entry) = entries_in c.step_at.new.logs.items in
    let k : ℕ = c.args.circuit in
    let within : k < length ks = subst (λ (n : ℕ). k < n) c.args.circuits.now.ok.0 c.requires.within in
    let x : Joined = c.index.result.now in
    let there : At (map joined_of ks) k (joined_of x) = lacked-there k y y' ks next logs logs' c.in-Err.refusal x _ c.in-Err.ensures within c.index.ensures in
    let core : y'.core ≡ y.core = lacked-core k y y' (map joined_of ks) (map joined_of next) logs logs' c.in-Err.refusal c.in-Err.ensures in
    subst (λ (z : Server). ComesUp c.args.waiting z (joined_of x)) (sym core) (c.requires.comes (joined_of x) there)

pub returns-then-may_take : goal.returns-then-may_take
returns-then-may_take c =
    let y : ServerSide = c.args.side.now in
    let y' : ServerSide = c.step_at.new.side in
    let ks : List Joined = c.args.circuits.now.items in
    let next : List Joined = c.step_at.new.circuits.items in
    let logs : List (List history.Entry) = entries_in c.args.logs.now.items in
    let logs' : List (List history.Entry) = entries_in c.step_at.new.logs.items in
    let k : ℕ = c.args.circuit in
    let within : k < length ks = subst (λ (n : ℕ). k < n) c.args.circuits.now.ok.0 c.requires.within in
    let x : Joined = c.index.result.now in
    let there : At (map joined_of ks) k (joined_of x) = lacked-there k y y' ks next logs logs' c.in-Err.refusal x _ c.in-Err.ensures within c.index.ensures in
    let core : y'.core ≡ y.core = lacked-core k y y' (map joined_of ks) (map joined_of next) logs logs' c.in-Err.refusal c.in-Err.ensures in
    let may : MayTake y.core (joined_of x) = subst (λ (z : Server). MayTake z (joined_of x)) core (c.may_take.ensures.takes c.if-may_take.true) in
    (λ j at. subst (λ (z : model.Joined). MayTake y.core z) (At-one (map joined_of ks) k (joined_of x) j there at) may, c.in-Err.ensures)

pub returns-else-may_take : goal.returns-else-may_take
returns-else-may_take c =
    let y : ServerSide = c.args.side.now in
    let y' : ServerSide = c.step_at.new.side in
    let ks : List Joined = c.args.circuits.now.items in
    let next : List Joined = c.step_at.new.circuits.items in
    let logs : List (List history.Entry) = entries_in c.args.logs.now.items in
    let logs' : List (List history.Entry) = entries_in c.step_at.new.logs.items in
    let k : ℕ = c.args.circuit in
    let within : k < length ks = subst (λ (n : ℕ). k < n) c.args.circuits.now.ok.0 c.requires.within in
    let x : Joined = c.index.result.now in
    let there : At (map joined_of ks) k (joined_of x) = lacked-there k y y' ks next logs logs' c.in-Err.refusal x _ c.in-Err.ensures within c.index.ensures in
    let core : y'.core ≡ y.core = lacked-core k y y' (map joined_of ks) (map joined_of next) logs logs' c.in-Err.refusal c.in-Err.ensures in
    let l = lacked k y y' (map joined_of ks) (map joined_of next) logs logs' c.in-Err.refusal c.in-Err.ensures in
    rests-so k y y' (map joined_of ks) (map joined_of next) logs logs' (joined_of x) l.0 l.1 l.2 l.3 there
    (subst (λ (z : Server). RestsUp z (joined_of x)) core (c.may_take.ensures.rests c.if-may_take.false))
