use Rattle.std.proofs.Common.{◌≡◌, ℕ, List, length, sym, ap, subst, ◌∙◌, arith}
use Rattle.std.specs.Prelude.{map}
use Rattle.std.proofs.lemmas.List.{length-map}
use Rattle.ca_text.specs.Place.{At}
use Rattle.ca_text.proofs.Places.{At-map, At-one}
use Rattle.ca_model.specs.Client.{Client}
use Rattle.ca_model.specs.World as model
use Rattle.ca_world_data.specs.declared.joined.Joined.{Joined}
use Rattle.ca_world_data.specs.Does.{MayHear}
use Rattle.ca_world_data.specs.Logs.{lines_in}
use Rattle.ca_world_data.specs.Seen.{client_of, joined_of}
use Rattle.ca_world_data.proofs.Worlds.{found, one-at}
use Rattle.ca_world.proofs.Rests.{lacked-on, rests-on}
use Rattle.ca_world.proofs.client_step.step_or_rest.Goals as goal

pub index-requires : goal.index-requires
index-requires c =
    let ks : List Joined = c.args.circuits.now.items in
    let next : List Joined = c.step_client.new.circuits.items in
    let k : ℕ = c.args.circuit in
    let one = one-at ks k c.requires.there in
    let l = lacked-on c.args.client k (client_of c.args.side.now) (client_of c.step_client.new.side) (lines_in c.args.logs.now.items) (lines_in c.step_client.new.logs.items) (map joined_of ks) (map joined_of next) (joined_of one.0) c.in-Err.refusal (At-map joined_of ks k one.0 one.1) c.in-Err.ensures.steps in
    let long : length next ≡ length ks = sym (length-map next joined_of) ∙ ap (λ (js : List model.Joined). length js) l.2 ∙ length-map ks joined_of in
    omega (arith, c.requires.there, long)

pub returns-then-may_hear-clause-steps : goal.returns-then-may_hear-clause-steps
returns-then-may_hear-clause-steps c =
    let ks : List Joined = c.args.circuits.now.items in
    let next : List Joined = c.step_client.new.circuits.items in
    let k : ℕ = c.args.circuit in
    let one = one-at ks k c.requires.there in
    let l = lacked-on c.args.client k (client_of c.args.side.now) (client_of c.step_client.new.side) (lines_in c.args.logs.now.items) (lines_in c.step_client.new.logs.items) (map joined_of ks) (map joined_of next) (joined_of one.0) c.in-Err.refusal (At-map joined_of ks k one.0 one.1) c.in-Err.ensures.steps in
    let long : length next ≡ length ks = sym (length-map next joined_of) ∙ ap (λ (js : List model.Joined). length js) l.2 ∙ length-map ks joined_of in
    let x : Joined = c.index.result.now in
    let at : At next k x = found next k x x (omega (arith, c.requires.there, long)) c.index.ensures in
    let there : At (map joined_of ks) k (joined_of x) = subst (λ (js : List model.Joined). At js k (joined_of x)) l.2 (At-map joined_of next k x at) in
    let core : Client = c.args.side.now.core in (
      c.in-Err.ensures.steps,
      λ j here.
          subst (λ (z : model.Joined). MayHear core z) (At-one (map joined_of ks) k (joined_of x) j there here) (c.may_hear.ensures.hears core (c.requires.comes (joined_of x) there) c.if-may_hear.true),
    )

pub returns-else-may_hear-clause-steps : goal.returns-else-may_hear-clause-steps
returns-else-may_hear-clause-steps c =
    let ks : List Joined = c.args.circuits.now.items in
    let next : List Joined = c.step_client.new.circuits.items in
    let k : ℕ = c.args.circuit in
    let one = one-at ks k c.requires.there in
    let l = lacked-on c.args.client k (client_of c.args.side.now) (client_of c.step_client.new.side) (lines_in c.args.logs.now.items) (lines_in c.step_client.new.logs.items) (map joined_of ks) (map joined_of next) (joined_of one.0) c.in-Err.refusal (At-map joined_of ks k one.0 one.1) c.in-Err.ensures.steps in
    let long : length next ≡ length ks = sym (length-map next joined_of) ∙ ap (λ (js : List model.Joined). length js) l.2 ∙ length-map ks joined_of in
    let x : Joined = c.index.result.now in
    let at : At next k x = found next k x x (omega (arith, c.requires.there, long)) c.index.ensures in
    let there : At (map joined_of ks) k (joined_of x) = subst (λ (js : List model.Joined). At js k (joined_of x)) l.2 (At-map joined_of next k x at) in
    rests-on c.args.client k (client_of c.args.side.now) (client_of c.step_client.new.side) (lines_in c.args.logs.now.items) (lines_in c.step_client.new.logs.items) (map joined_of ks) (map joined_of next) (joined_of x) l.0 l.1 l.2 there
    (c.may_hear.ensures.rests c.args.side.now.core (c.requires.comes (joined_of x) there) c.if-may_hear.false)
